use Rattle.items.proofs.Running.{closing_stands, other_stands, none_stands}
use Rattle.items.proofs.runs.may_stand.Goals as goal

pub returns-in-Some-eq93 : goal.returns-in-Some-eq93
returns-in-Some-eq93 c = closing_stands c.args.text.now c.args.at _ c.closes_section.result c.in-Some-eq93.ensures c.in-Some-eq93.field-0-test c.closes_section.ensures

pub returns-in-Some : goal.returns-in-Some
returns-in-Some c = other_stands c.args.text.now c.args.at _ c.is_text_byte.result c.in-Some.ensures c.in-Some.byte-test.1 c.is_text_byte.ensures

pub returns-in-None : goal.returns-in-None
returns-in-None c = none_stands c.args.text.now c.args.at c.in-None.ensures
