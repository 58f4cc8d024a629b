use Rattle.std.proofs.Common.{rules}
use Rattle.engine.proofs.Advancing.{told_from}
use Rattle.engine.proofs.words.match_word.Goals as goal

pub returns : goal.returns
returns g c =
    told_from (g.E.Engine.rest c.args.engine.now c.args.number) (g.E.Engine.language c.args.engine.now c.args.number) c.args.word.now c.open.result
    c.and_then.result c.is_some_and.result _ _ c.open.ensures.answer c.and_then.ensures (λ s p. search rules) c.is_some_and.ensures (λ t p. search rules)
