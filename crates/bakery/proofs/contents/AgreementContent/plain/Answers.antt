use Rattle.bakery.proofs.ContentLaws.{plain_told, contents_law}
use Rattle.bakery.proofs.contents.AgreementContent.plain.Goals as goal

pub returns : goal.returns
returns c = record { answer = plain_told c.args.number; law = contents_law }
