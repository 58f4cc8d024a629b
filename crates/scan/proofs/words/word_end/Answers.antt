use Rattle.std.proofs.Common.{ap, subst, eqb, ◌∙◌, ◌≡◌, ◌≤◌, IsTrue, length, drop, rules}
use Rattle.std.specs.List.{starts_with}
use Rattle.scan.proofs.Wording.{word_answered}
use Rattle.scan.proofs.words.word_end.Goals as goal

pub returns-clause-answer : goal.returns-clause-answer
returns-clause-answer c =
    let starts : c.starts_with.result ≡ starts_with eqb (drop c.args.at c.args.text.now) c.args.word.now = c.starts_with.ensures.value ∙ ap (λ t. starts_with eqb t c.args.word.now) c.rest.ensures in
    let short : IsTrue c.starts_with.result → length c.args.word.now ≤ length (drop c.args.at c.args.text.now) = λ h. subst (λ t. length c.args.word.now ≤ length t) c.rest.ensures (c.starts_with.ensures.bound h) in
    word_answered c.args.text.now c.args.at c.args.word.now c.starts_with.result c.then.result starts short c.then.ensures.variant (search rules)
