-- What an answer about an end says of the reading.
use Rattle.std.proofs.Common.{◌≡◌, ℕ, ◌+◌, ◌-◌, ◌≤◌, List, length, drop, Some, None, sym, refl, ap, ◌∙◌, arith, length-append, length-drop}
use Rattle.scan.specs.Readings.{Front, bad, got, word, Stands, EndOf}
use Rattle.scan.proofs.Agreements.{word_sound}

pub end_got : {A : Type 0} (text : List ℕ) (at : ℕ) (front : Front A) (end : ℕ) → EndOf text at front (Some end) → (v : A) × (rest : List ℕ) × (front ≡ got v rest) × Stands text at rest end
end_got text at bad end h = absurd h
end_got text at (got v rest) end h = (v, rest, refl, h)

pub end_bad : {A : Type 0} (text : List ℕ) (at : ℕ) (front : Front A) → EndOf text at front None → front ≡ bad
end_bad text at bad h = refl
end_bad text at (got v rest) h = absurd h

-- A word that was read takes its bytes.
pub record Worded (w text : List ℕ) (at end : ℕ) : Type 0 where
  pub reads : word w (drop at text) ≡ got tt (drop end text)
  pub place : at + length w ≡ end
  pub inside : end ≤ length text

pub worded : (w text : List ℕ) (at end : ℕ) → EndOf text at (word w (drop at text)) (Some end) → Worded w text at end
worded w text at end h =
    let g = end_got text at (word w (drop at text)) end h in
    let rest = g.1 in
    let stands = g.3 in
    let long = ap length (word_sound w (drop at text) g.0 rest g.2) ∙ length-append w rest in
    let a = length-drop at text in
    let b : length rest ≡ length text - end = ap length (sym stands.behind) ∙ length-drop end text in
    record {
      reads = g.2 ∙ ap (got tt) (sym stands.behind);
      place = omega (arith, stands.forward, stands.inside);
      inside = stands.inside;
    }
