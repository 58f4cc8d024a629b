-- Comments.
use Rattle.std.specs.Prelude.{◌≡◌, ℕ, ◌<◌, ◌≤◌, Bool, true, false, not, ◌&&◌, ◌≢◌, List, [], ◌∷◌, ◌++◌, length, drop, Option, MatchOption, codes, ◌==◌, nat_eq}
use Rattle.scan.specs.Bytes.{first_is, is_text_byte}
use Rattle.scan.specs.Readings.{Front, bad, got, word}

-- What a comment holds: bytes of text, and no `-` that another `-` or the end follows.
pub data Inside : List ℕ → Type 0 where
  none : {t : List ℕ} → t ≡ [] → Inside t
  plain : {t : List ℕ} (b : ℕ) (more : List ℕ) → t ≡ b ∷ more → b ≢ 45 → is_text_byte b ≡ true → Inside more → Inside t
  dash : {t : List ℕ} (b : ℕ) (more : List ℕ) → t ≡ 45 ∷ (b ∷ more) → b ≢ 45 → is_text_byte b ≡ true → Inside more → Inside t

-- A comment: `<!--`, what it holds, and `-->`.
abbrev pub ReadsComment : List ℕ → List ℕ → List ℕ → Type 0
ReadsComment text inside rest = (text ≡ codes "<!--" ++ (inside ++ (codes "-->" ++ rest))) × Inside inside

unfoldable pub held : ℕ → Front (List ℕ) → Front (List ℕ)
held b bad = bad
held b (got inside rest) = got (b ∷ inside) rest

unfoldable pub closed : Front (Unit {0}) → Front (List ℕ)
closed bad = bad
closed (got v rest) = got [] rest

-- The same from behind `<!--` on, worked out: bytes of text up to the next `--`, which `>` has to follow. Its value
-- is what stands between.
unfoldable pub comment_rest : List ℕ → Front (List ℕ)
comment_rest [] = bad
comment_rest (b ∷ t) =
    elim (b == 45 && first_is (nat_eq 45) t) [ true ↦ closed (word (codes "-->") (b ∷ t)) | false ↦ elim (is_text_byte b) [ true ↦ held b (comment_rest t) | false ↦ bad ] ]

-- Whether the text begins with two dashes.
abbrev pub two_dashes : List ℕ → Bool
two_dashes t = first_is (nat_eq 45) t && first_is (nat_eq 45) (drop 1 t)

-- Whether what a comment holds goes on with the first byte.
abbrev pub goes_on : List ℕ → Bool
goes_on t = first_is is_text_byte t && not (two_dashes t)

-- The first place from this one on where it does not go on, or none where it goes on up to the end of the text.
abbrev pub StopsAt : List ℕ → ℕ → Option ℕ → Type 0
StopsAt text at stop =
    MatchOption stop ((k : ℕ) → at ≤ k → k < length text → goes_on (drop k text) ≡ true)
    (λ i. (at ≤ i) × (i < length text) × (goes_on (drop i text) ≡ false) × ((k : ℕ) → at ≤ k → k < i → goes_on (drop k text) ≡ true))

unfoldable pub behind_opening : Front (Unit {0}) → Front (List ℕ)
behind_opening bad = bad
behind_opening (got v rest) = comment_rest rest

-- A comment at the front of a text, worked out.
abbrev pub read_comment : List ℕ → Front (List ℕ)
read_comment t = behind_opening (word (codes "<!--") t)
