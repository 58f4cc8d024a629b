-- The leading bytes that pass a test: all of them are taken, and what is left begins with none.
use Rattle.std.proofs.Common.{◌≡◌, ℕ, suc, ◌+◌, Bool, true, false, cond, ◌&&◌, List, [], ◌∷◌, ◌++◌, length, take, drop, refl, ap, ◌∙◌, arith}
use Rattle.std.specs.List.{prefix_len}
use Rattle.std.proofs.lemmas.Bool.{and_parts, and_from, cond-true, cond-false}
use Rattle.scan.specs.Bytes.{first_is}

one_more : (n : ℕ) → 1 + n ≡ suc n
one_more n = omega arith

pub leading_dropped : (test : ℕ → Bool) (t : List ℕ) → first_is test (drop (prefix_len test t) t) ≡ false
leading_dropped test [] = refl
leading_dropped test (b ∷ t) = go (test b) refl (leading_dropped test t)
  where
    go : (x : Bool) → test b ≡ x → first_is test (drop (prefix_len test t) t) ≡ false → first_is test (drop (cond x (1 + prefix_len test t) 0) (b ∷ t)) ≡ false
    go true e h = rw (one_more (prefix_len test t)) h
    go false e h = e

pub leading_first : (test other : ℕ → Bool) (t : List ℕ) → ((b : ℕ) → other b ≡ true → test b ≡ true) → first_is other t ≡ true → first_is other (take (prefix_len test t) t) ≡ true
leading_first test other [] also e = e
leading_first test other (b ∷ t) also e = rw (cond-true (test b) (1 + prefix_len test t) 0 (also b e), one_more (prefix_len test t)) e

-- Where `all` says of a list whether every byte passes the test.
module _ (test : ℕ → Bool) (all : List ℕ → Bool) (empty : all [] ≡ true) (each : (b : ℕ) (t : List ℕ) → all (b ∷ t) ≡ (test b && all t)) where
  pub leading_taken : (t : List ℕ) → all (take (prefix_len test t) t) ≡ true
  leading_taken [] = empty
  leading_taken (b ∷ t) = go (test b) refl (leading_taken t)
    where
      go : (x : Bool) → test b ≡ x → all (take (prefix_len test t) t) ≡ true → all (take (cond x (1 + prefix_len test t) 0) (b ∷ t)) ≡ true
      go true e h =
          rw (one_more (prefix_len test t)) (each b (take (prefix_len test t) t) ∙ and_from (test b) (all (take (prefix_len test t) t)) e h)
      go false e h = empty

  pub leading_all : (front rest : List ℕ) → all front ≡ true → first_is test rest ≡ false → prefix_len test (front ++ rest) ≡ length front
  leading_all [] [] h k = refl
  leading_all [] (b ∷ t) h k = cond-false (test b) (1 + prefix_len test t) 0 k
  leading_all (b ∷ front) rest h k =
      let p = and_parts (test b) (all front) (rw (each b front) at h) in
      cond-true (test b) (1 + prefix_len test (front ++ rest)) 0 p.0 ∙ (one_more _ ∙ ap suc (leading_all front rest p.1 k))
