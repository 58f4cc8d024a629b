-- Bytes in base ten: the reading that is worked out says what the relation says, and leaves a shorter text.
use Rattle.std.proofs.Common.{◌≡◌, ℕ, ◌<◌, true, ◌&&◌, leb, List, ◌++◌, length, take, drop, sym, refl, ap, ◌∙◌, subst, ap₂, subst₂, arith}
use Rattle.std.specs.List.{prefix_len}
use Rattle.std.proofs.lemmas.List.{take-append-drop, length-append, take_at, drop_at}
use Rattle.std.proofs.lemmas.Bool.{leb-true, le-leb, lt-ltb, and_parts, and_from}
use Rattle.scan.specs.Readings.{bad, got, Agree}
use Rattle.scan.proofs.Agreements.{bad_got, got_value, got_rest, chosen, chosen_true}
use Rattle.scan.proofs.Leading.{leading_taken, leading_dropped, leading_all}
use Rattle.forms.specs.Numbers.{is_digit, value_of, all_digits, no_leading_zero, ReadsByte, is_small, small_enough, is_byte_of, read_byte}

byte_front : (t : List ℕ) → is_byte_of (take (prefix_len is_digit t) t) ≡ true → ReadsByte t (value_of (take (prefix_len is_digit t) t)) (drop (prefix_len is_digit t) t)
byte_front t test =
    let ds = take (prefix_len is_digit t) t in
    let p = and_parts (leb 1 (length ds)) (no_leading_zero ds && is_small (value_of ds)) test in
    let q = and_parts (no_leading_zero ds) (is_small (value_of ds)) p.1 in
    record {
      digits = ds;
      whole = sym (take-append-drop (prefix_len is_digit t) t);
      form = leading_taken is_digit all_digits refl (λ b u. refl) t;
      some = leb-true 1 (length ds) p.0;
      plain = q.0;
      value = refl;
      small = small_enough (value_of ds) q.1;
      longest = leading_dropped is_digit t;
    }

byte_sound : (t : List ℕ) (n : ℕ) (rest : List ℕ) → read_byte t ≡ got n rest → ReadsByte t n rest
byte_sound t n rest e =
    chosen (is_byte_of (take (prefix_len is_digit t) t)) e
    (λ test h. subst₂ (ReadsByte t) (got_value h) (got_rest h) (byte_front t test))
    (λ test h. absurd (bad_got h))

byte_test : (t : List ℕ) (n : ℕ) (rest : List ℕ) (h : ReadsByte t n rest) → is_byte_of h.digits ≡ true
byte_test t n rest h =
    let ds = h.digits in
    and_from (leb 1 (length ds)) (no_leading_zero ds && is_small (value_of ds)) (le-leb 1 (length ds) h.some)
    (and_from (no_leading_zero ds) (is_small (value_of ds)) h.plain (lt-ltb (value_of ds) 256 (subst (λ y. y < 256) (sym h.value) h.small)))

digits_there : (ds rest : List ℕ) → prefix_len is_digit (ds ++ rest) ≡ length ds → is_byte_of ds ≡ true → read_byte (ds ++ rest) ≡ got (value_of ds) rest
digits_there ds rest is test =
    let n = prefix_len is_digit (ds ++ rest) in
    let taken : take n (ds ++ rest) ≡ ds = take_at ds rest n (sym is) in
    chosen_true (is_byte_of (take n (ds ++ rest))) (got (value_of (take n (ds ++ rest))) (drop n (ds ++ rest))) bad (subst (λ y. is_byte_of y ≡ true) (sym taken) test)
    ∙ ap₂ (λ y r. got (value_of y) r) taken (drop_at ds rest n (sym is))

byte_complete : (t : List ℕ) (n : ℕ) (rest : List ℕ) → ReadsByte t n rest → read_byte t ≡ got n rest
byte_complete t n rest h =
    ap read_byte h.whole
    ∙ (digits_there h.digits rest (leading_all is_digit all_digits refl (λ b u. refl) h.digits rest h.form h.longest) (byte_test t n rest h)
    ∙ ap (λ y. got y rest) h.value)

pub byte_agrees : Agree read_byte ReadsByte
byte_agrees = record { sound = byte_sound; complete = byte_complete }

pub byte_shortens : (t : List ℕ) (n : ℕ) (rest : List ℕ) → ReadsByte t n rest → length rest < length t
byte_shortens t n rest h = omega (arith, h.some, ap length h.whole, length-append h.digits rest)
