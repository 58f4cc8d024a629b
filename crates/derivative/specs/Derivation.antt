-- The algebra of a step: how what is known of an expression comes from what is known of its parts.
use Rattle.std.specs.Prelude.{ℕ, Bool, true, false, ◌&&◌, ◌||◌, bit_and, bit_or}
use Rattle.models.specs.Folds.{Operations}
use Rattle.bits.specs.Sets.{has, singleton, guarded}
use Rattle.derivative.specs.declared.derive.Derived.{Derived}

-- From the atoms that may have been read last and the atoms that read the letter.
abbrev pub derivation : {Atom : Type 0} → ℕ → ℕ → Operations Atom Derived
derivation from readers = record {
  empty_word = record { nullable = true; ends = false; first = 0; next = 0 };
  single = λ n a. record { nullable = false; ends = has from n; first = bit_and (singleton n) readers; next = 0 };
  both = λ l r. record {
    nullable = l.nullable && r.nullable;
    ends = (l.ends && r.nullable) || r.ends;
    first = bit_or l.first (guarded l.nullable r.first);
    next = bit_or (bit_or l.next (guarded l.ends r.first)) r.next;
  };
  either = λ l r. record {
    nullable = l.nullable || r.nullable;
    ends = l.ends || r.ends;
    first = bit_or l.first r.first;
    next = bit_or l.next r.next;
  };
  any = λ i. record {
    nullable = true;
    ends = i.ends;
    first = i.first;
    next = bit_or i.next (guarded i.ends i.first);
  };
  some = λ i. record {
    nullable = i.nullable;
    ends = i.ends;
    first = i.first;
    next = bit_or i.next (guarded i.ends i.first);
  };
  maybe = λ i. record { nullable = true; ends = i.ends; first = i.first; next = i.next };
}

-- The atoms that may have read the letter, from a state: those that may read it first where 0 is in the
-- state, and those that may read it next.
abbrev pub after_state : ℕ → Derived → ℕ
after_state state d = bit_or (guarded (has state 0) d.first) d.next

-- Whether a word may end in a state.
abbrev pub ends_in : ℕ → Derived → Bool
ends_in state d = (has state 0 && d.nullable) || d.ends
