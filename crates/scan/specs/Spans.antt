-- Stretches of a text.
use Rattle.std.specs.Prelude.{ℕ, ◌-◌, List, take, drop}
use Rattle.scan.specs.declared.span.Span.{Span}

-- The bytes of the text from the span's start up to its end.
abbrev pub bytes_at : List ℕ → Span → List ℕ
bytes_at text span = take (span.end - span.start) (drop span.start text)
