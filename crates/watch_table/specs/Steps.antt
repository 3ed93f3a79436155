-- Counted steps.
use Rattle.std.specs.Prelude.{min, ℕ, ◌+◌}

-- one step more; at the end of its type the count stands still
abbrev pub raised : ℕ → ℕ
raised n = min (n + 1) 18446744073709551615
