-- The marks of a stack.
use Rattle.std.specs.Prelude.{ℕ, suc, true, false, List, [], ◌∷◌, ltb}

-- how many bytes are marks
abbrev pub marks : List ℕ → ℕ
marks [] = 0
marks (b ∷ bs) = elim (ltb b 255) [ true ↦ marks bs | false ↦ suc (marks bs) ]
