-- Names that are split at dots, byte by byte.
use Rattle.std.specs.Prelude.{◌≡◌, ℕ, List, [], ◌∷◌, ◌++◌}
use Rattle.source_sites.specs.Texts.{Text, split}

-- a name that is begun already, and the names behind it
abbrev pub begun : Text → List Text → List Text
begun name [] = name ∷ []
begun name (first ∷ others) = (name ++ first) ∷ others

-- behind a byte, these are the names so far, and this one is begun
abbrev pub Splits : List Text → List Text → Text → ℕ → Text → Type 0
Splits before behind name byte next = (rest : Text) → behind ++ begun next (split 46 rest) ≡ before ++ begun name (split 46 (byte ∷ rest))
