-- How the code reads the letters of a text.
use Rattle.std.specs.Prelude.{◌≡◌, ℕ, List, ◌∷◌, ◌++◌}
use Rattle.source_sites.specs.Literals as literals
use Rattle.source_sites.specs.Literals.{letters_text}
use Rattle.source_sites.specs.Texts.{Text}
use Rattle.member_checks.specs.declared.stands.Stand.{Stand}
use Rattle.member_checks.specs.declared.stands.Stand.TheVariants as stand

abbrev pub stand_of : Stand → literals.Stand
stand_of stand.Itself = literals.Stand.Itself
stand_of stand.BehindBackslash = literals.Stand.Behind_backslash
stand_of (stand.Digit d) = literals.Stand.Digit d.others d.number

-- behind a byte that stands so, this is the text so far, and there the next one stands
abbrev pub Reads : Text → Text → Stand → ℕ → Stand → Type 0
Reads before behind stand byte next = (rest : List ℕ) → behind ++ letters_text (stand_of next) rest ≡ before ++ letters_text (stand_of stand) (byte ∷ rest)
