-- What holds of the entries of a pool.
use Rattle.std.specs.Prelude.{◌≡◌, ℕ, List, Some, ℤ}
use Rattle.flex_base.specs.Lists.{entry}
use Rattle.abc_writer.specs.Interning.{Entries, Extends, with_text, with_int, with_name, text_number, int_number, name_number}

-- the number of a text, an int, and a name, whose namespace is one of kind Namespace
abbrev pub NamesText : Entries → ℕ → List ℕ → Type 0
NamesText e n text = entry e.strings n ≡ Some text

abbrev pub NamesInt : Entries → ℕ → ℤ → Type 0
NamesInt e n z = entry e.integers n ≡ Some z

pub record NamesName (e : Entries) (n : ℕ) (space local : List ℕ) : Type 0 where
  pub namespace : ℕ
  pub space_text : ℕ
  pub local_text : ℕ
  pub name : entry e.names n ≡ Some (namespace, local_text)
  pub of_space : entry e.spaces namespace ≡ Some space_text
  pub space_is : NamesText e space_text space
  pub local_is : NamesText e local_text local

-- further entries stand behind those that were there
abbrev pub OnlyAppends : Type 0
OnlyAppends =
    ((e : Entries) (text : List ℕ) → Extends e (with_text e text)) × ((e : Entries) (z : ℤ) → Extends e (with_int e z))
    × ((e : Entries) (space local : List ℕ) → Extends e (with_name e space local))

-- a number that is given names what it was asked for
abbrev pub NumbersName : Type 0
NumbersName =
    ((e : Entries) (text : List ℕ) → NamesText (with_text e text) (text_number e text) text)
    × ((e : Entries) (z : ℤ) → NamesInt (with_int e z) (int_number e z) z)
    × ((e : Entries) (space local : List ℕ) → NamesName (with_name e space local) (name_number e space local) space local)

-- what a number names it names in all entries with further ones
abbrev pub NumbersStay : Type 0
NumbersStay =
    ((e f : Entries) (n : ℕ) (text : List ℕ) → Extends e f → NamesText e n text → NamesText f n text)
    × ((e f : Entries) (n : ℕ) (z : ℤ) → Extends e f → NamesInt e n z → NamesInt f n z)
    × ((e f : Entries) (n : ℕ) (space local : List ℕ) → Extends e f → NamesName e n space local → NamesName f n space local)
