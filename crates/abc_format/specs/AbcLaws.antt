-- Which bytes are an ABC and of which records, and what holds of reading them.
use Rattle.std.specs.Prelude.{◌≡◌, ◌⊎◌, List, ℕ, None, Some, Ok}
use Rattle.abc_format.specs.Grammar.{IsAbc}
use Rattle.abc_format.specs.Indexes.{AreBytes, HasIndexes}
use Rattle.abc_format.specs.Fields.{Fault}
use Rattle.abc_format.specs.Reading.{read_abc, abc_fault}
use Rattle.abc_format.specs.declared.records.Abc.{Abc}

-- the bytes spell the records, and each number in them names an entry that is there
pub record StandsFor (a : Abc) (bytes : List ℕ) : Type 0 where
  pub spelled : IsAbc a bytes
  pub indexes : HasIndexes a

-- the bytes are an ABC
pub record IsSome (bytes : List ℕ) : Type 0 where
  pub abc : Abc
  pub is : StandsFor abc bytes

-- all bytes are read as what they stand for, in any spelling
abbrev pub AbcIsRead : Type 0
AbcIsRead = (a : Abc) (bytes : List ℕ) → StandsFor a bytes → read_abc bytes ≡ Ok a

-- what bytes are read as, they stand for
abbrev pub ReadIsAbc : Type 0
ReadIsAbc = (a : Abc) (bytes : List ℕ) → AreBytes bytes → read_abc bytes ≡ Ok a → StandsFor a bytes

-- all bytes either are an ABC or have a first fault, and not both
abbrev pub AbcOrFault : Type 0
AbcOrFault =
    (bytes : List ℕ) → AreBytes bytes
    → (IsSome bytes × (abc_fault bytes ≡ None)) ⊎ ((IsSome bytes → ⊥) × ((fault : Fault) × (abc_fault bytes ≡ Some fault)))

-- bytes stand for one record
abbrev pub OneAbc : Type 0
OneAbc = (a b : Abc) (bytes : List ℕ) → StandsFor a bytes → StandsFor b bytes → a ≡ b
