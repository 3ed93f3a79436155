-- What holds of the classes of a fine program.
use Rattle.std.specs.Prelude.{List, Some, true, ℕ, ◌≡◌}
use Rattle.flex_world.specs.Classes.{descends}
use Rattle.flex_world.specs.declared.kind.Class.{Class}
use Rattle.flex_world.specs.Objects.{Field, field_named}
use Rattle.flex_program.specs.Classes.{Callee, bases, callee, fields_of}
use Rattle.flex_program.specs.Fine.{callee_accepts, callee_gives, callee_types, is_fine}
use Rattle.flex_program.specs.Program.{Program}

-- ancestors of ancestors are ancestors
abbrev pub AncestorsGoOn : Type 0
AncestorsGoOn =
    (p : Program) → is_fine p ≡ true → (class a b : Class) → descends (bases p) class a ≡ true → descends (bases p) a b ≡ true → descends (bases p) class b ≡ true

-- objects have the fields of each ancestor of their class, of the same types
abbrev pub FieldsAreKept : Type 0
FieldsAreKept =
    (p : Program) → is_fine p ≡ true → (class a : Class) → descends (bases p) class a ≡ true
    → (name : List ℕ) (f : Field) → field_named name (fields_of p a) ≡ Some f → field_named name (fields_of p class) ≡ Some f

-- two methods that may be called alike, and give values of one type
pub record TakesAlike (p : Program) (x y : Callee) : Type 0 where
  pub counts : (n : ℕ) → callee_accepts p x n ≡ callee_accepts p y n
  pub types : callee_types p x ≡ callee_types p y
  pub result : callee_gives p x ≡ callee_gives p y

-- a name that stands for a method in an ancestor stands for one that takes and gives the same
abbrev pub MethodsAreKept : Type 0
MethodsAreKept =
    (p : Program) → is_fine p ≡ true → (class a : Class) → descends (bases p) class a ≡ true
    → (name : List ℕ) (y : Callee) → callee p a name ≡ Some y → (x : Callee) × (callee p class name ≡ Some x) × TakesAlike p x y
