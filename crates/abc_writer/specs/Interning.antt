-- The entries that emitted code interns in the pool, in the order in which they were first seen, each once.
use Rattle.std.specs.Prelude.{◌≡◌, ℕ, ◌+◌, ◌&&◌, Bool, List, [], ◌∷◌, ◌++◌, length, max, if◌then◌else◌, nat_eq, map, ℤ}
use Rattle.std.specs.List.{list_any, position_or_len}
use Rattle.std.specs.Cmp.Lexicographic.{pointwise}
use Rattle.std.specs.Ordering.{int_eq}
use Rattle.abc_format.specs.declared.records.ConstantPool.{ConstantPool}
use Rattle.abc_format.specs.declared.records.Namespace.{Namespace}
use Rattle.abc_format.specs.declared.records.Multiname.{Multiname}
use Rattle.abc_format.specs.declared.records.NamespaceKind.TheVariants as namespace_kind
use Rattle.abc_format.specs.declared.records.Multiname.TheVariants as multiname

-- the ints, the texts, the texts of the namespaces by their numbers, and the names by the numbers of their namespaces and texts
pub record Entries : Type 0 where
  pub integers : List ℤ
  pub strings : List (List ℕ)
  pub spaces : List ℕ
  pub names : List (ℕ × ℕ)

abbrev pub no_entries : Entries
no_entries = record { integers = []; strings = []; spaces = []; names = [] }

-- the entries with this one, which stays where it is if it is there
abbrev pub interned : {A : Type 0} → (A → A → Bool) → List A → A → List A
interned eq old x = if list_any (eq x) old then old else old ++ x ∷ []

-- a table with this text
abbrev pub Interns : List (List ℕ) → List (List ℕ) → List ℕ → Type 0
Interns old new text = new ≡ interned (pointwise nat_eq) old text

-- the number of an entry, which counts from 1
abbrev pub number_in : {A : Type 0} → (A → A → Bool) → List A → A → ℕ
number_in eq entries x = position_or_len (eq x) entries + 1

abbrev pub text_eq : List ℕ → List ℕ → Bool
text_eq a b = pointwise nat_eq a b

abbrev pub pair_eq : ℕ × ℕ → ℕ × ℕ → Bool
pair_eq a b = nat_eq a.0 b.0 && nat_eq a.1 b.1

abbrev pub with_text : Entries → List ℕ → Entries
with_text e text = record e { strings = interned text_eq e.strings text }

abbrev pub with_int : Entries → ℤ → Entries
with_int e z = record e { integers = interned int_eq e.integers z }

abbrev pub with_space : Entries → ℕ → Entries
with_space e text = record e { spaces = interned nat_eq e.spaces text }

abbrev pub with_pair : Entries → ℕ × ℕ → Entries
with_pair e pair = record e { names = interned pair_eq e.names pair }

abbrev pub text_number : Entries → List ℕ → ℕ
text_number e text = number_in text_eq e.strings text

abbrev pub int_number : Entries → ℤ → ℕ
int_number e z = number_in int_eq e.integers z

abbrev pub space_number : Entries → ℕ → ℕ
space_number e text = number_in nat_eq e.spaces text

abbrev pub pair_number : Entries → ℕ × ℕ → ℕ
pair_number e pair = number_in pair_eq e.names pair

-- the text of a namespace and the namespace, and then the text of the name
abbrev pub with_texts : Entries → List ℕ → List ℕ → Entries
with_texts e space local = with_text (with_space (with_text e space) (text_number e space)) local

-- the numbers of a name's parts
abbrev pub name_pair : Entries → List ℕ → List ℕ → ℕ × ℕ
name_pair e space local = (
  space_number (with_text e space) (text_number e space),
  text_number (with_space (with_text e space) (text_number e space)) local,
)

abbrev pub with_name : Entries → List ℕ → List ℕ → Entries
with_name e space local = with_pair (with_texts e space local) (name_pair e space local)

abbrev pub name_number : Entries → List ℕ → List ℕ → ℕ
name_number e space local = pair_number (with_texts e space local) (name_pair e space local)

-- the largest number of entries of one table
abbrev pub count : Entries → ℕ
count e = max (max (length e.integers) (length e.strings)) (max (length e.spaces) (length e.names))

-- a table with further entries behind
pub record Longer {A : Type 0} (old new : List A) : Type 0 where
  pub more : List A
  pub is : new ≡ old ++ more

-- entries with further ones: the old ones keep their numbers
pub record Extends (old new : Entries) : Type 0 where
  pub integers : Longer old.integers new.integers
  pub strings : Longer old.strings new.strings
  pub spaces : Longer old.spaces new.spaces
  pub names : Longer old.names new.names

abbrev pub namespace_named : ℕ → Namespace
namespace_named text = record { kind = namespace_kind.Namespace; name = text }

abbrev pub qualified_name : ℕ × ℕ → Multiname
qualified_name pair = multiname.QName pair.0 pair.1

-- the constant pool of the entries
abbrev pub pool_of : Entries → ConstantPool
pool_of e = record {
  integers = e.integers;
  unsigned_integers = [];
  doubles = [];
  strings = e.strings;
  namespaces = map namespace_named e.spaces;
  namespace_sets = [];
  multinames = map qualified_name e.names;
}
