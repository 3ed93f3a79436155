-- How the code keeps the registrations of a node: the types of events stand in a list, and a registration has the number of its type.
use Rattle.std.specs.Bool.{beq}
use Rattle.std.specs.List.{filter, list_all, list_any}
use Rattle.std.specs.Prelude.{Bool, List, None, Option, Some, [], get_or, if◌then◌else◌, length, map, nat_lt, not, ℕ, ℤ, ◌&&◌, ◌++◌, ◌==◌, ◌∷◌}
use Rattle.std.specs.Str.{bytes_eq}
use Rattle.flex_base.specs.declared.value.ObjId.{ObjId}
use Rattle.flex_world.specs.Events.{registration}
use Rattle.flex_world.specs.Objects.{Registration}
use Rattle.lru.specs.LruCache.{LruCache}
use Rattle.event_flow.specs.declared.registrations.Key.{Key}

-- the types with one more, unless it stands there
abbrev pub with_kind : List ℕ → List (List ℕ) → List (List ℕ)
with_kind kind kinds = if list_any (bytes_eq kind) kinds then kinds else kinds ++ kind ∷ []

abbrev pub key_of : ℕ → ObjId × ℕ → Bool → Key
key_of kind l capture = record { kind = kind; object = l.0.0; method = l.1; capture = capture }

abbrev pub same_key : Key → Key → Bool
same_key k l = (k.kind == l.kind) && ((k.object == l.object) && ((k.method == l.method) && beq k.capture l.capture))

-- whether a pair of this key is among some
abbrev pub is_among : Key → List (Key × ℤ) → Bool
is_among k pairs = list_any (λ p. same_key k p.0) pairs

abbrev pub without : Key → List (Key × ℤ) → List (Key × ℤ)
without k pairs = filter (λ p. not (same_key k p.0)) pairs

-- whether one is there for events of the type of a number
abbrev pub has_kind : ℕ → List (Key × ℤ) → Bool
has_kind kind pairs = list_any (λ (p : Key × ℤ). kind == p.0.kind) pairs

-- a map that may not be there yet
abbrev pub pairs_in : {K V : Type 0} → Option (LruCache K V) → List (K × V)
pairs_in None = []
pairs_in (Some c) = c.entries

-- the type of a number
abbrev pub kind_at : List (List ℕ) → ℕ → List ℕ
kind_at kinds n = get_or kinds n []

-- what a pair stands for
abbrev pub registered : List (List ℕ) → Key × ℤ → Registration
registered kinds p = registration (kind_at kinds p.0.kind) (record { 0 = p.0.object }) p.0.method p.0.capture p.1

abbrev pub all_registered : List (List ℕ) → List (Key × ℤ) → List Registration
all_registered kinds pairs = map (registered kinds) pairs

-- each has the number of a type that is there
abbrev pub are_numbered : List (List ℕ) → List (Key × ℤ) → Bool
are_numbered kinds pairs = list_all (λ (p : Key × ℤ). nat_lt p.0.kind (length kinds)) pairs
