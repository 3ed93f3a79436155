-- Which bindings a change of a property affects, by the chains that are watched.
use Rattle.std.specs.List.{filter, fold}
use Rattle.std.specs.Prelude.{Bool, Err, List, None, Ok, Option, Result, Some, [], false, if◌then◌else◌, length, map, nat_lt, not, sum_by, ℕ, ⊤, ◌&&◌, ◌++◌, ◌+◌, ◌==◌, ◌||◌, ◌∷◌, ◌≡◌}
use Rattle.flex_base.specs.Value.{is_object}
use Rattle.flex_base.specs.declared.memory.NoMemory.{NoMemory}
use Rattle.flex_base.specs.declared.value.ObjId.{ObjId}
use Rattle.flex_world.specs.Watching.{reaches}
use Rattle.watch_table.specs.declared.watch.Watched.{Watched}

abbrev pub with_chain : ObjId → ℕ → List (List ℕ) → List Watched → List Watched
with_chain document binding chain ws = ws ++ record { document = document; binding = binding; chain = chain } ∷ []

abbrev pub is_of : ObjId → ℕ → Watched → Bool
is_of document binding w = is_object w.document document && (w.binding == binding)

abbrev pub without_binding : ObjId → ℕ → List Watched → List Watched
without_binding document binding ws = filter (λ w. not (is_of document binding w)) ws

abbrev pub same : List Watched → List Watched
same ws = ws

-- the chains after a call that changes them so: it succeeds only where no memory was wanted before, and after want of memory there are none
abbrev pub Changes : (List Watched → List Watched) → Option (List Watched) → Result (Unit {0}) NoMemory → Option (List Watched) → Type 0
Changes f (Some ws) (Ok _) after = after ≡ Some (f ws)
Changes f None (Ok _) after = ⊥
Changes f before (Err _) after = after ≡ None

-- a document and the number of a binding before another such pair
abbrev pub is_before : ObjId × ℕ → ObjId × ℕ → Bool
is_before a b = nat_lt a.0.0 b.0.0 || (is_object a.0 b.0 && nat_lt a.1 b.1)

abbrev pub is_not_behind : ObjId × ℕ → Option (ObjId × ℕ) → Bool
is_not_behind p None = false
is_not_behind p (Some q) = not (is_before p q)

-- the pairs in order, with one more at its place unless it is there
abbrev pub with_pair : List (ObjId × ℕ) → ObjId × ℕ → List (ObjId × ℕ)
with_pair [] p = p ∷ []
with_pair (q ∷ qs) p = if is_before q p then q ∷ with_pair qs p else if is_before p q then p ∷ q ∷ qs else q ∷ qs

abbrev pub pair_of : Watched → ObjId × ℕ
pair_of w = (w.document, w.binding)

-- by which object a property of an object holds: a chain from its document reaches an object where a property is the next name
abbrev pub watches : (ObjId → List ℕ → Option ObjId) → ObjId → List ℕ → Watched → Bool
watches held o name w = reaches held o name w.chain (Some w.document)

-- the bindings that a change of a property of an object affects, by the numbers of their documents and then by their own, each once
abbrev pub affected : (ObjId → List ℕ → Option ObjId) → ObjId → List ℕ → List Watched → List (ObjId × ℕ)
affected held o name ws = fold with_pair [] (map pair_of (filter (watches held o name) ws))

-- these are answered, unless memory was wanted before
abbrev pub Affects : (ObjId → List ℕ → Option ObjId) → ObjId → List ℕ → Option (List Watched) → Result (List (ObjId × ℕ)) NoMemory → Type 0
Affects held o name (Some ws) (Ok pairs) = pairs ≡ affected held o name ws
Affects held o name None (Ok pairs) = ⊥
Affects held o name before (Err _) = ⊤

-- the chains, and all their names
abbrev pub lookups : Option (List Watched) → ℕ
lookups None = 0
lookups (Some ws) = sum_by (λ w. 1 + length w.chain) ws
