-- Which bindings a change of a property affects.
use Rattle.std.specs.List.{list_any}
use Rattle.std.specs.Prelude.{Bool, List, None, Option, Some, [], if◌then◌else◌, option_and_then, suc, ℕ, ◌&&◌, ◌++◌, ◌∷◌}
use Rattle.flex_base.specs.declared.value.ObjId.{ObjId}
use Rattle.flex_world.specs.Objects.{Object, Watcher, field_named, following, is_number_among, object_at, object_in_slot, watcher}
use Rattle.flex_world.specs.Watching.{reaches}
use Rattle.flex_program.specs.Classes.{document_in}
use Rattle.flex_program.specs.Program.{Binding, Document, Program}
use Rattle.flex_meaning.specs.World.{Built, built_object}

abbrev pub object_in : List ℕ → Option Object → Option ObjId
object_in name o = option_and_then object_in_slot (option_and_then (λ c. field_named name c.fields) o)

-- the object in the slot of this name
abbrev pub held_in : List Object → ObjId → List ℕ → Option ObjId
held_in objects o name = object_in name (object_at objects o)

-- where the chain of a binding starts; an instance is reached only where it is built
abbrev pub chain_start : List Built → ObjId → Option ℕ → Option ObjId
chain_start built document None = Some document
chain_start built document (Some instance) = built_object built document instance

abbrev pub watches : List Object → List Built → ObjId → ObjId → List ℕ → Binding → Bool
watches objects built document o name b = list_any (λ chain. reaches (held_in objects) o name chain.names (chain_start built document chain.start)) b.chains

-- among the bindings of a document from a number on, those that are enabled and watch the property
abbrev pub watchers_in : List Object → List Built → ObjId → ObjId → List ℕ → List ℕ → ℕ → List Binding → List Watcher
watchers_in objects built o document name enabled number [] = []
watchers_in objects built o document name enabled number (b ∷ bindings) =
    (if is_number_among number enabled && watches objects built document o name b then watcher document number ∷ [] else []) ++ watchers_in objects built o document name enabled (suc number) bindings

abbrev pub watchers_of : List Object → List Built → ObjId → List ℕ → ObjId → List ℕ → Option Document → List Watcher
watchers_of objects built o name document enabled None = []
watchers_of objects built o name document enabled (Some d) = watchers_in objects built o document name enabled 0 d.bindings

-- document by document, of the objects from a number on
abbrev pub affected_from : Program → List Object → List Built → ObjId → List ℕ → ObjId → List Object → List Watcher
affected_from p objects built o name document [] = []
affected_from p objects built o name document (d ∷ others) =
    watchers_of objects built o name document d.keeping.enabled (document_in p d) ++ affected_from p objects built o name (following document) others

-- the bindings that a change of a property of an object affects, by the numbers of their documents and then by their own
abbrev pub affected : Program → List Object → List Built → ObjId → List ℕ → List Watcher
affected p objects built o name = affected_from p objects built o name (record { 0 = 1 }) objects
