-- Names and their namespaces, by their texts. AVM2 Overview, 4.4.
use Rattle.std.specs.List.{list_any}
use Rattle.std.specs.Prelude.{Bool, List, None, Option, Some, [], codes, false, true, ℕ, ◌&&◌, ◌==◌, ◌∷◌}
use Rattle.std.specs.Str.{bytes_eq}
use Rattle.abc_format.specs.Kinds.{namespace_kind_byte}
use Rattle.abc_format.specs.declared.records.NamespaceKind.{NamespaceKind}
use Rattle.abc_format.specs.declared.records.NamespaceKind.TheVariants as namespace_kind
use Rattle.avm2_program.specs.declared.names.Name.{Name}
use Rattle.avm2_program.specs.declared.names.OwnName.{OwnName}
use Rattle.avm2_program.specs.declared.names.Space.{Space}
use Rattle.avm2_program.specs.declared.names.Space.TheVariants.{Absent, OfKind, Private}

-- the kind as which a kind counts
abbrev pub told_as : NamespaceKind → NamespaceKind
told_as namespace_kind.Namespace = namespace_kind.PackageNamespace
told_as kind = kind

abbrev pub same_kind : NamespaceKind → NamespaceKind → Bool
same_kind a b = namespace_kind_byte (told_as a) == namespace_kind_byte (told_as b)

abbrev pub same_space : Space → Space → Bool
same_space Absent Absent = true
same_space (Private a) (Private b) = a == b
same_space (OfKind a s) (OfKind b t) = same_kind a b && bytes_eq s t
same_space _ _ = false

-- the namespace of a package
abbrev pub package_space : List ℕ → Space
package_space text = OfKind namespace_kind.PackageNamespace text

abbrev pub public_space : Space
public_space = package_space []

-- the namespace of the runtime's calls and of hidden slots
abbrev pub runtime_space : Space
runtime_space = package_space (codes "flexc")

abbrev pub has_space : Space → Name → Bool
has_space space n = list_any (same_space space) n.spaces

-- a name is found at an own name with the same text, whose namespace is among its own
abbrev pub names : Name → OwnName → Bool
names n own = bytes_eq own.text n.text && has_space own.space n

-- what has no own name is never found
abbrev pub names_it : Name → Option OwnName → Bool
names_it n None = false
names_it n (Some own) = names n own

abbrev pub lies_in_space : Space → Option OwnName → Bool
lies_in_space space None = false
lies_in_space space (Some own) = same_space space own.space

-- a public name
abbrev pub public_name : List ℕ → Name
public_name text = record { text = text; spaces = public_space ∷ [] }

-- a name that is never found
abbrev pub nameless : Name
nameless = record { text = []; spaces = [] }
