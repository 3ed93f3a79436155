-- What the code of a program has beside the program: names, and numbers of methods.
use Rattle.std.specs.List.{filter}
use Rattle.std.specs.Prelude.{Bool, List, None, Option, Some, [], length, map, nat_lt, suc, zero, ℕ, ◌++◌, ◌∷◌}
use Rattle.flex_world.specs.declared.kind.Class.{Class}
use Rattle.flex_program.specs.Program.{Binding, Chain, Text}
use Rattle.avm2_program.specs.Names.{public_space, runtime_space}
use Rattle.avm2_program.specs.declared.names.Name.{Name}
use Rattle.avm2_program.specs.declared.names.Space.TheVariants.{OfKind}
use Rattle.avm2_program.specs.declared.names.Space.{Space}
use Rattle.abc_format.specs.declared.records.NamespaceKind.TheVariants as namespace_kind

-- the namespace of members that aren't public
abbrev pub inner_space : Space
inner_space = OfKind namespace_kind.PackageInternalNs []

-- the name by which code reaches a member: no two members of an object have one text, so both namespaces may stand in it
abbrev pub member_name : Text → Name
member_name text = record { text = text; spaces = public_space ∷ inner_space ∷ [] }

-- a name in the namespace of the runtime
abbrev pub hidden_name : Text → Name
hidden_name text = record { text = text; spaces = runtime_space ∷ [] }

-- of a class by its number, and of the instances, bindings and states of its document by theirs
pub record Labels : Type 0 where
  -- by which code finds a class
  pub class_name : Class → Name
  -- by which an object has a method of the file that is no member of the program, by the method's number
  pub method_name : ℕ → Name
  -- the methods behind activities: the building of a document, and of an instance that carries includeIn or excludeFrom
  pub building_of : (class : ℕ) → ℕ
  pub instance_building_of : (class instance : ℕ) → ℕ
  pub binding_run_of : (class binding : ℕ) → ℕ
  pub leave_of : (class state : ℕ) → ℕ
  pub enter_of : (class state : ℕ) → ℕ
  -- the hidden slots of a document: of an instance, and of an override of a state the object that it was applied to and the value that it found
  pub instance_key : (instance : ℕ) → Text
  pub object_key : (state override : ℕ) → Text
  pub value_key : (state override : ℕ) → Text

-- the hidden slot of an instance where a chain starts; the document itself, the instance 0, has none
abbrev pub start_keys : Labels → Option ℕ → List Text
start_keys l None = []
start_keys l (Some zero) = []
start_keys l (Some (suc n)) = l.instance_key (suc n) ∷ []

-- the names of a chain that is watched: the instance where it starts comes first
abbrev pub chain_keys : Labels → Chain → List Text
chain_keys l chain = start_keys l chain.start ++ chain.names

abbrev pub has_names : Chain → Bool
has_names chain = nat_lt 0 (length chain.names)

-- the chains by which a binding is registered: one without names watches nothing
abbrev pub registered_chains : Labels → Binding → List (List Text)
registered_chains l b = map (chain_keys l) (filter has_names b.chains)
