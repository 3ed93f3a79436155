-- The instances of a document.
use Rattle.std.specs.List.{find}
use Rattle.std.specs.Prelude.{Bool, List, None, Option, Some, [], false, map, not, ℕ, ◌&&◌, ◌++◌, ◌==◌, ◌∷◌}
use Rattle.flex_world.specs.Objects.{is_number_among}
use Rattle.flex_program.specs.Classes.{has_name}
use Rattle.flex_program.specs.Program.{Binding, Contents, Destination, Given, Givens, Instance, Part}

abbrev pub part_of : Instance → Part
part_of (Instance.Holding part contents) = part

-- an instance and all that is declared inside it, in document order
abbrev mutual
  pub instances_of : Instance → List Instance
  instances_of (Instance.Holding part contents) = Instance.Holding part contents ∷ instances_in contents

  pub instances_in : Contents → List Instance
  instances_in Contents.NoContent = []
  instances_in (Contents.Child instance contents) = instances_of instance ++ instances_in contents
  instances_in (Contents.Tag name value contents) = given_instances value ++ instances_in contents
  instances_in (Contents.Declared instance contents) = instances_of instance ++ instances_in contents
  instances_in (Contents.Declared_value id value contents) = given_instances value ++ instances_in contents

  pub given_instances : Given → List Instance
  given_instances (Given.Given_literal value) = []
  given_instances (Given.Given_instance instance) = instances_of instance
  given_instances (Given.Given_array items) = items_instances items

  pub items_instances : Givens → List Instance
  items_instances Givens.NoGiven = []
  items_instances (Givens.MoreGiven given items) = given_instances given ++ items_instances items

abbrev pub parts_of : Instance → List Part
parts_of instance = map part_of (instances_of instance)

-- the instance of a number in a document with this root
abbrev pub instance_numbered : Instance → ℕ → Option Instance
instance_numbered root number = find (λ instance. (part_of instance).number == number) (instances_of root)

abbrev pub instance_named : Instance → List ℕ → Option Instance
instance_named root id = find (λ instance. has_name id (part_of instance).id) (instances_of root)

abbrev pub numbers_of : List Part → List ℕ
numbers_of parts = map (λ part. part.number) parts

abbrev pub is_among : List ℕ → Option Instance → Bool
is_among numbers None = false
is_among numbers (Some instance) = is_number_among (part_of instance).number numbers

-- the destination lies in one of the instances of these numbers
abbrev pub ends_in : Instance → List ℕ → Destination → Bool
ends_in root numbers (Destination.In_instance instance name) = is_number_among instance numbers
ends_in root numbers (Destination.At_chain []) = false
ends_in root numbers (Destination.At_chain (id ∷ names)) = is_among numbers (instance_named root id)

-- second halves lie in none
abbrev pub lies_in : Instance → List ℕ → Binding → Bool
lies_in root numbers b = not b.second && ends_in root numbers b.destination
