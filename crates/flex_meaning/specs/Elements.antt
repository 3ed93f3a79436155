-- The children of containers.
use Rattle.std.specs.Prelude.{Bool, None, Option, Some, insert, ℕ, ◌∷◌}
use Rattle.flex_base.specs.declared.outcome.Stop.TheVariants as stop
use Rattle.flex_base.specs.declared.record.TraceItem.TheVariants.{Added, Removed}
use Rattle.flex_base.specs.declared.value.ObjId.{ObjId}
use Rattle.component_catalog.specs.Events.{creation_complete}
use Rattle.flex_world.specs.Children.{joined_to, place_for, without_child}
use Rattle.flex_world.specs.Objects.{Spot, ancestors_of, is_object_among}
use Rattle.flex_meaning.specs.Activities.{Context}
use Rattle.flex_meaning.specs.Dispatch.{announce}
use Rattle.flex_meaning.specs.Results.{Result, bind, choose, done, on, stops}
use Rattle.flex_meaning.specs.World.{World, change_object, note}

-- takes a component from its parent, if it has one
abbrev pub leave_parent : ObjId → Option ObjId → World → World
leave_parent child None w = w
leave_parent child (Some parent) w =
    note (Removed parent child) (change_object child (λ c. record c { parent = None }) (change_object parent (λ c. record c { children = without_child child c.children }) w))

abbrev pub take_out : ObjId → World → Result (Unit {0})
take_out child w = on child w (λ c. done (leave_parent child c.parent w))

abbrev pub joins : ObjId → ObjId → Option Spot → ℕ → World → World
joins container child spot place w =
    note (Added container child place)
    (change_object child (joined_to container spot) (change_object container (λ c. record c { children = insert c.children place child }) w))

module _ (c : Context) where
  -- the first time that a component is added it is complete
  abbrev pub completed : Bool → ObjId → World → Result (Unit {0})
  completed was_added child w = choose was_added done (announce c creation_complete child) w

  -- adds a component to a container, as a declared child where it has a spot
  abbrev pub add_child : ObjId → ObjId → Option Spot → World → Result (Unit {0})
  add_child container child spot w =
      choose (is_object_among child (container ∷ ancestors_of w.objects container)) (stops stop.Cycle)
      (λ w1.
      bind (take_out child w1) (λ _ w2.
      on child w2 (λ o.
      on container w2 (λ holder.
      completed o.was_added child (joins container child spot (place_for w2.objects spot holder.children) w2))))) w
