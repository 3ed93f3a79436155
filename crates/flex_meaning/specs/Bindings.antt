-- The run of a binding.
use Rattle.std.specs.Prelude.{List, None, Option, Some, [], option_map, true, ℕ, ◌∷◌}
use Rattle.flex_base.specs.declared.value.ObjId.{ObjId}
use Rattle.flex_base.specs.declared.value.Value.{Value}
use Rattle.flex_base.specs.declared.value.Value.TheVariants as value
use Rattle.flex_world.specs.Objects.{without_number}
use Rattle.flex_program.specs.Program.{Binding, BindingSource, Destination, Program}
use Rattle.flex_meaning.specs.Activities.{Context}
use Rattle.flex_meaning.specs.Expressions.{eval}
use Rattle.flex_meaning.specs.Objects.{read}
use Rattle.flex_meaning.specs.Results.{Ends, Goes, Halts, Result, Stuck, bind, done, need, on}
use Rattle.flex_meaning.specs.Storing.{binding_of}
use Rattle.flex_meaning.specs.World.{World, built_object, change_keeping}
use Rattle.flex_meaning.specs.Writes.{assign}

-- a property of an object
pub record Target : Type 0 where
  pub object : ObjId
  pub name : List ℕ

abbrev pub target : List ℕ → ObjId → Target
target name o = record { object = o; name = name }

-- goes on at the object that a value refers to; there is none at null
abbrev pub go_on : (ObjId → World → Result (Option Target)) → Value → World → Result (Option Target)
go_on next (value.Ref o) w = next o w
go_on next value.Null w = Goes None w
go_on next value.Undefined w = Goes None w
go_on next _ w = Stuck w

-- the property at the end of a chain of properties from an object
abbrev pub end_of_chain : Program → List ℕ → List (List ℕ) → ObjId → World → Result (Option Target)
end_of_chain p name [] o w = Goes (Some (target name o)) w
end_of_chain p name (next ∷ names) o w = bind (read p o name w) (go_on (end_of_chain p next names))

-- what a binding writes; there is nothing where its object is null or not built
abbrev pub destination : Program → ObjId → Destination → World → Result (Option Target)
destination p document (Destination.In_instance instance name) w = Goes (option_map (target name) (built_object w.built document instance)) w
destination p document (Destination.At_chain []) w = Stuck w
destination p document (Destination.At_chain (name ∷ names)) w = end_of_chain p name names document w

-- the value of a binding's own expression, unless that ended at a part of null
abbrev pub caught : Result Value → Result (Option Value)
caught (Goes v w) = Goes (Some v) w
caught (Halts o w) = Halts o w
caught (Ends w) = Goes None w
caught (Stuck w) = Stuck w

abbrev pub read_built : Program → List ℕ → Option ObjId → World → Result Value
read_built p name None w = Ends w
read_built p name (Some o) w = read p o name w

abbrev pub opened : ObjId → ℕ → World → World
opened document number w = change_keeping document (λ k. record k { open_bindings = number ∷ k.open_bindings }) w

abbrev pub closed : ObjId → ℕ → World → World
closed document number w = change_keeping document (λ k. record k { open_bindings = without_number number k.open_bindings }) w

module _ (c : Context) where
  abbrev pub source : ObjId → BindingSource → World → Result Value
  source document (BindingSource.An_expression e) w = eval c true e (record { this = document; locals = [] }) w
  source document (BindingSource.A_property instance name) w = read_built c.program name (built_object w.built document instance) w

  abbrev pub write_target : Target → Option Value → World → Result (Unit {0})
  write_target t None w = done w
  write_target t (Some v) w = assign c t.object t.name v w

  abbrev pub write_source : ObjId → BindingSource → Option Target → World → Result (Unit {0})
  write_source document s None w = done w
  write_source document s (Some t) w = bind (caught (source document s w)) (write_target t)

  -- it looks for its destination, evaluates its expression, and writes
  abbrev pub transfer : ObjId → Binding → World → Result (Unit {0})
  transfer document b w = bind (destination c.program document b.destination w) (write_source document b.source)

  -- a binding of a document is open until its run ends
  abbrev pub run_binding : ObjId → ℕ → World → Result (Unit {0})
  run_binding document number w =
      on document w (λ d.
      need (binding_of c d number) w (λ b.
      bind (transfer document b (opened document number w)) (λ _ w1.
      done (closed document number w1))))
