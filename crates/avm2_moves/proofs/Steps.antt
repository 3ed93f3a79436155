-- The steps of a change, by what is found for them first.
use Rattle.std.proofs.Common.{List, [], ◌∷◌, ◌≡◌, ap, refl, ℕ}
use Rattle.std.specs.Prelude.{None, Option, Some, option_and_then, option_map}
use Rattle.avm2_meaning.specs.Calls.{call_listener}
use Rattle.avm2_meaning.specs.Effects.{acted}
use Rattle.avm2_meaning.specs.Moves.{change_with}
use Rattle.avm2_meaning.specs.Results.{Goes, Result, bind, need}
use Rattle.avm2_meaning.specs.Script.{write_and}
use Rattle.avm2_meaning.specs.declared.frame.Change.{Change}
use Rattle.avm2_meaning.specs.declared.frame.ChangeStep.{ChangeStep}
use Rattle.avm2_meaning.specs.declared.frame.ChangeStep.TheVariants as ChangeStep
use Rattle.avm2_meaning.specs.declared.frame.Native.{Native}
use Rattle.avm2_meaning.specs.declared.frame.Native.TheVariants as Native
use Rattle.avm2_meaning.specs.declared.heap.Heap.{Heap}
use Rattle.avm2_meaning.specs.declared.operand.Operand.{Operand}
use Rattle.avm2_meaning.specs.declared.operand.Operand.TheVariants.{Plain}
use Rattle.avm2_meaning.specs.Effects.{Acted}
use Rattle.avm2_moves.specs.Changing.{does_step, entering, leaving}
use Rattle.avm2_program.specs.declared.file.Program.{Program}
use Rattle.flex_base.specs.declared.value.Value.TheVariants as value
use Rattle.flex_objects.specs.Entities.{Entity, RegisteredState}
use Rattle.flex_world.specs.Objects.{Listener, Object, current_state, property, text_in}
use Rattle.stage_objects.specs.Documents.{state_named, states_of}
use Rattle.stage_objects.specs.Entities.{entity_in, object_of}
use Rattle.ui_runtime.specs.Documents.{states_at}
use Rattle.ui_runtime.specs.Stage.{object_at}

module _ (p : Program) (c : Change) (h : Heap) where
  abbrev calls : List Operand → Listener → Result (Acted Native)
  calls arguments l = bind (call_listener p l arguments h) (λ e h1. Goes (acted e (Native.Changes c)) h1)

  -- with a method of a state, if there is one
  registered : (which : RegisteredState → Listener) (arguments : List Operand) (found : Option RegisteredState)
      → need found h (λ state. calls arguments (which state)) ≡ need (option_map which found) h (calls arguments)
  registered which arguments None = refl
  registered which arguments (Some state) = refl

  pub left : does_step p ChangeStep.Leave c h ≡ need (leaving c.document h) h (λ l. bind (call_listener p l (Plain (value.Text c.state) ∷ []) h) (λ e h1. Goes (acted e (Native.Changes c)) h1))
  left = by (object_at c.document h.stage)
    where
      arguments : List Operand
      arguments = Plain (value.Text c.state) ∷ []

      named : (now : Option (List ℕ))
          → need now h (λ name. need (state_named name (states_at c.document h.stage)) h (λ state. calls arguments state.leave))
          ≡ need (option_and_then (λ name. option_map (λ (s : RegisteredState). s.leave) (state_named name (states_at c.document h.stage))) now) h (calls arguments)
      named None = refl
      named (Some name) = registered (λ s. s.leave) arguments (state_named name (states_at c.document h.stage))

      by : (d : Option Object)
          → need d h (λ x. need (text_in (property x current_state)) h (λ name. need (state_named name (states_at c.document h.stage)) h (λ state. calls arguments state.leave)))
          ≡ need (option_and_then (λ (x : Object). option_and_then (λ name. option_map (λ (s : RegisteredState). s.leave) (state_named name (states_at c.document h.stage))) (text_in (property x current_state))) d) h (calls arguments)
      by None = refl
      by (Some d) = named (text_in (property d current_state))

  pub entered : does_step p ChangeStep.Enter c h ≡ need (entering c.document c.state h) h (λ l. bind (call_listener p l [] h) (λ e h1. Goes (acted e (Native.Changes c)) h1))
  entered = by (entity_in c.document h.stage.entities)
    where
      by : (e : Option Entity)
          → need (option_map object_of e) h (λ d. need (state_named c.state (states_of e)) h (λ state. calls [] state.enter))
          ≡ need (option_map (λ (s : RegisteredState). s.enter) (state_named c.state (states_of e))) h (calls [])
      by None = refl
      by (Some e) = registered (λ s. s.enter) [] (state_named c.state (states_of (Some e)))

  pub written : does_step p ChangeStep.Store c h ≡ write_and c.document current_state (value.Text c.state) (Native.Changes c) h
  written = by (object_at c.document h.stage) _
    where
      by : (d : Option Object) (k : Object → Result (Acted Native)) → need d h (λ x. need d h k) ≡ need d h k
      by None k = refl
      by (Some d) k = refl

  -- the next step is done, and these remain
  pub stepped : (step : ChangeStep) (rest : List ChangeStep) → c.steps ≡ step ∷ rest → change_with p c c.steps h ≡ does_step p step (record c { steps = rest }) h
  stepped step rest is = ap (λ l. change_with p (record c { steps = l }) l h) is
