-- The calls of the runtime, on a document object.
use Rattle.std.specs.Prelude.{Bool, List, None, Option, Some, [], if◌then◌else◌, is_some, length, nat_lt, negsuc, not, pos, ℕ, ℤ, ◌&&◌, ◌==◌, ◌∷◌}
use Rattle.avm2_program.specs.declared.file.Program.{Program}
use Rattle.avm2_program.specs.declared.member.RuntimeCall.{RuntimeCall}
use Rattle.flex_base.specs.declared.outcome.MachineFault.TheVariants as fault
use Rattle.flex_base.specs.declared.value.ObjId.{ObjId}
use Rattle.flex_base.specs.declared.value.Value.TheVariants as value
use Rattle.flex_objects.specs.Entities.{EnabledBinding, Inside, RegisteredState, listener}
use Rattle.flex_world.specs.Objects.{Listener, Object, Spot, watcher}
use Rattle.stage_objects.specs.Documents.{binding_numbered, state_named}
use Rattle.ui_runtime.specs.Documents.{begins_first, binds, first_state, registers}
use Rattle.ui_runtime.specs.Tree.{child}
use Rattle.avm2_meaning.specs.Bindings.{start_alone}
use Rattle.avm2_meaning.specs.Classes.{is_component_object, is_container_object, is_document}
use Rattle.avm2_meaning.specs.Conversions.{object_number}
use Rattle.avm2_meaning.specs.Effects.{nothing, opens}
use Rattle.avm2_meaning.specs.declared.effect.Effect.{Effect}
use Rattle.avm2_meaning.specs.Elements.{add, take_out}
use Rattle.avm2_meaning.specs.declared.frame.Native.{Native}
use Rattle.avm2_meaning.specs.declared.frame.Native.TheVariants as Native
use Rattle.avm2_meaning.specs.Heap.{on_stage}
use Rattle.avm2_meaning.specs.declared.heap.Heap.{Heap}
use Rattle.avm2_meaning.specs.declared.operand.Operand.{Operand}
use Rattle.avm2_meaning.specs.declared.operand.Operand.TheVariants.{Plain}
use Rattle.avm2_meaning.specs.Replies.{reply}
use Rattle.avm2_meaning.specs.declared.reply.Reply.{Reply}
use Rattle.avm2_meaning.specs.Results.{Goes, Result, bind, faults, inside, on, test}
use Rattle.avm2_meaning.specs.States.{change_to, first_steps}

-- an argument of the kind that is wanted
abbrev pub text_argument : Operand → Heap → Result (List ℕ)
text_argument (Plain (value.Text t)) h = Goes t h
text_argument _ h = faults fault.WrongKind h

abbrev pub listener_argument : Operand → Heap → Result Listener
listener_argument (Plain (value.Listener o m)) h = Goes (listener o m) h
listener_argument _ h = faults fault.WrongKind h

abbrev pub integer : Operand → Heap → Result ℤ
integer (Plain (value.Int n)) h = Goes n h
integer _ h = faults fault.WrongKind h

-- numbers and ranks are 0 or more
abbrev pub natural : ℤ → Heap → Result ℕ
natural (pos n) h = Goes n h
natural (negsuc n) h = faults fault.WrongKind h

-- a pair is one of these, or -1
abbrev pub pair_argument : ℤ → Heap → Result (Option ℕ)
pair_argument (pos n) h = Goes (Some n) h
pair_argument (negsuc n) h = bind (test fault.WrongKind (n == 0) h) (λ _ h1. Goes None h1)

-- takes a first name that is cut at a dot, and the names behind that
abbrev pub with_byte : ℕ → List (List ℕ) → List (List ℕ)
with_byte b [] = (b ∷ []) ∷ []
with_byte b (name ∷ names) = if b == 46 then [] ∷ name ∷ names else (b ∷ name) ∷ names

-- the names that stand between dots
abbrev pub names_in : List ℕ → List (List ℕ)
names_in [] = [] ∷ []
names_in (b ∷ bytes) = with_byte b (names_in bytes)

-- the keys of a chain, which isn't empty
abbrev pub chain : Operand → Heap → Result (List (List ℕ))
chain v h = bind (text_argument v h) (λ t h1. bind (test fault.WrongKind (nat_lt 0 (length t)) h1) (λ _ h2. Goes (names_in t) h2))

abbrev pub chains : List Operand → Heap → Result (List (List (List ℕ)))
chains [] h = Goes [] h
chains (v ∷ vs) h = bind (chain v h) (λ keys h1. bind (chains vs h1) (λ others h2. Goes (keys ∷ others) h2))

-- states are registered before `begin`, each once
abbrev pub can_register : List ℕ → Inside → Bool
can_register name i = not i.begun && not (is_some (state_named name i.states))

abbrev pub new_state : List ℕ → Listener → Listener → RegisteredState
new_state name leave enter = record { name = name; leave = leave; enter = enter }

abbrev pub register : ObjId → Inside → RegisteredState → Heap → Result Effect
register document i state h = bind (test fault.WrongKind (can_register state.name i) h) (λ _ h1. nothing (on_stage (registers document state) h1))

abbrev pub register_state : ObjId → Inside → List Operand → Heap → Result Effect
register_state document i (name ∷ leave ∷ enter ∷ []) h =
    bind (text_argument name h) (λ t h1.
    bind (listener_argument leave h1) (λ l h2.
    bind (listener_argument enter h2) (λ e h3.
    register document i (new_state t l e) h3)))
register_state document i _ h = faults fault.WrongCount h

abbrev pub enable : ObjId → Inside → EnabledBinding → List (List (List ℕ)) → Heap → Result Effect
enable document i b keys h =
    bind (test fault.WrongKind (not (is_some (binding_numbered b.number i.bindings))) h) (λ _ h1. nothing (on_stage (binds document b keys) h1))

abbrev pub enable_with : ObjId → Inside → ℤ → ℤ → Listener → List (List (List ℕ)) → Heap → Result Effect
enable_with document i number pair method keys h =
    bind (natural number h) (λ n h1.
    bind (pair_argument pair h1) (λ other h2.
    enable document i (record { number = n; pair = other; method = method }) keys h2))

-- a binding is enabled
abbrev pub enable_binding : ObjId → Inside → List Operand → Heap → Result Effect
enable_binding document i (number ∷ pair ∷ method ∷ texts) h =
    bind (integer number h) (λ n h1.
    bind (integer pair h1) (λ other h2.
    bind (listener_argument method h2) (λ l h3.
    bind (chains texts h3) (λ keys h4.
    enable_with document i n other l keys h4))))
enable_binding document i _ h = faults fault.WrongCount h

-- without states none is entered
abbrev pub enter_first : ObjId → Option (List ℕ) → Heap → Result Effect
enter_first document None h = nothing h
enter_first document (Some name) h = opens (Native.Changes (change_to document name first_steps)) h

abbrev pub begin_document : ObjId → Inside → List Operand → Heap → Result Effect
begin_document document i [] h =
    bind (test fault.WrongKind (not i.begun) h) (λ _ h1. enter_first document (first_state document h1.stage) (on_stage (begins_first document) h1))
begin_document document i _ h = faults fault.WrongCount h

abbrev pub run_binding : ObjId → List Operand → Heap → Result Effect
run_binding document (number ∷ []) h = bind (integer number h) (λ n h1. bind (natural n h1) (λ b h2. start_alone (watcher document b) h2))
run_binding document _ h = faults fault.WrongCount h

module _ (p : Program) where
  -- an object that passes a test
  abbrev pub object_that : (Object → Bool) → Operand → Heap → Result ObjId
  object_that passes v h = bind (object_number v h) (λ o h1. on o h1 (λ object. bind (test fault.WrongKind (passes object) h1) (λ _ h2. Goes o h2)))

  abbrev pub spot_at : ObjId → ObjId → ℕ → Spot
  spot_at document container rank = record { container = container; document = document; number = rank }

  abbrev pub place : ObjId → List Operand → Heap → Result Effect
  place document (container ∷ child ∷ rank ∷ []) h =
      bind (object_that (is_container_object p) container h) (λ c h1.
      bind (object_that (is_component_object p) child h1) (λ o h2.
      bind (integer rank h2) (λ n h3.
      bind (natural n h3) (λ r h4.
      add c o (Some (spot_at document c r)) h4))))
  place document _ h = faults fault.WrongCount h

  abbrev pub take_from : ObjId → Option ObjId → Heap → Result Effect
  take_from child None h = nothing h
  take_from child (Some parent) h = take_out child parent h

  abbrev pub take_child : List Operand → Heap → Result Effect
  take_child (child ∷ []) h = bind (object_that (is_component_object p) child h) (λ o h1. on o h1 (λ object. take_from o object.parent h1))
  take_child _ h = faults fault.WrongCount h

  abbrev pub perform : RuntimeCall → ObjId → Inside → List Operand → Heap → Result Effect
  perform RuntimeCall.RegisterState o i arguments h = register_state o i arguments h
  perform RuntimeCall.Bind o i arguments h = enable_binding o i arguments h
  perform RuntimeCall.RunBinding o i arguments h = run_binding o arguments h
  perform RuntimeCall.Begin o i arguments h = begin_document o i arguments h
  perform RuntimeCall.Place o i arguments h = place o arguments h
  perform RuntimeCall.TakeOut o i arguments h = take_child arguments h

  -- a call of the runtime on a receiver, which gives Undefined
  abbrev pub call_runtime : Operand → RuntimeCall → List Operand → Heap → Result Reply
  call_runtime receiver call arguments h =
      bind (object_number receiver h) (λ o h1.
      on o h1 (λ object.
      bind (test fault.WrongKind (is_document p object) h1) (λ _ h2.
      inside o h2 (λ i.
      bind (perform call o i arguments h2) (λ e h3.
      reply value.Undefined e h3)))))
