-- What each activity does.
use Rattle.std.specs.Prelude.{List, None, Option, Some, [], false, slice_get, suc, zero, ℕ, ◌∷◌}
use Rattle.flex_base.specs.Events.{phase_number}
use Rattle.flex_base.specs.declared.outcome.Outcome.TheVariants.{TurnsSpent}
use Rattle.flex_base.specs.declared.record.TraceItem.TheVariants.{Heard}
use Rattle.flex_base.specs.declared.value.ObjId.{ObjId}
use Rattle.flex_base.specs.declared.value.Value.{Value}
use Rattle.flex_base.specs.declared.value.Value.TheVariants as value
use Rattle.flex_world.specs.declared.kind.Class.{Class}
use Rattle.flex_program.specs.Program.{Constructor, Document, Expr, Program, SourceClass}
use Rattle.flex_meaning.specs.Activities.{Builds_document, Builds_instance, Calls, Constructs, Context, Does, Enters, Hears, Leaves, Runs_binding, carry_out}
use Rattle.flex_meaning.specs.Bindings.{run_binding}
use Rattle.flex_meaning.specs.Building.{build_document, build_instance}
use Rattle.flex_meaning.specs.Expressions.{eval}
use Rattle.flex_meaning.specs.Results.{Goes, Halts, Result, bind, choose, done, dropped, each, need}
use Rattle.flex_meaning.specs.Statements.{run}
use Rattle.flex_meaning.specs.States.{enter_named, leave_state}
use Rattle.flex_meaning.specs.Turns.{activity}
use Rattle.flex_meaning.specs.World.{World, note}
use Rattle.flex_meaning.specs.Writes.{assign}

-- an activity that gives no value
abbrev pub without_value : (World → Result (Unit {0})) → World → Result Value
without_value body w = bind (body w) (λ _ w1. Goes value.Undefined w1)

-- a document is known as one from here on
abbrev pub register_document : Option Document → ObjId → World → World
register_document None o w = w
register_document (Some d) o w = record w { registered = o ∷ w.registered }

module _ (c : Context) where
  abbrev pub start_variable : ObjId → List ℕ → Option Expr → World → Result (Unit {0})
  start_variable o name None w = done w
  start_variable o name (Some e) w = bind (eval c false e (record { this = o; locals = [] }) w) (λ v w1. assign c o name v w1)

  abbrev pub run_method : ℕ → ObjId → List Value → World → Result Value
  run_method m o arguments w = need (slice_get c.program.methods m) w (λ method. run c method o arguments w)

  -- the constructor of the base runs where the written body has no `super(..)`; a native one does nothing then
  abbrev pub construct_unless_super : Option Class → ObjId → World → Result (Unit {0})
  construct_unless_super (Some (Class.File k)) o w = carry_out c (Constructs k o []) w
  construct_unless_super _ o w = done w

  abbrev pub run_constructor : Option Class → Option Constructor → ObjId → List Value → World → Result (Unit {0})
  run_constructor base None o arguments w = construct_unless_super base o w
  run_constructor base (Some constructor) o arguments w =
      bind (choose constructor.calls_super done (construct_unless_super base o) w) (λ _ w1. dropped (run_method constructor.method o arguments w1))

  abbrev pub build_if_document : Option Document → ObjId → World → Result (Unit {0})
  build_if_document None o w = done w
  build_if_document (Some d) o w = carry_out c (Builds_document o) w

  -- the variables start in order, the base is constructed, the written statements run, and a document is built
  abbrev pub construct_class : SourceClass → ObjId → List Value → World → Result (Unit {0})
  construct_class class o arguments w =
      bind (each (λ v. start_variable o v.name v.start) class.variables (register_document class.document o w)) (λ _ w1.
      bind (run_constructor class.base class.constructor o arguments w1) (λ _ w2.
      build_if_document class.document o w2))

  abbrev pub construct_numbered : ℕ → ObjId → List Value → World → Result (Unit {0})
  construct_numbered k o arguments w = need (slice_get c.program.classes k) w (λ class. construct_class class o arguments w)

  abbrev pub perform : Does
  perform (Calls m o arguments) w = activity (run_method m o arguments) w
  perform (Constructs k o arguments) w = activity (without_value (construct_numbered k o arguments)) w
  perform (Builds_document document) w = activity (without_value (build_document c document)) w
  perform (Builds_instance document number) w = activity (build_instance c document number) w
  perform (Hears a kind l arguments) w = activity (λ w1. run_method l.method l.object arguments (note (Heard a.node kind (phase_number a.phase)) w1)) w
  perform (Runs_binding document number) w = activity (without_value (run_binding c document number)) w
  perform (Leaves document next) w = activity (without_value (leave_state c document next)) w
  perform (Enters document state) w = activity (without_value (enter_named c document state)) w

abbrev pub context : Program → ℕ → Does → Context
context p n does = record { program = p; fuel = n; does = does }

-- each activity takes a turn, so it may use what activities do with fewer
abbrev pub activities : Program → ℕ → Does
activities p zero task w = Halts TurnsSpent w
activities p (suc n) task w = perform (context p n (λ t w1. activities p n t w1)) task w
