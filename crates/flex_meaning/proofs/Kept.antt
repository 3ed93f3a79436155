-- The law of activities: what each does keeps what holds, and is never stuck.
use Rattle.std.proofs.Common.{List, ℕ, ◌≡◌}
use Rattle.std.specs.Prelude.{Some, false, slice_get, true}
use Rattle.flex_base.specs.declared.event.Arrival.{Arrival}
use Rattle.flex_base.specs.declared.value.ObjId.{ObjId}
use Rattle.flex_base.specs.declared.value.Value.{Value}
use Rattle.flex_base.specs.declared.value.Value.TheVariants as value
use Rattle.flex_world.specs.declared.kind.Class.{Class}
use Rattle.flex_world.specs.Objects.{Instance_of, Listener, Object}
use Rattle.flex_program.proofs.Facts.{CanRun}
use Rattle.flex_program.specs.Classes.{constructor_of}
use Rattle.flex_program.specs.Fine.{is_fine_made, value_type}
use Rattle.flex_program.specs.Instances.{instance_numbered, part_of}
use Rattle.flex_program.specs.Program.{Binding, Constructor, Document, Instance, Method, Program, SourceClass, State}
use Rattle.flex_meaning.proofs.Changing.{registered_as}
use Rattle.flex_meaning.proofs.Holding.{AreOf, IsA, IsDocument, OfType, Typed, kind_at, state_at}
use Rattle.flex_meaning.proofs.Keeping.{Safe}
use Rattle.flex_meaning.specs.Activities.{Builds_document, Builds_instance, Calls, Constructs, Does, Enters, Hears, Leaves, Runs_binding}
use Rattle.flex_meaning.specs.Changes.{state_named}
use Rattle.flex_meaning.specs.World.{World}

module _ (p : Program) where
  -- arguments for the constructor of a class
  abbrev pub FitConstructor : List Object → ℕ → List Value → Type 0
  FitConstructor os k vs = (x : Constructor) → constructor_of p (Class.File k) ≡ Some x → (m : Method) → slice_get p.methods x.method ≡ Some m → AreOf p os vs m.parameters

  pub record Kept (does : Does) : Type 0 where
    pub calls : (m : ℕ) (o : ObjId) (vs : List Value) (k : Class) (w : World) → kind_at w.objects o ≡ Some (Instance_of k) → (r : CanRun p k m) → AreOf p w.objects vs r.method.parameters → Typed p w
        → Safe p false w.objects (does (Calls m o vs) w) (λ v os. OfType p os v (value_type r.method.result))
    pub constructs : (k : ℕ) (o : ObjId) (vs : List Value) (x : SourceClass) (w : World) → slice_get p.classes k ≡ Some x → IsA p w.objects o (Class.File k) → FitConstructor w.objects k vs → Typed p (registered_as p (Class.File k) o w)
        → Safe p false w.objects (does (Constructs k o vs) w) (λ _ _. Unit {0})
    pub documents : (o : ObjId) (class : Class) (d : Document) (w : World) → IsDocument p w.objects o class d → Typed p w → Safe p false w.objects (does (Builds_document o) w) (λ _ _. Unit {0})
    pub instances : (o : ObjId) (number : ℕ) (class : Class) (d : Document) (i : Instance) (w : World) → IsDocument p w.objects o class d → instance_numbered d.root number ≡ Some i → is_fine_made p class d.root i ≡ true → Typed p w
        → Safe p false w.objects (does (Builds_instance o number) w) (λ v os. (x : ObjId) × (v ≡ value.Ref x) × IsA p os x (part_of i).class)
    pub hears : (a : Arrival) (kind : List ℕ) (l : Listener) (vs : List Value) (k : Class) (w : World) → kind_at w.objects l.object ≡ Some (Instance_of k) → (r : CanRun p k l.method) → AreOf p w.objects vs r.method.parameters → Typed p w
        → Safe p false w.objects (does (Hears a kind l vs) w) (λ _ _. Unit {0})
    pub bindings : (o : ObjId) (number : ℕ) (class : Class) (d : Document) (b : Binding) (w : World) → IsDocument p w.objects o class d → slice_get d.bindings number ≡ Some b → Typed p w
        → Safe p false w.objects (does (Runs_binding o number) w) (λ _ _. Unit {0})
    pub leaves : (o : ObjId) (class : Class) (d : Document) (next : List ℕ) (w : World) → IsDocument p w.objects o class d → state_at p w.objects o ≡ Some true → Typed p w
        → Safe p false w.objects (does (Leaves o next) w) (λ _ _. Unit {0})
    pub enters : (o : ObjId) (class : Class) (d : Document) (name : List ℕ) (s : State) (w : World) → IsDocument p w.objects o class d → state_named name d.states ≡ Some s → Typed p w
        → Safe p false w.objects (does (Enters o name) w) (λ _ _. Unit {0})
