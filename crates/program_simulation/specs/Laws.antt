-- What it is that activities do as they mean, and the forms for which that is proved.
use Rattle.std.specs.Prelude.{Bool, List, None, Option, Some, [], false, is_some, map, slice_get, suc, true, zero, ℕ, ◌∷◌, ◌≡◌, ◌≤◌}
use Rattle.flex_base.specs.declared.value.ObjId.{ObjId}
use Rattle.flex_base.specs.declared.value.Value.{Value}
use Rattle.component_catalog.specs.declared.class.NativeClass.TheVariants as native
use Rattle.component_catalog.specs.declared.method.NativeMethod.TheVariants as catalog
use Rattle.component_catalog.specs.declared.method.NativeMethod.{NativeMethod}
use Rattle.flex_world.specs.Classes.{native_descends}
use Rattle.flex_world.specs.declared.kind.Class.{Class}
use Rattle.flex_world.specs.Objects.{Instance_of, Object, Watcher, field_named, object_at, watcher}
use Rattle.flex_program.specs.Classes.{Callee, callee, document_of}
use Rattle.flex_program.specs.Instances.{parts_of}
use Rattle.flex_program.specs.Program as source
use Rattle.flex_program.specs.Program.{Block, Expr, Exprs, Member, Method, MoreExpr, MoreStmt, NoExpr, NoStmt, Place, Stmt}
use Rattle.flex_meaning.specs.Activities as meaning
use Rattle.flex_meaning.specs.Activities.{Context, Does}
use Rattle.flex_meaning.specs.Changes as changes
use Rattle.flex_meaning.specs.Bindings.{opened}
use Rattle.flex_meaning.specs.Storing.{start_affected}
use Rattle.flex_meaning.specs.Tasks.{activities, context}
use Rattle.flex_meaning.specs.World.{World, is_fresh}
use Rattle.program_simulation.specs.Following.{Meets, Sim, seen}
use Rattle.program_simulation.specs.Image.{IsImage}
use Rattle.program_simulation.specs.Stands.{Image, Setting, behind_root, heap_of, machine_of, playing, playing_of, stage_of, watched_of}
use Rattle.avm2_program.specs.Naming.{Naming}
use Rattle.avm2_program.specs.declared.class.FileClass as FileClassRecord
use Rattle.avm2_program.specs.declared.operation.Operation.{Operation}
use Rattle.watch_table.specs.Affected as watch
use Rattle.ui_runtime.specs.Stage as stage
use Rattle.avm2_meaning.specs.Bindings.{starting}
use Rattle.avm2_meaning.specs.Apply.{enter, give_if, land, proceed}
use Rattle.avm2_meaning.specs.Calls.{call_of}
use Rattle.avm2_meaning.specs.Effects.{Acted, acted}
use Rattle.avm2_meaning.specs.declared.effect.Next.{Next}
use Rattle.avm2_meaning.specs.declared.frame.CodeFrame.{CodeFrame}
use Rattle.avm2_meaning.specs.declared.frame.Frame.{Frame}
use Rattle.avm2_meaning.specs.declared.work.Work.{Work}
use Rattle.avm2_meaning.specs.Moves.{as_code, stands}
use Rattle.avm2_meaning.specs.Operands.{ref}
use Rattle.avm2_meaning.specs.declared.operand.Operand.TheVariants.{Plain}
use Rattle.avm2_meaning.specs.Properties.{starting_all, watcher_of}
use Rattle.avm2_meaning.specs.Results as machine
use Rattle.avm2_meaning.specs.Results.{mapped}
use Rattle.avm2_meaning.specs.States as states
use Rattle.avm2_meaning.specs.Trace.{Playing}

-- the bindings that are to start on the machine where a property of an object has changed
abbrev pub bindings_to_start : Image → List ObjId → ObjId → List ℕ → World → Next
bindings_to_start q order o name w =
    starting_all (map watcher_of (watch.affected (stage.held (stage_of q order w)) o name (watched_of q order w.objects)))

-- a class of the program declares a method, by its number
pub record IsDeclared (p : source.Program) (number : ℕ) : Type 0 where
  pub class_number : ℕ
  pub class : source.SourceClass
  pub class_there : slice_get p.classes class_number ≡ Some class
  pub place : ℕ
  pub member : Member
  pub member_there : slice_get class.members place ≡ Some member
  pub is : member.method ≡ number

-- an object of a class, of which nothing is kept yet
pub record IsNew (number : ℕ) (o : ObjId) (w : World) : Type 0 where
  pub object : Object
  pub there : object_at w.objects o ≡ Some object
  pub kind_is : object.kind ≡ Instance_of (Class.File number)
  pub fresh : is_fresh o w ≡ true

-- the constructor of a document runs on a new object of its class alone
abbrev pub IsNewDocument : source.Program → ℕ → ObjId → World → Type 0
IsNewDocument p number o w = is_some (document_of p (Class.File number)) ≡ true → IsNew number o w

module _ (t : Setting) where
  -- a move of a body on frames, whose instruction comes to this
  abbrev pub landed : List Frame → CodeFrame → Operation → machine.Result (Acted Work) → List ObjId → World → Playing
  landed fs f o x order w = seen t w.records (land t.image.program (mapped as_code (mapped (stands f o) x)) (machine_of t fs order w))

  -- what activities do, with so many turns at most
  module _ (n : ℕ) (does : Does) where
    abbrev pub MethodsRun : Type 0
    MethodsRun =
        (m : ℕ) → m ≤ n → (number : ℕ) → IsDeclared t.image.source number
        → (o : ObjId) (vs : List Value) (keeps : Bool) (fs : List Frame) (order : List ObjId) (w : World) → Meets t.image m w
        → Sim t.image m (playing t (enter t.image.program (call_of number (ref o) (map Plain vs) keeps) (machine_of t fs order w)) w.records)
        (does (meaning.Calls number o vs) w)
        (λ v w1 x. playing t (give_if keeps (Some (Plain v)) (machine_of t fs x.order w1)) w1.records)

    -- the bindings that a change affects start, of a property that the object has
    abbrev pub BindingsStart : Type 0
    BindingsStart =
        (m : ℕ) → m ≤ n → (o : ObjId) (c : Object) (name : List ℕ) (fs : List Frame) (order : List ObjId) (w : World)
        → object_at w.objects o ≡ Some c → is_some (field_named name c.fields) ≡ true → Meets t.image m w
        → Sim t.image m (playing t (proceed t.image.program (bindings_to_start t.image order o name w) (machine_of t fs order w)) w.records)
        (start_affected (context t.image.source n does) o name w)
        (λ u w1 x. playing_of t fs x.order w1)

    -- a binding that a document has opened runs; it is closed behind that, and then others are to start
    abbrev pub BindingsRun : Type 0
    BindingsRun =
        (m : ℕ) → m ≤ n → (o : ObjId) (c : Object) (k number : ℕ) (d : source.Document) (b : source.Binding) (ws : List Watcher) (fs : List Frame) (order : List ObjId) (w : World)
        → object_at w.objects o ≡ Some c → c.kind ≡ Instance_of (Class.File k) → document_of t.image.source (Class.File k) ≡ Some d → slice_get d.bindings number ≡ Some b → Meets t.image m w
        → Sim t.image m
        (playing t (enter t.image.program (call_of (t.image.labels.binding_run_of k number) (ref o) [] false) (machine_of t (Frame.Does (starting (Some (watcher o number)) ws) ∷ fs) order (opened o number w))) w.records)
        (does (meaning.Runs_binding o number) w)
        (λ v w1 x. playing_of t (Frame.Does (starting None ws) ∷ fs) x.order w1)

    -- code asks for a state
    abbrev pub StatesAreAsked : Type 0
    StatesAreAsked =
        (m : ℕ) → m ≤ n → (o : ObjId) (v : Value) (fs : List Frame) (f : CodeFrame) (op : Operation) (work : Work) (order : List ObjId) (w : World) → Meets t.image m w
        → Sim t.image m (landed fs f op (machine.bind (states.request o v (heap_of t.image order w)) (λ e h. machine.Goes (acted e work) h)) order w)
        (changes.request (context t.image.source n does) o v w)
        (λ u w1 x. playing_of t (Frame.Code (record f { place = suc f.place; work = work }) ∷ fs) x.order w1)

    -- the constructor of a class of the file runs, by the number of the class
    abbrev pub ConstructorRuns : ℕ → Type 0
    ConstructorRuns number =
        (m : ℕ) → m ≤ n → (class : FileClassRecord.FileClass) → slice_get t.image.program.classes number ≡ Some class
        → (o : ObjId) (vs : List Value) (fs : List Frame) (order : List ObjId) (w : World) → IsNewDocument t.image.source number o w → Meets t.image m w
        → Sim t.image m (playing t (enter t.image.program (call_of class.constructor (ref o) (map Plain vs) false) (machine_of t fs order w)) w.records)
        (does (meaning.Constructs number o vs) w)
        (λ v w1 x. playing_of t fs x.order w1)

    abbrev pub ConstructorsRun : Type 0
    ConstructorsRun = (number : ℕ) → ConstructorRuns number

    -- those of documents do
    abbrev pub DocumentsRun : Type 0
    DocumentsRun =
        (number : ℕ) (class : source.SourceClass) (d : source.Document) → slice_get t.image.source.classes number ≡ Some class → class.document ≡ Some d
        → ConstructorRuns number

    -- all of these
    pub record Law : Type 0 where
      pub methods : MethodsRun
      pub constructs : ConstructorsRun
      pub starts : BindingsStart
      pub runs : BindingsRun
      pub asks : StatesAreAsked

-- the methods of the catalog that run nothing else: they give their value at once
abbrev pub gives_at_once : NativeMethod → Bool
gives_at_once catalog.DispatchEvent = false
gives_at_once catalog.AddElement = false
gives_at_once catalog.RemoveAllElements = false
gives_at_once _ = true

-- a name stands for methods of the program, and for such methods of the catalog
abbrev pub IsCallable : source.Program → List ℕ → Type 0
IsCallable p name = (class : Class) (m : NativeMethod) → callee p class name ≡ Some (Callee.Catalog m) → gives_at_once m ≡ true

-- a name stands in a class for a method of the program, if for any
abbrev pub IsWritten : source.Program → Class → List ℕ → Type 0
IsWritten p class name = (m : NativeMethod) → callee p class name ≡ Some (Callee.Catalog m) → ⊥

-- a class whose constructor `super(..)` may call: one of the program that is no document, or one of the catalog that is no event
abbrev pub IsConstructible : source.Program → Option Class → Type 0
IsConstructible p None = Unit {0}
IsConstructible p (Some (Class.Native class)) = native_descends class native.Event ≡ false
IsConstructible p (Some (Class.File k)) = (is_some (slice_get p.classes k) ≡ true) × (document_of p (Class.File k) ≡ None)

-- in a body that belongs to a class with this base; of others it isn't known
module _ (p : source.Program) (supers : Option (Option Class)) where
  abbrev mutual
    -- an expression without calls of the catalog that run something else
    pub IsPlain : Expr → Type 0
    IsPlain (Expr.Constant value) = Unit {0}
    IsPlain Expr.This = Unit {0}
    IsPlain (Expr.Local n) = Unit {0}
    IsPlain (Expr.Property e name) = IsPlain e
    IsPlain (Expr.Length e) = IsPlain e
    IsPlain (Expr.Element a i) = IsPlain a × IsPlain i
    IsPlain (Expr.Items es) = ArePlain es
    IsPlain (Expr.Method_of e name) = IsPlain e
    IsPlain (Expr.Call e name es) = IsPlain e × ArePlain es × IsCallable p name
    IsPlain (Expr.Call_super base name es) = (supers ≡ Some (Some base)) × IsWritten p base name × ArePlain es
    IsPlain (Expr.Push a e) = IsPlain a × IsPlain e
    IsPlain (Expr.Pop a) = IsPlain a
    IsPlain (Expr.New (Class.Native class) es) = ArePlain es
    IsPlain (Expr.New (Class.File k) es) = ArePlain es × (is_some (slice_get p.classes k) ≡ true)
    IsPlain (Expr.Convert type e) = IsPlain e
    IsPlain (Expr.To_text e) = IsPlain e
    IsPlain (Expr.Negate e) = IsPlain e
    IsPlain (Expr.Not e) = IsPlain e
    IsPlain (Expr.Apply operator a b) = IsPlain a × IsPlain b
    IsPlain (Expr.And a b) = IsPlain a × IsPlain b
    IsPlain (Expr.Or a b) = IsPlain a × IsPlain b
    IsPlain (Expr.Choose test a b type) = IsPlain test × IsPlain a × IsPlain b

    pub ArePlain : Exprs → Type 0
    ArePlain NoExpr = Unit {0}
    ArePlain (MoreExpr e es) = IsPlain e × ArePlain es

  abbrev pub IsPlainPlace : Place → Type 0
  IsPlainPlace (Place.Local_place n type) = Unit {0}
  IsPlainPlace (Place.Property_place object name) = IsPlain object
  IsPlainPlace (Place.Element_place array index) = IsPlain array × IsPlain index

  abbrev mutual
    -- a statement of such expressions
    pub IsPlainStmt : Stmt → Type 0
    IsPlainStmt (Stmt.Do e) = IsPlain e
    IsPlainStmt (Stmt.Trace es) = ArePlain es
    IsPlainStmt (Stmt.Assign place e) = IsPlainPlace place × IsPlain e
    IsPlainStmt (Stmt.Update place operator e) = IsPlainPlace place × IsPlain e
    IsPlainStmt (Stmt.If test first second) = IsPlain test × IsPlainBlock first × IsPlainBlock second
    IsPlainStmt (Stmt.Loop None step body) = IsPlainBlock step × IsPlainBlock body
    IsPlainStmt (Stmt.Loop (Some test) step body) = IsPlain test × IsPlainBlock step × IsPlainBlock body
    IsPlainStmt (Stmt.Do_while body test) = IsPlainBlock body × IsPlain test
    IsPlainStmt Stmt.Break = Unit {0}
    IsPlainStmt Stmt.Continue = Unit {0}
    IsPlainStmt (Stmt.Return None) = Unit {0}
    IsPlainStmt (Stmt.Return (Some e)) = IsPlain e
    IsPlainStmt (Stmt.Super base es) = (supers ≡ Some base) × IsConstructible p base × ArePlain es

    pub IsPlainBlock : Block → Type 0
    IsPlainBlock NoStmt = Unit {0}
    IsPlainBlock (MoreStmt s block) = IsPlainStmt s × IsPlainBlock block

-- each method that a class declares is plain
abbrev pub HasPlainMethods : source.Program → Type 0
HasPlainMethods p = (number : ℕ) (m : Method) → slice_get p.methods number ≡ Some m → (d : IsDeclared p number) → IsPlainBlock p (Some d.class.base) m.body

-- a constructor that nothing is given
abbrev pub TakesNothing : source.Program → ℕ → Type 0
TakesNothing p number =
    (class : source.SourceClass) (constructor : source.Constructor) (m : Method) → slice_get p.classes number ≡ Some class → class.constructor ≡ Some constructor
    → slice_get p.methods constructor.method ≡ Some m → m.parameters ≡ []

-- the base of a class whose constructor has no `super(..)`; no document is one
abbrev pub IsPlainBase : source.Program → Option Class → Type 0
IsPlainBase p (Some (Class.File k)) = (is_some (slice_get p.classes k) ≡ true) × (document_of p (Class.File k) ≡ None) × TakesNothing p k
IsPlainBase p base = Unit {0}

-- a class without a document whose variables and written constructor are plain
pub record IsPlainClass (p : source.Program) (class : source.SourceClass) : Type 0 where
  pub variables : (n : ℕ) (v : source.Variable) (e : Expr) → slice_get class.variables n ≡ Some v → v.start ≡ Some e → IsPlain p (Some class.base) e
  pub base : class.constructor ≡ None → IsPlainBase p class.base
  pub base_unless_super : (constructor : source.Constructor) → class.constructor ≡ Some constructor → constructor.calls_super ≡ false → IsPlainBase p class.base
  pub written :
      (constructor : source.Constructor) (m : Method) → class.constructor ≡ Some constructor → slice_get p.methods constructor.method ≡ Some m
      → (m.result ≡ None) × IsPlainBlock p (Some class.base) m.body

abbrev pub HasPlainClasses : source.Program → Type 0
HasPlainClasses p = (number : ℕ) (class : source.SourceClass) → slice_get p.classes number ≡ Some class → class.document ≡ None → IsPlainClass p class

-- an instance of a document: the document itself, or one of its parts behind the root
abbrev pub HasInstance : source.Document → ℕ → Type 0
HasInstance d zero = Unit {0}
HasInstance d (suc number) = (place : ℕ) × (part : source.Part) × (slice_get (behind_root (parts_of d.root)) place ≡ Some part) × (part.number ≡ suc number)

abbrev pub IsPlainSource : source.Program → source.Document → source.BindingSource → Type 0
IsPlainSource p d (source.BindingSource.An_expression e) = IsPlain p None e
IsPlainSource p d (source.BindingSource.A_property instance name) = HasInstance d instance

abbrev pub IsPlainDestination : source.Document → source.Destination → Type 0
IsPlainDestination d (source.Destination.In_instance instance name) = HasInstance d instance
IsPlainDestination d (source.Destination.At_chain names) = Unit {0}

-- a chain starts at the document or at an instance
abbrev pub HasStart : source.Document → Option ℕ → Type 0
HasStart d None = Unit {0}
HasStart d (Some instance) = HasInstance d instance

-- each binding of each document is plain
abbrev pub HasPlainBindings : source.Program → Type 0
HasPlainBindings p =
    (k : ℕ) (d : source.Document) (number : ℕ) (b : source.Binding) → document_of p (Class.File k) ≡ Some d → slice_get d.bindings number ≡ Some b
    → IsPlainSource p d b.source × IsPlainDestination d b.destination × ((n : ℕ) (chain : source.Chain) → slice_get b.chains n ≡ Some chain → HasStart d chain.start)

-- what isn't proved yet of the activities of a program, with every number of turns: that states are asked for and documents are constructed as they mean
pub record Premises (t : Setting) : Type 0 where
  pub asks : (n : ℕ) → StatesAreAsked t n (λ task w. activities t.image.source n task w)
  pub documents : (n : ℕ) → DocumentsRun t n (λ task w. activities t.image.source n task w)

-- methods do as they mean with every number of turns, in each setting of each file that has the code of a program
abbrev pub MethodsPlay : Type 0
MethodsPlay =
    (t : Setting) (g : Naming) → IsImage g t.image → HasPlainMethods t.image.source → HasPlainClasses t.image.source → HasPlainBindings t.image.source → Premises t
    → (n : ℕ) → MethodsRun t n (λ task w. activities t.image.source n task w)

-- and so do constructors
abbrev pub ConstructorsPlay : Type 0
ConstructorsPlay =
    (t : Setting) (g : Naming) → IsImage g t.image → HasPlainMethods t.image.source → HasPlainClasses t.image.source → HasPlainBindings t.image.source → Premises t
    → (n : ℕ) → ConstructorsRun t n (λ task w. activities t.image.source n task w)
