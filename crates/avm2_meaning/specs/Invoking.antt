-- Calls, constructors and `newclass`: for code that has taken its operands.
use Rattle.std.specs.Prelude.{Bool, List, None, Option, Some, [], false, is_none, is_some, not, true, ℕ, ◌||◌, ◌∷◌}
use Rattle.avm2_program.specs.declared.class.FileClass.{FileClass}
use Rattle.avm2_program.specs.declared.member.Member.{Member}
use Rattle.avm2_program.specs.declared.file.Program.{Program}
use Rattle.avm2_program.specs.declared.member.TraitPlace.{TraitPlace}
use Rattle.avm2_program.specs.declared.names.Name.{Name}
use Rattle.component_catalog.specs.declared.class.NativeClass.{NativeClass}
use Rattle.flex_base.specs.declared.outcome.MachineFault.TheVariants as fault
use Rattle.flex_base.specs.declared.outcome.Stop.TheVariants as stop
use Rattle.flex_base.specs.declared.value.ObjId.{ObjId}
use Rattle.flex_base.specs.declared.value.Value.{Value}
use Rattle.flex_base.specs.declared.value.Value.TheVariants as value
use Rattle.flex_world.specs.declared.kind.Class.TheVariants as Class
use Rattle.flex_world.specs.declared.kind.StaticType.{StaticType}
use Rattle.avm2_meaning.specs.Arrays.{pop, push}
use Rattle.avm2_meaning.specs.Calls.{call_method, initialiser}
use Rattle.avm2_meaning.specs.Classes.{body_of, file_class_at, is_event_object, owner_of}
use Rattle.avm2_meaning.specs.Conversions.{call_class, object_number}
use Rattle.avm2_meaning.specs.Effects.{Acted, acted, goes_on, silent, with_top}
use Rattle.avm2_meaning.specs.declared.effect.Next.{Next}
use Rattle.avm2_meaning.specs.declared.effect.Next.TheVariants as Next
use Rattle.avm2_meaning.specs.Frames.{keeps}
use Rattle.avm2_meaning.specs.declared.work.Work.{Work}
use Rattle.avm2_meaning.specs.Heap.{made_class, with_made}
use Rattle.avm2_meaning.specs.declared.heap.Heap.{Heap}
use Rattle.avm2_meaning.specs.declared.heap.MadeClass.{MadeClass}
use Rattle.avm2_meaning.specs.Making.{begin_event, constructor_arguments}
use Rattle.avm2_meaning.specs.Members.{base_member, member}
use Rattle.avm2_meaning.specs.Natives.{call_catalog, call_trace}
use Rattle.avm2_meaning.specs.Operands.{class_value, file_type, is_class, is_null}
use Rattle.avm2_meaning.specs.declared.operand.Operand.{Operand}
use Rattle.avm2_meaning.specs.declared.operand.Operand.TheVariants.{Plain}
use Rattle.avm2_meaning.specs.Properties.{is_written_at}
use Rattle.avm2_meaning.specs.Replies.{finish, gives}
use Rattle.avm2_meaning.specs.declared.reply.Reply.{Reply}
use Rattle.avm2_meaning.specs.Results.{Goes, Result, bind, choose, faults, mapped, need, on, or_fault, plain, stops, test}
use Rattle.avm2_meaning.specs.Runtime.{call_runtime}

-- the class value of the base, or null where there is no base
abbrev pub test_base : Option StaticType → Operand → Heap → Result (Unit {0})
test_base None v h = test fault.WrongKind (is_null v) h
test_base (Some StaticType.Unnamed) v h = faults fault.NoName h
test_base (Some (StaticType.Object class)) v h = test fault.WrongKind (is_class (StaticType.Object class) v) h
test_base (Some _) v h = faults fault.WrongKind h

abbrev pub made_with : List Operand → FileClass → MadeClass
made_with scopes class = record { scopes = scopes; statics = record { slots = class.own_slots; written = [] } }

module _ (p : Program) where
  -- a class value that is called converts its one argument
  abbrev pub convert_one : StaticType → List Operand → Heap → Result Reply
  convert_one type (v ∷ []) h = bind (plain v h) (λ v1 h1. bind (call_class p type v1 h1) (λ result h2. gives result h2))
  convert_one type _ h = faults fault.WrongCount h

  -- the same of a place for a class that was written
  abbrev pub call_trait : Operand → TraitPlace → ℕ → List Operand → Heap → Result Reply
  call_trait holder place class arguments h =
      choose (is_written_at holder place h) (convert_one (file_type class) arguments) (faults fault.WrongKind) h

  -- what isn't a method of the file, and gives its result by itself
  abbrev pub call_other : Bool → Operand → Member → List Operand → Heap → Result Reply
  call_other keeps receiver (Member.ClassTrait place class) arguments h = call_trait receiver place class arguments h
  call_other keeps receiver (Member.ClassOf type) arguments h = convert_one type arguments h
  call_other keeps receiver Member.Unplayed arguments h = faults fault.NotHere h
  call_other keeps receiver Member.Trace arguments h = call_trace arguments h
  call_other keeps receiver (Member.Catalog m) arguments h = call_catalog p keeps receiver m arguments h
  call_other keeps receiver Member.Push arguments h = push receiver arguments h
  call_other keeps receiver Member.Pop arguments h = pop receiver arguments h
  call_other keeps receiver (Member.Runtime call) arguments h = call_runtime p receiver call arguments h
  call_other keeps receiver _ arguments h = faults fault.WrongKind h

  abbrev pub call_written : ℕ → Operand → List Operand → Bool → Work → Heap → Result (Acted Work)
  call_written m receiver arguments keeps w h = bind (call_method p m receiver arguments keeps h) (λ e h1. Goes (acted e w) h1)

  -- calls what a name is at a receiver
  abbrev pub call_member : Bool → Operand → Member → List Operand → Work → Heap → Result (Acted Work)
  call_member keeps receiver (Member.Written m) arguments w h = call_written m receiver arguments keeps w h
  call_member keeps receiver member arguments w h = mapped (finish keeps w) (call_other keeps receiver member arguments h)

  -- the class at whose base `super` begins, in a method of a class, on an object
  abbrev pub super_class : Work → Operand → Heap → Result FileClass
  super_class w (Plain value.Undefined) h = stops stop.NullReference h
  super_class w (Plain value.Null) h = stops stop.NullReference h
  super_class w (Plain (value.Ref o)) h =
      or_fault fault.WrongKind (owner_of p w.method) h (λ k. need (file_class_at p k) h (λ class. Goes class h))
  super_class w _ h = faults fault.WrongKind h

  abbrev pub call_base : Option StaticType → Name → Operand → List Operand → Work → Heap → Result (Acted Work)
  call_base None n receiver arguments w h = faults fault.NoName h
  call_base (Some type) n receiver arguments w h =
      or_fault fault.NoName (base_member p type n) h (λ m. call_member true receiver m arguments w h)

  abbrev pub call_super : Name → Operand → List Operand → Work → Heap → Result (Acted Work)
  call_super n receiver arguments w h = bind (super_class w receiver h) (λ class h1. call_base class.base n receiver arguments w h1)

  -- without a base, and at a native class that is no event, the constructor takes nothing and does nothing
  abbrev pub no_arguments : List Operand → Work → Heap → Result (Acted Work)
  no_arguments [] w h = goes_on w h
  no_arguments _ w h = faults fault.WrongCount h

  -- the constructor of an event writes the fields of an event
  abbrev pub begin_base_event : ObjId → List Value → Work → Heap → Result (Acted Work)
  begin_base_event o [] w h = goes_on w h
  begin_base_event o vs w h =
      on o h (λ object. bind (test fault.WrongKind (is_event_object p object) h) (λ _ h1. bind (begin_event o vs h1) (λ _ h2. goes_on w h2)))

  abbrev pub construct_native_base : NativeClass → Operand → List Operand → Work → Heap → Result (Acted Work)
  construct_native_base class receiver arguments w h =
      bind (constructor_arguments p class arguments h) (λ vs h1. bind (object_number receiver h1) (λ o h2. begin_base_event o vs w h2))

  abbrev pub construct_file_base : ℕ → Operand → List Operand → Work → Heap → Result (Acted Work)
  construct_file_base k receiver arguments w h =
      need (file_class_at p k) h (λ class. call_written class.constructor receiver arguments false w h)

  abbrev pub construct_base : Option StaticType → Operand → List Operand → Work → Heap → Result (Acted Work)
  construct_base None receiver arguments w h = no_arguments arguments w h
  construct_base (Some StaticType.Unnamed) receiver arguments w h = faults fault.NoName h
  construct_base (Some (StaticType.Object (Class.Native class))) receiver arguments w h = construct_native_base class receiver arguments w h
  construct_base (Some (StaticType.Object (Class.File k))) receiver arguments w h = construct_file_base k receiver arguments w h
  construct_base (Some _) receiver arguments w h = faults fault.WrongKind h

  abbrev pub construct_super : Operand → List Operand → Work → Heap → Result (Acted Work)
  construct_super receiver arguments w h = bind (super_class w receiver h) (λ class h1. construct_base class.base receiver arguments w h1)

  -- a class can be made once, and only where all of it is played
  abbrev pub can_be_made : ℕ → FileClass → Heap → Bool
  can_be_made k class h = not (is_some (made_class k h) || class.is_unplayed || is_none (body_of p class.initialiser))

  -- a class is made, and then its initialiser runs on it
  abbrev pub make_class : ℕ → FileClass → Work → Heap → Result (Acted Work)
  make_class k class w h =
      bind (initialiser p class.initialiser (class_value k) h) (λ call h1.
      Goes (acted (silent (Next.Initialises k call)) (with_top (class_value k) w)) (with_made (made_with w.scopes class) k h1))

  abbrev pub new_class : ℕ → Operand → Work → Heap → Result (Acted Work)
  new_class k v w h =
      need (file_class_at p k) h (λ class.
      bind (test fault.NotHere (can_be_made k class h) h) (λ _ h1.
      bind (test_base class.base v h1) (λ _ h2.
      make_class k class w h2)))
