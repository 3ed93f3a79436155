-- No instruction changes the method of its body.
use Rattle.std.proofs.Common.{◌≡◌, refl, ℕ, zero, suc, List, [], ◌∷◌, Bool, true, false, Option, Some, None}
use Rattle.flex_base.specs.declared.outcome.MachineFault.{MachineFault}
use Rattle.flex_base.specs.declared.value.ObjId.{ObjId}
use Rattle.flex_base.specs.declared.value.Value.{Value}
use Rattle.flex_world.specs.declared.kind.Class.TheVariants as Class
use Rattle.flex_world.specs.declared.kind.StaticType.{StaticType}
use Rattle.avm2_program.specs.declared.names.Name.{Name}
use Rattle.avm2_program.specs.declared.member.Member.{Member}
use Rattle.avm2_program.specs.declared.operation.Operation.{Operation}
use Rattle.avm2_program.specs.declared.file.Program.{Program}
use Rattle.avm2_meaning.specs.Act.{act, construct_value, inverted, negated_operand, on_top, pop_all, pop_operand, popped_of, property_at, return_value, same_plain, taken_off, text_of, with_receiver, without_scope}
use Rattle.avm2_meaning.specs.Conversions.{convert}
use Rattle.avm2_meaning.specs.Effects.{Acted}
use Rattle.avm2_meaning.specs.declared.work.Work.{Work}
use Rattle.avm2_meaning.specs.declared.heap.Heap.{Heap}
use Rattle.avm2_meaning.specs.Invoking.{begin_base_event, call_base, call_member, construct_base, new_class, no_arguments}
use Rattle.avm2_meaning.specs.Making.{construct}
use Rattle.avm2_meaning.specs.Operands.{undefined}
use Rattle.avm2_meaning.specs.declared.operand.Operand.{Operand}
use Rattle.avm2_meaning.specs.declared.operand.Operand.TheVariants.{ClassValue, Natives, Plain, ScriptValue}
use Rattle.avm2_meaning.specs.Replies.{finish, with_reply}
use Rattle.avm2_meaning.specs.declared.reply.Reply.{Reply}
use Rattle.avm2_meaning.specs.Results.{Goes, Halts, Result, bind, choose, mapped, need, or_fault}

-- the method is this, where the play goes on
abbrev pub KeepsIn : ℕ → Result (Acted Work) → Type 0
KeepsIn m (Goes a h) = a.work.method ≡ m
KeepsIn m (Halts o) = Unit {0}

pub record Keeps (m : ℕ) (r : Result (Acted Work)) : Type 0 where
  pub keeps : KeepsIn m r

module _ (m : ℕ) where
  keeps_bind : {A : Type 0} (r : Result A) (f : A → Heap → Result (Acted Work)) → ((v : A) (h : Heap) → Keeps m (f v h)) → Keeps m (bind r f)
  keeps_bind (Goes v h) f k = k v h
  keeps_bind (Halts o) f k = record { keeps = tt }

  keeps_need : {A : Type 0} (o : Option A) (h : Heap) (f : A → Result (Acted Work)) → ((v : A) → Keeps m (f v)) → Keeps m (need o h f)
  keeps_need (Some v) h f k = k v
  keeps_need None h f k = record { keeps = tt }

  keeps_or_fault : {A : Type 0} (fault : MachineFault) (o : Option A) (h : Heap) (f : A → Result (Acted Work)) → ((v : A) → Keeps m (f v)) → Keeps m (or_fault fault o h f)
  keeps_or_fault fault (Some v) h f k = k v
  keeps_or_fault fault None h f k = record { keeps = tt }

  keeps_choose : (b : Bool) (first second : Heap → Result (Acted Work)) (h : Heap) → Keeps m (first h) → Keeps m (second h) → Keeps m (choose b first second h)
  keeps_choose true first second h k l = k
  keeps_choose false first second h k l = l

  keeps_mapped : {A : Type 0} (f : A → Acted Work) (r : Result A) → ((v : A) → (f v).work.method ≡ m) → Keeps m (mapped f r)
  keeps_mapped f (Goes v h) k = record { keeps = k v }
  keeps_mapped f (Halts o) k = record { keeps = tt }

  keeps_popped : (w : Work) (stack : List Operand) (h : Heap) (k : Operand → Work → Result (Acted Work)) → ((v : Operand) (rest : List Operand) → Keeps m (k v (record w { stack = rest }))) → Keeps m (popped_of w stack h k)
  keeps_popped w [] h k l = record { keeps = tt }
  keeps_popped w (v ∷ stack) h k l = l v stack

  keeps_pop : (w : Work) (h : Heap) (k : Operand → Work → Result (Acted Work)) → ((v : Operand) (rest : List Operand) → Keeps m (k v (record w { stack = rest }))) → Keeps m (pop_operand w h k)
  keeps_pop w h k l = keeps_popped w w.stack h k l

  keeps_taken : (n : ℕ) (vs stack : List Operand) (w : Work) (h : Heap) (k : List Operand → Work → Result (Acted Work)) → ((vs : List Operand) (rest : List Operand) → Keeps m (k vs (record w { stack = rest })))
      → Keeps m (taken_off n vs stack w h k)
  keeps_taken zero vs stack w h k l = l vs stack
  keeps_taken (suc n) vs [] w h k l = record { keeps = tt }
  keeps_taken (suc n) vs (v ∷ stack) w h k l = keeps_taken n (v ∷ vs) stack w h k l

  keeps_pop_all : (n : ℕ) (w : Work) (h : Heap) (k : List Operand → Work → Result (Acted Work)) → ((vs : List Operand) (rest : List Operand) → Keeps m (k vs (record w { stack = rest }))) → Keeps m (pop_all n w h k)
  keeps_pop_all n w h k l = keeps_taken n [] w.stack w h k l

  keeps_receiver : (p : Program) (n : ℕ) (w : Work) (h : Heap) (k : Operand → List Operand → Work → Result (Acted Work))
      → ((receiver : Operand) (vs : List Operand) (rest : List Operand) → Keeps m (k receiver vs (record w { stack = rest }))) → Keeps m (with_receiver p n w h k)
  keeps_receiver p n w h k l = keeps_pop_all n w h _ (λ vs rest. keeps_pop (record w { stack = rest }) h _ (λ receiver rest1. l receiver vs rest1))

module _ (p : Program) where
  with_reply_keeps : (keeps : Bool) (w : Work) (v : Option Value) → (with_reply keeps v w).method ≡ w.method
  with_reply_keeps keeps w None = refl
  with_reply_keeps true w (Some v) = refl
  with_reply_keeps false w (Some v) = refl

  reply_keeps : (keeps : Bool) (w : Work) (r : Reply) → (finish keeps w r).work.method ≡ w.method
  reply_keeps keeps w r = with_reply_keeps keeps w r.value

  member_keeps : (keeps : Bool) (receiver : Operand) (member : Member) (arguments : List Operand) (w : Work) (h : Heap) → Keeps w.method (call_member p keeps receiver member arguments w h)
  member_keeps keeps receiver (Member.Written m) arguments w h = search (keeps_bind w.method)
  member_keeps keeps receiver (Member.Slot key) arguments w h = search (keeps_mapped w.method, reply_keeps)
  member_keeps keeps receiver (Member.HiddenSlot key) arguments w h = search (keeps_mapped w.method, reply_keeps)
  member_keeps keeps receiver (Member.OwnSlot n type) arguments w h = search (keeps_mapped w.method, reply_keeps)
  member_keeps keeps receiver (Member.ClassTrait place class) arguments w h = search (keeps_mapped w.method, reply_keeps)
  member_keeps keeps receiver Member.Unplayed arguments w h = search (keeps_mapped w.method, reply_keeps)
  member_keeps keeps receiver (Member.Catalog m) arguments w h = search (keeps_mapped w.method, reply_keeps)
  member_keeps keeps receiver (Member.Runtime call) arguments w h = search (keeps_mapped w.method, reply_keeps)
  member_keeps keeps receiver Member.Push arguments w h = search (keeps_mapped w.method, reply_keeps)
  member_keeps keeps receiver Member.Pop arguments w h = search (keeps_mapped w.method, reply_keeps)
  member_keeps keeps receiver Member.ArrayLength arguments w h = search (keeps_mapped w.method, reply_keeps)
  member_keeps keeps receiver Member.TextLength arguments w h = search (keeps_mapped w.method, reply_keeps)
  member_keeps keeps receiver Member.Trace arguments w h = search (keeps_mapped w.method, reply_keeps)
  member_keeps keeps receiver (Member.ClassOf type) arguments w h = search (keeps_mapped w.method, reply_keeps)

  construct_keeps : (type : StaticType) (arguments : List Operand) (w : Work) (h : Heap) → Keeps w.method (construct p type arguments w h)
  construct_keeps (StaticType.Object (Class.Native class)) arguments w h = search (keeps_bind w.method)
  construct_keeps (StaticType.Object (Class.File k)) arguments w h = search (keeps_mapped w.method)
  construct_keeps StaticType.Any arguments w h = record { keeps = tt }
  construct_keeps StaticType.Unnamed arguments w h = record { keeps = tt }
  construct_keeps StaticType.Int arguments w h = record { keeps = tt }
  construct_keeps StaticType.Boolean arguments w h = record { keeps = tt }
  construct_keeps StaticType.String arguments w h = record { keeps = tt }
  construct_keeps StaticType.Array arguments w h = record { keeps = tt }

  construct_value_keeps : (v : Operand) (arguments : List Operand) (w : Work) (h : Heap) → Keeps w.method (construct_value p v arguments w h)
  construct_value_keeps (ClassValue type) arguments w h = construct_keeps type arguments w h
  construct_value_keeps (Plain v) arguments w h = record { keeps = tt }
  construct_value_keeps (ScriptValue n) arguments w h = record { keeps = tt }
  construct_value_keeps Natives arguments w h = record { keeps = tt }

  base_keeps : (base : Option StaticType) (n : Name) (receiver : Operand) (arguments : List Operand) (w : Work) (h : Heap) → Keeps w.method (call_base p base n receiver arguments w h)
  base_keeps None n receiver arguments w h = record { keeps = tt }
  base_keeps (Some type) n receiver arguments w h = search (keeps_or_fault w.method, member_keeps)

  event_keeps : (o : ObjId) (vs : List Value) (w : Work) (h : Heap) → Keeps w.method (begin_base_event p o vs w h)
  event_keeps o [] w h = record { keeps = refl }
  event_keeps o (v ∷ vs) w h = search (keeps_bind w.method, keeps_need w.method)

  no_arguments_keeps : (arguments : List Operand) (w : Work) (h : Heap) → Keeps w.method (no_arguments p arguments w h)
  no_arguments_keeps [] w h = record { keeps = refl }
  no_arguments_keeps (v ∷ vs) w h = record { keeps = tt }

  construct_base_keeps : (base : Option StaticType) (receiver : Operand) (arguments : List Operand) (w : Work) (h : Heap) → Keeps w.method (construct_base p base receiver arguments w h)
  construct_base_keeps None receiver arguments w h = no_arguments_keeps arguments w h
  construct_base_keeps (Some (StaticType.Object (Class.Native class))) receiver arguments w h = search (keeps_bind w.method, event_keeps)
  construct_base_keeps (Some (StaticType.Object (Class.File k))) receiver arguments w h = search (keeps_bind w.method, keeps_need w.method)
  construct_base_keeps (Some StaticType.Any) receiver arguments w h = record { keeps = tt }
  construct_base_keeps (Some StaticType.Unnamed) receiver arguments w h = record { keeps = tt }
  construct_base_keeps (Some StaticType.Int) receiver arguments w h = record { keeps = tt }
  construct_base_keeps (Some StaticType.Boolean) receiver arguments w h = record { keeps = tt }
  construct_base_keeps (Some StaticType.String) receiver arguments w h = record { keeps = tt }
  construct_base_keeps (Some StaticType.Array) receiver arguments w h = record { keeps = tt }

  new_class_keeps : (k : ℕ) (v : Operand) (w : Work) (h : Heap) → Keeps w.method (new_class p k v w h)
  new_class_keeps k v w h = search (keeps_bind w.method, keeps_need w.method)

  scope_keeps : (w : Work) (scopes : List Operand) (h : Heap) → Keeps w.method (without_scope w scopes h)
  scope_keeps w [] h = record { keeps = tt }
  scope_keeps w (v ∷ scopes) h = record { keeps = refl }

  return_keeps : (v : Operand) (w : Work) (h : Heap) → Keeps w.method (return_value p v w h)
  return_keeps v w h = search (keeps_bind w.method, keeps_need w.method)

  top_keeps : (g : Operand → Heap → Result Operand) (w : Work) (h : Heap) → Keeps w.method (on_top g w h)
  top_keeps g w h = search (keeps_bind w.method, keeps_pop w.method)

  member_keeps_on : (w : Work) (rest : List Operand) (keeps : Bool) (receiver : Operand) (member : Member) (arguments : List Operand) (h : Heap) → Keeps w.method (call_member p keeps receiver member arguments (record w { stack = rest }) h)
  member_keeps_on w rest keeps receiver member arguments h = member_keeps keeps receiver member arguments (record w { stack = rest }) h

  base_keeps_on : (w : Work) (rest : List Operand) (base : Option StaticType) (n : Name) (receiver : Operand) (arguments : List Operand) (h : Heap) → Keeps w.method (call_base p base n receiver arguments (record w { stack = rest }) h)
  base_keeps_on w rest base n receiver arguments h = base_keeps base n receiver arguments (record w { stack = rest }) h

  construct_value_keeps_on : (w : Work) (rest : List Operand) (v : Operand) (arguments : List Operand) (h : Heap) → Keeps w.method (construct_value p v arguments (record w { stack = rest }) h)
  construct_value_keeps_on w rest v arguments h = construct_value_keeps v arguments (record w { stack = rest }) h

  construct_base_keeps_on : (w : Work) (rest : List Operand) (base : Option StaticType) (receiver : Operand) (arguments : List Operand) (h : Heap) → Keeps w.method (construct_base p base receiver arguments (record w { stack = rest }) h)
  construct_base_keeps_on w rest base receiver arguments h = construct_base_keeps base receiver arguments (record w { stack = rest }) h

  return_keeps_on : (w : Work) (rest : List Operand) (v : Operand) (h : Heap) → Keeps w.method (return_value p v (record w { stack = rest }) h)
  return_keeps_on w rest v h = return_keeps v (record w { stack = rest }) h

  new_class_keeps_on : (w : Work) (rest : List Operand) (k : ℕ) (v : Operand) (h : Heap) → Keeps w.method (new_class p k v (record w { stack = rest }) h)
  new_class_keeps_on w rest k v h = new_class_keeps k v (record w { stack = rest }) h

  pub act_keeps : (o : Operation) (w : Work) (h : Heap) → Keeps w.method (act p o w h)
  act_keeps Operation.Skip w h = record { keeps = refl }
  act_keeps Operation.Label w h = record { keeps = refl }
  act_keeps (Operation.Jump target) w h = record { keeps = refl }
  act_keeps (Operation.Branch condition target) w h = search (keeps_bind w.method, keeps_choose w.method, keeps_pop w.method)
  act_keeps (Operation.Push v) w h = record { keeps = refl }
  act_keeps Operation.Pop w h = search (keeps_pop w.method)
  act_keeps Operation.Dup w h = search (keeps_pop w.method)
  act_keeps Operation.Swap w h = search (keeps_pop w.method)
  act_keeps Operation.PushScope w h = search (keeps_pop w.method)
  act_keeps Operation.PopScope w h = scope_keeps w w.scopes h
  act_keeps (Operation.GetScopeObject n) w h = search (keeps_need w.method)
  act_keeps (Operation.GetLocal n) w h = search (keeps_need w.method)
  act_keeps (Operation.SetLocal n) w h = search (keeps_need w.method, keeps_pop w.method)
  act_keeps (Operation.FindProperty n) w h = search (keeps_bind w.method)
  act_keeps (Operation.GetLex n) w h = search (keeps_bind w.method)
  act_keeps (Operation.GetProperty n) w h = top_keeps (property_at p n) w h
  act_keeps (Operation.SetProperty n) w h = search (keeps_bind w.method, keeps_pop w.method)
  act_keeps Operation.GetElement w h = search (keeps_bind w.method, keeps_pop w.method)
  act_keeps Operation.SetElement w h = search (keeps_bind w.method, keeps_pop w.method)
  act_keeps (Operation.CallProperty keeps n count) w h = search (keeps_bind w.method, keeps_receiver w.method, member_keeps_on w)
  act_keeps (Operation.CallSuper n count) w h = search (keeps_bind w.method, keeps_receiver w.method, base_keeps_on w)
  act_keeps (Operation.ConstructProperty n count) w h = search (keeps_bind w.method, keeps_receiver w.method, construct_value_keeps_on w)
  act_keeps (Operation.ConstructSuper count) w h = search (keeps_bind w.method, keeps_receiver w.method, construct_base_keeps_on w)
  act_keeps Operation.ReturnVoid w h = return_keeps undefined w h
  act_keeps Operation.ReturnValue w h = search (keeps_pop w.method, return_keeps_on w)
  act_keeps (Operation.NewArray count) w h = search (keeps_bind w.method, keeps_pop_all w.method)
  act_keeps (Operation.NewClass k) w h = search (keeps_pop w.method, new_class_keeps_on w)
  act_keeps Operation.ToText w h = top_keeps text_of w h
  act_keeps (Operation.Convert type) w h = top_keeps (convert p type) w h
  act_keeps Operation.CoerceAny w h = top_keeps same_plain w h
  act_keeps Operation.Negate w h = top_keeps negated_operand w h
  act_keeps Operation.Not w h = top_keeps inverted w h
  act_keeps (Operation.Apply operator) w h = search (keeps_bind w.method, keeps_pop w.method)
