-- One instruction: from the work of its body and the heap to an effect, and the work and the heap as they are then.
use Rattle.std.specs.Prelude.{Bool, List, Some, [], false, not, reverse, slice_get, suc, true, zero, ℕ, ◌∷◌}
use Rattle.avm2_program.specs.declared.operation.Operation.{Operation}
use Rattle.avm2_program.specs.declared.file.Program.{Program}
use Rattle.avm2_program.specs.declared.names.Name.{Name}
use Rattle.flex_base.specs.Lists.{changed_at}
use Rattle.flex_base.specs.Value.{to_bool, to_text}
use Rattle.flex_base.specs.declared.outcome.MachineFault.TheVariants as fault
use Rattle.flex_base.specs.declared.value.Value.TheVariants as value
use Rattle.flex_world.specs.Objects.{count}
use Rattle.flex_world.specs.Operators.{negated, operate}
use Rattle.flex_world.specs.declared.operator.Operator.{Operator}
use Rattle.avm2_meaning.specs.Arrays.{element_of, write_element}
use Rattle.avm2_meaning.specs.Classes.{method_at}
use Rattle.avm2_meaning.specs.Conversions.{convert}
use Rattle.avm2_meaning.specs.Effects.{Acted, acted, goes_on, pushes, silent}
use Rattle.avm2_meaning.specs.declared.effect.Next.{Next}
use Rattle.avm2_meaning.specs.declared.effect.Next.TheVariants as Next
use Rattle.avm2_meaning.specs.Frames.{keeps}
use Rattle.avm2_meaning.specs.declared.work.Work.{Work}
use Rattle.avm2_meaning.specs.declared.heap.Heap.{Heap}
use Rattle.avm2_meaning.specs.Invoking.{call_member, call_super, construct_super, new_class}
use Rattle.avm2_meaning.specs.Making.{construct, new_array}
use Rattle.avm2_meaning.specs.Members.{found, look_up, member}
use Rattle.avm2_meaning.specs.Operands.{ref, undefined}
use Rattle.avm2_meaning.specs.declared.operand.Operand.{Operand}
use Rattle.avm2_meaning.specs.declared.operand.Operand.TheVariants.{ClassValue, Plain}
use Rattle.avm2_meaning.specs.Properties.{read, write}
use Rattle.avm2_meaning.specs.Results.{Goes, Result, all_plain, bind, choose, faults, given, lacks, need, or_fault, plain}

-- with the top of the stack, which is taken off
abbrev pub popped_of : Work → List Operand → Heap → (Operand → Work → Result (Acted Work)) → Result (Acted Work)
popped_of w [] h k = lacks h
popped_of w (v ∷ stack) h k = k v (record w { stack = stack })

abbrev pub pop_operand : Work → Heap → (Operand → Work → Result (Acted Work)) → Result (Acted Work)
pop_operand w h k = popped_of w w.stack h k

-- takes off so many, in front of these
abbrev pub taken_off : ℕ → List Operand → List Operand → Work → Heap → (List Operand → Work → Result (Acted Work)) → Result (Acted Work)
taken_off zero vs stack w h k = k vs (record w { stack = stack })
taken_off (suc n) vs [] w h k = lacks h
taken_off (suc n) vs (v ∷ stack) w h k = taken_off n (v ∷ vs) stack w h k

-- with so many arguments, the last of which is on top
abbrev pub pop_all : ℕ → Work → Heap → (List Operand → Work → Result (Acted Work)) → Result (Acted Work)
pop_all count w h k = taken_off count [] w.stack w h k

abbrev pub duplicate : Work → Heap → Result (Acted Work)
duplicate w h = pop_operand w h (λ v w1. pushes v (record w1 { stack = v ∷ w1.stack }) h)

abbrev pub swap : Work → Heap → Result (Acted Work)
swap w h = pop_operand w h (λ b w1. pop_operand w1 h (λ a w2. pushes a (record w2 { stack = b ∷ w2.stack }) h))

abbrev pub push_scope : Work → Heap → Result (Acted Work)
push_scope w h = pop_operand w h (λ v w1. goes_on (record w1 { scopes = v ∷ w1.scopes }) h)

abbrev pub without_scope : Work → List Operand → Heap → Result (Acted Work)
without_scope w [] h = lacks h
without_scope w (v ∷ scopes) h = goes_on (record w { scopes = scopes }) h

-- scopes are numbered from the outer one
abbrev pub get_scope : ℕ → Work → Heap → Result (Acted Work)
get_scope n w h = need (slice_get (reverse w.scopes) n) h (λ v. pushes v w h)

abbrev pub get_local : ℕ → Work → Heap → Result (Acted Work)
get_local n w h = need (slice_get w.locals n) h (λ v. pushes v w h)

abbrev pub set_local : ℕ → Work → Heap → Result (Acted Work)
set_local n w h =
    pop_operand w h (λ v w1. need (slice_get w1.locals n) h (λ _. goes_on (record w1 { locals = changed_at (λ _. v) w1.locals n }) h))

abbrev pub takes_turn : Work → Heap → Result (Acted Work)
takes_turn w h = Goes (acted (silent Next.Turn) w) h

-- the target is that of the instruction
abbrev pub branches : Work → Heap → Result (Acted Work)
branches w h = Goes (acted (silent Next.Branches) w) h

abbrev pub same_bool : Bool → Bool → Bool
same_bool true b = b
same_bool false b = not b

abbrev pub branch_where : Bool → Work → Heap → Result (Acted Work)
branch_where condition w h =
    pop_operand w h (λ v w1. bind (plain v h) (λ v1 h1. choose (same_bool condition (to_bool v1)) (branches w1) (goes_on w1) h1))

-- a value in place of the top of the stack
abbrev pub on_top : (Operand → Heap → Result Operand) → Work → Heap → Result (Acted Work)
on_top g w h = pop_operand w h (λ v w1. bind (g v h) (λ result h1. pushes result w1 h1))

abbrev pub text_of : Operand → Heap → Result Operand
text_of v h = bind (plain v h) (λ v1 h1. bind (given (to_text v1) h1) (λ text h2. Goes (Plain (value.Text text)) h2))

abbrev pub same_plain : Operand → Heap → Result Operand
same_plain v h = bind (plain v h) (λ v1 h1. Goes (Plain v1) h1)

abbrev pub negated_operand : Operand → Heap → Result Operand
negated_operand v h = bind (plain v h) (λ v1 h1. bind (given (negated v1) h1) (λ result h2. Goes (Plain result) h2))

abbrev pub inverted : Operand → Heap → Result Operand
inverted v h = bind (plain v h) (λ v1 h1. Goes (Plain (value.Bool (not (to_bool v1)))) h1)

abbrev pub operated : Operator → Operand → Operand → Heap → Result Operand
operated operator a b h =
    bind (plain a h) (λ x h1. bind (plain b h1) (λ y h2. bind (given (operate operator x y) h2) (λ result h3. Goes (Plain result) h3)))

abbrev pub apply_operator : Operator → Work → Heap → Result (Acted Work)
apply_operator operator w h =
    pop_operand w h (λ b w1. pop_operand w1 h (λ a w2. bind (operated operator a b h) (λ result h1. pushes result w2 h1)))

abbrev pub make_array : ℕ → Work → Heap → Result (Acted Work)
make_array count w h =
    pop_all count w h (λ arguments w1. bind (all_plain arguments h) (λ elements h1. bind (new_array elements h1) (λ a h2. pushes (ref a) w1 h2)))

abbrev pub get_element : Work → Heap → Result (Acted Work)
get_element w h =
    pop_operand w h (λ index w1. pop_operand w1 h (λ holder w2. bind (element_of holder index h) (λ v h1. pushes v w2 h1)))

abbrev pub set_element : Work → Heap → Result (Acted Work)
set_element w h =
    pop_operand w h (λ v w1.
    pop_operand w1 h (λ index w2.
    pop_operand w2 h (λ holder w3.
    bind (write_element holder index v h) (λ _ h1. goes_on w3 h1))))

module _ (p : Program) where
  -- leaves the holder of a name
  abbrev pub find_property : Name → Work → Heap → Result (Acted Work)
  find_property n w h = bind (look_up p w n h) (λ holder h1. pushes holder w h1)

  abbrev pub read_found : Operand → Name → Heap → Result Operand
  read_found holder n h = or_fault fault.NoName (member p holder n h) h (λ m. read holder m h)

  -- looks a name up, and reads it there
  abbrev pub get_lex : Name → Work → Heap → Result (Acted Work)
  get_lex n w h = bind (look_up p w n h) (λ holder h1. bind (read_found holder n h1) (λ v h2. pushes v w h2))

  abbrev pub property_at : Name → Operand → Heap → Result Operand
  property_at n holder h = bind (found p holder n h) (λ m h1. read holder m h1)

  abbrev pub set_property : Name → Work → Heap → Result (Acted Work)
  set_property n w h =
      pop_operand w h (λ v w1.
      pop_operand w1 h (λ holder w2.
      bind (found p holder n h) (λ m h1.
      bind (write p holder m v h1) (λ e h2. Goes (acted e w2) h2))))

  -- with the arguments of a call and its receiver, which stands below them
  abbrev pub with_receiver : ℕ → Work → Heap → (Operand → List Operand → Work → Result (Acted Work)) → Result (Acted Work)
  with_receiver count w h k = pop_all count w h (λ arguments w1. pop_operand w1 h (λ receiver w2. k receiver arguments w2))

  abbrev pub call_property : Bool → Name → ℕ → Work → Heap → Result (Acted Work)
  call_property keeps n count w h =
      with_receiver count w h (λ receiver arguments w1. bind (found p receiver n h) (λ m h1. call_member p keeps receiver m arguments w1 h1))

  abbrev pub construct_value : Operand → List Operand → Work → Heap → Result (Acted Work)
  construct_value (ClassValue type) arguments w h = construct p type arguments w h
  construct_value _ arguments w h = faults fault.WrongKind h

  abbrev pub construct_property : Name → ℕ → Work → Heap → Result (Acted Work)
  construct_property n count w h =
      with_receiver count w h (λ receiver arguments w1. bind (property_at n receiver h) (λ class h1. construct_value class arguments w1 h1))

  -- the result is converted into the type of the method
  abbrev pub return_value : Operand → Work → Heap → Result (Acted Work)
  return_value v w h =
      need (method_at p w.method) h (λ method.
      bind (convert p method.result v h) (λ result h1.
      Goes (acted (silent (Next.Close (Some result))) w) h1))

  abbrev pub act : Operation → Work → Heap → Result (Acted Work)
  act Operation.Skip w h = goes_on w h
  act Operation.Label w h = takes_turn w h
  act (Operation.Jump target) w h = branches w h
  act (Operation.Branch condition target) w h = branch_where condition w h
  act (Operation.Push v) w h = pushes (Plain v) w h
  act Operation.Pop w h = pop_operand w h (λ v w1. goes_on w1 h)
  act Operation.Dup w h = duplicate w h
  act Operation.Swap w h = swap w h
  act Operation.PushScope w h = push_scope w h
  act Operation.PopScope w h = without_scope w w.scopes h
  act (Operation.GetScopeObject n) w h = get_scope n w h
  act (Operation.GetLocal n) w h = get_local n w h
  act (Operation.SetLocal n) w h = set_local n w h
  act (Operation.FindProperty n) w h = find_property n w h
  act (Operation.GetLex n) w h = get_lex n w h
  act (Operation.GetProperty n) w h = on_top (property_at n) w h
  act (Operation.SetProperty n) w h = set_property n w h
  act Operation.GetElement w h = get_element w h
  act Operation.SetElement w h = set_element w h
  act (Operation.CallProperty keeps n count) w h = call_property keeps n count w h
  act (Operation.CallSuper n count) w h = with_receiver count w h (λ receiver arguments w1. call_super p n receiver arguments w1 h)
  act (Operation.ConstructProperty n count) w h = construct_property n count w h
  act (Operation.ConstructSuper count) w h = with_receiver count w h (λ receiver arguments w1. construct_super p receiver arguments w1 h)
  act Operation.ReturnVoid w h = return_value undefined w h
  act Operation.ReturnValue w h = pop_operand w h (λ v w1. return_value v w1 h)
  act (Operation.NewArray count) w h = make_array count w h
  act (Operation.NewClass k) w h = pop_operand w h (λ v w1. new_class p k v w1 h)
  act Operation.ToText w h = on_top text_of w h
  act (Operation.Convert type) w h = on_top (convert p type) w h
  act Operation.CoerceAny w h = on_top same_plain w h
  act Operation.Negate w h = on_top negated_operand w h
  act Operation.Not w h = on_top inverted w h
  act (Operation.Apply operator) w h = apply_operator operator w h
