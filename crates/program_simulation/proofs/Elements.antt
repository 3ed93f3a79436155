-- The elements of arrays in both meanings.
use Rattle.std.proofs.Common.{◌≡◌, refl, sym, ap, ◌∙◌, subst}
use Rattle.std.specs.Prelude.{Bool, Err, List, None, Ok, Option, Some, [], codes, false, if◌then◌else◌, length, map, nat_lt, negsuc, option_map, pos, true, unwrap_or, ℕ, ℤ, ◌+◌, ◌==◌, ◌∷◌}
use Rattle.std.specs.Prelude.{Result as Computed}
use Rattle.flex_base.specs.Value.{and_then, length_of}
use Rattle.flex_base.specs.declared.outcome.MachineFault.TheVariants as fault
use Rattle.flex_base.specs.declared.outcome.Outcome.TheVariants.{Stopped}
use Rattle.flex_base.specs.declared.outcome.Stop.TheVariants as stop
use Rattle.flex_base.specs.declared.outcome.Stop.{Stop}
use Rattle.flex_base.specs.declared.value.ObjId.{ObjId}
use Rattle.flex_base.specs.declared.value.Value.TheVariants as value
use Rattle.flex_base.specs.declared.value.Value.{Value}
use Rattle.flex_world.specs.Arrays.{element_or_undefined, most_elements, with_element, with_last, without_last}
use Rattle.flex_world.specs.Objects.{An_array, Instance_of, Kind, Object, count, is_array, is_array_kind, object_at}
use Rattle.flex_meaning.specs.Arrays as source
use Rattle.flex_meaning.specs.Expressions.{length_value, receiver}
use Rattle.flex_meaning.specs.Results.{Goes, bind, choose, guarded, need, stops}
use Rattle.flex_meaning.specs.Results.{done}
use Rattle.flex_meaning.specs.Turns.{pay}
use Rattle.flex_meaning.specs.World.{World, change_object}
use Rattle.program_simulation.proofs.Equations.{found_there}
use Rattle.program_simulation.proofs.Follows.{Alike, alike_bind, alike_from, alike_goes, alike_guarded, alike_halts, alike_step, alike_stuck, unrecorded}
use Rattle.program_simulation.proofs.Standing.{Keeps, entity_there, heap_changed, holds_changed, object_there}
use Rattle.program_simulation.specs.Stands.{Image, beside, entity_of, heap_of, stage_of}
use Rattle.avm2_program.specs.Names.{public_name}
use Rattle.avm2_program.specs.declared.member.Member.{Member}
use Rattle.avm2_program.specs.declared.names.Name.{Name}
use Rattle.flex_objects.specs.Entities.{element_at}
use Rattle.ui_runtime.specs.Arrays as elements
use Rattle.ui_runtime.specs.Making.{most_cells}
use Rattle.stage_objects.specs.Entities as table
use Rattle.ui_runtime.specs.Stage as stage
use Rattle.ui_runtime.specs.Stage.{Stage}
use Rattle.avm2_meaning.specs.Act.{property_at}
use Rattle.avm2_meaning.specs.Arrays as arrays
use Rattle.avm2_meaning.specs.declared.heap.Heap.{Heap}
use Rattle.avm2_meaning.specs.Members.{found, kind_member}
use Rattle.avm2_meaning.specs.declared.operand.Operand.TheVariants.{Plain}
use Rattle.avm2_meaning.specs.Properties as properties
use Rattle.avm2_meaning.specs.Results as machine

pub all_plain_are : (vs : List Value) (s : Heap) → machine.all_plain (map Plain vs) s ≡ machine.Goes vs s
all_plain_are [] s = refl
all_plain_are (v ∷ vs) s = ap (λ y. machine.bind y (λ vs1 s1. machine.Goes (v ∷ vs1) s1)) (all_plain_are vs s)

-- a value that is made of another, and what follows
pub mapped_then : {A B C : Type 0} (f : A → B) (y : machine.Result A) (k : B → Heap → machine.Result C)
    → machine.bind (machine.bind y (λ a s. machine.Goes (f a) s)) k ≡ machine.bind y (λ a s. k (f a) s)
mapped_then f (machine.Goes a s) k = refl
mapped_then f (machine.Halts o) k = refl

last_kept : (v : Value) → Keeps (with_last v)
last_kept v = record { kind = λ c. refl; enabled = λ c. refl; names = λ c name. refl }

element_kept : (n : ℕ) (v : Value) → Keeps (with_element n v)
element_kept n v = record { kind = λ c. refl; enabled = λ c. refl; names = λ c name. refl }

pub pop_kept : Keeps without_last
pop_kept = record { kind = λ c. refl; enabled = λ c. refl; names = λ c name. refl }

module _ (q : Image) (order : List ObjId) where
  -- the elements of an array that there is
  pub elements_there : (w : World) (a : ObjId) (c : Object) → object_at w.objects a ≡ Some c → stage.elements_at a (stage_of q order w) ≡ c.elements
  elements_there w a c e = ap table.elements_of (entity_there q order w a ∙ ap (option_map (λ d. entity_of q (beside w) a d)) e)

  pub array_there : (w : World) (a : ObjId) (c : Object) → object_at w.objects a ≡ Some c → is_array c ≡ true → arrays.array_at a (heap_of q order w) ≡ machine.Goes tt (heap_of q order w)
  array_there w a c e is =
      ap (λ y. machine.need y (heap_of q order w) (λ d. machine.test fault.WrongKind (is_array d) (heap_of q order w))) (object_there q order w a ∙ e)
      ∙ ap (λ b. machine.test fault.WrongKind b (heap_of q order w)) is

  -- a value is appended
  append_there : (a : ObjId) (v : Value) (w : World) (c : Object) → object_at w.objects a ≡ Some c
      → Alike q order w unrecorded (λ (u : Unit {0}). u) (bind (source.room c w) (λ _ w2. done (change_object a (with_last v) w2))) (arrays.stored_element (heap_of q order w) (elements.appends a v (stage_of q order w)))
  append_there a v w c e =
      alike_from
      (ap (λ l. arrays.stored_element (heap_of q order w) (and_then (if nat_lt (length l) most_elements then elements_pays else Err stop.ArrayLength) (λ s1. Ok (stage.change a (with_last v) s1)))) (elements_there w a c e))
      (by (nat_lt (length c.elements) most_elements))
    where
      elements_pays : Computed Stage Stop
      elements_pays = Rattle.ui_runtime.specs.Making.pays 1 (stage_of q order w)

      paid : (b : Bool) → Alike q order w unrecorded (λ (u : Unit {0}). u)
          (bind (if b then stops stop.Cells w else done (record w { cells = w.cells + 1 })) (λ _ w2. done (change_object a (with_last v) w2)))
          (arrays.stored_element (heap_of q order w) (and_then (if b then Err stop.Cells else Ok (record (stage_of q order w) { cells = w.cells + 1 })) (λ s1. Ok (stage.change a (with_last v) s1))))
      paid true = alike_halts (Stopped stop.Cells) w
      paid false =
          alike_step (λ u. u) tt w (change_object a (with_last v) (record w { cells = w.cells + 1 })) _
          (ap (machine.Goes tt) (sym (heap_changed q order a (with_last v) (record w { cells = w.cells + 1 }) (last_kept v))))
          (record { level = refl; turns = refl; records = refl; holds = λ h. holds_changed q a (with_last v) (record w { cells = w.cells + 1 }) (last_kept v) (record { fields = h.fields }) })

      by : (b : Bool) → Alike q order w unrecorded (λ (u : Unit {0}). u) (bind (choose b (pay 1) (stops stop.ArrayLength) w) (λ _ w2. done (change_object a (with_last v) w2)))
          (arrays.stored_element (heap_of q order w) (and_then (if b then elements_pays else Err stop.ArrayLength) (λ s1. Ok (stage.change a (with_last v) s1))))
      by true = paid (nat_lt 1000000 (w.cells + 1))
      by false = alike_halts (Stopped stop.ArrayLength) w

  pub append_alike : (a : ObjId) (v : Value) (w : World) (c : Object) → object_at w.objects a ≡ Some c
      → Alike q order w unrecorded (λ (u : Unit {0}). u) (source.append a v w) (arrays.stored_element (heap_of q order w) (elements.appends a v (stage_of q order w)))
  append_alike a v w c e =
      subst (λ x. Alike q order w unrecorded (λ (u : Unit {0}). u) (need x w (λ d. guarded (is_array d) (λ w1. bind (source.room d w1) (λ _ w2. done (change_object a (with_last v) w2))) w)) (arrays.stored_element (heap_of q order w) (elements.appends a v (stage_of q order w))))
      (sym e) (alike_guarded (is_array c) _ (λ is. append_there a v w c e))

  -- the length of an array
  length_there : (a : ObjId) (w : World)
      → Alike q order w unrecorded (λ (v : Value). v) (source.array_length a w) (machine.Goes (value.Int (elements.array_length a (stage_of q order w))) (heap_of q order w))
  length_there a w = at (object_at w.objects a) refl
    where
      at : (x : Option Object) → object_at w.objects a ≡ x
          → Alike q order w unrecorded (λ (v : Value). v) (need x w (λ d. guarded (is_array d) (λ w1. Goes (count (length d.elements)) w1) w)) (machine.Goes (value.Int (elements.array_length a (stage_of q order w))) (heap_of q order w))
      at None e = alike_stuck
      at (Some c) e =
          alike_guarded (is_array c) _
          (λ is. alike_from (ap (λ l. machine.Goes (value.Int (pos (length l))) (heap_of q order w)) (elements_there w a c e)) (alike_goes (λ v. v) (count (length c.elements)) w))

  -- a value is pushed, and the new length given
  pub push_alike : (a : ObjId) (v : Value) (w : World) (c : Object) → object_at w.objects a ≡ Some c
      → Alike q order w unrecorded (λ (u : Value). u) (source.push a v w)
      (machine.bind (machine.staged (heap_of q order w) (elements.pushes a v (stage_of q order w))) (λ n s. machine.Goes (value.Int n) s))
  push_alike a v w c e =
      alike_from (in_two (elements.appends a v (stage_of q order w)))
      (alike_bind (λ u s. machine.Goes (value.Int (elements.array_length a s.stage)) s) (append_alike a v w c e) (λ u w1 r. length_there a w1))
    where
      in_two : (x : Computed Stage Stop) → machine.bind (machine.staged (heap_of q order w) (and_then x (λ s1. Ok (elements.array_length a s1, s1)))) (λ n s. machine.Goes (value.Int n) s)
          ≡ machine.bind (arrays.stored_element (heap_of q order w) x) (λ u s. machine.Goes (value.Int (elements.array_length a s.stage)) s)
      in_two (Ok s) = refl
      in_two (Err cause) = refl

  -- an element at an index is written
  written_at : (a : ObjId) (n : ℕ) (v : Value) (w : World) (c : Object) → object_at w.objects a ≡ Some c
      → Alike q order w unrecorded (λ (u : Unit {0}). u) (source.write_at a n v c w) (arrays.stored_element (heap_of q order w) (elements.writes_at a n v (stage_of q order w)))
  written_at a n v w c e =
      alike_from
      (ap (λ l. arrays.stored_element (heap_of q order w) (if nat_lt n (length l) then Ok (stage.change a (with_element n v) (stage_of q order w)) else if n == length l then elements.appends a v (stage_of q order w) else Err stop.ArrayIndex)) (elements_there w a c e))
      (by (nat_lt n (length c.elements)) (n == length c.elements))
    where
      by : (b b1 : Bool) → Alike q order w unrecorded (λ (u : Unit {0}). u)
          (choose b (λ w1. done (change_object a (with_element n v) w1)) (choose b1 (source.append a v) (stops stop.ArrayIndex)) w)
          (arrays.stored_element (heap_of q order w) (if b then Ok (stage.change a (with_element n v) (stage_of q order w)) else if b1 then elements.appends a v (stage_of q order w) else Err stop.ArrayIndex))
      by true b1 =
          alike_step (λ u. u) tt w (change_object a (with_element n v) w) _ (ap (machine.Goes tt) (sym (heap_changed q order a (with_element n v) w (element_kept n v))))
          (record { level = refl; turns = refl; records = refl; holds = holds_changed q a (with_element n v) w (element_kept n v) })
      by false true = append_alike a v w c e
      by false false = alike_halts (Stopped stop.ArrayIndex) w

  written : (a : ObjId) (n : ℤ) (v : Value) (w : World)
      → Alike q order w unrecorded (λ (u : Unit {0}). u) (source.write_element a (value.Int n) v w)
      (machine.bind (arrays.array_at a (heap_of q order w)) (λ _ h2. arrays.stored_element h2 (elements.writes_element a n v h2.stage)))
  written a n v w = at (object_at w.objects a) refl n
    where
      here : (c : Object) → object_at w.objects a ≡ Some c → is_array c ≡ true → (i : ℤ)
          → machine.bind (arrays.array_at a (heap_of q order w)) (λ _ h2. arrays.stored_element h2 (elements.writes_element a i v h2.stage)) ≡ arrays.stored_element (heap_of q order w) (elements.writes_element a i v (stage_of q order w))
      here c e is i = ap (λ y. machine.bind y (λ _ h2. arrays.stored_element h2 (elements.writes_element a i v h2.stage))) (array_there w a c e is)

      at_there : (c : Object) → object_at w.objects a ≡ Some c → (i : ℤ)
          → Alike q order w unrecorded (λ (u : Unit {0}). u) (source.write_element a (value.Int i) v w)
          (machine.bind (arrays.array_at a (heap_of q order w)) (λ _ h2. arrays.stored_element h2 (elements.writes_element a i v h2.stage)))
      at_there c e (pos n1) =
          subst (λ x. Alike q order w unrecorded (λ (u : Unit {0}). u) (need x w (λ d. guarded (is_array d) (source.write_at a n1 v d) w)) (machine.bind (arrays.array_at a (heap_of q order w)) (λ _ h2. arrays.stored_element h2 (elements.writes_element a (pos n1) v h2.stage))))
          (sym e) (alike_guarded (is_array c) _ (λ is. alike_from (here c e is (pos n1)) (written_at a n1 v w c e)))
      at_there c e (negsuc n1) =
          subst (λ x. Alike q order w unrecorded (λ (u : Unit {0}). u) (need x w (λ d. guarded (is_array d) (λ w1. stops stop.ArrayIndex w1) w)) (machine.bind (arrays.array_at a (heap_of q order w)) (λ _ h2. arrays.stored_element h2 (elements.writes_element a (negsuc n1) v h2.stage))))
          (sym e) (alike_guarded (is_array c) _ (λ is. alike_from (here c e is (negsuc n1)) (alike_halts (Stopped stop.ArrayIndex) w)))

      none : object_at w.objects a ≡ None → (i : ℤ) → Alike q order w unrecorded (λ (u : Unit {0}). u) (source.write_element a (value.Int i) v w)
          (machine.bind (arrays.array_at a (heap_of q order w)) (λ _ h2. arrays.stored_element h2 (elements.writes_element a i v h2.stage)))
      none e (pos n1) = subst (λ x. Alike q order w unrecorded (λ (u : Unit {0}). u) (need x w (λ d. guarded (is_array d) (source.write_at a n1 v d) w)) (machine.bind (arrays.array_at a (heap_of q order w)) (λ _ h2. arrays.stored_element h2 (elements.writes_element a (pos n1) v h2.stage)))) (sym e) alike_stuck
      none e (negsuc n1) = subst (λ x. Alike q order w unrecorded (λ (u : Unit {0}). u) (need x w (λ d. guarded (is_array d) (λ w1. stops stop.ArrayIndex w1) w)) (machine.bind (arrays.array_at a (heap_of q order w)) (λ _ h2. arrays.stored_element h2 (elements.writes_element a (negsuc n1) v h2.stage)))) (sym e) alike_stuck

      at : (x : Option Object) → object_at w.objects a ≡ x → (i : ℤ) → Alike q order w unrecorded (λ (u : Unit {0}). u) (source.write_element a (value.Int i) v w)
          (machine.bind (arrays.array_at a (heap_of q order w)) (λ _ h2. arrays.stored_element h2 (elements.writes_element a i v h2.stage)))
      at None e i = none e i
      at (Some c) e i = at_there c e i

  pub write_alike : (u i v : Value) (w : World)
      → Alike q order w unrecorded (λ (x : Unit {0}). x) (bind (receiver false u w) (λ a w1. source.write_element a i v w1)) (arrays.write_element (Plain u) (Plain i) (Plain v) (heap_of q order w))
  write_alike (value.Ref a) (value.Int n) v w = alike_from (later (arrays.array_at a (heap_of q order w))) (written a n v w)
    where
      later : (y : machine.Result (Unit {0})) → machine.bind y (λ _ h2. machine.bind (machine.Goes n h2) (λ n1 h3. machine.bind (machine.Goes v h3) (λ v1 h4. arrays.stored_element h4 (elements.writes_element a n1 v1 h4.stage))))
          ≡ machine.bind y (λ _ h2. arrays.stored_element h2 (elements.writes_element a n v h2.stage))
      later (machine.Goes x s) = refl
      later (machine.Halts o) = refl
  write_alike (value.Ref a) value.Undefined v w = alike_stuck
  write_alike (value.Ref a) value.Null v w = alike_stuck
  write_alike (value.Ref a) (value.Bool b) v w = alike_stuck
  write_alike (value.Ref a) (value.Text x) v w = alike_stuck
  write_alike (value.Ref a) (value.Ref x) v w = alike_stuck
  write_alike (value.Ref a) (value.Listener x k) v w = alike_stuck
  write_alike value.Null i v w = alike_halts (Stopped stop.NullReference) w
  write_alike value.Undefined i v w = alike_halts (Stopped stop.NullReference) w
  write_alike (value.Bool b) i v w = alike_stuck
  write_alike (value.Int n) i v w = alike_stuck
  write_alike (value.Text x) i v w = alike_stuck
  write_alike (value.Listener o k) i v w = alike_stuck

  -- an element is read
  as_element : (l : List Value) (n : ℤ) → unwrap_or (element_at l n) value.Undefined ≡ element_or_undefined l n
  as_element l (pos n) = refl
  as_element l (negsuc n) = refl

  pub element_alike : (u i : Value) (w : World)
      → Alike q order w unrecorded Plain (bind (receiver false u w) (λ a w1. source.read_element a i w1)) (arrays.element_of (Plain u) (Plain i) (heap_of q order w))
  element_alike (value.Ref a) (value.Int n) w = at (object_at w.objects a) refl
    where
      at : (x : Option Object) → object_at w.objects a ≡ x
          → Alike q order w unrecorded Plain (need x w (λ d. guarded (is_array d) (λ w1. Goes (element_or_undefined d.elements n) w1) w)) (arrays.element_of (Plain (value.Ref a)) (Plain (value.Int n)) (heap_of q order w))
      at None e = alike_stuck
      at (Some c) e =
          alike_guarded (is_array c) _
          (λ is. alike_from
          (ap (λ y. machine.bind y (λ _ h2. machine.bind (machine.Goes n h2) (λ n1 h3. machine.Goes (Plain (unwrap_or (elements.element a n1 h3.stage) value.Undefined)) h3))) (array_there w a c e is)
          ∙ ap (λ l. machine.Goes (Plain (unwrap_or (element_at l n) value.Undefined)) (heap_of q order w)) (elements_there w a c e)
          ∙ ap (λ v. machine.Goes (Plain v) (heap_of q order w)) (as_element c.elements n))
          (alike_goes Plain (element_or_undefined c.elements n) w))
  element_alike (value.Ref a) value.Undefined w = alike_stuck
  element_alike (value.Ref a) value.Null w = alike_stuck
  element_alike (value.Ref a) (value.Bool b) w = alike_stuck
  element_alike (value.Ref a) (value.Text x) w = alike_stuck
  element_alike (value.Ref a) (value.Ref x) w = alike_stuck
  element_alike (value.Ref a) (value.Listener x k) w = alike_stuck
  element_alike value.Null i w = alike_halts (Stopped stop.NullReference) w
  element_alike value.Undefined i w = alike_halts (Stopped stop.NullReference) w
  element_alike (value.Bool b) i w = alike_stuck
  element_alike (value.Int n) i w = alike_stuck
  element_alike (value.Text x) i w = alike_stuck
  element_alike (value.Listener o k) i w = alike_stuck

  -- an array that a name is looked up at
  array_kind : (c : Object) → is_array c ≡ true → c.kind ≡ An_array
  array_kind c is = by c.kind is
    where
      by : (k : Kind) → is_array_kind k ≡ true → k ≡ An_array
      by An_array e = refl
      by (Instance_of class) e = absurd cc

  pub array_member_found : (w : World) (a : ObjId) (c : Object) (n : Name) (x : Member) → object_at w.objects a ≡ Some c → is_array c ≡ true → kind_member q.program An_array n ≡ Some x
      → found q.program (Plain (value.Ref a)) n (heap_of q order w) ≡ machine.Goes x (heap_of q order w)
  array_member_found w a c n x e is m = found_there q order w a c n x e (ap (λ k. kind_member q.program k n) (array_kind c is) ∙ m)

  pub length_alike : (v : Value) (w : World)
      → Alike q order w unrecorded Plain (length_value false v w) (property_at q.program (public_name (codes "length")) (Plain v) (heap_of q order w))
  length_alike (value.Text x) w = alike_goes Plain (count (length_of x)) w
  length_alike (value.Ref a) w = at (object_at w.objects a) refl
    where
      at : (x : Option Object) → object_at w.objects a ≡ x
          → Alike q order w unrecorded Plain (need x w (λ d. guarded (is_array d) (λ w1. Goes (count (length d.elements)) w1) w)) (property_at q.program (public_name (codes "length")) (Plain (value.Ref a)) (heap_of q order w))
      at None e = alike_stuck
      at (Some c) e =
          alike_guarded (is_array c) _
          (λ is. alike_from
          (ap (λ y. machine.bind y (λ x h1. properties.read (Plain (value.Ref a)) x h1)) (array_member_found w a c (public_name (codes "length")) Member.ArrayLength e is refl)
          ∙ ap (λ y. machine.need y (heap_of q order w) (λ _. machine.Goes (Plain (value.Int (elements.array_length a (stage_of q order w)))) (heap_of q order w))) (object_there q order w a ∙ e)
          ∙ ap (λ l. machine.Goes (Plain (value.Int (pos (length l)))) (heap_of q order w)) (elements_there w a c e))
          (alike_goes Plain (count (length c.elements)) w))
  length_alike value.Null w = alike_halts (Stopped stop.NullReference) w
  length_alike value.Undefined w = alike_halts (Stopped stop.NullReference) w
  length_alike (value.Bool b) w = alike_stuck
  length_alike (value.Int n) w = alike_stuck
  length_alike (value.Listener o k) w = alike_stuck
