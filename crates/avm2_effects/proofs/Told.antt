-- Properties, by what a class tells of them.
use Rattle.std.proofs.Common.{Bool, List, [], ◌||◌, ◌∷◌, ◌≡◌, ◌∙◌, ap, cond, false, refl, sym, true, ℕ}
use Rattle.std.proofs.lemmas.Slice.Eq.{bytes_eq-Decides}
use Rattle.std.specs.Prelude.{None, Option, Some, option_map, unwrap_or}
use Rattle.std.specs.Str.{bytes_eq}
use Rattle.avm2_effects.specs.Writes.{field_type, hidden_type, item_at, target, target_of, write_target}
use Rattle.avm2_meaning.specs.Operands.{ref}
use Rattle.avm2_meaning.specs.Properties.{into_slot, store, write_hidden, write_kept, write_property, written_item}
use Rattle.avm2_meaning.specs.Results.{Goes, Halts, Result, bind, choose, need, or_fault, test}
use Rattle.avm2_meaning.specs.States.{request}
use Rattle.avm2_meaning.specs.declared.heap.Heap.{Heap}
use Rattle.avm2_meaning.specs.declared.operand.Operand.{Operand}
use Rattle.avm2_program.specs.declared.file.Program.{Program}
use Rattle.flex_base.specs.declared.outcome.MachineFault.TheVariants as fault
use Rattle.flex_base.specs.declared.record.TraceItem.TheVariants as trace
use Rattle.flex_base.specs.declared.value.ObjId.{ObjId}
use Rattle.flex_base.specs.declared.value.Value.{Value}
use Rattle.flex_base.specs.declared.value.Value.TheVariants as value
use Rattle.flex_objects.specs.Entities.{Inside}
use Rattle.flex_objects.specs.Properties.{holding, slot_field}
use Rattle.flex_objects.specs.declared.slots.Slot.{Slot}
use Rattle.flex_world.specs.Objects.{Field, Object, can_be_written, field_named, is_state_field}
use Rattle.ui_runtime.specs.Stage.{inside_at, object_at}

-- what a function that doesn't ask for the value says of a property that a class tells of
module _ {A : Type 0} (f : Field → A) (valueless : (x : Value) (field : Field) → f (holding x field) ≡ f field) where
  forgotten : (x : Value) (o : Option Field) → option_map f (option_map (holding x) o) ≡ option_map f o
  forgotten x None = refl
  forgotten x (Some field) = ap Some (valueless x field)

  told : (key : List ℕ) (slot : Option Slot) (o : Option Field)
      → ((x : Value) → option_map (λ s. holding x (slot_field key s)) slot ≡ option_map (holding x) o)
      → option_map (λ s. f (slot_field key s)) slot ≡ option_map f o
  told key None o is = ap (option_map f) (is value.Null) ∙ forgotten value.Null o
  told key (Some s) o is = ap Some (sym (valueless value.Null (slot_field key s))) ∙ (ap (option_map f) (is value.Null) ∙ forgotten value.Null o)

pub target_told : (key : List ℕ) (slot : Slot) (o : Option Field)
    → ((x : Value) → Some (holding x (slot_field key slot)) ≡ option_map (holding x) o) → Some (target_of (slot_field key slot)) ≡ option_map target_of o
target_told key slot o is = told target_of (λ x field. refl) key (Some slot) o is

pub no_target : (key : List ℕ) (o : Option Field) → ((x : Value) → None ≡ option_map (holding x) o) → None ≡ option_map target_of o
no_target key o is = told target_of (λ x field. refl) key None o is

pub named : (key : List ℕ) (fields : List Field) (f : Field) → field_named key fields ≡ Some f → f.name ≡ key
named key [] f is = absurd (cc)
named key (g ∷ fields) f is = by (named key fields f) (bytes_eq g.name key) refl is
  where
    by : (field_named key fields ≡ Some f → f.name ≡ key)
        → (b : Bool) → bytes_eq g.name key ≡ b → cond b (Some g) (field_named key fields) ≡ Some f → f.name ≡ key
    by rest true passes it = ap (λ o. (unwrap_or o g).name) (sym it) ∙ (bytes_eq-Decides g.name key).0 passes
    by rest false passes it = rest it

same_bind : {A B : Type 0} (r : Result A) (k l : A → Heap → Result B) → ((x : A) (h : Heap) → k x h ≡ l x h) → bind r k ≡ bind r l
same_bind (Goes x h) k l same = same x h
same_bind (Halts o) k l same = refl

same_choose : {A : Type 0} (b : Bool) (first second other : Heap → Result A) (h : Heap) → second h ≡ other h → choose b first second h ≡ choose b first other h
same_choose true first second other h same = refl
same_choose false first second other h same = same

pub same_item : (o : ObjId) (f : Field) (v : Value) (b : Bool)
    → cond b (Some (trace.Written o f.text v)) None ≡ item_at o v (cond b (Some f.text) None)
same_item o f v true = refl
same_item o f v false = refl

module _ (p : Program) (o : ObjId) (key : List ℕ) (v : Operand) (h : Heap) where
  kept_by_target : (f : Field) → f.name ≡ key → write_kept p o (Some f) v h ≡ write_target p o key (target_of f) v h
  kept_by_target f is =
      same_bind (test fault.WrongKind (can_be_written f) h) _ _ (λ _ h1.
      same_bind (into_slot p f.type v h1) _ _ (λ v1 h2.
      same_choose (is_state_field f) (request o v1) _ _ h2
      (ap (λ k. store o k v1 (written_item o f v1) h2) is ∙ ap (λ item. store o key v1 item h2) (same_item o f v1 (f.public || f.bindable)))))

  field_by_target : (found : Option Field) → ((f : Field) → found ≡ Some f → f.name ≡ key)
      → write_kept p o found v h ≡ bind (or_fault fault.WrongKind (option_map target_of found) h (λ t. Goes t h)) (λ t h1. write_target p o key t v h1)
  field_by_target None names = refl
  field_by_target (Some f) names = kept_by_target f (names f refl)

  -- a property is written by what is known of it
  pub by_target : write_property p (ref o) key v h ≡ bind (target o key h) (λ t h1. write_target p o key t v h1)
  by_target = by (object_at o h.stage)
    where
      by : (c : Option Object)
          → need c h (λ x. write_kept p o (field_named key x.fields) v h)
          ≡ bind (need c h (λ x. or_fault fault.WrongKind (option_map target_of (field_named key x.fields)) h (λ t. Goes t h))) (λ t h1. write_target p o key t v h1)
      by None = refl
      by (Some c) = field_by_target (field_named key c.fields) (named key c.fields)

  -- and a hidden one by its type
  pub by_hidden_type : write_hidden p (ref o) key v h ≡ bind (hidden_type o key h) (λ type h1. bind (into_slot p type v h1) (λ v1 h2. store o key v1 None h2))
  by_hidden_type = by (inside_at o h.stage)
    where
      with_field : (found : Option Field)
          → need found h (λ f. bind (into_slot p f.type v h) (λ v1 h1. store o key v1 None h1))
          ≡ bind (need (option_map field_type found) h (λ type. Goes type h)) (λ type h1. bind (into_slot p type v h1) (λ v1 h2. store o key v1 None h2))
      with_field None = refl
      with_field (Some f) = refl

      by : (i : Option Inside)
          → need i h (λ x. need (field_named key x.hidden) h (λ f. bind (into_slot p f.type v h) (λ v1 h1. store o key v1 None h1)))
          ≡ bind (need i h (λ x. need (option_map field_type (field_named key x.hidden)) h (λ type. Goes type h)))
          (λ type h1. bind (into_slot p type v h1) (λ v1 h2. store o key v1 None h2))
      by None = refl
      by (Some i) = with_field (field_named key i.hidden)
