-- Objects of classes of the catalog are made in both meanings.
use Rattle.std.proofs.Common.{◌≡◌, refl, sym, ap, ◌∙◌, subst}
use Rattle.std.specs.Prelude.{Bool, Err, List, None, Ok, Option, Some, [], codes, false, if◌then◌else◌, length, map, suc, true, zero, ℕ, ◌==◌, ◌∷◌}
use Rattle.std.specs.Prelude.{Result as Computed}
use Rattle.flex_base.specs.Lists.{changed_at, changed_entry}
use Rattle.flex_base.specs.Value.{and_then, coerce_text, is_nothing, to_bool, to_text}
use Rattle.flex_base.specs.declared.outcome.Outcome.TheVariants.{Stopped}
use Rattle.flex_base.specs.declared.outcome.Stop.TheVariants as stop
use Rattle.flex_base.specs.declared.outcome.Stop.{Stop}
use Rattle.flex_base.specs.declared.record.TraceItem.{TraceItem}
use Rattle.flex_base.specs.declared.value.ObjId.{ObjId}
use Rattle.flex_base.specs.declared.value.Value.TheVariants as value
use Rattle.flex_base.specs.declared.value.Value.{Value}
use Rattle.component_catalog.specs.Classes.{name_of}
use Rattle.component_catalog.specs.declared.class.NativeClass.TheVariants as native
use Rattle.component_catalog.specs.declared.class.NativeClass.{NativeClass}
use Rattle.component_catalog.specs.declared.method.Parameter.{Parameter}
use Rattle.flex_world.specs.Classes.{native_descends}
use Rattle.flex_world.specs.declared.kind.Class.TheVariants as Class
use Rattle.flex_world.specs.Conversions.{event_parameters}
use Rattle.flex_world.specs.Objects.{Object}
use Rattle.flex_program.specs.Program.{Program}
use Rattle.flex_meaning.specs.Activities.{Context}
use Rattle.flex_meaning.specs.Conversions as meaning
use Rattle.flex_meaning.specs.Dispatch.{set_event}
use Rattle.flex_meaning.specs.Making as source
use Rattle.flex_meaning.specs.Making.{make, with_type}
use Rattle.flex_meaning.specs.Objects.{allocate}
use Rattle.flex_meaning.specs.Results.{Ends, Goes, Halts, Result, Stuck, bind, choose, done, given, guarded, stops}
use Rattle.flex_meaning.specs.World.{World, change_object}
use Rattle.program_simulation.proofs.Catalog.{arguments_alike}
use Rattle.program_simulation.proofs.Follows.{Alike, EveryValue, Rest, alike_bind, alike_bind_with, alike_choose, alike_goes, alike_halts, rest_same, unrecorded}
use Rattle.program_simulation.proofs.Making.{allocate_alike}
use Rattle.program_simulation.proofs.Standing.{Keeps, heap_changed, holds_changed}
use Rattle.program_simulation.proofs.Storing.{value_kept}
use Rattle.program_simulation.specs.Image.{IsImage, IsShape}
use Rattle.program_simulation.specs.Stands.{Image, heap_of}
use Rattle.avm2_program.specs.Naming.{Naming}
use Rattle.flex_objects.specs.Entities.{Shape}
use Rattle.stage_objects.specs.Events.{initialised}
use Rattle.avm2_meaning.specs.Classes.{native_shape}
use Rattle.avm2_meaning.specs.Conversions as conversions
use Rattle.avm2_meaning.specs.Effects.{Acted, acted, effect, with_top}
use Rattle.avm2_meaning.specs.declared.effect.Next.{Next}
use Rattle.avm2_meaning.specs.Making as making
use Rattle.avm2_meaning.specs.Operands.{ref}
use Rattle.avm2_meaning.specs.declared.heap.Heap.{Heap}
use Rattle.avm2_meaning.specs.declared.operand.Operand.TheVariants.{Plain}
use Rattle.avm2_meaning.specs.declared.work.Work.{Work}
use Rattle.avm2_meaning.specs.Results as machine

-- the arguments of an event's constructor, converted
abbrev IsEventGiven : List Value → Type 0
IsEventGiven us = (kind : List ℕ) × (bubbles : Bool) × (cancelable : Bool) × (us ≡ value.Text kind ∷ value.Bool bubbles ∷ value.Bool cancelable ∷ [])

shaped : (v : Value) (b c : Bool) (w : World) → EveryValue IsEventGiven (bind (bind (given (coerce_text v) w) (λ v1 w1. Goes (v1 ∷ value.Bool b ∷ value.Bool c ∷ []) w1)) with_type)
shaped v b c w = by (is_nothing v) (to_text v)
  where
    by : (t : Bool) (x : Computed (List ℕ) Stop)
        → EveryValue IsEventGiven (bind (bind (given (if t then Ok value.Null else and_then x (λ text. Ok (value.Text text))) w) (λ v1 w1. Goes (v1 ∷ value.Bool b ∷ value.Bool c ∷ []) w1)) with_type)
    by true x = tt
    by false (Ok text) = (text, b, c, refl)
    by false (Err cause) = tt

event_given : (p : Program) (vs : List Value) (w : World) → EveryValue IsEventGiven (bind (meaning.native_arguments p event_parameters vs w) with_type)
event_given p [] w = tt
event_given p (v ∷ []) w = shaped v false false w
event_given p (v ∷ b ∷ []) w = shaped v (to_bool b) false w
event_given p (v ∷ b ∷ c ∷ []) w = shaped v (to_bool b) (to_bool c) w
event_given p (v ∷ b ∷ c ∷ d ∷ rest) w = by (length (d ∷ rest) == 0) (coerce_text v)
  where
    by : (t : Bool) (x : Computed Value Stop) → EveryValue IsEventGiven (bind (guarded t (λ w1. bind (given x w1) (λ v1 w2. Stuck w2)) w) with_type)
    by true (Ok u) = tt
    by true (Err cause) = tt
    by false x = tt

nothing_given : (p : Program) (vs : List Value) (w : World) → EveryValue (λ us. us ≡ []) (bind (meaning.native_arguments p [] vs w) with_type)
nothing_given p [] w = refl
nothing_given p (v ∷ vs) w = by (length (v ∷ vs) == 0)
  where
    by : (t : Bool) → EveryValue (λ us. us ≡ []) (bind (guarded t (meaning.into_parameters p [] (v ∷ vs)) w) with_type)
    by true = tt
    by false = tt

lacks_same : (us : List Value) → source.lacks_type us ≡ making.lacks_type us
lacks_same [] = refl
lacks_same (value.Undefined ∷ us) = refl
lacks_same (value.Null ∷ us) = refl
lacks_same (value.Bool b ∷ us) = refl
lacks_same (value.Int n ∷ us) = refl
lacks_same (value.Text x ∷ us) = refl
lacks_same (value.Ref o ∷ us) = refl
lacks_same (value.Listener o m ∷ us) = refl

-- one object changed twice
changed_twice : (f k : Object → Object) (o : ObjId) (w : World) → change_object o f (change_object o k w) ≡ change_object o (λ c. f (k c)) w
changed_twice f k o w = ap (λ l. record w { objects = l }) (at o.0)
  where
    got : (xs : List Object) (n : ℕ) → changed_at f (changed_at k xs n) n ≡ changed_at (λ c. f (k c)) xs n
    got [] n = refl
    got (x ∷ xs) zero = refl
    got (x ∷ xs) (suc n) = ap (λ l. x ∷ l) (got xs n)

    at : (n : ℕ) → changed_entry f (changed_entry k w.objects n) n ≡ changed_entry (λ c. f (k c)) w.objects n
    at zero = refl
    at (suc n) = got w.objects n

kept_twice : (f k : Object → Object) → Keeps f → Keeps k → Keeps (λ c. f (k c))
kept_twice f k a b = record {
  kind = λ c. a.kind (k c) ∙ b.kind c;
  enabled = λ c. a.enabled (k c) ∙ b.enabled c;
  names = λ c name. a.names (k c) name ∙ b.names c name;
}

-- an operation that goes on, and records nothing
abbrev Settles : Image → List ObjId → World → Result (Unit {0}) → machine.Result (Unit {0}) → Type 0
Settles q order w0 (Goes u w) x = (x ≡ machine.Goes tt (heap_of q order w)) × Rest q None w0 w
Settles q order w0 (Halts o w) x = ⊥
Settles q order w0 (Ends w) x = ⊥
Settles q order w0 (Stuck w) x = Unit {0}

module _ {q : Image} {order : List ObjId} where
  -- which follows one that records something
  alike_settled : {A B D : Type 0} {i : A → Option TraceItem} {h : A → B} {w0 : World} {r : Result A} {x : machine.Result B} (f : A → World → Result (Unit {0})) (g : B → Heap → machine.Result (Unit {0})) (l : A → D) (k : B → D)
      → ((v : A) → k (h v) ≡ l v) → Alike q order w0 i h r x → ((v : A) (w : World) → Settles q order w (f v w) (g (h v) (heap_of q order w)))
      → Alike q order w0 i l (bind r (λ v w. bind (f v w) (λ _ w1. Goes v w1))) (machine.bind x (λ y s. machine.bind (g y s) (λ _ s1. machine.Goes (k y) s1)))
  alike_settled {i} {h} {w0} {r = Goes v w} {x} f g l k same a t =
      subst (λ y. Alike q order w0 i l (bind (f v w) (λ _ w1. Goes v w1)) (machine.bind y (λ y1 s. machine.bind (g y1 s) (λ _ s1. machine.Goes (k y1) s1)))) (sym a.holds.0) (by (f v w) (t v w))
    where
      by : (z : Result (Unit {0})) → Settles q order w z (g (h v) (heap_of q order w)) → Alike q order w0 i l (bind z (λ _ w1. Goes v w1)) (machine.bind (g (h v) (heap_of q order w)) (λ _ s1. machine.Goes (k (h v)) s1))
      by (Goes u w1) s =
          record {
            holds = (
              ap (λ y. machine.bind y (λ _ s1. machine.Goes (k (h v)) s1)) s.0 ∙ ap (λ y. machine.Goes y (heap_of q order w1)) (same v),
              record {
                level = s.1.level ∙ a.holds.1.level;
                turns = s.1.turns ∙ a.holds.1.turns;
                records = s.1.records ∙ a.holds.1.records;
                holds = λ hold. s.1.holds (a.holds.1.holds hold);
              },
            );
          }
      by (Halts o w1) s = absurd s
      by (Ends w1) s = absurd s
      by (Stuck w1) s = record { holds = tt }
  alike_settled {r = Halts o w} f g l k same a t = record { holds = (ap (λ y. machine.bind y (λ y1 s. machine.bind (g y1 s) (λ _ s1. machine.Goes (k y1) s1))) a.holds.0, a.holds.1) }
  alike_settled {r = Ends w} f g l k same a t = record { holds = a.holds }
  alike_settled {r = Stuck w} f g l k same a t = record { holds = tt }

module _ (q : Image) (order : List ObjId) where
  -- an event gets its type and its flags
  begun_alike : (o : ObjId) (us : List Value) → IsEventGiven us → (w : World) → Settles q order w (source.begin_event o us w) (making.begin_event o us (heap_of q order w))
  begun_alike o us shape w =
      subst (λ l. Settles q order w (source.begin_event o l w) (making.begin_event o l (heap_of q order w))) (sym shape.3) (
        ap (machine.Goes tt) (sym (heap_changed q order o (initialised shape.0 shape.1 shape.2) w keeps) ∙ ap (heap_of q order) (sym three)),
        record { level = refl; turns = refl; records = refl; holds = λ hold. subst (λ z. Rattle.program_simulation.specs.Following.Holds q.source z) (sym three) (holds_changed q o (initialised shape.0 shape.1 shape.2) w keeps hold) },
      )
    where
      typed : Object → Object
      typed c = record c { fields = Rattle.flex_world.specs.Objects.with_value (codes "type") (value.Text shape.0) c.fields }

      bubbling : Object → Object
      bubbling c = record c { fields = Rattle.flex_world.specs.Objects.with_value (codes "bubbles") (value.Bool shape.1) c.fields }

      cancelled : Object → Object
      cancelled c = record c { fields = Rattle.flex_world.specs.Objects.with_value (codes "cancelable") (value.Bool shape.2) c.fields }

      keeps : Keeps (initialised shape.0 shape.1 shape.2)
      keeps = kept_twice cancelled (λ c. bubbling (typed c)) (value_kept (codes "cancelable") (value.Bool shape.2)) (kept_twice bubbling typed (value_kept (codes "bubbles") (value.Bool shape.1)) (value_kept (codes "type") (value.Text shape.0)))

      three : set_event o (value.Text shape.0) (value.Bool shape.1) (value.Bool shape.2) w ≡ change_object o (initialised shape.0 shape.1 shape.2) w
      three = ap (change_object o cancelled) (changed_twice bubbling typed o w) ∙ changed_twice cancelled (λ c. bubbling (typed c)) o w

its_shape : {q : Image} {g : Naming} → IsImage g q → (class : NativeClass) → IsShape q (Class.Native class) (native_shape q.program class)
its_shape {q} is class =
    let s = is.shapes (Class.Native class) (name_of class) refl in
    subst (λ z. IsShape q (Class.Native class) z) (some_shape (native_shape q.program class) s.0 s.1.there) s.1
  where
    some_shape : (x y : Shape) → Some x ≡ Some y → y ≡ x
    some_shape x y e = cc

module _ {q : Image} {g : Naming} (is : IsImage g q) {order : List ObjId} (c : Context) (same : c.program ≡ q.source) where
  -- the arguments of a constructor of the catalog
  native_prepared : (ps : List Parameter) (vs : List Value) (w : World)
      → Alike q order w unrecorded (λ (us : List Value). us) (bind (meaning.native_arguments q.source ps vs w) with_type)
      (machine.bind (conversions.native_arguments q.program ps (map Plain vs) (heap_of q order w)) (λ us h1. machine.choose (making.lacks_type us) (machine.stops stop.NullReference) (machine.Goes us) h1))
  native_prepared ps vs w =
      alike_bind (λ us h1. machine.choose (making.lacks_type us) (machine.stops stop.NullReference) (machine.Goes us) h1) (arguments_alike is ps vs w)
      (λ us w1 r. subst (λ t. Alike q order w1 unrecorded (λ (l : List Value). l) (with_type us w1) (machine.choose t (machine.stops stop.NullReference) (machine.Goes us) (heap_of q order w1))) (lacks_same us)
      (alike_choose (source.lacks_type us) (stops stop.NullReference) (Goes us) (machine.stops stop.NullReference) (machine.Goes us) (alike_halts (Stopped stop.NullReference) w1) (alike_goes (λ l. l) us w1)))

  -- the object that is made, on top
  pub made_native_alike : (class : NativeClass) (vs : List Value) (wk : Work) (w : World)
      → Alike q order w (making.made_item q.program (Class.Native class)) (λ o. acted (effect Next.On (making.made_item q.program (Class.Native class) o)) (with_top (ref o) wk)) (make c (Class.Native class) vs w)
      (making.construct_native q.program class (map Plain vs) wk (heap_of q order w))
  made_native_alike class vs wk w =
      subst (λ p. Alike q order w (making.made_item q.program (Class.Native class)) made (bind (bind (meaning.native_arguments p (Rattle.flex_world.specs.Conversions.constructor_parameters class) vs w) with_type)
      (λ us w1. bind (allocate p (Class.Native class) w1) (λ o w2. bind (choose (native_descends class native.Event) (source.begin_event o us) done w2) (λ _ w3. Goes o w3)))) (making.construct_native q.program class (map Plain vs) wk (heap_of q order w))) (sym same)
      (by (native_descends class native.Event))
    where
      made : ObjId → Acted Work
      made o = acted (effect Next.On (making.made_item q.program (Class.Native class) o)) (with_top (ref o) wk)

      rest : (t : Bool) (us : List Value) (w1 : World) → ((o : ObjId) (w2 : World) → Settles q order w2 (choose t (source.begin_event o us) done w2) (making.begin_event o us (heap_of q order w2)))
          → Alike q order w1 (making.made_item q.program (Class.Native class)) made (bind (allocate q.source (Class.Native class) w1) (λ o w2. bind (choose t (source.begin_event o us) done w2) (λ _ w3. Goes o w3)))
          (machine.bind (making.allocate_as (native_shape q.program class) (heap_of q order w1)) (λ o h2. machine.bind (making.begin_event o us h2) (λ _ h3. machine.Goes (made o) h3)))
      rest t us w1 settles = alike_settled (λ o w2. choose t (source.begin_event o us) done w2) (λ o h2. making.begin_event o us h2) made made (λ o. refl) (allocate_alike is (Class.Native class) (native_shape q.program class) w1 (its_shape is class)) settles

      nothing_begun : (us : List Value) → us ≡ [] → (o : ObjId) (w2 : World) → Settles q order w2 (done w2) (making.begin_event o us (heap_of q order w2))
      nothing_begun us none o w2 = subst (λ l. Settles q order w2 (done w2) (making.begin_event o l (heap_of q order w2))) (sym none) (refl, rest_same q w2)

      by : (t : Bool) → Alike q order w (making.made_item q.program (Class.Native class)) made
          (bind (bind (meaning.native_arguments q.source (if t then event_parameters else []) vs w) with_type) (λ us w1. bind (allocate q.source (Class.Native class) w1) (λ o w2. bind (choose t (source.begin_event o us) done w2) (λ _ w3. Goes o w3))))
          (machine.bind (machine.bind (conversions.native_arguments q.program (if t then event_parameters else []) (map Plain vs) (heap_of q order w)) (λ us h1. machine.choose (making.lacks_type us) (machine.stops stop.NullReference) (machine.Goes us) h1))
          (λ us h1. machine.bind (making.allocate_as (native_shape q.program class) h1) (λ o h2. machine.bind (making.begin_event o us h2) (λ _ h3. machine.Goes (made o) h3))))
      by true =
          alike_bind_with IsEventGiven (λ us h1. machine.bind (making.allocate_as (native_shape q.program class) h1) (λ o h2. machine.bind (making.begin_event o us h2) (λ _ h3. machine.Goes (made o) h3)))
          (event_given q.source vs w) (native_prepared event_parameters vs w) (λ us w1 shape r. rest true us w1 (λ o w2. begun_alike q order o us shape w2))
      by false =
          alike_bind_with (λ us. us ≡ []) (λ us h1. machine.bind (making.allocate_as (native_shape q.program class) h1) (λ o h2. machine.bind (making.begin_event o us h2) (λ _ h3. machine.Goes (made o) h3)))
          (nothing_given q.source vs w) (native_prepared [] vs w) (λ us w1 none r. rest false us w1 (nothing_begun us none))
