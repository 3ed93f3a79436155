-- The stage that stands for a world, when the world changes.
use Rattle.std.proofs.Common.{◌≡◌, refl, sym, ap, ◌∙◌, subst, arith}
use Rattle.std.proofs.lemmas.Grind.{flat_map-append}
use Rattle.std.proofs.lemmas.List.Concat.{flat_map-cons}
use Rattle.std.proofs.lemmas.List.Elements.{filter-append}
use Rattle.std.specs.List.{filter, flat_map}
use Rattle.std.specs.Prelude.{Bool, List, None, Option, Some, [], false, if◌then◌else◌, is_some, length, map, not, option_and_then, option_map, slice_get, suc, true, zero, ℕ, ◌++◌, ◌+◌, ◌∷◌}
use Rattle.flex_base.specs.Lists.{changed_at, changed_entry, entry}
use Rattle.flex_base.specs.declared.value.ObjId.{ObjId}
use Rattle.flex_world.specs.Objects.{Object, changed_object, class_of_kind, field_named, is_object_among, next_object, object_at}
use Rattle.flex_program.specs.Classes.{document_in, document_of}
use Rattle.flex_program.specs.Program as source
use Rattle.flex_program.specs.Program.{Document}
use Rattle.flex_meaning.specs.World.{World, change_object}
use Rattle.program_simulation.specs.Following.{HasFields, Holds, kind_fields}
use Rattle.program_simulation.specs.Stands.{Beside, Image, all_in, beside, document_inside, entities_of, entity_of, heap_of, inside_of, numbers_from, stage_of, watched_by, watched_from, watched_of}
use Rattle.watch_table.specs.declared.watch.Watched.{Watched}
use Rattle.flex_objects.specs.Entities.{Inside}
use Rattle.stage_objects.specs.Entities as table
use Rattle.ui_runtime.specs.Stage as stage
use Rattle.ui_runtime.specs.Stage.{objects}

abbrev pub objid : ℕ → ObjId
objid n = record { 0 = n }

-- as a change of an object that keeps its kind and its enabled bindings
pub record Keeps (f : Object → Object) : Type 0 where
  pub kind : (c : Object) → (f c).kind ≡ c.kind
  pub enabled : (c : Object) → (f c).keeping.enabled ≡ c.keeping.enabled
  pub names : (c : Object) (name : List ℕ) → is_some (field_named name (f c).fields) ≡ is_some (field_named name c.fields)

-- an object that is changed
pub changed_there : (o : ObjId) (f : Object → Object) (xs : List Object) (c : Object) → object_at xs o ≡ Some c → object_at (changed_object f o xs) o ≡ Some (f c)
changed_there o f xs c e = at o.0 e
  where
    got : (ys : List Object) (n : ℕ) → slice_get (changed_at f ys n) n ≡ option_map f (slice_get ys n)
    got [] n = refl
    got (y ∷ ys) zero = refl
    got (y ∷ ys) (suc n) = got ys n

    at : (n : ℕ) → entry xs n ≡ Some c → entry (changed_entry f xs n) n ≡ Some (f c)
    at zero e1 = absurd cc
    at (suc n) e1 = got xs n ∙ ap (option_map f) e1

-- an object that is made is there
pub last_there : (xs : List Object) (y : Object) → object_at (xs ++ y ∷ []) (next_object xs) ≡ Some y
last_there [] y = refl
last_there (x ∷ xs) y = last_there xs y

module _ (q : Image) where
  pub objects_are : (b : Beside) (n : ℕ) (xs : List Object) → map table.object_of (entities_of q b n xs) ≡ xs
  objects_are b n [] = refl
  objects_are b n (c ∷ xs) = ap (λ l. c ∷ l) (objects_are b (suc n) xs)

  pub as_many : (b : Beside) (n : ℕ) (xs : List Object) → length (entities_of q b n xs) ≡ length xs
  as_many b n [] = refl
  as_many b n (c ∷ xs) = ap suc (as_many b (suc n) xs)

  entity_got : (b : Beside) (n k : ℕ) (xs : List Object) → slice_get (entities_of q b n xs) k ≡ option_map (λ c. entity_of q b (objid (n + k)) c) (slice_get xs k)
  entity_got b n k [] = refl
  entity_got b n zero (c ∷ xs) = let e : n ≡ n + 0 = omega arith in ap (λ m. Some (entity_of q b (objid m) c)) e
  entity_got b n (suc k) (c ∷ xs) =
      let e : suc n + k ≡ n + suc k = omega arith in
      entity_got b (suc n) k xs ∙ ap (λ m. option_map (λ d. entity_of q b (objid m) d) (slice_get xs k)) e

  -- what stands for the object of a number
  pub entity_there : (order : List ObjId) (w : World) (o : ObjId) → stage.entity_at o (stage_of q order w) ≡ option_map (λ c. entity_of q (beside w) o c) (object_at w.objects o)
  entity_there order w o = at o.0
    where
      at : (n : ℕ) → entry (entities_of q (beside w) 1 w.objects) n ≡ option_map (λ c. entity_of q (beside w) (objid n) c) (entry w.objects n)
      at zero = refl
      at (suc n) =
          let e : 1 + n ≡ suc n = omega arith in
          entity_got (beside w) 1 n w.objects ∙ ap (λ m. option_map (λ d. entity_of q (beside w) (objid m) d) (slice_get w.objects n)) e

  pub object_there : (order : List ObjId) (w : World) (o : ObjId) → stage.object_at o (stage_of q order w) ≡ object_at w.objects o
  object_there order w o = ap (option_map table.object_of) (entity_there order w o) ∙ whole (object_at w.objects o)
    where
      whole : (x : Option Object) → option_map table.object_of (option_map (λ c. entity_of q (beside w) o c) x) ≡ x
      whole None = refl
      whole (Some c) = refl

  pub inside_there : (order : List ObjId) (w : World) (o : ObjId)
      → stage.inside_at o (stage_of q order w) ≡ option_map (λ c. inside_of q (beside w) o c.kind c.keeping.enabled) (object_at w.objects o)
  inside_there order w o = ap (option_map table.inside_of) (entity_there order w o) ∙ whole (object_at w.objects o)
    where
      whole : (x : Option Object) → option_map table.inside_of (option_map (λ c. entity_of q (beside w) o c) x) ≡ option_map (λ c. inside_of q (beside w) o c.kind c.keeping.enabled) x
      whole None = refl
      whole (Some c) = refl

  -- the chains that are watched, where each object watches what it watched
  flat_same : {A : Type 0} (f g : A → List Watched) → ((x : A) → f x ≡ g x) → (xs : List A) → flat_map f xs ≡ flat_map g xs
  flat_same f g e [] = refl
  flat_same f g e (x ∷ xs) = flat_map-cons f x xs ∙ ap (λ l. l ++ flat_map f xs) (e x) ∙ ap (λ l. g x ++ l) (flat_same f g e xs) ∙ sym (flat_map-cons g x xs)

  numbers_kept : (f : Object → Object) (n : ℕ) (xs : List Object) (k : ℕ) → numbers_from q n (changed_at f xs k) ≡ numbers_from q n xs
  numbers_kept f n [] k = refl
  numbers_kept f n (c ∷ xs) zero = refl
  numbers_kept f n (c ∷ xs) (suc k) = ap (λ l. objid n ∷ l) (numbers_kept f (suc n) xs k)

  -- a changed object watches the same
  watches_kept : (f : Object → Object) → Keeps f → (o : ObjId) (c : Object) → watched_by q o (Some (f c)) ≡ watched_by q o (Some c)
  watches_kept f keeps o c =
      ap (λ k. watched_from q.labels o (f c).keeping.enabled 0 (Rattle.program_simulation.specs.Stands.bindings_of q (option_and_then (document_of q.source) (class_of_kind k)))) (keeps.kind c)
      ∙ ap (λ l. watched_from q.labels o l 0 (Rattle.program_simulation.specs.Stands.bindings_of q (document_in q.source c))) (keeps.enabled c)

  got_kept : (f : Object → Object) → Keeps f → (o : ObjId) (xs : List Object) (k j : ℕ) → watched_by q o (slice_get (changed_at f xs k) j) ≡ watched_by q o (slice_get xs j)
  got_kept f keeps o [] k j = refl
  got_kept f keeps o (c ∷ xs) zero zero = watches_kept f keeps o c
  got_kept f keeps o (c ∷ xs) zero (suc j) = refl
  got_kept f keeps o (c ∷ xs) (suc k) zero = refl
  got_kept f keeps o (c ∷ xs) (suc k) (suc j) = got_kept f keeps o xs k j

  all_watch : (f : Object → Object) → Keeps f → (order : List ObjId) (xs : List Object) (k : ℕ) → watched_of q order (changed_at f xs k) ≡ watched_of q order xs
  all_watch f keeps order xs k =
      ap (λ l. flat_map (λ o. watched_by q o (object_at (changed_at f xs k) o)) (order ++ filter (λ o. not (is_object_among o order)) l)) (numbers_kept f 1 xs k)
      ∙ flat_same (λ o. watched_by q o (object_at (changed_at f xs k) o)) (λ o. watched_by q o (object_at xs o)) (λ o. at o o.0) (all_in q order xs)
    where
      at : (o : ObjId) (n : ℕ) → watched_by q o (entry (changed_at f xs k) n) ≡ watched_by q o (entry xs n)
      at o zero = refl
      at o (suc n) = got_kept f keeps o xs k n

  watched_kept : (f : Object → Object) → Keeps f → (order : List ObjId) (xs : List Object) (n : ℕ) → watched_of q order (changed_entry f xs n) ≡ watched_of q order xs
  watched_kept f keeps order xs zero = refl
  watched_kept f keeps order xs (suc k) = all_watch f keeps order xs k

  entity_kept : (b : Beside) (f : Object → Object) → Keeps f → (o : ObjId) (c : Object) → entity_of q b o (f c) ≡ table.with_object f (entity_of q b o c)
  entity_kept b f keeps o c =
      ap (λ k. record { object = f c; inside = inside_of q b o k (f c).keeping.enabled }) (keeps.kind c)
      ∙ ap (λ l. record { object = f c; inside = inside_of q b o c.kind l }) (keeps.enabled c)

  entities_kept : (b : Beside) (f : Object → Object) → Keeps f → (n : ℕ) (xs : List Object) (k : ℕ)
      → entities_of q b n (changed_at f xs k) ≡ changed_at (table.with_object f) (entities_of q b n xs) k
  entities_kept b f keeps n [] k = refl
  entities_kept b f keeps n (c ∷ xs) zero = ap (λ e. e ∷ entities_of q b (suc n) xs) (entity_kept b f keeps (objid n) c)
  entities_kept b f keeps n (c ∷ xs) (suc k) = ap (λ l. entity_of q b (objid n) c ∷ l) (entities_kept b f keeps (suc n) xs k)

  all_kept : (b : Beside) (f : Object → Object) → Keeps f → (xs : List Object) (n : ℕ)
      → entities_of q b 1 (changed_entry f xs n) ≡ changed_entry (table.with_object f) (entities_of q b 1 xs) n
  all_kept b f keeps xs zero = refl
  all_kept b f keeps xs (suc k) = entities_kept b f keeps 1 xs k

  -- a change of an object's own parts is the same change on the stage
  pub object_changed : (order : List ObjId) (o : ObjId) (f : Object → Object) (w : World) → Keeps f
      → stage_of q order (change_object o f w) ≡ stage.change o f (stage_of q order w)
  object_changed order o f w keeps =
      ap (λ l. record { entities = l; watched = watched_of q order (changed_entry f w.objects o.0); cells = w.cells }) (all_kept (beside w) f keeps w.objects o.0)
      ∙ ap (λ l. record { entities = changed_entry (table.with_object f) (entities_of q (beside w) 1 w.objects) o.0; watched = l; cells = w.cells }) (watched_kept f keeps order w.objects o.0)

  -- the same of the heap
  pub heap_changed : (order : List ObjId) (o : ObjId) (f : Object → Object) (w : World) → Keeps f
      → heap_of q order (change_object o f w) ≡ record (heap_of q order w) { stage = stage.change o f (stage_of q order w) }
  heap_changed order o f w keeps = ap (λ s. record { stage = s; written = q.written; classes = q.classes; scripts = q.scripts }) (object_changed order o f w keeps)

  -- a changed object has the fields of its class
  names_kept : (f : Object → Object) → Keeps f → (c : Object) → HasFields q.source c → HasFields q.source (f c)
  names_kept f keeps c has name = keeps.names c name ∙ has name ∙ ap (λ k. is_some (field_named name (kind_fields q.source k))) (sym (keeps.kind c))

  fields_kept : (f : Object → Object) → Keeps f → (xs : List Object) (k j : ℕ) → ((i : ℕ) (c : Object) → slice_get xs i ≡ Some c → HasFields q.source c)
      → (d : Object) → slice_get (changed_at f xs k) j ≡ Some d → HasFields q.source d
  fields_kept f keeps [] k j all d e = absurd cc
  fields_kept f keeps (c ∷ xs) zero zero all d e = subst (λ x. HasFields q.source x) (some_same e) (names_kept f keeps c (all 0 c refl))
    where
      some_same : Some (f c) ≡ Some d → f c ≡ d
      some_same is = cc
  fields_kept f keeps (c ∷ xs) zero (suc j) all d e = all (suc j) d e
  fields_kept f keeps (c ∷ xs) (suc k) zero all d e = all 0 d e
  fields_kept f keeps (c ∷ xs) (suc k) (suc j) all d e = fields_kept f keeps xs k j (λ i x g. all (suc i) x g) d e

  pub holds_changed : (o : ObjId) (f : Object → Object) (w : World) → Keeps f → Holds q.source w → Holds q.source (change_object o f w)
  holds_changed o f w keeps h = record { fields = λ p d e. at o.0 p.0 d e }
    where
      at : (n m : ℕ) (d : Object) → entry (changed_entry f w.objects n) m ≡ Some d → HasFields q.source d
      at n zero d e = absurd cc
      at zero (suc m) d e = h.fields (objid (suc m)) d e
      at (suc n) (suc m) d e = fields_kept f keeps w.objects n m (λ i x g. h.fields (objid (suc i)) x g) d e

  -- objects that are made
  entities_more : (b : Beside) (n : ℕ) (xs : List Object) (y : Object) → entities_of q b n (xs ++ y ∷ []) ≡ entities_of q b n xs ++ entity_of q b (objid (n + length xs)) y ∷ []
  entities_more b n [] y = let e : n ≡ n + 0 = omega arith in ap (λ m. entity_of q b (objid m) y ∷ []) e
  entities_more b n (x ∷ xs) y =
      let e : suc n + length xs ≡ n + suc (length xs) = omega arith in
      ap (λ l. entity_of q b (objid n) x ∷ l) (entities_more b (suc n) xs y ∙ ap (λ m. entities_of q b (suc n) xs ++ entity_of q b (objid m) y ∷ []) e)

  numbers_more : (n : ℕ) (xs : List Object) (y : Object) → numbers_from q n (xs ++ y ∷ []) ≡ numbers_from q n xs ++ objid (n + length xs) ∷ []
  numbers_more n [] y = let e : n ≡ n + 0 = omega arith in ap (λ m. objid m ∷ []) e
  numbers_more n (x ∷ xs) y =
      let e : suc n + length xs ≡ n + suc (length xs) = omega arith in
      ap (λ l. objid n ∷ l) (numbers_more (suc n) xs y ∙ ap (λ m. numbers_from q (suc n) xs ++ objid m ∷ []) e)

  none_watched : (o : ObjId) (n : ℕ) (bs : List source.Binding) → watched_from q.labels o [] n bs ≡ []
  none_watched o n [] = refl
  none_watched o n (b ∷ bs) = none_watched o (suc n) bs

  -- a new object watches nothing
  got_more : (o : ObjId) (xs : List Object) (y : Object) (j : ℕ) → y.keeping.enabled ≡ [] → watched_by q o (slice_get (xs ++ y ∷ []) j) ≡ watched_by q o (slice_get xs j)
  got_more o [] y zero e =
      ap (λ l. watched_from q.labels o l 0 (Rattle.program_simulation.specs.Stands.bindings_of q (document_in q.source y))) e
      ∙ none_watched o 0 (Rattle.program_simulation.specs.Stands.bindings_of q (document_in q.source y))
  got_more o [] y (suc j) e = refl
  got_more o (x ∷ xs) y zero e = refl
  got_more o (x ∷ xs) y (suc j) e = got_more o xs y j e

  past_end : (xs : List Object) → slice_get xs (length xs) ≡ None
  past_end [] = refl
  past_end (x ∷ xs) = past_end xs

  nothing_behind : {A : Type 0} (xs : List A) → xs ++ [] ≡ xs
  nothing_behind [] = refl
  nothing_behind (x ∷ xs) = ap (λ l. x ∷ l) (nothing_behind xs)

  regrouped : {A : Type 0} (xs ys zs : List A) → xs ++ (ys ++ zs) ≡ (xs ++ ys) ++ zs
  regrouped [] ys zs = refl
  regrouped (x ∷ xs) ys zs = ap (λ l. x ∷ l) (regrouped xs ys zs)

  watched_more : (order : List ObjId) (xs : List Object) (y : Object) → y.keeping.enabled ≡ [] → watched_of q order (xs ++ y ∷ []) ≡ watched_of q order xs
  watched_more order xs y e =
      flat_same (λ o. watched_by q o (object_at (xs ++ y ∷ []) o)) before (λ o. at o o.0) (all_in q order (xs ++ y ∷ []))
      ∙ ap (λ l. flat_map before (order ++ filter (λ o. not (is_object_among o order)) l)) (numbers_more 1 xs y ∙ ap (λ n. numbers_from q 1 xs ++ objid n ∷ []) one_more)
      ∙ ap (λ l. flat_map before (order ++ l)) (filter-append (λ o. not (is_object_among o order)) (numbers_from q 1 xs) (objid (suc (length xs)) ∷ []))
      ∙ ap (λ l. flat_map before l) (regrouped order (filter (λ o. not (is_object_among o order)) (numbers_from q 1 xs)) (last (not (is_object_among (objid (suc (length xs))) order))))
      ∙ flat_map-append before (all_in q order xs) (last (not (is_object_among (objid (suc (length xs))) order)))
      ∙ ap (λ l. watched_of q order xs ++ l) (alone (not (is_object_among (objid (suc (length xs))) order)))
      ∙ nothing_behind (watched_of q order xs)
    where
      one_more : 1 + length xs ≡ suc (length xs)
      one_more = omega arith

      before : ObjId → List Watched
      before o = watched_by q o (object_at xs o)

      at : (o : ObjId) (n : ℕ) → watched_by q o (entry (xs ++ y ∷ []) n) ≡ watched_by q o (entry xs n)
      at o zero = refl
      at o (suc n) = got_more o xs y n e

      last : Bool → List ObjId
      last b = if b then objid (suc (length xs)) ∷ [] else []

      alone : (b : Bool) → flat_map before (last b) ≡ []
      alone true = flat_map-cons before (objid (suc (length xs))) [] ∙ nothing_behind (before (objid (suc (length xs)))) ∙ ap (λ x. watched_by q (objid (suc (length xs))) x) (past_end xs)
      alone false = refl

  -- the stage with an object more, where this stands for it
  pub stage_more : (order : List ObjId) (w : World) (y : Object) (i : Inside) → inside_of q (beside w) (next_object w.objects) y.kind y.keeping.enabled ≡ i → y.keeping.enabled ≡ []
      → record (stage_of q order w) { entities = entities_of q (beside w) 1 w.objects ++ record { object = y; inside = i } ∷ [] } ≡ stage_of q order (record w { objects = w.objects ++ y ∷ [] })
  stage_more order w y i e none =
      let n : suc (length w.objects) ≡ 1 + length w.objects = omega arith in
      ap (λ x. record (stage_of q order w) { entities = entities_of q (beside w) 1 w.objects ++ record { object = y; inside = x } ∷ [] }) (sym e)
      ∙ ap (λ m. record (stage_of q order w) { entities = entities_of q (beside w) 1 w.objects ++ entity_of q (beside w) (objid m) y ∷ [] }) n
      ∙ ap (λ l. record (stage_of q order w) { entities = l }) (sym (entities_more (beside w) 1 w.objects y))
      ∙ ap (λ l. record { entities = entities_of q (beside w) 1 (w.objects ++ y ∷ []); watched = l; cells = w.cells }) (sym (watched_more order w.objects y none))

  fields_more : (xs : List Object) (y : Object) (j : ℕ) → ((i : ℕ) (c : Object) → slice_get xs i ≡ Some c → HasFields q.source c) → HasFields q.source y
      → (d : Object) → slice_get (xs ++ y ∷ []) j ≡ Some d → HasFields q.source d
  fields_more [] y zero all new d e = subst (λ x. HasFields q.source x) (some_same e) new
    where
      some_same : Some y ≡ Some d → y ≡ d
      some_same is = cc
  fields_more [] y (suc j) all new d e = absurd cc
  fields_more (x ∷ xs) y zero all new d e = all 0 d e
  fields_more (x ∷ xs) y (suc j) all new d e = fields_more xs y j (λ i c g. all (suc i) c g) new d e

  pub holds_more : (w : World) (y : Object) → HasFields q.source y → Holds q.source w → Holds q.source (record w { objects = w.objects ++ y ∷ [] })
  holds_more w y new h = record { fields = λ p d e. at p.0 d e }
    where
      at : (m : ℕ) (d : Object) → entry (w.objects ++ y ∷ []) m ≡ Some d → HasFields q.source d
      at zero d e = absurd cc
      at (suc m) d e = fields_more w.objects y m (λ i x g. h.fields (objid (suc i)) x g) new d e
