-- A change affects on the machine the bindings that it affects in the source.
use Rattle.std.proofs.Common.{◌≡◌, ◌⊎◌, inl, inr, refl, sym, ap, ◌∙◌, subst, arith}
use Rattle.std.proofs.lemmas.Bool.{lt-ltb}
use Rattle.std.proofs.lemmas.List.{map-append}
use Rattle.std.specs.List.{filter, list_any}
use Rattle.std.specs.Prelude.{Bool, List, None, Option, Some, [], false, if◌then◌else◌, is_some, length, map, not, option_and_then, option_map, slice_get, suc, true, zero, ℕ, ◌&&◌, ◌++◌, ◌+◌, ◌<◌, ◌||◌, ◌==◌, ◌∷◌, ◌≤◌}
use Rattle.std.specs.Str.{bytes_eq}
use Rattle.flex_base.specs.Lists.{entry}
use Rattle.flex_base.specs.Value.{is_object, ref_of}
use Rattle.flex_base.specs.declared.value.ObjId.{ObjId}
use Rattle.component_catalog.specs.Classes.{or_else}
use Rattle.flex_world.specs.declared.kind.Class.TheVariants as Class
use Rattle.flex_world.specs.Objects.{An_array, Field, Instance_of, Kind, Object, Watcher, class_of_kind, field_named, is_number_among, is_object_among, object_at, object_in_slot, ref_or_null, watcher}
use Rattle.flex_world.specs.Watching.{reaches}
use Rattle.flex_program.proofs.ClassLaws.{same_text}
use Rattle.flex_program.specs.Classes.{document_in, document_of}
use Rattle.flex_program.specs.Instances.{parts_of}
use Rattle.flex_program.specs.Program.{Binding, Chain, Document, Part}
use Rattle.flex_meaning.specs.Watching.{affected, affected_from, chain_start, held_in, watchers_in, watchers_of, watches}
use Rattle.flex_meaning.specs.World.{World, built_object}
use Rattle.program_code.specs.Names.{chain_keys, has_names, registered_chains, start_keys}
use Rattle.program_simulation.proofs.Equations.{kept_slot, no_kept_field}
use Rattle.program_simulation.proofs.Ordered.{same_number, Before, In, Ordered, Pair, any_in, appended_in, appended_ordered, filtered_in, flat_in, folded_in, folded_ordered, in_any, in_appended, in_filtered, in_flat, in_folded, in_mapped, in_place, mapped_in, same_ordered}
use Rattle.program_simulation.proofs.Standing.{entity_there}
use Rattle.program_simulation.specs.Following.{Holds}
use Rattle.program_simulation.specs.Image.{IsImage, IsKept}
use Rattle.program_simulation.specs.Laws.{HasPlainBindings, HasStart}
use Rattle.program_simulation.specs.Stands.{Beside, Image, all_in, behind_root, beside, bindings_of, document_inside, entity_of, hidden_slots, inside_of, numbers_from, stage_of, watched_by, watched_from, watched_of}
use Rattle.avm2_program.specs.Naming.{Naming}
use Rattle.watch_table.specs.Affected as watch
use Rattle.watch_table.specs.declared.watch.Watched.{Watched}
use Rattle.flex_objects.specs.Entities.{kept}
use Rattle.ui_runtime.specs.Stage as stage
use Rattle.avm2_meaning.specs.Classes.{native_of}
use Rattle.avm2_meaning.specs.Properties.{watcher_of}

or_none : (x : Option Field) → or_else x None ≡ x
or_none None = refl
or_none (Some f) = refl

ref_back : (x : Option ObjId) → ref_of (ref_or_null x) ≡ x
ref_back None = refl
ref_back (Some o) = refl

module _ {q : Image} {g : Naming} (is : IsImage g q) (plain : HasPlainBindings q.source) (order : List ObjId) (w : World) (holds : Holds q.source w)
    (o : ObjId) (name : List ℕ) (changed : Object) (changed_there : object_at w.objects o ≡ Some changed) (has : is_some (field_named name changed.fields) ≡ true) where
  abbrev on_stage : ObjId → List ℕ → Option ObjId
  on_stage x key = stage.held (stage_of q order w) x key

  abbrev in_source : ObjId → List ℕ → Option ObjId
  in_source x key = held_in w.objects x key

  -- the object in a slot of an object, hidden or not
  kept_by : (x : ObjId) (key : List ℕ)
      → on_stage x key ≡ option_and_then (λ (c : Object). option_and_then object_in_slot (or_else (field_named key c.fields) (field_named key (inside_of q (beside w) x c.kind c.keeping.enabled).hidden))) (object_at w.objects x)
  kept_by x key = ap (option_and_then (λ e. option_and_then object_in_slot (kept key e))) (entity_there q order w x) ∙ whole (object_at w.objects x)
    where
      whole : (y : Option Object) → option_and_then (λ e. option_and_then object_in_slot (kept key e)) (option_map (λ c. entity_of q (beside w) x c) y)
          ≡ option_and_then (λ (c : Object). option_and_then object_in_slot (or_else (field_named key c.fields) (field_named key (inside_of q (beside w) x c.kind c.keeping.enabled).hidden))) y
      whole None = refl
      whole (Some c) = refl

  -- no hidden slot has this name
  abbrev IsUnhidden : List ℕ → Type 0
  IsUnhidden n = (x : ObjId) (k : Kind) (l : List ℕ) → field_named n (inside_of q (beside w) x k l).hidden ≡ None

  unhidden : (n : List ℕ) → ((other : ℕ) (e : Document) → document_of q.source (Class.File other) ≡ Some e → (b : Beside) (x : ObjId) → field_named n (hidden_slots q.labels b x e) ≡ None) → IsUnhidden n
  unhidden n none x An_array l = refl
  unhidden n none x (Instance_of (Class.Native class)) l = refl
  unhidden n none x (Instance_of (Class.File k)) l = at (document_of q.source (Class.File k)) refl
    where
      at : (d : Option Document) → document_of q.source (Class.File k) ≡ d → field_named n (document_inside q.labels (beside w) x k l (native_of q.program (Class.File k)) d).hidden ≡ None
      at None e = refl
      at (Some d) e = none k d e (beside w) x

  held_same : (n : List ℕ) → IsUnhidden n → (x : ObjId) → on_stage x n ≡ in_source x n
  held_same n none x = kept_by x n ∙ at (object_at w.objects x)
    where
      at : (y : Option Object) → option_and_then (λ (c : Object). option_and_then object_in_slot (or_else (field_named n c.fields) (field_named n (inside_of q (beside w) x c.kind c.keeping.enabled).hidden))) y
          ≡ option_and_then object_in_slot (option_and_then (λ (c : Object). field_named n c.fields) y)
      at None = refl
      at (Some c) = ap (λ z. option_and_then object_in_slot (or_else (field_named n c.fields) z)) (none x c.kind c.keeping.enabled) ∙ ap (option_and_then object_in_slot) (or_none (field_named n c.fields))

  -- the walk along such names
  reaches_same : (names : List (List ℕ)) → ((i : ℕ) (n : List ℕ) → slice_get names i ≡ Some n → IsUnhidden n) → (from : Option ObjId) → reaches on_stage o name names from ≡ reaches in_source o name names from
  reaches_same [] none from = refl
  reaches_same (n ∷ names) none None = refl
  reaches_same (n ∷ names) none (Some x) =
      ap (λ z. (is_object x o && bytes_eq n name) || z) (reaches_same names (λ i m e. none (suc i) m e) (on_stage x n) ∙ ap (reaches in_source o name names) (held_same n (none 0 n refl) x))

  -- of a document
  module _ (doc : ObjId) (c : Object) (there : object_at w.objects doc ≡ Some c) (k : ℕ) (kind : c.kind ≡ Instance_of (Class.File k)) (d : Document) (is_d : document_of q.source (Class.File k) ≡ Some d) where
    -- the slot of an instance
    slot_held : (number place : ℕ) (part : Part) → slice_get (behind_root (parts_of d.root)) place ≡ Some part → part.number ≡ suc number → on_stage doc (q.labels.instance_key (suc number)) ≡ built_object w.built doc (suc number)
    slot_held number place part there_is is_number =
        subst (λ m. on_stage doc (q.labels.instance_key m) ≡ option_map (λ (b : Rattle.flex_meaning.specs.World.Built). b.object) (Rattle.std.specs.List.find (Rattle.flex_meaning.specs.World.is_of_instance doc m) w.built)) is_number
        (ap (option_and_then (λ e. option_and_then object_in_slot (kept key e))) (entity_there q order w doc ∙ ap (option_map (λ z. entity_of q (beside w) doc z)) there)
        ∙ ap (option_and_then object_in_slot) (kept_slot q w doc c k d part holds there kind is_d (is.kept k d place part is_d there_is))
        ∙ ref_back (option_map (λ (b : Rattle.flex_meaning.specs.World.Built). b.object) (Rattle.std.specs.List.find (Rattle.flex_meaning.specs.World.is_of_instance doc part.number) w.built)))
      where
        key : List ℕ
        key = q.labels.instance_key part.number

    -- which isn't the property that changed
    key_unlike : (part : Part) → IsKept q k d part → (is_object doc o && bytes_eq (q.labels.instance_key part.number) name) ≡ false
    key_unlike part keeps = by (is_object doc o) refl (bytes_eq (q.labels.instance_key part.number) name) refl
      where
        same_object : (x y : Object) → Some x ≡ Some y → x ≡ y
        same_object x y e = cc

        contrary : doc.0 ≡ o.0 → q.labels.instance_key part.number ≡ name → ⊥
        contrary e f =
            let same = same_object c changed (sym there ∙ ap (λ m. entry w.objects m) e ∙ changed_there) in
            let is_there : is_some (field_named (q.labels.instance_key part.number) c.fields) ≡ true = subst (λ z. is_some (field_named z c.fields) ≡ true) (sym f) (subst (λ z. is_some (field_named name z.fields) ≡ true) (sym same) has) in
            let both : false ≡ true = sym (ap is_some (no_kept_field q w doc c k d part holds there kind keeps)) ∙ is_there in cc

        by : (a : Bool) → is_object doc o ≡ a → (b : Bool) → bytes_eq (q.labels.instance_key part.number) name ≡ b → (a && b) ≡ false
        by false is_a b is_b = refl
        by true is_a false is_b = refl
        by true is_a true is_b = absurd (contrary (same_number doc.0 o.0 is_a) (same_text (q.labels.instance_key part.number) name is_b))

    -- a chain reaches the property on both sides
    chain_same : (start : Option ℕ) (names : List (List ℕ)) → HasStart d start → ((i : ℕ) (n : List ℕ) → slice_get names i ≡ Some n → IsUnhidden n)
        → reaches on_stage o name (start_keys q.labels start ++ names) (Some doc) ≡ reaches in_source o name names (chain_start w.built doc start)
    chain_same None names starts none = reaches_same names none (Some doc)
    chain_same (Some zero) names starts none = reaches_same names none (Some doc)
    chain_same (Some (suc n)) names starts none =
        ap (λ z. z || reaches on_stage o name names (on_stage doc (q.labels.instance_key (suc n)))) unlike
        ∙ reaches_same names none (on_stage doc (q.labels.instance_key (suc n)))
        ∙ ap (reaches in_source o name names) (slot_held n starts.0 starts.1 starts.2 starts.3)
      where
        unlike : (is_object doc o && bytes_eq (q.labels.instance_key (suc n)) name) ≡ false
        unlike = subst (λ m. (is_object doc o && bytes_eq (q.labels.instance_key m) name) ≡ false) starts.3 (key_unlike starts.1 (is.kept k d starts.0 starts.1 is_d starts.2))

    -- of a binding
    module _ (number : ℕ) (b : Binding) (is_b : slice_get d.bindings number ≡ Some b) where
      of_chain : (chain : Chain) → In chain b.chains → reaches on_stage o name (chain_keys q.labels chain) (Some doc) ≡ reaches in_source o name chain.names (chain_start w.built doc chain.start)
      of_chain chain among =
          let at = in_place b.chains chain among in
          chain_same chain.start chain.names ((plain k d number b is_d is_b).2 at.0 chain at.1) (λ i n e. unhidden n (is.unwatched k d number b at.0 chain i n is_d is_b at.1 e))

      watched_there : (keys : List (List ℕ)) → In keys (registered_chains q.labels b) → reaches on_stage o name keys (Some doc) ≡ true → watches w.objects w.built doc o name b ≡ true
      watched_there keys among e =
          let m = in_mapped (chain_keys q.labels) (filter has_names b.chains) keys among in
          let f = in_filtered has_names b.chains m.0 m.1 in
          any_in (λ (chain : Chain). reaches in_source o name chain.names (chain_start w.built doc chain.start)) b.chains m.0 f.0
          (sym (of_chain m.0 f.0) ∙ subst (λ z. reaches on_stage o name z (Some doc) ≡ true) m.2 e)

      some_names : (names : List (List ℕ)) (from : Option ObjId) → reaches in_source o name names from ≡ true → Rattle.std.specs.Prelude.nat_lt 0 (length names) ≡ true
      some_names [] from e = absurd cc
      some_names (n ∷ names) from e = lt-ltb 0 (suc (length names)) (omega arith)

      there_watched : watches w.objects w.built doc o name b ≡ true → (keys : List (List ℕ)) × In keys (registered_chains q.labels b) × (reaches on_stage o name keys (Some doc) ≡ true)
      there_watched e =
          let a = in_any (λ (chain : Chain). reaches in_source o name chain.names (chain_start w.built doc chain.start)) b.chains e in
          (chain_keys q.labels a.0, mapped_in (chain_keys q.labels) (filter has_names b.chains) a.0 (filtered_in has_names b.chains a.0 a.1 (some_names a.0.names (chain_start w.built doc a.0.start) a.2)), of_chain a.0 a.1 ∙ a.2)

  -- a binding, by its document and its number, that watches the property
  record IsAffected (p : Pair) : Type 0 where
    object : Object
    there : object_at w.objects p.0 ≡ Some object
    document : Document
    is_document : document_in q.source object ≡ Some document
    binding : Binding
    binding_there : slice_get document.bindings p.1 ≡ Some binding
    enabled : is_number_among p.1 object.keeping.enabled ≡ true
    watches_it : watches w.objects w.built p.0 o name binding ≡ true

  class_there : (c : Object) (d : Document) → document_in q.source c ≡ Some d → (k : ℕ) × (c.kind ≡ Instance_of (Class.File k)) × (document_of q.source (Class.File k) ≡ Some d)
  class_there c d e = at c.kind refl e
    where
      at : (kind : Kind) → c.kind ≡ kind → option_and_then (document_of q.source) (class_of_kind kind) ≡ Some d → (k : ℕ) × (c.kind ≡ Instance_of (Class.File k)) × (document_of q.source (Class.File k) ≡ Some d)
      at An_array e1 f = absurd cc
      at (Instance_of (Class.Native class)) e1 f = absurd cc
      at (Instance_of (Class.File k)) e1 f = (k, e1, f)

  -- what a document watches from a binding on
  record IsWatched (doc : ObjId) (enabled : List ℕ) (n : ℕ) (bs : List Binding) (v : Watched) : Type 0 where
    place : ℕ
    number : ℕ
    number_is : number ≡ n + place
    binding : Binding
    there : slice_get bs place ≡ Some binding
    is_enabled : is_number_among number enabled ≡ true
    keys : List (List ℕ)
    keys_in : In keys (registered_chains q.labels binding)
    is_v : v ≡ record { document = doc; binding = number; chain = keys }

  is_watched : (doc : ObjId) (enabled : List ℕ) (n : ℕ) (bs : List Binding) (v : Watched) → In v (watched_from q.labels doc enabled n bs) → IsWatched doc enabled n bs v
  is_watched doc enabled n [] v i = absurd i
  is_watched doc enabled n (b ∷ bs) v i = by (is_number_among n enabled) refl i (is_watched doc enabled (suc n) bs v)
    where
      later : IsWatched doc enabled (suc n) bs v → IsWatched doc enabled n (b ∷ bs) v
      later r = record {
        place = suc r.place;
        number = r.number;
        number_is = (let e = r.number_is in omega (arith, e));
        binding = r.binding;
        there = r.there;
        is_enabled = r.is_enabled;
        keys = r.keys;
        keys_in = r.keys_in;
        is_v = r.is_v;
      }

      here : is_number_among n enabled ≡ true → In v (map (λ chain. record { document = doc; binding = n; chain = chain }) (registered_chains q.labels b)) → IsWatched doc enabled n (b ∷ bs) v
      here among j =
          let m = in_mapped (λ chain. record { document = doc; binding = n; chain = chain }) (registered_chains q.labels b) v j in
          record { place = 0; number = n; number_is = omega arith; binding = b; there = refl; is_enabled = among; keys = m.0; keys_in = m.1; is_v = m.2 }

      sides : is_number_among n enabled ≡ true → In v (map (λ chain. record { document = doc; binding = n; chain = chain }) (registered_chains q.labels b)) ⊎ In v (watched_from q.labels doc enabled (suc n) bs)
          → (In v (watched_from q.labels doc enabled (suc n) bs) → IsWatched doc enabled (suc n) bs v) → IsWatched doc enabled n (b ∷ bs) v
      sides among (inl j) rest = here among j
      sides among (inr j) rest = later (rest j)

      by : (t : Bool) → is_number_among n enabled ≡ t → In v ((if t then map (λ chain. record { document = doc; binding = n; chain = chain }) (registered_chains q.labels b) else []) ++ watched_from q.labels doc enabled (suc n) bs)
          → (In v (watched_from q.labels doc enabled (suc n) bs) → IsWatched doc enabled (suc n) bs v) → IsWatched doc enabled n (b ∷ bs) v
      by true among j rest = sides among (in_appended (map (λ chain. record { document = doc; binding = n; chain = chain }) (registered_chains q.labels b)) (watched_from q.labels doc enabled (suc n) bs) v j) rest
      by false among j rest = later (rest j)

  watched_back : (doc : ObjId) (enabled : List ℕ) (n : ℕ) (bs : List Binding) (place number : ℕ) (b : Binding) (keys : List (List ℕ)) → slice_get bs place ≡ Some b → number ≡ n + place → is_number_among number enabled ≡ true
      → In keys (registered_chains q.labels b) → In (record { document = doc; binding = number; chain = keys }) (watched_from q.labels doc enabled n bs)
  watched_back doc enabled n [] place number b keys there e among i = absurd cc
  watched_back doc enabled n (b0 ∷ bs) zero number b keys there e among i =
      subst (λ m. In (record { document = doc; binding = m; chain = keys }) (watched_from q.labels doc enabled n (b0 ∷ bs))) (is_n)
      (subst (λ t. In (record { document = doc; binding = n; chain = keys }) ((if t then map (λ chain. record { document = doc; binding = n; chain = chain }) (registered_chains q.labels b0) else []) ++ watched_from q.labels doc enabled (suc n) bs)) (sym (subst (λ m. is_number_among m enabled ≡ true) (sym is_n) among))
      (appended_in (map (λ chain. record { document = doc; binding = n; chain = chain }) (registered_chains q.labels b0)) (watched_from q.labels doc enabled (suc n) bs) (record { document = doc; binding = n; chain = keys })
      (inl (mapped_in (λ chain. record { document = doc; binding = n; chain = chain }) (registered_chains q.labels b0) keys (subst (λ z. In keys (registered_chains q.labels z)) (sym (same_binding b0 b there)) i)))))
    where
      is_n : n ≡ number
      is_n = omega (arith, e)

      same_binding : (x y : Binding) → Some x ≡ Some y → x ≡ y
      same_binding x y f = cc
  watched_back doc enabled n (b0 ∷ bs) (suc place) number b keys there e among i =
      by (is_number_among n enabled) (watched_back doc enabled (suc n) bs place number b keys there (omega (arith, e)) among i)
    where
      by : (t : Bool) → In (record { document = doc; binding = number; chain = keys }) (watched_from q.labels doc enabled (suc n) bs)
          → In (record { document = doc; binding = number; chain = keys }) ((if t then map (λ chain. record { document = doc; binding = n; chain = chain }) (registered_chains q.labels b0) else []) ++ watched_from q.labels doc enabled (suc n) bs)
      by true j = appended_in (map (λ chain. record { document = doc; binding = n; chain = chain }) (registered_chains q.labels b0)) (watched_from q.labels doc enabled (suc n) bs) (record { document = doc; binding = number; chain = keys }) (inr j)
      by false j = j

  -- each object is among all
  numbers_in : (n : ℕ) (xs : List Object) (place number : ℕ) (c : Object) → slice_get xs place ≡ Some c → number ≡ n + place → In (record { 0 = number }) (numbers_from q n xs)
  numbers_in n [] place number c there e = absurd cc
  numbers_in n (x ∷ xs) zero number c there e = inl (let is_n : number ≡ n = omega (arith, e) in λ i. record { 0 = is_n i })
  numbers_in n (x ∷ xs) (suc place) number c there e = inr (numbers_in (suc n) xs place number c there (omega (arith, e)))

  all_there : (x : ObjId) (c : Object) → object_at w.objects x ≡ Some c → In x (all_in q order w.objects)
  all_there x c there = by (is_object_among x order) refl
    where
      at_number : (m : ℕ) → entry w.objects m ≡ Some c → In (record { 0 = m }) (numbers_from q 1 w.objects)
      at_number zero e = absurd cc
      at_number (suc m) e = numbers_in 1 w.objects m (suc m) c e (omega arith)

      same_id : (y : ObjId) → is_object x y ≡ true → x ≡ y
      same_id y e = let f = same_number x.0 y.0 e in λ i. record { 0 = f i }

      others : List ObjId
      others = filter (λ y. not (is_object_among y order)) (numbers_from q 1 w.objects)

      by : (t : Bool) → is_object_among x order ≡ t → In x (all_in q order w.objects)
      by true e = let a = in_any (is_object x) order e in appended_in order others x (inl (subst (λ z. In z order) (sym (same_id a.0 a.2)) a.1))
      by false e = appended_in order others x (inr (filtered_in (λ y. not (is_object_among y order)) (numbers_from q 1 w.objects) x (at_number x.0 there) (ap not e)))

  -- those that the machine tells
  abbrev told : List Pair
  told = map watch.pair_of (filter (watch.watches on_stage o name) (watched_of q order w.objects))

  told_affected : (p : Pair) → In p told → IsAffected p
  told_affected p i =
      let m = in_mapped watch.pair_of (filter (watch.watches on_stage o name) (watched_of q order w.objects)) p i in
      let f = in_filtered (watch.watches on_stage o name) (watched_of q order w.objects) m.0 m.1 in
      let x = in_flat (λ y. watched_by q y (object_at w.objects y)) (all_in q order w.objects) m.0 f.0 in
      subst (λ z. IsAffected z) (sym m.2) (of_object x.0 m.0 f.1 (object_at w.objects x.0) refl x.2)
    where
      of_document : (x : ObjId) (v : Watched) → watch.watches on_stage o name v ≡ true → (c : Object) → object_at w.objects x ≡ Some c → (d : Option Document) → document_in q.source c ≡ d
          → In v (watched_from q.labels x c.keeping.enabled 0 (bindings_of q d)) → IsAffected (watch.pair_of v)
      of_document x v watched c there None is_d j = absurd j
      of_document x v watched c there (Some d) is_d j =
          let r = is_watched x c.keeping.enabled 0 d.bindings v j in
          let k = class_there c d is_d in
          let at_place : slice_get d.bindings r.number ≡ Some r.binding = subst (λ z. slice_get d.bindings z ≡ Some r.binding) (let e = r.number_is in omega (arith, e)) r.there in
          subst (λ z. IsAffected (watch.pair_of z)) (sym r.is_v)
          (record {
            object = c;
            there = there;
            document = d;
            is_document = is_d;
            binding = r.binding;
            binding_there = at_place;
            enabled = r.is_enabled;
            watches_it = watched_there x c there k.0 k.1 d k.2 r.number r.binding at_place r.keys r.keys_in (subst (λ z. watch.watches on_stage o name z ≡ true) r.is_v watched);
          })

      of_object : (x : ObjId) (v : Watched) → watch.watches on_stage o name v ≡ true → (c : Option Object) → object_at w.objects x ≡ c → In v (watched_by q x c) → IsAffected (watch.pair_of v)
      of_object x v watched None there j = absurd j
      of_object x v watched (Some c) there j = of_document x v watched c there (document_in q.source c) refl j

  affected_told : (p : Pair) → IsAffected p → In p told
  affected_told p a =
      let k = class_there a.object a.document a.is_document in
      let keys = there_watched p.0 a.object a.there k.0 k.1 a.document k.2 p.1 a.binding a.binding_there a.watches_it in
      mapped_in watch.pair_of (filter (watch.watches on_stage o name) (watched_of q order w.objects)) (record { document = p.0; binding = p.1; chain = keys.0 })
      (filtered_in (watch.watches on_stage o name) (watched_of q order w.objects) (record { document = p.0; binding = p.1; chain = keys.0 })
      (flat_in (λ y. watched_by q y (object_at w.objects y)) (all_in q order w.objects) (record { document = p.0; binding = p.1; chain = keys.0 }) p.0 (all_there p.0 a.object a.there)
      (subst (λ z. In (record { document = p.0; binding = p.1; chain = keys.0 }) (watched_by q p.0 z)) (sym a.there)
      (subst (λ z. In (record { document = p.0; binding = p.1; chain = keys.0 }) (watched_from q.labels p.0 a.object.keeping.enabled 0 (bindings_of q z))) (sym a.is_document)
      (watched_back p.0 a.object.keeping.enabled 0 a.document.bindings p.1 p.1 a.binding keys.0 a.binding_there (omega arith) a.enabled keys.1))))
      keys.2)

  -- those that the source tells
  abbrev pair_of_watcher : Watcher → Pair
  pair_of_watcher v = (v.document, v.number)

  record IsHeard (doc : ObjId) (enabled : List ℕ) (n : ℕ) (bs : List Binding) (p : Pair) : Type 0 where
    place : ℕ
    number : ℕ
    number_is : number ≡ n + place
    binding : Binding
    there : slice_get bs place ≡ Some binding
    is_enabled : is_number_among number enabled ≡ true
    watches_it : watches w.objects w.built doc o name binding ≡ true
    is_p : p ≡ (doc, number)

  both : (a b : Bool) → (a && b) ≡ true → (a ≡ true) × (b ≡ true)
  both true b e = (refl, e)
  both false b e = absurd cc

  is_heard : (doc : ObjId) (enabled : List ℕ) (n : ℕ) (bs : List Binding) (p : Pair) → In p (map pair_of_watcher (watchers_in w.objects w.built o doc name enabled n bs)) → IsHeard doc enabled n bs p
  is_heard doc enabled n [] p i = absurd i
  is_heard doc enabled n (b ∷ bs) p i = by (is_number_among n enabled && watches w.objects w.built doc o name b) refl i (is_heard doc enabled (suc n) bs p)
    where
      later : IsHeard doc enabled (suc n) bs p → IsHeard doc enabled n (b ∷ bs) p
      later r = record {
        place = suc r.place;
        number = r.number;
        number_is = (let e = r.number_is in omega (arith, e));
        binding = r.binding;
        there = r.there;
        is_enabled = r.is_enabled;
        watches_it = r.watches_it;
        is_p = r.is_p;
      }

      by : (t : Bool) → (is_number_among n enabled && watches w.objects w.built doc o name b) ≡ t → In p (map pair_of_watcher ((if t then watcher doc n ∷ [] else []) ++ watchers_in w.objects w.built o doc name enabled (suc n) bs))
          → (In p (map pair_of_watcher (watchers_in w.objects w.built o doc name enabled (suc n) bs)) → IsHeard doc enabled (suc n) bs p) → IsHeard doc enabled n (b ∷ bs) p
      by true e (inl j) rest =
          let h = both (is_number_among n enabled) (watches w.objects w.built doc o name b) e in
          record { place = 0; number = n; number_is = omega arith; binding = b; there = refl; is_enabled = h.0; watches_it = h.1; is_p = j }
      by true e (inr j) rest = later (rest j)
      by false e j rest = later (rest j)

  heard_back : (doc : ObjId) (enabled : List ℕ) (n : ℕ) (bs : List Binding) (place number : ℕ) (b : Binding) → slice_get bs place ≡ Some b → number ≡ n + place → is_number_among number enabled ≡ true
      → watches w.objects w.built doc o name b ≡ true → In (doc, number) (map pair_of_watcher (watchers_in w.objects w.built o doc name enabled n bs))
  heard_back doc enabled n [] place number b there e among heard = absurd cc
  heard_back doc enabled n (b0 ∷ bs) zero number b there e among heard =
      subst (λ t. In (doc, number) (map pair_of_watcher ((if t then watcher doc n ∷ [] else []) ++ watchers_in w.objects w.built o doc name enabled (suc n) bs))) (sym tests) (inl (ap (λ m. (doc, m)) (sym is_n)))
    where
      is_n : n ≡ number
      is_n = omega (arith, e)

      same_binding : (x y : Binding) → Some x ≡ Some y → x ≡ y
      same_binding x y f = cc

      tests : (is_number_among n enabled && watches w.objects w.built doc o name b0) ≡ true
      tests =
          ap (λ z. z && watches w.objects w.built doc o name b0) (subst (λ m. is_number_among m enabled ≡ true) (sym is_n) among)
          ∙ subst (λ z. watches w.objects w.built doc o name z ≡ true) (sym (same_binding b0 b there)) heard
  heard_back doc enabled n (b0 ∷ bs) (suc place) number b there e among heard =
      by (is_number_among n enabled && watches w.objects w.built doc o name b0) (heard_back doc enabled (suc n) bs place number b there (omega (arith, e)) among heard)
    where
      by : (t : Bool) → In (doc, number) (map pair_of_watcher (watchers_in w.objects w.built o doc name enabled (suc n) bs))
          → In (doc, number) (map pair_of_watcher ((if t then watcher doc n ∷ [] else []) ++ watchers_in w.objects w.built o doc name enabled (suc n) bs))
      by true j = inr j
      by false j = j

  heard_ordered : (doc : ObjId) (enabled : List ℕ) (n : ℕ) (bs : List Binding) → Ordered (map pair_of_watcher (watchers_in w.objects w.built o doc name enabled n bs))
  heard_ordered doc enabled n [] = tt
  heard_ordered doc enabled n (b ∷ bs) = by (is_number_among n enabled && watches w.objects w.built doc o name b) (heard_ordered doc enabled (suc n) bs)
    where
      behind : (p : Pair) → In p (map pair_of_watcher (watchers_in w.objects w.built o doc name enabled (suc n) bs)) → Before (doc, n) p
      behind p i =
          let r = is_heard doc enabled (suc n) bs p i in
          subst (λ z. Before (doc, n) z) (sym r.is_p) (inr (refl, (let e = r.number_is in omega (arith, e))))

      by : (t : Bool) → Ordered (map pair_of_watcher (watchers_in w.objects w.built o doc name enabled (suc n) bs))
          → Ordered (map pair_of_watcher ((if t then watcher doc n ∷ [] else []) ++ watchers_in w.objects w.built o doc name enabled (suc n) bs))
      by true rest = (behind, rest)
      by false rest = rest

  abbrev heard_from : ℕ → List Object → List Pair
  heard_from n xs = map pair_of_watcher (affected_from q.source w.objects w.built o name (record { 0 = n }) xs)

  abbrev heard_by : ℕ → Object → Option Document → List Pair
  heard_by n c d = map pair_of_watcher (watchers_of w.objects w.built o name (record { 0 = n }) c.keeping.enabled d)

  heard_apart : (n : ℕ) (c : Object) (xs : List Object) → heard_from n (c ∷ xs) ≡ heard_by n c (document_in q.source c) ++ heard_from (suc n) xs
  heard_apart n c xs = map-append pair_of_watcher (watchers_of w.objects w.built o name (record { 0 = n }) c.keeping.enabled (document_in q.source c)) (affected_from q.source w.objects w.built o name (record { 0 = suc n }) xs)

  record IsHeardOf (n : ℕ) (xs : List Object) (p : Pair) : Type 0 where
    place : ℕ
    number : ℕ
    number_is : number ≡ n + place
    object : Object
    there : slice_get xs place ≡ Some object
    document : Document
    is_document : document_in q.source object ≡ Some document
    heard : IsHeard (record { 0 = number }) object.keeping.enabled 0 document.bindings p

  heard_of : (n : ℕ) (xs : List Object) (p : Pair) → In p (heard_from n xs) → IsHeardOf n xs p
  heard_of n [] p i = absurd i
  heard_of n (c ∷ xs) p i = by (in_appended (heard_by n c (document_in q.source c)) (heard_from (suc n) xs) p (subst (λ l. In p l) (heard_apart n c xs) i)) (heard_of (suc n) xs p)
    where
      later : IsHeardOf (suc n) xs p → IsHeardOf n (c ∷ xs) p
      later r = record {
        place = suc r.place;
        number = r.number;
        number_is = (let e = r.number_is in omega (arith, e));
        object = r.object;
        there = r.there;
        document = r.document;
        is_document = r.is_document;
        heard = r.heard;
      }

      here : (d : Option Document) → document_in q.source c ≡ d → In p (heard_by n c d) → IsHeardOf n (c ∷ xs) p
      here None is_d j = absurd j
      here (Some d) is_d j =
          record { place = 0; number = n; number_is = omega arith; object = c; there = refl; document = d; is_document = is_d; heard = is_heard (record { 0 = n }) c.keeping.enabled 0 d.bindings p j }

      by : In p (heard_by n c (document_in q.source c)) ⊎ In p (heard_from (suc n) xs) → (In p (heard_from (suc n) xs) → IsHeardOf (suc n) xs p) → IsHeardOf n (c ∷ xs) p
      by (inl j) rest = here (document_in q.source c) refl j
      by (inr j) rest = later (rest j)

  heard_of_back : (n : ℕ) (xs : List Object) (place number : ℕ) (c : Object) (d : Document) (p : Pair) → slice_get xs place ≡ Some c → number ≡ n + place → document_in q.source c ≡ Some d
      → In p (heard_by number c (Some d)) → In p (heard_from n xs)
  heard_of_back n [] place number c d p there e is_d i = absurd cc
  heard_of_back n (x ∷ xs) zero number c d p there e is_d i =
      subst (λ l. In p l) (sym (heard_apart n x xs)) (appended_in (heard_by n x (document_in q.source x)) (heard_from (suc n) xs) p
      (inl (subst (λ m. In p (heard_by m x (document_in q.source x))) is_n (subst (λ z. In p (heard_by number z (document_in q.source z))) (sym (same_object x c there)) (subst (λ z. In p (heard_by number c z)) (sym is_d) i)))))
    where
      is_n : number ≡ n
      is_n = omega (arith, e)

      same_object : (y z : Object) → Some y ≡ Some z → y ≡ z
      same_object y z f = cc
  heard_of_back n (x ∷ xs) (suc place) number c d p there e is_d i =
      subst (λ l. In p l) (sym (heard_apart n x xs)) (appended_in (heard_by n x (document_in q.source x)) (heard_from (suc n) xs) p (inr (heard_of_back (suc n) xs place number c d p there (omega (arith, e)) is_d i)))

  heard_all_ordered : (n : ℕ) (xs : List Object) → Ordered (heard_from n xs)
  heard_all_ordered n [] = tt
  heard_all_ordered n (c ∷ xs) =
      subst (λ l. Ordered l) (sym (heard_apart n c xs))
      (appended_ordered (heard_by n c (document_in q.source c)) (heard_from (suc n) xs) (first (document_in q.source c)) (heard_all_ordered (suc n) xs) (λ p r i j. less p r (document_in q.source c) i (heard_of (suc n) xs r j)))
    where
      first : (d : Option Document) → Ordered (heard_by n c d)
      first None = tt
      first (Some d) = heard_ordered (record { 0 = n }) c.keeping.enabled 0 d.bindings

      less : (p r : Pair) (d : Option Document) → In p (heard_by n c d) → IsHeardOf (suc n) xs r → Before p r
      less p r None i h = absurd i
      less p r (Some d) i h =
          let a = is_heard (record { 0 = n }) c.keeping.enabled 0 d.bindings p i in
          subst (λ z. Before z r) (sym a.is_p) (subst (λ z. Before (record { 0 = n }, a.number) z) (sym h.heard.is_p) (inl (let e = h.number_is in omega (arith, e))))

  heard_affected : (p : Pair) → In p (heard_from 1 w.objects) → IsAffected p
  heard_affected p i =
      let r = heard_of 1 w.objects p i in
      subst (λ z. IsAffected z) (sym r.heard.is_p)
      (record {
        object = r.object;
        there = subst (λ m. entry w.objects m ≡ Some r.object) (let e = r.number_is in let f : suc r.place ≡ r.number = omega (arith, e) in f) r.there;
        document = r.document;
        is_document = r.is_document;
        binding = r.heard.binding;
        binding_there = subst (λ m. slice_get r.document.bindings m ≡ Some r.heard.binding) (let e = r.heard.number_is in let f : r.heard.place ≡ r.heard.number = omega (arith, e) in f) r.heard.there;
        enabled = r.heard.is_enabled;
        watches_it = r.heard.watches_it;
      })

  affected_heard : (p : Pair) → IsAffected p → In p (heard_from 1 w.objects)
  affected_heard p a = at p.0.0 a.there a.watches_it
    where
      at : (m : ℕ) → entry w.objects m ≡ Some a.object → watches w.objects w.built (record { 0 = m }) o name a.binding ≡ true → In (record { 0 = m }, p.1) (heard_from 1 w.objects)
      at zero e t = absurd cc
      at (suc place) e t =
          heard_of_back 1 w.objects place (suc place) a.object a.document (record { 0 = suc place }, p.1) e (omega arith) a.is_document
          (heard_back (record { 0 = suc place }) a.object.keeping.enabled 0 a.document.bindings p.1 p.1 a.binding a.binding_there (omega arith) a.enabled t)

  told_in : (p : Pair) → In p [] ⊎ In p told → In p told
  told_in p (inl i) = absurd i
  told_in p (inr i) = i

  -- both tell the same
  all_same : watch.affected on_stage o name (watched_of q order w.objects) ≡ heard_from 1 w.objects
  all_same =
      same_ordered (watch.affected on_stage o name (watched_of q order w.objects)) (heard_from 1 w.objects) (folded_ordered [] told tt) (heard_all_ordered 1 w.objects)
      (λ p i. affected_heard p (told_affected p (told_in p (folded_in [] told p i)))) (λ p i. in_folded [] told p (inr (affected_told p (heard_affected p i))))

  as_watchers : (vs : List Watcher) → map watcher_of (map pair_of_watcher vs) ≡ vs
  as_watchers [] = refl
  as_watchers (v ∷ vs) = ap (λ l. v ∷ l) (as_watchers vs)

  pub affects_same : map watcher_of (watch.affected on_stage o name (watched_of q order w.objects)) ≡ affected q.source w.objects w.built o name
  affects_same = ap (map watcher_of) all_same ∙ as_watchers (affected q.source w.objects w.built o name)

-- a change affects the same bindings on both sides
pub changes_affect : {q : Image} {g : Naming} → IsImage g q → HasPlainBindings q.source → (order : List ObjId) (w : World) (o : ObjId) (c : Object) (name : List ℕ)
    → object_at w.objects o ≡ Some c → is_some (field_named name c.fields) ≡ true → Holds q.source w
    → map watcher_of (watch.affected (stage.held (stage_of q order w)) o name (watched_of q order w.objects)) ≡ affected q.source w.objects w.built o name
changes_affect is plain order w o c name there has holds = affects_same is plain order w holds o name c there has
