-- Fields that are filled with values.
use Rattle.std.proofs.Common.{List, [], ◌∷◌, ◌≡◌, ◌∙◌, Bool, true, false, map, refl, ap, sym, cond, length, ℕ, ◌≤◌, ◌+◌, ◌++◌, take, zero, suc, arith}
use Rattle.std.proofs.lemmas.List.{length-append}
use Rattle.std.specs.Prelude.{None, Option, Some, option_and_then, option_map, slice_get, slice_set}
use Rattle.std.specs.Str.{bytes_eq}
use Rattle.flex_base.specs.Lists.{changed_at, one_later}
use Rattle.flex_base.specs.Value.{ref_of}
use Rattle.flex_base.specs.declared.value.Value.{Value}
use Rattle.flex_world.specs.Objects.{Field, field_named, object_in_slot, with_value}
use Rattle.flex_world.specs.Making.{slots}
use Rattle.flex_objects.specs.Properties.{filled, holding, is_slot_in, is_watched, place_of}
use Rattle.flex_objects.proofs.Positions.{one_of, take_step}

-- the values change no key
pub place_filled : (key : List ℕ) (fields : List Field) (values : List Value) → length values ≡ length fields → place_of key (filled fields values) ≡ place_of key fields
place_filled key [] values e = refl
place_filled key (f ∷ fields) [] e = absurd (cc)
place_filled key (f ∷ fields) (v ∷ values) e = ap (λ r. cond (bytes_eq f.name key) (Some 0) (one_later r)) (place_filled key fields values (omega (arith, e)))

pub value_filled : (fields : List Field) (values : List Value) (n : ℕ)
    → length values ≡ length fields → option_map (λ (f : Field). f.value) (slice_get (filled fields values) n) ≡ slice_get values n
value_filled [] [] n e = refl
value_filled [] (v ∷ values) n e = absurd (cc)
value_filled (f ∷ fields) [] n e = absurd (cc)
value_filled (f ∷ fields) (v ∷ values) zero e = refl
value_filled (f ∷ fields) (v ∷ values) (suc n) e = value_filled fields values n (omega (arith, e))

pub set_filled : (fields : List Field) (values : List Value) (n : ℕ) (v : Value)
    → length values ≡ length fields → filled fields (slice_set values n v) ≡ changed_at (holding v) (filled fields values) n
set_filled [] values n v e = refl
set_filled (f ∷ fields) [] n v e = absurd (cc)
set_filled (f ∷ fields) (x ∷ values) zero v e = refl
set_filled (f ∷ fields) (x ∷ values) (suc n) v e = ap (λ l. holding x f ∷ l) (set_filled fields values n v (omega (arith, e)))

pub length_filled : (fields : List Field) (values : List Value) → length values ≡ length fields → length (filled fields values) ≡ length values
length_filled [] [] e = refl
length_filled [] (v ∷ values) e = absurd (cc)
length_filled (f ∷ fields) [] e = absurd (cc)
length_filled (f ∷ fields) (v ∷ values) e = ap suc (length_filled fields values (omega (arith, e)))

-- behind the end nothing changes
pub changed_outside : {X : Type 0} (f : X → X) (xs : List X) (n : ℕ) → length xs ≤ n → changed_at f xs n ≡ xs
changed_outside f [] n e = refl
changed_outside f (x ∷ xs) zero e = absurd (omega (arith, e))
changed_outside f (x ∷ xs) (suc n) e = ap (λ l. x ∷ l) (changed_outside f xs n (omega (arith, e)))

abbrev pub field_at : List Field → Option ℕ → Option Field
field_at fields None = None
field_at fields (Some n) = slice_get fields n

later_field : (f : Field) (fields : List Field) (r : Option ℕ) → field_at (f ∷ fields) (one_later r) ≡ field_at fields r
later_field f fields None = refl
later_field f fields (Some n) = refl

-- a property is found at the place of its key
pub field_found : (key : List ℕ) (fields : List Field) → field_at fields (place_of key fields) ≡ field_named key fields
field_found key [] = refl
field_found key (f ∷ fields) = by (field_found key fields) (bytes_eq f.name key)
  where
    by : field_at fields (place_of key fields) ≡ field_named key fields
        → (b : Bool) → field_at (f ∷ fields) (cond b (Some 0) (one_later (place_of key fields))) ≡ cond b (Some f) (field_named key fields)
    by rest true = refl
    by rest false = later_field f fields (place_of key fields) ∙ rest

abbrev pub changed_where : Value → List Field → Option ℕ → List Field
changed_where v fields None = fields
changed_where v fields (Some n) = changed_at (holding v) fields n

later_change : (v : Value) (f : Field) (fields : List Field) (r : Option ℕ) → changed_where v (f ∷ fields) (one_later r) ≡ f ∷ changed_where v fields r
later_change v f fields None = refl
later_change v f fields (Some n) = refl

-- a value under a key is written at its place
pub value_placed : (key : List ℕ) (v : Value) (fields : List Field) → changed_where v fields (place_of key fields) ≡ with_value key v fields
value_placed key v [] = refl
value_placed key v (f ∷ fields) = by (value_placed key v fields) (bytes_eq f.name key)
  where
    by : changed_where v fields (place_of key fields) ≡ with_value key v fields
        → (b : Bool) → changed_where v (f ∷ fields) (cond b (Some 0) (one_later (place_of key fields))) ≡ cond b (holding v f ∷ fields) (f ∷ with_value key v fields)
    by rest true = refl
    by rest false = later_change v f fields (place_of key fields) ∙ ap (λ l. f ∷ l) rest

-- whether bindings watch a property is told by its class
pub watched_alike : (key : List ℕ) (fields : List Field) (values : List Value)
    → length values ≡ length fields → is_watched (field_named key (filled fields values)) ≡ is_watched (field_named key fields)
watched_alike key [] values e = refl
watched_alike key (f ∷ fields) [] e = absurd (cc)
watched_alike key (f ∷ fields) (v ∷ values) e = by (watched_alike key fields values (omega (arith, e))) (bytes_eq f.name key)
  where
    by : is_watched (field_named key (filled fields values)) ≡ is_watched (field_named key fields)
        → (b : Bool) → is_watched (cond b (Some (holding v f)) (field_named key (filled fields values))) ≡ is_watched (cond b (Some f) (field_named key fields))
    by rest true = refl
    by rest false = rest

-- and so is all of it but its value
pub told_alike : (x : Value) (key : List ℕ) (fields : List Field) (values : List Value)
    → length values ≡ length fields → option_map (holding x) (field_named key (filled fields values)) ≡ option_map (holding x) (field_named key fields)
told_alike x key [] values e = refl
told_alike x key (f ∷ fields) [] e = absurd (cc)
told_alike x key (f ∷ fields) (v ∷ values) e = by (told_alike x key fields values (omega (arith, e))) (bytes_eq f.name key)
  where
    by : option_map (holding x) (field_named key (filled fields values)) ≡ option_map (holding x) (field_named key fields)
        → (b : Bool)
        → option_map (holding x) (cond b (Some (holding v f)) (field_named key (filled fields values))) ≡ option_map (holding x) (cond b (Some f) (field_named key fields))
    by rest true = refl
    by rest false = rest

-- and whether it is a variable or an id
pub slots_alike : (fields : List Field) (values : List Value) (n : ℕ)
    → length values ≡ length fields → is_slot_in (slice_get (filled fields values) n) ≡ is_slot_in (slice_get fields n)
slots_alike [] values n e = refl
slots_alike (f ∷ fields) [] n e = absurd (cc)
slots_alike (f ∷ fields) (v ∷ values) zero e = refl
slots_alike (f ∷ fields) (v ∷ values) (suc n) e = slots_alike fields values n (omega (arith, e))

-- the object in a variable or an id is that of its value, and there is none in another property
pub slot_object : (o : Option Field) → is_slot_in o ≡ true → option_and_then ref_of (option_map (λ (f : Field). f.value) o) ≡ option_and_then object_in_slot o
slot_object None is = refl
slot_object (Some f) is = ap (λ b. cond b (ref_of f.value) None) (sym is)

pub no_slot_object : (o : Option Field) → is_slot_in o ≡ false → None ≡ option_and_then object_in_slot o
no_slot_object None is = refl
no_slot_object (Some f) is = ap (λ b. cond b (ref_of f.value) None) (sym is)

pub filled_own : (fields : List Field) → filled fields (map (λ (f : Field). f.value) fields) ≡ fields
filled_own [] = refl
filled_own (f ∷ fields) = ap (λ l. f ∷ l) (filled_own fields)

pub set_changed : {X : Type 0} (v : X) (xs : List X) (n : ℕ) → slice_set xs n v ≡ changed_at (λ _. v) xs n
set_changed v [] n = refl
set_changed v (x ∷ xs) zero = refl
set_changed v (x ∷ xs) (suc n) = ap (λ l. x ∷ l) (set_changed v xs n)

slots_more : (fields others : List Field) → slots (fields ++ others) ≡ slots fields ++ slots others
slots_more [] others = refl
slots_more (f ∷ fields) others = by (slots_more fields others) f.is_slot
  where
    by : slots (fields ++ others) ≡ slots fields ++ slots others
        → (b : Bool) → cond b (f ∷ slots (fields ++ others)) (slots (fields ++ others)) ≡ cond b (f ∷ slots fields) (slots fields) ++ slots others
    by rest true = ap (λ l. f ∷ l) rest
    by rest false = rest

one_slot : (o : Option Field) → length (slots (one_of o)) ≡ cond (is_slot_in o) 1 0
one_slot None = refl
one_slot (Some f) = by f.is_slot
  where
    by : (b : Bool) → length (cond b (f ∷ []) []) ≡ cond b 1 0
    by true = refl
    by false = refl

-- one property more is counted, if it is a slot
pub slots_step : (fields : List Field) (n : ℕ) → length (slots (take (suc n) fields)) ≡ length (slots (take n fields)) + cond (is_slot_in (slice_get fields n)) 1 0
slots_step fields n =
    ap (λ l. length (slots l)) (take_step fields n) ∙ ap length (slots_more (take n fields) (one_of (slice_get fields n)))
    ∙ length-append (slots (take n fields)) (slots (one_of (slice_get fields n))) ∙ ap (λ k. length (slots (take n fields)) + k) (one_slot (slice_get fields n))
