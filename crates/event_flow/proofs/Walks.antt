-- The nodes that are left of a path, one by one.
use Rattle.std.proofs.Common.{List, [], ◌∷◌, ◌++◌, ◌+◌, ◌<◌, ◌≤◌, ◌≡◌, ◌∙◌, Bool, true, false, map, reverse, ℕ, zero, suc, refl, ap, sym, take, drop, length, append_assoc, arith, add-one, append-nil, ◌-◌}
use Rattle.std.proofs.lemmas.List.{map-append, reverse-append, take_more}
use Rattle.std.proofs.Math.Seq.{take-length}
use Rattle.std.proofs.lemmas.List.Elements.{filter-append}
use Rattle.std.proofs.lemmas.Option.{get_or_from_slice_get, slice_get_within}
use Rattle.std.specs.List.{filter, slice_get}
use Rattle.std.specs.Prelude.{Option, None, Some, if◌then◌else◌}
use Rattle.flex_base.specs.Events.{arrival}
use Rattle.flex_base.specs.declared.event.Arrival.{Arrival}
use Rattle.flex_base.specs.declared.event.Phase.{Phase}
use Rattle.flex_base.specs.declared.event.Phase.TheVariants.{Bubble, Capture, Target}
use Rattle.flex_base.specs.declared.value.ObjId.{ObjId}
use Rattle.flex_world.specs.Events.{is_before_bubbling}
use Rattle.event_flow.specs.Dispatch.{dispatch_path}
use Rattle.event_flow.specs.Kept.{arrivals_inward, arrivals_left, items_from}

-- the phase of an arrival at the object at a place, on the way to the target
abbrev pub inward_phase : ℕ → Phase
inward_phase zero = Target
inward_phase (suc n) = Capture

pub far_phase : (n : ℕ) → 0 < n → inward_phase n ≡ Capture
far_phase zero h = absurd (omega arith)
far_phase (suc n) h = refl

pub near_phase : (n : ℕ) → n ≤ 0 → inward_phase n ≡ Target
near_phase zero h = refl
near_phase (suc n) h = absurd (omega arith)

take_read : {A : Type 0} (xs : List A) (n : ℕ) (x : A) → slice_get xs n ≡ Some x → take (n + 1) xs ≡ take n xs ++ x ∷ []
take_read xs n x e = take_more xs n x (slice_get_within xs n x e) ∙ ap (λ y. take n xs ++ y ∷ []) (get_or_from_slice_get xs n x x e)

drop_read : {A : Type 0} (xs : List A) (n : ℕ) (x : A) → slice_get xs n ≡ Some x → drop n xs ≡ x ∷ drop (n + 1) xs
drop_read [] n x e = cc
drop_read (y ∷ ys) zero x e = cc
drop_read (y ∷ ys) (suc n) x e = let k : suc n + 1 ≡ suc (n + 1) = omega arith in rw k (drop_read ys n x e)

no_inward : (path : List ObjId) → arrivals_inward path 0 ≡ []
no_inward [] = refl
no_inward (target ∷ outer) = refl

inward_later : (path : List ObjId) (n : ℕ) (o : ObjId) → slice_get path n ≡ Some o → arrivals_inward path (suc n) ≡ arrival (inward_phase n) o ∷ arrivals_inward path n
inward_later [] n o e = cc
inward_later (target ∷ outer) zero o e = let same : target ≡ o = cc in ap (λ t. arrival Target t ∷ []) same
inward_later (target ∷ outer) (suc n) o e =
    let read : take (suc n) outer ≡ take n outer ++ o ∷ [] = rw (← add-one) (take_read outer n o e) in
    let back : reverse (map (arrival Capture) (take (suc n) outer)) ≡ arrival Capture o ∷ reverse (map (arrival Capture) (take n outer)) =
    ap (λ xs. reverse (map (arrival Capture) xs)) read ∙ ap reverse (map-append (arrival Capture) (take n outer) (o ∷ [])) ∙ reverse-append (map (arrival Capture) (take n outer)) (arrival Capture o ∷ []) in
    ap (λ xs. xs ++ arrival Target target ∷ []) back

inward_step : (path : List ObjId) (bubbles : Bool) (n outward : ℕ) (o : ObjId) → slice_get path n ≡ Some o → arrivals_left path bubbles (n + 1) outward ≡ arrival (inward_phase n) o ∷ arrivals_left path bubbles n outward
inward_step path bubbles n outward o e =
    let k : n + 1 ≡ suc n = omega arith in
    rw k (ap (λ xs. xs ++ (if bubbles then map (arrival Bubble) (drop outward path) else [])) (inward_later path n o e))

outward_step : (path : List ObjId) (n : ℕ) (o : ObjId) → slice_get path n ≡ Some o → arrivals_left path true 0 n ≡ arrival Bubble o ∷ arrivals_left path true 0 (n + 1)
outward_step path n o e = rw (no_inward path) (ap (map (arrival Bubble)) (drop_read path n o e))

drop_past : {A : Type 0} (xs : List A) (n : ℕ) → slice_get xs n ≡ None → drop n xs ≡ []
drop_past [] zero e = refl
drop_past [] (suc n) e = refl
drop_past (x ∷ xs) zero e = cc
drop_past (x ∷ xs) (suc n) e = drop_past xs n e

outward_end : (path : List ObjId) (n : ℕ) → slice_get path n ≡ None → arrivals_left path true 0 n ≡ []
outward_end path n e = rw (no_inward path) (ap (map (arrival Bubble)) (drop_past path n e))

-- what is left before and after an arrival
module _ (path : List ObjId) (bubbles : Bool) (inward outward : ℕ) (left : List Arrival) (is_left : arrivals_left path bubbles inward outward ≡ left) where
  pub inward_left : (o : ObjId) → 0 < inward → slice_get path (inward - 1) ≡ Some o → left ≡ arrival (inward_phase (inward - 1)) o ∷ arrivals_left path bubbles (inward - 1) outward
  inward_left o h e =
      let k : inward ≡ (inward - 1) + 1 = omega arith in
      sym is_left ∙ ap (λ n. arrivals_left path bubbles n outward) k ∙ inward_step path bubbles (inward - 1) outward o e

  at_end : inward ≤ 0 → bubbles ≡ true → left ≡ arrivals_left path true 0 outward
  at_end h b = let k : inward ≡ 0 = omega arith in sym is_left ∙ ap (λ n. arrivals_left path bubbles n outward) k ∙ ap (λ b. arrivals_left path b 0 outward) b

  pub outward_left : (o : ObjId) → inward ≤ 0 → bubbles ≡ true → slice_get path outward ≡ Some o → left ≡ arrival Bubble o ∷ arrivals_left path bubbles inward (outward + 1)
  outward_left o h b e =
      let k : inward ≡ 0 = omega arith in
      at_end h b ∙ outward_step path outward o e ∙ ap (λ xs. arrival Bubble o ∷ xs) (ap (λ b. arrivals_left path b 0 (outward + 1)) (sym b) ∙ ap (λ n. arrivals_left path bubbles n (outward + 1)) (sym k))

  pub none_left : inward ≤ 0 → bubbles ≡ true → slice_get path outward ≡ None → left ≡ []
  none_left h b e = at_end h b ∙ outward_end path outward e

filter_true : {A : Type 0} (xs : List A) → filter (λ _. true) xs ≡ xs
filter_true [] = refl
filter_true (x ∷ xs) = ap (λ ys. x ∷ ys) (filter_true xs)

capture_passes : (outer : List ObjId) → filter is_before_bubbling (reverse (map (arrival Capture) outer)) ≡ reverse (map (arrival Capture) outer)
capture_passes [] = refl
capture_passes (o ∷ outer) =
    let e : reverse (map (arrival Capture) (o ∷ outer)) ≡ reverse (map (arrival Capture) outer) ++ arrival Capture o ∷ [] = reverse-append (arrival Capture o ∷ []) (map (arrival Capture) outer) in
    ap (filter is_before_bubbling) e ∙ filter-append is_before_bubbling (reverse (map (arrival Capture) outer)) (arrival Capture o ∷ []) ∙ ap (λ xs. xs ++ arrival Capture o ∷ []) (capture_passes outer) ∙ sym e

no_bubbling : (outer : List ObjId) → filter is_before_bubbling (map (arrival Bubble) outer) ≡ []
no_bubbling [] = refl
no_bubbling (o ∷ outer) = no_bubbling outer

pub whole_path : (path : List ObjId) (bubbles : Bool) → arrivals_left path bubbles (length path) 1 ≡ dispatch_path path bubbles
whole_path [] true = refl
whole_path [] false = refl
whole_path (target ∷ outer) true =
    ap (λ xs. (reverse (map (arrival Capture) xs) ++ arrival Target target ∷ []) ++ map (arrival Bubble) outer) (take-length outer)
    ∙ append_assoc (reverse (map (arrival Capture) outer)) (arrival Target target ∷ []) (map (arrival Bubble) outer)
    ∙ sym (filter_true (reverse (map (arrival Capture) outer) ++ (arrival Target target ∷ map (arrival Bubble) outer)))
whole_path (target ∷ outer) false =
    ap (λ xs. (reverse (map (arrival Capture) xs) ++ arrival Target target ∷ []) ++ []) (take-length outer)
    ∙ append-nil (reverse (map (arrival Capture) outer) ++ arrival Target target ∷ [])
    ∙ sym (filter-append is_before_bubbling (reverse (map (arrival Capture) outer)) (arrival Target target ∷ map (arrival Bubble) outer)
    ∙ ap (λ xs. xs ++ (arrival Target target ∷ filter is_before_bubbling (map (arrival Bubble) outer))) (capture_passes outer)
    ∙ ap (λ xs. reverse (map (arrival Capture) outer) ++ (arrival Target target ∷ xs)) (no_bubbling outer))

drop_later : {A : Type 0} (xs : List A) (n : ℕ) → drop (n + 1) xs ≡ drop 1 (drop n xs)
drop_later xs zero = refl
drop_later [] (suc n) = let k : suc n + 1 ≡ suc (suc n) = omega arith in rw k refl
drop_later (x ∷ xs) (suc n) = let k : suc n + 1 ≡ suc (n + 1) = omega arith in rw k (drop_later xs n)

pub items_later : {A : Type 0} (n : ℕ) (items : Option (List A)) → items_from (n + 1) items ≡ drop 1 (items_from n items)
items_later n None = refl
items_later n (Some items) = drop_later items n
