-- The place behind the last forerunner, found from the last child on.
use Rattle.std.proofs.Common.{◌≡◌, ◌∙◌, ◌+◌, ◌++◌, ◌-◌, ◌<◌, ◌∷◌, [], List, Option, Some, None, Bool, true, false, ℕ, suc, zero, ap, arith, cond, length, refl, subst, sym, take}
use Rattle.std.proofs.lemmas.List.{append-nil, length-take-le}
use Rattle.std.proofs.lemmas.Option.{slice_get_within}
use Rattle.std.specs.Prelude.{option_and_then, slice_get}
use Rattle.flex_base.specs.declared.value.ObjId.{ObjId}
use Rattle.flex_objects.proofs.Positions.{one_of, take_step}
use Rattle.flex_world.specs.Children.{behind, is_forerunner}
use Rattle.flex_objects.specs.Entities.{Entity}
use Rattle.flex_world.specs.Objects.{Object, Spot, object_at}
use Rattle.stage_objects.specs.Entities.{object_in, object_of, objects_in}
use Rattle.stage_objects.proofs.Places.{entry_map}

module _ (objects : List Object) (s : Spot) where
  -- whether a child, if there is one, is a forerunner
  abbrev pub goes_before : Option ObjId → Bool
  goes_before child = is_forerunner s (option_and_then (object_at objects) child)

  behind_last : (n found : ℕ) (xs : List ObjId) (x : ObjId)
      → behind objects s n found (xs ++ x ∷ []) ≡ cond (goes_before (Some x)) (n + suc (length xs)) (behind objects s n found xs)
  behind_last n found [] x = let e : suc n ≡ n + 1 = omega arith in ap (λ m. cond (goes_before (Some x)) m found) e
  behind_last n found (y ∷ xs) x =
      let later : ℕ = cond (goes_before (Some y)) (suc n) found in
      let e : suc n + suc (length xs) ≡ n + suc (suc (length xs)) = omega arith in
      behind_last (suc n) later xs x ∙ ap (λ m. cond (goes_before (Some x)) m (behind objects s (suc n) later xs)) e

  -- one child more
  pub behind_step : (children : List ObjId) (k : ℕ)
      → behind objects s 0 0 (take (suc k) children) ≡ cond (goes_before (slice_get children k)) (suc k) (behind objects s 0 0 (take k children))
  behind_step children k = ap (behind objects s 0 0) (take_step children k) ∙ by (slice_get children k) refl
    where
      by : (child : Option ObjId) → slice_get children k ≡ child
          → behind objects s 0 0 (take k children ++ one_of child) ≡ cond (goes_before child) (suc k) (behind objects s 0 0 (take k children))
      by None e = ap (behind objects s 0 0) (append-nil (take k children))
      by (Some x) e =
          let within : k < length children = slice_get_within children k x e in
          let taken : length (take k children) ≡ k = length-take-le k children (omega arith) in
          let behind_them : 0 + suc (length (take k children)) ≡ suc k = omega arith in
          behind_last 0 0 (take k children) x ∙ ap (λ m. cond (goes_before (Some x)) m (behind objects s 0 0 (take k children))) behind_them

  -- a forerunner that stands last
  pub found_last : (children : List ObjId) (place : ℕ) → 0 < place → goes_before (slice_get children (place - 1)) ≡ true
      → behind objects s 0 0 (take place children) ≡ behind objects s 0 0 children → place ≡ behind objects s 0 0 children
  found_last children zero some is so_far = absurd (omega arith)
  found_last children (suc k) some is so_far =
      let one_before : suc k - 1 ≡ k = omega arith in
      let is_k : goes_before (slice_get children k) ≡ true = subst (λ m. goes_before (slice_get children m) ≡ true) one_before is in
      sym (behind_step children k ∙ ap (λ b. cond b (suc k) (behind objects s 0 0 (take k children))) is_k) ∙ so_far

  -- a child that is none
  pub passed_by : (children : List ObjId) (place : ℕ) → 0 < place → goes_before (slice_get children (place - 1)) ≡ false
      → behind objects s 0 0 (take place children) ≡ behind objects s 0 0 children
      → behind objects s 0 0 (take (place - 1) children) ≡ behind objects s 0 0 children
  passed_by children zero some is so_far = absurd (omega arith)
  passed_by children (suc k) some is so_far =
      let one_before : suc k - 1 ≡ k = omega arith in
      let is_k : goes_before (slice_get children k) ≡ false = subst (λ m. goes_before (slice_get children m) ≡ false) one_before is in
      ap (λ m. behind objects s 0 0 (take m children)) one_before
      ∙ sym (behind_step children k ∙ ap (λ b. cond b (suc k) (behind objects s 0 0 (take k children))) is_k) ∙ so_far

pub same_child : (entities : List Entity) (spot : Spot) (child : Option ObjId)
    → is_forerunner spot (option_and_then (λ o. object_in o entities) child) ≡ goes_before (objects_in entities) spot child
same_child entities spot None = refl
same_child entities spot (Some o) = ap (is_forerunner spot) (sym (entry_map object_of entities o.0))
