-- The walk from a class over its ancestors, with the traits that each has.
use Rattle.std.proofs.Common.{◌≡◌, ℕ, zero, suc, ◌+◌, ◌-◌, ◌<◌, List, [], ◌∷◌, ◌++◌, Option, Some, None, refl, ap, ◌∙◌, arith, option_map}
use Rattle.std.specs.List.{flat_map, fold}
use Rattle.component_catalog.specs.Classes.{base_of}
use Rattle.component_catalog.specs.declared.class.NativeClass.{NativeClass}
use Rattle.flex_world.specs.Classes.{base_in, upward_in}
use Rattle.flex_world.specs.declared.kind.Class.{Class}
use Rattle.avm2_program.specs.Naming.{Naming}
use Rattle.avm2_program.specs.Resolving.{own_traits, traits_at}
use Rattle.avm2_program.specs.Traits.{PlacedTrait}
use Rattle.avm2_resolver.specs.Behind.{file_number}

fold_on : {A B : Type 0} (f : B → A → B) (b : B) (xs ys : List A) → fold f b (xs ++ ys) ≡ fold f (fold f b xs) ys
fold_on f b [] ys = refl
fold_on f b (x ∷ xs) ys = fold_on f (f b x) xs ys

native_number : (c : Option NativeClass) → file_number (option_map Class.Native c) ≡ None
native_number None = refl
native_number (Some c) = refl

some_same : (k l : ℕ) → (let s : Option ℕ = Some k in s) ≡ Some l → k ≡ l
some_same k l e = cc

module _ (g : Naming) (bases : List (Option Class)) where
  -- classes of the catalog have no traits
  pub no_traits : (n : ℕ) (level : Option Class) → file_number level ≡ None → flat_map (own_traits g) (upward_in bases n level) ≡ []
  no_traits zero level e = refl
  no_traits (suc n) None e = refl
  no_traits (suc n) (Some (Class.File k)) e = absurd cc
  no_traits (suc n) (Some (Class.Native c)) e = no_traits n (option_map Class.Native (base_of c)) (native_number (base_of c))

  traits_up : (n : ℕ) (level : Option Class) (k : ℕ) → file_number level ≡ Some k
      → flat_map (own_traits g) (upward_in bases (suc n) level) ≡ traits_at g k ++ flat_map (own_traits g) (upward_in bases n (base_in bases (Class.File k)))
  traits_up n None k e = absurd cc
  traits_up n (Some (Class.Native c)) k e = absurd cc
  traits_up n (Some (Class.File l)) k e =
      ap (λ m. traits_at g m ++ flat_map (own_traits g) (upward_in bases n (base_in bases (Class.File m)))) (some_same l k e)

  -- one level is done
  pub next_level : {B : Type 0} (f : B → PlacedTrait → B) (b : B) (total counter : ℕ) (level : Option Class) (k : ℕ) → counter < total → file_number level ≡ Some k
      → fold f b (flat_map (own_traits g) (upward_in bases (total - counter) level))
      ≡ fold f (fold f b (traits_at g k)) (flat_map (own_traits g) (upward_in bases (total - (counter + 1)) (base_in bases (Class.File k))))
  next_level f b total counter level k lt e =
      let less : total - counter ≡ suc (total - (counter + 1)) = omega arith in
      ap (λ n. fold f b (flat_map (own_traits g) (upward_in bases n level))) less
      ∙ (ap (fold f b) (traits_up (total - (counter + 1)) level k e) ∙ fold_on f b (traits_at g k) _)
