-- A class among those from a class upward.
use Rattle.std.proofs.Common.{◌≡◌, ◌∙◌, ℕ, zero, suc, List, ◌-◌, ◌<◌, ap, refl, sym, Bool, true, false, ◌||◌, arith}
use Rattle.std.specs.List.{list_any}
use Rattle.std.specs.Prelude.{Option, Some, None}
use Rattle.flex_world.specs.Classes.{base_in, same_class, upward_in}
use Rattle.flex_world.specs.declared.kind.Class.{Class}

abbrev pub is_above : List (Option Class) → Class → ℕ → Option Class → Bool
is_above bases wanted n level = list_any (same_class wanted) (upward_in bases n level)

module _ (bases : List (Option Class)) (wanted : Class) where
  -- no level is left
  pub nothing_above : (b : Bool) (n : ℕ) (level : Option Class) → b ≡ is_above bases wanted n level → n ≡ 0 → false ≡ b
  nothing_above b n level e z = sym (e ∙ ap (λ m. is_above bases wanted m level) z)

  -- the way up ends
  none_at : (n : ℕ) → is_above bases wanted n None ≡ false
  none_at zero = refl
  none_at (suc n) = refl

  pub no_level : (b : Bool) (n : ℕ) (level : Option Class) → b ≡ is_above bases wanted n level → level ≡ None → false ≡ b
  no_level b n level e z = sym (e ∙ (ap (is_above bases wanted n) z ∙ none_at n))

  one_more : (n : ℕ) (class : Class) → 0 < n → is_above bases wanted n (Some class) ≡ (same_class wanted class || is_above bases wanted (n - 1) (base_in bases class))
  one_more zero class h = absurd (omega (arith, h))
  one_more (suc n) class h = ap (λ m. same_class wanted class || is_above bases wanted m (base_in bases class)) n-is
    where
      n-is : n ≡ (suc n) - 1
      n-is = omega arith

  -- it is this class
  pub found_above : (b : Bool) (n : ℕ) (level : Option Class) (class : Class) → b ≡ is_above bases wanted n level → level ≡ Some class → 0 < n → same_class wanted class ≡ true → true ≡ b
  found_above b n level class e i h t = sym (e ∙ (ap (is_above bases wanted n) i ∙ (one_more n class h ∙ ap (λ t. t || is_above bases wanted (n - 1) (base_in bases class)) t)))

  -- it isn't
  pub one_up : (b : Bool) (n : ℕ) (level above : Option Class) (class : Class) → b ≡ is_above bases wanted n level → level ≡ Some class → 0 < n → same_class wanted class ≡ false → above ≡ base_in bases class → b ≡ is_above bases wanted (n - 1) above
  one_up b n level above class e i h t a =
      e ∙ (ap (is_above bases wanted n) i ∙ (one_more n class h ∙ (ap (λ t. t || is_above bases wanted (n - 1) (base_in bases class)) t ∙ ap (is_above bases wanted (n - 1)) (sym a))))
