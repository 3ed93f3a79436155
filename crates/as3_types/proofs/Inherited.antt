-- A member from a class upward.
use Rattle.std.proofs.Common.{◌≡◌, ◌∙◌, ℕ, zero, suc, ◌-◌, ◌<◌, ap, refl, sym, arith}
use Rattle.std.specs.Prelude.{Option, Some, None, option_map}
use Rattle.component_catalog.specs.Classes.{or_else}
use Rattle.flex_world.specs.Classes.{base_in, upward_in}
use Rattle.flex_world.specs.declared.kind.Class.{Class}
use Rattle.source_sites.specs.Texts.{Text}
use Rattle.source_sites.specs.Members.{Found, Owned, Table}
use Rattle.source_sites.specs.LookUps.{member_among, member_named, own_members}

module _ (t : Table) (name : Text) where
  abbrev pub from_level : ℕ → Option Class → Option Found
  from_level n level = member_among t name (upward_in t.bases n level)

  -- no level is left
  pub none_left : (b : Option Found) (n : ℕ) (level : Option Class) → b ≡ from_level n level → n ≡ 0 → None ≡ b
  none_left b n level e z = sym (e ∙ ap (λ m. from_level m level) z)

  none_at : (n : ℕ) → from_level n None ≡ None
  none_at zero = refl
  none_at (suc n) = refl

  -- the way up ends
  pub way_ends : (b : Option Found) (n : ℕ) (level : Option Class) → b ≡ from_level n level → level ≡ None → None ≡ b
  way_ends b n level e z = sym (e ∙ (ap (from_level n) z ∙ none_at n))

  abbrev pub owned_by : Class → Option Owned → Option Found
  owned_by class m = option_map (λ (m : Owned). record { owner = class; member = m }) m

  one_more : (n : ℕ) (class : Class) → 0 < n → from_level n (Some class) ≡ or_else (owned_by class (member_named name (own_members t class))) (from_level (n - 1) (base_in t.bases class))
  one_more zero class h = absurd (omega (arith, h))
  one_more (suc n) class h = ap (λ m. or_else (owned_by class (member_named name (own_members t class))) (from_level m (base_in t.bases class))) n-is
    where
      n-is : n ≡ (suc n) - 1
      n-is = omega arith

  here_or_above : (b : Option Found) (n : ℕ) (level : Option Class) (class : Class) (m : Option Owned) → b ≡ from_level n level → level ≡ Some class → 0 < n → m ≡ member_named name (own_members t class)
      → b ≡ or_else (owned_by class m) (from_level (n - 1) (base_in t.bases class))
  here_or_above b n level class m e i h o =
      e ∙ (ap (from_level n) i ∙ (one_more n class h ∙ ap (λ m. or_else (owned_by class m) (from_level (n - 1) (base_in t.bases class))) (sym o)))

  -- this class has it
  pub found_here : (b : Option Found) (n : ℕ) (level : Option Class) (class : Class) (m : Owned) → b ≡ from_level n level → level ≡ Some class → 0 < n → Some m ≡ member_named name (own_members t class)
      → Some (record { owner = class; member = m }) ≡ b
  found_here b n level class m e i h o = sym (here_or_above b n level class (Some m) e i h o)

  -- it hasn't
  pub next_level : (b : Option Found) (n : ℕ) (level above : Option Class) (class : Class) → b ≡ from_level n level → level ≡ Some class → 0 < n → None ≡ member_named name (own_members t class)
      → above ≡ base_in t.bases class → b ≡ from_level (n - 1) above
  next_level b n level above class e i h o a = here_or_above b n level class None e i h o ∙ ap (from_level (n - 1)) (sym a)
