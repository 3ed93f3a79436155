-- An event from a class upward.
use Rattle.std.proofs.Common.{◌≡◌, ◌∙◌, ℕ, zero, suc, ◌-◌, ◌<◌, ap, refl, sym, arith, true, false}
use Rattle.std.specs.Prelude.{Option, Some, None, is_some}
use Rattle.component_catalog.specs.Classes.{or_else}
use Rattle.flex_world.specs.Classes.{base_in, upward_in}
use Rattle.flex_world.specs.declared.kind.Class.{Class}
use Rattle.flex_world.specs.declared.kind.Class as kind
use Rattle.source_sites.specs.Texts.{Text}
use Rattle.source_sites.specs.Members.{Event, Table}
use Rattle.source_sites.specs.LookUps.{event_among, event_named, own_events}
use Rattle.class_table.specs.Sent.{class_in}

either_class : (x y : Option Event) → class_in (or_else x y) ≡ or_else (class_in x) (class_in y)
either_class None y = refl
either_class (Some e) y = refl

module _ (t : Table) (name : Text) where
  abbrev pub sent_from : ℕ → Option Class → Option Class
  sent_from n level = class_in (event_among t name (upward_in t.bases n level))

  abbrev own : Class → Option Class
  own class = class_in (event_named name (own_events t class))

  -- no level is left
  pub none_left : (b : Option Class) (n : ℕ) (level : Option Class) → b ≡ sent_from n level → n ≡ 0 → None ≡ b
  none_left b n level e z = sym (e ∙ ap (λ m. sent_from m level) z)

  none_at : (n : ℕ) → sent_from n None ≡ None
  none_at zero = refl
  none_at (suc n) = refl

  -- the way up ends
  pub way_ends : (b : Option Class) (n : ℕ) (level : Option Class) → b ≡ sent_from n level → level ≡ None → None ≡ b
  way_ends b n level e z = sym (e ∙ (ap (sent_from n) z ∙ none_at n))

  one_more : (n : ℕ) (class : Class) → 0 < n → sent_from n (Some class) ≡ or_else (own class) (sent_from (n - 1) (base_in t.bases class))
  one_more zero class h = absurd (omega (arith, h))
  one_more (suc n) class h =
      either_class (event_named name (own_events t class)) (event_among t name (upward_in t.bases n (base_in t.bases class))) ∙ ap (λ m. or_else (own class) (sent_from m (base_in t.bases class))) n-is
    where
      n-is : n ≡ (suc n) - 1
      n-is = omega arith

  module _ (b : Option Class) (n : ℕ) (level : Option Class) (class : Class) (so-far : b ≡ sent_from n level) (is : level ≡ Some class) (some : 0 < n) where
    here_or_above : b ≡ or_else (own class) (sent_from (n - 1) (base_in t.bases class))
    here_or_above = so-far ∙ (ap (sent_from n) is ∙ one_more n class some)

    -- this class declares it
    pub found_here : (x : Option kind.Class) → x ≡ own class → is_some x ≡ true → x ≡ b
    found_here None e there = absurd (cc)
    found_here (Some c) e there = sym (here_or_above ∙ ap (λ o. or_else o (sent_from (n - 1) (base_in t.bases class))) (sym e))

    -- it doesn't
    pub next_level : (x : Option kind.Class) (above : Option Class) → x ≡ own class → is_some x ≡ false → above ≡ base_in t.bases class → b ≡ sent_from (n - 1) above
    next_level None above e there a = here_or_above ∙ (ap (λ o. or_else o (sent_from (n - 1) (base_in t.bases class))) (sym e) ∙ ap (sent_from (n - 1)) (sym a))
    next_level (Some c) above e there a = absurd (cc)
