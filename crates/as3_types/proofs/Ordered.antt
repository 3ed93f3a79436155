-- The first broken of several rules.
use Rattle.std.proofs.Common.{◌≡◌, ◌∙◌, ℕ, List, [], ◌∷◌, refl, ap, sym, true, false, cond}
use Rattle.std.specs.Prelude.{Option, Some, None, option_map}
use Rattle.std.specs.Option.{option_or}
use Rattle.std.specs.List.{find}
use Rattle.source_sites.specs.declared.site.Site.{Site}
use Rattle.source_sites.specs.Sites.{Rule, fails, first_site, site_of}

module _ (n : ℕ) where
  abbrev pub one : Rule → Option Site
  one r = first_site n (r ∷ [])

  more : (r : Rule) (rules : List Rule) → first_site n (r ∷ rules) ≡ option_or (one r) (first_site n rules)
  more r rules =
      elim (fails r) as (λ b. option_map (site_of n) (cond b (Some r) (find fails rules)) ≡ option_or (option_map (site_of n) (cond b (Some r) None)) (first_site n rules)) [
        | true ↦ refl
        | false ↦ refl
      ]

  -- one rule and others behind it
  pub before : (a : Rule) (rules : List Rule) (x y z : Option Site) → z ≡ option_or x y → x ≡ one a → y ≡ first_site n rules → z ≡ first_site n (a ∷ rules)
  before a rules x y z e p q = e ∙ (ap (λ s. option_or s y) p ∙ (ap (option_or (one a)) q ∙ sym (more a rules)))
