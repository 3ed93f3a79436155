-- Lists of sites that are put together, by induction.
use Rattle.std.specs.Prelude.{◌≡◌, List, [], ◌∷◌, ◌++◌, Bool, true, false, cond, not, Some, None, option_map, ◌&&◌}
use Rattle.std.specs.List.{list_all, find}
use Rattle.std.proofs.Common.{refl}
use native.Mathlib.Omega.{arith}
use Rattle.component_catalog.specs.Classes.{or_else}
use Rattle.source_sites.specs.declared.site.Site.{Site}
use Rattle.source_sites.specs.Sites.{FileRule, in_file, site_of, fails, first_site, first_broken, all_hold, FirstOfTwo, FirstSiteOfTwo, FirstInFile, NoneExactlyWhereAllHold}

abbrev site : FileRule → Site
site r = site_of r.file r.rule

abbrev broken : FileRule → Bool
broken r = fails r.rule

pub first_of_two : FirstOfTwo
first_of_two [] ys = refl
first_of_two (r ∷ xs) ys =
    elim (broken r) as (λ b. option_map site (cond b (Some r) (find broken (xs ++ ys))) ≡ or_else (option_map site (cond b (Some r) (find broken xs))) (first_broken ys)) [
      | true ↦ refl
      | false ↦ first_of_two xs ys
    ]

pub first_site_of_two : FirstSiteOfTwo
first_site_of_two n [] ys = refl
first_site_of_two n (r ∷ xs) ys =
    elim (fails r) as (λ b. option_map (site_of n) (cond b (Some r) (find fails (xs ++ ys))) ≡ or_else (option_map (site_of n) (cond b (Some r) (find fails xs))) (first_site n ys)) [
      | true ↦ refl
      | false ↦ first_site_of_two n xs ys
    ]

pub first_in_file : FirstInFile
first_in_file n [] = refl
first_in_file n (r ∷ rules) =
    elim (fails r) as (λ b. option_map site (cond b (Some (record { file = n; rule = r })) (find broken (in_file n rules))) ≡ option_map (site_of n) (cond b (Some r) (find fails rules))) [
      | true ↦ refl
      | false ↦ first_in_file n rules
    ]

-- where a list has no first broken site, each rule holds
none_from : (b : Bool) (r : FileRule) (rules : List FileRule) → (first_broken rules ≡ None → list_all (λ (x : FileRule). x.rule.holds) rules ≡ true) → option_map site (cond (not b) (Some r) (find broken rules)) ≡ None → (b && list_all (λ (x : FileRule). x.rule.holds) rules) ≡ true
none_from true r rules h e = h e
none_from false r rules h e = grind (arith, e)

none_holds : (rules : List FileRule) → first_broken rules ≡ None → all_hold rules ≡ true
none_holds [] e = refl
none_holds (r ∷ rules) e = none_from r.rule.holds r rules (none_holds rules) e

-- and the other way round
holds_from : (b : Bool) (r : FileRule) (rules : List FileRule) → (list_all (λ (x : FileRule). x.rule.holds) rules ≡ true → first_broken rules ≡ None) → (b && list_all (λ (x : FileRule). x.rule.holds) rules) ≡ true → option_map site (cond (not b) (Some r) (find broken rules)) ≡ None
holds_from true r rules h e = h e
holds_from false r rules h e = grind (arith, e)

holds_none : (rules : List FileRule) → all_hold rules ≡ true → first_broken rules ≡ None
holds_none [] e = refl
holds_none (r ∷ rules) e = holds_from r.rule.holds r rules (holds_none rules) e

pub none_exactly_where_all_hold : NoneExactlyWhereAllHold
none_exactly_where_all_hold rules = (none_holds rules, holds_none rules)
