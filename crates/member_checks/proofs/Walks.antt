-- The first broken rule of lists that are put together.
use Rattle.std.proofs.Common.{◌≡◌, ◌∙◌, ◌+◌, ◌<◌, ℕ, suc, List, [], ◌∷◌, ◌++◌, length, drop, get_or, refl, ap, sym, true, false, cond, add-one}
use Rattle.std.proofs.Math.Seq.{drop-cons}
use Rattle.std.specs.Prelude.{Option, Some, None, option_map, is_some}
use Rattle.std.specs.List.{find}
use Rattle.source_sites.specs.declared.site.Site.{Site}
use Rattle.source_sites.specs.Sites.{Rule, fails, first_site, site_of}

abbrev or_site : Option Site → Option Site → Option Site
or_site None other = other
or_site (Some s) other = Some s

module _ (n : ℕ) where
  both_lists : (xs ys : List Rule) → first_site n (xs ++ ys) ≡ or_site (first_site n xs) (first_site n ys)
  both_lists [] ys = refl
  both_lists (r ∷ xs) ys =
      elim (fails r) as (λ b. option_map (site_of n) (cond b (Some r) (find fails (xs ++ ys))) ≡ or_site (option_map (site_of n) (cond b (Some r) (find fails xs))) (first_site n ys)) [
        | true ↦ refl
        | false ↦ both_lists xs ys
      ]

  is_first : (x : Option Site) (y : Option Site) → is_some x ≡ true → x ≡ or_site x y
  is_first (Some s) y e = refl
  is_first None y e = absurd (cc)

  is_second : (x : Option Site) (y : Option Site) → is_some x ≡ false → y ≡ or_site x y
  is_second (Some s) y e = absurd (cc)
  is_second None y e = refl

  -- a rule of the first list is broken, or none is
  pub first_fails : (xs ys : List Rule) (x : Option Site) → x ≡ first_site n xs → is_some x ≡ true → x ≡ first_site n (xs ++ ys)
  first_fails xs ys x e some = is_first x (first_site n ys) some ∙ (ap (λ x. or_site x (first_site n ys)) e ∙ sym (both_lists xs ys))

  pub first_holds : (xs ys : List Rule) (x y : Option Site) → x ≡ first_site n xs → is_some x ≡ false → y ≡ first_site n ys → y ≡ first_site n (xs ++ ys)
  first_holds xs ys x y e none f =
      is_second x y none ∙ (ap (λ x. or_site x y) e ∙ (ap (or_site (first_site n xs)) f ∙ sym (both_lists xs ys)))

  -- the same with one rule in front
  pub one_fails : (r : Rule) (ys : List Rule) (x : Option Site) → x ≡ first_site n (r ∷ []) → is_some x ≡ true → x ≡ first_site n (r ∷ ys)
  one_fails r ys x e some = first_fails (r ∷ []) ys x e some

  pub one_holds : (r : Rule) (ys : List Rule) (x y : Option Site) → x ≡ first_site n (r ∷ []) → is_some x ≡ false → y ≡ first_site n ys → y ≡ first_site n (r ∷ ys)
  one_holds r ys x y e none f = first_holds (r ∷ []) ys x y e none f

  -- on the way along a list: what is found is what the rest gives
  pub fails_here : (whole x : Option Site) (xs ys rest : List Rule) → whole ≡ first_site n rest → rest ≡ xs ++ ys → x ≡ first_site n xs → is_some x ≡ true → x ≡ whole
  fails_here whole x xs ys rest e is f some = first_fails xs ys x f some ∙ sym (e ∙ ap (first_site n) is)

  pub holds_here : (whole x : Option Site) (xs ys rest : List Rule) → whole ≡ first_site n rest → rest ≡ xs ++ ys → x ≡ first_site n xs → is_some x ≡ false → whole ≡ first_site n ys
  holds_here whole x xs ys rest e is f none = e ∙ (ap (first_site n) is ∙ sym (first_holds xs ys x (first_site n ys) f none refl))

  pub all_hold : (whole : Option Site) (rest : List Rule) → whole ≡ first_site n rest → rest ≡ [] → None ≡ whole
  all_hold whole rest e is = sym (e ∙ ap (first_site n) is)

pub dropped : {A : Type 0} (xs : List A) (k : ℕ) (x : A) → x ≡ get_or xs k x → k < length xs → drop k xs ≡ x ∷ drop (k + 1) xs
dropped xs k x e h = drop-cons xs k x h ∙ (ap (λ y. y ∷ drop (suc k) xs) (sym e) ∙ ap (λ j. x ∷ drop j xs) (sym (add-one k)))
