-- The namespaces of prefixes, by what one declaration or one open element adds.
use Rattle.std.proofs.Common.{◌≡◌, ℕ, ◌+◌, ◌<◌, true, false, List, ◌∷◌, ◌++◌, length, drop, get_or, Option, Some, None, option_map, find, refl, ap, ◌∙◌, sym}
use Rattle.std.specs.Str.{bytes_eq}
use Rattle.std.specs.Option.{option_or}
use Rattle.std.proofs.lemmas.List.{drop_more}
use Rattle.std.proofs.lemmas.List.Folds.{find-append}
use Rattle.mxml_tree.specs.declared.elements.Declaration.{Declaration}
use Rattle.mxml_tree.specs.declared.elements.OpenElement.{OpenElement}
use Rattle.mxml_tree.specs.Namespaces.{Declared, space_of}
use Rattle.mxml_tree.specs.Opened.{own_of, declared_in}

declared_first : (d : Declaration) (ds : List Declaration) (prefix : List ℕ) → bytes_eq d.prefix.now prefix ≡ true → space_of (own_of (d ∷ ds)) prefix ≡ Some d.space
declared_first d ds prefix e = rw (e, space_of)

declared_behind : (d : Declaration) (ds : List Declaration) (prefix : List ℕ) → bytes_eq d.prefix.now prefix ≡ false → space_of (own_of (d ∷ ds)) prefix ≡ space_of (own_of ds) prefix
declared_behind d ds prefix e = rw (e, space_of)

-- the declaration at a place declares the prefix
pub declares_at : (ds : List Declaration) (i : ℕ) (d : Declaration) (prefix : List ℕ) → i < length ds → d ≡ get_or ds i d → bytes_eq d.prefix.now prefix ≡ true
    → space_of (own_of (drop i ds)) prefix ≡ Some d.space
declares_at ds i d prefix lt is e =
    ap (λ xs. space_of (own_of xs) prefix) (drop_more ds i d lt ∙ ap (λ x. x ∷ drop (i + 1) ds) (sym is)) ∙ declared_first d (drop (i + 1) ds) prefix e

-- it declares another
pub declares_further : (ds : List Declaration) (i : ℕ) (d : Declaration) (prefix : List ℕ) → i < length ds → d ≡ get_or ds i d → bytes_eq d.prefix.now prefix ≡ false
    → space_of (own_of (drop i ds)) prefix ≡ space_of (own_of (drop (i + 1) ds)) prefix
declares_further ds i d prefix lt is e =
    ap (λ xs. space_of (own_of xs) prefix) (drop_more ds i d lt ∙ ap (λ x. x ∷ drop (i + 1) ds) (sym is)) ∙ declared_behind d (drop (i + 1) ds) prefix e

mapped_or : (o r : Option Declared) → option_map (λ (d : Declared). d.space) (option_or o r) ≡ option_or (option_map (λ (d : Declared). d.space) o) (option_map (λ (d : Declared). d.space) r)
mapped_or None r = refl
mapped_or (Some d) r = refl

space_in_both : (front back : List Declared) (prefix : List ℕ) → space_of (front ++ back) prefix ≡ option_or (space_of front prefix) (space_of back prefix)
space_in_both front back prefix =
    ap (option_map (λ (d : Declared). d.space)) (find-append (λ (d : Declared). bytes_eq d.prefix prefix) front back)
    ∙ mapped_or (find (λ (d : Declared). bytes_eq d.prefix prefix) front) (find (λ (d : Declared). bytes_eq d.prefix prefix) back)

-- the first declarations have the prefix
pub space_in_front : (front back : List Declared) (prefix space : List ℕ) → Some space ≡ space_of front prefix → Some space ≡ space_of (front ++ back) prefix
space_in_front front back prefix space e = sym (space_in_both front back prefix ∙ ap (λ o. option_or o (space_of back prefix)) (sym e))

-- they haven't
pub space_behind : (front back : List Declared) (prefix : List ℕ) → None ≡ space_of front prefix → space_of (front ++ back) prefix ≡ space_of back prefix
space_behind front back prefix e = space_in_both front back prefix ∙ ap (λ o. option_or o (space_of back prefix)) (sym e)

around_at : (opened : List OpenElement) (i : ℕ) (e : OpenElement) → i < length opened → e ≡ get_or opened i e
    → declared_in (drop i opened) ≡ own_of e.declarations ++ declared_in (drop (i + 1) opened)
around_at opened i e lt is = ap declared_in (drop_more opened i e lt ∙ ap (λ x. x ∷ drop (i + 1) opened) (sym is))

-- the open element at a place declares the prefix
pub is_declared_at : (opened : List OpenElement) (i : ℕ) (e : OpenElement) (prefix space : List ℕ) → i < length opened → e ≡ get_or opened i e → Some space ≡ space_of (own_of e.declarations) prefix
    → Some space ≡ space_of (declared_in (drop i opened)) prefix
is_declared_at opened i e prefix space lt is found =
    space_in_front (own_of e.declarations) (declared_in (drop (i + 1) opened)) prefix space found ∙ ap (λ ds. space_of ds prefix) (sym (around_at opened i e lt is))

-- it doesn't
pub is_declared_outside : (opened : List OpenElement) (i : ℕ) (e : OpenElement) (prefix : List ℕ) → i < length opened → e ≡ get_or opened i e → None ≡ space_of (own_of e.declarations) prefix
    → space_of (declared_in (drop i opened)) prefix ≡ space_of (declared_in (drop (i + 1) opened)) prefix
is_declared_outside opened i e prefix lt is missed =
    ap (λ ds. space_of ds prefix) (around_at opened i e lt is) ∙ space_behind (own_of e.declarations) (declared_in (drop (i + 1) opened)) prefix missed
