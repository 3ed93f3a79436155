-- Which prefixes are declared, by the prefixes alone and by their namespaces.
use Rattle.std.proofs.Common.{◌≡◌, ℕ, Bool, true, false, ◌&&◌, ◌||◌, not, cond, List, [], ◌∷◌, ◌++◌, map, Option, Some, None, option_map, is_some, find, refl, ap, ◌∙◌, sym}
use Rattle.std.specs.List.{list_all, cons_option}
use Rattle.std.specs.Str.{bytes_eq}
use Rattle.std.proofs.lemmas.Cmp.{nat_list_eq_equiv}
use Rattle.std.proofs.lemmas.List.{map-append}
use Rattle.mxml_items.specs.Items.{Written}
use Rattle.mxml_tree.specs.declared.elements.Declaration.{Declaration}
use Rattle.mxml_tree.specs.declared.elements.OpenElement.{OpenElement}
use Rattle.mxml_tree.specs.Namespaces.{Declared, declares, prefix_of, space_of, attribute_space, DeclaresThen, AreDeclared}
use Rattle.mxml_tree.specs.Faults.{own_prefixes, prefixes_around, plain, is_known, is_known_attribute, is_unknown}
use Rattle.mxml_tree.specs.Opened.{own_of, declared_in, prefixes_in, open_of, is_known_tag}

abbrev pub prefixes_of : List Declared → List (List ℕ)
prefixes_of declared = map (λ (d : Declared). d.prefix) declared

prefixes_of_own : (own : List Declaration) → prefixes_of (own_of own) ≡ prefixes_in own
prefixes_of_own [] = refl
prefixes_of_own (d ∷ own) = ap (λ prefixes. d.prefix.now ∷ prefixes) (prefixes_of_own own)

prefixes_then : (o : Option (List ℕ)) (value : List ℕ) (prefixes : List (List ℕ)) (Others : List Declared → Type 0) (own : List Declared)
    → ((others : List Declared) → Others others → prefixes ≡ prefixes_of others) → DeclaresThen o value Others own → cons_option o prefixes ≡ prefixes_of own
prefixes_then None value prefixes Others own go declared = go own declared
prefixes_then (Some prefix) value prefixes Others own go declared =
    ap (λ others. prefix ∷ others) (go declared.others declared.go_on) ∙ ap prefixes_of (sym declared.is)

pub prefixes_declared : (attributes : List Written) (own : List Declared) → AreDeclared attributes own → own_prefixes attributes ≡ prefixes_of own
prefixes_declared [] own declared = ap prefixes_of (sym declared)
prefixes_declared (a ∷ attributes) own declared = prefixes_then (declares a.name) a.value (own_prefixes attributes) (AreDeclared attributes) own (prefixes_declared attributes) declared

-- what attributes declare has the prefixes that they declare
pub own_prefixes_are : (attributes : List Written) (own : List Declaration) → AreDeclared attributes (own_of own) → own_prefixes attributes ≡ prefixes_in own
own_prefixes_are attributes own declared = prefixes_declared attributes (own_of own) declared ∙ prefixes_of_own own

prefixes_in_opened : (opened : List OpenElement) → prefixes_of (declared_in opened) ≡ prefixes_around (map open_of opened)
prefixes_in_opened [] = refl
prefixes_in_opened (e ∷ opened) =
    map-append (λ (d : Declared). d.prefix) (own_of e.declarations) (declared_in opened)
    ∙ ap (λ front. front ++ prefixes_of (declared_in opened)) (prefixes_of_own e.declarations)
    ∙ ap (λ back. prefixes_in e.declarations ++ back) (prefixes_in_opened opened)

-- the prefixes of what a tag and the elements around it declare
prefixes_here : (own : List Declaration) (opened : List OpenElement) → prefixes_of (own_of own ++ declared_in opened) ≡ prefixes_in own ++ prefixes_around (map open_of opened)
prefixes_here own opened =
    map-append (λ (d : Declared). d.prefix) (own_of own) (declared_in opened)
    ∙ ap (λ front. front ++ prefixes_of (declared_in opened)) (prefixes_of_own own)
    ∙ ap (λ back. prefixes_in own ++ back) (prefixes_in_opened opened)

found_first : (test : Bool) (d : Declared) (o : Option Declared) (found : Bool) → found ≡ is_some (option_map (λ (x : Declared). x.space) o)
    → (test || found) ≡ is_some (option_map (λ (x : Declared). x.space) (cond test (Some d) o))
found_first true d o found e = refl
found_first false d o found e = e

known_by_space : (declared : List Declared) (prefix : List ℕ) → is_known (prefixes_of declared) prefix ≡ is_some (space_of declared prefix)
known_by_space [] prefix = refl
known_by_space (d ∷ declared) prefix =
    ap (λ b. b || is_known (prefixes_of declared) prefix) (nat_list_eq_equiv.symm prefix d.prefix)
    ∙ found_first (bytes_eq d.prefix prefix) d (find (λ (x : Declared). bytes_eq x.prefix prefix) declared) (is_known (prefixes_of declared) prefix) (known_by_space declared prefix)

known_attribute_by_space : (declared : List Declared) (prefix : List ℕ) → is_known_attribute (prefixes_of declared) prefix ≡ is_some (attribute_space declared prefix)
known_attribute_by_space declared [] = refl
known_attribute_by_space declared (b ∷ prefix) = known_by_space declared (b ∷ prefix)

all_agree : (p q : Written → Bool) → ((a : Written) → p a ≡ q a) → (attributes : List Written) → list_all p attributes ≡ list_all q attributes
all_agree p q same [] = refl
all_agree p q same (a ∷ attributes) = ap (λ b. b && list_all p attributes) (same a) ∙ ap (λ b. q a && b) (all_agree p q same attributes)

pub unknown_by_space : (declared : List Declared) (name : List ℕ) (attributes : List Written) → is_unknown (prefixes_of declared) name attributes ≡ not (is_known_tag declared name (plain attributes))
unknown_by_space declared name attributes =
    let by_prefix : Written → Bool = λ (a : Written). is_known_attribute (prefixes_of declared) (prefix_of a.name) in
    let by_space : Written → Bool = λ (a : Written). is_some (attribute_space declared (prefix_of a.name)) in
    ap not
    (ap (λ b. b && list_all by_prefix (plain attributes)) (known_by_space declared (prefix_of name))
    ∙ ap (λ b. is_some (space_of declared (prefix_of name)) && b) (all_agree by_prefix by_space (λ a. known_attribute_by_space declared (prefix_of a.name)) (plain attributes)))

-- a tag has a prefix that isn't declared where one of its prefixes has no namespace
pub unknown_where_no_space : (own : List Declaration) (opened : List OpenElement) (name : List ℕ) (attributes : List Written)
    → is_unknown (prefixes_in own ++ prefixes_around (map open_of opened)) name attributes ≡ not (is_known_tag (own_of own ++ declared_in opened) name (plain attributes))
unknown_where_no_space own opened name attributes =
    ap (λ prefixes. is_unknown prefixes name attributes) (sym (prefixes_here own opened)) ∙ unknown_by_space (own_of own ++ declared_in opened) name attributes
