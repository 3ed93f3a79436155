-- The fault of a tag inside open elements, where it isn't too deep and repeats no attribute.
use Rattle.std.proofs.Common.{◌≡◌, ℕ, ◌<◌, List, [], ◌∷◌, ◌++◌, Bool, true, false, not, None, Some, length, map, reverse, refl, ap, ◌∙◌, arith}
use Rattle.std.proofs.lemmas.List.{length-map, length-reverse}
use Rattle.std.specs.Prelude.{◌&&◌, is_some, nat_le, IsFalse}
use Rattle.mxml_items.specs.Items.{Written}
use Rattle.mxml_tree.specs.declared.elements.Declaration.{Declaration}
use Rattle.mxml_tree.specs.declared.elements.OpenElement.{OpenElement}
use Rattle.mxml_tree.specs.declared.fault.TreeCode.TheVariants as code
use Rattle.mxml_tree.specs.declared.tree.Attribute.{Attribute}
use Rattle.mxml_tree.specs.Faults.{broken, fault_of_tag, is_repeated, is_unknown, names_of, plain, prefixes_around}
use Rattle.mxml_tree.specs.IsTree.{AreAttributesOf}
use Rattle.mxml_tree.specs.Namespaces.{AreDeclared, Declared, prefix_of, space_of}
use Rattle.mxml_tree.specs.Opened.{are_known, declared_in, is_known_tag, open_of, own_of}
use Rattle.mxml_tree.proofs.FaultLaws.{broken_here, broken_later}
use Rattle.mxml_tree.proofs.KnownPrefixes.{own_prefixes_are, unknown_where_no_space}

not_deep : (opened : List OpenElement) → length opened < 64 → nat_le 64 (length (map open_of (reverse opened))) ≡ false
not_deep opened less = at (length (map open_of (reverse opened))) (let long = length-map (reverse opened) open_of in let same = length-reverse opened in omega (arith, long, same, less))
  where
    at : (n : ℕ) → n < 64 → nat_le 64 n ≡ false
    at n less = grind (arith, less)

prefixes_alone : (opened : List OpenElement) (own : List Declaration) (name : List ℕ) (attributes : List Written) → length opened < 64 → is_repeated (names_of attributes) ≡ false → AreDeclared attributes (own_of own) → fault_of_tag (map open_of (reverse opened)) name attributes ≡ broken code.UnknownPrefix (not (is_known_tag (own_of own ++ declared_in (reverse opened)) name (plain attributes))) None
prefixes_alone opened own name attributes less once are =
    broken_later code.TooDeep _ _ (not_deep opened less)
    ∙ broken_later code.DuplicateAttribute _ _ once
    ∙ ap (λ unknown. broken code.UnknownPrefix unknown None) (ap (λ ps. is_unknown (ps ++ prefixes_around (map open_of (reverse opened))) name attributes) (own_prefixes_are attributes own are) ∙ unknown_where_no_space own (reverse opened) name attributes)

pub unknown_element : (opened : List OpenElement) (own : List Declaration) (name : List ℕ) (attributes : List Written) → length opened < 64 → is_repeated (names_of attributes) ≡ false → AreDeclared attributes (own_of own) → space_of (own_of own ++ declared_in (reverse opened)) (prefix_of name) ≡ None → fault_of_tag (map open_of (reverse opened)) name attributes ≡ Some code.UnknownPrefix
unknown_element opened own name attributes less once are none =
    prefixes_alone opened own name attributes less once are
    ∙ broken_here code.UnknownPrefix _ None (ap (λ space. not (is_some space && are_known (own_of own ++ declared_in (reverse opened)) (plain attributes))) none)

pub unknown_attribute : (opened : List OpenElement) (own : List Declaration) (name : List ℕ) (attributes : List Written) → length opened < 64 → is_repeated (names_of attributes) ≡ false → AreDeclared attributes (own_of own) → IsFalse (are_known (own_of own ++ declared_in (reverse opened)) (plain attributes)) → fault_of_tag (map open_of (reverse opened)) name attributes ≡ Some code.UnknownPrefix
unknown_attribute opened own name attributes less once are unknown =
    prefixes_alone opened own name attributes less once are
    ∙ broken_here code.UnknownPrefix _ None (and_false (is_some (space_of (own_of own ++ declared_in (reverse opened)) (prefix_of name))) _ unknown)
  where
    and_false : (x y : Bool) → y ≡ false → not (x && y) ≡ true
    and_false true y is = ap not is
    and_false false y is = refl

pub are_all_known : (declared : List Declared) (ws : List Written) (listed : List Attribute) → AreAttributesOf declared ws listed → are_known declared ws ≡ true
are_all_known declared [] [] are = refl
are_all_known declared (w ∷ ws) (a ∷ listed) (is, are) = rw is.space (are_all_known declared ws listed are)
are_all_known declared [] (a ∷ listed) are = absurd are
are_all_known declared (w ∷ ws) [] are = absurd are

pub known_tag : (opened : List OpenElement) (own : List Declaration) (name : List ℕ) (attributes : List Written) (space : List ℕ) (listed : List Attribute) → length opened < 64 → is_repeated (names_of attributes) ≡ false → AreDeclared attributes (own_of own) → space_of (own_of own ++ declared_in (reverse opened)) (prefix_of name) ≡ Some space → AreAttributesOf (own_of own ++ declared_in (reverse opened)) (plain attributes) listed → fault_of_tag (map open_of (reverse opened)) name attributes ≡ None
known_tag opened own name attributes space listed less once are is known =
    prefixes_alone opened own name attributes less once are
    ∙ broken_later code.UnknownPrefix _ None (rw is (ap not (are_all_known _ (plain attributes) listed known)))
