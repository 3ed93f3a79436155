-- A tag without a fault has an element.
use Rattle.std.proofs.Common.{◌≡◌, ℕ, ◌+◌, ◌≤◌, List, [], ◌∷◌, ◌++◌, true, false, Option, None, Some, is_some, length, refl, ap, sym, ◌∙◌, true≢false, arith}
use Rattle.std.proofs.lemmas.Bool.{not-false}
use Rattle.std.proofs.lemmas.List.{map-append}
use Rattle.std.specs.Prelude.{nat_le}
use Rattle.mxml_items.specs.Items.{Written}
use Rattle.mxml_tree.specs.declared.fault.TreeCode.TheVariants as code
use Rattle.mxml_tree.specs.declared.tree.Attribute.{Attribute}
use Rattle.mxml_tree.specs.declared.tree.Element.{Element}
use Rattle.mxml_tree.specs.Faults.{Open, fault_of_tag, is_unknown, own_prefixes, plain, prefixes_around}
use Rattle.mxml_tree.specs.IsTree.{AreAttributesOf, IsTagOf}
use Rattle.mxml_tree.specs.Namespaces.{AreDeclared, Declared, DeclaresThen, attribute_space, declares, local_of, prefix_of, space_of}
use Rattle.mxml_tree.specs.Opened.{are_known}
use Rattle.mxml_tree.proofs.FaultLaws.{not_broken, others_not_broken}
use Rattle.mxml_tree.proofs.KnownPrefixes.{prefixes_declared, prefixes_of, unknown_by_space}
use Rattle.mxml_tree.proofs.NoFault.{Fits}
use Rattle.mxml_tree.proofs.TextReading.{true_back, true_front}
use Rattle.mxml_laws.proofs.Meanings.{HaveValues, meant_of, plain_have}

-- what attributes declare
declared_of : (attributes : List Written) → HaveValues attributes → (own : List Declared) × AreDeclared attributes own
declared_of [] have = ([], refl)
declared_of (a ∷ attributes) have = by (declares a.name) (declared_of attributes have.1)
  where
    by : (o : Option (List ℕ)) → ((own : List Declared) × AreDeclared attributes own) → (own : List Declared) × DeclaresThen o a.value (AreDeclared attributes) own
    by None (others, are) = (others, are)
    by (Some prefix) (others, are) =
        let (space, is_meant) = meant_of a.value have.0 in
        (record { prefix = prefix; space = space } ∷ others, record { space = space; others = others; is_meant = is_meant; is = refl; go_on = are })

some_of : (o : Option (List ℕ)) → is_some o ≡ true → (found : List ℕ) × (o ≡ Some found)
some_of None is = absurd (true≢false (sym is))
some_of (Some found) is = (found, refl)

-- what attributes say whose prefixes are all known
attributes_of : (declared : List Declared) (attributes : List Written) → HaveValues attributes → are_known declared attributes ≡ true → (listed : List Attribute) × AreAttributesOf declared attributes listed
attributes_of declared [] have known = ([], tt)
attributes_of declared (a ∷ attributes) have known =
    let (space, is_space) = some_of (attribute_space declared (prefix_of a.name)) (true_front _ _ known) in
    let (value, is_value) = meant_of a.value have.0 in
    let (others, are) = attributes_of declared attributes have.1 (true_back _ _ known) in (
      record { at = a.at; space = space; local = local_of a.name; value = value } ∷ others,
      (record { stands = refl; space = is_space; local = refl; value = is_value }, are),
    )

-- the element of a tag, with an end
pub record ElementOf (declared : List Declared) (level : ℕ) (name : List ℕ) (attributes : List Written) (end : ℕ) : Type 0 where
  pub not_too_deep : level ≤ 64
  pub own : List Declared
  pub element : Element
  pub is_tag : IsTagOf element declared own name attributes
  pub ends : element.end ≡ end

-- with another end
abbrev pub with_end : {declared : List Declared} {level : ℕ} {name : List ℕ} {attributes : List Written} {end : ℕ} → ElementOf declared level name attributes end → (other : ℕ) → ElementOf declared level name attributes other
with_end e other =
    record {
      not_too_deep = e.not_too_deep;
      own = e.own;
      element = record e.element { end = other };
      is_tag =
          record {
            are_declared = e.is_tag.are_declared;
            no_attribute_twice = e.is_tag.no_attribute_twice;
            is_named = record { space = e.is_tag.is_named.space; local = e.is_tag.is_named.local };
            are_attributes = e.is_tag.are_attributes;
          };
      ends = refl;
    }

pub element_of : (elements : List Open) (level : ℕ) (declared : List Declared) (name : List ℕ) (attributes : List Written) (end : ℕ) → Fits elements level declared → HaveValues attributes → fault_of_tag elements name attributes ≡ None → ElementOf declared level name attributes end
element_of elements level declared name attributes end fits have none = by (declared_of attributes have)
  where
    by : ((own : List Declared) × AreDeclared attributes own) → ElementOf declared level name attributes end
    by (own, are) =
        let others = others_not_broken code.TooDeep (nat_le 64 (length elements)) _ none in
        let once = not_broken code.DuplicateAttribute _ _ others in
        let unknown = not_broken code.UnknownPrefix (is_unknown (own_prefixes attributes ++ prefixes_around elements) name attributes) None (others_not_broken code.DuplicateAttribute _ _ others) in
        let known = not-false _ (sym (ap (λ prefixes. is_unknown prefixes name attributes) prefixes ∙ unknown_by_space (own ++ declared) name attributes) ∙ unknown) in
        let (space, is_space) = some_of (space_of (own ++ declared) (prefix_of name)) (true_front _ _ known) in
        let (listed, are_attributes) = attributes_of (own ++ declared) (plain attributes) (plain_have attributes have) (true_back _ _ known) in
        record {
          not_too_deep = deep (length elements) (not_broken code.TooDeep (nat_le 64 (length elements)) _ none) fits.deep;
          own = own;
          element = record { end = end; space = space; local = local_of name; attributes = listed };
          is_tag = record { are_declared = are; no_attribute_twice = once; is_named = record { space = is_space; local = refl }; are_attributes = are_attributes };
          ends = refl;
        }
      where
        deep : (n : ℕ) → nat_le 64 n ≡ false → n + 1 ≡ level → level ≤ 64
        deep n less is = grind (arith, less, is)

        prefixes : own_prefixes attributes ++ prefixes_around elements ≡ prefixes_of (own ++ declared)
        prefixes =
            ap (λ ps. ps ++ prefixes_around elements) (prefixes_declared attributes own are)
            ∙ ap (λ ps. prefixes_of own ++ ps) fits.prefixes
            ∙ sym (map-append (λ (d : Declared). d.prefix) own declared)

-- the elements around what stands inside
pub fits_inside : (elements : List Open) (level : ℕ) (declared own : List Declared) (name : List ℕ) (attributes : List Written) (element : Element) → Fits elements level declared → IsTagOf element declared own name attributes → Fits (record { name = name; prefixes = own_prefixes attributes } ∷ elements) (level + 1) (own ++ declared)
fits_inside elements level declared own name attributes element fits is =
    record {
      deep = (let deep = fits.deep in omega (arith, deep));
      prefixes =
          ap (λ ps. ps ++ prefixes_around elements) (prefixes_declared attributes own is.are_declared)
          ∙ ap (λ ps. prefixes_of own ++ ps) fits.prefixes
          ∙ sym (map-append (λ (d : Declared). d.prefix) own declared);
    }
