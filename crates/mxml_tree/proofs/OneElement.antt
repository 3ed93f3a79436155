-- A tag has one element.
use Rattle.std.proofs.Common.{◌≡◌, ℕ, List, [], ◌∷◌, ◌++◌, Option, None, Some, refl, ap, sym, ◌∙◌}
use Rattle.mxml_items.specs.Items.{Written}
use Rattle.mxml_tree.specs.declared.tree.Attribute.{Attribute}
use Rattle.mxml_tree.specs.declared.tree.Element.{Element}
use Rattle.mxml_tree.specs.Faults.{plain}
use Rattle.mxml_tree.specs.IsTree.{AreAttributesOf, IsTagOf}
use Rattle.mxml_tree.specs.Namespaces.{AreDeclared, Declared, DeclaresThen, attribute_space, declares, prefix_of, space_of}
use Rattle.mxml_tree.proofs.SamePieces.{one_value}

abbrev or_none : Option (List ℕ) → List ℕ
or_none None = []
or_none (Some space) = space

same_space : (o : Option (List ℕ)) (a b : List ℕ) → o ≡ Some a → o ≡ Some b → a ≡ b
same_space o a b is also = ap or_none (sym is ∙ also)

same_attribute : (a b : Attribute) → a.at ≡ b.at → a.space ≡ b.space → a.local ≡ b.local → a.value ≡ b.value → a ≡ b
same_attribute a b e f g h k = record { at = e k; space = f k; local = g k; value = h k }

same_attributes : (declared : List Declared) (written : List Written) (these those : List Attribute) → AreAttributesOf declared written these → AreAttributesOf declared written those → these ≡ those
same_attributes declared [] [] [] are also = refl
same_attributes declared [] (a ∷ these) those are also = absurd are
same_attributes declared [] [] (b ∷ those) are also = absurd also
same_attributes declared (w ∷ written) [] those are also = absurd are
same_attributes declared (w ∷ written) (a ∷ these) [] are also = absurd also
same_attributes declared (w ∷ written) (a ∷ these) (b ∷ those) (is, are) (was, also) =
    let one = same_attribute a b (is.stands ∙ sym was.stands) (same_space (attribute_space declared (prefix_of w.name)) a.space b.space is.space was.space) (is.local ∙ sym was.local) (one_value w.value a.value b.value is.value was.value) in
    ap (λ t. t ∷ these) one ∙ ap (λ t. b ∷ t) (same_attributes declared written these those are also)

same_declared : (attributes : List Written) (these those : List Declared) → AreDeclared attributes these → AreDeclared attributes those → these ≡ those
same_declared [] these those are also = are ∙ sym also
same_declared (a ∷ attributes) these those are also = then_same (declares a.name) these those are also (same_declared attributes)
  where
    then_same : (prefix : Option (List ℕ)) (these those : List Declared) → DeclaresThen prefix a.value (AreDeclared attributes) these → DeclaresThen prefix a.value (AreDeclared attributes) those → ((these those : List Declared) → AreDeclared attributes these → AreDeclared attributes those → these ≡ those) → these ≡ those
    then_same None these those are also others = others these those are also
    then_same (Some prefix) these those are also others =
        are.is
        ∙ ap (λ space. record { prefix = prefix; space = space } ∷ are.others) (one_value a.value are.space also.space are.is_meant also.is_meant)
        ∙ ap (λ t. record { prefix = prefix; space = also.space } ∷ t) (others are.others also.others are.go_on also.go_on)
        ∙ sym also.is

pub one_declaration : (declared these those : List Declared) (name : List ℕ) (attributes : List Written) (a b : Element) → IsTagOf a declared these name attributes → IsTagOf b declared those name attributes → these ≡ those
one_declaration declared these those name attributes a b is was = same_declared attributes these those is.are_declared was.are_declared

same_element : (a b : Element) → a.end ≡ b.end → a.space ≡ b.space → a.local ≡ b.local → a.attributes ≡ b.attributes → a ≡ b
same_element a b e f g h k = record { end = e k; space = f k; local = g k; attributes = h k }

pub one_element : (declared own : List Declared) (name : List ℕ) (attributes : List Written) (a b : Element) → a.end ≡ b.end → IsTagOf a declared own name attributes → IsTagOf b declared own name attributes → a ≡ b
one_element declared own name attributes a b ends is was =
    same_element a b ends
    (same_space (space_of (own ++ declared) (prefix_of name)) a.space b.space is.is_named.space was.is_named.space)
    (is.is_named.local ∙ sym was.is_named.local)
    (same_attributes (own ++ declared) (plain attributes) a.attributes b.attributes is.are_attributes was.are_attributes)
