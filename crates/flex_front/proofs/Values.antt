-- The value of an attribute, found by going over all.
use Rattle.std.proofs.Common.{◌≡◌, ℕ, ◌+◌, ◌<◌, true, false, List, ◌∷◌, length, drop, get_or, Some, ap, refl, ◌∙◌, sym}
use Rattle.std.proofs.lemmas.List.{drop_more}
use Rattle.mxml_tree.specs.declared.tree.Attribute.{Attribute}
use Rattle.flex_front.specs.Source.{is_named, value_of}

next : (attributes : List Attribute) (i : ℕ) (a : Attribute) (name : List ℕ) → i < length attributes → a ≡ get_or attributes i a → value_of name (drop i attributes) ≡ value_of name (a ∷ drop (i + 1) attributes)
next attributes i a name less is = ap (value_of name) (drop_more attributes i a less ∙ ap (λ x. x ∷ drop (i + 1) attributes) (sym is))

pub value_at : (attributes : List Attribute) (i : ℕ) (a : Attribute) (name : List ℕ) → i < length attributes → a ≡ get_or attributes i a → is_named name a ≡ true → value_of name (drop i attributes) ≡ Some a.value
value_at attributes i a name less is named = next attributes i a name less is ∙ rw named refl

pub value_further : (attributes : List Attribute) (i : ℕ) (a : Attribute) (name : List ℕ) → i < length attributes → a ≡ get_or attributes i a → is_named name a ≡ false → value_of name (drop i attributes) ≡ value_of name (drop (i + 1) attributes)
value_further attributes i a name less is named = next attributes i a name less is ∙ rw named refl
