-- Tags of the language that aren't the first four.
use Rattle.std.proofs.Common.{◌≡◌, ◌∙◌, ap, sym, Bool, false, bytes_eq, codes}
use Rattle.std.specs.Prelude.{if◌then◌else◌}
use Rattle.mxml_tree.specs.declared.tree.Element.{Element}
use Rattle.source_sites.specs.Members.{built_in}
use Rattle.document_sites.specs.Standing.{Declarations, Binding, Metadata, Placed, Script, language_placed, literal_or_unknown, stands}

module _ (right : Bool) (tag : Element) where
  abbrev by_tests : Bool → Bool → Bool → Bool → Placed
  by_tests script metadata declarations binding =
      if script then stands tag Script right
      else if metadata then stands tag Metadata right
      else if declarations then stands tag Declarations right
      else if binding then stands tag Binding right
      else literal_or_unknown tag (built_in tag.local)

  all_fail : (a b c d : Bool) → a ≡ false → b ≡ false → c ≡ false → d ≡ false → literal_or_unknown tag (built_in tag.local) ≡ by_tests a b c d
  all_fail a b c d e f g h =
      ap (λ t. by_tests t false false false) (sym e) ∙ (ap (λ t. by_tests a t false false) (sym f) ∙ (ap (λ t. by_tests a b t false) (sym g) ∙ ap (λ t. by_tests a b c t) (sym h)))

  pub other_word : (p : Placed) → bytes_eq tag.local (codes "Script") ≡ false → bytes_eq tag.local (codes "Metadata") ≡ false → bytes_eq tag.local (codes "Declarations") ≡ false
      → bytes_eq tag.local (codes "Binding") ≡ false → p ≡ literal_or_unknown tag (built_in tag.local) → p ≡ language_placed right tag
  other_word p e f g h is =
      is ∙ all_fail (bytes_eq tag.local (codes "Script")) (bytes_eq tag.local (codes "Metadata")) (bytes_eq tag.local (codes "Declarations")) (bytes_eq tag.local (codes "Binding")) e f g h
