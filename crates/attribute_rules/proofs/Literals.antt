-- Values of attributes by what their readers know.
use Rattle.std.proofs.Common.{◌≡◌, ◌∙◌, ap, refl, sym, bytes_eq, codes, not}
use Rattle.std.specs.Prelude.{◌||◌, if◌then◌else◌, true}
use Rattle.mxml_tree.specs.declared.tree.Attribute.{Attribute}
use Rattle.source_sites.specs.Texts.{is_there}
use Rattle.member_checks.specs.AllReaders.{KnowsIdentifiers}
use Rattle.document_sites.specs.Attributes.{AttributeKind}
use Rattle.document_sites.specs.DocumentSites.{is_truth_word, state_of}
use Rattle.attribute_rules.specs.Rules.{Judged, is_right_literal, is_right_literal_in}

pub same_literal : (j : Judged) → KnowsIdentifiers j.readers → (kind : AttributeKind) (a : Attribute) → is_right_literal kind a ≡ is_right_literal_in j kind a
same_literal j knows (AttributeKind.Special name) a = ap (λ b. not (bytes_eq name (codes "id")) || is_there (state_of a) || b) (sym (knows a.value))
same_literal j knows (AttributeKind.Of_the_tag name) a =
    ap (λ b. if bytes_eq name (codes "id") then b else if bytes_eq name (codes "twoWay") then is_truth_word a.value else true) (sym (knows a.value))
same_literal j knows (AttributeKind.Sets p) a = refl
same_literal j knows (AttributeKind.Hears e) a = refl
same_literal j knows AttributeKind.Misplaced a = refl
same_literal j knows AttributeKind.Strange a = refl
same_literal j knows AttributeKind.Not_judged a = refl
