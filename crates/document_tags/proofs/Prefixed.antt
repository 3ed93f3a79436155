-- Attributes with a prefix.
use Rattle.std.proofs.Common.{◌≡◌, ◌∙◌, ap, sym, length, false}
use Rattle.std.specs.Prelude.{◌==◌, if◌then◌else◌}
use Rattle.mxml_tree.specs.declared.tree.Attribute.{Attribute}
use Rattle.document_sites.specs.Attributes as sites
use Rattle.document_sites.specs.Standing.{Standing}
use Rattle.document_tags.specs.declared.document.DocumentClass.{DocumentClass}
use Rattle.document_tags.specs.Kinds.{attribute_kind, attribute_on, if_judged}

pub with_prefix : (d : DocumentClass) (standing : Standing) (a : Attribute) (k r : sites.AttributeKind) → (length a.space == 0) ≡ false
    → k ≡ attribute_on d standing (sites.dotted_name a.local).name a.local → r ≡ if_judged d k → r ≡ attribute_kind d standing a
with_prefix d standing a k r prefixed is e =
    e
    ∙ (ap (if_judged d) is
    ∙ ap (λ t. if t then attribute_on d standing (sites.dotted_name a.local).name a.local else if_judged d (attribute_on d standing (sites.dotted_name a.local).name a.local)) (sym prefixed))
