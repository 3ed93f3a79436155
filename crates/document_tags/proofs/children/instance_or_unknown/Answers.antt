-- By whether its class has a tag at all.
use Rattle.std.proofs.Common.{◌≡◌, ◌∙◌, ap, sym, true, false, not}
use Rattle.std.specs.Prelude.{if◌then◌else◌}
use Rattle.as3_types.specs.Meanings.{meaning_of}
use Rattle.document_sites.specs.Standing as sites
use Rattle.document_tags.specs.Tags.{role_as, table_in}
use Rattle.document_tags.proofs.children.instance_or_unknown.Goals as goal

pub returns-then-is_known : goal.returns-then-is_known
returns-then-is_known c =
    let d = c.args.document in
    let m = meaning_of c.args.meaning in
    let known : sites.is_known_tag (table_in d) d.class m ≡ true =
    ap (λ place. not (sites.has_no_tag (table_in d) d.class place)) (sym c.tag_place.ensures) ∙ (sym (c.is_known.ensures d) ∙ c.if-is_known.true) in
    c.stands.ensures ∙ ap (λ t. if t then sites.stands c.args.tag.now (sites.Standing.An_instance m (role_as c.args.role)) c.args.right else sites.unknown c.args.tag.now) (sym known)

pub returns-else-is_known : goal.returns-else-is_known
returns-else-is_known c =
    let d = c.args.document in
    let m = meaning_of c.args.meaning in
    let unknown : sites.is_known_tag (table_in d) d.class m ≡ false =
    ap (λ place. not (sites.has_no_tag (table_in d) d.class place)) (sym c.tag_place.ensures) ∙ (sym (c.is_known.ensures d) ∙ c.if-is_known.false) in
    c.unknown.ensures ∙ ap (λ t. if t then sites.stands c.args.tag.now (sites.Standing.An_instance m (role_as c.args.role)) c.args.right else sites.unknown c.args.tag.now) (sym unknown)
