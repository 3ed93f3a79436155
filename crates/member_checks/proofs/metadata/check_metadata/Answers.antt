-- Tag by tag.
use Rattle.std.proofs.Common.{[], ◌∷◌, ap, sym, map}
use Rattle.source_sites.specs.Sites.{first_site}
use Rattle.source_sites.specs.Trees.{tag_of}
use Rattle.member_checks.specs.CodeRules.{metadata_rule}
use Rattle.member_checks.proofs.Walks.{fails_here, holds_here}
use Rattle.member_checks.proofs.metadata.check_metadata.Goals as goal

pub returns-then-is_some : goal.returns-then-is_some
returns-then-is_some c =
    let s = c.args.scope.now in
    fails_here s.file (first_site s.file (map (metadata_rule s) (map tag_of c.args.tags.now))) c.in_ok-site.site (metadata_rule s (tag_of c.in-Some.tag.now) ∷ [])
    (map (metadata_rule s) (map tag_of c.in-Some.others.now)) (map (metadata_rule s) (map tag_of c.loop-tag.rest.now)) c.loop-tag.invariant (ap (λ ts. map (metadata_rule s) (map tag_of ts)) c.in-Some.ensures.cases.0)
    c.in_ok-site.ensures (sym c.if-is_some.ensures)

pub loop-tag-preserved : goal.loop-tag-preserved
loop-tag-preserved c =
    let s = c.args.scope.now in
    holds_here s.file (first_site s.file (map (metadata_rule s) (map tag_of c.args.tags.now))) c.in_ok-site.site (metadata_rule s (tag_of c.in-Some.tag.now) ∷ [])
    (map (metadata_rule s) (map tag_of c.in-Some.others.now)) (map (metadata_rule s) (map tag_of c.loop-tag.rest.now)) c.loop-tag.invariant (ap (λ ts. map (metadata_rule s) (map tag_of ts)) c.in-Some.ensures.cases.0)
    c.in_ok-site.ensures (sym c.if-is_some.ensures)
