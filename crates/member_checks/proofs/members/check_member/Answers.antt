-- The metadata, and then the code.
use Rattle.std.proofs.Common.{◌∙◌, ◌++◌, [], ◌∷◌, ap, sym, map}
use Rattle.source_sites.specs.Sites.{first_site}
use Rattle.source_sites.specs.Trees.{member_of, tag_of}
use Rattle.class_sites.specs.MemberSites.{wrong_modifiers}
use Rattle.member_checks.specs.CodeRules.{code_rules, metadata_rule}
use Rattle.member_checks.proofs.Walks.{first_fails, first_holds}
use Rattle.member_checks.proofs.members.check_member.Goals as goal

pub returns-then-is_some : goal.returns-then-is_some
returns-then-is_some c =
    let s = c.args.scope.now in
    let m = c.args.member.now in
    first_fails s.file (map (metadata_rule s) (map tag_of m.metadata.items)) (code_rules s m ++ wrong_modifiers (member_of m) ∷ []) c.in_ok-metadata.metadata
    (c.in_ok-metadata.ensures ∙ ap (λ tags. first_site s.file (map (metadata_rule s) (map tag_of tags))) c.as_slice.ensures.value) (sym c.if-is_some.ensures)

pub returns : goal.returns
returns c =
    let s = c.args.scope.now in
    let m = c.args.member.now in
    first_holds s.file (map (metadata_rule s) (map tag_of m.metadata.items)) (code_rules s m ++ wrong_modifiers (member_of m) ∷ []) c.in_ok-metadata.metadata c.in_ok-site.site
    (c.in_ok-metadata.ensures ∙ ap (λ tags. first_site s.file (map (metadata_rule s) (map tag_of tags))) c.as_slice.ensures.value) (sym c.if-is_some.ensures) c.in_ok-site.ensures
