-- The members, and then the words.
use Rattle.std.proofs.Common.{◌∙◌, [], ◌∷◌, ap, sym}
use Rattle.source_sites.specs.Sites.{first_site}
use Rattle.source_sites.specs.Trees.{class_file_of}
use Rattle.class_sites.specs.MemberSites.{wrong_class_modifiers}
use Rattle.member_checks.specs.CodeRules.{members_rules}
use Rattle.member_checks.proofs.Walks.{first_fails, first_holds}
use Rattle.member_checks.proofs.class_file.check_members_and_words.Goals as goal

pub returns-then-is_some : goal.returns-then-is_some
returns-then-is_some c =
    let s = c.args.scope.now in
    let parsed = c.args.parsed.now in
    first_fails s.file (members_rules s parsed.file.class.members.items) (wrong_class_modifiers (class_file_of parsed) ∷ []) c.in_ok-members.members
    (c.in_ok-members.ensures ∙ ap (λ ms. first_site s.file (members_rules s ms)) c.as_slice.ensures.value) (sym c.if-is_some.ensures)

pub returns : goal.returns
returns c =
    let s = c.args.scope.now in
    let parsed = c.args.parsed.now in
    first_holds s.file (members_rules s parsed.file.class.members.items) (wrong_class_modifiers (class_file_of parsed) ∷ []) c.in_ok-members.members c.wrong_class_modifiers.result
    (c.in_ok-members.ensures ∙ ap (λ ms. first_site s.file (members_rules s ms)) c.as_slice.ensures.value) (sym c.if-is_some.ensures) c.wrong_class_modifiers.ensures
