-- The name of a function, which may be the constructor or an override.
use Rattle.std.proofs.Common.{◌≡◌, ◌∙◌, ap, not, ◌||◌}
use Rattle.std.specs.Prelude.{Option, is_some, option_map}
use Rattle.source_sites.specs.Functions.{access_of, is_constructor, overrides}
use Rattle.source_sites.specs.Members.{Found, signature_of}
use Rattle.source_sites.specs.Sites.{first_site}
use Rattle.source_sites.specs.Syntax.{Function}
use Rattle.source_sites.specs.Texts.{is_there}
use Rattle.class_sites.specs.MemberSites.{fits_override}
use Rattle.as3_types.specs.Tables.{found_as}
use Rattle.as3_types.specs.Types.{function_of}
use Rattle.member_checks.specs.Places.{places_before}
use Rattle.member_checks.specs.CodeRules.{above_unless, rules_of_name}
use Rattle.member_checks.proofs.Before.{rules_of_function, there}
use Rattle.member_checks.proofs.naming.check_function_name.Goals as goal

pub returns : goal.returns
returns c =
    λ locals. let s = c.args.scope.now in
    let words = c.args.modifiers.now in
    let f : Function = function_of c.args.name.now c.args.parameters.now c.args.given.now locals in
    let above : Option Found = above_unless s (is_constructor s.here.now f) f.name.text in
    let above-is : option_map (found_as f.name.text) c.inherited-above.result ≡ above =
    c.inherited-above.ensures ∙ ap (λ b. above_unless s b f.name.text) (c.is_constructor-constructor.ensures c.args.parameters.now c.args.given.now locals) in
    let free-is : c.is_free-free.result ≡ (overrides words || not (is_there above)) =
    c.is_free-free.ensures ∙ (ap (λ b. b || not (is_some c.inherited-above.result)) c.overrides.ensures ∙ ap (λ b. overrides words || not b) (there f.name.text c.inherited-above.result above above-is)) in
    let fits-is : c.in_ok-fits.fits ≡ (not (overrides words) || fits_override (access_of words) (signature_of s.table.now.classes s.here.now f) above) =
    c.in_ok-fits.ensures locals ∙ ap (λ m. not (overrides words) || fits_override (access_of words) (signature_of s.table.now.classes s.here.now f) m) above-is in
    c.check_name.ensures
    ∙ (ap (λ free. first_site s.file (rules_of_name f.name (places_before 0 f.name.span.start s.names.now) free c.in_ok-fits.fits)) free-is
    ∙ (ap (λ fits. first_site s.file (rules_of_name f.name (places_before 0 f.name.span.start s.names.now) (overrides words || not (is_there above)) fits)) fits-is
    ∙ ap (first_site s.file) (rules_of_function s words f)))
