-- Variables.
use Rattle.std.proofs.Common.{◌∙◌, ◌++◌, ap, map, ◌||◌, ◌&&◌}
use Rattle.as3_parser.specs.declared.tree.Modifier.TheVariants as modifier
use Rattle.source_sites.specs.Functions.{access_of, is_bindable, same_modifier}
use Rattle.source_sites.specs.Trees.{tag_of}
use Rattle.as3_types.specs.Tables.{owned_of}
use Rattle.class_table.proofs.Owned.{adds_variables}
use Rattle.class_table.proofs.members.add_member.Goals as goal

pub returns-in_ok-add_variables-in-Variables : goal.returns-in_ok-add_variables-in-Variables
returns-in_ok-add_variables-in-Variables c =
    let code = c.args.code.now in
    let access = c.access_of-access.result in
    c.in_ok-add_variables-in-Variables.ensures
    ∙ ap (λ os. map owned_of c.args.owned.now ++ os)
    (adds_variables code c.args.member.now access (c.access_of-access.ensures ∙ ap access_of c.as_slice.ensures.value) c.is_watched-bindable.result c.in-Variables.variables c.as_slice-variables.result.now
    (c.is_watched-bindable.ensures ∙ ap (λ tags. is_bindable (map tag_of tags) || code.bindable && same_modifier access modifier.Public) c.as_slice-in-Variables.ensures.value) c.as_slice-variables.ensures.value c.in-Variables.is)
