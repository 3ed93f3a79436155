-- A tag that isn't of the language.
use Rattle.std.proofs.Common.{◌∙◌, ap, sym}
use Rattle.std.specs.Prelude.{if◌then◌else◌}
use Rattle.source_sites.specs.Members.{built_in, tagged_type}
use Rattle.source_sites.specs.Names as names
use Rattle.class_table.specs.Ids.{taken_by_each}
use Rattle.class_table.proofs.ids.id_type.Goals as goal

pub returns : goal.returns
returns c =
    let classes = c.args.classes.now in
    let taken = taken_by_each c.args.constructors.now in
    let tag = c.args.tag.now in
    c.tagged_type.ensures classes
    ∙ (ap (λ m. tagged_type classes taken (names.class_of m)) c.in_ok-meaning.ensures
    ∙ ap (λ b. if b then built_in tag.local else tagged_type classes taken (names.class_of (names.class_of_tag classes tag))) (sym (sym c.is_language.ensures ∙ c.if-is_language.false)))
