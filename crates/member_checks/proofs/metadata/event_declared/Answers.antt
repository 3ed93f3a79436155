-- An event that has a name.
use Rattle.std.proofs.Common.{◌≡◌, ◌∙◌, ap, sym, subst, IfOk, length, false, codes}
use Rattle.std.specs.Prelude.{Option, ◌==◌}
use Rattle.flex_world.specs.declared.kind.Class.{Class}
use Rattle.source_sites.specs.Members.{metadata_value}
use Rattle.source_sites.specs.Trees.{tag_of}
use Rattle.member_checks.proofs.Events.{declared_by_type}
use Rattle.member_checks.proofs.metadata.event_declared.Goals as goal

pub returns : goal.returns
returns c =
    let declared : Option Class → Type 0 = λ o. IfOk c.class_of_type.result (λ class. class ≡ o) in
    let named : (length (metadata_value (codes "name") (tag_of c.args.tag.now)) == 0) ≡ false =
    ap (λ n. length n == 0) (sym (c.as_slice.ensures ∙ c.in_ok-name.ensures)) ∙ (sym c.is_empty.ensures ∙ c.if-is_empty.false) in
    subst declared
    (declared_by_type c.args.table.now c.args.here.now (tag_of c.args.tag.now) c.as_slice-2.result.now (sym c.is_named.ensures ∙ c.if-not-is_named.false) named (c.as_slice-2.ensures ∙ c.in_ok-written.ensures))
    c.class_of_type.ensures
