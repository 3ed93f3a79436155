use Rattle.std.proofs.Common.{rules, ◌++◌, ◌∙◌, ap, drop, refl, sym}
use Rattle.std.proofs.lemmas.List.{append-nil, append_assoc}
use Rattle.std.proofs.lemmas.Option.{slice_get_read}
use Rattle.avm2_program.specs.Naming.{naming_with}
use Rattle.avm2_resolver.proofs.ClassSteps.{next_class, none_left}
use Rattle.avm2_resolver.proofs.classes.file_classes.Goals as goal

pub returns-in_default : goal.returns-in_default
returns-in_default c =
    let g = naming_with c.args.abc.now c.args.classes.now in
    sym (append-nil c.loop-instance.ready)
    ∙ (ap (λ z. c.loop-instance.ready ++ z)
    (sym (none_left g c.loop-instance.number (drop c.loop-instance.instance-index c.as_slice-instance-items.result.now) c.args.abc.now.classes (search rules)))
    ∙ c.loop-instance.invariant)

pub loop-instance-preserved : goal.loop-instance-preserved
loop-instance-preserved c =
    let g = naming_with c.args.abc.now c.args.classes.now in
    let items = c.as_slice-instance-items.result.now in
    let at = slice_get_read items _ c.loop-instance.instance-index c.instance-item.result refl (search rules) (search rules) in
    let step = next_class g items c.loop-instance.instance-index c.instance-item.result at c.loop-instance.number c.in-Some.class.now c.args.abc.now.classes (search rules)
    c.in_ok-number.number (search rules) in
    search (rules, step, append_assoc)
