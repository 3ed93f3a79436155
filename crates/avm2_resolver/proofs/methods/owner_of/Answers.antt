use Rattle.std.proofs.Common.{rules, ◌∙◌, drop, refl}
use Rattle.std.proofs.lemmas.Option.{slice_get_read}
use Rattle.avm2_resolver.proofs.Owners.{found_on, none_left, passed_on}
use Rattle.avm2_resolver.proofs.methods.owner_of.Goals as goal

pub returns-in_default : goal.returns-in_default
returns-in_default c =
    none_left c.args.method c.loop-instance.number (drop c.loop-instance.instance-index c.as_slice-instance-items.result.now) c.args.abc.now.classes (search rules)
    ∙ c.loop-instance.invariant

pub returns-then-owns : goal.returns-then-owns
returns-then-owns c =
    let items = c.as_slice-instance-items.result.now in
    let at = slice_get_read items _ c.loop-instance.instance-index c.instance-item.result refl (search rules) (search rules) in
    found_on c.args.method items c.loop-instance.instance-index c.instance-item.result at c.loop-instance.number c.in-Some.class.now c.args.abc.now.classes (search rules) (search rules)
    ∙ c.loop-instance.invariant

pub loop-instance-preserved : goal.loop-instance-preserved
loop-instance-preserved c =
    let items = c.as_slice-instance-items.result.now in
    let at = slice_get_read items _ c.loop-instance.instance-index c.instance-item.result refl (search rules) (search rules) in
    passed_on c.args.method items c.loop-instance.instance-index c.instance-item.result at c.loop-instance.number c.in-Some.class.now c.args.abc.now.classes (search rules)
    c.in_ok-number.number (search rules) (search rules)
    ∙ c.loop-instance.invariant
