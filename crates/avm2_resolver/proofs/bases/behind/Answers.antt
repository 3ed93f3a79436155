use Rattle.std.proofs.Common.{rules, ◌∙◌, sym, ap, length, ◌-◌, ◌+◌}
use Rattle.avm2_program.specs.Resolving.{behind_by}
use Rattle.avm2_resolver.proofs.Upward.{at_rest, next_up}
use Rattle.avm2_resolver.proofs.bases.behind.Goals as goal

pub returns-in_default : goal.returns-in_default
returns-in_default c =
    sym (at_rest c.args.bases.now (length c.args.bases.now - c.loop.counter) c.loop.found (search rules) (search rules)) ∙ c.loop.invariant.0

pub loop-preserved : goal.loop-preserved
loop-preserved c = (
  ap (behind_by c.args.bases.now (length c.args.bases.now - (c.loop.counter + 1))) c.base_of-found-in-loop.ensures
      ∙ (sym (next_up c.args.bases.now (length c.args.bases.now) c.loop.counter c.loop.found c.in-Some.base (search rules) (search rules)) ∙ c.loop.invariant.0),
  search rules,
)
