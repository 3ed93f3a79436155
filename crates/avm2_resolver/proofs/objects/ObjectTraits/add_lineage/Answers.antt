use Rattle.std.proofs.Common.{rules, ◌∙◌, sym, ap, ◌-◌, ◌+◌}
use Rattle.std.specs.List.{flat_map, fold}
use Rattle.flex_world.specs.Classes.{upward_in}
use Rattle.avm2_program.specs.Naming.{naming_with}
use Rattle.avm2_program.specs.Resolving.{own_traits, traits_at}
use Rattle.avm2_resolver.specs.Gathering.{with_trait}
use Rattle.avm2_resolver.proofs.Levels.{next_level, no_traits}
use Rattle.avm2_resolver.proofs.objects.ObjectTraits.add_lineage.Goals as goal

pub returns-in_default : goal.returns-in_default
returns-in_default c =
    let g = naming_with c.args.abc.now c.args.classes.now in
    ap (fold (with_trait g) c.loop.self) (sym (no_traits g c.args.bases.now (c.in_ok-most.most - c.loop.counter) c.loop.level (search rules)))
    ∙ c.loop.invariant.0

pub loop-preserved : goal.loop-preserved
loop-preserved c =
    let g = naming_with c.args.abc.now c.args.classes.now in
    let n = c.in_ok-most.most - (c.loop.counter + 1) in (
      ap (λ s. fold (with_trait g) s (flat_map (own_traits g) (upward_in c.args.bases.now n c.base_in-level.result))) c.in_ok-add_class.ensures
          ∙ (ap (λ level. fold (with_trait g) (fold (with_trait g) c.loop.self (traits_at g c.in-Some.number)) (flat_map (own_traits g) (upward_in c.args.bases.now n level)))
          c.base_in-level.ensures
          ∙ (sym (next_level g c.args.bases.now (with_trait g) c.loop.self c.in_ok-most.most c.loop.counter c.loop.level c.in-Some.number (search rules) (search rules))
          ∙ c.loop.invariant.0)),
      search rules,
    )
