use Rattle.std.proofs.Common.{◌≡◌, ◌++◌, map, drop}
use Rattle.abc_format.specs.declared.records.InstanceInfo.{InstanceInfo}
use Rattle.avm2_program.specs.Naming.{own_name_at}
use Rattle.avm2_resolver.proofs.resolving.class_names.Given as goal

abbrev pub invariant-loop-instance : goal.invariant-loop-instance
invariant-loop-instance l =
    l.names ++ map (λ (i : InstanceInfo). own_name_at l.abc i.name) (drop l.instance-index l.instance-items)
    ≡ map (λ (i : InstanceInfo). own_name_at l.abc i.name) l.abc.instances
