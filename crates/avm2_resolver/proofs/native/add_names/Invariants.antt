use Rattle.std.proofs.Common.{◌≡◌, ◌++◌, map, drop}
use Rattle.component_catalog.specs.Properties.{Property, properties}
use Rattle.avm2_resolver.proofs.native.add_names.Given as goal

abbrev pub invariant-loop-name : goal.invariant-loop-name
invariant-loop-name l = l.names ++ map (λ n. n.now) (drop l.name-index l.name-items) ≡ l.fn.names ++ map (λ (p : Property). p.name) (properties l.fn.class)
