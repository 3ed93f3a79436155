use Rattle.std.proofs.Common.{◌≡◌, take}
use Rattle.source_sites.specs.Names.{path_names}
use Rattle.as3_types.proofs.imports.package_of.Given as goal

abbrev pub invariant-loop-name : goal.invariant-loop-name
invariant-loop-name l = l.path ≡ path_names (take l.name-index l.names)
