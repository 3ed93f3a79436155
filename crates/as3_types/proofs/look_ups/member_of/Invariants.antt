use Rattle.std.proofs.Common.{◌≡◌}
use Rattle.source_sites.specs.LookUps.{member_of}
use Rattle.as3_types.specs.Tables.{table_of}
use Rattle.as3_types.proofs.Inherited.{from_level}
use Rattle.as3_types.proofs.look_ups.member_of.Given as goal

abbrev pub invariant-loop-left : goal.invariant-loop-left
invariant-loop-left l = member_of (table_of l.fn.table) l.fn.class l.fn.name ≡ from_level (table_of l.fn.table) l.fn.name l.left l.level

abbrev pub decreases-loop-left : goal.decreases-loop-left
decreases-loop-left l = l.left
