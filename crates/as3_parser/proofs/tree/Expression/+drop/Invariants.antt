use Rattle.std.proofs.Common.{◌≤◌}
use Rattle.as3_parser.proofs.tree.Expression.TheLaws.{the_size}
use Rattle.as3_parser.proofs.tree.Expression.+drop.Given as goal

abbrev pub invariant-loop-self : goal.invariant-loop-self
invariant-loop-self l = the_size l.self ≤ the_size l.fn.self
