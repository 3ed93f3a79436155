use Rattle.std.proofs.Common.{◌≡◌, ◌-◌, length, slice_get, Some, rules}
use Rattle.as3_parser.proofs.Ended.{last_is, lacks_then, lacks_else}
use Rattle.as3_parser.proofs.kinds.lacks_semicolon.Goals as goal

pub returns-then-kind-mark_number : goal.returns-then-kind-mark_number
returns-then-kind-mark_number c =
    let there : slice_get c.args.kinds.now (length c.args.kinds.now - 1) ≡ Some c.in-Some.kind.now = search rules in
    let last = last_is c.args.kinds.now c.in-Some.kind.now there in
    lacks_then _ _ _ _ last c.mark_number.ensures c.mark_number-then-kind-mark_number.ensures c.if-kind-mark_number.true

pub returns-else-kind-mark_number : goal.returns-else-kind-mark_number
returns-else-kind-mark_number c =
    let there : slice_get c.args.kinds.now (length c.args.kinds.now - 1) ≡ Some c.in-Some.kind.now = search rules in
    let last = last_is c.args.kinds.now c.in-Some.kind.now there in
    lacks_else _ _ _ last c.mark_number.ensures c.if-kind-mark_number.false
