use Rattle.mxml_items.specs.Pieces.{may_be_written}
use Rattle.mxml_items.proofs.PieceLaws.{plain_goes_on, plain_is_all, plain_is_shorter}
use Rattle.mxml_items.proofs.pieces.pieces.Goals as goal

pub loop-unread-preserved : goal.loop-unread-preserved
loop-unread-preserved c =
    plain_goes_on (may_be_written c.args.quote) c.args.text.now c.loop-unread.rest.now c.in-Some.field-0-0 c.in-Some.unread.now c.plain-rest-in-Some.result.now c.loop-unread.invariant c.in-Some.ensures c.plain-rest-in-Some.ensures

pub loop-unread-smaller : goal.loop-unread-smaller
loop-unread-smaller c =
    plain_is_shorter (may_be_written c.args.quote) c.loop-unread.rest.now c.in-Some.field-0-0 c.in-Some.unread.now c.plain-rest-in-Some.result.now c.in-Some.ensures c.plain-rest-in-Some.ensures

pub returns : goal.returns
returns c =
    rw (c.split_at.ensures.front, c.split_at.ensures.back)
    (plain_is_all (may_be_written c.args.quote) c.args.text.now c.loop-unread.rest.now c.loop-unread.invariant c.in_default.ensures)
