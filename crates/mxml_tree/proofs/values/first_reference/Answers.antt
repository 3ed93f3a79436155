use Rattle.std.proofs.Common.{subst}
use Rattle.mxml_items.specs.Pieces.{HasNoReference}
use Rattle.mxml_tree.proofs.Meanings.{reference_is_there}
use Rattle.mxml_tree.proofs.values.first_reference.Goals as goal

pub returns-in_err-c : goal.returns-in_err-c
returns-in_err-c c =
    let text = c.args.text.now in
    let i = c.loop-i.i in
    absurd (reference_is_there text i c.requires.0 c.loop-i-test.true c.if-text-i-eq38.true c.loop-i.invariant c.requires.1 (subst HasNoReference c.split_at.ensures.back c.in_err-c.ensures))
