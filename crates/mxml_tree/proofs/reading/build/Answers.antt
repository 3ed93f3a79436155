use Rattle.mxml_tree.proofs.ReadingLaws.{left_are_readable}
use Rattle.mxml_tree.proofs.reading.build.Goals as goal

pub advance-requires-clause-readable : goal.advance-requires-clause-readable
advance-requires-clause-readable c = left_are_readable c.args.items.now c.loop-at.at c.requires
