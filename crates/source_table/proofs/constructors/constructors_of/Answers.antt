-- The constructors of a source set.
use Rattle.std.proofs.Common.{◌∙◌}
use Rattle.source_table.proofs.SameConstructors.{same_constructors}
use Rattle.source_table.proofs.constructors.constructors_of.Goals as goal

pub returns : goal.returns
returns c = λ s are. c.in_ok-constructors.ensures ∙ same_constructors s.readers c.args.classes.now c.args.classes.now c.args.files.now s.files are
