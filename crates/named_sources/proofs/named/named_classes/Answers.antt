-- The classes of a source set.
use Rattle.std.proofs.Common.{◌∙◌}
use Rattle.named_sources.proofs.SameSources.{same_classes}
use Rattle.named_sources.proofs.named.named_classes.Goals as goal

pub returns : goal.returns
returns c = λ s are. c.in_ok-classes.ensures ∙ same_classes s.readers c.args.files.now s.files are
