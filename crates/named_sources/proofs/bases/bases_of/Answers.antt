-- The bases of a source set.
use Rattle.std.proofs.Common.{◌∙◌}
use Rattle.named_sources.proofs.SameSources.{same_bases}
use Rattle.named_sources.proofs.bases.bases_of.Goals as goal

pub returns : goal.returns
returns c = λ s are. c.in_ok-bases.ensures ∙ same_bases s.readers c.args.classes.now c.args.classes.now c.args.files.now s.files are
