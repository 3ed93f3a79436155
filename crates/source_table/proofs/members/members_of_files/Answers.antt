-- The members of a source set.
use Rattle.std.proofs.Common.{◌∙◌}
use Rattle.class_table.specs.Ids.{taken_by_each}
use Rattle.source_table.proofs.SameMembers.{all_members}
use Rattle.source_table.proofs.members.members_of_files.Goals as goal

pub returns : goal.returns
returns c = λ s knows are. c.in_ok-members.ensures ∙ all_members c.args.classes.now (taken_by_each c.args.constructors.now) s.readers knows c.args.classes.now c.args.files.now s.files are
