use Rattle.std.proofs.Common.{◌∙◌, sym}
use Rattle.std.proofs.lemmas.List.{length-map}
use Rattle.stage_objects.specs.Entities.{object_of}
use Rattle.stage_objects.proofs.objects.Objects.count.Goals as goal

pub returns : goal.returns
returns c = c.len.ensures ∙ sym (length-map c.args.self.now object_of)
