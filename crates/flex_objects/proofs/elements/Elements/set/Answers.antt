use Rattle.std.proofs.Common.{◌∙◌, ap}
use Rattle.flex_base.specs.Lists.{changed_at}
use Rattle.flex_objects.proofs.Fields.{set_changed}
use Rattle.flex_objects.proofs.elements.Elements.set.Goals as goal

pub returns : goal.returns
returns c = set_changed c.args.value c.self.inside.list.items c.args.index ∙ ap (λ l. changed_at (λ _. c.args.value) l c.args.index) c.self.view_is
