-- Tag by tag.
use Rattle.std.proofs.Common.{◌∙◌, sym, codes}
use Rattle.class_table.proofs.Tags.{named_tag}
use Rattle.class_table.proofs.variables.is_bindable.Goals as goal

pub returns : goal.returns
returns c = c.has_bindable.ensures ∙ sym (named_tag (codes "Bindable") c.args.tags.now)
