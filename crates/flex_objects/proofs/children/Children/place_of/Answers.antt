use Rattle.std.proofs.Common.{◌∙◌, ap, sym}
use Rattle.std.specs.List.{position}
use Rattle.flex_base.specs.Value.{is_object}
use Rattle.flex_objects.proofs.Once.{first_of}
use Rattle.flex_objects.proofs.children.Children.place_of.Goals as goal

pub returns-in-Some : goal.returns-in-Some
returns-in-Some c = sym (first_of c.self.inside.once c.args.child c.self.inside.list.items c.in-Some.place (sym c.is_some.ensures ∙ c.if-is_some.true) c.self.inside.apart c.in-Some.ensures) ∙ ap (position (λ o. is_object o c.args.child)) c.self.view_is
