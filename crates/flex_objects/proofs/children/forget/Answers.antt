use Rattle.std.proofs.Common.{◌≡◌, subst, true}
use Rattle.flex_objects.proofs.Once.{once_less}
use Rattle.flex_objects.specs.Once.{stand_once}
use Rattle.flex_objects.proofs.children.forget.Goals as goal

pub returns-in-Some : goal.returns-in-Some
returns-in-Some c = λ os once.
    once_less c.in-Some.children c.remove.new.self c.args.child c.remove.ensures.updates.0 os (subst (λ s. stand_once s os ≡ true) c.in-Some.is once)
