use Rattle.std.proofs.Common.{◌≡◌, ◌∙◌, ap, subst, sym, true}
use Rattle.std.specs.List.{insert}
use Rattle.flex_objects.proofs.Once.{fresh, once_more, once_put}
use Rattle.flex_objects.specs.Once.{stand_once}
use Rattle.flex_objects.proofs.children.note.Goals.{in-Some+in_ok-is_new-in-Some, in-None}
use Rattle.flex_objects.proofs.children.note.Goals as goal

pub returns-else-not-is_new-clause-kept : goal.returns-else-not-is_new-clause-kept
returns-else-not-is_new-clause-kept c = λ os once. elim c.match-once.branch [
  | in-Some+in_ok-is_new-in-Some w ↦ subst (λ s. stand_once s os ≡ true) (sym w.once-is)
      (once_more w.in-Some.children w.insert.new.self c.args.child w.in_ok-is_new-in-Some.ensures.updates.0 os (subst (λ s. stand_once s os ≡ true) w.in-Some.is once))
  | in-None w ↦ ap (λ s. stand_once s os) (w.once-is ∙ w.in-None.is)
]

pub returns-else-not-is_new-clause-put : goal.returns-else-not-is_new-clause-put
returns-else-not-is_new-clause-put c = λ os place once. elim c.match-once.branch [
  | in-Some+in_ok-is_new-in-Some w ↦ subst (λ s. stand_once s (insert os place c.args.child) ≡ true) (sym w.once-is)
      (once_put w.in-Some.children w.insert.new.self c.args.child w.in_ok-is_new-in-Some.ensures.updates.0
      (fresh _ w.in_ok-is_new-in-Some.is_new c.match-once.is_new c.if-not-is_new.false w.is_new-is w.in_ok-is_new-in-Some.ensures.added)
      os place (subst (λ s. stand_once s os ≡ true) w.in-Some.is once))
  | in-None w ↦ ap (λ s. stand_once s (insert os place c.args.child)) (w.once-is ∙ w.in-None.is)
]
