use Rattle.std.proofs.Common.{sym, ◌∙◌, refl}
use Rattle.flex_edge.proofs.NamedFiles.{none_at, first_at, files_after_create-none, files_after_create-first}
use Rattle.flex_edge.proofs.named.empty_file.Goals as goal

pub returns-in-Some-clause-ok : goal.returns-in-Some-clause-ok
returns-in-Some-clause-ok c =
    let place = rw (c.deref.ensures.value, c.as_str.ensures) at c.place_of.ensures in
    let first = first_at c.args.files.now.items c.args.name.now c.in-Some.place (sym place ∙ c.in-Some.is) in
    rw (files_after_create-first _ _ _ c.index_mut-file.result.now first, ← c.index_mut-file.ensures.value, c.new.ensures) refl

pub returns-in_ok-push-in-None-clause-ok : goal.returns-in_ok-push-in-None-clause-ok
returns-in_ok-push-in-None-clause-ok c =
    let place = rw (c.deref.ensures.value, c.as_str.ensures) at c.place_of.ensures in
    let none = none_at c.args.files.now.items c.args.name.now (sym place ∙ c.in-None.is) in
    rw (files_after_create-none _ _ none, c.in_ok-push-in-None.ensures.items, c.in_ok-clone-in-None.ensures.cases, c.new-in-None.ensures) refl
