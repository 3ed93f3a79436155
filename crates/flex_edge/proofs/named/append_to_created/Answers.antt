use Rattle.std.proofs.Common.{sym, ◌∙◌, ◌++◌, take, refl, arith}
use Rattle.std.proofs.lemmas.List.{length-take, take_min}
use Rattle.flex_edge.proofs.NamedFiles.{none_at, first_at, bytes_of-none, bytes_of-first, files_after_change-none, files_after_change-first}
use Rattle.flex_edge.proofs.named.append_to_created.Goals as goal

pub returns-in_default-place_of-clause-count : goal.returns-in_default-place_of-clause-count
returns-in_default-place_of-clause-count c =
    let place = rw c.as_str.ensures at c.place_of.ensures in
    let none = none_at c.args.files.now c.in-Some.name (sym place ∙ c.in_default-place_of.is) in
    rw (c.in-Some.is, bytes_of-none _ _ none) refl

pub returns-in_default-place_of-clause-after : goal.returns-in_default-place_of-clause-after
returns-in_default-place_of-clause-after c =
    let place = rw c.as_str.ensures at c.place_of.ensures in
    let none = none_at c.args.files.now c.in-Some.name (sym place ∙ c.in_default-place_of.is) in
    rw c.in-Some.is (sym (files_after_change-none _ _ _ none))

pub returns-clause-count : goal.returns-clause-count
returns-clause-count c =
    let place = rw c.as_str.ensures at c.place_of.ensures in
    let first = first_at c.args.files.now c.in-Some.name c.in-Some-place_of.place (sym place ∙ c.in-Some-place_of.is) in
    rw (c.in-Some.is, bytes_of-first _ _ _ c.index-files-place.result first, length-take, c.min.ensures) (omega arith)

pub returns-clause-after : goal.returns-clause-after
returns-clause-after c =
    let place = rw c.as_str.ensures at c.place_of.ensures in
    let first = first_at c.args.files.now c.in-Some.name c.in-Some-place_of.place (sym place ∙ c.in-Some-place_of.is) in
    let first_after = files_after_change-first (λ bytes. bytes ++ take c.min.result c.args.piece.now) _ _ _ c.index-files-place.result first in
    rw (c.in-Some.is, length-take, take_min, first_after, c.in_ok-extend.ensures.ok) refl
