use Rattle.std.proofs.Common.{sym, ◌∙◌}
use Rattle.std.proofs.lemmas.Result.{err_from_is_err_and}
use Rattle.mxml_tree.proofs.ReadingLaws.{first_is_readable, first_is_no_text, advances_one, refuses_one, texts_are_readable, advances_texts, refuses_texts}
use Rattle.mxml_tree.proofs.reading.advance.Goals as goal

pub add-requires-clause-readable : goal.add-requires-clause-readable
add-requires-clause-readable c = first_is_readable c.args.items.now c.index-items-0.result c.requires.some c.index-items-0.is c.requires.readable

pub add-requires-clause-no_text : goal.add-requires-clause-no_text
add-requires-clause-no_text c =
    let none = sym c.is_empty.ensures ∙ c.if-is_empty.true in
    first_is_no_text c.args.items.now c.split_texts.result.0.now c.split_texts.result.1.now c.index-items-0.result c.split_texts.ensures.is none c.split_texts.ensures.all.no_more c.requires.some c.index-items-0.is

pub returns-in_err-add-clause-err : goal.returns-in_err-add-clause-err
returns-in_err-add-clause-err c =
    let p = err_from_is_err_and c.from_residual.result c.from_residual.ensures.1 in
    rw (p.1, p.2) (refuses_one c.args.items.now c.index-items-0.result c.args.building.now _ c.requires.some c.index-items-0.is c.in_err-add.ensures.err)

pub returns-then-is_empty-clause-ok : goal.returns-then-is_empty-clause-ok
returns-then-is_empty-clause-ok c = advances_one c.args.items.now c.index-items-0.result c.args.building.now _ c.requires.some c.index-items-0.is c.in_ok-add.ensures.ok

pub add_texts-requires-clause-readable : goal.add_texts-requires-clause-readable
add_texts-requires-clause-readable c = texts_are_readable c.args.items.now c.split_texts.result.0.now c.split_texts.result.1.now c.split_texts.ensures.is c.requires.readable

pub returns-in_err-add_texts-clause-err : goal.returns-in_err-add_texts-clause-err
returns-in_err-add_texts-clause-err c =
    let p = err_from_is_err_and c.from_residual-in_err-add_texts.result c.from_residual-in_err-add_texts.ensures.1 in
    rw (p.1, p.2) (refuses_texts c.args.items.now c.split_texts.result.0.now c.split_texts.result.1.now c.args.building.now _ c.split_texts.ensures.is c.in_err-add_texts.ensures.err)

pub returns-clause-ok : goal.returns-clause-ok
returns-clause-ok c =
    let some = sym c.is_empty.ensures ∙ c.if-is_empty.false in
    advances_texts c.args.items.now c.split_texts.result.0.now c.split_texts.result.1.now c.args.building.now _ c.split_texts.ensures.is some c.split_texts.ensures.all c.in_ok-add_texts.ensures.ok
