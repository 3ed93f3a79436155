use Rattle.std.proofs.Common.{rules, ◌≡◌, ◌≢◌, ◌++◌, ◌∷◌, [], ◌∙◌, length, sym}
use Rattle.std.proofs.lemmas.Result.{err_from_is_err_and}
use Rattle.flex_front.specs.Source.{IsNewId, id_of}
use Rattle.flex_front.proofs.Rows.{all_read, more_read, none_read, not_new, refused_row, too_many}
use Rattle.flex_front.proofs.reading.read_elements.Goals as goal

pub loop-row-init : goal.loop-row-init
loop-row-init c = rw c.new-elements.ensures (none_read c.args.rows.now)

pub returns-then-len-eq-MOST_ELEMENTS-clause-refused : goal.returns-then-len-eq-MOST_ELEMENTS-clause-refused
returns-then-len-eq-MOST_ELEMENTS-clause-refused c =
    too_many c.args.rows.now c.loop-row.row-index c.row-item.result c.loop-row.elements c.loop-row-test.true c.row-item.is c.loop-row.invariant (sym c.len.ensures ∙ c.if-len-eq-MOST_ELEMENTS.true)

pub returns-in_err-element-clause-refused : goal.returns-in_err-element-clause-refused
returns-in_err-element-clause-refused c =
    let p = err_from_is_err_and c.from_residual.result c.from_residual.ensures.1 in
    rw (p.1, p.2) (refused_row c.args.rows.now c.loop-row.row-index c.row-item.result c.loop-row.elements c.in_err-element.field-0.0 c.loop-row-test.true c.row-item.is c.loop-row.invariant c.in_err-element.ensures.refused)

pub returns-then-not-is_new-clause-refused : goal.returns-then-not-is_new-clause-refused
returns-then-not-is_new-clause-refused c =
    let wrong : IsNewId (id_of c.in_ok-element.element) c.loop-row.elements → ⊥ = search rules in
    not_new c.args.rows.now c.loop-row.row-index c.row-item.result c.loop-row.elements c.in_ok-element.element c.loop-row-test.true c.row-item.is c.loop-row.invariant c.in_ok-element.ensures.found wrong

pub loop-row-preserved : goal.loop-row-preserved
loop-row-preserved c =
    let few : length c.loop-row.elements ≢ 100 = search rules in
    let new : IsNewId (id_of c.in_ok-element.element) c.loop-row.elements = search rules in
    let pushed : c.push.new.self ≡ c.loop-row.elements ++ c.in_ok-element.element ∷ [] = search rules in
    rw pushed (more_read c.args.rows.now c.loop-row.row-index c.row-item.result c.loop-row.elements c.in_ok-element.element c.loop-row-test.true c.row-item.is c.loop-row.invariant c.in_ok-element.ensures.found few new)

pub returns-clause-found : goal.returns-clause-found
returns-clause-found c = all_read c.args.rows.now c.loop-row.row-index c.loop-row.elements c.loop-row-test.false c.loop-row.invariant
