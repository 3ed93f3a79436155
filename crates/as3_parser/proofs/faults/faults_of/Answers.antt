use Rattle.std.proofs.Common.{◌+◌, ◌∷◌, ◌<◌, ap, sym, refl, ◌∙◌, arith, Fits, w64, rules}
use Rattle.as3_parser.specs.Here.{unlimited}
use Rattle.as3_parser.proofs.Loop.{starts, goes_on, stops, ends_well, ends_short}
use Rattle.as3_parser.proofs.faults.faults_of.Goals as goal

pub loop-at-init : goal.loop-at-init
loop-at-init c = starts c.args.start _ _ _ c.first_part.ensures (c.in_ok-push.ensures ∙ ap (λ y. c.first_part.result ∷ y) c.new-stack.ensures)

pub loop-at-preserved : goal.loop-at-preserved
loop-at-preserved c =
    let fits : Fits w64 c.level-open_levels.result = search rules in
    let few : c.level-open_levels.result < unlimited = search (rules, fits) in
    goes_on _ _ _ _ _ _ _ _ _ _ _ c.loop-at-test.true c.loop-at.invariant c.in_ok-top.ensures (ap (λ y. y + 1) c.from.ensures) refl (sym c.is_read-read.ensures ∙ c.if-not-read.false) c.level-open_levels.ensures few c.deepest-deep.ensures

pub returns-then-not-read : goal.returns-then-not-read
returns-then-not-read c = stops _ _ _ _ _ _ _ _ _ c.loop-at-test.true c.loop-at.invariant c.in_ok-top.ensures (ap (λ y. y + 1) c.from.ensures) refl (sym c.is_read-read.ensures ∙ c.if-not-read.true)

pub returns-then-not-spent : goal.returns-then-not-spent
returns-then-not-spent c = ends_short _ _ _ _ _ c.loop-at.at _ (omega arith) c.loop-at.invariant c.in_ok-top-2.ensures (sym c.is_spent-spent.ensures ∙ c.if-not-spent.true)

pub returns : goal.returns
returns c = ends_well _ _ _ _ _ c.loop-at.at _ (omega arith) c.loop-at.invariant c.in_ok-top-2.ensures (sym c.is_spent-spent.ensures ∙ c.if-not-spent.false)
