use Rattle.std.proofs.Common.{rules, refl, ◌∙◌}
use Rattle.as3_lexer.proofs.Laws.{rest_fits, is_bad, behind_gap, behind_token}
use Rattle.as3_lexer.proofs.reading.tokens.Goals as goal
use Rattle.as3_lexer.proofs.reading.tokens.Goals.{in-Some-kind+in_ok-push, in_default-kind}

pub overflow_sub-start : goal.overflow_sub-start
overflow_sub-start c = rest_fits c.args.text.now c.loop-rest.tokens c.loop-rest.rest.now c.loop-rest.invariant.1

pub returns-in_default-clause-bad : goal.returns-in_default-clause-bad
returns-in_default-clause-bad c =
    is_bad c.args.text.now c.loop-rest.tokens c.loop-rest.rest.now _ c.loop-rest.invariant.1 c.in_default.ensures (search rules) refl

pub loop-rest-preserved : goal.loop-rest-preserved
loop-rest-preserved c = (
  c.range_from-rest.utf8,
  elim c.match-found.branch [
    | in-Some-kind+in_ok-push w ↦
        behind_token c.args.text.now c.loop-rest.tokens c.match-found.tokens c.loop-rest.rest.now c.range_from-rest.result.now c.in-Some.found w.in-Some-kind.kind
        c.loop-rest.invariant.1 c.in-Some.ensures w.in-Some-kind.is (w.tokens-is ∙ w.in_ok-push.ensures.ok) c.range_from-rest.ensures.value
    | in_default-kind w ↦
        behind_gap c.args.text.now c.loop-rest.tokens c.match-found.tokens c.loop-rest.rest.now c.range_from-rest.result.now c.in-Some.found
        c.loop-rest.invariant.1 c.in-Some.ensures w.in_default-kind.is w.tokens-is c.range_from-rest.ensures.value
  ],
)
