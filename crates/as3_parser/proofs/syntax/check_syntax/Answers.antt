use Rattle.std.proofs.Common.{subst, sym, ◌∙◌}
use Rattle.as3_parser.specs.Syntax.{IsRefusal, IsSentence}
use Rattle.as3_parser.proofs.Verdicts.{is_sentence, is_refusal}
use Rattle.as3_parser.proofs.syntax.check_syntax.Goals as goal

pub returns-in-None-clause-sentence : goal.returns-in-None-clause-sentence
returns-in-None-clause-sentence c =
    subst (λ y. IsSentence c.args.start y) c.as_slice-tokens.ensures
    (is_sentence c.args.start _ _ _ _ _ _ (c.as_slice.ensures.value ∙ c.in_ok-kinds.ensures) c.in_ok-faults.ensures c.counted-syntax.ensures c.counted-deep.ensures (sym c.first_of-first.ensures ∙ c.in-None.is))

pub returns-clause-refused : goal.returns-clause-refused
returns-clause-refused c =
    subst (λ y. IsRefusal c.args.start y c.in-Some.refusal) c.as_slice-tokens.ensures
    (is_refusal c.args.start _ _ _ _ _ _ _ (c.as_slice.ensures.value ∙ c.in_ok-kinds.ensures) c.in_ok-faults.ensures c.counted-syntax.ensures c.counted-deep.ensures (sym c.first_of-first.ensures ∙ c.in-Some.is))
