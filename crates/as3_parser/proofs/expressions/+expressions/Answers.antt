use Rattle.std.proofs.Common.{◌≡◌, ◌≤◌, IsTrue, Some, rules, refl, sym, ap, ◌∙◌}
use Rattle.as3_lexer.specs.declared.keyword.Keyword.TheVariants as keyword
use Rattle.as3_lexer.specs.declared.token.TokenKind.TheVariants as kind
use Rattle.as3_parser.specs.declared.tree.Expression.TheVariants as e
use Rattle.as3_parser.specs.Productions as production
use Rattle.as3_parser.specs.Ahead.{Begun, kind_at}
use Rattle.as3_parser.specs.Expressions as is
use Rattle.as3_parser.specs.Forms.{part, part_of_strength, arguments_before, closes_arguments}
use Rattle.as3_parser.proofs.Reach.{not_so, sole}
use Rattle.as3_parser.proofs.ExpressionSteps as steps
use Rattle.as3_parser.proofs.expressions.+expressions.Goals as goal

pub expression-overflow_sub-levels : goal.expression-overflow_sub-levels
expression-overflow_sub-levels t c =
    let b : Begun c.args.text.now c.args.tokens.now c.args.at.now c.args.levels (part production.expression) = search rules in
    steps.expression_levels b

pub expression-overflow_sub-levels-2 : goal.expression-overflow_sub-levels-2
expression-overflow_sub-levels-2 t c =
    let b : Begun c.args.text.now c.args.tokens.now c.args.at.now c.args.levels (part production.expression) = search rules in
    steps.expression_levels b

pub expression-overflow_sub-levels-3 : goal.expression-overflow_sub-levels-3
expression-overflow_sub-levels-3 t c =
    let b : Begun c.args.text.now c.args.tokens.now c.args.at.now c.args.levels (part production.expression) = search rules in
    steps.expression_levels b

pub expression-operation-requires : goal.expression-operation-requires
expression-operation-requires t c =
    let b : Begun c.args.text.now c.args.tokens.now c.args.at.now c.args.levels (part production.expression) = search rules in
    let some = steps.expression_levels b in
    let next = steps.expression_condition b in
    search rules

pub expression-returns-then-not-is_next : goal.expression-returns-then-not-is_next
expression-returns-then-not-is_next t c = steps.expression_plain c.in_ok-condition.ensures (not_so c.is_next.ensures c.if-not-is_next.true)

pub expression-expression-requires : goal.expression-expression-requires
expression-expression-requires t c =
    let b : Begun c.args.text.now c.args.tokens.now c.args.at.now c.args.levels (part production.expression) = search rules in
    let some = steps.expression_levels b in
    let next = steps.expression_first b c.in_ok-condition.ensures (c.is_next.ensures.0 c.if-not-is_next.false) c.skip.ensures in
    search rules

pub expression-expression-requires-2 : goal.expression-expression-requires-2
expression-expression-requires-2 t c =
    let b : Begun c.args.text.now c.args.tokens.now c.args.at.now c.args.levels (part production.expression) = search rules in
    let some = steps.expression_levels b in
    let next = steps.expression_second b c.in_ok-condition.ensures (c.is_next.ensures.0 c.if-not-is_next.false) c.skip.ensures c.in_ok-first.ensures c.skip-2.ensures in
    search rules

pub expression-returns : goal.expression-returns
expression-returns t c = steps.expression_whole c.in_ok-condition.ensures (c.is_next.ensures.0 c.if-not-is_next.false) c.skip.ensures c.in_ok-first.ensures c.skip-2.ensures c.in_ok-second.ensures c.in_ok-condition-2.ensures.ok c.in_ok-first-2.ensures.ok c.in_ok-second-2.ensures.ok c.span.ensures

pub operation-operation-requires : goal.operation-operation-requires
operation-operation-requires t c =
    let lo : 1 ≤ c.args.strength = search rules in
    let hi : c.args.strength ≤ 7 = search rules in
    let b : Begun c.args.text.now c.args.tokens.now c.args.at.now c.args.levels (part (part_of_strength c.args.strength)) = search rules in
    let few = steps.below_prefix c.args.strength hi c.if-strength-eq-PREFIX.false in
    let next = steps.operation_left lo hi c.if-strength-eq-PREFIX.false b in
    search rules

pub operation-loop-operator-init : goal.operation-loop-operator-init
operation-loop-operator-init t c =
    let lo : 1 ≤ c.args.strength = search rules in
    let hi : c.args.strength ≤ 7 = search rules in
    let b : Begun c.args.text.now c.args.tokens.now c.args.at.now c.args.levels (part (part_of_strength c.args.strength)) = search rules in
    steps.operation_starts lo hi c.if-strength-eq-PREFIX.false c.in_ok-left.ensures

pub operation-operation-requires-in-Some : goal.operation-operation-requires-in-Some
operation-operation-requires-in-Some t c =
    let lo : 1 ≤ c.args.strength = search rules in
    let hi : c.args.strength ≤ 7 = search rules in
    let b : Begun c.args.text.now c.args.tokens.now c.args.at.now c.args.levels (part (part_of_strength c.args.strength)) = search rules in
    let few = steps.below_prefix c.args.strength hi c.if-strength-eq-PREFIX.false in
    let next = steps.operation_right c.args.strength b c.loop-operator.invariant (sym c.in-Some.ensures) c.skip.ensures in
    search rules

pub operation-loop-operator-smaller : goal.operation-loop-operator-smaller
operation-loop-operator-smaller t c =
    let lo : 1 ≤ c.args.strength = search rules in
    let hi : c.args.strength ≤ 7 = search rules in
    let b : Begun c.args.text.now c.args.tokens.now c.args.at.now c.args.levels (part (part_of_strength c.args.strength)) = search rules in
    steps.operation_gets_on c.args.strength b c.loop-operator.invariant (sym c.in-Some.ensures) c.skip.ensures c.in_ok-right.ensures

pub operation-loop-operator-preserved : goal.operation-loop-operator-preserved
operation-loop-operator-preserved t c = steps.operation_more c.loop-operator.invariant (sym c.in-Some.ensures) c.skip.ensures c.in_ok-right.ensures c.in_ok-first.ensures.ok c.in_ok-second.ensures.ok c.span.ensures

pub operation-returns : goal.operation-returns
operation-returns t c =
    let lo : 1 ≤ c.args.strength = search rules in
    let hi : c.args.strength ≤ 7 = search rules in
    let b : Begun c.args.text.now c.args.tokens.now c.args.at.now c.args.levels (part (part_of_strength c.args.strength)) = search rules in
    steps.operation_ends lo hi c.if-strength-eq-PREFIX.false c.loop-operator.invariant (sym c.in_default.ensures)

pub unary-postfix-requires : goal.unary-postfix-requires
unary-postfix-requires t c =
    let b : Begun c.args.text.now c.args.tokens.now c.args.at.now c.args.levels (part production.unary) = search rules in
    let next = steps.unary_none b (sym c.in_default.ensures) in
    search rules

pub unary-returns-in_default : goal.unary-returns-in_default
unary-returns-in_default t c = steps.unary_returned _ _ _ _ _ (sym c.in_default.ensures) c.postfix.ensures

pub unary-overflow_sub-levels : goal.unary-overflow_sub-levels
unary-overflow_sub-levels t c =
    let b : Begun c.args.text.now c.args.tokens.now c.args.at.now c.args.levels (part production.unary) = search rules in
    steps.unary_levels b (sym c.in-Some.ensures)

pub unary-unary-requires : goal.unary-unary-requires
unary-unary-requires t c =
    let b : Begun c.args.text.now c.args.tokens.now c.args.at.now c.args.levels (part production.unary) = search rules in
    let some = steps.unary_levels b (sym c.in-Some.ensures) in
    let next = steps.unary_operand b (sym c.in-Some.ensures) c.skip.ensures in
    search rules

pub unary-returns : goal.unary-returns
unary-returns t c = steps.unary_whole (sym c.in-Some.ensures) c.skip.ensures c.in_ok-operand.ensures c.in_ok-operand-2.ensures.ok c.span.ensures

pub postfix-primary-requires : goal.postfix-primary-requires
postfix-primary-requires t c =
    let b : Begun c.args.text.now c.args.tokens.now c.args.at.now c.args.levels (part production.postfix) = search rules in
    let next = steps.postfix_operand b in
    search rules

pub postfix-loop-at-init : goal.postfix-loop-at-init
postfix-loop-at-init t c = steps.postfix_starts c.in_ok-object.ensures

pub postfix-lexeme-requires : goal.postfix-lexeme-requires
postfix-lexeme-requires t c =
    let b : Begun c.args.text.now c.args.tokens.now c.args.at.now c.args.levels (part production.postfix) = search rules in
    let next = steps.postfix_name b c.loop-at.invariant (c.is_next.ensures.0 c.if-is_next.true) c.skip.ensures in
    search rules

pub postfix-loop-at-smaller-then-is_next : goal.postfix-loop-at-smaller-then-is_next
postfix-loop-at-smaller-then-is_next t c =
    let b : Begun c.args.text.now c.args.tokens.now c.args.at.now c.args.levels (part production.postfix) = search rules in
    steps.postfix_member_on b c.loop-at.invariant (c.is_next.ensures.0 c.if-is_next.true) c.skip.ensures c.in_ok-name.ensures

pub postfix-loop-at-preserved-then-is_next : goal.postfix-loop-at-preserved-then-is_next
postfix-loop-at-preserved-then-is_next t c = steps.postfix_member c.loop-at.invariant (c.is_next.ensures.0 c.if-is_next.true) c.skip.ensures c.in_ok-name.ensures c.in_ok-whole.ensures.ok c.span.ensures

pub postfix-expression-requires : goal.postfix-expression-requires
postfix-expression-requires t c =
    let b : Begun c.args.text.now c.args.tokens.now c.args.at.now c.args.levels (part production.postfix) = search rules in
    let next = steps.postfix_index_begun b c.loop-at.invariant (c.is_next-else-is_next.ensures.0 c.if-is_next-2.true) c.skip-then-is_next-2.ensures in
    search rules

pub postfix-loop-at-smaller-then-is_next-2 : goal.postfix-loop-at-smaller-then-is_next-2
postfix-loop-at-smaller-then-is_next-2 t c =
    let b : Begun c.args.text.now c.args.tokens.now c.args.at.now c.args.levels (part production.postfix) = search rules in
    steps.postfix_index_on b c.loop-at.invariant (c.is_next-else-is_next.ensures.0 c.if-is_next-2.true) c.skip-then-is_next-2.ensures c.in_ok-index.ensures c.skip-then-is_next-2-2.ensures

pub postfix-loop-at-preserved-then-is_next-2 : goal.postfix-loop-at-preserved-then-is_next-2
postfix-loop-at-preserved-then-is_next-2 t c = steps.postfix_index c.loop-at.invariant (c.is_next-else-is_next.ensures.0 c.if-is_next-2.true) c.skip-then-is_next-2.ensures c.in_ok-index.ensures c.skip-then-is_next-2-2.ensures c.in_ok-whole-2.ensures.ok c.in_ok-index-2.ensures.ok c.span-then-is_next-2.ensures

pub postfix-arguments-requires : goal.postfix-arguments-requires
postfix-arguments-requires t c =
    let b : Begun c.args.text.now c.args.tokens.now c.args.at.now c.args.levels (part production.postfix) = search rules in
    let next = steps.postfix_call_begun b c.loop-at.invariant (c.is_next-else-is_next-2.ensures.0 c.if-is_next-3.true) c.skip-then-is_next-3.ensures in
    search rules

pub postfix-loop-at-smaller : goal.postfix-loop-at-smaller
postfix-loop-at-smaller t c =
    let b : Begun c.args.text.now c.args.tokens.now c.args.at.now c.args.levels (part production.postfix) = search rules in
    steps.postfix_call_on b c.loop-at.invariant (c.is_next-else-is_next-2.ensures.0 c.if-is_next-3.true) c.skip-then-is_next-3.ensures c.in_ok-items.ensures

pub postfix-loop-at-preserved : goal.postfix-loop-at-preserved
postfix-loop-at-preserved t c = steps.postfix_call c.in_ok-items.items c.loop-at.invariant (c.is_next-else-is_next-2.ensures.0 c.if-is_next-3.true) c.skip-then-is_next-3.ensures c.in_ok-items.ensures c.in_ok-whole-3.ensures.ok c.span-then-is_next-3.ensures

pub postfix-returns-else-is_next-3 : goal.postfix-returns-else-is_next-3
postfix-returns-else-is_next-3 t c = steps.postfix_ends c.loop-at.invariant (not_so c.is_next.ensures c.if-is_next.false) (not_so c.is_next-else-is_next.ensures c.if-is_next-2.false) (not_so c.is_next-else-is_next-2.ensures c.if-is_next-3.false)

pub arguments-returns-then-is_next : goal.arguments-returns-then-is_next
arguments-returns-then-is_next t c =
    let closes : IsTrue (closes_arguments c.args.close) = search rules in
    let b : Begun c.args.text.now c.args.tokens.now c.args.at.now c.args.levels (arguments_before c.args.close) = search rules in
    steps.arguments_none c.new-items.result closes (c.is_next.ensures.0 c.if-is_next.true) c.skip.ensures c.new-items.ensures.items

pub arguments-expression-requires : goal.arguments-expression-requires
arguments-expression-requires t c =
    let closes : IsTrue (closes_arguments c.args.close) = search rules in
    let b : Begun c.args.text.now c.args.tokens.now c.args.at.now c.args.levels (arguments_before c.args.close) = search rules in
    let next = steps.arguments_begun closes b (not_so c.is_next.ensures c.if-is_next.false) in
    search rules

pub arguments-loop-alloc-init : goal.arguments-loop-alloc-init
arguments-loop-alloc-init t c =
    let closes : IsTrue (closes_arguments c.args.close) = search rules in
    let b : Begun c.args.text.now c.args.tokens.now c.args.at.now c.args.levels (arguments_before c.args.close) = search rules in
    steps.arguments_start closes (not_so c.is_next.ensures c.if-is_next.false) c.in_ok-first.ensures (sole c.new-items.ensures.items c.in_ok-push.ensures.items)

pub arguments-expression-requires-in-loop-alloc : goal.arguments-expression-requires-in-loop-alloc
arguments-expression-requires-in-loop-alloc t c =
    let closes : IsTrue (closes_arguments c.args.close) = search rules in
    let b : Begun c.args.text.now c.args.tokens.now c.args.at.now c.args.levels (arguments_before c.args.close) = search rules in
    let next = steps.arguments_next c.args.close b c.loop-alloc.invariant (c.is_next-in-loop-alloc.ensures.0 c.loop-alloc-test.true) c.skip-in-loop-alloc.ensures in
    search rules

pub arguments-loop-alloc-smaller : goal.arguments-loop-alloc-smaller
arguments-loop-alloc-smaller t c =
    let closes : IsTrue (closes_arguments c.args.close) = search rules in
    let b : Begun c.args.text.now c.args.tokens.now c.args.at.now c.args.levels (arguments_before c.args.close) = search rules in
    steps.arguments_on c.args.close b c.loop-alloc.invariant (c.is_next-in-loop-alloc.ensures.0 c.loop-alloc-test.true) c.skip-in-loop-alloc.ensures c.in_ok-item.ensures

pub arguments-loop-alloc-preserved : goal.arguments-loop-alloc-preserved
arguments-loop-alloc-preserved t c = steps.arguments_more c.args.close c.loop-alloc.invariant (c.is_next-in-loop-alloc.ensures.0 c.loop-alloc-test.true) c.skip-in-loop-alloc.ensures c.in_ok-item.ensures c.in_ok-push-2.ensures.items

pub arguments-returns : goal.arguments-returns
arguments-returns t c =
    let closes : IsTrue (closes_arguments c.args.close) = search rules in
    let b : Begun c.args.text.now c.args.tokens.now c.args.at.now c.args.levels (arguments_before c.args.close) = search rules in
    steps.arguments_whole c.args.close c.loop-alloc.items closes c.loop-alloc.invariant (not_so c.is_next-in-loop-alloc.ensures c.loop-alloc-test.false) c.skip-2.ensures

pub primary-unreachable-requires : goal.primary-unreachable-requires
primary-unreachable-requires t c =
    let b : Begun c.args.text.now c.args.tokens.now c.args.at.now c.args.levels (part production.primary) = search rules in
    steps.operand_there b (sym c.in-None.ensures)

pub primary-returns-in_ok-lexeme-in-Some-Identifier : goal.primary-returns-in_ok-lexeme-in-Some-Identifier
primary-returns-in_ok-lexeme-in-Some-Identifier t c =
    let k : kind_at c.args.tokens.now c.args.at.now ≡ Some kind.Identifier = sym c.next_kind.ensures ∙ c.in-Some-Identifier.is ∙ ap (λ y. Some y) c.in-Some-Identifier.field-0-is in
    steps.operand_lexeme kind.Identifier 0 (λ l. e.Name l) (λ t k. is.name t k) refl refl refl k c.in_ok-lexeme-in-Some-Identifier.ensures refl

pub primary-returns-in_ok-lexeme-in-Some-Number : goal.primary-returns-in_ok-lexeme-in-Some-Number
primary-returns-in_ok-lexeme-in-Some-Number t c =
    let k : kind_at c.args.tokens.now c.args.at.now ≡ Some kind.Number = sym c.next_kind.ensures ∙ c.in-Some-Number.is ∙ ap (λ y. Some y) c.in-Some-Number.field-0-is in
    steps.operand_lexeme kind.Number 1 (λ l. e.Number l) (λ t k. is.number t k) refl refl refl k c.in_ok-lexeme-in-Some-Number.ensures refl

pub primary-returns-in_ok-lexeme-in-Some-Text : goal.primary-returns-in_ok-lexeme-in-Some-Text
primary-returns-in_ok-lexeme-in-Some-Text t c =
    let k : kind_at c.args.tokens.now c.args.at.now ≡ Some kind.Text = sym c.next_kind.ensures ∙ c.in-Some-Text.is ∙ ap (λ y. Some y) c.in-Some-Text.field-0-is in
    steps.operand_lexeme kind.Text 2 (λ l. e.Text l) (λ t k. is.text t k) refl refl refl k c.in_ok-lexeme-in-Some-Text.ensures refl

pub word-path-requires : goal.word-path-requires
word-path-requires t c =
    let k : kind_at c.args.tokens.now c.args.at.now ≡ Some (kind.Keyword c.args.keyword) = search rules in
    let b : Begun c.args.text.now c.args.tokens.now c.args.at.now c.args.levels (part production.primary) = search rules in
    let next = steps.new_path b (k ∙ ap (λ y. Some (kind.Keyword y)) c.in-New.is) c.skip.ensures in
    search rules

pub word-arguments-requires : goal.word-arguments-requires
word-arguments-requires t c =
    let k : kind_at c.args.tokens.now c.args.at.now ≡ Some (kind.Keyword c.args.keyword) = search rules in
    let b : Begun c.args.text.now c.args.tokens.now c.args.at.now c.args.levels (part production.primary) = search rules in
    let next = steps.new_arguments b (k ∙ ap (λ y. Some (kind.Keyword y)) c.in-New.is) c.skip.ensures c.in_ok-class-in-New.ensures c.skip-in-New.ensures in
    search rules

pub word-unreachable-requires : goal.word-unreachable-requires
word-unreachable-requires t c =
    let k : kind_at c.args.tokens.now c.args.at.now ≡ Some (kind.Keyword c.args.keyword) = search rules in
    let b : Begun c.args.text.now c.args.tokens.now c.args.at.now c.args.levels (part production.primary) = search rules in
    steps.operand_word_known b k c.in_default.not-True c.in_default.not-False c.in_default.not-Null c.in_default.not-This c.in_default.not-Super c.in_default.not-New

pub word-returns-in-True : goal.word-returns-in-True
word-returns-in-True t c =
    let k : kind_at c.args.tokens.now c.args.at.now ≡ Some (kind.Keyword c.args.keyword) = search rules in
    steps.operand_word (kind.Keyword keyword.True) 3 (λ y. e.True y) (λ t k. is.true t k) refl refl refl (k ∙ ap (λ y. Some (kind.Keyword y)) c.in-True.is) c.skip.ensures c.span.ensures

pub word-returns-in-False : goal.word-returns-in-False
word-returns-in-False t c =
    let k : kind_at c.args.tokens.now c.args.at.now ≡ Some (kind.Keyword c.args.keyword) = search rules in
    steps.operand_word (kind.Keyword keyword.False) 4 (λ y. e.False y) (λ t k. is.false t k) refl refl refl (k ∙ ap (λ y. Some (kind.Keyword y)) c.in-False.is) c.skip.ensures c.span-in-False.ensures

pub word-returns-in-Null : goal.word-returns-in-Null
word-returns-in-Null t c =
    let k : kind_at c.args.tokens.now c.args.at.now ≡ Some (kind.Keyword c.args.keyword) = search rules in
    steps.operand_word (kind.Keyword keyword.Null) 5 (λ y. e.Null y) (λ t k. is.null t k) refl refl refl (k ∙ ap (λ y. Some (kind.Keyword y)) c.in-Null.is) c.skip.ensures c.span-in-Null.ensures

pub word-returns-in-This : goal.word-returns-in-This
word-returns-in-This t c =
    let k : kind_at c.args.tokens.now c.args.at.now ≡ Some (kind.Keyword c.args.keyword) = search rules in
    steps.operand_word (kind.Keyword keyword.This) 6 (λ y. e.This y) (λ t k. is.this t k) refl refl refl (k ∙ ap (λ y. Some (kind.Keyword y)) c.in-This.is) c.skip.ensures c.span-in-This.ensures

pub word-returns-in-Super : goal.word-returns-in-Super
word-returns-in-Super t c =
    let k : kind_at c.args.tokens.now c.args.at.now ≡ Some (kind.Keyword c.args.keyword) = search rules in
    steps.operand_word (kind.Keyword keyword.Super) 7 (λ y. e.Super y) (λ t k. is.super t k) refl refl refl (k ∙ ap (λ y. Some (kind.Keyword y)) c.in-Super.is) c.skip.ensures c.span-in-Super.ensures

pub word-returns-in_ok-items-in-New : goal.word-returns-in_ok-items-in-New
word-returns-in_ok-items-in-New t c =
    let k : kind_at c.args.tokens.now c.args.at.now ≡ Some (kind.Keyword c.args.keyword) = search rules in
    steps.new_whole c.in_ok-class-in-New.class c.in_ok-items-in-New.items (k ∙ ap (λ y. Some (kind.Keyword y)) c.in-New.is) c.skip.ensures c.in_ok-class-in-New.ensures c.skip-in-New.ensures c.in_ok-items-in-New.ensures c.span-in-New.ensures

pub bracketed-expression-requires : goal.bracketed-expression-requires
bracketed-expression-requires t c =
    let k : kind_at c.args.tokens.now c.args.at.now ≡ Some (kind.Mark c.args.mark) = search rules in
    let b : Begun c.args.text.now c.args.tokens.now c.args.at.now c.args.levels (part production.primary) = search rules in
    let next = steps.parenthesized_begun b (k ∙ ap (λ y. Some (kind.Mark y)) c.in-LeftParenthesis.is) c.skip.ensures in
    search rules

pub bracketed-arguments-requires : goal.bracketed-arguments-requires
bracketed-arguments-requires t c =
    let k : kind_at c.args.tokens.now c.args.at.now ≡ Some (kind.Mark c.args.mark) = search rules in
    let b : Begun c.args.text.now c.args.tokens.now c.args.at.now c.args.levels (part production.primary) = search rules in
    let next = steps.array_begun b (k ∙ ap (λ y. Some (kind.Mark y)) c.in-LeftBracket.is) c.skip.ensures in
    search rules

pub bracketed-unreachable-requires : goal.bracketed-unreachable-requires
bracketed-unreachable-requires t c =
    let k : kind_at c.args.tokens.now c.args.at.now ≡ Some (kind.Mark c.args.mark) = search rules in
    let b : Begun c.args.text.now c.args.tokens.now c.args.at.now c.args.levels (part production.primary) = search rules in
    steps.operand_mark_known b k c.in_default.not-LeftParenthesis c.in_default.not-LeftBracket

pub bracketed-returns-in_ok-inner-in-LeftParenthesis-2 : goal.bracketed-returns-in_ok-inner-in-LeftParenthesis-2
bracketed-returns-in_ok-inner-in-LeftParenthesis-2 t c =
    let k : kind_at c.args.tokens.now c.args.at.now ≡ Some (kind.Mark c.args.mark) = search rules in
    steps.parenthesized_whole (k ∙ ap (λ y. Some (kind.Mark y)) c.in-LeftParenthesis.is) c.skip.ensures c.in_ok-inner-in-LeftParenthesis.ensures c.skip-in-LeftParenthesis.ensures c.in_ok-inner-in-LeftParenthesis-2.ensures.ok c.span.ensures

pub bracketed-returns-in_ok-items-in-LeftBracket : goal.bracketed-returns-in_ok-items-in-LeftBracket
bracketed-returns-in_ok-items-in-LeftBracket t c =
    let k : kind_at c.args.tokens.now c.args.at.now ≡ Some (kind.Mark c.args.mark) = search rules in
    steps.array_whole c.in_ok-items-in-LeftBracket.items (k ∙ ap (λ y. Some (kind.Mark y)) c.in-LeftBracket.is) c.skip.ensures c.in_ok-items-in-LeftBracket.ensures c.span-in-LeftBracket.ensures
