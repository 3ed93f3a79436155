use Rattle.std.proofs.Common.{◌≡◌, rules, refl}
use Rattle.as3_parser.specs.declared.statements.StatementForm.TheVariants as form
use Rattle.as3_parser.specs.Productions as production
use Rattle.as3_parser.specs.Ahead.{Begun, kind_at}
use Rattle.as3_parser.specs.Forms.{part, statement_form}
use Rattle.as3_parser.proofs.Reach.{not_so}
use Rattle.as3_parser.proofs.StatementSteps as steps
use Rattle.as3_parser.proofs.statements.+statements.Goals as goal

pub block-statement-requires : goal.block-statement-requires
block-statement-requires t c =
    let b : Begun c.args.text.now c.args.tokens.now c.args.at.now c.args.levels (part production.block) = search rules in
    let next = steps.block_next b c.loop-alloc.invariant (not_so c.is_next.ensures c.loop-alloc-test.true) in
    search rules

pub block-loop-alloc-init : goal.block-loop-alloc-init
block-loop-alloc-init t c = steps.block_start c.skip.ensures c.new-items.ensures.items

pub block-loop-alloc-smaller : goal.block-loop-alloc-smaller
block-loop-alloc-smaller t c =
    let b : Begun c.args.text.now c.args.tokens.now c.args.at.now c.args.levels (part production.block) = search rules in
    steps.block_on b c.loop-alloc.invariant (not_so c.is_next.ensures c.loop-alloc-test.true) c.in_ok-item.ensures

pub block-loop-alloc-preserved : goal.block-loop-alloc-preserved
block-loop-alloc-preserved t c = steps.block_more c.loop-alloc.invariant (not_so c.is_next.ensures c.loop-alloc-test.true) c.in_ok-item.ensures c.in_ok-push.ensures.items

pub block-returns : goal.block-returns
block-returns t c = steps.block_whole c.loop-alloc.items c.loop-alloc.invariant (c.is_next.ensures.0 c.loop-alloc-test.false) c.skip-2.ensures

pub block_statement-overflow_sub-levels : goal.block_statement-overflow_sub-levels
block_statement-overflow_sub-levels t c =
    let b : Begun c.args.text.now c.args.tokens.now c.args.at.now c.args.levels (part production.statement) = search rules in
    steps.statement_levels b

pub block_statement-block-requires : goal.block_statement-block-requires
block_statement-block-requires t c =
    let b : Begun c.args.text.now c.args.tokens.now c.args.at.now c.args.levels (part production.statement) = search rules in
    let f : statement_form (kind_at c.args.tokens.now c.args.at.now) ≡ form.Block = search rules in
    let some = steps.statement_levels b in
    let next = steps.block_begun b f in
    search rules

pub block_statement-returns : goal.block_statement-returns
block_statement-returns t c =
    let b : Begun c.args.text.now c.args.tokens.now c.args.at.now c.args.levels (part production.statement) = search rules in
    let f : statement_form (kind_at c.args.tokens.now c.args.at.now) ≡ form.Block = search rules in
    steps.block_statement c.in_ok-items.items f c.in_ok-items.ensures c.span.ensures

pub if_statement-overflow_sub-levels : goal.if_statement-overflow_sub-levels
if_statement-overflow_sub-levels t c =
    let b : Begun c.args.text.now c.args.tokens.now c.args.at.now c.args.levels (part production.statement) = search rules in
    steps.statement_levels b

pub if_statement-overflow_sub-levels-2 : goal.if_statement-overflow_sub-levels-2
if_statement-overflow_sub-levels-2 t c =
    let b : Begun c.args.text.now c.args.tokens.now c.args.at.now c.args.levels (part production.statement) = search rules in
    steps.statement_levels b

pub if_statement-overflow_sub-levels-3 : goal.if_statement-overflow_sub-levels-3
if_statement-overflow_sub-levels-3 t c =
    let b : Begun c.args.text.now c.args.tokens.now c.args.at.now c.args.levels (part production.statement) = search rules in
    steps.statement_levels b

pub if_statement-condition-requires : goal.if_statement-condition-requires
if_statement-condition-requires t c =
    let b : Begun c.args.text.now c.args.tokens.now c.args.at.now c.args.levels (part production.statement) = search rules in
    let f : statement_form (kind_at c.args.tokens.now c.args.at.now) ≡ form.If = search rules in
    let some = steps.statement_levels b in
    let next = steps.if_condition b f c.skip.ensures in
    search rules

pub if_statement-nested_statement-requires : goal.if_statement-nested_statement-requires
if_statement-nested_statement-requires t c =
    let b : Begun c.args.text.now c.args.tokens.now c.args.at.now c.args.levels (part production.statement) = search rules in
    let f : statement_form (kind_at c.args.tokens.now c.args.at.now) ≡ form.If = search rules in
    let some = steps.statement_levels b in
    let next = steps.if_body b f c.skip.ensures c.in_ok-test.ensures in
    search rules

pub if_statement-returns-then-not-is_keyword_next : goal.if_statement-returns-then-not-is_keyword_next
if_statement-returns-then-not-is_keyword_next t c =
    let b : Begun c.args.text.now c.args.tokens.now c.args.at.now c.args.levels (part production.statement) = search rules in
    let f : statement_form (kind_at c.args.tokens.now c.args.at.now) ≡ form.If = search rules in
    steps.if_whole f c.skip.ensures c.in_ok-test.ensures c.in_ok-first.ensures refl (not_so c.is_keyword_next.ensures c.if-not-is_keyword_next.true) c.span.ensures

pub if_statement-nested_statement-requires-2 : goal.if_statement-nested_statement-requires-2
if_statement-nested_statement-requires-2 t c =
    let b : Begun c.args.text.now c.args.tokens.now c.args.at.now c.args.levels (part production.statement) = search rules in
    let f : statement_form (kind_at c.args.tokens.now c.args.at.now) ≡ form.If = search rules in
    let some = steps.statement_levels b in
    let next = steps.else_begun b f c.skip.ensures c.in_ok-test.ensures c.in_ok-first.ensures (c.is_keyword_next.ensures.0 c.if-not-is_keyword_next.false) c.skip-2.ensures in
    search rules

pub if_statement-returns : goal.if_statement-returns
if_statement-returns t c =
    let b : Begun c.args.text.now c.args.tokens.now c.args.at.now c.args.levels (part production.statement) = search rules in
    let f : statement_form (kind_at c.args.tokens.now c.args.at.now) ≡ form.If = search rules in
    steps.if_else_whole f c.skip.ensures c.in_ok-test.ensures c.in_ok-first.ensures refl (c.is_keyword_next.ensures.0 c.if-not-is_keyword_next.false) c.skip-2.ensures c.in_ok-second.ensures refl c.span-2.ensures

pub while_statement-overflow_sub-levels : goal.while_statement-overflow_sub-levels
while_statement-overflow_sub-levels t c =
    let b : Begun c.args.text.now c.args.tokens.now c.args.at.now c.args.levels (part production.statement) = search rules in
    steps.statement_levels b

pub while_statement-overflow_sub-levels-2 : goal.while_statement-overflow_sub-levels-2
while_statement-overflow_sub-levels-2 t c =
    let b : Begun c.args.text.now c.args.tokens.now c.args.at.now c.args.levels (part production.statement) = search rules in
    steps.statement_levels b

pub while_statement-condition-requires : goal.while_statement-condition-requires
while_statement-condition-requires t c =
    let b : Begun c.args.text.now c.args.tokens.now c.args.at.now c.args.levels (part production.statement) = search rules in
    let f : statement_form (kind_at c.args.tokens.now c.args.at.now) ≡ form.While = search rules in
    let some = steps.statement_levels b in
    let next = steps.while_condition b f c.skip.ensures in
    search rules

pub while_statement-nested_statement-requires : goal.while_statement-nested_statement-requires
while_statement-nested_statement-requires t c =
    let b : Begun c.args.text.now c.args.tokens.now c.args.at.now c.args.levels (part production.statement) = search rules in
    let f : statement_form (kind_at c.args.tokens.now c.args.at.now) ≡ form.While = search rules in
    let some = steps.statement_levels b in
    let next = steps.while_body b f c.skip.ensures c.in_ok-test.ensures in
    search rules

pub while_statement-returns : goal.while_statement-returns
while_statement-returns t c =
    let b : Begun c.args.text.now c.args.tokens.now c.args.at.now c.args.levels (part production.statement) = search rules in
    let f : statement_form (kind_at c.args.tokens.now c.args.at.now) ≡ form.While = search rules in
    steps.while_whole f c.skip.ensures c.in_ok-test.ensures c.in_ok-body.ensures refl c.span.ensures

pub do_statement-overflow_sub-levels : goal.do_statement-overflow_sub-levels
do_statement-overflow_sub-levels t c =
    let b : Begun c.args.text.now c.args.tokens.now c.args.at.now c.args.levels (part production.statement) = search rules in
    steps.statement_levels b

pub do_statement-overflow_sub-levels-2 : goal.do_statement-overflow_sub-levels-2
do_statement-overflow_sub-levels-2 t c =
    let b : Begun c.args.text.now c.args.tokens.now c.args.at.now c.args.levels (part production.statement) = search rules in
    steps.statement_levels b

pub do_statement-nested_statement-requires : goal.do_statement-nested_statement-requires
do_statement-nested_statement-requires t c =
    let b : Begun c.args.text.now c.args.tokens.now c.args.at.now c.args.levels (part production.statement) = search rules in
    let f : statement_form (kind_at c.args.tokens.now c.args.at.now) ≡ form.DoWhile = search rules in
    let some = steps.statement_levels b in
    let next = steps.do_body b f c.skip.ensures in
    search rules

pub do_statement-condition-requires : goal.do_statement-condition-requires
do_statement-condition-requires t c =
    let b : Begun c.args.text.now c.args.tokens.now c.args.at.now c.args.levels (part production.statement) = search rules in
    let f : statement_form (kind_at c.args.tokens.now c.args.at.now) ≡ form.DoWhile = search rules in
    let some = steps.statement_levels b in
    let next = steps.do_condition b f c.skip.ensures c.in_ok-body.ensures c.skip-2.ensures in
    search rules

pub do_statement-returns : goal.do_statement-returns
do_statement-returns t c =
    let b : Begun c.args.text.now c.args.tokens.now c.args.at.now c.args.levels (part production.statement) = search rules in
    let f : statement_form (kind_at c.args.tokens.now c.args.at.now) ≡ form.DoWhile = search rules in
    steps.do_whole f c.skip.ensures c.in_ok-body.ensures c.skip-2.ensures c.in_ok-test.ensures c.skip-3.ensures refl c.span.ensures

pub for_statement-overflow_sub-levels : goal.for_statement-overflow_sub-levels
for_statement-overflow_sub-levels t c =
    let b : Begun c.args.text.now c.args.tokens.now c.args.at.now c.args.levels (part production.statement) = search rules in
    steps.statement_levels b

pub for_statement-overflow_sub-levels-2 : goal.for_statement-overflow_sub-levels-2
for_statement-overflow_sub-levels-2 t c =
    let b : Begun c.args.text.now c.args.tokens.now c.args.at.now c.args.levels (part production.statement) = search rules in
    steps.statement_levels b

pub for_statement-loop_head-requires : goal.for_statement-loop_head-requires
for_statement-loop_head-requires t c =
    let b : Begun c.args.text.now c.args.tokens.now c.args.at.now c.args.levels (part production.statement) = search rules in
    let f : statement_form (kind_at c.args.tokens.now c.args.at.now) ≡ form.For = search rules in
    let some = steps.statement_levels b in
    let next = steps.for_head b f c.skip.ensures in
    search rules

pub for_statement-nested_statement-requires : goal.for_statement-nested_statement-requires
for_statement-nested_statement-requires t c =
    let b : Begun c.args.text.now c.args.tokens.now c.args.at.now c.args.levels (part production.statement) = search rules in
    let f : statement_form (kind_at c.args.tokens.now c.args.at.now) ≡ form.For = search rules in
    let some = steps.statement_levels b in
    let next = steps.for_body b f c.skip.ensures c.in_ok-head.ensures in
    search rules

pub for_statement-returns : goal.for_statement-returns
for_statement-returns t c =
    let b : Begun c.args.text.now c.args.tokens.now c.args.at.now c.args.levels (part production.statement) = search rules in
    let f : statement_form (kind_at c.args.tokens.now c.args.at.now) ≡ form.For = search rules in
    steps.for_whole f c.skip.ensures c.in_ok-head.ensures c.in_ok-body.ensures refl c.span.ensures

pub statement-returns-in-Break : goal.statement-returns-in-Break
statement-returns-in-Break t c =
    let f : statement_form (kind_at c.args.tokens.now c.args.at.now) ≡ form.Break = search rules in
    steps.break_whole f c.word_and_semicolon.ensures

pub statement-returns-in-Continue : goal.statement-returns-in-Continue
statement-returns-in-Continue t c =
    let f : statement_form (kind_at c.args.tokens.now c.args.at.now) ≡ form.Continue = search rules in
    steps.continue_whole f c.word_and_semicolon-in-Continue.ensures

pub statement-returns-in-Empty : goal.statement-returns-in-Empty
statement-returns-in-Empty t c =
    let f : statement_form (kind_at c.args.tokens.now c.args.at.now) ≡ form.Empty = search rules in
    steps.empty_whole f c.semicolon.ensures
