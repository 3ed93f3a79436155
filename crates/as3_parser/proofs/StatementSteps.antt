-- How statements are read.
use Rattle.std.proofs.Common.{◌≡◌, inl, inr, ℕ, zero, suc, ◌+◌, ◌-◌, ◌<◌, ◌≤◌, List, [], ◌∷◌, ◌++◌, length, Option, Some, None, refl, sym, ap, subst, ◌∙◌, arith, length-append, Bool, true, false, ltb, ltb-true, ltb-false}
use Rattle.std.specs.Global.{Box, Vec}
use Rattle.as3_lexer.specs.declared.keyword.Keyword.{Keyword}
use Rattle.as3_lexer.specs.declared.keyword.Keyword.TheVariants as keyword
use Rattle.as3_lexer.specs.declared.mark.Mark.{Mark}
use Rattle.as3_lexer.specs.declared.mark.Mark.TheVariants as mark
use Rattle.as3_lexer.specs.declared.token.Token.{Token}
use Rattle.as3_lexer.specs.declared.token.TokenKind.{TokenKind}
use Rattle.as3_lexer.specs.declared.token.TokenKind.TheVariants as kind
use Rattle.as3_parser.specs.declared.statements.StatementForm.{StatementForm}
use Rattle.as3_parser.specs.declared.statements.StatementForm.TheVariants as form
use Rattle.as3_parser.specs.declared.tree.Span.{Span}
use Rattle.as3_parser.specs.declared.tree.Expression.{Expression}
use Rattle.as3_parser.specs.declared.tree.Variable.{Variable}
use Rattle.as3_parser.specs.declared.tree.SimpleStatement.{SimpleStatement}
use Rattle.as3_parser.specs.declared.tree.LoopStart.{LoopStart}
use Rattle.as3_parser.specs.declared.tree.LoopStart.TheVariants as loop_start
use Rattle.as3_parser.specs.declared.tree.LoopHead.{LoopHead}
use Rattle.as3_parser.specs.declared.tree.Statement.{Statement}
use Rattle.as3_parser.specs.declared.tree.Statement.TheVariants as tree
use Rattle.as3_parser.specs.Grammar.{Symbol, Part, Close}
use Rattle.as3_parser.specs.Grammar as grammar
use Rattle.as3_parser.specs.Predicts.{next}
use Rattle.as3_parser.specs.Levels.{level}
use Rattle.as3_parser.specs.Table.{pick}
use Rattle.as3_parser.specs.Kinds.{kind_number, keyword_number, mark_number}
use Rattle.as3_parser.specs.Productions as production
use Rattle.as3_parser.specs.Here.{table}
use Rattle.as3_parser.specs.Trees.{span_of}
use Rattle.as3_parser.specs.Spans.{span_between}
use Rattle.as3_parser.specs.Statements.{IsCondition, IsLoopStart, IsOptionalExpression, IsLoopStep, IsLoopHead, TakesNoElse, IsStatement, AreStatements, IsBlock}
use Rattle.as3_parser.specs.Statements as is
use Rattle.as3_parser.specs.Ahead.{Ahead, kinds_from, kind_at, Begun, Skips, Piece, Reached, Reads}
use Rattle.as3_parser.specs.Forms.{part, declarations, statement_form, condition_symbols, loop_start_symbols, optional_expression_symbols, loop_step_symbols, ReadsExpression, ReadsVariables, ReadsSimple, ReadsStatement, ReadsBlock, ReadsCondition, ReadsLoopStart, ReadsOptionalExpression, ReadsLoopStep, ReadsLoopHead, loop_head_symbols, SkipsOne, SkipsTwo}
use Rattle.as3_parser.proofs.Ahead.{some_side, read_next, pass_close, level_low}
use Rattle.as3_parser.proofs.NamedKinds.{same_kind}
use Rattle.as3_parser.proofs.Reach.{pass, next_is, no_next, kind_is, single, two, no_more, not_closed, use_next, starts_with_token, joined, gets_on, spans}

-- ---- parts of statements

pub condition_begun : {source : List ℕ} {ts : List Token} {i j d : ℕ} → Begun source ts i d condition_symbols → Skips ts i j → Begun source ts j d (part production.expression)
condition_begun b skips = record { cut = b.cut; behind = production.sign mark.RightParenthesis ∷ b.behind; ahead = (pass b.ahead skips).ahead; room = b.room }

pub condition_whole : {source : List ℕ} {ts : List Token} {i j k m : ℕ} {x : Expression} → Skips ts i j → ReadsExpression source ts j k 0 x → Skips ts k m → ReadsCondition source ts i m x
condition_whole skips r skips2 = record {
  is = record {
    from = λ s a.
        let p = pass a skips in
        let one = r.is.from (production.sign mark.RightParenthesis ∷ s) p.ahead in
        let q = pass one.ahead skips2 in
        record { span = p.token ∷ (one.span ++ (q.token ∷ [])); piece = joined p.piece (joined one.piece q.piece); is = is.condition p.token q.token (same_kind _ (kind.Mark mark.LeftParenthesis) p.number refl) one.is (same_kind _ (kind.Mark mark.RightParenthesis) q.number refl); ahead = q.ahead };
  };
}

value_there : {s : List Symbol} (ts : List Token) (i : ℕ) → (kind_at ts i ≡ Some (kind.Mark mark.Semicolon) → ⊥) → Ahead (Part production.optional_expression ∷ production.sign mark.Semicolon ∷ s) (kinds_from ts i) → Ahead (Part production.expression ∷ production.sign mark.Semicolon ∷ s) (kinds_from ts i)
value_there ts i other a = not_closed production.optional_expression (Part production.expression ∷ []) a refl refl (λ k. refl) (λ q. other (kind_is ts i (kind.Mark mark.Semicolon) q refl))

pub value_none : {source : List ℕ} {ts : List Token} {i j : ℕ} → kind_at ts i ≡ Some (kind.Mark mark.Semicolon) → Skips ts i j → ReadsOptionalExpression source ts i j None
value_none {ts = ts} {i = i} h skips = record {
  is = record {
    from = λ s a.
        let p = pass (use_next production.optional_expression _ 1 [] a (next_is ts i (kind.Mark mark.Semicolon) h) refl refl) skips in
        record { span = p.token ∷ []; piece = p.piece; is = is.none p.token (same_kind _ (kind.Mark mark.Semicolon) p.number refl); ahead = p.ahead };
  };
}

pub value_begun : {source : List ℕ} {ts : List Token} {i d : ℕ} → Begun source ts i d optional_expression_symbols → (kind_at ts i ≡ Some (kind.Mark mark.Semicolon) → ⊥) → Begun source ts i d (part production.expression)
value_begun {ts = ts} {i = i} b other = record { cut = b.cut; behind = production.sign mark.Semicolon ∷ b.behind; ahead = value_there ts i other b.ahead; room = b.room }

pub value_whole : {source : List ℕ} {ts : List Token} {i j k : ℕ} {x : Expression} → (kind_at ts i ≡ Some (kind.Mark mark.Semicolon) → ⊥) → ReadsExpression source ts i j 0 x → Skips ts j k → ReadsOptionalExpression source ts i k (Some x)
value_whole {ts = ts} {i = i} other r skips = record {
  is = record {
    from = λ s a.
        let one = r.is.from (production.sign mark.Semicolon ∷ s) (value_there ts i other a) in
        let p = pass one.ahead skips in
        record { span = one.span ++ (p.token ∷ []); piece = joined one.piece p.piece; is = is.some p.token one.is (same_kind _ (kind.Mark mark.Semicolon) p.number refl); ahead = p.ahead };
  };
}

step_there : {s : List Symbol} (ts : List Token) (i : ℕ) → (kind_at ts i ≡ Some (kind.Mark mark.RightParenthesis) → ⊥) → Ahead (Part production.optional_simple ∷ production.sign mark.RightParenthesis ∷ s) (kinds_from ts i) → Ahead (Part production.simple ∷ production.sign mark.RightParenthesis ∷ s) (kinds_from ts i)
step_there ts i other a = not_closed production.optional_simple (Part production.simple ∷ []) a refl refl (λ k. refl) (λ q. other (kind_is ts i (kind.Mark mark.RightParenthesis) q refl))

pub step_none : {source : List ℕ} {ts : List Token} {i j : ℕ} → kind_at ts i ≡ Some (kind.Mark mark.RightParenthesis) → Skips ts i j → ReadsLoopStep source ts i j None
step_none {ts = ts} {i = i} h skips = record {
  is = record {
    from = λ s a.
        let p = pass (use_next production.optional_simple _ 1 [] a (next_is ts i (kind.Mark mark.RightParenthesis) h) refl refl) skips in
        record { span = p.token ∷ []; piece = p.piece; is = is.none p.token (same_kind _ (kind.Mark mark.RightParenthesis) p.number refl); ahead = p.ahead };
  };
}

pub step_begun : {source : List ℕ} {ts : List Token} {i d : ℕ} → Begun source ts i d loop_step_symbols → (kind_at ts i ≡ Some (kind.Mark mark.RightParenthesis) → ⊥) → Begun source ts i d (part production.simple)
step_begun {ts = ts} {i = i} b other = record { cut = b.cut; behind = production.sign mark.RightParenthesis ∷ b.behind; ahead = step_there ts i other b.ahead; room = b.room }

pub step_whole : {source : List ℕ} {ts : List Token} {i j k : ℕ} {x : SimpleStatement} → (kind_at ts i ≡ Some (kind.Mark mark.RightParenthesis) → ⊥) → ReadsSimple source ts i j x → Skips ts j k → ReadsLoopStep source ts i k (Some x)
step_whole {ts = ts} {i = i} other r skips = record {
  is = record {
    from = λ s a.
        let one = r.is.from (production.sign mark.RightParenthesis ∷ s) (step_there ts i other a) in
        let p = pass one.ahead skips in
        record { span = one.span ++ (p.token ∷ []); piece = joined one.piece p.piece; is = is.some p.token one.is (same_kind _ (kind.Mark mark.RightParenthesis) p.number refl); ahead = p.ahead };
  };
}

start_there : {s : List Symbol} (ts : List Token) (i : ℕ) → (kind_at ts i ≡ Some (kind.Mark mark.Semicolon) → ⊥) → Ahead (Part production.optional_start ∷ production.sign mark.Semicolon ∷ s) (kinds_from ts i) → Ahead (Part production.loop_start ∷ production.sign mark.Semicolon ∷ s) (kinds_from ts i)
start_there ts i other a = not_closed production.optional_start (Part production.loop_start ∷ []) a refl refl (λ k. refl) (λ q. other (kind_is ts i (kind.Mark mark.Semicolon) q refl))

pub start_none : {source : List ℕ} {ts : List Token} {i j : ℕ} → kind_at ts i ≡ Some (kind.Mark mark.Semicolon) → Skips ts i j → ReadsLoopStart source ts i j None
start_none {ts = ts} {i = i} h skips = record {
  is = record {
    from = λ s a.
        let p = pass (use_next production.optional_start _ 1 [] a (next_is ts i (kind.Mark mark.Semicolon) h) refl refl) skips in
        record { span = p.token ∷ []; piece = p.piece; is = is.none p.token (same_kind _ (kind.Mark mark.Semicolon) p.number refl); ahead = p.ahead };
  };
}

start_variables : {s : List Symbol} (ts : List Token) (i : ℕ) → (kind_at ts i ≡ Some (kind.Mark mark.Semicolon) → ⊥) → kind_at ts i ≡ Some (kind.Keyword keyword.Var) → Ahead (Part production.optional_start ∷ production.sign mark.Semicolon ∷ s) (kinds_from ts i) → Ahead (production.word keyword.Var ∷ Part production.declaration ∷ Part production.more_declarations ∷ production.sign mark.Semicolon ∷ s) (kinds_from ts i)
start_variables ts i other h a = use_next production.loop_start _ 0 (production.word keyword.Var ∷ Part production.declaration ∷ Part production.more_declarations ∷ []) (start_there ts i other a) (next_is ts i (kind.Keyword keyword.Var) h) refl refl

start_simple : {s : List Symbol} (ts : List Token) (i : ℕ) → (kind_at ts i ≡ Some (kind.Mark mark.Semicolon) → ⊥) → (kind_at ts i ≡ Some (kind.Keyword keyword.Var) → ⊥) → Ahead (Part production.optional_start ∷ production.sign mark.Semicolon ∷ s) (kinds_from ts i) → Ahead (Part production.simple ∷ production.sign mark.Semicolon ∷ s) (kinds_from ts i)
start_simple ts i other no_var a = elim (two production.loop_start (production.word keyword.Var ∷ Part production.declaration ∷ Part production.more_declarations ∷ []) (Part production.simple ∷ []) (start_there ts i other a) refl refl (λ k. refl)) [ inl h ↦ absurd (no_var (kind_is ts i (kind.Keyword keyword.Var) (starts_with_token h) refl)) | inr h ↦ h ]

pub start_variables_begun : {source : List ℕ} {ts : List Token} {i j d : ℕ} → Begun source ts i d loop_start_symbols → (kind_at ts i ≡ Some (kind.Mark mark.Semicolon) → ⊥) → kind_at ts i ≡ Some (kind.Keyword keyword.Var) → Skips ts i j → Begun source ts j d declarations
start_variables_begun {ts = ts} {i = i} b other h skips = record { cut = b.cut; behind = production.sign mark.Semicolon ∷ b.behind; ahead = (pass (start_variables ts i other h b.ahead) skips).ahead; room = b.room }

pub start_variables_whole : {source : List ℕ} {ts : List Token} {i j k m : ℕ} (v : Vec Variable) {p : Span} → (kind_at ts i ≡ Some (kind.Mark mark.Semicolon) → ⊥) → kind_at ts i ≡ Some (kind.Keyword keyword.Var) → Skips ts i j → ReadsVariables source ts j k v → p ≡ span_between ts i k → Skips ts k m → ReadsLoopStart source ts i m (Some (loop_start.Variables p v))
start_variables_whole {source = source} {ts = ts} {i = i} v other h skips r sp skips2 = record {
  is = record {
    from = λ s a.
        let p1 = pass (start_variables ts i other h a) skips in
        let one = r.is.from (production.sign mark.Semicolon ∷ s) p1.ahead in
        let p2 = pass one.ahead skips2 in
        let w = p1.token ∷ (one.span ++ (p2.token ∷ [])) in
        let same = spans (joined p1.piece one.piece) (omega arith) sp in
        record { span = w; piece = joined p1.piece (joined one.piece p2.piece); is = subst (λ y. IsLoopStart source (Some (loop_start.Variables y v)) w) (sym same) (is.variables v p1.token p2.token (same_kind _ (kind.Keyword keyword.Var) p1.number refl) one.is (same_kind _ (kind.Mark mark.Semicolon) p2.number refl)); ahead = p2.ahead };
  };
}

pub start_simple_begun : {source : List ℕ} {ts : List Token} {i d : ℕ} → Begun source ts i d loop_start_symbols → (kind_at ts i ≡ Some (kind.Mark mark.Semicolon) → ⊥) → (kind_at ts i ≡ Some (kind.Keyword keyword.Var) → ⊥) → Begun source ts i d (part production.simple)
start_simple_begun {ts = ts} {i = i} b other no_var = record { cut = b.cut; behind = production.sign mark.Semicolon ∷ b.behind; ahead = start_simple ts i other no_var b.ahead; room = b.room }

pub start_simple_whole : {source : List ℕ} {ts : List Token} {i j k : ℕ} {x : SimpleStatement} → (kind_at ts i ≡ Some (kind.Mark mark.Semicolon) → ⊥) → (kind_at ts i ≡ Some (kind.Keyword keyword.Var) → ⊥) → ReadsSimple source ts i j x → Skips ts j k → ReadsLoopStart source ts i k (Some (loop_start.Simple x))
start_simple_whole {ts = ts} {i = i} other no_var r skips = record {
  is = record {
    from = λ s a.
        let one = r.is.from (production.sign mark.Semicolon ∷ s) (start_simple ts i other no_var a) in
        let p = pass one.ahead skips in
        record { span = one.span ++ (p.token ∷ []); piece = joined one.piece p.piece; is = is.simple p.token one.is (same_kind _ (kind.Mark mark.Semicolon) p.number refl); ahead = p.ahead };
  };
}

-- ---- the form of a statement

abbrev next_of : Option TokenKind → ℕ
next_of None = 0
next_of (Some k) = suc (kind_number k)

abbrev form_side : StatementForm → ℕ
form_side form.Block = 0
form_side form.Variables = 1
form_side form.If = 2
form_side form.While = 3
form_side form.DoWhile = 4
form_side form.For = 5
form_side form.Break = 6
form_side form.Continue = 7
form_side form.Return = 8
form_side form.Empty = 9
form_side form.Simple = 10

side_keyword : (k : Keyword) (i : ℕ) → pick table production.statement (suc (keyword_number k)) ≡ Some i → i ≡ form_side (statement_form (Some (kind.Keyword k)))
side_keyword keyword.Var i h = cc
side_keyword keyword.If i h = cc
side_keyword keyword.While i h = cc
side_keyword keyword.Do i h = cc
side_keyword keyword.For i h = cc
side_keyword keyword.Break i h = cc
side_keyword keyword.Continue i h = cc
side_keyword keyword.Return i h = cc
side_keyword k i h = cc

side_mark : (m : Mark) (i : ℕ) → pick table production.statement (suc (mark_number m)) ≡ Some i → i ≡ form_side (statement_form (Some (kind.Mark m)))
side_mark mark.LeftBrace i h = cc
side_mark mark.Semicolon i h = cc
side_mark m i h = cc

side_of : (k : Option TokenKind) (i : ℕ) → pick table production.statement (next_of k) ≡ Some i → i ≡ form_side (statement_form k)
side_of None i h = cc
side_of (Some kind.Identifier) i h = cc
side_of (Some (kind.Keyword k)) i h = side_keyword k i h
side_of (Some kind.Number) i h = cc
side_of (Some kind.Text) i h = cc
side_of (Some (kind.Mark m)) i h = side_mark m i h

next_at : (ts : List Token) (i : ℕ) (k : Option TokenKind) → kind_at ts i ≡ k → next (kinds_from ts i) ≡ next_of k
next_at ts i None h = no_next ts i h
next_at ts i (Some k) h = next_is ts i k h

chosen : {s : List Symbol} (ts : List Token) (i : ℕ) (f : StatementForm) (r : List Symbol) → Ahead (Part production.statement ∷ s) (kinds_from ts i) → statement_form (kind_at ts i) ≡ f → production.the_rules production.statement (form_side f) ≡ Some r → Ahead (r ++ s) (kinds_from ts i)
chosen {s = s} ts i f r a h rule =
    let q = some_side production.statement a in
    let n = side_of (kind_at ts i) q.number (ap (λ y. pick table production.statement y) (sym (next_at ts i (kind_at ts i) refl)) ∙ q.picked) ∙ ap (λ y. form_side y) h in
    let right_is : production.the_rules production.statement (form_side f) ≡ Some q.right = subst (λ y. production.the_rules production.statement y ≡ Some q.right) n q.is in
    let same : q.right ≡ r = cc in
    subst (λ y. Ahead (y ++ s) (kinds_from ts i)) same q.ahead

-- a statement begins below level 64
token_low : {s : List Symbol} {w : List ℕ} {t : ℕ} → Ahead (grammar.Token t ∷ s) w → level s < 65
token_low {s = s} a = let n = read_next a in go (ltb (level s) 65) refl n.low where
  go : (b : Bool) → ltb (level s) 65 ≡ b → (65 ≤ level s → ⊥) → level s < 65
  go true e h = ltb-true (level s) 65 e
  go false e h = absurd (h (ltb-false (level s) 65 e))

statement_low : {s : List Symbol} {w : List ℕ} → Ahead (Part production.statement ∷ s) w → suc (level s) < 65
statement_low {s = s} {w = w} a = let q = some_side production.statement a in go q.number q.right q.is q.ahead where
  go : (n : ℕ) (r : List Symbol) → production.the_rules production.statement n ≡ Some r → Ahead (r ++ s) w → suc (level s) < 65
  go zero r is b = let same : r ≡ Part production.block ∷ Close ∷ [] = cc in let c : Ahead (Part production.block ∷ Close ∷ s) w = subst (λ y. Ahead (y ++ s) w) same b in level_low production.block c (λ q. cc)
  go (suc zero) r is b = let same : r ≡ Part production.variables ∷ Close ∷ [] = cc in let c : Ahead (Part production.variables ∷ Close ∷ s) w = subst (λ y. Ahead (y ++ s) w) same b in level_low production.variables c (λ q. cc)
  go (suc (suc zero)) r is b = let same : r ≡ production.word keyword.If ∷ production.sign mark.LeftParenthesis ∷ Part production.expression ∷ production.sign mark.RightParenthesis ∷ Part production.statement ∷ Part production.else_branch ∷ Close ∷ [] = cc in let c : Ahead (production.word keyword.If ∷ production.sign mark.LeftParenthesis ∷ Part production.expression ∷ production.sign mark.RightParenthesis ∷ Part production.statement ∷ Part production.else_branch ∷ Close ∷ s) w = subst (λ y. Ahead (y ++ s) w) same b in token_low c
  go (suc (suc (suc zero))) r is b = let same : r ≡ production.word keyword.While ∷ production.sign mark.LeftParenthesis ∷ Part production.expression ∷ production.sign mark.RightParenthesis ∷ Part production.statement ∷ Close ∷ [] = cc in let c : Ahead (production.word keyword.While ∷ production.sign mark.LeftParenthesis ∷ Part production.expression ∷ production.sign mark.RightParenthesis ∷ Part production.statement ∷ Close ∷ s) w = subst (λ y. Ahead (y ++ s) w) same b in token_low c
  go (suc (suc (suc (suc zero)))) r is b = let same : r ≡ production.word keyword.Do ∷ Part production.statement ∷ production.word keyword.While ∷ production.sign mark.LeftParenthesis ∷ Part production.expression ∷ production.sign mark.RightParenthesis ∷ production.sign mark.Semicolon ∷ Close ∷ [] = cc in let c : Ahead (production.word keyword.Do ∷ Part production.statement ∷ production.word keyword.While ∷ production.sign mark.LeftParenthesis ∷ Part production.expression ∷ production.sign mark.RightParenthesis ∷ production.sign mark.Semicolon ∷ Close ∷ s) w = subst (λ y. Ahead (y ++ s) w) same b in token_low c
  go (suc (suc (suc (suc (suc zero))))) r is b = let same : r ≡ production.word keyword.For ∷ production.sign mark.LeftParenthesis ∷ Part production.optional_start ∷ production.sign mark.Semicolon ∷ Part production.optional_expression ∷ production.sign mark.Semicolon ∷ Part production.optional_simple ∷ production.sign mark.RightParenthesis ∷ Part production.statement ∷ Close ∷ [] = cc in let c : Ahead (production.word keyword.For ∷ production.sign mark.LeftParenthesis ∷ Part production.optional_start ∷ production.sign mark.Semicolon ∷ Part production.optional_expression ∷ production.sign mark.Semicolon ∷ Part production.optional_simple ∷ production.sign mark.RightParenthesis ∷ Part production.statement ∷ Close ∷ s) w = subst (λ y. Ahead (y ++ s) w) same b in token_low c
  go (suc (suc (suc (suc (suc (suc zero)))))) r is b = let same : r ≡ production.word keyword.Break ∷ production.sign mark.Semicolon ∷ Close ∷ [] = cc in let c : Ahead (production.word keyword.Break ∷ production.sign mark.Semicolon ∷ Close ∷ s) w = subst (λ y. Ahead (y ++ s) w) same b in token_low c
  go (suc (suc (suc (suc (suc (suc (suc zero))))))) r is b = let same : r ≡ production.word keyword.Continue ∷ production.sign mark.Semicolon ∷ Close ∷ [] = cc in let c : Ahead (production.word keyword.Continue ∷ production.sign mark.Semicolon ∷ Close ∷ s) w = subst (λ y. Ahead (y ++ s) w) same b in token_low c
  go (suc (suc (suc (suc (suc (suc (suc (suc zero)))))))) r is b = let same : r ≡ production.word keyword.Return ∷ Part production.optional_expression ∷ production.sign mark.Semicolon ∷ Close ∷ [] = cc in let c : Ahead (production.word keyword.Return ∷ Part production.optional_expression ∷ production.sign mark.Semicolon ∷ Close ∷ s) w = subst (λ y. Ahead (y ++ s) w) same b in token_low c
  go (suc (suc (suc (suc (suc (suc (suc (suc (suc zero))))))))) r is b = let same : r ≡ production.sign mark.Semicolon ∷ Close ∷ [] = cc in let c : Ahead (production.sign mark.Semicolon ∷ Close ∷ s) w = subst (λ y. Ahead (y ++ s) w) same b in token_low c
  go (suc (suc (suc (suc (suc (suc (suc (suc (suc (suc zero)))))))))) r is b = let same : r ≡ Part production.simple ∷ production.sign mark.Semicolon ∷ Close ∷ [] = cc in let c : Ahead (Part production.simple ∷ production.sign mark.Semicolon ∷ Close ∷ s) w = subst (λ y. Ahead (y ++ s) w) same b in level_low production.simple c (λ q. cc)
  go (suc (suc (suc (suc (suc (suc (suc (suc (suc (suc (suc n))))))))))) r is b = absurd (cc)

pub statement_levels : {source : List ℕ} {ts : List Token} {i d : ℕ} → Begun source ts i d (part production.statement) → 1 ≤ d
statement_levels b = let low = statement_low b.ahead in let room : 65 ≤ suc (level b.behind + _) = b.room in omega (arith, low, room)

inner : (l d : ℕ) → 1 ≤ d → 65 ≤ suc (l + d) → 65 ≤ suc (suc l + (d - 1))
inner l d some room = omega (arith, some, room)

pub statement_some : {source : List ℕ} {x : Statement} {w : List Token} → IsStatement source x w → 0 < length w
statement_some (is.block v (is.braces l r a d b)) = omega arith
statement_some (is.variables v t o a d b) = omega arith
statement_some (is.if a t k c d) = omega arith
statement_some (is.if_else a b t o k c d n e f) = omega arith
statement_some (is.while a t k c d) = omega arith
statement_some (is.do_while a t o u k d e c f) = omega arith
statement_some (is.for a t k c d) = omega arith
statement_some (is.break t o k d) = omega arith
statement_some (is.continue t o k d) = omega arith
statement_some (is.return t k d) = omega arith
statement_some (is.empty t k) = omega arith
statement_some (is.simple {w = w} t d k) = let h = length-append w (t ∷ []) in omega arith

-- what was read has the span of its tokens
spanned : {source : List ℕ} {ts : List Token} {i j : ℕ} {y : Span} {w : List Token} {left : List Symbol} (f : Span → Statement) → Piece ts i j w → IsStatement source (f (span_of w)) w → y ≡ span_between ts i j → Ahead left (kinds_from ts j) → Reached ts i j left (IsStatement source (f y))
spanned {source = source} {w = w} f piece d y_is ahead = record { span = w; piece = piece; is = subst (λ z. IsStatement source (f z) w) (sym (spans piece (statement_some d) y_is)) d; ahead = ahead }

inside : {source : List ℕ} (b : Box Statement) {x : Statement} {w : List Token} → b.value ≡ x → IsStatement source x w → IsStatement source b.value w
inside {source = source} b {w = w} h d = subst (λ y. IsStatement source y w) (sym h) d

-- ---- blocks

pub record OpenBlock (source : List ℕ) (xs : List Statement) (w : List Token) : Type 0 where
  pub left : Token
  pub inner_tokens : List Token
  pub is : w ≡ left ∷ inner_tokens
  pub brace : left.kind ≡ kind.Mark mark.LeftBrace
  pub are : AreStatements source xs inner_tokens

abbrev pub behind_statements : List Symbol
behind_statements = Part production.statements ∷ production.sign mark.RightBrace ∷ []

opened : {s : List Symbol} {w : List ℕ} → Ahead (Part production.block ∷ s) w → Ahead (production.sign mark.LeftBrace ∷ Part production.statements ∷ production.sign mark.RightBrace ∷ s) w
opened a = single production.block (production.sign mark.LeftBrace ∷ Part production.statements ∷ production.sign mark.RightBrace ∷ []) a refl (λ k. refl)

another : {s : List Symbol} (ts : List Token) (i : ℕ) → (kind_at ts i ≡ Some (kind.Mark mark.RightBrace) → ⊥) → Ahead (Part production.statements ∷ production.sign mark.RightBrace ∷ s) (kinds_from ts i) → Ahead (Part production.statement ∷ Part production.statements ∷ production.sign mark.RightBrace ∷ s) (kinds_from ts i)
another ts i other a = not_closed production.statements (Part production.statement ∷ Part production.statements ∷ []) a refl refl (λ k. refl) (λ q. other (kind_is ts i (kind.Mark mark.RightBrace) q refl))

pub block_start : {source : List ℕ} {ts : List Token} {i j : ℕ} {xs : List Statement} → Skips ts i j → xs ≡ [] → Reads ts i j (part production.block) behind_statements (OpenBlock source xs)
block_start {source = source} skips none = record {
  from = λ s a.
      let p = pass (opened a) skips in
      record { span = p.token ∷ []; piece = p.piece; is = record { left = p.token; inner_tokens = []; is = refl; brace = same_kind _ (kind.Mark mark.LeftBrace) p.number refl; are = subst (λ y. AreStatements source y []) (sym none) is.none }; ahead = p.ahead };
}

pub block_next : {source : List ℕ} {ts : List Token} {i j d : ℕ} {P : List Token → Type 0} → Begun source ts i d (part production.block) → Reads ts i j (part production.block) behind_statements P → (kind_at ts j ≡ Some (kind.Mark mark.RightBrace) → ⊥) → Begun source ts j d (part production.statement)
block_next {ts = ts} {j = j} b r other = record { cut = b.cut; behind = Part production.statements ∷ production.sign mark.RightBrace ∷ b.behind; ahead = another ts j other (r.from b.behind b.ahead).ahead; room = b.room }

pub block_more : {source : List ℕ} {ts : List Token} {i j k : ℕ} {x : Statement} {xs ys : List Statement} → Reads ts i j (part production.block) behind_statements (OpenBlock source xs) → (kind_at ts j ≡ Some (kind.Mark mark.RightBrace) → ⊥) → ReadsStatement source ts j k x → ys ≡ xs ++ x ∷ [] → Reads ts i k (part production.block) behind_statements (OpenBlock source ys)
block_more {source = source} {ts = ts} {j = j} r other q same = record {
  from = λ s a.
      let one = r.from s a in
      let next_ = q.is.from (Part production.statements ∷ production.sign mark.RightBrace ∷ s) (another ts j other one.ahead) in
      record {
        span = one.span ++ next_.span;
        piece = joined one.piece next_.piece;
        is = record { left = one.is.left; inner_tokens = one.is.inner_tokens ++ next_.span; is = ap (λ y. y ++ next_.span) one.is.is; brace = one.is.brace; are = subst (λ y. AreStatements source y (one.is.inner_tokens ++ next_.span)) (sym same) (is.more one.is.are next_.is) };
        ahead = next_.ahead;
      };
}

pub block_on : {source : List ℕ} {ts : List Token} {i j k d : ℕ} {x : Statement} {P : List Token → Type 0} → Begun source ts i d (part production.block) → Reads ts i j (part production.block) behind_statements P → (kind_at ts j ≡ Some (kind.Mark mark.RightBrace) → ⊥) → ReadsStatement source ts j k x → length ts - k < length ts - j
block_on {ts = ts} {j = j} b r other q =
    let next_ = q.is.from (Part production.statements ∷ production.sign mark.RightBrace ∷ b.behind) (another ts j other (r.from b.behind b.ahead).ahead) in
    gets_on next_.piece (statement_some next_.is)

pub block_whole : {source : List ℕ} {ts : List Token} {i j k : ℕ} (v : Vec Statement) → Reads ts i j (part production.block) behind_statements (OpenBlock source v.items) → kind_at ts j ≡ Some (kind.Mark mark.RightBrace) → Skips ts j k → ReadsBlock source ts i k v
block_whole {source = source} {ts = ts} {j = j} v r h skips = record {
  is = record {
    from = λ s a.
        let one = r.from s a in
        let b = use_next production.statements _ 1 [] one.ahead (next_is ts j (kind.Mark mark.RightBrace) h) refl refl in
        let p = pass b skips in
        let right_ = same_kind _ (kind.Mark mark.RightBrace) p.number refl in
        record { span = one.span ++ (p.token ∷ []); piece = joined one.piece p.piece; is = subst (λ y. IsBlock source v.items (y ++ (p.token ∷ []))) (sym one.is.is) (is.braces one.is.left p.token one.is.brace one.is.are right_); ahead = p.ahead };
  };
}

pub block_begun : {source : List ℕ} {ts : List Token} {i d : ℕ} → Begun source ts i d (part production.statement) → statement_form (kind_at ts i) ≡ form.Block → Begun source ts i (d - 1) (part production.block)
block_begun {ts = ts} {i = i} {d = d} b f = record { cut = b.cut; behind = Close ∷ b.behind; ahead = chosen ts i form.Block (Part production.block ∷ Close ∷ []) b.ahead f refl; room = inner (level b.behind) d (statement_levels b) b.room }

pub block_statement : {source : List ℕ} {ts : List Token} {i j : ℕ} (v : Vec Statement) {p : Span} → statement_form (kind_at ts i) ≡ form.Block → ReadsBlock source ts i j v → p ≡ span_between ts i j → ReadsStatement source ts i j (tree.Block p v)
block_statement {ts = ts} {i = i} v {p = p} f r sp = record {
  closed = λ h. is.block p v;
  is = record {
    from = λ s a.
        let one = r.is.from (Close ∷ s) (chosen ts i form.Block (Part production.block ∷ Close ∷ []) a f refl) in
        spanned (λ y. tree.Block y v) one.piece (is.block v one.is) sp (pass_close one.ahead);
  };
}

-- ---- the other forms

declared : {s : List Symbol} {w : List ℕ} → Ahead (Part production.variables ∷ s) w → Ahead (production.word keyword.Var ∷ Part production.declaration ∷ Part production.more_declarations ∷ production.sign mark.Semicolon ∷ s) w
declared a = single production.variables (production.word keyword.Var ∷ Part production.declaration ∷ Part production.more_declarations ∷ production.sign mark.Semicolon ∷ []) a refl (λ k. refl)

pub variables_begun : {source : List ℕ} {ts : List Token} {i j d : ℕ} → Begun source ts i d (part production.statement) → statement_form (kind_at ts i) ≡ form.Variables → Skips ts i j → Begun source ts j (d - 1) declarations
variables_begun {ts = ts} {i = i} {d = d} b f skips = record { cut = b.cut; behind = production.sign mark.Semicolon ∷ Close ∷ b.behind; ahead = (pass (declared (chosen ts i form.Variables (Part production.variables ∷ Close ∷ []) b.ahead f refl)) skips).ahead; room = inner (level b.behind) d (statement_levels b) b.room }

pub variables_statement : {source : List ℕ} {ts : List Token} {i j k m : ℕ} (v : Vec Variable) {p : Span} → statement_form (kind_at ts i) ≡ form.Variables → Skips ts i j → ReadsVariables source ts j k v → Skips ts k m → p ≡ span_between ts i m → ReadsStatement source ts i m (tree.Variables p v)
variables_statement {ts = ts} {i = i} v {p = p} f skips r skips2 sp = record {
  closed = λ h. is.variables p v;
  is = record {
    from = λ s a.
        let p1 = pass (declared (chosen ts i form.Variables (Part production.variables ∷ Close ∷ []) a f refl)) skips in
        let one = r.is.from (production.sign mark.Semicolon ∷ Close ∷ s) p1.ahead in
        let p2 = pass one.ahead skips2 in
        spanned (λ y. tree.Variables y v) (joined p1.piece (joined one.piece p2.piece)) (is.variables v p1.token p2.token (same_kind _ (kind.Keyword keyword.Var) p1.number refl) one.is (same_kind _ (kind.Mark mark.Semicolon) p2.number refl)) sp (pass_close p2.ahead);
  };
}

pub if_condition : {source : List ℕ} {ts : List Token} {i j d : ℕ} → Begun source ts i d (part production.statement) → statement_form (kind_at ts i) ≡ form.If → Skips ts i j → Begun source ts j (d - 1) condition_symbols
if_condition {ts = ts} {i = i} {d = d} b f skips = record { cut = b.cut; behind = Part production.statement ∷ Part production.else_branch ∷ Close ∷ b.behind; ahead = (pass (chosen ts i form.If (production.word keyword.If ∷ production.sign mark.LeftParenthesis ∷ Part production.expression ∷ production.sign mark.RightParenthesis ∷ Part production.statement ∷ Part production.else_branch ∷ Close ∷ []) b.ahead f refl) skips).ahead; room = inner (level b.behind) d (statement_levels b) b.room }

pub if_body : {source : List ℕ} {ts : List Token} {i j k d : ℕ} {x : Expression} → Begun source ts i d (part production.statement) → statement_form (kind_at ts i) ≡ form.If → Skips ts i j → ReadsCondition source ts j k x → Begun source ts k (d - 1) (part production.statement)
if_body {ts = ts} {i = i} {d = d} b f skips r =
    let one = r.is.from (Part production.statement ∷ Part production.else_branch ∷ Close ∷ b.behind) (pass (chosen ts i form.If (production.word keyword.If ∷ production.sign mark.LeftParenthesis ∷ Part production.expression ∷ production.sign mark.RightParenthesis ∷ Part production.statement ∷ Part production.else_branch ∷ Close ∷ []) b.ahead f refl) skips).ahead in
    record { cut = b.cut; behind = Part production.else_branch ∷ Close ∷ b.behind; ahead = one.ahead; room = inner (level b.behind) d (statement_levels b) b.room }

pub while_condition : {source : List ℕ} {ts : List Token} {i j d : ℕ} → Begun source ts i d (part production.statement) → statement_form (kind_at ts i) ≡ form.While → Skips ts i j → Begun source ts j (d - 1) condition_symbols
while_condition {ts = ts} {i = i} {d = d} b f skips = record { cut = b.cut; behind = Part production.statement ∷ Close ∷ b.behind; ahead = (pass (chosen ts i form.While (production.word keyword.While ∷ production.sign mark.LeftParenthesis ∷ Part production.expression ∷ production.sign mark.RightParenthesis ∷ Part production.statement ∷ Close ∷ []) b.ahead f refl) skips).ahead; room = inner (level b.behind) d (statement_levels b) b.room }

pub while_body : {source : List ℕ} {ts : List Token} {i j k d : ℕ} {x : Expression} → Begun source ts i d (part production.statement) → statement_form (kind_at ts i) ≡ form.While → Skips ts i j → ReadsCondition source ts j k x → Begun source ts k (d - 1) (part production.statement)
while_body {ts = ts} {i = i} {d = d} b f skips r =
    let one = r.is.from (Part production.statement ∷ Close ∷ b.behind) (pass (chosen ts i form.While (production.word keyword.While ∷ production.sign mark.LeftParenthesis ∷ Part production.expression ∷ production.sign mark.RightParenthesis ∷ Part production.statement ∷ Close ∷ []) b.ahead f refl) skips).ahead in
    record { cut = b.cut; behind = Close ∷ b.behind; ahead = one.ahead; room = inner (level b.behind) d (statement_levels b) b.room }

pub while_whole : {source : List ℕ} {ts : List Token} {i j k m : ℕ} {x : Expression} {y : Statement} {g : Box Statement} {p : Span} → statement_form (kind_at ts i) ≡ form.While → Skips ts i j → ReadsCondition source ts j k x → ReadsStatement source ts k m y → g.value ≡ y → p ≡ span_between ts i m → ReadsStatement source ts i m (tree.While p x g)
while_whole {ts = ts} {i = i} {x = x} {g = g} {p = p} f skips r q gy sp = record {
  closed = λ h. is.while p x g (subst (λ z. TakesNoElse z) (sym gy) (q.closed h));
  is = record {
    from = λ s a.
        let p1 = pass (chosen ts i form.While (production.word keyword.While ∷ production.sign mark.LeftParenthesis ∷ Part production.expression ∷ production.sign mark.RightParenthesis ∷ Part production.statement ∷ Close ∷ []) a f refl) skips in
        let one = r.is.from (Part production.statement ∷ Close ∷ s) p1.ahead in
        let body = q.is.from (Close ∷ s) one.ahead in
        spanned (λ z. tree.While z x g) (joined p1.piece (joined one.piece body.piece)) (is.while g p1.token (same_kind _ (kind.Keyword keyword.While) p1.number refl) one.is (inside g gy body.is)) sp (pass_close body.ahead);
  };
}

no_else : {s : List Symbol} (ts : List Token) (i : ℕ) → Ahead (Part production.else_branch ∷ s) (kinds_from ts i) → (kind_at ts i ≡ Some (kind.Keyword keyword.Else) → ⊥) → Ahead s (kinds_from ts i)
no_else ts i a other = no_more production.else_branch _ (Part production.statement ∷ []) a refl refl (λ k. refl) (λ q. other (kind_is ts i (kind.Keyword keyword.Else) q refl))

with_else : {s : List Symbol} (ts : List Token) (i : ℕ) → Ahead (Part production.else_branch ∷ s) (kinds_from ts i) → kind_at ts i ≡ Some (kind.Keyword keyword.Else) → Ahead (production.word keyword.Else ∷ Part production.statement ∷ s) (kinds_from ts i)
with_else ts i a h = use_next production.else_branch _ 0 (production.word keyword.Else ∷ Part production.statement ∷ []) a (next_is ts i (kind.Keyword keyword.Else) h) refl refl

pub if_whole : {source : List ℕ} {ts : List Token} {i j k m : ℕ} {x : Expression} {y : Statement} {g : Box Statement} {p : Span} → statement_form (kind_at ts i) ≡ form.If → Skips ts i j → ReadsCondition source ts j k x → ReadsStatement source ts k m y → g.value ≡ y → (kind_at ts m ≡ Some (kind.Keyword keyword.Else) → ⊥) → p ≡ span_between ts i m → ReadsStatement source ts i m (tree.If p x g)
if_whole {ts = ts} {i = i} {m = m} {x = x} {g = g} f skips r q gy other sp = record {
  closed = λ h. absurd (other h);
  is = record {
    from = λ s a.
        let p1 = pass (chosen ts i form.If (production.word keyword.If ∷ production.sign mark.LeftParenthesis ∷ Part production.expression ∷ production.sign mark.RightParenthesis ∷ Part production.statement ∷ Part production.else_branch ∷ Close ∷ []) a f refl) skips in
        let one = r.is.from (Part production.statement ∷ Part production.else_branch ∷ Close ∷ s) p1.ahead in
        let body = q.is.from (Part production.else_branch ∷ Close ∷ s) one.ahead in
        spanned (λ z. tree.If z x g) (joined p1.piece (joined one.piece body.piece)) (is.if g p1.token (same_kind _ (kind.Keyword keyword.If) p1.number refl) one.is (inside g gy body.is)) sp (pass_close (no_else ts m body.ahead other));
  };
}

pub else_begun : {source : List ℕ} {ts : List Token} {i j k m n d : ℕ} {x : Expression} {y : Statement} → Begun source ts i d (part production.statement) → statement_form (kind_at ts i) ≡ form.If → Skips ts i j → ReadsCondition source ts j k x → ReadsStatement source ts k m y → kind_at ts m ≡ Some (kind.Keyword keyword.Else) → Skips ts m n → Begun source ts n (d - 1) (part production.statement)
else_begun {ts = ts} {i = i} {m = m} {d = d} b f skips r q h skips2 =
    let one = r.is.from (Part production.statement ∷ Part production.else_branch ∷ Close ∷ b.behind) (pass (chosen ts i form.If (production.word keyword.If ∷ production.sign mark.LeftParenthesis ∷ Part production.expression ∷ production.sign mark.RightParenthesis ∷ Part production.statement ∷ Part production.else_branch ∷ Close ∷ []) b.ahead f refl) skips).ahead in
    let body = q.is.from (Part production.else_branch ∷ Close ∷ b.behind) one.ahead in
    record { cut = b.cut; behind = Close ∷ b.behind; ahead = (pass (with_else ts m body.ahead h) skips2).ahead; room = inner (level b.behind) d (statement_levels b) b.room }

pub if_else_whole : {source : List ℕ} {ts : List Token} {i j k m n o : ℕ} {x : Expression} {y z : Statement} {g h : Box Statement} {p : Span} → statement_form (kind_at ts i) ≡ form.If → Skips ts i j → ReadsCondition source ts j k x → ReadsStatement source ts k m y → g.value ≡ y → kind_at ts m ≡ Some (kind.Keyword keyword.Else) → Skips ts m n → ReadsStatement source ts n o z → h.value ≡ z → p ≡ span_between ts i o → ReadsStatement source ts i o (tree.IfElse p x g h)
if_else_whole {ts = ts} {i = i} {m = m} {x = x} {g = g} {h = h} {p = p} f skips r q gy else_is skips2 t hz sp = record {
  closed = λ e. is.if_else p x g h (subst (λ y. TakesNoElse y) (sym hz) (t.closed e));
  is = record {
    from = λ s a.
        let p1 = pass (chosen ts i form.If (production.word keyword.If ∷ production.sign mark.LeftParenthesis ∷ Part production.expression ∷ production.sign mark.RightParenthesis ∷ Part production.statement ∷ Part production.else_branch ∷ Close ∷ []) a f refl) skips in
        let one = r.is.from (Part production.statement ∷ Part production.else_branch ∷ Close ∷ s) p1.ahead in
        let body = q.is.from (Part production.else_branch ∷ Close ∷ s) one.ahead in
        let p2 = pass (with_else ts m body.ahead else_is) skips2 in
        let other = t.is.from (Close ∷ s) p2.ahead in
        spanned (λ y. tree.IfElse y x g h) (joined p1.piece (joined one.piece (joined body.piece (joined p2.piece other.piece)))) (is.if_else g h p1.token p2.token (same_kind _ (kind.Keyword keyword.If) p1.number refl) one.is (inside g gy body.is) (subst (λ y. TakesNoElse y) (sym gy) (q.closed else_is)) (same_kind _ (kind.Keyword keyword.Else) p2.number refl) (inside h hz other.is)) sp (pass_close other.ahead);
  };
}

pub do_body : {source : List ℕ} {ts : List Token} {i j d : ℕ} → Begun source ts i d (part production.statement) → statement_form (kind_at ts i) ≡ form.DoWhile → Skips ts i j → Begun source ts j (d - 1) (part production.statement)
do_body {ts = ts} {i = i} {d = d} b f skips = record { cut = b.cut; behind = production.word keyword.While ∷ production.sign mark.LeftParenthesis ∷ Part production.expression ∷ production.sign mark.RightParenthesis ∷ production.sign mark.Semicolon ∷ Close ∷ b.behind; ahead = (pass (chosen ts i form.DoWhile (production.word keyword.Do ∷ Part production.statement ∷ production.word keyword.While ∷ production.sign mark.LeftParenthesis ∷ Part production.expression ∷ production.sign mark.RightParenthesis ∷ production.sign mark.Semicolon ∷ Close ∷ []) b.ahead f refl) skips).ahead; room = inner (level b.behind) d (statement_levels b) b.room }

pub do_condition : {source : List ℕ} {ts : List Token} {i j k m d : ℕ} {y : Statement} → Begun source ts i d (part production.statement) → statement_form (kind_at ts i) ≡ form.DoWhile → Skips ts i j → ReadsStatement source ts j k y → Skips ts k m → Begun source ts m (d - 1) condition_symbols
do_condition {ts = ts} {i = i} {d = d} b f skips q skips2 =
    let body = q.is.from (production.word keyword.While ∷ production.sign mark.LeftParenthesis ∷ Part production.expression ∷ production.sign mark.RightParenthesis ∷ production.sign mark.Semicolon ∷ Close ∷ b.behind) (pass (chosen ts i form.DoWhile (production.word keyword.Do ∷ Part production.statement ∷ production.word keyword.While ∷ production.sign mark.LeftParenthesis ∷ Part production.expression ∷ production.sign mark.RightParenthesis ∷ production.sign mark.Semicolon ∷ Close ∷ []) b.ahead f refl) skips).ahead in
    record { cut = b.cut; behind = production.sign mark.Semicolon ∷ Close ∷ b.behind; ahead = (pass body.ahead skips2).ahead; room = inner (level b.behind) d (statement_levels b) b.room }

pub do_whole : {source : List ℕ} {ts : List Token} {i j k m n o : ℕ} {x : Expression} {y : Statement} {g : Box Statement} {p : Span} → statement_form (kind_at ts i) ≡ form.DoWhile → Skips ts i j → ReadsStatement source ts j k y → Skips ts k m → ReadsCondition source ts m n x → Skips ts n o → g.value ≡ y → p ≡ span_between ts i o → ReadsStatement source ts i o (tree.DoWhile p g x)
do_whole {ts = ts} {i = i} {x = x} {g = g} {p = p} f skips q skips2 r skips3 gy sp = record {
  closed = λ h. is.do_while p g x;
  is = record {
    from = λ s a.
        let p1 = pass (chosen ts i form.DoWhile (production.word keyword.Do ∷ Part production.statement ∷ production.word keyword.While ∷ production.sign mark.LeftParenthesis ∷ Part production.expression ∷ production.sign mark.RightParenthesis ∷ production.sign mark.Semicolon ∷ Close ∷ []) a f refl) skips in
        let body = q.is.from (production.word keyword.While ∷ production.sign mark.LeftParenthesis ∷ Part production.expression ∷ production.sign mark.RightParenthesis ∷ production.sign mark.Semicolon ∷ Close ∷ s) p1.ahead in
        let p2 = pass body.ahead skips2 in
        let one = r.is.from (production.sign mark.Semicolon ∷ Close ∷ s) p2.ahead in
        let p3 = pass one.ahead skips3 in
        spanned (λ z. tree.DoWhile z g x) (joined p1.piece (joined body.piece (joined p2.piece (joined one.piece p3.piece)))) (is.do_while g p1.token p2.token p3.token (same_kind _ (kind.Keyword keyword.Do) p1.number refl) (inside g gy body.is) (same_kind _ (kind.Keyword keyword.While) p2.number refl) one.is (same_kind _ (kind.Mark mark.Semicolon) p3.number refl)) sp (pass_close p3.ahead);
  };
}

pub head_start : {source : List ℕ} {ts : List Token} {i j d : ℕ} → Begun source ts i d loop_head_symbols → Skips ts i j → Begun source ts j d loop_start_symbols
head_start b skips = record { cut = b.cut; behind = Part production.optional_expression ∷ production.sign mark.Semicolon ∷ Part production.optional_simple ∷ production.sign mark.RightParenthesis ∷ b.behind; ahead = (pass b.ahead skips).ahead; room = b.room }

pub head_condition : {source : List ℕ} {ts : List Token} {i j k d : ℕ} {u : Option LoopStart} → Begun source ts i d loop_head_symbols → Skips ts i j → ReadsLoopStart source ts j k u → Begun source ts k d optional_expression_symbols
head_condition b skips r = record { cut = b.cut; behind = Part production.optional_simple ∷ production.sign mark.RightParenthesis ∷ b.behind; ahead = (r.is.from (Part production.optional_expression ∷ production.sign mark.Semicolon ∷ Part production.optional_simple ∷ production.sign mark.RightParenthesis ∷ b.behind) (pass b.ahead skips).ahead).ahead; room = b.room }

pub head_step : {source : List ℕ} {ts : List Token} {i j k m d : ℕ} {u : Option LoopStart} {c : Option Expression} → Begun source ts i d loop_head_symbols → Skips ts i j → ReadsLoopStart source ts j k u → ReadsOptionalExpression source ts k m c → Begun source ts m d loop_step_symbols
head_step b skips r q =
    let one = r.is.from (Part production.optional_expression ∷ production.sign mark.Semicolon ∷ Part production.optional_simple ∷ production.sign mark.RightParenthesis ∷ b.behind) (pass b.ahead skips).ahead in
    record { cut = b.cut; behind = b.behind; ahead = (q.is.from (Part production.optional_simple ∷ production.sign mark.RightParenthesis ∷ b.behind) one.ahead).ahead; room = b.room }

pub head_whole : {source : List ℕ} {ts : List Token} {i j k m n : ℕ} {u : Option LoopStart} {c : Option Expression} {t : Option SimpleStatement} → Skips ts i j → ReadsLoopStart source ts j k u → ReadsOptionalExpression source ts k m c → ReadsLoopStep source ts m n t → ReadsLoopHead source ts i n (record { start = u; condition = c; step = t })
head_whole skips r1 r2 r3 = record {
  is = record {
    from = λ s a.
        let p = pass a skips in
        let one = r1.is.from (Part production.optional_expression ∷ production.sign mark.Semicolon ∷ Part production.optional_simple ∷ production.sign mark.RightParenthesis ∷ s) p.ahead in
        let test = r2.is.from (Part production.optional_simple ∷ production.sign mark.RightParenthesis ∷ s) one.ahead in
        let step = r3.is.from s test.ahead in
        record { span = p.token ∷ (one.span ++ (test.span ++ step.span)); piece = joined p.piece (joined one.piece (joined test.piece step.piece)); is = is.head p.token (same_kind _ (kind.Mark mark.LeftParenthesis) p.number refl) one.is test.is step.is; ahead = step.ahead };
  };
}

pub for_head : {source : List ℕ} {ts : List Token} {i j d : ℕ} → Begun source ts i d (part production.statement) → statement_form (kind_at ts i) ≡ form.For → Skips ts i j → Begun source ts j (d - 1) loop_head_symbols
for_head {ts = ts} {i = i} {d = d} b f skips = record { cut = b.cut; behind = Part production.statement ∷ Close ∷ b.behind; ahead = (pass (chosen ts i form.For (production.word keyword.For ∷ production.sign mark.LeftParenthesis ∷ Part production.optional_start ∷ production.sign mark.Semicolon ∷ Part production.optional_expression ∷ production.sign mark.Semicolon ∷ Part production.optional_simple ∷ production.sign mark.RightParenthesis ∷ Part production.statement ∷ Close ∷ []) b.ahead f refl) skips).ahead; room = inner (level b.behind) d (statement_levels b) b.room }

pub for_body : {source : List ℕ} {ts : List Token} {i j k d : ℕ} {x : LoopHead} → Begun source ts i d (part production.statement) → statement_form (kind_at ts i) ≡ form.For → Skips ts i j → ReadsLoopHead source ts j k x → Begun source ts k (d - 1) (part production.statement)
for_body {ts = ts} {i = i} {d = d} b f skips r =
    let one = r.is.from (Part production.statement ∷ Close ∷ b.behind) (pass (chosen ts i form.For (production.word keyword.For ∷ production.sign mark.LeftParenthesis ∷ Part production.optional_start ∷ production.sign mark.Semicolon ∷ Part production.optional_expression ∷ production.sign mark.Semicolon ∷ Part production.optional_simple ∷ production.sign mark.RightParenthesis ∷ Part production.statement ∷ Close ∷ []) b.ahead f refl) skips).ahead in
    record { cut = b.cut; behind = Close ∷ b.behind; ahead = one.ahead; room = inner (level b.behind) d (statement_levels b) b.room }

pub for_whole : {source : List ℕ} {ts : List Token} {i j k m : ℕ} {x : LoopHead} {y : Statement} {g : Box Statement} {p : Span} → statement_form (kind_at ts i) ≡ form.For → Skips ts i j → ReadsLoopHead source ts j k x → ReadsStatement source ts k m y → g.value ≡ y → p ≡ span_between ts i m → ReadsStatement source ts i m (tree.For p x g)
for_whole {ts = ts} {i = i} {x = x} {g = g} {p = p} f skips r q gy sp = record {
  closed = λ h. is.for p x g (subst (λ z. TakesNoElse z) (sym gy) (q.closed h));
  is = record {
    from = λ s a.
        let p1 = pass (chosen ts i form.For (production.word keyword.For ∷ production.sign mark.LeftParenthesis ∷ Part production.optional_start ∷ production.sign mark.Semicolon ∷ Part production.optional_expression ∷ production.sign mark.Semicolon ∷ Part production.optional_simple ∷ production.sign mark.RightParenthesis ∷ Part production.statement ∷ Close ∷ []) a f refl) skips in
        let one = r.is.from (Part production.statement ∷ Close ∷ s) p1.ahead in
        let body = q.is.from (Close ∷ s) one.ahead in
        spanned (λ z. tree.For z x g) (joined p1.piece (joined one.piece body.piece)) (is.for g p1.token (same_kind _ (kind.Keyword keyword.For) p1.number refl) one.is (inside g gy body.is)) sp (pass_close body.ahead);
  };
}

pub break_whole : {source : List ℕ} {ts : List Token} {i j : ℕ} {p : Span} → statement_form (kind_at ts i) ≡ form.Break → SkipsTwo ts i j p → ReadsStatement source ts i j (tree.Break p)
break_whole {ts = ts} {i = i} {p = p} f skips = record {
  closed = λ h. is.break p;
  is = record {
    from = λ s a.
        let p1 = pass (chosen ts i form.Break (production.word keyword.Break ∷ production.sign mark.Semicolon ∷ Close ∷ []) a f refl) skips.first in
        let p2 = pass p1.ahead skips.second in
        spanned (λ y. tree.Break y) (joined p1.piece p2.piece) (is.break p1.token p2.token (same_kind _ (kind.Keyword keyword.Break) p1.number refl) (same_kind _ (kind.Mark mark.Semicolon) p2.number refl)) skips.span (pass_close p2.ahead);
  };
}

pub continue_whole : {source : List ℕ} {ts : List Token} {i j : ℕ} {p : Span} → statement_form (kind_at ts i) ≡ form.Continue → SkipsTwo ts i j p → ReadsStatement source ts i j (tree.Continue p)
continue_whole {ts = ts} {i = i} {p = p} f skips = record {
  closed = λ h. is.continue p;
  is = record {
    from = λ s a.
        let p1 = pass (chosen ts i form.Continue (production.word keyword.Continue ∷ production.sign mark.Semicolon ∷ Close ∷ []) a f refl) skips.first in
        let p2 = pass p1.ahead skips.second in
        spanned (λ y. tree.Continue y) (joined p1.piece p2.piece) (is.continue p1.token p2.token (same_kind _ (kind.Keyword keyword.Continue) p1.number refl) (same_kind _ (kind.Mark mark.Semicolon) p2.number refl)) skips.span (pass_close p2.ahead);
  };
}

pub empty_whole : {source : List ℕ} {ts : List Token} {i j : ℕ} {p : Span} → statement_form (kind_at ts i) ≡ form.Empty → SkipsOne ts i j p → ReadsStatement source ts i j (tree.Empty p)
empty_whole {ts = ts} {i = i} {p = p} f skips = record {
  closed = λ h. is.empty p;
  is = record {
    from = λ s a.
        let p1 = pass (chosen ts i form.Empty (production.sign mark.Semicolon ∷ Close ∷ []) a f refl) skips.skips in
        spanned (λ y. tree.Empty y) p1.piece (is.empty p1.token (same_kind _ (kind.Mark mark.Semicolon) p1.number refl)) skips.span (pass_close p1.ahead);
  };
}

pub return_value : {source : List ℕ} {ts : List Token} {i j d : ℕ} → Begun source ts i d (part production.statement) → statement_form (kind_at ts i) ≡ form.Return → Skips ts i j → Begun source ts j (d - 1) optional_expression_symbols
return_value {ts = ts} {i = i} {d = d} b f skips = record { cut = b.cut; behind = Close ∷ b.behind; ahead = (pass (chosen ts i form.Return (production.word keyword.Return ∷ Part production.optional_expression ∷ production.sign mark.Semicolon ∷ Close ∷ []) b.ahead f refl) skips).ahead; room = inner (level b.behind) d (statement_levels b) b.room }

pub return_whole : {source : List ℕ} {ts : List Token} {i j k : ℕ} {x : Option Expression} {p : Span} → statement_form (kind_at ts i) ≡ form.Return → Skips ts i j → ReadsOptionalExpression source ts j k x → p ≡ span_between ts i k → ReadsStatement source ts i k (tree.Return p x)
return_whole {ts = ts} {i = i} {x = x} {p = p} f skips r sp = record {
  closed = λ h. is.return p x;
  is = record {
    from = λ s a.
        let p1 = pass (chosen ts i form.Return (production.word keyword.Return ∷ Part production.optional_expression ∷ production.sign mark.Semicolon ∷ Close ∷ []) a f refl) skips in
        let one = r.is.from (Close ∷ s) p1.ahead in
        spanned (λ y. tree.Return y x) (joined p1.piece one.piece) (is.return p1.token (same_kind _ (kind.Keyword keyword.Return) p1.number refl) one.is) sp (pass_close one.ahead);
  };
}

pub plain_begun : {source : List ℕ} {ts : List Token} {i d : ℕ} → Begun source ts i d (part production.statement) → statement_form (kind_at ts i) ≡ form.Simple → Begun source ts i (d - 1) (part production.simple)
plain_begun {ts = ts} {i = i} {d = d} b f = record { cut = b.cut; behind = production.sign mark.Semicolon ∷ Close ∷ b.behind; ahead = (chosen ts i form.Simple (Part production.simple ∷ production.sign mark.Semicolon ∷ Close ∷ []) b.ahead f refl); room = inner (level b.behind) d (statement_levels b) b.room }

pub plain_whole : {source : List ℕ} {ts : List Token} {i j k : ℕ} {x : SimpleStatement} {p : Span} → statement_form (kind_at ts i) ≡ form.Simple → ReadsSimple source ts i j x → Skips ts j k → p ≡ span_between ts i k → ReadsStatement source ts i k (tree.Simple p x)
plain_whole {ts = ts} {i = i} {x = x} {p = p} f r skips sp = record {
  closed = λ h. is.simple p x;
  is = record {
    from = λ s a.
        let one = r.is.from (production.sign mark.Semicolon ∷ Close ∷ s) (chosen ts i form.Simple (Part production.simple ∷ production.sign mark.Semicolon ∷ Close ∷ []) a f refl) in
        let p1 = pass one.ahead skips in
        spanned (λ y. tree.Simple y x) (joined one.piece p1.piece) (is.simple p1.token one.is (same_kind _ (kind.Mark mark.Semicolon) p1.number refl)) sp (pass_close p1.ahead);
  };
}
