-- How expressions are read.
use Rattle.std.proofs.Common.{◌≡◌, inl, inr, ℕ, zero, suc, ◌+◌, ◌-◌, ◌<◌, ◌≤◌, Bool, true, false, IsTrue, List, [], ◌∷◌, ◌++◌, length, Option, Some, None, refl, sym, ap, subst, ◌∙◌, arith, length-append, eqb-true, ltb, Result, Ok, Err, IfOk}
use Rattle.std.proofs.lemmas.Bool.{eq-eqb}
use Rattle.std.specs.Prelude.{nat_eq, if◌then◌else◌}
use Rattle.std.specs.Global.{Box, Vec}
use Rattle.as3_lexer.specs.declared.keyword.Keyword.{Keyword}
use Rattle.as3_lexer.specs.declared.keyword.Keyword.TheVariants as keyword
use Rattle.as3_lexer.specs.declared.mark.Mark.{Mark}
use Rattle.as3_lexer.specs.declared.mark.Mark.TheVariants as mark
use Rattle.as3_lexer.specs.declared.token.Token.{Token}
use Rattle.as3_lexer.specs.declared.token.TokenKind.{TokenKind}
use Rattle.as3_lexer.specs.declared.token.TokenKind.TheVariants as kind
use Rattle.as3_parser.specs.declared.tree.Span.{Span}
use Rattle.as3_parser.specs.declared.tree.Lexeme.{Lexeme}
use Rattle.as3_parser.specs.declared.tree.BinaryOperator.{BinaryOperator}
use Rattle.as3_parser.specs.declared.tree.BinaryOperator.TheVariants as binary_operator
use Rattle.as3_parser.specs.declared.tree.UnaryOperator.{UnaryOperator}
use Rattle.as3_parser.specs.declared.tree.UnaryOperator.TheVariants as unary_operator
use Rattle.as3_parser.specs.declared.tree.Expression.{Expression}
use Rattle.as3_parser.specs.declared.tree.Expression.TheVariants as e
use Rattle.as3_parser.specs.Grammar.{Symbol, Part, Close}
use Rattle.as3_parser.specs.Grammar as grammar
use Rattle.as3_parser.specs.Predicts.{next}
use Rattle.as3_parser.specs.Levels.{level}
use Rattle.as3_parser.specs.Table.{pick}
use Rattle.as3_parser.specs.Kinds.{kind_number, keyword_number, mark_number}
use Rattle.as3_parser.specs.Productions as production
use Rattle.as3_parser.specs.Syntax.{limit}
use Rattle.as3_parser.specs.Here.{table}
use Rattle.as3_parser.specs.Trees.{span_of, lexeme_of}
use Rattle.as3_parser.specs.Spans.{span_between}
use Rattle.as3_parser.specs.Expressions.{binary_mark, unary_mark, strength, IsExpression, AreListed, AreEnclosed}
use Rattle.as3_parser.specs.Expressions as is
use Rattle.as3_parser.specs.Ahead.{Ahead, kinds_from, kind_at, Begun, Skips, Lexed, IsThere, Piece, Reached, Reads}
use Rattle.as3_parser.specs.Forms.{part, part_of_strength, operators_of_strength, ReadsExpression, ReadsArguments, ReadsPath, arguments_before, closes_arguments}
use Rattle.as3_parser.specs.Operators.{operator_of, operator_at, unary_operator_at, with_strength}
use Rattle.as3_parser.proofs.Ahead.{some_side, pass_close, level_low}
use Rattle.as3_parser.proofs.NamedKinds.{same_kind}
use Rattle.as3_parser.proofs.Reach.{pass, there_is, next_is, no_next, kind_is, single, two, no_more, not_closed, use_next, starts_with_token, joined, gets_on, spans}

-- every expression has a token
pub expression_some : {source : List ℕ} {n : ℕ} {x : Expression} {w : List Token} → IsExpression source n x w → 0 < length w
expression_some (is.name t k) = omega arith
expression_some (is.number t k) = omega arith
expression_some (is.text t k) = omega arith
expression_some (is.true t k) = omega arith
expression_some (is.false t k) = omega arith
expression_some (is.null t k) = omega arith
expression_some (is.this t k) = omega arith
expression_some (is.super t k) = omega arith
expression_some (is.parenthesized l r k d q) = omega arith
expression_some (is.array v l k d) = omega arith
expression_some (is.new p v t l k d q f) = omega arith
expression_some (is.member {v = v} p t d k q) = let h = length-append v (p ∷ t ∷ []) in omega arith
expression_some (is.index {u = u} {v = v} l r d k f q) = let h = length-append u (l ∷ (v ++ (r ∷ []))) in omega arith
expression_some (is.call {u = u} {v = v} a l d k f) = let h = length-append u (l ∷ v) in omega arith
expression_some (is.unary o s k d) = omega arith
expression_some (is.binary {u = u} {v = v} o s d k f) = let h = length-append u (s ∷ v) in omega arith
expression_some (is.conditional {t = t} {u = u} {v = v} q c d k f h g) = let h = length-append t (q ∷ (u ++ (c ∷ v))) in omega arith
expression_some (is.stronger d) = expression_some d

-- what was read has the span of its tokens
spanned : {source : List ℕ} {ts : List Token} {i j n : ℕ} {y : Span} {w : List Token} {left : List Symbol} (f : Span → Expression) → Piece ts i j w → IsExpression source n (f (span_of w)) w → y ≡ span_between ts i j → Ahead left (kinds_from ts j) → Reached ts i j left (IsExpression source n (f y))
spanned {source = source} {n = n} {w = w} f piece d y_is ahead = record { span = w; piece = piece; is = subst (λ z. IsExpression source n (f z) w) (sym (spans piece (expression_some d) y_is)) d; ahead = ahead }

inside : {source : List ℕ} {n : ℕ} (b : Box Expression) {x : Expression} {w : List Token} → b.value ≡ x → IsExpression source n x w → IsExpression source n b.value w
inside {source = source} {n = n} b {w = w} h d = subst (λ y. IsExpression source n y w) (sym h) d

-- ---- conditional expressions

opened : {s : List Symbol} {w : List ℕ} → Ahead (Part production.expression ∷ s) w → Ahead (Part production.logical_or ∷ Part production.choice ∷ Close ∷ s) w
opened a = single production.expression (Part production.logical_or ∷ Part production.choice ∷ Close ∷ []) a refl (λ k. refl)

choosing : {s : List Symbol} (ts : List Token) (i : ℕ) → Ahead (Part production.choice ∷ s) (kinds_from ts i) → kind_at ts i ≡ Some (kind.Mark mark.Question) → Ahead (production.sign mark.Question ∷ Part production.expression ∷ production.sign mark.Colon ∷ Part production.expression ∷ s) (kinds_from ts i)
choosing ts i a h = use_next production.choice _ 0 (production.sign mark.Question ∷ Part production.expression ∷ production.sign mark.Colon ∷ Part production.expression ∷ []) a (next_is ts i (kind.Mark mark.Question) h) refl refl

pub expression_levels : {source : List ℕ} {ts : List Token} {i d : ℕ} → Begun source ts i d (part production.expression) → 1 ≤ d
expression_levels b = let low : suc (level b.behind) < 65 = level_low production.logical_or (opened b.ahead) (λ q. cc) in let room : 65 ≤ suc (level b.behind + _) = b.room in omega (arith, low, room)

pub expression_condition : {source : List ℕ} {ts : List Token} {i d : ℕ} → Begun source ts i d (part production.expression) → Begun source ts i (d - 1) (part production.logical_or)
expression_condition b = record { cut = b.cut; behind = Part production.choice ∷ Close ∷ b.behind; ahead = opened b.ahead; room = (let one = expression_levels b in let room : 65 ≤ suc (level b.behind + _) = b.room in omega (arith, one, room)) }

pub expression_plain : {source : List ℕ} {ts : List Token} {i j : ℕ} {x : Expression} → ReadsExpression source ts i j 1 x → (kind_at ts j ≡ Some (kind.Mark mark.Question) → ⊥) → ReadsExpression source ts i j 0 x
expression_plain {ts = ts} {j = j} r other = record {
  is = record {
    from = λ s a.
        let one = r.is.from (Part production.choice ∷ Close ∷ s) (opened a) in
        record {
          span = one.span;
          piece = one.piece;
          is = is.stronger one.is;
          ahead = pass_close (no_more production.choice _ (Part production.expression ∷ production.sign mark.Colon ∷ Part production.expression ∷ []) one.ahead refl refl (λ k. refl) (λ q. other (kind_is ts j (kind.Mark mark.Question) q refl)));
        };
  };
}

pub expression_first : {source : List ℕ} {ts : List Token} {i j k d : ℕ} {x : Expression} → Begun source ts i d (part production.expression) → ReadsExpression source ts i j 1 x → kind_at ts j ≡ Some (kind.Mark mark.Question) → Skips ts j k → Begun source ts k (d - 1) (part production.expression)
expression_first {ts = ts} {j = j} b r h skips =
    let one = r.is.from (Part production.choice ∷ Close ∷ b.behind) (opened b.ahead) in
    let p = pass (choosing ts j one.ahead h) skips in
    record { cut = b.cut; behind = production.sign mark.Colon ∷ Part production.expression ∷ Close ∷ b.behind; ahead = p.ahead; room = (let one = expression_levels b in let room : 65 ≤ suc (level b.behind + _) = b.room in omega (arith, one, room)) }

pub expression_second : {source : List ℕ} {ts : List Token} {i j k m n d : ℕ} {x y : Expression} → Begun source ts i d (part production.expression) → ReadsExpression source ts i j 1 x → kind_at ts j ≡ Some (kind.Mark mark.Question) → Skips ts j k → ReadsExpression source ts k m 0 y → Skips ts m n → Begun source ts n (d - 1) (part production.expression)
expression_second {ts = ts} {j = j} b r h skips q skips2 =
    let one = r.is.from (Part production.choice ∷ Close ∷ b.behind) (opened b.ahead) in
    let p = pass (choosing ts j one.ahead h) skips in
    let two_ = q.is.from (production.sign mark.Colon ∷ Part production.expression ∷ Close ∷ b.behind) p.ahead in
    let z = pass two_.ahead skips2 in
    record { cut = b.cut; behind = Close ∷ b.behind; ahead = z.ahead; room = (let one = expression_levels b in let room : 65 ≤ suc (level b.behind + _) = b.room in omega (arith, one, room)) }

pub expression_whole : {source : List ℕ} {ts : List Token} {i j k m n l : ℕ} {x y z : Expression} {f g h : Box Expression} {p : Span} → ReadsExpression source ts i j 1 x → kind_at ts j ≡ Some (kind.Mark mark.Question) → Skips ts j k → ReadsExpression source ts k m 0 y → Skips ts m n → ReadsExpression source ts n l 0 z → f.value ≡ x → g.value ≡ y → h.value ≡ z → p ≡ span_between ts i l → ReadsExpression source ts i l 0 (e.Conditional p f g h)
expression_whole {ts = ts} {j = j} {f = f} {g = g} {h = h} r next skips q skips2 t fx gy hz at = record {
  is = record {
    from = λ s a.
        let one = r.is.from (Part production.choice ∷ Close ∷ s) (opened a) in
        let p1 = pass (choosing ts j one.ahead next) skips in
        let two_ = q.is.from (production.sign mark.Colon ∷ Part production.expression ∷ Close ∷ s) p1.ahead in
        let p2 = pass two_.ahead skips2 in
        let three = t.is.from (Close ∷ s) p2.ahead in
        spanned (λ y. e.Conditional y f g h) (joined one.piece (joined p1.piece (joined two_.piece (joined p2.piece three.piece))))
        (is.conditional p1.token p2.token (inside f fx one.is) (same_kind _ (kind.Mark mark.Question) p1.number refl) (inside g gy two_.is) (same_kind _ (kind.Mark mark.Colon) p2.number refl) (inside h hz three.is))
        at (pass_close three.ahead);
  };
}

-- ---- binary operators

with_is : (n : ℕ) (q : Option BinaryOperator) (o : BinaryOperator) → with_strength n q ≡ Some o → (q ≡ Some o) × (strength o ≡ n)
with_is n None o h = absurd (cc)
with_is n (Some u) o h = go (nat_eq (strength u) n) refl h where
  go : (b : Bool) → nat_eq (strength u) n ≡ b → (if b then Some u else None) ≡ Some o → (Some u ≡ Some o) × (strength o ≡ n)
  go true f g = let same : u ≡ o = cc in (g, ap (λ y. strength y) (sym same) ∙ eqb-true (strength u) n f)
  go false f g = absurd (cc)

mark_is : (m : Mark) (o : BinaryOperator) → operator_of m ≡ Some o → m ≡ binary_mark o
mark_is mark.Or o h = ap (λ y. binary_mark y) (let same : binary_operator.Or ≡ o = cc in same)
mark_is mark.And o h = ap (λ y. binary_mark y) (let same : binary_operator.And ≡ o = cc in same)
mark_is mark.Equal o h = ap (λ y. binary_mark y) (let same : binary_operator.Equal ≡ o = cc in same)
mark_is mark.NotEqual o h = ap (λ y. binary_mark y) (let same : binary_operator.NotEqual ≡ o = cc in same)
mark_is mark.StrictEqual o h = ap (λ y. binary_mark y) (let same : binary_operator.StrictEqual ≡ o = cc in same)
mark_is mark.StrictNotEqual o h = ap (λ y. binary_mark y) (let same : binary_operator.StrictNotEqual ≡ o = cc in same)
mark_is mark.Less o h = ap (λ y. binary_mark y) (let same : binary_operator.Less ≡ o = cc in same)
mark_is mark.LessOrEqual o h = ap (λ y. binary_mark y) (let same : binary_operator.LessOrEqual ≡ o = cc in same)
mark_is mark.Greater o h = ap (λ y. binary_mark y) (let same : binary_operator.Greater ≡ o = cc in same)
mark_is mark.GreaterOrEqual o h = ap (λ y. binary_mark y) (let same : binary_operator.GreaterOrEqual ≡ o = cc in same)
mark_is mark.Plus o h = ap (λ y. binary_mark y) (let same : binary_operator.Add ≡ o = cc in same)
mark_is mark.Minus o h = ap (λ y. binary_mark y) (let same : binary_operator.Subtract ≡ o = cc in same)
mark_is mark.Star o h = ap (λ y. binary_mark y) (let same : binary_operator.Multiply ≡ o = cc in same)
mark_is mark.Percent o h = ap (λ y. binary_mark y) (let same : binary_operator.Remainder ≡ o = cc in same)
mark_is m o h = absurd (cc)

back : (o : BinaryOperator) → operator_of (binary_mark o) ≡ Some o
back binary_operator.Or = refl
back binary_operator.And = refl
back binary_operator.Equal = refl
back binary_operator.NotEqual = refl
back binary_operator.StrictEqual = refl
back binary_operator.StrictNotEqual = refl
back binary_operator.Less = refl
back binary_operator.LessOrEqual = refl
back binary_operator.Greater = refl
back binary_operator.GreaterOrEqual = refl
back binary_operator.Add = refl
back binary_operator.Subtract = refl
back binary_operator.Multiply = refl
back binary_operator.Remainder = refl

operator_is : (k : Option TokenKind) (n : ℕ) (o : BinaryOperator) → operator_at k n ≡ Some o → (k ≡ Some (kind.Mark (binary_mark o))) × (strength o ≡ n)
operator_is (Some (kind.Mark m)) n o h = let q = with_is n (operator_of m) o h in (ap (λ y. Some (kind.Mark y)) (mark_is m o q.0), q.1)
operator_is _ n o h = absurd (cc)

no_operator : (k : Option TokenKind) (n : ℕ) (o : BinaryOperator) → operator_at k n ≡ None → strength o ≡ n → k ≡ Some (kind.Mark (binary_mark o)) → ⊥
no_operator k n o h same is =
    let here : with_strength n (Some o) ≡ None = ap (λ y. with_strength n y) (sym (back o)) ∙ ap (λ y. operator_at y n) (sym is) ∙ h in
    go (nat_eq (strength o) n) (eq-eqb (strength o) n same) here
  where
    go : (b : Bool) → b ≡ true → (if b then Some o else None) ≡ None → ⊥
    go true f g = cc
    go false f g = cc

operands : {s : List Symbol} {w : List ℕ} (n : ℕ) → 1 ≤ n → n ≤ 6 → Ahead (Part (part_of_strength n) ∷ s) w → Ahead (Part (part_of_strength (suc n)) ∷ Part (operators_of_strength n) ∷ s) w
operands zero lo hi a = absurd (omega (arith, lo))
operands (suc zero) lo hi a = single production.logical_or (Part production.logical_and ∷ Part production.more_logical_or ∷ []) a refl (λ k. refl)
operands (suc (suc zero)) lo hi a = single production.logical_and (Part production.equality ∷ Part production.more_logical_and ∷ []) a refl (λ k. refl)
operands (suc (suc (suc zero))) lo hi a = single production.equality (Part production.relational ∷ Part production.more_equality ∷ []) a refl (λ k. refl)
operands (suc (suc (suc (suc zero)))) lo hi a = single production.relational (Part production.additive ∷ Part production.more_relational ∷ []) a refl (λ k. refl)
operands (suc (suc (suc (suc (suc zero))))) lo hi a = single production.additive (Part production.multiplicative ∷ Part production.more_additive ∷ []) a refl (λ k. refl)
operands (suc (suc (suc (suc (suc (suc zero)))))) lo hi a = single production.multiplicative (Part production.unary ∷ Part production.more_multiplicative ∷ []) a refl (λ k. refl)
operands (suc (suc (suc (suc (suc (suc (suc n))))))) lo hi a = absurd (omega (arith, hi))

next_operator : {s : List Symbol} {w : List ℕ} (o : BinaryOperator) → Ahead (Part (operators_of_strength (strength o)) ∷ s) w → next w ≡ suc (mark_number (binary_mark o)) → Ahead (production.sign (binary_mark o) ∷ Part (part_of_strength (suc (strength o))) ∷ Part (operators_of_strength (strength o)) ∷ s) w
next_operator binary_operator.Or a h = use_next production.more_logical_or _ 0 (production.sign mark.Or ∷ Part production.logical_and ∷ Part production.more_logical_or ∷ []) a h refl refl
next_operator binary_operator.And a h = use_next production.more_logical_and _ 0 (production.sign mark.And ∷ Part production.equality ∷ Part production.more_logical_and ∷ []) a h refl refl
next_operator binary_operator.Equal a h = use_next production.equality_sign _ 0 (production.sign mark.Equal ∷ []) (use_next production.more_equality _ 0 (Part production.equality_sign ∷ Part production.relational ∷ Part production.more_equality ∷ []) a h refl refl) h refl refl
next_operator binary_operator.NotEqual a h = use_next production.equality_sign _ 1 (production.sign mark.NotEqual ∷ []) (use_next production.more_equality _ 0 (Part production.equality_sign ∷ Part production.relational ∷ Part production.more_equality ∷ []) a h refl refl) h refl refl
next_operator binary_operator.StrictEqual a h = use_next production.equality_sign _ 2 (production.sign mark.StrictEqual ∷ []) (use_next production.more_equality _ 0 (Part production.equality_sign ∷ Part production.relational ∷ Part production.more_equality ∷ []) a h refl refl) h refl refl
next_operator binary_operator.StrictNotEqual a h = use_next production.equality_sign _ 3 (production.sign mark.StrictNotEqual ∷ []) (use_next production.more_equality _ 0 (Part production.equality_sign ∷ Part production.relational ∷ Part production.more_equality ∷ []) a h refl refl) h refl refl
next_operator binary_operator.Less a h = use_next production.relational_sign _ 0 (production.sign mark.Less ∷ []) (use_next production.more_relational _ 0 (Part production.relational_sign ∷ Part production.additive ∷ Part production.more_relational ∷ []) a h refl refl) h refl refl
next_operator binary_operator.LessOrEqual a h = use_next production.relational_sign _ 1 (production.sign mark.LessOrEqual ∷ []) (use_next production.more_relational _ 0 (Part production.relational_sign ∷ Part production.additive ∷ Part production.more_relational ∷ []) a h refl refl) h refl refl
next_operator binary_operator.Greater a h = use_next production.relational_sign _ 2 (production.sign mark.Greater ∷ []) (use_next production.more_relational _ 0 (Part production.relational_sign ∷ Part production.additive ∷ Part production.more_relational ∷ []) a h refl refl) h refl refl
next_operator binary_operator.GreaterOrEqual a h = use_next production.relational_sign _ 3 (production.sign mark.GreaterOrEqual ∷ []) (use_next production.more_relational _ 0 (Part production.relational_sign ∷ Part production.additive ∷ Part production.more_relational ∷ []) a h refl refl) h refl refl
next_operator binary_operator.Add a h = use_next production.additive_sign _ 0 (production.sign mark.Plus ∷ []) (use_next production.more_additive _ 0 (Part production.additive_sign ∷ Part production.multiplicative ∷ Part production.more_additive ∷ []) a h refl refl) h refl refl
next_operator binary_operator.Subtract a h = use_next production.additive_sign _ 1 (production.sign mark.Minus ∷ []) (use_next production.more_additive _ 0 (Part production.additive_sign ∷ Part production.multiplicative ∷ Part production.more_additive ∷ []) a h refl refl) h refl refl
next_operator binary_operator.Multiply a h = use_next production.multiplicative_sign _ 0 (production.sign mark.Star ∷ []) (use_next production.more_multiplicative _ 0 (Part production.multiplicative_sign ∷ Part production.unary ∷ Part production.more_multiplicative ∷ []) a h refl refl) h refl refl
next_operator binary_operator.Remainder a h = use_next production.multiplicative_sign _ 1 (production.sign mark.Percent ∷ []) (use_next production.more_multiplicative _ 0 (Part production.multiplicative_sign ∷ Part production.unary ∷ Part production.more_multiplicative ∷ []) a h refl refl) h refl refl

not_equality_sign : {s : List Symbol} {w : List ℕ} → Ahead (Part production.equality_sign ∷ s) w → (next w ≡ suc (mark_number mark.Equal) → ⊥) → (next w ≡ suc (mark_number mark.NotEqual) → ⊥) → (next w ≡ suc (mark_number mark.StrictEqual) → ⊥) → (next w ≡ suc (mark_number mark.StrictNotEqual) → ⊥) → ⊥
not_equality_sign {s = s} {w = w} a h0 h1 h2 h3 = let q = some_side production.equality_sign a in go q.number q.right q.is q.ahead where
  go : (i : ℕ) (r : List Symbol) → production.the_rules production.equality_sign i ≡ Some r → Ahead (r ++ s) w → ⊥
  go zero r is b = let same : r ≡ production.sign mark.Equal ∷ [] = cc in h0 (starts_with_token (subst (λ y. Ahead (y ++ s) w) same b))
  go (suc zero) r is b = let same : r ≡ production.sign mark.NotEqual ∷ [] = cc in h1 (starts_with_token (subst (λ y. Ahead (y ++ s) w) same b))
  go (suc (suc zero)) r is b = let same : r ≡ production.sign mark.StrictEqual ∷ [] = cc in h2 (starts_with_token (subst (λ y. Ahead (y ++ s) w) same b))
  go (suc (suc (suc zero))) r is b = let same : r ≡ production.sign mark.StrictNotEqual ∷ [] = cc in h3 (starts_with_token (subst (λ y. Ahead (y ++ s) w) same b))
  go (suc (suc (suc (suc i)))) r is b = absurd (cc)

not_relational_sign : {s : List Symbol} {w : List ℕ} → Ahead (Part production.relational_sign ∷ s) w → (next w ≡ suc (mark_number mark.Less) → ⊥) → (next w ≡ suc (mark_number mark.LessOrEqual) → ⊥) → (next w ≡ suc (mark_number mark.Greater) → ⊥) → (next w ≡ suc (mark_number mark.GreaterOrEqual) → ⊥) → ⊥
not_relational_sign {s = s} {w = w} a h0 h1 h2 h3 = let q = some_side production.relational_sign a in go q.number q.right q.is q.ahead where
  go : (i : ℕ) (r : List Symbol) → production.the_rules production.relational_sign i ≡ Some r → Ahead (r ++ s) w → ⊥
  go zero r is b = let same : r ≡ production.sign mark.Less ∷ [] = cc in h0 (starts_with_token (subst (λ y. Ahead (y ++ s) w) same b))
  go (suc zero) r is b = let same : r ≡ production.sign mark.LessOrEqual ∷ [] = cc in h1 (starts_with_token (subst (λ y. Ahead (y ++ s) w) same b))
  go (suc (suc zero)) r is b = let same : r ≡ production.sign mark.Greater ∷ [] = cc in h2 (starts_with_token (subst (λ y. Ahead (y ++ s) w) same b))
  go (suc (suc (suc zero))) r is b = let same : r ≡ production.sign mark.GreaterOrEqual ∷ [] = cc in h3 (starts_with_token (subst (λ y. Ahead (y ++ s) w) same b))
  go (suc (suc (suc (suc i)))) r is b = absurd (cc)

not_additive_sign : {s : List Symbol} {w : List ℕ} → Ahead (Part production.additive_sign ∷ s) w → (next w ≡ suc (mark_number mark.Plus) → ⊥) → (next w ≡ suc (mark_number mark.Minus) → ⊥) → ⊥
not_additive_sign {s = s} {w = w} a h0 h1 = let q = some_side production.additive_sign a in go q.number q.right q.is q.ahead where
  go : (i : ℕ) (r : List Symbol) → production.the_rules production.additive_sign i ≡ Some r → Ahead (r ++ s) w → ⊥
  go zero r is b = let same : r ≡ production.sign mark.Plus ∷ [] = cc in h0 (starts_with_token (subst (λ y. Ahead (y ++ s) w) same b))
  go (suc zero) r is b = let same : r ≡ production.sign mark.Minus ∷ [] = cc in h1 (starts_with_token (subst (λ y. Ahead (y ++ s) w) same b))
  go (suc (suc i)) r is b = absurd (cc)

not_multiplicative_sign : {s : List Symbol} {w : List ℕ} → Ahead (Part production.multiplicative_sign ∷ s) w → (next w ≡ suc (mark_number mark.Star) → ⊥) → (next w ≡ suc (mark_number mark.Percent) → ⊥) → ⊥
not_multiplicative_sign {s = s} {w = w} a h0 h1 = let q = some_side production.multiplicative_sign a in go q.number q.right q.is q.ahead where
  go : (i : ℕ) (r : List Symbol) → production.the_rules production.multiplicative_sign i ≡ Some r → Ahead (r ++ s) w → ⊥
  go zero r is b = let same : r ≡ production.sign mark.Star ∷ [] = cc in h0 (starts_with_token (subst (λ y. Ahead (y ++ s) w) same b))
  go (suc zero) r is b = let same : r ≡ production.sign mark.Percent ∷ [] = cc in h1 (starts_with_token (subst (λ y. Ahead (y ++ s) w) same b))
  go (suc (suc i)) r is b = absurd (cc)

no_operators : {s : List Symbol} {w : List ℕ} (n : ℕ) → 1 ≤ n → n ≤ 6 → Ahead (Part (operators_of_strength n) ∷ s) w → ((o : BinaryOperator) → strength o ≡ n → next w ≡ suc (mark_number (binary_mark o)) → ⊥) → Ahead s w
no_operators zero lo hi a other = absurd (omega (arith, lo))
no_operators (suc zero) lo hi a other = no_more production.more_logical_or _ (Part production.logical_and ∷ Part production.more_logical_or ∷ []) a refl refl (λ k. refl) (λ q. other binary_operator.Or refl q)
no_operators (suc (suc zero)) lo hi a other = no_more production.more_logical_and _ (Part production.equality ∷ Part production.more_logical_and ∷ []) a refl refl (λ k. refl) (λ q. other binary_operator.And refl q)
no_operators (suc (suc (suc zero))) lo hi a other = elim (two production.more_equality (Part production.equality_sign ∷ Part production.relational ∷ Part production.more_equality ∷ []) [] a refl refl (λ k. refl)) [ inl h ↦ absurd (not_equality_sign h (λ q. other binary_operator.Equal refl q) (λ q. other binary_operator.NotEqual refl q) (λ q. other binary_operator.StrictEqual refl q) (λ q. other binary_operator.StrictNotEqual refl q)) | inr h ↦ h ]
no_operators (suc (suc (suc (suc zero)))) lo hi a other = elim (two production.more_relational (Part production.relational_sign ∷ Part production.additive ∷ Part production.more_relational ∷ []) [] a refl refl (λ k. refl)) [ inl h ↦ absurd (not_relational_sign h (λ q. other binary_operator.Less refl q) (λ q. other binary_operator.LessOrEqual refl q) (λ q. other binary_operator.Greater refl q) (λ q. other binary_operator.GreaterOrEqual refl q)) | inr h ↦ h ]
no_operators (suc (suc (suc (suc (suc zero))))) lo hi a other = elim (two production.more_additive (Part production.additive_sign ∷ Part production.multiplicative ∷ Part production.more_additive ∷ []) [] a refl refl (λ k. refl)) [ inl h ↦ absurd (not_additive_sign h (λ q. other binary_operator.Add refl q) (λ q. other binary_operator.Subtract refl q)) | inr h ↦ h ]
no_operators (suc (suc (suc (suc (suc (suc zero)))))) lo hi a other = elim (two production.more_multiplicative (Part production.multiplicative_sign ∷ Part production.unary ∷ Part production.more_multiplicative ∷ []) [] a refl refl (λ k. refl)) [ inl h ↦ absurd (not_multiplicative_sign h (λ q. other binary_operator.Multiply refl q) (λ q. other binary_operator.Remainder refl q)) | inr h ↦ h ]
no_operators (suc (suc (suc (suc (suc (suc (suc n))))))) lo hi a other = absurd (omega (arith, hi))

pub below_prefix : (n : ℕ) → n ≤ 7 → (n ≡ 7 → ⊥) → n ≤ 6
below_prefix n hi ne = omega (arith, hi, ne)

opened_at : {s : List Symbol} {w : List ℕ} (n : ℕ) → 1 ≤ n → n ≤ 6 → Ahead (Part (part_of_strength n) ∷ s) w → Ahead (Part (part_of_strength (n + 1)) ∷ Part (operators_of_strength n) ∷ s) w
opened_at {s = s} {w = w} n lo hi a = let one : suc n ≡ n + 1 = omega arith in subst (λ y. Ahead (Part (part_of_strength y) ∷ Part (operators_of_strength n) ∷ s) w) one (operands n lo hi a)

pub operation_left : {source : List ℕ} {ts : List Token} {i d n : ℕ} → 1 ≤ n → n ≤ 7 → (n ≡ 7 → ⊥) → Begun source ts i d (part (part_of_strength n)) → Begun source ts i d (part (part_of_strength (n + 1)))
operation_left {n = n} lo hi ne b = record { cut = b.cut; behind = Part (operators_of_strength n) ∷ b.behind; ahead = opened_at n lo (below_prefix n hi ne) b.ahead; room = b.room }

pub operation_starts : {source : List ℕ} {ts : List Token} {i j n : ℕ} {x : Expression} → 1 ≤ n → n ≤ 7 → (n ≡ 7 → ⊥) → ReadsExpression source ts i j (n + 1) x → Reads ts i j (part (part_of_strength n)) (part (operators_of_strength n)) (IsExpression source n x)
operation_starts {source = source} {n = n} {x = x} lo hi ne r = record {
  from = λ s a.
      let one = r.is.from (Part (operators_of_strength n) ∷ s) (opened_at n lo (below_prefix n hi ne) a) in
      let e : n + 1 ≡ suc n = omega arith in
      record { span = one.span; piece = one.piece; is = is.stronger (subst (λ y. IsExpression source y x one.span) e one.is); ahead = one.ahead };
}

operator_ahead : {s : List Symbol} (ts : List Token) (j n : ℕ) (o : BinaryOperator) → operator_at (kind_at ts j) n ≡ Some o → Ahead (Part (operators_of_strength n) ∷ s) (kinds_from ts j) → Ahead (production.sign (binary_mark o) ∷ Part (part_of_strength (suc n)) ∷ Part (operators_of_strength n) ∷ s) (kinds_from ts j)
operator_ahead {s = s} ts j n o at a =
    let q = operator_is (kind_at ts j) n o at in
    subst (λ y. Ahead (production.sign (binary_mark o) ∷ Part (part_of_strength (suc y)) ∷ Part (operators_of_strength y) ∷ s) (kinds_from ts j)) q.1
    (next_operator o (subst (λ y. Ahead (Part (operators_of_strength y) ∷ s) (kinds_from ts j)) (sym q.1) a) (next_is ts j (kind.Mark (binary_mark o)) q.0))

pub operation_right : {source : List ℕ} {ts : List Token} {i j k d : ℕ} (n : ℕ) {o : BinaryOperator} {P : List Token → Type 0} → Begun source ts i d (part (part_of_strength n)) → Reads ts i j (part (part_of_strength n)) (part (operators_of_strength n)) P → operator_at (kind_at ts j) n ≡ Some o → Skips ts j k → Begun source ts k d (part (part_of_strength (n + 1)))
operation_right {ts = ts} {j = j} {k = k} n {o = o} b r at skips =
    let one = r.from b.behind b.ahead in
    let p = pass (operator_ahead ts j n o at one.ahead) skips in
    let e : suc n ≡ n + 1 = omega arith in
    record { cut = b.cut; behind = Part (operators_of_strength n) ∷ b.behind; ahead = subst (λ y. Ahead (Part (part_of_strength y) ∷ Part (operators_of_strength n) ∷ b.behind) (kinds_from ts k)) e p.ahead; room = b.room }

named_operator : (o : BinaryOperator) → ltb (mark_number (binary_mark o)) 60 ≡ true
named_operator binary_operator.Or = refl
named_operator binary_operator.And = refl
named_operator binary_operator.Equal = refl
named_operator binary_operator.NotEqual = refl
named_operator binary_operator.StrictEqual = refl
named_operator binary_operator.StrictNotEqual = refl
named_operator binary_operator.Less = refl
named_operator binary_operator.LessOrEqual = refl
named_operator binary_operator.Greater = refl
named_operator binary_operator.GreaterOrEqual = refl
named_operator binary_operator.Add = refl
named_operator binary_operator.Subtract = refl
named_operator binary_operator.Multiply = refl
named_operator binary_operator.Remainder = refl

pub operation_more : {source : List ℕ} {ts : List Token} {i j k m n : ℕ} {o : BinaryOperator} {x y : Expression} {f g : Box Expression} {p : Span} → Reads ts i j (part (part_of_strength n)) (part (operators_of_strength n)) (IsExpression source n x) → operator_at (kind_at ts j) n ≡ Some o → Skips ts j k → ReadsExpression source ts k m (n + 1) y → f.value ≡ x → g.value ≡ y → p ≡ span_between ts i m → Reads ts i m (part (part_of_strength n)) (part (operators_of_strength n)) (IsExpression source n (e.Binary p o f g))
operation_more {source = source} {ts = ts} {i = i} {j = j} {k = k} {m = m} {n = n} {o = o} {x = x} {y = y} {f = f} {g = g} {p = p} r at skips q fx gy sp = record {
  from = λ s a.
      let one = r.from s a in
      let h = operator_is (kind_at ts j) n o at in
      let p1 = pass (operator_ahead ts j n o at one.ahead) skips in
      let e1 : suc n ≡ n + 1 = omega arith in
      let two_ = q.is.from (Part (operators_of_strength n) ∷ s) (subst (λ z. Ahead (Part (part_of_strength z) ∷ Part (operators_of_strength n) ∷ s) (kinds_from ts k)) e1 p1.ahead) in
      let right_ : IsExpression source (suc (strength o)) y two_.span = subst (λ z. IsExpression source z y two_.span) (sym e1 ∙ ap (λ z. suc z) (sym h.1)) two_.is in
      let left_ : IsExpression source (strength o) x one.span = subst (λ z. IsExpression source z x one.span) (sym h.1) one.is in
      let whole = is.binary {a = f} {b = g} o p1.token (inside f fx left_) (same_kind _ (kind.Mark (binary_mark o)) p1.number (named_operator o)) (inside g gy right_) in
      spanned (λ z. e.Binary z o f g) (joined one.piece (joined p1.piece two_.piece)) (subst (λ z. IsExpression source z (e.Binary (span_of (one.span ++ (p1.token ∷ two_.span))) o f g) (one.span ++ (p1.token ∷ two_.span))) h.1 whole) sp two_.ahead;
}

pub operation_gets_on : {source : List ℕ} {ts : List Token} {i j k m d : ℕ} (n : ℕ) {o : BinaryOperator} {y : Expression} {P : List Token → Type 0} → Begun source ts i d (part (part_of_strength n)) → Reads ts i j (part (part_of_strength n)) (part (operators_of_strength n)) P → operator_at (kind_at ts j) n ≡ Some o → Skips ts j k → ReadsExpression source ts k m (n + 1) y → length ts - m < length ts - j
operation_gets_on {ts = ts} {j = j} n {o = o} b r at skips q =
    let one = r.from b.behind b.ahead in
    let p1 = pass (operator_ahead ts j n o at one.ahead) skips in
    let c = operation_right n b r at skips in
    let two_ = q.is.from c.behind c.ahead in
    gets_on (joined p1.piece two_.piece) (omega arith)

pub operation_ends : {source : List ℕ} {ts : List Token} {i j n : ℕ} {x : Expression} → 1 ≤ n → n ≤ 7 → (n ≡ 7 → ⊥) → Reads ts i j (part (part_of_strength n)) (part (operators_of_strength n)) (IsExpression source n x) → operator_at (kind_at ts j) n ≡ None → ReadsExpression source ts i j n x
operation_ends {ts = ts} {j = j} {n = n} lo hi ne r none = record {
  is = record {
    from = λ s a.
        let one = r.from s a in
        record {
          span = one.span;
          piece = one.piece;
          is = one.is;
          ahead = no_operators n lo (below_prefix n hi ne) one.ahead (λ o same q. no_operator (kind_at ts j) n o none same (kind_is ts j (kind.Mark (binary_mark o)) q (named_operator o)));
        };
  };
}

-- ---- prefix operators

unary_is : (k : Option TokenKind) (o : UnaryOperator) → unary_operator_at k ≡ Some o → k ≡ Some (kind.Mark (unary_mark o))
unary_is (Some (kind.Mark mark.Minus)) o h = ap (λ y. Some (kind.Mark (unary_mark y))) (let same : unary_operator.Negate ≡ o = cc in same)
unary_is (Some (kind.Mark mark.Not)) o h = ap (λ y. Some (kind.Mark (unary_mark y))) (let same : unary_operator.Not ≡ o = cc in same)
unary_is _ o h = absurd (cc)

prefixed : {s : List Symbol} {w : List ℕ} (o : UnaryOperator) → Ahead (Part production.unary ∷ s) w → next w ≡ suc (mark_number (unary_mark o)) → Ahead (production.sign (unary_mark o) ∷ Part production.unary ∷ Close ∷ s) w
prefixed unary_operator.Negate a h = use_next production.unary_sign _ 0 (production.sign mark.Minus ∷ []) (use_next production.unary _ 0 (Part production.unary_sign ∷ Part production.unary ∷ Close ∷ []) a h refl refl) h refl refl
prefixed unary_operator.Not a h = use_next production.unary_sign _ 1 (production.sign mark.Not ∷ []) (use_next production.unary _ 0 (Part production.unary_sign ∷ Part production.unary ∷ Close ∷ []) a h refl refl) h refl refl

not_prefixed : {s : List Symbol} (ts : List Token) (i : ℕ) → Ahead (Part production.unary ∷ s) (kinds_from ts i) → unary_operator_at (kind_at ts i) ≡ None → Ahead (Part production.postfix ∷ s) (kinds_from ts i)
not_prefixed {s = s} ts i a none = elim (two production.unary (Part production.unary_sign ∷ Part production.unary ∷ Close ∷ []) (Part production.postfix ∷ []) a refl refl (λ k. refl)) [
  | inl h ↦ absurd (elim (two production.unary_sign (production.sign mark.Minus ∷ []) (production.sign mark.Not ∷ []) h refl refl (λ k. refl)) [
    | inl b ↦ other mark.Minus (kind_is ts i (kind.Mark mark.Minus) (starts_with_token b) refl) (λ q. cc)
    | inr b ↦ other mark.Not (kind_is ts i (kind.Mark mark.Not) (starts_with_token b) refl) (λ q. cc)
  ])
  | inr h ↦ h
]
  where
    other : (m : Mark) → kind_at ts i ≡ Some (kind.Mark m) → (unary_operator_at (Some (kind.Mark m)) ≡ None → ⊥) → ⊥
    other m is some = some (ap (λ y. unary_operator_at y) (sym is) ∙ none)

pub unary_none : {source : List ℕ} {ts : List Token} {i d : ℕ} → Begun source ts i d (part production.unary) → unary_operator_at (kind_at ts i) ≡ None → Begun source ts i d (part production.postfix)
unary_none {ts = ts} {i = i} b none = record { cut = b.cut; behind = b.behind; ahead = not_prefixed ts i b.ahead none; room = b.room }

pub unary_plain : {source : List ℕ} {ts : List Token} {i j : ℕ} {x : Expression} → unary_operator_at (kind_at ts i) ≡ None → ReadsExpression source ts i j 8 x → ReadsExpression source ts i j 7 x
unary_plain {ts = ts} {i = i} none r = record {
  is = record {
    from = λ s a.
        let one = r.is.from s (not_prefixed ts i a none) in
        record { span = one.span; piece = one.piece; is = is.stronger one.is; ahead = one.ahead };
  };
}

pub unary_returned : {E : Type 0} (source : List ℕ) (ts : List Token) (i j : ℕ) (r : Result Expression E) → unary_operator_at (kind_at ts i) ≡ None → IfOk r (ReadsExpression source ts i j 8) → IfOk r (ReadsExpression source ts i j 7)
unary_returned source ts i j (Ok x) none r = unary_plain none r
unary_returned source ts i j (Err f) none r = r

prefix_passed : {s : List Symbol} (ts : List Token) (i : ℕ) (o : UnaryOperator) → Ahead (Part production.unary ∷ s) (kinds_from ts i) → unary_operator_at (kind_at ts i) ≡ Some o → Ahead (production.sign (unary_mark o) ∷ Part production.unary ∷ Close ∷ s) (kinds_from ts i)
prefix_passed ts i o a is = prefixed o a (next_is ts i (kind.Mark (unary_mark o)) (unary_is (kind_at ts i) o is))

pub unary_levels : {source : List ℕ} {ts : List Token} {i d : ℕ} {o : UnaryOperator} → Begun source ts i d (part production.unary) → unary_operator_at (kind_at ts i) ≡ Some o → 1 ≤ d
unary_levels {ts = ts} {i = i} {o = o} b is =
    let p = pass {j = i + 1} (prefix_passed ts i o b.ahead is) (record { on = λ lt. refl }) in
    let low : suc (level b.behind) < 65 = level_low production.unary p.ahead (λ q. cc) in
    let room : 65 ≤ suc (level b.behind + _) = b.room in
    omega (arith, low, room)

pub unary_operand : {source : List ℕ} {ts : List Token} {i j d : ℕ} {o : UnaryOperator} → Begun source ts i d (part production.unary) → unary_operator_at (kind_at ts i) ≡ Some o → Skips ts i j → Begun source ts j (d - 1) (part production.unary)
unary_operand {ts = ts} {i = i} {o = o} b is skips =
    let p = pass (prefix_passed ts i o b.ahead is) skips in
    record { cut = b.cut; behind = Close ∷ b.behind; ahead = p.ahead; room = (let one = unary_levels b is in let room : 65 ≤ suc (level b.behind + _) = b.room in omega (arith, one, room)) }

named_prefix : (o : UnaryOperator) → ltb (mark_number (unary_mark o)) 60 ≡ true
named_prefix unary_operator.Negate = refl
named_prefix unary_operator.Not = refl

pub unary_whole : {source : List ℕ} {ts : List Token} {i j k : ℕ} {o : UnaryOperator} {x : Expression} {f : Box Expression} {p : Span} → unary_operator_at (kind_at ts i) ≡ Some o → Skips ts i j → ReadsExpression source ts j k 7 x → f.value ≡ x → p ≡ span_between ts i k → ReadsExpression source ts i k 7 (e.Unary p o f)
unary_whole {ts = ts} {i = i} {o = o} {f = f} at skips r fx sp = record {
  is = record {
    from = λ s a.
        let p1 = pass (prefix_passed ts i o a at) skips in
        let one = r.is.from (Close ∷ s) p1.ahead in
        spanned (λ y. e.Unary y o f) (joined p1.piece one.piece) (is.unary o p1.token (same_kind _ (kind.Mark (unary_mark o)) p1.number (named_prefix o)) (inside f fx one.is)) sp (pass_close one.ahead);
  };
}

-- ---- what stands behind an operand

parts : {s : List Symbol} {w : List ℕ} → Ahead (Part production.postfix ∷ s) w → Ahead (Part production.primary ∷ Part production.postfix_parts ∷ s) w
parts a = single production.postfix (Part production.primary ∷ Part production.postfix_parts ∷ []) a refl (λ k. refl)

pub postfix_operand : {source : List ℕ} {ts : List Token} {i d : ℕ} → Begun source ts i d (part production.postfix) → Begun source ts i d (part production.primary)
postfix_operand b = record { cut = b.cut; behind = Part production.postfix_parts ∷ b.behind; ahead = parts b.ahead; room = b.room }

pub postfix_starts : {source : List ℕ} {ts : List Token} {i j : ℕ} {x : Expression} → ReadsExpression source ts i j 9 x → Reads ts i j (part production.postfix) (part production.postfix_parts) (IsExpression source 8 x)
postfix_starts r = record {
  from = λ s a.
      let one = r.is.from (Part production.postfix_parts ∷ s) (parts a) in
      record { span = one.span; piece = one.piece; is = is.stronger one.is; ahead = one.ahead };
}

dotted : {s : List Symbol} (ts : List Token) (i : ℕ) → Ahead (Part production.postfix_parts ∷ s) (kinds_from ts i) → kind_at ts i ≡ Some (kind.Mark mark.Dot) → Ahead (production.sign mark.Dot ∷ production.identifier ∷ Part production.postfix_parts ∷ s) (kinds_from ts i)
dotted ts i a h = use_next production.postfix_parts _ 0 (production.sign mark.Dot ∷ production.identifier ∷ Part production.postfix_parts ∷ []) a (next_is ts i (kind.Mark mark.Dot) h) refl refl

indexed : {s : List Symbol} (ts : List Token) (i : ℕ) → Ahead (Part production.postfix_parts ∷ s) (kinds_from ts i) → kind_at ts i ≡ Some (kind.Mark mark.LeftBracket) → Ahead (production.sign mark.LeftBracket ∷ Part production.expression ∷ production.sign mark.RightBracket ∷ Part production.postfix_parts ∷ s) (kinds_from ts i)
indexed ts i a h = use_next production.postfix_parts _ 1 (production.sign mark.LeftBracket ∷ Part production.expression ∷ production.sign mark.RightBracket ∷ Part production.postfix_parts ∷ []) a (next_is ts i (kind.Mark mark.LeftBracket) h) refl refl

called : {s : List Symbol} (ts : List Token) (i : ℕ) → Ahead (Part production.postfix_parts ∷ s) (kinds_from ts i) → kind_at ts i ≡ Some (kind.Mark mark.LeftParenthesis) → Ahead (production.sign mark.LeftParenthesis ∷ Part production.optional_arguments ∷ production.sign mark.RightParenthesis ∷ Part production.postfix_parts ∷ s) (kinds_from ts i)
called ts i a h = use_next production.postfix_parts _ 2 (production.sign mark.LeftParenthesis ∷ Part production.optional_arguments ∷ production.sign mark.RightParenthesis ∷ Part production.postfix_parts ∷ []) a (next_is ts i (kind.Mark mark.LeftParenthesis) h) refl refl

pub postfix_name : {source : List ℕ} {ts : List Token} {i j k d : ℕ} {P : List Token → Type 0} → Begun source ts i d (part production.postfix) → Reads ts i j (part production.postfix) (part production.postfix_parts) P → kind_at ts j ≡ Some (kind.Mark mark.Dot) → Skips ts j k → IsThere source ts k
postfix_name {ts = ts} {j = j} b r h skips =
    let one = r.from b.behind b.ahead in
    there_is b.cut (pass (dotted ts j one.ahead h) skips).ahead

pub postfix_member : {source : List ℕ} {ts : List Token} {i j k m : ℕ} {x : Expression} {f : Box Expression} {l : Lexeme} {p : Span} → Reads ts i j (part production.postfix) (part production.postfix_parts) (IsExpression source 8 x) → kind_at ts j ≡ Some (kind.Mark mark.Dot) → Skips ts j k → Lexed source ts k m l → f.value ≡ x → p ≡ span_between ts i m → Reads ts i m (part production.postfix) (part production.postfix_parts) (IsExpression source 8 (e.Member p f l))
postfix_member {source = source} {ts = ts} {i = i} {j = j} {m = m} {f = f} {p = p} r h skips l fx sp = record {
  from = λ s a.
      let one = r.from s a in
      let p1 = pass (dotted ts j one.ahead h) skips in
      let p2 = pass p1.ahead l.skips in
      let known = spanned (λ y. e.Member y f (lexeme_of source p2.token)) (joined one.piece (joined p1.piece p2.piece)) (is.member p1.token p2.token (inside f fx one.is) (same_kind _ (kind.Mark mark.Dot) p1.number refl) (same_kind _ kind.Identifier p2.number refl)) sp p2.ahead in
      subst (λ y. Reached ts i m (Part production.postfix_parts ∷ s) (IsExpression source 8 (e.Member p f y))) (sym (l.is p2.token p2.at)) known;
}

pub postfix_member_on : {source : List ℕ} {ts : List Token} {i j k m d : ℕ} {l : Lexeme} {P : List Token → Type 0} → Begun source ts i d (part production.postfix) → Reads ts i j (part production.postfix) (part production.postfix_parts) P → kind_at ts j ≡ Some (kind.Mark mark.Dot) → Skips ts j k → Lexed source ts k m l → length ts - m < length ts - j
postfix_member_on {ts = ts} {j = j} b r h skips l =
    let one = r.from b.behind b.ahead in
    let p1 = pass (dotted ts j one.ahead h) skips in
    let p2 = pass p1.ahead l.skips in
    gets_on (joined p1.piece p2.piece) (omega arith)

pub postfix_index_begun : {source : List ℕ} {ts : List Token} {i j k d : ℕ} {P : List Token → Type 0} → Begun source ts i d (part production.postfix) → Reads ts i j (part production.postfix) (part production.postfix_parts) P → kind_at ts j ≡ Some (kind.Mark mark.LeftBracket) → Skips ts j k → Begun source ts k d (part production.expression)
postfix_index_begun {ts = ts} {j = j} b r h skips =
    let one = r.from b.behind b.ahead in
    record { cut = b.cut; behind = production.sign mark.RightBracket ∷ Part production.postfix_parts ∷ b.behind; ahead = (pass (indexed ts j one.ahead h) skips).ahead; room = b.room }

pub postfix_index : {source : List ℕ} {ts : List Token} {i j k m n : ℕ} {x y : Expression} {f g : Box Expression} {p : Span} → Reads ts i j (part production.postfix) (part production.postfix_parts) (IsExpression source 8 x) → kind_at ts j ≡ Some (kind.Mark mark.LeftBracket) → Skips ts j k → ReadsExpression source ts k m 0 y → Skips ts m n → f.value ≡ x → g.value ≡ y → p ≡ span_between ts i n → Reads ts i n (part production.postfix) (part production.postfix_parts) (IsExpression source 8 (e.Index p f g))
postfix_index {ts = ts} {j = j} {f = f} {g = g} r h skips q skips2 fx gy sp = record {
  from = λ s a.
      let one = r.from s a in
      let p1 = pass (indexed ts j one.ahead h) skips in
      let two_ = q.is.from (production.sign mark.RightBracket ∷ Part production.postfix_parts ∷ s) p1.ahead in
      let p2 = pass two_.ahead skips2 in
      spanned (λ y. e.Index y f g) (joined one.piece (joined p1.piece (joined two_.piece p2.piece))) (is.index p1.token p2.token (inside f fx one.is) (same_kind _ (kind.Mark mark.LeftBracket) p1.number refl) (inside g gy two_.is) (same_kind _ (kind.Mark mark.RightBracket) p2.number refl)) sp p2.ahead;
}

pub postfix_index_on : {source : List ℕ} {ts : List Token} {i j k m n d : ℕ} {y : Expression} {P : List Token → Type 0} → Begun source ts i d (part production.postfix) → Reads ts i j (part production.postfix) (part production.postfix_parts) P → kind_at ts j ≡ Some (kind.Mark mark.LeftBracket) → Skips ts j k → ReadsExpression source ts k m 0 y → Skips ts m n → length ts - n < length ts - j
postfix_index_on {ts = ts} {j = j} b r h skips q skips2 =
    let one = r.from b.behind b.ahead in
    let p1 = pass (indexed ts j one.ahead h) skips in
    let two_ = q.is.from (production.sign mark.RightBracket ∷ Part production.postfix_parts ∷ b.behind) p1.ahead in
    let p2 = pass two_.ahead skips2 in
    gets_on (joined p1.piece (joined two_.piece p2.piece)) (omega arith)

pub postfix_call_begun : {source : List ℕ} {ts : List Token} {i j k d : ℕ} {P : List Token → Type 0} → Begun source ts i d (part production.postfix) → Reads ts i j (part production.postfix) (part production.postfix_parts) P → kind_at ts j ≡ Some (kind.Mark mark.LeftParenthesis) → Skips ts j k → Begun source ts k d (arguments_before mark.RightParenthesis)
postfix_call_begun {ts = ts} {j = j} b r h skips =
    let one = r.from b.behind b.ahead in
    record { cut = b.cut; behind = Part production.postfix_parts ∷ b.behind; ahead = (pass (called ts j one.ahead h) skips).ahead; room = b.room }

pub postfix_call : {source : List ℕ} {ts : List Token} {i j k m : ℕ} {x : Expression} {f : Box Expression} (v : Vec Expression) {p : Span} → Reads ts i j (part production.postfix) (part production.postfix_parts) (IsExpression source 8 x) → kind_at ts j ≡ Some (kind.Mark mark.LeftParenthesis) → Skips ts j k → ReadsArguments source ts k m mark.RightParenthesis v → f.value ≡ x → p ≡ span_between ts i m → Reads ts i m (part production.postfix) (part production.postfix_parts) (IsExpression source 8 (e.Call p f v))
postfix_call {ts = ts} {j = j} {f = f} v r h skips q fx sp = record {
  from = λ s a.
      let one = r.from s a in
      let p1 = pass (called ts j one.ahead h) skips in
      let two_ = q.is.from (Part production.postfix_parts ∷ s) p1.ahead in
      spanned (λ y. e.Call y f v) (joined one.piece (joined p1.piece two_.piece)) (is.call v p1.token (inside f fx one.is) (same_kind _ (kind.Mark mark.LeftParenthesis) p1.number refl) two_.is) sp two_.ahead;
}

pub postfix_call_on : {source : List ℕ} {ts : List Token} {i j k m d : ℕ} {v : Vec Expression} {P : List Token → Type 0} → Begun source ts i d (part production.postfix) → Reads ts i j (part production.postfix) (part production.postfix_parts) P → kind_at ts j ≡ Some (kind.Mark mark.LeftParenthesis) → Skips ts j k → ReadsArguments source ts k m mark.RightParenthesis v → length ts - m < length ts - j
postfix_call_on {ts = ts} {j = j} b r h skips q =
    let one = r.from b.behind b.ahead in
    let p1 = pass (called ts j one.ahead h) skips in
    let two_ = q.is.from (Part production.postfix_parts ∷ b.behind) p1.ahead in
    gets_on (joined p1.piece two_.piece) (omega arith)

pub postfix_ends : {source : List ℕ} {ts : List Token} {i j : ℕ} {x : Expression} → Reads ts i j (part production.postfix) (part production.postfix_parts) (IsExpression source 8 x) → (kind_at ts j ≡ Some (kind.Mark mark.Dot) → ⊥) → (kind_at ts j ≡ Some (kind.Mark mark.LeftBracket) → ⊥) → (kind_at ts j ≡ Some (kind.Mark mark.LeftParenthesis) → ⊥) → ReadsExpression source ts i j 8 x
postfix_ends {ts = ts} {j = j} r dot bracket parenthesis = record {
  is = record {
    from = λ s a.
        let one = r.from s a in
        record { span = one.span; piece = one.piece; is = one.is; ahead = left_ s one.ahead };
  };
}
  where
    left_ : (s : List Symbol) → Ahead (Part production.postfix_parts ∷ s) (kinds_from ts j) → Ahead s (kinds_from ts j)
    left_ s a = let q = some_side production.postfix_parts a in go q.number q.right q.is q.ahead where
      go : (i : ℕ) (r : List Symbol) → production.the_rules production.postfix_parts i ≡ Some r → Ahead (r ++ s) (kinds_from ts j) → Ahead s (kinds_from ts j)
      go zero r is b = let same : r ≡ production.sign mark.Dot ∷ production.identifier ∷ Part production.postfix_parts ∷ [] = cc in absurd (dot (kind_is ts j (kind.Mark mark.Dot) (starts_with_token (subst (λ y. Ahead (y ++ s) (kinds_from ts j)) same b)) refl))
      go (suc zero) r is b = let same : r ≡ production.sign mark.LeftBracket ∷ Part production.expression ∷ production.sign mark.RightBracket ∷ Part production.postfix_parts ∷ [] = cc in absurd (bracket (kind_is ts j (kind.Mark mark.LeftBracket) (starts_with_token (subst (λ y. Ahead (y ++ s) (kinds_from ts j)) same b)) refl))
      go (suc (suc zero)) r is b = let same : r ≡ production.sign mark.LeftParenthesis ∷ Part production.optional_arguments ∷ production.sign mark.RightParenthesis ∷ Part production.postfix_parts ∷ [] = cc in absurd (parenthesis (kind_is ts j (kind.Mark mark.LeftParenthesis) (starts_with_token (subst (λ y. Ahead (y ++ s) (kinds_from ts j)) same b)) refl))
      go (suc (suc (suc zero))) r is b = let same : r ≡ [] = cc in subst (λ y. Ahead (y ++ s) (kinds_from ts j)) same b
      go (suc (suc (suc (suc i)))) r is b = absurd (cc)

-- ---- arguments

closing_named : (m : Mark) → IsTrue (closes_arguments m) → ltb (mark_number m) 60 ≡ true
closing_named mark.RightParenthesis h = refl
closing_named mark.RightBracket h = refl
closing_named m h = absurd (cc)

closing_picks : (m : Mark) → IsTrue (closes_arguments m) → pick table production.optional_arguments (suc (mark_number m)) ≡ Some 1
closing_picks mark.RightParenthesis h = refl
closing_picks mark.RightBracket h = refl
closing_picks m h = absurd (cc)

pub arguments_none : {source : List ℕ} {ts : List Token} {i j : ℕ} {close : Mark} (v : Vec Expression) → IsTrue (closes_arguments close) → kind_at ts i ≡ Some (kind.Mark close) → Skips ts i j → v.items ≡ [] → ReadsArguments source ts i j close v
arguments_none {source = source} {ts = ts} {i = i} {close = close} v c h skips none = record {
  is = record {
    from = λ s a.
        let b = use_next production.optional_arguments _ 1 [] a (next_is ts i (kind.Mark close) h) (closing_picks close c) refl in
        let p = pass b skips in
        record { span = p.token ∷ []; piece = p.piece; is = subst (λ y. AreEnclosed source close y (p.token ∷ [])) (sym none) (is.none p.token (same_kind _ (kind.Mark close) p.number (closing_named close c))); ahead = p.ahead };
  };
}

listed : {s : List Symbol} (ts : List Token) (i : ℕ) (close : Mark) → IsTrue (closes_arguments close) → (kind_at ts i ≡ Some (kind.Mark close) → ⊥) → Ahead (Part production.optional_arguments ∷ production.sign close ∷ s) (kinds_from ts i) → Ahead (Part production.expression ∷ Part production.more_arguments ∷ production.sign close ∷ s) (kinds_from ts i)
listed ts i close c other a =
    single production.arguments (Part production.expression ∷ Part production.more_arguments ∷ [])
    (not_closed production.optional_arguments (Part production.arguments ∷ []) a refl refl (λ k. refl) (λ q. other (kind_is ts i (kind.Mark close) q (closing_named close c)))) refl (λ k. refl)

pub arguments_begun : {source : List ℕ} {ts : List Token} {i d : ℕ} {close : Mark} → IsTrue (closes_arguments close) → Begun source ts i d (arguments_before close) → (kind_at ts i ≡ Some (kind.Mark close) → ⊥) → Begun source ts i d (part production.expression)
arguments_begun {ts = ts} {i = i} {close = close} c b other = record { cut = b.cut; behind = Part production.more_arguments ∷ production.sign close ∷ b.behind; ahead = listed ts i close c other b.ahead; room = b.room }

pub arguments_start : {source : List ℕ} {ts : List Token} {i j : ℕ} {close : Mark} {x : Expression} {xs : List Expression} → IsTrue (closes_arguments close) → (kind_at ts i ≡ Some (kind.Mark close) → ⊥) → ReadsExpression source ts i j 0 x → xs ≡ x ∷ [] → Reads ts i j (arguments_before close) (Part production.more_arguments ∷ production.sign close ∷ []) (AreListed source xs)
arguments_start {source = source} {ts = ts} {i = i} {close = close} c other r is_ = record {
  from = λ s a.
      let one = r.is.from (Part production.more_arguments ∷ production.sign close ∷ s) (listed ts i close c other a) in
      record { span = one.span; piece = one.piece; is = subst (λ y. AreListed source y one.span) (sym is_) (is.one one.is); ahead = one.ahead };
}

commaed : {s : List Symbol} (ts : List Token) (i : ℕ) → Ahead (Part production.more_arguments ∷ s) (kinds_from ts i) → kind_at ts i ≡ Some (kind.Mark mark.Comma) → Ahead (production.sign mark.Comma ∷ Part production.expression ∷ Part production.more_arguments ∷ s) (kinds_from ts i)
commaed ts i a h = use_next production.more_arguments _ 0 (production.sign mark.Comma ∷ Part production.expression ∷ Part production.more_arguments ∷ []) a (next_is ts i (kind.Mark mark.Comma) h) refl refl

pub arguments_next : {source : List ℕ} {ts : List Token} {i j k d : ℕ} (close : Mark) {P : List Token → Type 0} → Begun source ts i d (arguments_before close) → Reads ts i j (arguments_before close) (Part production.more_arguments ∷ production.sign close ∷ []) P → kind_at ts j ≡ Some (kind.Mark mark.Comma) → Skips ts j k → Begun source ts k d (part production.expression)
arguments_next {ts = ts} {j = j} close b r h skips =
    let one = r.from b.behind b.ahead in
    record { cut = b.cut; behind = Part production.more_arguments ∷ production.sign close ∷ b.behind; ahead = (pass (commaed ts j one.ahead h) skips).ahead; room = b.room }

pub arguments_more : {source : List ℕ} {ts : List Token} {i j k m : ℕ} (close : Mark) {x : Expression} {xs ys : List Expression} → Reads ts i j (arguments_before close) (Part production.more_arguments ∷ production.sign close ∷ []) (AreListed source xs) → kind_at ts j ≡ Some (kind.Mark mark.Comma) → Skips ts j k → ReadsExpression source ts k m 0 x → ys ≡ xs ++ x ∷ [] → Reads ts i m (arguments_before close) (Part production.more_arguments ∷ production.sign close ∷ []) (AreListed source ys)
arguments_more {source = source} {ts = ts} {j = j} close r h skips q is_ = record {
  from = λ s a.
      let one = r.from s a in
      let p = pass (commaed ts j one.ahead h) skips in
      let two_ = q.is.from (Part production.more_arguments ∷ production.sign close ∷ s) p.ahead in
      let w = one.span ++ (p.token ∷ two_.span) in
      record { span = w; piece = joined one.piece (joined p.piece two_.piece); is = subst (λ y. AreListed source y w) (sym is_) (is.more p.token one.is (same_kind _ (kind.Mark mark.Comma) p.number refl) two_.is); ahead = two_.ahead };
}

pub arguments_on : {source : List ℕ} {ts : List Token} {i j k m d : ℕ} (close : Mark) {x : Expression} {P : List Token → Type 0} → Begun source ts i d (arguments_before close) → Reads ts i j (arguments_before close) (Part production.more_arguments ∷ production.sign close ∷ []) P → kind_at ts j ≡ Some (kind.Mark mark.Comma) → Skips ts j k → ReadsExpression source ts k m 0 x → length ts - m < length ts - j
arguments_on {ts = ts} {j = j} close b r h skips q =
    let one = r.from b.behind b.ahead in
    let p = pass (commaed ts j one.ahead h) skips in
    let two_ = q.is.from (Part production.more_arguments ∷ production.sign close ∷ b.behind) p.ahead in
    gets_on (joined p.piece two_.piece) (omega arith)

pub arguments_whole : {source : List ℕ} {ts : List Token} {i j k : ℕ} (close : Mark) (v : Vec Expression) → IsTrue (closes_arguments close) → Reads ts i j (arguments_before close) (Part production.more_arguments ∷ production.sign close ∷ []) (AreListed source v.items) → (kind_at ts j ≡ Some (kind.Mark mark.Comma) → ⊥) → Skips ts j k → ReadsArguments source ts i k close v
arguments_whole {ts = ts} {j = j} close v c r other skips = record {
  is = record {
    from = λ s a.
        let one = r.from s a in
        let b = no_more production.more_arguments _ (Part production.expression ∷ Part production.more_arguments ∷ []) one.ahead refl refl (λ k. refl) (λ q. other (kind_is ts j (kind.Mark mark.Comma) q refl)) in
        let p = pass b skips in
        record { span = one.span ++ (p.token ∷ []); piece = joined one.piece p.piece; is = is.some p.token one.is (same_kind _ (kind.Mark close) p.number (closing_named close c)); ahead = p.ahead };
  };
}

-- ---- operands

-- a form that begins with a token of a kind
begins : {s : List Symbol} (ts : List Token) (i : ℕ) (k : TokenKind) (j : ℕ) (r : List Symbol) → Ahead (Part production.primary ∷ s) (kinds_from ts i) → kind_at ts i ≡ Some k → pick table production.primary (suc (kind_number k)) ≡ Some j → production.the_rules production.primary j ≡ Some r → Ahead (r ++ s) (kinds_from ts i)
begins ts i k j r a h picks rule = use_next production.primary _ j r a (next_is ts i k h) picks rule

pub operand_lexeme : {source : List ℕ} {ts : List Token} {i j : ℕ} {l : Lexeme} {x : Expression} (k : TokenKind) (n : ℕ) (f : Lexeme → Expression) → ((t : Token) → t.kind ≡ k → IsExpression source 9 (f (lexeme_of source t)) (t ∷ [])) → pick table production.primary (suc (kind_number k)) ≡ Some n → production.the_rules production.primary n ≡ Some (grammar.Token (kind_number k) ∷ []) → ltb (kind_number k) 60 ≡ true → kind_at ts i ≡ Some k → Lexed source ts i j l → x ≡ f l → ReadsExpression source ts i j 9 x
operand_lexeme {source = source} {ts = ts} {i = i} {x = x} k n f form picks rule named h l x_is = record {
  is = record {
    from = λ s a.
        let p = pass (begins ts i k n (grammar.Token (kind_number k) ∷ []) a h picks rule) l.skips in
        record { span = p.token ∷ []; piece = p.piece; is = subst (λ y. IsExpression source 9 y (p.token ∷ [])) (sym (x_is ∙ ap f (l.is p.token p.at))) (form p.token (same_kind _ k p.number named)); ahead = p.ahead };
  };
}

pub operand_word : {source : List ℕ} {ts : List Token} {i j : ℕ} {y : Span} (k : TokenKind) (n : ℕ) (f : Span → Expression) → ((t : Token) → t.kind ≡ k → IsExpression source 9 (f (span_of (t ∷ []))) (t ∷ [])) → pick table production.primary (suc (kind_number k)) ≡ Some n → production.the_rules production.primary n ≡ Some (grammar.Token (kind_number k) ∷ []) → ltb (kind_number k) 60 ≡ true → kind_at ts i ≡ Some k → Skips ts i j → y ≡ span_between ts i j → ReadsExpression source ts i j 9 (f y)
operand_word {ts = ts} {i = i} k n f form picks rule named h skips sp = record {
  is = record {
    from = λ s a.
        let p = pass (begins ts i k n (grammar.Token (kind_number k) ∷ []) a h picks rule) skips in
        spanned f p.piece (form p.token (same_kind _ k p.number named)) sp p.ahead;
  };
}

-- nothing else begins an operand
some_operand : {source : List ℕ} {ts : List Token} {i d : ℕ} → Begun source ts i d (part production.primary) → (l : ℕ) → next (kinds_from ts i) ≡ l → (n : ℕ) × (pick table production.primary l ≡ Some n)
some_operand b l is = let q = some_side production.primary b.ahead in (q.number, ap (λ y. pick table production.primary y) (sym is) ∙ q.picked)

pub operand_there : {source : List ℕ} {ts : List Token} {i d : ℕ} → Begun source ts i d (part production.primary) → kind_at ts i ≡ None → ⊥
operand_there {ts = ts} {i = i} b none = let q = some_operand b 0 (no_next ts i none) in (let f = q.1 in cc)

other_word : (k : Keyword) (n : ℕ) → (k ≡ keyword.True → ⊥) → (k ≡ keyword.False → ⊥) → (k ≡ keyword.Null → ⊥) → (k ≡ keyword.This → ⊥) → (k ≡ keyword.Super → ⊥) → (k ≡ keyword.New → ⊥) → pick table production.primary (suc (keyword_number k)) ≡ Some n → ⊥
other_word keyword.True n a b c d f g h = a refl
other_word keyword.False n a b c d f g h = b refl
other_word keyword.Null n a b c d f g h = c refl
other_word keyword.This n a b c d f g h = d refl
other_word keyword.Super n a b c d f g h = f refl
other_word keyword.New n a b c d f g h = g refl
other_word k n a b c d f g h = cc

pub operand_word_known : {source : List ℕ} {ts : List Token} {i d : ℕ} {k : Keyword} → Begun source ts i d (part production.primary) → kind_at ts i ≡ Some (kind.Keyword k) → (k ≡ keyword.True → ⊥) → (k ≡ keyword.False → ⊥) → (k ≡ keyword.Null → ⊥) → (k ≡ keyword.This → ⊥) → (k ≡ keyword.Super → ⊥) → (k ≡ keyword.New → ⊥) → ⊥
operand_word_known {ts = ts} {i = i} {k = k} b h p q r s t u = let o = some_operand b _ (next_is ts i (kind.Keyword k) h) in other_word k o.0 p q r s t u o.1

other_mark : (m : Mark) (n : ℕ) → (m ≡ mark.LeftParenthesis → ⊥) → (m ≡ mark.LeftBracket → ⊥) → pick table production.primary (suc (mark_number m)) ≡ Some n → ⊥
other_mark mark.LeftParenthesis n a b h = a refl
other_mark mark.LeftBracket n a b h = b refl
other_mark m n a b h = cc

pub operand_mark_known : {source : List ℕ} {ts : List Token} {i d : ℕ} {m : Mark} → Begun source ts i d (part production.primary) → kind_at ts i ≡ Some (kind.Mark m) → (m ≡ mark.LeftParenthesis → ⊥) → (m ≡ mark.LeftBracket → ⊥) → ⊥
operand_mark_known {ts = ts} {i = i} {m = m} b h p q = let o = some_operand b _ (next_is ts i (kind.Mark m) h) in other_mark m o.0 p q o.1

bracketed : {s : List Symbol} (ts : List Token) (i : ℕ) → Ahead (Part production.primary ∷ s) (kinds_from ts i) → kind_at ts i ≡ Some (kind.Mark mark.LeftParenthesis) → Ahead (production.sign mark.LeftParenthesis ∷ Part production.expression ∷ production.sign mark.RightParenthesis ∷ s) (kinds_from ts i)
bracketed ts i a h = begins ts i (kind.Mark mark.LeftParenthesis) 8 (production.sign mark.LeftParenthesis ∷ Part production.expression ∷ production.sign mark.RightParenthesis ∷ []) a h refl refl

pub parenthesized_begun : {source : List ℕ} {ts : List Token} {i j d : ℕ} → Begun source ts i d (part production.primary) → kind_at ts i ≡ Some (kind.Mark mark.LeftParenthesis) → Skips ts i j → Begun source ts j d (part production.expression)
parenthesized_begun {ts = ts} {i = i} b h skips = record { cut = b.cut; behind = production.sign mark.RightParenthesis ∷ b.behind; ahead = (pass (bracketed ts i b.ahead h) skips).ahead; room = b.room }

pub parenthesized_whole : {source : List ℕ} {ts : List Token} {i j k m : ℕ} {x : Expression} {f : Box Expression} {p : Span} → kind_at ts i ≡ Some (kind.Mark mark.LeftParenthesis) → Skips ts i j → ReadsExpression source ts j k 0 x → Skips ts k m → f.value ≡ x → p ≡ span_between ts i m → ReadsExpression source ts i m 9 (e.Parenthesized p f)
parenthesized_whole {ts = ts} {i = i} {f = f} h skips r skips2 fx sp = record {
  is = record {
    from = λ s a.
        let p1 = pass (bracketed ts i a h) skips in
        let one = r.is.from (production.sign mark.RightParenthesis ∷ s) p1.ahead in
        let p2 = pass one.ahead skips2 in
        spanned (λ y. e.Parenthesized y f) (joined p1.piece (joined one.piece p2.piece)) (is.parenthesized p1.token p2.token (same_kind _ (kind.Mark mark.LeftParenthesis) p1.number refl) (inside f fx one.is) (same_kind _ (kind.Mark mark.RightParenthesis) p2.number refl)) sp p2.ahead;
  };
}

itemed : {s : List Symbol} (ts : List Token) (i : ℕ) → Ahead (Part production.primary ∷ s) (kinds_from ts i) → kind_at ts i ≡ Some (kind.Mark mark.LeftBracket) → Ahead (production.sign mark.LeftBracket ∷ Part production.optional_arguments ∷ production.sign mark.RightBracket ∷ s) (kinds_from ts i)
itemed ts i a h = begins ts i (kind.Mark mark.LeftBracket) 9 (production.sign mark.LeftBracket ∷ Part production.optional_arguments ∷ production.sign mark.RightBracket ∷ []) a h refl refl

pub array_begun : {source : List ℕ} {ts : List Token} {i j d : ℕ} → Begun source ts i d (part production.primary) → kind_at ts i ≡ Some (kind.Mark mark.LeftBracket) → Skips ts i j → Begun source ts j d (arguments_before mark.RightBracket)
array_begun {ts = ts} {i = i} b h skips = record { cut = b.cut; behind = b.behind; ahead = (pass (itemed ts i b.ahead h) skips).ahead; room = b.room }

pub array_whole : {source : List ℕ} {ts : List Token} {i j k : ℕ} (v : Vec Expression) {p : Span} → kind_at ts i ≡ Some (kind.Mark mark.LeftBracket) → Skips ts i j → ReadsArguments source ts j k mark.RightBracket v → p ≡ span_between ts i k → ReadsExpression source ts i k 9 (e.Array p v)
array_whole {ts = ts} {i = i} v h skips r sp = record {
  is = record {
    from = λ s a.
        let p1 = pass (itemed ts i a h) skips in
        let one = r.is.from s p1.ahead in
        spanned (λ y. e.Array y v) (joined p1.piece one.piece) (is.array v p1.token (same_kind _ (kind.Mark mark.LeftBracket) p1.number refl) one.is) sp one.ahead;
  };
}

made : {s : List Symbol} (ts : List Token) (i : ℕ) → Ahead (Part production.primary ∷ s) (kinds_from ts i) → kind_at ts i ≡ Some (kind.Keyword keyword.New) → Ahead (production.word keyword.New ∷ Part production.path ∷ production.sign mark.LeftParenthesis ∷ Part production.optional_arguments ∷ production.sign mark.RightParenthesis ∷ s) (kinds_from ts i)
made ts i a h = begins ts i (kind.Keyword keyword.New) 10 (production.word keyword.New ∷ Part production.path ∷ production.sign mark.LeftParenthesis ∷ Part production.optional_arguments ∷ production.sign mark.RightParenthesis ∷ []) a h refl refl

pub new_path : {source : List ℕ} {ts : List Token} {i j d : ℕ} → Begun source ts i d (part production.primary) → kind_at ts i ≡ Some (kind.Keyword keyword.New) → Skips ts i j → Begun source ts j limit (part production.path)
new_path {ts = ts} {i = i} b h skips = record { cut = b.cut; behind = production.sign mark.LeftParenthesis ∷ Part production.optional_arguments ∷ production.sign mark.RightParenthesis ∷ b.behind; ahead = (pass (made ts i b.ahead h) skips).ahead; room = omega arith }

pub new_arguments : {source : List ℕ} {ts : List Token} {i j k m d : ℕ} {v : Vec Lexeme} → Begun source ts i d (part production.primary) → kind_at ts i ≡ Some (kind.Keyword keyword.New) → Skips ts i j → ReadsPath source ts j k v → Skips ts k m → Begun source ts m d (arguments_before mark.RightParenthesis)
new_arguments {ts = ts} {i = i} b h skips r skips2 =
    let one = r.is.from (production.sign mark.LeftParenthesis ∷ Part production.optional_arguments ∷ production.sign mark.RightParenthesis ∷ b.behind) (pass (made ts i b.ahead h) skips).ahead in
    record { cut = b.cut; behind = b.behind; ahead = (pass one.ahead skips2).ahead; room = b.room }

pub new_whole : {source : List ℕ} {ts : List Token} {i j k m n : ℕ} (v : Vec Lexeme) (u : Vec Expression) {p : Span} → kind_at ts i ≡ Some (kind.Keyword keyword.New) → Skips ts i j → ReadsPath source ts j k v → Skips ts k m → ReadsArguments source ts m n mark.RightParenthesis u → p ≡ span_between ts i n → ReadsExpression source ts i n 9 (e.New p v u)
new_whole {ts = ts} {i = i} v u h skips r skips2 q sp = record {
  is = record {
    from = λ s a.
        let p1 = pass (made ts i a h) skips in
        let one = r.is.from (production.sign mark.LeftParenthesis ∷ Part production.optional_arguments ∷ production.sign mark.RightParenthesis ∷ s) p1.ahead in
        let p2 = pass one.ahead skips2 in
        let two_ = q.is.from s p2.ahead in
        spanned (λ y. e.New y v u) (joined p1.piece (joined one.piece (joined p2.piece two_.piece))) (is.new v u p1.token p2.token (same_kind _ (kind.Keyword keyword.New) p1.number refl) one.is (same_kind _ (kind.Mark mark.LeftParenthesis) p2.number refl) two_.is) sp two_.ahead;
  };
}
