-- How variables and simple statements are read.
use Rattle.std.proofs.Common.{◌≡◌, inl, inr, ℕ, zero, suc, ◌-◌, ◌<◌, List, [], ◌∷◌, ◌++◌, length, Option, Some, None, refl, sym, ap, subst, ◌∙◌, arith, length-append, ltb, true}
use Rattle.std.specs.Global.{Vec}
use Rattle.as3_lexer.specs.declared.mark.Mark.{Mark}
use Rattle.as3_lexer.specs.declared.mark.Mark.TheVariants as mark
use Rattle.as3_lexer.specs.declared.token.Token.{Token}
use Rattle.as3_lexer.specs.declared.token.TokenKind.{TokenKind}
use Rattle.as3_lexer.specs.declared.token.TokenKind.TheVariants as kind
use Rattle.as3_parser.specs.declared.tree.Span.{Span}
use Rattle.as3_parser.specs.declared.tree.Lexeme.{Lexeme}
use Rattle.as3_parser.specs.declared.tree.Expression.{Expression}
use Rattle.as3_parser.specs.declared.tree.Variable.{Variable}
use Rattle.as3_parser.specs.declared.tree.AssignmentOperator.{AssignmentOperator}
use Rattle.as3_parser.specs.declared.tree.AssignmentOperator.TheVariants as assignment_operator
use Rattle.as3_parser.specs.declared.tree.StepOperator.{StepOperator}
use Rattle.as3_parser.specs.declared.tree.StepOperator.TheVariants as step_operator
use Rattle.as3_parser.specs.declared.tree.SimpleStatement.{SimpleStatement}
use Rattle.as3_parser.specs.declared.tree.SimpleStatement.TheVariants as simple_statement
use Rattle.as3_parser.specs.Grammar.{Symbol, Part}
use Rattle.as3_parser.specs.Predicts.{next}
use Rattle.as3_parser.specs.Kinds.{mark_number}
use Rattle.as3_parser.specs.Productions as production
use Rattle.as3_parser.specs.Syntax.{limit}
use Rattle.as3_parser.specs.Trees.{span_of}
use Rattle.as3_parser.specs.Spans.{span_between}
use Rattle.as3_parser.specs.Statements.{assignment_mark, step_mark, IsVariable, AreVariables, IsSimple}
use Rattle.as3_parser.specs.Statements as is
use Rattle.as3_parser.specs.Operators.{assignment_operator_at, step_operator_at}
use Rattle.as3_parser.specs.Ahead.{Ahead, kinds_from, kind_at, Begun, Skips, Lexed, IsThere, Piece, Reached, Reads}
use Rattle.as3_parser.specs.Forms.{part, declarations, ReadsExpression, ReadsPath, ReadsVariable, ReadsVariables, ReadsSimple}
use Rattle.as3_parser.proofs.Ahead.{some_side}
use Rattle.as3_parser.proofs.NamedKinds.{same_kind}
use Rattle.as3_parser.proofs.Reach.{pass, there_is, next_is, kind_is, single, two, no_more, use_next, starts_with_token, joined, gets_on, spans}
use Rattle.as3_parser.proofs.ExpressionSteps.{expression_some}

-- ---- a variable

abbrev variable : Lexeme → Vec Lexeme → Option Expression → Variable
variable l v x = record { name = l; type_name = v; value = x }

opened : {s : List Symbol} {w : List ℕ} → Ahead (Part production.declaration ∷ s) w → Ahead (production.identifier ∷ production.sign mark.Colon ∷ Part production.path ∷ Part production.initial_value ∷ s) w
opened a = single production.declaration (production.identifier ∷ production.sign mark.Colon ∷ Part production.path ∷ Part production.initial_value ∷ []) a refl (λ k. refl)

valued : {s : List Symbol} (ts : List Token) (i : ℕ) → Ahead (Part production.initial_value ∷ s) (kinds_from ts i) → kind_at ts i ≡ Some (kind.Mark mark.Assign) → Ahead (production.sign mark.Assign ∷ Part production.expression ∷ s) (kinds_from ts i)
valued ts i a h = use_next production.initial_value _ 0 (production.sign mark.Assign ∷ Part production.expression ∷ []) a (next_is ts i (kind.Mark mark.Assign) h) refl refl

pub variable_name : {source : List ℕ} {ts : List Token} {i d : ℕ} → Begun source ts i d (part production.declaration) → IsThere source ts i
variable_name b = there_is b.cut (opened b.ahead)

pub variable_path : {source : List ℕ} {ts : List Token} {i j k d : ℕ} {l : Lexeme} → Begun source ts i d (part production.declaration) → Lexed source ts i j l → Skips ts j k → Begun source ts k limit (part production.path)
variable_path b l skips = record { cut = b.cut; behind = Part production.initial_value ∷ b.behind; ahead = (pass (pass (opened b.ahead) l.skips).ahead skips).ahead; room = omega arith }

pub variable_plain : {source : List ℕ} {ts : List Token} {i j k m : ℕ} {l : Lexeme} (v : Vec Lexeme) → Lexed source ts i j l → Skips ts j k → ReadsPath source ts k m v → (kind_at ts m ≡ Some (kind.Mark mark.Assign) → ⊥) → ReadsVariable source ts i m (variable l v None)
variable_plain {source = source} {ts = ts} {m = m} v l skips r other = record {
  is = record {
    from = λ s a.
        let p = pass (opened a) l.skips in
        let q = pass p.ahead skips in
        let one = r.is.from (Part production.initial_value ∷ s) q.ahead in
        let w = p.token ∷ q.token ∷ one.span in
        record {
          span = w;
          piece = joined p.piece (joined q.piece one.piece);
          is = subst (λ y. IsVariable source (variable y v None) w) (sym (l.is p.token p.at)) (is.plain v p.token q.token (same_kind _ kind.Identifier p.number refl) (same_kind _ (kind.Mark mark.Colon) q.number refl) one.is);
          ahead = no_more production.initial_value _ (Part production.expression ∷ []) one.ahead refl refl (λ k. refl) (λ e. other (kind_is ts m (kind.Mark mark.Assign) e refl));
        };
  };
}

pub variable_value : {source : List ℕ} {ts : List Token} {i j k m n d : ℕ} {l : Lexeme} {v : Vec Lexeme} → Begun source ts i d (part production.declaration) → Lexed source ts i j l → Skips ts j k → ReadsPath source ts k m v → kind_at ts m ≡ Some (kind.Mark mark.Assign) → Skips ts m n → Begun source ts n d (part production.expression)
variable_value {ts = ts} {m = m} b l skips r h skips2 =
    let q = pass (pass (opened b.ahead) l.skips).ahead skips in
    let one = r.is.from (Part production.initial_value ∷ b.behind) q.ahead in
    record { cut = b.cut; behind = b.behind; ahead = (pass (valued ts m one.ahead h) skips2).ahead; room = b.room }

pub variable_whole : {source : List ℕ} {ts : List Token} {i j k m n o : ℕ} {l : Lexeme} (v : Vec Lexeme) {x : Expression} → Lexed source ts i j l → Skips ts j k → ReadsPath source ts k m v → kind_at ts m ≡ Some (kind.Mark mark.Assign) → Skips ts m n → ReadsExpression source ts n o 0 x → ReadsVariable source ts i o (variable l v (Some x))
variable_whole {source = source} {ts = ts} {m = m} v {x = x} l skips r h skips2 q = record {
  is = record {
    from = λ s a.
        let p = pass (opened a) l.skips in
        let c = pass p.ahead skips in
        let one = r.is.from (Part production.initial_value ∷ s) c.ahead in
        let z = pass (valued ts m one.ahead h) skips2 in
        let value = q.is.from s z.ahead in
        let w = p.token ∷ c.token ∷ (one.span ++ (z.token ∷ value.span)) in
        record {
          span = w;
          piece = joined p.piece (joined c.piece (joined one.piece (joined z.piece value.piece)));
          is = subst (λ y. IsVariable source (variable y v (Some x)) w) (sym (l.is p.token p.at)) (is.with_value v p.token c.token z.token (same_kind _ kind.Identifier p.number refl) (same_kind _ (kind.Mark mark.Colon) c.number refl) one.is (same_kind _ (kind.Mark mark.Assign) z.number refl) value.is);
          ahead = value.ahead;
        };
  };
}

-- ---- variables

abbrev pub behind_variables : List Symbol
behind_variables = part production.more_declarations

commaed : {s : List Symbol} (ts : List Token) (i : ℕ) → Ahead (Part production.more_declarations ∷ s) (kinds_from ts i) → kind_at ts i ≡ Some (kind.Mark mark.Comma) → Ahead (production.sign mark.Comma ∷ Part production.declaration ∷ Part production.more_declarations ∷ s) (kinds_from ts i)
commaed ts i a h = use_next production.more_declarations _ 0 (production.sign mark.Comma ∷ Part production.declaration ∷ Part production.more_declarations ∷ []) a (next_is ts i (kind.Mark mark.Comma) h) refl refl

pub variables_begun : {source : List ℕ} {ts : List Token} {i d : ℕ} → Begun source ts i d declarations → Begun source ts i d (part production.declaration)
variables_begun b = record { cut = b.cut; behind = Part production.more_declarations ∷ b.behind; ahead = b.ahead; room = b.room }

pub variables_start : {source : List ℕ} {ts : List Token} {i j : ℕ} {x : Variable} {xs : List Variable} → ReadsVariable source ts i j x → xs ≡ x ∷ [] → Reads ts i j declarations behind_variables (AreVariables source xs)
variables_start {source = source} r same = record {
  from = λ s a.
      let one = r.is.from (Part production.more_declarations ∷ s) a in
      record { span = one.span; piece = one.piece; is = subst (λ y. AreVariables source y one.span) (sym same) (is.one one.is); ahead = one.ahead };
}

pub variables_next : {source : List ℕ} {ts : List Token} {i j k d : ℕ} {P : List Token → Type 0} → Begun source ts i d declarations → Reads ts i j declarations behind_variables P → kind_at ts j ≡ Some (kind.Mark mark.Comma) → Skips ts j k → Begun source ts k d (part production.declaration)
variables_next {ts = ts} {j = j} b r h skips =
    let one = r.from b.behind b.ahead in
    record { cut = b.cut; behind = Part production.more_declarations ∷ b.behind; ahead = (pass (commaed ts j one.ahead h) skips).ahead; room = b.room }

pub variables_more : {source : List ℕ} {ts : List Token} {i j k m : ℕ} {x : Variable} {xs ys : List Variable} → Reads ts i j declarations behind_variables (AreVariables source xs) → kind_at ts j ≡ Some (kind.Mark mark.Comma) → Skips ts j k → ReadsVariable source ts k m x → ys ≡ xs ++ x ∷ [] → Reads ts i m declarations behind_variables (AreVariables source ys)
variables_more {source = source} {ts = ts} {j = j} r h skips q same = record {
  from = λ s a.
      let one = r.from s a in
      let p = pass (commaed ts j one.ahead h) skips in
      let next = q.is.from (Part production.more_declarations ∷ s) p.ahead in
      let w = one.span ++ (p.token ∷ next.span) in
      record { span = w; piece = joined one.piece (joined p.piece next.piece); is = subst (λ y. AreVariables source y w) (sym same) (is.more p.token one.is (same_kind _ (kind.Mark mark.Comma) p.number refl) next.is); ahead = next.ahead };
}

pub variables_on : {source : List ℕ} {ts : List Token} {i j k m d : ℕ} {x : Variable} {P : List Token → Type 0} → Begun source ts i d declarations → Reads ts i j declarations behind_variables P → kind_at ts j ≡ Some (kind.Mark mark.Comma) → Skips ts j k → ReadsVariable source ts k m x → length ts - m < length ts - j
variables_on {ts = ts} {j = j} b r h skips q =
    let one = r.from b.behind b.ahead in
    let p = pass (commaed ts j one.ahead h) skips in
    let next = q.is.from (Part production.more_declarations ∷ b.behind) p.ahead in
    gets_on (joined p.piece next.piece) (omega arith)

pub variables_end : {source : List ℕ} {ts : List Token} {i j : ℕ} (v : Vec Variable) → Reads ts i j declarations behind_variables (AreVariables source v.items) → (kind_at ts j ≡ Some (kind.Mark mark.Comma) → ⊥) → ReadsVariables source ts i j v
variables_end {ts = ts} {j = j} v r other = record {
  is = record {
    from = λ s a.
        let one = r.from s a in
        record { span = one.span; piece = one.piece; is = one.is; ahead = no_more production.more_declarations _ (Part production.declaration ∷ Part production.more_declarations ∷ []) one.ahead refl refl (λ k. refl) (λ e. other (kind_is ts j (kind.Mark mark.Comma) e refl)) };
  };
}

-- ---- simple statements

pub simple_some : {source : List ℕ} {x : SimpleStatement} {w : List Token} → IsSimple source x w → 0 < length w
simple_some (is.expression d) = expression_some d
simple_some (is.assignment {v = v} {w = w} o t d k f) = let h = length-append v (t ∷ w) in omega arith
simple_some (is.prefix o t k d) = omega arith
simple_some (is.postfix {w = w} o t d k) = let h = length-append w (t ∷ []) in omega arith

spanned : {source : List ℕ} {ts : List Token} {i j : ℕ} {y : Span} {w : List Token} {left : List Symbol} (f : Span → SimpleStatement) → Piece ts i j w → IsSimple source (f (span_of w)) w → y ≡ span_between ts i j → Ahead left (kinds_from ts j) → Reached ts i j left (IsSimple source (f y))
spanned {source = source} {w = w} f piece d y_is ahead = record { span = w; piece = piece; is = subst (λ z. IsSimple source (f z) w) (sym (spans piece (simple_some d) y_is)) d; ahead = ahead }

step_is : (k : Option TokenKind) (o : StepOperator) → step_operator_at k ≡ Some o → k ≡ Some (kind.Mark (step_mark o))
step_is (Some (kind.Mark mark.Increment)) o h = ap (λ y. Some (kind.Mark (step_mark y))) (let same : step_operator.Increment ≡ o = cc in same)
step_is (Some (kind.Mark mark.Decrement)) o h = ap (λ y. Some (kind.Mark (step_mark y))) (let same : step_operator.Decrement ≡ o = cc in same)
step_is _ o h = absurd (cc)

assignment_is : (k : Option TokenKind) (o : AssignmentOperator) → assignment_operator_at k ≡ Some o → k ≡ Some (kind.Mark (assignment_mark o))
assignment_is (Some (kind.Mark mark.Assign)) o h = ap (λ y. Some (kind.Mark (assignment_mark y))) (let same : assignment_operator.Assign ≡ o = cc in same)
assignment_is (Some (kind.Mark mark.PlusAssign)) o h = ap (λ y. Some (kind.Mark (assignment_mark y))) (let same : assignment_operator.Add ≡ o = cc in same)
assignment_is (Some (kind.Mark mark.MinusAssign)) o h = ap (λ y. Some (kind.Mark (assignment_mark y))) (let same : assignment_operator.Subtract ≡ o = cc in same)
assignment_is (Some (kind.Mark mark.StarAssign)) o h = ap (λ y. Some (kind.Mark (assignment_mark y))) (let same : assignment_operator.Multiply ≡ o = cc in same)
assignment_is _ o h = absurd (cc)

no_step : (k : Option TokenKind) (m : Mark) → step_operator_at k ≡ None → (step_operator_at (Some (kind.Mark m)) ≡ None → ⊥) → k ≡ Some (kind.Mark m) → ⊥
no_step k m none some is = some (ap (λ y. step_operator_at y) (sym is) ∙ none)

no_assignment : (k : Option TokenKind) (m : Mark) → assignment_operator_at k ≡ None → (assignment_operator_at (Some (kind.Mark m)) ≡ None → ⊥) → k ≡ Some (kind.Mark m) → ⊥
no_assignment k m none some is = some (ap (λ y. assignment_operator_at y) (sym is) ∙ none)

named_step : (o : StepOperator) → ltb (mark_number (step_mark o)) 60 ≡ true
named_step step_operator.Increment = refl
named_step step_operator.Decrement = refl

named_assignment : (o : AssignmentOperator) → ltb (mark_number (assignment_mark o)) 60 ≡ true
named_assignment assignment_operator.Assign = refl
named_assignment assignment_operator.Add = refl
named_assignment assignment_operator.Subtract = refl
named_assignment assignment_operator.Multiply = refl

-- a prefix
stepping : {s : List Symbol} {w : List ℕ} (o : StepOperator) → Ahead (Part production.simple ∷ s) w → next w ≡ suc (mark_number (step_mark o)) → Ahead (production.sign (step_mark o) ∷ Part production.postfix ∷ s) w
stepping step_operator.Increment a h = use_next production.step_sign _ 0 (production.sign mark.Increment ∷ []) (use_next production.simple _ 0 (Part production.step_sign ∷ Part production.postfix ∷ []) a h refl refl) h refl refl
stepping step_operator.Decrement a h = use_next production.step_sign _ 1 (production.sign mark.Decrement ∷ []) (use_next production.simple _ 0 (Part production.step_sign ∷ Part production.postfix ∷ []) a h refl refl) h refl refl

prefixed : {s : List Symbol} (ts : List Token) (i : ℕ) (o : StepOperator) → Ahead (Part production.simple ∷ s) (kinds_from ts i) → step_operator_at (kind_at ts i) ≡ Some o → Ahead (production.sign (step_mark o) ∷ Part production.postfix ∷ s) (kinds_from ts i)
prefixed ts i o a h = stepping o a (next_is ts i (kind.Mark (step_mark o)) (step_is (kind_at ts i) o h))

pub prefix_operand : {source : List ℕ} {ts : List Token} {i j d : ℕ} {o : StepOperator} → Begun source ts i d (part production.simple) → step_operator_at (kind_at ts i) ≡ Some o → Skips ts i j → Begun source ts j d (part production.postfix)
prefix_operand {ts = ts} {i = i} {o = o} b h skips = record { cut = b.cut; behind = b.behind; ahead = (pass (prefixed ts i o b.ahead h) skips).ahead; room = b.room }

pub prefix_whole : {source : List ℕ} {ts : List Token} {i j k : ℕ} {o : StepOperator} {x : Expression} {p : Span} → step_operator_at (kind_at ts i) ≡ Some o → Skips ts i j → ReadsExpression source ts j k 8 x → p ≡ span_between ts i k → ReadsSimple source ts i k (simple_statement.Prefix p o x)
prefix_whole {ts = ts} {i = i} {o = o} {x = x} h skips r sp = record {
  is = record {
    from = λ s a.
        let p1 = pass (prefixed ts i o a h) skips in
        let one = r.is.from s p1.ahead in
        spanned (λ y. simple_statement.Prefix y o x) (joined p1.piece one.piece) (is.prefix o p1.token (same_kind _ (kind.Mark (step_mark o)) p1.number (named_step o)) one.is) sp one.ahead;
  };
}

-- an expression first
begins : {s : List Symbol} (ts : List Token) (i : ℕ) → Ahead (Part production.simple ∷ s) (kinds_from ts i) → step_operator_at (kind_at ts i) ≡ None → Ahead (Part production.expression ∷ Part production.assignment ∷ s) (kinds_from ts i)
begins ts i a none = elim (two production.simple (Part production.step_sign ∷ Part production.postfix ∷ []) (Part production.expression ∷ Part production.assignment ∷ []) a refl refl (λ k. refl)) [
  | inl h ↦ absurd (elim (two production.step_sign (production.sign mark.Increment ∷ []) (production.sign mark.Decrement ∷ []) h refl refl (λ k. refl)) [
    | inl b ↦ no_step (kind_at ts i) mark.Increment none (λ q. cc) (kind_is ts i (kind.Mark mark.Increment) (starts_with_token b) refl)
    | inr b ↦ no_step (kind_at ts i) mark.Decrement none (λ q. cc) (kind_is ts i (kind.Mark mark.Decrement) (starts_with_token b) refl)
  ])
  | inr h ↦ h
]

pub target_begun : {source : List ℕ} {ts : List Token} {i d : ℕ} → Begun source ts i d (part production.simple) → step_operator_at (kind_at ts i) ≡ None → Begun source ts i d (part production.expression)
target_begun {ts = ts} {i = i} b none = record { cut = b.cut; behind = Part production.assignment ∷ b.behind; ahead = begins ts i b.ahead none; room = b.room }

assigning : {s : List Symbol} {w : List ℕ} (o : AssignmentOperator) → Ahead (Part production.assignment ∷ s) w → next w ≡ suc (mark_number (assignment_mark o)) → Ahead (production.sign (assignment_mark o) ∷ Part production.expression ∷ s) w
assigning assignment_operator.Assign a h = use_next production.assignment_sign _ 0 (production.sign mark.Assign ∷ []) (use_next production.assignment _ 0 (Part production.assignment_sign ∷ Part production.expression ∷ []) a h refl refl) h refl refl
assigning assignment_operator.Add a h = use_next production.assignment_sign _ 1 (production.sign mark.PlusAssign ∷ []) (use_next production.assignment _ 0 (Part production.assignment_sign ∷ Part production.expression ∷ []) a h refl refl) h refl refl
assigning assignment_operator.Subtract a h = use_next production.assignment_sign _ 2 (production.sign mark.MinusAssign ∷ []) (use_next production.assignment _ 0 (Part production.assignment_sign ∷ Part production.expression ∷ []) a h refl refl) h refl refl
assigning assignment_operator.Multiply a h = use_next production.assignment_sign _ 3 (production.sign mark.StarAssign ∷ []) (use_next production.assignment _ 0 (Part production.assignment_sign ∷ Part production.expression ∷ []) a h refl refl) h refl refl

assigned : {s : List Symbol} (ts : List Token) (i : ℕ) (o : AssignmentOperator) → Ahead (Part production.assignment ∷ s) (kinds_from ts i) → assignment_operator_at (kind_at ts i) ≡ Some o → Ahead (production.sign (assignment_mark o) ∷ Part production.expression ∷ s) (kinds_from ts i)
assigned ts i o a h = assigning o a (next_is ts i (kind.Mark (assignment_mark o)) (assignment_is (kind_at ts i) o h))

stepped_by : {s : List Symbol} {w : List ℕ} (o : StepOperator) → Ahead (Part production.assignment ∷ s) w → next w ≡ suc (mark_number (step_mark o)) → Ahead (production.sign (step_mark o) ∷ s) w
stepped_by step_operator.Increment a h = use_next production.assignment _ 1 (production.sign mark.Increment ∷ []) a h refl refl
stepped_by step_operator.Decrement a h = use_next production.assignment _ 2 (production.sign mark.Decrement ∷ []) a h refl refl

stepped : {s : List Symbol} (ts : List Token) (i : ℕ) (o : StepOperator) → Ahead (Part production.assignment ∷ s) (kinds_from ts i) → step_operator_at (kind_at ts i) ≡ Some o → Ahead (production.sign (step_mark o) ∷ s) (kinds_from ts i)
stepped ts i o a h = stepped_by o a (next_is ts i (kind.Mark (step_mark o)) (step_is (kind_at ts i) o h))

not_assigned : {s : List Symbol} (ts : List Token) (i : ℕ) → Ahead (Part production.assignment_sign ∷ s) (kinds_from ts i) → assignment_operator_at (kind_at ts i) ≡ None → ⊥
not_assigned {s = s} ts i a none = let q = some_side production.assignment_sign a in go q.number q.right q.is q.ahead where
  at : (m : Mark) (r : List Symbol) → r ≡ production.sign m ∷ [] → (assignment_operator_at (Some (kind.Mark m)) ≡ None → ⊥) → ltb (mark_number m) 60 ≡ true → Ahead (r ++ s) (kinds_from ts i) → ⊥
  at m r same some named b = no_assignment (kind_at ts i) m none some (kind_is ts i (kind.Mark m) (starts_with_token (subst (λ y. Ahead (y ++ s) (kinds_from ts i)) same b)) named)

  go : (n : ℕ) (r : List Symbol) → production.the_rules production.assignment_sign n ≡ Some r → Ahead (r ++ s) (kinds_from ts i) → ⊥
  go zero r is b = at mark.Assign r (let same : r ≡ production.sign mark.Assign ∷ [] = cc in same) (λ q. cc) refl b
  go (suc zero) r is b = at mark.PlusAssign r (let same : r ≡ production.sign mark.PlusAssign ∷ [] = cc in same) (λ q. cc) refl b
  go (suc (suc zero)) r is b = at mark.MinusAssign r (let same : r ≡ production.sign mark.MinusAssign ∷ [] = cc in same) (λ q. cc) refl b
  go (suc (suc (suc zero))) r is b = at mark.StarAssign r (let same : r ≡ production.sign mark.StarAssign ∷ [] = cc in same) (λ q. cc) refl b
  go (suc (suc (suc (suc n)))) r is b = cc

plain : {s : List Symbol} (ts : List Token) (i : ℕ) → Ahead (Part production.assignment ∷ s) (kinds_from ts i) → assignment_operator_at (kind_at ts i) ≡ None → step_operator_at (kind_at ts i) ≡ None → Ahead s (kinds_from ts i)
plain {s = s} ts i a no_sign no_step_ = let q = some_side production.assignment a in go q.number q.right q.is q.ahead where
  at : (m : Mark) (r : List Symbol) → r ≡ production.sign m ∷ [] → (step_operator_at (Some (kind.Mark m)) ≡ None → ⊥) → ltb (mark_number m) 60 ≡ true → Ahead (r ++ s) (kinds_from ts i) → ⊥
  at m r same some named b = no_step (kind_at ts i) m no_step_ some (kind_is ts i (kind.Mark m) (starts_with_token (subst (λ y. Ahead (y ++ s) (kinds_from ts i)) same b)) named)

  go : (n : ℕ) (r : List Symbol) → production.the_rules production.assignment n ≡ Some r → Ahead (r ++ s) (kinds_from ts i) → Ahead s (kinds_from ts i)
  go zero r is b = absurd (not_assigned ts i (let same : r ≡ Part production.assignment_sign ∷ Part production.expression ∷ [] = cc in subst (λ y. Ahead (y ++ s) (kinds_from ts i)) same b) no_sign)
  go (suc zero) r is b = absurd (at mark.Increment r (let same : r ≡ production.sign mark.Increment ∷ [] = cc in same) (λ q. cc) refl b)
  go (suc (suc zero)) r is b = absurd (at mark.Decrement r (let same : r ≡ production.sign mark.Decrement ∷ [] = cc in same) (λ q. cc) refl b)
  go (suc (suc (suc zero))) r is b = let same : r ≡ [] = cc in subst (λ y. Ahead (y ++ s) (kinds_from ts i)) same b
  go (suc (suc (suc (suc n)))) r is b = absurd (cc)

pub simple_plain : {source : List ℕ} {ts : List Token} {i j : ℕ} {x : Expression} → step_operator_at (kind_at ts i) ≡ None → ReadsExpression source ts i j 0 x → assignment_operator_at (kind_at ts j) ≡ None → step_operator_at (kind_at ts j) ≡ None → ReadsSimple source ts i j (simple_statement.Expression x)
simple_plain {ts = ts} {i = i} {j = j} first r a1 a2 = record {
  is = record {
    from = λ s a.
        let one = r.is.from (Part production.assignment ∷ s) (begins ts i a first) in
        record { span = one.span; piece = one.piece; is = is.expression one.is; ahead = plain ts j one.ahead a1 a2 };
  };
}

pub simple_step : {source : List ℕ} {ts : List Token} {i j k : ℕ} {o : StepOperator} {x : Expression} {p : Span} → step_operator_at (kind_at ts i) ≡ None → ReadsExpression source ts i j 0 x → step_operator_at (kind_at ts j) ≡ Some o → Skips ts j k → p ≡ span_between ts i k → ReadsSimple source ts i k (simple_statement.Postfix p o x)
simple_step {ts = ts} {i = i} {j = j} {o = o} {x = x} first r h skips sp = record {
  is = record {
    from = λ s a.
        let one = r.is.from (Part production.assignment ∷ s) (begins ts i a first) in
        let p1 = pass (stepped ts j o one.ahead h) skips in
        spanned (λ y. simple_statement.Postfix y o x) (joined one.piece p1.piece) (is.postfix o p1.token one.is (same_kind _ (kind.Mark (step_mark o)) p1.number (named_step o))) sp p1.ahead;
  };
}

pub value_begun : {source : List ℕ} {ts : List Token} {i j k d : ℕ} {o : AssignmentOperator} {x : Expression} → Begun source ts i d (part production.simple) → step_operator_at (kind_at ts i) ≡ None → ReadsExpression source ts i j 0 x → assignment_operator_at (kind_at ts j) ≡ Some o → Skips ts j k → Begun source ts k d (part production.expression)
value_begun {ts = ts} {i = i} {j = j} {o = o} b first r h skips =
    let one = r.is.from (Part production.assignment ∷ b.behind) (begins ts i b.ahead first) in
    record { cut = b.cut; behind = b.behind; ahead = (pass (assigned ts j o one.ahead h) skips).ahead; room = b.room }

pub simple_assignment : {source : List ℕ} {ts : List Token} {i j k m : ℕ} {o : AssignmentOperator} {x y : Expression} {p : Span} → step_operator_at (kind_at ts i) ≡ None → ReadsExpression source ts i j 0 x → assignment_operator_at (kind_at ts j) ≡ Some o → Skips ts j k → ReadsExpression source ts k m 0 y → p ≡ span_between ts i m → ReadsSimple source ts i m (simple_statement.Assignment p o x y)
simple_assignment {ts = ts} {i = i} {j = j} {o = o} {x = x} {y = y} first r h skips q sp = record {
  is = record {
    from = λ s a.
        let one = r.is.from (Part production.assignment ∷ s) (begins ts i a first) in
        let p1 = pass (assigned ts j o one.ahead h) skips in
        let value = q.is.from s p1.ahead in
        spanned (λ z. simple_statement.Assignment z o x y) (joined one.piece (joined p1.piece value.piece)) (is.assignment o p1.token one.is (same_kind _ (kind.Mark (assignment_mark o)) p1.number (named_assignment o)) value.is) sp value.ahead;
  };
}
