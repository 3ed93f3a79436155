-- How imports and members are read.
use Rattle.std.proofs.Common.{◌≡◌, ◌⊎◌, inl, inr, ℕ, zero, suc, ◌+◌, ◌-◌, ◌<◌, ◌≤◌, List, [], ◌∷◌, ◌++◌, length, Option, Some, None, refl, sym, ap, subst, ◌∙◌, arith, length-append, ltb, true, Result, Ok, Err, IfOk}
use Rattle.std.specs.Prelude.{IsUtf8}
use Rattle.std.specs.Global.{Vec}
use Rattle.as3_lexer.specs.declared.keyword.Keyword.{Keyword}
use Rattle.as3_lexer.specs.declared.keyword.Keyword.TheVariants as keyword
use Rattle.as3_lexer.specs.declared.mark.Mark.TheVariants as mark
use Rattle.as3_lexer.specs.declared.token.Token.{Token}
use Rattle.as3_lexer.specs.declared.token.TokenKind.{TokenKind}
use Rattle.as3_lexer.specs.declared.token.TokenKind.TheVariants as kind
use Rattle.as3_lexer.specs.Tokens.{HasTokens}
use Rattle.as3_parser.specs.declared.start.Start.TheVariants as start
use Rattle.as3_parser.specs.declared.tree.Span.{Span}
use Rattle.as3_parser.specs.declared.tree.Lexeme.{Lexeme}
use Rattle.as3_parser.specs.declared.tree.Variable.{Variable}
use Rattle.as3_parser.specs.declared.tree.Statement.{Statement}
use Rattle.as3_parser.specs.declared.tree.MetadataTag.{MetadataTag}
use Rattle.as3_parser.specs.declared.tree.Import.{Import}
use Rattle.as3_parser.specs.declared.tree.ImportStep.{ImportStep}
use Rattle.as3_parser.specs.declared.tree.ImportStep.TheVariants as import_step
use Rattle.as3_parser.specs.declared.tree.Modifier.{Modifier}
use Rattle.as3_parser.specs.declared.tree.Modifier.TheVariants as modifier
use Rattle.as3_parser.specs.declared.tree.Parameter.{Parameter}
use Rattle.as3_parser.specs.declared.tree.ResultType.{ResultType}
use Rattle.as3_parser.specs.declared.tree.ResultType.TheVariants as result_type
use Rattle.as3_parser.specs.declared.tree.MemberKind.{MemberKind}
use Rattle.as3_parser.specs.declared.tree.MemberKind.TheVariants as member_kind
use Rattle.as3_parser.specs.declared.tree.Member.{Member}
use Rattle.as3_parser.specs.declared.tree.MembersItem.{MembersItem}
use Rattle.as3_parser.specs.declared.tree.MembersItem.TheVariants as item
use Rattle.as3_parser.specs.Grammar.{Symbol, Part}
use Rattle.as3_parser.specs.Kinds.{keyword_number}
use Rattle.as3_parser.specs.Predicts.{next}
use Rattle.as3_parser.specs.Productions as production
use Rattle.as3_parser.specs.Syntax.{limit, IsSentence}
use Rattle.as3_parser.specs.Trees.{span_of, lexeme_of, IsPath}
use Rattle.as3_parser.specs.Spans.{span_between}
use Rattle.as3_parser.specs.Metadata.{AreTags}
use Rattle.as3_parser.specs.Members.{IsImportStep, AreImportSteps, IsImport, modifier_word, AreModifiers, IsParameter, AreParameters, AreParametersClosed, IsResult, IsMemberKind, IsMember, IsItem, AreItems}
use Rattle.as3_parser.specs.Members as is
use Rattle.as3_parser.specs.Ahead.{Ahead, kinds_from, kind_at, AreCut, Begun, Skips, Lexed, IsThere, Piece, Reached, Reads}
use Rattle.as3_parser.specs.Forms.{part, declarations, ReadsPath, ReadsVariables, ReadsBlock, ReadsMetadataTags}
use Rattle.as3_parser.specs.Parsed.{IsMembersOf}
use Rattle.as3_parser.specs.MemberForms.{IsOneStep, ReadsImportStep, ReadsImportSteps, ReadsImport, modifier_at, ReadsModifiers, parameter_symbols, ReadsParameter, parameters_behind, ReadsParameters, ReadsResult, ReadsMethod, ReadsMemberKind, ReadsMember, AreAllItems, ReadsAllItems, BegunItem, ReadsItem}
use Rattle.as3_parser.proofs.Ahead.{some_side, nothing_left}
use Rattle.as3_parser.proofs.NamedKinds.{same_kind}
use Rattle.as3_parser.proofs.Reach.{pass, there_is, next_is, kind_is, single, two, no_more, not_closed, use_next, starts_with_token, joined, empty_piece, gets_on, spans}
use Rattle.as3_parser.proofs.Sentences.{sentence_ahead, from_start, whole_begun, ends_whole}
use Rattle.as3_parser.proofs.HandlerSteps.{some_left, none_next}

-- ---- imports

starred : {s : List Symbol} (ts : List Token) (i : ℕ) → Ahead (Part production.import_step ∷ s) (kinds_from ts i) → kind_at ts i ≡ Some (kind.Mark mark.Star) → Ahead (production.sign mark.Star ∷ s) (kinds_from ts i)
starred ts i a h = use_next production.import_step _ 1 (production.sign mark.Star ∷ []) a (next_is ts i (kind.Mark mark.Star) h) refl refl

named : {s : List Symbol} (ts : List Token) (i : ℕ) → Ahead (Part production.import_step ∷ s) (kinds_from ts i) → (kind_at ts i ≡ Some (kind.Mark mark.Star) → ⊥) → Ahead (production.identifier ∷ s) (kinds_from ts i)
named ts i a other = elim (two production.import_step (production.identifier ∷ []) (production.sign mark.Star ∷ []) a refl refl (λ k. refl)) [ inl h ↦ h | inr h ↦ absurd (other (kind_is ts i (kind.Mark mark.Star) (starts_with_token h) refl)) ]

pub step_all : {source : List ℕ} {ts : List Token} {i j : ℕ} {p : Span} → kind_at ts i ≡ Some (kind.Mark mark.Star) → Skips ts i j → p ≡ span_between ts i j → ReadsImportStep source ts i j (import_step.All p)
step_all {source = source} {ts = ts} {i = i} h skips sp = record {
  is = record {
    from = λ s a.
        let p = pass (starred ts i a h) skips in
        record { span = p.token ∷ []; piece = p.piece; is = record { token = p.token; is = refl; step = subst (λ y. IsImportStep source (import_step.All y) p.token) (sym (spans p.piece (omega arith) sp)) (is.all p.token (same_kind _ (kind.Mark mark.Star) p.number refl)) }; ahead = p.ahead };
  };
}

pub step_there : {source : List ℕ} {ts : List Token} {i d : ℕ} → Begun source ts i d (part production.import_step) → (kind_at ts i ≡ Some (kind.Mark mark.Star) → ⊥) → IsThere source ts i
step_there {ts = ts} {i = i} b other = there_is b.cut (named ts i b.ahead other)

pub step_name : {source : List ℕ} {ts : List Token} {i j : ℕ} {l : Lexeme} → (kind_at ts i ≡ Some (kind.Mark mark.Star) → ⊥) → Lexed source ts i j l → ReadsImportStep source ts i j (import_step.Name l)
step_name {source = source} {ts = ts} {i = i} other l = record {
  is = record {
    from = λ s a.
        let p = pass (named ts i a other) l.skips in
        record { span = p.token ∷ []; piece = p.piece; is = record { token = p.token; is = refl; step = subst (λ y. IsImportStep source (import_step.Name y) p.token) (sym (l.is p.token p.at)) (is.name p.token (same_kind _ kind.Identifier p.number refl)) }; ahead = p.ahead };
  };
}

dotted : {s : List Symbol} (ts : List Token) (i : ℕ) → Ahead (Part production.import_steps ∷ s) (kinds_from ts i) → kind_at ts i ≡ Some (kind.Mark mark.Dot) → Ahead (production.sign mark.Dot ∷ Part production.import_step ∷ Part production.import_steps ∷ s) (kinds_from ts i)
dotted ts i a h = use_next production.import_steps _ 0 (production.sign mark.Dot ∷ Part production.import_step ∷ Part production.import_steps ∷ []) a (next_is ts i (kind.Mark mark.Dot) h) refl refl

pub steps_start : {source : List ℕ} {ts : List Token} {i : ℕ} {xs : List ImportStep} → xs ≡ [] → Reads ts i i (part production.import_steps) (part production.import_steps) (AreImportSteps source xs)
steps_start {source = source} {i = i} none = record { from = λ s a. record { span = []; piece = empty_piece i; is = subst (λ y. AreImportSteps source y []) (sym none) is.none; ahead = a } }

pub steps_next : {source : List ℕ} {ts : List Token} {i j k d : ℕ} {P : List Token → Type 0} → Begun source ts i d (part production.import_steps) → Reads ts i j (part production.import_steps) (part production.import_steps) P → kind_at ts j ≡ Some (kind.Mark mark.Dot) → Skips ts j k → Begun source ts k d (part production.import_step)
steps_next {ts = ts} {j = j} b r h skips = record { cut = b.cut; behind = Part production.import_steps ∷ b.behind; ahead = (pass (dotted ts j (r.from b.behind b.ahead).ahead h) skips).ahead; room = b.room }

pub steps_more : {source : List ℕ} {ts : List Token} {i j k m : ℕ} {x : ImportStep} {xs ys : List ImportStep} → Reads ts i j (part production.import_steps) (part production.import_steps) (AreImportSteps source xs) → kind_at ts j ≡ Some (kind.Mark mark.Dot) → Skips ts j k → ReadsImportStep source ts k m x → ys ≡ xs ++ x ∷ [] → Reads ts i m (part production.import_steps) (part production.import_steps) (AreImportSteps source ys)
steps_more {source = source} {ts = ts} {i = i} {j = j} {m = m} r h skips q same = record {
  from = λ s a.
      let one = r.from s a in
      let p = pass (dotted ts j one.ahead h) skips in
      let next_ = q.is.from (Part production.import_steps ∷ s) p.ahead in
      let w = one.span ++ (p.token ∷ next_.is.token ∷ []) in
      record { span = w; piece = subst (λ y. Piece ts i m (one.span ++ (p.token ∷ y))) next_.is.is (joined one.piece (joined p.piece next_.piece)); is = subst (λ y. AreImportSteps source y w) (sym same) (is.more p.token next_.is.token one.is (same_kind _ (kind.Mark mark.Dot) p.number refl) next_.is.step); ahead = next_.ahead };
}

pub steps_on : {source : List ℕ} {ts : List Token} {i j k m d : ℕ} {x : ImportStep} {P : List Token → Type 0} → Begun source ts i d (part production.import_steps) → Reads ts i j (part production.import_steps) (part production.import_steps) P → kind_at ts j ≡ Some (kind.Mark mark.Dot) → Skips ts j k → ReadsImportStep source ts k m x → length ts - m < length ts - j
steps_on {ts = ts} {j = j} b r h skips q =
    let p = pass (dotted ts j (r.from b.behind b.ahead).ahead h) skips in
    let next_ = q.is.from (Part production.import_steps ∷ b.behind) p.ahead in
    gets_on (joined p.piece next_.piece) (omega arith)

pub steps_end : {source : List ℕ} {ts : List Token} {i j : ℕ} (v : Vec ImportStep) → Reads ts i j (part production.import_steps) (part production.import_steps) (AreImportSteps source v.items) → (kind_at ts j ≡ Some (kind.Mark mark.Dot) → ⊥) → ReadsImportSteps source ts i j v
steps_end {ts = ts} {j = j} v r other = record {
  is = record {
    from = λ s a.
        let one = r.from s a in
        record { span = one.span; piece = one.piece; is = one.is; ahead = no_more production.import_steps _ (Part production.import_step ∷ Part production.import_steps ∷ []) one.ahead refl refl (λ k. refl) (λ e. other (kind_is ts j (kind.Mark mark.Dot) e refl)) };
  };
}

pub imported : {s : List Symbol} {w : List ℕ} → Ahead (Part production.import_directive ∷ s) w → Ahead (production.word keyword.Import ∷ production.identifier ∷ Part production.import_steps ∷ production.sign mark.Semicolon ∷ s) w
imported a = single production.import_directive (production.word keyword.Import ∷ production.identifier ∷ Part production.import_steps ∷ production.sign mark.Semicolon ∷ []) a refl (λ k. refl)

pub import_name : {source : List ℕ} {ts : List Token} {i j d : ℕ} → Begun source ts i d (part production.import_directive) → Skips ts i j → IsThere source ts j
import_name b skips = there_is b.cut (pass (imported b.ahead) skips).ahead

pub import_steps : {source : List ℕ} {ts : List Token} {i j k d : ℕ} {l : Lexeme} → Begun source ts i d (part production.import_directive) → Skips ts i j → Lexed source ts j k l → Begun source ts k d (part production.import_steps)
import_steps b skips l = record { cut = b.cut; behind = production.sign mark.Semicolon ∷ b.behind; ahead = (pass (pass (imported b.ahead) skips).ahead l.skips).ahead; room = b.room }

abbrev import_of : Span → Lexeme → Vec ImportStep → Import
import_of p l v = record { span = p; first = l; steps = v }

pub import_whole : {source : List ℕ} {ts : List Token} {i j k m n : ℕ} {l : Lexeme} (v : Vec ImportStep) {p : Span} → Skips ts i j → Lexed source ts j k l → ReadsImportSteps source ts k m v → Skips ts m n → p ≡ span_between ts i n → ReadsImport source ts i n (import_of p l v)
import_whole {source = source} {l = l} v {p = p} skips lx r skips2 sp = record {
  is = record {
    from = λ s a.
        let p1 = pass (imported a) skips in
        let p2 = pass p1.ahead lx.skips in
        let one = r.is.from (production.sign mark.Semicolon ∷ s) p2.ahead in
        let p3 = pass one.ahead skips2 in
        let w = p1.token ∷ p2.token ∷ (one.span ++ (p3.token ∷ [])) in
        let piece = joined p1.piece (joined p2.piece (joined one.piece p3.piece)) in
        record {
          span = w;
          piece = piece;
          is = subst (λ y. IsImport source (import_of y l v) w) (sym (spans piece (omega arith) sp)) (subst (λ y. IsImport source (import_of (span_of w) y v) w) (sym (lx.is p2.token p2.at)) (is.import v p1.token p2.token p3.token (same_kind _ (kind.Keyword keyword.Import) p1.number refl) (same_kind _ kind.Identifier p2.number refl) one.is (same_kind _ (kind.Mark mark.Semicolon) p3.number refl)));
          ahead = p3.ahead;
        };
  };
}

-- ---- modifiers

modifier_is : (k : Option TokenKind) (x : Modifier) → modifier_at k ≡ Some x → k ≡ Some (kind.Keyword (modifier_word x))
modifier_is (Some (kind.Keyword keyword.Public)) x h = ap (λ y. Some (kind.Keyword (modifier_word y))) (let same : modifier.Public ≡ x = cc in same)
modifier_is (Some (kind.Keyword keyword.Private)) x h = ap (λ y. Some (kind.Keyword (modifier_word y))) (let same : modifier.Private ≡ x = cc in same)
modifier_is (Some (kind.Keyword keyword.Protected)) x h = ap (λ y. Some (kind.Keyword (modifier_word y))) (let same : modifier.Protected ≡ x = cc in same)
modifier_is (Some (kind.Keyword keyword.Override)) x h = ap (λ y. Some (kind.Keyword (modifier_word y))) (let same : modifier.Override ≡ x = cc in same)
modifier_is _ x h = absurd (cc)

named_modifier : (x : Modifier) → ltb (keyword_number (modifier_word x)) 60 ≡ true
named_modifier modifier.Public = refl
named_modifier modifier.Private = refl
named_modifier modifier.Protected = refl
named_modifier modifier.Override = refl

modified : {s : List Symbol} {w : List ℕ} (x : Modifier) → Ahead (Part production.modifiers ∷ s) w → next w ≡ suc (keyword_number (modifier_word x)) → Ahead (production.word (modifier_word x) ∷ Part production.modifiers ∷ s) w
modified modifier.Public a h = use_next production.modifier _ 0 (production.word keyword.Public ∷ []) (use_next production.modifiers _ 0 (Part production.modifier ∷ Part production.modifiers ∷ []) a h refl refl) h refl refl
modified modifier.Private a h = use_next production.modifier _ 1 (production.word keyword.Private ∷ []) (use_next production.modifiers _ 0 (Part production.modifier ∷ Part production.modifiers ∷ []) a h refl refl) h refl refl
modified modifier.Protected a h = use_next production.modifier _ 2 (production.word keyword.Protected ∷ []) (use_next production.modifiers _ 0 (Part production.modifier ∷ Part production.modifiers ∷ []) a h refl refl) h refl refl
modified modifier.Override a h = use_next production.modifier _ 3 (production.word keyword.Override ∷ []) (use_next production.modifiers _ 0 (Part production.modifier ∷ Part production.modifiers ∷ []) a h refl refl) h refl refl

modified_at : {s : List Symbol} (ts : List Token) (i : ℕ) (x : Modifier) → Ahead (Part production.modifiers ∷ s) (kinds_from ts i) → modifier_at (kind_at ts i) ≡ Some x → Ahead (production.word (modifier_word x) ∷ Part production.modifiers ∷ s) (kinds_from ts i)
modified_at ts i x a h = modified x a (next_is ts i (kind.Keyword (modifier_word x)) (modifier_is (kind_at ts i) x h))

no_modifier : (k : Option TokenKind) (x : Modifier) → modifier_at k ≡ None → k ≡ Some (kind.Keyword (modifier_word x)) → ⊥
no_modifier k modifier.Public none is = (let e = sym (ap (λ y. modifier_at y) is) ∙ none in cc)
no_modifier k modifier.Private none is = (let e = sym (ap (λ y. modifier_at y) is) ∙ none in cc)
no_modifier k modifier.Protected none is = (let e = sym (ap (λ y. modifier_at y) is) ∙ none in cc)
no_modifier k modifier.Override none is = (let e = sym (ap (λ y. modifier_at y) is) ∙ none in cc)

not_modified : {s : List Symbol} (ts : List Token) (i : ℕ) → Ahead (Part production.modifiers ∷ s) (kinds_from ts i) → modifier_at (kind_at ts i) ≡ None → Ahead s (kinds_from ts i)
not_modified {s = s} ts i a none = elim (two production.modifiers (Part production.modifier ∷ Part production.modifiers ∷ []) [] a refl refl (λ k. refl)) [
  | inl h ↦ absurd (let q = some_side production.modifier h in go (Part production.modifiers ∷ s) q.number q.right q.is q.ahead)
  | inr h ↦ h
]
  where
    at : (t : List Symbol) (x : Modifier) (r : List Symbol) → r ≡ production.word (modifier_word x) ∷ [] → Ahead (r ++ t) (kinds_from ts i) → ⊥
    at t x r same b = no_modifier (kind_at ts i) x none (kind_is ts i (kind.Keyword (modifier_word x)) (starts_with_token (subst (λ y. Ahead (y ++ t) (kinds_from ts i)) same b)) (named_modifier x))

    go : (t : List Symbol) (n : ℕ) (r : List Symbol) → production.the_rules production.modifier n ≡ Some r → Ahead (r ++ t) (kinds_from ts i) → ⊥
    go t zero r is b = at t modifier.Public r (let same : r ≡ production.word keyword.Public ∷ [] = cc in same) b
    go t (suc zero) r is b = at t modifier.Private r (let same : r ≡ production.word keyword.Private ∷ [] = cc in same) b
    go t (suc (suc zero)) r is b = at t modifier.Protected r (let same : r ≡ production.word keyword.Protected ∷ [] = cc in same) b
    go t (suc (suc (suc zero))) r is b = at t modifier.Override r (let same : r ≡ production.word keyword.Override ∷ [] = cc in same) b
    go t (suc (suc (suc (suc n)))) r is b = cc

pub modifiers_start : {ts : List Token} {i : ℕ} {xs : List Modifier} → xs ≡ [] → Reads ts i i (part production.modifiers) (part production.modifiers) (AreModifiers xs)
modifiers_start {i = i} none = record { from = λ s a. record { span = []; piece = empty_piece i; is = subst (λ y. AreModifiers y []) (sym none) is.none; ahead = a } }

pub modifiers_more : {ts : List Token} {i j k : ℕ} {x : Modifier} {xs ys : List Modifier} → Reads ts i j (part production.modifiers) (part production.modifiers) (AreModifiers xs) → modifier_at (kind_at ts j) ≡ Some x → Skips ts j k → ys ≡ xs ++ x ∷ [] → Reads ts i k (part production.modifiers) (part production.modifiers) (AreModifiers ys)
modifiers_more {ts = ts} {j = j} {x = x} r h skips same = record {
  from = λ s a.
      let one = r.from s a in
      let p = pass (modified_at ts j x one.ahead h) skips in
      let w = one.span ++ (p.token ∷ []) in
      record { span = w; piece = joined one.piece p.piece; is = subst (λ y. AreModifiers y w) (sym same) (is.more x p.token one.is (same_kind _ (kind.Keyword (modifier_word x)) p.number (named_modifier x))); ahead = p.ahead };
}

pub modifiers_on : {source : List ℕ} {ts : List Token} {i j k d : ℕ} {x : Modifier} {P : List Token → Type 0} → Begun source ts i d (part production.modifiers) → Reads ts i j (part production.modifiers) (part production.modifiers) P → modifier_at (kind_at ts j) ≡ Some x → Skips ts j k → length ts - k < length ts - j
modifiers_on {ts = ts} {j = j} {x = x} b r h skips = let p = pass (modified_at ts j x (r.from b.behind b.ahead).ahead h) skips in gets_on p.piece (omega arith)

pub modifiers_end : {source : List ℕ} {ts : List Token} {i j : ℕ} (v : Vec Modifier) → Reads ts i j (part production.modifiers) (part production.modifiers) (AreModifiers v.items) → modifier_at (kind_at ts j) ≡ None → ReadsModifiers source ts i j v
modifiers_end {ts = ts} {j = j} v r none = record {
  is = record {
    from = λ s a.
        let one = r.from s a in
        record { span = one.span; piece = one.piece; is = one.is; ahead = not_modified ts j one.ahead none };
  };
}

-- ---- parameters

abbrev parameter_of : Lexeme → Vec Lexeme → Parameter
parameter_of l v = record { name = l; type_name = v }

pub parameter_name : {source : List ℕ} {ts : List Token} {i d : ℕ} → Begun source ts i d parameter_symbols → IsThere source ts i
parameter_name b = there_is b.cut b.ahead

pub parameter_path : {source : List ℕ} {ts : List Token} {i j k d : ℕ} {l : Lexeme} → Begun source ts i d parameter_symbols → Lexed source ts i j l → Skips ts j k → Begun source ts k limit (part production.path)
parameter_path b l skips = record { cut = b.cut; behind = b.behind; ahead = (pass (pass b.ahead l.skips).ahead skips).ahead; room = omega arith }

pub parameter_whole : {source : List ℕ} {ts : List Token} {i j k m : ℕ} {l : Lexeme} (v : Vec Lexeme) → Lexed source ts i j l → Skips ts j k → ReadsPath source ts k m v → ReadsParameter source ts i m (parameter_of l v)
parameter_whole {source = source} v l skips r = record {
  is = record {
    from = λ s a.
        let p = pass a l.skips in
        let q = pass p.ahead skips in
        let one = r.is.from s q.ahead in
        let w = p.token ∷ q.token ∷ one.span in
        record { span = w; piece = joined p.piece (joined q.piece one.piece); is = subst (λ y. IsParameter source (parameter_of y v) w) (sym (l.is p.token p.at)) (is.parameter v p.token q.token (same_kind _ kind.Identifier p.number refl) (same_kind _ (kind.Mark mark.Colon) q.number refl) one.is); ahead = one.ahead };
  };
}

pub parameters_none : {source : List ℕ} {ts : List Token} {i j : ℕ} (v : Vec Parameter) → kind_at ts i ≡ Some (kind.Mark mark.RightParenthesis) → Skips ts i j → v.items ≡ [] → ReadsParameters source ts i j v
parameters_none {source = source} {ts = ts} {i = i} v h skips none = record {
  is = record {
    from = λ s a.
        let p = pass (use_next production.parameters _ 1 [] a (next_is ts i (kind.Mark mark.RightParenthesis) h) refl refl) skips in
        record { span = p.token ∷ []; piece = p.piece; is = subst (λ y. AreParametersClosed source y (p.token ∷ [])) (sym none) (is.none p.token (same_kind _ (kind.Mark mark.RightParenthesis) p.number refl)); ahead = p.ahead };
  };
}

listed : {s : List Symbol} (ts : List Token) (i : ℕ) → (kind_at ts i ≡ Some (kind.Mark mark.RightParenthesis) → ⊥) → Ahead (Part production.parameters ∷ production.sign mark.RightParenthesis ∷ s) (kinds_from ts i) → Ahead (production.identifier ∷ production.sign mark.Colon ∷ Part production.path ∷ Part production.more_parameters ∷ production.sign mark.RightParenthesis ∷ s) (kinds_from ts i)
listed ts i other a = not_closed production.parameters (production.identifier ∷ production.sign mark.Colon ∷ Part production.path ∷ Part production.more_parameters ∷ []) a refl refl (λ k. refl) (λ q. other (kind_is ts i (kind.Mark mark.RightParenthesis) q refl))

commaed : {s : List Symbol} (ts : List Token) (i : ℕ) → Ahead (Part production.more_parameters ∷ s) (kinds_from ts i) → kind_at ts i ≡ Some (kind.Mark mark.Comma) → Ahead (production.sign mark.Comma ∷ production.identifier ∷ production.sign mark.Colon ∷ Part production.path ∷ Part production.more_parameters ∷ s) (kinds_from ts i)
commaed ts i a h = use_next production.more_parameters _ 0 (production.sign mark.Comma ∷ production.identifier ∷ production.sign mark.Colon ∷ Part production.path ∷ Part production.more_parameters ∷ []) a (next_is ts i (kind.Mark mark.Comma) h) refl refl

abbrev pub behind_parameters : List Symbol
behind_parameters = Part production.more_parameters ∷ production.sign mark.RightParenthesis ∷ []

pub parameters_begun : {source : List ℕ} {ts : List Token} {i d : ℕ} → Begun source ts i d parameters_behind → (kind_at ts i ≡ Some (kind.Mark mark.RightParenthesis) → ⊥) → Begun source ts i d parameter_symbols
parameters_begun {ts = ts} {i = i} b other = record { cut = b.cut; behind = Part production.more_parameters ∷ production.sign mark.RightParenthesis ∷ b.behind; ahead = listed ts i other b.ahead; room = b.room }

pub parameters_start : {source : List ℕ} {ts : List Token} {i j : ℕ} {x : Parameter} {xs : List Parameter} → (kind_at ts i ≡ Some (kind.Mark mark.RightParenthesis) → ⊥) → ReadsParameter source ts i j x → xs ≡ x ∷ [] → Reads ts i j parameters_behind behind_parameters (AreParameters source xs)
parameters_start {source = source} {ts = ts} {i = i} other r same = record {
  from = λ s a.
      let one = r.is.from (Part production.more_parameters ∷ production.sign mark.RightParenthesis ∷ s) (listed ts i other a) in
      record { span = one.span; piece = one.piece; is = subst (λ y. AreParameters source y one.span) (sym same) (is.one one.is); ahead = one.ahead };
}

pub parameters_next : {source : List ℕ} {ts : List Token} {i j k d : ℕ} {P : List Token → Type 0} → Begun source ts i d parameters_behind → Reads ts i j parameters_behind behind_parameters P → kind_at ts j ≡ Some (kind.Mark mark.Comma) → Skips ts j k → Begun source ts k d parameter_symbols
parameters_next {ts = ts} {j = j} b r h skips = record { cut = b.cut; behind = Part production.more_parameters ∷ production.sign mark.RightParenthesis ∷ b.behind; ahead = (pass (commaed ts j (r.from b.behind b.ahead).ahead h) skips).ahead; room = b.room }

pub parameters_more : {source : List ℕ} {ts : List Token} {i j k m : ℕ} {x : Parameter} {xs ys : List Parameter} → Reads ts i j parameters_behind behind_parameters (AreParameters source xs) → kind_at ts j ≡ Some (kind.Mark mark.Comma) → Skips ts j k → ReadsParameter source ts k m x → ys ≡ xs ++ x ∷ [] → Reads ts i m parameters_behind behind_parameters (AreParameters source ys)
parameters_more {source = source} {ts = ts} {j = j} r h skips q same = record {
  from = λ s a.
      let one = r.from s a in
      let p = pass (commaed ts j one.ahead h) skips in
      let next_ = q.is.from (Part production.more_parameters ∷ production.sign mark.RightParenthesis ∷ s) p.ahead in
      let w = one.span ++ (p.token ∷ next_.span) in
      record { span = w; piece = joined one.piece (joined p.piece next_.piece); is = subst (λ y. AreParameters source y w) (sym same) (is.more p.token one.is (same_kind _ (kind.Mark mark.Comma) p.number refl) next_.is); ahead = next_.ahead };
}

pub parameters_on : {source : List ℕ} {ts : List Token} {i j k m d : ℕ} {x : Parameter} {P : List Token → Type 0} → Begun source ts i d parameters_behind → Reads ts i j parameters_behind behind_parameters P → kind_at ts j ≡ Some (kind.Mark mark.Comma) → Skips ts j k → ReadsParameter source ts k m x → length ts - m < length ts - j
parameters_on {ts = ts} {j = j} b r h skips q =
    let p = pass (commaed ts j (r.from b.behind b.ahead).ahead h) skips in
    let next_ = q.is.from (Part production.more_parameters ∷ production.sign mark.RightParenthesis ∷ b.behind) p.ahead in
    gets_on (joined p.piece next_.piece) (omega arith)

pub parameters_whole : {source : List ℕ} {ts : List Token} {i j k : ℕ} (v : Vec Parameter) → Reads ts i j parameters_behind behind_parameters (AreParameters source v.items) → (kind_at ts j ≡ Some (kind.Mark mark.Comma) → ⊥) → Skips ts j k → ReadsParameters source ts i k v
parameters_whole {ts = ts} {j = j} v r other skips = record {
  is = record {
    from = λ s a.
        let one = r.from s a in
        let b = no_more production.more_parameters _ (production.identifier ∷ production.sign mark.Colon ∷ Part production.path ∷ Part production.more_parameters ∷ []) one.ahead refl refl (λ k. refl) (λ e. other (kind_is ts j (kind.Mark mark.Comma) e refl)) in
        let p = pass b skips in
        record { span = one.span ++ (p.token ∷ []); piece = joined one.piece p.piece; is = is.some p.token one.is (same_kind _ (kind.Mark mark.RightParenthesis) p.number refl); ahead = p.ahead };
  };
}

-- ---- what a method gives

coloned : {s : List Symbol} (ts : List Token) (i : ℕ) → Ahead (Part production.optional_result ∷ s) (kinds_from ts i) → kind_at ts i ≡ Some (kind.Mark mark.Colon) → Ahead (production.sign mark.Colon ∷ Part production.result_type ∷ s) (kinds_from ts i)
coloned ts i a h = use_next production.optional_result _ 0 (production.sign mark.Colon ∷ Part production.result_type ∷ []) a (next_is ts i (kind.Mark mark.Colon) h) refl refl

voided : {s : List Symbol} (ts : List Token) (i : ℕ) → Ahead (Part production.result_type ∷ s) (kinds_from ts i) → kind_at ts i ≡ Some (kind.Keyword keyword.Void) → Ahead (production.word keyword.Void ∷ s) (kinds_from ts i)
voided ts i a h = use_next production.result_type _ 1 (production.word keyword.Void ∷ []) a (next_is ts i (kind.Keyword keyword.Void) h) refl refl

pathed : {s : List Symbol} (ts : List Token) (i : ℕ) → Ahead (Part production.result_type ∷ s) (kinds_from ts i) → (kind_at ts i ≡ Some (kind.Keyword keyword.Void) → ⊥) → Ahead (Part production.path ∷ s) (kinds_from ts i)
pathed ts i a other = elim (two production.result_type (Part production.path ∷ []) (production.word keyword.Void ∷ []) a refl refl (λ k. refl)) [ inl h ↦ h | inr h ↦ absurd (other (kind_is ts i (kind.Keyword keyword.Void) (starts_with_token h) refl)) ]

pub result_none : {source : List ℕ} {ts : List Token} {i : ℕ} → (kind_at ts i ≡ Some (kind.Mark mark.Colon) → ⊥) → ReadsResult source ts i i None
result_none {ts = ts} {i = i} other = record {
  is = record {
    from = λ s a.
        record { span = []; piece = empty_piece i; is = is.none; ahead = no_more production.optional_result _ (Part production.result_type ∷ []) a refl refl (λ k. refl) (λ e. other (kind_is ts i (kind.Mark mark.Colon) e refl)) };
  };
}

pub result_void : {source : List ℕ} {ts : List Token} {i j k : ℕ} {p : Span} → kind_at ts i ≡ Some (kind.Mark mark.Colon) → Skips ts i j → kind_at ts j ≡ Some (kind.Keyword keyword.Void) → Skips ts j k → p ≡ span_between ts j k → ReadsResult source ts i k (Some (result_type.Void p))
result_void {source = source} {ts = ts} {i = i} {j = j} h skips v skips2 sp = record {
  is = record {
    from = λ s a.
        let p1 = pass (coloned ts i a h) skips in
        let p2 = pass (voided ts j p1.ahead v) skips2 in
        let w = p1.token ∷ p2.token ∷ [] in
        record { span = w; piece = joined p1.piece p2.piece; is = subst (λ y. IsResult source (Some (result_type.Void y)) w) (sym (spans p2.piece (omega arith) sp)) (is.void p1.token p2.token (same_kind _ (kind.Mark mark.Colon) p1.number refl) (same_kind _ (kind.Keyword keyword.Void) p2.number refl)); ahead = p2.ahead };
  };
}

pub result_path : {source : List ℕ} {ts : List Token} {i j d : ℕ} → Begun source ts i d (part production.optional_result) → kind_at ts i ≡ Some (kind.Mark mark.Colon) → Skips ts i j → (kind_at ts j ≡ Some (kind.Keyword keyword.Void) → ⊥) → Begun source ts j limit (part production.path)
result_path {ts = ts} {i = i} {j = j} b h skips other = record { cut = b.cut; behind = b.behind; ahead = pathed ts j (pass (coloned ts i b.ahead h) skips).ahead other; room = omega arith }

pub result_whole : {source : List ℕ} {ts : List Token} {i j k : ℕ} (v : Vec Lexeme) → kind_at ts i ≡ Some (kind.Mark mark.Colon) → Skips ts i j → (kind_at ts j ≡ Some (kind.Keyword keyword.Void) → ⊥) → ReadsPath source ts j k v → ReadsResult source ts i k (Some (result_type.Path v))
result_whole {ts = ts} {i = i} {j = j} v h skips other r = record {
  is = record {
    from = λ s a.
        let p1 = pass (coloned ts i a h) skips in
        let one = r.is.from s (pathed ts j p1.ahead other) in
        record { span = p1.token ∷ one.span; piece = joined p1.piece one.piece; is = is.path v p1.token (same_kind _ (kind.Mark mark.Colon) p1.number refl) one.is; ahead = one.ahead };
  };
}

-- ---- methods and members

methodical : {s : List Symbol} {w : List ℕ} → Ahead (Part production.method ∷ s) w → Ahead (production.word keyword.Function ∷ production.identifier ∷ production.sign mark.LeftParenthesis ∷ Part production.parameters ∷ production.sign mark.RightParenthesis ∷ Part production.optional_result ∷ Part production.block ∷ s) w
methodical a = single production.method (production.word keyword.Function ∷ production.identifier ∷ production.sign mark.LeftParenthesis ∷ Part production.parameters ∷ production.sign mark.RightParenthesis ∷ Part production.optional_result ∷ Part production.block ∷ []) a refl (λ k. refl)

pub method_name : {source : List ℕ} {ts : List Token} {i j d : ℕ} → Begun source ts i d (part production.method) → Skips ts i j → IsThere source ts j
method_name b skips = there_is b.cut (pass (methodical b.ahead) skips).ahead

pub method_parameters : {source : List ℕ} {ts : List Token} {i j k m d : ℕ} {l : Lexeme} → Begun source ts i d (part production.method) → Skips ts i j → Lexed source ts j k l → Skips ts k m → Begun source ts m limit parameters_behind
method_parameters b skips l skips2 = record { cut = b.cut; behind = Part production.optional_result ∷ Part production.block ∷ b.behind; ahead = (pass (pass (pass (methodical b.ahead) skips).ahead l.skips).ahead skips2).ahead; room = omega arith }

pub method_result : {source : List ℕ} {ts : List Token} {i j k m n d : ℕ} {l : Lexeme} {v : Vec Parameter} → Begun source ts i d (part production.method) → Skips ts i j → Lexed source ts j k l → Skips ts k m → ReadsParameters source ts m n v → Begun source ts n limit (part production.optional_result)
method_result b skips l skips2 r =
    let one = r.is.from (Part production.optional_result ∷ Part production.block ∷ b.behind) (pass (pass (pass (methodical b.ahead) skips).ahead l.skips).ahead skips2).ahead in
    record { cut = b.cut; behind = Part production.block ∷ b.behind; ahead = one.ahead; room = omega arith }

pub method_block : {source : List ℕ} {ts : List Token} {i j k m n o d : ℕ} {l : Lexeme} {v : Vec Parameter} {x : Option ResultType} → Begun source ts i d (part production.method) → Skips ts i j → Lexed source ts j k l → Skips ts k m → ReadsParameters source ts m n v → ReadsResult source ts n o x → Begun source ts o d (part production.block)
method_block b skips l skips2 r q =
    let one = r.is.from (Part production.optional_result ∷ Part production.block ∷ b.behind) (pass (pass (pass (methodical b.ahead) skips).ahead l.skips).ahead skips2).ahead in
    let result = q.is.from (Part production.block ∷ b.behind) one.ahead in
    record { cut = b.cut; behind = b.behind; ahead = result.ahead; room = b.room }

pub method_whole : {source : List ℕ} {ts : List Token} {i j k m n o q : ℕ} {l : Lexeme} (v : Vec Parameter) {x : Option ResultType} (u : Vec Statement) → Skips ts i j → Lexed source ts j k l → Skips ts k m → ReadsParameters source ts m n v → ReadsResult source ts n o x → ReadsBlock source ts o q u → ReadsMethod source ts i q (member_kind.Method l v x u)
method_whole {source = source} v {x = x} u skips l skips2 r1 r2 r3 = record {
  is = record {
    from = λ s a.
        let p1 = pass (methodical a) skips in
        let p2 = pass p1.ahead l.skips in
        let p3 = pass p2.ahead skips2 in
        let one = r1.is.from (Part production.optional_result ∷ Part production.block ∷ s) p3.ahead in
        let result = r2.is.from (Part production.block ∷ s) one.ahead in
        let body = r3.is.from s result.ahead in
        let w = p1.token ∷ p2.token ∷ p3.token ∷ (one.span ++ (result.span ++ body.span)) in
        record {
          span = w;
          piece = joined p1.piece (joined p2.piece (joined p3.piece (joined one.piece (joined result.piece body.piece))));
          is = subst (λ y. IsMemberKind source (member_kind.Method y v x u) w) (sym (l.is p2.token p2.at)) (is.method v u p1.token p2.token p3.token (same_kind _ (kind.Keyword keyword.Function) p1.number refl) (same_kind _ kind.Identifier p2.number refl) (same_kind _ (kind.Mark mark.LeftParenthesis) p3.number refl) one.is result.is body.is);
          ahead = body.ahead;
        };
  };
}

declared : {s : List Symbol} (ts : List Token) (i : ℕ) → Ahead (Part production.variables_or_method ∷ s) (kinds_from ts i) → kind_at ts i ≡ Some (kind.Keyword keyword.Var) → Ahead (production.word keyword.Var ∷ Part production.declaration ∷ Part production.more_declarations ∷ production.sign mark.Semicolon ∷ s) (kinds_from ts i)
declared ts i a h = single production.variables (production.word keyword.Var ∷ Part production.declaration ∷ Part production.more_declarations ∷ production.sign mark.Semicolon ∷ []) (use_next production.variables_or_method _ 0 (Part production.variables ∷ []) a (next_is ts i (kind.Keyword keyword.Var) h) refl refl) refl (λ k. refl)

not_declared : {s : List Symbol} (ts : List Token) (i : ℕ) → Ahead (Part production.variables_or_method ∷ s) (kinds_from ts i) → (kind_at ts i ≡ Some (kind.Keyword keyword.Var) → ⊥) → Ahead (Part production.method ∷ s) (kinds_from ts i)
not_declared {s = s} ts i a other = elim (two production.variables_or_method (Part production.variables ∷ []) (Part production.method ∷ []) a refl refl (λ k. refl)) [
  | inl h ↦ absurd (other (kind_is ts i (kind.Keyword keyword.Var) (starts_with_token (opened h)) refl))
  | inr h ↦ h
]
  where
    opened : {w : List ℕ} → Ahead (Part production.variables ∷ s) w → Ahead (production.word keyword.Var ∷ Part production.declaration ∷ Part production.more_declarations ∷ production.sign mark.Semicolon ∷ s) w
    opened h = single production.variables (production.word keyword.Var ∷ Part production.declaration ∷ Part production.more_declarations ∷ production.sign mark.Semicolon ∷ []) h refl (λ k. refl)

pub kind_method : {source : List ℕ} {ts : List Token} {i d : ℕ} → Begun source ts i d (part production.variables_or_method) → (kind_at ts i ≡ Some (kind.Keyword keyword.Var) → ⊥) → Begun source ts i d (part production.method)
kind_method {ts = ts} {i = i} b other = record { cut = b.cut; behind = b.behind; ahead = not_declared ts i b.ahead other; room = b.room }

pub kind_of_method : {source : List ℕ} {ts : List Token} {i j : ℕ} {x : MemberKind} → (kind_at ts i ≡ Some (kind.Keyword keyword.Var) → ⊥) → ReadsMethod source ts i j x → ReadsMemberKind source ts i j x
kind_of_method {ts = ts} {i = i} other r = record { is = record { from = λ s a. r.is.from s (not_declared ts i a other) } }

pub kind_returned : {E : Type 0} (source : List ℕ) (ts : List Token) (i j : ℕ) (r : Result MemberKind E) → (kind_at ts i ≡ Some (kind.Keyword keyword.Var) → ⊥) → IfOk r (ReadsMethod source ts i j) → IfOk r (ReadsMemberKind source ts i j)
kind_returned source ts i j (Ok x) other r = kind_of_method other r
kind_returned source ts i j (Err f) other r = r

pub kind_variables : {source : List ℕ} {ts : List Token} {i j d : ℕ} → Begun source ts i d (part production.variables_or_method) → kind_at ts i ≡ Some (kind.Keyword keyword.Var) → Skips ts i j → Begun source ts j d declarations
kind_variables {ts = ts} {i = i} b h skips = record { cut = b.cut; behind = production.sign mark.Semicolon ∷ b.behind; ahead = (pass (declared ts i b.ahead h) skips).ahead; room = b.room }

pub kind_whole : {source : List ℕ} {ts : List Token} {i j k m : ℕ} (v : Vec Variable) → kind_at ts i ≡ Some (kind.Keyword keyword.Var) → Skips ts i j → ReadsVariables source ts j k v → Skips ts k m → ReadsMemberKind source ts i m (member_kind.Variables v)
kind_whole {ts = ts} {i = i} v h skips r skips2 = record {
  is = record {
    from = λ s a.
        let p1 = pass (declared ts i a h) skips in
        let one = r.is.from (production.sign mark.Semicolon ∷ s) p1.ahead in
        let p2 = pass one.ahead skips2 in
        record { span = p1.token ∷ (one.span ++ (p2.token ∷ [])); piece = joined p1.piece (joined one.piece p2.piece); is = is.variables v p1.token p2.token (same_kind _ (kind.Keyword keyword.Var) p1.number refl) one.is (same_kind _ (kind.Mark mark.Semicolon) p2.number refl); ahead = p2.ahead };
  };
}

kind_some : {source : List ℕ} {x : MemberKind} {w : List Token} → IsMemberKind source x w → 0 < length w
kind_some (is.variables v t o k d q) = omega arith
kind_some (is.method v u t n l a b c d e f) = omega arith

entered : {s : List Symbol} {w : List ℕ} → Ahead (Part production.member ∷ s) w → Ahead (Part production.metadata_tags ∷ Part production.modifiers ∷ Part production.variables_or_method ∷ s) w
entered a = single production.member (Part production.metadata_tags ∷ Part production.modifiers ∷ Part production.variables_or_method ∷ []) a refl (λ k. refl)

pub member_tags : {source : List ℕ} {ts : List Token} {i d : ℕ} → Begun source ts i d (part production.member) → Begun source ts i limit (part production.metadata_tags)
member_tags b = record { cut = b.cut; behind = Part production.modifiers ∷ Part production.variables_or_method ∷ b.behind; ahead = entered b.ahead; room = omega arith }

pub member_modifiers : {source : List ℕ} {ts : List Token} {i j d : ℕ} {v : Vec MetadataTag} → Begun source ts i d (part production.member) → ReadsMetadataTags source ts i j v → Begun source ts j limit (part production.modifiers)
member_modifiers b r = record { cut = b.cut; behind = Part production.variables_or_method ∷ b.behind; ahead = (r.is.from (Part production.modifiers ∷ Part production.variables_or_method ∷ b.behind) (entered b.ahead)).ahead; room = omega arith }

pub member_kind_begun : {source : List ℕ} {ts : List Token} {i j k d : ℕ} {v : Vec MetadataTag} {u : Vec Modifier} → Begun source ts i d (part production.member) → ReadsMetadataTags source ts i j v → ReadsModifiers source ts j k u → Begun source ts k d (part production.variables_or_method)
member_kind_begun b r q =
    let one = r.is.from (Part production.modifiers ∷ Part production.variables_or_method ∷ b.behind) (entered b.ahead) in
    record { cut = b.cut; behind = b.behind; ahead = (q.is.from (Part production.variables_or_method ∷ b.behind) one.ahead).ahead; room = b.room }

abbrev member_of : Span → Vec MetadataTag → Vec Modifier → MemberKind → Member
member_of p v u x = record { span = p; metadata = v; modifiers = u; kind = x }

pub member_whole : {source : List ℕ} {ts : List Token} {i j k m : ℕ} (v : Vec MetadataTag) (u : Vec Modifier) {x : MemberKind} {p : Span} → ReadsMetadataTags source ts i j v → ReadsModifiers source ts j k u → ReadsMemberKind source ts k m x → p ≡ span_between ts i m → ReadsMember source ts i m (member_of p v u x)
member_whole {source = source} v u {x = x} r1 r2 r3 sp = record {
  is = record {
    from = λ s a.
        let one = r1.is.from (Part production.modifiers ∷ Part production.variables_or_method ∷ s) (entered a) in
        let mods = r2.is.from (Part production.variables_or_method ∷ s) one.ahead in
        let what = r3.is.from s mods.ahead in
        let w = one.span ++ (mods.span ++ what.span) in
        let piece = joined one.piece (joined mods.piece what.piece) in
        let long = length-append one.span (mods.span ++ what.span) in
        let long2 = length-append mods.span what.span in
        let some = kind_some what.is in
        record { span = w; piece = piece; is = subst (λ y. IsMember source (member_of y v u x) w) (sym (spans piece (omega (arith, long, long2, some)) sp)) (is.member v u one.is mods.is what.is); ahead = what.ahead };
  };
}

pub member_some : {source : List ℕ} {x : Member} {w : List Token} → IsMember source x w → 0 < length w
member_some (is.member {u = u} {v = v} {w = w} t m a b c) = let long = length-append u (v ++ w) in let long2 = length-append v w in let some = kind_some c in omega (arith, long, long2, some)

-- ---- imports and members

import_next : (ts : List Token) (i : ℕ) → Ahead (part production.imports_and_members) (kinds_from ts i) → kind_at ts i ≡ Some (kind.Keyword keyword.Import) → Ahead (Part production.import_directive ∷ part production.imports_and_members) (kinds_from ts i)
import_next ts i a h = use_next production.imports_and_members _ 0 (Part production.import_directive ∷ Part production.imports_and_members ∷ []) a (next_is ts i (kind.Keyword keyword.Import) h) refl refl

member_next : (ts : List Token) (i : ℕ) → i < length ts → Ahead (part production.imports_and_members) (kinds_from ts i) → (kind_at ts i ≡ Some (kind.Keyword keyword.Import) → ⊥) → Ahead (Part production.member ∷ part production.imports_and_members) (kinds_from ts i)
member_next ts i lt a other = let q = some_side production.imports_and_members a in go q.number q.right q.is q.ahead where
  go : (n : ℕ) (r : List Symbol) → production.the_rules production.imports_and_members n ≡ Some r → Ahead (r ++ []) (kinds_from ts i) → Ahead (Part production.member ∷ part production.imports_and_members) (kinds_from ts i)
  go zero r is b = let same : r ≡ Part production.import_directive ∷ Part production.imports_and_members ∷ [] = cc in absurd (other (kind_is ts i (kind.Keyword keyword.Import) (starts_with_token (imported (subst (λ y. Ahead (y ++ []) (kinds_from ts i)) same b))) refl))
  go (suc zero) r is b = let same : r ≡ Part production.member ∷ Part production.imports_and_members ∷ [] = cc in subst (λ y. Ahead (y ++ []) (kinds_from ts i)) same b
  go (suc (suc zero)) r is b = let same : r ≡ [] = cc in absurd (some_left ts i lt (nothing_left (subst (λ y. Ahead (y ++ []) (kinds_from ts i)) same b)))
  go (suc (suc (suc n))) r is b = absurd (cc)

pub item_import : {source : List ℕ} {ts : List Token} {i d : ℕ} → BegunItem source ts i d → kind_at ts i ≡ Some (kind.Keyword keyword.Import) → Begun source ts i limit (part production.import_directive)
item_import {ts = ts} {i = i} b h = record { cut = b.cut; behind = part production.imports_and_members; ahead = import_next ts i b.ahead h; room = omega arith }

pub item_of_import : {source : List ℕ} {ts : List Token} {i j d : ℕ} {x : Import} → BegunItem source ts i d → kind_at ts i ≡ Some (kind.Keyword keyword.Import) → ReadsImport source ts i j x → ReadsItem source ts i j (item.Import x)
item_of_import {ts = ts} {i = i} b h r = let one = r.is.from (part production.imports_and_members) (import_next ts i b.ahead h) in record { is = record { span = one.span; piece = one.piece; is = is.import one.is; ahead = one.ahead } }

pub item_member : {source : List ℕ} {ts : List Token} {i d : ℕ} → BegunItem source ts i d → (kind_at ts i ≡ Some (kind.Keyword keyword.Import) → ⊥) → Begun source ts i d (part production.member)
item_member {ts = ts} {i = i} {d = d} b other = record { cut = b.cut; behind = part production.imports_and_members; ahead = member_next ts i b.more b.ahead other; room = (let room : 65 ≤ suc d = b.room in omega (arith, room)) }

pub item_of_member : {source : List ℕ} {ts : List Token} {i j d : ℕ} {x : Member} → BegunItem source ts i d → (kind_at ts i ≡ Some (kind.Keyword keyword.Import) → ⊥) → ReadsMember source ts i j x → ReadsItem source ts i j (item.Member x)
item_of_member {ts = ts} {i = i} b other r = let one = r.is.from (part production.imports_and_members) (member_next ts i b.more b.ahead other) in record { is = record { span = one.span; piece = one.piece; is = is.member one.is; ahead = one.ahead } }

pub import_some : {source : List ℕ} {x : Import} {w : List Token} → IsImport source x w → 0 < length w
import_some (is.import v t f o a b c d) = omega arith

item_some : {source : List ℕ} {x : MembersItem} {w : List Token} → IsItem source x w → 0 < length w
item_some (is.import d) = import_some d
item_some (is.member d) = member_some d

pub all_start : {source : List ℕ} {ts : List Token} {d : ℕ} {xs : List MembersItem} → AreAllItems source ts d → xs ≡ [] → Reached ts 0 0 (part production.imports_and_members) (AreItems source xs)
all_start {source = source} b none = record { span = []; piece = empty_piece 0; is = subst (λ y. AreItems source y []) (sym none) is.none; ahead = b.ahead }

pub all_next : {source : List ℕ} {ts : List Token} {j d : ℕ} {P : List Token → Type 0} → AreAllItems source ts d → Reached ts 0 j (part production.imports_and_members) P → j < length ts → BegunItem source ts j d
all_next b r lt = record { cut = b.cut; ahead = r.ahead; more = lt; room = b.room }

pub all_more : {source : List ℕ} {ts : List Token} {j k : ℕ} {x : MembersItem} {xs ys : List MembersItem} → Reached ts 0 j (part production.imports_and_members) (AreItems source xs) → ReadsItem source ts j k x → ys ≡ xs ++ x ∷ [] → Reached ts 0 k (part production.imports_and_members) (AreItems source ys)
all_more {source = source} r q same = record { span = r.span ++ q.is.span; piece = joined r.piece q.is.piece; is = subst (λ y. AreItems source y (r.span ++ q.is.span)) (sym same) (is.more r.is q.is.is); ahead = q.is.ahead }

pub all_on : {source : List ℕ} {ts : List Token} {j k : ℕ} {x : MembersItem} → ReadsItem source ts j k x → length ts - k < length ts - j
all_on q = gets_on q.is.piece (item_some q.is.is)

pub all_end : {source : List ℕ} {ts : List Token} {j : ℕ} (v : Vec MembersItem) → Reached ts 0 j (part production.imports_and_members) (AreItems source v.items) → length ts ≤ j → ReadsAllItems source ts v
all_end {source = source} {ts = ts} {j = j} v r le = record { is = ends_whole {P = AreItems source v.items} (record { span = r.span; piece = r.piece; is = r.is; ahead = use_next production.imports_and_members 0 2 [] r.ahead (none_next ts j le) refl refl }) }

-- ---- the whole

pub members_begun : {source : List ℕ} {tokens slice : List Token} → slice ≡ tokens → IsUtf8 source → HasTokens source tokens → IsSentence start.Members tokens → AreAllItems source slice 64
members_begun same utf8 has h =
    let b = whole_begun start.Members refl same utf8 has h in
    let a = sentence_ahead start.Members _ h in
    record { cut = b.cut; ahead = subst (λ y. Ahead (part production.imports_and_members) y) (from_start _ ∙ ap (λ y. kinds_from y 0) (sym same)) (single production.members (Part production.imports_and_members ∷ []) a refl (λ k. refl)); room = omega arith }

pub members_of : {source : List ℕ} {tokens slice : List Token} (v : Vec MembersItem) → slice ≡ tokens → IsSentence start.Members tokens → ReadsAllItems source slice v → IsMembersOf source tokens (record { items = v })
members_of {source = source} v same h r = record { sentence = h; tree = subst (λ y. AreItems source v.items y) same r.is }
