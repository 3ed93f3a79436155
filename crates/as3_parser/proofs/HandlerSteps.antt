-- How a handler is read.
use Rattle.std.proofs.Common.{◌≡◌, ◌⊎◌, inl, inr, ℕ, zero, suc, ◌-◌, ◌<◌, ◌≤◌, Bool, true, false, List, [], ◌∷◌, ◌++◌, length, drop, Option, Some, None, refl, sym, ap, subst, ◌∙◌, arith, append-nil, drop-cons, drop_of_length-le, get_or, slice_get}
use Rattle.std.proofs.lemmas.Option.{slice_get_cases}
use Rattle.std.specs.Prelude.{IsUtf8, not, if◌then◌else◌}
use Rattle.std.specs.Global.{Vec}
use Rattle.as3_lexer.specs.declared.mark.Mark.{Mark}
use Rattle.as3_lexer.specs.declared.mark.Mark.TheVariants as mark
use Rattle.as3_lexer.specs.declared.keyword.Keyword.{Keyword}
use Rattle.as3_lexer.specs.declared.keyword.Keyword.TheVariants as keyword
use Rattle.as3_lexer.specs.declared.token.Token.{Token}
use Rattle.as3_lexer.specs.declared.token.TokenKind.{TokenKind}
use Rattle.as3_lexer.specs.declared.token.TokenKind.TheVariants as kind
use Rattle.as3_lexer.specs.Tokens.{HasTokens}
use Rattle.as3_parser.specs.declared.start.Start.TheVariants as start
use Rattle.as3_parser.specs.declared.tree.Statement.{Statement}
use Rattle.as3_parser.specs.Grammar.{Part}
use Rattle.as3_parser.specs.Predicts.{next}
use Rattle.as3_parser.specs.Kinds.{kind_number, mark_number, keyword_number, kinds_of}
use Rattle.as3_parser.specs.Productions as production
use Rattle.as3_parser.specs.Syntax.{asked, ended, lacks_semicolon, IsSentence}
use Rattle.as3_parser.specs.Statements.{AreStatements}
use Rattle.as3_parser.specs.Statements as is
use Rattle.as3_parser.specs.Handlers.{ends_handler, semicolon_behind, added_behind, ended_tokens}
use Rattle.as3_parser.specs.Parsed.{IsHandlerOf}
use Rattle.as3_parser.specs.Ahead.{Ahead, kinds_from, IsCut, AreCut, Begun, Reached}
use Rattle.as3_parser.specs.Forms.{part, ReadsStatement, AreAllStatements, ReadsAllStatements}
use Rattle.as3_parser.proofs.Ahead.{nothing_left}
use Rattle.as3_parser.proofs.Reach.{single, two, use_next, joined, empty_piece, gets_on}
use Rattle.as3_parser.proofs.Ended.{last_is}
use Rattle.as3_parser.proofs.StatementSteps.{statement_some}
use Rattle.as3_parser.proofs.Sentences.{sentence_ahead, from_start, ends_whole}
use Rattle.as3_parser.proofs.TokenCuts.{tokens_cut}

-- ---- the statements

pub some_left : (ts : List Token) (j : ℕ) → j < length ts → kinds_from ts j ≡ [] → ⊥
unfolding kinds_from
some_left [] j lt is = omega (arith, lt)
some_left (t ∷ ts) j lt is = (let d : drop j (t ∷ ts) ≡ get_or (t ∷ ts) j t ∷ drop (suc j) (t ∷ ts) = drop-cons (t ∷ ts) j t lt in let e = sym (ap (λ y. kinds_of y) d) ∙ is in cc)

pub none_next : (ts : List Token) (j : ℕ) → length ts ≤ j → next (kinds_from ts j) ≡ 0
unfolding kinds_from
none_next ts j le = ap (λ y. next (kinds_of y)) (drop_of_length-le ts {i = j} le)

another : (ts : List Token) (j : ℕ) → j < length ts → Ahead (part production.statements) (kinds_from ts j) → Ahead (Part production.statement ∷ part production.statements) (kinds_from ts j)
another ts j lt a = elim (two production.statements (Part production.statement ∷ Part production.statements ∷ []) [] a refl refl (λ k. refl)) [ inl h ↦ h | inr h ↦ absurd (some_left ts j lt (nothing_left h)) ]

pub all_start : {source : List ℕ} {ts : List Token} {d : ℕ} {xs : List Statement} → AreAllStatements source ts d → xs ≡ [] → Reached ts 0 0 (part production.statements) (AreStatements source xs)
all_start {source = source} b none = record { span = []; piece = empty_piece 0; is = subst (λ y. AreStatements source y []) (sym none) is.none; ahead = b.ahead }

pub all_next : {source : List ℕ} {ts : List Token} {j d : ℕ} {P : List Token → Type 0} → AreAllStatements source ts d → Reached ts 0 j (part production.statements) P → j < length ts → Begun source ts j d (part production.statement)
all_next {ts = ts} {j = j} {d = d} b r lt = record { cut = b.cut; behind = part production.statements; ahead = another ts j lt r.ahead; room = (let room : 65 ≤ suc d = b.room in omega (arith, room)) }

pub all_more : {source : List ℕ} {ts : List Token} {j k : ℕ} {x : Statement} {xs ys : List Statement} → Reached ts 0 j (part production.statements) (AreStatements source xs) → j < length ts → ReadsStatement source ts j k x → ys ≡ xs ++ x ∷ [] → Reached ts 0 k (part production.statements) (AreStatements source ys)
all_more {source = source} {ts = ts} {j = j} r lt q same =
    let one = q.is.from (part production.statements) (another ts j lt r.ahead) in
    record { span = r.span ++ one.span; piece = joined r.piece one.piece; is = subst (λ y. AreStatements source y (r.span ++ one.span)) (sym same) (is.more r.is one.is); ahead = one.ahead }

pub all_on : {source : List ℕ} {ts : List Token} {j k : ℕ} {x : Statement} {P : List Token → Type 0} → Reached ts 0 j (part production.statements) P → j < length ts → ReadsStatement source ts j k x → length ts - k < length ts - j
all_on {ts = ts} {j = j} r lt q = let one = q.is.from (part production.statements) (another ts j lt r.ahead) in gets_on one.piece (statement_some one.is)

pub all_end : {source : List ℕ} {ts : List Token} {j : ℕ} (v : Vec Statement) → Reached ts 0 j (part production.statements) (AreStatements source v.items) → length ts ≤ j → ReadsAllStatements source ts v
all_end {source = source} {ts = ts} {j = j} v r le = record { is = ends_whole {P = AreStatements source v.items} (record { span = r.span; piece = r.piece; is = r.is; ahead = use_next production.statements 0 1 [] r.ahead (none_next ts j le) refl refl }) }

-- ---- the `;` that is added

keyword_lacks : (k : Keyword) → lacks_semicolon (Some (keyword_number k)) ≡ true
keyword_lacks keyword.As = refl
keyword_lacks k = refl

mark_lacks : (m : Mark) → lacks_semicolon (Some (mark_number m)) ≡ not (ends_handler (kind.Mark m))
mark_lacks mark.Semicolon = refl
mark_lacks mark.RightBrace = refl
mark_lacks m = refl

kind_lacks : (k : TokenKind) → lacks_semicolon (Some (kind_number k)) ≡ not (ends_handler k)
kind_lacks kind.Identifier = refl
kind_lacks (kind.Keyword k) = keyword_lacks k
kind_lacks kind.Number = refl
kind_lacks kind.Text = refl
kind_lacks (kind.Mark m) = mark_lacks m

kinds_append : (a b : List Token) → kinds_of (a ++ b) ≡ kinds_of a ++ kinds_of b
kinds_append [] b = refl
kinds_append (t ∷ a) b = ap (λ y. kind_number t.kind ∷ y) (kinds_append a b)

kinds_long : (a : List Token) → length (kinds_of a) ≡ length a
kinds_long [] = refl
kinds_long (t ∷ a) = ap (λ y. suc y) (kinds_long a)

kinds_get : (a : List Token) (i : ℕ) (t : Token) → slice_get a i ≡ Some t → slice_get (kinds_of a) i ≡ Some (kind_number t.kind)
kinds_get [] i t h = absurd (cc)
kinds_get (u ∷ a) zero t h = (let same : u ≡ t = cc in ap (λ y. Some (kind_number y.kind)) same)
kinds_get (u ∷ a) (suc i) t h = kinds_get a i t h

-- the kinds of the tokens with the `;` are those that are asked for
pub kinds_ended : (tokens : List Token) → kinds_of (ended_tokens tokens) ≡ asked start.Handler tokens
kinds_ended tokens = elim (slice_get_cases tokens (length tokens - 1)).1 [
  | inl q ↦ some q.0 q.2
  | inr q ↦ none (length_none tokens q.0) q.1
]
  where
    length_none : (ts : List Token) → length ts ≤ length ts - 1 → ts ≡ []
    length_none [] le = refl
    length_none (t ∷ ts) le = absurd (omega (arith, le))

    none : tokens ≡ [] → slice_get tokens (length tokens - 1) ≡ None → kinds_of (ended_tokens tokens) ≡ ended (kinds_of tokens)
    none is at = ap (λ y. kinds_of (ended_tokens y)) is ∙ sym (ap (λ y. ended (kinds_of y)) is)

    some : (t : Token) → slice_get tokens (length tokens - 1) ≡ Some t → kinds_of (ended_tokens tokens) ≡ ended (kinds_of tokens)
    some t at =
        let last = last_is (kinds_of tokens) (kind_number t.kind) (subst (λ n. slice_get (kinds_of tokens) (n - 1) ≡ Some (kind_number t.kind)) (sym (kinds_long tokens)) (kinds_get tokens (length tokens - 1) t at)) in
        let test = ap (λ y. lacks_semicolon y) last ∙ kind_lacks t.kind in
        ap (λ y. kinds_of (tokens ++ added_behind y)) at ∙ kinds_append tokens (added_behind (Some t)) ∙ go (ends_handler t.kind) refl ∙ sym (ap (λ y. if y then kinds_of tokens ++ mark_number mark.Semicolon ∷ [] else kinds_of tokens) test)
      where
        go : (b : Bool) → ends_handler t.kind ≡ b → kinds_of tokens ++ kinds_of (if b then [] else semicolon_behind t ∷ []) ≡ (if not b then kinds_of tokens ++ mark_number mark.Semicolon ∷ [] else kinds_of tokens)
        go true h = append-nil (kinds_of tokens)
        go false h = refl

get_append : (a : List Token) (u t : Token) (i : ℕ) → slice_get (a ++ u ∷ []) i ≡ Some t → (slice_get a i ≡ Some t) ⊎ (u ≡ t)
get_append [] u t zero h = inr (cc)
get_append [] u t (suc i) h = absurd (cc)
get_append (x ∷ a) u t zero h = inl h
get_append (x ∷ a) u t (suc i) h = get_append a u t i h

pub ended_cut : (source : List ℕ) (tokens : List Token) → AreCut source tokens → AreCut source (ended_tokens tokens)
ended_cut source tokens cut = go (slice_get tokens (length tokens - 1)) refl where
  behind : (t : Token) → slice_get tokens (length tokens - 1) ≡ Some t → (b : Bool) → AreCut source (tokens ++ (if b then [] else semicolon_behind t ∷ []))
  behind t at true = subst (λ y. AreCut source y) (sym (append-nil tokens)) cut
  behind t at false = record {
    each = λ i u h. elim (get_append tokens (semicolon_behind t) u i h) [
      | inl q ↦ cut.each i u q
      | inr q ↦ (let last = cut.each _ t at in subst (λ y. IsCut source y) q (record { first = last.last; last = last.last; ordered = omega arith }))
    ];
  }

  go : (o : Option Token) → slice_get tokens (length tokens - 1) ≡ o → AreCut source (tokens ++ added_behind o)
  go None at = subst (λ y. AreCut source y) (sym (append-nil tokens)) cut
  go (Some t) at = behind t at (ends_handler t.kind)

-- ---- the whole

pub handler_begun : {source : List ℕ} {tokens slice all : List Token} → slice ≡ tokens → all ≡ ended_tokens slice → IsUtf8 source → HasTokens source tokens → IsSentence start.Handler tokens → AreAllStatements source all 64
handler_begun {source = source} {tokens = tokens} same is utf8 has h =
    let whole = is ∙ ap (λ y. ended_tokens y) same in
    subst (λ y. AreAllStatements source y 64) (sym whole) (record {
      cut = ended_cut source tokens (tokens_cut source tokens utf8 has);
      ahead = subst (λ y. Ahead (part production.statements) y) (sym (kinds_ended tokens) ∙ from_start (ended_tokens tokens)) (single production.handler (Part production.statements ∷ []) (sentence_ahead start.Handler tokens h) refl (λ k. refl));
      room = omega arith;
    })

pub handler_of : {source : List ℕ} {tokens slice all : List Token} (v : Vec Statement) → slice ≡ tokens → all ≡ ended_tokens slice → IsSentence start.Handler tokens → ReadsAllStatements source all v → IsHandlerOf source tokens (record { statements = v })
handler_of {source = source} v same is h r = record { sentence = h; tree = subst (λ y. AreStatements source v.items y) (is ∙ ap (λ y. ended_tokens y) same) r.is }
