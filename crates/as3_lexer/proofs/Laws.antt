-- A text has tokens, or a place where none begins, and not both.
use Rattle.std.proofs.Common.{◌≡◌, ℕ, ◌+◌, ◌-◌, ◌≤◌, List, [], ◌∷◌, ◌++◌, length, drop, Some, None, Bool, true, false, cond, inl, inr, refl, ap, sym, ◌∙◌, subst, arith, append-nil}
use Rattle.std.specs.Prelude.{◌⊎◌, IsUtf8, encode_utf8, nat_eq}
use Rattle.std.specs.List.{starts_with}
use Rattle.std.proofs.lemmas.Str.{IsUtf8-past_char}
use Rattle.as3_lexer.specs.declared.token.Token.{Token}
use Rattle.as3_lexer.specs.Tokens.{Piece, AreMatches, NothingBegins, token_before, tokens_at, byte_order_mark, start_of, HasTokens, HasBadToken}
use Rattle.as3_lexer.specs.declared.token.TokenKind.{TokenKind}
use Rattle.as3_lexer.specs.declared.scanning.Match.{Match}
use Rattle.as3_lexer.specs.Scanning.{Begins}
use Rattle.std.proofs.Math.Seq.{drop-append_seam}
use Rattle.as3_lexer.specs.Laws.{IsReadable, IsReadOneWay, HasOneList, HasOneBadToken}
use Rattle.as3_lexer.proofs.Marks.{starts_gives}
use Rattle.as3_lexer.proofs.Readings.{Reading, reading, same_pieces, matches_long, end_of, end_is, Progress, one_more}
use lib.Utf8.{encode}

mark_spelled : encode_utf8 0xFEFF ≡ byte_order_mark
unfolding encode
mark_spelled = refl

-- behind a first U+FEFF stands a text
pub begin_utf8 : (text : List ℕ) → IsUtf8 text → IsUtf8 (drop (start_of text) text)
begin_utf8 text utf8 = go (starts_with nat_eq text byte_order_mark) refl
  where
    go : (t : Bool) → starts_with nat_eq text byte_order_mark ≡ t → IsUtf8 (drop (cond t 3 0) text)
    go true is =
        let (back, splits) = starts_gives byte_order_mark text is in
        let behind : drop 3 text ≡ back = ap (drop 3) splits in
        subst IsUtf8 (sym behind) (IsUtf8-past_char text back 0xFEFF utf8 (splits ∙ ap (λ t. t ++ back) (sym mark_spelled)))
    go false is = utf8

pub begin_long : (text : List ℕ) → start_of text + length (drop (start_of text) text) ≡ length text
begin_long text = go (starts_with nat_eq text byte_order_mark) refl
  where
    go : (t : Bool) → starts_with nat_eq text byte_order_mark ≡ t → cond t 3 0 + length (drop (cond t 3 0) text) ≡ length text
    go true is =
        let (back, splits) = starts_gives byte_order_mark text is in
        let long = ap length splits in
        let rest = ap (λ t. length (drop 3 t)) splits in
        omega (arith, long, rest)
    go false is = omega arith

pub is_readable : IsReadable
is_readable text utf8 = go (reading (length begin) begin (omega arith) (begin_utf8 text utf8))
  where
    begin : List ℕ
    begin = drop (start_of text) text

    ends : (pieces : List Piece) (rest : List ℕ) → AreMatches pieces (drop (start_of text) text) rest → (rest ≡ []) ⊎ NothingBegins rest → ((tokens : List Token) × HasTokens text tokens) ⊎ ((place : ℕ) × HasBadToken text place)
    ends pieces [] are end = inl (tokens_at (start_of text) pieces, record { pieces = pieces; all = are; are = refl })
    ends pieces (byte ∷ rest) are (inl none) = absurd (let long = ap length none in omega (arith, long))
    ends pieces (byte ∷ rest) are (inr nothing) =
        let less = matches_long pieces (drop (start_of text) text) (byte ∷ rest) are in
        let long = begin_long text in
        inr (length text - length (byte ∷ rest), record { pieces = pieces; rest = byte ∷ rest; before = are; nothing = nothing; more = omega arith; stands = omega (arith, less, long) })

    go : Reading (drop (start_of text) text) → ((tokens : List Token) × HasTokens text tokens) ⊎ ((place : ℕ) × HasBadToken text place)
    go read = ends read.pieces read.rest read.are read.ends

pub is_read_one_way : IsReadOneWay
is_read_one_way text tokens place utf8 has bad =
    let same = same_pieces has.pieces bad.pieces (drop (start_of text) text) [] bad.rest (begin_utf8 text utf8) has.all bad.before (inl refl) (inr bad.nothing) in
    let long = ap length same.1 in
    let more = bad.more in
    omega (arith, long, more)

pub has_one_list : HasOneList
has_one_list text one other utf8 first second =
    let same = same_pieces first.pieces second.pieces (drop (start_of text) text) [] [] (begin_utf8 text utf8) first.all second.all (inl refl) (inl refl) in
    first.are ∙ ap (tokens_at (start_of text)) same.0 ∙ sym second.are

pub has_one_bad_token : HasOneBadToken
has_one_bad_token text one other utf8 first second =
    let same = same_pieces first.pieces second.pieces (drop (start_of text) text) first.rest second.rest (begin_utf8 text utf8) first.before second.before (inr first.nothing) (inr second.nothing) in
    let long = ap length same.1 in
    let here = first.stands in
    let there = second.stands in
    omega (arith, long, here, there)

-- ---- the reading as it goes on

abbrev pub IsSoFar : List ℕ → List Token → List ℕ → Type 0
IsSoFar text tokens rest = Progress (drop (start_of text) text) (start_of text) tokens rest

pub rest_fits : (text : List ℕ) (tokens : List Token) (rest : List ℕ) → IsSoFar text tokens rest → length rest ≤ length text
rest_fits text tokens rest so_far =
    let less = matches_long so_far.pieces (drop (start_of text) text) rest so_far.are in
    let long = begin_long text in
    omega (arith, less, long)

-- nothing begins at the rest
pub is_bad : (text : List ℕ) (tokens : List Token) (rest : List ℕ) (place : ℕ) → IsSoFar text tokens rest → NothingBegins rest → 1 ≤ length rest → length text - length rest ≡ place → HasBadToken text place
is_bad text tokens rest place so_far nothing more is =
    let fits = rest_fits text tokens rest so_far in
    record { pieces = so_far.pieces; rest = rest; before = so_far.are; nothing = nothing; more = more; stands = omega (arith, fits, is) }

-- nothing is left
pub are_all : (text : List ℕ) (tokens : List Token) (rest : List ℕ) → IsSoFar text tokens rest → length rest ≡ 0 → HasTokens text tokens
are_all text tokens [] so_far none = record { pieces = so_far.pieces; all = so_far.are; are = so_far.tokens_are }
are_all text tokens (byte ∷ rest) so_far none = absurd (omega arith)

-- a match begins there
goes_on : (text : List ℕ) (tokens : List Token) (rest : List ℕ) (m : Match) → IsSoFar text tokens rest → Begins m rest
    → IsSoFar text (tokens ++ token_before m.kind (length text - length rest) (length text - length rest + m.len) []) (drop m.len rest)
goes_on text tokens rest m so_far here =
    let next = one_more (drop (start_of text) text) (start_of text) tokens rest m so_far here in
    let ends = end_is (start_of text) so_far.pieces (drop (start_of text) text) rest so_far.are in
    let long = begin_long text in
    let place : end_of (start_of text) so_far.pieces ≡ length text - length rest = omega (arith, ends, long) in
    let behind : here.back ≡ drop m.len rest = sym (ap (λ n. drop n rest) (sym here.long) ∙ ap (drop (length here.front)) here.is ∙ drop-append_seam here.front here.back) in
    subst (IsSoFar text (tokens ++ token_before m.kind (length text - length rest) (length text - length rest + m.len) [])) behind
    (subst (λ n. IsSoFar text (tokens ++ token_before m.kind n (n + m.len) []) here.back) place next)

-- white space or a comment
pub behind_gap : (text : List ℕ) (tokens after : List Token) (rest left : List ℕ) (m : Match) → IsSoFar text tokens rest → Begins m rest → m.kind ≡ None
    → after ≡ tokens → left ≡ drop m.len rest → IsSoFar text after left
behind_gap text tokens after rest left m so_far here gap stay is =
    let next = goes_on text tokens rest m so_far here in
    let same : after ≡ tokens ++ token_before m.kind (length text - length rest) (length text - length rest + m.len) [] = stay ∙ sym (append-nil tokens) ∙ sym (ap (λ k. tokens ++ token_before k (length text - length rest) (length text - length rest + m.len) []) gap) in
    subst (λ ts. IsSoFar text ts left) (sym same)
    (subst (IsSoFar text (tokens ++ token_before m.kind (length text - length rest) (length text - length rest + m.len) [])) (sym is) next)

-- a token
pub behind_token : (text : List ℕ) (tokens after : List Token) (rest left : List ℕ) (m : Match) (kind : TokenKind) → IsSoFar text tokens rest → Begins m rest → m.kind ≡ Some kind
    → after ≡ tokens ++ record { start = length text - length rest; end = length text - length rest + m.len; kind = kind } ∷ [] → left ≡ drop m.len rest → IsSoFar text after left
behind_token text tokens after rest left m kind so_far here token more is =
    let next = goes_on text tokens rest m so_far here in
    let same : after ≡ tokens ++ token_before m.kind (length text - length rest) (length text - length rest + m.len) [] =
    more ∙ sym (ap (λ k. tokens ++ token_before k (length text - length rest) (length text - length rest + m.len) []) token) in
    subst (λ ts. IsSoFar text ts left) (sym same)
    (subst (IsSoFar text (tokens ++ token_before m.kind (length text - length rest) (length text - length rest + m.len) [])) (sym is) next)
