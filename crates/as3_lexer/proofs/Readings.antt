-- The reading of a text: it is there, and there is one.
use Rattle.std.proofs.Common.{◌≡◌, ℕ, zero, suc, ◌+◌, ◌≤◌, List, [], ◌∷◌, ◌++◌, length, Option, Some, None, inl, inr, refl, ap, sym, ◌∙◌, subst, arith, length-append}
use Rattle.std.specs.Str.{IsCharBoundary}
use Rattle.std.specs.Prelude.{◌⊎◌, IsUtf8, MatchOption, encode_utf8, encode_utf8_all}
use Rattle.as3_lexer.specs.declared.token.Token.{Token}
use Rattle.as3_lexer.specs.declared.token.TokenKind.{TokenKind}
use Rattle.as3_lexer.specs.declared.token.TokenKind.TheVariants as kind
use Rattle.as3_lexer.specs.declared.scanning.Match.{Match}
use Rattle.as3_lexer.specs.Forms.{IsWord}
use Rattle.as3_lexer.specs.Tokens.{IsPiece, IsMatch, IsLongest, NothingBegins, Piece, AreMatches, token_before, tokens_at}
use Rattle.as3_lexer.specs.Scanning.{match_of, Begins}
use Rattle.as3_lexer.proofs.Cuts.{same_front}
use Rattle.as3_lexer.proofs.Keywords.{keyword_word}
use Rattle.as3_lexer.proofs.Marks.{mark_begins}
use Rattle.as3_lexer.proofs.Matches.{match_found, match_covered}
use Rattle.std.proofs.lemmas.Str.{length-encode, len_utf8_bounds, IsCharBoundary-at_seam}

-- a piece has a byte
word_some : (bytes : List ℕ) → IsWord bytes → 1 ≤ length bytes
word_some bytes form =
    let long = ap length form.spelled ∙ length-append (encode_utf8 form.first) (encode_utf8_all form.others) in
    let size = length-encode form.first in
    let bounds = (len_utf8_bounds form.first).0 in
    omega (arith, long, size, bounds)

piece_some : (kind : Option TokenKind) (bytes : List ℕ) → IsPiece kind bytes → 1 ≤ length bytes
piece_some None bytes (inl form) = form.some
piece_some None bytes (inr (inl form)) = let long = ap length form.is in omega (arith, long)
piece_some None bytes (inr (inr form)) = let long = ap length form.is in omega (arith, long)
piece_some (Some kind.Identifier) bytes form = word_some bytes form.0
piece_some (Some (kind.Keyword k)) bytes form = word_some bytes (subst IsWord (sym form) (keyword_word k))
piece_some (Some kind.Number) bytes (inl form) = form.some
piece_some (Some kind.Number) bytes (inr form) = let long = ap length form.is in omega (arith, long)
piece_some (Some kind.Text) bytes (inl form) = let long = ap length form.is in omega (arith, long)
piece_some (Some kind.Text) bytes (inr form) = let long = ap length form.is in omega (arith, long)
piece_some (Some (kind.Mark m)) bytes form = let long = ap length (form ∙ (mark_begins m).is) in omega (arith, long)

covers : (text : List ℕ) → IsUtf8 text → (m : Match) → match_of text ≡ Some m → (other : Option TokenKind) (front back : List ℕ) → text ≡ front ++ back → IsMatch other front back → length front ≤ m.len
covers text utf8 m is other front back splits form =
    let best = match_covered other front back (subst IsUtf8 splits utf8) form in
    let same : Some m ≡ Some best.best = sym is ∙ ap match_of splits ∙ best.is in
    let one : m ≡ best.best = cc in
    subst (λ x. length front ≤ x.len) (sym one) best.longest

-- what is found is the longest
pub reads : (text : List ℕ) → IsUtf8 text → (m : Match) → match_of text ≡ Some m → Begins m text
reads text utf8 m is =
    let here = match_found text utf8 m is in
    let long = here.long in
    let some = piece_some m.kind here.front here.form.piece in
    record {
      front = here.front;
      back = here.back;
      is = here.is;
      long = here.long;
      some = omega (arith, long, some);
      within = (let size = ap length here.is ∙ length-append here.front here.back in omega (arith, size, long));
      boundary = subst (IsCharBoundary text) long (IsCharBoundary-at_seam text here.front here.back here.is here.utf8);
      longest = record {
        matches = here.form;
        longest = λ other front back same form. (let less = covers text utf8 m is other front back (here.is ∙ same) form in omega (arith, less, long));
      };
      utf8 = here.utf8;
    }

-- where nothing is found nothing begins
pub reads_nothing : (text : List ℕ) → IsUtf8 text → match_of text ≡ None → NothingBegins text
reads_nothing text utf8 none kind front back splits form =
    let best = match_covered kind front back (subst IsUtf8 splits utf8) form in
    let never : None ≡ Some best.best = sym none ∙ ap match_of splits ∙ best.is in
    cc

-- two that are the longest at one place are one
record SamePiece (one other : Option TokenKind) (front rest back behind : List ℕ) : Type 0 where
  kinds : one ≡ other
  fronts : front ≡ back
  rests : rest ≡ behind
  utf8 : IsUtf8 rest

same_piece : (one other : Option TokenKind) (front rest back behind : List ℕ) → IsUtf8 (front ++ rest) → front ++ rest ≡ back ++ behind → IsLongest one front rest → IsLongest other back behind
    → SamePiece one other front rest back behind
same_piece one other front rest back behind utf8 same first second =
    let a = match_covered one front rest utf8 first.matches in
    let b = match_covered other back behind (subst IsUtf8 same utf8) second.matches in
    let best : Some a.best ≡ Some b.best = sym a.is ∙ ap match_of same ∙ b.is in
    let one_best : a.best ≡ b.best = cc in
    let here = match_found (front ++ rest) utf8 a.best a.is in
    let less = first.longest a.best.kind here.front here.back here.is here.form in
    let more = first.longest other back behind same second.matches in
    let back_less = second.longest one front rest (sym same) first.matches in
    let long = here.long in
    let least = a.longest in
    let a_long : length front ≡ a.best.len = omega (arith, less, long, least) in
    let fronts_long : length front ≡ length back = omega (arith, more, back_less) in
    let b_long : length back ≡ b.best.len = sym fronts_long ∙ a_long ∙ ap (λ x. x.len) one_best in
    let parts = same_front front back rest behind same fronts_long in
    let kinds : one ≡ other = sym (a.one a_long) ∙ ap (λ x. x.kind) one_best ∙ b.one b_long in
    let cut = same_front here.front front here.back rest (sym here.is) (long ∙ sym a_long) in
    record { kinds = kinds; fronts = parts.0; rests = parts.1; utf8 = subst IsUtf8 cut.1 here.utf8 }

abbrev make_piece : Option TokenKind → List ℕ → Piece
make_piece kind bytes = record { kind = kind; bytes = bytes }

same_record : (a b : Piece) → a.kind ≡ b.kind → a.bytes ≡ b.bytes → a ≡ b
same_record a b kinds fronts = ap (λ k. make_piece k a.bytes) kinds ∙ ap (λ t. make_piece b.kind t) fronts

-- nothing goes on
abbrev pub Ends : List ℕ → Type 0
Ends rest = (rest ≡ []) ⊎ NothingBegins rest

ends_none : (rest front back : List ℕ) (kind : Option TokenKind) → Ends rest → rest ≡ front ++ back → IsLongest kind front back → ⊥
ends_none rest front back kind (inl none) splits longest =
    let some = piece_some kind front longest.matches.piece in
    let long = ap length (sym none ∙ splits) ∙ length-append front back in
    omega (arith, some, long)
ends_none rest front back kind (inr nothing) splits longest = nothing kind front back splits longest.matches

-- the pieces of a text, up to where nothing goes on, are the same
pub same_pieces : (one other : List Piece) (text rest more : List ℕ) → IsUtf8 text → AreMatches one text rest → AreMatches other text more → Ends rest → Ends more → (one ≡ other) × (rest ≡ more)
same_pieces [] [] text rest more utf8 first second ends also = (refl, sym first ∙ second)
same_pieces [] (piece ∷ other) text rest more utf8 first (others, splits, longest, next) ends also = absurd (ends_none rest piece.bytes others piece.kind ends (sym first ∙ splits) longest)
same_pieces (piece ∷ one) [] text rest more utf8 (others, splits, longest, next) second ends also = absurd (ends_none more piece.bytes others piece.kind also (sym second ∙ splits) longest)
same_pieces (piece ∷ one) (that ∷ other) text rest more utf8 (others, splits, longest, next) (behind, parts, best, later) ends also =
    let same = same_piece piece.kind that.kind piece.bytes others that.bytes behind (subst IsUtf8 splits utf8) (sym splits ∙ parts) longest best in
    let tails = same_pieces one other others rest more same.utf8 next (subst (λ t. AreMatches other t more) (sym same.rests) later) ends also in
    let kinds = same.kinds in
    let fronts = same.fronts in
    let heads = same_record piece that kinds fronts in
    (ap (λ p. p ∷ one) heads ∙ ap (λ ps. that ∷ ps) tails.0, tails.1)

-- a text is read up to where nothing goes on
pub record Reading (text : List ℕ) : Type 0 where
  pub pieces : List Piece
  pub rest : List ℕ
  pub are : AreMatches pieces text rest
  pub ends : Ends rest

pub reading : (rounds : ℕ) (text : List ℕ) → length text ≤ rounds → IsUtf8 text → Reading text
reading zero [] fits utf8 = record { pieces = []; rest = []; are = refl; ends = inl refl }
reading zero (byte ∷ text) fits utf8 = absurd (omega arith)
reading (suc rounds) text fits utf8 = go (match_of text) refl (λ (rest : List ℕ) (less : length rest ≤ rounds) (utf8 : IsUtf8 rest). reading rounds rest less utf8)
  where
    go : (r : Option Match) → match_of text ≡ r → ((rest : List ℕ) → length rest ≤ rounds → IsUtf8 rest → Reading rest) → Reading text
    go None none more = record { pieces = []; rest = text; are = refl; ends = inr (reads_nothing text utf8 none) }
    go (Some m) found more =
        let here = reads text utf8 m found in
        let size = ap length here.is ∙ length-append here.front here.back in
        let long = here.long in
        let some = here.some in
        let others = more here.back (omega (arith, size, long, some, fits)) here.utf8 in
        record {
          pieces = record { kind = m.kind; bytes = here.front } ∷ others.pieces;
          rest = others.rest;
          are = (here.back, here.is, here.longest, others.are);
          ends = others.ends;
        }

-- a rest is no longer than the text
pub matches_long : (pieces : List Piece) (text rest : List ℕ) → AreMatches pieces text rest → length rest ≤ length text
matches_long [] text rest are = let long = ap length are in omega (arith, long)
matches_long (piece ∷ pieces) text rest (others, splits, longest, next) =
    let less = matches_long pieces others rest next in
    let long = ap length splits ∙ length-append piece.bytes others in
    omega (arith, less, long)

-- one piece more
pub matches_more : (pieces : List Piece) (text : List ℕ) (kind : Option TokenKind) (bytes rest : List ℕ) → AreMatches pieces text (bytes ++ rest) → IsLongest kind bytes rest
    → AreMatches (pieces ++ record { kind = kind; bytes = bytes } ∷ []) text rest
matches_more [] text kind bytes rest are longest = (rest, are, longest, refl)
matches_more (piece ∷ pieces) text kind bytes rest (others, splits, here, next) longest = (others, splits, here, matches_more pieces others kind bytes rest next longest)

-- where the tokens of the pieces end
abbrev pub end_of : ℕ → List Piece → ℕ
end_of at [] = at
end_of at (piece ∷ pieces) = end_of (at + length piece.bytes) pieces

before_append : (kind : Option TokenKind) (start end : ℕ) (tokens more : List Token) → token_before kind start end (tokens ++ more) ≡ token_before kind start end tokens ++ more
before_append None start end tokens more = refl
before_append (Some kind) start end tokens more = refl

pub tokens_append : (at : ℕ) (pieces more : List Piece) → tokens_at at (pieces ++ more) ≡ tokens_at at pieces ++ tokens_at (end_of at pieces) more
tokens_append at [] more = refl
tokens_append at (piece ∷ pieces) more =
    ap (token_before piece.kind at (at + length piece.bytes)) (tokens_append (at + length piece.bytes) pieces more)
    ∙ before_append piece.kind at (at + length piece.bytes) (tokens_at (at + length piece.bytes) pieces) (tokens_at (end_of (at + length piece.bytes) pieces) more)

-- the end is as far on as the rest is shorter than the text
pub end_is : (at : ℕ) (pieces : List Piece) (text rest : List ℕ) → AreMatches pieces text rest → end_of at pieces + length rest ≡ at + length text
end_is at [] text rest are = let long = ap length are in omega (arith, long)
end_is at (piece ∷ pieces) text rest (others, splits, longest, next) =
    let more = end_is (at + length piece.bytes) pieces others rest next in
    let long = ap length splits ∙ length-append piece.bytes others in
    omega (arith, more, long)

-- the tokens so far, and the rest of a text that was begun
pub record Progress (text : List ℕ) (start : ℕ) (tokens : List Token) (rest : List ℕ) : Type 0 where
  pub pieces : List Piece
  pub are : AreMatches pieces text rest
  pub tokens_are : tokens ≡ tokens_at start pieces
  pub utf8 : IsUtf8 rest

pub begun : (text : List ℕ) (start : ℕ) → IsUtf8 text → Progress text start [] text
begun text start utf8 = record { pieces = []; are = refl; tokens_are = refl; utf8 = utf8 }

-- one match more
pub one_more : (text : List ℕ) (start : ℕ) (tokens : List Token) (rest : List ℕ) (m : Match) → (so_far : Progress text start tokens rest) → (here : Begins m rest)
    → Progress text start (tokens ++ token_before m.kind (end_of start so_far.pieces) (end_of start so_far.pieces + m.len) []) here.back
one_more text start tokens rest m so_far here =
    let piece = make_piece m.kind here.front in
    record {
      pieces = so_far.pieces ++ make_piece m.kind here.front ∷ [];
      are = matches_more so_far.pieces text m.kind here.front here.back (subst (AreMatches so_far.pieces text) here.is so_far.are) here.longest;
      tokens_are =
          ap (λ t. t ++ token_before m.kind (end_of start so_far.pieces) (end_of start so_far.pieces + m.len) []) so_far.tokens_are
          ∙ ap (λ n. tokens_at start so_far.pieces ++ token_before m.kind (end_of start so_far.pieces) (end_of start so_far.pieces + n) []) (sym here.long)
          ∙ sym (tokens_append start so_far.pieces (make_piece m.kind here.front ∷ []));
      utf8 = here.utf8;
    }

-- what is answered at the front of a text
pub match_cases : (text : List ℕ) → IsUtf8 text → (r : Option Match) → r ≡ match_of text → MatchOption r (NothingBegins text) (λ m. Begins m text)
match_cases text utf8 None is = reads_nothing text utf8 (sym is)
match_cases text utf8 (Some m) is = reads text utf8 m (sym is)
