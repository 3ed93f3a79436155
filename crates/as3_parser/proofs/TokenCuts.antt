-- The tokens of a text are cut between its characters.
use Rattle.std.proofs.Common.{◌≡◌, ℕ, zero, suc, ◌+◌, List, [], ◌∷◌, ◌++◌, length, take, drop, Option, Some, None, sym, ap, subst, ◌∙◌, arith, append_assoc, length-append, slice_get}
use Rattle.std.proofs.lemmas.List.{take-append-drop}
use Rattle.std.proofs.lemmas.Str.{IsCharBoundary-at_seam}
use Rattle.std.specs.Prelude.{IsUtf8}
use Rattle.std.specs.Str.{IsCharBoundary}
use Rattle.as3_lexer.specs.declared.token.Token.{Token}
use Rattle.as3_lexer.specs.declared.token.TokenKind.{TokenKind}
use Rattle.as3_lexer.specs.Tokens.{IsLongest, Piece, AreMatches, token_before, tokens_at, start_of, HasTokens}
use Rattle.as3_lexer.proofs.Cuts.{same_front}
use Rattle.as3_lexer.proofs.Matches.{match_found, match_covered}
use Rattle.as3_lexer.proofs.Laws.{begin_utf8, begin_long}
use Rattle.as3_parser.specs.Ahead.{IsCut, AreCut}

-- behind a match stands a text
behind_utf8 : (kind : Option TokenKind) (front rest : List ℕ) → IsUtf8 (front ++ rest) → IsLongest kind front rest → IsUtf8 rest
behind_utf8 kind front rest utf8 longest =
    let best = match_covered kind front rest utf8 longest.matches in
    let here = match_found (front ++ rest) utf8 best.best best.is in
    let less = longest.longest best.best.kind here.front here.back here.is here.form in
    let long = here.long in
    let least = best.longest in
    let same : length here.front ≡ length front = omega (arith, less, long, least) in
    let cut = same_front here.front front here.back rest (sym here.is) same in
    subst IsUtf8 cut.1 here.utf8

cut_token : (source front bytes others : List ℕ) (kind : TokenKind) → source ≡ front ++ (bytes ++ others) → IsUtf8 (bytes ++ others) → IsUtf8 others → IsCut source (record { start = length front; end = length front + length bytes; kind = kind })
cut_token source front bytes others kind is utf8 rest = record {
  first = IsCharBoundary-at_seam source front (bytes ++ others) is utf8;
  last = subst (λ n. IsCharBoundary source n) (length-append front bytes) (IsCharBoundary-at_seam source (front ++ bytes) others (is ∙ sym (append_assoc front bytes others)) rest);
  ordered = omega arith;
}

cut_pieces : (source front : List ℕ) (pieces : List Piece) (text : List ℕ) → source ≡ front ++ text → IsUtf8 text → AreMatches pieces text [] → (i : ℕ) (t : Token) → slice_get (tokens_at (length front) pieces) i ≡ Some t → IsCut source t
cut_pieces source front [] text is utf8 are i t at = absurd (cc)
cut_pieces source front (piece ∷ pieces) text is utf8 (others, splits, longest, next) i t at =
    let whole : IsUtf8 (piece.bytes ++ others) = subst IsUtf8 splits utf8 in
    let rest = behind_utf8 piece.kind piece.bytes others whole longest in
    let here : source ≡ front ++ (piece.bytes ++ others) = is ∙ ap (λ y. front ++ y) splits in
    let more = λ (j : ℕ) (e : slice_get (tokens_at (length (front ++ piece.bytes)) pieces) j ≡ Some t). cut_pieces source (front ++ piece.bytes) pieces others (here ∙ sym (append_assoc front piece.bytes others)) rest next j t e in
    go piece.kind i at (λ j e. more j (subst (λ n. slice_get (tokens_at n pieces) j ≡ Some t) (sym (length-append front piece.bytes)) e)) (λ kind. cut_token source front piece.bytes others kind here whole rest)
  where
    go : (k : Option TokenKind) (i : ℕ) → slice_get (token_before k (length front) (length front + length piece.bytes) (tokens_at (length front + length piece.bytes) pieces)) i ≡ Some t → ((j : ℕ) → slice_get (tokens_at (length front + length piece.bytes) pieces) j ≡ Some t → IsCut source t) → ((kind : TokenKind) → IsCut source (record { start = length front; end = length front + length piece.bytes; kind = kind })) → IsCut source t
    go None i at more first = more i at
    go (Some kind) zero at more first = let u : Token = record { start = length front; end = length front + length piece.bytes; kind = kind } in let same : u ≡ t = cc in subst (λ y. IsCut source y) same (first kind)
    go (Some kind) (suc i) at more first = more i at

pub tokens_cut : (source : List ℕ) (ts : List Token) → IsUtf8 source → HasTokens source ts → AreCut source ts
tokens_cut source ts utf8 has = record {
  each = λ i t at.
      let n = start_of source in
      let front = take n source in
      let both : source ≡ front ++ drop n source = sym (take-append-drop n source) in
      let long = ap (λ y. length y) both ∙ length-append front (drop n source) in
      let begins = begin_long source in
      let size : n ≡ length front = omega (arith, long, begins) in
      cut_pieces source front has.pieces (drop n source) both (begin_utf8 source utf8) has.all i t (subst (λ y. slice_get (tokens_at y has.pieces) i ≡ Some t) size (subst (λ y. slice_get y i ≡ Some t) has.are at));
}
