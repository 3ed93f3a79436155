-- Pieces one behind another: how they join, and where they end.
use Rattle.std.proofs.Common.{◌≡◌, ◌≢◌, ℕ, ◌+◌, ◌-◌, ◌<◌, List, [], ◌∷◌, ◌++◌, length, take, drop, map, Bool, true, false, refl, ap, sym, ◌∙◌, subst, true≢false, eqb, not, append_assoc, arith}
use Rattle.std.specs.Prelude.{◌&&◌, ◌||◌}
use Rattle.std.specs.List.{list_all}
use Rattle.std.proofs.Math.Seq.{drop-append_seam}
use Rattle.std.proofs.lemmas.List.{length-append, append_cancel_left, take-append-drop, append_cancel_right}
use Rattle.mxml_items.specs.declared.bytes.ByteKind.TheVariants as kind
use Rattle.mxml_items.specs.Runs.{IsRun, StopsAt, takes}
use Rattle.mxml_items.specs.Pieces.{Piece, Written, Referred, IsPiece, ArePieces, is_in_text, is_in_value, HasNoPiece, HasNoReference, BeginsWithReference, IsPlain, IsWritten}
use Rattle.mxml_items.proofs.RunLaws.{both, and_true, head}
use Rattle.mxml_items.proofs.References.{shape, same_reference}

pub each_join : (test : ℕ → Bool) (ps qs : List Piece) (a b : List ℕ) → ArePieces test ps a → ArePieces test qs b → ArePieces test (ps ++ qs) (a ++ b)
each_join test [] qs a b h k = subst (λ x. ArePieces test qs (x ++ b)) (sym h) k
each_join test (p ∷ ps) qs a b h k =
    record {
      front = h.front;
      back = h.back ++ b;
      is = ap (λ x. x ++ b) h.is ∙ append_assoc h.front h.back b;
      first = h.first;
      second = each_join test ps qs h.back b h.second k;
    }

-- bytes that may be written as they are, none of them `&`, are pieces
written_all : (test plain : ℕ → Bool) → ((b : ℕ) → plain b ≡ true → (test b ≡ true) × (b ≢ 38)) → (bytes : List ℕ) → list_all plain bytes ≡ true → ArePieces test (map Written bytes) bytes
written_all test plain turn [] pass = refl
written_all test plain turn (b ∷ bytes) pass =
    let (one, others) = both (plain b) (list_all plain bytes) pass in
    record { front = b ∷ []; back = bytes; is = refl; first = (refl, (turn b one).0, (turn b one).1); second = written_all test plain turn bytes others }

run_is_plain : (test plain : ℕ → Bool) → ((b : ℕ) → plain b ≡ true → (test b ≡ true) × (b ≢ 38)) → ((b : ℕ) → plain b ≡ false → test b ≡ true → b ≢ 38 → ⊥) →
    (text front rest : List ℕ) → IsRun plain text front rest → IsPlain test text rest
run_is_plain test plain turn back text front rest run =
    record {
      begins = record { front = front; pieces = map Written front; is = run.is; are_pieces = written_all test plain turn front run.pass };
      stops = λ b others same pass ne. back b (subst (StopsAt plain) same run.stops) pass ne;
    }

differs : (b n : ℕ) → not (eqb b n) ≡ true → b ≢ n
differs b n e same = grind arith

same_or_not : (b n : ℕ) → b ≢ n → eqb b n ≡ false
same_or_not b n ne = grind arith

-- outside quotes
pub text_run : (text front rest : List ℕ) → IsRun (takes kind.Plain) text front rest → IsPlain is_in_text text rest
text_run text front rest run = run_is_plain is_in_text (takes kind.Plain) turn back text front rest run
  where
    turn : (b : ℕ) → (not (eqb b 60) && not (eqb b 38)) ≡ true → (not (eqb b 60) ≡ true) × (b ≢ 38)
    turn b pass = ((both (not (eqb b 60)) (not (eqb b 38)) pass).0, differs b 38 (both (not (eqb b 60)) (not (eqb b 38)) pass).1)

    back : (b : ℕ) → (not (eqb b 60) && not (eqb b 38)) ≡ false → not (eqb b 60) ≡ true → b ≢ 38 → ⊥
    back b fails pass ne = true≢false (sym (and_true (not (eqb b 60)) (not (eqb b 38)) pass (ap not (same_or_not b 38 ne))) ∙ fails)

-- between quotes
pub value_run : (quote : ℕ) (text front rest : List ℕ) → IsRun (takes (kind.PlainExcept quote)) text front rest → IsPlain (is_in_value quote) text rest
value_run quote text front rest run = run_is_plain (is_in_value quote) (takes (kind.PlainExcept quote)) turn back text front rest run
  where
    cases : (x y z : Bool) → ((not x && not y) && not z) ≡ true → (not (z || x) ≡ true) × (not y ≡ true)
    cases false false false e = (refl, refl)
    cases true y z e = absurd (true≢false (sym e))
    cases false true z e = absurd (true≢false (sym e))
    cases false false true e = absurd (true≢false (sym e))

    turn : (b : ℕ) → ((not (eqb b 60) && not (eqb b 38)) && not (eqb b quote)) ≡ true → (not (eqb b quote || eqb b 60) ≡ true) × (b ≢ 38)
    turn b pass = (let found = cases (eqb b 60) (eqb b 38) (eqb b quote) pass in (found.0, differs b 38 found.1))

    clash : (x y z : Bool) → ((not x && not y) && not z) ≡ false → not (z || x) ≡ true → y ≡ false → ⊥
    clash false false false e pass ne = true≢false e
    clash true y false e pass ne = true≢false (sym pass)
    clash x y true e pass ne = true≢false (sym pass)
    clash false true false e pass ne = true≢false ne

    back : (b : ℕ) → ((not (eqb b 60) && not (eqb b 38)) && not (eqb b quote)) ≡ false → not (eqb b quote || eqb b 60) ≡ true → b ≢ 38 → ⊥
    back b fails pass ne = clash (eqb b 60) (eqb b 38) (eqb b quote) fails pass (same_or_not b 38 ne)

-- behind a reference the pieces go on
pub plain_goes_on : (test : ℕ → Bool) (text rest : List ℕ) (c : ℕ) (unread behind : List ℕ) → IsPlain test text rest → BeginsWithReference rest c unread → IsPlain test unread behind → IsPlain test text behind
plain_goes_on test text rest c unread behind h r k =
    let a = h.begins in
    let b = k.begins in
    record {
      begins = record {
        front = a.front ++ (r.bytes ++ b.front);
        pieces = a.pieces ++ (Referred c ∷ b.pieces);
        is =
            a.is ∙ ap (λ x. a.front ++ x) (r.is ∙ ap (λ x. r.bytes ++ x) b.is)
            ∙ sym (append_assoc a.front (r.bytes ++ b.front) behind ∙ ap (λ x. a.front ++ x) (append_assoc r.bytes b.front behind));
        are_pieces = each_join test a.pieces (Referred c ∷ b.pieces) a.front (r.bytes ++ b.front) a.are_pieces (record { front = r.bytes; back = b.front; is = refl; first = r.is_reference; second = b.are_pieces });
      };
      stops = k.stops;
    }

pub plain_is_shorter : (test : ℕ → Bool) (rest : List ℕ) (c : ℕ) (unread behind : List ℕ) → BeginsWithReference rest c unread → IsPlain test unread behind → length behind < length rest
plain_is_shorter test rest c unread behind r k =
    let m = shape c r.bytes r.is_reference in
    let one = ap length r.is ∙ length-append r.bytes unread in
    let two = ap length k.begins.is ∙ length-append k.begins.front behind in
    let three = ap length m.is in
    omega (arith, one, two, three)

-- where no reference stands, they are all
pub plain_is_all : (test : ℕ → Bool) (text rest : List ℕ) → IsPlain test text rest → HasNoReference rest → IsWritten test text (take (length text - length rest) text) (drop (length text - length rest) text)
plain_is_all test text rest h none =
    let a = h.begins in
    let long = ap length a.is ∙ length-append a.front rest in
    let n : length text - length rest ≡ length a.front = omega (arith, long) in
    let behind : drop (length text - length rest) text ≡ rest = ap (λ k. drop k text) n ∙ ap (drop (length a.front)) a.is ∙ drop-append_seam a.front rest in
    let before : take (length text - length rest) text ≡ a.front =
    append_cancel_right (take (length text - length rest) text) a.front rest (ap (λ x. take (length text - length rest) text ++ x) (sym behind) ∙ take-append-drop (length text - length rest) text ∙ a.is) in
    record {
      pieces = a.pieces;
      is = sym (take-append-drop (length text - length rest) text);
      are_pieces = subst (ArePieces test a.pieces) (sym before) a.are_pieces;
      no_more = subst (HasNoPiece test) (sym behind) no_piece;
    }
  where
    no_piece : HasNoPiece test rest
    no_piece (Written b) bytes others is p = h.stops b others (is ∙ ap (λ x. x ++ others) p.0) p.1 p.2
    no_piece (Referred c) bytes others is p = none c others (record { bytes = bytes; is = is; is_reference = p })

-- of one text two pieces are the same bytes
pub same_piece : (test : ℕ → Bool) (p q : Piece) (a rest b others : List ℕ) → IsPiece test p a → IsPiece test q b → a ++ rest ≡ b ++ others → a ≡ b
same_piece test (Written m) (Written n) a rest b others h k same =
    h.0 ∙ ap (λ x. x ∷ []) (ap (head 0) (sym (ap (λ x. x ++ rest) h.0) ∙ same ∙ ap (λ x. x ++ others) k.0)) ∙ sym k.0
same_piece test (Written m) (Referred d) a rest b others h k same =
    absurd (h.2 (ap (head 0) (sym (ap (λ x. x ++ rest) h.0) ∙ same ∙ ap (λ x. x ++ others) (shape d b k).is)))
same_piece test (Referred c) (Written n) a rest b others h k same =
    absurd (k.2 (ap (head 0) (sym (ap (λ x. x ++ others) k.0) ∙ sym same ∙ ap (λ x. x ++ rest) (shape c a h).is)))
same_piece test (Referred c) (Referred d) a rest b others h k same = same_reference c d a rest b others h k same

-- of one text all pieces begin with any others
pub pieces_go_on : (test : ℕ → Bool) (ps qs : List Piece) (a rest b others : List ℕ) → ArePieces test ps a → ArePieces test qs b → a ++ rest ≡ b ++ others → HasNoPiece test rest → (back : List ℕ) × (a ≡ b ++ back)
pieces_go_on test ps [] a rest b others h k same none = (a, ap (λ x. x ++ a) (sym k))
pieces_go_on test [] (q ∷ qs) a rest b others h k same none =
    absurd (none q k.front (k.back ++ others) (sym (ap (λ x. x ++ rest) h) ∙ same ∙ ap (λ x. x ++ others) k.is ∙ append_assoc k.front k.back others) k.first)
pieces_go_on test (p ∷ ps) (q ∷ qs) a rest b others h k same none =
    let cut : h.front ++ (h.back ++ rest) ≡ k.front ++ (k.back ++ others) =
    sym (ap (λ x. x ++ rest) h.is ∙ append_assoc h.front h.back rest) ∙ same ∙ ap (λ x. x ++ others) k.is ∙ append_assoc k.front k.back others in
    let one = same_piece test p q h.front (h.back ++ rest) k.front (k.back ++ others) h.first k.first cut in
    let behind = append_cancel_left k.front (h.back ++ rest) (k.back ++ others) (ap (λ x. x ++ (h.back ++ rest)) (sym one) ∙ cut) in
    let (back, is) = pieces_go_on test ps qs h.back rest k.back others h.second k.second behind none in
    (back, h.is ∙ ap (λ x. x ++ h.back) one ∙ ap (λ x. k.front ++ x) is ∙ sym (append_assoc k.front k.back back) ∙ ap (λ x. x ++ back) (sym k.is))

-- where no piece stands behind either, they are the same bytes
pub same_pieces : (test : ℕ → Bool) (ps qs : List Piece) (a rest b others : List ℕ) → ArePieces test ps a → ArePieces test qs b → a ++ rest ≡ b ++ others → HasNoPiece test rest → HasNoPiece test others → a ≡ b
same_pieces test ps qs a rest b others h k same none no_other =
    let (back, is) = pieces_go_on test ps qs a rest b others h k same none in
    let (more, was) = pieces_go_on test qs ps b others a rest k h (sym same) no_other in
    let one = ap length is ∙ length-append b back in
    let two = ap length was ∙ length-append a more in
    is ∙ ap (λ x. b ++ x) (empty back (omega (arith, one, two))) ∙ nothing_behind b
  where
    empty : (xs : List ℕ) → length xs ≡ 0 → xs ≡ []
    empty [] e = refl
    empty (x ∷ xs) e = absurd (omega (arith, e))

    nothing_behind : (xs : List ℕ) → xs ++ [] ≡ xs
    nothing_behind [] = refl
    nothing_behind (x ∷ xs) = ap (λ t. x ∷ t) (nothing_behind xs)

-- no piece of a value begins with its quote
pub quote_ends : (quote : ℕ) (rest : List ℕ) → quote ≢ 38 → HasNoPiece (is_in_value quote) (quote ∷ rest)
quote_ends quote rest ne (Written b) bytes others is p =
    let same = ap (head 0) (is ∙ ap (λ x. x ++ others) p.0) in
    true≢false (sym (subst (λ n. is_in_value quote n ≡ true) (sym same) p.1) ∙ itself quote)
  where
    itself : (n : ℕ) → is_in_value n n ≡ false
    itself n = ap (λ t. not (t || eqb n 60)) (self n)
      where
        self : (n : ℕ) → eqb n n ≡ true
        self n = grind arith
quote_ends quote rest ne (Referred c) bytes others is p = ne (ap (head 0) (is ∙ ap (λ x. x ++ others) (shape c bytes p).is))
