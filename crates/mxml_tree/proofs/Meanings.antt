-- What pieces stand for, one behind another.
use Rattle.std.proofs.Common.{◌≡◌, ◌≢◌, ◌⊎◌, ℕ, zero, suc, ◌+◌, ◌<◌, ◌≤◌, List, [], ◌∷◌, ◌++◌, length, get_or, take, drop, map, Bool, true, false, inl, inr, refl, ap, sym, ◌∙◌, subst, true≢false, eqb, if◌then◌else◌, append_assoc, add-one, arith}
use Rattle.std.specs.Prelude.{◌&&◌, ◌||◌, All}
use Rattle.std.specs.List.{flat_map}
use lib.Utf8.{encode}
use Rattle.std.proofs.Math.Seq.{drop-cons}
use Rattle.std.proofs.lemmas.List.{append-nil, append_cancel_left, drop_all, length-append, take-append-drop}
use Rattle.std.proofs.lemmas.List.Folds.{flat_map-map}
use Rattle.mxml_items.specs.Pieces.{Piece, Written, Referred, BeginsWithReference, HasNoReference}
use Rattle.mxml_items.proofs.RunLaws.{head, tail}
use Rattle.mxml_items.proofs.References.{shape, same_reference}
use Rattle.mxml_tree.specs.Values.{ArePiecesOf, StandsFor, bytes_of, with_line_ends, with_spaces, text_of, value_of}
use Rattle.mxml_tree.proofs.SamePieces.{same_character, piece_is_some}

-- bytes other than `&`
abbrev pub ArePlain : List ℕ → Type 0
ArePlain bytes = All (λ b. b ≢ 38) bytes

plain_rest : (b : ℕ) (bytes : List ℕ) → ArePlain (b ∷ bytes) → ArePlain bytes
plain_rest b bytes plain k d less = plain (suc k) d (omega (arith, less))

-- the pieces of a text that begins with plain bytes are these, and then pieces of what stands behind
pub pieces_behind : (front rest : List ℕ) (ps : List Piece) → ArePlain front → ArePiecesOf ps (front ++ rest) → (qs : List Piece) × (ps ≡ map Written front ++ qs) × ArePiecesOf qs rest
pieces_behind [] rest ps plain are = (ps, refl, are)
pieces_behind (b ∷ front) rest [] plain are = absurd ((cc are))
pieces_behind (b ∷ front) rest (Written a ∷ ps) plain are =
    let cut = are.is ∙ ap (λ x. x ++ are.back) are.first.0 in
    let (qs, is, behind) = pieces_behind front rest ps (plain_rest b front plain) (subst (ArePiecesOf ps) (sym (ap tail cut)) are.second) in
    (qs, ap (λ n. Written n ∷ ps) (sym (ap (head 0) cut)) ∙ ap (λ t. Written b ∷ t) is, behind)
pieces_behind (b ∷ front) rest (Referred c ∷ ps) plain are =
    absurd (plain 0 0 (omega arith) (ap (head 0) (are.is ∙ ap (λ x. x ++ are.back) (shape c are.front are.first).is)))

-- pieces that begin with `&` begin with a reference
pub begins_reference : (from others : List ℕ) (ps : List Piece) → from ≡ 38 ∷ others → ArePiecesOf ps from → HasNoReference from → ⊥
begins_reference from others [] is are none = (let same = sym are ∙ is in absurd ((cc same)))
begins_reference from others (Written b ∷ ps) is are none = are.first.2 (ap (head 0) (sym (are.is ∙ ap (λ x. x ++ are.back) are.first.0) ∙ is))
begins_reference from others (Referred c ∷ ps) is are none = none c are.back (record { bytes = are.front; is = are.is; is_reference = are.first })

pub reference_is_there : (text : List ℕ) (i : ℕ) (ps : List Piece) → i < length text → get_or text i 0 ≡ 38 → ArePlain (take i text) → ArePiecesOf ps text → HasNoReference (drop i text) → ⊥
reference_is_there text i ps within here plain are none =
    let (qs, _, behind) = pieces_behind (take i text) (drop i text) ps plain (subst (ArePiecesOf ps) (sym (take-append-drop i text)) are) in
    begins_reference (drop i text) (tail (drop i text)) qs (begins text i within here) behind none
  where
    begins : (text : List ℕ) (i : ℕ) → i < length text → get_or text i 0 ≡ 38 → drop i text ≡ 38 ∷ tail (drop i text)
    begins [] i within here = absurd (omega (arith, within))
    begins (b ∷ text) zero within here = ap (λ n. n ∷ text) here
    begins (b ∷ text) (suc i) within here = begins text i (omega (arith, within)) here

-- what a piece adds, in a value or in a text
abbrev pub added : Bool → Piece → List ℕ
added true p = bytes_of (with_spaces p)
added false p = bytes_of p

abbrev pub meant : Bool → Bool → List Piece → List ℕ
meant spaces behind_return ps = flat_map (added spaces) (with_line_ends behind_return ps)

pub read_is : (spaces : Bool) (ps : List Piece) → (if spaces then value_of else text_of) ps ≡ meant spaces false ps
read_is true ps = flat_map-map bytes_of with_spaces (with_line_ends false ps)
read_is false ps = refl

pub reference_first : (spaces behind_return : Bool) (c : ℕ) (ps : List Piece) → meant spaces behind_return (Referred c ∷ ps) ≡ encode c ++ meant spaces false ps
reference_first true behind_return c ps = refl
reference_first false behind_return c ps = refl

-- what a written byte adds
pub record Adds (spaces behind_return : Bool) (b : ℕ) : Type 0 where
  pub front : List ℕ
  pub is : (ps : List Piece) → meant spaces behind_return (Written b ∷ ps) ≡ front ++ meant spaces (eqb b 13) ps
  -- a byte of an ASCII character or none
  pub of_ascii : b < 128 → (front ≡ []) ⊎ ((a : ℕ) × (front ≡ a ∷ []) × (a < 128))
  pub of_others : 128 ≤ b → front ≡ b ∷ []

pub adds : (spaces behind_return : Bool) (b : ℕ) → Adds spaces behind_return b
adds spaces behind_return b =
    record {
      front = front (eqb b 13) (behind_return && eqb b 10);
      is = λ ps. line (eqb b 13) (behind_return && eqb b 10) ps;
      of_ascii = λ low. ascii (eqb b 13) (behind_return && eqb b 10) low;
      of_others = λ high. others (eqb b 13) (eqb b 10) behind_return high (differs b 13 (omega (arith, high))) (differs b 10 (omega (arith, high)));
    }
  where
    front : (t u : Bool) → List ℕ
    front true u = added spaces (Written 10)
    front false true = []
    front false false = added spaces (Written b)

    line : (t u : Bool) (ps : List Piece) →
        flat_map (added spaces) (elim t [ true ↦ Written 10 ∷ with_line_ends true ps | false ↦ elim u [ true ↦ with_line_ends false ps | false ↦ Written b ∷ with_line_ends false ps ] ])
        ≡ front t u ++ meant spaces t ps
    line true u ps = refl
    line false true ps = refl
    line false false ps = refl

    differs : (b n : ℕ) → n < b → eqb b n ≡ false
    differs b n more = grind arith

    one : (spaces : Bool) (b : ℕ) → b < 128 → (a : ℕ) × (added spaces (Written b) ≡ a ∷ []) × (a < 128)
    one true b low = go (eqb b 10 || eqb b 9)
      where
        go : (t : Bool) → (a : ℕ) × (((if t then 32 else b) ∷ []) ≡ a ∷ []) × (a < 128)
        go true = (32, refl, omega arith)
        go false = (b, refl, low)
    one false b low = (b, refl, low)

    ascii : (t u : Bool) → b < 128 → (front t u ≡ []) ⊎ ((a : ℕ) × (front t u ≡ a ∷ []) × (a < 128))
    ascii true u low = inr (one spaces 10 (omega arith))
    ascii false true low = inl refl
    ascii false false low = inr (one spaces b low)

    kept : (spaces : Bool) (b : ℕ) → 128 ≤ b → added spaces (Written b) ≡ b ∷ []
    kept true b high = go (eqb b 10) (eqb b 9) (differs b 10 (omega (arith, high))) (differs b 9 (omega (arith, high)))
      where
        go : (t u : Bool) → t ≡ false → u ≡ false → ((if (t || u) then 32 else b) ∷ []) ≡ b ∷ []
        go false false e f = refl
        go true u e f = absurd (true≢false e)
        go false true e f = absurd (true≢false f)
    kept false b high = refl

    others : (t u r : Bool) → 128 ≤ b → t ≡ false → u ≡ false → front t (r && u) ≡ b ∷ []
    others false false true high e f = kept spaces b high
    others false false false high e f = kept spaces b high
    others true u r high e f = absurd (true≢false e)
    others false true r high e f = absurd (true≢false f)

-- bytes before a reference
pub reference_behind : (spaces behind_return : Bool) (plain : List ℕ) (c : ℕ) (ps : List Piece) →
    meant spaces behind_return (map Written plain ++ (Referred c ∷ ps)) ≡ meant spaces behind_return (map Written plain) ++ (encode c ++ meant spaces false ps)
reference_behind spaces behind_return [] c ps = reference_first spaces behind_return c ps
reference_behind spaces behind_return (b ∷ plain) c ps =
    let a = adds spaces behind_return b in
    a.is (map Written plain ++ (Referred c ∷ ps)) ∙ ap (λ x. a.front ++ x) (reference_behind spaces (eqb b 13) plain c ps)
    ∙ sym (append_assoc a.front (meant spaces (eqb b 13) (map Written plain)) (encode c ++ meant spaces false ps))
    ∙ ap (λ x. x ++ (encode c ++ meant spaces false ps)) (sym (a.is (map Written plain)))

-- a byte by itself, and the same before others
pub byte_by_itself : (spaces behind_return : Bool) (b a : ℕ) (ps : List Piece) → (if spaces then value_of else text_of) (Written b ∷ []) ≡ a ∷ [] →
    (behind_return ≡ false) ⊎ (b ≢ 10) → meant spaces behind_return (Written b ∷ ps) ≡ a ∷ meant spaces (eqb b 13) ps
byte_by_itself spaces behind_return b a ps alone first =
    ap (λ u. flat_map (added spaces) (elim (eqb b 13) [ true ↦ Written 10 ∷ with_line_ends true ps | false ↦ elim u [ true ↦ with_line_ends false ps | false ↦ Written b ∷ with_line_ends false ps ] ])) (no_end first)
    ∙ line (eqb b 13) (sym (read_is spaces (Written b ∷ [])) ∙ alone)
  where
    differs : (b n : ℕ) → b ≢ n → eqb b n ≡ false
    differs b n ne = grind arith

    neither : (r u : Bool) → u ≡ false → (r && u) ≡ false
    neither true u e = e
    neither false u e = refl

    no_end : (behind_return ≡ false) ⊎ (b ≢ 10) → (behind_return && eqb b 10) ≡ false
    no_end (inl e) = ap (λ r. r && eqb b 10) e
    no_end (inr ne) = neither behind_return (eqb b 10) (differs b 10 ne)

    before : (spaces : Bool) (n : ℕ) (others : List ℕ) → added spaces (Written n) ++ [] ≡ a ∷ [] → added spaces (Written n) ++ others ≡ a ∷ others
    before true n others e = ap (λ x. head 0 x ∷ others) e
    before false n others e = ap (λ x. head 0 x ∷ others) e

    line : (t : Bool) → flat_map (added spaces) (elim t [ true ↦ Written 10 ∷ [] | false ↦ Written b ∷ [] ]) ≡ a ∷ [] →
        flat_map (added spaces) (elim t [ true ↦ Written 10 ∷ with_line_ends true ps | false ↦ elim false [ true ↦ with_line_ends false ps | false ↦ Written b ∷ with_line_ends false ps ] ])
        ≡ a ∷ meant spaces t ps
    line true e = before spaces 10 (meant spaces true ps) e
    line false e = before spaces b (meant spaces false ps) e

-- an LF behind a CR adds nothing
pub end_of_line : (spaces behind_return : Bool) (b : ℕ) (ps : List Piece) → behind_return ≡ true → b ≡ 10 → meant spaces behind_return (Written b ∷ ps) ≡ meant spaces (eqb b 13) ps
end_of_line spaces behind_return b ps returned feed =
    ap (λ r. meant spaces r (Written b ∷ ps)) returned ∙ ap (λ n. meant spaces true (Written n ∷ ps)) feed ∙ ap (λ n. meant spaces (eqb n 13) ps) (sym feed)

-- the next of some bytes, with what stands before it and behind it
module _ (spaces behind_return : Bool) (plain : List ℕ) (i : ℕ) (within : i < length plain) (bytes whole : List ℕ) (so_far : bytes ++ meant spaces behind_return (map Written (drop i plain)) ≡ whole) where
  next : meant spaces behind_return (map Written (drop i plain)) ≡ meant spaces behind_return (Written (get_or plain i 0) ∷ map Written (drop (i + 1) plain))
  next = ap (λ bs. meant spaces behind_return (map Written bs)) (let cut : drop i plain ≡ get_or plain i 0 ∷ drop (i + 1) plain = rw (add-one, drop-cons plain i 0) refl in cut)

  pub byte_is_put : (a : ℕ) → (if spaces then value_of else text_of) (Written (get_or plain i 0) ∷ []) ≡ a ∷ [] → (behind_return ≡ false) ⊎ (get_or plain i 0 ≢ 10) →
      (bytes ++ (a ∷ [])) ++ meant spaces (eqb (get_or plain i 0) 13) (map Written (drop (i + 1) plain)) ≡ whole
  byte_is_put a alone first =
      append_assoc bytes (a ∷ []) (meant spaces (eqb (get_or plain i 0) 13) (map Written (drop (i + 1) plain)))
      ∙ ap (λ x. bytes ++ x) (sym (next ∙ byte_by_itself spaces behind_return (get_or plain i 0) a (map Written (drop (i + 1) plain)) alone first)) ∙ so_far

  pub byte_is_passed : behind_return ≡ true → get_or plain i 0 ≡ 10 → bytes ++ meant spaces (eqb (get_or plain i 0) 13) (map Written (drop (i + 1) plain)) ≡ whole
  byte_is_passed returned feed =
      ap (λ x. bytes ++ x) (sym (next ∙ end_of_line spaces behind_return (get_or plain i 0) (map Written (drop (i + 1) plain)) returned feed)) ∙ so_far

pub all_are_put : (spaces behind_return : Bool) (plain : List ℕ) (i : ℕ) (bytes old : List ℕ) → length plain ≤ i →
    bytes ++ meant spaces behind_return (map Written (drop i plain)) ≡ old ++ meant spaces false (map Written plain) → bytes ≡ old ++ (if spaces then value_of else text_of) (map Written plain)
all_are_put spaces behind_return plain i bytes old end so_far =
    sym (ap (λ bs. bytes ++ meant spaces behind_return (map Written bs)) (drop_all i plain end) ∙ append-nil bytes) ∙ so_far ∙ ap (λ x. old ++ x) (sym (read_is spaces (map Written plain)))

-- a reference at the front is the first piece
reference_cut : (from : List ℕ) (c : ℕ) (unread : List ℕ) (ps : List Piece) → ArePiecesOf ps from → BeginsWithReference from c unread → (qs : List Piece) × (ps ≡ Referred c ∷ qs) × ArePiecesOf qs unread
reference_cut from c unread [] are r = (let same = sym are ∙ r.is ∙ ap (λ x. x ++ unread) (shape c r.bytes r.is_reference).is in absurd ((cc same)))
reference_cut from c unread (Written b ∷ ps) are r =
    absurd (are.first.2 (ap (head 0) (sym (are.is ∙ ap (λ x. x ++ are.back) are.first.0) ∙ r.is ∙ ap (λ x. x ++ unread) (shape c r.bytes r.is_reference).is)))
reference_cut from c unread (Referred d ∷ ps) are r =
    let cut = sym are.is ∙ r.is in
    let fronts = same_reference d c are.front are.back r.bytes unread are.first r.is_reference cut in
    let backs = append_cancel_left r.bytes are.back unread (ap (λ x. x ++ are.back) (sym fronts) ∙ cut) in
    (ps, ap (λ n. Referred n ∷ ps) (same_character d c are.front r.bytes fronts are.first r.is_reference), subst (ArePiecesOf ps) backs are.second)

pub cut_here : (rest plain : List ℕ) → plain ≡ take (length plain) rest → rest ≡ plain ++ drop (length plain) rest
cut_here rest plain front = sym (ap (λ x. x ++ drop (length plain) rest) front ∙ take-append-drop (length plain) rest)

-- some pieces have been read, others still stand there
pub record SoFar (spaces : Bool) (written bytes rest : List ℕ) : Type 0 where
  pub pieces : List Piece
  pub others : List Piece
  pub are_pieces : ArePiecesOf pieces written
  pub are_others : ArePiecesOf others rest
  pub is : bytes ++ meant spaces false others ≡ meant spaces false pieces

pub goes_on : (spaces : Bool) (written bytes rest plain from : List ℕ) (c : ℕ) (unread : List ℕ) → SoFar spaces written bytes rest → ArePlain plain → rest ≡ plain ++ from → BeginsWithReference from c unread →
    SoFar spaces written ((bytes ++ (if spaces then value_of else text_of) (map Written plain)) ++ encode c) unread
goes_on spaces written bytes rest plain from c unread h none cut r =
    let (ps, first, are) = pieces_behind plain from h.others none (subst (ArePiecesOf h.others) cut h.are_others) in
    let (qs, second, others) = reference_cut from c unread ps are r in
    let front = meant spaces false (map Written plain) in
    let back = meant spaces false qs in
    record {
      pieces = h.pieces;
      others = qs;
      are_pieces = h.are_pieces;
      are_others = others;
      is =
          ap (λ x. ((bytes ++ x) ++ encode c) ++ back) (read_is spaces (map Written plain))
          ∙ append_assoc (bytes ++ front) (encode c) back ∙ append_assoc bytes front (encode c ++ back)
          ∙ ap (λ x. bytes ++ x) (sym (reference_behind spaces false plain c qs))
          ∙ ap (λ x. bytes ++ meant spaces false x) (sym (first ∙ ap (λ x. map Written plain ++ x) second)) ∙ h.is;
    }

pub unread_is_shorter : (rest plain from : List ℕ) (c : ℕ) (unread : List ℕ) → rest ≡ plain ++ from → BeginsWithReference from c unread → length unread < length rest
unread_is_shorter rest plain from c unread cut r =
    let one = ap length cut ∙ length-append plain from in
    let two = ap length r.is ∙ length-append r.bytes unread in
    let some = ap length (shape c r.bytes r.is_reference).is in
    omega (arith, one, two, some)

pub all_is_read : (spaces : Bool) (written bytes rest : List ℕ) → SoFar spaces written bytes rest → ArePlain rest →
    StandsFor (if spaces then value_of else text_of) written (bytes ++ (if spaces then value_of else text_of) (map Written rest))
all_is_read spaces written bytes rest h none =
    let (ps, first, are) = pieces_behind rest [] h.others none (subst (ArePiecesOf h.others) (sym (append-nil rest)) h.are_others) in
    let whole : h.others ≡ map Written rest = first ∙ ap (λ x. map Written rest ++ x) (nothing ps are) ∙ append-nil (map Written rest) in
    record {
      pieces = h.pieces;
      are_pieces = h.are_pieces;
      is = ap (λ x. bytes ++ x) (read_is spaces (map Written rest)) ∙ ap (λ x. bytes ++ meant spaces false x) (sym whole) ∙ h.is ∙ sym (read_is spaces h.pieces);
    }
  where
    nothing : (ps : List Piece) → ArePiecesOf ps [] → ps ≡ []
    nothing [] are = refl
    nothing (p ∷ ps) are = absurd (piece_is_some (λ b. true) p are.back are.front are.first are.is)
