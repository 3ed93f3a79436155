-- Bytes are written with one list of pieces.
use Rattle.std.proofs.Common.{◌≡◌, ◌≢◌, ℕ, List, [], ◌∷◌, ◌++◌, Bool, true, false, cond, inl, inr, refl, ap, sym, ◌∙◌, true≢false, eqb, arith}
use Rattle.std.specs.Prelude.{codes}
use Rattle.std.specs.List.{list_all}
use Rattle.std.specs.Char.{is_ascii_digit}
use Rattle.std.proofs.lemmas.List.{append_cancel_left}
use Rattle.mxml_items.specs.Pieces.{Piece, Written, Referred, IsPiece, ArePieces, Less, Greater, Ampersand, Quote, Apostrophe, AreDigits, IsReference, number_of}
use Rattle.mxml_items.proofs.RunLaws.{both, head, tail}
use Rattle.mxml_items.proofs.References.{shape}
use Rattle.mxml_items.proofs.PieceLaws.{same_piece}
use Rattle.mxml_tree.specs.Values.{StandsFor, IsText, IsMeant, text_of, value_of}

-- all but the last
abbrev front_of : List ℕ → List ℕ
front_of [] = []
front_of (b ∷ []) = []
front_of (b ∷ c ∷ bytes) = b ∷ front_of (c ∷ bytes)

front_of_ended : (digits : List ℕ) → front_of (digits ++ codes ";") ≡ digits
front_of_ended [] = refl
front_of_ended (d ∷ []) = refl
front_of_ended (d ∷ e ∷ digits) = ap (λ x. d ∷ x) (front_of_ended (e ∷ digits))

-- the character that a reference names, by its bytes
abbrev named_by : List ℕ → ℕ
named_by bytes =
    cond (eqb (head 0 (tail bytes)) 35)
    (cond (eqb (head 0 (tail (tail bytes))) 120) (number_of 16 (front_of (tail (tail (tail bytes))))) (number_of 10 (front_of (tail (tail bytes)))))
    (cond (eqb (head 0 (tail bytes)) 108) 60 (cond (eqb (head 0 (tail bytes)) 103) 62 (cond (eqb (head 0 (tail bytes)) 113) 34 (cond (eqb (head 0 (tail (tail bytes))) 109) 38 39))))

decimal : (digits : List ℕ) (c : ℕ) → AreDigits is_ascii_digit 10 c digits → named_by (codes "&#" ++ (digits ++ codes ";")) ≡ c
decimal [] c are = (let some = are.not_empty in absurd (omega (arith, some)))
decimal (d ∷ digits) c are =
    no_letter (eqb d 120) _ _ refl ∙ ap (number_of 10) (front_of_ended (d ∷ digits)) ∙ are.names_it
  where
    same : (b n : ℕ) → eqb b n ≡ true → b ≡ n
    same b n e = grind arith

    no_letter : (t : Bool) (x y : ℕ) → eqb d 120 ≡ t → cond t x y ≡ y
    no_letter false x y e = refl
    no_letter true x y e = absurd (true≢false (sym (both (is_ascii_digit d) (list_all is_ascii_digit digits) are.pass).0 ∙ ap is_ascii_digit (same d 120 e)))

names_it : (c : ℕ) (bytes : List ℕ) → IsReference c bytes → named_by bytes ≡ c
names_it c bytes (inl (Less is spelled)) = ap named_by spelled ∙ sym is
names_it c bytes (inl (Greater is spelled)) = ap named_by spelled ∙ sym is
names_it c bytes (inl (Ampersand is spelled)) = ap named_by spelled ∙ sym is
names_it c bytes (inl (Quote is spelled)) = ap named_by spelled ∙ sym is
names_it c bytes (inl (Apostrophe is spelled)) = ap named_by spelled ∙ sym is
names_it c bytes (inr (inl n)) = ap named_by n.is ∙ decimal n.digits c n.are_digits
names_it c bytes (inr (inr n)) = ap named_by n.is ∙ ap (number_of 16) (front_of_ended n.digits) ∙ n.are_digits.names_it

-- two references of the same bytes name the same character
pub same_character : (c d : ℕ) (x y : List ℕ) → x ≡ y → IsReference c x → IsReference d y → c ≡ d
same_character c d x y same r s = sym (names_it c x r) ∙ ap named_by same ∙ names_it d y s

-- a piece has some bytes
pub piece_is_some : (test : ℕ → Bool) (p : Piece) (rest : List ℕ) (bytes : List ℕ) → IsPiece test p bytes → [] ≢ bytes ++ rest
piece_is_some test (Written b) rest bytes p same = (let long = same ∙ ap (λ x. x ++ rest) p.0 in absurd ((cc long)))
piece_is_some test (Referred c) rest bytes p same = (let long = same ∙ ap (λ x. x ++ rest) (shape c bytes p).is in absurd ((cc long)))

same_one : (test : ℕ → Bool) (p q : Piece) (x y : List ℕ) → x ≡ y → IsPiece test p x → IsPiece test q y → p ≡ q
same_one test (Written a) (Written b) x y same p q = ap (λ t. Written (head 0 t)) (sym p.0 ∙ same ∙ q.0)
same_one test (Written a) (Referred c) x y same p q = absurd (p.2 (ap (head 0) (sym p.0 ∙ same ∙ (shape c y q).is)))
same_one test (Referred c) (Written b) x y same p q = absurd (q.2 (ap (head 0) (sym q.0 ∙ sym same ∙ (shape c x p).is)))
same_one test (Referred c) (Referred d) x y same p q = ap Referred (same_character c d x y same p q)

-- the pieces of the same bytes are the same
pub one_writing : (test : ℕ → Bool) (ps qs : List Piece) (x y : List ℕ) → x ≡ y → ArePieces test ps x → ArePieces test qs y → ps ≡ qs
one_writing test [] [] x y same h k = refl
one_writing test [] (q ∷ qs) x y same h k = absurd (piece_is_some test q k.back k.front k.first (sym h ∙ same ∙ k.is))
one_writing test (p ∷ ps) [] x y same h k = absurd (piece_is_some test p h.back h.front h.first (sym k ∙ sym same ∙ h.is))
one_writing test (p ∷ ps) (q ∷ qs) x y same h k =
    let cut = sym h.is ∙ same ∙ k.is in
    let fronts = same_piece test p q h.front h.back k.front k.back h.first k.first cut in
    let backs = append_cancel_left k.front h.back k.back (ap (λ t. t ++ h.back) (sym fronts) ∙ cut) in
    ap (λ t. t ∷ ps) (same_one test p q h.front k.front fronts h.first k.first) ∙ ap (λ t. q ∷ t) (one_writing test ps qs h.back k.back backs h.second k.second)

-- what the same bytes stand for by one reading
pub one_meaning : (read : List Piece → List ℕ) (written a b : List ℕ) → StandsFor read written a → StandsFor read written b → a ≡ b
one_meaning read written a b s t = s.is ∙ ap read (one_writing (λ b. true) s.pieces t.pieces written written refl s.are_pieces t.are_pieces) ∙ sym t.is

pub one_text : (written a b : List ℕ) → IsText written a → IsText written b → a ≡ b
one_text = one_meaning text_of

pub one_value : (written a b : List ℕ) → IsMeant written a → IsMeant written b → a ≡ b
one_value = one_meaning value_of
