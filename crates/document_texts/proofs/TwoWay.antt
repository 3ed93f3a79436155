-- Texts that are `@` and one part.
use Rattle.std.proofs.Common.{◌≡◌, ◌∙◌, ℕ, List, [], ◌∷◌, ap, sym, subst, refl, Bool, true, false, length, cond, arith}
use Rattle.std.specs.Prelude.{◌==◌, ◌&&◌, ◌||◌, if◌then◌else◌, bytes_eq, codes}
use Rattle.std.proofs.lemmas.Bool.{eqb-true, ne_eqb}
use Rattle.source_sites.specs.Texts.{Text}
use Rattle.document_sites.specs.BindingTexts.{Piece, Plain, Part, Unclosed, Byte, BindingText, Concatenation, Two_way, Escapes, Opens, Plain_byte, add_plain, add_to_part, binding_text, binding_text_of, byte_kind, is_two_way, next_is_brace, pieces_inside, pieces_outside}
use Rattle.document_texts.specs.Scanning.{closes_at_end, is_one_part, is_two_way_text}

abbrev is_nil : List Piece → Bool
is_nil [] = true
is_nil (p ∷ ps) = false

-- one part alone
abbrev is_single : List Piece → Bool
is_single (Part text ∷ ps) = is_nil ps
is_single _ = false

-- a part stands first, or a brace that isn't closed
abbrev is_part_first : List Piece → Bool
is_part_first (Part text ∷ ps) = true
is_part_first (Unclosed ∷ ps) = true
is_part_first _ = false

nil_with : (b : ℕ) (ps : List Piece) → is_nil (add_plain b ps) ≡ false
nil_with b [] = refl
nil_with b (Plain text ∷ ps) = refl
nil_with b (Part text ∷ ps) = refl
nil_with b (Unclosed ∷ ps) = refl

first_with : (b : ℕ) (ps : List Piece) → is_part_first (add_to_part b ps) ≡ is_part_first ps
first_with b [] = refl
first_with b (Plain text ∷ ps) = refl
first_with b (Part text ∷ ps) = refl
first_with b (Unclosed ∷ ps) = refl

inside_first : (text : Text) → is_part_first (pieces_inside text false) ≡ true
inside_first [] = refl
inside_first (b ∷ bs) =
    elim (b == 125) as (λ t. is_part_first (elim t [ true ↦ Part [] ∷ pieces_outside bs false | false ↦ add_to_part b (pieces_inside bs false) ]) ≡ true) [
      | true ↦ refl
      | false ↦ first_with b (pieces_inside bs false) ∙ inside_first bs
    ]

first_is_not_nil : (ps : List Piece) → is_part_first ps ≡ true → is_nil ps ≡ false
first_is_not_nil [] h = absurd (cc)
first_is_not_nil (p ∷ ps) h = refl

-- a text that isn't empty has a piece

ending_kind : (s t : Bool) (b : ℕ) → is_nil (elim (if s && false then Escapes else if t then Opens else Plain_byte) [ Escapes ↦ [] | Opens ↦ Unclosed ∷ [] | Plain_byte ↦ add_plain b [] ]) ≡ false
ending_kind true true b = refl
ending_kind true false b = refl
ending_kind false true b = refl
ending_kind false false b = refl

kind_before : (k : Byte) (b c : ℕ) (cs : Text) → is_nil (elim k [ Escapes ↦ pieces_outside (c ∷ cs) true | Opens ↦ pieces_inside (c ∷ cs) false | Plain_byte ↦ add_plain b (pieces_outside (c ∷ cs) false) ]) ≡ false
kind_before Escapes b c cs = nil_with c (pieces_outside cs false)
kind_before Opens b c cs = first_is_not_nil (pieces_inside (c ∷ cs) false) (inside_first (c ∷ cs))
kind_before Plain_byte b c cs = nil_with b (pieces_outside (c ∷ cs) false)

outside_nil : (text : Text) → is_nil (pieces_outside text false) ≡ (length text == 0)
outside_nil [] = refl
outside_nil (b ∷ []) = ending_kind (b == 92) (b == 123) b
outside_nil (b ∷ c ∷ cs) = kind_before (byte_kind false b (c ∷ cs)) b c cs ∙ sym (ne_eqb (length (b ∷ c ∷ cs)) 0 (λ e. omega arith))

single_with : (b : ℕ) (ps : List Piece) → is_single (add_to_part b ps) ≡ is_single ps
single_with b [] = refl
single_with b (Plain text ∷ ps) = refl
single_with b (Part text ∷ ps) = refl
single_with b (Unclosed ∷ ps) = refl

single_inside : (text : Text) → is_single (pieces_inside text false) ≡ closes_at_end text
single_inside [] = refl
single_inside (b ∷ bs) =
    elim (b == 125) as (λ t. is_single (elim t [ true ↦ Part [] ∷ pieces_outside bs false | false ↦ add_to_part b (pieces_inside bs false) ]) ≡ (if t then length bs == 0 else closes_at_end bs)) [
      | true ↦ outside_nil bs
      | false ↦ single_with b (pieces_inside bs false) ∙ single_inside bs
    ]

-- what is two-way

abbrev two_way : List Piece → Bool
two_way ps = is_two_way (binding_text_of ps)

at_before_part : (ps : List Piece) → is_part_first ps ≡ true → two_way (add_plain 64 ps) ≡ is_single ps
at_before_part [] h = absurd (cc)
at_before_part (Plain text ∷ ps) h = absurd (cc)
at_before_part (Part text ∷ []) h = refl
at_before_part (Part text ∷ p ∷ ps) h = refl
at_before_part (Unclosed ∷ ps) h = refl

part_is_one_way : (ps : List Piece) → is_part_first ps ≡ true → two_way ps ≡ false
part_is_one_way [] h = absurd (cc)
part_is_one_way (Plain text ∷ ps) h = absurd (cc)
part_is_one_way (Part text ∷ []) h = refl
part_is_one_way (Part text ∷ p ∷ ps) h = refl
part_is_one_way (Unclosed ∷ ps) h = refl

-- a text that isn't `@`, and then a part or not
other_text : (plain : Text) (ps : List Piece) → bytes_eq plain (codes "@") ≡ false → two_way (Plain plain ∷ ps) ≡ false
other_text plain [] h = refl
other_text plain (Plain text ∷ ps) h = refl
other_text plain (Part text ∷ []) h =
    ap (λ t. is_two_way (if t then Two_way text else Concatenation (Plain plain ∷ Part text ∷ []))) h
other_text plain (Part text ∷ p ∷ ps) h = refl
other_text plain (Unclosed ∷ ps) h = refl

starts_otherwise : (b : ℕ) (text : Text) → (b == 64) ≡ false → bytes_eq (b ∷ text) (codes "@") ≡ false
starts_otherwise b text h = ap (λ t. t && bytes_eq text []) h

goes_on : (s : Bool) → (s && false) ≡ false
goes_on true = refl
goes_on false = refl

with_other : (b : ℕ) (ps : List Piece) → (b == 64) ≡ false → two_way (add_plain b ps) ≡ false
with_other b [] h = refl
with_other b (Plain text ∷ ps) h = other_text (b ∷ text) ps (starts_otherwise b text h)
with_other b (Part text ∷ ps) h = other_text (b ∷ []) (Part text ∷ ps) (starts_otherwise b [] h)
with_other b (Unclosed ∷ ps) h = other_text (b ∷ []) (Unclosed ∷ ps) (starts_otherwise b [] h)

with_two : (b c : ℕ) (ps : List Piece) → two_way (add_plain b (add_plain c ps)) ≡ false
with_two b c [] = refl
with_two b c (Plain text ∷ ps) = other_text (b ∷ c ∷ text) ps (goes_on (b == 64))
with_two b c (Part text ∷ ps) = other_text (b ∷ c ∷ []) (Part text ∷ ps) (goes_on (b == 64))
with_two b c (Unclosed ∷ ps) = other_text (b ∷ c ∷ []) (Unclosed ∷ ps) (goes_on (b == 64))

-- behind `@`: a part, or something else
no_part_behind : (s : Bool) (d : ℕ) (ds : Text) →
    two_way (add_plain 64 (elim (if s && next_is_brace ds then Escapes else Plain_byte) [ Escapes ↦ pieces_outside ds true | Opens ↦ pieces_inside ds false | Plain_byte ↦ add_plain d (pieces_outside ds false) ])) ≡ false
no_part_behind false d ds = with_two 64 d (pieces_outside ds false)
no_part_behind true d [] = with_two 64 d []
no_part_behind true d (c ∷ cs) =
    elim (c == 123 || c == 125) as (λ u. two_way (add_plain 64 (elim (if u then Escapes else Plain_byte) [ Escapes ↦ pieces_outside (c ∷ cs) true | Opens ↦ pieces_inside (c ∷ cs) false | Plain_byte ↦ add_plain d (pieces_outside (c ∷ cs) false) ])) ≡ false) [
      | true ↦ with_two 64 c (pieces_outside cs false)
      | false ↦ with_two 64 d (pieces_outside (c ∷ cs) false)
    ]

behind_at : (t : Bool) (d : ℕ) (ds : Text) → (d == 123) ≡ t → two_way (add_plain 64 (pieces_outside (d ∷ ds) false)) ≡ (t && closes_at_end ds)
behind_at true d ds e =
    subst (λ (c : ℕ). two_way (add_plain 64 (pieces_outside (c ∷ ds) false)) ≡ closes_at_end ds) (sym (eqb-true d 123 e)) (at_before_part (pieces_inside ds false) (inside_first ds) ∙ single_inside ds)
behind_at false d ds e =
    subst
    (λ (t : Bool). two_way (add_plain 64 (elim (if (d == 92) && next_is_brace ds then Escapes else if t then Opens else Plain_byte) [ Escapes ↦ pieces_outside ds true | Opens ↦ pieces_inside ds false | Plain_byte ↦ add_plain d (pieces_outside ds false) ])) ≡ false)
    (sym e) (no_part_behind (d == 92) d ds)

no_at : (t : Bool) (c : ℕ) → (c == 64) ≡ t → (c == 123 || c == 125) ≡ true → t ≡ false
no_at false c e h = refl
no_at true c e h = let wrong : false ≡ true = subst (λ (k : ℕ). (k == 123 || k == 125) ≡ true) (eqb-true c 64 e) h in absurd (cc)

-- another first byte
module _ (b : ℕ) (other : (b == 64) ≡ false) where
  unescaped : (t : Bool) (ds : Text) →
      two_way (elim (if t then Opens else Plain_byte) [ Escapes ↦ pieces_outside ds true | Opens ↦ pieces_inside ds false | Plain_byte ↦ add_plain b (pieces_outside ds false) ]) ≡ false
  unescaped true ds = part_is_one_way (pieces_inside ds false) (inside_first ds)
  unescaped false ds = with_other b (pieces_outside ds false) other

  behind_backslash : (u t : Bool) (c : ℕ) (cs : Text) → (c == 123 || c == 125) ≡ u →
      two_way (elim (if u then Escapes else if t then Opens else Plain_byte) [ Escapes ↦ pieces_outside (c ∷ cs) true | Opens ↦ pieces_inside (c ∷ cs) false | Plain_byte ↦ add_plain b (pieces_outside (c ∷ cs) false) ]) ≡ false
  behind_backslash true t c cs e = with_other c (pieces_outside cs false) (no_at (c == 64) c refl e)
  behind_backslash false t c cs e = unescaped t (c ∷ cs)

  otherwise : (s t : Bool) (ds : Text) →
      two_way (elim (if s && next_is_brace ds then Escapes else if t then Opens else Plain_byte) [ Escapes ↦ pieces_outside ds true | Opens ↦ pieces_inside ds false | Plain_byte ↦ add_plain b (pieces_outside ds false) ]) ≡ false
  otherwise false t ds = unescaped t ds
  otherwise true t [] = unescaped t []
  otherwise true t (c ∷ cs) = behind_backslash (c == 123 || c == 125) t c cs refl

by_first : (t : Bool) (b : ℕ) (bs : Text) → (b == 64) ≡ t → two_way (pieces_outside (b ∷ bs) false) ≡ (t && is_one_part bs)
by_first false b bs e = otherwise b e (b == 92) (b == 123) bs
by_first true b [] e = subst (λ (c : ℕ). two_way (pieces_outside (c ∷ []) false) ≡ false) (sym (eqb-true b 64 e)) refl
by_first true b (d ∷ ds) e =
    subst (λ (c : ℕ). two_way (pieces_outside (c ∷ d ∷ ds) false) ≡ (d == 123 && closes_at_end ds)) (sym (eqb-true b 64 e)) (behind_at (d == 123) d ds refl)

pub two_way_text : (text : Text) → is_two_way (binding_text text) ≡ is_two_way_text text
two_way_text [] = refl
two_way_text (b ∷ bs) = by_first (b == 64) b bs refl

-- on the way along a part
pub ends_there : (part rest others : Text) (b : ℕ) → closes_at_end part ≡ closes_at_end rest → rest ≡ b ∷ others → b ≡ 125 → (length others == 0) ≡ closes_at_end part
ends_there part rest others b so_far e is =
    sym (so_far ∙ (ap closes_at_end e ∙ ap (λ k. if k == 125 then length others == 0 else closes_at_end others) is))

pub goes_past : (part rest others : Text) (b : ℕ) → closes_at_end part ≡ closes_at_end rest → rest ≡ b ∷ others → (b == 125) ≡ false → closes_at_end part ≡ closes_at_end others
goes_past part rest others b so_far e is = so_far ∙ (ap closes_at_end e ∙ ap (λ t. if t then length others == 0 else closes_at_end others) is)

pub never_closed : (part rest : Text) → closes_at_end part ≡ closes_at_end rest → length rest ≡ 0 → false ≡ closes_at_end part
never_closed part [] so_far e = sym so_far
never_closed part (b ∷ bs) so_far e = absurd (omega arith)
