-- The pieces of a text, byte by byte.
use Rattle.std.proofs.Common.{◌≡◌, ◌∙◌, ℕ, List, [], ◌∷◌, ◌++◌, ap, sym, refl, Bool, true, false, not, append_assoc, append-nil, arith, cond, length}
use Rattle.std.specs.Prelude.{◌==◌, ◌&&◌}
use Rattle.std.specs.List.{list_all}
use Rattle.source_sites.specs.Texts.{Text}
use Rattle.document_sites.specs.BindingTexts.{Piece, Plain, Part, Unclosed, Byte, Escapes, Opens, Plain_byte, add_plain, add_to_part, byte_kind, is_plain, joined, pieces_inside, pieces_outside}
use Rattle.document_texts.specs.declared.scanning.Stand.{Stand}
use Rattle.document_texts.specs.declared.scanning.Stand.TheVariants.{Escaped, Inside, Outside}
use Rattle.document_texts.specs.Scanning.{is_inside, is_outside, is_written, next_stand, pieces_from}

-- a byte that is added to the first piece leaves what is plain

plain_with : (b : ℕ) (ps : List Piece) → list_all is_plain (add_plain b ps) ≡ list_all is_plain ps
plain_with b [] = refl
plain_with b (Plain text ∷ ps) = refl
plain_with b (Part text ∷ ps) = refl
plain_with b (Unclosed ∷ ps) = refl

part_with : (b : ℕ) (ps : List Piece) → list_all is_plain (add_to_part b ps) ≡ list_all is_plain ps
part_with b [] = refl
part_with b (Plain text ∷ ps) = refl
part_with b (Part text ∷ ps) = refl
part_with b (Unclosed ∷ ps) = refl

inside_is_no_plain : (text : Text) → list_all is_plain (pieces_inside text false) ≡ false
inside_is_no_plain [] = refl
inside_is_no_plain (b ∷ bs) =
    elim (b == 125) as (λ t. list_all is_plain (elim t [ true ↦ Part [] ∷ pieces_outside bs false | false ↦ add_to_part b (pieces_inside bs false) ]) ≡ false) [
      | true ↦ refl
      | false ↦ part_with b (pieces_inside bs false) ∙ inside_is_no_plain bs
    ]

module _ (b : ℕ) (rest : Text) where
  goes_on : (k : Byte) → is_inside (elim k [ Escapes ↦ Escaped | Opens ↦ Inside | Plain_byte ↦ Outside ]) ≡ false → list_all is_plain (elim k [ Escapes ↦ pieces_outside rest true | Opens ↦ pieces_inside rest false | Plain_byte ↦ add_plain b (pieces_outside rest false) ]) ≡ list_all is_plain (pieces_from (elim k [ Escapes ↦ Escaped | Opens ↦ Inside | Plain_byte ↦ Outside ]) rest)
  goes_on Escapes h = refl
  goes_on Opens h = absurd (cc)
  goes_on Plain_byte h = plain_with b (pieces_outside rest false)

  opens : (k : Byte) → is_inside (elim k [ Escapes ↦ Escaped | Opens ↦ Inside | Plain_byte ↦ Outside ]) ≡ true → list_all is_plain (elim k [ Escapes ↦ pieces_outside rest true | Opens ↦ pieces_inside rest false | Plain_byte ↦ add_plain b (pieces_outside rest false) ]) ≡ false
  opens Escapes h = absurd (cc)
  opens Opens h = inside_is_no_plain rest
  opens Plain_byte h = absurd (cc)

  -- a byte that opens no part
  pub plain_goes_on : (stand : Stand) → is_inside stand ≡ false → is_inside (next_stand stand b rest) ≡ false → list_all is_plain (pieces_from stand (b ∷ rest)) ≡ list_all is_plain (pieces_from (next_stand stand b rest) rest)
  plain_goes_on Outside before h = goes_on (byte_kind false b rest) h
  plain_goes_on Escaped before h = plain_with b (pieces_outside rest false)
  plain_goes_on Inside before h = absurd (cc)

  -- and one that does
  pub part_opens : (stand : Stand) → is_inside stand ≡ false → is_inside (next_stand stand b rest) ≡ true → list_all is_plain (pieces_from stand (b ∷ rest)) ≡ false
  part_opens Outside before h = opens (byte_kind false b rest) h
  part_opens Escaped before h = absurd (cc)
  part_opens Inside before h = absurd (cc)

-- what pieces stand for

joined_with : (b : ℕ) (ps : List Piece) → joined (add_plain b ps) ≡ b ∷ joined ps
joined_with b [] = refl
joined_with b (Plain text ∷ ps) = refl
joined_with b (Part text ∷ ps) = refl
joined_with b (Unclosed ∷ ps) = refl

joined_beside : (b : ℕ) (ps : List Piece) → joined (add_to_part b ps) ≡ joined ps
joined_beside b [] = refl
joined_beside b (Plain text ∷ ps) = refl
joined_beside b (Part text ∷ ps) = refl
joined_beside b (Unclosed ∷ ps) = refl

module _ (b : ℕ) (rest : Text) where
  written_outside : (k : Byte) → is_outside (elim k [ Escapes ↦ Escaped | Opens ↦ Inside | Plain_byte ↦ Outside ]) ≡ true → joined (elim k [ Escapes ↦ pieces_outside rest true | Opens ↦ pieces_inside rest false | Plain_byte ↦ add_plain b (pieces_outside rest false) ]) ≡ b ∷ joined (pieces_from (elim k [ Escapes ↦ Escaped | Opens ↦ Inside | Plain_byte ↦ Outside ]) rest)
  written_outside Escapes h = absurd (cc)
  written_outside Opens h = absurd (cc)
  written_outside Plain_byte h = joined_with b (pieces_outside rest false)

  skipped_outside : (k : Byte) → is_outside (elim k [ Escapes ↦ Escaped | Opens ↦ Inside | Plain_byte ↦ Outside ]) ≡ false → joined (elim k [ Escapes ↦ pieces_outside rest true | Opens ↦ pieces_inside rest false | Plain_byte ↦ add_plain b (pieces_outside rest false) ]) ≡ joined (pieces_from (elim k [ Escapes ↦ Escaped | Opens ↦ Inside | Plain_byte ↦ Outside ]) rest)
  skipped_outside Escapes h = refl
  skipped_outside Opens h = refl
  skipped_outside Plain_byte h = absurd (cc)

  skipped_inside : (t : Bool) → joined (elim t [ true ↦ Part [] ∷ pieces_outside rest false | false ↦ add_to_part b (pieces_inside rest false) ]) ≡ joined (pieces_from (cond t Outside Inside) rest)
  skipped_inside true = refl
  skipped_inside false = joined_beside b (pieces_inside rest false)

  one_written : (stand : Stand) → is_written stand (next_stand stand b rest) ≡ true → joined (pieces_from stand (b ∷ rest)) ≡ b ∷ joined (pieces_from (next_stand stand b rest) rest)
  one_written Outside h = written_outside (byte_kind false b rest) h
  one_written Escaped h = joined_with b (pieces_outside rest false)
  one_written Inside h = absurd (cc)

  one_skipped : (stand : Stand) → is_written stand (next_stand stand b rest) ≡ false → joined (pieces_from stand (b ∷ rest)) ≡ joined (pieces_from (next_stand stand b rest) rest)
  one_skipped Outside h = skipped_outside (byte_kind false b rest) h
  one_skipped Escaped h = absurd (cc)
  one_skipped Inside h = skipped_inside (b == 125)

  -- a byte that stands for itself, and one that doesn't
  pub byte_written : (before : Text) (stand : Stand) → is_written stand (next_stand stand b rest) ≡ true → (before ++ b ∷ []) ++ joined (pieces_from (next_stand stand b rest) rest) ≡ before ++ joined (pieces_from stand (b ∷ rest))
  byte_written before stand h = append_assoc before (b ∷ []) (joined (pieces_from (next_stand stand b rest) rest)) ∙ ap (λ t. before ++ t) (sym (one_written stand h))

  pub byte_skipped : (before : Text) (stand : Stand) → is_written stand (next_stand stand b rest) ≡ false → before ++ joined (pieces_from (next_stand stand b rest) rest) ≡ before ++ joined (pieces_from stand (b ∷ rest))
  byte_skipped before stand h = ap (λ t. before ++ t) (sym (one_skipped stand h))

-- on the way along a text
module _ (text rest others : Text) (stand next : Stand) (b : ℕ) where
  plain_before : rest ≡ b ∷ others → list_all is_plain (pieces_from stand rest) ≡ list_all is_plain (pieces_from stand (b ∷ others))
  plain_before e = ap (λ t. list_all is_plain (pieces_from stand t)) e

  pub binding_found : is_inside stand ≡ false → list_all is_plain (pieces_outside text false) ≡ list_all is_plain (pieces_from stand rest) → rest ≡ b ∷ others → next ≡ next_stand stand b others → is_inside next ≡ true
      → true ≡ not (list_all is_plain (pieces_outside text false))
  binding_found outside so_far e is opens = ap not (sym (so_far ∙ (plain_before e ∙ part_opens b others stand outside (ap is_inside (sym is) ∙ opens))))

  pub still_plain : is_inside stand ≡ false → list_all is_plain (pieces_outside text false) ≡ list_all is_plain (pieces_from stand rest) → rest ≡ b ∷ others → next ≡ next_stand stand b others → is_inside next ≡ false
      → list_all is_plain (pieces_outside text false) ≡ list_all is_plain (pieces_from next others)
  still_plain outside so_far e is closed =
      so_far ∙ (plain_before e ∙ (plain_goes_on b others stand outside (ap is_inside (sym is) ∙ closed) ∙ ap (λ n. list_all is_plain (pieces_from n others)) (sym is)))

plain_end : (stand : Stand) (rest : Text) → is_inside stand ≡ false → length rest ≡ 0 → list_all is_plain (pieces_from stand rest) ≡ true
plain_end Outside [] outside e = refl
plain_end Escaped [] outside e = refl
plain_end Inside [] outside e = absurd (cc)
plain_end stand (b ∷ bs) outside e = absurd (omega arith)

pub all_plain : (text rest : Text) (stand : Stand) → is_inside stand ≡ false → list_all is_plain (pieces_outside text false) ≡ list_all is_plain (pieces_from stand rest) → length rest ≡ 0
    → false ≡ not (list_all is_plain (pieces_outside text false))
all_plain text rest stand outside so_far e = ap not (sym (so_far ∙ plain_end stand rest outside e))

-- nothing is written where the text ends
joined_end : (stand : Stand) (rest : Text) → length rest ≡ 0 → joined (pieces_from stand rest) ≡ []
joined_end Outside [] e = refl
joined_end Escaped [] e = refl
joined_end Inside [] e = refl
joined_end stand (b ∷ bs) e = absurd (omega arith)

pub all_written : (written rest whole : Text) (stand : Stand) → written ++ joined (pieces_from stand rest) ≡ whole → length rest ≡ 0 → written ≡ whole
all_written written rest whole stand so_far e = sym (append-nil written) ∙ (ap (λ t. written ++ t) (sym (joined_end stand rest e)) ∙ so_far)

pub goes_on_writing : (before behind rest others whole : Text) (stand next : Stand) (b : ℕ) → before ++ joined (pieces_from stand rest) ≡ whole → rest ≡ b ∷ others
    → behind ++ joined (pieces_from next others) ≡ before ++ joined (pieces_from stand (b ∷ others)) → behind ++ joined (pieces_from next others) ≡ whole
goes_on_writing before behind rest others whole stand next b so_far e step = step ∙ (ap (λ t. before ++ joined (pieces_from stand t)) (sym e) ∙ so_far)
