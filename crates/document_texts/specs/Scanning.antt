-- How the code reads the bytes of a text.
use Rattle.std.specs.Prelude.{◌≡◌, ℕ, List, [], ◌∷◌, ◌++◌, length, Bool, true, false, ◌&&◌, ◌==◌, if◌then◌else◌}
use Rattle.source_sites.specs.Texts.{Text}
use Rattle.document_sites.specs.BindingTexts.{Piece, byte_kind, Escapes, Opens, Plain_byte, joined, pieces_inside, pieces_outside}
use Rattle.document_texts.specs.declared.scanning.Stand.{Stand}
use Rattle.document_texts.specs.declared.scanning.Stand.TheVariants.{Escaped, Inside, Outside}

abbrev pub next_stand : Stand → ℕ → Text → Stand
next_stand Outside byte rest = elim (byte_kind false byte rest) [ Escapes ↦ Escaped | Opens ↦ Inside | Plain_byte ↦ Outside ]
next_stand Escaped byte rest = Outside
next_stand Inside byte rest = if byte == 125 then Outside else Inside

abbrev pub is_outside : Stand → Bool
is_outside Outside = true
is_outside _ = false

abbrev pub is_inside : Stand → Bool
is_inside Inside = true
is_inside _ = false

-- whether a byte stands for itself
abbrev pub is_written : Stand → Stand → Bool
is_written Outside next = is_outside next
is_written Escaped next = true
is_written Inside next = false

-- the pieces of a text that begins there
abbrev pub pieces_from : Stand → Text → List Piece
pieces_from Outside text = pieces_outside text false
pieces_from Escaped text = pieces_outside text true
pieces_from Inside text = pieces_inside text false

-- behind a byte that stands so, this is what is written so far, and there the next one stands
abbrev pub Reads : Text → Text → Stand → ℕ → Text → Stand → Type 0
Reads before behind stand byte rest next = behind ++ joined (pieces_from next rest) ≡ before ++ joined (pieces_from stand (byte ∷ rest))

-- whether the first `}` is the last byte
abbrev pub closes_at_end : Text → Bool
closes_at_end [] = false
closes_at_end (b ∷ bs) = if b == 125 then length bs == 0 else closes_at_end bs

abbrev pub is_one_part : Text → Bool
is_one_part [] = false
is_one_part (b ∷ bs) = b == 123 && closes_at_end bs

-- whether a text is `@` and one part
abbrev pub is_two_way_text : Text → Bool
is_two_way_text [] = false
is_two_way_text (b ∷ bs) = b == 64 && is_one_part bs
