-- What texts and values stand for: references, line ends and spaces.
use Rattle.std.specs.Prelude.{◌≡◌, ℕ, ◌==◌, ◌&&◌, ◌||◌, Bool, true, false, List, [], ◌∷◌, map, if◌then◌else◌, encode_utf8}
use Rattle.std.specs.List.{flat_map}
use Rattle.mxml_items.specs.Pieces.{Piece, Written, Referred, ArePieces}

-- with each CR LF and CR that is written as LF; whether a CR was written directly before
abbrev pub with_line_ends : Bool → List Piece → List Piece
with_line_ends cr [] = []
with_line_ends cr (Referred c ∷ pieces) = Referred c ∷ with_line_ends false pieces
with_line_ends cr (Written b ∷ pieces) =
    elim (b == 13) [
      | true ↦ Written 10 ∷ with_line_ends true pieces
      | false ↦ elim (cr && (b == 10)) [ true ↦ with_line_ends false pieces | false ↦ Written b ∷ with_line_ends false pieces ]
    ]

-- with a space for each LF and TAB that is written
abbrev pub with_spaces : Piece → Piece
with_spaces (Referred c) = Referred c
with_spaces (Written b) = Written (if (b == 10) || (b == 9) then 32 else b)

abbrev pub bytes_of : Piece → List ℕ
bytes_of (Written b) = b ∷ []
bytes_of (Referred c) = encode_utf8 c

-- the text that pieces stand for
abbrev pub text_of : List Piece → List ℕ
text_of pieces = flat_map bytes_of (with_line_ends false pieces)

-- the value that they stand for in an attribute
abbrev pub value_of : List Piece → List ℕ
value_of pieces = flat_map bytes_of (map with_spaces (with_line_ends false pieces))

-- the pieces that bytes are written with; there are never two such lists
abbrev pub ArePiecesOf : List Piece → List ℕ → Type 0
ArePiecesOf = ArePieces (λ b. true)

-- what bytes stand for, by a reading of their pieces
pub record StandsFor (read : List Piece → List ℕ) (written meant : List ℕ) : Type 0 where
  pub pieces : List Piece
  pub are_pieces : ArePiecesOf pieces written
  pub is : meant ≡ read pieces

-- what a text stands for, what a value does, and what CDATA does
abbrev pub IsText : List ℕ → List ℕ → Type 0
IsText = StandsFor text_of

abbrev pub IsMeant : List ℕ → List ℕ → Type 0
IsMeant = StandsFor value_of

abbrev pub cdata_text : List ℕ → List ℕ
cdata_text content = text_of (map Written content)
