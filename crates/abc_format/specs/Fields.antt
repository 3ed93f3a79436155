-- What is read of bytes from the front, and the first field that can't be: its place and the reason.
use Rattle.std.specs.Prelude.{◌≡◌, ℕ, zero, suc, ◌-◌, List, [], ◌∷◌, length, take, drop, if◌then◌else◌, ◌==◌, nat_lt, nat_le, bit_and, Option, Some, None, Result, Ok, Err, MatchResult, ℤ}
use Rattle.std.specs.Int.{cast_signed, w32}
use Rattle.std.specs.Str.{is_utf8}
use Rattle.byteorder.specs.Endian.{little_number}
use Rattle.abc_format.specs.Numbers.{Spelled, u32_at, u30_limit}
use Rattle.abc_format.specs.Indexes.{allows}
use Rattle.abc_format.specs.declared.tables.IndexRule.{IndexRule}
use Rattle.abc_format.specs.declared.reason.AbcReason.{AbcReason}
use Rattle.abc_format.specs.declared.reason.AbcReason.TheVariants as reason
use Rattle.abc_format.specs.declared.reason.AbcRefusal.{AbcRefusal}
use Rattle.abc_format.specs.declared.reason.AbcRefusal.TheVariants as refusal

-- the bytes that aren't read yet, of so many
pub record Cursor : Type 0 where
  pub size : ℕ
  pub rest : List ℕ

-- the first bad place, and why it is bad
pub record Fault : Type 0 where
  pub place : ℕ
  pub reason : AbcReason

-- what stands at the front, and what follows it
pub record Read (A : Type 0) : Type 0 where
  pub it : A
  pub rest : Cursor

abbrev pub Reading : Type 0 → Type 0
Reading A = Result (Read A) Fault

abbrev pub place_of : Cursor → ℕ
place_of c = c.size - length c.rest

abbrev pub behind : Cursor → List ℕ → Cursor
behind c rest = record { size = c.size; rest = rest }

abbrev pub done : {A : Type 0} → A → Cursor → Reading A
done it rest = Ok (record { it = it; rest = rest })

-- the field that begins here is bad
abbrev pub fault_at : Cursor → AbcReason → Fault
fault_at c why = record { place = place_of c; reason = why }

abbrev pub fails : {A : Type 0} → Cursor → AbcReason → Reading A
fails c why = Err (fault_at c why)

abbrev pub and_then : {A B : Type 0} → Reading A → (A → Cursor → Reading B) → Reading B
and_then (Err fault) next = Err fault
and_then (Ok read) next = next read.it read.rest

-- the reading gives this item, and leaves this
abbrev pub Gives : {A : Type 0} → Reading A → A → Cursor → Type 0
Gives reading it rest = reading ≡ done it rest

-- the reading may be refused so: for want of memory whatever the bytes are
abbrev pub Refuses : {A : Type 0} → Reading A → AbcRefusal → Type 0
Refuses reading (refusal.BadAbc place why) = reading ≡ Err (record { place = place; reason = why })
Refuses reading refusal.NoMemory = Unit {0}

-- an answer of the code is what the reading gives, or its fault
abbrev pub Answers : {A : Type 0} → Reading A → Result A AbcRefusal → Cursor → Type 0
Answers reading result rest = MatchResult result (λ it. Gives reading it rest) (λ why. Refuses reading why)

-- and of a call that lends what it read
abbrev pub Lends : {A B : Type 0} → Reading A → (B → A) → Result B AbcRefusal → Cursor → Type 0
Lends reading view result rest = MatchResult result (λ it. Gives reading (view it) rest) (λ why. Refuses reading why)

abbrev pub byte_of : Cursor → List ℕ → Reading ℕ
byte_of c [] = fails c reason.Cut
byte_of c (byte ∷ bytes) = done byte (behind c bytes)

unfoldable pub read_byte : Cursor → Reading ℕ
read_byte c = byte_of c c.rest

-- the next n bytes
unfoldable pub read_piece : ℕ → Cursor → Reading (List ℕ)
read_piece n c = if nat_le n (length c.rest) then done (take n c.rest) (behind c (drop n c.rest)) else fails c reason.Cut

abbrev pub number_of : Cursor → Option Spelled → Reading ℕ
number_of c None = fails c reason.Cut
number_of c (Some n) = done n.value (behind c (drop n.size c.rest))

-- a number of 32 bits
unfoldable pub read_u32 : Cursor → Reading ℕ
read_u32 c = number_of c (u32_at c.rest)

unfoldable pub read_u30 : Cursor → Reading ℕ
read_u30 c = and_then (read_u32 c) (λ n rest. if nat_lt n u30_limit then done n rest else fails c reason.Number)

-- a number that names an entry
unfoldable pub read_index : IndexRule → Cursor → Reading ℕ
read_index rule c = and_then (read_u30 c) (λ n rest. if allows rule n then done n rest else fails c reason.Index)

-- an int of the pool
unfoldable pub read_int : Cursor → Reading ℤ
read_int c = and_then (read_u32 c) (λ n rest. done (cast_signed w32 n) rest)

-- the eight bytes of a double, the low one first
unfoldable pub read_double : Cursor → Reading ℕ
read_double c = and_then (read_piece 8 c) (λ field rest. done (little_number 8 field) rest)

-- so many bytes of text
unfoldable pub read_text : ℕ → Cursor → Reading (List ℕ)
read_text size c = and_then (read_piece size c) (λ text rest. if is_utf8 text then done text rest else fails c reason.Text)

unfoldable pub read_string : Cursor → Reading (List ℕ)
read_string c = and_then (read_u30 c) (λ size rest. read_text size rest)

-- a number of two bytes, the low one first
unfoldable pub read_u16 : Cursor → Reading ℕ
read_u16 c = and_then (read_piece 2 c) (λ field rest. done (little_number 2 field) rest)

-- a version, which is to be this one
unfoldable pub read_version : ℕ → Cursor → Reading ℕ
read_version wanted c = and_then (read_u16 c) (λ version rest. if version == wanted then done version rest else fails c reason.Version)

-- so many items
abbrev pub times : {A : Type 0} → (Cursor → Reading A) → ℕ → Cursor → Reading (List A)
times read zero c = done [] c
times read (suc k) c = and_then (read c) (λ item rest. and_then (times read k rest) (λ items more. done (item ∷ items) more))

-- a count, and so many items
abbrev pub counted : {A : Type 0} → (Cursor → Reading A) → Cursor → Reading (List A)
counted read c = and_then (read_u30 c) (λ count rest. times read count rest)

-- a table of the pool, whose count is one more than its entries, or 0
abbrev pub table : {A : Type 0} → (Cursor → Reading A) → Cursor → Reading (List A)
table read c = and_then (read_u30 c) (λ count rest. times read (count - 1) rest)

-- what stands only where a byte has a flag
abbrev pub flagged : {A : Type 0} → ℕ → ℕ → A → (Cursor → Reading A) → Cursor → Reading A
flagged flags flag absent read c = if bit_and flags flag == 0 then done absent c else read c
