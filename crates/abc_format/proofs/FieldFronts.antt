-- A field in any spelling is read, whatever follows it.
use Rattle.std.proofs.Common.{◌≡◌, ℕ, ◌-◌, ◌≤◌, List, [], ◌∷◌, ◌++◌, length, Bool, true, false, refl, sym, ap, ◌∙◌, arith, append_assoc, length-append}
use Rattle.std.specs.Prelude.{All, MatchBool, if◌then◌else◌, ◌==◌, bit_and}
use Rattle.std.proofs.lemmas.Bool.{lt-ltb, le-leb, eq-eqb}
use Rattle.std.proofs.lemmas.List.{append-nil}
use Rattle.std.proofs.lemmas.List.Elements.{All-head, All-tail}
use Rattle.std.proofs.lemmas.Str.{is_utf8-from_IsUtf8}
use Rattle.std.proofs.Math.Seq.{take-append_seam, drop-append_seam}
use Rattle.byteorder.specs.Endian.{little_number, little_bytes}
use Rattle.byteorder.specs.Numbers.{little_number-reads_back, length-bytes_low_first}
use Rattle.flex_base.specs.Split.{Split, Each}
use Rattle.abc_format.specs.declared.tables.IndexRule.{IndexRule}
use Rattle.abc_format.specs.Grammar.{IsSpelledBy, IsU30, IsU32, IsS32, IsByte, IsDouble, IsString, Exactly, Counted, Table, WhereFlag}
use Rattle.abc_format.specs.Indexes.{IsIndex}
use Rattle.abc_format.specs.Fields.{Cursor, Reading, done, and_then, number_of, read_byte, read_piece, read_u32, read_u30, read_index, read_int, read_double, read_text, read_string, read_u16, read_version, times, counted, table, flagged}
use Rattle.abc_format.proofs.NumberLaws.{u32_at-append}

-- before these bytes, of so many
abbrev pub at : ℕ → List ℕ → Cursor
at size rest = record { size = size; rest = rest }

-- what some bytes stand for is read of them, whatever follows
abbrev pub Reads : {A : Type 0} → (A → List ℕ → Type 0) → (A → Type 0) → (Cursor → Reading A) → Type 0
Reads {A} P Q read = (x : A) (bytes : List ℕ) → P x bytes → Q x → (size : ℕ) (rest : List ℕ) → read (at size (bytes ++ rest)) ≡ done x (at size rest)

-- where nothing is asked of what stands there
abbrev pub Anything : {A : Type 0} → A → Type 0
Anything x = Unit {0}

-- the front of bytes that other bytes follow
split-front : {P Q : List ℕ → Type 0} {bytes : List ℕ} (w : Split P Q bytes) (rest : List ℕ) → bytes ++ rest ≡ w.front ++ (w.back ++ rest)
split-front w rest = ap (λ l. l ++ rest) w.is ∙ append_assoc w.front w.back rest

-- the front is read
pub first-front : {A : Type 0} {P Q : List ℕ → Type 0} {bytes : List ℕ} {x : A} (read : Cursor → Reading A) (w : Split P Q bytes) (size : ℕ)
    → ((more : List ℕ) → read (at size (w.front ++ more)) ≡ done x (at size more)) → (rest : List ℕ) → read (at size (bytes ++ rest)) ≡ done x (at size (w.back ++ rest))
first-front read w size front rest = ap (λ l. read (at size l)) (split-front w rest) ∙ front (w.back ++ rest)

u32-front : (n : ℕ) (bytes : List ℕ) → IsSpelledBy n bytes → (size : ℕ) (rest : List ℕ) → read_u32 (at size (bytes ++ rest)) ≡ done n (at size rest)
unfolding read_u32
u32-front n bytes e size rest =
    ap (number_of (at size (bytes ++ rest))) (u32_at-append bytes rest _ e) ∙ ap (λ l. done n (at size l)) (drop-append_seam bytes rest)

pub unsigned-front : Reads IsU32 Anything read_u32
unsigned-front n bytes w any size rest = u32-front n bytes w.spelled size rest

pub u30-front : Reads IsU30 Anything read_u30
unfolding read_u30
u30-front n bytes w any size rest = rw (u32-front n bytes w.spelled size rest, lt-ltb n 1073741824 w.below)

pub index-front : (rule : IndexRule) → Reads IsU30 (IsIndex rule) (read_index rule)
unfolding read_index
index-front rule n bytes w is size rest = rw (u30-front n bytes w tt size rest, is)

pub int-front : Reads IsS32 Anything read_int
unfolding read_int
int-front z bytes w any size rest = rw (u32-front w.bits bytes w.spelled.spelled size rest) (ap (λ y. done y (at size rest)) w.is)

-- a number in front
pub number-front : {Q : List ℕ → Type 0} {n : ℕ} {bytes : List ℕ} (w : Split (IsU30 n) Q bytes) (size : ℕ) (rest : List ℕ)
    → read_u30 (at size (bytes ++ rest)) ≡ done n (at size (w.back ++ rest))
number-front {Q} {n} w size rest = first-front read_u30 w size (u30-front n w.front w.first tt size) rest

-- a number in front that names an entry
pub entry-front : {Q : List ℕ → Type 0} {n : ℕ} {bytes : List ℕ} (rule : IndexRule) (w : Split (IsU30 n) Q bytes) → IsIndex rule n → (size : ℕ) (rest : List ℕ)
    → read_index rule (at size (bytes ++ rest)) ≡ done n (at size (w.back ++ rest))
entry-front {Q} {n} rule w is size rest = first-front (read_index rule) w size (index-front rule n w.front w.first is size) rest

pub byte-front : Reads IsByte Anything read_byte
unfolding read_byte
byte-front byte bytes e any size rest = ap (λ l. read_byte (at size (l ++ rest))) e

pub piece-front : (n : ℕ) (piece bytes : List ℕ) → length piece ≡ n → Exactly piece bytes → (size : ℕ) (rest : List ℕ)
    → read_piece n (at size (bytes ++ rest)) ≡ done piece (at size rest)
unfolding read_piece
piece-front n piece bytes as_long e size rest =
    let whole = length-append piece rest in
    let within : length piece ≤ length (piece ++ rest) = omega arith in
    ap (λ k. read_piece k (at size (bytes ++ rest))) (sym as_long)
    ∙ rw (e, le-leb (length piece) (length (piece ++ rest)) within, take-append_seam piece rest, drop-append_seam piece rest)

pub double-front : Reads IsDouble Anything read_double
unfolding read_double
double-front double bytes w any size rest =
    rw (piece-front 8 (little_bytes 8 double) bytes (length-bytes_low_first 0 8 double) w.is size rest)
    (ap (λ k. done k (at size rest)) (ap (little_number 8) (sym (append-nil (little_bytes 8 double))) ∙ little_number-reads_back 8 double [] w.fits))

pub string-front : Reads IsString Anything read_string
unfolding read_string read_text
string-front text bytes w any size rest =
    let sized = w.sized in
    rw (number-front sized size rest, piece-front (length text) text sized.back refl sized.second size rest, is_utf8-from_IsUtf8 text w.valid)

version-front : (low high n : ℕ) → little_number 2 (low ∷ high ∷ []) ≡ n → (bytes : List ℕ) → Exactly (low ∷ high ∷ []) bytes → (size : ℕ) (rest : List ℕ)
    → read_version n (at size (bytes ++ rest)) ≡ done n (at size rest)
unfolding read_version read_u16
version-front low high n e bytes w size rest =
    rw (piece-front 2 (low ∷ high ∷ []) bytes refl w size rest, e, eq-eqb n n refl)

pub minor-front : (bytes : List ℕ) → Exactly (little_bytes 2 16) bytes → (size : ℕ) (rest : List ℕ) → read_version 16 (at size (bytes ++ rest)) ≡ done 16 (at size rest)
minor-front = version-front 16 0 16 refl

pub major-front : (bytes : List ℕ) → Exactly (little_bytes 2 46) bytes → (size : ℕ) (rest : List ℕ) → read_version 46 (at size (bytes ++ rest)) ≡ done 46 (at size rest)
major-front = version-front 46 0 46 refl

-- so many items, of which each is read
pub times-front : {A : Type 0} (P : A → List ℕ → Type 0) (Q : A → Type 0) (read : Cursor → Reading A) → Reads P Q read → (items : List A) (n : ℕ) → length items ≡ n
    → (bytes : List ℕ) → Each P items bytes → All Q items → (size : ℕ) (rest : List ℕ) → times read n (at size (bytes ++ rest)) ≡ done items (at size rest)
times-front {A} P Q read each items n as_many bytes w all size rest =
    ap (λ k. times read k (at size (bytes ++ rest))) (sym as_many) ∙ by items bytes w all
  where
    by : (items : List A) (bytes : List ℕ) → Each P items bytes → All Q items → times read (length items) (at size (bytes ++ rest)) ≡ done items (at size rest)
    by [] bytes w all = ap (λ l. done [] (at size (l ++ rest))) w
    by (x ∷ xs) bytes w all =
        ap (λ r. and_then r (λ item more. and_then (times read (length xs) more) (λ items last. done (item ∷ items) last)))
        (first-front read w size (each x w.front w.first (All-head Q x xs all) size) rest)
        ∙ ap (λ r. and_then r (λ items last. done (x ∷ items) last)) (by xs w.back w.second (All-tail Q x xs all))

pub counted-front : {A : Type 0} (P : A → List ℕ → Type 0) (Q : A → Type 0) (read : Cursor → Reading A) → Reads P Q read → Reads (Counted P) (All Q) (counted read)
counted-front P Q read each items bytes w all size rest =
    ap (λ r. and_then r (λ count more. times read count more)) (number-front w size rest) ∙ times-front P Q read each items (length items) refl w.back w.second all size rest

-- a table of the pool
pub table-front : {A : Type 0} (P : A → List ℕ → Type 0) (Q : A → Type 0) (read : Cursor → Reading A) → Reads P Q read → Reads (Table P) (All Q) (table read)
table-front P Q read each items bytes w all size rest =
    let count = w.first in
    ap (λ r. and_then r (λ count more. times read (count - 1) more)) (first-front read_u30 w size (u30-front count.count w.front count.spelled tt size) rest)
    ∙ times-front P Q read each items (count.count - 1) (sym count.is) w.back w.second all size rest

-- what stands only where a byte has a flag
pub flagged-front : {A : Type 0} (flags flag : ℕ) (absent x : A) (P : List ℕ → Type 0) (read : Cursor → Reading A) (bytes : List ℕ) → WhereFlag flags flag (x ≡ absent) P bytes
    → (size : ℕ) → (P bytes → (rest : List ℕ) → read (at size (bytes ++ rest)) ≡ done x (at size rest))
    → (rest : List ℕ) → flagged flags flag absent read (at size (bytes ++ rest)) ≡ done x (at size rest)
flagged-front {A} flags flag absent x P read bytes w size present rest = by (bit_and flags flag == 0) w
  where
    by : (b : Bool) → MatchBool b ((bytes ≡ []) × (x ≡ absent)) (P bytes) → (if b then done absent (at size (bytes ++ rest)) else read (at size (bytes ++ rest))) ≡ done x (at size rest)
    by true w = ap (λ l. done absent (at size (l ++ rest))) w.0 ∙ ap (λ y. done y (at size rest)) (sym w.1)
    by false w = present w rest
