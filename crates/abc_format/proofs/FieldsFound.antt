-- A field that is read stands there.
use Rattle.std.proofs.Common.{◌≡◌, ℕ, zero, suc, ◌+◌, ◌-◌, ◌*◌, ◌/◌, ◌%◌, ◌^◌, ◌<◌, ◌≤◌, List, [], ◌∷◌, length, take, drop, Bool, true, false, Option, Some, None, refl, sym, ap, ap₂, subst, ◌∙◌, arith, length-take, inl, inr}
use Rattle.std.specs.Prelude.{All, MatchBool, if◌then◌else◌, ◌==◌, nat_lt, nat_le, bit_and}
use Rattle.std.specs.Int.{byte_at, bytes_low_first}
use Rattle.std.specs.Str.{is_utf8}
use Rattle.std.proofs.lemmas.Bool.{leb-true, ltb-true, eqb-true, cases_lt}
use Rattle.std.proofs.lemmas.List.{take-append-drop}
use Rattle.std.proofs.lemmas.List.Elements.{All-nil, All-cons, All-head, All-tail}
use Rattle.std.proofs.lemmas.Str.{IsUtf8-from_is_utf8}
use Rattle.std.proofs.Math.Nat.{div-div-eq-div-mul, div-one, pow-suc}
use Rattle.byteorder.specs.Endian.{little_bytes, little_number, little_from}
use Rattle.byteorder.specs.Numbers.{little_from-cons}
use Rattle.flex_base.specs.Split.{Split, Each}
use Rattle.flex_base.proofs.OptionLaws.{some_is}
use Rattle.abc_format.specs.declared.tables.IndexRule.{IndexRule}
use Rattle.abc_format.specs.Numbers.{Spelled, spelled_by, and_higher, groups_bound, u32_at, u30_limit}
use Rattle.abc_format.specs.Grammar.{IsU30, IsU32, IsS32, IsByte, IsDouble, IsString, IsTableCount, Exactly, Counted, Table, WhereFlag}
use Rattle.abc_format.specs.Indexes.{AreBytes, IsIndex, allows}
use Rattle.abc_format.specs.Fields.{Cursor, Reading, done, behind, byte_of, number_of, read_byte, read_piece, read_u32, read_u30, read_index, read_int, read_double, read_text, read_string, read_u16, read_version, times, counted, table, flagged}
use Rattle.abc_format.proofs.Groups.{spelled_by-none, spelled_by-last, spelled_by-more, groups_bound-least}
use Rattle.abc_format.proofs.FieldFronts.{Anything}
use Rattle.abc_format.proofs.Finding.{Part, then-of, Found, Finds, small, small_front, both, found}

-- a test that the reading passes
pub passes : {A : Type 0} (b : Bool) (one other : Reading A) (x : A) (r : Cursor) {G : Type 0} → (if b then one else other) ≡ done x r
    → (b ≡ true → one ≡ done x r → G) → (other ≡ done x r → G) → G
passes true one other x r e f g = f refl e
passes false one other x r e f g = g e

-- the groups that spell a number are there, and spell it alone
record Spells (k : ℕ) (bytes : List ℕ) (n : Spelled) : Type 0 where
  fits : n.size ≤ length bytes
  again : spelled_by k (take n.size bytes) ≡ Some n

spelled_by-taken : (k : ℕ) (bytes : List ℕ) (n : Spelled) → spelled_by k bytes ≡ Some n → Spells k bytes n
spelled_by-taken k [] n e = cc (spelled_by-none k)
spelled_by-taken zero (b ∷ bs) n e = cc
spelled_by-taken (suc zero) (b ∷ bs) n e = subst (Spells 1 (b ∷ bs)) (some_is _ _ e) (record { fits = omega arith; again = refl })
spelled_by-taken (suc (suc k)) (b ∷ bs) n e = elim (cases_lt b 128) [
  | inl low ↦
      let is : Some (record { value = b; size = 1 }) ≡ Some n = sym (spelled_by-last (suc (suc k)) b bs (omega arith) low) ∙ e in
      subst (Spells (suc (suc k)) (b ∷ bs)) (some_is _ _ is) (record { fits = omega arith; again = spelled_by-last (suc (suc k)) b [] (omega arith) low })
  | inr le ↦
      let fewer : suc (suc k) - 1 ≡ suc k = omega arith in
      let is : and_higher (b - 128) (spelled_by (suc k) bs) ≡ Some n =
      ap (λ j. and_higher (b - 128) (spelled_by j bs)) (sym fewer) ∙ sym (spelled_by-more (suc (suc k)) b bs (omega arith) le) ∙ e in
      by le (λ m f. spelled_by-taken (suc k) bs m f) (spelled_by (suc k) bs) refl is
]
  where
    by : 128 ≤ b → ((m : Spelled) → spelled_by (suc k) bs ≡ Some m → Spells (suc k) bs m) → (o : Option Spelled) → spelled_by (suc k) bs ≡ o → and_higher (b - 128) o ≡ Some n
        → Spells (suc (suc k)) (b ∷ bs) n
    by le inner None f g = cc
    by le inner (Some high) f g =
        let more = inner high f in
        let fewer : suc (suc k) - 1 ≡ suc k = omega arith in
        let fits = more.fits in
        subst (Spells (suc (suc k)) (b ∷ bs)) (some_is _ _ g) (record {
          fits = omega arith;
          again =
              spelled_by-more (suc (suc k)) b (take high.size bs) (omega arith) le
              ∙ ap (λ j. and_higher (b - 128) (spelled_by j (take high.size bs))) fewer
              ∙ ap (and_higher (b - 128)) more.again;
        })

-- a number of so many groups is small
spelled_by-small : (k : ℕ) (bytes : List ℕ) (n : Spelled) → AreBytes bytes → spelled_by k bytes ≡ Some n → n.value < groups_bound k
spelled_by-small k [] n are e = cc (spelled_by-none k)
spelled_by-small zero (b ∷ bs) n are e = cc
spelled_by-small (suc zero) (b ∷ bs) n are e = subst (λ (m : Spelled). m.value < 16) (some_is _ _ e) (let low : b % 16 < 16 = omega arith in low)
spelled_by-small (suc (suc k)) (b ∷ bs) n are e = elim (cases_lt b 128) [
  | inl low ↦
      let is : Some (record { value = b; size = 1 }) ≡ Some n = sym (spelled_by-last (suc (suc k)) b bs (omega arith) low) ∙ e in
      let least = groups_bound-least (suc k) (omega arith) in
      let under : b < 128 * groups_bound (suc k) = omega arith in
      subst (λ (m : Spelled). m.value < groups_bound (suc (suc k))) (some_is _ _ is) under
  | inr le ↦
      let fewer : suc (suc k) - 1 ≡ suc k = omega arith in
      let is : and_higher (b - 128) (spelled_by (suc k) bs) ≡ Some n =
      ap (λ j. and_higher (b - 128) (spelled_by j bs)) (sym fewer) ∙ sym (spelled_by-more (suc (suc k)) b bs (omega arith) le) ∙ e in
      by le (λ m f. spelled_by-small (suc k) bs m (All-tail (λ byte. byte < 256) b bs are) f) (spelled_by (suc k) bs) refl is
]
  where
    by : 128 ≤ b → ((m : Spelled) → spelled_by (suc k) bs ≡ Some m → m.value < groups_bound (suc k)) → (o : Option Spelled) → spelled_by (suc k) bs ≡ o → and_higher (b - 128) o ≡ Some n
        → n.value < groups_bound (suc (suc k))
    by le inner None f g = cc
    by le inner (Some high) f g =
        let more = inner high f in
        let head = All-head (λ byte. byte < 256) b bs are in
        let under : b - 128 + 128 * high.value < 128 * groups_bound (suc k) = omega arith in
        subst (λ (m : Spelled). m.value < groups_bound (suc (suc k))) (some_is _ _ g) under

-- a number stands at the front
u32-part : (c : Cursor) (n : Spelled) → AreBytes c.rest → u32_at c.rest ≡ Some n → Part (IsU32 n.value) c (behind c (drop n.size c.rest))
unfolding u32_at
u32-part c n are e =
    let stands = spelled_by-taken 5 c.rest n e in
    let fits = stands.fits in
    let as_long : length (take n.size c.rest) ≡ n.size = grind (arith, length-take) in
    record {
      front = take n.size c.rest;
      is = sym (take-append-drop n.size c.rest);
      holds = record {
        below = spelled_by-small 5 c.rest n are e;
        spelled = stands.again ∙ ap (λ k. Some (record { value = n.value; size = k })) (sym as_long);
      };
    }

pub unsigned-found : Finds IsU32 Anything read_u32
unfolding read_u32
unsigned-found c are x r e = by (u32_at c.rest) refl e
  where
    by : (o : Option Spelled) → u32_at c.rest ≡ o → number_of c o ≡ done x r → Found IsU32 Anything c x r
    by None f g = cc
    by (Some n) f g = found IsU32 Anything g (u32-part c n are f) tt

pub u30-found : Finds IsU30 Anything read_u30
unfolding read_u30
u30-found c are x r e =
    let s = then-of _ _ x r e in
    let n = unsigned-found c are s.it s.rest s.first in
    passes (nat_lt s.it u30_limit) _ _ x r s.last
    (λ low is. found IsU30 Anything is (record { front = n.part.front; is = n.part.is; holds = record { below = ltb-true s.it u30_limit low; spelled = n.part.holds.spelled } }) tt)
    (λ is. cc)

pub index-found : (rule : IndexRule) → Finds IsU30 (IsIndex rule) (read_index rule)
unfolding read_index
index-found rule c are x r e =
    let s = then-of _ _ x r e in
    let n = u30-found c are s.it s.rest s.first in
    passes (allows rule s.it) _ _ x r s.last (λ named is. found IsU30 (IsIndex rule) is n.part named) (λ is. cc)

pub int-found : Finds IsS32 Anything read_int
unfolding read_int
int-found c are x r e =
    let s = then-of _ _ x r e in
    let n = unsigned-found c are s.it s.rest s.first in
    found IsS32 Anything s.last (record { front = n.part.front; is = n.part.is; holds = record { bits = s.it; spelled = n.part.holds; is = refl } }) tt

pub byte-found : Finds IsByte (λ byte. byte < 256) read_byte
unfolding read_byte
byte-found c are x r e = by c.rest refl e
  where
    by : (bytes : List ℕ) → c.rest ≡ bytes → byte_of c bytes ≡ done x r → Found IsByte (λ byte. byte < 256) c x r
    by [] f g = cc
    by (byte ∷ bytes) f g =
        found IsByte (λ byte. byte < 256) g (record { front = byte ∷ []; is = f; holds = refl })
        (All-head (λ byte. byte < 256) byte bytes (subst AreBytes f are))

-- so many bytes, whatever they are
pub record IsPiece (n : ℕ) (piece bytes : List ℕ) : Type 0 where
  pub size : length piece ≡ n
  pub is : bytes ≡ piece

pub piece-found : (n : ℕ) → Finds (IsPiece n) Anything (read_piece n)
unfolding read_piece
piece-found n c are x r e =
    passes (nat_le n (length c.rest)) _ _ x r e
    (λ within is.
    let fits = leb-true n (length c.rest) within in
    let as_long : length (take n c.rest) ≡ n = grind (arith, length-take) in
    found (IsPiece n) Anything is (record { front = take n c.rest; is = sym (take-append-drop n c.rest); holds = record { size = as_long; is = refl } }) tt)
    (λ is. cc)

byte_at-is : (j x : ℕ) → byte_at j x ≡ x / 256 ^ j % 256
byte_at-is zero x = ap (λ (y : ℕ). y % 256) (sym (div-one x))
byte_at-is (suc j) x = refl

-- the bytes of a number, from byte j on, are those that it was made of
low_bytes : (n j x : ℕ) (l : List ℕ) → length l ≡ n → AreBytes l → x / 256 ^ j ≡ little_from 0 n l → bytes_low_first j n x ≡ l
low_bytes zero j x [] size small e = refl
low_bytes zero j x (b ∷ l) size small e = absurd (omega arith)
low_bytes (suc n) j x [] size small e = absurd (omega arith)
low_bytes (suc n) j x (b ∷ l) size small e =
    let head = All-head (λ byte. byte < 256) b l small in
    let moved = little_from-cons 0 n b l in
    let whole : x / 256 ^ j ≡ b + 256 * little_from 0 n l = e ∙ ap (λ (r : ℕ). b + 256 * r) moved in
    let low : byte_at j x ≡ b = byte_at-is j x ∙ ap (λ (y : ℕ). y % 256) whole ∙ omega arith in
    let high : x / 256 ^ suc j ≡ little_from 0 n l = ap (λ (p : ℕ). x / p) (pow-suc 256 j) ∙ sym (div-div-eq-div-mul x (256 ^ j) 256) ∙ ap (λ (y : ℕ). y / 256) whole ∙ omega arith in
    ap₂ (λ (a : ℕ) (m : List ℕ). a ∷ m) low (low_bytes n (suc j) x l (omega arith) (All-tail (λ byte. byte < 256) b l small) high)

low_fits : (n : ℕ) (l : List ℕ) → length l ≡ n → AreBytes l → little_from 0 n l < 256 ^ n
low_fits zero l size small = omega arith
low_fits (suc n) [] size small = absurd (omega arith)
low_fits (suc n) (b ∷ l) size small =
    let head = All-head (λ byte. byte < 256) b l small in
    let moved = little_from-cons 0 n b l in
    let rest = low_fits n l (omega arith) (All-tail (λ byte. byte < 256) b l small) in
    rw (pow-suc 256 n) (omega (arith, head, moved, rest))

pub double-found : Finds IsDouble Anything read_double
unfolding read_double
double-found c are x r e =
    let s = then-of _ _ x r e in
    let p = piece-found 8 c are s.it s.rest s.first in
    let bytes : AreBytes s.it = subst AreBytes p.part.holds.is (small_front p.part are) in
    found IsDouble Anything s.last (record {
      front = p.part.front;
      is = p.part.is;
      holds = record {
        fits = low_fits 8 s.it p.part.holds.size bytes;
        is = p.part.holds.is ∙ sym (low_bytes 8 0 (little_number 8 s.it) s.it p.part.holds.size bytes (div-one (little_number 8 s.it)));
      };
    }) tt

pub string-found : Finds IsString Anything read_string
unfolding read_string read_text
string-found c are x r e =
    let s = then-of _ _ x r e in
    let n = u30-found c are s.it s.rest s.first in
    let t = then-of _ _ x r s.last in
    let p = piece-found s.it s.rest (small n.part are) t.it t.rest t.first in
    passes (is_utf8 t.it) _ _ x r t.last
    (λ valid is.
    let sized : Part (Split (IsU30 (length t.it)) (Exactly t.it)) c t.rest =
    both (subst (λ k. Part (IsU30 k) c s.rest) (sym p.part.holds.size) n.part) (record { front = p.part.front; is = p.part.is; holds = p.part.holds.is }) in
    found IsString Anything is (record { front = sized.front; is = sized.is; holds = record { valid = IsUtf8-from_is_utf8 t.it valid; sized = sized.holds } }) tt)
    (λ is. cc)

pub version-found : (n : ℕ) (c : Cursor) → AreBytes c.rest → (x : ℕ) (r : Cursor) → read_version n c ≡ done x r → Part (Exactly (little_bytes 2 n)) c r
unfolding read_version read_u16
version-found n c are x r e =
    let s = then-of _ _ x r e in
    let t = then-of _ _ s.it s.rest s.first in
    let p = piece-found 2 c are t.it t.rest t.first in
    let bytes : AreBytes t.it = subst AreBytes p.part.holds.is (small_front p.part are) in
    let made = found (λ (k : ℕ). Exactly (little_bytes 2 k)) Anything t.last (record {
      front = p.part.front;
      is = p.part.is;
      holds = p.part.holds.is ∙ sym (low_bytes 2 0 (little_number 2 t.it) t.it p.part.holds.size bytes (div-one (little_number 2 t.it)));
    }) tt in
    passes (s.it == n) _ _ x r s.last
    (λ same is. (found (λ (k : ℕ). Exactly (little_bytes 2 n)) Anything is (subst (λ (k : ℕ). Part (Exactly (little_bytes 2 k)) c s.rest) (eqb-true s.it n same) made.part) tt).part)
    (λ is. cc)

-- so many items stand there
pub record TimesFound {A : Type 0} (P : A → List ℕ → Type 0) (Q : A → Type 0) (n : ℕ) (c : Cursor) (items : List A) (r : Cursor) : Type 0 where
  pub part : Part (Each P items) c r
  pub indexes : All Q items
  pub as_many : length items ≡ n

times_same : {A : Type 0} (P : A → List ℕ → Type 0) (Q : A → Type 0) (n : ℕ) (c : Cursor) (ys xs : List A) (m r : Cursor) → done ys m ≡ done xs r → TimesFound P Q n c ys m → TimesFound P Q n c xs r
times_same P Q n c ys xs m r e w =
    let f = found (λ items. Each P items) (λ items. All Q items × (length items ≡ n)) e w.part (w.indexes, w.as_many) in
    record { part = f.part; indexes = f.indexes.0; as_many = f.indexes.1 }

pub times-found : {A : Type 0} (P : A → List ℕ → Type 0) (Q : A → Type 0) (read : Cursor → Reading A) → Finds P Q read → (n : ℕ) (c : Cursor) → AreBytes c.rest
    → (items : List A) (r : Cursor) → times read n c ≡ done items r → TimesFound P Q n c items r
times-found P Q read each zero c are items r e = times_same P Q 0 c [] items c r e (record { part = record { front = []; is = refl; holds = refl }; indexes = All-nil Q; as_many = refl })
times-found P Q read each (suc k) c are items r e =
    let s = then-of _ _ items r e in
    let one = each c are s.it s.rest s.first in
    let t = then-of _ _ items r s.last in
    let others = times-found P Q read each k s.rest (small one.part are) t.it t.rest t.first in
    times_same P Q (suc k) c (s.it ∷ t.it) items t.rest r t.last
    (record { part = both one.part others.part; indexes = All-cons Q s.it t.it one.indexes others.indexes; as_many = ap suc others.as_many })

pub counted-found : {A : Type 0} (P : A → List ℕ → Type 0) (Q : A → Type 0) (read : Cursor → Reading A) → Finds P Q read → Finds (Counted P) (All Q) (counted read)
counted-found P Q read each c are items r e =
    let s = then-of _ _ items r e in
    let n = u30-found c are s.it s.rest s.first in
    let w = times-found P Q read each s.it s.rest (small n.part are) items r s.last in
    record { part = both (subst (λ k. Part (IsU30 k) c s.rest) (sym w.as_many) n.part) w.part; indexes = w.indexes }

-- a table of the pool
pub table-found : {A : Type 0} (P : A → List ℕ → Type 0) (Q : A → Type 0) (read : Cursor → Reading A) → Finds P Q read → Finds (Table P) (All Q) (table read)
table-found P Q read each c are items r e =
    let s = then-of _ _ items r e in
    let n = u30-found c are s.it s.rest s.first in
    let w = times-found P Q read each (s.it - 1) s.rest (small n.part are) items r s.last in
    let count : Part (IsTableCount (length items)) c s.rest =
    record { front = n.part.front; is = n.part.is; holds = record { count = s.it; spelled = n.part.holds; is = sym w.as_many } } in
    record { part = both count w.part; indexes = w.indexes }

-- what stands only where a byte has a flag
pub flagged-found : {A : Type 0} (P : A → List ℕ → Type 0) (Q : A → Type 0) (flags flag : ℕ) (absent : A) (read : Cursor → Reading A) → Q absent → Finds P Q read
    → Finds (λ x. WhereFlag flags flag (x ≡ absent) (P x)) Q (flagged flags flag absent read)
flagged-found {A} P Q flags flag absent read none some c are x r e = by (bit_and flags flag == 0) e
  where
    by : (b : Bool) → (if b then done absent c else read c) ≡ done x r → Found (λ (y : A) bytes. MatchBool b ((bytes ≡ []) × (y ≡ absent)) (P y bytes)) Q c x r
    by true f = found (λ (y : A) bytes. (bytes ≡ []) × (y ≡ absent)) Q f (record { front = []; is = refl; holds = (refl, refl) }) none
    by false f = some c are x r f
