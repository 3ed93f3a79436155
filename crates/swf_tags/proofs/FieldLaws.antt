-- What stands at the start of bytes is read, and what is read stands there.
use Rattle.flex_base.proofs.OptionLaws.{some_is}
use Rattle.std.proofs.Common.{◌≡◌, ℕ, zero, suc, ◌+◌, ◌*◌, ◌/◌, ◌%◌, ◌^◌, ◌<◌, ◌≤◌, Bool, true, false, not, cond, List, [], ◌∷◌, ◌++◌, length, take, drop, Option, Some, None, refl, sym, ap, ap₂, subst, ◌∙◌, arith, add-one, append_assoc, length-append, length-take}
use Rattle.std.specs.Prelude.{if◌then◌else◌, ◌==◌, ◌≢◌, nat_lt, nat_le, All}
use Rattle.std.specs.List.{position, position_or_len}
use Rattle.std.specs.Str.{is_utf8, IsUtf8}
use Rattle.std.specs.Int.{byte_at, bytes_low_first}
use Rattle.std.proofs.lemmas.Bool.{lt-ltb, le-leb, leb-true, ltb-true, ne_eqb, eqb-true, eqb-false}
use Rattle.std.proofs.lemmas.List.{append-nil, take-append-drop}
use Rattle.std.proofs.lemmas.List.Elements.{All-nil, All-cons, All-head, All-tail, All-take, All-drop}
use Rattle.std.proofs.lemmas.Str.{is_utf8-from_IsUtf8, IsUtf8-from_is_utf8}
use Rattle.std.proofs.Math.Nat.{div-div-eq-div-mul, div-one, pow-suc}
use Rattle.std.proofs.Math.Seq.{take-append_seam, drop-append_seam, drop-append-add}
use Rattle.byteorder.specs.Endian.{little_bytes, little_number, little_from}
use Rattle.byteorder.specs.Numbers.{little_number-reads_back, length-bytes_low_first, little_from-cons}
use Rattle.swf_tags.specs.Spelling.{zero_ended}
use Rattle.swf_tags.specs.File.{AreBytes, IsName}
use Rattle.swf_tags.specs.Fields.{Front, split, number_of, number, name_to, name}

-- a split of the first n bytes
pub split-front : (n : ℕ) (front rest : List ℕ) → length front ≡ n → split n (front ++ rest) ≡ Some (record { it = front; rest = rest })
unfolding split
split-front n front rest e =
    let whole = length-append front rest in
    let within : n ≤ length (front ++ rest) = omega arith in
    let it : take n (front ++ rest) ≡ front = ap (λ k. take k (front ++ rest)) (sym e) ∙ take-append_seam front rest in
    let behind : drop n (front ++ rest) ≡ rest = ap (λ k. drop k (front ++ rest)) (sym e) ∙ drop-append_seam front rest in
    ap (λ t. if t then Some (record { it = take n (front ++ rest); rest = drop n (front ++ rest) }) else None) (le-leb n (length (front ++ rest)) within)
    ∙ ap (λ l. Some (record { it = l; rest = drop n (front ++ rest) })) it
    ∙ ap (λ l. Some (record { it = front; rest = l })) behind

abbrev pub taken : ℕ → List ℕ → Bool → Option (Front (List ℕ))
taken n bytes t = if t then Some (record { it = take n bytes; rest = drop n bytes }) else None

-- the parts of a split
pub split-gives : (n : ℕ) (bytes it rest : List ℕ) → split n bytes ≡ Some (record { it = it; rest = rest }) → (bytes ≡ it ++ rest) × (length it ≡ n)
unfolding split
split-gives n bytes it rest e = by (nat_le n (length bytes)) refl e
  where
    by : (t : Bool) → nat_le n (length bytes) ≡ t → taken n bytes t ≡ Some (record { it = it; rest = rest }) → (bytes ≡ it ++ rest) × (length it ≡ n)
    by false f g = cc
    by true f g =
        let both = some_is _ _ g in
        let front : take n bytes ≡ it = ap (λ r. r.it) both in
        let back : drop n bytes ≡ rest = ap (λ r. r.rest) both in
        let within = leb-true n (length bytes) f in
        (sym (take-append-drop n bytes) ∙ ap₂ (λ a b. a ++ b) front back, (let size : length (take n bytes) ≡ n = grind (arith, length-take) in sym (ap length front) ∙ size))

pub number-front : (n x : ℕ) (rest : List ℕ) → x < 256 ^ n → number n (little_bytes n x ++ rest) ≡ Some (record { it = x; rest = rest })
number-front n x rest fits =
    ap (number_of n) (split-front n (little_bytes n x) rest (length-bytes_low_first 0 n x))
    ∙ ap (λ k. Some (record { it = k; rest = rest })) (ap (little_number n) (sym (append-nil (little_bytes n x))) ∙ little_number-reads_back n x [] fits)

byte_at-is : (j x : ℕ) → byte_at j x ≡ x / 256 ^ j % 256
byte_at-is zero x = ap (λ (y : ℕ). y % 256) (sym (div-one x))
byte_at-is (suc j) x = refl

-- the bytes of a number, from byte j on, are those that it was made of
low_bytes : (n j x : ℕ) (l : List ℕ) → length l ≡ n → AreBytes l → x / 256 ^ j ≡ little_from 0 n l → bytes_low_first j n x ≡ l
low_bytes zero j x [] size small e = refl
low_bytes zero j x (b ∷ l) size small e = absurd (omega arith)
low_bytes (suc n) j x [] size small e = absurd (omega arith)
low_bytes (suc n) j x (b ∷ l) size small e =
    let head = All-head (λ byte. byte < 256) b l small in
    let moved = little_from-cons 0 n b l in
    let whole : x / 256 ^ j ≡ b + 256 * little_from 0 n l = e ∙ ap (λ (r : ℕ). b + 256 * r) moved in
    let low : byte_at j x ≡ b = byte_at-is j x ∙ ap (λ (y : ℕ). y % 256) whole ∙ omega arith in
    let high : x / 256 ^ suc j ≡ little_from 0 n l = ap (λ (p : ℕ). x / p) (pow-suc 256 j) ∙ sym (div-div-eq-div-mul x (256 ^ j) 256) ∙ ap (λ (y : ℕ). y / 256) whole ∙ omega arith in
    ap₂ (λ (a : ℕ) (m : List ℕ). a ∷ m) low (low_bytes n (suc j) x l (omega arith) (All-tail (λ byte. byte < 256) b l small) high)

low_fits : (n : ℕ) (l : List ℕ) → length l ≡ n → AreBytes l → little_from 0 n l < 256 ^ n
low_fits zero l size small = omega arith
low_fits (suc n) [] size small = absurd (omega arith)
low_fits (suc n) (b ∷ l) size small =
    let head = All-head (λ byte. byte < 256) b l small in
    let moved = little_from-cons 0 n b l in
    let rest = low_fits n l (omega arith) (All-tail (λ byte. byte < 256) b l small) in
    rw (pow-suc 256 n) (omega (arith, head, moved, rest))

pub append-bytes : (front back bytes : List ℕ) → bytes ≡ front ++ back → AreBytes bytes → AreBytes front × AreBytes back
append-bytes front back bytes is small =
    let front_is : take (length front) bytes ≡ front = ap (take (length front)) is ∙ take-append_seam front back in
    let back_is : drop (length front) bytes ≡ back = ap (drop (length front)) is ∙ drop-append_seam front back in
    (subst AreBytes front_is (All-take (λ byte. byte < 256) (length front) bytes small), subst AreBytes back_is (All-drop (λ byte. byte < 256) (length front) bytes small))

pub number-gives : (n x : ℕ) (bytes rest : List ℕ) → AreBytes bytes → number n bytes ≡ Some (record { it = x; rest = rest }) → (bytes ≡ little_bytes n x ++ rest) × (x < 256 ^ n)
number-gives n x bytes rest small e = by (split n bytes) refl e
  where
    by : (o : Option (Front (List ℕ))) → split n bytes ≡ o → number_of n o ≡ Some (record { it = x; rest = rest }) → (bytes ≡ little_bytes n x ++ rest) × (x < 256 ^ n)
    by None f g = cc
    by (Some field) f g =
        let both = some_is _ _ g in
        let is : little_number n field.it ≡ x = ap (λ r. r.it) both in
        let back : field.rest ≡ rest = ap (λ r. r.rest) both in
        let parts = split-gives n bytes field.it field.rest f in
        let small_field = (append-bytes field.it field.rest bytes parts.0 small).0 in
        let spelled : little_bytes n x ≡ field.it = low_bytes n 0 x field.it parts.1 small_field (div-one x ∙ sym is) in
        (parts.0 ∙ ap₂ (λ a b. a ++ b) (sym spelled) back, subst (λ (y : ℕ). y < 256 ^ n) is (low_fits n field.it parts.1 small_field))

-- the place of the first zero
zero_behind : (text rest : List ℕ) → All (λ byte. byte ≢ 0) text → position_or_len (λ byte. byte == 0) (text ++ 0 ∷ rest) ≡ length text
zero_behind [] rest all = refl
zero_behind (byte ∷ text) rest all =
    let head = All-head (λ byte. byte ≢ 0) byte text all in
    let more = zero_behind text rest (All-tail (λ byte. byte ≢ 0) byte text all) in
    ap (λ t. cond (not t) (1 + position_or_len (λ byte. byte == 0) (text ++ 0 ∷ rest)) 0) (ne_eqb byte 0 head) ∙ omega (arith, more)

pub name-front : (text rest : List ℕ) → All (λ byte. byte ≢ 0) text → IsUtf8 text → name (zero_ended text ++ rest) ≡ Some (record { it = text; rest = rest })
unfolding name
name-front text rest all valid =
    let place = zero_behind text rest all in
    let whole = length-append text (0 ∷ rest) in
    let within : length text < length (text ++ 0 ∷ rest) = omega arith in
    let at : position (λ byte. byte == 0) (text ++ 0 ∷ rest) ≡ Some (length text) =
    ap (λ k. cond (nat_lt k (length (text ++ 0 ∷ rest))) (Some k) None) place
    ∙ ap (λ t. cond t (Some (length text)) None) (lt-ltb (length text) (length (text ++ 0 ∷ rest)) within) in
    ap (λ l. name_to l (position (λ byte. byte == 0) l)) (append_assoc text (0 ∷ []) rest)
    ∙ ap (name_to (text ++ 0 ∷ rest)) at
    ∙ ap (λ l. if is_utf8 l then Some (record { it = l; rest = drop (length text + 1) (text ++ 0 ∷ rest) }) else None) (take-append_seam text (0 ∷ rest))
    ∙ ap (λ t. if t then Some (record { it = text; rest = drop (length text + 1) (text ++ 0 ∷ rest) }) else None) (is_utf8-from_IsUtf8 text valid)
    ∙ ap (λ l. Some (record { it = text; rest = l })) (drop-append-add text (0 ∷ rest) 1)

abbrev Parts : List ℕ → ℕ → Type 0
Parts l k = All (λ byte. byte ≢ 0) (take k l) × (l ≡ zero_ended (take k l) ++ drop (suc k) l)

-- the bytes before the first zero, and those after it
before_zero : (bytes : List ℕ) (end : ℕ) → position_or_len (λ byte. byte == 0) bytes ≡ end → end < length bytes → Parts bytes end
before_zero [] end e within = absurd (omega arith)
before_zero (byte ∷ bytes) end e within = by (λ inside. before_zero bytes (position_or_len (λ byte. byte == 0) bytes) refl inside) (byte == 0) refl e
  where
    by : (position_or_len (λ byte. byte == 0) bytes < length bytes → Parts bytes (position_or_len (λ byte. byte == 0) bytes)) → (t : Bool) → (byte == 0) ≡ t
        → cond (not t) (1 + position_or_len (λ byte. byte == 0) bytes) 0 ≡ end → Parts (byte ∷ bytes) end
    by inner true f g =
        let zero_end : 0 ≡ end = g in
        let is = eqb-true byte 0 f in
        subst (Parts (byte ∷ bytes)) zero_end (All-nil (λ byte. byte ≢ 0), ap (λ (b : ℕ). b ∷ bytes) is)
    by inner false f g =
        let k = position_or_len (λ byte. byte == 0) bytes in
        let next : suc k ≡ end = omega (arith, g) in
        let more = inner (omega arith) in
        subst (Parts (byte ∷ bytes)) next (All-cons (λ byte. byte ≢ 0) byte (take k bytes) (eqb-false byte 0 f) more.0, ap (λ (l : List ℕ). byte ∷ l) more.1)

abbrev named : ℕ → List ℕ → Bool → Option (Front (List ℕ))
named end bytes t = if t then Some (record { it = take end bytes; rest = drop (end + 1) bytes }) else None

pub name-gives : (bytes it rest : List ℕ) → name bytes ≡ Some (record { it = it; rest = rest }) → IsName it (zero_ended it) × (bytes ≡ zero_ended it ++ rest)
unfolding name
name-gives bytes it rest e = at (nat_lt (position_or_len (λ byte. byte == 0) bytes) (length bytes)) refl e
  where
    end : ℕ
    end = position_or_len (λ byte. byte == 0) bytes

    text : nat_lt end (length bytes) ≡ true → (u : Bool) → is_utf8 (take end bytes) ≡ u → named end bytes u ≡ Some (record { it = it; rest = rest }) → IsName it (zero_ended it) × (bytes ≡ zero_ended it ++ rest)
    text f false u g = cc
    text f true u g =
        let both = some_is _ _ g in
        let is : take end bytes ≡ it = ap (λ r. r.it) both in
        let back : drop (end + 1) bytes ≡ rest = ap (λ r. r.rest) both in
        let parts = before_zero bytes end refl (ltb-true end (length bytes) f) in (
          record {
            no_zero = subst (All (λ byte. byte ≢ 0)) is parts.0;
            valid = subst IsUtf8 is (IsUtf8-from_is_utf8 (take end bytes) u);
            is = refl;
          },
          parts.1 ∙ ap₂ (λ a b. zero_ended a ++ b) is (ap (λ k. drop k bytes) (sym (add-one end)) ∙ back),
        )

    at : (t : Bool) → nat_lt end (length bytes) ≡ t → name_to bytes (cond t (Some end) None) ≡ Some (record { it = it; rest = rest }) → IsName it (zero_ended it) × (bytes ≡ zero_ended it ++ rest)
    at false f g = cc
    at true f g = text f (is_utf8 (take end bytes)) refl g
