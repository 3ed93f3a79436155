-- What decimal digits stand for.
use Rattle.flex_base.proofs.BoolLaws.{both_are}
use Rattle.std.proofs.Common.{◌≡◌, ℕ, ◌+◌, ◌-◌, ◌*◌, ◌<◌, ◌≤◌, List, [], ◌∷◌, length, take, get_or, true, suc, zero, refl, arith}
use Rattle.std.specs.Prelude.{◌&&◌, nat_le}
use Rattle.std.specs.Char.{is_ascii_digit}
use Rattle.std.specs.Int.{IsInRange}
use Rattle.std.specs.List.{list_all}
use Rattle.std.specs.Str.Parse.{digits_value}
use Rattle.std.proofs.lemmas.Bool.{leb-true, le-leb}
use Rattle.std.proofs.lemmas.Int.Digits.{digits_value_more}
use Rattle.std.proofs.lemmas.Str.{digit_value_digit}
use Rattle.std.proofs.lemmas.Str.Parse.{IsDigitsTest, numerals_by_value, digits_value_short, digits_value-take-le}

abbrev AreDigits : List ℕ → Type 0
AreDigits ds = list_all is_ascii_digit ds ≡ true

tells_digits : IsDigitsTest AreDigits
tells_digits = record {
  empty = refl;
  parts = λ c cs e. let k = both_are (is_ascii_digit c) (list_all is_ascii_digit cs) e in let m = both_are (nat_le 48 c) (nat_le c 57) k.0 in ((leb-true 48 c m.0, leb-true c 57 m.1), k.1);
  more = λ c cs k e i. (le-leb 48 c k.0 i && le-leb c 57 k.1 i) && e i;
}

digit_there : (ds : List ℕ) (i : ℕ) → AreDigits ds → i < length ds → IsInRange 48 57 (get_or ds i 0)
digit_there [] i all h = absurd (omega arith)
digit_there (d ∷ ds) zero all h = (tells_digits.parts d ds all).0
digit_there (d ∷ ds) (suc i) all h = digit_there ds i (tells_digits.parts d ds all).1 (omega arith)

-- a first part of at most ten digits stands for less than 10^10
pub part_below : (ds : List ℕ) (i : ℕ) → AreDigits ds → length ds ≤ 10 → digits_value 10 (take i ds) < 10000000000
part_below ds i all few =
    let whole = digits_value_short (numerals_by_value AreDigits tells_digits) ds 10 all few in
    let part = digits_value-take-le 10 ds i (omega arith) in
    omega arith

-- one digit more
pub digit_more : (ds : List ℕ) (i n d : ℕ) → AreDigits ds → i < length ds → n ≡ digits_value 10 (take i ds) → d ≡ get_or ds i 0 - 48 → 10 * n + d ≡ digits_value 10 (take (i + 1) ds)
digit_more ds i n d all h is digit =
    let more = digits_value_more 10 ds i h in
    let there = digit_there ds i all h in
    let value = digit_value_digit (get_or ds i 0) there in
    omega arith
