-- Digits, one behind another.
use Rattle.std.proofs.Common.{◌≡◌, ◌∙◌, ℕ, suc, ◌+◌, ◌-◌, ◌*◌, ◌<◌, ◌≤◌, List, [], ◌∷◌, ap, sym, refl, Bool, true, false, length, cond, arith}
use Rattle.std.specs.Prelude.{Option, Some, None, ◌&&◌, if◌then◌else◌, nat_le, nat_lt}
use Rattle.std.specs.List.{fold, list_all}
use Rattle.std.proofs.Math.Bool.{and-true}
use Rattle.std.proofs.lemmas.Bool.{and_right, le-leb, le-ltb, ltb-false}
use Rattle.source_sites.specs.Texts.{Text}
use Rattle.document_sites.specs.BindingTexts.{digits_below, is_digit, number_of}
use Rattle.document_texts.specs.Numbers.{longer_below}

-- the number of digits behind a number
abbrev pub digits_from : ℕ → ℕ → Text → Option ℕ
digits_from limit n rest = if list_all is_digit rest && nat_lt (fold (λ n digit. n * 10 + (digit - 48)) n rest) limit then Some (fold (λ n digit. n * 10 + (digit - 48)) n rest) else None

pub from_the_first : (limit : ℕ) (digits : Text) → (1 ≤ length digits) → digits_below limit digits ≡ digits_from limit 0 digits
from_the_first limit digits some =
    ap (λ t. if list_all is_digit digits && t && nat_lt (number_of digits) limit then Some (number_of digits) else None) (le-leb 1 (length digits) some)
    ∙ ap (λ t. if t && nat_lt (number_of digits) limit then Some (number_of digits) else None) (and-true (list_all is_digit digits))

grows : (n : ℕ) (ds : Text) → n ≤ fold (λ n digit. n * 10 + (digit - 48)) n ds
grows n [] = omega arith
grows n (d ∷ ds) = let more : n * 10 + (d - 48) ≤ fold (λ n digit. n * 10 + (digit - 48)) (n * 10 + (d - 48)) ds = grows (n * 10 + (d - 48)) ds in omega arith

module _ (limit n d : ℕ) (ds : Text) where
  abbrev more : ℕ
  more = n * 10 + (d - 48)

  -- with what the tests of a digit tell
  abbrev with_tests : Bool → Bool → Option ℕ
  with_tests is below = if is && below then Some more else None

  abbrev from_tests : Bool → Option ℕ
  from_tests is = if (is && list_all is_digit ds) && nat_lt (fold (λ n digit. n * 10 + (digit - 48)) more ds) limit then Some (fold (λ n digit. n * 10 + (digit - 48)) more ds) else None

  too_large : nat_lt more limit ≡ false → from_tests true ≡ None
  too_large h =
      let least : limit ≤ more = ltb-false more limit h in
      let grown : more ≤ fold (λ n digit. n * 10 + (digit - 48)) more ds = grows more ds in
      let large : limit ≤ fold (λ n digit. n * 10 + (digit - 48)) more ds = omega arith in
      ap (λ t. if t then Some (fold (λ n digit. n * 10 + (digit - 48)) more ds) else None) (and_right (list_all is_digit ds) (nat_lt (fold (λ n digit. n * 10 + (digit - 48)) more ds) limit) (le-ltb (fold (λ n digit. n * 10 + (digit - 48)) more ds) limit large))

  ends_by : (is below : Bool) → nat_lt more limit ≡ below → with_tests is below ≡ None → from_tests is ≡ None
  ends_by false below e h = refl
  ends_by true false e h = too_large e
  ends_by true true e h = absurd (cc)

  goes_by : (is below : Bool) (m : ℕ) → nat_lt more limit ≡ below → with_tests is below ≡ Some m → (from_tests is ≡ digits_from limit m ds) × (nat_lt m limit ≡ true)
  goes_by false below m e h = absurd (cc)
  goes_by true false m e h = absurd (cc)
  goes_by true true m e h =
      let same : more ≡ m = cc in (ap (λ k. digits_from limit k ds) same, ap (λ k. nat_lt k limit) (sym same) ∙ e)

  -- where the number ends, or goes on
  pub ends_here : longer_below limit n d ≡ None → digits_from limit n (d ∷ ds) ≡ None
  ends_here h = ends_by (is_digit d) (nat_lt more limit) refl h

  pub goes_on : (m : ℕ) → longer_below limit n d ≡ Some m → (digits_from limit n (d ∷ ds) ≡ digits_from limit m ds) × (nat_lt m limit ≡ true)
  goes_on m h = goes_by (is_digit d) (nat_lt more limit) m refl h
