-- The number that begins a text.
use Rattle.std.proofs.Common.{◌≡◌, ℕ, ◌+◌, ◌<◌, ◌≤◌, List, [], ◌∷◌, ◌++◌, length, Option, Some, None, Bool, true, false, inl, inr, refl, ap, ◌∙◌, subst, arith}
use Rattle.std.specs.Prelude.{◌&&◌, IsUtf8, codes, nat_lt}
use Rattle.std.specs.Bool.{then_some}
use Rattle.std.specs.List.{list_all, prefix_len}
use Rattle.std.specs.Char.{is_ascii_digit, is_ascii_hexdigit}
use Rattle.std.proofs.lemmas.Bool.Decides.{nat_tests}
use Rattle.as3_lexer.specs.Forms.{AreSome, IsNumber, IsHexadecimal}
use Rattle.as3_lexer.specs.Scanning.{behind, hexadecimal_len, or_decimal, if_some, number_len}
use Rattle.as3_lexer.proofs.Cuts.{Cut, IfCut, AtLeast, run_at_least, run_cut, behind_ascii}
use Rattle.as3_lexer.proofs.Fronts.{behind_gives}

digit_small : (byte : ℕ) → is_ascii_digit byte ≡ true → byte < 128
digit_small byte is = grind (arith, nat_tests)

hexdigit_small : (byte : ℕ) → is_ascii_hexdigit byte ≡ true → byte < 128
hexdigit_small byte is = grind (arith, nat_tests)

above : (n : ℕ) → 1 ≤ n → nat_lt 0 n ≡ true
above n less = grind (arith, nat_tests)

some_above : (n : ℕ) → nat_lt 0 n ≡ true → 1 ≤ n
some_above n is = grind (arith, nat_tests)

hexadecimal_found : (text : List ℕ) (r : Option (List ℕ)) → behind (codes "0x") text ≡ r → IfCut IsNumber (hexadecimal_len r) text
hexadecimal_found text None is = tt
hexadecimal_found text (Some digits) is = go (nat_lt 0 (prefix_len is_ascii_hexdigit digits)) refl
  where
    cut : 1 ≤ prefix_len is_ascii_hexdigit digits → Cut IsNumber (prefix_len is_ascii_hexdigit digits + 2) text
    cut some =
        let run = run_cut is_ascii_hexdigit hexdigit_small digits some in
        let whole = behind_gives (codes "0x") text digits is in
        record {
          front = codes "0x" ++ run.front;
          back = run.back;
          is = whole ∙ ap (λ t. codes "0x" ++ t) run.is;
          long = omega (arith, run.long);
          form = inr (record { digits = run.front; is = refl; some = run.form });
          utf8 = λ utf8. run.utf8 (behind_ascii [] digits 120 (omega arith) (behind_ascii [] (120 ∷ digits) 48 (omega arith) (subst IsUtf8 whole utf8)));
        }

    go : (t : Bool) → nat_lt 0 (prefix_len is_ascii_hexdigit digits) ≡ t → IfCut IsNumber (then_some t (prefix_len is_ascii_hexdigit digits + 2)) text
    go true some = cut (some_above (prefix_len is_ascii_hexdigit digits) some)
    go false none = tt

decimal_found : (text : List ℕ) → IfCut IsNumber (if_some (prefix_len is_ascii_digit text)) text
decimal_found text = go (nat_lt 0 (prefix_len is_ascii_digit text)) refl
  where
    weaker : (len : ℕ) → Cut (AreSome is_ascii_digit) len text → Cut IsNumber len text
    weaker len cut = record { front = cut.front; back = cut.back; is = cut.is; long = cut.long; form = inl cut.form; utf8 = cut.utf8 }

    go : (t : Bool) → nat_lt 0 (prefix_len is_ascii_digit text) ≡ t → IfCut IsNumber (then_some t (prefix_len is_ascii_digit text)) text
    go true some = weaker (prefix_len is_ascii_digit text) (run_cut is_ascii_digit digit_small text (some_above (prefix_len is_ascii_digit text) some))
    go false none = tt

-- what is found is a number
pub number_found : (text : List ℕ) → IfCut IsNumber (number_len text) text
number_found text = go (hexadecimal_len (behind (codes "0x") text)) (hexadecimal_found text (behind (codes "0x") text) refl)
  where
    go : (r : Option ℕ) → IfCut IsNumber r text → IfCut IsNumber (or_decimal r text) text
    go (Some len) cut = cut
    go None cut = decimal_found text

-- digits before an `x` are few
few_digits : (front back digits : List ℕ) → front ++ back ≡ 48 ∷ 120 ∷ digits → list_all is_ascii_digit front ≡ true → length front ≤ 1
few_digits [] back digits same pass = omega arith
few_digits (a ∷ []) back digits same pass = omega arith
few_digits (a ∷ b ∷ front) back digits same pass =
    let is : b ≡ 120 = cc in
    absurd (wrong (is_ascii_digit a) (is_ascii_digit b) (list_all is_ascii_digit front) (rw is refl) pass)
  where
    wrong : (t u v : Bool) → u ≡ false → (t && (u && v)) ≡ true → ⊥
    wrong true true v is all = cc
    wrong true false v is all = cc
    wrong false u v is all = cc

decimal_covered : (front back : List ℕ) → AreSome is_ascii_digit front → AtLeast (length front) (number_len (front ++ back))
decimal_covered front back form = go (behind (codes "0x") (front ++ back)) refl
  where
    other : AtLeast (length front) (if_some (prefix_len is_ascii_digit (front ++ back)))
    other =
        let least = run_at_least is_ascii_digit front back form.pass in
        let some = above (prefix_len is_ascii_digit (front ++ back)) (omega (arith, least, form.some)) in
        rw some least

    test : (digits : List ℕ) → front ++ back ≡ 48 ∷ 120 ∷ digits → (t : Bool) → AtLeast (length front) (or_decimal (then_some t (prefix_len is_ascii_hexdigit digits + 2)) (front ++ back))
    test digits same true = let few = few_digits front back digits same form.pass in omega (arith, few)
    test digits same false = other

    go : (r : Option (List ℕ)) → behind (codes "0x") (front ++ back) ≡ r → AtLeast (length front) (or_decimal (hexadecimal_len r) (front ++ back))
    go None is = other
    go (Some digits) is = test digits (behind_gives (codes "0x") (front ++ back) digits is) (nat_lt 0 (prefix_len is_ascii_hexdigit digits))

hexadecimal_covered : (front back : List ℕ) → IsHexadecimal front → AtLeast (length front) (number_len (front ++ back))
hexadecimal_covered front back form =
    let least = run_at_least is_ascii_hexdigit form.digits back form.some.pass in
    let some = above (prefix_len is_ascii_hexdigit (form.digits ++ back)) (omega (arith, least, form.some.some)) in
    rw (form.is, some) (omega (arith, least))

-- numbers are found, and nothing longer is missed
pub number_covered : (front back : List ℕ) → IsNumber front → AtLeast (length front) (number_len (front ++ back))
number_covered front back (inl form) = decimal_covered front back form
number_covered front back (inr form) = hexadecimal_covered front back form
