-- What stands behind a front of a text, and where a text has its first `*/`.
use Rattle.std.proofs.Common.{◌≡◌, ◌≢◌, ℕ, zero, suc, ◌<◌, ◌≤◌, List, [], ◌∷◌, ◌++◌, length, drop, Option, Some, None, Bool, true, false, cond, refl, ap, sym, ◌∙◌, arith}
use Rattle.std.specs.Prelude.{codes, MatchOption, ◌==◌}
use Rattle.std.specs.Option.{option_map}
use Rattle.std.specs.Borrow.{Bor}
use Rattle.std.specs.Str.Pattern.{FindsText, FindsTextPrefix, StripsPrefix, LacksTextAt, MatchBeginsAt}
use Rattle.std.proofs.lemmas.Bool.Decides.{nat_tests}
use Rattle.as3_lexer.specs.Scanning.{behind, closing_place}

pub same_byte : (a b : ℕ) → (a == b) ≡ true → a ≡ b
same_byte a b same = grind (arith, nat_tests)

itself : (a : ℕ) → (a == a) ≡ true
itself a = grind (arith, nat_tests)

-- what stands behind a front is found
pub behind_front : (front rest : List ℕ) → behind front (front ++ rest) ≡ Some rest
behind_front [] rest = refl
behind_front (byte ∷ front) rest = rw (itself byte) (behind_front front rest)

pub behind_is : (front text rest : List ℕ) → text ≡ front ++ rest → behind front text ≡ Some rest
behind_is front text rest is = rw is (behind_front front rest)

-- and what is found stands there
pub behind_gives : (front text rest : List ℕ) → behind front text ≡ Some rest → text ≡ front ++ rest
behind_gives [] text rest is = cc
behind_gives (byte ∷ front) [] rest is = cc
behind_gives (byte ∷ front) (first ∷ text) rest is = go (byte == first) refl is (behind_gives front text rest)
  where
    go : (t : Bool) → (byte == first) ≡ t → cond t (behind front text) None ≡ Some rest → (behind front text ≡ Some rest → text ≡ front ++ rest) → first ∷ text ≡ (byte ∷ front) ++ rest
    go true same found others = let at_rest = others found in let byte_is = same_byte byte first same in cc
    go false same found others = cc

-- a front that doesn't stand there isn't found
pub behind_none : (front text : List ℕ) → ((rest : List ℕ) → text ≢ front ++ rest) → behind front text ≡ None
behind_none front text lacks = go (behind front text) refl
  where
    go : (r : Option (List ℕ)) → behind front text ≡ r → r ≡ None
    go None is = refl
    go (Some rest) is = absurd (lacks rest (behind_gives front text rest is))

-- what `strip_prefix` answers
pub strips : (front text : List ℕ) (r : Option (Bor (List ℕ)))
    → MatchOption r (FindsTextPrefix front text None) (λ x. StripsPrefix (FindsTextPrefix front) text x.now)
    → option_map (λ (rest : Bor (List ℕ)). rest.now) r ≡ behind front text
strips front text None lacks = sym (behind_none front text lacks)
strips front text (Some x) is = sym (behind_is front text x.now (is.1.1 ∙ ap (λ t. front ++ t) (sym is.2)))

-- the first `*/` is found, if there is one
pub closing_some : (text rest : List ℕ) (place : ℕ) → ((k : ℕ) → k < place → LacksTextAt (codes "*/") text k) → drop place text ≡ codes "*/" ++ rest → closing_place text ≡ Some place
closing_some [] rest zero lacks is = cc
closing_some [] rest (suc place) lacks is = cc
closing_some (byte ∷ text) rest zero lacks is = rw (behind_is (codes "*/") (byte ∷ text) rest is) refl
closing_some (byte ∷ text) rest (suc place) lacks is =
    let none = behind_none (codes "*/") (byte ∷ text) (lacks 0 (omega arith)) in
    let later = closing_some text rest place (λ k less. lacks (suc k) (omega (arith, less))) is in
    rw (none, later) refl

pub closing_none : (text : List ℕ) → ((k : ℕ) → k ≤ length text → LacksTextAt (codes "*/") text k) → closing_place text ≡ None
closing_none [] lacks = refl
closing_none (byte ∷ text) lacks =
    let none = behind_none (codes "*/") (byte ∷ text) (lacks 0 (omega arith)) in
    let later = closing_none text (λ k less. lacks (suc k) (omega (arith, less))) in
    rw (none, later) refl

-- what `find` answers
pub finds_closing : (text : List ℕ) (r : Option ℕ) → MatchOption r (FindsText (codes "*/") text None) (MatchBeginsAt (FindsText (codes "*/")) text) → r ≡ closing_place text
finds_closing text None lacks = sym (closing_none text lacks)
finds_closing text (Some place) is = sym (closing_some text (drop is.0 text) place is.1.0 is.1.1.split)
