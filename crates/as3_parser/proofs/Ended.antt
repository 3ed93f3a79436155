-- Whether a handler lacks its last `;`, by comparisons.
use Rattle.std.proofs.Common.{◌≡◌, ℕ, ◌-◌, List, [], ◌∷◌, length, slice_get, arith, Some, None, Option, Bool, true, false, not, ◌&&◌, nat_eq, eqb, eqb-true, sym, ap, subst, ◌∙◌, refl}
use Rattle.std.specs.List.{last_or}
use Rattle.std.proofs.lemmas.Bool.{eq-eqb}
use Rattle.as3_lexer.specs.declared.mark.Mark.TheVariants as mark
use Rattle.as3_parser.specs.Kinds.{mark_number}
use Rattle.as3_parser.specs.Syntax.{lacks_semicolon}

-- the last token is no `;`
pub lacks_then : (k a b : ℕ) (o : Option ℕ) → o ≡ Some k → a ≡ mark_number mark.Semicolon → b ≡ mark_number mark.RightBrace → (k ≡ a → ⊥) → not (nat_eq k b) ≡ lacks_semicolon o
lacks_then k a b o last ea eb ne = subst (λ y. not (nat_eq k b) ≡ lacks_semicolon y) (sym last) (go (eqb k (mark_number mark.Semicolon)) refl) where
  go : (t : Bool) → eqb k (mark_number mark.Semicolon) ≡ t → not (nat_eq k b) ≡ (not t && not (eqb k (mark_number mark.RightBrace)))
  go true e = absurd (ne (eqb-true k (mark_number mark.Semicolon) e ∙ sym ea))
  go false e = ap (λ y. not (nat_eq k y)) eb

-- it is one
pub lacks_else : (k a : ℕ) (o : Option ℕ) → o ≡ Some k → a ≡ mark_number mark.Semicolon → k ≡ a → not (nat_eq k a) ≡ lacks_semicolon o
lacks_else k a o last ea same = subst (λ y. not (nat_eq k a) ≡ lacks_semicolon y) (sym last) (go (nat_eq k a) (eqb k (mark_number mark.Semicolon)) (eq-eqb k a same) (eq-eqb k (mark_number mark.Semicolon) (same ∙ ea))) where
  go : (t u : Bool) → t ≡ true → u ≡ true → not t ≡ (not u && not (eqb k (mark_number mark.RightBrace)))
  go true true p q = refl
  go true false p q = absurd (cc)
  go false u p q = absurd (cc)

last_from : (x : ℕ) (xs : List ℕ) → last_or (Some x) xs ≡ slice_get (x ∷ xs) (length xs)
last_from x [] = refl
last_from x (y ∷ ys) = last_from y ys

-- the last item is the one before the end
pub last_is : (xs : List ℕ) (k : ℕ) → slice_get xs (length xs - 1) ≡ Some k → last_or None xs ≡ Some k
last_is [] k h = absurd (cc)
last_is (x ∷ xs) k h = let e : length xs ≡ length (x ∷ xs) - 1 = omega arith in last_from x xs ∙ ap (λ n. slice_get (x ∷ xs) n) e ∙ h
