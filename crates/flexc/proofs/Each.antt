-- Lists that are made for each number in turn.
use Rattle.std.proofs.Common.{◌≡◌, ℕ, zero, suc, ◌+◌, ◌<◌, List, [], ◌∷◌, ◌++◌, length, take, get_or, ap, sym, ◌∙◌, arith, append_assoc}
use Rattle.std.proofs.lemmas.List.{append-nil}
use Rattle.flex_front.specs.declared.document.Element.{Element}
use Rattle.flexc.specs.Emitted.{each_from, each_element}

-- one number more
pub each_from-more : {A : Type 0} (f : ℕ → List A) (k n : ℕ) → each_from f k (suc n) ≡ each_from f k n ++ f (k + n)
each_from-more f k zero = let e : k ≡ k + 0 = omega arith in append-nil (f k) ∙ ap f e
each_from-more f k (suc n) =
    let e : suc k + n ≡ k + suc n = omega arith in
    ap (λ l. f k ++ l) (each_from-more f (suc k) n) ∙ sym (append_assoc (f k) (each_from f (suc k) n) (f (suc k + n))) ∙ ap (λ i. (f k ++ each_from f (suc k) n) ++ f i) e

-- the same behind what was there before
pub each_from-onto : {A : Type 0} (f : ℕ → List A) (before : List A) (n : ℕ) → (before ++ each_from f 0 n) ++ f n ≡ before ++ each_from f 0 (n + 1)
each_from-onto f before n =
    let e : 0 + n ≡ n = omega arith in
    let g : suc n ≡ n + 1 = omega arith in
    append_assoc before (each_from f 0 n) (f n) ∙ ap (λ l. before ++ l) (ap (λ i. each_from f 0 n ++ f i) (sym e) ∙ sym (each_from-more f 0 n)) ∙ ap (λ i. before ++ each_from f 0 i) g

pub ruleset numbers = (each_from-onto)

-- one element more
each_element-more : {A : Type 0} (f : ℕ → Element → List A) (es : List Element) (k n : ℕ) (d : Element) → n < length es
    → each_element f k (take (suc n) es) ≡ each_element f k (take n es) ++ f (k + n) (get_or es n d)
each_element-more f [] k n d lt = absurd (omega arith)
each_element-more f (e ∷ es) k zero d lt = let z : k ≡ k + 0 = omega arith in append-nil (f k e) ∙ ap (λ i. f i e) z
each_element-more f (e ∷ es) k (suc n) d lt =
    let s : suc k + n ≡ k + suc n = omega arith in
    ap (λ l. f k e ++ l) (each_element-more f es (suc k) n d (omega arith))
    ∙ sym (append_assoc (f k e) (each_element f (suc k) (take n es)) (f (suc k + n) (get_or es n d)))
    ∙ ap (λ i. (f k e ++ each_element f (suc k) (take n es)) ++ f i (get_or es n d)) s

-- the same behind what was there before
pub each_element-onto : {A : Type 0} (f : ℕ → Element → List A) (before : List A) (es : List Element) (n : ℕ) (e : Element) → n < length es → e ≡ get_or es n e
    → (before ++ each_element f 0 (take n es)) ++ f n e ≡ before ++ each_element f 0 (take (n + 1) es)
each_element-onto f before es n e lt is =
    let z : n ≡ 0 + n = omega arith in
    let g : suc n ≡ n + 1 = omega arith in
    append_assoc before (each_element f 0 (take n es)) (f n e)
    ∙ ap (λ l. before ++ l) (ap (λ x. each_element f 0 (take n es) ++ f n x) is ∙ ap (λ i. each_element f 0 (take n es) ++ f i (get_or es n e)) z ∙ sym (each_element-more f es 0 n e lt))
    ∙ ap (λ i. before ++ each_element f 0 (take i es)) g
