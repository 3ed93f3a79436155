-- The table in the code is the table.
use Rattle.std.proofs.Common.{◌≡◌, ℕ, zero, suc, ◌+◌, ◌*◌, ◌<◌, ◌≤◌, Bool, true, false, IsTrue, List, [], ◌∷◌, ◌++◌, length, get_or, Option, Some, None, refl, ap, subst, ◌∙◌, arith, ltb, ltb-true}
use Rattle.as3_parser.specs.Grammar.{nth}
use Rattle.as3_parser.specs.Table.{Side, Entry, no_entry, entry, among, pick_from, pick, all}
use Rattle.as3_parser.proofs.Tables.{all_is}
use Rattle.as3_parser.specs.Cells.{small, row_code, row_cells, cells, base, all_sides}

length_cells : (ss : List Side) (b k l : ℕ) → length (row_cells ss b k l) ≡ k
length_cells ss b zero l = refl
length_cells ss b (suc k) l = ap (λ y. suc y) (length_cells ss b k (suc l))

row_at : (ss : List Side) (b k l j m : ℕ) → j < k → m ≡ l + j → get_or (row_cells ss b k l) j 0 ≡ row_code b (pick_from ss m 0)
row_at ss b zero l j m lt is = absurd (omega arith)
row_at ss b (suc k) l zero m lt is = let e : l ≡ m = omega arith in ap (λ y. row_code b (pick_from ss y 0)) e
row_at ss b (suc k) l (suc j) m lt is = row_at ss b k (suc l) j m (omega arith) (omega arith)

get_left : (xs ys : List ℕ) (j : ℕ) → j < length xs → get_or (xs ++ ys) j 0 ≡ get_or xs j 0
get_left [] ys j lt = absurd (omega arith)
get_left (x ∷ xs) ys zero lt = refl
get_left (x ∷ xs) ys (suc j) lt = get_left xs ys j (omega arith)

get_right : (xs ys : List ℕ) (j k : ℕ) → k ≡ length xs + j → get_or (xs ++ ys) k 0 ≡ get_or ys j 0
get_right [] ys j k is = let e : k ≡ j = omega arith in ap (λ y. get_or ys y 0) e
get_right (x ∷ xs) ys j zero is = absurd (omega arith)
get_right (x ∷ xs) ys j (suc k) is = get_right xs ys j k (omega arith)

pub cell_at : (w : ℕ) (es : List Entry) (b n l k : ℕ) → n < length es → l < w → k ≡ n * w + l → get_or (cells w es b) k 0 ≡ row_code (b + base es n) (pick es n l)
cell_at w [] b n l k lt lw is = absurd (omega arith)
cell_at w (e ∷ es) b zero l k lt lw is =
    let size = length_cells e.sides b w 0 in
    let same : k ≡ l = omega arith in
    let inside : l < length (row_cells e.sides b w 0) = omega arith in
    let zero_more : b ≡ b + 0 = omega arith in
    ap (λ y. get_or (row_cells e.sides b w 0 ++ cells w es (b + length e.sides)) y 0) same
    ∙ get_left (row_cells e.sides b w 0) (cells w es (b + length e.sides)) l inside
    ∙ row_at e.sides b w 0 l l lw (omega arith)
    ∙ ap (λ y. row_code y (pick_from e.sides l 0)) zero_more
cell_at w (e ∷ es) b (suc n) l k lt lw is =
    let size = length_cells e.sides b w 0 in
    let more : suc n * w ≡ w + n * w = omega arith in
    let past : k ≡ length (row_cells e.sides b w 0) + (n * w + l) = omega arith in
    let sum : (b + length e.sides) + base es n ≡ b + (length e.sides + base es n) = omega arith in
    get_right (row_cells e.sides b w 0) (cells w es (b + length e.sides)) (n * w + l) k past
    ∙ cell_at w es (b + length e.sides) n l (n * w + l) (omega arith) lw refl
    ∙ ap (λ y. row_code y (pick es n l)) sum

nth_left : {A : Type 0} (xs ys : List A) (i : ℕ) (s : A) → nth xs i ≡ Some s → nth (xs ++ ys) i ≡ Some s
nth_left [] ys i s h = absurd (cc)
nth_left (x ∷ xs) ys zero s h = h
nth_left (x ∷ xs) ys (suc i) s h = nth_left xs ys i s h

nth_right : {A : Type 0} (xs ys : List A) (i k : ℕ) → k ≡ length xs + i → nth (xs ++ ys) k ≡ nth ys i
nth_right [] ys i k h = let e : k ≡ i = omega arith in ap (λ y. nth ys y) e
nth_right (x ∷ xs) ys i zero h = absurd (omega arith)
nth_right (x ∷ xs) ys i (suc k) h = nth_right xs ys i k (omega arith)

pub side_at : (es : List Entry) (n i k : ℕ) (s : Side) → nth (entry es n).sides i ≡ Some s → k ≡ base es n + i → nth (all_sides es) k ≡ Some s
side_at [] n i k s h is = absurd (cc)
side_at (e ∷ es) zero i k s h is = let same : i ≡ k = omega arith in subst (λ y. nth (e.sides ++ all_sides es) y ≡ Some s) same (nth_left e.sides (all_sides es) i s h)
side_at (e ∷ es) (suc n) i k s h is = nth_right e.sides (all_sides es) (base es n + i) k (omega arith) ∙ side_at es n i (base es n + i) s h refl

no_side : (n : ℕ) (es : List Entry) → length es ≤ n → entry es n ≡ no_entry
no_side n [] h = refl
no_side zero (e ∷ es) h = absurd (omega arith)
no_side (suc n) (e ∷ es) h = no_side n es (omega arith)

pub none_past : (es : List Entry) (n l : ℕ) → length es ≤ n → pick es n l ≡ None
none_past es n l h = ap (λ y. pick_from y.sides l 0) (no_side n es h)

wide_side : (w : ℕ) (ss : List Side) → IsTrue (all (λ s. all (λ l. ltb l w) s.on) ss) → (l i : ℕ) → w ≤ l → pick_from ss l i ≡ None
wide_side w [] h l i le = refl
wide_side w (s ∷ ss) h l i le = go (all (λ l. ltb l w) s.on) (among l s.on) refl refl h (λ h1. wide_side w ss h1 l (suc i) le) where
  go : (a b : Bool) → all (λ l. ltb l w) s.on ≡ a → among l s.on ≡ b → IsTrue (elim a [ true ↦ all (λ s. all (λ l. ltb l w) s.on) ss | false ↦ false ]) → (IsTrue (all (λ s. all (λ l. ltb l w) s.on) ss) → pick_from ss l (suc i) ≡ None) → (elim b as (λ _. Option ℕ) [ true ↦ Some i | false ↦ pick_from ss l (suc i) ]) ≡ None
  go true true p q h more = absurd (let lt : l < w = ltb-true l w (all_is (λ l. ltb l w) s.on p l q) in omega arith)
  go true false p q h more = more h
  go false b p q h more = absurd (cc)

wide_entry : (w : ℕ) (es : List Entry) (n : ℕ) → IsTrue (small w es) → IsTrue (all (λ s. all (λ l. ltb l w) s.on) (entry es n).sides)
wide_entry w [] n h = refl
wide_entry w (e ∷ es) n h = go (all (λ s. all (λ l. ltb l w) s.on) e.sides) refl n h (λ k h1. wide_entry w es k h1) where
  go : (a : Bool) → all (λ s. all (λ l. ltb l w) s.on) e.sides ≡ a → (n : ℕ) → IsTrue (elim a [ true ↦ small w es | false ↦ false ]) → ((k : ℕ) → IsTrue (small w es) → IsTrue (all (λ s. all (λ l. ltb l w) s.on) (entry es k).sides)) → IsTrue (all (λ s. all (λ l. ltb l w) s.on) (entry (e ∷ es) n).sides)
  go true p zero h more = p
  go true p (suc n) h more = more n h
  go false p n h more = absurd (cc)

pub none_wide : (w : ℕ) (es : List Entry) (n l : ℕ) → IsTrue (small w es) → w ≤ l → pick es n l ≡ None
none_wide w es n l h le = wide_side w (entry es n).sides (wide_entry w es n h) l 0 le
