-- The right sides as they stand in the code.
use Rattle.std.proofs.Common.{◌≡◌, ℕ, zero, suc, ◌+◌, ◌-◌, ◌*◌, ◌<◌, ◌≤◌, Bool, true, false, IsTrue, List, [], ◌∷◌, ◌++◌, length, get_or, Option, Some, None, refl, sym, ap, subst, subst₂, ap₂, ◌∙◌, arith, eqb, eqb-true, ltb, ltb-true, ltb-false, ◌&&◌, ◌⊎◌, inl, inr, eq-or-lt_of_le, le_of_suc-le-suc}
use Rattle.as3_parser.specs.Grammar.{Symbol, Token, Part, Close, nth}
use Rattle.as3_parser.specs.Table.{Side, among, pick_from, entry, pick, symbols_of}
use Rattle.as3_parser.specs.Cells.{small, row_code, base, all_sides}
use Rattle.as3_parser.specs.Here.{table, symbol_of, symbols, RowOf, Took, Refused, row_symbols, side_symbols, the_cells, the_width, the_bytes, the_ends, gathered, row_list, Gathered}
use Rattle.as3_parser.proofs.Tables.{both}
use Rattle.as3_parser.proofs.Cells.{cell_at, side_at, none_past, none_wide}

pub row_is : (p n l r : ℕ) → r ≡ get_or the_cells (p * the_width + l) 0 → p ≡ n → p < length table → l < the_width → RowOf n l r
unfolding the_cells
row_is p n l r is same lt lw =
    let none : 0 + base table p ≡ base table p = omega arith in
    subst (λ y. RowOf y l r) same (record { is = is ∙ cell_at the_width table 0 p l (p * the_width + l) lt lw refl ∙ ap (λ y. row_code y (pick table p l)) none })

pub symbols_both : (a b : List ℕ) → symbols (a ++ b) ≡ symbols a ++ symbols b
unfolding symbols
symbols_both [] b = refl
symbols_both (x ∷ a) b = ap (λ y. symbol_of x ∷ y) (symbols_both a b)

pub gathers : (from to at : ℕ) (old new more : List ℕ) (b : ℕ) → Gathered from to at old new → at < to → b ≡ get_or the_bytes at 0 → more ≡ b ∷ new → Gathered from to (at + 1) old more
unfolding gathered
gathers from to at old new more b g lt is more_is = record {
  count = suc g.count;
  sum = (let e = g.sum in omega arith);
  still = λ q. absurd (let e = g.sum in omega arith);
  is = more_is ∙ ap (λ y. y ∷ new) (is ∙ ap (λ y. get_or the_bytes y 0) g.sum) ∙ ap (λ y. get_or the_bytes (from + g.count) 0 ∷ y) g.is;
}

pub gathers_none : (from to : ℕ) (old : List ℕ) → Gathered from to from old old
unfolding gathered
gathers_none from to old = record { count = 0; sum = omega arith; still = λ q. refl; is = refl }

less_or : (a b : ℕ) → (a < b) ⊎ (b ≤ a)
less_or a b = go (ltb a b) refl where
  go : (t : Bool) → ltb a b ≡ t → (a < b) ⊎ (b ≤ a)
  go true h = inl (ltb-true a b h)
  go false h = inr (ltb-false a b h)

pub gathered_row : (r from to at : ℕ) (old new : List ℕ) → Gathered from to at old new → from ≡ get_or the_ends r 0 → to ≡ get_or the_ends (r + 1) 0 → to ≤ at → (from ≤ to → at ≤ to) → new ≡ row_list r ++ old
unfolding row_list
gathered_row r from to at old new g f t past within_to =
    let e = g.sum in
    let size : g.count ≡ to - from = (elim (less_or to from) [ inl q ↦ let s = g.still q in omega arith | inr q ↦ let s = within_to q in omega arith ]) in
    g.is ∙ ap (λ y. gathered from y ++ old) size ∙ subst₂ (λ u v. gathered from (to - from) ++ old ≡ gathered u (v - u) ++ old) f t refl

same : List Symbol → List Symbol → Bool
same [] [] = true
same (Token t ∷ a) (Token u ∷ b) = eqb t u && same a b
same (Part t ∷ a) (Part u ∷ b) = eqb t u && same a b
same (Close ∷ a) (Close ∷ b) = same a b
same _ _ = false

same_is : (a b : List Symbol) → IsTrue (same a b) → a ≡ b
unfolding same
same_is [] [] h = refl
same_is (Token t ∷ a) (Token u ∷ b) h = let p = both (eqb t u) (same a b) h in let e : t ≡ u = eqb-true t u p.0 in let f = same_is a b p.1 in ap₂ (λ y z. Token y ∷ z) e f
same_is (Part t ∷ a) (Part u ∷ b) h = let p = both (eqb t u) (same a b) h in let e : t ≡ u = eqb-true t u p.0 in let f = same_is a b p.1 in ap₂ (λ y z. Part y ∷ z) e f
same_is (Close ∷ a) (Close ∷ b) h = ap (λ y. Close ∷ y) (same_is a b h)
same_is _ _ h = absurd (cc)

below : (ℕ → Bool) → ℕ → Bool
below f zero = true
below f (suc n) = elim (f n) [ true ↦ below f n | false ↦ false ]

below_is : (f : ℕ → Bool) (n k : ℕ) → IsTrue (below f n) → k < n → IsTrue (f k)
unfolding below
below_is f zero k h lt = absurd (omega arith)
below_is f (suc n) k h lt = go (f n) refl h (eq-or-lt_of_le (le_of_suc-le-suc lt)) (λ h1 lt1. below_is f n k h1 lt1) where
  go : (b : Bool) → f n ≡ b → IsTrue (elim b [ true ↦ below f n | false ↦ false ]) → (k ≡ n) ⊎ (k < n) → (IsTrue (below f n) → k < n → IsTrue (f k)) → IsTrue (f k)
  go true p h (inl e) more = subst (λ y. IsTrue (f y)) (sym e) p
  go true p h (inr lt1) more = more h lt1
  go false p h o more = absurd (cc)

rows_test : IsTrue (below (λ k. same (symbols (row_list k)) (row_symbols k)) (length (all_sides table)))
unfolding below same symbols row_list row_symbols gathered the_bytes the_ends
rows_test = refl

pub pushed : (new old : List ℕ) (r : ℕ) → new ≡ row_list r ++ old → r < length (all_sides table) → symbols new ≡ row_symbols r ++ symbols old
pushed new old r is lt = ap (λ y. symbols y) is ∙ symbols_both (row_list r) old ∙ ap (λ y. y ++ symbols old) (same_is _ _ (below_is (λ k. same (symbols (row_list k)) (row_symbols k)) (length (all_sides table)) r rows_test lt))

record Picked (ss : List Side) (k i : ℕ) : Type 0 where
  side : Side
  number : ℕ
  sum : i ≡ k + number
  is : nth ss number ≡ Some side

pick_listed : (ss : List Side) (l k i : ℕ) → pick_from ss l k ≡ Some i → Picked ss k i
pick_listed [] l k i h = absurd (cc)
pick_listed (s ∷ ss) l k i h = go (among l s.on) h (λ q. pick_listed ss l (suc k) i q) where
  go : (b : Bool) → (elim b as (λ _. Option ℕ) [ true ↦ Some k | false ↦ pick_from ss l (suc k) ]) ≡ Some i → (pick_from ss l (suc k) ≡ Some i → Picked ss (suc k) i) → Picked (s ∷ ss) k i
  go true h more = record { side = s; number = 0; sum = (let e : k ≡ i = cc in omega arith); is = refl }
  go false h more = let m = more h in record { side = m.side; number = suc m.number; sum = (let e = m.sum in omega arith); is = m.is }

nth_inside : (ss : List Side) (k : ℕ) (s : Side) → nth ss k ≡ Some s → k < length ss
nth_inside [] k s h = absurd (cc)
nth_inside (t ∷ ss) zero s h = omega arith
nth_inside (t ∷ ss) (suc k) s h = let e = nth_inside ss k s h in omega arith

-- a right side that was picked
pub record Chosen (n i : ℕ) : Type 0 where
  pub side : Side
  pub is : nth (entry table n).sides i ≡ Some side
  pub at : nth (all_sides table) (base table n + i) ≡ Some side
  pub inside : base table n + i < length (all_sides table)

pub chosen : (n l i : ℕ) → pick table n l ≡ Some i → Chosen n i
chosen n l i h =
    let q = pick_listed (entry table n).sides l 0 i h in
    let same : q.number ≡ i = (let e = q.sum in omega arith) in
    let is : nth (entry table n).sides i ≡ Some q.side = subst (λ y. nth (entry table n).sides y ≡ Some q.side) same q.is in
    let at = side_at table n i (base table n + i) q.side is refl in
    record { side = q.side; is = is; at = at; inside = nth_inside (all_sides table) (base table n + i) q.side at }

-- which right side was taken
took_by : (n l r : ℕ) (old new : List ℕ) → RowOf n l r → (r ≡ 255 → ⊥) → symbols new ≡ row_symbols r ++ symbols old → Took n l old new
unfolding row_symbols
took_by n l r old new row some stack = go (pick table n l) refl row.is where
  go : (o : Option ℕ) → pick table n l ≡ o → r ≡ row_code (base table n) o → Took n l old new
  go None p q = absurd (some q)
  go (Some i) p q =
      let c = chosen n l i p in
      let at : nth (all_sides table) r ≡ Some c.side = subst (λ y. nth (all_sides table) y ≡ Some c.side) (sym q) c.at in
      record { side = i; right = c.side.symbols; picks = p; is = ap (λ y. symbols_of y) c.is; stack = stack ∙ ap (λ y. side_symbols y ++ symbols old) at }

pub row_inside : (n l r : ℕ) → RowOf n l r → (r ≡ 255 → ⊥) → r < length (all_sides table)
row_inside n l r row some = go (pick table n l) refl row.is where
  go : (o : Option ℕ) → pick table n l ≡ o → r ≡ row_code (base table n) o → r < length (all_sides table)
  go None p q = absurd (some q)
  go (Some i) p q = let c = chosen n l i p in let e = c.inside in subst (λ y. y < length (all_sides table)) (sym q) e

few : length (all_sides table) ≤ 255
few = omega arith

pub refused : (n l r : ℕ) → RowOf n l r → r ≡ 255 → Refused n l
refused n l r row none = go (pick table n l) refl row.is where
  go : (o : Option ℕ) → pick table n l ≡ o → r ≡ row_code (base table n) o → Refused n l
  go None p q = record { is = p }
  go (Some i) p q = absurd (let c = chosen n l i p in let e = c.inside in let f = few in omega (arith, q, none))

pub took : (n l r : ℕ) (old new : List ℕ) → RowOf n l r → (r ≡ 255 → ⊥) → new ≡ row_list r ++ old → Took n l old new
took n l r old new row some is = took_by n l r old new row some (pushed new old r is (row_inside n l r row some))

get_past : (xs : List ℕ) (k : ℕ) → length xs ≤ k → 0 ≡ get_or xs k 0
get_past [] k h = refl
get_past (x ∷ xs) zero h = absurd (omega arith)
get_past (x ∷ xs) (suc k) h = get_past xs k (omega arith)

pub bytes_past : (k : ℕ) → length the_bytes ≤ k → 0 ≡ get_or the_bytes k 0
bytes_past k h = get_past the_bytes k h

pub ends_past : (k : ℕ) → length the_ends ≤ k → 0 ≡ get_or the_ends k 0
ends_past k h = get_past the_ends k h

pub row_past : (p n l : ℕ) → p ≡ n → length table ≤ p → RowOf n l 255
row_past p n l same h = record { is = ap (λ y. row_code (base table n) y) (sym (none_past table n l (subst (λ y. length table ≤ y) same h))) }

small_table : IsTrue (small the_width table)
small_table = refl

pub row_wide : (n l : ℕ) → the_width ≤ l → RowOf n l 255
row_wide n l h = record { is = ap (λ y. row_code (base table n) y) (sym (none_wide the_width table n l small_table h)) }
