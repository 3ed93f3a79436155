-- A table that passes the test is right.
use Rattle.std.proofs.Common.{◌≡◌, ◌⊎◌, ℕ, zero, suc, ◌+◌, Bool, true, false, ◌&&◌, ◌||◌, not, IsTrue, eqb, ltb, List, [], ◌∷◌, ◌++◌, Option, Some, None, refl, sym, ap, subst, inl, inr, ◌∙◌, arith, eqb-true, eq-eqb}
use Rattle.as3_parser.specs.Grammar.{Symbol, Token, Part, Close, nth}
use Rattle.as3_parser.specs.Predicts.{Can, Nulls, Followed, Lacks, Dangling, Predicts}
use Rattle.as3_parser.specs.Table.{Side, Entry, entry, symbols_of, rules, among, pick_from, pick, sets, all, all_at, within, is_pick, is_empty, lacks, can, nulls, followed, heft, side_fine, fine}

pub both : (a b : Bool) → IsTrue (a && b) → IsTrue a × IsTrue b
both true b h = (refl, h)
both false b h = absurd (cc)

one_of : (a b : Bool) → IsTrue (a || b) → IsTrue a ⊎ IsTrue b
one_of true b h = inl refl
one_of false b h = inr h

pub implies : (a b : Bool) → IsTrue (not a || b) → IsTrue a → IsTrue b
implies true b h k = h
implies false b h k = absurd (cc)

not_true : (a : Bool) → IsTrue (not a) → a ≡ false
not_true true h = absurd (cc)
not_true false h = refl

pub all_is : (f : ℕ → Bool) (xs : List ℕ) → IsTrue (all f xs) → (l : ℕ) → IsTrue (among l xs) → IsTrue (f l)
all_is f [] h l k = absurd (cc)
all_is f (y ∷ ys) h l k = go (f y) (eqb l y) refl refl h k (λ h1 k1. all_is f ys h1 l k1) where
  go : (a b : Bool) → f y ≡ a → eqb l y ≡ b → IsTrue (elim a [ true ↦ all f ys | false ↦ false ]) → IsTrue (elim b [ true ↦ true | false ↦ among l ys ]) → (IsTrue (all f ys) → IsTrue (among l ys) → IsTrue (f l)) → IsTrue (f l)
  go true true p q h k more = let e : l ≡ y = eqb-true l y q in subst (λ z. IsTrue (f z)) (sym e) p
  go true false p q h k more = more h k
  go false b p q h k more = absurd (cc)

all_at_is : {A : Type 0} (f : ℕ → A → Bool) (i : ℕ) (xs : List A) → IsTrue (all_at f i xs) → (k j : ℕ) (y : A) → nth xs k ≡ Some y → j ≡ i + k → IsTrue (f j y)
all_at_is f i [] h k j y is at = absurd (cc)
all_at_is f i (z ∷ zs) h k j y is at = go (f i z) refl h k is at (λ h1 k1 is1 at1. all_at_is f (suc i) zs h1 k1 j y is1 at1) where
  go : (a : Bool) → f i z ≡ a → IsTrue (elim a [ true ↦ all_at f (suc i) zs | false ↦ false ]) → (k : ℕ) → nth (z ∷ zs) k ≡ Some y → j ≡ i + k → (IsTrue (all_at f (suc i) zs) → (k1 : ℕ) → nth zs k1 ≡ Some y → j ≡ suc i + k1 → IsTrue (f j y)) → IsTrue (f j y)
  go true p h zero is at more =
      let e : i ≡ j = omega arith in
      let same : z ≡ y = cc in
      subst (λ u. IsTrue (f u y)) e (subst (λ u. IsTrue (f i u)) same p)
  go true p h (suc k) is at more = more h k is (omega arith)
  go false p h k is at more = absurd (cc)

among_left : (l : ℕ) (xs ys : List ℕ) → IsTrue (among l xs) → IsTrue (among l (xs ++ ys))
among_left l [] ys h = absurd (cc)
among_left l (x ∷ xs) ys h = go (eqb l x) h (λ h1. among_left l xs ys h1) where
  go : (b : Bool) → IsTrue (elim b [ true ↦ true | false ↦ among l xs ]) → (IsTrue (among l xs) → IsTrue (among l (xs ++ ys))) → IsTrue (elim b [ true ↦ true | false ↦ among l (xs ++ ys) ])
  go true h more = refl
  go false h more = more h

among_right : (l : ℕ) (xs ys : List ℕ) → IsTrue (among l ys) → IsTrue (among l (xs ++ ys))
among_right l [] ys h = h
among_right l (x ∷ xs) ys h = go (eqb l x) (among_right l xs ys h) where
  go : (b : Bool) → IsTrue (among l (xs ++ ys)) → IsTrue (elim b [ true ↦ true | false ↦ among l (xs ++ ys) ])
  go true h = refl
  go false h = h

among_one : (l t : ℕ) → t ≡ l → IsTrue (among l (t ∷ []))
among_one l t h = go (eqb l t) (eq-eqb l t (sym h)) where
  go : (b : Bool) → b ≡ true → IsTrue (elim b [ true ↦ true | false ↦ false ])
  go true h = refl
  go false h = h

is_pick_is : (o : Option ℕ) (i : ℕ) → IsTrue (is_pick o i) → o ≡ Some i
is_pick_is None i h = absurd (cc)
is_pick_is (Some j) i h = ap (λ y. Some y) (eqb-true j i h)

is_empty_is : (s : List Symbol) → IsTrue (is_empty s) → s ≡ []
is_empty_is [] h = refl
is_empty_is (y ∷ s) h = absurd (cc)

pub lacks_is : (x : ℕ) (s : List Symbol) → IsTrue (lacks x s) → Lacks x s
lacks_is x [] h = tt
lacks_is x (Token t ∷ s) h =
    let p = both (not (eqb t x)) (lacks x s) h in
    (λ e. let no : eqb t x ≡ false = not_true (eqb t x) p.0 in let yes : eqb t x ≡ true = eq-eqb t x e in absurd (cc), lacks_is x s p.1)
lacks_is x (Close ∷ s) h = lacks_is x s h
lacks_is x (Part m ∷ s) h = lacks_is x s h

module _ (es : List Entry) where
  can_is : (r : List Symbol) (l : ℕ) (f : List ℕ) → Can (sets es) r l (IsTrue (among l f)) → IsTrue (among l (can es r f))
  can_is [] l f h = h
  can_is (Token t ∷ s) l f h = among_one l (suc t) h
  can_is (Close ∷ s) l f h = can_is s l f h
  can_is (Part m ∷ s) l f (inl h) = go ((entry es m).null) h where
    go : (b : Bool) → IsTrue (among l (entry es m).first) → IsTrue (among l (elim b [ true ↦ (entry es m).first ++ can es s f | false ↦ (entry es m).first ]))
    go true h = among_left l (entry es m).first (can es s f) h
    go false h = h
  can_is (Part m ∷ s) l f (inr h) = go ((entry es m).null) h.0 (can_is s l f h.1) where
    go : (b : Bool) → IsTrue b → IsTrue (among l (can es s f)) → IsTrue (among l (elim b [ true ↦ (entry es m).first ++ can es s f | false ↦ (entry es m).first ]))
    go true n h = among_right l (entry es m).first (can es s f) h
    go false n h = absurd (cc)

  -- nothing stands behind
  can_nothing : (r : List Symbol) (l : ℕ) → Can (sets es) r l ⊥ → Can (sets es) r l (IsTrue (among l []))
  can_nothing [] l h = absurd h
  can_nothing (Token t ∷ s) l h = h
  can_nothing (Close ∷ s) l h = can_nothing s l h
  can_nothing (Part m ∷ s) l (inl h) = inl h
  can_nothing (Part m ∷ s) l (inr h) = inr (h.0, can_nothing s l h.1)

  nulls_is : (r : List Symbol) → Nulls (sets es) r → IsTrue (nulls es r)
  nulls_is [] h = refl
  nulls_is (Token t ∷ s) h = absurd h
  nulls_is (Close ∷ s) h = nulls_is s h
  nulls_is (Part m ∷ s) h = let a = h.0 in let b = nulls_is s h.1 in go ((entry es m).null) (nulls es s) a b where
    go : (a b : Bool) → IsTrue a → IsTrue b → IsTrue (a && b)
    go true b h k = k
    go false b h k = h

  followed_is : (r : List Symbol) (f : List ℕ) → IsTrue (followed es r f) → Followed (sets es) (λ l. IsTrue (among l f)) r
  followed_is [] f h = tt
  followed_is (Token t ∷ s) f h = followed_is s f h
  followed_is (Close ∷ s) f h = followed_is s f h
  followed_is (Part m ∷ s) f h =
      let p = both (within (can es s f) (entry es m).follow) (followed es s f) h in
      (λ l q. all_is (λ l. among l (entry es m).follow) (can es s f) p.0 l (can_is s l f q), followed_is s f p.1)

pub side_listed : (o : Option Side) (r : List Symbol) → symbols_of o ≡ Some r → (s : Side) × (o ≡ Some s) × (s.symbols ≡ r)
side_listed None r h = absurd (cc)
side_listed (Some s) r h = (s, refl, (cc))

entry_listed : (es : List Entry) (n i : ℕ) (s : Side) → nth (entry es n).sides i ≡ Some s → nth es n ≡ Some (entry es n)
entry_listed [] n i s h = absurd (cc)
entry_listed (e ∷ es) zero i s h = refl
entry_listed (e ∷ es) (suc n) i s h = entry_listed es n i s h

-- what the test says of one right side
pub record Sound (es : List Entry) (x : Dangling) (n i : ℕ) (s : Side) : Type 0 where
  pub first : IsTrue (within (can es s.symbols []) (entry es n).first)
  pub null : IsTrue (not (nulls es s.symbols) || (entry es n).null)
  pub follow : IsTrue (followed es s.symbols (entry es n).follow)
  pub chosen : IsTrue (all (λ l. is_pick (pick_from (entry es n).sides l 0) i || (eqb n x.part && (eqb l (suc x.token) && is_empty s.symbols))) (can es s.symbols (entry es n).follow))
  pub lack : IsTrue ((eqb n x.part && eqb i x.full) || lacks x.token s.symbols)
  pub light : IsTrue (ltb (heft es s.symbols) (entry es n).weight)

pub sound : (es : List Entry) (x : Dangling) → IsTrue (fine es x) → (n i : ℕ) (s : Side) → nth (entry es n).sides i ≡ Some s → Sound es x n i s
sound es x h n i s is =
    let one = all_at_is (λ n e. all_at (λ i s. side_fine es x n e i s) 0 e.sides) 0 es h n n (entry es n) (entry_listed es n i s is) (omega arith) in
    let two = all_at_is (λ i s. side_fine es x n (entry es n) i s) 0 (entry es n).sides one i i s is (omega arith) in
    let a = both _ _ two in
    let b = both _ _ a.1 in
    let c = both _ _ b.1 in
    let d = both _ _ c.1 in
    let e = both _ _ d.1 in
    record { first = a.0; null = b.0; follow = c.0; chosen = d.0; lack = e.0; light = e.1 }

-- a table that passes the test predicts
pub predicts : (es : List Entry) (start : ℕ) (x : Dangling) → IsTrue (fine es x) → IsTrue (among 0 (entry es start).follow) → pick es x.part (suc x.token) ≡ Some x.full → rules es x.part x.full ≡ Some (Token x.token ∷ x.rest) → IsTrue (lacks x.token x.rest) → Predicts (rules es) start (pick es) (sets es) x
predicts es start x h at full full_is rest = record {
  first = λ n i r is l q. let z = side_listed (nth (entry es n).sides i) r is in let s = sound es x h n i z.0 z.1 in all_is (λ l. among l (entry es n).first) (can es z.0.symbols []) s.first l (can_is es z.0.symbols l [] (can_nothing es z.0.symbols l (subst (λ y. Can (sets es) y l ⊥) (sym z.2) q)));
  null = λ n i r is q. let z = side_listed (nth (entry es n).sides i) r is in let s = sound es x h n i z.0 z.1 in implies (nulls es z.0.symbols) ((entry es n).null) s.null (nulls_is es z.0.symbols (subst (λ y. Nulls (sets es) y) (sym z.2) q));
  follow = λ n i r is. let z = side_listed (nth (entry es n).sides i) r is in let s = sound es x h n i z.0 z.1 in subst (λ y. Followed (sets es) (λ l. IsTrue (among l (entry es n).follow)) y) z.2 (followed_is es z.0.symbols (entry es n).follow s.follow);
  start_follow = at;
  chosen = λ n i r is l q. let z = side_listed (nth (entry es n).sides i) r is in let s = sound es x h n i z.0 z.1 in
      let t = all_is (λ l. is_pick (pick_from (entry es n).sides l 0) i || (eqb n x.part && (eqb l (suc x.token) && is_empty z.0.symbols))) (can es z.0.symbols (entry es n).follow) s.chosen l (can_is es z.0.symbols l (entry es n).follow (subst (λ y. Can (sets es) y l (IsTrue (among l (entry es n).follow))) (sym z.2) q)) in
      elim (one_of _ _ t) [ inl u ↦ inl (is_pick_is _ i u) | inr u ↦ let v = both _ _ u in let w = both _ _ v.1 in inr (eqb-true n x.part v.0, eqb-true l (suc x.token) w.0, sym z.2 ∙ is_empty_is z.0.symbols w.1) ];
  full_picked = full;
  full_is = full_is;
  rest_lacks = lacks_is x.token x.rest rest;
  others_lack = λ n i r is. let z = side_listed (nth (entry es n).sides i) r is in let s = sound es x h n i z.0 z.1 in
      elim (one_of _ _ s.lack) [ inl u ↦ let v = both _ _ u in inl (eqb-true n x.part v.0, eqb-true i x.full v.1) | inr u ↦ inr (lacks_is x.token r (subst (λ y. IsTrue (lacks x.token y)) z.2 u)) ];
}
