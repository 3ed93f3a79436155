-- A prediction table is right.
use Rattle.std.proofs.Common.{◌≡◌, ◌⊎◌, ℕ, suc, ◌<◌, ◌≤◌, List, [], ◌∷◌, ◌++◌, length, take, Option, Some, None, option_map, refl, sym, ap, subst, inl, inr, ◌∙◌, arith}
use Rattle.as3_parser.specs.Grammar.{Symbol, Token, Part, Close, Rules, Reads, rests, reads, takes, passes}
use Rattle.as3_parser.specs.Exact.{Exact, right, wrong}
use Rattle.as3_parser.specs.Predicts.{next, Sets, Can, Nulls, Followed, Lacks, Dangling, Predicts}
use Rattle.as3_parser.specs.Stands.{Fits, Clear}
use Rattle.as3_parser.proofs.Steps.{Goes, swapped}

module _ (c : Sets) where
  pub can_append : (a s : List Symbol) (l : ℕ) (B : Type 0) → Can c (a ++ s) l B → Can c a l (Can c s l B)
  can_append [] s l B h = h
  can_append (Token t ∷ a) s l B h = h
  can_append (Close ∷ a) s l B h = can_append a s l B h
  can_append (Part n ∷ a) s l B (inl h) = inl h
  can_append (Part n ∷ a) s l B (inr h) = inr (h.0, can_append a s l B h.1)

  pub can_more : (a : List Symbol) (l : ℕ) (B C : Type 0) → (B → C) → Can c a l B → Can c a l C
  can_more [] l B C f h = f h
  can_more (Token t ∷ a) l B C f h = h
  can_more (Close ∷ a) l B C f h = can_more a l B C f h
  can_more (Part n ∷ a) l B C f (inl h) = inl h
  can_more (Part n ∷ a) l B C f (inr h) = inr (h.0, can_more a l B C f h.1)

  can_split : (a : List Symbol) (l : ℕ) (B : Type 0) → Can c a l B → Can c a l ⊥ ⊎ (Nulls c a × B)
  can_split [] l B h = inr (tt, h)
  can_split (Token t ∷ a) l B h = inl h
  can_split (Close ∷ a) l B h = can_split a l B h
  can_split (Part n ∷ a) l B (inl h) = inl (inl h)
  can_split (Part n ∷ a) l B (inr h) =
      elim (can_split a l B h.1) [ inl q ↦ inl (inr (h.0, q)) | inr q ↦ inr ((h.0, q.0), q.1) ]

pub lacks_clear : (x : ℕ) (s : List Symbol) → Lacks x s → Clear x s
lacks_clear x [] h = tt
lacks_clear x (Token t ∷ s) h = h.1
lacks_clear x (Part t ∷ s) h = h
lacks_clear x (Close ∷ s) h = h

lacks_both : (x : ℕ) (a s : List Symbol) → Lacks x a → Lacks x s → Lacks x (a ++ s)
lacks_both x [] s f h = h
lacks_both x (Token t ∷ a) s f h = (f.0, lacks_both x a s f.1 h)
lacks_both x (Close ∷ a) s f h = lacks_both x a s f h
lacks_both x (Part t ∷ a) s f h = lacks_both x a s f h

module _ (g : Rules) (start : ℕ) (pick : ℕ → ℕ → Option ℕ) (c : Sets) (x : Dangling) (p : Predicts g start pick c x) where
  pub fits_on : (F : ℕ → Type 0) (a s : List Symbol) → ((l : ℕ) → Can c s l (l ≡ 0) → F l) → Followed c F a → Fits c s → Fits c (a ++ s)
  fits_on F [] s f h k = k
  fits_on F (Token t ∷ a) s f h k = fits_on F a s f h k
  fits_on F (Close ∷ a) s f h k = fits_on F a s f h k
  fits_on F (Part m ∷ a) s f h k =
      (λ l q. h.0 l (can_more c a l (Can c s l (l ≡ 0)) (F l) (f l) (can_append c a s l (l ≡ 0) q)), fits_on F a s f h.1 k)

  -- what steps begin with is what their first symbols may go on with
  pub can_begin : {s e : List Symbol} {w : List ℕ} → Reads g s w e → (w ≡ [] → e ≡ []) → Can c s (next w) (next w ≡ 0)
  can_begin (rests {s = s}) h = let none : s ≡ [] = h refl in subst (λ y. Can c y 0 (next [] ≡ 0)) (sym none) refl
  can_begin (reads d) h = refl
  can_begin (passes d) h = can_begin d h
  can_begin (takes {n = n} {s = s} {w = w} i r is d) h =
      elim (can_split c r (next w) _ (can_append c r s (next w) (next w ≡ 0) (can_begin d h))) [
        | inl q ↦ inl (p.first n i r is (next w) q)
        | inr q ↦ inr (p.null n i r is q.0, q.1)
      ]

  -- what is read after a token
  pub reads_token : {z e : List Symbol} {w : List ℕ} → Reads g z w e → (t : ℕ) (s : List Symbol) (v : List ℕ) → z ≡ Token t ∷ s → w ≡ t ∷ v → Reads g s v e
  reads_token rests t s v a b = absurd (cc)
  reads_token (reads {e = e} {w = w} d) t s v a b =
      let tails : w ≡ v = cc in
      subst (λ y. Reads g s y e) tails (subst (λ y. Reads g y w e) (cc) d)
  reads_token (takes i r is d) t s v a b = absurd (cc)
  reads_token (passes d) t s v a b = absurd (cc)

  -- where the dangling token is read next
  record Found (s : List Symbol) (w : List ℕ) (e : List Symbol) : Type 0 where
    behind : List Symbol
    silent : Reads g s [] behind
    steps : Reads g (x.rest ++ behind) w e

  found_by : {s e : List Symbol} {w : List ℕ} → (i : ℕ) → g x.part i ≡ Some [] → Reads g s w e → (v : List ℕ) → w ≡ x.token ∷ v → Lacks x.token s → Found s v e
  found_by i empty rests v is h = absurd (cc)
  found_by i empty (reads d) v is h = absurd (h.0 (cc))
  found_by i empty (passes d) v is h = let f = found_by i empty d v is h in record { behind = f.behind; silent = passes f.silent; steps = f.steps }
  found_by {e = e} i empty (takes {n = n} {s = s} {w = w} k r rule d) v is h =
      elim (p.others_lack n k r rule) [
        | inl q ↦
            let full : g x.part x.full ≡ Some (Token x.token ∷ x.rest) = p.full_is in
            let same : g n k ≡ g x.part x.full = subst (λ y. g n k ≡ g y x.full) q.0 (ap (λ y. g n y) q.1) in
            let it : r ≡ Token x.token ∷ x.rest = cc in
            let silent : g n i ≡ Some [] = subst (λ y. g y i ≡ Some []) (sym q.0) empty in
            record { behind = s; silent = takes i [] silent rests; steps = reads_token d x.token (x.rest ++ s) v (ap (λ y. y ++ s) it) is }
        | inr q ↦ let f = found_by i empty d v is (lacks_both x.token r s q h) in record { behind = f.behind; silent = takes k r rule f.silent; steps = f.steps }
      ]

  next_is : (w : List ℕ) (t : ℕ) → next w ≡ suc t → (v : List ℕ) × (w ≡ t ∷ v)
  next_is [] t h = absurd (omega arith)
  next_is (u ∷ w) t h = (w, (let e : u ≡ t = omega arith in ap (λ y. y ∷ w) e))

  -- nothing is lost by the right side that is picked
  pub picked : {w : List ℕ} {e : List Symbol} (n : ℕ) (s : List Symbol) (j : ℕ) (r : List Symbol) → Fits c (Part n ∷ s) → Lacks x.token s → pick n (next w) ≡ Some j → g n j ≡ Some r → (w ≡ [] → e ≡ []) → Reads g (Part n ∷ s) w e → Goes g (r ++ s) w e
  picked n s j r fits lacks pick_is rule h rests = absurd (let e : Part n ∷ s ≡ [] = h refl in (cc))
  picked {w = w} {e = e} n s j r fits lacks pick_is rule h (takes i r1 rule1 d) =
      elim (p.chosen n i r1 rule1 (next w) (can_more c r1 (next w) _ _ (λ q. fits.0 (next w) q) (can_append c r1 s (next w) (next w ≡ 0) (can_begin d h)))) [
        | inl q ↦
            let same : i ≡ j = cc in
            let rule2 : g n j ≡ Some r1 = subst (λ y. g n y ≡ Some r1) same rule1 in
            let it : r1 ≡ r = cc in
            record { left = e; steps = subst (λ y. Reads g (y ++ s) w e) it d; ends = λ y. y }
        | inr q ↦
            let full : g x.part x.full ≡ Some (Token x.token ∷ x.rest) = p.full_is in
            let at : pick x.part (suc x.token) ≡ Some x.full = p.full_picked in
            let o = next_is w x.token q.1 in
            let part : pick n (next w) ≡ pick x.part (suc x.token) = subst (λ y. pick n (next w) ≡ pick y (suc x.token)) q.0 (ap (λ y. pick n y) q.1) in
            let number : j ≡ x.full = cc in
            let same : g n j ≡ g x.part x.full = subst (λ y. g n j ≡ g y x.full) q.0 (ap (λ y. g n y) number) in
            let it : Token x.token ∷ x.rest ≡ r = cc in
            let none : g x.part i ≡ Some [] = subst (λ y. g y i ≡ Some []) q.0 (rule1 ∙ ap (λ y. Some y) q.2) in
            let f = found_by i none (subst (λ y. Reads g (y ++ s) w e) q.2 d) o.0 o.1 lacks in
            let z = swapped g f.steps x.rest s f.behind refl f.silent in
            let whole : Reads g (r ++ s) w z.left = subst (λ y. Reads g (y ++ s) w z.left) it (subst (λ y. Reads g (Token x.token ∷ (x.rest ++ s)) y z.left) (sym o.1) (reads z.steps)) in
            record { left = z.left; steps = whole; ends = z.ends }
      ]

  -- where nothing is picked, nothing goes on
  pub none_picked : {w : List ℕ} {e : List Symbol} (n : ℕ) (s : List Symbol) → Fits c (Part n ∷ s) → pick n (next w) ≡ None → (w ≡ [] → e ≡ []) → Reads g (Part n ∷ s) w e → ⊥
  none_picked n s fits none h rests = absurd (let e : Part n ∷ s ≡ [] = h refl in (cc))
  none_picked {w = w} {e = e} n s fits none h (takes i r1 rule1 d) =
      elim (p.chosen n i r1 rule1 (next w) (can_more c r1 (next w) _ _ (λ q. fits.0 (next w) q) (can_append c r1 s (next w) (next w ≡ 0) (can_begin d h)))) [
        | inl q ↦ absurd (cc)
        | inr q ↦
            let at : pick x.part (suc x.token) ≡ Some x.full = p.full_picked in
            let part : pick n (next w) ≡ pick x.part (suc x.token) = subst (λ y. pick n (next w) ≡ pick y (suc x.token)) q.0 (ap (λ y. pick n y) q.1) in
            absurd (cc)
      ]

  pub next_take : (w : List ℕ) (k : ℕ) → k < length w → next (take (suc k) w) ≡ next w
  next_take [] k h = absurd (omega arith)
  next_take (u ∷ w) k h = refl

  some_take : (w : List ℕ) (k : ℕ) (B : Type 0) → k < length w → take (suc k) w ≡ [] → B
  some_take [] k B h is = absurd (omega arith)
  some_take (u ∷ w) k B h is = absurd (cc)

  act_reads : (s : List Symbol) (w : List ℕ) (e : List Symbol) → (w ≡ [] → e ≡ []) → Reads g (Close ∷ s) w e → Reads g s w e
  act_reads s w e h rests = absurd (let q : Close ∷ s ≡ [] = h refl in (cc))
  act_reads s w e h (passes d) = d

  pub exact_act : (s : List Symbol) (w : List ℕ) (a : Option ℕ) → Exact g s w a → Exact g (Close ∷ s) w a
  exact_act s w a (right d) = right (passes d)
  exact_act s w a (wrong k f) =
      wrong k (record {
        within = f.within;
        good = let q = f.good in record { left = q.left; steps = passes q.steps };
        bad = λ h q. f.bad h (record { left = q.left; steps = act_reads s (take (suc k) w) q.left (some_take w k (q.left ≡ []) h) q.steps });
        none = λ q. f.none (act_reads s w [] (λ z. refl) q);
      })

  -- the answers of the loop, from the last step to the first
  pub exact_extra : (u : ℕ) (w : List ℕ) → Exact g [] (u ∷ w) (Some 0)
  exact_extra u w = wrong 0 (record { within = omega arith; good = record { left = []; steps = rests }; bad = λ h b. not_more u [] b.left b.steps; none = λ b. not_more u w [] b }) where
    not_more : (u : ℕ) (w : List ℕ) (e : List Symbol) → Reads g [] (u ∷ w) e → ⊥
    not_more u w e d = elim d [ ]

  pub exact_token : (t u : ℕ) (s : List Symbol) (w : List ℕ) → (t ≡ u → ⊥) → Exact g (Token t ∷ s) (u ∷ w) (Some 0)
  exact_token t u s w h = wrong 0 (record { within = omega arith; good = record { left = Token t ∷ s; steps = rests }; bad = λ q b. other t u s [] b.left h b.steps; none = λ b. other t u s w [] h b }) where
    other : (t u : ℕ) (s : List Symbol) (w : List ℕ) (e : List Symbol) → (t ≡ u → ⊥) → Reads g (Token t ∷ s) (u ∷ w) e → ⊥
    other t u s w e h (reads d) = h refl

  pub exact_short : (t : ℕ) (s : List Symbol) → Exact g (Token t ∷ s) [] (Some 0)
  exact_short t s = wrong 0 (record { within = omega arith; good = record { left = Token t ∷ s; steps = rests }; bad = λ q b. absurd (omega (arith, q)); none = λ b. short t s b }) where
    short : (t : ℕ) (s : List Symbol) → Reads g (Token t ∷ s) [] [] → ⊥
    short t s d = elim d [ ]

  pub exact_read : (t : ℕ) (s : List Symbol) (w : List ℕ) (a : Option ℕ) → Exact g s w a → Exact g (Token t ∷ s) (t ∷ w) (option_map (λ k. suc k) a)
  exact_read t s w a (right d) = right (reads d)
  exact_read t s w a (wrong k f) =
      wrong (suc k) (record {
        within = let le : k ≤ length w = f.within in omega arith;
        good = let b = f.good in record { left = b.left; steps = reads b.steps };
        bad = λ h b. f.bad (omega arith) (record { left = b.left; steps = reads_token b.steps t s (take (suc k) w) refl refl });
        none = λ b. f.none (reads_token b t s w refl refl);
      })

  -- the first token that is read is enough for the choice
  pub exact_use : (n : ℕ) (s : List Symbol) (j : ℕ) (r : List Symbol) (w : List ℕ) (a : Option ℕ) → Fits c (Part n ∷ s) → Lacks x.token s → pick n (next w) ≡ Some j → g n j ≡ Some r → Exact g (r ++ s) w a → Exact g (Part n ∷ s) w a
  exact_use n s j r w a fits lacks is rule (right d) = right (takes j r rule d)
  exact_use n s j r w a fits lacks is rule (wrong k f) =
      wrong k (record {
        within = f.within;
        good = let b = f.good in record { left = b.left; steps = takes j r rule b.steps };
        bad = λ h b. f.bad h (let z = picked n s j r fits lacks (ap (λ y. pick n y) (next_take w k h) ∙ is) rule (some_take w k _ h) b.steps in record { left = z.left; steps = z.steps });
        none = λ b. f.none (let z = picked n s j r fits lacks is rule (λ q. refl) b in subst (λ y. Reads g (r ++ s) w y) (z.ends refl) z.steps);
      })

  pub exact_none : (n : ℕ) (s : List Symbol) (w : List ℕ) → Fits c (Part n ∷ s) → Lacks x.token s → pick n (next w) ≡ None → Exact g (Part n ∷ s) w (Some 0)
  exact_none n s w fits lacks is = wrong 0 (record { within = omega arith; good = record { left = Part n ∷ s; steps = rests }; bad = λ q b. none_picked n s fits (ap (λ y. pick n y) (next_take w 0 q) ∙ is) (some_take w 0 _ q) b.steps; none = λ b. none_picked n s fits is (λ q. refl) b })

  pub clear_use : (n j : ℕ) (s r : List Symbol) → g n j ≡ Some r → Lacks x.token s → Clear x.token (r ++ s)
  clear_use n j s r rule h =
      elim (p.others_lack n j r rule) [
        | inl q ↦
            let full : g x.part x.full ≡ Some (Token x.token ∷ x.rest) = p.full_is in
            let same : g n j ≡ g x.part x.full = subst (λ y. g n j ≡ g y x.full) q.0 (ap (λ y. g n y) q.1) in
            let it : Token x.token ∷ x.rest ≡ r = cc in
            subst (λ y. Clear x.token (y ++ s)) it (lacks_both x.token x.rest s p.rest_lacks h)
        | inr q ↦ lacks_clear x.token (r ++ s) (lacks_both x.token r s q h)
      ]
