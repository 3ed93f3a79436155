-- Each step of the loop keeps the answer.
use Rattle.std.proofs.Common.{◌≡◌, ℕ, zero, suc, ◌+◌, ◌<◌, ◌≤◌, List, [], ◌∷◌, ◌++◌, length, take, drop, Option, Some, None, refl, sym, ap, subst, ◌∙◌, arith}
use Rattle.as3_parser.specs.Grammar.{Symbol, Token, Part, Close, Rules}
use Rattle.as3_parser.specs.Exact.{FaultAt, Exact, wrong}
use Rattle.as3_parser.specs.Predicts.{next, Sets, Lacks, Dangling, Predicts}
use Rattle.as3_parser.specs.Levels.{level, Deep, last}
use Rattle.as3_parser.specs.Levels as levels
use Rattle.as3_parser.specs.Derives as derives
use Rattle.as3_parser.specs.Judged.{Outcome, Sentence, Syntax, TooDeep, Shallow, Judged, fine, syntax, deep, shift}
use Rattle.as3_parser.specs.Stands.{Fits, At}
use Rattle.as3_parser.proofs.Predict.{fits_on, lacks_clear, clear_use, next_take, exact_act, exact_read, exact_use, exact_none, exact_extra, exact_token, exact_short}
use Rattle.as3_parser.proofs.Levels.{deep_use, deep_back, deep_act, deep_last, deep_read, full_near}

module _ (g : Rules) (start : ℕ) (pick : ℕ → ℕ → Option ℕ) (c : Sets) (x : Dangling) (p : Predicts g start pick c x) (m : ℕ) where
  fault_of : {s : List Symbol} {w : List ℕ} {k : ℕ} → Exact g s w (Some k) → FaultAt g s w k
  fault_of (wrong k f) = f

  -- a part is replaced
  pub judge_use : (n : ℕ) (s : List Symbol) (j : ℕ) (r : List Symbol) (w : List ℕ) (a : Outcome) → Fits c (Part n ∷ s) → Lacks x.token s → pick n (next w) ≡ Some j → g n j ≡ Some r → Judged g x m (r ++ s) w a → Judged g x m (Part n ∷ s) w a
  judge_use n s j r w a fits lacks is rule (fine cs d h) =
      fine (j ∷ cs) (derives.takes j r rule (full_near g start pick c x p m n j r (next w) is rule) d)
      (λ i lt q. h i lt (deep_use g start pick c x p m n s j r fits (ap (λ y. pick n y) (next_take g start pick c x p w i lt) ∙ is) rule q))
  judge_use n s j r w a fits lacks is rule (syntax k f h) =
      syntax k (fault_of (exact_use g start pick c x p n s j r w (Some k) fits lacks is rule (wrong k f)))
      (λ i lt q. let le : k ≤ length w = f.within in h i lt (deep_use g start pick c x p m n s j r fits (ap (λ y. pick n y) (next_take g start pick c x p w i (omega arith)) ∙ is) rule q))
  judge_use n s j r w a fits lacks is rule (deep k f) =
      deep k (record {
        within = f.within;
        opens = deep_back g start pick c x p m n s j r (ap (λ y. pick n y) (next_take g start pick c x p w k f.within) ∙ is) rule f.opens;
        first = λ i lt q. let le : k < length w = f.within in f.first i lt (deep_use g start pick c x p m n s j r fits (ap (λ y. pick n y) (next_take g start pick c x p w i (omega arith)) ∙ is) rule q);
      })

  -- a mark is passed over
  pub judge_act : (s : List Symbol) (w : List ℕ) (a : Outcome) → Judged g x m s w a → Judged g x m (Close ∷ s) w a
  judge_act s w a (fine cs d h) = fine cs (derives.passes d) (λ i lt q. h i lt (deep_act g start pick c x p m s q))
  judge_act s w a (syntax k f h) = syntax k (fault_of (exact_act g start pick c x p s w (Some k) (wrong k f))) (λ i lt q. h i lt (deep_act g start pick c x p m s q))
  judge_act s w a (deep k f) = deep k (record { within = f.within; opens = levels.passes f.opens; first = λ i lt q. f.first i lt (deep_act g start pick c x p m s q) })

  -- a token is read where fewer than m levels are open
  not_before : (t : ℕ) (s : List Symbol) (w : List ℕ) (k : ℕ) → level s < m → k ≤ length w → Shallow g x m s w k → Shallow g x m (Token t ∷ s) (t ∷ w) (suc k)
  not_before t s w k low le h zero lt q = absurd (let e = deep_last g start pick c x p m t s q in omega arith)
  not_before t s [] k low le h (suc i) lt q = absurd (omega arith)
  not_before t s (u ∷ w) k low le h (suc i) lt q = h i (omega arith) (deep_read g start pick c x p m t u s (take i w) q)

  read_deep : (t : ℕ) (s : List Symbol) (w : List ℕ) (k : ℕ) → k < length w → Deep g x m s (take (suc k) w) → Deep g x m (Token t ∷ s) (t ∷ take (suc k) w)
  read_deep t s [] k lt d = absurd (omega arith)
  read_deep t s (u ∷ w) k lt d = levels.reads d

  pub judge_read : (t : ℕ) (s : List Symbol) (w : List ℕ) (a : Outcome) → level s < m → Judged g x m s w a → Judged g x m (Token t ∷ s) (t ∷ w) (shift 1 a)
  judge_read t s w a low (fine cs d h) = fine cs (derives.reads d) (not_before t s w (length w) low (omega arith) h)
  judge_read t s w a low (syntax k f h) =
      let e : suc k ≡ 1 + k = omega arith in
      subst (λ y. Judged g x m (Token t ∷ s) (t ∷ w) (Syntax y)) e
      (syntax (suc k) (fault_of (exact_read g start pick c x p t s w (Some k) (wrong k f))) (not_before t s w k low f.within h))
  judge_read t s w a low (deep k f) =
      let e : suc k ≡ 1 + k = omega arith in
      let lt : k < length w = f.within in
      subst (λ y. Judged g x m (Token t ∷ s) (t ∷ w) (TooDeep y)) e
      (deep (suc k) (record { within = omega arith; opens = read_deep t s w k lt f.opens; first = not_before t s w k low (omega arith) f.first }))

  -- a token is read where m levels are open
  pub judge_deep : (t : ℕ) (s : List Symbol) (w : List ℕ) → m ≤ level s → Judged g x m (Token t ∷ s) (t ∷ w) (TooDeep 0)
  judge_deep t s w high = deep 0 (record { within = omega arith; opens = last high; first = λ i lt q. absurd (omega (arith, lt)) })

  -- a fault here
  pub judge_here : (s : List Symbol) (w : List ℕ) → Exact g s w (Some 0) → Judged g x m s w (Syntax 0)
  judge_here s w e = syntax 0 (fault_of e) (λ i lt q. absurd (omega (arith, lt)))

  -- the end
  pub judge_end : Judged g x m [] [] Sentence
  judge_end = fine [] derives.done (λ i lt q. absurd (omega (arith, lt)))

  shift_0 : (a : Outcome) → shift 0 a ≡ a
  shift_0 Sentence = refl
  shift_0 (Syntax k) = ap (λ y. Syntax y) (omega arith)
  shift_0 (TooDeep k) = ap (λ y. TooDeep y) (omega arith)

  shift_1 : (i : ℕ) (a : Outcome) → shift i (shift 1 a) ≡ shift (i + 1) a
  shift_1 i Sentence = refl
  shift_1 i (Syntax k) = ap (λ y. Syntax y) (omega arith)
  shift_1 i (TooDeep k) = ap (λ y. TooDeep y) (omega arith)

  pub at_start : (ts : List ℕ) → At g start c x m ts 0 (Part start ∷ [])
  at_start ts = record {
    turns = λ a h. subst (λ y. Judged g x m (Part start ∷ []) ts y) (sym (shift_0 a)) h;
    fits = (λ l q. subst (λ y. c.Follow start y) (sym q) p.start_follow, tt);
    clear = tt;
  }

  pub at_use : (ts : List ℕ) (i n : ℕ) (s : List Symbol) (j : ℕ) (r : List Symbol) → At g start c x m ts i (Part n ∷ s) → pick n (next (drop i ts)) ≡ Some j → g n j ≡ Some r → At g start c x m ts i (r ++ s)
  at_use ts i n s j r h is rule = record {
    turns = λ a q. h.turns a (judge_use n s j r (drop i ts) a h.fits h.clear is rule q);
    fits = fits_on g start pick c x p (c.Follow n) r s h.fits.0 (p.follow n j r rule) h.fits.1;
    clear = clear_use g start pick c x p n j s r rule h.clear;
  }

  pub at_act : (ts : List ℕ) (i : ℕ) (s : List Symbol) → At g start c x m ts i (Close ∷ s) → At g start c x m ts i s
  at_act ts i s h = record {
    turns = λ a q. h.turns a (judge_act s (drop i ts) a q);
    fits = h.fits;
    clear = lacks_clear x.token s h.clear;
  }

  pub at_read : (ts : List ℕ) (i t : ℕ) (s : List Symbol) → level s < m → At g start c x m ts i (Token t ∷ s) → drop i ts ≡ t ∷ drop (i + 1) ts → At g start c x m ts (i + 1) s
  at_read ts i t s low h is = record {
    turns = λ a q. subst (λ y. Judged g x m (Part start ∷ []) ts y) (shift_1 i a) (h.turns (shift 1 a) (subst (λ y. Judged g x m (Token t ∷ s) y (shift 1 a)) (sym is) (judge_read t s (drop (i + 1) ts) a low q)));
    fits = h.fits;
    clear = lacks_clear x.token s h.clear;
  }

  -- the ends of the loop
  pub answer_end : (ts : List ℕ) (i : ℕ) → At g start c x m ts i [] → drop i ts ≡ [] → Judged g x m (Part start ∷ []) ts Sentence
  answer_end ts i h is = h.turns Sentence (subst (λ y. Judged g x m [] y Sentence) (sym is) judge_end)

  here : (ts : List ℕ) (i : ℕ) (s : List Symbol) → At g start c x m ts i s → Exact g s (drop i ts) (Some 0) → Judged g x m (Part start ∷ []) ts (Syntax i)
  here ts i s h q = subst (λ y. Judged g x m (Part start ∷ []) ts (Syntax y)) (omega arith) (h.turns (Syntax 0) (judge_here s (drop i ts) q))

  pub answer_extra : (ts : List ℕ) (i u : ℕ) (w : List ℕ) → At g start c x m ts i [] → drop i ts ≡ u ∷ w → Judged g x m (Part start ∷ []) ts (Syntax i)
  answer_extra ts i u w h is = here ts i [] h (subst (λ y. Exact g [] y (Some 0)) (sym is) (exact_extra g start pick c x p u w))

  pub answer_token : (ts : List ℕ) (i t u : ℕ) (s : List Symbol) (w : List ℕ) → At g start c x m ts i (Token t ∷ s) → drop i ts ≡ u ∷ w → (t ≡ u → ⊥) → Judged g x m (Part start ∷ []) ts (Syntax i)
  answer_token ts i t u s w h is ne = here ts i (Token t ∷ s) h (subst (λ y. Exact g (Token t ∷ s) y (Some 0)) (sym is) (exact_token g start pick c x p t u s w ne))

  pub answer_short : (ts : List ℕ) (i t : ℕ) (s : List Symbol) → At g start c x m ts i (Token t ∷ s) → drop i ts ≡ [] → Judged g x m (Part start ∷ []) ts (Syntax i)
  answer_short ts i t s h is = here ts i (Token t ∷ s) h (subst (λ y. Exact g (Token t ∷ s) y (Some 0)) (sym is) (exact_short g start pick c x p t s))

  pub answer_none : (ts : List ℕ) (i n : ℕ) (s : List Symbol) → At g start c x m ts i (Part n ∷ s) → pick n (next (drop i ts)) ≡ None → Judged g x m (Part start ∷ []) ts (Syntax i)
  answer_none ts i n s h is = here ts i (Part n ∷ s) h (exact_none g start pick c x p n s (drop i ts) h.fits h.clear is)

  pub answer_deep : (ts : List ℕ) (i t : ℕ) (s : List Symbol) (w : List ℕ) → At g start c x m ts i (Token t ∷ s) → drop i ts ≡ t ∷ w → m ≤ level s → Judged g x m (Part start ∷ []) ts (TooDeep i)
  answer_deep ts i t s w h is high = subst (λ y. Judged g x m (Part start ∷ []) ts (TooDeep y)) (omega arith) (h.turns (TooDeep 0) (subst (λ y. Judged g x m (Token t ∷ s) y (TooDeep 0)) (sym is) (judge_deep t s w high)))
