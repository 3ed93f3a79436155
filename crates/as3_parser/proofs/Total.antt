-- Each list of tokens has an answer.
use Rattle.std.proofs.Common.{◌≡◌, ◌⊎◌, inl, inr, ℕ, zero, suc, ◌<◌, Bool, true, false, List, [], ◌∷◌, ◌++◌, length, Option, Some, None, option_map, refl, sym, ap, subst, ◌∙◌, arith, eqb, eqb-true, ltb, ltb-true, ltb-false}
use Rattle.std.proofs.lemmas.Bool.{eq-eqb}
use Rattle.as3_parser.specs.declared.start.Start.{Start}
use Rattle.as3_parser.specs.declared.refusal.ParseRefusal.{ParseRefusal}
use Rattle.as3_parser.specs.declared.refusal.ParseRefusal.TheVariants as refusal
use Rattle.as3_parser.specs.Grammar.{Symbol, Part, Close}
use Rattle.as3_parser.specs.Grammar as grammar
use Rattle.as3_parser.specs.Exact.{Exact, right}
use Rattle.as3_parser.specs.Levels.{level}
use Rattle.as3_parser.specs.Judged.{Outcome, Sentence, Syntax, TooDeep, Judged, fine, syntax, deep, shift}
use Rattle.as3_parser.specs.Predicts.{next, Lacks}
use Rattle.as3_parser.specs.Stands.{Fits, Clear}
use Rattle.as3_parser.specs.Table.{pick, sets, heft, symbols_of}
use Rattle.as3_parser.specs.Productions.{the_rules, dangling}
use Rattle.as3_parser.specs.Syntax.{part_of, wanted, asked, limit, IsSentence, IsSyntaxFault, IsDeepFault, IsRefusal}
use Rattle.as3_parser.specs.Here.{table, DeepIs, counted, first_of}
use Rattle.as3_parser.specs.Laws.{IsJudged}
use Rattle.as3_parser.proofs.Predict.{fits_on, lacks_clear, clear_use, exact_act, exact_read, exact_use, exact_none, exact_extra, exact_token, exact_short}
use Rattle.as3_parser.proofs.Judge.{judge_use, judge_act, judge_read, judge_deep, judge_here, judge_end}
use Rattle.as3_parser.proofs.Prefixes.{not_deep_behind}
use Rattle.as3_parser.proofs.Rows.{chosen}
use Rattle.as3_parser.proofs.Loop.{took_lighter}
use Rattle.as3_parser.proofs.Fine.{same_rules, predicts_start}
use Rattle.as3_parser.proofs.Verdicts.{sentence_from, refusal_from}

-- what is picked is a right side
pub picked_side : (n l j : ℕ) → pick table n l ≡ Some j → (r : List Symbol) × (the_rules n j ≡ Some r)
picked_side n l j h = let c = chosen n l j h in (c.side.symbols, sym (same_rules n j) ∙ ap (λ y. symbols_of y) c.is)

-- an answer that each step of the loop hands back is there for all symbols and tokens
module _ (start : Start) (V : List Symbol → List ℕ → Type 0)
    (use_side : (n : ℕ) (s : List Symbol) (j : ℕ) (r : List Symbol) (w : List ℕ) → Fits (sets table) (Part n ∷ s) → Lacks dangling.token s → pick table n (next w) ≡ Some j → the_rules n j ≡ Some r → V (r ++ s) w → V (Part n ∷ s) w)
    (pass : (s : List Symbol) (w : List ℕ) → V s w → V (Close ∷ s) w)
    (read : (t : ℕ) (s : List Symbol) (w : List ℕ) → V s w → V (grammar.Token t ∷ s) (t ∷ w))
    (stop : (s : List Symbol) (w : List ℕ) → Exact the_rules s w (Some 0) → V s w)
    (end : V [] []) where
  -- where a token is on top
  at_token : (t : ℕ) (s : List Symbol) (w : List ℕ) → ((u : ℕ) (v : List ℕ) → w ≡ u ∷ v → V s v) → V (grammar.Token t ∷ s) w
  at_token t s [] more = stop (grammar.Token t ∷ s) [] (exact_short the_rules (part_of start) (pick table) (sets table) dangling (predicts_start start) t s)
  at_token t s (u ∷ v) more = go (eqb t u) refl where
    go : (b : Bool) → eqb t u ≡ b → V (grammar.Token t ∷ s) (u ∷ v)
    go true e = subst (λ y. V (grammar.Token t ∷ s) (y ∷ v)) (eqb-true t u e) (read t s v (more u v refl))
    go false e = stop (grammar.Token t ∷ s) (u ∷ v) (exact_token the_rules (part_of start) (pick table) (sets table) dangling (predicts_start start) t u s v (λ same. (let f : eqb t u ≡ true = eq-eqb t u same in (cc))))

  at_end : (w : List ℕ) → V [] w
  at_end [] = end
  at_end (u ∷ v) = stop [] (u ∷ v) (exact_extra the_rules (part_of start) (pick table) (sets table) dangling (predicts_start start) u v)

  -- where a part is on top
  at_part : (n : ℕ) (s : List Symbol) (w : List ℕ) (fuel : ℕ) → heft table (Part n ∷ s) < suc fuel → Fits (sets table) (Part n ∷ s) → Lacks dangling.token s → ((r : List Symbol) → heft table r < fuel → Fits (sets table) r → Clear dangling.token r → V r w) → V (Part n ∷ s) w
  at_part n s w fuel lt fits lacks more = go (pick table n (next w)) refl where
    go : (o : Option ℕ) → pick table n (next w) ≡ o → V (Part n ∷ s) w
    go None e = stop (Part n ∷ s) w (exact_none the_rules (part_of start) (pick table) (sets table) dangling (predicts_start start) n s w fits lacks e)
    go (Some j) e =
        let side = picked_side n (next w) j e in
        let p = predicts_start start in
        let light = took_lighter n j side.0 s (same_rules n j ∙ side.1) in
        use_side n s j side.0 w fits lacks e side.1 (more (side.0 ++ s) (omega arith)
        (fits_on the_rules (part_of start) (pick table) (sets table) dangling p ((sets table).Follow n) side.0 s fits.0 (p.follow n j side.0 side.1) fits.1)
        (clear_use the_rules (part_of start) (pick table) (sets table) dangling p n j s side.0 side.1 lacks))

  along : (w : List ℕ) → ((u : ℕ) (v : List ℕ) → w ≡ u ∷ v → (s : List Symbol) → Fits (sets table) s → Clear dangling.token s → V s v) → (fuel : ℕ) (s : List Symbol) → heft table s < fuel → Fits (sets table) s → Clear dangling.token s → V s w
  along w more zero s lt fits clear = absurd (omega (arith, lt))
  along w more (suc fuel) [] lt fits clear = at_end w
  along w more (suc fuel) (grammar.Token t ∷ s) lt fits clear = at_token t s w (λ u v is. more u v is s fits (lacks_clear dangling.token s clear))
  along w more (suc fuel) (Close ∷ s) lt fits clear = pass s w (along w more fuel s (omega (arith, lt)) fits (lacks_clear dangling.token s clear))
  along w more (suc fuel) (Part n ∷ s) lt fits clear = at_part n s w fuel lt fits clear (λ r light f k. along w more fuel r light f k)

  pub answer : (w : List ℕ) (s : List Symbol) → Fits (sets table) s → Clear dangling.token s → V s w
  answer [] s fits clear = along [] (λ u v is. absurd (cc)) (suc (heft table s)) s (omega arith) fits clear
  answer (t ∷ w) s fits clear = along (t ∷ w) (λ u v is r f k. let same : w ≡ v = cc in subst (λ y. V r y) same (answer w r f k)) (suc (heft table s)) s (omega arith) fits clear

abbrev IsExact : List Symbol → List ℕ → Type 0
IsExact s w = (a : Option ℕ) × Exact the_rules s w a

exact_answer : (start : Start) (w : List ℕ) (s : List Symbol) → Fits (sets table) s → Clear dangling.token s → IsExact s w
exact_answer start = let p = predicts_start start in answer start IsExact
    (λ n s j r w fits lacks picks rule h. (h.0, exact_use the_rules (part_of start) (pick table) (sets table) dangling p n s j r w h.0 fits lacks picks rule h.1))
    (λ s w h. (h.0, exact_act the_rules (part_of start) (pick table) (sets table) dangling p s w h.0 h.1))
    (λ t s w h. (option_map (λ k. suc k) h.0, exact_read the_rules (part_of start) (pick table) (sets table) dangling p t s w h.0 h.1))
    (λ s w h. (Some 0, h))
    (None, right grammar.rests)

abbrev IsOne : List Symbol → List ℕ → Type 0
IsOne s w = (a : Outcome) × Judged the_rules dangling limit s w a

-- a token is read, or it opens a level too many
judged_token : (start : Start) (t : ℕ) (s : List Symbol) (w : List ℕ) → IsOne s w → IsOne (grammar.Token t ∷ s) (t ∷ w)
judged_token start t s w h = go (ltb (level s) limit) refl where
  go : (b : Bool) → ltb (level s) limit ≡ b → IsOne (grammar.Token t ∷ s) (t ∷ w)
  go true e = (shift 1 h.0, judge_read the_rules (part_of start) (pick table) (sets table) dangling (predicts_start start) limit t s w h.0 (ltb-true (level s) limit e) h.1)
  go false e = (TooDeep 0, judge_deep the_rules (part_of start) (pick table) (sets table) dangling (predicts_start start) limit t s w (ltb-false (level s) limit e))

judged_answer : (start : Start) (w : List ℕ) (s : List Symbol) → Fits (sets table) s → Clear dangling.token s → IsOne s w
judged_answer start = let p = predicts_start start in answer start IsOne
    (λ n s j r w fits lacks picks rule h. (h.0, judge_use the_rules (part_of start) (pick table) (sets table) dangling p limit n s j r w h.0 fits lacks picks rule h.1))
    (λ s w h. (h.0, judge_act the_rules (part_of start) (pick table) (sets table) dangling p limit s w h.0 h.1))
    (λ t s w h. judged_token start t s w h)
    (λ s w h. (Syntax 0, judge_here the_rules (part_of start) (pick table) (sets table) dangling p limit s w h))
    (Sentence, judge_end the_rules (part_of start) (pick table) (sets table) dangling p limit)

pub start_fits : (start : Start) → Fits (sets table) (wanted start)
start_fits start = let p = predicts_start start in (λ l q. subst (λ y. (sets table).Follow (part_of start) y) (sym q) p.start_follow, tt)

pub judged : (start : Start) (w : List ℕ) → IsOne (wanted start) w
judged start w = judged_answer start w (wanted start) (start_fits start) tt

-- the first token that opens level 65, or none
deep_answer : (start : Start) (w : List ℕ) → (d : Option ℕ) × DeepIs (part_of start) w d
deep_answer start w = let j = judged start w in go j.0 j.1 where
  go : (a : Outcome) → Judged the_rules dangling limit (wanted start) w a → (d : Option ℕ) × DeepIs (part_of start) w d
  go a (fine cs d h) = (None, λ k at. h k at.within at.opens)
  go a (syntax k f h) = (None, λ d at. not_deep_behind the_rules dangling limit (wanted start) w k d f h at)
  go a (deep k f) = (Some k, f)

pub is_judged : IsJudged
is_judged start tokens =
    let w = asked start tokens in
    let e = exact_answer start w (wanted start) (start_fits start) tt in
    let d = deep_answer start w in
    go e.0 d.0 e.1 d.1 (first_of (counted e.0 (length tokens)) (counted d.0 (length tokens))) refl
  where
    one_of : (r : ParseRefusal) → (r ≡ refusal.NoMemory → ⊥) → IsRefusal start tokens r → ((k : ℕ) × IsSyntaxFault start tokens k) ⊎ ((d : ℕ) × IsDeepFault start tokens d)
    one_of (refusal.Syntax k) some h = inl (k, h)
    one_of (refusal.TooDeep d) some h = inr (d, h)
    one_of refusal.NoMemory some h = absurd (some refl)

    fault_named : (e d : Option ℕ) (r : ParseRefusal) → first_of e d ≡ Some r → r ≡ refusal.NoMemory → ⊥
    fault_named None None r h is = cc
    fault_named None (Some d) r h is = cc
    fault_named (Some k) None r h is = cc
    fault_named (Some k) (Some d) r h is = go (ltb d k) h where
      go : (b : Bool) → (elim b as (λ _. Option ParseRefusal) [ true ↦ Some (refusal.TooDeep d) | false ↦ Some (refusal.Syntax k) ]) ≡ Some r → ⊥
      go true h = cc
      go false h = cc

    go : (e d : Option ℕ) → Exact the_rules (wanted start) (asked start tokens) e → DeepIs (part_of start) (asked start tokens) d → (o : Option ParseRefusal) → first_of (counted e (length tokens)) (counted d (length tokens)) ≡ o → IsSentence start tokens ⊎ (((k : ℕ) × IsSyntaxFault start tokens k) ⊎ ((d : ℕ) × IsDeepFault start tokens d))
    go e d exact deeps None is = inl (sentence_from start tokens e d exact deeps is)
    go e d exact deeps (Some r) is = inr (one_of r (λ q. fault_named (counted e (length tokens)) (counted d (length tokens)) r is q) (refusal_from start tokens e d exact deeps r is))
