-- The fault that counts, and that there are no two answers.
use Rattle.std.proofs.Common.{◌≡◌, ℕ, suc, ◌<◌, ◌≤◌, Bool, true, false, List, length, min, Option, Some, None, refl, sym, ap, subst, ◌∙◌, arith, ltb, ltb-true, ltb-false}
use Rattle.as3_lexer.specs.declared.token.Token.{Token}
use Rattle.as3_parser.specs.declared.start.Start.{Start}
use Rattle.as3_parser.specs.declared.refusal.ParseRefusal.{ParseRefusal}
use Rattle.as3_parser.specs.declared.refusal.ParseRefusal.TheVariants as refusal
use Rattle.as3_parser.specs.Grammar.{Symbol, Rules, Sentence}
use Rattle.as3_parser.specs.Exact.{FaultAt, Exact, right, wrong}
use Rattle.as3_parser.specs.Predicts.{Dangling}
use Rattle.as3_parser.specs.Levels.{DeepAt}
use Rattle.as3_parser.specs.Productions.{the_rules, dangling}
use Rattle.as3_parser.specs.Syntax.{part_of, wanted, asked, limit, HasSyntaxFault, HasDeepFault, IsSentence, IsSyntaxFault, IsDeepFault, IsRefusal}
use Rattle.as3_parser.specs.Laws.{IsJudgedOneWay, HasOneFault}
use Rattle.as3_parser.specs.Here.{HasFaults, DeepIs, IsDeep, counted, first_of}
use Rattle.as3_parser.proofs.Prefixes.{begins_less}

not_earlier : (g : Rules) (s : List Symbol) (w : List ℕ) (j k : ℕ) → FaultAt g s w j → FaultAt g s w k → j < k → ⊥
not_earlier g s w j k f h lt =
    let le : k ≤ length w = h.within in
    f.bad (omega (arith, lt, le)) (begins_less g w (suc j) k (omega (arith, lt)) h.good)

one_fault : (g : Rules) (s : List Symbol) (w : List ℕ) (j k : ℕ) → FaultAt g s w j → FaultAt g s w k → j ≡ k
one_fault g s w j k f h = go (ltb j k) (ltb k j) refl refl where
  go : (a b : Bool) → ltb j k ≡ a → ltb k j ≡ b → j ≡ k
  go true b p q = absurd (not_earlier g s w j k f h (ltb-true j k p))
  go false true p q = absurd (not_earlier g s w k j h f (ltb-true k j q))
  go false false p q = let le = ltb-false j k p in let ge = ltb-false k j q in omega (arith, le, ge)

one_deep : (g : Rules) (x : Dangling) (m : ℕ) (s : List Symbol) (w : List ℕ) (j k : ℕ) → DeepAt g x m s w j → DeepAt g x m s w k → j ≡ k
one_deep g x m s w j k f h = go (ltb j k) (ltb k j) refl refl where
  go : (a b : Bool) → ltb j k ≡ a → ltb k j ≡ b → j ≡ k
  go true b p q = absurd (h.first j (ltb-true j k p) f.opens)
  go false true p q = absurd (f.first k (ltb-true k j q) h.opens)
  go false false p q = let le = ltb-false j k p in let ge = ltb-false k j q in omega (arith, le, ge)

fault_of : {g : Rules} {s : List Symbol} {w : List ℕ} {k : ℕ} → Exact g s w (Some k) → FaultAt g s w k
fault_of (wrong k f) = f

sentence_of : {g : Rules} {s : List Symbol} {w : List ℕ} → Exact g s w None → Sentence g s w
sentence_of (right d) = d

module _ (start : Start) (tokens : List Token) where
  no_fault : Sentence the_rules (wanted start) (asked start tokens) → (k : ℕ) → ¬ (HasSyntaxFault start tokens k)
  no_fault d k f = f.is.none d

  only_fault : (place k : ℕ) → FaultAt the_rules (wanted start) (asked start tokens) place → HasSyntaxFault start tokens k → k ≡ min place (length tokens)
  only_fault place k f h = h.counted ∙ ap (λ y. min y (length tokens)) (one_fault the_rules (wanted start) (asked start tokens) h.place place h.is f)

  only_deep : (place k : ℕ) → IsDeep (part_of start) (asked start tokens) place → HasDeepFault start tokens k → k ≡ min place (length tokens)
  only_deep place k f h = h.counted ∙ ap (λ y. min y (length tokens)) (one_deep the_rules dangling limit (wanted start) (asked start tokens) h.place place h.is f)

  -- no fault is left
  pub sentence_from : (syntax deep : Option ℕ) → Exact the_rules (wanted start) (asked start tokens) syntax → DeepIs (part_of start) (asked start tokens) deep → first_of (counted syntax (length tokens)) (counted deep (length tokens)) ≡ None → IsSentence start tokens
  sentence_from None None e d is = record { sentence = sentence_of e; shallow = λ k h. d h.place h.is }
  sentence_from None (Some k) e d is = absurd (cc)
  sentence_from (Some j) None e d is = absurd (cc)
  sentence_from (Some j) (Some k) e d is = absurd (go (ltb (min k (length tokens)) (min j (length tokens))) is) where
    go : (b : Bool) → (elim b as (λ _. Option ParseRefusal) [ true ↦ Some (refusal.TooDeep (min k (length tokens))) | false ↦ Some (refusal.Syntax (min j (length tokens))) ]) ≡ None → ⊥
    go true h = cc
    go false h = cc

  -- the one that counts
  pub refusal_from : (syntax deep : Option ℕ) → Exact the_rules (wanted start) (asked start tokens) syntax → DeepIs (part_of start) (asked start tokens) deep → (r : ParseRefusal) → first_of (counted syntax (length tokens)) (counted deep (length tokens)) ≡ Some r → IsRefusal start tokens r
  refusal_from None None e d r is = absurd (cc)
  refusal_from None (Some k) e d r is =
      let same : refusal.TooDeep (min k (length tokens)) ≡ r = cc in
      let this : IsDeepFault start tokens (min k (length tokens)) = (record { place = k; is = d; counted = refl }, λ j h. absurd (no_fault (sentence_of e) j h)) in
      subst (λ y. IsRefusal start tokens y) same this
  refusal_from (Some j) None e d r is =
      let same : refusal.Syntax (min j (length tokens)) ≡ r = cc in
      let this : IsSyntaxFault start tokens (min j (length tokens)) = (record { place = j; is = fault_of e; counted = refl }, λ k h. absurd (d h.place h.is)) in
      subst (λ y. IsRefusal start tokens y) same this
  refusal_from (Some j) (Some k) e d r is = go (ltb (min k (length tokens)) (min j (length tokens))) refl is where
    go : (b : Bool) → ltb (min k (length tokens)) (min j (length tokens)) ≡ b → (elim b as (λ _. Option ParseRefusal) [ true ↦ Some (refusal.TooDeep (min k (length tokens))) | false ↦ Some (refusal.Syntax (min j (length tokens))) ]) ≡ Some r → IsRefusal start tokens r
    go true p h =
        let same : refusal.TooDeep (min k (length tokens)) ≡ r = cc in
        let lt = ltb-true (min k (length tokens)) (min j (length tokens)) p in
        let this : IsDeepFault start tokens (min k (length tokens)) = (record { place = k; is = d; counted = refl }, λ i f. subst (λ y. min k (length tokens) < y) (sym (only_fault j i (fault_of e) f)) lt) in
        subst (λ y. IsRefusal start tokens y) same this
    go false p h =
        let same : refusal.Syntax (min j (length tokens)) ≡ r = cc in
        let le = ltb-false (min k (length tokens)) (min j (length tokens)) p in
        let this : IsSyntaxFault start tokens (min j (length tokens)) = (record { place = j; is = fault_of e; counted = refl }, λ i f. subst (λ y. min j (length tokens) ≤ y) (sym (only_deep k i d f)) le) in
        subst (λ y. IsRefusal start tokens y) same this

-- what the code found, where it was asked for the kinds of these tokens
pub is_sentence : (start : Start) (tokens : List Token) (kinds : List ℕ) (syntax deep one other : Option ℕ) → kinds ≡ asked start tokens → HasFaults (part_of start) kinds syntax deep → one ≡ counted syntax (length tokens) → other ≡ counted deep (length tokens) → first_of one other ≡ None → IsSentence start tokens
is_sentence start tokens kinds syntax deep one other is found one_is other_is first =
    let here = subst (λ y. HasFaults (part_of start) y syntax deep) is found in
    sentence_from start tokens syntax deep here.syntax here.deep (sym (ap (λ y. first_of y (counted deep (length tokens))) one_is) ∙ sym (ap (λ y. first_of one y) other_is) ∙ first)

pub is_refusal : (start : Start) (tokens : List Token) (kinds : List ℕ) (syntax deep one other : Option ℕ) (r : ParseRefusal) → kinds ≡ asked start tokens → HasFaults (part_of start) kinds syntax deep → one ≡ counted syntax (length tokens) → other ≡ counted deep (length tokens) → first_of one other ≡ Some r → IsRefusal start tokens r
is_refusal start tokens kinds syntax deep one other r is found one_is other_is first =
    let here = subst (λ y. HasFaults (part_of start) y syntax deep) is found in
    refusal_from start tokens syntax deep here.syntax here.deep r (sym (ap (λ y. first_of y (counted deep (length tokens))) one_is) ∙ sym (ap (λ y. first_of one y) other_is) ∙ first)

pub is_judged_one_way : IsJudgedOneWay
is_judged_one_way start tokens = record {
  no_syntax = λ s k f. f.0.is.none s.sentence;
  no_deep = λ s d f. s.shallow d f.0;
  not_both = λ k d f h. (let le : k ≤ d = f.1 d h.0 in let lt : d < k = h.1 k f.0 in omega (arith, le, lt));
}

pub has_one_fault : HasOneFault
has_one_fault start tokens = record {
  syntax = λ j k f h. only_fault start tokens h.0.place j h.0.is f.0 ∙ sym h.0.counted;
  deep = λ j k f h. only_deep start tokens h.0.place j h.0.is f.0 ∙ sym h.0.counted;
}
