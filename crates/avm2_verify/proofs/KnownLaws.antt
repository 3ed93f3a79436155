-- What is known of depths grows place by place.
use Rattle.std.proofs.Common.{◌≡◌, ℕ, zero, suc, ◌+◌, ◌<◌, ◌⊎◌, inl, inr, List, [], ◌∷◌, ◌++◌, length, Option, Some, None, slice_get, refl, sym, ap, ◌∙◌, subst, arith, length-append}
use Rattle.std.specs.Prelude.{slice_set, Contains}
use Rattle.std.proofs.Math.ListN.{length-set}
use Rattle.std.proofs.lemmas.List.Elements.{Contains-append_left, Contains-push}
use Rattle.verified_code.specs.declared.Depths.{Depths}
use Rattle.avm2_verify.specs.Known.{Known, IsKnown, unknown_places, Grows, IsBegun, joined, known_at}
use Rattle.avm2_verify.proofs.Items.{get_set_same, get_set_cases, get_set_other, get_old, get_push, get_new}

-- a place that gets depths is no longer without
fewer_unknown : (table : List (Option Depths)) (at : ℕ) (d : Depths) → slice_get table at ≡ Some None → suc (unknown_places (slice_set table at (Some d))) ≡ unknown_places table
fewer_unknown [] at d e = absurd (cc)
fewer_unknown (None ∷ table) zero d e = refl
fewer_unknown (Some x ∷ table) zero d e = absurd (cc)
fewer_unknown (None ∷ table) (suc at) d e = ap suc (fewer_unknown table at d e)
fewer_unknown (Some x ∷ table) (suc at) d e = fewer_unknown table at d e

-- depths that are written where none were known
pub grown : (k l : Known) (at : ℕ) (d : Depths) → at < length k.table → slice_get k.table at ≡ Some None → l.table ≡ slice_set k.table at (Some d) → l.work ≡ k.work ++ at ∷ [] → Grows (Some at) d k l
grown k l at d lt none table work = record {
  long = ap length table ∙ length-set k.table at (Some d);
  keeps = keeps;
  new = λ p e h. new p e (get_set_cases k.table at p (Some d) (Some e) (ap (λ t. slice_get t p) (sym table) ∙ h));
  waits = λ p h. subst (λ w. Contains w p) (sym work) (Contains-append_left k.work (at ∷ []) p h);
  known = λ p e. known p (some_same at p e);
  same = omega (arith, ap unknown_places table, fewer_unknown k.table at d none, ap length work, length-append k.work (at ∷ []));
}
  where
    some_same : {A : Type 0} (x y : A) → Some x ≡ Some y → x ≡ y
    some_same x y e = cc

    keeps : (p : ℕ) (e : Depths) → IsKnown k p e → IsKnown l p e
    keeps p e h = ap (λ t. slice_get t p) table ∙ get_set_other k.table at p (Some d) (λ same. absurd (let g = sym none ∙ ap (slice_get k.table) same ∙ h in cc)) ∙ h

    new : (p : ℕ) (e : Depths) → (slice_get k.table p ≡ Some (Some e)) ⊎ ((at ≡ p) × (Some d ≡ Some e)) → IsKnown k p e ⊎ (Contains l.work p × (Some at ≡ Some p) × (e ≡ d))
    new p e (inl h) = inl h
    new p e (inr h) = inr (subst (λ w. Contains w p) (sym work) (subst (λ q. Contains (k.work ++ at ∷ []) q) h.0 (Contains-push k.work at)), ap Some h.0, sym (some_same d e h.1))

    known : (p : ℕ) → at ≡ p → IsKnown l p d
    known p same = subst (λ q. IsKnown l q d) same (ap (λ t. slice_get t at) table ∙ get_set_same k.table at (Some d) lt)

pub grown_from : (k view l : Known) (at : ℕ) (d : Depths) → k ≡ view → at < length k.table → slice_get view.table at ≡ Some None → l.table ≡ slice_set view.table at (Some d) → l.work ≡ view.work ++ at ∷ [] → Grows (Some at) d k l
grown_from k view l at d same lt none table work =
    subst (λ m. Grows (Some at) d m l) (sym same) (grown view l at d (subst (λ (m : Known). at < length m.table) same lt) none table work)

-- the start of code, and one byte more of it
pub begun_none : (start : Depths) (k : Known) → k.table ≡ [] → IsBegun 0 start k
begun_none start k e = record {
  long = ap length e;
  starts = λ lt. absurd (omega arith);
  only = λ p d h. absurd (let g = sym (ap (λ t. slice_get t p) e) ∙ h in cc);
}

pub begun_first : (start : Depths) (k l : Known) → IsBegun 0 start k → l.table ≡ k.table ++ Some start ∷ [] → l.work ≡ k.work ++ 0 ∷ [] → IsBegun 1 start l
begun_first start k l b table work = record {
  long = omega (arith, ap length table, length-append k.table (Some start ∷ []), b.long);
  starts = λ lt. (ap (λ t. slice_get t 0) table ∙ first (length k.table) b.long (get_new k.table (Some start)), subst (λ w. Contains w 0) (sym work) (Contains-push k.work 0));
  only = λ p d h. only p d (get_push k.table (Some start) p (Some d) (ap (λ t. slice_get t p) (sym table) ∙ h));
}
  where
    first : (n : ℕ) → n ≡ 0 → slice_get (k.table ++ Some start ∷ []) n ≡ Some (Some start) → slice_get (k.table ++ Some start ∷ []) 0 ≡ Some (Some start)
    first n e h = subst (λ m. slice_get (k.table ++ Some start ∷ []) m ≡ Some (Some start)) e h

    only : (p : ℕ) (d : Depths) → (slice_get k.table p ≡ Some (Some d)) ⊎ ((p ≡ length k.table) × (Some start ≡ Some d)) → (p ≡ 0) × (d ≡ start)
    only p d (inl h) = b.only p d h
    only p d (inr h) = (h.0 ∙ b.long, cc)

pub begun_at : (place : ℕ) (start : Depths) (k l : Known) → place ≡ 0 → IsBegun place start k → l.table ≡ k.table ++ Some start ∷ [] → l.work ≡ k.work ++ 0 ∷ [] → IsBegun (place + 1) start l
begun_at place start k l e b table work = subst (λ n. IsBegun (n + 1) start l) (sym e) (begun_first start k l (subst (λ n. IsBegun n start k) e b) table work)

pub begun_more : (count : ℕ) (start : Depths) (k l : Known) → 0 < count → IsBegun count start k → l.table ≡ k.table ++ None ∷ [] → l.work ≡ k.work → IsBegun (count + 1) start l
begun_more count start k l some b table work = record {
  long = omega (arith, ap length table, length-append k.table (None ∷ []), b.long);
  starts = λ lt. (ap (λ t. slice_get t 0) table ∙ get_old k.table (None ∷ []) 0 (Some start) (b.starts some).0, subst (λ w. Contains w 0) (sym work) (b.starts some).1);
  only = λ p d h. only p d (get_push k.table None p (Some d) (ap (λ t. slice_get t p) (sym table) ∙ h));
}
  where
    only : (p : ℕ) (d : Depths) → (slice_get k.table p ≡ Some (Some d)) ⊎ ((p ≡ length k.table) × (None ≡ Some d)) → (p ≡ 0) × (d ≡ start)
    only p d (inl h) = b.only p d h
    only p d (inr h) = absurd (let g = h.1 in cc)

-- what is known at a place
pub joined_is : (o : Option (Option Depths)) (d : Depths) → joined o ≡ Some d → o ≡ Some (Some d)
joined_is None d e = absurd (cc)
joined_is (Some o) d e = ap Some e

pub known_is : (k : Known) (p : ℕ) (d : Depths) → known_at k p ≡ Some d → IsKnown k p d
known_is k p d e = joined_is (slice_get k.table p) d e

pub is_known : (k : Known) (p : ℕ) (d : Depths) → IsKnown k p d → known_at k p ≡ Some d
is_known k p d e = ap joined e
