-- What is known of a body grows along its paths, and in the end is all of them.
use Rattle.std.proofs.Common.{◌≡◌, ℕ, zero, suc, ◌<◌, ◌⊎◌, inl, inr, List, [], ◌∷◌, length, Option, Some, None, slice_get, refl, sym, ap, ◌∙◌, subst, arith, length-append}
use Rattle.std.specs.Prelude.{Bool, true, false, MatchBool, Contains, Result, Ok, Err, IfOk}
use Rattle.std.proofs.lemmas.List.Elements.{Contains-push_cases}
use Rattle.abc_format.specs.declared.records.Abc.{Abc}
use Rattle.abc_format.specs.declared.records.MethodBody.{MethodBody}
use Rattle.avm2_code.specs.Body.{HasInstruction}
use Rattle.verified_code.specs.declared.Depths.{Depths}
use Rattle.verified_code.specs.Paths.{AreKept}
use Rattle.verified_code.specs.Verified.{HasDepths, depths_behind, no_depths, KeepsDepths, IsPassed}
use Rattle.verified_code.proofs.PathLaws.{path_stands, kept_on_paths}
use Rattle.avm2_verify.specs.declared.ways.Ways.{Ways}
use Rattle.avm2_verify.specs.Followed.{IsFollowed, BodyDiffers}
use Rattle.avm2_verify.specs.Known.{Known, IsKnown, Grows, IsBegun, IsOther, IsTaken, known_at, unknown_places, unfinished}
use Rattle.avm2_verify.specs.Tables.{AreDepthsOf}
use Rattle.avm2_verify.specs.Ways.{BodyStep, LeadTo, AreWays}
use Rattle.avm2_verify.proofs.KnownLaws.{known_is, is_known}

one_known : (k : Known) (p : ℕ) (d e : Depths) → IsKnown k p d → IsKnown k p e → d ≡ e
one_known k p d e h g = let s = sym h ∙ g in (cc)

no_item : {A : Type 0} (x : A) → Contains [] x → ⊥
no_item x h = let lt = h.1 in (omega arith)

-- a place that waits, or the one from where paths are followed now
abbrev pub Waits : ℕ → Known → ℕ → Type 0
Waits place k at = (at ≡ place) ⊎ Contains k.work at

module _ (a : Abc) (b : MethodBody) where
  -- a path with depths stands at an instruction
  pub depths_stand : (place : ℕ) (d : Depths) → HasDepths a b place d → HasInstruction b.code place
  depths_stand place d h = path_stands b.code (no_depths a) (depths_behind a) (KeepsDepths a b) (IsPassed a) h.0 place d h.1

  pub known_stands : (waits : ℕ → Type 0) (k : Known) (place : ℕ) (d : Depths) → IsFollowed a b waits k → IsKnown k place d → HasInstruction b.code place
  known_stands waits k place d f h = depths_stand place d (f.arrives place d h)

  step_arrives : (place : ℕ) (d : Depths) (to : ℕ) (e : Depths) → HasDepths a b place d → BodyStep a b place d to e → HasDepths a b to e
  step_arrives place d to e h s = (suc h.0, (place, d, h.1, s))

  pub begun : (k : Known) → IsBegun (length b.code) (no_depths a) k → IsFollowed a b (Contains k.work) k
  begun k w = record {
    long = w.long;
    starts = λ lt. (w.starts lt).0;
    arrives = arrives;
    goes_on = λ p d h. inl (subst (Contains k.work) (sym (w.only p d h).0) (w.starts (some p d h)).1);
  }
    where
      some : (p : ℕ) (d : Depths) → IsKnown k p d → 0 < length b.code
      some p d h = let lt = within k.table p (Some d) h in omega (arith, w.long)
        where
          within : {A : Type 0} (xs : List A) (i : ℕ) (x : A) → slice_get xs i ≡ Some x → i < length xs
          within [] i x e = absurd (cc)
          within (y ∷ ys) zero x e = omega arith
          within (y ∷ ys) (suc i) x e = let h = within ys i x e in omega (arith, h)

      start : 0 < length b.code → HasDepths a b 0 (no_depths a)
      start lt = (0, (record { count = 0; read = refl; inside = lt }, refl, refl))

      arrives : (p : ℕ) (d : Depths) → IsKnown k p d → HasDepths a b p d
      arrives p d h =
          let o = w.only p d h in
          subst (λ q. HasDepths a b q d) (sym o.0) (subst (HasDepths a b 0) (sym o.1) (start (some p d h)))

  -- a place is taken from those that wait
  pub taken : (place : ℕ) (k l : Known) → IsTaken place k l → IsFollowed a b (Contains k.work) k → IsFollowed a b (Waits place l) l
  taken place k l t f = record {
    long = ap length t.table ∙ f.long;
    starts = λ lt. ap (λ m. slice_get m 0) t.table ∙ f.starts lt;
    arrives = λ p d h. f.arrives p d (ap (λ m. slice_get m p) (sym t.table) ∙ h);
    goes_on = λ p d h. on p d (f.goes_on p d (ap (λ m. slice_get m p) (sym t.table) ∙ h));
  }
    where
      on : (p : ℕ) (d : Depths) → Contains k.work p ⊎ ((to : ℕ) (e : Depths) → BodyStep a b p d to e → IsKnown k to e) → Waits place l p ⊎ ((to : ℕ) (e : Depths) → BodyStep a b p d to e → IsKnown l to e)
      on p d (inl h) = inl (either (Contains-push_cases l.work place p (subst (λ w. Contains w p) t.work h)))
        where
          either : Contains l.work p ⊎ (place ≡ p) → Waits place l p
          either (inl g) = inr g
          either (inr g) = inl (sym g)
      on p d (inr h) = inr (λ to e s. ap (λ m. slice_get m to) t.table ∙ h to e s)

  pub fewer : (place : ℕ) (k l : Known) → IsTaken place k l → unfinished l < unfinished k
  fewer place k l t = omega (arith, ap unknown_places t.table, ap length t.work, length-append l.work (place ∷ []))

  -- nothing is known where no path comes
  pub nothing_known : (place : ℕ) (k : Known) → known_at k place ≡ None → IsFollowed a b (Waits place k) k → IsFollowed a b (Contains k.work) k
  nothing_known place k none f = record { long = f.long; starts = f.starts; arrives = f.arrives; goes_on = λ p d h. on p d h (f.goes_on p d h) }
    where
      on : (p : ℕ) (d : Depths) → IsKnown k p d → Waits place k p ⊎ ((to : ℕ) (e : Depths) → BodyStep a b p d to e → IsKnown k to e) → Contains k.work p ⊎ ((to : ℕ) (e : Depths) → BodyStep a b p d to e → IsKnown k to e)
      on p d h (inl (inl same)) = absurd (let g = sym none ∙ ap (known_at k) (sym same) ∙ is_known k p d h in (cc))
      on p d h (inl (inr g)) = inl g
      on p d h (inr g) = inr g

  -- each step from the place is known
  pub followed : (place : ℕ) (before : Depths) (k : Known) → IsKnown k place before → ((to : ℕ) (e : Depths) → BodyStep a b place before to e → IsKnown k to e) → IsFollowed a b (Waits place k) k
      → IsFollowed a b (Contains k.work) k
  followed place before k known steps f = record { long = f.long; starts = f.starts; arrives = f.arrives; goes_on = λ p d h. on p d h (f.goes_on p d h) }
    where
      on : (p : ℕ) (d : Depths) → IsKnown k p d → Waits place k p ⊎ ((to : ℕ) (e : Depths) → BodyStep a b p d to e → IsKnown k to e) → Contains k.work p ⊎ ((to : ℕ) (e : Depths) → BodyStep a b p d to e → IsKnown k to e)
      on p d h (inl (inl same)) =
          let d_is : d ≡ before = one_known k place d before (subst (λ q. IsKnown k q d) same h) known in
          inr (λ to e s. steps to e (subst (λ c. BodyStep a b place c to e) d_is (subst (λ q. BodyStep a b q d to e) same s)))
      on p d h (inl (inr g)) = inl g
      on p d h (inr g) = inr g

  -- what is known grows by a way on
  pub grows : (place : ℕ) (before : Depths) (w : Ways) (to : Option ℕ) (k l : Known) → IsKnown k place before → AreWays a b place before (Some w) → ((at : ℕ) → to ≡ Some at → LeadTo (Some w) at w.behind)
      → Grows to w.behind k l → IsFollowed a b (Waits place k) k → IsFollowed a b (Waits place l) l
  grows place before w to k l known ways leads g f = record {
    long = g.long ∙ f.long;
    starts = λ lt. g.keeps 0 (no_depths a) (f.starts lt);
    arrives = λ p d h. arrives p d (g.new p d h);
    goes_on = λ p d h. on p d (g.new p d h);
  }
    where
      arrives : (p : ℕ) (d : Depths) → IsKnown k p d ⊎ (Contains l.work p × (to ≡ Some p) × (d ≡ w.behind)) → HasDepths a b p d
      arrives p d (inl h) = f.arrives p d h
      arrives p d (inr h) = subst (HasDepths a b p) (sym h.2) (step_arrives place before p w.behind (f.arrives place before known) (ways.only p w.behind (leads p h.1)))

      old : (p : ℕ) (d : Depths) → Waits place k p ⊎ ((at : ℕ) (e : Depths) → BodyStep a b p d at e → IsKnown k at e) → Waits place l p ⊎ ((at : ℕ) (e : Depths) → BodyStep a b p d at e → IsKnown l at e)
      old p d (inl (inl same)) = inl (inl same)
      old p d (inl (inr h)) = inl (inr (g.waits p h))
      old p d (inr h) = inr (λ at e s. g.keeps at e (h at e s))

      on : (p : ℕ) (d : Depths) → IsKnown k p d ⊎ (Contains l.work p × (to ≡ Some p) × (d ≡ w.behind)) → Waits place l p ⊎ ((at : ℕ) (e : Depths) → BodyStep a b p d at e → IsKnown l at e)
      on p d (inl h) = old p d (f.goes_on p d h)
      on p d (inr h) = inl (inr h.0)

  -- a way on that comes to other depths
  pub differs : (place : ℕ) (before : Depths) (w : Ways) (to : Option ℕ) (k : Known) → IsKnown k place before → AreWays a b place before (Some w) → ((at : ℕ) → to ≡ Some at → LeadTo (Some w) at w.behind)
      → IsOther to w.behind k → IsFollowed a b (Waits place k) k → BodyDiffers a b
  differs place before w to k known ways leads o f = record {
    at = o.at;
    one = o.first;
    other = w.behind;
    first = f.arrives o.at o.first o.known;
    second = step_arrives place before o.at w.behind (f.arrives place before known) (ways.only o.at w.behind (leads o.at o.is));
    differ = o.differ;
  }

  -- the two ways
  pub leads_next : (w : Ways) (at : ℕ) → w.next ≡ Some at → LeadTo (Some w) at w.behind
  leads_next w at e = (refl, inl e)

  pub leads_branch : (w : Ways) (at : ℕ) → w.branch ≡ Some at → LeadTo (Some w) at w.behind
  leads_branch w at e = (refl, inr e)

  pub both_known : (place : ℕ) (before : Depths) (w : Ways) (k l : Known) → AreWays a b place before (Some w) → ((at : ℕ) → w.next ≡ Some at → IsKnown k at w.behind) → Grows w.branch w.behind k l
      → (to : ℕ) (e : Depths) → BodyStep a b place before to e → IsKnown l to e
  both_known place before w k l ways next g to e s = let h = ways.all to e s in subst (IsKnown l to) (sym h.0) (either h.1)
    where
      either : (w.next ≡ Some to) ⊎ (w.branch ≡ Some to) → IsKnown l to w.behind
      either (inl x) = g.keeps to w.behind (next to x)
      either (inr x) = g.known to x

  -- a way on leads into the code
  pub leads_inside : (place : ℕ) (before : Depths) (w : Ways) (to : Option ℕ) (k : Known) → AreWays a b place before (Some w) → ((at : ℕ) → to ≡ Some at → LeadTo (Some w) at w.behind)
      → length k.table ≡ length b.code → (at : ℕ) → to ≡ Some at → at < length k.table
  leads_inside place before w to k ways leads long at e =
      let m = (ways.only at w.behind (leads at e)).meets in
      let lt = m.inside in
      omega (arith, long)

  -- where nothing waits, all is known
  pub all_known : (k : Known) → k.work ≡ [] → IsFollowed a b (Contains k.work) k → AreDepthsOf a b k.table
  all_known k none f = record {
    long = f.long;
    arrives = f.arrives;
    all = λ p d h. known_is k p d (kept_on_paths b.code (no_depths a) (depths_behind a) (KeepsDepths a b) (IsPassed a) (known_at k) kept h.0 p d h.1);
  }
    where
      kept : AreKept b.code (no_depths a) (depths_behind a) (KeepsDepths a b) (IsPassed a) (known_at k)
      kept = record {
        starts = λ h. is_known k 0 (no_depths a) (f.starts h.inside);
        goes_on = λ from before to behind h s. on from before to behind s (f.goes_on from before (known_is k from before h));
      }
        where
          on : (from : ℕ) (before : Depths) (to : ℕ) (behind : Depths) → BodyStep a b from before to behind → Contains k.work from ⊎ ((at : ℕ) (e : Depths) → BodyStep a b from before at e → IsKnown k at e) → known_at k to ≡ Some behind
          on from before to behind s (inl h) = absurd (no_item from (subst (λ w. Contains w from) none h))
          on from before to behind s (inr h) = is_known k to behind (h to behind s)

  -- both ways, from what was known first
  second_way : (place : ℕ) (before : Depths) (w : Ways) (k m l : Known) → IsKnown k place before → AreWays a b place before (Some w) → Grows w.next w.behind k m → IsFollowed a b (Waits place k) k → (same : Bool)
      → MatchBool same (Grows w.branch w.behind m l) (IsOther w.branch w.behind m) → MatchBool same (IsFollowed a b (Contains l.work) l × (unfinished l ≡ unfinished k)) (BodyDiffers a b)
  second_way place before w k m l known ways g f true h =
      let on = grows place before w w.next k m known ways (leads_next w) g f in
      let far = grows place before w w.branch m l (g.keeps place before known) ways (leads_branch w) h on in
      (followed place before l (h.keeps place before (g.keeps place before known)) (both_known place before w m l ways g.known h) far, h.same ∙ g.same)
  second_way place before w k m l known ways g f false h =
      differs place before w w.branch m (g.keeps place before known) ways (leads_branch w) h (grows place before w w.next k m known ways (leads_next w) g f)

  -- where memory is there
  pub both_ways : {E : Type 0} (place : ℕ) (before : Depths) (w : Ways) (k m l : Known) → IsKnown k place before → AreWays a b place before (Some w) → Grows w.next w.behind k m → IsFollowed a b (Waits place k) k
      → (r : Result Bool E) → IfOk r (λ same. MatchBool same (Grows w.branch w.behind m l) (IsOther w.branch w.behind m))
      → IfOk r (λ same. MatchBool same (IsFollowed a b (Contains l.work) l × (unfinished l ≡ unfinished k)) (BodyDiffers a b))
  both_ways place before w k m l known ways g f (Ok same) h = second_way place before w k m l known ways g f same h
  both_ways place before w k m l known ways g f (Err e) h = h
