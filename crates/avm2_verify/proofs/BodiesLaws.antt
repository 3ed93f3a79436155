-- Body after body, and the tables of all.
use Rattle.std.proofs.Common.{◌≡◌, ℕ, zero, suc, ◌+◌, ◌<◌, ◌≤◌, ⊎_elim, List, [], ◌∷◌, ◌++◌, length, Option, Some, None, slice_get, refl, sym, ap, ◌∙◌, subst, arith, length-append}
use Rattle.std.specs.Prelude.{IfSome}
use Rattle.std.proofs.lemmas.Bool.{cases_lt}
use Rattle.std.proofs.lemmas.Option.{slice_get_within}
use Rattle.abc_format.specs.declared.records.Abc.{Abc}
use Rattle.abc_format.specs.declared.records.MethodBody.{MethodBody}
use Rattle.avm2_code.specs.declared.reason.CodeReason.{CodeReason}
use Rattle.verified_code.specs.declared.Depths.{Depths}
use Rattle.verified_code.specs.Verified.{HasNoReason, IsFirstOf, IsFirstReason}
use Rattle.avm2_verify.specs.Known.{joined}
use Rattle.avm2_verify.specs.Reasons.{AreChecked}
use Rattle.avm2_verify.specs.Tables.{AreDepthsOf, HasDepthsIn, IsVerifiedBy}
use Rattle.avm2_verify.proofs.Items.{get_old, get_new}
use Rattle.avm2_verify.proofs.KnownLaws.{joined_is}

some_same : {A : Type 0} (x y : A) → Some x ≡ Some y → x ≡ y
some_same x y e = cc

module _ (a : Abc) where
  pub none_checked : AreChecked a 0 []
  none_checked = record { long = refl; fine = λ n b lt e. absurd (omega arith); depths = λ n b lt e. absurd (omega arith) }

  -- one body more
  pub checked_more : (count : ℕ) (tables : List (List (Option Depths))) (b : MethodBody) (table : List (Option Depths)) → slice_get a.method_bodies count ≡ Some b → HasNoReason a b → AreDepthsOf a b table
      → AreChecked a count tables → AreChecked a (count + 1) (tables ++ table ∷ [])
  checked_more count tables b table is none depths h = record {
    long = omega (arith, length-append tables (table ∷ []), h.long);
    fine = λ n c lt e. ⊎_elim (λ l. h.fine n c l e) (λ le. fine n c (omega arith) e) (cases_lt n count);
    depths = λ n c lt e. ⊎_elim (λ l. let d = h.depths n c l e in (d.0, get_old tables (table ∷ []) n d.0 d.1, d.2)) (λ le. last n c (omega arith) e) (cases_lt n count);
  }
    where
      same : (n : ℕ) (c : MethodBody) → n ≡ count → slice_get a.method_bodies n ≡ Some c → b ≡ c
      same n c k e = some_same b c (sym is ∙ ap (slice_get a.method_bodies) (sym k) ∙ e)

      fine : (n : ℕ) (c : MethodBody) → n ≡ count → slice_get a.method_bodies n ≡ Some c → HasNoReason a c
      fine n c k e = subst (HasNoReason a) (same n c k e) none

      last : (n : ℕ) (c : MethodBody) → n ≡ count → slice_get a.method_bodies n ≡ Some c → (t : List (Option Depths)) × (slice_get (tables ++ table ∷ []) n ≡ Some t) × AreDepthsOf a c t
      last n c k e =
          let at : n ≡ length tables = omega (arith, h.long) in
          (table, ap (slice_get (tables ++ table ∷ [])) at ∙ get_new tables table, subst (λ d. AreDepthsOf a d table) (same n c k e) depths)

  pub first_reason : (count place number : ℕ) (tables : List (List (Option Depths))) (b : MethodBody) (r : CodeReason) → slice_get a.method_bodies count ≡ Some b → IsFirstOf a b place r → AreChecked a count tables → number ≡ length tables
      → IsFirstReason a number place r
  first_reason count place number tables b r is first h n =
      let same : count ≡ number = omega (arith, h.long) in
      subst (λ k. IsFirstReason a k place r) same (record { body = b; is = is; has = first; before = λ earlier c lt e. h.fine earlier c lt e })

  pub checked_all : (count : ℕ) (tables : List (List (Option Depths))) → length a.method_bodies ≤ count → count ≤ length a.method_bodies → AreChecked a count tables → IsVerifiedBy a tables
  checked_all count tables ge le h = record {
    verified = λ n b e. let lt = slice_get_within a.method_bodies n b e in h.fine n b (omega arith) e;
    long = omega (arith, h.long);
    depths = λ n b lt e. h.depths n b (omega (arith, h.long)) e;
  }

  module _ (tables : List (List (Option Depths))) (v : IsVerifiedBy a tables) (number place : ℕ) where
    -- what stands in the table of a body is what its paths have
    pub found_in : (table : List (Option Depths)) → slice_get tables number ≡ Some table → (o : Option Depths) → o ≡ joined (slice_get table place) → IfSome o (HasDepthsIn a number place)
    found_in table e None g = tt
    found_in table e (Some d) g = by (slice_get a.method_bodies number) refl
      where
        lt : number < length tables
        lt = slice_get_within tables number table e

        by : (m : Option MethodBody) → slice_get a.method_bodies number ≡ m → HasDepthsIn a number place d
        by None h = absurd (let k = past a.method_bodies number h in omega (arith, lt, v.long))
          where
            past : {A : Type 0} (xs : List A) (i : ℕ) → slice_get xs i ≡ None → length xs ≤ i
            past [] i e = omega arith
            past (x ∷ xs) zero e = absurd (cc)
            past (x ∷ xs) (suc i) e = let h = past xs i e in omega (arith, h)
        by (Some b) h =
            let t = v.depths number b lt h in
            let same : t.0 ≡ table = some_same t.0 table (sym t.1 ∙ e) in
            record { body = b; is = h; has = t.2.arrives place d (ap (λ (m : List (Option Depths)). slice_get m place) same ∙ joined_is (slice_get table place) d (sym g)) }

    pub all_in : (table : List (Option Depths)) → slice_get tables number ≡ Some table → (o : Option Depths) → o ≡ joined (slice_get table place) → (d : Depths) → HasDepthsIn a number place d → o ≡ Some d
    all_in table e o g d h =
        let t = v.depths number h.body (slice_get_within tables number table e) h.is in
        let same : t.0 ≡ table = some_same t.0 table (sym t.1 ∙ e) in
        g ∙ ap joined (ap (λ (m : List (Option Depths)). slice_get m place) (sym same) ∙ t.2.all place d h.has)

    pub none_in : slice_get tables number ≡ None → (d : Depths) → HasDepthsIn a number place d → ⊥
    none_in e d h =
        let lt = slice_get_within a.method_bodies number h.body h.is in
        let t = v.depths number h.body (omega (arith, v.long)) h.is in
        let w = sym e ∙ t.1 in (cc)
