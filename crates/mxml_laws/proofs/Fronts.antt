-- What stands at the front of a text: a beginning, a run, and what stands before a mark.
use Rattle.std.proofs.Common.{◌≡◌, ◌≢◌, ◌⊎◌, ℕ, ◌≤◌, List, [], ◌∷◌, ◌++◌, length, Bool, true, false, inl, inr, refl, ap, ◌∙◌, eqb, arith}
use Rattle.std.proofs.lemmas.Bool.{eqb-false, eqb-true}
use Rattle.mxml_items.specs.Runs.{IsRun, Lacks, SplitsAt}
use Rattle.mxml_items.proofs.RunLaws.{and_true, head, tail}

-- a text has a beginning, behind which the rest stands, or hasn't
abbrev pub Starts : List ℕ → List ℕ → Type 0
Starts beginning text = (rest : List ℕ) × (text ≡ beginning ++ rest)

abbrev pub StartsNot : List ℕ → List ℕ → Type 0
StartsNot beginning text = (rest : List ℕ) → text ≢ beginning ++ rest

abbrev pub StartsOrNot : List ℕ → List ℕ → Type 0
StartsOrNot beginning text = Starts beginning text ⊎ StartsNot beginning text

not_nothing : (b : ℕ) (bytes : List ℕ) → [] ≢ b ∷ bytes
not_nothing b bytes same = (let long = ap length same in omega (arith, long))

pub starts_or_not : (beginning text : List ℕ) → StartsOrNot beginning text
starts_or_not [] text = inl (text, refl)
starts_or_not (c ∷ beginning) [] = inr (λ rest same. not_nothing c (beginning ++ rest) same)
starts_or_not (c ∷ beginning) (b ∷ text) = by (eqb b c) refl (starts_or_not beginning text)
  where
    by : (t : Bool) → eqb b c ≡ t → StartsOrNot beginning text → StartsOrNot (c ∷ beginning) (b ∷ text)
    by true is (inl (rest, same)) = inl (rest, ap (λ n. n ∷ text) (eqb-true b c is) ∙ ap (λ t. c ∷ t) same)
    by true is (inr none) = inr (λ rest same. none rest (ap tail same))
    by false is found = inr (λ rest same. eqb-false b c is (ap (head 0) same))

-- the run of bytes that pass a test
abbrev pub Runs : (ℕ → Bool) → List ℕ → Type 0
Runs test text = (front : List ℕ) × (rest : List ℕ) × IsRun test text front rest

pub run_of : (test : ℕ → Bool) (text : List ℕ) → Runs test text
run_of test [] = ([], [], record { is = refl; pass = refl; stops = tt })
run_of test (b ∷ text) = by (test b) refl (run_of test text)
  where
    by : (t : Bool) → test b ≡ t → Runs test text → Runs test (b ∷ text)
    by true is (front, rest, run) = (b ∷ front, rest, record { is = ap (λ t. b ∷ t) run.is; pass = and_true (test b) _ is run.pass; stops = run.stops })
    by false is found = ([], b ∷ text, record { is = refl; pass = refl; stops = is })

-- the first place of a mark, or that it stands nowhere
abbrev pub Splits : List ℕ → List ℕ → Type 0
Splits mark text = (front : List ℕ) × (rest : List ℕ) × SplitsAt mark text front rest

pub splits_or_not : (mark text : List ℕ) → Splits mark text ⊎ Lacks mark text
splits_or_not mark [] = by (starts_or_not mark [])
  where
    by : StartsOrNot mark [] → Splits mark [] ⊎ Lacks mark []
    by (inl (rest, is)) = inl ([], rest, record { is = is; first = λ other back same. omega arith })
    by (inr none) = inr lacks
      where
        lacks : Lacks mark []
        lacks [] back same = none back same
        lacks (c ∷ front) back same = not_nothing c (front ++ (mark ++ back)) same
splits_or_not mark (b ∷ text) = by (starts_or_not mark (b ∷ text)) (splits_or_not mark text)
  where
    by : StartsOrNot mark (b ∷ text) → Splits mark text ⊎ Lacks mark text → Splits mark (b ∷ text) ⊎ Lacks mark (b ∷ text)
    by (inl (rest, is)) found = inl ([], rest, record { is = is; first = λ other back same. omega arith })
    by (inr none) (inl (front, rest, s)) = inl (b ∷ front, rest, record { is = ap (λ t. b ∷ t) s.is; first = first })
      where
        first : (other back : List ℕ) → b ∷ text ≡ other ++ (mark ++ back) → length (b ∷ front) ≤ length other
        first [] back same = absurd (none back same)
        first (c ∷ other) back same = (let less = s.first other back (ap tail same) in omega (arith, less))
    by (inr none) (inr lacks) = inr lacks_here
      where
        lacks_here : Lacks mark (b ∷ text)
        lacks_here [] back same = none back same
        lacks_here (c ∷ front) back same = lacks front back (ap tail same)
