-- Where a mark stands first in a text, and where runs end.
use Rattle.std.proofs.Common.{◌≡◌, ◌≢◌, ℕ, ◌+◌, ◌<◌, ◌≤◌, List, ◌++◌, length, take, drop, ap, sym, ◌∙◌, inl, inr, arith}
use Rattle.std.specs.Prelude.{◌⊎◌}
use Rattle.std.proofs.Math.Seq.{drop-append_seam}
use Rattle.std.proofs.lemmas.List.{take-append-drop, length-take-le, length-append}
use Rattle.mxml_items.specs.Runs.{Lacks, SplitsAt}

-- the mark stands before none of the first places
abbrev pub NoneBefore : List ℕ → List ℕ → ℕ → Type 0
NoneBefore mark text i = (k : ℕ) → k < i → (rest : List ℕ) → drop k text ≡ mark ++ rest → ⊥

at_front : (text other back : List ℕ) → text ≡ other ++ back → drop (length other) text ≡ back
at_front text other back is = ap (drop (length other)) is ∙ drop-append_seam other back

pub splits_here : (mark text rest : List ℕ) (i : ℕ) → i ≤ length text → NoneBefore mark text i → drop i text ≡ mark ++ rest → SplitsAt mark text (take i text) rest
splits_here mark text rest i within none is =
    record {
      is = sym (take-append-drop i text) ∙ ap (λ x. take i text ++ x) is;
      first = λ other back same. by_order other back same (order (length other) i);
    }
  where
    order : (m n : ℕ) → (m < n) ⊎ (n ≤ m)
    order m n = grind arith

    by_order : (other back : List ℕ) → text ≡ other ++ (mark ++ back) → (length other < i) ⊎ (i ≤ length other) → length (take i text) ≤ length other
    by_order other back same (inl less) = absurd (none (length other) less back (at_front text other (mark ++ back) same))
    by_order other back same (inr more) = (let long = length-take-le i text within in omega (arith, long))

pub lacks_all : (mark text : List ℕ) → NoneBefore mark text (length text) → ((rest : List ℕ) → drop (length text) text ≢ mark ++ rest) → Lacks mark text
lacks_all mark text none last other back same = by_order (order (length other) (length text))
  where
    order : (m n : ℕ) → (m < n) ⊎ (n ≤ m)
    order m n = grind arith

    long : length text ≡ length other + length (mark ++ back)
    long = ap length same ∙ length-append other (mark ++ back)

    by_order : (length other < length text) ⊎ (length text ≤ length other) → ⊥
    by_order (inl less) = none (length other) less back (at_front text other (mark ++ back) same)
    by_order (inr more) =
        let whole : length text ≡ length other = omega (arith, long) in
        last back (ap (λ n. drop n text) whole ∙ at_front text other (mark ++ back) same)
