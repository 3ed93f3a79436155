use Rattle.std.proofs.Common.{◌≡◌, ℕ, ◌<◌, ◌++◌, List, drop}
use Rattle.mxml_items.proofs.bytes.around.Given as goal

abbrev pub invariant-loop-i : goal.invariant-loop-i
invariant-loop-i l = (k : ℕ) → k < l.i → (rest : List ℕ) → drop k l.text ≡ l.mark ++ rest → ⊥
