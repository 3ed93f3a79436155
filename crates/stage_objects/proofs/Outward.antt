-- The ancestors of an object, one step after another.
use Rattle.std.proofs.Common.{◌≡◌, ℕ, suc, ◌+◌, ◌-◌, ◌<◌, List, [], ◌∷◌, ◌++◌, Bool, false, Option, Some, ap, ◌∙◌, append_assoc, arith}
use Rattle.std.specs.Prelude.{◌||◌}
use Rattle.std.specs.List.{list_any}
use Rattle.flex_base.specs.declared.value.ObjId.{ObjId}
use Rattle.flex_base.specs.Events.{outward}

-- one object, and those outside it
outward_some : (parent : ObjId → Option ObjId) (n k : ℕ) (o : ObjId) → k < n → outward parent (n - k) (Some o) ≡ o ∷ outward parent (n - (k + 1)) (parent o)
outward_some parent n k o h =
    let e : n - k ≡ suc (n - (k + 1)) = omega arith in
    ap (λ j. outward parent j (Some o)) e

-- a step outward, with the ancestors so far
pub outward_pushed : (parent : ObjId → Option ObjId) (n k : ℕ) (so_far more all : List ObjId) (next : Option ObjId) (o : ObjId) (then : Option ObjId) → k < n → next ≡ Some o → then ≡ parent o → more ≡ so_far ++ o ∷ [] → so_far ++ outward parent (n - k) next ≡ all → more ++ outward parent (n - (k + 1)) then ≡ all
outward_pushed parent n k so_far more all next o then lt is goes pushed h =
    let rest : List ObjId = outward parent (n - (k + 1)) (parent o) in
    let e : outward parent (n - k) next ≡ o ∷ rest = ap (outward parent (n - k)) is ∙ outward_some parent n k o lt in
    let f : outward parent (n - (k + 1)) then ≡ rest = ap (outward parent (n - (k + 1))) goes in
    let g : (so_far ++ o ∷ []) ++ rest ≡ so_far ++ o ∷ rest = append_assoc so_far (o ∷ []) rest in
    cc

-- a step outward, past an ancestor that doesn't pass the test
pub outward_passed : (test : ObjId → Bool) (parent : ObjId → Option ObjId) (n k : ℕ) (any : Bool) (next : Option ObjId) (o : ObjId) (then : Option ObjId) → k < n → next ≡ Some o → then ≡ parent o → test o ≡ false → list_any test (outward parent (n - k) next) ≡ any → list_any test (outward parent (n - (k + 1)) then) ≡ any
outward_passed test parent n k any next o then lt is goes fails h =
    let rest : List ObjId = outward parent (n - (k + 1)) (parent o) in
    let e : outward parent (n - k) next ≡ o ∷ rest = ap (outward parent (n - k)) is ∙ outward_some parent n k o lt in
    let f : outward parent (n - (k + 1)) then ≡ rest = ap (outward parent (n - (k + 1))) goes in
    let g : list_any test (o ∷ rest) ≡ list_any test rest = ap (λ t. t || list_any test rest) fails in
    cc
