-- The classes of a file one after another.
use Rattle.std.proofs.Common.{◌≡◌, ℕ, suc, ◌+◌, arith, List, [], ◌∷◌, Some, None, drop, slice_get, refl, sym, ap, ◌∙◌}
use Rattle.abc_format.specs.declared.records.ClassInfo.{ClassInfo}
use Rattle.abc_format.specs.declared.records.InstanceInfo.{InstanceInfo}
use Rattle.avm2_program.specs.Naming.{Naming}
use Rattle.avm2_program.specs.Resolving.{classes_from, file_class}
use Rattle.avm2_resolver.proofs.Owners.{drop_none, drop_some}

module _ (g : Naming) where
  no_more : (k : ℕ) (instances : List InstanceInfo) → classes_from g k instances [] ≡ []
  no_more k [] = refl
  no_more k (i ∷ instances) = refl

  -- no class stands at the number
  pub none_left : (k : ℕ) (instances : List InstanceInfo) (classes : List ClassInfo) → slice_get classes k ≡ None → classes_from g k instances (drop k classes) ≡ []
  none_left k instances classes e = ap (classes_from g k instances) (drop_none classes k e) ∙ no_more k instances

  -- the next class
  pub next_class : (instances : List InstanceInfo) (place : ℕ) (i : InstanceInfo) → slice_get instances place ≡ Some i → (k : ℕ) (c : ClassInfo) (classes : List ClassInfo)
      → slice_get classes k ≡ Some c → (next : ℕ) → next ≡ k + 1
      → classes_from g k (drop place instances) (drop k classes) ≡ file_class g k i c ∷ classes_from g next (drop (place + 1) instances) (drop next classes)
  next_class instances place i at k c classes here next is =
      let a : place + 1 ≡ suc place = omega arith in
      let b : next ≡ suc k = omega arith in
      ap (λ is. classes_from g k is (drop k classes)) (drop_some instances place i at)
      ∙ (ap (classes_from g k (i ∷ drop (suc place) instances)) (drop_some classes k c here)
      ∙ (ap (λ n. file_class g k i c ∷ classes_from g n (drop (suc place) instances) (drop n classes)) (sym b)
      ∙ ap (λ n. file_class g k i c ∷ classes_from g next (drop n instances) (drop next classes)) (sym a)))
