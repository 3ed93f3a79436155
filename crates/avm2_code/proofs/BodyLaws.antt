-- The list of the instructions of a body.
use Rattle.std.proofs.Common.{◌≡◌, ℕ, zero, suc, ◌+◌, ◌<◌, ◌≤◌, ◌⊎◌, inl, inr, ⊎_elim, List, [], ◌∷◌, ◌++◌, length, Some, Ok, Err, slice_get, refl, sym, ap, ◌∙◌, subst, arith}
use Rattle.std.proofs.lemmas.Bool.{cases_lt}
use Rattle.std.proofs.lemmas.List.{append-nil}
use Rattle.avm2_code.specs.declared.body.PlacedInstruction.{PlacedInstruction}
use Rattle.avm2_code.specs.declared.instruction.Instruction.{Instruction}
use Rattle.avm2_code.specs.declared.reason.CodeReason.{CodeReason}
use Rattle.avm2_code.specs.Body.{IsReadTo, HasInstruction, EndsAt, AreReadFrom, AreInstructions}
use Rattle.avm2_code.specs.Laws.{StandsIn, IsFollowed, ByNext, AtLast, IsListed, HasOneList}
use Rattle.avm2_code.specs.Reading.{Reading, instruction_at}
use Rattle.avm2_code.proofs.InstructionLaws.{read_stands, standing-bounds}

some_same : {A : Type 0} (x y : A) → Some x ≡ Some y → x ≡ y
some_same x y e = cc

ok_same : (x y : Instruction × ℕ) → (let r : Reading (Instruction × ℕ) = Ok x in r) ≡ Ok y → x ≡ y
ok_same x y e = cc

ok_or_err : (x : Instruction × ℕ) (r : CodeReason) → (let q : Reading (Instruction × ℕ) = Ok x in q) ≡ Err r → ⊥
ok_or_err x r e = cc

none_stands : {A : Type 0} (k : ℕ) (x : A) → slice_get [] k ≡ Some x → ⊥
none_stands k x e = cc

-- an instruction that can be read ends within the code
pub read_bounds : (code : List ℕ) (place : ℕ) (i : Instruction) (next : ℕ) → instruction_at code place ≡ Ok (i, next) → (place < next) × (next ≤ length code)
read_bounds code place i next e = standing-bounds code place i next (read_stands code place (i, next) e)

-- nothing is read behind the end
pub ends_behind : (code : List ℕ) (place : ℕ) → length code ≤ place → EndsAt code place
ends_behind code place le = by (instruction_at code place) refl
  where
    by : (r : Reading (Instruction × ℕ)) → instruction_at code place ≡ r → EndsAt code place
    by (Ok x) e = absurd (let b = read_bounds code place x.0 x.1 e in omega arith)
    by (Err r) e = record { reason = r; is = e }

-- the place behind the last item
abbrev end_from : ℕ → List PlacedInstruction → ℕ
end_from place [] = place
end_from place (x ∷ xs) = end_from x.next xs

module _ (code : List ℕ) where
  -- a list from each place
  from : (fuel place : ℕ) → length code ≤ place + fuel → (xs : List PlacedInstruction) × AreReadFrom code place xs
  from zero place le = ([], ends_behind code place (omega arith))
  from (suc fuel) place le = by (instruction_at code place) refl (λ next below. from fuel next (omega arith))
    where
      by : (r : Reading (Instruction × ℕ)) → instruction_at code place ≡ r → ((next : ℕ) → place < next → (xs : List PlacedInstruction) × AreReadFrom code next xs)
          → (xs : List PlacedInstruction) × AreReadFrom code place xs
      by (Ok x) e further =
          let more = further x.1 (read_bounds code place x.0 x.1 e).0 in
          (record { place = place; instruction = x.0; next = x.1 } ∷ more.0, (refl, e, more.1))
      by (Err r) e further = ([], record { reason = r; is = e })

  one_from : (place : ℕ) (xs ys : List PlacedInstruction) → AreReadFrom code place xs → AreReadFrom code place ys → xs ≡ ys
  one_from place [] [] h k = refl
  one_from place [] (y ∷ ys) h k = absurd (ok_or_err (y.instruction, y.next) h.reason (sym k.1 ∙ h.is))
  one_from place (x ∷ xs) [] h k = absurd (ok_or_err (x.instruction, x.next) k.reason (sym h.1 ∙ k.is))
  one_from place (x ∷ xs) (y ∷ ys) h k =
      let at : x.place ≡ y.place = h.0 ∙ sym k.0 in
      let read = ok_same (x.instruction, x.next) (y.instruction, y.next) (sym h.1 ∙ k.1) in
      let same : x ≡ y = ap (λ (p : ℕ). record { place = p; instruction = x.instruction; next = x.next }) at ∙ ap (λ (r : Instruction × ℕ). record { place = y.place; instruction = r.0; next = r.1 }) read in
      let rest : xs ≡ ys = one_from y.next xs ys (subst (λ (r : Instruction × ℕ). AreReadFrom code r.1 xs) read h.2) k.2 in
      ap (λ z. z ∷ xs) same ∙ ap (λ zs. y ∷ zs) rest

  -- each item was read where as many others were read before
  item_read : (count place : ℕ) (xs : List PlacedInstruction) → IsReadTo code count place → AreReadFrom code place xs → (k : ℕ) (x : PlacedInstruction) → slice_get xs k ≡ Some x
      → ((n : ℕ) × IsReadTo code n x.place) × (instruction_at code x.place ≡ Ok (x.instruction, x.next))
  item_read count place [] r h k x e = absurd (none_stands k x e)
  item_read count place (y ∷ ys) r h zero x e =
      let same = some_same y x e in
      let at : place ≡ x.place = sym h.0 ∙ ap (λ z. z.place) same in
      ((count, subst (IsReadTo code count) at r), ap (instruction_at code) (sym at) ∙ h.1 ∙ ap (λ z. Ok (z.instruction, z.next)) same)
  item_read count place (y ∷ ys) r h (suc k) x e = item_read (suc count) y.next ys (place, y.instruction, r, h.1) h.2 k x e

  -- behind each item stands the next
  follows_from : (place : ℕ) (xs : List PlacedInstruction) → AreReadFrom code place xs → (k : ℕ) (x : PlacedInstruction) → slice_get xs k ≡ Some x → IsFollowed code xs k x
  follows_from place [] h k x e = absurd (none_stands k x e)
  follows_from place (y ∷ []) h zero x e = AtLast (omega arith) (subst (EndsAt code) (ap (λ z. z.next) (some_same y x e)) h.2)
  follows_from place (y ∷ z ∷ zs) h zero x e = ByNext (record { it = z; is = refl; at = h.2.0 ∙ ap (λ w. w.next) (some_same y x e) })
  follows_from place (y ∷ ys) h (suc k) x e = further (follows_from y.next ys h.2 k x e)
    where
      further : IsFollowed code ys k x → IsFollowed code (y ∷ ys) (suc k) x
      further (ByNext s) = ByNext (record { it = s.it; is = s.is; at = s.at })
      further (AtLast l r) = AtLast (omega arith) r

  -- an instruction of the code is an item, or the one at the end of the list
  pub placed : (xs : List PlacedInstruction) → AreInstructions code xs → (count place : ℕ) → IsReadTo code count place → StandsIn xs count place ⊎ (EndsAt code place × (count ≡ length xs))
  placed [] h zero place r = inr (subst (EndsAt code) (sym r) h, refl)
  placed (x ∷ xs) h zero place r = inl (record { it = x; is = refl; at = h.0 ∙ sym r })
  placed xs h (suc count) place r = by (placed xs h count r.0 r.2)
    where
      next : (s : StandsIn xs count r.0) → s.it.next ≡ place
      next s =
          let own = item_read 0 0 xs refl h count s.it s.is in
          ap (λ (y : Instruction × ℕ). y.1) (ok_same (s.it.instruction, s.it.next) (r.1, place) (sym own.1 ∙ ap (instruction_at code) s.at ∙ r.3))

      on : (s : StandsIn xs count r.0) → IsFollowed code xs count s.it → StandsIn xs (suc count) place ⊎ (EndsAt code place × (suc count ≡ length xs))
      on s (ByNext t) = inl (record { it = t.it; is = t.is; at = t.at ∙ next s })
      on s (AtLast l e) = inr (subst (EndsAt code) (next s) e, l)

      by : StandsIn xs count r.0 ⊎ (EndsAt code r.0 × (count ≡ length xs)) → StandsIn xs (suc count) place ⊎ (EndsAt code place × (suc count ≡ length xs))
      by (inl s) = on s (follows_from 0 xs h count s.it s.is)
      by (inr e) = absurd (ok_or_err (r.1, place) e.0.reason (sym r.3 ∙ e.0.is))

  -- no item stands before the place that is read from
  not_before : (place : ℕ) (xs : List PlacedInstruction) → AreReadFrom code place xs → (k : ℕ) (x : PlacedInstruction) → slice_get xs k ≡ Some x → place ≤ x.place
  not_before place [] h k x e = absurd (none_stands k x e)
  not_before place (y ∷ ys) h zero x e = let same = ap (λ z. z.place) (some_same y x e) in let at = h.0 in omega arith
  not_before place (y ∷ ys) h (suc k) x e =
      let b = read_bounds code place y.instruction y.next h.1 in
      let more = not_before y.next ys h.2 k x e in
      omega arith

  -- the items stand in the order of their places
  in_order : (place : ℕ) (xs : List PlacedInstruction) → AreReadFrom code place xs → (j k : ℕ) (x y : PlacedInstruction) → j < k → slice_get xs j ≡ Some x → slice_get xs k ≡ Some y → x.place < y.place
  in_order place [] h j k x y lt e f = absurd (none_stands j x e)
  in_order place (z ∷ zs) h j zero x y lt e f = absurd (omega arith)
  in_order place (z ∷ zs) h zero (suc k) x y lt e f =
      let same = ap (λ w. w.place) (some_same z x e) in
      let at = h.0 in
      let b = read_bounds code place z.instruction z.next h.1 in
      let more = not_before z.next zs h.2 k y f in
      omega arith
  in_order place (z ∷ zs) h (suc j) (suc k) x y lt e f = in_order z.next zs h.2 j k x y (omega arith) e f

  stands_in : (xs : List PlacedInstruction) (k : ℕ) (x : PlacedInstruction) → AreInstructions code xs → slice_get xs k ≡ Some x → HasInstruction code x.place × (instruction_at code x.place ≡ Ok (x.instruction, x.next))
  stands_in xs k x h e =
      let own = item_read 0 0 xs refl h k x e in
      let b = read_bounds code x.place x.instruction x.next own.1 in
      (record { count = own.0.0; read = own.0.1; inside = omega arith }, own.1)

  is_listed : (xs : List PlacedInstruction) (place : ℕ) (i : Instruction) (next : ℕ) → AreInstructions code xs → HasInstruction code place → instruction_at code place ≡ Ok (i, next) → IsListed xs place i next
  is_listed xs place i next h s e = by (placed xs h s.count place s.read)
    where
      by : StandsIn xs s.count place ⊎ (EndsAt code place × (s.count ≡ length xs)) → IsListed xs place i next
      by (inl t) =
          let own = item_read 0 0 xs refl h s.count t.it t.is in
          let read = ok_same (t.it.instruction, t.it.next) (i, next) (sym own.1 ∙ ap (instruction_at code) t.at ∙ e) in
          let same : t.it ≡ record { place = place; instruction = i; next = next } = ap (λ (p : ℕ). record { place = p; instruction = t.it.instruction; next = t.it.next }) t.at ∙ ap (λ (r : Instruction × ℕ). record { place = place; instruction = r.0; next = r.1 }) read in
          record { number = s.count; is = t.is ∙ ap Some same }
      by (inr t) = absurd (ok_or_err (i, next) t.0.reason (sym e ∙ t.0.is))

  -- what stands at a place within the first so many of a list
  find : (xs : List PlacedInstruction) (place : ℕ) → ((k : ℕ) × StandsIn xs k place) ⊎ ((k : ℕ) → StandsIn xs k place → ⊥)
  find [] place = inr (λ k s. none_stands k s.it s.is)
  find (x ∷ xs) place =
      ⊎_elim (λ lt. later (find xs place) (λ e. omega arith)) (λ le. ⊎_elim (λ lt. later (find xs place) (λ e. omega arith)) (λ ge. inl (0, record { it = x; is = refl; at = omega arith })) (cases_lt place x.place))
      (cases_lt x.place place)
    where
      no_more : (x.place ≡ place → ⊥) → ((k : ℕ) → StandsIn xs k place → ⊥) → (k : ℕ) → StandsIn (x ∷ xs) k place → ⊥
      no_more ne none zero s = ne (ap (λ z. z.place) (some_same x s.it s.is) ∙ s.at)
      no_more ne none (suc k) s = none k (record { it = s.it; is = s.is; at = s.at })

      later : ((k : ℕ) × StandsIn xs k place) ⊎ ((k : ℕ) → StandsIn xs k place → ⊥) → (x.place ≡ place → ⊥) → ((k : ℕ) × StandsIn (x ∷ xs) k place) ⊎ ((k : ℕ) → StandsIn (x ∷ xs) k place → ⊥)
      later (inl s) ne = inl (suc s.0, record { it = s.1.it; is = s.1.is; at = s.1.at })
      later (inr none) ne = inr (no_more ne none)

  -- the place behind the list is read to
  end_read : (count place : ℕ) (xs : List PlacedInstruction) → IsReadTo code count place → AreReadFrom code place xs → IsReadTo code (count + length xs) (end_from place xs)
  end_read count place [] r h = let e : count ≡ count + 0 = omega arith in subst (λ n. IsReadTo code n place) e r
  end_read count place (x ∷ xs) r h =
      let e : suc count + length xs ≡ count + suc (length xs) = omega arith in
      subst (λ n. IsReadTo code n (end_from x.next xs)) e (end_read (suc count) x.next xs (place, x.instruction, r, h.1) h.2)

  -- behind as many instructions there is one place
  pub one_place : (count p q : ℕ) → IsReadTo code count p → IsReadTo code count q → p ≡ q
  one_place zero p q h k = h ∙ sym k
  one_place (suc count) p q h k = ap (λ x. x.1) (ok_same (h.1, p) (k.1, q) (sym h.3 ∙ ap (instruction_at code) (one_place count h.0 k.0 h.2 k.2) ∙ k.3))

  -- whether an instruction stands at a place is decided
  pub stands_or_not : (place : ℕ) → HasInstruction code place ⊎ (HasInstruction code place → ⊥)
  stands_or_not place = by (from (length code) 0 (omega arith))
    where
      by : (xs : List PlacedInstruction) × AreInstructions code xs → HasInstruction code place ⊎ (HasInstruction code place → ⊥)
      by (xs, h) = among (find xs place)
        where
          read : IsReadTo code (length xs) (end_from 0 xs)
          read = let e : 0 + length xs ≡ length xs = omega arith in subst (λ n. IsReadTo code n (end_from 0 xs)) e (end_read 0 0 xs refl h)

          -- an instruction that is no item stands at the end
          at_end : ((k : ℕ) → StandsIn xs k place → ⊥) → HasInstruction code place → end_from 0 xs ≡ place
          at_end none s = last (placed xs h s.count place s.read)
            where
              last : StandsIn xs s.count place ⊎ (EndsAt code place × (s.count ≡ length xs)) → end_from 0 xs ≡ place
              last (inl t) = absurd (none s.count t)
              last (inr t) = one_place (length xs) (end_from 0 xs) place read (subst (λ n. IsReadTo code n place) t.1 s.read)

          other : ((k : ℕ) → StandsIn xs k place → ⊥) → (end_from 0 xs ≡ place → ⊥) → HasInstruction code place ⊎ (HasInstruction code place → ⊥)
          other none ne = inr (λ s. ne (at_end none s))

          here : end_from 0 xs ≡ place → HasInstruction code place ⊎ (HasInstruction code place → ⊥)
          here e = ⊎_elim (λ lt. inl (record { count = length xs; read = subst (IsReadTo code (length xs)) e read; inside = lt })) (λ le. inr (λ s. let inside = s.inside in omega arith)) (cases_lt place (length code))

          among : ((k : ℕ) × StandsIn xs k place) ⊎ ((k : ℕ) → StandsIn xs k place → ⊥) → HasInstruction code place ⊎ (HasInstruction code place → ⊥)
          among (inl s) = inl (subst (HasInstruction code) s.1.at (stands_in xs s.0 s.1.it h s.1.is).0)
          among (inr none) = ⊎_elim (λ lt. other none (λ e. omega arith)) (λ le. ⊎_elim (λ lt. other none (λ e. omega arith)) (λ ge. here (omega arith)) (cases_lt place (end_from 0 xs))) (cases_lt (end_from 0 xs) place)

pub one_list : HasOneList
one_list = record {
  some = λ code. from code (length code) 0 (omega arith);
  one = λ code. one_from code 0;
  stands = λ code xs number x h e. stands_in code xs number x h e;
  listed = is_listed;
  followed = λ code xs number x h e. follows_from code 0 xs h number x e;
  ordered = λ code xs number other x y h lt e f. in_order code 0 xs h number other x y lt e f;
  decided = stands_or_not;
}

-- where no more can be read, the list is whole
pub read_all : (code : List ℕ) (xs : List PlacedInstruction) (place : ℕ) → EndsAt code place → ((rest : List PlacedInstruction) → AreReadFrom code place rest → AreInstructions code (xs ++ rest))
    → AreInstructions code xs
read_all code xs place e before = subst (AreInstructions code) (append-nil xs) (before [] e)
