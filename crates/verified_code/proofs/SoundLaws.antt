-- What verified code gives.
use Rattle.std.proofs.Common.{◌≡◌, ℕ, zero, suc, ◌<◌, ◌≤◌, ◌⊎◌, inl, inr, ⊎_elim, List, [], ◌∷◌, length, Bool, true, false, Some, Ok, Err, slice_get, refl, sym, ap, ◌∙◌, subst, arith, ℤ, pos, negsuc, All}
use Rattle.std.specs.Prelude.{not, ◌&&◌, ◌||◌, nat_lt, nat_le, if◌then◌else◌}
use Rattle.std.specs.List.{list_any}
use Rattle.std.proofs.lemmas.Bool.{cases_lt, leb-true, le-ltb}
use Rattle.std.proofs.lemmas.List.Elements.{All-cons, All-nil}
use Rattle.abc_format.specs.declared.records.Abc.{Abc}
use Rattle.abc_format.specs.declared.records.MethodBody.{MethodBody}
use Rattle.abc_format.specs.declared.records.Multiname.{Multiname}
use Rattle.abc_format.specs.declared.tables.IndexRule.TheVariants.{Entry, Item}
use Rattle.abc_format.specs.Indexes.{allows}
use Rattle.avm2_code.specs.declared.body.PlacedInstruction.{PlacedInstruction}
use Rattle.avm2_code.specs.declared.instruction.Instruction.{Instruction}
use Rattle.avm2_code.specs.declared.instruction.Instruction.TheVariants.{Label}
use Rattle.avm2_code.specs.declared.reason.CodeReason.{CodeReason}
use Rattle.avm2_code.specs.declared.reason.CodeReason.TheVariants as reason
use Rattle.avm2_code.specs.declared.table.LocalUse.{LocalUse}
use Rattle.avm2_code.specs.declared.table.LocalUse.TheVariants.{Nothing, Reads as ReadsLocal, Writes}
use Rattle.avm2_code.specs.declared.table.OperandForm.{OperandForm}
use Rattle.avm2_code.specs.declared.table.OperandForm.TheVariants.{U30}
use Rattle.avm2_code.specs.declared.table.Role.TheVariants.{Name, String, Int, Class}
use Rattle.avm2_code.specs.Body.{HasInstruction, EndsAt, AreReadFrom, AreInstructions}
use Rattle.avm2_code.specs.Laws.{IsFollowed, ByNext, AtLast, IsListed}
use Rattle.avm2_code.specs.Reading.{Reading, instruction_at}
use Rattle.avm2_code.specs.Table.{row, operands, IsUnreadable}
use Rattle.avm2_code.proofs.BodyLaws.{read_bounds, stands_or_not, one_list}
use Rattle.avm2_code.proofs.InstructionLaws.{unreadable}
use Rattle.verified_code.specs.declared.Depths.{Depths}
use Rattle.verified_code.specs.Operands.{is_missing, is_unplayed, unplayed_in, is_late_kind, is_runtime_kind, name_at}
use Rattle.verified_code.specs.Paths.{Reads, GoesOn, successor, branch_place}
use Rattle.verified_code.specs.Sound.{UsesBelow, entry_at, IsPlayed, IsThere, HasOperands, LeadsWell, IsSoundAt, GoesWell, IsSound, LeadsIn, HasNext, IsSoundItem, AreSound, VerifiedIsSound, VerifiedListsAreSound}
use Rattle.verified_code.specs.Verified.{parameters, effect, IsPassed, KeepsDepths, HasDepths, TooManyValues, ScopesBelow, TooManyScopes, Different, HasNoReason, UsesFrom}

some_same : {A : Type 0} (x y : A) → Some x ≡ Some y → x ≡ y
some_same x y e = cc

pos_same : (x y : ℕ) → pos x ≡ pos y → x ≡ y
pos_same x y e = cc

ok_same : (x y : Instruction × ℕ) → (let r : Reading (Instruction × ℕ) = Ok x in r) ≡ Ok y → x ≡ y
ok_same x y e = cc

ok_or_err : (x : Instruction × ℕ) (r : CodeReason) → (let q : Reading (Instruction × ℕ) = Ok x in q) ≡ Err r → ⊥
ok_or_err x r e = cc

not_true : (t : Bool) → (t ≡ true → ⊥) → t ≡ false
not_true true h = absurd (h refl)
not_true false h = refl

or_left : (s t : Bool) → (s || t) ≡ false → s ≡ false
or_left true t e = absurd (cc)
or_left false t e = refl

or_right : (s t : Bool) → (s || t) ≡ false → t ≡ false
or_right true t e = absurd (cc)
or_right false t e = e

and_left : (s t : Bool) → (s && t) ≡ true → s ≡ true
and_left true t e = refl
and_left false t e = absurd (cc)

and_right : (s t : Bool) → (s && t) ≡ true → t ≡ true
and_right true t e = e
and_right false t e = absurd (cc)

not_false : (t : Bool) → not t ≡ false → t ≡ true
not_false true e = refl
not_false false e = absurd (cc)

-- at most so much, where more can't be
at_most : (m n : ℕ) → (n < m → ⊥) → m ≤ n
at_most m n h = ⊎_elim (λ lt. absurd (h lt)) (λ le. le) (cases_lt n m)

item_there : {A : Type 0} (xs : List A) (n : ℕ) → n < length xs → (x : A) × (slice_get xs n ≡ Some x)
item_there [] n lt = absurd (omega arith)
item_there (x ∷ xs) zero lt = (x, refl)
item_there (x ∷ xs) (suc n) lt = item_there xs n (omega arith)

entry_there : {A : Type 0} (xs : List A) (n : ℕ) → allows (Entry (length xs)) n ≡ true → (x : A) × (entry_at xs n ≡ Some x)
entry_there xs zero e = absurd (let f = and_left (nat_lt 0 0) (nat_le 0 (length xs)) e in cc)
entry_there xs (suc n) e = let le = leb-true (suc n) (length xs) (and_right (nat_lt 0 (suc n)) (nat_le (suc n) (length xs)) e) in item_there xs n (omega arith)

-- a name that is played
played : (late_name : Bool) (name : Multiname) → unplayed_in late_name (Some name) ≡ false → IsPlayed late_name name
played late_name name e = by (is_runtime_kind name) (is_late_kind name) refl refl e
  where
    by : (s t : Bool) → is_runtime_kind name ≡ s → is_late_kind name ≡ t → (if s then true else if t then not late_name else false) ≡ false → IsPlayed late_name name
    by true t r l e = absurd (cc)
    by false true r l e = record { no_runtime = r; late = λ h. not_false late_name e }
    by false false r l e = record { no_runtime = r; late = λ h. absurd (let f = sym h ∙ l in cc) }

module _ (a : Abc) (late_name : Bool) where
  name_there : (n : ℕ) → allows (Entry (length a.constant_pool.multinames)) n ≡ true → unplayed_in late_name (name_at a.constant_pool n) ≡ false → IsThere a late_name (U30 Name n)
  name_there zero e u = absurd (let f = entry_there a.constant_pool.multinames 0 e in let g = f.1 in cc)
  name_there (suc n) e u =
      let f = entry_there a.constant_pool.multinames (suc n) e in
      (f.0, f.1, played late_name f.0 (ap (unplayed_in late_name) (sym f.1) ∙ u))

  class_there : (n : ℕ) → allows (Item (length a.classes)) n ≡ true → IsThere a late_name (U30 Class n)
  class_there n e = ⊎_elim (λ lt. item_there a.classes n lt) (λ le. absurd (let f = sym e ∙ le-ltb n (length a.classes) le in cc)) (cases_lt n (length a.classes))

  -- an operand names what is there
  there : (o : OperandForm) → is_missing a o ≡ false → is_unplayed a.constant_pool late_name o ≡ false → IsThere a late_name o
  there (U30 Name n) e u = name_there n (not_false _ e) u
  there (U30 String n) e u = entry_there a.constant_pool.strings n (not_false _ e)
  there (U30 Int n) e u = entry_there a.constant_pool.integers n (not_false _ e)
  there (U30 Class n) e u = class_there n (not_false _ e)
  there _ e u = tt

  all_there : (os : List OperandForm) → list_any (is_missing a) os ≡ false → list_any (is_unplayed a.constant_pool late_name) os ≡ false → All (IsThere a late_name) os
  all_there [] e u = All-nil (IsThere a late_name)
  all_there (o ∷ os) e u =
      All-cons (IsThere a late_name) o os (there o (or_left (is_missing a o) (list_any (is_missing a) os) e) (or_left (is_unplayed a.constant_pool late_name o) (list_any (is_unplayed a.constant_pool late_name) os) u))
      (all_there os (or_right (is_missing a o) (list_any (is_missing a) os) e) (or_right (is_unplayed a.constant_pool late_name o) (list_any (is_unplayed a.constant_pool late_name) os) u))

used_below : (count : ℕ) (u : LocalUse) → (UsesFrom count u → ⊥) → UsesBelow count u
used_below count Nothing h = tt
used_below count (ReadsLocal local) h = ⊎_elim (λ lt. lt) (λ le. absurd (h le)) (cases_lt local count)
used_below count (Writes local) h = ⊎_elim (λ lt. lt) (λ le. absurd (h le)) (cases_lt local count)

label_or_not : (i : Instruction) → (i ≡ Label) ⊎ (i ≡ Label → ⊥)
label_or_not Label = inl refl
label_or_not _ = inr (λ e. cc)

same_or_not : (d e : Depths) → (d ≡ e) ⊎ (d ≡ e → ⊥)
same_or_not d e = ⊎_elim (λ lt. inr (other lt)) (λ le. ⊎_elim (λ lt. inr (another lt)) (λ ge. ⊎_elim (λ lt. inr (third lt)) (λ le2. ⊎_elim (λ lt. inr (fourth lt)) (λ ge2. inl (one (omega arith) (omega arith))) (cases_lt e.scopes d.scopes)) (cases_lt d.scopes e.scopes)) (cases_lt e.stack d.stack)) (cases_lt d.stack e.stack)
  where
    other : d.stack < e.stack → d ≡ e → ⊥
    other lt f = let g = ap (λ z. z.stack) f in omega arith

    another : e.stack < d.stack → d ≡ e → ⊥
    another lt f = let g = ap (λ z. z.stack) f in omega arith

    third : d.scopes < e.scopes → d ≡ e → ⊥
    third lt f = let g = ap (λ z. z.scopes) f in omega arith

    fourth : e.scopes < d.scopes → d ≡ e → ⊥
    fourth lt f = let g = ap (λ z. z.scopes) f in omega arith

    one : d.stack ≡ e.stack → d.scopes ≡ e.scopes → d ≡ e
    one s t = ap (λ (n : ℕ). record { stack = n; scopes = d.scopes }) s ∙ ap (λ (n : ℕ). record { stack = e.stack; scopes = n }) t

some_code : (code : List ℕ) → (code ≡ [] → ⊥) → 0 < length code
some_code [] h = absurd (h refl)
some_code (x ∷ xs) h = omega arith

module _ (a : Abc) (b : MethodBody) (no : HasNoReason a b) where
  reads_all : (place : ℕ) → HasInstruction b.code place → (i : Instruction) × (next : ℕ) × Reads b.code place i next
  reads_all place h = by (instruction_at b.code place) refl
    where
      none : (r : CodeReason) → IsUnreadable r → instruction_at b.code place ≡ Err r → ⊥
      none reason.Cut u e = no reason.Cut place (h, e)
      none reason.UnknownOpcode u e = no reason.UnknownOpcode place (h, e)
      none reason.Number u e = no reason.Number place (h, e)
      none _ u e = u

      by : (r : Reading (Instruction × ℕ)) → instruction_at b.code place ≡ r → (i : Instruction) × (next : ℕ) × Reads b.code place i next
      by (Ok x) e = (x.0, x.1, record { stands = h; read = e })
      by (Err r) e = absurd (none r (unreadable b.code place r e) e)

  module _ (place : ℕ) (i : Instruction) (next : ℕ) (r : Reads b.code place i next) where
    passed : IsPassed a i
    passed = record { index = λ w. no reason.Index place (i, next, r, w); name = λ w. no reason.NotPlayed place (i, next, r, w) }

    has_operands : HasOperands a i
    has_operands = all_there a (row (λ name. false) i).late_name (operands i) (not_true _ passed.index) (not_true _ passed.name)

    leads_well : (to : ℤ) → branch_place (successor i) next ≡ Some to → LeadsWell b.code place to
    leads_well (negsuc n) e = absurd (no reason.OffInstruction place (i, next, r, record { to = negsuc n; branches = e; meets_none = λ p f h. (cc) }))
    leads_well (pos t) e = by (stands_or_not b.code t)
      where
        back : t ≤ place → HasInstruction b.code t → ((behind : ℕ) → instruction_at b.code t ≡ Ok (Label, behind) → ⊥) → ⊥
        back le h none = no reason.BackwardToNoLabel place (i, next, r, record { to = t; branches = e; back = le; meets = h; no_label = none })

        label : HasInstruction b.code t → t ≤ place → (behind : ℕ) × (instruction_at b.code t ≡ Ok (Label, behind))
        label h le = it (reads_all t h)
          where
            it : (j : Instruction) × (behind : ℕ) × Reads b.code t j behind → (behind : ℕ) × (instruction_at b.code t ≡ Ok (Label, behind))
            it (j, behind, q) =
                ⊎_elim (λ is. (behind, q.read ∙ ap (λ k. Ok (k, behind)) is))
                (λ other. absurd (back le h (λ n f. other (ap (λ (x : Instruction × ℕ). x.0) (ok_same (j, behind) (Label, n) (sym q.read ∙ f)))))) (label_or_not j)

        by : HasInstruction b.code t ⊎ (HasInstruction b.code t → ⊥) → LeadsWell b.code place (pos t)
        by (inl h) = record { target = t; is = refl; meets = h; label = label h }
        by (inr none) = absurd (no reason.OffInstruction place (i, next, r, record { to = pos t; branches = e; meets_none = λ p f h. none (subst (HasInstruction b.code) (sym (pos_same t p f)) h) }))

    stands_behind : (next ≡ length b.code) ⊎ HasInstruction b.code next
    stands_behind =
        let w = read_bounds b.code place i next r.read in
        ⊎_elim (λ lt. inr (record { count = suc r.stands.count; read = (place, i, r.stands.read, r.read); inside = lt })) (λ le. inl (omega arith)) (cases_lt next (length b.code))

    sound_at : IsSoundAt a b place i next
    sound_at = record {
      operands = has_operands;
      local = used_below b.local_count (effect a i).local (λ u. no reason.LocalNumber place (inr (i, next, r, u)));
      branch = leads_well;
      behind = stands_behind;
    }

    module _ (d : Depths) (arrives : HasDepths a b place d) where
      never_lacks : (KeepsDepths a b i d → ⊥) → ⊥
      never_lacks lacks = no reason.StackDepth place (inr (record { carried = d; arrives = arrives; over = i; next = next; reads = r; passes = passed; lacks = lacks }))

      keeps : KeepsDepths a b i d
      keeps = record {
        takes = at_most _ _ (λ lt. never_lacks (λ k. let h = k.takes in omega arith));
        needs = at_most _ _ (λ lt. never_lacks (λ k. let h = k.needs in omega arith));
        leaves = at_most _ _ (λ lt. never_lacks (λ k. let h = k.leaves in omega arith));
        scopes = at_most _ _ (λ lt. never_lacks (λ k. let h = k.scopes in omega arith));
      }

      meets : (to : ℕ) → GoesOn (successor i) next to → HasInstruction b.code to
      meets to (inl g) = subst (HasInstruction b.code) (sym g.1) (⊎_elim (λ ends. absurd (leaves ends)) (λ h. h) stands_behind)
        where
          leaves : next ≡ length b.code → ⊥
          leaves ends = no reason.FallsOff place (inr (record { carried = d; arrives = arrives; over = i; next = next; reads = r; passes = passed; has = keeps; falls = g.0; ends = ends }))
      meets to (inr g) = let w = leads_well (pos to) g in subst (HasInstruction b.code) (sym (pos_same to w.target w.is)) w.meets

      goes_well : GoesWell a b place d i next
      goes_well = record {
        keeps = keeps;
        goes_on = λ to g. (
          meets to g,
          (suc arrives.0, (place, d, arrives.1, record { over = i; next = next; reads = r; passes = passed; has = keeps; goes = g; meets = meets to g; carries = refl })),
        );
      }

  one_depth : (place : ℕ) (d e : Depths) → HasDepths a b place d → HasDepths a b place e → d ≡ e
  one_depth place d e h k = ⊎_elim (λ same. same) (λ differ. absurd (no reason.StackDepth 0 (inl (refl, Different (record { at = place; one = d; other = e; first = h; second = k; differ = differ }))))) (same_or_not d e)

  starts : HasInstruction b.code 0
  starts = record { count = 0; read = refl; inside = some_code b.code (λ e. no reason.FallsOff 0 (inl (e, refl))) }

  sound : IsSound a b
  sound = record {
    no_handlers = let h = at_most (length b.exceptions) 0 (λ lt. no reason.HasExceptions 0 (refl, lt)) in omega arith;
    values = at_most _ _ (λ lt. no reason.StackDepth 0 (inl (refl, TooManyValues lt)));
    scopes = at_most _ _ (λ lt. no reason.StackDepth 0 (inl (refl, ScopesBelow lt)));
    few_scopes = at_most _ _ (λ lt. no reason.StackDepth 0 (inl (refl, TooManyScopes lt)));
    locals = ⊎_elim (λ lt. lt) (λ le. absurd (no reason.LocalNumber 0 (inl (refl, inr le)))) (cases_lt (parameters (slice_get a.methods b.method)) b.local_count);
    few_locals = at_most _ _ (λ lt. no reason.LocalNumber 0 (inl (refl, inl lt)));
    starts = (starts, (0, (starts, refl, refl)));
    reads = reads_all;
    sound = sound_at;
    goes = λ place d i next h r. goes_well place i next r d h;
    one_depth = one_depth;
  }

-- the list of the instructions of such a body
module _ (a : Abc) (b : MethodBody) (s : IsSound a b) (xs : List PlacedInstruction) (are : AreInstructions b.code xs) where
  never_ends : (place : ℕ) → HasInstruction b.code place → EndsAt b.code place → ⊥
  never_ends place h e = let r = s.reads place h in ok_or_err (r.0, r.1) e.reason (sym r.2.read ∙ e.is)

  first : (first : PlacedInstruction) × (slice_get xs 0 ≡ Some first) × (first.place ≡ 0)
  first = by xs are
    where
      by : (ys : List PlacedInstruction) → AreReadFrom b.code 0 ys → (first : PlacedInstruction) × (slice_get ys 0 ≡ Some first) × (first.place ≡ 0)
      by [] h = absurd (never_ends 0 s.starts.0 h)
      by (y ∷ ys) h = (y, refl, h.0)

  module _ (number : ℕ) (x : PlacedInstruction) (is : slice_get xs number ≡ Some x) where
    reads_item : Reads b.code x.place x.instruction x.next
    reads_item = let h = one_list.stands b.code xs number x are is in record { stands = h.0; read = h.1 }

    item : IsSoundAt a b x.place x.instruction x.next
    item = s.sound x.place x.instruction x.next reads_item

    has_next : HasInstruction b.code x.next → HasNext a b xs number x
    has_next h = by (one_list.followed b.code xs number x are is)
      where
        by : IsFollowed b.code xs number x → HasNext a b xs number x
        by (ByNext t) = record { it = t.it; is = t.is; at = t.at }
        by (AtLast l e) = absurd (never_ends x.next h e)

    ends_or_goes_on : ((x.next ≡ length b.code) × (suc number ≡ length xs)) ⊎ HasNext a b xs number x
    ends_or_goes_on = by item.behind (one_list.followed b.code xs number x are is)
      where
        by : (x.next ≡ length b.code) ⊎ HasInstruction b.code x.next → IsFollowed b.code xs number x → ((x.next ≡ length b.code) × (suc number ≡ length xs)) ⊎ HasNext a b xs number x
        by (inr h) f = inr (has_next h)
        by (inl e) (ByNext t) = inr (record { it = t.it; is = t.is; at = t.at })
        by (inl e) (AtLast l g) = inl (e, l)

    leads_in : (to : ℤ) → branch_place (successor x.instruction) x.next ≡ Some to → LeadsIn a b xs number to
    leads_in to e = by (item.branch to e)
      where
        by : LeadsWell b.code x.place to → LeadsIn a b xs number to
        by w = in_list (s.reads w.target w.meets)
          where
            in_list : (i : Instruction) × (next : ℕ) × Reads b.code w.target i next → LeadsIn a b xs number to
            in_list (i, next, r) = here (one_list.listed b.code xs w.target i next are w.meets r.read)
              where
                here : IsListed xs w.target i next → LeadsIn a b xs number to
                here l = record { target = l.number; it = record { place = w.target; instruction = i; next = next }; is = l.is; at = w.is; label = label }
                  where
                    not_behind : l.number ≤ number → w.target ≤ x.place
                    not_behind le = ⊎_elim earlier (λ ge. same (omega arith)) (cases_lt l.number number)
                      where
                        earlier : l.number < number → w.target ≤ x.place
                        earlier lt = let h = one_list.ordered b.code xs l.number number (record { place = w.target; instruction = i; next = next }) x are lt l.is is in omega arith

                        same : l.number ≡ number → w.target ≤ x.place
                        same f =
                            let g = ap (λ (y : PlacedInstruction). y.place) (some_same _ x (sym l.is ∙ ap (slice_get xs) f ∙ is)) in
                            omega arith

                    label : l.number ≤ number → i ≡ Label
                    label le =
                        let f = w.label (not_behind le) in
                        ap (λ (y : Instruction × ℕ). y.0) (ok_same (i, next) (Label, f.0) (sym r.read ∙ f.1))

    sound_item : IsSoundItem a b xs number x
    sound_item = record {
      operands = item.operands;
      local = item.local;
      branch = leads_in;
      behind = ends_or_goes_on;
      next = λ d h falls. has_next ((s.goes x.place d x.instruction x.next h reads_item).goes_on x.next (inl (falls, refl))).0;
    }

  are_sound : AreSound a b xs
  are_sound = record { starts = first; each = sound_item }

pub verified_is_sound : VerifiedIsSound
verified_is_sound a number b v is = sound a b (v number b is)

pub verified_lists_are_sound : VerifiedListsAreSound
verified_lists_are_sound a number b xs v is are = are_sound a b (sound a b (v number b is)) xs are
