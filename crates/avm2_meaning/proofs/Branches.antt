-- In verified code each branch leads further on, or to a label.
use Rattle.std.proofs.Common.{◌≡◌, ℕ, zero, suc, ◌<◌, ◌≤◌, ◌⊎◌, inl, inr, ℤ, pos, ◌+ℤ◌, List, [], ◌∷◌, map, Bool, true, false, Option, Some, None, slice_get, refl, sym, ap, ◌∙◌, subst, arith, find, if◌then◌else◌, ◌==◌, option_map, option_and_then, ⊎_elim}
use Rattle.std.proofs.lemmas.Bool.{cases_lt}
use Rattle.abc_format.specs.declared.records.Abc.{Abc}
use Rattle.abc_format.specs.declared.records.MethodBody.{MethodBody}
use Rattle.abc_format.specs.declared.records.MethodInfo.{MethodInfo}
use Rattle.avm2_code.specs.declared.body.PlacedInstruction.{PlacedInstruction}
use Rattle.avm2_code.specs.declared.instruction.Instruction.{Instruction}
use Rattle.avm2_code.specs.declared.instruction.Instruction.TheVariants as instruction
use Rattle.verified_code.specs.Paths.{branch_place, successor}
use Rattle.verified_code.specs.Sound.{AreSound, LeadsIn}
use Rattle.verified_code.specs.Verified.{IsVerified}
use Rattle.verified_code.proofs.SoundLaws.{verified_lists_are_sound}
use Rattle.avm2_program.specs.Decoding.{instructions, number_at, target}
use Rattle.avm2_program.specs.Naming.{Naming, naming}
use Rattle.avm2_program.specs.Operations.{is_late_name, name, operation, operations}
use Rattle.avm2_program.specs.declared.method.Body.{Body}
use Rattle.avm2_program.specs.declared.method.Method.{Method}
use Rattle.avm2_program.specs.declared.operation.Operation.{Operation}
use Rattle.avm2_program.specs.declared.file.Program.{Program}
use Rattle.avm2_program.specs.Resolving.{body_at, methods_from, program}
use Rattle.avm2_program.specs.Resolving.{body_of as resolved}
use Rattle.avm2_program.proofs.Decoding.{are_instructions, found_at, none_stands, some_same}
use Rattle.avm2_meaning.specs.Classes.{body_of}
use Rattle.avm2_meaning.specs.Moves.{target_or}

-- from an operation of this number one leads to that one, which stands further on or is a label
abbrev pub LeadsOn : List Operation → ℕ → ℕ → Type 0
LeadsOn code number target = (number < target) ⊎ (slice_get code target ≡ Some Operation.Label)

-- so does each branch of a body
abbrev pub LeadsWell : List Operation → Type 0
LeadsWell code = (number : ℕ) (o : Operation) → slice_get code number ≡ Some o → LeadsOn code number (target_or o (suc number))

-- and of each body of a program
abbrev pub BodiesLeadWell : Program → Type 0
BodiesLeadWell p = (m : ℕ) (body : Body) → body_of p m ≡ Some body → LeadsWell body.code

goes_on : (b : Bool) (x y : Operation) (behind : ℕ) → target_or x behind ≡ behind → target_or y behind ≡ behind → target_or (if b then x else y) behind ≡ behind
goes_on true x y behind e f = e
goes_on false x y behind e f = f

some_or_none : {A : Type 0} (x : A) → None ≡ Some x → ⊥
some_or_none x e = cc

-- what a map has at a number was made of what stands there
at_map : {A B : Type 0} (f : A → B) (xs : List A) (number : ℕ) (y : B) → slice_get (map f xs) number ≡ Some y → (x : A) × (slice_get xs number ≡ Some x) × (f x ≡ y)
at_map f [] number y e = absurd (none_stands number y e)
at_map f (x ∷ xs) zero y e = (x, refl, some_same (f x) y e)
at_map f (x ∷ xs) (suc number) y e = at_map f xs number y e

map_at : {A B : Type 0} (f : A → B) (xs : List A) (number : ℕ) (x : A) → slice_get xs number ≡ Some x → slice_get (map f xs) number ≡ Some (f x)
map_at f [] number x e = absurd (none_stands number x e)
map_at f (z ∷ xs) zero x e = ap (λ w. Some (f w)) (some_same z x e)
map_at f (z ∷ xs) (suc number) x e = map_at f xs number x e

module _ (g : Naming) (to : ℤ → ℕ) where
  -- an operation leads behind itself, or where its instruction branches to
  leads_on : (i : Instruction) (next behind : ℕ) → (target_or (operation g to i) behind ≡ behind)
      ⊎ ((offset : ℤ) × (branch_place (successor i) next ≡ Some (pos next +ℤ offset)) × (target_or (operation g to i) behind ≡ to offset))
  leads_on instruction.Label next behind = inl refl
  leads_on (instruction.Jump offset) next behind = inr (offset, refl, refl)
  leads_on (instruction.IfTrue offset) next behind = inr (offset, refl, refl)
  leads_on (instruction.IfFalse offset) next behind = inr (offset, refl, refl)
  leads_on instruction.PopScope next behind = inl refl
  leads_on instruction.PushNull next behind = inl refl
  leads_on instruction.PushUndefined next behind = inl refl
  leads_on (instruction.PushByte n) next behind = inl refl
  leads_on instruction.PushTrue next behind = inl refl
  leads_on instruction.PushFalse next behind = inl refl
  leads_on instruction.Pop next behind = inl refl
  leads_on instruction.Dup next behind = inl refl
  leads_on instruction.Swap next behind = inl refl
  leads_on (instruction.PushString n) next behind = inl refl
  leads_on (instruction.PushInt n) next behind = inl refl
  leads_on instruction.PushScope next behind = inl refl
  leads_on (instruction.CallSuper n count) next behind = inl refl
  leads_on (instruction.CallProperty n count) next behind = inl refl
  leads_on instruction.ReturnVoid next behind = inl refl
  leads_on instruction.ReturnValue next behind = inl refl
  leads_on (instruction.ConstructSuper count) next behind = inl refl
  leads_on (instruction.ConstructProp n count) next behind = inl refl
  leads_on (instruction.CallPropVoid n count) next behind = inl refl
  leads_on (instruction.NewArray count) next behind = inl refl
  leads_on (instruction.NewClass class) next behind = inl refl
  leads_on (instruction.FindPropStrict n) next behind = inl refl
  leads_on (instruction.GetLex n) next behind = inl refl
  leads_on (instruction.SetProperty n) next behind = inl (goes_on (is_late_name g n) Operation.SetElement (Operation.SetProperty (name g n)) behind refl refl)
  leads_on (instruction.GetLocal n) next behind = inl refl
  leads_on (instruction.SetLocal n) next behind = inl refl
  leads_on (instruction.GetScopeObject n) next behind = inl refl
  leads_on (instruction.GetProperty n) next behind = inl (goes_on (is_late_name g n) Operation.GetElement (Operation.GetProperty (name g n)) behind refl refl)
  leads_on (instruction.InitProperty n) next behind = inl refl
  leads_on instruction.ConvertString next behind = inl refl
  leads_on instruction.ConvertInt next behind = inl refl
  leads_on instruction.ConvertBoolean next behind = inl refl
  leads_on (instruction.Coerce n) next behind = inl refl
  leads_on instruction.CoerceAny next behind = inl refl
  leads_on instruction.CoerceString next behind = inl refl
  leads_on instruction.Negate next behind = inl refl
  leads_on instruction.Not next behind = inl refl
  leads_on instruction.Add next behind = inl refl
  leads_on instruction.Subtract next behind = inl refl
  leads_on instruction.Multiply next behind = inl refl
  leads_on instruction.Modulo next behind = inl refl
  leads_on instruction.Equals next behind = inl refl
  leads_on instruction.StrictEquals next behind = inl refl
  leads_on instruction.LessThan next behind = inl refl
  leads_on instruction.LessEquals next behind = inl refl
  leads_on instruction.GreaterThan next behind = inl refl
  leads_on instruction.GetLocal0 next behind = inl refl
  leads_on instruction.GetLocal1 next behind = inl refl
  leads_on instruction.GetLocal2 next behind = inl refl
  leads_on instruction.GetLocal3 next behind = inl refl
  leads_on instruction.SetLocal0 next behind = inl refl
  leads_on instruction.SetLocal1 next behind = inl refl
  leads_on instruction.SetLocal2 next behind = inl refl
  leads_on instruction.SetLocal3 next behind = inl refl
  leads_on (instruction.Debug kind name register extra) next behind = inl refl
  leads_on (instruction.DebugLine line) next behind = inl refl
  leads_on (instruction.DebugFile file) next behind = inl refl

module _ (g : Naming) (a : Abc) (b : MethodBody) (sound : AreSound a b (instructions b.code)) where
  leads_in : (number : ℕ) (place : ℤ) → LeadsIn a b (instructions b.code) number place → LeadsOn (operations g b.code) number (number_at place (instructions b.code))
  leads_in number place l = subst (LeadsOn (operations g b.code) number) (sym is) (⊎_elim (λ lt. inl lt) (λ le. inr (labelled le)) (cases_lt number l.target))
    where
      is : number_at place (instructions b.code) ≡ l.target
      is = ap (λ z. number_at z (instructions b.code)) l.at ∙ found_at b.code (instructions b.code) (are_instructions b.code) l.target l.it l.is

      labelled : l.target ≤ number → slice_get (operations g b.code) l.target ≡ Some Operation.Label
      labelled le =
          map_at (λ (x : PlacedInstruction). operation g (target (instructions b.code) x.next) x.instruction) (instructions b.code) l.target l.it l.is
          ∙ ap (λ i. Some (operation g (target (instructions b.code) l.it.next) i)) (l.label le)

  body_leads_well : LeadsWell (operations g b.code)
  body_leads_well number o e =
      of_item (at_map (λ (x : PlacedInstruction). operation g (target (instructions b.code) x.next) x.instruction) (instructions b.code) number o e)
    where
      by : (x : PlacedInstruction) → slice_get (instructions b.code) number ≡ Some x
          → (target_or (operation g (target (instructions b.code) x.next) x.instruction) (suc number) ≡ suc number)
          ⊎ ((offset : ℤ) × (branch_place (successor x.instruction) x.next ≡ Some (pos x.next +ℤ offset))
          × (target_or (operation g (target (instructions b.code) x.next) x.instruction) (suc number) ≡ target (instructions b.code) x.next offset))
          → LeadsOn (operations g b.code) number (target_or (operation g (target (instructions b.code) x.next) x.instruction) (suc number))
      by x is (inl behind) = inl (omega (arith, behind))
      by x is (inr h) = subst (LeadsOn (operations g b.code) number) (sym h.2) (leads_in number (pos x.next +ℤ h.0) ((sound.each number x is).branch (pos x.next +ℤ h.0) h.1))

      of_item : (x : PlacedInstruction) × (slice_get (instructions b.code) number ≡ Some x) × (operation g (target (instructions b.code) x.next) x.instruction ≡ o)
          → LeadsOn (operations g b.code) number (target_or o (suc number))
      of_item (x, is, same) =
          subst (λ z. LeadsOn (operations g b.code) number (target_or z (suc number))) same
          (by x is (leads_on g (target (instructions b.code) x.next) x.instruction x.next (suc number)))

-- the body that is found is one of the bodies
is_one : (test : MethodBody → Bool) (bodies : List MethodBody) (b : MethodBody) → find test bodies ≡ Some b → (number : ℕ) × (slice_get bodies number ≡ Some b)
is_one test [] b e = absurd (some_or_none b e)
is_one test (x ∷ bodies) b e = by (test x) refl (λ f. is_one test bodies b f)
  where
    by : (t : Bool) → test x ≡ t → (find test bodies ≡ Some b → (number : ℕ) × (slice_get bodies number ≡ Some b)) → (number : ℕ) × (slice_get (x ∷ bodies) number ≡ Some b)
    by true is further = (0, ap (λ t. if t then Some x else find test bodies) (sym is) ∙ e)
    by false is further = let f = further (ap (λ t. if t then Some x else find test bodies) (sym is) ∙ e) in (suc f.0, f.1)

module _ (g : Naming) (v : IsVerified g.abc) where
  found_leads_well : (o : Option MethodBody) (body : Body) → ((b : MethodBody) → o ≡ Some b → (number : ℕ) × (slice_get g.abc.method_bodies number ≡ Some b))
      → option_map (resolved g) o ≡ Some body → LeadsWell body.code
  found_leads_well None body one e = absurd (some_or_none body e)
  found_leads_well (Some b) body one e =
      let is = one b refl in
      subst (λ (z : Body). LeadsWell z.code) (some_same (resolved g b) body e)
      (body_leads_well g g.abc b (verified_lists_are_sound g.abc is.0 b (instructions b.code) v is.1 (are_instructions b.code)))

  body_at_leads_well : (m : ℕ) (body : Body) → body_at g m ≡ Some body → LeadsWell body.code
  body_at_leads_well m body e =
      found_leads_well (find (λ (b : MethodBody). b.method == m) g.abc.method_bodies) body (λ b f. is_one (λ (b : MethodBody). b.method == m) g.abc.method_bodies b f) e

  -- of the methods from a number on
  methods_lead_well : (first : ℕ) (infos : List MethodInfo) (m : ℕ) (body : Body) → option_and_then (λ (method : Method). method.body) (slice_get (methods_from g first infos) m) ≡ Some body
      → LeadsWell body.code
  methods_lead_well first [] zero body e = absurd (some_or_none body e)
  methods_lead_well first [] (suc m) body e = absurd (some_or_none body e)
  methods_lead_well first (info ∷ infos) zero body e = body_at_leads_well first body e
  methods_lead_well first (info ∷ infos) (suc m) body e = methods_lead_well (suc first) infos m body e

pub verified_leads_well : (abc : Abc) → IsVerified abc → BodiesLeadWell (program abc)
verified_leads_well abc v m body e = methods_lead_well (naming abc) v 0 abc.methods m body e
