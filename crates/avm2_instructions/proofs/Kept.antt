-- Classes that are made and kept.
use Rattle.std.proofs.Common.{List, ◌≡◌, ◌∙◌, ap, refl, subst, sym, ℕ}
use Rattle.std.specs.Prelude.{None, Result as Computed, slice_get, slice_set}
use Rattle.avm2_effects.proofs.Slots as slots
use Rattle.avm2_effects.specs.Answers.{Acts}
use Rattle.avm2_instructions.specs.Forms.{act_new_class}
use Rattle.avm2_meaning.specs.Calls.{initialiser}
use Rattle.avm2_meaning.specs.Effects.{acted, silent, with_top}
use Rattle.avm2_meaning.specs.Heap.{with_made}
use Rattle.avm2_meaning.specs.Invoking.{made_with, make_class, new_class}
use Rattle.avm2_meaning.specs.Operands.{class_value}
use Rattle.avm2_meaning.specs.Results.{Goes, bind}
use Rattle.avm2_meaning.specs.declared.effect.Call.{Call}
use Rattle.avm2_meaning.specs.declared.effect.Effect.{Effect}
use Rattle.avm2_meaning.specs.declared.effect.Next.TheVariants as Next
use Rattle.avm2_meaning.specs.declared.heap.Heap.{Heap}
use Rattle.avm2_meaning.specs.declared.heap.MadeClass.{MadeClass}
use Rattle.avm2_meaning.specs.declared.operand.Operand.{Operand}
use Rattle.avm2_meaning.specs.declared.work.Work.{Work}
use Rattle.avm2_program.specs.declared.class.FileClass.{FileClass}
use Rattle.avm2_program.specs.declared.file.Program.{Program}
use Rattle.avm2_values.specs.declared.refusal.Refusal.{Refusal}
use Rattle.flex_base.specs.Lists.{changed_at}

pub set_changed : {A : Type 0} (items : List A) (n : ℕ) (y : A) → slice_set items n y ≡ changed_at (λ _. y) items n
set_changed items n y = slots.set_changed items n y

pub unchanged : {A : Type 0} (f : A → A) (items : List A) (n : ℕ) → slice_get items n ≡ None → items ≡ changed_at f items n
unchanged f items n is = slots.unchanged f items n is

-- a class that was made is kept, and its initialiser is to run
pub class_made : (p : Program) (k : ℕ) (class : FileClass) (w new : Work) (h behind : Heap) (call : Call) (v : Operand) (made : MadeClass)
    → initialiser p class.initialiser v h ≡ Goes call h → v ≡ class_value k → made ≡ made_with w.scopes class
    → behind ≡ with_made made k h → new ≡ with_top (class_value k) w
    → make_class p k class w h ≡ Goes (acted (silent (Next.Initialises k call)) new) behind
class_made p k class w new h behind call v made calls is makes keeps tops =
    ap (λ r. bind r (λ c h1. Goes (acted (silent (Next.Initialises k c)) (with_top (class_value k) w)) (with_made (made_with w.scopes class) k h1)))
    (ap (λ x. initialiser p class.initialiser x h) (sym is) ∙ calls)
    ∙ (ap (λ m. Goes (acted (silent (Next.Initialises k call)) (with_top (class_value k) w)) (with_made m k h)) (sym makes)
    ∙ (ap (λ x. Goes (acted (silent (Next.Initialises k call)) x) (with_made made k h)) (sym tops)
    ∙ ap (λ x. Goes (acted (silent (Next.Initialises k call)) new) x) (sym keeps)))

-- a class is made over the operand that was on top
pub made_over_top : (answer : Computed Effect Refusal) (p : Program) (k : ℕ) (v : Operand) (old w new : Work) (h behind : Heap)
    → old ≡ with_top v w → Acts answer new behind (new_class p k v w h) → Acts answer new behind (act_new_class p k old h)
made_over_top answer p k v old w new h behind is acts = subst (λ x. Acts answer new behind (act_new_class p k x h)) (sym is) acts
