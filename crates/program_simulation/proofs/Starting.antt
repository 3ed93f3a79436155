-- Bindings start one after another in both meanings.
use Rattle.std.proofs.Common.{◌≡◌, refl, sym, ap, ◌∙◌, subst, arith}
use Rattle.std.specs.Prelude.{Bool, List, None, Option, Some, [], false, if◌then◌else◌, length, not, option_and_then, option_map, slice_get, suc, true, zero, ℕ, ◌&&◌, ◌++◌, ◌+◌, ◌<◌, ◌==◌, ◌||◌, ◌∷◌, ◌≤◌}
use Rattle.flex_base.specs.declared.outcome.MachineFault.TheVariants as fault
use Rattle.flex_base.specs.declared.value.ObjId.{ObjId}
use Rattle.flex_world.specs.declared.kind.Class.{Class}
use Rattle.flex_world.specs.declared.kind.StaticType.{StaticType}
use Rattle.flex_world.specs.Objects.{An_array, Instance_of, Kind, Object, Watcher, class_of_kind, is_number_among, object_at, watcher}
use Rattle.flex_program.specs.Classes.{document_of}
use Rattle.flex_program.specs.Program.{Binding, Document, SourceClass}
use Rattle.flex_meaning.specs.Activities.{Does, Runs_binding, carry_out}
use Rattle.flex_meaning.specs.Bindings.{opened}
use Rattle.flex_meaning.specs.Results.{Result, choose, done, each, need}
use Rattle.flex_meaning.specs.Storing.{binding_of, is_open, may_start, start}
use Rattle.flex_meaning.specs.Tasks.{context}
use Rattle.flex_meaning.specs.Watching.{affected}
use Rattle.flex_meaning.specs.World.{World}
use Rattle.program_code.specs.Names.{Labels}
use Rattle.program_code.specs.Program.{HasActivity, IsDocumentCode}
use Rattle.program_simulation.proofs.Affected.{changes_affect}
use Rattle.program_simulation.proofs.Follows.{Onward, comes_here, comes_step, sim_bind, sim_done, sim_from, sim_stuck}
use Rattle.program_simulation.proofs.Ordered.{is_same, same_number}
use Rattle.program_simulation.proofs.Standing.{heap_changed, inside_there, object_there}
use Rattle.program_simulation.specs.Following.{Meets, Sim, seen}
use Rattle.program_simulation.specs.Image.{IsImage}
use Rattle.program_simulation.specs.Laws.{BindingsRun, BindingsStart, HasPlainBindings}
use Rattle.program_simulation.specs.Stands.{Image, Setting, beside, enabled_from, heap_of, inside_of, machine_of, playing, playing_of, stage_of}
use Rattle.avm2_program.specs.Naming.{Naming}
use Rattle.avm2_program.specs.declared.method.Method as FileMethod
use Rattle.flex_objects.specs.Entities.{EnabledBinding, Inside, listener}
use Rattle.stage_objects.specs.Documents.{binding_numbered}
use Rattle.avm2_meaning.specs.Apply.{land, proceed}
use Rattle.avm2_meaning.specs.Bindings as machine_bindings
use Rattle.avm2_meaning.specs.Bindings.{is_busy, is_pair_open, opened_run, run_if_free, start_next, starting}
use Rattle.avm2_meaning.specs.Calls.{call_of, prepare}
use Rattle.avm2_meaning.specs.Conversions as conversions
use Rattle.avm2_meaning.specs.Effects.{Acted, acted, goes_on, silent}
use Rattle.avm2_meaning.specs.declared.effect.Next.{Next}
use Rattle.avm2_meaning.specs.declared.frame.Frame.{Frame}
use Rattle.avm2_meaning.specs.declared.frame.Native.{Native}
use Rattle.avm2_meaning.specs.Moves.{as_native}
use Rattle.avm2_meaning.specs.Operands.{ref}
use Rattle.avm2_meaning.specs.declared.operand.Operand.{Operand}
use Rattle.avm2_meaning.specs.Properties.{starting_all}
use Rattle.avm2_meaning.specs.Results as machine
use Rattle.avm2_meaning.specs.Trace.{Playing}

isnt_same : (a b : ℕ) → (a ≡ b → ⊥) → (a == b) ≡ false
isnt_same a b other = by (a == b) refl
  where
    by : (t : Bool) → (a == b) ≡ t → (a == b) ≡ false
    by false e = e
    by true e = absurd (other (same_number a b e))

-- a binding of a document, among those that are enabled
module _ (l : Labels) (k : ℕ) (o : ObjId) (enabled : List ℕ) where
  none_before : (n : ℕ) (bs : List Binding) (number : ℕ) → number < n → binding_numbered number (enabled_from l k o enabled n bs) ≡ None
  none_before n [] number less = refl
  none_before n (b ∷ bs) number less = by (is_number_among n enabled) (none_before (suc n) bs number (omega (arith, less)))
    where
      by : (t : Bool) → binding_numbered number (enabled_from l k o enabled (suc n) bs) ≡ None
          → binding_numbered number ((if t then record { number = n; pair = b.counterpart; method = listener o (l.binding_run_of k n) } ∷ [] else []) ++ enabled_from l k o enabled (suc n) bs) ≡ None
      by false rest = rest
      by true rest = ap (λ z. if z then Some (record { number = n; pair = b.counterpart; method = listener o (l.binding_run_of k n) }) else binding_numbered number (enabled_from l k o enabled (suc n) bs)) (isnt_same n number (λ e. omega (arith, e, less))) ∙ rest

  pub enabled_numbered : (n : ℕ) (bs : List Binding) (j number : ℕ) (b : Binding) → slice_get bs j ≡ Some b → number ≡ n + j
      → binding_numbered number (enabled_from l k o enabled n bs)
      ≡ (if is_number_among number enabled then Some (record { number = number; pair = b.counterpart; method = listener o (l.binding_run_of k number) }) else None)
  enabled_numbered n [] j number b there e = absurd cc
  enabled_numbered n (b0 ∷ bs) zero number b there e =
      let is_n : n ≡ number = omega (arith, e) in
      subst (λ m. binding_numbered m (enabled_from l k o enabled n (b0 ∷ bs)) ≡ (if is_number_among m enabled then Some (record { number = m; pair = b.counterpart; method = listener o (l.binding_run_of k m) }) else None)) is_n
      (subst (λ z. binding_numbered n (enabled_from l k o enabled n (b0 ∷ bs)) ≡ (if is_number_among n enabled then Some (record { number = n; pair = z.counterpart; method = listener o (l.binding_run_of k n) }) else None)) (same_binding there)
      (by (is_number_among n enabled) (none_before (suc n) bs n (omega arith))))
    where
      same_binding : Some b0 ≡ Some b → b0 ≡ b
      same_binding is = cc

      by : (t : Bool) → binding_numbered n (enabled_from l k o enabled (suc n) bs) ≡ None
          → binding_numbered n ((if t then record { number = n; pair = b0.counterpart; method = listener o (l.binding_run_of k n) } ∷ [] else []) ++ enabled_from l k o enabled (suc n) bs)
          ≡ (if t then Some (record { number = n; pair = b0.counterpart; method = listener o (l.binding_run_of k n) }) else None)
      by false rest = rest
      by true rest = ap (λ z. if z then Some (record { number = n; pair = b0.counterpart; method = listener o (l.binding_run_of k n) }) else binding_numbered n (enabled_from l k o enabled (suc n) bs)) (is_same n)
  enabled_numbered n (b0 ∷ bs) (suc j) number b there e = by (is_number_among n enabled) ∙ enabled_numbered (suc n) bs j number b there (omega (arith, e))
    where
      by : (t : Bool) → binding_numbered number ((if t then record { number = n; pair = b0.counterpart; method = listener o (l.binding_run_of k n) } ∷ [] else []) ++ enabled_from l k o enabled (suc n) bs)
          ≡ binding_numbered number (enabled_from l k o enabled (suc n) bs)
      by false = refl
      by true = ap (λ z. if z then Some (record { number = n; pair = b0.counterpart; method = listener o (l.binding_run_of k n) }) else binding_numbered number (enabled_from l k o enabled (suc n) bs)) (isnt_same n number (λ f. omega (arith, e, f)))

-- the code behind a document
pub document_code : {q : Image} {g : Naming} (is : IsImage g q) (k : ℕ) (d : Document) → document_of q.source (Class.File k) ≡ Some d → IsDocumentCode g q.labels q.program k d
document_code {q} {g} is k d e = at (slice_get q.source.classes k) refl e
  where
    at : (x : Option SourceClass) → slice_get q.source.classes k ≡ x → option_and_then (λ (class : SourceClass). class.document) x ≡ Some d → IsDocumentCode g q.labels q.program k d
    at None there e1 = absurd cc
    at (Some class) there e1 = (is.code.classes k class there).document d e1

-- a method that takes nothing
pub nothing_prepared : (q : Image) {g : Naming} (order : List ObjId) (w : World) (number : ℕ) {P : Rattle.program_code.specs.Shapes.Meant} → HasActivity g q.program number [] P → prepare q.program number [] (heap_of q order w) ≡ machine.Goes [] (heap_of q order w)
nothing_prepared q order w number has =
    ap (λ y. machine.need y (heap_of q order w) (λ (z : FileMethod.Method). machine.or_fault fault.NotHere z.body (heap_of q order w) (λ _. takes z.parameters))) has.there
    ∙ ap (λ y. machine.or_fault fault.NotHere y (heap_of q order w) (λ _. takes has.method.parameters)) has.has
    ∙ ap takes has.parameters_are
  where
    takes : List StaticType → machine.Result (List Operand)
    takes ts = machine.bind (machine.test fault.WrongCount (0 == length ts) (heap_of q order w)) (λ _ h1. conversions.convert_all q.program ts [] h1)

module _ (t : Setting) {g : Naming} (is : IsImage g t.image) (n : ℕ) (does : Does) (runs : BindingsRun t n does) where
  -- the first of them starts, if it may
  started : (m : ℕ) → m ≤ n → (o : ObjId) (number : ℕ) (ws : List Watcher) (fs : List Frame) (order : List ObjId) (w : World) → Meets t.image m w
      → Sim t.image m (playing_of t (Frame.Does (starting None (watcher o number ∷ ws)) ∷ fs) order w) (start (context t.image.source n does) (watcher o number) w)
      (λ u w1 x. playing_of t (Frame.Does (starting None ws) ∷ fs) x.order w1)
  started m le o number ws fs order w ok = seen_at (object_at w.objects o) refl
    where
      goes : Onward (Unit {0})
      goes u w1 x = playing_of t (Frame.Does (starting None ws) ∷ fs) x.order w1

      before : Playing
      before = playing_of t (Frame.Does (starting None (watcher o number ∷ ws)) ∷ fs) order w

      came : machine.Result (Acted Native) → Playing
      came x = seen t w.records (land t.image.program (machine.mapped as_native x) (machine_of t fs order w))

      from_move : {r : Result (Unit {0})} (x : machine.Result (Acted Native)) → start_next t.image.program (watcher o number ∷ ws) (heap_of t.image order w) ≡ x → Sim t.image m (came x) r goes → Sim t.image m before r goes
      from_move {r} x e s = sim_from (comes_step t (Frame.Does (starting None (watcher o number ∷ ws))) fs order w _ (comes_here t.image _)) (subst (λ y. Sim t.image m (came y) r goes) (sym e) s)

      passed : Sim t.image m (came (goes_on (starting None ws) (heap_of t.image order w))) (done w) goes
      passed = sim_done {v = tt} {k = goes} (record { order = order; locals = [] }) ok

      is_opened : opened_run (watcher o number) (heap_of t.image order w) ≡ heap_of t.image order (opened o number w)
      is_opened = sym (heap_changed t.image order o (λ c. record c { keeping = record c.keeping { open_bindings = number ∷ c.keeping.open_bindings } }) w (record { kind = λ c. refl; enabled = λ c. refl; names = λ c name. refl }))

      run : (k : ℕ) → Binding → EnabledBinding
      run k b = record { number = number; pair = b.counterpart; method = listener o (t.image.labels.binding_run_of k number) }

      found : (c : Object) (k : ℕ) (d : Document) (b : Binding) → object_at w.objects o ≡ Some c → c.kind ≡ Instance_of (Class.File k) → document_of t.image.source (Class.File k) ≡ Some d → slice_get d.bindings number ≡ Some b
          → start_next t.image.program (watcher o number ∷ ws) (heap_of t.image order w)
          ≡ run_if_free t.image.program (watcher o number) ws c.keeping (if is_number_among number c.keeping.enabled then Some (run k b) else None) (heap_of t.image order w)
      found c k d b there kind is_d is_b =
          ap (λ x. machine.need x (heap_of t.image order w) (λ d1. machine.inside o (heap_of t.image order w) (λ i. run_if_free t.image.program (watcher o number) ws d1.keeping (binding_numbered number i.bindings) (heap_of t.image order w)))) (object_there t.image order w o ∙ there)
          ∙ ap (λ x. machine.need x (heap_of t.image order w) (λ (i : Inside). run_if_free t.image.program (watcher o number) ws c.keeping (binding_numbered number i.bindings) (heap_of t.image order w)))
          (inside_there t.image order w o ∙ ap (option_map (λ (z : Object). inside_of t.image (beside w) o z.kind z.keeping.enabled)) there)
          ∙ ap (λ z. run_if_free t.image.program (watcher o number) ws c.keeping (binding_numbered number (inside_of t.image (beside w) o z c.keeping.enabled).bindings) (heap_of t.image order w)) kind
          ∙ ap (λ z. run_if_free t.image.program (watcher o number) ws c.keeping (binding_numbered number (Rattle.program_simulation.specs.Stands.document_inside t.image.labels (beside w) o k c.keeping.enabled (Rattle.avm2_meaning.specs.Classes.native_of t.image.program (Class.File k)) z).bindings) (heap_of t.image order w)) is_d
          ∙ ap (λ z. run_if_free t.image.program (watcher o number) ws c.keeping z (heap_of t.image order w)) (enabled_numbered t.image.labels k o c.keeping.enabled 0 d.bindings number number b is_b (omega arith))

      called : (k : ℕ) (d : Document) (b : Binding) → document_of t.image.source (Class.File k) ≡ Some d → slice_get d.bindings number ≡ Some b
          → machine_bindings.run_one t.image.program (watcher o number) ws (run k b) (heap_of t.image order w)
          ≡ machine.Goes (acted (silent (Next.Calls (call_of (t.image.labels.binding_run_of k number) (ref o) [] false))) (starting (Some (watcher o number)) ws)) (heap_of t.image order (opened o number w))
      called k d b is_d is_b =
          ap (λ x. machine.bind (machine.bind x (λ converted h1. machine.Goes (silent (Next.Calls (call_of (t.image.labels.binding_run_of k number) (ref o) converted false))) h1)) (λ e h1. machine.Goes (acted e (starting (Some (watcher o number)) ws)) (opened_run (watcher o number) h1)))
          (nothing_prepared t.image {g = g} order w (t.image.labels.binding_run_of k number) ((document_code is k d is_d).bindings number b is_b))
          ∙ ap (λ x. machine.Goes (acted (silent (Next.Calls (call_of (t.image.labels.binding_run_of k number) (ref o) [] false))) (starting (Some (watcher o number)) ws)) x) is_opened

      of_binding : (c : Object) (k : ℕ) (d : Document) (b : Binding) → object_at w.objects o ≡ Some c → c.kind ≡ Instance_of (Class.File k) → document_of t.image.source (Class.File k) ≡ Some d → slice_get d.bindings number ≡ Some b
          → Sim t.image m before (choose (may_start c.keeping number b) (carry_out (context t.image.source n does) (Runs_binding o number)) done w) goes
      of_binding c k d b there kind is_d is_b =
          from_move _ (found c k d b there kind is_d is_b ∙ as_found (is_number_among number c.keeping.enabled)) (by (is_number_among number c.keeping.enabled) (is_number_among number c.keeping.open_bindings) (is_pair_open b.counterpart c.keeping.open_bindings) (is_open b.counterpart c.keeping.open_bindings) (same_pair b.counterpart))
        where
          run_when : Bool → Bool → Bool → machine.Result (Acted Native)
          run_when false own pair = goes_on (starting None ws) (heap_of t.image order w)
          run_when true own pair = machine.choose (own || pair) (goes_on (starting None ws)) (machine_bindings.run_one t.image.program (watcher o number) ws (run k b)) (heap_of t.image order w)

          as_found : (among : Bool) → run_if_free t.image.program (watcher o number) ws c.keeping (if among then Some (run k b) else None) (heap_of t.image order w)
              ≡ run_when among (is_number_among number c.keeping.open_bindings) (is_pair_open b.counterpart c.keeping.open_bindings)
          as_found false = refl
          as_found true = refl

          same_pair : (x : Option ℕ) → is_pair_open x c.keeping.open_bindings ≡ is_open x c.keeping.open_bindings
          same_pair None = refl
          same_pair (Some z) = refl

          by : (among own pair pair_too : Bool) → pair ≡ pair_too
              → Sim t.image m (came (run_when among own pair)) (choose (among && not own && not pair_too) (carry_out (context t.image.source n does) (Runs_binding o number)) done w) goes
          by among own pair pair_too same = subst (λ z. Sim t.image m (came (run_when among own pair)) (choose (among && not own && not z) (carry_out (context t.image.source n does) (Runs_binding o number)) done w) goes) same (cases among own pair)
            where
              cases : (among1 own1 pair1 : Bool) → Sim t.image m (came (run_when among1 own1 pair1)) (choose (among1 && not own1 && not pair1) (carry_out (context t.image.source n does) (Runs_binding o number)) done w) goes
              cases false own1 pair1 = passed
              cases true true pair1 = passed
              cases true false true = passed
              cases true false false =
                  subst (λ x. Sim t.image m (came x) (carry_out (context t.image.source n does) (Runs_binding o number) w) goes) (sym (called k d b is_d is_b))
                  (sim_bind (runs m le o c k number d b ws fs order w there kind is_d is_b ok) (λ v w1 x ok1. sim_done {v = tt} {k = goes} x ok1))

      of_kind : (c : Object) → object_at w.objects o ≡ Some c → (kind : Kind) → c.kind ≡ kind
          → Sim t.image m before (need (option_and_then (λ (document : Document). slice_get document.bindings number) (option_and_then (document_of t.image.source) (class_of_kind kind))) w (λ b. choose (may_start c.keeping number b) (carry_out (context t.image.source n does) (Runs_binding o number)) done w)) goes
      of_kind c there An_array e = sim_stuck
      of_kind c there (Instance_of (Class.Native class)) e = sim_stuck
      of_kind c there (Instance_of (Class.File k)) e = of_document (document_of t.image.source (Class.File k)) refl
        where
          of_number : (d : Document) → document_of t.image.source (Class.File k) ≡ Some d → (b : Option Binding) → slice_get d.bindings number ≡ b
              → Sim t.image m before (need b w (λ b1. choose (may_start c.keeping number b1) (carry_out (context t.image.source n does) (Runs_binding o number)) done w)) goes
          of_number d is_d None is_b = sim_stuck
          of_number d is_d (Some b) is_b = of_binding c k d b there e is_d is_b

          of_document : (d : Option Document) → document_of t.image.source (Class.File k) ≡ d
              → Sim t.image m before (need (option_and_then (λ (document : Document). slice_get document.bindings number) d) w (λ b. choose (may_start c.keeping number b) (carry_out (context t.image.source n does) (Runs_binding o number)) done w)) goes
          of_document None is_d = sim_stuck
          of_document (Some d) is_d = of_number d is_d (slice_get d.bindings number) refl

      seen_at : (x : Option Object) → object_at w.objects o ≡ x
          → Sim t.image m before (need x w (λ c. need (binding_of (context t.image.source n does) c number) w (λ b. choose (may_start c.keeping number b) (carry_out (context t.image.source n does) (Runs_binding o number)) done w))) goes
      seen_at None e = sim_stuck
      seen_at (Some c) e = of_kind c e c.kind refl

  -- all of them start
  pub all_started : (m : ℕ) → m ≤ n → (ws : List Watcher) (fs : List Frame) (order : List ObjId) (w : World) → Meets t.image m w
      → Sim t.image m (playing_of t (Frame.Does (starting None ws) ∷ fs) order w) (each (start (context t.image.source n does)) ws w) (λ u w1 x. playing_of t fs x.order w1)
  all_started m le [] fs order w ok =
      sim_from (comes_step t (Frame.Does (starting None [])) fs order w _ (comes_here t.image _)) (sim_done {v = tt} {k = λ u w1 x. playing_of t fs x.order w1} (record { order = order; locals = [] }) ok)
  all_started m le (b ∷ ws) fs order w ok = sim_bind (started m le b.document b.number ws fs order w ok) (λ u w1 x ok1. all_started m le ws fs x.order w1 ok1)

  -- the bindings that a change affects start
  pub bindings_start : HasPlainBindings t.image.source → BindingsStart t n does
  bindings_start plain m le o c name fs order w there has ok =
      subst (λ ws. Sim t.image m (playing t (proceed t.image.program (starting_all ws) (machine_of t fs order w)) w.records) (each (start (context t.image.source n does)) (affected t.image.source w.objects w.built o name) w) (λ u w1 x. playing_of t fs x.order w1))
      (sym (changes_affect is plain order w o c name there has ok.holds)) (all_of (affected t.image.source w.objects w.built o name))
    where
      all_of : (ws : List Watcher) → Sim t.image m (playing t (proceed t.image.program (starting_all ws) (machine_of t fs order w)) w.records) (each (start (context t.image.source n does)) ws w) (λ u w1 x. playing_of t fs x.order w1)
      all_of [] = sim_done {v = tt} {k = λ u w1 x. playing_of t fs x.order w1} (record { order = order; locals = [] }) ok
      all_of (b ∷ ws) = all_started m le (b ∷ ws) fs order w ok
