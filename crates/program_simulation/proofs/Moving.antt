-- Moves of a body that both meanings make alike.
use Rattle.std.proofs.Common.{◌≡◌, refl, sym, ap, ◌∙◌, subst, arith}
use Rattle.std.specs.Prelude.{Err, List, None, Ok, Option, Some, suc, zero, ℕ, ◌∷◌}
use Rattle.flex_base.specs.declared.outcome.Outcome.{Outcome}
use Rattle.flex_base.specs.declared.outcome.Stop.{Stop}
use Rattle.flex_base.specs.declared.record.TraceItem.{TraceItem}
use Rattle.flex_base.specs.declared.value.ObjId.{ObjId}
use Rattle.flex_base.specs.declared.value.Value.{Value}
use Rattle.flex_world.specs.declared.kind.StaticType.{StaticType}
use Rattle.flex_world.specs.Conversions.{into_type}
use Rattle.flex_program.specs.Classes.{bases}
use Rattle.flex_meaning.specs.Conversions as conversions
use Rattle.flex_meaning.specs.Results.{Ends, Goes, Halts, Result, Stuck, bind, given, need}
use Rattle.flex_meaning.specs.Turns as turns
use Rattle.flex_meaning.specs.World.{World}
use Rattle.program_simulation.proofs.Follows.{Alike, Onward, sim_done, sim_halts, sim_stuck, unrecorded, with_later}
use Rattle.program_simulation.specs.Following.{Holds, Meets, Sim, Unseen, seen}
use Rattle.program_simulation.specs.Laws.{landed}
use Rattle.program_simulation.specs.Stands.{Setting, heap_of, machine_of, playing, playing_of}
use Rattle.avm2_program.specs.declared.operation.Operation.{Operation}
use Rattle.avm2_meaning.specs.Apply.{apply, settled}
use Rattle.avm2_meaning.specs.Effects.{Acted}
use Rattle.avm2_meaning.specs.declared.frame.CodeFrame.{CodeFrame}
use Rattle.avm2_meaning.specs.declared.frame.Frame.{Frame}
use Rattle.avm2_meaning.specs.declared.work.Work.{Work}
use Rattle.avm2_meaning.specs.Machine.{above, spend, take_turn}
use Rattle.avm2_meaning.specs.Moves.{stands}
use Rattle.avm2_meaning.specs.Results as machine
use Rattle.avm2_meaning.specs.StopExamples.{ends}
use Rattle.avm2_meaning.specs.Trace.{more}

-- an operation that leaves the world alone
abbrev pub Stays : {A : Type 0} → World → Result A → Type 0
Stays w0 (Goes v w) = w ≡ w0
Stays w0 _ = Unit {0}

-- a conversion leaves the world alone
pub convert_stays : (p : Rattle.flex_program.specs.Program.Program) (t : StaticType) (v : Value) (w : World) → Stays w (conversions.convert p t v w)
convert_stays p t v w = at_option (into_type (bases p) w.objects t v)
  where
    at_result : (r : Rattle.std.specs.Prelude.Result Value Stop) → Stays w (given r w)
    at_result (Ok x) = refl
    at_result (Err c) = tt

    at_option : (o : Option (Rattle.std.specs.Prelude.Result Value Stop)) → Stays w (need o w (λ r. given r w))
    at_option None = tt
    at_option (Some r) = at_result r

module _ (t : Setting) where
  -- an operation that both sides do alike
  pub acts : {A : Type 0} (n : ℕ) (fs : List Frame) (f : CodeFrame) (op : Operation) (order : List ObjId) (w : World) {i : A → Option TraceItem} (h : A → Acted Work) {r : Result A} {x : machine.Result (Acted Work)} (k : Onward A) (y : Unseen)
      → Alike t.image order w i h r x
      → ((v : A) (w1 : World) (rs : List TraceItem) → seen t rs (settled (h v).effect (apply t.image.program (Frame.Code (stands f op (h v)).work) (h v).effect.next (machine_of t fs order w1))) ≡ record (k v w1 y) { records = more rs (i v) })
      → ((v : A) (w1 : World) → (k v w1 y).records ≡ w1.records) → Meets t.image n w → Sim t.image n (landed t fs f op x order w) r k
  acts n fs f op order w {i} h {r = Goes v w1} {x} k y a ends shows ok =
      let e : landed t fs f op x order w ≡ k v w1 y =
      ap (λ z. landed t fs f op z order w) a.holds.0
      ∙ ap (λ z. seen t w.records (settled (h v).effect (apply t.image.program (Frame.Code (stands f op (h v)).work) (h v).effect.next z))) (with_later t fs order (i v) w w1 a.holds.1)
      ∙ ends v w1 w.records
      ∙ ap (λ rs. record (k v w1 y) { records = rs }) (sym a.holds.1.records ∙ sym (shows v w1)) in
      subst (λ c. Sim t.image n c (Goes v w1) k) (sym e)
      (sim_done {k = k} y (record { turns = (let u = a.holds.1.turns in let l = ok.turns in omega (arith, u, l)); holds = a.holds.1.holds ok.holds }))
  acts n fs f op order w {i} h {r = Halts o w1} {x} k y a ends shows ok =
      subst (λ z. Sim t.image n (landed t fs f op z order w) (Halts o w1) k) (sym a.holds.0) (sim_halts (sym a.holds.1) refl)
  acts n fs f op order w h {r = Ends w1} k y a ends shows ok = absurd a.holds
  acts n fs f op order w h {r = Stuck w1} k y a ends shows ok = sim_stuck

  -- a turn is taken on both sides
  tick_by : {A : Type 0} (n m : ℕ) (fs : List Frame) (order : List ObjId) (w : World) (f : Frame) (g : Unit {0} → World → Result A) (k : Onward A)
      → ((w1 : World) → suc w1.turns ≡ m → (Holds t.image.source w → Holds t.image.source w1) → Sim t.image n (playing_of t (f ∷ fs) order w1) (g tt w1) k)
      → Sim t.image n (playing t (spend m (above f) (machine_of t fs order w)) w.records) (bind (turns.spend m w) g) k
  tick_by n zero fs order w f g k s = sim_halts refl refl
  tick_by n (suc m) fs order w f g k s = s (record w { turns = m }) refl (λ h. record { fields = h.fields })

  pub sim_tick : {A : Type 0} (n : ℕ) (fs : List Frame) (order : List ObjId) (w : World) (f : Frame) (g : Unit {0} → World → Result A) (k : Onward A)
      → ((w1 : World) → suc w1.turns ≡ w.turns → (Holds t.image.source w → Holds t.image.source w1) → Sim t.image n (playing_of t (f ∷ fs) order w1) (g tt w1) k)
      → Sim t.image n (playing t (take_turn (above f) (machine_of t fs order w)) w.records) (bind (turns.tick w) g) k
  sim_tick n fs order w f g k s = tick_by n w.turns fs order w f g k s

  -- a part of an instruction that both sides do alike and that leaves the world alone, and the rest of it
  pub part_landed : {A B C : Type 0} (n : ℕ) (fs : List Frame) (f : CodeFrame) (op : Operation) (order : List ObjId) (w : World) {h : A → B} {r : Result A} {x : machine.Result B} (K : machine.Result B → machine.Result (Acted Work)) (g : A → World → Result C) {k : Onward C}
      → Alike t.image order w unrecorded h r x → Stays w r → ((o : Outcome) → K (machine.Halts o) ≡ machine.Halts o)
      → ((v : A) → Sim t.image n (landed t fs f op (K (machine.Goes (h v) (heap_of t.image order w))) order w) (g v w) k)
      → Sim t.image n (landed t fs f op (K x) order w) (bind r g) k
  part_landed n fs f op order w {h} {r = Goes v w1} {x} K g {k} a st halts s =
      subst (λ y. Sim t.image n (landed t fs f op (K y) order w) (g v w1) k) (sym a.holds.0)
      (subst (λ z. Sim t.image n (landed t fs f op (K (machine.Goes (h v) (heap_of t.image order z))) order w) (g v z) k) (sym st) (s v))
  part_landed n fs f op order w {r = Halts o w1} {x} K g {k} a st halts s =
      subst (λ y. Sim t.image n (landed t fs f op y order w) (Halts o w1) k) (sym (ap K a.holds.0 ∙ halts o)) (sim_halts (sym a.holds.1) refl)
  part_landed n fs f op order w {r = Ends w1} K g a st halts s = absurd a.holds
  part_landed n fs f op order w {r = Stuck w1} K g a st halts s = sim_stuck
