-- Laws of runs that follow a meaning, and of operations of both that are alike.
use Rattle.std.proofs.Common.{◌≡◌, refl, sym, ap, ◌∙◌, subst, arith}
use Rattle.std.specs.Prelude.{Bool, Err, List, None, Ok, Option, Some, [], false, length, map, suc, true, zero, ℕ, ◌∷◌, ◌≤◌}
use Rattle.std.specs.Prelude.{Result as Computed}
use Rattle.flex_base.specs.declared.outcome.Outcome.{Outcome}
use Rattle.flex_base.specs.declared.outcome.Stop.{Stop}
use Rattle.flex_base.specs.declared.record.TraceItem.{TraceItem}
use Rattle.flex_base.specs.declared.value.ObjId.{ObjId}
use Rattle.flex_meaning.specs.Results.{Ends, Goes, Halts, Result, Stuck, bind, choose, given, guarded, need}
use Rattle.flex_base.specs.declared.value.Value.{Value}
use Rattle.flex_meaning.specs.Bindings.{caught}
use Rattle.flex_meaning.specs.World.{World}
use Rattle.program_simulation.specs.Following.{Comes, Ending, EndsAt, Holds, Meets, Sim, SimTo, Unseen, Within, go_on, seen, steps_on}
use Rattle.program_simulation.specs.Stands.{Image, Setting, heap_of, machine_of, playing_of}
use Rattle.avm2_meaning.specs.Apply.{land, with_heap}
use Rattle.avm2_meaning.specs.declared.frame.Frame.{Frame}
use Rattle.avm2_meaning.specs.declared.heap.Heap.{Heap}
use Rattle.avm2_meaning.specs.Machine.{Machine}
use Rattle.avm2_meaning.specs.Moves.{moves}
use Rattle.avm2_meaning.specs.Results as machine
use Rattle.avm2_meaning.specs.Trace.{Ongoing, Over, Playing, Progress, advance, more}

pub comes_here : (q : Image) (c : Playing) → Comes q c c
comes_here q c = record { steps = 0; is = refl }

pub comes_then : (q : Image) (c c1 d : Playing) → advance q.program q.name c ≡ Ongoing c1 → Comes q c1 d → Comes q c d
comes_then q c c1 d e h = record { steps = suc h.steps; is = ap (go_on (λ next. steps_on q h.steps next)) e ∙ h.is }

comes_on_by : (q : Image) (n : ℕ) (c d e : Playing) → steps_on q n c ≡ Ongoing d → Comes q d e → Comes q c e
comes_on_by q zero c d e h m = subst (λ x. Comes q x e) (same h) m
  where
    same : Ongoing c ≡ Ongoing d → d ≡ c
    same is = cc
comes_on_by q (suc n) c d e h m = at (advance q.program q.name c) refl h (λ next i. comes_on_by q n next d e i m)
  where
    at : (x : Progress) → advance q.program q.name c ≡ x → go_on (λ next. steps_on q n next) x ≡ Ongoing d
        → ((next : Playing) → steps_on q n next ≡ Ongoing d → Comes q next e) → Comes q c e
    at (Over story) is i t = absurd cc
    at (Ongoing next) is i t = comes_then q c next e is (t next i)

pub comes_on : (q : Image) (c d e : Playing) → Comes q c d → Comes q d e → Comes q c e
comes_on q c d e h m = comes_on_by q h.steps c d e h.is m

-- a frame on top moves
pub comes_step : (t : Setting) (f : Frame) (fs : List Frame) (order : List ObjId) (w : World) (d : Playing)
    → Comes t.image (seen t w.records (land t.image.program (moves t.image.program t.main f (heap_of t.image order w)) (machine_of t fs order w))) d
    → Comes t.image (playing_of t (f ∷ fs) order w) d
comes_step t f fs order w d h = comes_then t.image (playing_of t (f ∷ fs) order w) _ d refl h

within_more : (q : Image) {A : Type 0} (m n : ℕ) → m ≤ n → (r : Result A) → Within q m r → Within q n r
within_more q m n le (Goes v w) h = record { turns = (let l = h.turns in omega (arith, le, l)); holds = h.holds }
within_more q m n le (Halts o w) h = tt
within_more q m n le (Ends w) h = record { turns = (let l = h.turns in omega (arith, le, l)); holds = h.holds }
within_more q m n le (Stuck w) h = tt

-- where the meaning goes on: K
abbrev pub Onward : Type 0 → Type 0
Onward A = A → World → Unseen → Playing

-- each value and each world with which the meaning goes on are such
abbrev pub EveryEnd : {A : Type 0} → (A → World → Type 0) → Result A → Type 0
EveryEnd P (Goes v w) = P v w
EveryEnd P _ = Unit {0}

-- each value is
abbrev pub EveryValue : {A : Type 0} → (A → Type 0) → Result A → Type 0
EveryValue P r = EveryEnd (λ v w. P v) r

module _ {q : Image} where
  ends_from : (e : Ending) (c d : Playing) (w : World) → Comes q c d → EndsAt q e d w → EndsAt q e c w
  ends_from None c d w h s = absurd s
  ends_from (Some k) c d w h s = (s.0, comes_on q c d (k w s.0) h s.1)

module _ {q : Image} {n : ℕ} {e : Ending} where
  pub sim_done : {A : Type 0} {v : A} {w : World} {k : Onward A} (x : Unseen) → Meets q n w → SimTo q e n (k v w x) (Goes v w) k
  sim_done {v} {w} {k} x ok = record { comes = (x, comes_here q (k v w x)); keeps = ok }

  pub sim_stuck : {A : Type 0} {c : Playing} {w : World} {k : Onward A} → SimTo q e n c (Stuck w) k
  sim_stuck = record { comes = tt; keeps = tt }

  pub sim_from : {A : Type 0} {c d : Playing} {r : Result A} {k : Onward A} → Comes q c d → SimTo q e n d r k → SimTo q e n c r k
  sim_from {c} {d} {r = Goes v w} {k} h s = record { comes = (s.comes.0, comes_on q c d (k v w s.comes.0) h s.comes.1); keeps = s.keeps }
  sim_from {c} {d} {r = Halts o w} {k} h s =
      record {
        comes = record { last = s.comes.last; comes = comes_on q c d s.comes.last h s.comes.comes; records_are = s.comes.records_are; outcome_is = s.comes.outcome_is };
        keeps = tt;
      }
  sim_from {c} {d} {r = Ends w} {k} h s = record { comes = ends_from e c d w h s.comes; keeps = s.keeps }
  sim_from {c} {d} {r = Stuck w} {k} h s = record { comes = tt; keeps = tt }

  -- parts one after another, where more is known of the end of the first
  pub sim_bind_end : {A B : Type 0} {c : Playing} {r : Result A} {f : A → World → Result B} {k : Onward A} {l : Onward B} (P : A → World → Type 0)
      → EveryEnd P r → SimTo q e n c r k → ((v : A) (w : World) (x : Unseen) → P v w → Meets q n w → SimTo q e n (k v w x) (f v w) l) → SimTo q e n c (bind r f) l
  sim_bind_end {r = Goes v w} P every s t = sim_from s.comes.1 (t v w s.comes.0 every s.keeps)
  sim_bind_end {r = Halts o w} P every s t = record { comes = s.comes; keeps = tt }
  sim_bind_end {r = Ends w} P every s t = record { comes = s.comes; keeps = s.keeps }
  sim_bind_end {r = Stuck w} P every s t = record { comes = tt; keeps = tt }

  -- or of its value
  pub sim_bind_with : {A B : Type 0} {c : Playing} {r : Result A} {f : A → World → Result B} {k : Onward A} {l : Onward B} (P : A → Type 0)
      → EveryValue P r → SimTo q e n c r k → ((v : A) (w : World) (x : Unseen) → P v → Meets q n w → SimTo q e n (k v w x) (f v w) l) → SimTo q e n c (bind r f) l
  sim_bind_with P every s t = sim_bind_end (λ v w. P v) every s t

  pub sim_bind : {A B : Type 0} {c : Playing} {r : Result A} {f : A → World → Result B} {k : Onward A} {l : Onward B}
      → SimTo q e n c r k → ((v : A) (w : World) (x : Unseen) → Meets q n w → SimTo q e n (k v w x) (f v w) l) → SimTo q e n c (bind r f) l
  sim_bind {r = Goes v w} s t = sim_from s.comes.1 (t v w s.comes.0 s.keeps)
  sim_bind {r = Halts o w} s t = record { comes = s.comes; keeps = tt }
  sim_bind {r = Ends w} s t = record { comes = s.comes; keeps = s.keeps }
  sim_bind {r = Stuck w} s t = record { comes = tt; keeps = tt }

  -- the play goes on with the same result
  pub sim_extend : {A : Type 0} {c : Playing} {r : Result A} {k l : Onward A}
      → SimTo q e n c r k → ((v : A) (w : World) (x : Unseen) → (y : Unseen) × Comes q (k v w x) (l v w y)) → SimTo q e n c r l
  sim_extend {c} {r = Goes v w} {k} {l} s t =
      let u = t v w s.comes.0 in record { comes = (u.0, comes_on q c (k v w s.comes.0) (l v w u.0) s.comes.1 u.1); keeps = s.keeps }
  sim_extend {r = Halts o w} s t = record { comes = s.comes; keeps = tt }
  sim_extend {r = Ends w} s t = record { comes = s.comes; keeps = s.keeps }
  sim_extend {r = Stuck w} s t = record { comes = tt; keeps = tt }

  -- what has to be there in the source
  pub sim_need : {A B : Type 0} {c : Playing} {f : A → Result B} {k : Onward B} (o : Option A) (w : World)
      → ((x : A) → o ≡ Some x → SimTo q e n c (f x) k) → SimTo q e n c (need o w f) k
  sim_need None w h = record { comes = tt; keeps = tt }
  sim_need (Some x) w h = h x refl

  pub sim_guarded : {A : Type 0} {c : Playing} {k : Onward A} (b : Bool) (w : World) (f : World → Result A)
      → (b ≡ true → SimTo q e n c (f w) k) → SimTo q e n c (guarded b f w) k
  sim_guarded true w f h = h refl
  sim_guarded false w f h = record { comes = tt; keeps = tt }

  -- the play is over here
  pub sim_halts : {A : Type 0} {c : Playing} {o : Outcome} {w : World} {k : Onward A} → c.records ≡ w.records → c.machine.outcome ≡ Some o → SimTo q e n c (Halts o w) k
  sim_halts {c} rs over = record { comes = record { last = c; comes = comes_here q c; records_are = rs; outcome_is = over }; keeps = tt }

pub sim_more : {q : Image} {m n : ℕ} {e : Ending} {A : Type 0} {c : Playing} {r : Result A} {k : Onward A} → m ≤ n → SimTo q e m c r k → SimTo q e n c r k
sim_more {q} {m} {n} {r} le s = record { comes = s.comes; keeps = within_more q m n le r s.keeps }

-- what doesn't end so may stand where something does
pub sim_any : {q : Image} {n : ℕ} {e : Ending} {A : Type 0} {c : Playing} {r : Result A} {k : Onward A} → Sim q n c r k → SimTo q e n c r k
sim_any {r = Goes v w} s = record { comes = s.comes; keeps = s.keeps }
sim_any {r = Halts o w} s = record { comes = s.comes; keeps = tt }
sim_any {r = Ends w} s = absurd s.comes
sim_any {r = Stuck w} s = record { comes = tt; keeps = tt }

-- what may end so, and what follows either way
pub sim_caught : {q : Image} {n : ℕ} {B : Type 0} {c : Playing} {r : Result Value} {k : Onward Value} {l : Onward B} (ends : World → Unseen → Playing) (f : Option Value → World → Result B) → SimTo q (Some ends) n c r k
    → ((v : Value) (w : World) (x : Unseen) → Meets q n w → Sim q n (k v w x) (f (Some v) w) l) → ((w : World) (x : Unseen) → Meets q n w → Sim q n (ends w x) (f None w) l) → Sim q n c (bind (caught r) f) l
sim_caught {r = Goes v w} ends f s t u = sim_from s.comes.1 (t v w s.comes.0 s.keeps)
sim_caught {r = Halts o w} ends f s t u = record { comes = s.comes; keeps = tt }
sim_caught {r = Ends w} ends f s t u = sim_from s.comes.1 (u w s.comes.0 s.keeps)
sim_caught {r = Stuck w} ends f s t u = record { comes = tt; keeps = tt }

-- what an operation leaves alone, but for one record
pub record Rest (q : Image) (i : Option TraceItem) (w0 w : World) : Type 0 where
  pub level : w.level ≡ w0.level
  pub turns : w.turns ≡ w0.turns
  pub records : w.records ≡ more w0.records i
  pub holds : Holds q.source w0 → Holds q.source w

pub rest_same : (q : Image) (w : World) → Rest q None w w
rest_same q w = record { level = refl; turns = refl; records = refl; holds = λ h. h }

rest_then : (q : Image) (i : Option TraceItem) (w0 w1 w2 : World) → Rest q None w0 w1 → Rest q i w1 w2 → Rest q i w0 w2
rest_then q i w0 w1 w2 a b = record {
  level = b.level ∙ a.level;
  turns = b.turns ∙ a.turns;
  records = b.records ∙ ap (λ rs. more rs i) a.records;
  holds = λ h. b.holds (a.holds h);
}

-- an operation of the machine gives what that of the source does: the value by h, and the item that is recorded by i
abbrev pub AlikeOf : {A B : Type 0} → Image → List ObjId → World → (A → Option TraceItem) → (A → B) → Result A → machine.Result B → Type 0
AlikeOf q order w0 i h (Goes v w) x = (x ≡ machine.Goes (h v) (heap_of q order w)) × Rest q (i v) w0 w
AlikeOf q order w0 i h (Halts o w) x = (x ≡ machine.Halts o) × (w.records ≡ w0.records)
AlikeOf q order w0 i h (Ends w) x = ⊥
AlikeOf q order w0 i h (Stuck w) x = Unit {0}

pub record Alike (q : Image) (order : List ObjId) {A B : Type 0} (w0 : World) (i : A → Option TraceItem) (h : A → B) (r : Result A) (x : machine.Result B) : Type 0 where
  pub holds : AlikeOf q order w0 i h r x

abbrev pub unrecorded : {A : Type 0} → A → Option TraceItem
unrecorded v = None

module _ {q : Image} {order : List ObjId} where
  pub alike_goes : {A B : Type 0} (h : A → B) (v : A) (w : World) → Alike q order w unrecorded h (Goes v w) (machine.Goes (h v) (heap_of q order w))
  alike_goes h v w = record { holds = (refl, rest_same q w) }

  pub alike_step : {A B : Type 0} {i : A → Option TraceItem} (h : A → B) (v : A) (w0 w : World) (x : machine.Result B)
      → x ≡ machine.Goes (h v) (heap_of q order w) → Rest q (i v) w0 w → Alike q order w0 i h (Goes v w) x
  alike_step h v w0 w x e r = record { holds = (e, r) }

  pub alike_halts : {A B : Type 0} {i : A → Option TraceItem} {h : A → B} (o : Outcome) (w : World) → Alike q order w i h (Halts o w) (machine.Halts o)
  alike_halts o w = record { holds = (refl, refl) }

  pub alike_stuck : {A B : Type 0} {i : A → Option TraceItem} {h : A → B} {w0 w : World} {x : machine.Result B} → Alike q order w0 i h (Stuck w) x
  alike_stuck = record { holds = tt }

  pub alike_from : {A B : Type 0} {i : A → Option TraceItem} {h : A → B} {w : World} {r : Result A} {x y : machine.Result B}
      → x ≡ y → Alike q order w i h r y → Alike q order w i h r x
  alike_from {i} {h} {w} {r} e a = subst (λ z. Alike q order w i h r z) (sym e) a

  earlier : {A B : Type 0} (i : A → Option TraceItem) (h : A → B) (w0 w1 : World) (r : Result A) (x : machine.Result B)
      → Rest q None w0 w1 → Alike q order w1 i h r x → Alike q order w0 i h r x
  earlier i h w0 w1 (Goes v w) x t a = record { holds = (a.holds.0, rest_then q (i v) w0 w1 w t a.holds.1) }
  earlier i h w0 w1 (Halts o w) x t a = record { holds = (a.holds.0, a.holds.1 ∙ t.records) }
  earlier i h w0 w1 (Ends w) x t a = record { holds = a.holds }
  earlier i h w0 w1 (Stuck w) x t a = record { holds = tt }

  pub alike_bind : {A B C D : Type 0} {h : A → B} {i : C → Option TraceItem} {l : C → D} {w0 : World} {r : Result A} {x : machine.Result B} {f : A → World → Result C} (g : B → Heap → machine.Result D)
      → Alike q order w0 unrecorded h r x → ((v : A) (w : World) → Rest q None w0 w → Alike q order w i l (f v w) (g (h v) (heap_of q order w)))
      → Alike q order w0 i l (bind r f) (machine.bind x g)
  alike_bind {h} {i} {l} {w0} {r = Goes v w} {x} {f} g a t =
      subst (λ y. Alike q order w0 i l (f v w) (machine.bind y g)) (sym a.holds.0) (earlier i l w0 w (f v w) (g (h v) (heap_of q order w)) a.holds.1 (t v w a.holds.1))
  alike_bind {r = Halts o w} g a t = record { holds = (ap (λ y. machine.bind y g) a.holds.0, a.holds.1) }
  alike_bind {r = Ends w} g a t = record { holds = a.holds }
  alike_bind {r = Stuck w} g a t = record { holds = tt }

  -- the same where more is known of the value of the first
  pub alike_bind_with : {A B C D : Type 0} {h : A → B} {i : C → Option TraceItem} {l : C → D} {w0 : World} {r : Result A} {x : machine.Result B} {f : A → World → Result C} (P : A → Type 0) (g : B → Heap → machine.Result D)
      → EveryValue P r → Alike q order w0 unrecorded h r x → ((v : A) (w : World) → P v → Rest q None w0 w → Alike q order w i l (f v w) (g (h v) (heap_of q order w)))
      → Alike q order w0 i l (bind r f) (machine.bind x g)
  alike_bind_with {h} {i} {l} {w0} {r = Goes v w} {x} {f} P g every a t =
      subst (λ y. Alike q order w0 i l (f v w) (machine.bind y g)) (sym a.holds.0) (earlier i l w0 w (f v w) (g (h v) (heap_of q order w)) a.holds.1 (t v w every a.holds.1))
  alike_bind_with {r = Halts o w} P g every a t = record { holds = (ap (λ y. machine.bind y g) a.holds.0, a.holds.1) }
  alike_bind_with {r = Ends w} P g every a t = record { holds = a.holds }
  alike_bind_with {r = Stuck w} P g every a t = record { holds = tt }

  pub alike_map : {A B D : Type 0} {h : A → B} (l : A → D) {i : A → Option TraceItem} {w0 : World} {r : Result A} {x : machine.Result B} (g : B → Heap → machine.Result D)
      → Alike q order w0 i h r x → ((v : A) (s : Heap) → g (h v) s ≡ machine.Goes (l v) s) → Alike q order w0 i l r (machine.bind x g)
  alike_map l {r = Goes v w} g a t = record { holds = (ap (λ y. machine.bind y g) a.holds.0 ∙ t v (heap_of q order w), a.holds.1) }
  alike_map l {r = Halts o w} g a t = record { holds = (ap (λ y. machine.bind y g) a.holds.0, a.holds.1) }
  alike_map l {r = Ends w} g a t = record { holds = a.holds }
  alike_map l {r = Stuck w} g a t = record { holds = tt }

  pub alike_mapped : {A B D : Type 0} {h : A → B} (f : B → D) {i : A → Option TraceItem} {w0 : World} {r : Result A} {x : machine.Result B}
      → Alike q order w0 i h r x → Alike q order w0 i (λ v. f (h v)) r (machine.mapped f x)
  alike_mapped f {r = Goes v w} a = record { holds = (ap (machine.mapped f) a.holds.0, a.holds.1) }
  alike_mapped f {r = Halts o w} a = record { holds = (ap (machine.mapped f) a.holds.0, a.holds.1) }
  alike_mapped f {r = Ends w} a = record { holds = a.holds }
  alike_mapped f {r = Stuck w} a = record { holds = tt }

  pub alike_need : {X A B : Type 0} {i : A → Option TraceItem} {h : A → B} (o : Option X) {w : World} (s : Heap) {f : X → Result A} {g : X → machine.Result B}
      → ((x : X) → o ≡ Some x → Alike q order w i h (f x) (g x)) → Alike q order w i h (need o w f) (machine.need o s g)
  alike_need None s t = record { holds = tt }
  alike_need (Some x) s t = t x refl

  -- where only the source asks
  pub alike_there : {X A B : Type 0} {i : A → Option TraceItem} {h : A → B} (o : Option X) {w : World} {f : X → Result A} {y : machine.Result B}
      → ((x : X) → o ≡ Some x → Alike q order w i h (f x) y) → Alike q order w i h (need o w f) y
  alike_there None t = record { holds = tt }
  alike_there (Some x) t = t x refl

  pub alike_given : {X Y : Type 0} (h : X → Y) (o : Computed X Stop) (w : World)
      → Alike q order w unrecorded h (given o w) (machine.bind (machine.given o (heap_of q order w)) (λ v s. machine.Goes (h v) s))
  alike_given h (Ok v) w = record { holds = (refl, rest_same q w) }
  alike_given h (Err c) w = record { holds = (refl, refl) }

  pub alike_choose : {A B : Type 0} {i : A → Option TraceItem} {h : A → B} (b : Bool) {w : World} (f f1 : World → Result A) (g g1 : Heap → machine.Result B)
      → Alike q order w i h (f w) (g (heap_of q order w)) → Alike q order w i h (f1 w) (g1 (heap_of q order w))
      → Alike q order w i h (choose b f f1 w) (machine.choose b g g1 (heap_of q order w))
  alike_choose true f f1 g g1 a b = a
  alike_choose false f f1 g g1 a b = b

  pub alike_guarded : {A B : Type 0} {i : A → Option TraceItem} {h : A → B} (b : Bool) {w : World} (f : World → Result A) {x : machine.Result B}
      → (b ≡ true → Alike q order w i h (f w) x) → Alike q order w i h (guarded b f w) x
  alike_guarded true f t = t refl
  alike_guarded false f t = record { holds = tt }

-- the same of a guard in a later world
pub alike_guarded_later : {q : Image} {order : List ObjId} {A B : Type 0} {i : A → Option TraceItem} {h : A → B} (b : Bool) (w0 w : World) (f : World → Result A) {x : machine.Result B}
    → (b ≡ true → Alike q order w0 i h (f w) x) → Alike q order w0 i h (guarded b f w) x
alike_guarded_later true w0 w f t = t refl
alike_guarded_later false w0 w f t = record { holds = tt }

-- the parts of a machine, where the rest stayed
abbrev machine_with : Setting → List Frame → Heap → ℕ → ℕ → Machine
machine_with t frames h level turns = record {
  frames = frames;
  heap = h;
  level = level;
  turns = turns;
  uninitialised = t.uninitialised;
  load = t.load;
  main = t.main;
  outcome = None;
}

-- the heap of a later world in the machine
pub with_later : (t : Setting) (frames : List Frame) (order : List ObjId) (i : Option TraceItem) (w0 w : World) → Rest t.image i w0 w
    → with_heap (heap_of t.image order w) (machine_of t frames order w0) ≡ machine_of t frames order w
with_later t frames order i w0 w r =
    ap (λ x. machine_with t frames (heap_of t.image order w) x w0.turns) (sym r.level) ∙ ap (λ x. machine_with t frames (heap_of t.image order w) w.level x) (sym r.turns)

pub length_mapped : {A B : Type 0} (g : A → B) (xs : List A) → length (map g xs) ≡ length xs
length_mapped g [] = refl
length_mapped g (x ∷ xs) = ap suc (length_mapped g xs)
