-- How the play of a document comes to its end.
use Rattle.std.proofs.Common.{◌≡◌, ◌≢◌, ℕ, zero, suc, ◌+◌, ◌<◌, List, [], ◌∷◌, Option, None, Some, Bool, true, false, inl, inr, refl, ap, ◌∙◌, sym, subst, arith}
use Rattle.std.specs.Prelude.{if◌then◌else◌, nat_lt, ◌⊎◌, ◌||◌, codes}
use Rattle.std.specs.List.{list_any}
use Rattle.std.proofs.lemmas.Bool.{lt-ltb}
use Rattle.flex_base.specs.Value.{same}
use Rattle.flex_base.specs.declared.outcome.MachineFault.{MachineFault}
use Rattle.flex_base.specs.declared.outcome.Outcome.TheVariants.{Stopped, TurnsSpent, Fault}
use Rattle.flex_base.specs.declared.outcome.Stop.TheVariants.{Depth, Cells, UnknownState}
use Rattle.flex_base.specs.declared.record.TraceItem.TheVariants.{Made, Written, Sent, Heard, User, Missed}
use Rattle.flex_base.specs.declared.value.ObjId.{ObjId}
use Rattle.flex_base.specs.declared.value.Value.{Value}
use Rattle.flex_base.specs.declared.value.Value.TheVariants as value
use Rattle.flex_front.specs.declared.document.Element.{Element}
use Rattle.flex_front.specs.declared.document.Element.TheVariants as element
use Rattle.flex_front.specs.declared.document.Document.{Document}
use Rattle.flex_front.specs.Source.{id_of}
use Rattle.flex_base.specs.declared.event.Arrival.{Arrival}
use Rattle.flex_base.specs.declared.event.UserEvent.{UserEvent}
use Rattle.flex_base.specs.declared.event.UserEvent.TheVariants as event
use Rattle.flex_base.specs.Events.{arrivals, hearing, path_text, phase_number, click}
use Rattle.flexc.specs.Command.{IsEnd}
use Rattle.flexc.specs.Meaning.{next_handler, handler, apply, build_element, build_all, construct, handle, hear, hear_all, visit, reached, clicks, does, do_all, play, told, source_trace}
use Rattle.flexc.specs.World.{Kind, MouseEvent, Property, Listener, World, Result, Goes, Halts, bind, note, empty_world, spend, enter, leave, activity, take, make, next_number, new_component, with_component, component, property_in, with_listener, stored, write_over, outer, listeners}

-- goes on with so many activities open, or halts because the turns are spent or the cells don't hold out; or because a state was asked
-- for, where that may be
abbrev EndsTamely : {A : Type 0} → Bool → ℕ → Result A → Type 0
EndsTamely asks l (Goes v w) = w.level ≡ l
EndsTamely asks l (Halts o w) = ((o ≡ TurnsSpent) ⊎ (o ≡ Stopped Cells)) ⊎ ((o ≡ Stopped UnknownState) × (asks ≡ true))

record MayEnd {A : Type 0} (asks : Bool) (l : ℕ) (r : Result A) : Type 0 where
  end : EndsTamely asks l r

-- whether a line of a script asks for a state
abbrev pub asks_state : UserEvent → Bool
asks_state (event.Click path line) = false
asks_state (event.Write path text line) = false
asks_state (event.State name line) = true

either_first : (a b : Bool) → a ≡ true → (a || b) ≡ true
either_first true b e = refl
either_first false b e = absurd (cc)

either_second : (a b : Bool) → b ≡ true → (a || b) ≡ true
either_second true b e = refl
either_second false b e = e

module _ (asks : Bool) where
  abbrev IsTame : {A : Type 0} → ℕ → Result A → Type 0
  IsTame l r = MayEnd asks l r

  goes_tamely : {A : Type 0} (l : ℕ) (v : A) (w : World) → w.level ≡ l → IsTame l (Goes v w)
  goes_tamely l v w is = record { end = is }

  bind_tamely : {A B : Type 0} (l m : ℕ) (r : Result A) (f : A → World → Result B) → IsTame l r → ((v : A) (w : World) → w.level ≡ l → IsTame m (f v w)) → IsTame m (bind r f)
  bind_tamely l m (Goes v w) f tame each = each v w tame.end
  bind_tamely l m (Halts o w) f tame each = record { end = tame.end }

  take_tamely : (l : ℕ) (kind : Kind) (properties : List Property) (declared : ℕ) (w : World) → w.level ≡ l → IsTame l (take kind properties declared w)
  take_tamely l kind properties declared w is = by (nat_lt 1000000 (w.cells + (16 + declared)))
    where
      by : (t : Bool) → IsTame l (if t then Halts (Stopped Cells) w else Goes (next_number w) (with_component (new_component kind properties) (16 + declared) w))
      by true = record { end = inl (inr refl) }
      by false = record { end = is }

  make_tamely : (l : ℕ) (kind : Kind) (class : List ℕ) (properties : List Property) (declared : ℕ) (w : World) → w.level ≡ l → IsTame l (make kind class properties declared w)
  make_tamely l kind class properties declared w is =
      bind_tamely l l _ _ (take_tamely l kind properties declared w is) (λ o w1 is1. goes_tamely l o (note (Made o class) w1) is1)

  enter_tamely : (l : ℕ) (w : World) → l < 256 → w.level ≡ l → IsTame (l + 1) (enter w)
  enter_tamely l w low is =
      let below : nat_lt w.level 256 ≡ true = lt-ltb w.level 256 (omega arith) in
      subst (λ t. IsTame (l + 1) (if t then spend w.turns w else Halts (Stopped Depth) w)) (sym below) (by w.turns)
    where
      by : (turns : ℕ) → IsTame (l + 1) (spend turns w)
      by zero = record { end = inl (inl refl) }
      by (suc turns) = record { end = ap (λ n. n + 1) is }

  activity_tamely : (l : ℕ) (f : World → Result (Unit {0})) (w : World) → l < 256 → w.level ≡ l → ((w1 : World) → w1.level ≡ l + 1 → IsTame (l + 1) (f w1)) → IsTame l (activity f w)
  activity_tamely l f w low is each =
      bind_tamely (l + 1) l (enter w) (λ _ w1. bind (f w1) (λ _ w2. Goes tt (leave w2))) (enter_tamely l w low is)
      (λ _ w1 is1. bind_tamely (l + 1) l (f w1) (λ _ w2. Goes tt (leave w2)) (each w1 is1) (λ _ w2 is2. goes_tamely l tt (leave w2) (omega (arith, is2))))

  written_level : (o : ObjId) (name : List ℕ) (p : Option Property) (v : Value) (w : World) → (write_over o name p v w).level ≡ w.level
  written_level o name None v w = refl
  written_level o name (Some p) v w = by (same p.value v)
    where
      by : (t : Bool) → (if t then w else note (Written o name v) (stored o name v w)).level ≡ w.level
      by true = refl
      by false = refl

  apply_tamely : (l : ℕ) (document : ObjId) (number : ℕ) (o : ObjId) (e : Element) (w : World) → w.level ≡ l → IsTame l (apply document number o e w)
  apply_tamely l document number o (element.Label id text) w is =
      goes_tamely l tt (write_over o (codes "text") (property_in (codes "text") (component w o)) (value.Text text) w)
      (written_level o (codes "text") (property_in (codes "text") (component w o)) (value.Text text) w ∙ is)
  apply_tamely l document number o (element.Button id None) w is = goes_tamely l tt w is
  apply_tamely l document number o (element.Button id (Some text)) w is = goes_tamely l tt (with_listener o (handler document number text) w) is

  all_tamely : (l : ℕ) (document : ObjId) (number : ℕ) (es : List Element) (w : World) → w.level ≡ l → IsTame l (build_all document number es w)
  all_tamely l document number [] w is = goes_tamely l tt w is
  all_tamely l document number (e ∷ es) w is =
      bind_tamely l l (build_element document number e w) (λ _ w1. build_all document (next_handler e number) es w1)
      (bind_tamely l l _ _ (make_tamely l _ _ _ 0 w is)
      (λ o w1 is1. bind_tamely l l _ _ (apply_tamely l document number o e (write_over document (id_of e) (property_in (id_of e) (component w1 document)) (value.Ref o) w1)
      (written_level document (id_of e) (property_in (id_of e) (component w1 document)) (value.Ref o) w1 ∙ is1)) (λ _ w2 is2. goes_tamely l o _ is2)))
      (λ _ w1 is1. all_tamely l document (next_handler e number) es w1 is1)

  hear_all_tamely : (a : Arrival) (ls : List Listener) (w : World) → w.level ≡ 0 → IsTame 0 (hear_all a ls w)
  hear_all_tamely a [] w is = goes_tamely 0 tt w is
  hear_all_tamely a (l ∷ ls) w is =
      bind_tamely 0 0 (hear a l w) (λ _ w1. hear_all a ls w1)
      (activity_tamely 0 (λ w1. handle l (note (Heard a.node click (phase_number a.phase)) w1)) w (omega arith) is (λ w1 is1. goes_tamely (0 + 1) tt _ is1))
      (λ _ w1 is1. hear_all_tamely a ls w1 is1)

  visit_tamely : (nodes : List Arrival) (w : World) → w.level ≡ 0 → IsTame 0 (visit nodes w)
  visit_tamely [] w is = goes_tamely 0 tt w is
  visit_tamely (a ∷ nodes) w is =
      bind_tamely 0 0 (hear_all a (hearing (λ l. l.event) click a.phase (listeners w a.node)) w) (λ _ w1. visit nodes w1)
      (hear_all_tamely a (hearing (λ l. l.event) click a.phase (listeners w a.node)) w is) (λ _ w1 is1. visit_tamely nodes w1 is1)

  clicks_tamely : (path : List (List ℕ)) (o : Option ObjId) (w : World) → w.level ≡ 0 → IsTame 0 (clicks path o w)
  clicks_tamely path None w is = goes_tamely 0 tt (note (Missed (path_text path)) w) is
  clicks_tamely path (Some o) w is =
      bind_tamely 0 0 _ _ (take_tamely 0 MouseEvent [] 0 w is) (λ e w1 is1. visit_tamely (arrivals o (outer w o)) (note (Sent o click) w1) is1)

  does_tamely : (document : ObjId) (e : UserEvent) (w : World) → (asks_state e ≡ true → asks ≡ true) → w.level ≡ 0 → IsTame 0 (does document e w)
  does_tamely document (event.Click path line) w may is = clicks_tamely path (reached w document path) (note (User line) w) is
  does_tamely document (event.Write path text line) w may is = goes_tamely 0 tt (note (Missed (path_text path)) (note (User line) w)) is
  does_tamely document (event.State name line) w may is = record { end = inr (refl, may refl) }

  script_tamely : (document : ObjId) (events : List UserEvent) (w : World) → (list_any asks_state events ≡ true → asks ≡ true) → w.level ≡ 0 → IsTame 0 (do_all document events w)
  script_tamely document [] w may is = goes_tamely 0 tt w is
  script_tamely document (e ∷ events) w may is =
      bind_tamely 0 0 (does document e w) (λ _ w1. do_all document events w1) (does_tamely document e w (λ t. may (either_first (asks_state e) (list_any asks_state events) t)) is)
      (λ _ w1 is1. script_tamely document events w1 (λ t. may (either_second (asks_state e) (list_any asks_state events) t)) is1)

  play_tamely : (d : Document) (events : List UserEvent) (w : World) → (list_any asks_state events ≡ true → asks ≡ true) → w.level ≡ 0 → IsTame 0 (play d events w)
  play_tamely d events w may is =
      bind_tamely 0 0 _ _ (make_tamely 0 _ _ _ _ w is)
      (λ document w1 is1. bind_tamely 0 0 (construct document d.elements w1) (λ _ w2. do_all document events w2)
      (activity_tamely 0 (activity (build_all document 0 d.elements)) w1 (omega arith) is1
      (λ w2 is2. activity_tamely (0 + 1) (build_all document 0 d.elements) w2 (omega arith) is2 (λ w3 is3. all_tamely ((0 + 1) + 1) document 0 d.elements w3 is3)))
      (λ _ w2 is2. script_tamely document events w2 may is2))

-- how the play of a document comes to its end, where its script asks for no state
pub ends_so : (d : Document) (events : List UserEvent) (turns : ℕ) → list_any asks_state events ≡ false → IsEnd (source_trace d events turns).outcome
ends_so d events turns none = by (play d events (empty_world turns)) (play_tamely false d events (empty_world turns) (λ t. sym none ∙ t) refl)
  where
    by : (r : Result (Unit {0})) → MayEnd false 0 r → IsEnd (told r).outcome
    by (Goes v w) tame = inl refl
    by (Halts o w) tame = halted tame.end
      where
        halted : EndsTamely {A = Unit {0}} false 0 (Halts o w) → IsEnd o
        halted (inl end) = inr end
        halted (inr asked) = absurd (cc)

-- it meets no machine fault
pub outcome_fairly : (d : Document) (events : List UserEvent) (turns : ℕ) (fault : MachineFault) → (source_trace d events turns).outcome ≢ Fault fault
outcome_fairly d events turns fault is = by (play d events (empty_world turns)) (play_tamely true d events (empty_world turns) (λ t. refl) refl) is
  where
    by : (r : Result (Unit {0})) → MayEnd true 0 r → (told r).outcome ≡ Fault fault → ⊥
    by (Goes v w) tame e = cc
    by (Halts o w) tame e = halted tame.end
      where
        halted : EndsTamely {A = Unit {0}} true 0 (Halts o w) → ⊥
        halted (inl (inl spent)) = cc
        halted (inl (inr stopped)) = cc
        halted (inr asked) = cc
