-- A play with more turns goes on where one with fewer ended.
use Rattle.std.proofs.Common.{◌≡◌, ℕ, zero, suc, ◌+◌, List, [], ◌∷◌, ◌++◌, Option, None, Some, Bool, true, false, inl, inr, refl, ap, ◌∙◌, sym, subst, arith, append_assoc, append-nil}
use Rattle.std.specs.Prelude.{if◌then◌else◌, nat_lt, ◌⊎◌, length, map, codes}
use Rattle.flex_base.specs.Value.{same}
use Rattle.flex_base.specs.declared.outcome.Outcome.TheVariants.{Stopped, TurnsSpent}
use Rattle.flex_base.specs.declared.outcome.Stop.TheVariants.{Depth, Cells, UnknownState}
use Rattle.flex_base.specs.declared.outcome.Stop.{Stop}
use Rattle.flex_base.specs.declared.record.TraceItem.{TraceItem}
use Rattle.flex_base.specs.declared.record.TraceItem.TheVariants.{Made, Written, Added, Sent, Heard, Traced, User, Missed}
use Rattle.flex_base.specs.declared.value.ObjId.{ObjId}
use Rattle.flex_base.specs.declared.value.Value.{Value}
use Rattle.flex_base.specs.declared.value.Value.TheVariants as value
use Rattle.flex_front.specs.declared.document.Element.{Element}
use Rattle.flex_front.specs.declared.document.Element.TheVariants as element
use Rattle.flex_front.specs.declared.document.Document.{Document}
use Rattle.flex_front.specs.Source.{id_of}
use Rattle.flex_base.specs.declared.event.Arrival.{Arrival}
use Rattle.flex_base.specs.declared.event.UserEvent.{UserEvent}
use Rattle.flex_base.specs.declared.event.UserEvent.TheVariants as event
use Rattle.flex_base.specs.Events.{arrivals, hearing, path_text, phase_number, click}
use Rattle.avm2_machine.specs.Names.{class_name}
use Rattle.flexc.specs.GoingOn.{IsBeginning, GoesOn, MoreTurnsGoOn}
use Rattle.flexc.specs.Meaning.{element_class, properties_of, id_property, next_handler, handler, apply, build_element, build_all, construct, handle, hear, hear_all, visit, send, held, walked, shown, reached, clicks, does, do_all, play, told}
use Rattle.flexc.specs.World.{Kind, Main, Native, MouseEvent, Property, Listener, World, Result, Goes, Halts, bind, note, empty_world, spend, enter, leave, activity, take, make, next_number, new_component, with_component, component, property_in, child_count, with_child, with_listener, stored, write_over, write, add, outer, listeners}

-- the same world with more turns left
abbrev more : ℕ → World → World
more k w = record w { turns = w.turns + k }

-- what was recorded when a result came
abbrev records_of : {A : Type 0} → Result A → List TraceItem
records_of (Goes v w) = w.records
records_of (Halts o w) = w.records

-- how a result compares to the one with more turns
abbrev Extends : {A : Type 0} → ℕ → Result A → Result A → Type 0
Extends k (Goes v w) r = r ≡ Goes v (more k w)
Extends k (Halts o w) r = ((o ≡ TurnsSpent) × IsBeginning w.records (records_of r)) ⊎ (r ≡ Halts o (more k w))

-- the records only grow, and more turns change nothing but what comes where fewer were spent
record IsSteady {A : Type 0} (f : World → Result A) : Type 0 where
  grows : (w : World) → IsBeginning w.records (records_of (f w))
  extends : (k : ℕ) (w : World) → Extends k (f w) (f (more k w))

-- all items are a beginning of themselves
beginning_same : (l : List TraceItem) → IsBeginning l l
beginning_same l = record { others = []; is = sym (append-nil l) }

-- items are a beginning of themselves with more behind them
beginning_more : (l m : List TraceItem) → IsBeginning l (l ++ m)
beginning_more l m = record { others = m; is = refl }

-- a beginning of a beginning
beginning_then : (l m n : List TraceItem) → IsBeginning l m → IsBeginning m n → IsBeginning l n
beginning_then l m n b c = record { others = b.others ++ c.others; is = c.is ∙ ap (λ x. x ++ c.others) b.is ∙ append_assoc l b.others c.others }

-- a world that is changed alike with more turns
goes_steadily : {A : Type 0} (v : A) (g : World → World) → ((w : World) → IsBeginning w.records (g w).records) → ((k : ℕ) (w : World) → g (more k w) ≡ more k (g w)) → IsSteady (λ w. Goes v (g w))
goes_steadily v g begins alike = record { grows = begins; extends = λ k w. ap (λ x. Goes v x) (alike k w) }

-- nothing is done
stays_steadily : {A : Type 0} (v : A) → IsSteady (λ w. Goes v w)
stays_steadily v = goes_steadily v (λ w. w) (λ w. beginning_same w.records) (λ k w. refl)

-- what is done with something that was looked up, which more turns don't change
steady_by : {A L : Type 0} (l : World → L) (f : L → World → Result A) → ((k : ℕ) (w : World) → l (more k w) ≡ l w) → ((x : L) → IsSteady (f x)) → IsSteady (λ w. f (l w) w)
steady_by l f alike each = record {
  grows = λ w. (each (l w)).grows w;
  extends = λ k w. subst (λ x. Extends k (f (l w) w) (f x (more k w))) (sym (alike k w)) ((each (l w)).extends k w);
}

-- what comes after a result only adds records
bind_grows : {A B : Type 0} (f : A → World → Result B) → ((v : A) → IsSteady (f v)) → (l : List TraceItem) (r : Result A) → IsBeginning l (records_of r) → IsBeginning l (records_of (bind r f))
bind_grows f each l (Goes v w) b = beginning_then l w.records (records_of (f v w)) b ((each v).grows w)
bind_grows f each l (Halts o w) b = b

-- what comes after two results with fewer and more turns compares as they do
bind_extends : {A B : Type 0} (f : A → World → Result B) → ((v : A) → IsSteady (f v)) → (k : ℕ) (r q : Result A) → Extends k r q → Extends k (bind r f) (bind q f)
bind_extends f each k (Goes v w) q e = subst (λ x. Extends k (f v w) (bind x f)) (sym e) ((each v).extends k w)
bind_extends f each k (Halts o w) q (inl spent) = inl (spent.0, bind_grows f each w.records q spent.1)
bind_extends f each k (Halts o w) q (inr e) = inr (ap (λ x. bind x f) e)

-- one after the other
steady_bind : {A B : Type 0} (f : World → Result A) (g : A → World → Result B) → IsSteady f → ((v : A) → IsSteady (g v)) → IsSteady (λ w. bind (f w) g)
steady_bind f g steady each = record {
  grows = λ w. bind_grows g each w.records (f w) (steady.grows w);
  extends = λ k w. bind_extends g each k (f w) (f (more k w)) (steady.extends k w);
}

-- an object is taken: the cells are the same with more turns
take_steadily : (kind : Kind) (properties : List Property) (declared : ℕ) → IsSteady (take kind properties declared)
take_steadily kind properties declared = record {
  grows = λ w. grown w (nat_lt 1000000 (w.cells + (16 + declared)));
  extends = λ k w. extended k w (nat_lt 1000000 (w.cells + (16 + declared)));
}
  where
    grown : (w : World) (t : Bool) → IsBeginning w.records (records_of (if t then Halts (Stopped Cells) w else Goes (next_number w) (with_component (new_component kind properties) (16 + declared) w)))
    grown w true = beginning_same w.records
    grown w false = beginning_same w.records

    extended : (k : ℕ) (w : World) (t : Bool) → Extends k (if t then Halts (Stopped Cells) w else Goes (next_number w) (with_component (new_component kind properties) (16 + declared) w)) (if t then Halts (Stopped Cells) (more k w) else Goes (next_number w) (with_component (new_component kind properties) (16 + declared) (more k w)))
    extended k w true = inr refl
    extended k w false = refl

-- the play stops
stops_steadily : {A : Type 0} (cause : Stop) → IsSteady {A = A} (λ w. Halts (Stopped cause) w)
stops_steadily cause = record { grows = λ w. beginning_same w.records; extends = λ k w. inr refl }

-- a record is noted
note_steadily : {A : Type 0} (v : A) (item : TraceItem) → IsSteady (λ w. Goes v (note item w))
note_steadily v item = goes_steadily v (λ w. note item w) (λ w. beginning_more w.records (item ∷ [])) (λ k w. refl)

-- a record is noted before something that is steady
noted_steadily : {A : Type 0} (item : TraceItem) (f : World → Result A) → IsSteady f → IsSteady (λ w. f (note item w))
noted_steadily item f steady = steady_bind (λ w. Goes (tt {0}) (note item w)) (λ _. f) (note_steadily tt item) (λ _. steady)

-- an object is made
make_steadily : (kind : Kind) (class : List ℕ) (properties : List Property) (declared : ℕ) → IsSteady (make kind class properties declared)
make_steadily kind class properties declared =
    steady_bind (take kind properties declared) (λ o w1. Goes o (note (Made o class) w1)) (take_steadily kind properties declared) (λ o. note_steadily o (Made o class))

-- a turn is spent without a record
spend_grows : (n : ℕ) (w : World) → IsBeginning w.records (records_of (spend n w))
spend_grows zero w = beginning_same w.records
spend_grows (suc n) w = beginning_same w.records

-- where no turn is left, more turns add only records, and otherwise there are as many more afterwards
spend_extends : (k n : ℕ) (w : World) → Extends k (spend n w) (spend (n + k) (more k w))
spend_extends k zero w = inl (refl, spend_grows (zero + k) (more k w))
spend_extends k (suc n) w = let e : suc n + k ≡ suc (n + k) = omega arith in ap (λ m. spend m (more k w)) e

-- an activity begins: the levels are the same with more turns
enter_steadily : IsSteady enter
enter_steadily = record { grows = λ w. grown w (nat_lt w.level 256); extends = λ k w. extended k w (nat_lt w.level 256) }
  where
    grown : (w : World) (t : Bool) → IsBeginning w.records (records_of (if t then spend w.turns w else Halts (Stopped Depth) w))
    grown w true = spend_grows w.turns w
    grown w false = beginning_same w.records

    extended : (k : ℕ) (w : World) (t : Bool) → Extends k (if t then spend w.turns w else Halts (Stopped Depth) w) (if t then spend (w.turns + k) (more k w) else Halts (Stopped Depth) (more k w))
    extended k w true = spend_extends k w.turns w
    extended k w false = inr refl

-- an activity of something that is steady
activity_steadily : (f : World → Result (Unit {0})) → IsSteady f → IsSteady (activity f)
activity_steadily f steady =
    steady_bind enter (λ _ w1. bind (f w1) (λ _ w2. Goes tt (leave w2))) enter_steadily
    (λ _. steady_bind f (λ _ w2. Goes tt (leave w2)) steady (λ _. goes_steadily tt leave (λ w. beginning_same w.records) (λ k w. refl)))

-- a property that was looked up is written, or left as it is
write_over_steadily : (o : ObjId) (name : List ℕ) (v : Value) (p : Option Property) → IsSteady (λ w. Goes (tt {0}) (write_over o name p v w))
write_over_steadily o name v None = stays_steadily (tt {0})
write_over_steadily o name v (Some p) = by (same p.value v)
  where
    by : (t : Bool) → IsSteady (λ w. Goes (tt {0}) (if t then w else note (Written o name v) (stored o name v w)))
    by true = stays_steadily (tt {0})
    by false = goes_steadily (tt {0}) (λ w. note (Written o name v) (stored o name v w)) (λ w. beginning_more w.records (Written o name v ∷ [])) (λ k w. refl)

-- a property is written
write_steadily : (o : ObjId) (name : List ℕ) (v : Value) → IsSteady (write o name v)
write_steadily o name v = steady_by (λ w. property_in name (component w o)) (λ p w. Goes tt (write_over o name p v w)) (λ k w. refl) (write_over_steadily o name v)

-- a child is added
add_steadily : (parent child : ObjId) → IsSteady (add parent child)
add_steadily parent child =
    steady_by (λ w. child_count (component w parent)) (λ n w. Goes tt (note (Added parent child n) (with_child parent child w))) (λ k w. refl)
    (λ n. goes_steadily tt (λ w. note (Added parent child n) (with_child parent child w)) (λ w. beginning_more w.records (Added parent child n ∷ [])) (λ k w. refl))

-- an element's attributes are applied
apply_steadily : (document : ObjId) (number : ℕ) (o : ObjId) (e : Element) → IsSteady (apply document number o e)
apply_steadily document number o (element.Label id text) = write_steadily o (codes "text") (value.Text text)
apply_steadily document number o (element.Button id None) = stays_steadily (tt {0})
apply_steadily document number o (element.Button id (Some text)) =
    goes_steadily tt (with_listener o (handler document number text)) (λ w. beginning_same w.records) (λ k w. refl)

-- an element is built
element_steadily : (document : ObjId) (number : ℕ) (e : Element) → IsSteady (build_element document number e)
element_steadily document number e =
    steady_bind _ _ (make_steadily (Native (element_class e)) (class_name (element_class e)) (properties_of (element_class e)) 0)
    (λ o. steady_bind _ _ (write_steadily document (id_of e) (value.Ref o))
    (λ _. steady_bind _ _ (apply_steadily document number o e)
    (λ _. steady_bind _ _ (add_steadily document o)
    (λ _. stays_steadily o))))

-- all elements are built
all_steadily : (document : ObjId) (number : ℕ) (es : List Element) → IsSteady (build_all document number es)
all_steadily document number [] = stays_steadily (tt {0})
all_steadily document number (e ∷ es) = steady_bind _ _ (element_steadily document number e) (λ _. all_steadily document (next_handler e number) es)

-- a listener hears an event
hear_steadily : (a : Arrival) (l : Listener) → IsSteady (hear a l)
hear_steadily a l =
    activity_steadily (λ w. handle l (note (Heard a.node click (phase_number a.phase)) w))
    (noted_steadily (Heard a.node click (phase_number a.phase)) (handle l) (note_steadily tt (Traced l.traces)))

-- the listeners of a node hear an event
hear_all_steadily : (a : Arrival) (ls : List Listener) → IsSteady (hear_all a ls)
hear_all_steadily a [] = stays_steadily (tt {0})
hear_all_steadily a (l ∷ ls) = steady_bind _ _ (hear_steadily a l) (λ _. hear_all_steadily a ls)

-- an event visits its nodes
visit_steadily : (nodes : List Arrival) → IsSteady (visit nodes)
visit_steadily [] = stays_steadily (tt {0})
visit_steadily (a ∷ nodes) =
    steady_bind (λ w. hear_all a (hearing (λ l. l.event) click a.phase (listeners w a.node)) w) (λ _. visit nodes)
    (steady_by (λ w. hearing (λ l. l.event) click a.phase (listeners w a.node)) (hear_all a) (λ k w. refl) (hear_all_steadily a))
    (λ _. visit_steadily nodes)

-- an event is sent
send_steadily : (target : ObjId) (nodes : List Arrival) → IsSteady (send target nodes)
send_steadily target nodes =
    steady_bind _ _ (take_steadily MouseEvent [] 0) (λ _. noted_steadily (Sent target click) (visit nodes) (visit_steadily nodes))

-- more turns don't change what a path reaches
walked_alike : (k : ℕ) (w : World) (o : Option ObjId) (path : List (List ℕ)) → walked (more k w) o path ≡ walked w o path
walked_alike k w o [] = refl
walked_alike k w None (name ∷ path) = refl
walked_alike k w (Some o) (name ∷ path) = walked_alike k w (held (property_in name (component w o))) path

reached_alike : (document : ObjId) (path : List (List ℕ)) (k : ℕ) (w : World) → reached (more k w) document path ≡ reached w document path
reached_alike document path k w = ap (shown w document) (walked_alike k w (Some document) path)

-- a click on what a path has reached, or on nothing
clicks_steadily : (path : List (List ℕ)) (o : Option ObjId) → IsSteady (clicks path o)
clicks_steadily path None = note_steadily tt (Missed (path_text path))
clicks_steadily path (Some o) = steady_by (λ w. arrivals o (outer w o)) (send o) (λ k w. refl) (send_steadily o)

-- a line of the script
does_steadily : (document : ObjId) (e : UserEvent) → IsSteady (does document e)
does_steadily document (event.Click path line) =
    steady_by (λ w. reached w document path) (λ o w. clicks path o (note (User line) w)) (reached_alike document path)
    (λ o. noted_steadily (User line) (clicks path o) (clicks_steadily path o))
does_steadily document (event.Write path text line) =
    noted_steadily (User line) (λ w. Goes tt (note (Missed (path_text path)) w)) (note_steadily tt (Missed (path_text path)))
does_steadily document (event.State name line) = noted_steadily (User line) (λ w. Halts (Stopped UnknownState) w) (stops_steadily UnknownState)

-- the whole script
script_steadily : (document : ObjId) (events : List UserEvent) → IsSteady (do_all document events)
script_steadily document [] = stays_steadily (tt {0})
script_steadily document (e ∷ events) = steady_bind _ _ (does_steadily document e) (λ _. script_steadily document events)

-- the whole play
play_steadily : (d : Document) (events : List UserEvent) → IsSteady (play d events)
play_steadily d events =
    steady_bind _ _ (make_steadily Main (codes "Main") (map id_property d.elements) (length d.elements))
    (λ document. steady_bind (construct document d.elements) (λ _. do_all document events)
    (activity_steadily (activity (build_all document 0 d.elements)) (activity_steadily (build_all document 0 d.elements) (all_steadily document 0 d.elements)))
    (λ _. script_steadily document events))

-- a story has the records of its result
told_records : (r : Result (Unit {0})) → records_of r ≡ (told r).records
told_records (Goes v w) = refl
told_records (Halts o w) = refl

-- the stories of two results with fewer and more turns
told_goes_on : (k : ℕ) (r q : Result (Unit {0})) → Extends k r q → GoesOn (told r) (told q)
told_goes_on k (Goes v w) q e = record { spent = λ is. absurd (cc); over = λ _. ap told e }
told_goes_on k (Halts o w) q (inl spent) = record {
  spent = λ _. subst (IsBeginning w.records) (told_records q) spent.1;
  over = λ not. absurd (not spent.0);
}
told_goes_on k (Halts o w) q (inr e) = record {
  spent = λ _. subst (λ x. IsBeginning w.records (told x).records) (sym e) (beginning_same w.records);
  over = λ _. ap told e;
}

-- a play with more turns goes on
pub more_turns_go_on : MoreTurnsGoOn
more_turns_go_on d events turns more =
    told_goes_on more (play d events (empty_world turns)) (play d events (empty_world (turns + more))) ((play_steadily d events).extends more (empty_world turns))
