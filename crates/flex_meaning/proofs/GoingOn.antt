-- A play with more turns goes on where one with fewer ended.
use Rattle.std.proofs.Common.{List, [], ap, append-nil, append_assoc, arith, refl, subst, suc, sym, zero, ℕ, ◌&&◌, ◌++◌, ◌+◌, ◌||◌, ◌∙◌, ◌∷◌, ◌≡◌, ◌≤◌, ◌⊎◌, not, inr, inl}
use Rattle.std.specs.Option.{IfSome}
use Rattle.std.specs.Prelude.{Bool, Err, None, Ok, Option, Some, codes, false, if◌then◌else◌, length, nat_lt, negsuc, option_map, pos, slice_get, true, ◌==◌}
use Rattle.std.specs.Prelude.{Result as Computed}
use Rattle.flex_base.specs.Events.{path_text, phase_number}
use Rattle.flex_base.specs.Lists.{changed_at}
use Rattle.flex_base.specs.Value.{length_of, ref_of, to_bool, to_text, same}
use Rattle.flex_base.specs.declared.event.Arrival.{Arrival}
use Rattle.flex_base.specs.declared.event.UserEvent.{UserEvent}
use Rattle.flex_base.specs.declared.event.UserEvent.TheVariants as user
use Rattle.flex_base.specs.declared.outcome.Outcome.TheVariants.{TurnsSpent}
use Rattle.flex_base.specs.declared.outcome.Stop.{Stop}
use Rattle.flex_base.specs.declared.outcome.Stop.TheVariants as stop
use Rattle.flex_base.specs.declared.record.TraceItem.{TraceItem}
use Rattle.flex_base.specs.declared.record.TraceItem.TheVariants.{Added, Heard, Made, Missed, Removed, Sent, Traced, User, Written}
use Rattle.flex_base.specs.declared.value.ObjId.{ObjId}
use Rattle.flex_base.specs.declared.value.Value.{Value}
use Rattle.flex_base.specs.declared.value.Value.TheVariants as value
use Rattle.component_catalog.specs.Events.{Event, change, click, creation_complete, current_state_change}
use Rattle.component_catalog.specs.Methods.{parameters_of}
use Rattle.component_catalog.specs.declared.class.NativeClass.TheVariants as native
use Rattle.component_catalog.specs.declared.method.NativeMethod.{NativeMethod}
use Rattle.component_catalog.specs.declared.method.NativeMethod.TheVariants as catalog
use Rattle.component_catalog.specs.declared.method.Parameter.{Parameter}
use Rattle.component_catalog.specs.declared.method.Parameter.TheVariants as parameter
use Rattle.flex_world.specs.Arrays.{element_or_undefined, last_or_undefined, most_elements, with_element, with_last, without_last}
use Rattle.flex_world.specs.Children.{child_at, place_for}
use Rattle.flex_world.specs.Classes.{is_event, native_descends, static_type}
use Rattle.flex_world.specs.declared.kind.Class.{Class}
use Rattle.flex_world.specs.declared.kind.StaticType.{StaticType}
use Rattle.flex_world.specs.Conversions.{accepts, constructor_parameters, into_result, into_type, left_out, start_of_result}
use Rattle.flex_world.specs.Events.{delivery_stopped_at_once, event_path, hearers, is_registered, prevented_delivery, prevented_now, registration, stopped_delivery, while_open}
use Rattle.flex_world.specs.Making.{new_object, object_cost}
use Rattle.flex_world.specs.Objects.{An_array, Delivery, Field, Instance_of, Listener, Object, Spot, Watcher, ancestors_of, can_be_written, count, current_state, field_named, is_array, is_object_among, is_state_field, is_true, next_object, object_at, object_class, property, text_in}
use Rattle.flex_world.specs.Operators.{made_text, negated, operate, spaced_text, texts_of}
use Rattle.flex_world.specs.declared.operator.Operator.{Operator}
use Rattle.flex_program.specs.Classes.{Callee, bases, callee, class_name, constructor_of, document_in, fields_of, has_property}
use Rattle.flex_program.specs.Instances.{instance_numbered, lies_in, numbers_of, part_of, parts_of}
use Rattle.flex_program.specs.Program.{Attribute, Binding, BindingSource, Block, Change, Constructor, Contents, Destination, Document, Expr, Exprs, Given, Givens, Instance, Method, MoreExpr, MoreStmt, NoExpr, NoStmt, Override, Part, Place, Presence, Program, State, Stmt}
use Rattle.flex_meaning.specs.Activities.{Builds_document, Builds_instance, Calls, Constructs, Context, Does, Enters, Hears, Leaves, Runs_binding, Task}
use Rattle.flex_meaning.specs.Arrays.{append, array_length, on_array, pop, push, read_element, room, write_at, write_element}
use Rattle.flex_meaning.specs.Bindings.{Target, caught, closed, destination, end_of_chain, go_on, opened, read_built, run_binding, source, transfer, write_source, write_target, target}
use Rattle.flex_meaning.specs.Building.{apply_attribute, bindings_where, build, build_contents, build_declarations, build_document, build_given, build_instance, build_items, build_of_state, build_root, by_presence, enable_all, enter_initial, register, start_bindings_of, write_id, declared_spot}
use Rattle.flex_meaning.specs.Changes.{ask, change_state, end_change, enter_first, enter_state, is_current, is_known, keep, request, set_over, set_running, state_asked, state_named, store_state, take_kept}
use Rattle.flex_meaning.specs.Conversions.{convert, convert_all, convert_result, into_parameter, into_parameters, method_arguments, native_arguments}
use Rattle.flex_meaning.specs.Dispatch.{announce, arrive, arrive_unless_stopped, close_dispatch, deliver, dispatch, hear, hear_unless_stopped, open_dispatch, send, set_arrival, set_event}
use Rattle.flex_meaning.specs.Elements.{add_child, joins, leave_parent, take_out, completed}
use Rattle.flex_meaning.specs.Expressions.{Env, at_null, call, eval, eval_all, find_method, length_value, literal_value, method_value, receiver, tested}
use Rattle.flex_meaning.specs.GoingOn.{GoesOn, IsBeginning, MoreTurnsGoOn}
use Rattle.flex_meaning.specs.Making.{begin_event, construct, constructor_arguments, lacks_type, make, prepare, with_type}
use Rattle.flex_meaning.specs.Natives.{add_listener, call_alone, call_by_count, call_native, call_with_object, call_with_one, dispatch_given, get_element, has_listener, is_it, mark, object_given, remove_element, remove_listener, type_given}
use Rattle.flex_meaning.specs.Objects.{allocate, make_bare, new_array, note_made, read}
use Rattle.flex_meaning.specs.Results.{Ends, Goes, Halts, Result, Stuck, bind, choose, done, each, given, guarded, need, on, stops}
use Rattle.flex_meaning.specs.Script.{has_flag, miss, play_event, reached, send_change, takes_text, toggle, toggles, type_at, click_on}
use Rattle.flex_meaning.specs.Statements.{Breaks, Continues, Falls, Flow, Returns, again, combined, construct_base, exec, exec_all, falls, first_env, flow_on, give_back, loop, put, returned, run, set_element, set_local, set_property, test_of, trace, update}
use Rattle.flex_meaning.specs.States.{add_part, apply_change, apply_from, apply_to, built_now, drop_saved, enter_named, enter_part, forget, forget_built, includes, is_present, leave_part, leave_state, register_base, remove_part, save, saved, saved_at, undo_change, undo_from, undo_saved, write_null}
use Rattle.flex_meaning.specs.Storing.{binding_of, may_start, noted, start, start_affected, store}
use Rattle.flex_meaning.specs.Tasks.{activities, build_if_document, construct_numbered, construct_unless_super, context, perform, register_document, run_constructor, run_method, start_variable, without_value}
use Rattle.flex_meaning.specs.Trace.{play, told}
use Rattle.flex_meaning.specs.Turns.{activity, enter, leave, pay, spend, take_number, tick}
use Rattle.flex_meaning.specs.Watching.{affected}
use Rattle.flex_meaning.specs.World.{Saved, World, built_object, change_delivery, change_object, empty_world, has_built, is_fresh, listen, note, set_field, unlisten}
use Rattle.flex_meaning.specs.Writes.{assign, write}

-- what was recorded when a result came
abbrev records_of : {A : Type 0} → Result A → List TraceItem
records_of (Goes v w) = w.records
records_of (Halts o w) = w.records
records_of (Ends w) = w.records
records_of (Stuck w) = w.records

-- all items are a beginning of themselves
beginning_same : (l : List TraceItem) → IsBeginning l l
beginning_same l = record { others = []; is = sym (append-nil l) }

-- items are a beginning of themselves with more behind them
beginning_more : (l m : List TraceItem) → IsBeginning l (l ++ m)
beginning_more l m = record { others = m; is = refl }

-- a beginning of a beginning
beginning_then : (l m n : List TraceItem) → IsBeginning l m → IsBeginning m n → IsBeginning l n
beginning_then l m n b c = record { others = b.others ++ c.others; is = c.is ∙ ap (λ x. x ++ c.others) b.is ∙ append_assoc l b.others c.others }

module _ (k : ℕ) where
  -- the same world with more turns left
  abbrev more : World → World
  more w = record w { turns = w.turns + k }

  -- how a result compares to the one with more turns
  abbrev Extends : {A : Type 0} → Result A → Result A → Type 0
  Extends (Goes v w) r = r ≡ Goes v (more w)
  Extends (Halts o w) r = ((o ≡ TurnsSpent) × IsBeginning w.records (records_of r)) ⊎ (r ≡ Halts o (more w))
  Extends (Ends w) r = r ≡ Ends (more w)
  Extends (Stuck w) r = r ≡ Stuck (more w)

  -- the records of the second only grow, and it does with more turns what the first does, unless this spends its turns
  record Alike {A : Type 0} (f g : World → Result A) : Type 0 where
    grows : (w : World) → IsBeginning w.records (records_of (g w))
    extends : (w : World) → Extends (f w) (g (more w))

  -- a world that is changed alike with more turns
  alike_goes : {A : Type 0} (v : A) (h : World → World) → ((w : World) → IsBeginning w.records (h w).records) → ((w : World) → h (more w) ≡ more (h w)) → Alike (λ w. Goes v (h w)) (λ w. Goes v (h w))
  alike_goes v h begins alike = record { grows = begins; extends = λ w. ap (λ x. Goes v x) (alike w) }

  alike_stays : {A : Type 0} (v : A) → Alike (λ w. Goes v w) (λ w. Goes v w)
  alike_stays v = alike_goes v (λ w. w) (λ w. beginning_same w.records) (λ w. refl)

  alike_stop : {A : Type 0} (cause : Stop) → Alike (stops {A = A} cause) (stops {A = A} cause)
  alike_stop cause = record { grows = λ w. beginning_same w.records; extends = λ w. inr refl }

  alike_stuck : {A : Type 0} → Alike {A = A} (λ w. Stuck w) (λ w. Stuck w)
  alike_stuck = record { grows = λ w. beginning_same w.records; extends = λ w. refl }

  alike_ends : {A : Type 0} → Alike {A = A} (λ w. Ends w) (λ w. Ends w)
  alike_ends = record { grows = λ w. beginning_same w.records; extends = λ w. refl }

  -- what is done with something that is looked up, which more turns don't change
  alike_by : {A L : Type 0} (l : World → L) (f g : L → World → Result A) → ((w : World) → l (more w) ≡ l w) → ((x : L) → Alike (f x) (g x)) → Alike (λ w. f (l w) w) (λ w. g (l w) w)
  alike_by l f g same each_one = record {
    grows = λ w. (each_one (l w)).grows w;
    extends = λ w. subst (λ x. Extends (f (l w) w) (g x (more w))) (sym (same w)) ((each_one (l w)).extends w);
  }

  -- what comes after a result only adds records
  bind_grows : {A B : Type 0} (f g : A → World → Result B) → ((v : A) → Alike (f v) (g v)) → (l : List TraceItem) (r : Result A) → IsBeginning l (records_of r) → IsBeginning l (records_of (bind r g))
  bind_grows f g each_one l (Goes v w) b = beginning_then l w.records (records_of (g v w)) b ((each_one v).grows w)
  bind_grows f g each_one l (Halts o w) b = b
  bind_grows f g each_one l (Ends w) b = b
  bind_grows f g each_one l (Stuck w) b = b

  bind_extends : {A B : Type 0} (f g : A → World → Result B) → ((v : A) → Alike (f v) (g v)) → (r q : Result A) → Extends r q → Extends (bind r f) (bind q g)
  bind_extends f g each_one (Goes v w) q e = subst (λ x. Extends (f v w) (bind x g)) (sym e) ((each_one v).extends w)
  bind_extends f g each_one (Halts o w) q (inl spent) = inl (spent.0, bind_grows f g each_one w.records q spent.1)
  bind_extends f g each_one (Halts o w) q (inr e) = inr (ap (λ x. bind x g) e)
  bind_extends f g each_one (Ends w) q e = ap (λ x. bind x g) e
  bind_extends f g each_one (Stuck w) q e = ap (λ x. bind x g) e

  -- one after the other
  alike_bind : {A B : Type 0} (f f1 : World → Result A) (g g1 : A → World → Result B) → Alike f f1 → ((v : A) → Alike (g v) (g1 v)) → Alike (λ w. bind (f w) g) (λ w. bind (f1 w) g1)
  alike_bind f f1 g g1 first each_one = record {
    grows = λ w. bind_grows g g1 each_one w.records (f1 w) (first.grows w);
    extends = λ w. bind_extends g g1 each_one (f w) (f1 (more w)) (first.extends w);
  }

  alike_choose : {A : Type 0} (b : Bool) (f f1 g g1 : World → Result A) → Alike f f1 → Alike g g1 → Alike (choose b f g) (choose b f1 g1)
  alike_choose true f f1 g g1 a b = a
  alike_choose false f f1 g g1 a b = b

  alike_each : {A : Type 0} (f g : A → World → Result (Unit {0})) → ((x : A) → Alike (f x) (g x)) → (xs : List A) → Alike (each f xs) (each g xs)
  alike_each f g each_one [] = alike_stays tt
  alike_each f g each_one (x ∷ xs) = alike_bind _ _ _ _ (each_one x) (λ _. alike_each f g each_one xs)

  -- what has to be there
  alike_need : {A L : Type 0} (x : Option L) (f g : L → World → Result A) → ((y : L) → Alike (f y) (g y)) → Alike (λ w. need x w (λ y. f y w)) (λ w. need x w (λ y. g y w))
  alike_need None f g each_one = alike_stuck
  alike_need (Some y) f g each_one = each_one y

  alike_on : {A : Type 0} (o : ObjId) (f g : Object → World → Result A) → ((x : Object) → Alike (f x) (g x)) → Alike (λ w. on o w (λ x. f x w)) (λ w. on o w (λ x. g x w))
  alike_on o f g each_one = alike_by (λ w. object_at w.objects o) (λ x w. need x w (λ y. f y w)) (λ x w. need x w (λ y. g y w)) (λ w. refl) (λ x. alike_need x f g each_one)

  alike_given : {A : Type 0} (x : Computed A Stop) → Alike (given x) (given x)
  alike_given (Ok v) = alike_stays v
  alike_given (Err cause) = alike_stop cause

  -- a record is noted before something
  alike_noted : {A : Type 0} (item : TraceItem) (f g : World → Result A) → Alike f g → Alike (λ w. f (note item w)) (λ w. g (note item w))
  alike_noted item f g a = alike_bind (λ w. Goes (tt {0}) (note item w)) (λ w. Goes (tt {0}) (note item w)) (λ _. f) (λ _. g)
      (alike_goes tt (λ w. note item w) (λ w. beginning_more w.records (item ∷ [])) (λ w. refl)) (λ _. a)

  -- a world is changed before something, and no record is made
  alike_after : {A : Type 0} (h : World → World) (f g : World → Result A) → ((w : World) → (h w).records ≡ w.records) → ((w : World) → h (more w) ≡ more (h w)) → Alike f g → Alike (λ w. f (h w)) (λ w. g (h w))
  alike_after h f g keeps alike a = alike_bind (λ w. Goes (tt {0}) (h w)) (λ w. Goes (tt {0}) (h w)) (λ _. f) (λ _. g)
      (alike_goes tt h (λ w. subst (IsBeginning w.records) (sym (keeps w)) (beginning_same w.records)) alike) (λ _. a)

  -- a turn is spent without a record
  spend_grows : (n : ℕ) (w : World) → IsBeginning w.records (records_of (spend n w))
  spend_grows zero w = beginning_same w.records
  spend_grows (suc n) w = beginning_same w.records

  -- where no turn is left, more turns add only records, and otherwise there are as many more afterwards
  spend_extends : (n : ℕ) (w : World) → Extends (spend n w) (spend (n + k) (more w))
  spend_extends zero w = inl (refl, spend_grows (zero + k) (more w))
  spend_extends (suc n) w = let e : suc n + k ≡ suc (n + k) = omega arith in ap (λ m. spend m (more w)) e

  tick_alike : Alike tick tick
  tick_alike = record { grows = λ w. spend_grows w.turns w; extends = λ w. spend_extends w.turns w }

  if_alike : {A : Type 0} (l : World → Bool) (f f1 g g1 : World → Result A) → ((w : World) → l (more w) ≡ l w) → Alike f f1 → Alike g g1 → Alike (λ w. if l w then f w else g w) (λ w. if l w then f1 w else g1 w)
  if_alike l f f1 g g1 same a b = alike_by l (λ t w. if t then f w else g w) (λ t w. if t then f1 w else g1 w) same by
    where
      by : (t : Bool) → Alike (λ w. if t then f w else g w) (λ w. if t then f1 w else g1 w)
      by true = a
      by false = b

  enter_alike : Alike enter enter
  enter_alike =
      if_alike (λ w. nat_lt w.level 256) _ _ _ _ (λ w. refl)
      (alike_bind tick tick (λ _ w1. done (record w1 { level = suc w1.level })) (λ _ w1. done (record w1 { level = suc w1.level })) tick_alike (λ _. alike_goes tt (λ w1. record w1 { level = suc w1.level }) (λ w. beginning_same w.records) (λ w. refl)))
      (alike_stop stop.Depth)

  activity_alike : {A : Type 0} (f g : World → Result A) → Alike f g → Alike (activity f) (activity g)
  activity_alike f g a =
      alike_bind _ _ _ _ enter_alike
      (λ _. alike_bind _ _ (λ v w2. Goes v (leave w2)) (λ v w2. Goes v (leave w2)) a (λ v. alike_goes v leave (λ w. beginning_same w.records) (λ w. refl)))

  pay_alike : (cost : ℕ) → Alike (pay cost) (pay cost)
  pay_alike cost =
      if_alike (λ w. nat_lt 1000000 (w.cells + cost)) _ _ _ _ (λ w. refl) (alike_stop stop.Cells)
      (alike_goes tt (λ w. record w { cells = w.cells + cost }) (λ w. beginning_same w.records) (λ w. refl))

  take_number_alike : (x : Object) → Alike (take_number x) (take_number x)
  take_number_alike x = record { grows = λ w. beginning_same w.records; extends = λ w. refl }

  new_array_alike : (elements : List Value) → Alike (new_array elements) (new_array elements)
  new_array_alike elements = alike_bind _ _ _ _ (pay_alike (1 + length elements)) (λ _. take_number_alike (new_object An_array [] elements))

  module _ (p : Program) where
    note_made_alike : (class : Class) (o : ObjId) → Alike (note_made p class o) (note_made p class o)
    note_made_alike class o =
        if_alike (λ w. is_event (bases p) class) _ _ _ _ (λ w. refl) (alike_stays o)
        (alike_need (class_name p class) _ _ (λ name. alike_goes o (λ w. note (Made o name) w) (λ w. beginning_more w.records (Made o name ∷ [])) (λ w. refl)))

    alike_guarded : {A : Type 0} (b : Bool) (f g : World → Result A) → Alike f g → Alike (guarded b f) (guarded b g)
    alike_guarded true f g a = a
    alike_guarded false f g a = alike_stuck

    -- a fact that more turns don't change
    alike_guarded_by : {A : Type 0} (l : World → Bool) (f g : World → Result A) → ((w : World) → l (more w) ≡ l w) → Alike f g → Alike (λ w. guarded (l w) f w) (λ w. guarded (l w) g w)
    alike_guarded_by l f g same a = alike_by l (λ b. guarded b f) (λ b. guarded b g) same (λ b. alike_guarded b f g a)

    make_bare_alike : (class : Class) → Alike (make_bare p class) (make_bare p class)
    make_bare_alike class = alike_bind _ _ _ _ (take_number_alike (new_object (Instance_of class) (fields_of p class) [])) (λ o. note_made_alike class o)

    allocate_alike : (class : Class) → Alike (allocate p class) (allocate p class)
    allocate_alike class =
        alike_bind _ _ _ _ (pay_alike (object_cost (fields_of p class)))
        (λ _. alike_guarded_by (λ w. is_fresh (next_object w.objects) w) _ _ (λ w. refl) (make_bare_alike class))

    read_alike : (o : ObjId) (name : List ℕ) → Alike (read p o name) (read p o name)
    read_alike o name = alike_on o _ _ (λ x. alike_guarded (has_property p x.kind name) _ _ (alike_need (property x name) _ _ (λ v. alike_stays v)))

    answer_alike : {A : Type 0} (x : Option (Computed A Stop)) → Alike (λ w. need x w (λ r. given r w)) (λ w. need x w (λ r. given r w))
    answer_alike x = alike_need x given given alike_given

    convert_alike : (type : StaticType) (v : Value) → Alike (convert p type v) (convert p type v)
    convert_alike type v = alike_by (λ w. into_type (bases p) w.objects type v) (λ x w. need x w (λ r. given r w)) (λ x w. need x w (λ r. given r w)) (λ w. refl) answer_alike

    convert_result_alike : (type : Option StaticType) (v : Value) → Alike (convert_result p type v) (convert_result p type v)
    convert_result_alike type v = alike_by (λ w. into_result (bases p) w.objects type v) (λ x w. need x w (λ r. given r w)) (λ x w. need x w (λ r. given r w)) (λ w. refl) answer_alike

    convert_all_alike : (types : List StaticType) (vs : List Value) → Alike (convert_all p types vs) (convert_all p types vs)
    convert_all_alike [] [] = alike_stays []
    convert_all_alike [] (v ∷ vs) = alike_stuck
    convert_all_alike (type ∷ types) [] = alike_stuck
    convert_all_alike (type ∷ types) (v ∷ vs) =
        alike_bind _ _ _ _ (convert_alike type v) (λ v1. alike_bind _ _ _ _ (convert_all_alike types vs) (λ vs1. alike_stays (v1 ∷ vs1)))

    method_arguments_alike : (m : Method) (vs : List Value) → Alike (method_arguments p m vs) (method_arguments p m vs)
    method_arguments_alike m vs = alike_guarded (length vs == length m.parameters) _ _ (convert_all_alike m.parameters vs)

    into_parameter_alike : (x : Parameter) (v : Value) → Alike (into_parameter p x v) (into_parameter p x v)
    into_parameter_alike (parameter.Required type) v = convert_alike (static_type type) v
    into_parameter_alike (parameter.Optional type first) v = convert_alike (static_type type) v
    into_parameter_alike parameter.Listener (value.Listener o m) = alike_stays (value.Listener o m)
    into_parameter_alike parameter.Listener _ = alike_stuck

    into_parameters_alike : (xs : List Parameter) (vs : List Value) → Alike (into_parameters p xs vs) (into_parameters p xs vs)
    into_parameters_alike xs [] = alike_stays (left_out xs)
    into_parameters_alike (x ∷ xs) (v ∷ vs) =
        alike_bind _ _ _ _ (into_parameter_alike x v) (λ v1. alike_bind _ _ _ _ (into_parameters_alike xs vs) (λ vs1. alike_stays (v1 ∷ vs1)))
    into_parameters_alike [] (v ∷ vs) = alike_stuck

    native_arguments_alike : (xs : List Parameter) (vs : List Value) → Alike (native_arguments p xs vs) (native_arguments p xs vs)
    native_arguments_alike xs vs = alike_guarded (accepts xs (length vs)) _ _ (into_parameters_alike xs vs)

    on_array_alike : {A : Type 0} (a : ObjId) (f : Object → World → Result A) → ((x : Object) → Alike (f x) (f x)) → Alike (λ w. on_array a w f) (λ w. on_array a w f)
    on_array_alike a f each_one = alike_on a (λ x. guarded (is_array x) (f x)) (λ x. guarded (is_array x) (f x)) (λ x. alike_guarded (is_array x) (f x) (f x) (each_one x))

    take_out_alike : (child : ObjId) → Alike (take_out child) (take_out child)
    take_out_alike child = alike_on child _ _ (λ x. left x.parent)
      where
        left : (parent : Option ObjId) → Alike (λ w. done (leave_parent child parent w)) (λ w. done (leave_parent child parent w))
        left None = alike_stays tt
        left (Some parent) = alike_goes tt (leave_parent child (Some parent)) (λ w. beginning_more w.records (Removed parent child ∷ [])) (λ w. refl)

    module _ (n m : ℕ) (D E : Does) (law : (t : Task) → Alike (D t) (E t)) where
      abbrev c : Context
      c = context p n D

      abbrev d : Context
      d = context p m E

      hear_alike : (kind : List ℕ) (e : ObjId) (a : Arrival) (l : Listener) → Alike (hear c kind e a l) (hear d kind e a l)
      hear_alike kind e a l =
          alike_need (slice_get p.methods l.method) _ _
          (λ method. alike_bind _ _ _ _ (method_arguments_alike method (value.Ref e ∷ []))
          (λ vs. alike_bind _ _ _ _ (law (Hears a kind l vs))
          (λ _. alike_stays tt)))

      hear_unless_stopped_alike : (kind : List ℕ) (e : ObjId) (a : Arrival) (l : Listener) → Alike (hear_unless_stopped c kind e a l) (hear_unless_stopped d kind e a l)
      hear_unless_stopped_alike kind e a l = alike_on e _ _ (λ event. alike_choose event.delivery.stopped_at_once _ _ _ _ (alike_stays tt) (hear_alike kind e a l))

      arrive_alike : (kind : List ℕ) (e : ObjId) (a : Arrival) → Alike (arrive c kind e a) (arrive d kind e a)
      arrive_alike kind e a =
          alike_on a.node _ _
          (λ node. alike_after (set_arrival e (value.Ref a.node) (phase_number a.phase)) _ _ (λ w. refl) (λ w. refl)
          (alike_each _ _ (hear_unless_stopped_alike kind e a) (hearers kind a.phase node.listeners)))

      arrive_unless_stopped_alike : (kind : List ℕ) (e : ObjId) (a : Arrival) → Alike (arrive_unless_stopped c kind e a) (arrive_unless_stopped d kind e a)
      arrive_unless_stopped_alike kind e a = alike_on e _ _ (λ event. alike_choose (event.delivery.stopped || event.delivery.stopped_at_once) _ _ _ _ (alike_stays tt) (arrive_alike kind e a))

      deliver_alike : (kind : List ℕ) (target e : ObjId) (event : Object) → Alike (deliver c kind target e event) (deliver d kind target e event)
      deliver_alike kind target e event =
          let bubbles : Bool = is_true (property event (codes "bubbles")) in
          let cancelable : Bool = is_true (property event (codes "cancelable")) in
          alike_by (λ w. ancestors_of w.objects target)
          (λ outer w. each (arrive_unless_stopped c kind e) (event_path target outer bubbles) (note (Sent target kind) (open_dispatch target e cancelable w)))
          (λ outer w. each (arrive_unless_stopped d kind e) (event_path target outer bubbles) (note (Sent target kind) (open_dispatch target e cancelable w)))
          (λ w. refl)
          (λ outer. alike_after (open_dispatch target e cancelable) _ _ (λ w. refl) (λ w. refl)
          (alike_noted (Sent target kind) _ _ (alike_each _ _ (arrive_unless_stopped_alike kind e) (event_path target outer bubbles))))

      dispatch_alike : (target e : ObjId) → Alike (dispatch c target e) (dispatch d target e)
      dispatch_alike target e =
          alike_on e _ _
          (λ event. alike_need (text_in (property event (codes "type"))) _ _
          (λ kind. alike_bind _ _ _ _ (deliver_alike kind target e event)
          (λ _. alike_on e _ _ (λ over. alike_goes (not over.delivery.prevented) (close_dispatch e) (λ w. beginning_same w.records) (λ w. refl)))))

      send_alike : (row : Event) (target : ObjId) → Alike (send c row target) (send d row target)
      send_alike row target =
          alike_bind _ _ _ _ (allocate_alike (Class.Native row.row.class))
          (λ e. alike_after (set_event e (value.Text row.name) (value.Bool row.row.bubbles) (value.Bool row.row.cancelable)) _ _ (λ w. refl) (λ w. refl) (dispatch_alike target e))

      announce_alike : (row : Event) (target : ObjId) → Alike (announce c row target) (announce d row target)
      announce_alike row target =
          alike_on target _ _
          (λ node. alike_choose (is_registered row.name node) _ _ _ _ (alike_bind _ _ _ _ (send_alike row target) (λ _. alike_stays tt)) (alike_stays tt))

      completed_alike : (b : Bool) (child : ObjId) → Alike (completed c b child) (completed d b child)
      completed_alike b child = alike_choose b _ _ _ _ (alike_stays tt) (announce_alike creation_complete child)

      joined_alike : (container child : ObjId) (spot : Option Spot) (b : Bool) (place : ℕ) → Alike (λ w. completed c b child (joins container child spot place w)) (λ w. completed d b child (joins container child spot place w))
      joined_alike container child spot b place =
          alike_bind (λ w. Goes (tt {0}) (joins container child spot place w)) (λ w. Goes (tt {0}) (joins container child spot place w)) (λ _. completed c b child) (λ _. completed d b child)
          (alike_goes tt (joins container child spot place) (λ w. beginning_more w.records (Added container child place ∷ [])) (λ w. refl)) (λ _. completed_alike b child)

      add_child_alike : (container child : ObjId) (spot : Option Spot) → Alike (add_child c container child spot) (add_child d container child spot)
      add_child_alike container child spot =
          alike_by (λ w. is_object_among child (container ∷ ancestors_of w.objects container)) _ _ (λ w. refl)
          (λ b. alike_choose b _ _ _ _ (alike_stop stop.Cycle)
          (alike_bind _ _ _ _ (take_out_alike child)
          (λ _. alike_on child _ _
          (λ x. alike_on container _ _
          (λ o. alike_by (λ w. place_for w.objects spot o.children) (λ place w. completed c x.was_added child (joins container child spot place w)) (λ place w. completed d x.was_added child (joins container child spot place w)) (λ w. refl)
          (joined_alike container child spot x.was_added))))))

      start_alike : (b : Watcher) → Alike (start c b) (start d b)
      start_alike b =
          alike_on b.document _ _
          (λ o. alike_need (binding_of c o b.number) _ _
          (λ binding. alike_choose (may_start o.keeping b.number binding) _ _ _ _
          (alike_bind _ _ _ _ (law (Runs_binding b.document b.number)) (λ _. alike_stays tt))
          (alike_stays tt)))

      start_affected_alike : (o : ObjId) (name : List ℕ) → Alike (start_affected c o name) (start_affected d o name)
      start_affected_alike o name = alike_by (λ w. affected p w.objects w.built o name) (each (start c)) (each (start d)) (λ w. refl) (alike_each _ _ start_alike)

      noted_alike : {A : Type 0} (o : ObjId) (f : Field) (v : Value) (g h : World → Result A) → Alike g h → Alike (λ w. g (noted o f v w)) (λ w. h (noted o f v w))
      noted_alike o f v g h a = by (f.public || f.bindable)
        where
          by : (t : Bool) → Alike (λ w. g (if t then note (Written o f.text v) w else w)) (λ w. h (if t then note (Written o f.text v) w else w))
          by true = alike_noted (Written o f.text v) g h a
          by false = a

      store_alike : (o : ObjId) (f : Field) (v : Value) → Alike (store c o f v) (store d o f v)
      store_alike o f v =
          alike_after (set_field o f.name v) _ _ (λ w. refl) (λ w. refl)
          (noted_alike o f v _ _ (alike_choose f.bindable _ _ _ _ (start_affected_alike o f.name) (alike_stays tt)))

      store_state_alike : (document : ObjId) (name : List ℕ) → Alike (store_state c document name) (store_state d document name)
      store_state_alike document name =
          alike_on document _ _ (λ o. alike_need (field_named current_state o.fields) _ _ (λ f. store_alike document f (value.Text name)))

      enter_state_alike : (document : ObjId) (name : List ℕ) → Alike (enter_state c document name) (enter_state d document name)
      enter_state_alike document name =
          alike_bind _ _ _ _ (store_state_alike document name) (λ _. alike_bind _ _ _ _ (law (Enters document name)) (λ _. alike_stays tt))

      take_kept_alike : (f g : List ℕ → World → Result (Unit {0})) → ((name : List ℕ) → Alike (f name) (g name)) → (o : Object) (kept : Option (List ℕ)) → Alike (take_kept f o kept) (take_kept g o kept)
      take_kept_alike f g each_one o None = alike_stays tt
      take_kept_alike f g each_one o (Some name) = alike_choose (is_current name o) _ _ _ _ (alike_stays tt) (each_one name)

      end_change_alike : (f g : List ℕ → World → Result (Unit {0})) → ((name : List ℕ) → Alike (f name) (g name)) → (document : ObjId) → Alike (end_change f document) (end_change g document)
      end_change_alike f g each_one document =
          alike_on document _ _ (λ o. alike_after (set_over document) _ _ (λ w. refl) (λ w. refl) (take_kept_alike f g each_one o o.keeping.kept))

      round_alike : (f g : List ℕ → World → Result (Unit {0})) → ((name : List ℕ) → Alike (f name) (g name)) → (document : ObjId) (name : List ℕ) → Alike
          (λ w. bind (c.does (Leaves document name) (set_running document w)) (λ _ w1. bind (enter_state c document name w1) (λ _ w2. bind (announce c current_state_change document w2) (λ _ w3. end_change f document w3))))
          (λ w. bind (d.does (Leaves document name) (set_running document w)) (λ _ w1. bind (enter_state d document name w1) (λ _ w2. bind (announce d current_state_change document w2) (λ _ w3. end_change g document w3))))
      round_alike f g each_one document name =
          alike_after (set_running document) (λ w. bind (c.does (Leaves document name) w) (λ _ w1. bind (enter_state c document name w1) (λ _ w2. bind (announce c current_state_change document w2) (λ _ w3. end_change f document w3))))
          (λ w. bind (d.does (Leaves document name) w) (λ _ w1. bind (enter_state d document name w1) (λ _ w2. bind (announce d current_state_change document w2) (λ _ w3. end_change g document w3)))) (λ w. refl) (λ w. refl)
          (alike_bind _ _ _ _ (law (Leaves document name))
          (λ _. alike_bind _ _ _ _ (enter_state_alike document name)
          (λ _. alike_bind _ _ _ _ (announce_alike current_state_change document)
          (λ _. end_change_alike f g each_one document))))

      -- as many rounds
      same_rounds_alike : (j : ℕ) (document : ObjId) (name : List ℕ) → Alike (change_state c j document name) (change_state d j document name)
      same_rounds_alike zero document name = record { grows = λ w. beginning_same w.records; extends = λ w. inl (refl, beginning_same w.records) }
      same_rounds_alike (suc j) document name = round_alike _ _ (same_rounds_alike j document) document name

      -- so many rounds, and as many or more
      change_state_alike : (i j : ℕ) → i ≤ j → (document : ObjId) (name : List ℕ) → Alike (change_state c i document name) (change_state d j document name)
      change_state_alike zero j le document name = record {
        grows = (same_rounds_alike j document name).grows;
        extends = λ w. inl (refl, (same_rounds_alike j document name).grows (more w));
      }
      change_state_alike (suc i) zero le document name = absurd (omega arith)
      change_state_alike (suc i) (suc j) le document name = round_alike _ _ (change_state_alike i j (omega arith) document) document name

      module _ (le : n ≤ m) where
        enter_first_alike : (document : ObjId) (name : List ℕ) → Alike (enter_first c document name) (enter_first d document name)
        enter_first_alike document name =
            alike_after (set_running document) _ _ (λ w. refl) (λ w. refl)
            (alike_bind _ _ _ _ (enter_state_alike document name) (λ _. end_change_alike _ _ (change_state_alike n m le document) document))

        ask_alike : (document : ObjId) (o : Object) (s : Option State) → Alike (ask c document o s) (ask d document o s)
        ask_alike document o None = alike_stop stop.UnknownState
        ask_alike document o (Some s) =
            alike_choose (o.keeping.running || not o.keeping.entered) _ _ _ _ (alike_goes tt (keep document s.name) (λ w. beginning_same w.records) (λ w. refl))
            (alike_choose (is_current s.name o) _ _ _ _ (alike_stays tt) (change_state_alike n m le document s.name))

        request_alike : (document : ObjId) (v : Value) → Alike (request c document v) (request d document v)
        request_alike document v = alike_on document _ _
            (λ o. alike_guarded_by (λ w. is_known w.registered document (document_in p o)) _ _ (λ w. refl) (ask_alike document o (state_asked (document_in p o) v)))

        write_alike : (o : ObjId) (f : Field) (v : Value) → Alike (write c o f v) (write d o f v)
        write_alike o f v = alike_choose (is_state_field f) _ _ _ _ (request_alike o v) (alike_choose (same f.value v) _ _ _ _ (alike_stays tt) (store_alike o f v))

        assign_alike : (o : ObjId) (name : List ℕ) (v : Value) → Alike (assign c o name v) (assign d o name v)
        assign_alike o name v =
            alike_on o _ _
            (λ object. alike_guarded (has_property p object.kind name) _ _
            (alike_need (field_named name object.fields) _ _
            (λ f. alike_guarded (can_be_written f) _ _ (alike_bind _ _ _ _ (convert_alike f.type v) (λ v1. write_alike o f v1)))))

        begin_event_alike : (e : ObjId) (vs : List Value) → Alike (begin_event e vs) (begin_event e vs)
        begin_event_alike e (kind ∷ bubbles ∷ cancelable ∷ []) = alike_goes tt (set_event e kind bubbles cancelable) (λ w. beginning_same w.records) (λ w. refl)
        begin_event_alike e _ = alike_stuck

        with_type_alike : (vs : List Value) → Alike (with_type vs) (with_type vs)
        with_type_alike vs = alike_choose (lacks_type vs) _ _ _ _ (alike_stop stop.NullReference) (alike_stays vs)

        constructor_arguments_alike : (x : Option Constructor) (vs : List Value) → Alike (constructor_arguments c x vs) (constructor_arguments d x vs)
        constructor_arguments_alike None vs = alike_guarded (length vs == 0) _ _ (alike_stays [])
        constructor_arguments_alike (Some x) vs = alike_need (slice_get p.methods x.method) _ _ (λ method. method_arguments_alike method vs)

        prepare_alike : (class : Class) (vs : List Value) → Alike (prepare c class vs) (prepare d class vs)
        prepare_alike (Class.Native class) vs = alike_bind _ _ _ _ (native_arguments_alike (constructor_parameters class) vs) with_type_alike
        prepare_alike (Class.File k1) vs = constructor_arguments_alike (constructor_of p (Class.File k1)) vs

        construct_alike : (class : Class) (o : ObjId) (vs : List Value) → Alike (construct c class o vs) (construct d class o vs)
        construct_alike (Class.Native class) o vs = alike_choose (native_descends class native.Event) _ _ _ _ (begin_event_alike o vs) (alike_stays tt)
        construct_alike (Class.File k1) o vs = alike_bind _ _ _ _ (law (Constructs k1 o vs)) (λ _. alike_stays tt)

        make_alike : (class : Class) (vs : List Value) → Alike (make c class vs) (make d class vs)
        make_alike class vs =
            alike_bind _ _ _ _ (prepare_alike class vs)
            (λ arguments. alike_bind _ _ _ _ (allocate_alike class)
            (λ o. alike_bind _ _ _ _ (construct_alike class o arguments)
            (λ _. alike_stays o)))

        append_alike : (a : ObjId) (v : Value) → Alike (append a v) (append a v)
        append_alike a v =
            on_array_alike a (λ array w. bind (room array w) (λ _ w1. done (change_object a (with_last v) w1)))
            (λ array. alike_bind _ _ _ _ (alike_choose (nat_lt (length array.elements) most_elements) _ _ _ _ (pay_alike 1) (alike_stop stop.ArrayLength))
            (λ _. alike_goes tt (change_object a (with_last v)) (λ w. beginning_same w.records) (λ w. refl)))

        array_length_alike : (a : ObjId) → Alike (array_length a) (array_length a)
        array_length_alike a = on_array_alike a (λ array w. Goes (count (length array.elements)) w) (λ array. alike_stays (count (length array.elements)))

        push_alike : (a : ObjId) (v : Value) → Alike (push a v) (push a v)
        push_alike a v = alike_bind _ _ _ _ (append_alike a v) (λ _. array_length_alike a)

        pop_alike : (a : ObjId) → Alike (pop a) (pop a)
        pop_alike a =
            on_array_alike a (λ array w. Goes (last_or_undefined array.elements) (change_object a without_last w))
            (λ array. alike_goes (last_or_undefined array.elements) (change_object a without_last) (λ w. beginning_same w.records) (λ w. refl))

        read_element_alike : (a : ObjId) (v : Value) → Alike (read_element a v) (read_element a v)
        read_element_alike a (value.Int i) = on_array_alike a (λ array w. Goes (element_or_undefined array.elements i) w) (λ array. alike_stays (element_or_undefined array.elements i))
        read_element_alike a _ = alike_stuck

        write_at_alike : (a : ObjId) (i : ℕ) (v : Value) (array : Object) → Alike (write_at a i v array) (write_at a i v array)
        write_at_alike a i v array =
            alike_choose (nat_lt i (length array.elements)) _ _ _ _
            (alike_goes tt (change_object a (with_element i v)) (λ w. beginning_same w.records) (λ w. refl))
            (alike_choose (i == length array.elements) _ _ _ _ (append_alike a v) (alike_stop stop.ArrayIndex))

        write_element_alike : (a : ObjId) (i v : Value) → Alike (write_element a i v) (write_element a i v)
        write_element_alike a (value.Int (pos i)) v = on_array_alike a (write_at a i v) (write_at_alike a i v)
        write_element_alike a (value.Int (negsuc i)) v = on_array_alike a (λ _ w. stops stop.ArrayIndex w) (λ _. alike_stop stop.ArrayIndex)
        write_element_alike a _ v = alike_stuck

        type_given_alike : (v : Value) → Alike (type_given v) (type_given v)
        type_given_alike (value.Text kind) = alike_stays kind
        type_given_alike value.Null = alike_stop stop.NullReference
        type_given_alike _ = alike_stuck

        object_given_alike : (v : Value) → Alike (object_given v) (object_given v)
        object_given_alike (value.Ref o) = alike_stays o
        object_given_alike value.Null = alike_stop stop.NullReference
        object_given_alike _ = alike_stuck

        add_listener_alike : (node : ObjId) (vs : List Value) → Alike (add_listener node vs) (add_listener node vs)
        add_listener_alike node (kind ∷ value.Listener o i ∷ value.Bool capture ∷ value.Int priority ∷ []) =
            alike_bind _ _ _ _ (type_given_alike kind)
            (λ event. alike_goes value.Undefined (listen node (registration event o i capture priority)) (λ w. beginning_same w.records) (λ w. refl))
        add_listener_alike node _ = alike_stuck

        remove_listener_alike : (node : ObjId) (vs : List Value) → Alike (remove_listener node vs) (remove_listener node vs)
        remove_listener_alike node (kind ∷ value.Listener o i ∷ value.Bool capture ∷ []) =
            alike_bind _ _ _ _ (type_given_alike kind)
            (λ event. alike_goes value.Undefined (unlisten node event o i capture) (λ w. beginning_same w.records) (λ w. refl))
        remove_listener_alike node _ = alike_stuck

        has_listener_alike : (node : ObjId) (vs : List Value) → Alike (has_listener node vs) (has_listener node vs)
        has_listener_alike node (kind ∷ []) =
            alike_bind _ _ _ _ (type_given_alike kind) (λ event. alike_on node _ _ (λ x. alike_stays (value.Bool (is_registered event x))))
        has_listener_alike node _ = alike_stuck

        remove_element_alike : (container child : ObjId) → Alike (remove_element container child) (remove_element container child)
        remove_element_alike container child =
            alike_on child _ _
            (λ x. alike_choose (is_it container x.parent) _ _ _ _ (alike_bind _ _ _ _ (take_out_alike child) (λ _. alike_stays (value.Ref child))) (alike_stop stop.NotAChild))

        get_element_alike : (o : Option ObjId) → Alike (get_element o) (get_element o)
        get_element_alike None = alike_stop stop.ArrayIndex
        get_element_alike (Some child) = alike_stays (value.Ref child)

        mark_alike : (e : ObjId) (f : Delivery → Delivery) → Alike (mark e f) (mark e f)
        mark_alike e f = alike_goes value.Undefined (change_delivery e (while_open f)) (λ w. beginning_same w.records) (λ w. refl)

        dispatch_given_alike : (target e : ObjId) → Alike (dispatch_given c target e) (dispatch_given d target e)
        dispatch_given_alike target e =
            alike_on e _ _
            (λ event. alike_need (property event (codes "type")) _ _
            (λ kind. alike_bind _ _ _ _ (type_given_alike kind)
            (λ _. alike_choose event.delivery.dispatched _ _ _ _ (alike_stop stop.Kind) (alike_bind _ _ _ _ (dispatch_alike target e) (λ left. alike_stays (value.Bool left))))))

        call_with_object_alike : (i : NativeMethod) (o e : ObjId) → Alike (call_with_object c i o e) (call_with_object d i o e)
        call_with_object_alike catalog.DispatchEvent o e = dispatch_given_alike o e
        call_with_object_alike catalog.AddElement o e = alike_bind _ _ _ _ (add_child_alike o e None) (λ _. alike_stays (value.Ref e))
        call_with_object_alike catalog.RemoveElement o e = remove_element_alike o e
        call_with_object_alike _ o e = alike_stuck

        call_alone_alike : (i : NativeMethod) (o : ObjId) → Alike (call_alone c i o) (call_alone d i o)
        call_alone_alike catalog.RemoveAllElements o =
            alike_on o _ _ (λ container. alike_bind _ _ _ _ (alike_each _ _ take_out_alike container.children) (λ _. alike_stays value.Undefined))
        call_alone_alike catalog.StopPropagation o = mark_alike o stopped_delivery
        call_alone_alike catalog.StopImmediatePropagation o = mark_alike o delivery_stopped_at_once
        call_alone_alike catalog.PreventDefault o = mark_alike o prevented_delivery
        call_alone_alike catalog.IsDefaultPrevented o = alike_on o _ _ (λ event. alike_stays (value.Bool (prevented_now event.delivery)))
        call_alone_alike _ o = alike_stuck

        call_with_one_alike : (i : NativeMethod) (o : ObjId) (v : Value) → Alike (call_with_one c i o v) (call_with_one d i o v)
        call_with_one_alike catalog.GetElementAt o (value.Int j) = alike_on o _ _ (λ container. get_element_alike (child_at container.children j))
        call_with_one_alike i o v = alike_bind _ _ _ _ (object_given_alike v) (λ e. call_with_object_alike i o e)

        call_by_count_alike : (i : NativeMethod) (o : ObjId) (vs : List Value) → Alike (call_by_count c i o vs) (call_by_count d i o vs)
        call_by_count_alike i o [] = call_alone_alike i o
        call_by_count_alike i o (v ∷ []) = call_with_one_alike i o v
        call_by_count_alike i o (v ∷ v1 ∷ vs) = alike_stuck

        call_native_alike : (i : NativeMethod) (o : ObjId) (vs : List Value) → Alike (call_native c i o vs) (call_native d i o vs)
        call_native_alike catalog.AddEventListener o vs = add_listener_alike o vs
        call_native_alike catalog.RemoveEventListener o vs = remove_listener_alike o vs
        call_native_alike catalog.HasEventListener o vs = has_listener_alike o vs
        call_native_alike i o vs = call_by_count_alike i o vs

        call_alike : (x : Callee) (o : ObjId) (vs : List Value) → Alike (call c x o vs) (call d x o vs)
        call_alike (Callee.Written i) o vs =
            alike_need (slice_get p.methods i) _ _
            (λ method. alike_bind _ _ _ _ (method_arguments_alike method vs) (λ arguments. law (Calls i o arguments)))
        call_alike (Callee.Catalog i) o vs =
            alike_bind _ _ _ _ (native_arguments_alike (parameters_of i) vs) (λ arguments. call_native_alike i o arguments)

        find_method_alike : (o : ObjId) (name : List ℕ) → Alike (find_method c o name) (find_method d o name)
        find_method_alike o name =
            alike_on o _ _ (λ object. alike_need (object_class object) _ _ (λ class. alike_need (callee p class name) _ _ (λ x. alike_stays x)))

        at_null_alike : {A : Type 0} (own : Bool) → Alike {A = A} (at_null own) (at_null own)
        at_null_alike true = alike_ends
        at_null_alike false = alike_stop stop.NullReference

        receiver_alike : (own : Bool) (v : Value) → Alike (receiver own v) (receiver own v)
        receiver_alike own (value.Ref o) = alike_stays o
        receiver_alike own value.Null = at_null_alike own
        receiver_alike own value.Undefined = at_null_alike own
        receiver_alike own _ = alike_stuck

        tested_alike : (own : Bool) (v : Value) → Alike (tested own v) (tested own v)
        tested_alike true v = alike_bind _ _ _ _ (receiver_alike true v) (λ _. alike_stays tt)
        tested_alike false v = alike_stays tt

        length_value_alike : (own : Bool) (v : Value) → Alike (length_value own v) (length_value own v)
        length_value_alike own (value.Text text) = alike_stays (count (length_of text))
        length_value_alike own v = alike_bind _ _ _ _ (receiver_alike own v) array_length_alike

        method_value_alike : (o : ObjId) (x : Callee) → Alike (method_value o x) (method_value o x)
        method_value_alike o (Callee.Written i) = alike_stays (value.Listener o i)
        method_value_alike o (Callee.Catalog i) = alike_stuck

        module _ (own : Bool) where
          mutual
            eval_alike : (e : Expr) (env : Env) → Alike (eval c own e env) (eval d own e env)
            eval_alike (Expr.Constant l) env = alike_stays (literal_value l)
            eval_alike Expr.This env = alike_stays (value.Ref env.this)
            eval_alike (Expr.Local i) env = alike_need (slice_get env.locals i) _ _ (λ v. alike_stays v)
            eval_alike (Expr.Property e name) env =
                alike_bind _ _ _ _ (eval_alike e env) (λ v. alike_bind _ _ _ _ (receiver_alike own v) (λ o. read_alike o name))
            eval_alike (Expr.Length e) env = alike_bind _ _ _ _ (eval_alike e env) (length_value_alike own)
            eval_alike (Expr.Element a i) env =
                alike_bind _ _ _ _ (eval_alike a env)
                (λ v. alike_bind _ _ _ _ (tested_alike own v)
                (λ _. alike_bind _ _ _ _ (eval_alike i env)
                (λ j. alike_bind _ _ _ _ (receiver_alike own v)
                (λ array. read_element_alike array j))))
            eval_alike (Expr.Items es) env =
                alike_bind _ _ _ _ (eval_all_alike es env) (λ vs. alike_bind _ _ _ _ (new_array_alike vs) (λ o. alike_stays (value.Ref o)))
            eval_alike (Expr.Method_of e name) env =
                alike_bind _ _ _ _ (eval_alike e env)
                (λ v. alike_bind _ _ _ _ (receiver_alike own v)
                (λ o. alike_bind _ _ _ _ (find_method_alike o name)
                (λ x. method_value_alike o x)))
            eval_alike (Expr.Call e name arguments) env =
                alike_bind _ _ _ _ (eval_alike e env)
                (λ v. alike_bind _ _ _ _ (tested_alike own v)
                (λ _. alike_bind _ _ _ _ (eval_all_alike arguments env)
                (λ vs. alike_bind _ _ _ _ (receiver_alike own v)
                (λ o. alike_bind _ _ _ _ (find_method_alike o name)
                (λ x. call_alike x o vs)))))
            eval_alike (Expr.Call_super base name arguments) env =
                alike_bind _ _ _ _ (eval_all_alike arguments env) (λ vs. alike_need (callee p base name) _ _ (λ x. call_alike x env.this vs))
            eval_alike (Expr.Push a e) env =
                alike_bind _ _ _ _ (eval_alike a env)
                (λ v. alike_bind _ _ _ _ (tested_alike own v)
                (λ _. alike_bind _ _ _ _ (eval_alike e env)
                (λ item. alike_bind _ _ _ _ (receiver_alike own v)
                (λ array. push_alike array item))))
            eval_alike (Expr.Pop a) env =
                alike_bind _ _ _ _ (eval_alike a env) (λ v. alike_bind _ _ _ _ (receiver_alike own v) (λ array. pop_alike array))
            eval_alike (Expr.New class arguments) env =
                alike_bind _ _ _ _ (eval_all_alike arguments env) (λ vs. alike_bind _ _ _ _ (make_alike class vs) (λ o. alike_stays (value.Ref o)))
            eval_alike (Expr.Convert type e) env = alike_bind _ _ _ _ (eval_alike e env) (convert_alike type)
            eval_alike (Expr.To_text e) env =
                alike_bind _ _ _ _ (eval_alike e env) (λ v. alike_bind _ _ _ _ (alike_given (to_text v)) (λ text. alike_stays (value.Text text)))
            eval_alike (Expr.Negate e) env = alike_bind _ _ _ _ (eval_alike e env) (λ v. alike_given (negated v))
            eval_alike (Expr.Not e) env = alike_bind _ _ _ _ (eval_alike e env) (λ v. alike_stays (value.Bool (not (to_bool v))))
            eval_alike (Expr.Apply operator a b) env =
                alike_bind _ _ _ _ (eval_alike a env) (λ x. alike_bind _ _ _ _ (eval_alike b env) (λ y. alike_given (operate operator x y)))
            eval_alike (Expr.And a b) env = alike_bind _ _ _ _ (eval_alike a env) (λ v. alike_choose (to_bool v) _ _ _ _ (eval_alike b env) (alike_stays v))
            eval_alike (Expr.Or a b) env = alike_bind _ _ _ _ (eval_alike a env) (λ v. alike_choose (to_bool v) _ _ _ _ (alike_stays v) (eval_alike b env))
            eval_alike (Expr.Choose test a b type) env =
                alike_bind _ _ _ _ (eval_alike test env)
                (λ v. alike_bind _ _ _ _ (alike_choose (to_bool v) _ _ _ _ (eval_alike a env) (eval_alike b env)) (convert_alike type))

            eval_all_alike : (es : Exprs) (env : Env) → Alike (eval_all c own es env) (eval_all d own es env)
            eval_all_alike NoExpr env = alike_stays []
            eval_all_alike (MoreExpr e es) env =
                alike_bind _ _ _ _ (eval_alike e env) (λ v. alike_bind _ _ _ _ (eval_all_alike es env) (λ vs. alike_stays (v ∷ vs)))

        flow_on_alike : (f g : Env → World → Result Flow) → ((env : Env) → Alike (f env) (g env)) → (x : Flow) → Alike (flow_on f x) (flow_on g x)
        flow_on_alike f g each_one (Falls env) = each_one env
        flow_on_alike f g each_one (Breaks env) = alike_stays (Breaks env)
        flow_on_alike f g each_one (Continues env) = alike_stays (Continues env)
        flow_on_alike f g each_one (Returns v) = alike_stays (Returns v)

        again_alike : (f g : Env → World → Result Flow) → ((env : Env) → Alike (f env) (g env)) → (x : Flow) → Alike (again f x) (again g x)
        again_alike f g each_one (Falls env) = each_one env
        again_alike f g each_one (Breaks env) = alike_stays (Falls env)
        again_alike f g each_one (Continues env) = each_one env
        again_alike f g each_one (Returns v) = alike_stays (Returns v)

        module _ (test test1 : Env → World → Result Value) (step step1 body body1 : Env → World → Result Flow)
            (tests : (env : Env) → Alike (test env) (test1 env)) (steps : (env : Env) → Alike (step env) (step1 env)) (bodies : (env : Env) → Alike (body env) (body1 env)) where
          turn_alike : (f g : Env → World → Result Flow) → ((env : Env) → Alike (f env) (g env)) → (env : Env) → Alike
              (λ w. bind (tick w) (λ _ w1. bind (test env w1) (λ v w2. choose (to_bool v) (λ w3. bind (body env w3) (again (λ env1 w4. bind (step env1 w4) (flow_on (λ env2 w5. f env2 w5))))) (λ w3. Goes (Falls env) w3) w2)))
              (λ w. bind (tick w) (λ _ w1. bind (test1 env w1) (λ v w2. choose (to_bool v) (λ w3. bind (body1 env w3) (again (λ env1 w4. bind (step1 env1 w4) (flow_on (λ env2 w5. g env2 w5))))) (λ w3. Goes (Falls env) w3) w2)))
          turn_alike f g each_one env =
              alike_bind _ _ _ _ tick_alike
              (λ _. alike_bind _ _ _ _ (tests env)
              (λ v. alike_choose (to_bool v) _ _ _ _
              (alike_bind _ _ _ _ (bodies env) (again_alike _ _ (λ env1. alike_bind _ _ _ _ (steps env1) (flow_on_alike _ _ each_one))))
              (alike_stays (Falls env))))

          same_turns_alike : (j : ℕ) (env : Env) → Alike (loop j test step body env) (loop j test1 step1 body1 env)
          same_turns_alike zero env = record { grows = λ w. beginning_same w.records; extends = λ w. inl (refl, beginning_same w.records) }
          same_turns_alike (suc j) env = turn_alike _ _ (same_turns_alike j) env

          loop_alike : (i j : ℕ) → i ≤ j → (env : Env) → Alike (loop i test step body env) (loop j test1 step1 body1 env)
          loop_alike zero j le1 env = record { grows = (same_turns_alike j env).grows; extends = λ w. inl (refl, (same_turns_alike j env).grows (more w)) }
          loop_alike (suc i) zero le1 env = absurd (omega arith)
          loop_alike (suc i) (suc j) le1 env = turn_alike _ _ (loop_alike i j (omega arith)) env

        falls_alike : (env : Env) → Alike (falls env) (falls env)
        falls_alike env = alike_stays (Falls env)

        trace_alike : (vs : List Value) → Alike (trace vs) (trace vs)
        trace_alike vs =
            alike_bind _ _ _ _ (alike_given (texts_of vs))
            (λ texts. alike_bind _ _ _ _ (alike_given (made_text (spaced_text texts)))
            (λ text. alike_goes tt (note (Traced text)) (λ w. beginning_more w.records (Traced text ∷ [])) (λ w. refl)))

        set_local_alike : (i : ℕ) (type : StaticType) (env : Env) (v : Value) → Alike (set_local c i type env v) (set_local d i type env v)
        set_local_alike i type env v = alike_bind _ _ _ _ (convert_alike type v) (λ v1. alike_need (slice_get env.locals i) _ _ (λ _. alike_stays (Falls (record env { locals = changed_at (λ _. v1) env.locals i }))))

        set_property_alike : (env : Env) (o : ObjId) (name : List ℕ) (v : Value) → Alike (set_property c env o name v) (set_property d env o name v)
        set_property_alike env o name v = alike_bind _ _ _ _ (assign_alike o name v) (λ _. falls_alike env)

        set_element_alike : (env : Env) (a : ObjId) (i v : Value) → Alike (set_element c env a i v) (set_element d env a i v)
        set_element_alike env a i v = alike_bind _ _ _ _ (write_element_alike a i v) (λ _. falls_alike env)

        put_alike : (place : Place) (e : Expr) (env : Env) → Alike (put c place e env) (put d place e env)
        put_alike (Place.Local_place i type) e env = alike_bind _ _ _ _ (eval_alike false e env) (set_local_alike i type env)
        put_alike (Place.Property_place object name) e env =
            alike_bind _ _ _ _ (eval_alike false object env)
            (λ base. alike_bind _ _ _ _ (eval_alike false e env)
            (λ v. alike_bind _ _ _ _ (receiver_alike false base)
            (λ o. set_property_alike env o name v)))
        put_alike (Place.Element_place array index) e env =
            alike_bind _ _ _ _ (eval_alike false array env)
            (λ base. alike_bind _ _ _ _ (eval_alike false index env)
            (λ i. alike_bind _ _ _ _ (eval_alike false e env)
            (λ v. alike_bind _ _ _ _ (receiver_alike false base)
            (λ a. set_element_alike env a i v))))

        combined_alike : (operator : Operator) (old : Value) (e : Expr) (env : Env) → Alike (combined c operator old e env) (combined d operator old e env)
        combined_alike operator old e env = alike_bind _ _ _ _ (eval_alike false e env) (λ v. alike_given (operate operator old v))

        update_alike : (place : Place) (operator : Operator) (e : Expr) (env : Env) → Alike (update c place operator e env) (update d place operator e env)
        update_alike (Place.Local_place i type) operator e env =
            alike_need (slice_get env.locals i) _ _ (λ old. alike_bind _ _ _ _ (combined_alike operator old e env) (set_local_alike i type env))
        update_alike (Place.Property_place object name) operator e env =
            alike_bind _ _ _ _ (eval_alike false object env)
            (λ base. alike_bind _ _ _ _ (receiver_alike false base)
            (λ o. alike_bind _ _ _ _ (read_alike o name)
            (λ old. alike_bind _ _ _ _ (combined_alike operator old e env)
            (λ v. set_property_alike env o name v))))
        update_alike (Place.Element_place array index) operator e env =
            alike_bind _ _ _ _ (eval_alike false array env)
            (λ base. alike_bind _ _ _ _ (eval_alike false index env)
            (λ i. alike_bind _ _ _ _ (receiver_alike false base)
            (λ a. alike_bind _ _ _ _ (read_element_alike a i)
            (λ old. alike_bind _ _ _ _ (combined_alike operator old e env)
            (λ v. set_element_alike env a i v)))))

        construct_base_alike : (base : Option Class) (vs : List Value) (env : Env) → Alike (construct_base c base vs env) (construct_base d base vs env)
        construct_base_alike None vs env = falls_alike env
        construct_base_alike (Some base) vs env =
            alike_bind _ _ _ _ (prepare_alike base vs) (λ arguments. alike_bind _ _ _ _ (construct_alike base env.this arguments) (λ _. falls_alike env))

        test_of_alike : (e : Option Expr) (env : Env) → Alike (test_of c e env) (test_of d e env)
        test_of_alike None env = alike_stays (value.Bool true)
        test_of_alike (Some e) env = eval_alike false e env

        give_back_alike : (type : Option StaticType) (e : Option Expr) (env : Env) → Alike (give_back c type e env) (give_back d type e env)
        give_back_alike type None env = alike_bind _ _ _ _ (convert_result_alike type value.Undefined) (λ v. alike_stays (Returns v))
        give_back_alike type (Some e) env = alike_bind _ _ _ _ (eval_alike false e env) (λ v. alike_bind _ _ _ _ (convert_result_alike type v) (λ v1. alike_stays (Returns v1)))

        mutual
          exec_alike : (type : Option StaticType) (s : Stmt) (env : Env) → Alike (exec c type s env) (exec d type s env)
          exec_alike type (Stmt.Do e) env = alike_bind _ _ _ _ (eval_alike false e env) (λ _. falls_alike env)
          exec_alike type (Stmt.Trace es) env = alike_bind _ _ _ _ (eval_all_alike false es env) (λ vs. alike_bind _ _ _ _ (trace_alike vs) (λ _. falls_alike env))
          exec_alike type (Stmt.Assign place e) env = put_alike place e env
          exec_alike type (Stmt.Update place operator e) env = update_alike place operator e env
          exec_alike type (Stmt.If test then_block else_block) env =
              alike_bind _ _ _ _ (eval_alike false test env) (λ v. alike_choose (to_bool v) _ _ _ _ (exec_all_alike type then_block env) (exec_all_alike type else_block env))
          exec_alike type (Stmt.Loop test step body) env =
              loop_alike (test_of c test) (test_of d test) (exec_all c type step) (exec_all d type step) (exec_all c type body) (exec_all d type body) (test_of_alike test) (exec_all_alike type step) (exec_all_alike type body) n m le env
          exec_alike type (Stmt.Do_while body test) env =
              alike_bind _ _ _ _ (exec_all_alike type body env)
              (again_alike _ _ (loop_alike (eval c false test) (eval d false test) falls falls (exec_all c type body) (exec_all d type body) (eval_alike false test) falls_alike (exec_all_alike type body) n m le))
          exec_alike type Stmt.Break env = alike_stays (Breaks env)
          exec_alike type Stmt.Continue env = alike_stays (Continues env)
          exec_alike type (Stmt.Return e) env = give_back_alike type e env
          exec_alike type (Stmt.Super base es) env = alike_bind _ _ _ _ (eval_all_alike false es env) (λ vs. construct_base_alike base vs env)

          exec_all_alike : (type : Option StaticType) (block : Block) (env : Env) → Alike (exec_all c type block env) (exec_all d type block env)
          exec_all_alike type NoStmt env = falls_alike env
          exec_all_alike type (MoreStmt s block) env = alike_bind _ _ _ _ (exec_alike type s env) (flow_on_alike _ _ (exec_all_alike type block))

        returned_alike : (type : Option StaticType) (x : Flow) → Alike (returned c type x) (returned d type x)
        returned_alike type (Returns v) = alike_stays v
        returned_alike type (Falls env) = convert_result_alike type (start_of_result type)
        returned_alike type (Breaks env) = alike_stuck
        returned_alike type (Continues env) = alike_stuck

        run_alike : (method : Method) (o : ObjId) (vs : List Value) → Alike (run c method o vs) (run d method o vs)
        run_alike method o vs =
            alike_guarded (length vs == length method.parameters) _ _
            (alike_bind _ _ _ _ (exec_all_alike method.result method.body (first_env method o vs)) (returned_alike method.result))

        go_on_alike : (f g : ObjId → World → Result (Option Target)) → ((o : ObjId) → Alike (f o) (g o)) → (v : Value) → Alike (go_on f v) (go_on g v)
        go_on_alike f g each_one (value.Ref o) = each_one o
        go_on_alike f g each_one value.Null = alike_stays None
        go_on_alike f g each_one value.Undefined = alike_stays None
        go_on_alike f g each_one _ = alike_stuck

        end_of_chain_alike : (name : List ℕ) (names : List (List ℕ)) (o : ObjId) → Alike (end_of_chain p name names o) (end_of_chain p name names o)
        end_of_chain_alike name [] o = alike_stays (Some (target name o))
        end_of_chain_alike name (next ∷ names) o = alike_bind _ _ _ _ (read_alike o name) (go_on_alike _ _ (end_of_chain_alike next names))

        destination_alike : (document : ObjId) (x : Destination) → Alike (destination p document x) (destination p document x)
        destination_alike document (Destination.In_instance instance name) =
            alike_by (λ w. built_object w.built document instance) (λ o w. Goes (option_map (target name) o) w) (λ o w. Goes (option_map (target name) o) w) (λ w. refl) (λ o. alike_stays (option_map (target name) o))
        destination_alike document (Destination.At_chain []) = alike_stuck
        destination_alike document (Destination.At_chain (name ∷ names)) = end_of_chain_alike name names document

        caught_grows : (l : List TraceItem) (r : Result Value) → IsBeginning l (records_of r) → IsBeginning l (records_of (caught r))
        caught_grows l (Goes v w) b = b
        caught_grows l (Halts o w) b = b
        caught_grows l (Ends w) b = b
        caught_grows l (Stuck w) b = b

        caught_extends : (r q : Result Value) → Extends r q → Extends (caught r) (caught q)
        caught_extends (Goes v w) q e = ap caught e
        caught_extends (Halts o w) q (inl spent) = inl (spent.0, caught_grows w.records q spent.1)
        caught_extends (Halts o w) q (inr e) = inr (ap caught e)
        caught_extends (Ends w) q e = ap caught e
        caught_extends (Stuck w) q e = ap caught e

        caught_alike : (f g : World → Result Value) → Alike f g → Alike (λ w. caught (f w)) (λ w. caught (g w))
        caught_alike f g a = record { grows = λ w. caught_grows w.records (g w) (a.grows w); extends = λ w. caught_extends (f w) (g (more w)) (a.extends w) }

        read_built_alike : (name : List ℕ) (o : Option ObjId) → Alike (read_built p name o) (read_built p name o)
        read_built_alike name None = alike_ends
        read_built_alike name (Some o) = read_alike o name

        source_alike : (document : ObjId) (s : BindingSource) → Alike (source c document s) (source d document s)
        source_alike document (BindingSource.An_expression e) = eval_alike true e (record { this = document; locals = [] })
        source_alike document (BindingSource.A_property instance name) =
            alike_by (λ w. built_object w.built document instance) (read_built p name) (read_built p name) (λ w. refl) (read_built_alike name)

        write_target_alike : (t : Target) (v : Option Value) → Alike (write_target c t v) (write_target d t v)
        write_target_alike t None = alike_stays tt
        write_target_alike t (Some v) = assign_alike t.object t.name v

        write_source_alike : (document : ObjId) (s : BindingSource) (t : Option Target) → Alike (write_source c document s t) (write_source d document s t)
        write_source_alike document s None = alike_stays tt
        write_source_alike document s (Some t) = alike_bind _ _ _ _ (caught_alike _ _ (source_alike document s)) (write_target_alike t)

        transfer_alike : (document : ObjId) (b : Binding) → Alike (transfer c document b) (transfer d document b)
        transfer_alike document b = alike_bind _ _ _ _ (destination_alike document b.destination) (write_source_alike document b.source)

        run_binding_alike : (document : ObjId) (number : ℕ) → Alike (run_binding c document number) (run_binding d document number)
        run_binding_alike document number =
            alike_on document _ _
            (λ o. alike_need (binding_of c o number) _ _
            (λ b. alike_after (opened document number) _ _ (λ w. refl) (λ w. refl)
            (alike_bind _ _ _ _ (transfer_alike document b) (λ _. alike_goes tt (closed document number) (λ w. beginning_same w.records) (λ w. refl)))))

        module _ (document : ObjId) where
          apply_attribute_alike : (o : ObjId) (a : Attribute) → Alike (apply_attribute c document o a) (apply_attribute d document o a)
          apply_attribute_alike o (Attribute.Sets name value) = assign_alike o name (literal_value value)
          apply_attribute_alike o (Attribute.Handles event method) = alike_goes tt (register document event method o) (λ w. beginning_same w.records) (λ w. refl)

          write_id_alike : (id : Option (List ℕ)) (o : ObjId) → Alike (write_id c document id o) (write_id d document id o)
          write_id_alike None o = alike_stays tt
          write_id_alike (Some id) o = assign_alike document id (value.Ref o)

          start_bindings_of_alike : (number : ℕ) → Alike (start_bindings_of c document number) (start_bindings_of d document number)
          start_bindings_of_alike number =
              alike_on document _ _
              (λ o. alike_need (document_in p o) _ _
              (λ x. alike_need (instance_numbered x.root number) _ _
              (λ instance. alike_each _ _ start_alike (bindings_where (lies_in x.root (numbers_of (parts_of instance))) document 0 x.bindings))))

          build_of_state_alike : (number : ℕ) → Alike (build_of_state c document number) (build_of_state d document number)
          build_of_state_alike number =
              alike_bind _ _ _ _ (law (Builds_instance document number))
              (λ v. alike_need (ref_of v) _ _
              (λ o. alike_bind _ _ _ _ (start_bindings_of_alike number) (λ _. alike_stays o)))

          by_presence_alike : (part : Part) (presence : Option Presence) (f g : World → Result (Unit {0})) → Alike f g → Alike (by_presence c document part presence f) (by_presence d document part presence g)
          by_presence_alike part None f g a = a
          by_presence_alike part (Some x) f g a = alike_choose x.immediate _ _ _ _ (alike_bind _ _ _ _ (build_of_state_alike part.number) (λ _. alike_stays tt)) (alike_stays tt)

          mutual
            build_alike : (i : Instance) → Alike (build c document i) (build d document i)
            build_alike (Instance.Holding part contents) =
                alike_bind _ _ _ _ (make_alike part.class [])
                (λ o. alike_bind _ _ _ _ (write_id_alike part.id o)
                (λ _. alike_bind _ _ _ _ (alike_each _ _ (apply_attribute_alike o) part.attributes)
                (λ _. alike_bind _ _ _ _ (build_contents_alike contents o)
                (λ _. alike_goes o (has_built document part.number o) (λ w. beginning_same w.records) (λ w. refl)))))

            build_contents_alike : (contents : Contents) (o : ObjId) → Alike (build_contents c document contents o) (build_contents d document contents o)
            build_contents_alike Contents.NoContent o = alike_stays tt
            build_contents_alike (Contents.Child i contents) o =
                alike_bind _ _ _ _
                (by_presence_alike (part_of i) (part_of i).presence _ _
                (alike_bind _ _ _ _ (build_alike i) (λ child. add_child_alike o child (Some (declared_spot o document (part_of i).number)))))
                (λ _. build_contents_alike contents o)
            build_contents_alike (Contents.Tag name value contents) o =
                alike_bind _ _ _ _ (build_given_alike value) (λ v. alike_bind _ _ _ _ (assign_alike o name v) (λ _. build_contents_alike contents o))
            build_contents_alike (Contents.Declared i contents) o = build_contents_alike contents o
            build_contents_alike (Contents.Declared_value id value contents) o = build_contents_alike contents o

            build_given_alike : (x : Given) → Alike (build_given c document x) (build_given d document x)
            build_given_alike (Given.Given_literal value) = alike_stays (literal_value value)
            build_given_alike (Given.Given_instance i) = alike_bind _ _ _ _ (build_alike i) (λ o. alike_stays (value.Ref o))
            build_given_alike (Given.Given_array items) =
                alike_bind _ _ _ _ (new_array_alike []) (λ a. alike_bind _ _ _ _ (build_items_alike items a) (λ _. alike_stays (value.Ref a)))

            build_items_alike : (items : Givens) (a : ObjId) → Alike (build_items c document items a) (build_items d document items a)
            build_items_alike Givens.NoGiven a = alike_stays tt
            build_items_alike (Givens.MoreGiven x items) a =
                alike_bind _ _ _ _ (build_given_alike x) (λ v. alike_bind _ _ _ _ (append_alike a v) (λ _. build_items_alike items a))

          build_declarations_alike : (contents : Contents) → Alike (build_declarations c document contents) (build_declarations d document contents)
          build_declarations_alike Contents.NoContent = alike_stays tt
          build_declarations_alike (Contents.Child i contents) = build_declarations_alike contents
          build_declarations_alike (Contents.Tag name value contents) = build_declarations_alike contents
          build_declarations_alike (Contents.Declared i contents) = alike_bind _ _ _ _ (build_alike i) (λ _. build_declarations_alike contents)
          build_declarations_alike (Contents.Declared_value id value contents) =
              alike_bind _ _ _ _ (build_given_alike value) (λ v. alike_bind _ _ _ _ (assign_alike document id v) (λ _. build_declarations_alike contents))

          enter_initial_alike : (states : List State) → Alike (enter_initial c document states) (enter_initial d document states)
          enter_initial_alike [] = alike_stays tt
          enter_initial_alike (s ∷ states) = enter_first_alike document s.name

          build_root_alike : (i : Instance) (x : Document) → Alike (build_root c document i x) (build_root d document i x)
          build_root_alike (Instance.Holding part contents) x =
              alike_bind _ _ _ _ (alike_each _ _ (apply_attribute_alike document) part.attributes)
              (λ _. alike_bind _ _ _ _ (build_declarations_alike contents)
              (λ _. alike_bind _ _ _ _ (build_contents_alike contents document)
              (λ _. alike_bind _ _ _ _
              (alike_after (enable_all document x.bindings) _ _ (λ w. refl) (λ w. refl) (alike_each _ _ start_alike (bindings_where (λ b. not b.second) document 0 x.bindings)))
              (λ _. alike_after (λ w. record w { begun = document ∷ w.begun }) _ _ (λ w. refl) (λ w. refl) (enter_initial_alike x.states)))))

          build_document_alike : Alike (build_document c document) (build_document d document)
          build_document_alike = alike_on document _ _ (λ o. alike_need (document_in p o) _ _ (λ x. build_root_alike x.root x))

          build_instance_alike : (number : ℕ) → Alike (build_instance c document number) (build_instance d document number)
          build_instance_alike number =
              alike_on document _ _
              (λ o. alike_need (document_in p o) _ _
              (λ x. alike_need (instance_numbered x.root number) _ _
              (λ i. alike_bind _ _ _ _ (build_alike i) (λ child. alike_stays (value.Ref child)))))

          register_base_alike : (event : List ℕ) (base : Option ℕ) (o : ObjId) (method : ℕ) → Alike (λ w. done (register_base document event base o (unlisten o event document method false w))) (λ w. done (register_base document event base o (unlisten o event document method false w)))
          register_base_alike event None o method = alike_goes tt (unlisten o event document method false) (λ w. beginning_same w.records) (λ w. refl)
          register_base_alike event (Some base) o method =
              alike_goes tt (λ w. register document event base o (unlisten o event document method false w)) (λ w. beginning_same w.records) (λ w. refl)

          undo_change_alike : (x : Change) (o : ObjId) (found : Value) → Alike (undo_change c document x o found) (undo_change d document x o found)
          undo_change_alike (Change.Changes_property name value) o found = assign_alike o name found
          undo_change_alike (Change.Changes_handler event base method) o found = register_base_alike event base o method

          undo_saved_alike : (x : Change) (s : Option Saved) → Alike (undo_saved c document x s) (undo_saved d document x s)
          undo_saved_alike x None = alike_stays tt
          undo_saved_alike x (Some s) = alike_after (drop_saved s) _ _ (λ w. refl) (λ w. refl) (undo_change_alike x s.object s.value)

          undo_from_alike : (state : List ℕ) (place : ℕ) (overrides : List Override) → Alike (undo_from c document state place overrides) (undo_from d document state place overrides)
          undo_from_alike state place [] = alike_stays tt
          undo_from_alike state place (x ∷ overrides) =
              alike_bind _ _ _ _ (undo_from_alike state (suc place) overrides) (λ _. alike_by (λ w. saved_at document state place w.saved) (undo_saved c document x.change) (undo_saved d document x.change) (λ w. refl) (undo_saved_alike x.change))

          write_null_alike : (id : Option (List ℕ)) → Alike (write_null c document id) (write_null d document id)
          write_null_alike None = alike_stays tt
          write_null_alike (Some id) = assign_alike document id value.Null

          forget_alike : (i : Option Instance) → Alike (forget c document i) (forget d document i)
          forget_alike None = alike_stays tt
          forget_alike (Some i) =
              alike_after (forget_built document (numbers_of (parts_of i))) _ _ (λ w. refl) (λ w. refl) (alike_each _ _ (λ part. write_null_alike part.id) (parts_of i))

          remove_part_alike : (root : Instance) (part : Part) (x : Presence) → Alike (remove_part c document root part x) (remove_part d document root part x)
          remove_part_alike root part x =
              alike_by (λ w. built_object w.built document part.number)
              (λ b w. need b w (λ o. bind (take_out o w) (λ _ w1. choose x.auto (forget c document (instance_numbered root part.number)) done w1)))
              (λ b w. need b w (λ o. bind (take_out o w) (λ _ w1. choose x.auto (forget d document (instance_numbered root part.number)) done w1)))
              (λ w. refl)
              (λ b. alike_need b _ _
              (λ o. alike_bind _ _ _ _ (take_out_alike o) (λ _. alike_choose x.auto _ _ _ _ (forget_alike (instance_numbered root part.number)) (alike_stays tt))))

          leave_part_alike : (root : Instance) (next : List ℕ) (part : Part) (presence : Option Presence) → Alike (leave_part c document root next part presence) (leave_part d document root next part presence)
          leave_part_alike root next part None = alike_stays tt
          leave_part_alike root next part (Some x) =
              alike_by (λ w. not (includes next x) && is_present w.objects w.built document part.number) (λ b w. choose b (remove_part c document root part x) done w) (λ b w. choose b (remove_part d document root part x) done w) (λ w. refl)
              (λ b. alike_choose b _ _ _ _ (remove_part_alike root part x) (alike_stays tt))

          leave_state_alike : (next : List ℕ) → Alike (leave_state c document next) (leave_state d document next)
          leave_state_alike next =
              alike_on document _ _
              (λ o. alike_need (document_in p o) _ _
              (λ x. alike_need (property o current_state) _ _
              (λ current. alike_need (state_asked (Some x) current) _ _
              (λ s. alike_bind _ _ _ _ (undo_from_alike s.name 0 s.overrides) (λ _. alike_each _ _ (λ part. leave_part_alike x.root next part part.presence) (parts_of x.root))))))

          built_now_alike : (number : ℕ) (o : Option ObjId) → Alike (built_now c document number o) (built_now d document number o)
          built_now_alike number None = build_of_state_alike number
          built_now_alike number (Some o) = alike_stays o

          add_part_alike : (part : Part) (container : Option ObjId) → Alike (add_part c document part container) (add_part d document part container)
          add_part_alike part None = alike_stays tt
          add_part_alike part (Some container) =
              alike_bind _ _ _ _
              (alike_by (λ w. built_object w.built document part.number) (built_now c document part.number) (built_now d document part.number) (λ w. refl) (built_now_alike part.number))
              (λ child. add_child_alike container child (Some (declared_spot container document part.number)))

          enter_part_alike : (state : List ℕ) (part : Part) (presence : Option Presence) → Alike (enter_part c document state part presence) (enter_part d document state part presence)
          enter_part_alike state part None = alike_stays tt
          enter_part_alike state part (Some x) =
              alike_by (λ w. includes state x && not (is_present w.objects w.built document part.number))
              (λ b w. choose b (add_part c document part (built_object w.built document x.container)) done w)
              (λ b w. choose b (add_part d document part (built_object w.built document x.container)) done w)
              (λ w. refl)
              (λ b. alike_by (λ w. built_object w.built document x.container) (λ o w. choose b (add_part c document part o) done w) (λ o w. choose b (add_part d document part o) done w) (λ w. refl)
              (λ o. alike_choose b _ _ _ _ (add_part_alike part o) (alike_stays tt)))

          apply_handler_alike : (state : List ℕ) (place : ℕ) (event : List ℕ) (base : Option ℕ) (method : ℕ) (o : ObjId) → Alike (apply_change c document state place (Change.Changes_handler event base method) o) (apply_change d document state place (Change.Changes_handler event base method) o)
          apply_handler_alike state place event None method o =
              alike_goes tt (λ w. register document event method o (save (saved c document state place o value.Null) w)) (λ w. beginning_same w.records) (λ w. refl)
          apply_handler_alike state place event (Some base) method o =
              alike_goes tt (λ w. register document event method o (unlisten o event document base false (save (saved c document state place o value.Null) w))) (λ w. beginning_same w.records) (λ w. refl)

          apply_change_alike : (state : List ℕ) (place : ℕ) (x : Change) (o : ObjId) → Alike (apply_change c document state place x o) (apply_change d document state place x o)
          apply_change_alike state place (Change.Changes_property name value) o =
              alike_bind _ _ _ _ (read_alike o name)
              (λ found. alike_after (save (saved c document state place o found)) _ _ (λ w. refl) (λ w. refl) (assign_alike o name (literal_value value)))
          apply_change_alike state place (Change.Changes_handler event base method) o = apply_handler_alike state place event base method o

          apply_to_alike : (state : List ℕ) (place : ℕ) (x : Change) (o : Option ObjId) → Alike (apply_to c document state place x o) (apply_to d document state place x o)
          apply_to_alike state place x None = alike_stays tt
          apply_to_alike state place x (Some o) = apply_change_alike state place x o

          apply_from_alike : (state : List ℕ) (place : ℕ) (overrides : List Override) → Alike (apply_from c document state place overrides) (apply_from d document state place overrides)
          apply_from_alike state place [] = alike_stays tt
          apply_from_alike state place (x ∷ overrides) =
              alike_bind _ _ _ _
              (alike_by (λ w. built_object w.built document x.instance) (apply_to c document state place x.change) (apply_to d document state place x.change) (λ w. refl) (apply_to_alike state place x.change))
              (λ _. apply_from_alike state (suc place) overrides)

          enter_named_alike : (state : List ℕ) → Alike (enter_named c document state) (enter_named d document state)
          enter_named_alike state =
              alike_on document _ _
              (λ o. alike_need (document_in p o) _ _
              (λ x. alike_need (state_named state x.states) _ _
              (λ s. alike_bind _ _ _ _ (alike_each _ _ (λ part. enter_part_alike s.name part part.presence) (parts_of x.root)) (λ _. apply_from_alike s.name 0 s.overrides))))

        without_value_alike : (f g : World → Result (Unit {0})) → Alike f g → Alike (without_value f) (without_value g)
        without_value_alike f g a = alike_bind _ _ _ _ a (λ _. alike_stays value.Undefined)

        start_variable_alike : (o : ObjId) (name : List ℕ) (e : Option Expr) → Alike (start_variable c o name e) (start_variable d o name e)
        start_variable_alike o name None = alike_stays tt
        start_variable_alike o name (Some e) = alike_bind _ _ _ _ (eval_alike false e (record { this = o; locals = [] })) (λ v. assign_alike o name v)

        run_method_alike : (i : ℕ) (o : ObjId) (vs : List Value) → Alike (run_method c i o vs) (run_method d i o vs)
        run_method_alike i o vs = alike_need (slice_get p.methods i) _ _ (λ method. run_alike method o vs)

        construct_unless_super_alike : (base : Option Class) (o : ObjId) → Alike (construct_unless_super c base o) (construct_unless_super d base o)
        construct_unless_super_alike (Some (Class.File i)) o = alike_bind _ _ _ _ (law (Constructs i o [])) (λ _. alike_stays tt)
        construct_unless_super_alike (Some (Class.Native class)) o = alike_stays tt
        construct_unless_super_alike None o = alike_stays tt

        run_constructor_alike : (base : Option Class) (x : Option Constructor) (o : ObjId) (vs : List Value) → Alike (run_constructor c base x o vs) (run_constructor d base x o vs)
        run_constructor_alike base None o vs = construct_unless_super_alike base o
        run_constructor_alike base (Some x) o vs =
            alike_bind _ _ _ _ (alike_choose x.calls_super _ _ _ _ (alike_stays tt) (construct_unless_super_alike base o))
            (λ _. alike_bind _ _ _ _ (run_method_alike x.method o vs) (λ _. alike_stays tt))

        build_if_document_alike : (x : Option Document) (o : ObjId) → Alike (build_if_document c x o) (build_if_document d x o)
        build_if_document_alike None o = alike_stays tt
        build_if_document_alike (Some x) o = alike_bind _ _ _ _ (law (Builds_document o)) (λ _. alike_stays tt)

        registered_alike : {A : Type 0} (x : Option Document) (o : ObjId) (f g : World → Result A) → Alike f g → Alike (λ w. f (register_document x o w)) (λ w. g (register_document x o w))
        registered_alike None o f g a = a
        registered_alike (Some x) o f g a = alike_after (λ w. record w { registered = o ∷ w.registered }) f g (λ w. refl) (λ w. refl) a

        construct_numbered_alike : (i : ℕ) (o : ObjId) (vs : List Value) → Alike (construct_numbered c i o vs) (construct_numbered d i o vs)
        construct_numbered_alike i o vs =
            alike_need (slice_get p.classes i) _ _
            (λ class. alike_bind _ _ _ _ (registered_alike class.document o _ _ (alike_each _ _ (λ v. start_variable_alike o v.name v.start) class.variables))
            (λ _. alike_bind _ _ _ _ (run_constructor_alike class.base class.constructor o vs)
            (λ _. build_if_document_alike class.document o)))

        perform_alike : (t : Task) → Alike (perform c t) (perform d t)
        perform_alike (Calls i o vs) = activity_alike _ _ (run_method_alike i o vs)
        perform_alike (Constructs i o vs) = activity_alike _ _ (without_value_alike _ _ (construct_numbered_alike i o vs))
        perform_alike (Builds_document document) = activity_alike _ _ (without_value_alike _ _ (build_document_alike document))
        perform_alike (Builds_instance document number) = activity_alike _ _ (build_instance_alike document number)
        perform_alike (Hears a kind l vs) = activity_alike _ _ (alike_noted (Heard a.node kind (phase_number a.phase)) _ _ (run_method_alike l.method l.object vs))
        perform_alike (Runs_binding document number) = activity_alike _ _ (without_value_alike _ _ (run_binding_alike document number))
        perform_alike (Leaves document next) = activity_alike _ _ (without_value_alike _ _ (leave_state_alike document next))
        perform_alike (Enters document state) = activity_alike _ _ (without_value_alike _ _ (enter_named_alike document state))

        miss_alike : (path : List (List ℕ)) → Alike (miss path) (miss path)
        miss_alike path = alike_goes tt (note (Missed (path_text path))) (λ w. beginning_more w.records (Missed (path_text path) ∷ [])) (λ w. refl)

        send_change_alike : (o : ObjId) → Alike (send_change c o) (send_change d o)
        send_change_alike o = alike_bind _ _ _ _ (send_alike change o) (λ _. alike_stays tt)

        toggle_alike : (o : ObjId) → Alike (toggle c o) (toggle d o)
        toggle_alike o =
            alike_on o _ _
            (λ x. alike_choose (toggles c x) _ _ _ _ (alike_bind _ _ _ _ (assign_alike o (codes "selected") (value.Bool (not (has_flag (codes "selected") x)))) (λ _. send_change_alike o)) (alike_stays tt))

        click_on_alike : (path : List (List ℕ)) (o : Option ObjId) → Alike (click_on c path o) (click_on d path o)
        click_on_alike path None = miss_alike path
        click_on_alike path (Some o) = alike_bind _ _ _ _ (send_alike click o) (λ left. alike_choose left _ _ _ _ (toggle_alike o) (alike_stays tt))

        type_at_alike : (path : List (List ℕ)) (text : List ℕ) (o : Option ObjId) → Alike (type_at c path text o) (type_at d path text o)
        type_at_alike path text None = miss_alike path
        type_at_alike path text (Some o) =
            alike_on o _ _
            (λ x. alike_choose (takes_text c x) _ _ _ _ (alike_bind _ _ _ _ (assign_alike o (codes "text") (value.Text text)) (λ _. send_change_alike o)) (miss_alike path))

        play_event_alike : (main : ObjId) (e : UserEvent) → Alike (play_event c main e) (play_event d main e)
        play_event_alike main (user.Click path line) =
            alike_by (λ w. reached p w.objects main path) (λ o w. click_on c path o (note (User line) w)) (λ o w. click_on d path o (note (User line) w)) (λ w. refl)
            (λ o. alike_noted (User line) _ _ (click_on_alike path o))
        play_event_alike main (user.Write path text line) =
            alike_by (λ w. reached p w.objects main path) (λ o w. type_at c path text o (note (User line) w)) (λ o w. type_at d path text o (note (User line) w)) (λ w. refl)
            (λ o. alike_noted (User line) _ _ (type_at_alike path text o))
        play_event_alike main (user.State state line) = alike_noted (User line) _ _ (request_alike main (value.Text state))

        play_alike : (events : List UserEvent) → Alike (play c events) (play d events)
        play_alike events =
            alike_bind _ _ _ _ (make_alike (Class.File p.main) [])
            (λ main. alike_bind _ _ _ _ (announce_alike creation_complete main) (λ _. alike_each _ _ (play_event_alike main) events))

    same_activities_alike : (j : ℕ) (t : Task) → Alike (activities p j t) (activities p j t)
    same_activities_alike zero t = record { grows = λ w. beginning_same w.records; extends = λ w. inl (refl, beginning_same w.records) }
    same_activities_alike (suc j) t = perform_alike j j (λ t1 w1. activities p j t1 w1) (λ t1 w1. activities p j t1 w1) (same_activities_alike j) (omega arith) t

    activities_alike : (i j : ℕ) → i ≤ j → (t : Task) → Alike (activities p i t) (activities p j t)
    activities_alike zero j le t = record { grows = (same_activities_alike j t).grows; extends = λ w. inl (refl, (same_activities_alike j t).grows (more w)) }
    activities_alike (suc i) zero le t = absurd (omega arith)
    activities_alike (suc i) (suc j) le t = perform_alike i j (λ t1 w1. activities p i t1 w1) (λ t1 w1. activities p j t1 w1) (activities_alike i j (omega arith)) (omega arith) t

-- what is seen of a result has its records
told_begins : (items : List TraceItem) (r : Result (Unit {0})) → IsBeginning items (records_of r) → IfSome (told r) (λ m. IsBeginning items m.records)
told_begins items (Goes v w) b = b
told_begins items (Halts o w) b = b
told_begins items (Ends w) b = tt
told_begins items (Stuck w) b = tt

-- what is seen of two results with fewer and more turns
told_goes_on : (k : ℕ) (r q : Result (Unit {0})) → Extends k r q → GoesOn (told r) (told q)
told_goes_on k (Goes v w) q e = record { spent = λ is. absurd (cc); over = λ _. ap told e }
told_goes_on k (Halts o w) q (inl spent) = record { spent = λ _. told_begins w.records q spent.1; over = λ not. absurd (not spent.0) }
told_goes_on k (Halts o w) q (inr e) = record {
  spent = λ _. subst (λ x. IfSome (told x) (λ m. IsBeginning w.records m.records)) (sym e) (beginning_same w.records);
  over = λ _. ap told e;
}
told_goes_on k (Ends w) q e = ap told e
told_goes_on k (Stuck w) q e = ap told e

-- a play with more turns goes on
pub more_turns_go_on : MoreTurnsGoOn
more_turns_go_on p events turns k =
    told_goes_on k _ _
    ((play_alike k p (suc turns) (suc (turns + k)) (activities p (suc turns)) (activities p (suc (turns + k))) (activities_alike k p (suc turns) (suc (turns + k)) (omega arith)) (omega arith) events).extends (empty_world turns))
