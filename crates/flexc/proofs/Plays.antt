-- The machine loads the ABC of a document and builds the document as its source means.
use Rattle.std.proofs.Common.{◌≡◌, ℕ, zero, suc, ◌+◌, ◌≤◌, List, [], ◌∷◌, length, Option, None, Some, Bool, true, false, refl, sym, ap, ◌∙◌, subst, arith}
use Rattle.std.specs.Prelude.{map, option_map, slice_get, if◌then◌else◌, nat_lt, codes}
use Rattle.std.proofs.lemmas.List.{length-map}
use Rattle.std.proofs.lemmas.Simd.{map-map}
use Rattle.abc_format.specs.declared.records.Abc.{Abc}
use Rattle.abc_format.specs.Numbers.{u30_bytes, u32_at}
use Rattle.flex_base.specs.declared.record.TraceItem.{TraceItem}
use Rattle.flex_base.specs.declared.record.TraceItem.TheVariants.{Made}
use Rattle.flex_base.specs.declared.value.Value.TheVariants as value
use Rattle.flex_base.specs.declared.outcome.Outcome.TheVariants as outcome
use Rattle.flex_base.specs.declared.outcome.Stop.TheVariants as stop
use Rattle.avm2_machine.specs.declared.frame.Operand.{Operand}
use Rattle.avm2_machine.specs.declared.frame.Operand.TheVariants as operand
use Rattle.avm2_code.specs.declared.instruction.Instruction.TheVariants.{ConstructSuper, CallPropVoid, GetLocal0}
use Rattle.avm2_machine.specs.declared.machine.Load.TheVariants as load
use Rattle.avm2_machine.specs.declared.machine.Machine.{Machine}
use Rattle.flex_front.specs.declared.document.Element.{Element}
use Rattle.flex_front.specs.Source.{AreNewIds}
use Rattle.avm2_machine.specs.declared.stage.Class.TheVariants as class
use Rattle.flexc.specs.Emitted.{encode_all, constructor_code, building_code, body, instance_of, main_text}
use Rattle.avm2_machine.specs.Machine.{and_then, makes, makes_main, begins_main, entered, enters_body, with_turn, class_method}
use Rattle.flexc.specs.Meaning.{id_property, build_all, construct}
use Rattle.script_player.specs.Playing.{Config, boot, first, and_item, advance}
use Rattle.avm2_machine.specs.Stage.{empty_stage, object_at}
use Rattle.flexc.specs.World.{Main, World, Result, Goes, bind, empty_world, note, enter, leave, activity, take, make, new_component, with_component}
use Rattle.flexc.proofs.Decoded.{Stands, size, code_stands}
use Rattle.flexc.proofs.Encodable.{building_encodable, constructor_encodable}
use Rattle.flexc.proofs.Looked.{abc, building, building_name, building_is_other, building_method, id_slot, declared_are}
use Rattle.flexc.proofs.Runs.{IsReady, builds, building_sim}
use Rattle.flexc.proofs.Sims.{running, ref, SameObjects, Sim, sim_then, sim_assoc, turned, takes_sim, entered_sim, get_0_sim, super_sim, call_sim, return_sim}
use Rattle.flexc.proofs.States.{one, object_of, stage_of, machine_of, slot_of, at, object_is}

-- the code of the method that builds
building_stands : (es : List Element) → length es ≤ 100 → Stands (encode_all (building_code es)) 0 (building_code es) (length (encode_all (building_code es)))
building_stands es few = code_stands (building_code es) (building_encodable es few)

constructor_stands : Stands (encode_all constructor_code) 0 constructor_code (length (encode_all constructor_code))
constructor_stands = code_stands constructor_code constructor_encodable

-- an activity that makes no record at its beginning
silent_entry : (p : Abc) (method : ℕ) (given : List Operand) (m : Machine) (o : Option ℕ) → (enters_body p None o given m).item ≡ None
silent_entry p method given m None = refl
silent_entry p method given m (Some b) = by (nat_lt m.level 256) m.turns
  where
    by : (t : Bool) (turns : ℕ) → (if t then with_turn p turns None b given m else record { machine = record m { frames = []; outcome = Some (outcome.Stopped stop.Depth) }; item = None }).item ≡ None
    by true zero = refl
    by true (suc turns) = refl
    by false turns = refl

module _ (es : List Element) (few : length es ≤ 100) (distinct : AreNewIds [] es) where
  abbrev p : Abc
  p = abc es

  pub ready_again : (k : ℕ) (w w1 : World) → SameObjects w w1 → IsReady es k w → IsReady es k w1
  ready_again k w w1 same r = record {
    properties = r.properties;
    children = r.children;
    others = r.others;
    are = same.objects ∙ r.are;
    many = r.many;
    placed = r.placed;
    named = r.named;
    heard = r.heard;
    counted = let cells = same.cells in let before = r.counted in omega (arith, cells, before);
  }

  -- the method that builds is found at the document
  method_found : (w : World) → IsReady es 0 w → class_method p (object_at (stage_of w) one) (building es) ≡ Some 3
  method_found w r = ap (λ o. class_method p o (building es)) (object_is w one ∙ ap (λ l. option_map object_of (slice_get l 0)) r.are) ∙ building_method es

  -- the constructor runs to its end
  constructor_sim : {B : Type 0} (w : World) → IsReady es 0 w → (h : Unit {0} → World → Result B) (l : B → World → Config → Type 0)
      → ((w1 : World) → IsReady es (length es) w1 → Sim p main_text (at [] w1) (h tt w1) l)
      → Sim p main_text (at (running 2 0 [] (ref one ∷ []) ∷ []) w) (bind (bind (activity (build_all one 0 es) w) (λ _ w1. Goes tt (leave w1))) h) l
  constructor_sim {B} w r h l s =
      let has = constructor_stands in
      let base = body 2 1 1 (encode_all constructor_code) in
      let a1 = 0 + size GetLocal0 in
      let a2 = a1 + size (ConstructSuper 0) in
      let a3 = a2 + size GetLocal0 in
      let a4 = a3 + size (CallPropVoid 6 0) in
      let ends : Unit {0} → World → Result (Unit {0}) = λ _ w1. Goes tt (leave w1) in
      let inner : Unit {0} → World → Result (Unit {0}) = λ _ w1. bind (build_all one 0 es w1) ends in
      let whole : Result B = bind (bind (bind (enter w) inner) ends) h in
      get_0_sim p main_text 2 base refl 0 [] [] w whole l (ref one) [] has.0
      (super_sim p main_text 2 base refl a1 [] [] w whole l one (ref one ∷ []) has.1.0
      (get_0_sim p main_text 2 base refl a2 [] [] w whole l (ref one) [] has.1.1.0
      (sim_assoc p main_text (at (running 2 a3 (ref one ∷ []) (ref one ∷ []) ∷ []) w) (bind (enter w) inner) ends h l
      (sim_assoc p main_text (at (running 2 a3 (ref one ∷ []) (ref one ∷ []) ∷ []) w) (enter w) inner (λ v w1. bind (ends v w1) h) l
      (call_sim p main_text 2 base refl a3 [] [] w 6 (building es) 1 3 3 (ref one ∷ []) (λ v w1. bind (inner v w1) (λ u w2. bind (ends u w2) h)) l
      (building_name es) (building_is_other es) (method_found w r) refl has.1.1.1.0
      (λ w1 same.
      sim_assoc p main_text (at (builds es 0 [] (operand.Value value.Undefined) ∷ running 2 a4 [] (ref one ∷ []) ∷ []) w1) (build_all one 0 es w1) ends (λ u w2. bind (ends u w2) h) l
      (building_sim es distinct [] es 0 0 refl refl refl few 0 _ (building_stands es few) (operand.Value value.Undefined) (running 2 a4 [] (ref one ∷ []) ∷ []) w1 (ready_again 0 w w1 same r)
      (λ v w2. bind (ends v w2) (λ u w3. bind (ends u w3) h)) l
      (λ w2 ready. return_sim p main_text 2 base refl a4 [] [] (leave w2) (h tt (leave (leave w2))) l (ref one ∷ []) has.1.1.1.1.0
      (s (leave (leave w2)) (ready_again (length es) w2 (leave (leave w2)) (record { objects = refl; cells = refl }) ready))))))))))

  -- before the main object is made
  abbrev unbegun : ℕ → Machine
  unbegun turns =
      record { frames = []; load = load.Done; made = true ∷ []; main = None; stage = empty_stage; level = 0; turns = turns; outcome = None }

  -- once the scripts were initialised
  abbrev pub loaded : ℕ → Config
  loaded turns = record { machine = record (unbegun turns) { load = load.Main }; records = [] }

  slots_are : map (id_slot es) es ≡ map slot_of (map id_property es)
  slots_are = sym (map-map slot_of id_property es)

  -- the world in which the document was made, and nothing else
  abbrev begun : ℕ → World
  begun turns = note (Made one (codes "Main")) (with_component (new_component Main (map id_property es)) (16 + length es) (empty_world turns))

  first_ready : (turns : ℕ) → IsReady es 0 (begun turns)
  first_ready turns = record {
    properties = map id_property es;
    children = [];
    others = [];
    are = refl;
    many = refl;
    placed = refl;
    named = map-map (λ x. (x.name, x.content)) id_property es;
    heard = tt;
    counted = omega arith;
  }

  module _ {B : Type 0} (h : Unit {0} → World → Result B) (l : B → World → Config → Type 0)
      (s : (w1 : World) → IsReady es (length es) w1 → Sim p main_text (at [] w1) (h tt w1) l) (turns : ℕ) where
    -- the constructor of the main object begins
    begins_sim : Sim p main_text (turned p main_text (with_component (new_component Main (map id_property es)) (16 + length es) (empty_world turns))
        (begins_main p 2 main_text one (record (unbegun turns) { stage = stage_of (begun turns) }))) (bind (construct one es (begun turns)) h) l
    begins_sim =
        let w = begun turns in
        let m = machine_of [] w in
        let item = silent_entry p 2 (ref one ∷ []) m (Some 2) in
        let c : Option TraceItem → Config = λ i. record { machine = (entered p None 2 (ref one ∷ []) m).machine; records = and_item w.records i } in
        subst (λ i. Sim p main_text (c i) (bind (construct one es w) h) l) item
        (sim_assoc p main_text (c (entered p None 2 (ref one ∷ []) m).item) (enter w) (λ _ w2. bind (activity (build_all one 0 es) w2) (λ _ w3. Goes tt (leave w3))) h l
        (entered_sim p main_text None 2 2 (ref one ∷ []) [] w (λ _ w2. bind (bind (activity (build_all one 0 es) w2) (λ _ w3. Goes tt (leave w3))) h) l refl
        (λ w2 same. constructor_sim w2 (ready_again 0 w w2 same (first_ready turns)) h l s)))

    main_sim : Sim p main_text (turned p main_text (empty_world turns) (and_then (makes (class.File 0) (map (id_slot es) es) (length es) (unbegun turns)) (begins_main p 2 main_text)))
        (bind (make Main (codes "Main") (map id_property es) (length es) (empty_world turns)) (λ document w1. bind (construct document es w1) h)) l
    main_sim =
        sim_assoc p main_text (turned p main_text (empty_world turns) (and_then (makes (class.File 0) (map (id_slot es) es) (length es) (unbegun turns)) (begins_main p 2 main_text)))
        (take Main (map id_property es) (length es) (empty_world turns)) (λ o w1. Goes o (note (Made o (codes "Main")) w1)) (λ document w1. bind (construct document es w1) h) l
        (takes_sim p main_text Main (map id_property es) (length es) (map (id_slot es) es) (unbegun turns) (empty_world turns) (begins_main p 2 main_text)
        (λ o w1. bind (construct o es (note (Made o (codes "Main")) w1)) h) l refl slots_are (record { enough = omega arith })
        (λ w1 e. subst
        (λ x. Sim p main_text (turned p main_text x (begins_main p 2 main_text one (record (unbegun turns) { stage = stage_of x }))) (bind (construct one es (note (Made one (codes "Main")) x)) h) l)
        (sym e) begins_sim))

    main_step : advance p main_text (loaded turns) ≡ turned p main_text (empty_world turns) (and_then (makes (class.File 0) (map (id_slot es) es) (length es) (unbegun turns)) (begins_main p 2 main_text))
    main_step =
        ap (λ o. turned p main_text (empty_world turns) (makes_main p (instance_of es) main_text o (unbegun turns))) (declared_are es)
        ∙ ap (λ n. turned p main_text (empty_world turns) (and_then (makes (class.File 0) (map (id_slot es) es) n (unbegun turns)) (begins_main p 2 main_text))) (length-map es (id_slot es))

    -- once the scripts were initialised, the document is made and built, and what follows goes on from there
    loaded_sim : Sim p main_text (loaded turns) (bind (make Main (codes "Main") (map id_property es) (length es) (empty_world turns)) (λ document w1. bind (construct document es w1) h)) l
    loaded_sim =
        sim_then p main_text (loaded turns) _ l
        (subst (λ c. Sim p main_text c (bind (make Main (codes "Main") (map id_property es) (length es) (empty_world turns)) (λ document w1. bind (construct document es w1) h)) l) (sym main_step) main_sim)

    steps_sim : {A : Type 0} (r : Result A) (k : A → World → Config → Type 0) → Sim p main_text (loaded turns) r k → Sim p main_text (first (boot p turns)) r k
    unfolding u30_bytes u32_at
    steps_sim r k g = record { comes = record { count = suc (suc (suc (suc (suc (suc (suc (suc g.comes.count))))))); holds = g.comes.holds } }

    -- from the load on
    pub document_sim : Sim p main_text (first (boot p turns)) (bind (make Main (codes "Main") (map id_property es) (length es) (empty_world turns)) (λ document w1. bind (construct document es w1) h)) l
    document_sim = steps_sim _ l loaded_sim
