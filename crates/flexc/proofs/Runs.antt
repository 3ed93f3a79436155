-- The machine builds a document as its source means.
use Rattle.std.proofs.Common.{drop, ◌≡◌, ℕ, zero, suc, ◌+◌, ◌*◌, ◌<◌, ◌≤◌, List, [], ◌∷◌, ◌++◌, length, None, Some, Bool, true, false, refl, sym, ap, ◌∙◌, subst, arith, append_assoc, length-append}
use Rattle.std.specs.Prelude.{map, option_map, slice_get, if◌then◌else◌, pos, codes}
use Rattle.std.specs.Str.{bytes_eq}
use Rattle.std.proofs.lemmas.List.{append-nil}
use Rattle.abc_format.specs.declared.records.Abc.{Abc}
use Rattle.abc_format.specs.declared.records.MethodBody.{MethodBody}
use Rattle.flex_base.proofs.OptionLaws.{some_is}
use Rattle.flex_base.specs.Value.{same}
use Rattle.flex_base.specs.declared.record.TraceItem.{TraceItem}
use Rattle.flex_base.specs.declared.record.TraceItem.TheVariants.{Made, Written}
use Rattle.flex_base.specs.declared.value.ObjId.{ObjId}
use Rattle.flex_base.specs.declared.value.Value.{Value}
use Rattle.flex_base.specs.declared.value.Value.TheVariants as value
use Rattle.avm2_machine.specs.declared.frame.Frame.{Frame}
use Rattle.avm2_machine.specs.declared.frame.Operand.{Operand}
use Rattle.avm2_machine.specs.declared.frame.Operand.TheVariants as operand
use Rattle.avm2_code.specs.declared.instruction.Instruction.{Instruction}
use Rattle.avm2_code.specs.declared.instruction.Instruction.TheVariants.{PushString, PushInt, ReturnVoid, ConstructProp, CallPropVoid, FindPropStrict, SetProperty, GetProperty, GetLocal0, GetLocal1, SetLocal1}
use Rattle.flex_front.specs.declared.document.Element.{Element}
use Rattle.flex_front.specs.declared.document.Element.TheVariants as element
use Rattle.flex_front.specs.Source.{id_of, AreNewIds}
use Rattle.avm2_machine.specs.declared.stage.Class.TheVariants as class
use Rattle.flexc.specs.Emitted.{encode_all, each_element, class_number, id_name, text_string, handler_name, handler_number, rank_int, attribute_code, place_code, element_code, building_code, body, main_text}
use Rattle.flexc.specs.Meaning.{text_property, element_class, properties_of, handler, next_handler, apply, build_element, build_all}
use Rattle.script_player.specs.Playing.{Config}
use Rattle.flex_base.specs.Events.{click}
use Rattle.avm2_machine.specs.Machine.{class_method}
use Rattle.avm2_machine.specs.Names.{class_name}
use Rattle.avm2_machine.specs.Stage.{object_at, has_class, is_of, native_slots, same_native}
use Rattle.flex_base.specs.Lists.{changed_at}
use Rattle.flexc.specs.World.{Kind, Main, Native, Content, An_object, Property, Listener, Component, World, Result, Goes, bind, note, leave, component, new_component, with_component, next_number, property_named, with_value, write_over, write, add, make, stored, with_child, listen, with_listener}
use Rattle.flexc.proofs.Decoded.{Stands, parts, size}
use Rattle.flexc.proofs.Handlers.{new_at, bytes_eq-refl, handlers, handlers-more, IsHandler, handler_called, handler_found, stands_at, stands_within}
use Rattle.flexc.proofs.Looked.{slice_get_seam, abc, class_is, holder_is, text_name, listener_name, click_is, place_name, text_is, id_public, handler_named, rank_is}
use Rattle.flexc.proofs.Sims.{running, ref, IsCounted, Sim, sim_assoc, find_sim, construct_sim, set_1_sim, get_0_sim, get_1_sim, get_method_sim, listen_sim, set_property_sim, push_string_sim, push_int_sim, place_sim, return_sim}
use Rattle.flexc.proofs.States.{one, object_of, slot_of, type_of, stage_of, at, object_is}

-- a property of this name is there, and holds this
pub record HasProperty (name : List ℕ) (content : Content) (properties : List Property) : Type 0 where
  pub it : Property
  pub is : property_named name properties ≡ Some it
  pub holds : it.content ≡ content

-- the name of a property, and what it holds
abbrev pub shapes_of : List Property → List (List ℕ × Content)
shapes_of properties = map (λ p. (p.name, p.content)) properties

abbrev pub id_shapes_of : List Element → List (List ℕ × Content)
id_shapes_of es = map (λ e. (id_of e, An_object (element_class e))) es

-- a write keeps the names, and what the properties hold
shapes_kept : (name : List ℕ) (v : Value) (properties : List Property) → shapes_of (with_value name v properties) ≡ shapes_of properties
shapes_kept name v [] = refl
shapes_kept name v (p ∷ properties) = by (shapes_kept name v properties) (bytes_eq p.name name)
  where
    by : shapes_of (with_value name v properties) ≡ shapes_of properties → (t : Bool) → shapes_of (if t then record p { value = v } ∷ properties else p ∷ with_value name v properties) ≡ shapes_of (p ∷ properties)
    by others true = refl
    by others false = ap (λ l. (p.name, p.content) ∷ l) others

-- the first shapes, and the others
first_shape : (p : Property) (ps : List Property) (e : Element) (es : List Element) → shapes_of (p ∷ ps) ≡ id_shapes_of (e ∷ es) → (p.name ≡ id_of e) × (p.content ≡ An_object (element_class e))
first_shape p ps e es alike =
    let pair = some_is (p.name, p.content) (id_of e, An_object (element_class e)) (ap (λ l. slice_get l 0) alike) in
    (ap (λ q. q.0) pair, ap (λ q. q.1) pair)

other_shapes : (p : Property) (ps : List Property) (e : Element) (es : List Element) → shapes_of (p ∷ ps) ≡ id_shapes_of (e ∷ es) → shapes_of ps ≡ id_shapes_of es
other_shapes p ps e es alike = ap (drop 1) alike

-- each id names the property of its element
id_named : (es : List Element) (properties : List Property) (k : ℕ) (x : Element) → shapes_of properties ≡ id_shapes_of es → slice_get es k ≡ Some x
    → ((j : ℕ) (y : Element) → slice_get es j ≡ Some y → j < k → bytes_eq (id_of y) (id_of x) ≡ false) → HasProperty (id_of x) (An_object (element_class x)) properties
id_named [] properties k x alike found new = absurd (cc)
id_named (e ∷ es) [] k x alike found new = absurd (cc)
id_named (e ∷ es) (p ∷ properties) zero x alike found new =
    let first = first_shape p properties e es alike in
    let name = first.0 in
    let content = first.1 in
    let it : e ≡ x = some_is e x found in
    let equal : bytes_eq p.name (id_of x) ≡ true = ap (λ n. bytes_eq n (id_of x)) (name ∙ ap id_of it) ∙ bytes_eq-refl (id_of x) in
    record { it = p; is = ap (λ t. if t then Some p else property_named (id_of x) properties) equal; holds = content ∙ ap (λ z. An_object (element_class z)) it }
id_named (e ∷ es) (p ∷ properties) (suc k) x alike found new =
    let name = (first_shape p properties e es alike).0 in
    let other : bytes_eq p.name (id_of x) ≡ false = ap (λ n. bytes_eq n (id_of x)) name ∙ new 0 e refl (omega arith) in
    let has = id_named es properties k x (other_shapes p properties e es alike) found (λ j y there lt. new (suc j) y there (omega (arith, lt))) in
    record { it = has.it; is = ap (λ t. if t then Some p else property_named (id_of x) properties) other ∙ has.is; holds = has.holds }

-- the document and the elements that were built
abbrev pub document : List Property → List ObjId → Component
document properties children = record { kind = Main; properties = properties; children = children; parent = None; listeners = [] }

-- listeners that are handlers of the document
abbrev pub AreHandlers : List Element → List Listener → Type 0
AreHandlers es [] = Unit {0}
AreHandlers es (l ∷ ls) = IsHandler es l × AreHandlers es ls

-- objects whose listeners are such
abbrev pub AllHeard : List Element → List Component → Type 0
AllHeard es [] = Unit {0}
AllHeard es (c ∷ cs) = AreHandlers es c.listeners × AllHeard es cs

one_handler_more : (es : List Element) (ls : List Listener) (l : Listener) → AreHandlers es ls → IsHandler es l → AreHandlers es (ls ++ l ∷ [])
one_handler_more es [] l all is = (is, tt)
one_handler_more es (x ∷ ls) l all is = (all.0, one_handler_more es ls l all.1 is)

pub one_heard_more : (es : List Element) (cs : List Component) (c : Component) → AllHeard es cs → AreHandlers es c.listeners → AllHeard es (cs ++ c ∷ [])
one_heard_more es [] c all own = (own, tt)
one_heard_more es (x ∷ cs) c all own = (all.0, one_heard_more es cs c all.1 own)

pub record IsReady (es : List Element) (k : ℕ) (w : World) : Type 0 where
  pub properties : List Property
  pub children : List ObjId
  pub others : List Component
  pub are : w.objects ≡ document properties children ∷ others
  pub many : length others ≡ k
  pub placed : length children ≡ k
  pub named : shapes_of properties ≡ id_shapes_of es
  pub heard : AllHeard es others
  pub counted : 16 * suc k ≤ w.cells

-- while an element is built, it is the last object
pub record IsBuilding (es : List Element) (k n : ℕ) (new : Component) (w : World) : Type 0 where
  pub properties : List Property
  pub children : List ObjId
  pub others : List Component
  pub are : w.objects ≡ document properties children ∷ (others ++ new ∷ [])
  pub many : length others ≡ k
  pub placed : length children ≡ k
  pub named : shapes_of properties ≡ id_shapes_of es
  pub last : n ≡ suc (length others)
  pub heard : AllHeard es others
  pub own : AreHandlers es new.listeners
  pub counted : 16 * suc (suc k) ≤ w.cells

changed_at-seam : (f : Component → Component) (front : List Component) (x : Component) → changed_at f (front ++ x ∷ []) (length front) ≡ front ++ f x ∷ []
changed_at-seam f [] x = refl
changed_at-seam f (y ∷ front) x = ap (λ l. y ∷ l) (changed_at-seam f front x)

-- an element that was made
abbrev pub new_element : Element → Component
new_element x = new_component (Native (element_class x)) (properties_of (element_class x))

own_class : (x : Element) → same_native (element_class x) (element_class x) ≡ true
own_class (element.Label id text) = refl
own_class (element.Button id _) = refl

own_slots : (x : Element) → native_slots (element_class x) ≡ map slot_of (properties_of (element_class x))
own_slots (element.Label id text) = refl
own_slots (element.Button id _) = refl

module _ (es : List Element) where
  -- an object is made
  begun : (k : ℕ) (kind : Kind) (ps : List Property) (w w1 : World) (item : TraceItem) → IsReady es k w → w1 ≡ note item (with_component (new_component kind ps) (16 + 0) w)
      → IsBuilding es k (length w.objects) (new_component kind ps) w1
  begun k kind ps w w1 item r e =
      let cells : w1.cells ≡ w.cells + 16 = ap (λ x. x.cells) e in
      let before = r.counted in
      record {
        properties = r.properties;
        children = r.children;
        others = r.others;
        are = ap (λ x. x.objects) e ∙ ap (λ l. l ++ new_component kind ps ∷ []) r.are;
        many = r.many;
        placed = r.placed;
        named = r.named;
        last = ap length r.are;
        heard = r.heard;
        own = tt;
        counted = omega (arith, cells, before);
      }

  -- each object has cost its cells
  pub ready_counted : (k : ℕ) (w : World) → IsReady es k w → IsCounted w
  ready_counted k w r = let before = r.counted in let many = r.many in record { enough = omega (arith, before, many, ap length r.are) }

  -- the new object is found by its number
  new_is : (k n : ℕ) (new : Component) (w : World) → IsBuilding es k n new w → component w (record { 0 = suc n }) ≡ Some new
  new_is k n new w b = ap (λ l. slice_get l n) b.are ∙ ap (slice_get (document b.properties b.children ∷ (b.others ++ new ∷ []))) b.last ∙ slice_get_seam b.others new []

  -- and may be written into a property for an object of its class
  is_element : (x : Element) (k n : ℕ) (w : World) → IsBuilding es k n (new_element x) w → is_of (stage_of w) (value.Ref (record { 0 = suc n })) (type_of (An_object (element_class x))) ≡ true
  is_element x k n w b =
      ap (has_class (class.Native (element_class x))) (object_is w (record { 0 = suc n }) ∙ ap (option_map object_of) (new_is k n (new_element x) w b)) ∙ own_class x

  document_is : (k n : ℕ) (new : Component) (w : World) (b : IsBuilding es k n new w) → component w one ≡ Some (document b.properties b.children)
  document_is k n new w b = ap (λ l. slice_get l 0) b.are

  -- its id is written
  id_written : (k n : ℕ) (new : Component) (name : List ℕ) (p : Property) (v : Value) (w w1 : World) → IsBuilding es k n new w → w1 ≡ write_over one name (Some p) v w → IsBuilding es k n new w1
  id_written k n new name p v w w1 b e = by (same p.value v) e
    where
      by : (t : Bool) → w1 ≡ (if t then w else note (Written one name v) (stored one name v w)) → IsBuilding es k n new w1
      by true g = subst (IsBuilding es k n new) (sym g) b
      by false g = record {
        properties = with_value name v b.properties;
        children = b.children;
        others = b.others;
        are = ap (λ x. x.objects) g ∙ ap (λ l. changed_at (λ c. record c { properties = with_value name v c.properties }) l 0) b.are;
        many = b.many;
        placed = b.placed;
        named = shapes_kept name v b.properties ∙ b.named;
        last = b.last;
        heard = b.heard;
        own = b.own;
        counted = let cells : w1.cells ≡ w.cells = ap (λ x. x.cells) g in let before = b.counted in omega (arith, cells, before);
      }

  -- a property of its own is written
  own_written : (k n : ℕ) (new : Component) (name : List ℕ) (p : Property) (v : Value) (w w1 : World) → IsBuilding es k n new w → w1 ≡ write_over (record { 0 = suc n }) name (Some p) v w
      → (last : Component) × IsBuilding es k n last w1
  own_written k n new name p v w w1 b e = by (same p.value v) e
    where
      f : Component → Component
      f c = record c { properties = with_value name v c.properties }

      by : (t : Bool) → w1 ≡ (if t then w else note (Written (record { 0 = suc n }) name v) (stored (record { 0 = suc n }) name v w)) → (last : Component) × IsBuilding es k n last w1
      by true g = (new, subst (IsBuilding es k n new) (sym g) b)
      by false g = (
        f new,
        record {
          properties = b.properties;
          children = b.children;
          others = b.others;
          are = ap (λ x. x.objects) g ∙ ap (λ l. changed_at f l n) b.are ∙ ap (changed_at f (document b.properties b.children ∷ (b.others ++ new ∷ []))) b.last
              ∙ ap (λ l. document b.properties b.children ∷ l) (changed_at-seam f b.others new);
          many = b.many;
          placed = b.placed;
          named = b.named;
          last = b.last;
          heard = b.heard;
          own = b.own;
          counted = let cells : w1.cells ≡ w.cells = ap (λ x. x.cells) g in let before = b.counted in omega (arith, cells, before);
        },
      )

  -- a change of the new object alone
  last_changed : (f : Component → Component) (k n : ℕ) (new : Component) (w : World) (b : IsBuilding es k n new w)
      → changed_at f w.objects n ≡ document b.properties b.children ∷ (b.others ++ f new ∷ [])
  last_changed f k n new w b =
      ap (λ l. changed_at f l n) b.are ∙ ap (changed_at f (document b.properties b.children ∷ (b.others ++ new ∷ []))) b.last
      ∙ ap (λ l. document b.properties b.children ∷ l) (changed_at-seam f b.others new)

  -- its handler is registered
  handler_added : (k n : ℕ) (new : Component) (l : Listener) (w w1 : World) → IsBuilding es k n new w → IsHandler es l → w1 ≡ with_listener (record { 0 = suc n }) l w
      → IsBuilding es k n (record new { listeners = new.listeners ++ l ∷ [] }) w1
  handler_added k n new l w w1 b is e =
      let f : Component → Component = λ c. record c { listeners = c.listeners ++ l ∷ [] } in
      record {
        properties = b.properties;
        children = b.children;
        others = b.others;
        are = ap (λ x. x.objects) e ∙ last_changed f k n new w b;
        many = b.many;
        placed = b.placed;
        named = b.named;
        last = b.last;
        heard = b.heard;
        own = one_handler_more es new.listeners l b.own is;
        counted = let cells : w1.cells ≡ w.cells = ap (λ x. x.cells) e in let before = b.counted in omega (arith, cells, before);
      }

  -- it is added
  added_is : (k n : ℕ) (new : Component) (item : TraceItem) (w w1 : World) → IsBuilding es k n new w → w1 ≡ note item (with_child one (record { 0 = suc n }) w) → IsReady es (suc k) w1
  added_is k n new item w w1 b e =
      let child : ObjId = record { 0 = suc n } in
      let longer : Component → Component = λ c. record c { children = c.children ++ child ∷ [] } in
      let placed_in : Component → Component = λ c. record c { parent = Some one } in
      record {
        properties = b.properties;
        children = b.children ++ child ∷ [];
        others = b.others ++ placed_in new ∷ [];
        are = ap (λ x. x.objects) e ∙ ap (λ l. changed_at placed_in (changed_at longer l 0) n) b.are
            ∙ ap (changed_at placed_in (document b.properties (b.children ++ child ∷ []) ∷ (b.others ++ new ∷ []))) b.last
            ∙ ap (λ l. document b.properties (b.children ++ child ∷ []) ∷ l) (changed_at-seam placed_in b.others new);
        many = let h = b.many in omega (arith, length-append b.others (placed_in new ∷ []));
        placed = let h = b.placed in omega (arith, length-append b.children (child ∷ []));
        named = b.named;
        heard = one_heard_more es b.others (placed_in new) b.heard b.own;
        counted = let cells : w1.cells ≡ w.cells = ap (λ x. x.cells) e in let before = b.counted in omega (arith, cells, before);
      }

  -- the code of the method that builds the document
  abbrev pub code : List ℕ
  code = encode_all (building_code es)

  abbrev pub building_body : MethodBody
  building_body = body 3 4 2 code

  abbrev pub p : Abc
  p = abc es

  -- the code behind the making of an element
  abbrev id_code : ℕ → Element → List Instruction
  id_code k x = SetLocal1 ∷ GetLocal0 ∷ GetLocal1 ∷ SetProperty (id_name k) ∷ (attribute_code k x ++ place_code k)

  -- the locals while elements are built: the document, and the element made last
  abbrev pub locals : Operand → List Operand
  locals y = ref one ∷ y ∷ []

  -- a frame of the method that builds
  abbrev pub builds : ℕ → List Operand → Operand → Frame
  builds a st y = running 3 a st (locals y)

  -- what follows goes on from a place where an element was made and its attributes were applied
  abbrev AddsFrom : {B : Type 0} → ℕ → ℕ → List Frame → (ObjId → World → Result B) → (B → World → Config → Type 0) → Type 0
  AddsFrom {B} k b fs f l =
      (a n : ℕ) (new : Component) (w : World) → Stands code a (place_code k) b → IsBuilding es k n new w
      → Sim p main_text (at (builds a [] (ref (record { 0 = suc n })) ∷ fs) w) (bind (add one (record { 0 = suc n }) w) (λ _ w1. f (record { 0 = suc n }) w1)) l

  -- the attributes of an element are applied
  apply_part : {B : Type 0} (distinct : AreNewIds [] es) (before behind : List Element) (x : Element) (k number : ℕ) → es ≡ before ++ x ∷ behind → k ≡ length before
      → number ≡ handlers before → (b : ℕ) (fs : List Frame) (f : ObjId → World → Result B) (l : B → World → Config → Type 0)
      → AddsFrom k b fs f l → (a n : ℕ) (w : World) → Stands code a (attribute_code k x ++ place_code k) b → IsBuilding es k n (new_element x) w
      → Sim p main_text (at (builds a [] (ref (record { 0 = suc n })) ∷ fs) w)
      (bind (apply one number (record { 0 = suc n }) x w) (λ _ w1. bind (add one (record { 0 = suc n }) w1) (λ _ w2. f (record { 0 = suc n }) w2))) l
  apply_part {B} distinct before behind (element.Label id words) k number all at_k counts b fs f l adds a n w has i =
      let o : ObjId = record { 0 = suc n } in
      let a1 = a + size GetLocal1 in
      let a2 = a1 + size (PushString (text_string k)) in
      let a3 = a2 + size (SetProperty 4) in
      let new = new_element (element.Label id words) in
      let next : Unit {0} → World → Result B = λ _ w1. bind (add one o w1) (λ _ w2. f o w2) in
      let whole : Result B = bind (write o (codes "text") (value.Text words) w) next in
      let text = text_is es k (element.Label id words) (stands_at es before behind (element.Label id words) k all at_k) (stands_within es before behind (element.Label id words) k all at_k) in
      get_1_sim p main_text 3 building_body refl a [] fs w whole l (ref one) (ref o) [] has.0
      (push_string_sim p main_text 3 building_body refl a1 (ref o ∷ []) fs w whole l (text_string k) words (locals (ref o)) text has.1.0
      (set_property_sim p main_text 3 building_body refl a2 [] fs w 4 (codes "text") (suc n) (value.Text words) new (text_property (codes "text")) (locals (ref o)) next l
      (text_name es) (new_is k n new w i) refl refl has.1.1.0
      (λ w1 e. let last = own_written k n new (codes "text") (text_property (codes "text")) (value.Text words) w w1 i e in adds a3 n last.0 w1 has.1.1.1 last.1)))
  apply_part distinct before behind (element.Button id None) k number all at_k counts b fs f l adds a n w has i = adds a n (new_element (element.Button id None)) w has i
  apply_part {B} distinct before behind (element.Button id (Some text)) k number all at_k counts b fs f l adds a n w has i =
      let o : ObjId = record { 0 = suc n } in
      let x : Element = element.Button id (Some text) in
      let a1 = a + size GetLocal1 in
      let a2 = a1 + size (PushString 12) in
      let a3 = a2 + size GetLocal0 in
      let a4 = a3 + size (GetProperty (handler_name k)) in
      let a5 = a4 + size (CallPropVoid 9 2) in
      let new = new_element x in
      let its : Listener = handler one number text in
      let next : Unit {0} → World → Result B = λ _ w1. bind (add one o w1) (λ _ w2. f o w2) in
      let whole : Result B = bind (listen o its w) next in
      let named = handler_named es k x (stands_at es before behind x k all at_k) (stands_within es before behind x k all at_k) in
      let method : class_method p (object_at (stage_of w) one) (handler_called es id) ≡ Some (handler_number number) =
      ap (λ c. class_method p c (handler_called es id)) (object_is w one ∙ ap (option_map object_of) (document_is k n new w i))
      ∙ handler_found es distinct before behind id text all ∙ ap (λ h. Some (handler_number h)) (sym counts) in
      get_1_sim p main_text 3 building_body refl a [] fs w whole l (ref one) (ref o) [] has.0
      (push_string_sim p main_text 3 building_body refl a1 (ref o ∷ []) fs w whole l 12 click (locals (ref o)) (click_is es) has.1.0
      (get_0_sim p main_text 3 building_body refl a2 (operand.Value (value.Text click) ∷ ref o ∷ []) fs w whole l (ref one) (ref o ∷ []) has.1.1.0
      (get_method_sim p main_text 3 building_body refl a3 (operand.Value (value.Text click) ∷ ref o ∷ []) fs w whole l (handler_name k) (handler_called es id) 1 (handler_number number)
      (locals (ref o)) named method has.1.1.1.0
      (listen_sim p main_text 3 building_body refl a4 [] fs w 9 (suc n) its (locals (ref o)) next l (listener_name es) has.1.1.1.1.0
      (λ w1 e. adds a5 n (record new { listeners = its ∷ [] }) w1 has.1.1.1.1.1
      (handler_added k n new its w w1 i (record { before = before; behind = behind; id = id; all = all; number = counts; document = refl }) e))))))

  module _ (distinct : AreNewIds [] es) {B : Type 0} (before behind : List Element) (x : Element) (k number : ℕ) (all : es ≡ before ++ x ∷ behind) (at_k : k ≡ length before)
      (counts : number ≡ handlers before) (few : length es ≤ 100) (b : ℕ)
      (fs : List Frame) (f : ObjId → World → Result B) (l : B → World → Config → Type 0)
      (s : (o : ObjId) (w : World) → IsReady es (suc k) w → Sim p main_text (at (builds b [] (ref o) ∷ fs) w) (f o w) l) where
    found : slice_get es k ≡ Some x
    found = stands_at es before behind x k all at_k

    within : k < length es
    within = stands_within es before behind x k all at_k

    -- the element is added
    place_part : AddsFrom k b fs f l
    place_part a n new w has i =
        let o : ObjId = record { 0 = suc n } in
        let a1 = a + size GetLocal0 in
        let a2 = a1 + size GetLocal0 in
        let a3 = a2 + size GetLocal1 in
        let a4 = a3 + size (PushInt (rank_int k)) in
        let placed = i.placed in
        let whole : Result B = bind (add one o w) (λ _ w1. f o w1) in
        get_0_sim p main_text 3 building_body refl a [] fs w whole l (ref one) (ref o ∷ []) has.0
        (get_0_sim p main_text 3 building_body refl a1 (ref one ∷ []) fs w whole l (ref one) (ref o ∷ []) has.1.0
        (get_1_sim p main_text 3 building_body refl a2 (ref one ∷ ref one ∷ []) fs w whole l (ref one) (ref o) [] has.1.1.0
        (push_int_sim p main_text 3 building_body refl a3 (ref o ∷ ref one ∷ ref one ∷ []) fs w whole l (rank_int k) (pos k) (locals (ref o)) (rank_is es k x found within) has.1.1.1.0
        (place_sim p main_text 3 building_body refl a4 [] fs w 5 (pos k) one o 1 (document i.properties i.children) (locals (ref o)) (λ _ w1. f o w1) l (place_name es)
        (document_is k n new w i) (omega (arith, placed, within, few)) has.1.1.1.1.0
        (λ w1 e. subst (λ y. Sim p main_text (at (builds y [] (ref o) ∷ fs) w1) (f o w1) l) (sym has.1.1.1.1.1) (s o w1 (added_is k n new _ w w1 i e)))))))

    -- its id is written
    id_part : (a n : ℕ) (y : Operand) (w : World) → Stands code a (id_code k x) b → IsBuilding es k n (new_element x) w
        → Sim p main_text (at (builds a (ref (record { 0 = suc n }) ∷ []) y ∷ fs) w)
        (bind (write one (id_of x) (value.Ref (record { 0 = suc n })) w) (λ _ w1.
        bind (bind (apply one number (record { 0 = suc n }) x w1) (λ _ w2. bind (add one (record { 0 = suc n }) w2) (λ _ w3. Goes (record { 0 = suc n }) w3))) f)) l
    id_part a n y w has i =
        let o : ObjId = record { 0 = suc n } in
        let a1 = a + size SetLocal1 in
        let a2 = a1 + size GetLocal0 in
        let a3 = a2 + size GetLocal1 in
        let a4 = a3 + size (SetProperty (id_name k)) in
        let id = id_named es i.properties k x i.named found (λ j z there lt. new_at [] es k x distinct found j z there (omega (arith, lt))) in
        let fits : is_of (stage_of w) (value.Ref o) (type_of id.it.content) ≡ true = ap (λ c. is_of (stage_of w) (value.Ref o) (type_of c)) id.holds ∙ is_element x k n w i in
        let added : Unit {0} → World → Result ObjId = λ _ w2. bind (add one o w2) (λ _ w3. Goes o w3) in
        let next : Unit {0} → World → Result B = λ _ w1. bind (bind (apply one number o x w1) added) f in
        let whole : Result B = bind (write one (id_of x) (value.Ref o) w) next in
        set_1_sim p main_text 3 building_body refl a [] fs w whole l (ref o) (ref one) y has.0
        (get_0_sim p main_text 3 building_body refl a1 [] fs w whole l (ref one) (ref o ∷ []) has.1.0
        (get_1_sim p main_text 3 building_body refl a2 (ref one ∷ []) fs w whole l (ref one) (ref o) [] has.1.1.0
        (set_property_sim p main_text 3 building_body refl a3 [] fs w (id_name k) (id_of x) 1 (value.Ref o) (document i.properties i.children) id.it (locals (ref o)) next l
        (id_public es k x found within) (document_is k n (new_element x) w i) id.is fits has.1.1.1.0
        (λ w1 e. sim_assoc p main_text (at (builds a4 [] (ref o) ∷ fs) w1) (apply one number o x w1) added f l
        (apply_part distinct before behind x k number all at_k counts b fs f l place_part a4 n w1 has.1.1.1.1 (id_written k n (new_element x) (id_of x) id.it (value.Ref o) w w1 i e))))))

    -- an element is built from one place to the next, and what follows goes on from there
    element_sim : (a : ℕ) (y : Operand) (w : World) → Stands code a (element_code k x) b → IsReady es k w
        → Sim p main_text (at (builds a [] y ∷ fs) w) (bind (build_element one number x w) f) l
    element_sim a y w has ready =
        let a1 = a + size (FindPropStrict (class_number x)) in
        let a2 = a1 + size (ConstructProp (class_number x) 0) in
        let make_it : Result ObjId = make (Native (element_class x)) (class_name (element_class x)) (properties_of (element_class x)) 0 w in
        let goes_on : ObjId → World → Result ObjId = λ o w1.
        bind (write one (id_of x) (value.Ref o) w1) (λ _ w2. bind (apply one number o x w2) (λ _ w3. bind (add one o w3) (λ _ w4. Goes o w4))) in
        find_sim p main_text 3 building_body refl a [] fs w (bind (bind make_it goes_on) f) l (class_number x) (locals y) (holder_is es x) has.0
        (sim_assoc p main_text (at (builds a1 (operand.Natives ∷ []) y ∷ fs) w) make_it goes_on f l
        (construct_sim p main_text 3 building_body refl a1 [] fs w (class_number x) (element_class x) (properties_of (element_class x)) (locals y) (λ o w1. bind (goes_on o w1) f) l
        (class_is es x) (own_slots x) (ready_counted k w ready) has.1.0
        (λ w1 e. id_part a2 (length w.objects) y w1 has.1.1 (begun k (Native (element_class x)) (properties_of (element_class x)) w w1 (Made (next_number w) (class_name (element_class x))) ready e))))

  -- the elements from one on are built in turn
  pub building_sim : AreNewIds [] es → {B : Type 0} (before rest : List Element) (k number : ℕ) → es ≡ before ++ rest → k ≡ length before → number ≡ handlers before → length es ≤ 100
      → (a b : ℕ) → Stands code a (each_element element_code k rest ++ ReturnVoid ∷ []) b → (y : Operand) (fs : List Frame) (w : World) → IsReady es k w
      → (f : Unit {0} → World → Result B) (l : B → World → Config → Type 0) → ((w1 : World) → IsReady es (length es) w1 → Sim p main_text (at fs (leave w1)) (f tt w1) l)
      → Sim p main_text (at (builds a [] y ∷ fs) w) (bind (build_all one number rest w) f) l
  building_sim distinct before [] k number all is counts few a b has y fs w ready f l s =
      let whole : k ≡ length es = is ∙ ap length (sym (append-nil before)) ∙ ap length (sym all) in
      return_sim p main_text 3 building_body refl a [] fs w (f tt w) l (locals y) has.0 (s w (subst (λ n. IsReady es n w) whole ready))
  building_sim distinct {B} before (x ∷ rest) k number all is counts few a b has y fs w ready f l s =
      let next : es ≡ (before ++ x ∷ []) ++ rest = all ∙ sym (append_assoc before (x ∷ []) rest) in
      let place : suc k ≡ length (before ++ x ∷ []) = omega (arith, length-append before (x ∷ [])) in
      let more : next_handler x number ≡ handlers (before ++ x ∷ []) = ap (next_handler x) counts ∙ sym (handlers-more before x) in
      let joined : Stands code a (element_code k x ++ (each_element element_code (suc k) rest ++ ReturnVoid ∷ [])) b =
      subst (λ is. Stands code a is b) (append_assoc (element_code k x) (each_element element_code (suc k) rest) (ReturnVoid ∷ [])) has in
      let cut = parts code a (element_code k x) (each_element element_code (suc k) rest ++ ReturnVoid ∷ []) b joined in
      let others : ObjId → World → Result (Unit {0}) = λ _ w1. build_all one (next_handler x number) rest w1 in
      sim_assoc p main_text (at (builds a [] y ∷ fs) w) (build_element one number x w) others f l
      (element_sim distinct before rest x k number all is counts few cut.mid fs (λ o w1. bind (others o w1) f) l
      (λ o w1 ready1. building_sim distinct (before ++ x ∷ []) rest (suc k) (next_handler x number) next place more few cut.mid b cut.back (ref o) fs w1 ready1 f l s) a y w cut.front ready)
