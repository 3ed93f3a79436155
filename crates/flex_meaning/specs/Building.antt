-- The building of documents and instances.
use Rattle.std.specs.Prelude.{Bool, List, None, Option, Some, [], false, if◌then◌else◌, not, pos, suc, ℕ, ◌++◌, ◌∷◌}
use Rattle.flex_base.specs.Value.{ref_of}
use Rattle.flex_base.specs.declared.value.ObjId.{ObjId}
use Rattle.flex_base.specs.declared.value.Value.{Value}
use Rattle.flex_base.specs.declared.value.Value.TheVariants as value
use Rattle.flex_world.specs.Events.{registration}
use Rattle.flex_world.specs.Objects.{Spot, Watcher, watcher}
use Rattle.flex_program.specs.Classes.{document_in}
use Rattle.flex_program.specs.Instances.{instance_numbered, lies_in, numbers_of, part_of, parts_of}
use Rattle.flex_program.specs.Program.{Attribute, Binding, Contents, Document, Given, Givens, Instance, Part, Presence, State}
use Rattle.flex_meaning.specs.Activities.{Builds_instance, Context}
use Rattle.flex_meaning.specs.Arrays.{append}
use Rattle.flex_meaning.specs.Changes.{enter_first}
use Rattle.flex_meaning.specs.Elements.{add_child}
use Rattle.flex_meaning.specs.Expressions.{literal_value}
use Rattle.flex_meaning.specs.Making.{make}
use Rattle.flex_meaning.specs.Objects.{new_array}
use Rattle.flex_meaning.specs.Results.{Goes, Result, bind, choose, done, dropped, each, need, on}
use Rattle.flex_meaning.specs.Storing.{start}
use Rattle.flex_meaning.specs.World.{World, change_keeping, has_built, listen}
use Rattle.flex_meaning.specs.Writes.{assign}

-- the handler of an event is a method of the document
abbrev pub register : ObjId → List ℕ → ℕ → ObjId → World → World
register document event method o w = listen o (registration event document method false (pos 0)) w

-- the bindings of a document that pass a test, from a number on
abbrev pub bindings_where : (Binding → Bool) → ObjId → ℕ → List Binding → List Watcher
bindings_where test document number [] = []
bindings_where test document number (b ∷ bindings) = (if test b then watcher document number ∷ [] else []) ++ bindings_where test document (suc number) bindings

abbrev pub numbers_from : {A : Type 0} → ℕ → List A → List ℕ
numbers_from n [] = []
numbers_from n (x ∷ xs) = n ∷ numbers_from (suc n) xs

abbrev pub enable_all : ObjId → List Binding → World → World
enable_all document bindings w = change_keeping document (λ k. record k { enabled = numbers_from 0 bindings }) w

abbrev pub declared_spot : ObjId → ObjId → ℕ → Spot
declared_spot container document number = record { container = container; document = document; number = number }

module _ (c : Context) (document : ObjId) where
  abbrev pub apply_attribute : ObjId → Attribute → World → Result (Unit {0})
  apply_attribute o (Attribute.Sets name value) w = assign c o name (literal_value value) w
  apply_attribute o (Attribute.Handles event method) w = done (register document event method o w)

  abbrev pub write_id : Option (List ℕ) → ObjId → World → Result (Unit {0})
  write_id None o w = done w
  write_id (Some id) o w = assign c document id (value.Ref o) w

  abbrev pub start_in : List ℕ → Document → World → Result (Unit {0})
  start_in numbers d w = each (start c) (bindings_where (lies_in d.root numbers) document 0 d.bindings) w

  -- the bindings whose destination lies in an instance run
  abbrev pub start_bindings_of : ℕ → World → Result (Unit {0})
  start_bindings_of number w =
      on document w (λ o.
      need (document_in c.program o) w (λ d.
      need (instance_numbered d.root number) w (λ instance.
      start_in (numbers_of (parts_of instance)) d w)))

  -- an instance of a state is built, and then the bindings of what it holds run
  abbrev pub build_of_state : ℕ → World → Result ObjId
  build_of_state number w =
      bind (c.does (Builds_instance document number) w) (λ v w1.
      need (ref_of v) w1 (λ o.
      bind (start_bindings_of number w1) (λ _ w2.
      Goes o w2)))

  -- an instance of a state is built here only where it is immediate, and isn't added
  abbrev pub by_presence : Part → Option Presence → (World → Result (Unit {0})) → World → Result (Unit {0})
  by_presence part None build_now w = build_now w
  by_presence part (Some p) build_now w = choose p.immediate (λ w1. dropped (build_of_state part.number w1)) done w

  abbrev mutual
    -- it is made, its id is written, its attributes are applied, and then what it holds is built
    pub build : Instance → World → Result ObjId
    build (Instance.Holding part contents) w =
        bind (make c part.class [] w) (λ o w1.
        bind (write_id part.id o w1) (λ _ w2.
        bind (each (apply_attribute o) part.attributes w2) (λ _ w3.
        bind (build_contents contents o w3) (λ _ w4.
        Goes o (has_built document part.number o w4)))))

    -- property tags and children, in document order
    pub build_contents : Contents → ObjId → World → Result (Unit {0})
    build_contents Contents.NoContent o w = done w
    build_contents (Contents.Child instance contents) o w =
        bind (by_presence (part_of instance) (part_of instance).presence
        (λ w1. bind (build instance w1) (λ child w2. add_child c o child (Some (declared_spot o document (part_of instance).number)) w2)) w) (λ _ w3.
        build_contents contents o w3)
    build_contents (Contents.Tag name value contents) o w =
        bind (build_given value w) (λ v w1. bind (assign c o name v w1) (λ _ w2. build_contents contents o w2))
    build_contents (Contents.Declared instance contents) o w = build_contents contents o w
    build_contents (Contents.Declared_value id value contents) o w = build_contents contents o w

    -- an array is made empty, and then each item is built and pushed
    pub build_given : Given → World → Result Value
    build_given (Given.Given_literal value) w = Goes (literal_value value) w
    build_given (Given.Given_instance instance) w = bind (build instance w) (λ o w1. Goes (value.Ref o) w1)
    build_given (Given.Given_array items) w = bind (new_array [] w) (λ a w1. bind (build_items items a w1) (λ _ w2. Goes (value.Ref a) w2))

    pub build_items : Givens → ObjId → World → Result (Unit {0})
    build_items Givens.NoGiven a w = done w
    build_items (Givens.MoreGiven given items) a w =
        bind (build_given given w) (λ v w1. bind (append a v w1) (λ _ w2. build_items items a w2))

  -- what stands in fx:Declarations, among all that the root holds
  abbrev pub build_declarations : Contents → World → Result (Unit {0})
  build_declarations Contents.NoContent w = done w
  build_declarations (Contents.Child instance contents) w = build_declarations contents w
  build_declarations (Contents.Tag name value contents) w = build_declarations contents w
  build_declarations (Contents.Declared instance contents) w = bind (build instance w) (λ _ w1. build_declarations contents w1)
  build_declarations (Contents.Declared_value id value contents) w =
      bind (build_given value w) (λ v w1. bind (assign c document id v w1) (λ _ w2. build_declarations contents w2))

  abbrev pub enter_initial : List State → World → Result (Unit {0})
  enter_initial [] w = done w
  enter_initial (s ∷ states) w = enter_first c document s.name w

  -- the attributes of the root, declarations, all else, the bindings, and the first state
  abbrev pub build_root : Instance → Document → World → Result (Unit {0})
  build_root (Instance.Holding part contents) d w =
      bind (each (apply_attribute document) part.attributes w) (λ _ w1.
      bind (build_declarations contents w1) (λ _ w2.
      bind (build_contents contents document w2) (λ _ w3.
      bind (each (start c) (bindings_where (λ b. not b.second) document 0 d.bindings) (enable_all document d.bindings w3)) (λ _ w4.
      enter_initial d.states (record w4 { begun = document ∷ w4.begun })))))

  abbrev pub build_document : World → Result (Unit {0})
  build_document w = on document w (λ o. need (document_in c.program o) w (λ d. build_root d.root d w))

  abbrev pub build_instance : ℕ → World → Result Value
  build_instance number w =
      on document w (λ o.
      need (document_in c.program o) w (λ d.
      need (instance_numbered d.root number) w (λ instance.
      bind (build instance w) (λ child w1.
      Goes (value.Ref child) w1))))
