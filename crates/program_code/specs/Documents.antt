-- The code of documents and constructors, as a relation: attributes, instances, bindings and states.
use Rattle.std.specs.List.{join_with_byte}
use Rattle.std.specs.Prelude.{Bool, List, None, Option, Some, [], codes, false, if◌then◌else◌, length, negsuc, not, option_map, pos, suc, true, unwrap_or, zero, ℕ, ℤ, ◌++◌, ◌+◌, ◌∷◌}
use Rattle.flex_base.specs.declared.value.Value.TheVariants as value
use Rattle.flex_base.specs.declared.value.Value.{Value}
use Rattle.flex_world.specs.Objects.{count}
use Rattle.flex_world.specs.declared.operator.Operator.TheVariants as Operator
use Rattle.flex_program.specs.Instances.{instance_numbered, lies_in, numbers_of, part_of, parts_of}
use Rattle.flex_program.specs.Program.{Attribute, Binding, BindingSource, Change, Contents, Destination, Document, Given, Givens, Instance, Override, Part, Presence, State, Text}
use Rattle.flex_meaning.specs.Expressions.{literal_value}
use Rattle.flex_meaning.specs.States.{includes}
use Rattle.program_code.specs.Code.{IsExprCode, Tested}
use Rattle.program_code.specs.Names.{Labels, hidden_name, member_name, registered_chains}
use Rattle.program_code.specs.Shapes.{All, Goes_to, Here, Meant, Nothing, One, Perhaps, Some_mark, Then, When}
use Rattle.avm2_program.specs.Names.{public_name}
use Rattle.avm2_program.specs.declared.operation.Operation.TheVariants as Operation
use Rattle.avm2_program.specs.declared.names.Name.{Name}
use Rattle.avm2_code.specs.declared.parts.Branch.TheVariants as branch

abbrev pub This : Meant
This = One (Operation.GetLocal 0)

abbrev pub Pushes : Value → Meant
Pushes v = One (Operation.Push v)

abbrev pub Counts : ℕ → Meant
Counts n = Pushes (count n)

-- a call on the value below the arguments, whose result is dropped
abbrev pub Calls : Name → ℕ → Meant
Calls name arguments = One (Operation.CallProperty false name arguments)

-- `this.name`
abbrev pub Reads : Name → Meant
Reads name = Then This (One (Operation.GetProperty name))

-- `this.name = null`
abbrev pub Clears : Name → Meant
Clears name = Then This (Then (Pushes value.Null) (One (Operation.SetProperty name)))

-- `this.name = v`, where v is on top and stays
abbrev pub Keeps_in : Name → Meant
Keeps_in name = Then (One Operation.Dup) (Then This (Then (One Operation.Swap) (One (Operation.SetProperty name))))

-- goes to a mark where the value on top is null
abbrev pub Goes_if_null : ℕ → Meant
Goes_if_null mark = Then (Pushes value.Null) (Then (One (Operation.Apply Operator.Equal)) (Goes_to branch.IfTrue mark))

-- and where it isn't
abbrev pub Goes_unless_null : ℕ → Meant
Goes_unless_null mark = Then (Pushes value.Null) (Then (One (Operation.Apply Operator.Equal)) (Goes_to branch.IfFalse mark))

-- the names of a chain joined by dots
abbrev pub chain_text : List Text → Text
chain_text names = join_with_byte 46 names

-- a binding without a counterpart has the pair -1
abbrev pub pair_number : Option ℕ → ℤ
pair_number None = negsuc 0
pair_number (Some n) = pos n

-- the numbers of the bindings that pass a test, from a number on
abbrev pub numbers_where : (Binding → Bool) → ℕ → List Binding → List ℕ
numbers_where test n [] = []
numbers_where test n (b ∷ bindings) = (if test b then n ∷ [] else []) ++ numbers_where test (suc n) bindings

-- the parts of an instance and of all that is declared inside it, by its number
abbrev pub parts_inside : Document → ℕ → List Part
parts_inside d number = unwrap_or (option_map parts_of (instance_numbered d.root number)) []

-- class: of the document, by its number
module _ (l : Labels) (class : ℕ) (d : Document) where
  -- a method of the document, by its number in the file
  abbrev pub Method_at : ℕ → Meant
  Method_at m = Reads (l.method_name m)

  -- a listener of the object on top, which stays
  abbrev pub Hears : Text → ℕ → Meant
  Hears event m =
      Then (One Operation.Dup) (Then (Pushes (value.Text event)) (Then (Method_at m) (Calls (public_name (codes "addEventListener")) 2)))

  abbrev pub Unhears : Text → ℕ → Meant
  Unhears event m =
      Then (One Operation.Dup) (Then (Pushes (value.Text event)) (Then (Method_at m) (Calls (public_name (codes "removeEventListener")) 2)))

  -- on the object on top, which stays
  abbrev pub IsAttributeCode : Attribute → Meant
  IsAttributeCode (Attribute.Sets name value) =
      Then (One Operation.Dup) (Then (Pushes (literal_value value)) (One (Operation.SetProperty (member_name name))))
  IsAttributeCode (Attribute.Handles event m) = Hears event m

  abbrev pub IsIdCode : Option Text → Meant
  IsIdCode None = Nothing
  IsIdCode (Some id) = Keeps_in (member_name id)

  abbrev pub instance_name : ℕ → Name
  instance_name number = hidden_name (l.instance_key number)

  -- the object of an instance, or Null; the document itself always is
  abbrev pub Instance_at : ℕ → Meant
  Instance_at zero = This
  Instance_at (suc n) = Reads (instance_name (suc n))

  -- the run of a binding
  abbrev pub Runs_binding : ℕ → Meant
  Runs_binding number = Then This (Then (Counts number) (Calls (hidden_name (codes "runBinding")) 1))

  -- an instance of a state is built, and its bindings run; it is left on top
  abbrev pub IsBuildOfState : ℕ → Meant
  IsBuildOfState number =
      Then This (Then (One (Operation.CallProperty true (l.method_name (l.instance_building_of class number)) 0))
      (All Runs_binding (numbers_where (lies_in d.root (numbers_of (parts_inside d number))) 0 d.bindings)))

  -- a child that is built so is placed in the object on top, which stays
  abbrev pub IsPlaced : ℕ → Meant → Meant
  IsPlaced number build =
      Then (One Operation.Dup) (Then This (Then (One Operation.Swap) (Then build (Then (Counts number) (Calls (hidden_name (codes "place")) 3)))))

  -- one of a state is built here only where it is immediate, and isn't placed
  abbrev pub IsChildCode : Part → Option Presence → Meant → Meant
  IsChildCode part None build = IsPlaced part.number build
  IsChildCode part (Some p) build = When p.immediate (Then (IsBuildOfState part.number) (One Operation.Pop))

  abbrev mutual
    -- leaves the object on top
    pub IsBuildCode : Instance → Meant
    IsBuildCode (Instance.Holding part contents) =
        Then (One (Operation.FindProperty (l.class_name part.class))) (Then (One (Operation.ConstructProperty (l.class_name part.class) 0))
        (Then (IsIdCode part.id) (Then (All IsAttributeCode part.attributes) (Then (IsContentsCode contents)
        (Keeps_in (instance_name part.number))))))

    -- in the object on top, which stays
    pub IsContentsCode : Contents → Meant
    IsContentsCode Contents.NoContent = Nothing
    IsContentsCode (Contents.Child instance contents) =
        Then (IsChildCode (part_of instance) (part_of instance).presence (IsBuildCode instance)) (IsContentsCode contents)
    IsContentsCode (Contents.Tag name value contents) =
        Then (Then (One Operation.Dup) (Then (IsGivenCode value) (One (Operation.SetProperty (member_name name))))) (IsContentsCode contents)
    IsContentsCode (Contents.Declared instance contents) = IsContentsCode contents
    IsContentsCode (Contents.Declared_value id value contents) = IsContentsCode contents

    -- leaves the value on top
    pub IsGivenCode : Given → Meant
    IsGivenCode (Given.Given_literal value) = Pushes (literal_value value)
    IsGivenCode (Given.Given_instance instance) = IsBuildCode instance
    IsGivenCode (Given.Given_array items) = Then (One (Operation.NewArray 0)) (AreItemsCode items)

    -- onto the array on top, which stays
    pub AreItemsCode : Givens → Meant
    AreItemsCode Givens.NoGiven = Nothing
    AreItemsCode (Givens.MoreGiven given items) =
        Then (Then (One Operation.Dup) (Then (IsGivenCode given) (Calls (public_name (codes "push")) 1))) (AreItemsCode items)

  -- what stands in fx:Declarations
  abbrev pub AreDeclaredCode : Contents → Meant
  AreDeclaredCode Contents.NoContent = Nothing
  AreDeclaredCode (Contents.Child instance contents) = AreDeclaredCode contents
  AreDeclaredCode (Contents.Tag name value contents) = AreDeclaredCode contents
  AreDeclaredCode (Contents.Declared instance contents) = Then (Then (IsBuildCode instance) (One Operation.Pop)) (AreDeclaredCode contents)
  AreDeclaredCode (Contents.Declared_value id value contents) =
      Then (Then This (Then (IsGivenCode value) (One (Operation.SetProperty (member_name id))))) (AreDeclaredCode contents)

  -- a binding is enabled
  abbrev pub IsBindCode : ℕ → Binding → Meant
  IsBindCode number b =
      Then This (Then (Counts number) (Then (Pushes (value.Int (pair_number b.counterpart))) (Then (Method_at (l.binding_run_of class number))
      (Then (All (λ keys. Pushes (value.Text (chain_text keys))) (registered_chains l b))
      (Calls (hidden_name (codes "bind")) (3 + length (registered_chains l b)))))))

  abbrev pub AreBindsCode : ℕ → List Binding → Meant
  AreBindsCode n [] = Nothing
  AreBindsCode n (b ∷ bindings) = Then (IsBindCode n b) (AreBindsCode (suc n) bindings)

  -- the building of the document
  abbrev pub IsRootCode : Instance → Meant
  IsRootCode (Instance.Holding part contents) =
      Then This (Then (All IsAttributeCode part.attributes) (Then (AreDeclaredCode contents) (Then (IsContentsCode contents) (Then (One Operation.Pop)
      (Then (AreBindsCode 0 d.bindings) (Then (All Runs_binding (numbers_where (λ b. not b.second) 0 d.bindings))
      (Then This (Then (Calls (hidden_name (codes "begin")) 0) (One Operation.ReturnVoid)))))))))

  -- the building of an instance that carries includeIn or excludeFrom
  abbrev pub IsInstanceCode : Instance → Meant
  IsInstanceCode instance = Then (IsBuildCode instance) (One Operation.ReturnValue)

  -- a destination's object is left on top: the run ends where it is null
  abbrev pub Walks : Text → List Text → Meant
  Walks name [] = Nothing
  Walks name (next ∷ names) = Then (One (Operation.GetProperty (member_name name))) (Then Tested (Walks next names))

  -- the last name of a chain
  abbrev pub Writes_last : Text → List Text → Meant
  Writes_last name [] = One (Operation.SetProperty (member_name name))
  Writes_last name (next ∷ names) = Writes_last next names

  abbrev pub IsSourceCode : BindingSource → Meant
  IsSourceCode (BindingSource.An_expression e) = IsExprCode l true e
  IsSourceCode (BindingSource.A_property instance name) = Then (Then (Instance_at instance) Tested) (One (Operation.GetProperty (member_name name)))

  -- the run of a binding
  abbrev pub IsBindingCode : BindingSource → Destination → Meant
  IsBindingCode s (Destination.In_instance instance name) =
      Then (Then (Instance_at instance) Tested) (Then (IsSourceCode s) (Then (One (Operation.SetProperty (member_name name))) (One Operation.ReturnVoid)))
  IsBindingCode s (Destination.At_chain []) = One Operation.ReturnVoid
  IsBindingCode s (Destination.At_chain (name ∷ names)) =
      Then This (Then (Walks name names) (Then (IsSourceCode s) (Then (Writes_last name names) (One Operation.ReturnVoid))))

  -- an override is undone, whose object and value are in these slots: both are cleared first
  abbrev pub IsUndone : Change → Name → Name → Meant
  IsUndone (Change.Changes_property name value) object found =
      Then (Reads object) (Then (Reads found) (Then (Clears object) (Then (Clears found) (One (Operation.SetProperty (member_name name))))))
  IsUndone (Change.Changes_handler event base m) object found =
      Then (Reads object) (Then (Clears object) (Then (Clears found) (Then (Unhears event m) (Then (Perhaps (Hears event) base) (One Operation.Pop)))))

  abbrev pub object_name : ℕ → ℕ → Name
  object_name state place = hidden_name (l.object_key state place)

  abbrev pub value_name : ℕ → ℕ → Name
  value_name state place = hidden_name (l.value_key state place)

  -- the overrides of a state from a place on, where they are applied: the last first
  abbrev pub AreUndone : ℕ → ℕ → List Override → Meant
  AreUndone state place [] = Nothing
  AreUndone state place (o ∷ overrides) =
      Then (AreUndone state (suc place) overrides)
      (Some_mark (λ past.
      Then (Then (Reads (object_name state place)) (Goes_if_null past))
      (Then (IsUndone o.change (object_name state place) (value_name state place)) (Here past))))

  -- goes to a mark where the next state, which is the parameter, is among these
  abbrev pub Goes_if_among : ℕ → List Text → Meant
  Goes_if_among mark names =
      All (λ name. Then (One (Operation.GetLocal 1)) (Then (Pushes (value.Text name)) (Then (One (Operation.Apply Operator.Equal)) (Goes_to branch.IfTrue mark)))) names

  abbrev pub Parent_of : ℕ → Meant
  Parent_of number = Then (Instance_at number) (One (Operation.GetProperty (public_name (codes "parent"))))

  -- an instance is forgotten, with all that is declared inside it
  abbrev pub IsForgotten : ℕ → Meant
  IsForgotten number =
      Then (All (λ part. Clears (instance_name part.number)) (parts_inside d number))
      (All (λ part. Perhaps (λ id. Clears (member_name id)) part.id) (parts_inside d number))

  -- an instance that is present and that the next state doesn't include is removed
  abbrev pub IsPartLeft : Part → Option Presence → Meant
  IsPartLeft part None = Nothing
  IsPartLeft part (Some p) =
      Some_mark (λ past.
      Then (Goes_if_among past p.states) (Then (Then (Instance_at part.number) (Goes_if_null past)) (Then (Then (Parent_of part.number) (Goes_if_null past))
      (Then (Then This (Then (Instance_at part.number) (Calls (hidden_name (codes "takeOut")) 1))) (Then (When p.auto (IsForgotten part.number)) (Here past))))))

  -- what is done when a state is left, by its place among the states
  abbrev pub IsLeaveCode : ℕ → State → Meant
  IsLeaveCode state s =
      Then (AreUndone state 0 s.overrides) (Then (All (λ part. IsPartLeft part part.presence) (parts_of d.root)) (One Operation.ReturnVoid))

  -- an instance that the state includes is built where it isn't yet, and placed: unless it is present, or its container isn't built
  abbrev pub IsPartAdded : Part → Presence → Meant
  IsPartAdded part p =
      Some_mark (λ past. Some_mark (λ absent. Some_mark (λ unbuilt. Some_mark (λ add.
      Then (Then (Instance_at part.number) (Goes_if_null absent)) (Then (Then (Parent_of part.number) (Goes_unless_null past))
      (Then (Here absent) (Then (Then (Instance_at p.container) (Goes_if_null past)) (Then (Then This (Instance_at p.container))
      (Then (Then (Instance_at part.number) (Goes_if_null unbuilt)) (Then (Then (Instance_at part.number) (Goes_to branch.Jump add))
      (Then (Here unbuilt) (Then (IsBuildOfState part.number)
      (Then (Here add) (Then (Then (Counts part.number) (Calls (hidden_name (codes "place")) 3)) (Here past)))))))))))))))

  abbrev pub IsPartEntered : Text → Part → Option Presence → Meant
  IsPartEntered state part None = Nothing
  IsPartEntered state part (Some p) = When (includes state p) (IsPartAdded part p)

  -- what an override finds in an instance that is built is kept, and its own is written
  abbrev pub IsApplied : Change → ℕ → Name → Name → Meant
  IsApplied (Change.Changes_property name value) instance object found =
      Then (Then This (Then (Then (Instance_at instance) (One (Operation.GetProperty (member_name name)))) (One (Operation.SetProperty found))))
      (Then (Then This (Then (Instance_at instance) (One (Operation.SetProperty object))))
      (Then (Instance_at instance) (Then (Pushes (literal_value value)) (One (Operation.SetProperty (member_name name))))))
  IsApplied (Change.Changes_handler event base m) instance object found =
      Then (Then This (Then (Instance_at instance) (One (Operation.SetProperty object))))
      (Then (Instance_at instance) (Then (Perhaps (Unhears event) base) (Then (Hears event m) (One Operation.Pop))))

  abbrev pub AreApplied : ℕ → ℕ → List Override → Meant
  AreApplied state place [] = Nothing
  AreApplied state place (o ∷ overrides) =
      Then (Some_mark (λ past.
      Then (Then (Instance_at o.instance) (Goes_if_null past))
      (Then (IsApplied o.change o.instance (object_name state place) (value_name state place)) (Here past))))
      (AreApplied state (suc place) overrides)

  -- what is done when a state is entered
  abbrev pub IsEnterCode : ℕ → State → Meant
  IsEnterCode state s =
      Then (All (λ part. IsPartEntered s.name part part.presence) (parts_of d.root)) (Then (AreApplied state 0 s.overrides) (One Operation.ReturnVoid))

  -- the states are registered, from a place on
  abbrev pub AreStatesCode : ℕ → List State → Meant
  AreStatesCode n [] = Nothing
  AreStatesCode n (s ∷ states) =
      Then (Then This (Then (Pushes (value.Text s.name)) (Then (Method_at (l.leave_of class n)) (Then (Method_at (l.enter_of class n))
      (Calls (hidden_name (codes "state")) 3)))))
      (AreStatesCode (suc n) states)

  -- the constructor ends with the building
  abbrev pub IsBuildingCall : Meant
  IsBuildingCall = Then This (Calls (l.method_name (l.building_of class)) 0)
