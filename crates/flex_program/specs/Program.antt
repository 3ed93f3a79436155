-- Checked programs: names are resolved, types written, chains and the lists of states made.
use Rattle.std.specs.Prelude.{Bool, List, Option, ℕ, ℤ}
use Rattle.flex_world.specs.declared.kind.Class.{Class}
use Rattle.flex_world.specs.declared.kind.StaticType.{StaticType}
use Rattle.flex_world.specs.declared.operator.Operator.{Operator}

-- a text or a name, by its bytes in UTF-8
abbrev pub Text : Type 0
Text = List ℕ

pub data Literal : Type 0 where
  Null : Literal
  Truth : (b : Bool) → Literal
  Whole : (n : ℤ) → Literal
  Quoted : (text : Text) → Literal

mutual
  pub data Expr : Type 0 where
    Constant : (value : Literal) → Expr
    This : Expr
    -- a parameter or, numbered behind these, a local variable of the body
    Local : (number : ℕ) → Expr
    -- a property of an object, by its name
    Property : (object : Expr) (name : Text) → Expr
    -- the length of a String or an Array
    Length : (of : Expr) → Expr
    Element : (array index : Expr) → Expr
    -- `[a, b, c]`
    Items : (items : Exprs) → Expr
    -- a method taken from an object as a listener
    Method_of : (object : Expr) (name : Text) → Expr
    -- a method, which the class of the object names
    Call : (object : Expr) (name : Text) (arguments : Exprs) → Expr
    -- `super.name(..)`: a method that the base names, on this object
    Call_super : (base : Class) (name : Text) (arguments : Exprs) → Expr
    Push : (array value : Expr) → Expr
    Pop : (array : Expr) → Expr
    New : (class : Class) (arguments : Exprs) → Expr
    -- `int(e)`, `Boolean(e)`, `C(e)`, by the type
    Convert : (type : StaticType) (e : Expr) → Expr
    -- `String(e)`
    To_text : (e : Expr) → Expr
    Negate : (e : Expr) → Expr
    Not : (e : Expr) → Expr
    -- `!=`, `!==` and `>=` are `Not` of `==`, `===` and `<`
    Apply : (operator : Operator) (left right : Expr) → Expr
    And : (left right : Expr) → Expr
    Or : (left right : Expr) → Expr
    -- `test ? yes : no`, and the type that its value is converted into
    Choose : (test yes no : Expr) (type : StaticType) → Expr

  pub data Exprs : Type 0 where
    NoExpr : Exprs
    MoreExpr : (e : Expr) (es : Exprs) → Exprs

-- what is assigned to
pub data Place : Type 0 where
  -- a parameter or local variable, and its type
  Local_place : (number : ℕ) (type : StaticType) → Place
  Property_place : (object : Expr) (name : Text) → Place
  Element_place : (array index : Expr) → Place

mutual
  pub data Stmt : Type 0 where
    -- the value is dropped
    Do : (e : Expr) → Stmt
    Trace : (arguments : Exprs) → Stmt
    Assign : (place : Place) (e : Expr) → Stmt
    -- `place += e`, `place -= e`, `place *= e`; `place++` is `place += 1`
    Update : (place : Place) (operator : Operator) (e : Expr) → Stmt
    If : (test : Expr) (yes no : Block) → Stmt
    -- `for (; test; step) body`; a `while` has no step, and what a `for` begins with stands before it
    Loop : (test : Option Expr) (step body : Block) → Stmt
    Do_while : (body : Block) (test : Expr) → Stmt
    Break : Stmt
    Continue : Stmt
    Return : (e : Option Expr) → Stmt
    -- `super(..)`, with the base of the class, if it has one
    Super : (base : Option Class) (arguments : Exprs) → Stmt

  pub data Block : Type 0 where
    NoStmt : Block
    MoreStmt : (s : Stmt) (block : Block) → Block

-- a method, a constructor, or the handler of an event, which has the event as its parameter
pub record Method : Type 0 where
  pub parameters : List StaticType
  -- the variables that the body declares
  pub locals : List StaticType
  -- none of a method that gives no value
  pub result : Option StaticType
  pub body : Block

pub record Variable : Type 0 where
  pub name : Text
  pub type : StaticType
  pub start : Option Expr
  pub public : Bool
  pub bindable : Bool

-- the name of a method in a class, and its number among the program's methods
pub record Member : Type 0 where
  pub name : Text
  pub method : ℕ

-- a written constructor: its number among the program's methods, and whether its body has `super(..)`
pub record Constructor : Type 0 where
  pub method : ℕ
  pub calls_super : Bool

-- what an attribute does
pub data Attribute : Type 0 where
  Sets : (name : Text) (value : Literal) → Attribute
  -- registers the handler with this number among the program's methods
  Handles : (event : Text) (method : ℕ) → Attribute

-- when an instance that carries includeIn or excludeFrom is there
pub record Presence : Type 0 where
  -- the names of the states that include it
  pub states : List Text
  -- its declared parent, by number
  pub container : ℕ
  -- itemCreationPolicy is `immediate`
  pub immediate : Bool
  -- itemDestructionPolicy is `auto`
  pub auto : Bool

-- an instance without what stands in it; its number is its place among the instances of its document, from the root, which is 0, in document order
pub record Part : Type 0 where
  pub number : ℕ
  pub class : Class
  pub id : Option Text
  -- of an instance that carries includeIn or excludeFrom
  pub presence : Option Presence
  pub attributes : List Attribute

mutual
  pub data Instance : Type 0 where
    Holding : (part : Part) (contents : Contents) → Instance

  -- the tags that stand in an instance, in document order; those in fx:Declarations stand in the root
  pub data Contents : Type 0 where
    NoContent : Contents
    -- a visual child
    Child : (instance : Instance) (contents : Contents) → Contents
    -- a property tag that is no binding
    Tag : (name : Text) (value : Given) (contents : Contents) → Contents
    -- an instance in fx:Declarations
    Declared : (instance : Instance) (contents : Contents) → Contents
    -- fx:String, fx:int, fx:Boolean or fx:Array in fx:Declarations
    Declared_value : (id : Text) (value : Given) (contents : Contents) → Contents

  -- what a property tag or an item of an Array holds
  pub data Given : Type 0 where
    Given_literal : (value : Literal) → Given
    Given_instance : (instance : Instance) → Given
    Given_array : (items : Givens) → Given

  pub data Givens : Type 0 where
    NoGiven : Givens
    MoreGiven : (given : Given) (items : Givens) → Givens

-- a chain that a binding watches: bindable properties, one of another, from the document or, in the second half of a two-way binding, from an instance with this number
pub record Chain : Type 0 where
  pub start : Option ℕ
  pub names : List Text

pub data BindingSource : Type 0 where
  An_expression : (e : Expr) → BindingSource
  -- a property of an instance, by the instance's number
  A_property : (instance : ℕ) (name : Text) → BindingSource

pub data Destination : Type 0 where
  -- an attribute or property text of an instance, by the instance's number
  In_instance : (instance : ℕ) (name : Text) → Destination
  -- properties, one of another, from the document; there is at least one
  At_chain : (names : List Text) → Destination

-- the number of a binding is its place in its document's list
pub record Binding : Type 0 where
  pub source : BindingSource
  pub destination : Destination
  -- each is cut before its first name that isn't bindable
  pub chains : List Chain
  -- the other half of a two-way binding, by its number
  pub counterpart : Option ℕ
  -- it is the second half of one
  pub second : Bool

pub data Change : Type 0 where
  Changes_property : (name : Text) (value : Literal) → Change
  -- the handler takes the place of the one that the instance's own attribute registers, if there is one
  Changes_handler : (event : Text) (base : Option ℕ) (method : ℕ) → Change

pub record Override : Type 0 where
  -- whose property or handler, by number
  pub instance : ℕ
  pub change : Change

pub record State : Type 0 where
  pub name : Text
  -- in the order in which they apply: those of its groups, and then its own, each in document order
  pub overrides : List Override

pub record Document : Type 0 where
  pub root : Instance
  pub bindings : List Binding
  -- the first is the initial one
  pub states : List State

pub record SourceClass : Type 0 where
  -- the full dotted name
  pub name : Text
  pub base : Option Class
  -- its own, ids included, in order of declaration
  pub variables : List Variable
  -- its own
  pub members : List Member
  pub constructor : Option Constructor
  -- of an MXML document
  pub document : Option Document

pub record Program : Type 0 where
  pub classes : List SourceClass
  pub methods : List Method
  -- the number of the class of the main document
  pub main : ℕ
