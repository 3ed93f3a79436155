-- What an expression gives.
use Rattle.std.specs.Prelude.{Bool, List, [], false, not, slice_get, true, ℕ, ◌∷◌}
use Rattle.flex_base.specs.Value.{length_of, to_bool, to_text}
use Rattle.flex_base.specs.declared.outcome.Stop.TheVariants as stop
use Rattle.flex_base.specs.declared.value.ObjId.{ObjId}
use Rattle.flex_base.specs.declared.value.Value.{Value}
use Rattle.flex_base.specs.declared.value.Value.TheVariants as value
use Rattle.component_catalog.specs.Methods.{parameters_of}
use Rattle.flex_world.specs.Objects.{count, object_class}
use Rattle.flex_world.specs.Operators.{negated, operate}
use Rattle.flex_program.specs.Classes.{Callee, callee}
use Rattle.flex_program.specs.Program.{Expr, Exprs, Literal, MoreExpr, NoExpr}
use Rattle.flex_meaning.specs.Activities.{Calls, Context}
use Rattle.flex_meaning.specs.Arrays.{array_length, pop, push, read_element}
use Rattle.flex_meaning.specs.Conversions.{convert, method_arguments, native_arguments}
use Rattle.flex_meaning.specs.Making.{make}
use Rattle.flex_meaning.specs.Natives.{call_native}
use Rattle.flex_meaning.specs.Objects.{new_array, read}
use Rattle.flex_meaning.specs.Results.{Ends, Goes, Result, Stuck, bind, choose, done, dropped, given, need, on, stops}
use Rattle.flex_meaning.specs.World.{World}

-- where an expression is evaluated
pub record Env : Type 0 where
  pub this : ObjId
  -- the parameters, and then the local variables
  pub locals : List Value

abbrev pub literal_value : Literal → Value
literal_value Literal.Null = value.Null
literal_value (Literal.Truth b) = value.Bool b
literal_value (Literal.Whole n) = value.Int n
literal_value (Literal.Quoted text) = value.Text text

-- a part of null is used: a binding's own expression ends there, all else stops
abbrev pub at_null : {A : Type 0} → Bool → World → Result A
at_null true w = Ends w
at_null false w = stops stop.NullReference w

-- the object whose part is used
abbrev pub receiver : Bool → Value → World → Result ObjId
receiver own (value.Ref o) w = Goes o w
receiver own value.Null w = at_null own w
receiver own value.Undefined w = at_null own w
receiver own _ w = Stuck w

-- in a binding's own expression a receiver is tested before arguments
abbrev pub tested : Bool → Value → World → Result (Unit {0})
tested true v w = dropped (receiver true v w)
tested false v w = done w

-- the length of a text, or of an array
abbrev pub length_value : Bool → Value → World → Result Value
length_value own (value.Text text) w = Goes (count (length_of text)) w
length_value own v w = bind (receiver own v w) array_length

-- a written method of an object as a value
abbrev pub method_value : ObjId → Callee → World → Result Value
method_value o (Callee.Written m) w = Goes (value.Listener o m) w
method_value o (Callee.Catalog m) w = Stuck w

module _ (c : Context) where
  -- a method on an object, with arguments that are counted and converted
  abbrev pub call : Callee → ObjId → List Value → World → Result Value
  call (Callee.Written m) o vs w =
      need (slice_get c.program.methods m) w (λ method. bind (method_arguments c.program method vs w) (λ arguments w1. c.does (Calls m o arguments) w1))
  call (Callee.Catalog m) o vs w = bind (native_arguments c.program (parameters_of m) vs w) (λ arguments w1. call_native c m o arguments w1)

  -- the method that the class of an object names
  abbrev pub find_method : ObjId → List ℕ → World → Result Callee
  find_method o name w = on o w (λ object. need (object_class object) w (λ class. need (callee c.program class name) w (λ m. Goes m w)))

  -- own: of the own expression of a binding
  module _ (own : Bool) where
    abbrev mutual
      pub eval : Expr → Env → World → Result Value
      eval (Expr.Constant l) env w = Goes (literal_value l) w
      eval Expr.This env w = Goes (value.Ref env.this) w
      eval (Expr.Local n) env w = need (slice_get env.locals n) w (λ v. Goes v w)
      eval (Expr.Property e name) env w = bind (eval e env w) (λ v w1. bind (receiver own v w1) (λ o w2. read c.program o name w2))
      eval (Expr.Length e) env w = bind (eval e env w) (length_value own)
      eval (Expr.Element a i) env w =
          bind (eval a env w) (λ v w1.
          bind (tested own v w1) (λ _ w2.
          bind (eval i env w2) (λ n w3.
          bind (receiver own v w3) (λ array w4.
          read_element array n w4))))
      eval (Expr.Items es) env w = bind (eval_all es env w) (λ vs w1. bind (new_array vs w1) (λ o w2. Goes (value.Ref o) w2))
      eval (Expr.Method_of e name) env w =
          bind (eval e env w) (λ v w1. bind (receiver own v w1) (λ o w2. bind (find_method o name w2) (λ m w3. method_value o m w3)))
      eval (Expr.Call e name arguments) env w =
          bind (eval e env w) (λ v w1.
          bind (tested own v w1) (λ _ w2.
          bind (eval_all arguments env w2) (λ vs w3.
          bind (receiver own v w3) (λ o w4.
          bind (find_method o name w4) (λ m w5.
          call m o vs w5)))))
      eval (Expr.Call_super base name arguments) env w =
          bind (eval_all arguments env w) (λ vs w1. need (callee c.program base name) w1 (λ m. call m env.this vs w1))
      eval (Expr.Push a e) env w =
          bind (eval a env w) (λ v w1.
          bind (tested own v w1) (λ _ w2.
          bind (eval e env w2) (λ item w3.
          bind (receiver own v w3) (λ array w4.
          push array item w4))))
      eval (Expr.Pop a) env w = bind (eval a env w) (λ v w1. bind (receiver own v w1) (λ array w2. pop array w2))
      eval (Expr.New class arguments) env w =
          bind (eval_all arguments env w) (λ vs w1. bind (make c class vs w1) (λ o w2. Goes (value.Ref o) w2))
      eval (Expr.Convert type e) env w = bind (eval e env w) (convert c.program type)
      eval (Expr.To_text e) env w = bind (eval e env w) (λ v w1. bind (given (to_text v) w1) (λ text w2. Goes (value.Text text) w2))
      eval (Expr.Negate e) env w = bind (eval e env w) (λ v w1. given (negated v) w1)
      eval (Expr.Not e) env w = bind (eval e env w) (λ v w1. Goes (value.Bool (not (to_bool v))) w1)
      eval (Expr.Apply operator a b) env w = bind (eval a env w) (λ x w1. bind (eval b env w1) (λ y w2. given (operate operator x y) w2))
      eval (Expr.And a b) env w = bind (eval a env w) (λ v w1. choose (to_bool v) (eval b env) (Goes v) w1)
      eval (Expr.Or a b) env w = bind (eval a env w) (λ v w1. choose (to_bool v) (Goes v) (eval b env) w1)
      eval (Expr.Choose test a b type) env w =
          bind (eval test env w) (λ v w1. bind (choose (to_bool v) (eval a env) (eval b env) w1) (convert c.program type))

      pub eval_all : Exprs → Env → World → Result (List Value)
      eval_all NoExpr env w = Goes [] w
      eval_all (MoreExpr e es) env w = bind (eval e env w) (λ v w1. bind (eval_all es env w1) (λ vs w2. Goes (v ∷ vs) w2))
