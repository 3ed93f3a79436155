-- The code of expressions, statements and methods, as a relation.
use Rattle.std.specs.Prelude.{Bool, List, None, Option, Some, [], codes, false, length, suc, true, ℕ, ◌+◌, ◌∷◌}
use Rattle.flex_base.specs.declared.value.Value.TheVariants as value
use Rattle.flex_world.specs.declared.kind.Class.{Class}
use Rattle.flex_world.specs.declared.kind.StaticType.{StaticType}
use Rattle.flex_world.specs.declared.kind.StaticType.TheVariants as StaticType
use Rattle.flex_world.specs.Making.{start_of_type}
use Rattle.flex_world.specs.declared.operator.Operator.{Operator}
use Rattle.flex_world.specs.declared.operator.Operator.TheVariants as Operator
use Rattle.flex_program.specs.Program.{Block, Expr, Exprs, Method, MoreExpr, MoreStmt, NoExpr, NoStmt, Place, Stmt}
use Rattle.flex_meaning.specs.Expressions.{literal_value}
use Rattle.program_code.specs.Names.{Labels, member_name}
use Rattle.program_code.specs.Shapes.{Either}
use Rattle.program_code.specs.Shapes.{Endless, Goes_to, Here, Meant, Nothing, One, Repeated, Rounds, Rounds_after, Short, Some_mark, Then}
use Rattle.avm2_program.specs.Names.{public_name}
use Rattle.avm2_program.specs.declared.operation.Operation.TheVariants as Operation
use Rattle.avm2_code.specs.declared.parts.Branch.TheVariants as branch

abbrev pub count_of : Exprs → ℕ
count_of NoExpr = 0
count_of (MoreExpr e es) = suc (count_of es)

-- the type of a method of the file: one without a result has no type
abbrev pub result_type : Option StaticType → StaticType
result_type None = StaticType.Any
result_type (Some type) = type

-- a conversion into the type of a place
abbrev pub Converts : StaticType → Meant
Converts StaticType.Any = One Operation.CoerceAny
Converts type = One (Operation.Convert type)

-- a run of a binding ends where its own expression uses a part of null
abbrev pub Tested : Meant
Tested =
    Some_mark (λ on.
    Then (One Operation.Dup) (Then (One (Operation.Push value.Null)) (Then (One (Operation.Apply Operator.Equal)) (Then (Goes_to branch.IfFalse on)
    (Then (One Operation.ReturnVoid) (Here on))))))

-- an object whose part is used: own is the own expression of a binding
abbrev pub Received : Bool → Meant → Meant
Received true P = Then P Tested
Received false P = P

-- the variables of a body hold the starting values of their types, from a local on
abbrev pub AreStarts : ℕ → List StaticType → Meant
AreStarts n [] = Nothing
AreStarts n (type ∷ types) = Then (Then (One (Operation.Push (start_of_type type))) (One (Operation.SetLocal n))) (AreStarts (suc n) types)

-- what a body ends with
abbrev pub IsEnd : Option StaticType → Meant
IsEnd None = One Operation.ReturnVoid
IsEnd (Some type) = Then (One (Operation.Push (start_of_type type))) (One Operation.ReturnValue)

-- the first of the two locals of a method that no parameter and no variable has
abbrev pub beyond : Method → ℕ
beyond m = suc (length m.parameters + length m.locals)

-- how many locals a method has
abbrev pub local_count : Method → ℕ
local_count m = 2 + beyond m

-- the marks to which a break and a continue go, and, where code stands behind the statements, that to which a return goes
pub record Exits : Type 0 where
  pub out : ℕ
  pub again : ℕ
  pub over : Option ℕ

abbrev pub in_loop : Exits → ℕ → ℕ → Exits
in_loop x out again = record { out = out; again = again; over = x.over }

module _ (l : Labels) where
  abbrev mutual
    -- leaves the value on top
    pub IsExprCode : Bool → Expr → Meant
    IsExprCode own (Expr.Constant value) = One (Operation.Push (literal_value value))
    IsExprCode own Expr.This = One (Operation.GetLocal 0)
    IsExprCode own (Expr.Local n) = One (Operation.GetLocal (suc n))
    IsExprCode own (Expr.Property e name) = Then (Received own (IsExprCode own e)) (One (Operation.GetProperty (member_name name)))
    IsExprCode own (Expr.Length e) = Then (Received own (IsExprCode own e)) (One (Operation.GetProperty (public_name (codes "length"))))
    IsExprCode own (Expr.Element a i) = Then (Received own (IsExprCode own a)) (Then (IsExprCode own i) (One Operation.GetElement))
    IsExprCode own (Expr.Items es) = Then (AreExprsCode own es) (One (Operation.NewArray (count_of es)))
    IsExprCode own (Expr.Method_of e name) = Then (Received own (IsExprCode own e)) (One (Operation.GetProperty (member_name name)))
    IsExprCode own (Expr.Call e name es) =
        Then (Received own (IsExprCode own e)) (Then (AreExprsCode own es) (One (Operation.CallProperty true (member_name name) (count_of es))))
    IsExprCode own (Expr.Call_super base name es) =
        Then (One (Operation.GetLocal 0)) (Then (AreExprsCode own es) (One (Operation.CallSuper (member_name name) (count_of es))))
    IsExprCode own (Expr.Push a e) =
        Then (Received own (IsExprCode own a)) (Then (IsExprCode own e) (One (Operation.CallProperty true (public_name (codes "push")) 1)))
    IsExprCode own (Expr.Pop a) = Then (Received own (IsExprCode own a)) (One (Operation.CallProperty true (public_name (codes "pop")) 0))
    IsExprCode own (Expr.New class es) =
        Then (One (Operation.FindProperty (l.class_name class))) (Then (AreExprsCode own es) (One (Operation.ConstructProperty (l.class_name class) (count_of es))))
    IsExprCode own (Expr.Convert type e) = Then (IsExprCode own e) (Converts type)
    IsExprCode own (Expr.To_text e) = Then (IsExprCode own e) (One Operation.ToText)
    IsExprCode own (Expr.Negate e) = Then (IsExprCode own e) (One Operation.Negate)
    IsExprCode own (Expr.Not e) = Then (IsExprCode own e) (One Operation.Not)
    IsExprCode own (Expr.Apply operator a b) = Then (IsExprCode own a) (Then (IsExprCode own b) (One (Operation.Apply operator)))
    IsExprCode own (Expr.And a b) = Then (IsExprCode own a) (Short branch.IfFalse (IsExprCode own b))
    IsExprCode own (Expr.Or a b) = Then (IsExprCode own a) (Short branch.IfTrue (IsExprCode own b))
    IsExprCode own (Expr.Choose test a b type) = Then (IsExprCode own test) (Then (Either (IsExprCode own a) (IsExprCode own b)) (Converts type))

    -- leaves the values, the last on top
    pub AreExprsCode : Bool → Exprs → Meant
    AreExprsCode own NoExpr = Nothing
    AreExprsCode own (MoreExpr e es) = Then (IsExprCode own e) (AreExprsCode own es)

  -- a return, to a mark where there is one
  abbrev pub IsReturnCode : Option Expr → Option ℕ → Meant
  IsReturnCode None None = One Operation.ReturnVoid
  IsReturnCode (Some e) None = Then (IsExprCode false e) (One Operation.ReturnValue)
  IsReturnCode None (Some mark) = Goes_to branch.Jump mark
  IsReturnCode (Some e) (Some mark) = Then (IsExprCode false e) (Then (One Operation.Pop) (Goes_to branch.Jump mark))

  -- without a base nothing is constructed
  abbrev pub IsSuperCode : Option Class → Exprs → Meant
  IsSuperCode None es = Then (AreExprsCode false es) (Repeated (count_of es) (One Operation.Pop))
  IsSuperCode (Some base) es = Then (One (Operation.GetLocal 0)) (Then (AreExprsCode false es) (One (Operation.ConstructSuper (count_of es))))

  -- spare: the first of two locals that no variable has, which hold Undefined before and after
  module _ (spare : ℕ) where
    abbrev pub Cleared : ℕ → Meant
    Cleared n = Then (One (Operation.Push value.Undefined)) (One (Operation.SetLocal n))

    -- an array and an index on the stack, twice
    abbrev pub Doubled : Meant
    Doubled =
        Then (One (Operation.SetLocal (suc spare))) (Then (One (Operation.SetLocal spare))
        (Then (One (Operation.GetLocal spare)) (Then (One (Operation.GetLocal (suc spare)))
        (Then (One (Operation.GetLocal spare)) (Then (One (Operation.GetLocal (suc spare)))
        (Then (Cleared spare) (Cleared (suc spare))))))))

    abbrev pub IsAssignCode : Place → Expr → Meant
    IsAssignCode (Place.Local_place n type) e = Then (IsExprCode false e) (Then (Converts type) (One (Operation.SetLocal (suc n))))
    IsAssignCode (Place.Property_place object name) e =
        Then (IsExprCode false object) (Then (IsExprCode false e) (One (Operation.SetProperty (member_name name))))
    IsAssignCode (Place.Element_place array index) e =
        Then (IsExprCode false array) (Then (IsExprCode false index) (Then (IsExprCode false e) (One Operation.SetElement)))

    abbrev pub IsUpdateCode : Place → Operator → Expr → Meant
    IsUpdateCode (Place.Local_place n type) operator e =
        Then (One (Operation.GetLocal (suc n))) (Then (IsExprCode false e) (Then (One (Operation.Apply operator))
        (Then (Converts type) (One (Operation.SetLocal (suc n))))))
    IsUpdateCode (Place.Property_place object name) operator e =
        Then (IsExprCode false object) (Then (One Operation.Dup) (Then (One (Operation.GetProperty (member_name name)))
        (Then (IsExprCode false e) (Then (One (Operation.Apply operator)) (One (Operation.SetProperty (member_name name)))))))
    IsUpdateCode (Place.Element_place array index) operator e =
        Then (IsExprCode false array) (Then (IsExprCode false index) (Then Doubled (Then (One Operation.GetElement)
        (Then (IsExprCode false e) (Then (One (Operation.Apply operator)) (One Operation.SetElement))))))

    abbrev mutual
      pub IsStmtCode : Stmt → Exits → Meant
      IsStmtCode (Stmt.Do e) x = Then (IsExprCode false e) (One Operation.Pop)
      IsStmtCode (Stmt.Trace es) x =
          Then (One (Operation.FindProperty (public_name (codes "trace"))))
          (Then (AreExprsCode false es) (One (Operation.CallProperty false (public_name (codes "trace")) (count_of es))))
      IsStmtCode (Stmt.Assign place e) x = IsAssignCode place e
      IsStmtCode (Stmt.Update place operator e) x = IsUpdateCode place operator e
      IsStmtCode (Stmt.If test first second) x = Then (IsExprCode false test) (Either (IsBlockCode first x) (IsBlockCode second x))
      IsStmtCode (Stmt.Loop None step body) x = Endless (IsBlockCode step x) (λ out again. IsBlockCode body (in_loop x out again))
      IsStmtCode (Stmt.Loop (Some test) step body) x =
          Rounds (IsExprCode false test) (IsBlockCode step x) (λ out again. IsBlockCode body (in_loop x out again))
      IsStmtCode (Stmt.Do_while body test) x = Rounds_after (IsExprCode false test) (λ out again. IsBlockCode body (in_loop x out again))
      IsStmtCode Stmt.Break x = Goes_to branch.Jump x.out
      IsStmtCode Stmt.Continue x = Goes_to branch.Jump x.again
      IsStmtCode (Stmt.Return e) x = IsReturnCode e x.over
      IsStmtCode (Stmt.Super base es) x = IsSuperCode base es

      pub IsBlockCode : Block → Exits → Meant
      IsBlockCode NoStmt x = Nothing
      IsBlockCode (MoreStmt s block) x = Then (IsStmtCode s x) (IsBlockCode block x)

  -- the variables of a body, and its statements
  abbrev pub AreStatements : Method → Exits → Meant
  AreStatements m x = Then (AreStarts (suc (length m.parameters)) m.locals) (IsBlockCode (beyond m) m.body x)

  -- a method that isn't a constructor; nothing breaks out of it
  abbrev pub IsMethodCode : Method → Meant
  IsMethodCode m =
      Some_mark (λ nowhere.
      Then (AreStatements m (record { out = nowhere; again = nowhere; over = None })) (IsEnd m.result))
