-- The terms that declared expressions, statements and methods stand for.
use Rattle.std.specs.List.{fold}
use Rattle.std.specs.Prelude.{List, [], option_map, ◌∷◌}
use Rattle.flex_program.specs.declared.code as code
use Rattle.flex_program.specs.declared.code.Literal.TheVariants as literal
use Rattle.flex_program.specs.declared.code.Place.TheVariants as place
use Rattle.flex_program.specs.declared.code.Start.TheVariants as start
use Rattle.flex_program.specs.declared.code.Step.TheVariants as step
use Rattle.flex_program.specs.declared.code.Stmt.TheVariants as stmt
use Rattle.flex_program.specs.Program.{Block, Expr, Exprs, Literal, Method, Place, Stmt}

abbrev pub literal_of : code.Literal.Literal → Literal
literal_of literal.Null = Literal.Null
literal_of (literal.Bool b) = Literal.Truth b
literal_of (literal.Int n) = Literal.Whole n
literal_of (literal.Text text) = Literal.Quoted text

-- in `Element' b shape steps` and the like, an expression stands by what it begins with and its steps
abbrev mutual
  pub start_of : code.Start.Start → Expr
  start_of (start.Constant value) = Expr.Constant (literal_of value)
  start_of start.This = Expr.This
  start_of (start.Local number) = Expr.Local number
  start_of (start.Array' shape items) = Expr.Items (exprs_in items)
  start_of (start.CallSuper' base name shape arguments) = Expr.Call_super base name (exprs_in arguments)
  start_of (start.New' class shape arguments) = Expr.New class (exprs_in arguments)

  -- the expression that a step makes of the one so far
  pub step_from : Expr → code.Step.Step → Expr
  step_from e (step.Property name) = Expr.Property e name
  step_from e step.Length = Expr.Length e
  step_from e (step.Element' b shape steps) = Expr.Element e (steps_from (start_of b) steps)
  step_from e (step.Method name) = Expr.Method_of e name
  step_from e (step.Call' name shape arguments) = Expr.Call e name (exprs_in arguments)
  step_from e (step.Push' b shape steps) = Expr.Push e (steps_from (start_of b) steps)
  step_from e step.Pop = Expr.Pop e
  step_from e (step.Convert type) = Expr.Convert type e
  step_from e step.ToText = Expr.To_text e
  step_from e step.Negate = Expr.Negate e
  step_from e step.Not = Expr.Not e
  step_from e (step.Apply' operator b shape steps) = Expr.Apply operator e (steps_from (start_of b) steps)
  step_from e (step.And' b shape steps) = Expr.And e (steps_from (start_of b) steps)
  step_from e (step.Or' b shape steps) = Expr.Or e (steps_from (start_of b) steps)
  step_from e (step.Choose' b shape steps c other others type) = Expr.Choose e (steps_from (start_of b) steps) (steps_from (start_of c) others) type

  pub steps_from : {n : _} → Expr → code.Step.Row_of-Step n → Expr
  steps_from e code.Step.end_of-Step = e
  steps_from e (code.Step.more_of-Step s rest) = steps_from (step_from e s) rest

  pub exprs_in : {n : _} → code.Start.Row_of-Expr n → Exprs
  exprs_in code.Start.end_of-Expr = Exprs.NoExpr
  exprs_in (code.Start.more_of-Expr b shape steps rest) = Exprs.MoreExpr (steps_from (start_of b) steps) (exprs_in rest)

abbrev pub expr_of : code.Expr.Expr → Expr
expr_of e = fold step_from (start_of e.start) e.steps.items

abbrev pub exprs_of : List code.Expr.Expr → Exprs
exprs_of [] = Exprs.NoExpr
exprs_of (e ∷ es) = Exprs.MoreExpr (expr_of e) (exprs_of es)

abbrev pub place_of : code.Place.Place → Place
place_of (place.Local number type) = Place.Local_place number type
place_of (place.Property object name) = Place.Property_place (expr_of object) name
place_of (place.Element array index) = Place.Element_place (expr_of array) (expr_of index)

abbrev mutual
  pub stmt_of : code.Stmt.Stmt → Stmt
  stmt_of (stmt.Do e) = Stmt.Do (expr_of e)
  stmt_of (stmt.Trace arguments) = Stmt.Trace (exprs_of arguments.items)
  stmt_of (stmt.Assign place e) = Stmt.Assign (place_of place) (expr_of e)
  stmt_of (stmt.Update place operator e) = Stmt.Update (place_of place) operator (expr_of e)
  stmt_of (stmt.If' test shape block other blocks) = Stmt.If (expr_of test) (block_in block) (block_in blocks)
  stmt_of (stmt.Loop' test shape step other body) = Stmt.Loop (option_map expr_of test) (block_in step) (block_in body)
  stmt_of (stmt.DoWhile' shape body test) = Stmt.Do_while (block_in body) (expr_of test)
  stmt_of stmt.Break = Stmt.Break
  stmt_of stmt.Continue = Stmt.Continue
  stmt_of (stmt.Return e) = Stmt.Return (option_map expr_of e)
  stmt_of (stmt.Super base arguments) = Stmt.Super base (exprs_of arguments.items)

  pub block_in : {n : _} → code.Stmt.Row_of-Stmt n → Block
  block_in code.Stmt.end_of-Stmt = Block.NoStmt
  block_in (code.Stmt.more_of-Stmt s rest) = Block.MoreStmt (stmt_of s) (block_in rest)

abbrev pub block_of : List code.Stmt.Stmt → Block
block_of [] = Block.NoStmt
block_of (s ∷ block) = Block.MoreStmt (stmt_of s) (block_of block)

abbrev pub method_of : code.Method.Method → Method
method_of m =
    record {
      parameters = m.parameters.items;
      locals = m.locals.items;
      result = m.result;
      body = block_of m.body.items;
    }
