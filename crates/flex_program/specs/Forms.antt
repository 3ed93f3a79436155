-- What the declared forms with lists or further forms in them stand for.
use Rattle.std.specs.Global.{Vec}
use Rattle.std.specs.Prelude.{Option, option_map, ◌≡◌}
use Rattle.flex_program.specs.CodeTerms.{block_of, expr_of, exprs_of, start_of, step_from, stmt_of}
use Rattle.flex_program.specs.DocumentTerms.{content_before, given_of, givens_of, instance_of}
use Rattle.flex_program.specs.Program.{Contents, Expr, Given, Stmt, Text}
use Rattle.flex_program.specs.declared.code as code
use Rattle.flex_program.specs.declared.code.Start.TheVariants as start
use Rattle.flex_program.specs.declared.code.Step.TheVariants as step
use Rattle.flex_program.specs.declared.code.Stmt.TheVariants as stmt
use Rattle.flex_program.specs.declared.document as document
use Rattle.flex_program.specs.declared.document.Content.TheVariants as content
use Rattle.flex_program.specs.declared.document.Given.TheVariants as given
use Rattle.flex_world.specs.declared.kind.Class.{Class}
use Rattle.flex_world.specs.declared.kind.StaticType.{StaticType}
use Rattle.flex_world.specs.declared.operator.Operator.{Operator}

-- what an expression begins with
pub record StartForms : Type 0 where
  pub array : (items : Vec code.Expr.Expr) → start_of (start.Array items) ≡ Expr.Items (exprs_of items.items)
  pub call_super :
      (base : Class) (name : Text) (arguments : Vec code.Expr.Expr)
      → start_of (start.CallSuper base name arguments) ≡ Expr.Call_super base name (exprs_of arguments.items)
  pub new : (class : Class) (arguments : Vec code.Expr.Expr) → start_of (start.New class arguments) ≡ Expr.New class (exprs_of arguments.items)

-- the steps from there
pub record StepForms (e : Expr) : Type 0 where
  pub element : (index : code.Expr.Expr) → step_from e (step.Element index) ≡ Expr.Element e (expr_of index)
  pub call : (name : Text) (arguments : Vec code.Expr.Expr) → step_from e (step.Call name arguments) ≡ Expr.Call e name (exprs_of arguments.items)
  pub push : (value : code.Expr.Expr) → step_from e (step.Push value) ≡ Expr.Push e (expr_of value)
  pub apply : (operator : Operator) (right : code.Expr.Expr) → step_from e (step.Apply operator right) ≡ Expr.Apply operator e (expr_of right)
  pub and : (right : code.Expr.Expr) → step_from e (step.And right) ≡ Expr.And e (expr_of right)
  pub or : (right : code.Expr.Expr) → step_from e (step.Or right) ≡ Expr.Or e (expr_of right)
  pub choose : (a b : code.Expr.Expr) (type : StaticType) → step_from e (step.Choose a b type) ≡ Expr.Choose e (expr_of a) (expr_of b) type

pub record StmtForms : Type 0 where
  pub branch :
      (test : code.Expr.Expr) (a b : Vec code.Stmt.Stmt)
      → stmt_of (stmt.If test a b) ≡ Stmt.If (expr_of test) (block_of a.items) (block_of b.items)
  pub loop :
      (test : Option code.Expr.Expr) (a b : Vec code.Stmt.Stmt)
      → stmt_of (stmt.Loop test a b) ≡ Stmt.Loop (option_map expr_of test) (block_of a.items) (block_of b.items)
  pub do_while : (body : Vec code.Stmt.Stmt) (test : code.Expr.Expr) → stmt_of (stmt.DoWhile body test) ≡ Stmt.Do_while (block_of body.items) (expr_of test)

-- tags, before the contents behind them
pub record ContentForms (rest : Contents) : Type 0 where
  pub child : (i : document.Instance.Instance) → content_before (content.Child i) rest ≡ Contents.Child (instance_of i) rest
  pub tag : (name : Text) (g : document.Given.Given) → content_before (content.Tag name g) rest ≡ Contents.Tag name (given_of g) rest
  pub declared : (i : document.Instance.Instance) → content_before (content.Declared i) rest ≡ Contents.Declared (instance_of i) rest
  pub declared_value : (id : Text) (g : document.Given.Given) → content_before (content.DeclaredValue id g) rest ≡ Contents.Declared_value id (given_of g) rest

pub record GivenForms : Type 0 where
  pub instance : (i : document.Instance.Instance) → given_of (given.Instance i) ≡ Given.Given_instance (instance_of i)
  pub array : (items : Vec document.Given.Given) → given_of (given.Array items) ≡ Given.Given_array (givens_of items.items)
