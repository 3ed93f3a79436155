-- What a statement does.
use Rattle.std.specs.Prelude.{List, None, Option, Some, false, length, map, slice_get, suc, true, zero, ℕ, ◌++◌, ◌==◌}
use Rattle.flex_base.specs.Lists.{changed_at}
use Rattle.flex_base.specs.Value.{to_bool}
use Rattle.flex_base.specs.declared.outcome.Outcome.TheVariants.{TurnsSpent}
use Rattle.flex_base.specs.declared.record.TraceItem.TheVariants.{Traced}
use Rattle.flex_base.specs.declared.value.ObjId.{ObjId}
use Rattle.flex_base.specs.declared.value.Value.{Value}
use Rattle.flex_base.specs.declared.value.Value.TheVariants as value
use Rattle.flex_world.specs.declared.kind.Class.{Class}
use Rattle.flex_world.specs.declared.kind.StaticType.{StaticType}
use Rattle.flex_world.specs.Conversions.{start_of_result}
use Rattle.flex_world.specs.Making.{start_of_type}
use Rattle.flex_world.specs.Operators.{made_text, operate, spaced_text, texts_of}
use Rattle.flex_world.specs.declared.operator.Operator.{Operator}
use Rattle.flex_program.specs.Program.{Block, Expr, Method, MoreStmt, NoStmt, Place, Stmt}
use Rattle.flex_meaning.specs.Activities.{Context}
use Rattle.flex_meaning.specs.Arrays.{read_element, write_element}
use Rattle.flex_meaning.specs.Conversions.{convert, convert_result}
use Rattle.flex_meaning.specs.Expressions.{Env, eval, eval_all, receiver}
use Rattle.flex_meaning.specs.Making.{construct, prepare}
use Rattle.flex_meaning.specs.Objects.{read}
use Rattle.flex_meaning.specs.Results.{Goes, Halts, Result, Stuck, bind, choose, done, given, guarded, need}
use Rattle.flex_meaning.specs.Turns.{tick}
use Rattle.flex_meaning.specs.World.{World, note}
use Rattle.flex_meaning.specs.Writes.{assign}

-- how a statement ends
pub data Flow : Type 0 where
  Falls : (env : Env) → Flow
  Breaks : (env : Env) → Flow
  Continues : (env : Env) → Flow
  Returns : (v : Value) → Flow

-- the statements behind one that ended so
abbrev pub flow_on : (Env → World → Result Flow) → Flow → World → Result Flow
flow_on next (Falls env) w = next env w
flow_on next (Breaks env) w = Goes (Breaks env) w
flow_on next (Continues env) w = Goes (Continues env) w
flow_on next (Returns v) w = Goes (Returns v) w

-- the loop goes on behind a body that ended so, or is left
abbrev pub again : (Env → World → Result Flow) → Flow → World → Result Flow
again next (Falls env) w = next env w
again next (Breaks env) w = Goes (Falls env) w
again next (Continues env) w = next env w
again next (Returns v) w = Goes (Returns v) w

-- each test takes a turn first; at most so many
abbrev pub loop : ℕ → (Env → World → Result Value) → (step body : Env → World → Result Flow) → Env → World → Result Flow
loop zero test step body env w = Halts TurnsSpent w
loop (suc n) test step body env w =
    bind (tick w) (λ _ w1.
    bind (test env w1) (λ v w2.
    choose (to_bool v) (λ w3. bind (body env w3) (again (λ env1 w4. bind (step env1 w4) (flow_on (λ env2 w5. loop n test step body env2 w5))))) (Goes (Falls env)) w2))

abbrev pub falls : Env → World → Result Flow
falls env w = Goes (Falls env) w

-- texts are printed with one space between any two
abbrev pub trace : List Value → World → Result (Unit {0})
trace vs w = bind (given (texts_of vs) w) (λ texts w1. bind (given (made_text (spaced_text texts)) w1) (λ text w2. done (note (Traced text) w2)))

-- a body begins: its variables hold their starting values
abbrev pub first_env : Method → ObjId → List Value → Env
first_env m o arguments = record { this = o; locals = arguments ++ map start_of_type m.locals }

module _ (c : Context) where
  abbrev pub set_local : ℕ → StaticType → Env → Value → World → Result Flow
  set_local n type env v w = bind (convert c.program type v w) (λ v1 w1. need (slice_get env.locals n) w1 (λ _. Goes (Falls (record env { locals = changed_at (λ _. v1) env.locals n })) w1))

  abbrev pub set_property : Env → ObjId → List ℕ → Value → World → Result Flow
  set_property env o name v w = bind (assign c o name v w) (λ _ w1. falls env w1)

  abbrev pub set_element : Env → ObjId → Value → Value → World → Result Flow
  set_element env array index v w = bind (write_element array index v w) (λ _ w1. falls env w1)

  abbrev pub put : Place → Expr → Env → World → Result Flow
  put (Place.Local_place n type) e env w = bind (eval c false e env w) (set_local n type env)
  put (Place.Property_place object name) e env w =
      bind (eval c false object env w) (λ base w1.
      bind (eval c false e env w1) (λ v w2.
      bind (receiver false base w2) (λ o w3.
      set_property env o name v w3)))
  put (Place.Element_place array index) e env w =
      bind (eval c false array env w) (λ base w1.
      bind (eval c false index env w1) (λ i w2.
      bind (eval c false e env w2) (λ v w3.
      bind (receiver false base w3) (λ a w4.
      set_element env a i v w4))))

  -- the value that was there and that of an expression, with an operator between
  abbrev pub combined : Operator → Value → Expr → Env → World → Result Value
  combined operator old e env w = bind (eval c false e env w) (λ v w1. given (operate operator old v) w1)

  abbrev pub update : Place → Operator → Expr → Env → World → Result Flow
  update (Place.Local_place n type) operator e env w =
      need (slice_get env.locals n) w (λ old. bind (combined operator old e env w) (set_local n type env))
  update (Place.Property_place object name) operator e env w =
      bind (eval c false object env w) (λ base w1.
      bind (receiver false base w1) (λ o w2.
      bind (read c.program o name w2) (λ old w3.
      bind (combined operator old e env w3) (λ v w4.
      set_property env o name v w4))))
  update (Place.Element_place array index) operator e env w =
      bind (eval c false array env w) (λ base w1.
      bind (eval c false index env w1) (λ i w2.
      bind (receiver false base w2) (λ a w3.
      bind (read_element a i w3) (λ old w4.
      bind (combined operator old e env w4) (λ v w5.
      set_element env a i v w5)))))

  -- `super(..)`: the constructor of the base runs on this object
  abbrev pub construct_base : Option Class → List Value → Env → World → Result Flow
  construct_base None vs env w = falls env w
  construct_base (Some base) vs env w =
      bind (prepare c base vs w) (λ arguments w1. bind (construct c base env.this arguments w1) (λ _ w2. falls env w2))

  -- a `for` without a test has one that is true
  abbrev pub test_of : Option Expr → Env → World → Result Value
  test_of None env w = Goes (value.Bool true) w
  test_of (Some e) env w = eval c false e env w

  -- the value is converted into the type of the result
  abbrev pub give_back : Option StaticType → Option Expr → Env → World → Result Flow
  give_back result None env w = bind (convert_result c.program result value.Undefined w) (λ v w1. Goes (Returns v) w1)
  give_back result (Some e) env w = bind (eval c false e env w) (λ v w1. bind (convert_result c.program result v w1) (λ v1 w2. Goes (Returns v1) w2))

  abbrev mutual
    pub exec : Option StaticType → Stmt → Env → World → Result Flow
    exec result (Stmt.Do e) env w = bind (eval c false e env w) (λ _ w1. falls env w1)
    exec result (Stmt.Trace es) env w = bind (eval_all c false es env w) (λ vs w1. bind (trace vs w1) (λ _ w2. falls env w2))
    exec result (Stmt.Assign place e) env w = put place e env w
    exec result (Stmt.Update place operator e) env w = update place operator e env w
    exec result (Stmt.If test then_block else_block) env w =
        bind (eval c false test env w) (λ v w1. choose (to_bool v) (exec_all result then_block env) (exec_all result else_block env) w1)
    exec result (Stmt.Loop test step body) env w = loop c.fuel (test_of test) (exec_all result step) (exec_all result body) env w
    exec result (Stmt.Do_while body test) env w = bind (exec_all result body env w) (again (loop c.fuel (eval c false test) falls (exec_all result body)))
    exec result Stmt.Break env w = Goes (Breaks env) w
    exec result Stmt.Continue env w = Goes (Continues env) w
    exec result (Stmt.Return e) env w = give_back result e env w
    exec result (Stmt.Super base es) env w = bind (eval_all c false es env w) (λ vs w1. construct_base base vs env w1)

    pub exec_all : Option StaticType → Block → Env → World → Result Flow
    exec_all result NoStmt env w = falls env w
    exec_all result (MoreStmt s block) env w = bind (exec result s env w) (flow_on (exec_all result block))

  -- a value goes back into the result type; a body that ends without `return` gives the starting value of that type
  abbrev pub returned : Option StaticType → Flow → World → Result Value
  returned type (Returns v) w = Goes v w
  returned type (Falls env) w = convert_result c.program type (start_of_result type) w
  returned type (Breaks env) w = Stuck w
  returned type (Continues env) w = Stuck w

  -- the body of a method on an object, with arguments that are converted
  abbrev pub run : Method → ObjId → List Value → World → Result Value
  run m o arguments w =
      guarded (length arguments == length m.parameters) (λ w1. bind (exec_all m.result m.body (first_env m o arguments) w1) (returned m.result)) w
