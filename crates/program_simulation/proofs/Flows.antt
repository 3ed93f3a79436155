-- Statements keep the object of their body and the number of its variables.
use Rattle.std.proofs.Common.{◌≡◌, refl, ap, ◌∙◌}
use Rattle.std.specs.Prelude.{Bool, List, None, Option, Some, [], false, length, slice_get, suc, true, zero, ℕ, ◌∷◌}
use Rattle.flex_base.specs.Lists.{changed_at}
use Rattle.flex_base.specs.Value.{to_bool}
use Rattle.flex_base.specs.declared.value.ObjId.{ObjId}
use Rattle.flex_base.specs.declared.value.Value.TheVariants as value
use Rattle.flex_base.specs.declared.value.Value.{Value}
use Rattle.flex_world.specs.declared.kind.StaticType.{StaticType}
use Rattle.flex_world.specs.declared.operator.Operator.{Operator}
use Rattle.flex_program.specs.Program.{Block, Expr, MoreStmt, NoStmt, Place, Stmt}
use Rattle.flex_meaning.specs.Activities.{Context}
use Rattle.flex_meaning.specs.Arrays.{read_element, write_element}
use Rattle.flex_meaning.specs.Conversions.{convert, convert_result}
use Rattle.flex_meaning.specs.Expressions.{Env, eval, eval_all, receiver}
use Rattle.flex_meaning.specs.Making.{construct, prepare}
use Rattle.flex_meaning.specs.Objects.{read}
use Rattle.flex_meaning.specs.Results.{Ends, Goes, Halts, Result, Stuck, bind, choose, need}
use Rattle.flex_meaning.specs.Statements as source
use Rattle.flex_meaning.specs.Statements.{Breaks, Continues, Falls, Flow, Returns, again, exec, exec_all, flow_on, loop}
use Rattle.flex_meaning.specs.Turns.{tick}
use Rattle.flex_meaning.specs.World.{World}
use Rattle.flex_meaning.specs.Writes.{assign}
use Rattle.program_simulation.proofs.Follows.{EveryValue}

-- the object and the number of variables of a body
pub record Fits (this : ObjId) (width : ℕ) (env : Env) : Type 0 where
  pub this_is : env.this ≡ this
  pub width_is : length env.locals ≡ width

module _ (this : ObjId) (width : ℕ) where
  abbrev pub FlowFits : Flow → Type 0
  FlowFits (Falls env) = Fits this width env
  FlowFits (Breaks env) = Fits this width env
  FlowFits (Continues env) = Fits this width env
  FlowFits (Returns v) = Unit {0}

  every_bind : {A : Type 0} (P : A → Type 0) (r : Result A) (f : A → World → Result Flow) → EveryValue P r → ((v : A) (w : World) → P v → EveryValue FlowFits (f v w)) → EveryValue FlowFits (bind r f)
  every_bind P (Goes v w) f e t = t v w e
  every_bind P (Halts o w) f e t = tt
  every_bind P (Ends w) f e t = tt
  every_bind P (Stuck w) f e t = tt

  every_after : {A : Type 0} (r : Result A) (f : A → World → Result Flow) → ((v : A) (w : World) → EveryValue FlowFits (f v w)) → EveryValue FlowFits (bind r f)
  every_after (Goes v w) f t = t v w
  every_after (Halts o w) f t = tt
  every_after (Ends w) f t = tt
  every_after (Stuck w) f t = tt

  every_need : {A : Type 0} (o : Option A) (w : World) (f : A → Result Flow) → ((x : A) → EveryValue FlowFits (f x)) → EveryValue FlowFits (need o w f)
  every_need None w f t = tt
  every_need (Some x) w f t = t x

  every_choose : (b : Bool) (f f1 : World → Result Flow) (w : World) → EveryValue FlowFits (f w) → EveryValue FlowFits (f1 w) → EveryValue FlowFits (choose b f f1 w)
  every_choose true f f1 w a b = a
  every_choose false f f1 w a b = b

  as_many : (f : Value → Value) (ls : List Value) (n : ℕ) → length (changed_at f ls n) ≡ length ls
  as_many f [] n = refl
  as_many f (x ∷ ls) zero = refl
  as_many f (x ∷ ls) (suc n) = ap suc (as_many f ls n)

  flow_on_fits : (next : Env → World → Result Flow) (fl : Flow) (w : World) → FlowFits fl → ((env : Env) (w1 : World) → Fits this width env → EveryValue FlowFits (next env w1)) → EveryValue FlowFits (flow_on next fl w)
  flow_on_fits next (Falls env) w e t = t env w e
  flow_on_fits next (Breaks env) w e t = e
  flow_on_fits next (Continues env) w e t = e
  flow_on_fits next (Returns v) w e t = tt

  again_fits : (next : Env → World → Result Flow) (fl : Flow) (w : World) → FlowFits fl → ((env : Env) (w1 : World) → Fits this width env → EveryValue FlowFits (next env w1)) → EveryValue FlowFits (again next fl w)
  again_fits next (Falls env) w e t = t env w e
  again_fits next (Breaks env) w e t = e
  again_fits next (Continues env) w e t = t env w e
  again_fits next (Returns v) w e t = tt

  loop_fits : (n : ℕ) (test : Env → World → Result Value) (step body : Env → World → Result Flow)
      → ((env : Env) (w : World) → Fits this width env → EveryValue FlowFits (step env w)) → ((env : Env) (w : World) → Fits this width env → EveryValue FlowFits (body env w))
      → (env : Env) (w : World) → Fits this width env → EveryValue FlowFits (loop n test step body env w)
  loop_fits zero test step body steps bodies env w fits = tt
  loop_fits (suc n) test step body steps bodies env w fits =
      every_after (tick w) _ (λ _ w1. every_after (test env w1) _ (λ v w2. every_choose (to_bool v) _ _ w2
      (every_bind FlowFits (body env w2) _ (bodies env w2 fits) (λ fl w3 e. again_fits _ fl w3 e
      (λ env1 w4 fits1. every_bind FlowFits (step env1 w4) _ (steps env1 w4 fits1)
      (λ fl1 w5 e1. flow_on_fits _ fl1 w5 e1 (λ env2 w6 fits2. loop_fits n test step body steps bodies env2 w6 fits2)))))
      fits))

  module _ (c : Context) where
    set_local_fits : (n : ℕ) (type : StaticType) (env : Env) (v : Value) (w : World) → Fits this width env → EveryValue FlowFits (source.set_local c n type env v w)
    set_local_fits n type env v w fits =
        every_after (convert c.program type v w) _ (λ v1 w1. every_need (slice_get env.locals n) w1 _
        (λ x. record { this_is = fits.this_is; width_is = as_many (λ _. v1) env.locals n ∙ fits.width_is }))

    put_fits : (place : Place) (e : Expr) (env : Env) (w : World) → Fits this width env → EveryValue FlowFits (source.put c place e env w)
    put_fits (Place.Local_place n type) e env w fits = every_after (eval c false e env w) _ (λ v w1. set_local_fits n type env v w1 fits)
    put_fits (Place.Property_place object name) e env w fits =
        every_after (eval c false object env w) _ (λ u w1. every_after (eval c false e env w1) _ (λ v w2. every_after (receiver false u w2) _ (λ o w3. every_after (assign c o name v w3) _ (λ _ w4. fits))))
    put_fits (Place.Element_place array index) e env w fits =
        every_after (eval c false array env w) _ (λ u w1. every_after (eval c false index env w1) _ (λ i w2. every_after (eval c false e env w2) _ (λ v w3.
        every_after (receiver false u w3) _ (λ o w4. every_after (write_element o i v w4) _ (λ _ w5. fits)))))

    update_fits : (place : Place) (operator : Operator) (e : Expr) (env : Env) (w : World) → Fits this width env → EveryValue FlowFits (source.update c place operator e env w)
    update_fits (Place.Local_place n type) operator e env w fits =
        every_need (slice_get env.locals n) w _ (λ old. every_after (source.combined c operator old e env w) _ (λ v w1. set_local_fits n type env v w1 fits))
    update_fits (Place.Property_place object name) operator e env w fits =
        every_after (eval c false object env w) _ (λ u w1. every_after (receiver false u w1) _ (λ o w2. every_after (read c.program o name w2) _ (λ old w3. every_after (source.combined c operator old e env w3) _ (λ v w4. every_after (assign c o name v w4) _ (λ _ w5. fits)))))
    update_fits (Place.Element_place array index) operator e env w fits =
        every_after (eval c false array env w) _ (λ u w1. every_after (eval c false index env w1) _ (λ i w2. every_after (receiver false u w2) _ (λ a w3.
        every_after (read_element a i w3) _ (λ old w4. every_after (source.combined c operator old e env w4) _ (λ v w5. every_after (write_element a i v w5) _ (λ _ w6. fits))))))

    mutual
      pub exec_fits : (result : Option StaticType) (s : Stmt) (env : Env) (w : World) → Fits this width env → EveryValue FlowFits (exec c result s env w)
      exec_fits result (Stmt.Do e) env w fits = every_after (eval c false e env w) _ (λ v w1. fits)
      exec_fits result (Stmt.Trace es) env w fits = every_after (eval_all c false es env w) _ (λ vs w1. every_after (source.trace vs w1) _ (λ _ w2. fits))
      exec_fits result (Stmt.Assign place e) env w fits = put_fits place e env w fits
      exec_fits result (Stmt.Update place operator e) env w fits = update_fits place operator e env w fits
      exec_fits result (Stmt.If test first second) env w fits =
          every_after (eval c false test env w) _ (λ v w1. every_choose (to_bool v) _ _ w1 (block_fits result first env w1 fits) (block_fits result second env w1 fits))
      exec_fits result (Stmt.Loop test step body) env w fits =
          loop_fits c.fuel _ _ _ (λ env1 w1 fits1. block_fits result step env1 w1 fits1) (λ env1 w1 fits1. block_fits result body env1 w1 fits1) env w fits
      exec_fits result (Stmt.Do_while body test) env w fits =
          every_bind FlowFits (exec_all c result body env w) _ (block_fits result body env w fits)
          (λ fl w1 e. again_fits _ fl w1 e (λ env1 w2 fits1. loop_fits c.fuel _ _ _ (λ env2 w3 fits2. fits2) (λ env2 w3 fits2. block_fits result body env2 w3 fits2) env1 w2 fits1))
      exec_fits result Stmt.Break env w fits = fits
      exec_fits result Stmt.Continue env w fits = fits
      exec_fits result (Stmt.Return None) env w fits = every_after (convert_result c.program result value.Undefined w) _ (λ v w1. tt)
      exec_fits result (Stmt.Return (Some e)) env w fits = every_after (eval c false e env w) _ (λ v w1. every_after (convert_result c.program result v w1) _ (λ v1 w2. tt))
      exec_fits result (Stmt.Super None es) env w fits = every_after (eval_all c false es env w) _ (λ vs w1. fits)
      exec_fits result (Stmt.Super (Some base) es) env w fits =
          every_after (eval_all c false es env w) _ (λ vs w1. every_after (prepare c base vs w1) _ (λ arguments w2. every_after (construct c base env.this arguments w2) _ (λ _ w3. fits)))

      pub block_fits : (result : Option StaticType) (block : Block) (env : Env) (w : World) → Fits this width env → EveryValue FlowFits (exec_all c result block env w)
      block_fits result NoStmt env w fits = fits
      block_fits result (MoreStmt s block) env w fits =
          every_bind FlowFits (exec c result s env w) _ (exec_fits result s env w fits) (λ fl w1 e. flow_on_fits _ fl w1 e (λ env1 w2 fits1. block_fits result block env1 w2 fits1))
