-- Declared trees, through the lists in them.
use Rattle.std.proofs.Common.{ap, refl, sym, ◌∙◌}
use Rattle.std.specs.Global.{Vec}
use Rattle.std.specs.List.{fold}
use Rattle.std.specs.Prelude.{option_map, ◌≡◌}
use Rattle.flex_program.specs.CodeTerms.{block_in, block_of, expr_of, exprs_in, exprs_of, start_of, step_from, steps_from, stmt_of}
use Rattle.flex_program.specs.DocumentTerms.{content_before, contents_in, contents_of, given_of, givens_in, givens_of, instance_of, part_of}
use Rattle.flex_program.specs.Forms.{ContentForms, GivenForms, StartForms, StepForms, StmtForms}
use Rattle.flex_program.specs.Program.{Block, Contents, Expr, Exprs, Given, Givens, Instance, Stmt}
use Rattle.flex_program.specs.declared.code as code
use Rattle.flex_program.specs.declared.code.Expr as E
use Rattle.flex_program.specs.declared.code.Start as B
use Rattle.flex_program.specs.declared.code.Step as S
use Rattle.flex_program.specs.declared.code.Stmt as Q
use Rattle.flex_program.specs.declared.document as document
use Rattle.flex_program.specs.declared.document.Content as H
use Rattle.flex_program.specs.declared.document.Given as G
use Rattle.flex_program.specs.declared.document.Instance as I

steps_in_row : {n : _} (e : Expr) (row : S.Row_of-Step n) → steps_from e row ≡ fold step_from e (S.items-the_row-Step n row)
steps_in_row e S.end_of-Step = refl
steps_in_row e (S.more_of-Step s rest) = steps_in_row (step_from e s) rest

block_in_row : {n : _} (row : Q.Row_of-Stmt n) → block_in row ≡ block_of (Q.items-the_row-Stmt n row)
block_in_row Q.end_of-Stmt = refl
block_in_row (Q.more_of-Stmt s rest) = ap (Block.MoreStmt (stmt_of s)) (block_in_row rest)

contents_in_row : {n : _} (row : I.Row_of-Content n) → contents_in row ≡ contents_of (I.items-the_row-Content n row)
contents_in_row I.end_of-Content = refl
contents_in_row (I.more_of-Content c rest) = ap (content_before c) (contents_in_row rest)

givens_in_row : {n : _} (row : G.Row_of-Given n) → givens_in row ≡ givens_of (G.items-the_row-Given n row)
givens_in_row G.end_of-Given = refl
givens_in_row (G.more_of-Given g rest) = ap (Givens.MoreGiven (given_of g)) (givens_in_row rest)

steps_held : (e : Expr) (v : Vec code.Step.Step) → steps_from e (B.TheBlock.hidden-the_row-Step-0 v) ≡ fold step_from e v.items
steps_held e v = steps_in_row e (B.TheBlock.hidden-the_row-Step-0 v) ∙ ap (fold step_from e) (S.items_hidden-the_row-Step-0 v)

block_held : (v : Vec code.Stmt.Stmt) → block_in (Q.TheBlock.hidden-the_row-Stmt-0 v) ≡ block_of v.items
block_held v = block_in_row (Q.TheBlock.hidden-the_row-Stmt-0 v) ∙ ap block_of (Q.items_hidden-the_row-Stmt-0 v)

steps_shown : (e : Expr) (shape : _) (row : _) → steps_from e row ≡ fold step_from e (B.TheBlock.shown-the_row-Step-0 shape row).items
steps_shown e shape row = steps_in_row e row ∙ ap (fold step_from e) (sym (S.items_shown-the_row-Step-0 shape row))

exprs_in_row : {n : _} (row : B.Row_of-Expr n) → exprs_in row ≡ exprs_of (B.items-the_row-Expr n row)
exprs_in_row B.end_of-Expr = refl
exprs_in_row (B.more_of-Expr b shape steps rest) =
    ap (λ e. Exprs.MoreExpr e (exprs_in rest)) (steps_shown (start_of b) shape steps)
    ∙ ap (Exprs.MoreExpr (fold step_from (start_of b) (B.TheBlock.shown-the_row-Step-0 shape steps).items)) (exprs_in_row rest)

exprs_held : (v : Vec code.Expr.Expr) → exprs_in (B.TheBlock.hidden-the_row-Expr-1 v) ≡ exprs_of v.items
exprs_held v = exprs_in_row (B.TheBlock.hidden-the_row-Expr-1 v) ∙ ap exprs_of (B.items_hidden-the_row-Expr-1 v)

contents_held : (v : Vec document.Content.Content) → contents_in (H.TheBlock.hidden-the_row-Content-0 v) ≡ contents_of v.items
contents_held v = contents_in_row (H.TheBlock.hidden-the_row-Content-0 v) ∙ ap contents_of (I.items_hidden-the_row-Content-0 v)

givens_held : (v : Vec document.Given.Given) → givens_in (H.TheBlock.hidden-the_row-Given-1 v) ≡ givens_of v.items
givens_held v = givens_in_row (H.TheBlock.hidden-the_row-Given-1 v) ∙ ap givens_of (G.items_hidden-the_row-Given-1 v)

expr_held : (e : code.Expr.Expr) → steps_from (start_of e.start) (B.TheBlock.hidden-the_row-Step-0 e.steps) ≡ expr_of e
expr_held e = steps_held (start_of e.start) e.steps

instance_held : (i : document.Instance.Instance) → Instance.Holding (part_of i.part) (contents_in (H.TheBlock.hidden-the_row-Content-0 i.contents)) ≡ instance_of i
instance_held i = ap (Instance.Holding (part_of i.part)) (contents_held i.contents)

pub start_forms : StartForms
start_forms =
    record {
      array = λ items. ap Expr.Items (exprs_held items);
      call_super = λ base name arguments. ap (Expr.Call_super base name) (exprs_held arguments);
      new = λ class arguments. ap (Expr.New class) (exprs_held arguments);
    }

pub step_forms : (e : Expr) → StepForms e
step_forms e =
    record {
      element = λ index. ap (Expr.Element e) (expr_held index);
      call = λ name arguments. ap (Expr.Call e name) (exprs_held arguments);
      push = λ value. ap (Expr.Push e) (expr_held value);
      apply = λ operator right. ap (Expr.Apply operator e) (expr_held right);
      and = λ right. ap (Expr.And e) (expr_held right);
      or = λ right. ap (Expr.Or e) (expr_held right);
      choose = λ a b type. λ i. Expr.Choose e (expr_held a i) (expr_held b i) type;
    }

pub stmt_forms : StmtForms
stmt_forms =
    record {
      branch = λ test a b. λ i. Stmt.If (expr_of test) (block_held a i) (block_held b i);
      loop = λ test a b. λ i. Stmt.Loop (option_map expr_of test) (block_held a i) (block_held b i);
      do_while = λ body test. ap (λ block. Stmt.Do_while block (expr_of test)) (block_held body);
    }

pub content_forms : (rest : Contents) → ContentForms rest
content_forms rest =
    record {
      child = λ x. ap (λ i. Contents.Child i rest) (instance_held x);
      tag = λ name g. refl;
      declared = λ x. ap (λ i. Contents.Declared i rest) (instance_held x);
      declared_value = λ id g. refl;
    }

pub given_forms : GivenForms
given_forms =
    record {
      instance = λ x. ap Given.Given_instance (instance_held x);
      array = λ items. ap Given.Given_array (givens_held items);
    }
