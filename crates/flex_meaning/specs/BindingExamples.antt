-- What small programs with bindings mean.
use Rattle.flex_world.specs.declared.operator.Operator.TheVariants as Operator
use Rattle.std.specs.Prelude.{List, None, Some, [], codes, false, pos, true, ℕ, ◌++◌, ◌∷◌, ◌≡◌}
use Rattle.flex_base.specs.declared.event.UserEvent.TheVariants as user
use Rattle.flex_base.specs.declared.record.TraceItem.{TraceItem}
use Rattle.flex_base.specs.declared.record.TraceItem.TheVariants.{Traced, User}
use Rattle.flex_base.specs.declared.value.Value.TheVariants as value
use Rattle.component_catalog.specs.declared.class.NativeClass.TheVariants as native
use Rattle.flex_world.specs.declared.kind.Class.TheVariants as Class
use Rattle.flex_world.specs.declared.kind.StaticType.{StaticType}
use Rattle.flex_program.specs.Program.{Attribute, Contents, Expr, Instance, NoExpr, Place, Program, SourceClass, Stmt, Variable}
use Rattle.flex_meaning.specs.Terms.{added, alone, application, block, call_my, root_is_complete, document, ended, handler, id_of, made, member, my, my_place, number, object_value, of_class, one_way, plain_variable, procedure, root, sent, tag, text, texts, two_way, when_complete, written}
use Rattle.flex_meaning.specs.Trace.{source_trace}

-- `base.name`
abbrev pub dot : Expr → List ℕ → Expr
dot base name = Expr.Property base name

abbrev pub source_type : ℕ → StaticType
source_type k = StaticType.Object (Class.File k)

abbrev pub new : ℕ → Expr
new k = Expr.New (Class.File k) NoExpr

-- a class without a base
abbrev pub model : List ℕ → List Variable → SourceClass
model name variables = record { name = name; base = None; variables = variables; members = []; constructor = None; document = None }

abbrev pub unset : List ℕ → StaticType → Variable
unset name type = plain_variable name type None true

abbrev pub label : List Attribute → Instance
label attributes = tag 1 native.Label (Some (codes "out")) attributes Contents.NoContent

abbrev pub out : Variable
out = id_of native.Label (codes "out")

-- a Label that shows `a.b.name`; `a` is made and replaced, and then the old `b` gets another name
abbrev pub replacer : Program
replacer =
    record {
      classes =
          application
          (unset (codes "a") (source_type 1) ∷ plain_variable (codes "old") (source_type 2) None false ∷ out ∷ [])
          (member (codes "init") 1 ∷ member (codes "make") 2 ∷ [])
          (document (root (when_complete 0) (label [] ∷ []))
          (one_way (dot (dot (my (codes "a")) (codes "b")) (codes "name")) ((codes "a" ∷ codes "b" ∷ codes "name" ∷ []) ∷ []) 1 (codes "text") ∷ []) [])
          ∷ model (codes "A") (unset (codes "b") (source_type 2) ∷ [])
          ∷ model (codes "B") (unset (codes "name") StaticType.String ∷ [])
          ∷ [];
      methods =
          handler native.FlexEvent (Stmt.Do (call_my (codes "init") (Expr.Local 0 ∷ [])) ∷ [])
          ∷ procedure (of_class native.FlexEvent ∷ [])
          (Stmt.Assign (my_place (codes "a")) (call_my (codes "make") (text (codes "one") ∷ []))
          ∷ Stmt.Assign (my_place (codes "old")) (dot (my (codes "a")) (codes "b"))
          ∷ Stmt.Assign (my_place (codes "a")) (call_my (codes "make") (text (codes "two") ∷ []))
          ∷ Stmt.Assign (Place.Property_place (my (codes "old")) (codes "name")) (text (codes "late"))
          ∷ [])
          ∷ record {
            parameters = StaticType.String ∷ [];
            locals = source_type 1 ∷ [];
            result = Some (source_type 1);
            body =
                block
                (Stmt.Assign (Place.Local_place 1 (source_type 1)) (new 1)
                ∷ Stmt.Assign (Place.Property_place (Expr.Local 1) (codes "b")) (new 2)
                ∷ Stmt.Assign (Place.Property_place (dot (Expr.Local 1) (codes "b")) (codes "name")) (Expr.Local 0)
                ∷ Stmt.Return (Some (Expr.Local 1))
                ∷ []);
          }
          ∷ [];
      main = 0;
    }

abbrev pub label_is_built : List TraceItem
label_is_built = made 1 (codes "Main") ∷ made 2 (codes "Label") ∷ written 1 (codes "out") (object_value 2) ∷ added 1 2 0 ∷ []

abbrev pub ReplacedMeans : Type 0
ReplacedMeans =
    source_trace replacer [] 1000000
    ≡ ended
    (label_is_built
    ++ root_is_complete
    ++ (made 4 (codes "A")
    ∷ made 5 (codes "B")
    ∷ written 4 (codes "b") (object_value 5)
    ∷ written 5 (codes "name") (value.Text (codes "one"))
    ∷ written 1 (codes "a") (object_value 4)
    ∷ written 2 (codes "text") (value.Text (codes "one"))
    ∷ written 1 (codes "old") (object_value 5)
    ∷ made 6 (codes "A")
    ∷ made 7 (codes "B")
    ∷ written 6 (codes "b") (object_value 7)
    ∷ written 7 (codes "name") (value.Text (codes "two"))
    ∷ written 1 (codes "a") (object_value 6)
    ∷ written 2 (codes "text") (value.Text (codes "two"))
    ∷ written 5 (codes "name") (value.Text (codes "late"))
    ∷ []))

-- one object twice in the chain `head.next.next.v`
abbrev pub ring : Program
ring =
    record {
      classes =
          application (unset (codes "head") (source_type 1) ∷ out ∷ []) (member (codes "show") 1 ∷ [])
          (document (root (when_complete 0) (label [] ∷ []))
          (one_way (call_my (codes "show") (dot (dot (dot (my (codes "head")) (codes "next")) (codes "next")) (codes "v") ∷ [])) ((codes "head" ∷ codes "next" ∷ codes "next" ∷ codes "v" ∷ []) ∷ []) 1 (codes "text")
          ∷ []) [])
          ∷ model (codes "N") (unset (codes "next") (source_type 1) ∷ unset (codes "v") StaticType.Int ∷ [])
          ∷ [];
      methods =
          handler native.FlexEvent
          (Stmt.Assign (my_place (codes "head")) (new 1)
          ∷ Stmt.Assign (Place.Property_place (my (codes "head")) (codes "next")) (my (codes "head"))
          ∷ Stmt.Assign (Place.Property_place (my (codes "head")) (codes "v")) (number 7)
          ∷ [])
          ∷ record {
            parameters = StaticType.Int ∷ [];
            locals = [];
            result = Some StaticType.String;
            body = block (Stmt.Trace (texts (codes "run" ∷ [])) ∷ Stmt.Return (Some (Expr.Apply Operator.Plus (text []) (Expr.Local 0))) ∷ []);
          }
          ∷ [];
      main = 0;
    }

abbrev pub RingMeans : Type 0
RingMeans =
    source_trace ring [] 1000000
    ≡ ended
    (label_is_built
    ++ root_is_complete
    ++ (made 4 (codes "N")
    ∷ written 1 (codes "head") (object_value 4)
    ∷ written 4 (codes "next") (object_value 4)
    ∷ Traced (codes "run")
    ∷ written 2 (codes "text") (value.Text (codes "0"))
    ∷ written 4 (codes "v") (value.Int (pos 7))
    ∷ Traced (codes "run")
    ∷ written 2 (codes "text") (value.Text (codes "7"))
    ∷ []))

-- `@{who}`
abbrev pub twin : Program
twin =
    alone
    (application (plain_variable (codes "who") StaticType.String (Some (text [])) true ∷ id_of native.TextInput (codes "field") ∷ []) []
    (document (root [] (tag 1 native.TextInput (Some (codes "field")) [] Contents.NoContent ∷ [])) (two_way 0 (my (codes "who")) (codes "who" ∷ []) 1 (codes "text")) []))
    []

abbrev pub TwinMeans : Type 0
TwinMeans =
    source_trace twin (user.Write (codes "field" ∷ []) (codes "Ann") (codes "type field \"Ann\"") ∷ []) 1000000
    ≡ ended
    (made 1 (codes "Main")
    ∷ written 1 (codes "who") (value.Text [])
    ∷ made 2 (codes "TextInput")
    ∷ written 1 (codes "field") (object_value 2)
    ∷ added 1 2 0
    ∷ User (codes "type field \"Ann\"")
    ∷ written 2 (codes "text") (value.Text (codes "Ann"))
    ∷ written 1 (codes "who") (value.Text (codes "Ann"))
    ∷ sent 2 (codes "change")
    ∷ [])
