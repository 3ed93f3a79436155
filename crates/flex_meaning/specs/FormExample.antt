-- What a contact form of three classes means.
use Rattle.flex_world.specs.declared.operator.Operator.TheVariants as Operator
use Rattle.std.specs.Prelude.{List, None, Some, [], codes, false, true, ℕ, ◌++◌, ◌∷◌, ◌≡◌}
use Rattle.flex_base.specs.declared.event.UserEvent.{UserEvent}
use Rattle.flex_base.specs.declared.event.UserEvent.TheVariants as user
use Rattle.flex_base.specs.declared.record.TraceItem.{TraceItem}
use Rattle.flex_base.specs.declared.record.TraceItem.TheVariants.{Missed, Traced, User}
use Rattle.flex_base.specs.declared.value.Value.{Value}
use Rattle.flex_base.specs.declared.value.Value.TheVariants as value
use Rattle.component_catalog.specs.declared.class.NativeClass.TheVariants as native
use Rattle.flex_world.specs.declared.kind.Class.TheVariants as Class
use Rattle.flex_world.specs.declared.kind.StaticType.{StaticType}
use Rattle.flex_program.specs.Program.{Attribute, Change, Contents, Document, Expr, Instance, Literal, NoStmt, Override, Program, SourceClass, Stmt, Variable}
use Rattle.flex_meaning.specs.Terms.{added, block, call_my, children, clicks_on, document, ended, exprs, handler, heard, holding, id_of, instance, made, member, my, my_place, object_value, one_way, plain_variable, procedure, removed, sent, tag, text, texts, two_way, written}
use Rattle.flex_meaning.specs.Trace.{source_trace}

-- a word as a text
abbrev pub words : List ℕ → Value
words t = value.Text t

abbrev pub sets_text : List ℕ → List ℕ → Attribute
sets_text name t = Attribute.Sets name (Literal.Quoted t)

abbrev pub bound : List ℕ → Variable
bound name = plain_variable name StaticType.String (Some (text [])) true

-- a caption, and a field for a value
abbrev pub field_class : SourceClass
field_class =
    record {
      name = codes "comps.Field";
      base = Some (Class.Native native.Group);
      variables = bound (codes "caption") ∷ bound (codes "value") ∷ id_of native.TextInput (codes "input") ∷ [];
      members = [];
      constructor = None;
      document =
          Some (document
          (tag 0 native.Group None [] (children (tag 1 native.Label None [] Contents.NoContent ∷ tag 2 native.TextInput (Some (codes "input")) [] Contents.NoContent ∷ [])))
          (one_way (my (codes "caption")) ((codes "caption" ∷ []) ∷ []) 1 (codes "text") ∷ two_way 1 (my (codes "value")) (codes "value" ∷ []) 2 (codes "text"))
          []);
    }

abbrev pub contact_class : SourceClass
contact_class =
    record { name = codes "model.Contact"; base = None; variables = bound (codes "name") ∷ bound (codes "mail") ∷ []; members = []; constructor = None; document = None }

abbrev pub source_type : ℕ → StaticType
source_type k = StaticType.Object (Class.File k)

abbrev pub of_who : List ℕ → Expr
of_who name = Expr.Property (my (codes "who")) name

abbrev pub field : ℕ → List ℕ → List ℕ → Instance
field number id caption = instance number (Class.File 1) (Some id) None (sets_text (codes "caption") caption ∷ []) Contents.NoContent

abbrev pub locks : List Override
locks =
    record { instance = 4; change = Change.Changes_property (codes "label") (Literal.Quoted (codes "Wait")) }
    ∷ record { instance = 4; change = Change.Changes_property (codes "enabled") (Literal.Truth false) }
    ∷ []

abbrev pub thanks : Expr
thanks =
    Expr.Apply Operator.Plus
    (Expr.Apply Operator.Plus (Expr.Apply Operator.Plus (text []) (text (codes "Thanks, "))) (of_who (codes "name")))
    (text (codes "!"))

abbrev pub form_document : Document
form_document =
    document
    (tag 0 native.Application None []
    (Contents.Declared (instance 1 (Class.File 2) (Some (codes "who")) None [] Contents.NoContent)
    (children
    (field 2 (codes "f1") (codes "Name")
    ∷ field 3 (codes "f2") (codes "Mail")
    ∷ tag 4 native.Button (Some (codes "go")) (sets_text (codes "label") (codes "Send") ∷ Attribute.Handles (codes "click") 0 ∷ []) Contents.NoContent
    ∷ instance 5 (Class.Native native.Label) None (Some (record { states = codes "sent" ∷ []; container = 0; immediate = false; auto = false })) [] Contents.NoContent
    ∷ []))))
    (two_way 0 (of_who (codes "name")) (codes "who" ∷ codes "name" ∷ []) 2 (codes "value")
    ++ two_way 2 (of_who (codes "mail")) (codes "who" ∷ codes "mail" ∷ []) 3 (codes "value")
    ++ (one_way thanks ((codes "who" ∷ codes "name" ∷ []) ∷ []) 5 (codes "text") ∷ []))
    (record { name = codes "edit"; overrides = [] }
    ∷ record { name = codes "busy"; overrides = locks }
    ∷ record { name = codes "sent"; overrides = locks }
    ∷ [])

abbrev pub is_empty : List ℕ → Expr
is_empty name = Expr.Apply Operator.Equal (of_who name) (text [])

-- a form that is sent where both fields are filled
abbrev pub contact_form : Program
contact_form =
    record {
      classes =
          record {
            name = codes "ContactForm";
            base = Some (Class.Native native.Application);
            variables =
                holding (codes "who") (source_type 2)
                ∷ holding (codes "f1") (source_type 1)
                ∷ holding (codes "f2") (source_type 1)
                ∷ id_of native.Button (codes "go")
                ∷ [];
            members = member (codes "send") 1 ∷ [];
            constructor = None;
            document = Some form_document;
          }
          ∷ field_class
          ∷ contact_class
          ∷ [];
      methods =
          handler native.MouseEvent (Stmt.Do (call_my (codes "send") []) ∷ [])
          ∷ procedure []
          (Stmt.If (Expr.Or (is_empty (codes "name")) (is_empty (codes "mail"))) (block (Stmt.Trace (texts (codes "incomplete" ∷ [])) ∷ Stmt.Return None ∷ [])) NoStmt
          ∷ Stmt.Assign (my_place (codes "currentState")) (text (codes "busy"))
          ∷ Stmt.Trace (exprs (text (codes "sending") ∷ of_who (codes "name") ∷ []))
          ∷ Stmt.Assign (my_place (codes "currentState")) (text (codes "sent"))
          ∷ [])
          ∷ [];
      main = 0;
    }

abbrev pub type_into : List ℕ → List ℕ → UserEvent
type_into id t = user.Write (id ∷ codes "input" ∷ []) t (codes "type " ++ id ++ codes ".input \"" ++ t ++ codes "\"")

abbrev pub form_script : List UserEvent
form_script =
    clicks_on (codes "go")
    ∷ type_into (codes "f1") (codes "Ann")
    ∷ type_into (codes "f2") (codes "a@b.c")
    ∷ clicks_on (codes "go")
    ∷ clicks_on (codes "go")
    ∷ user.State (codes "edit") (codes "state edit")
    ∷ []

abbrev pub form_is_built : List TraceItem
form_is_built =
    made 1 (codes "ContactForm")
    ∷ made 2 (codes "model.Contact")
    ∷ written 2 (codes "name") (words [])
    ∷ written 2 (codes "mail") (words [])
    ∷ written 1 (codes "who") (object_value 2)
    ∷ made 3 (codes "comps.Field")
    ∷ written 3 (codes "caption") (words [])
    ∷ written 3 (codes "value") (words [])
    ∷ made 4 (codes "Label")
    ∷ added 3 4 0
    ∷ made 5 (codes "TextInput")
    ∷ written 3 (codes "input") (object_value 5)
    ∷ added 3 5 1
    ∷ written 1 (codes "f1") (object_value 3)
    ∷ written 3 (codes "caption") (words (codes "Name"))
    ∷ written 4 (codes "text") (words (codes "Name"))
    ∷ added 1 3 0
    ∷ made 6 (codes "comps.Field")
    ∷ written 6 (codes "caption") (words [])
    ∷ written 6 (codes "value") (words [])
    ∷ made 7 (codes "Label")
    ∷ added 6 7 0
    ∷ made 8 (codes "TextInput")
    ∷ written 6 (codes "input") (object_value 8)
    ∷ added 6 8 1
    ∷ written 1 (codes "f2") (object_value 6)
    ∷ written 6 (codes "caption") (words (codes "Mail"))
    ∷ written 7 (codes "text") (words (codes "Mail"))
    ∷ added 1 6 1
    ∷ made 9 (codes "Button")
    ∷ written 1 (codes "go") (object_value 9)
    ∷ written 9 (codes "label") (words (codes "Send"))
    ∷ added 1 9 2
    ∷ written 1 (codes "currentState") (words (codes "edit"))
    ∷ []

abbrev pub form_is_used : List TraceItem
form_is_used =
    User (codes "click go")
    ∷ sent 9 (codes "click")
    ∷ heard 9 (codes "click") 2
    ∷ Traced (codes "incomplete")
    ∷ User (codes "type f1.input \"Ann\"")
    ∷ written 5 (codes "text") (words (codes "Ann"))
    ∷ written 3 (codes "value") (words (codes "Ann"))
    ∷ written 2 (codes "name") (words (codes "Ann"))
    ∷ sent 5 (codes "change")
    ∷ User (codes "type f2.input \"a@b.c\"")
    ∷ written 8 (codes "text") (words (codes "a@b.c"))
    ∷ written 6 (codes "value") (words (codes "a@b.c"))
    ∷ written 2 (codes "mail") (words (codes "a@b.c"))
    ∷ sent 8 (codes "change")
    ∷ User (codes "click go")
    ∷ sent 9 (codes "click")
    ∷ heard 9 (codes "click") 2
    ∷ written 1 (codes "currentState") (words (codes "busy"))
    ∷ written 9 (codes "label") (words (codes "Wait"))
    ∷ written 9 (codes "enabled") (value.Bool false)
    ∷ Traced (codes "sending Ann")
    ∷ written 9 (codes "enabled") (value.Bool true)
    ∷ written 9 (codes "label") (words (codes "Send"))
    ∷ written 1 (codes "currentState") (words (codes "sent"))
    ∷ made 14 (codes "Label")
    ∷ written 14 (codes "text") (words (codes "Thanks, Ann!"))
    ∷ added 1 14 3
    ∷ written 9 (codes "label") (words (codes "Wait"))
    ∷ written 9 (codes "enabled") (value.Bool false)
    ∷ User (codes "click go")
    ∷ Missed (codes "go")
    ∷ User (codes "state edit")
    ∷ written 9 (codes "enabled") (value.Bool true)
    ∷ written 9 (codes "label") (words (codes "Send"))
    ∷ removed 1 14
    ∷ written 1 (codes "currentState") (words (codes "edit"))
    ∷ []

abbrev pub ContactFormMeans : Type 0
ContactFormMeans = source_trace contact_form form_script 1000000 ≡ ended (form_is_built ++ form_is_used)
