-- The program of a document of Labels and Buttons.
use Rattle.std.specs.List.{flat_map}
use Rattle.std.specs.Prelude.{List, None, Some, [], codes, map, true, ℕ, ◌+◌, ◌∷◌}
use Rattle.component_catalog.specs.declared.class.NativeClass.{NativeClass}
use Rattle.component_catalog.specs.declared.class.NativeClass.TheVariants as native
use Rattle.flex_front.specs.Source.{id_of}
use Rattle.flex_front.specs.declared.document.Document as Source
use Rattle.flex_front.specs.declared.document.Element.{Element}
use Rattle.flex_front.specs.declared.document.Element.TheVariants as element
use Rattle.flex_world.specs.declared.kind.Class.TheVariants as Class
use Rattle.flex_world.specs.declared.kind.StaticType.TheVariants as StaticType
use Rattle.flex_program.specs.Program.{Attribute, Contents, Document, Expr, Instance, Literal, Method, MoreExpr, MoreStmt, NoExpr, NoStmt, Part, Program, SourceClass, Stmt, Variable}

-- the class of an element
abbrev pub element_class : Element → NativeClass
element_class (element.Label id text) = native.Label
element_class (element.Button id click) = native.Button

-- a Label's text is set, a Button's handler is registered, by the number that the next handler has
abbrev pub attributes_of : ℕ → Element → List Attribute
attributes_of handler (element.Label id text) = Attribute.Sets (codes "text") (Literal.Quoted text) ∷ []
attributes_of handler (element.Button id None) = []
attributes_of handler (element.Button id (Some text)) = Attribute.Handles (codes "click") handler ∷ []

-- the number of the next handler, behind an element
abbrev pub next_handler : ℕ → Element → ℕ
next_handler handler (element.Button id (Some text)) = handler + 1
next_handler handler _ = handler

abbrev pub element_part : ℕ → ℕ → Element → Part
element_part number handler e =
    record {
      number = number;
      class = Class.Native (element_class e);
      id = Some (id_of e);
      presence = None;
      attributes = attributes_of handler e;
    }

abbrev pub child_of : ℕ → ℕ → Element → Instance
child_of number handler e = Instance.Holding (element_part number handler e) Contents.NoContent

-- elements one behind another, where the next instance and the next handler have these numbers
abbrev pub children_of : ℕ → ℕ → List Element → Contents
children_of number handler [] = Contents.NoContent
children_of number handler (e ∷ es) = Contents.Child (child_of number handler e) (children_of (number + 1) (next_handler handler e) es)

-- a handler of clicks, which traces a text
abbrev pub handler_of : List ℕ → Method
handler_of text =
    record {
      parameters = StaticType.Object (Class.Native native.MouseEvent) ∷ [];
      locals = [];
      result = None;
      body = MoreStmt (Stmt.Trace (MoreExpr (Expr.Constant (Literal.Quoted text)) NoExpr)) NoStmt;
    }

abbrev pub handlers_in : Element → List Method
handlers_in (element.Button id (Some text)) = handler_of text ∷ []
handlers_in _ = []

-- an element's id is a variable of its document
abbrev pub id_variable : Element → Variable
id_variable e =
    record {
      name = id_of e;
      type = StaticType.Object (Class.Native (element_class e));
      start = None;
      public = true;
      bindable = true;
    }

abbrev pub root_part : Part
root_part = record { number = 0; class = Class.Native native.Application; id = None; presence = None; attributes = [] }

abbrev pub root_of : List Element → Instance
root_of es = Instance.Holding root_part (children_of 1 0 es)

abbrev pub declared_document : List Element → Document
declared_document es = record { root = root_of es; bindings = []; states = [] }

abbrev pub main_class : List Element → SourceClass
main_class es =
    record {
      name = codes "Main";
      base = Some (Class.Native native.Application);
      variables = map id_variable es;
      members = [];
      constructor = None;
      document = Some (declared_document es);
    }

abbrev pub source_program : Source.Document → Program
source_program d = record { classes = main_class d.elements ∷ []; methods = flat_map handlers_in d.elements; main = 0 }
