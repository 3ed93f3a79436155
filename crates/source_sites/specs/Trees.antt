-- What the rules of members see of parsed code.
use Rattle.std.specs.Prelude.{ℕ, List, [], ◌∷◌, ◌++◌, map, Option, Some, None, codes}
use Rattle.std.specs.Global.{Vec}
use Rattle.as3_parser.specs.declared.tree.Lexeme.{Lexeme}
use Rattle.as3_parser.specs.declared.tree.Variable as v
use Rattle.as3_parser.specs.declared.tree.Parameter as p
use Rattle.as3_parser.specs.declared.tree.LoopStart.{LoopStart}
use Rattle.as3_parser.specs.declared.tree.LoopStart.TheVariants as start
use Rattle.as3_parser.specs.declared.tree.Statement as statement
use Rattle.as3_parser.specs.declared.tree.Statement.{Statement}
use Rattle.as3_parser.specs.declared.tree.Statement.TheVariants as s
use Rattle.as3_parser.specs.declared.tree.Body.{Body}
use Rattle.as3_parser.specs.declared.tree.ResultType as r
use Rattle.as3_parser.specs.declared.tree.ResultType.TheVariants as result
use Rattle.as3_parser.specs.declared.tree.MetadataTag as t
use Rattle.as3_parser.specs.declared.tree.Metadata.{Metadata}
use Rattle.as3_parser.specs.declared.tree.Import as i
use Rattle.as3_parser.specs.declared.tree.ImportStep.{ImportStep}
use Rattle.as3_parser.specs.declared.tree.ImportStep.TheVariants as step
use Rattle.as3_parser.specs.declared.tree.Member as m
use Rattle.as3_parser.specs.declared.tree.MemberKind.{MemberKind}
use Rattle.as3_parser.specs.declared.tree.MemberKind.TheVariants as kind
use Rattle.as3_parser.specs.declared.tree.Members.{Members}
use Rattle.as3_parser.specs.declared.tree.MembersItem.{MembersItem}
use Rattle.as3_parser.specs.declared.tree.MembersItem.TheVariants as item
use Rattle.source_sites.specs.declared.source.ParsedClass.{ParsedClass}
use Rattle.source_sites.specs.declared.names.Import.{Import}
use Rattle.source_sites.specs.Syntax.{TypedName, ResultType, Declares, MetadataTag, Member, Item, ClassFile}

abbrev pub variable_of : v.Variable → TypedName
variable_of v = record { name = v.name; type_name = v.type_name.items }

abbrev pub parameter_of : p.Parameter → TypedName
parameter_of p = record { name = p.name; type_name = p.type_name.items }

abbrev pub locals_of_start : Option LoopStart → List TypedName
locals_of_start None = []
locals_of_start (Some (start.Variables span variables)) = map variable_of variables.items
locals_of_start (Some (start.Simple simple)) = []

abbrev mutual
  -- the variables that a statement declares, in text order
  pub locals_of : Statement → List TypedName
  locals_of (s.Block' span shape statements) = locals_in statements
  locals_of (s.Variables span variables) = map variable_of variables.items
  locals_of (s.If' span test shape body) = locals_of body
  locals_of (s.IfElse' span test shape body other_shape other) = locals_of body ++ locals_of other
  locals_of (s.While' span test shape body) = locals_of body
  locals_of (s.DoWhile' span shape body test) = locals_of body
  locals_of (s.For' span head shape body) = locals_of_start head.start ++ locals_of body
  locals_of (s.Break span) = []
  locals_of (s.Continue span) = []
  locals_of (s.Return span value) = []
  locals_of (s.Empty span) = []
  locals_of (s.Simple span simple) = []

  pub locals_in : {n : _} → statement.Row_of-Statement n → List TypedName
  locals_in statement.end_of-Statement = []
  locals_in (statement.more_of-Statement s rest) = locals_of s ++ locals_in rest

abbrev pub locals_of_body : List Statement → List TypedName
locals_of_body [] = []
locals_of_body (s ∷ body) = locals_of s ++ locals_of_body body

-- those of a handler
abbrev pub locals_of_handler : Body → List TypedName
locals_of_handler body = locals_of_body body.statements.items

abbrev pub result_of : Option r.ResultType → ResultType
result_of None = ResultType.No_result
result_of (Some (result.Void span)) = ResultType.Void_result
result_of (Some (result.Path path)) = ResultType.Gives path.items

abbrev pub declares_of : MemberKind → Declares
declares_of (kind.Variables variables) = Declares.Variables (map variable_of variables.items)
declares_of (kind.Method name parameters result body) =
    Declares.Method (record { name = name; parameters = map parameter_of parameters.items; result = result_of result; locals = locals_of_body body.items })

abbrev pub tag_of : t.MetadataTag → MetadataTag
tag_of t = record { at = t.span.start; name = t.name.text; arguments = t.arguments.items }

abbrev pub tags_of : Metadata → List MetadataTag
tags_of metadata = map tag_of metadata.tags.items

abbrev pub member_of : m.Member → Member
member_of m = record { at = m.span.start; metadata = map tag_of m.metadata.items; modifiers = m.modifiers.items; declares = declares_of m.kind }

abbrev pub step_name : ImportStep → List ℕ
step_name (step.Name l) = l.text
step_name (step.All span) = codes "*"

abbrev pub import_of : i.Import → Import
import_of i = record { at = i.span.start; names = i.first.text ∷ map step_name i.steps.items }

abbrev pub item_of : MembersItem → Item
item_of (item.Import i) = Item.Imports (import_of i)
item_of (item.Member m) = Item.Declares_member (member_of m)

abbrev pub items_of : Members → List Item
items_of members = map item_of members.items.items

abbrev pub path_of : Option (Vec Lexeme) → Option (List Lexeme)
path_of None = None
path_of (Some path) = Some path.items

abbrev pub class_file_of : ParsedClass → ClassFile
class_file_of parsed =
    record {
      package_at = parsed.package_at;
      package_name = path_of parsed.file.package_name;
      imports = map import_of parsed.file.imports.items;
      class_at = parsed.class_at;
      metadata = map tag_of parsed.file.class.metadata.items;
      modifiers = parsed.file.class.modifiers.items;
      name = parsed.file.class.name;
      base = path_of parsed.file.class.base;
      members = map member_of parsed.file.class.members.items;
    }
