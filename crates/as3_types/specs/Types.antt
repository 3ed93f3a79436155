-- The types that the code keeps, and the functions that it reads.
use Rattle.std.specs.Prelude.{List, [], ◌∷◌, Option, None, map}
use Rattle.as3_parser.specs.declared.tree.Lexeme.{Lexeme}
use Rattle.as3_parser.specs.declared.tree.Parameter as p
use Rattle.as3_parser.specs.declared.tree.ResultType as r
use Rattle.source_sites.specs.Syntax.{Function, TypedName}
use Rattle.source_sites.specs.Trees.{parameter_of, result_of}
use Rattle.source_sites.specs.Texts.{Text}
use Rattle.source_sites.specs.Types as sites
use Rattle.source_sites.specs.declared.names.NamedClass.{NamedClass}
use Rattle.source_sites.specs.Names.{path_names}
use Rattle.source_sites.specs.Members.{built_in, type_at}
use Rattle.as3_types.specs.declared.types.ValueType.{ValueType}
use Rattle.as3_types.specs.declared.types.ValueType.TheVariants as type
use Rattle.as3_types.specs.declared.types.Signature.{Signature}

abbrev pub type_of : ValueType → sites.ValueType
type_of type.Int = sites.ValueType.Int
type_of type.Boolean = sites.ValueType.Boolean
type_of type.String = sites.ValueType.String
type_of type.Array = sites.ValueType.Array
type_of (type.Object c) = sites.ValueType.Object c
type_of type.Any = sites.ValueType.Any
type_of type.Nothing = sites.ValueType.Nothing
type_of type.Void = sites.ValueType.Void
type_of type.Listener = sites.ValueType.Listener
type_of type.Unknown = sites.ValueType.Unknown

abbrev pub signature_as : Signature → sites.Signature
signature_as s = record { parameters = map type_of s.parameters; optional = s.optional; result = type_of s.result }

-- a function by its parts, with the local variables of its body
abbrev pub function_of : Lexeme → List p.Parameter → Option r.ResultType → List TypedName → Function
function_of name parameters result locals = record { name = name; parameters = map parameter_of parameters; result = result_of result; locals = locals }

-- the type that stands for itself, where a path is its name alone
abbrev pub built_in_path : List Text → Option sites.ValueType
built_in_path (name ∷ []) = built_in name
built_in_path _ = None

-- the type of a parameter in the code of a class
abbrev pub type_of_parameter : List NamedClass → NamedClass → p.Parameter → sites.ValueType
type_of_parameter names here parameter = type_at names here (path_names parameter.type_name.items)
