-- The type that a path names.
use Rattle.std.proofs.Common.{◌≡◌, ◌∙◌, List, [], ◌∷◌, map, refl, ap}
use Rattle.std.specs.Prelude.{Option, Some, None, unwrap_or}
use Rattle.source_sites.specs.Texts.{Text}
use Rattle.source_sites.specs.declared.names.NamedClass.{NamedClass}
use Rattle.as3_parser.specs.declared.tree.Lexeme.{Lexeme}
use Rattle.as3_parser.specs.declared.tree.Parameter as p
use Rattle.as3_parser.specs.declared.tree.ResultType as r
use Rattle.source_sites.specs.Syntax.{Function, TypedName}
use Rattle.source_sites.specs.Trees.{parameter_of, result_of}
use Rattle.source_sites.specs.Types.{Signature, ValueType}
use Rattle.source_sites.specs.Names.{Meaning, class_at, class_of, path_names}
use Rattle.source_sites.specs.Members.{result_type, signature_of, type_at, type_of_class}
use Rattle.as3_types.specs.Types.{built_in_path, function_of, type_of_parameter}

module _ (names : List NamedClass) (here : NamedClass) where
  -- one that stands for itself
  pub by_name : (path : List Text) (t : ValueType) → Some t ≡ built_in_path path → t ≡ type_at names here path
  by_name [] t e = cc
  by_name (name ∷ []) t e = ap (λ b. unwrap_or b (type_of_class (class_of (class_at names here (name ∷ []))))) e
  by_name (name ∷ other ∷ path) t e = cc

  of_class : (path : List Text) → None ≡ built_in_path path → type_of_class (class_of (class_at names here path)) ≡ type_at names here path
  of_class [] e = refl
  of_class (name ∷ []) e = ap (λ b. unwrap_or b (type_of_class (class_of (class_at names here (name ∷ []))))) e
  of_class (name ∷ other ∷ path) e = refl

  -- that of a class
  pub by_class : (path : List Text) (m : Meaning) (t : ValueType) → None ≡ built_in_path path → m ≡ class_at names here path → t ≡ type_of_class (class_of m) → t ≡ type_at names here path
  by_class path m t e at is = is ∙ (ap (λ m. type_of_class (class_of m)) at ∙ of_class path e)

  module _ (name : Lexeme) (parameters : List p.Parameter) (given : Option r.ResultType) (locals : List TypedName) where
    abbrev function : Function
    function = function_of name parameters given locals

    fused : (ps : List p.Parameter) → map (type_of_parameter names here) ps ≡ map (λ (p : TypedName). type_at names here (path_names p.type_name)) (map parameter_of ps)
    fused [] = refl
    fused (p ∷ ps) = ap (λ ts. type_of_parameter names here p ∷ ts) (fused ps)

    abbrev giving : List ValueType → Signature
    giving ts = record { parameters = ts; optional = 0; result = result_type names here function (result_of given) }

    pub types_of_parameters : giving (map (type_of_parameter names here) parameters) ≡ signature_of names here function
    types_of_parameters = ap giving (fused parameters)
