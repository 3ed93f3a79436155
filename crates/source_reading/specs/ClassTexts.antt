-- What the text of a class file reads as, with the places that its rules name.
use Rattle.std.specs.Prelude.{◌≡◌, ℕ, ◌+◌, ◌*◌, List, [], ◌∷◌, ◌++◌, length, Option, Some, None}
use Rattle.std.specs.Global.{Vec}
use Rattle.std.specs.List.{sum_by}
use Rattle.as3_lexer.specs.declared.token.Token.{Token}
use Rattle.as3_lexer.specs.Tokens.{HasTokens}
use Rattle.as3_parser.specs.declared.tree.Class.{Class}
use Rattle.as3_parser.specs.declared.tree.ClassFile.{ClassFile}
use Rattle.as3_parser.specs.declared.tree.Import.{Import}
use Rattle.as3_parser.specs.declared.tree.Lexeme.{Lexeme}
use Rattle.as3_parser.specs.Classes.{IsClass}
use Rattle.as3_parser.specs.Parsed.{IsClassFileOf}
use Rattle.source_sites.specs.declared.source.ParsedClass.{ParsedClass}
use Rattle.source_reading.specs.CodeTexts.{place_of_token}

-- the tokens of a class stand before the last `}`, and its first one at this place
pub record ClassBegins (text : List ℕ) (tokens : List Token) (c : Class) (at : ℕ) : Type 0 where
  pub early : List Token
  pub own : List Token
  pub closing : Token
  pub is : tokens ≡ early ++ (own ++ closing ∷ [])
  pub is_class : IsClass text c own
  pub stands : at ≡ place_of_token text tokens (length early)

-- a text is a class file with this tree, whose word `package` is its first token
pub record IsParsedIn (text : List ℕ) (x : ParsedClass) : Type 0 where
  pub tokens : List Token
  pub are : HasTokens text tokens
  pub tree : IsClassFileOf text tokens x.file
  pub starts : x.package_at ≡ place_of_token text tokens 0
  pub begins : ClassBegins text tokens x.file.class x.class_at

-- how many tokens an import has, and the words `package` with its path and `{`
abbrev pub import_tokens : Import → ℕ
import_tokens i = length i.steps.items * 2 + 3

abbrev pub package_tokens : Option (Vec Lexeme) → ℕ
package_tokens None = 2
package_tokens (Some path) = length path.items * 2 + 1

-- how many tokens stand before the class
abbrev pub tokens_before : ClassFile → ℕ
tokens_before file = package_tokens file.package_name + sum_by import_tokens file.imports.items

-- a class file with its places among the tokens of a text
abbrev pub class_placed : List ℕ → List Token → ClassFile → ParsedClass
class_placed text tokens file = record { package_at = place_of_token text tokens 0; class_at = place_of_token text tokens (tokens_before file); file = file }
