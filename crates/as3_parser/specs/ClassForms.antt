-- What the functions that build the trees of class files read.
use Rattle.std.specs.Prelude.{◌≡◌, ℕ, List, [], ◌∷◌, ◌++◌, Option}
use Rattle.std.specs.Global.{Vec}
use Rattle.as3_lexer.specs.declared.keyword.Keyword.TheVariants as keyword
use Rattle.as3_lexer.specs.declared.mark.Mark.TheVariants as mark
use Rattle.as3_lexer.specs.declared.token.Token.{Token}
use Rattle.as3_lexer.specs.declared.token.TokenKind.TheVariants as kind
use Rattle.as3_parser.specs.declared.tree.Lexeme.{Lexeme}
use Rattle.as3_parser.specs.declared.tree.Import.{Import}
use Rattle.as3_parser.specs.declared.tree.Member.{Member}
use Rattle.as3_parser.specs.declared.tree.Class.{Class}
use Rattle.as3_parser.specs.declared.tree.ClassFile.{ClassFile}
use Rattle.as3_parser.specs.Grammar.{Symbol, Part}
use Rattle.as3_parser.specs.Productions as production
use Rattle.as3_parser.specs.Ahead.{Reads}
use Rattle.as3_parser.specs.Forms.{part}
use Rattle.as3_parser.specs.Classes.{IsPackage, AreImports, IsBase, AreMembers, IsClass, IsClassFile}

-- the path of a package, and the mark behind it
abbrev pub package_symbols : List Symbol
package_symbols = Part production.optional_path ∷ production.sign mark.LeftBrace ∷ []

pub record ReadsPackage (source : List ℕ) (ts : List Token) (i j : ℕ) (x : Option (Vec Lexeme)) : Type 0 where
  pub is : Reads ts i j package_symbols [] (IsPackage source x)

pub record ReadsImports (source : List ℕ) (ts : List Token) (i j : ℕ) (v : Vec Import) : Type 0 where
  pub is : Reads ts i j (part production.imports) [] (AreImports source v.items)

pub record ReadsBase (source : List ℕ) (ts : List Token) (i j : ℕ) (x : Option (Vec Lexeme)) : Type 0 where
  pub is : Reads ts i j (part production.base_class) [] (IsBase source x)

-- the members of a class, and the mark behind them
abbrev pub members_symbols : List Symbol
members_symbols = Part production.class_members ∷ production.sign mark.RightBrace ∷ []

-- members, and a mark
pub record AreMembersClosed (source : List ℕ) (xs : List Member) (w : List Token) : Type 0 where
  pub inner_tokens : List Token
  pub right : Token
  pub is : w ≡ inner_tokens ++ (right ∷ [])
  pub are : AreMembers source xs inner_tokens
  pub brace : right.kind ≡ kind.Mark mark.RightBrace

pub record ReadsClassMembers (source : List ℕ) (ts : List Token) (i j : ℕ) (v : Vec Member) : Type 0 where
  pub is : Reads ts i j members_symbols [] (AreMembersClosed source v.items)

abbrev pub class_symbols : List Symbol
class_symbols = Part production.metadata_tags ∷ Part production.modifiers ∷ production.word keyword.Class ∷ production.identifier ∷ Part production.base_class ∷ production.sign mark.LeftBrace ∷ Part production.class_members ∷ production.sign mark.RightBrace ∷ []

pub record ReadsClass (source : List ℕ) (ts : List Token) (i j : ℕ) (x : Class) : Type 0 where
  pub is : Reads ts i j class_symbols [] (IsClass source x)

pub record ReadsClassFile (source : List ℕ) (ts : List Token) (i j : ℕ) (x : ClassFile) : Type 0 where
  pub is : Reads ts i j (part production.class_file) [] (IsClassFile source x)
