-- Which tokens a class file is.
use Rattle.std.specs.Prelude.{◌≡◌, ℕ, List, [], ◌∷◌, ◌++◌, Option, Some, None}
use Rattle.std.specs.Global.{Vec}
use Rattle.as3_lexer.specs.declared.keyword.Keyword.TheVariants as keyword
use Rattle.as3_lexer.specs.declared.mark.Mark.TheVariants as mark
use Rattle.as3_lexer.specs.declared.token.Token.{Token}
use Rattle.as3_lexer.specs.declared.token.TokenKind.TheVariants as kind
use Rattle.as3_parser.specs.declared.tree.Lexeme.{Lexeme}
use Rattle.as3_parser.specs.declared.tree.MetadataTag.{MetadataTag}
use Rattle.as3_parser.specs.declared.tree.Import.{Import}
use Rattle.as3_parser.specs.declared.tree.Modifier.{Modifier}
use Rattle.as3_parser.specs.declared.tree.Member.{Member}
use Rattle.as3_parser.specs.declared.tree.Class.{Class}
use Rattle.as3_parser.specs.declared.tree.ClassFile.{ClassFile}
use Rattle.as3_parser.specs.Trees.{lexeme_of, IsPath}
use Rattle.as3_parser.specs.Metadata.{AreTags}
use Rattle.as3_parser.specs.Members.{IsImport, AreModifiers, IsMember}

-- a path, if there is one, and `{`
pub data IsPackage (source : List ℕ) : Option (Vec Lexeme) → List Token → Type 0 where
  none : (t : Token) → t.kind ≡ kind.Mark mark.LeftBrace → IsPackage source None (t ∷ [])
  some : {w : List Token} (v : Vec Lexeme) (t : Token) → IsPath source v.items w → t.kind ≡ kind.Mark mark.LeftBrace → IsPackage source (Some v) (w ++ (t ∷ []))

pub data AreImports (source : List ℕ) : List Import → List Token → Type 0 where
  none : AreImports source [] []
  more : {xs : List Import} {x : Import} {v w : List Token} → AreImports source xs v → IsImport source x w → AreImports source (xs ++ x ∷ []) (v ++ w)

-- `extends` and a path, if it is there
pub data IsBase (source : List ℕ) : Option (Vec Lexeme) → List Token → Type 0 where
  none : IsBase source None []
  some : {w : List Token} (v : Vec Lexeme) (word : Token) → word.kind ≡ kind.Keyword keyword.Extends → IsPath source v.items w → IsBase source (Some v) (word ∷ w)

pub data AreMembers (source : List ℕ) : List Member → List Token → Type 0 where
  none : AreMembers source [] []
  more : {xs : List Member} {x : Member} {v w : List Token} → AreMembers source xs v → IsMember source x w → AreMembers source (xs ++ x ∷ []) (v ++ w)

-- tags modifiers `class` name base `{` members `}`
pub data IsClass (source : List ℕ) : Class → List Token → Type 0 where
  class : {b : Option (Vec Lexeme)} {t u v w : List Token} (metadata : Vec MetadataTag) (modifiers : Vec Modifier) (members : Vec Member) (word name left right : Token) → AreTags source metadata.items t → AreModifiers modifiers.items u → word.kind ≡ kind.Keyword keyword.Class → name.kind ≡ kind.Identifier → IsBase source b v → left.kind ≡ kind.Mark mark.LeftBrace → AreMembers source members.items w → right.kind ≡ kind.Mark mark.RightBrace →
      IsClass source (record { metadata = metadata; modifiers = modifiers; name = lexeme_of source name; base = b; members = members }) (t ++ (u ++ (word ∷ name ∷ (v ++ (left ∷ (w ++ (right ∷ [])))))))

-- `package` path `{` imports class `}`
pub data IsClassFile (source : List ℕ) : ClassFile → List Token → Type 0 where
  file : {p : Option (Vec Lexeme)} {c : Class} {u v w : List Token} (imports : Vec Import) (word right : Token) → word.kind ≡ kind.Keyword keyword.Package → IsPackage source p u → AreImports source imports.items v → IsClass source c w → right.kind ≡ kind.Mark mark.RightBrace →
      IsClassFile source (record { package_name = p; imports = imports; class = c }) (word ∷ (u ++ (v ++ (w ++ (right ∷ [])))))
