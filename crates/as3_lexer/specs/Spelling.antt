-- How keywords and marks are written.
use Rattle.std.specs.Prelude.{ℕ, List, [], ◌∷◌, Option, find, codes, bytes_eq, nat_eq}
use Rattle.std.specs.List.{starts_with}
use Rattle.as3_lexer.specs.declared.keyword.Keyword.{Keyword}
use Rattle.as3_lexer.specs.declared.keyword.Keyword.TheVariants as keyword
use Rattle.as3_lexer.specs.declared.mark.Mark.{Mark}
use Rattle.as3_lexer.specs.declared.mark.Mark.TheVariants as mark

abbrev pub keyword_spelling : Keyword → List ℕ
keyword_spelling keyword.As = codes "as"
keyword_spelling keyword.Break = codes "break"
keyword_spelling keyword.Case = codes "case"
keyword_spelling keyword.Catch = codes "catch"
keyword_spelling keyword.Class = codes "class"
keyword_spelling keyword.Const = codes "const"
keyword_spelling keyword.Continue = codes "continue"
keyword_spelling keyword.Default = codes "default"
keyword_spelling keyword.Delete = codes "delete"
keyword_spelling keyword.Do = codes "do"
keyword_spelling keyword.Else = codes "else"
keyword_spelling keyword.Extends = codes "extends"
keyword_spelling keyword.False = codes "false"
keyword_spelling keyword.Finally = codes "finally"
keyword_spelling keyword.For = codes "for"
keyword_spelling keyword.Function = codes "function"
keyword_spelling keyword.If = codes "if"
keyword_spelling keyword.Implements = codes "implements"
keyword_spelling keyword.Import = codes "import"
keyword_spelling keyword.In = codes "in"
keyword_spelling keyword.InstanceOf = codes "instanceof"
keyword_spelling keyword.Interface = codes "interface"
keyword_spelling keyword.Internal = codes "internal"
keyword_spelling keyword.Is = codes "is"
keyword_spelling keyword.Native = codes "native"
keyword_spelling keyword.New = codes "new"
keyword_spelling keyword.Null = codes "null"
keyword_spelling keyword.Override = codes "override"
keyword_spelling keyword.Package = codes "package"
keyword_spelling keyword.Private = codes "private"
keyword_spelling keyword.Protected = codes "protected"
keyword_spelling keyword.Public = codes "public"
keyword_spelling keyword.Return = codes "return"
keyword_spelling keyword.Super = codes "super"
keyword_spelling keyword.Switch = codes "switch"
keyword_spelling keyword.This = codes "this"
keyword_spelling keyword.Throw = codes "throw"
keyword_spelling keyword.To = codes "to"
keyword_spelling keyword.True = codes "true"
keyword_spelling keyword.Try = codes "try"
keyword_spelling keyword.TypeOf = codes "typeof"
keyword_spelling keyword.Use = codes "use"
keyword_spelling keyword.Var = codes "var"
keyword_spelling keyword.Void = codes "void"
keyword_spelling keyword.While = codes "while"
keyword_spelling keyword.With = codes "with"

abbrev pub mark_spelling : Mark → List ℕ
mark_spelling mark.LeftBrace = codes "{"
mark_spelling mark.RightBrace = codes "}"
mark_spelling mark.LeftParenthesis = codes "("
mark_spelling mark.RightParenthesis = codes ")"
mark_spelling mark.LeftBracket = codes "["
mark_spelling mark.RightBracket = codes "]"
mark_spelling mark.Semicolon = codes ";"
mark_spelling mark.Comma = codes ","
mark_spelling mark.Dot = codes "."
mark_spelling mark.Colon = codes ":"
mark_spelling mark.Question = codes "?"
mark_spelling mark.Assign = codes "="
mark_spelling mark.Equal = codes "=="
mark_spelling mark.StrictEqual = codes "==="
mark_spelling mark.NotEqual = codes "!="
mark_spelling mark.StrictNotEqual = codes "!=="
mark_spelling mark.Less = codes "<"
mark_spelling mark.LessOrEqual = codes "<="
mark_spelling mark.Greater = codes ">"
mark_spelling mark.GreaterOrEqual = codes ">="
mark_spelling mark.Plus = codes "+"
mark_spelling mark.Minus = codes "-"
mark_spelling mark.Star = codes "*"
mark_spelling mark.Slash = codes "/"
mark_spelling mark.Percent = codes "%"
mark_spelling mark.Not = codes "!"
mark_spelling mark.And = codes "&&"
mark_spelling mark.Or = codes "||"
mark_spelling mark.PlusAssign = codes "+="
mark_spelling mark.MinusAssign = codes "-="
mark_spelling mark.StarAssign = codes "*="
mark_spelling mark.Increment = codes "++"
mark_spelling mark.Decrement = codes "--"

-- the keywords, in the order of the alphabet
abbrev pub keywords : List Keyword
keywords =
    keyword.As ∷ keyword.Break ∷ keyword.Case ∷ keyword.Catch ∷ keyword.Class ∷ keyword.Const ∷ keyword.Continue
    ∷ keyword.Default ∷ keyword.Delete ∷ keyword.Do ∷ keyword.Else ∷ keyword.Extends ∷ keyword.False
    ∷ keyword.Finally ∷ keyword.For ∷ keyword.Function ∷ keyword.If ∷ keyword.Implements ∷ keyword.Import
    ∷ keyword.In ∷ keyword.InstanceOf ∷ keyword.Interface ∷ keyword.Internal ∷ keyword.Is ∷ keyword.Native
    ∷ keyword.New ∷ keyword.Null ∷ keyword.Override ∷ keyword.Package ∷ keyword.Private ∷ keyword.Protected
    ∷ keyword.Public ∷ keyword.Return ∷ keyword.Super ∷ keyword.Switch ∷ keyword.This ∷ keyword.Throw ∷ keyword.To
    ∷ keyword.True ∷ keyword.Try ∷ keyword.TypeOf ∷ keyword.Use ∷ keyword.Var ∷ keyword.Void ∷ keyword.While
    ∷ keyword.With ∷ []

-- the marks, longer ones first
abbrev pub marks : List Mark
marks =
    mark.StrictEqual ∷ mark.StrictNotEqual ∷ mark.Equal ∷ mark.NotEqual ∷ mark.LessOrEqual ∷ mark.GreaterOrEqual
    ∷ mark.And ∷ mark.Or ∷ mark.PlusAssign ∷ mark.MinusAssign ∷ mark.StarAssign ∷ mark.Increment ∷ mark.Decrement
    ∷ mark.LeftBrace ∷ mark.RightBrace ∷ mark.LeftParenthesis ∷ mark.RightParenthesis ∷ mark.LeftBracket
    ∷ mark.RightBracket ∷ mark.Semicolon ∷ mark.Comma ∷ mark.Dot ∷ mark.Colon ∷ mark.Question ∷ mark.Assign
    ∷ mark.Less ∷ mark.Greater ∷ mark.Plus ∷ mark.Minus ∷ mark.Star ∷ mark.Slash ∷ mark.Percent ∷ mark.Not ∷ []

-- the keyword that is written so
abbrev pub keyword_of : List ℕ → Option Keyword
keyword_of word = find (λ k. bytes_eq (keyword_spelling k) word) keywords

-- the longest mark that begins a text
abbrev pub mark_of : List ℕ → Option Mark
mark_of text = find (λ m. starts_with nat_eq text (mark_spelling m)) marks
