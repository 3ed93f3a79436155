-- The kinds of tokens by their numbers in the table.
use Rattle.std.specs.Prelude.{ℕ, List, map}
use Rattle.as3_lexer.specs.declared.keyword.Keyword.{Keyword}
use Rattle.as3_lexer.specs.declared.keyword.Keyword.TheVariants as keyword
use Rattle.as3_lexer.specs.declared.mark.Mark.{Mark}
use Rattle.as3_lexer.specs.declared.mark.Mark.TheVariants as mark
use Rattle.as3_lexer.specs.declared.token.Token.{Token}
use Rattle.as3_lexer.specs.declared.token.TokenKind.{TokenKind}
use Rattle.as3_lexer.specs.declared.token.TokenKind.TheVariants as kind

-- a keyword; 60 where no production names it
abbrev pub keyword_number : Keyword → ℕ
keyword_number keyword.As = 60
keyword_number keyword.Break = 30
keyword_number keyword.Case = 60
keyword_number keyword.Catch = 60
keyword_number keyword.Class = 2
keyword_number keyword.Const = 60
keyword_number keyword.Continue = 31
keyword_number keyword.Default = 60
keyword_number keyword.Delete = 60
keyword_number keyword.Do = 28
keyword_number keyword.Else = 26
keyword_number keyword.Extends = 4
keyword_number keyword.False = 55
keyword_number keyword.Finally = 60
keyword_number keyword.For = 29
keyword_number keyword.Function = 23
keyword_number keyword.If = 25
keyword_number keyword.Implements = 60
keyword_number keyword.Import = 6
keyword_number keyword.In = 60
keyword_number keyword.InstanceOf = 60
keyword_number keyword.Interface = 60
keyword_number keyword.Internal = 60
keyword_number keyword.Is = 60
keyword_number keyword.Native = 60
keyword_number keyword.New = 59
keyword_number keyword.Null = 56
keyword_number keyword.Override = 20
keyword_number keyword.Package = 0
keyword_number keyword.Private = 18
keyword_number keyword.Protected = 19
keyword_number keyword.Public = 17
keyword_number keyword.Return = 32
keyword_number keyword.Super = 58
keyword_number keyword.Switch = 60
keyword_number keyword.This = 57
keyword_number keyword.Throw = 60
keyword_number keyword.To = 60
keyword_number keyword.True = 54
keyword_number keyword.Try = 60
keyword_number keyword.TypeOf = 60
keyword_number keyword.Use = 60
keyword_number keyword.Var = 21
keyword_number keyword.Void = 24
keyword_number keyword.While = 27
keyword_number keyword.With = 60

abbrev pub mark_number : Mark → ℕ
mark_number mark.LeftBrace = 1
mark_number mark.RightBrace = 5
mark_number mark.LeftParenthesis = 11
mark_number mark.RightParenthesis = 13
mark_number mark.LeftBracket = 10
mark_number mark.RightBracket = 14
mark_number mark.Semicolon = 9
mark_number mark.Comma = 12
mark_number mark.Dot = 7
mark_number mark.Colon = 22
mark_number mark.Question = 38
mark_number mark.Assign = 15
mark_number mark.Equal = 41
mark_number mark.StrictEqual = 43
mark_number mark.NotEqual = 42
mark_number mark.StrictNotEqual = 44
mark_number mark.Less = 45
mark_number mark.LessOrEqual = 46
mark_number mark.Greater = 47
mark_number mark.GreaterOrEqual = 48
mark_number mark.Plus = 49
mark_number mark.Minus = 50
mark_number mark.Star = 8
mark_number mark.Slash = 60
mark_number mark.Percent = 51
mark_number mark.Not = 52
mark_number mark.And = 40
mark_number mark.Or = 39
mark_number mark.PlusAssign = 35
mark_number mark.MinusAssign = 36
mark_number mark.StarAssign = 37
mark_number mark.Increment = 33
mark_number mark.Decrement = 34

abbrev pub kind_number : TokenKind → ℕ
kind_number kind.Identifier = 3
kind_number (kind.Keyword k) = keyword_number k
kind_number kind.Number = 53
kind_number kind.Text = 16
kind_number (kind.Mark m) = mark_number m

abbrev pub kinds_of : List Token → List ℕ
kinds_of tokens = map (λ t. kind_number t.kind) tokens
