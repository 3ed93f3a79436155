-- A kind that the grammar names is known by its number.
use Rattle.std.proofs.Common.{◌≡◌, true, List, [], ◌∷◌, Some, refl, sym, ap, subst, ◌∙◌, ltb}
use Rattle.as3_lexer.specs.declared.keyword.Keyword.{Keyword}
use Rattle.as3_lexer.specs.declared.keyword.Keyword.TheVariants as keyword
use Rattle.as3_lexer.specs.declared.mark.Mark.{Mark}
use Rattle.as3_lexer.specs.declared.mark.Mark.TheVariants as mark
use Rattle.as3_lexer.specs.declared.token.TokenKind.{TokenKind}
use Rattle.as3_lexer.specs.declared.token.TokenKind.TheVariants as kind
use Rattle.as3_parser.specs.Grammar.{nth}
use Rattle.as3_parser.specs.Kinds.{kind_number, keyword_number, mark_number}

-- the kinds by their numbers
abbrev kinds : List TokenKind
kinds =
    (kind.Keyword keyword.Package)
    ∷ (kind.Mark mark.LeftBrace)
    ∷ (kind.Keyword keyword.Class)
    ∷ kind.Identifier
    ∷ (kind.Keyword keyword.Extends)
    ∷ (kind.Mark mark.RightBrace)
    ∷ (kind.Keyword keyword.Import)
    ∷ (kind.Mark mark.Dot)
    ∷ (kind.Mark mark.Star)
    ∷ (kind.Mark mark.Semicolon)
    ∷ (kind.Mark mark.LeftBracket)
    ∷ (kind.Mark mark.LeftParenthesis)
    ∷ (kind.Mark mark.Comma)
    ∷ (kind.Mark mark.RightParenthesis)
    ∷ (kind.Mark mark.RightBracket)
    ∷ (kind.Mark mark.Assign)
    ∷ kind.Text
    ∷ (kind.Keyword keyword.Public)
    ∷ (kind.Keyword keyword.Private)
    ∷ (kind.Keyword keyword.Protected)
    ∷ (kind.Keyword keyword.Override)
    ∷ (kind.Keyword keyword.Var)
    ∷ (kind.Mark mark.Colon)
    ∷ (kind.Keyword keyword.Function)
    ∷ (kind.Keyword keyword.Void)
    ∷ (kind.Keyword keyword.If)
    ∷ (kind.Keyword keyword.Else)
    ∷ (kind.Keyword keyword.While)
    ∷ (kind.Keyword keyword.Do)
    ∷ (kind.Keyword keyword.For)
    ∷ (kind.Keyword keyword.Break)
    ∷ (kind.Keyword keyword.Continue)
    ∷ (kind.Keyword keyword.Return)
    ∷ (kind.Mark mark.Increment)
    ∷ (kind.Mark mark.Decrement)
    ∷ (kind.Mark mark.PlusAssign)
    ∷ (kind.Mark mark.MinusAssign)
    ∷ (kind.Mark mark.StarAssign)
    ∷ (kind.Mark mark.Question)
    ∷ (kind.Mark mark.Or)
    ∷ (kind.Mark mark.And)
    ∷ (kind.Mark mark.Equal)
    ∷ (kind.Mark mark.NotEqual)
    ∷ (kind.Mark mark.StrictEqual)
    ∷ (kind.Mark mark.StrictNotEqual)
    ∷ (kind.Mark mark.Less)
    ∷ (kind.Mark mark.LessOrEqual)
    ∷ (kind.Mark mark.Greater)
    ∷ (kind.Mark mark.GreaterOrEqual)
    ∷ (kind.Mark mark.Plus)
    ∷ (kind.Mark mark.Minus)
    ∷ (kind.Mark mark.Percent)
    ∷ (kind.Mark mark.Not)
    ∷ kind.Number
    ∷ (kind.Keyword keyword.True)
    ∷ (kind.Keyword keyword.False)
    ∷ (kind.Keyword keyword.Null)
    ∷ (kind.Keyword keyword.This)
    ∷ (kind.Keyword keyword.Super)
    ∷ (kind.Keyword keyword.New)
    ∷ []

named_keyword : (k : Keyword) → ltb (keyword_number k) 60 ≡ true → nth kinds (keyword_number k) ≡ Some (kind.Keyword k)
named_keyword keyword.As h = absurd (cc)
named_keyword keyword.Case h = absurd (cc)
named_keyword keyword.Catch h = absurd (cc)
named_keyword keyword.Const h = absurd (cc)
named_keyword keyword.Default h = absurd (cc)
named_keyword keyword.Delete h = absurd (cc)
named_keyword keyword.Finally h = absurd (cc)
named_keyword keyword.Implements h = absurd (cc)
named_keyword keyword.In h = absurd (cc)
named_keyword keyword.InstanceOf h = absurd (cc)
named_keyword keyword.Interface h = absurd (cc)
named_keyword keyword.Internal h = absurd (cc)
named_keyword keyword.Is h = absurd (cc)
named_keyword keyword.Native h = absurd (cc)
named_keyword keyword.Switch h = absurd (cc)
named_keyword keyword.Throw h = absurd (cc)
named_keyword keyword.To h = absurd (cc)
named_keyword keyword.Try h = absurd (cc)
named_keyword keyword.TypeOf h = absurd (cc)
named_keyword keyword.Use h = absurd (cc)
named_keyword keyword.With h = absurd (cc)
named_keyword k h = refl

named_mark : (m : Mark) → ltb (mark_number m) 60 ≡ true → nth kinds (mark_number m) ≡ Some (kind.Mark m)
named_mark mark.Slash h = absurd (cc)
named_mark m h = refl

named_kind : (k : TokenKind) → ltb (kind_number k) 60 ≡ true → nth kinds (kind_number k) ≡ Some k
named_kind kind.Identifier h = refl
named_kind (kind.Keyword k) h = named_keyword k h
named_kind kind.Number h = refl
named_kind kind.Text h = refl
named_kind (kind.Mark m) h = named_mark m h

pub same_kind : (k other : TokenKind) → kind_number k ≡ kind_number other → ltb (kind_number other) 60 ≡ true → k ≡ other
same_kind k other same named =
    let one = named_kind k (subst (λ y. ltb y 60 ≡ true) (sym same) named) in
    let two = named_kind other named in
    let both : Some k ≡ Some other = sym one ∙ ap (λ y. nth kinds y) same ∙ two in
    cc
