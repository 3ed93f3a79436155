-- Tokens have one answer: that they are what the text is to be, that one fault counts, or another.
use Rattle.std.specs.Prelude.{◌≡◌, ◌⊎◌, ℕ, List}
use Rattle.as3_lexer.specs.declared.token.Token.{Token}
use Rattle.as3_parser.specs.declared.start.Start.{Start}
use Rattle.as3_parser.specs.Syntax.{IsSentence, IsSyntaxFault, IsDeepFault}

-- no two of the three stand together
pub record OneWay (start : Start) (tokens : List Token) : Type 0 where
  pub no_syntax : IsSentence start tokens → (k : ℕ) → ¬ (IsSyntaxFault start tokens k)
  pub no_deep : IsSentence start tokens → (d : ℕ) → ¬ (IsDeepFault start tokens d)
  pub not_both : (k d : ℕ) → IsSyntaxFault start tokens k → ¬ (IsDeepFault start tokens d)

abbrev pub IsJudgedOneWay : Type 0
IsJudgedOneWay = (start : Start) (tokens : List Token) → OneWay start tokens

-- each fault is at one token
pub record OneFault (start : Start) (tokens : List Token) : Type 0 where
  pub syntax : (j k : ℕ) → IsSyntaxFault start tokens j → IsSyntaxFault start tokens k → j ≡ k
  pub deep : (j k : ℕ) → IsDeepFault start tokens j → IsDeepFault start tokens k → j ≡ k

abbrev pub HasOneFault : Type 0
HasOneFault = (start : Start) (tokens : List Token) → OneFault start tokens

-- the tokens are what the text is to be, or a fault counts
abbrev pub IsJudged : Type 0
IsJudged = (start : Start) (tokens : List Token) → IsSentence start tokens ⊎ (((k : ℕ) × IsSyntaxFault start tokens k) ⊎ ((d : ℕ) × IsDeepFault start tokens d))
