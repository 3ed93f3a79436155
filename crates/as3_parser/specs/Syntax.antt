-- Which tokens are what a text is to be, and which token is at fault where they aren't.
use Rattle.std.specs.Prelude.{◌≡◌, ℕ, ◌<◌, ◌≤◌, Bool, false, not, ◌&&◌, eqb, List, [], ◌∷◌, ◌++◌, length, min, Option, Some, None, if◌then◌else◌}
use Rattle.std.specs.List.{last_or}
use Rattle.as3_lexer.specs.declared.mark.Mark.TheVariants as mark
use Rattle.as3_lexer.specs.declared.token.Token.{Token}
use Rattle.as3_parser.specs.declared.start.Start.{Start}
use Rattle.as3_parser.specs.declared.start.Start.TheVariants as start
use Rattle.as3_parser.specs.declared.refusal.ParseRefusal.{ParseRefusal}
use Rattle.as3_parser.specs.declared.refusal.ParseRefusal.TheVariants as refusal
use Rattle.as3_parser.specs.Grammar.{Symbol, Part, Sentence}
use Rattle.as3_parser.specs.Exact.{FaultAt}
use Rattle.as3_parser.specs.Levels.{DeepAt}
use Rattle.as3_parser.specs.Kinds.{kinds_of, mark_number}
use Rattle.as3_parser.specs.Productions.{class_file, members, handler, metadata, expression, the_rules, dangling}

-- the part of the grammar that a text is to be
abbrev pub part_of : Start → ℕ
part_of start.ClassFile = class_file
part_of start.Members = members
part_of start.Handler = handler
part_of start.Metadata = metadata
part_of start.Expression = expression

abbrev pub wanted : Start → List Symbol
wanted s = Part (part_of s) ∷ []

-- whether a handler lacks its last `;`, by the kind of its last token
abbrev pub lacks_semicolon : Option ℕ → Bool
lacks_semicolon None = false
lacks_semicolon (Some k) = not (eqb k (mark_number mark.Semicolon)) && not (eqb k (mark_number mark.RightBrace))

-- the kinds of a handler's tokens, with a `;` behind the last one where that is neither `;` nor `}`
abbrev pub ended : List ℕ → List ℕ
ended kinds = if lacks_semicolon (last_or None kinds) then kinds ++ mark_number mark.Semicolon ∷ [] else kinds

-- the kinds of tokens that the grammar is asked for
abbrev pub asked : Start → List Token → List ℕ
asked start.ClassFile tokens = kinds_of tokens
asked start.Members tokens = kinds_of tokens
asked start.Handler tokens = ended (kinds_of tokens)
asked start.Metadata tokens = kinds_of tokens
asked start.Expression tokens = kinds_of tokens

-- the first level that is one too many
abbrev pub limit : ℕ
limit = 65

-- k is the least number such that the tokens 0 to k begin no sentence, or the number of tokens where they begin one and make none.
-- The `;` that is added to a handler isn't counted: what is wrong there or behind it is wrong behind the tokens.
pub record HasSyntaxFault (start : Start) (tokens : List Token) (k : ℕ) : Type 0 where
  pub place : ℕ
  pub is : FaultAt the_rules (wanted start) (asked start tokens) place
  pub counted : k ≡ min place (length tokens)

-- token k is the first that opens level 65, counted likewise
pub record HasDeepFault (start : Start) (tokens : List Token) (k : ℕ) : Type 0 where
  pub place : ℕ
  pub is : DeepAt the_rules dangling limit (wanted start) (asked start tokens) place
  pub counted : k ≡ min place (length tokens)

-- the tokens are a sentence, and none of them opens level 65
pub record IsSentence (start : Start) (tokens : List Token) : Type 0 where
  pub sentence : Sentence the_rules (wanted start) (asked start tokens)
  pub shallow : (k : ℕ) → ¬ (HasDeepFault start tokens k)

-- of two faults the one at the earlier token counts, and at one token the fault of syntax
abbrev pub IsSyntaxFault : Start → List Token → ℕ → Type 0
IsSyntaxFault start tokens k = HasSyntaxFault start tokens k × ((d : ℕ) → HasDeepFault start tokens d → k ≤ d)

abbrev pub IsDeepFault : Start → List Token → ℕ → Type 0
IsDeepFault start tokens d = HasDeepFault start tokens d × ((k : ℕ) → HasSyntaxFault start tokens k → d < k)

-- a refusal names the fault that counts, or says nothing of the tokens
abbrev pub IsRefusal : Start → List Token → ParseRefusal → Type 0
IsRefusal start tokens (refusal.Syntax k) = IsSyntaxFault start tokens k
IsRefusal start tokens (refusal.TooDeep d) = IsDeepFault start tokens d
IsRefusal start tokens refusal.NoMemory = Unit {0}
