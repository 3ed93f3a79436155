-- What a text of code reads as, by the tokens and the productions of code.
use Rattle.std.specs.Prelude.{◌≡◌, ℕ, List, length, Option, Some, None, slice_get}
use Rattle.as3_lexer.specs.declared.token.Token.{Token}
use Rattle.as3_lexer.specs.Tokens.{HasBadToken, HasTokens}
use Rattle.as3_parser.specs.declared.refusal.ParseRefusal.{ParseRefusal}
use Rattle.as3_parser.specs.declared.refusal.ParseRefusal.TheVariants as parse
use Rattle.as3_parser.specs.declared.start.Start.{Start}
use Rattle.as3_parser.specs.declared.tree.Body.{Body}
use Rattle.as3_parser.specs.declared.tree.Members.{Members}
use Rattle.as3_parser.specs.declared.tree.Metadata.{Metadata}
use Rattle.as3_parser.specs.Parsed.{IsHandlerOf, IsMembersOf, IsMetadataOf}
use Rattle.as3_parser.specs.Syntax.{IsDeepFault, IsSyntaxFault}
use Rattle.source_sites.specs.declared.code.Code.{Code}
use Rattle.source_sites.specs.declared.code.Code.TheVariants as code
use Rattle.source_reading.specs.declared.code.CodeRefusal.{CodeRefusal}
use Rattle.source_reading.specs.declared.code.CodeRefusal.TheVariants as refusal

-- where a token begins; the end of the text where there is none
abbrev pub place_of : List ℕ → Option Token → ℕ
place_of text None = length text
place_of text (Some t) = t.start

-- the place of the token with this number
abbrev pub place_of_token : List ℕ → List Token → ℕ → ℕ
place_of_token text tokens k = place_of text (slice_get tokens k)

-- the fault of syntax of a text counts, and its token stands here
pub record IsSyntaxAt (start : Start) (text : List ℕ) (at : ℕ) : Type 0 where
  pub tokens : List Token
  pub are : HasTokens text tokens
  pub number : ℕ
  pub is : IsSyntaxFault start tokens number
  pub stands : at ≡ place_of_token text tokens number

-- the fault that code opens too many levels counts, and its token stands here
pub record IsDeepAt (start : Start) (text : List ℕ) (at : ℕ) : Type 0 where
  pub tokens : List Token
  pub are : HasTokens text tokens
  pub number : ℕ
  pub is : IsDeepFault start tokens number
  pub stands : at ≡ place_of_token text tokens number

-- the first fault of a text that is to be code, and its place in the text
abbrev pub IsCodeFault : Start → List ℕ → Code → ℕ → Type 0
IsCodeFault start text code.BadToken at = HasBadToken text at
IsCodeFault start text code.Syntax at = IsSyntaxAt start text at
IsCodeFault start text code.TooDeep at = IsDeepAt start text at
IsCodeFault start text _ at = ⊥

-- a refusal names the first fault of a text, or says nothing of it
abbrev pub IsCodeRefusal : Start → List ℕ → CodeRefusal → Type 0
IsCodeRefusal start text (refusal.Fault code at) = IsCodeFault start text code at
IsCodeRefusal start text refusal.NoMemory = Unit {0}

-- whatever the text is to be
abbrev pub IsLexRefusal : List ℕ → CodeRefusal → Type 0
IsLexRefusal text r = (start : Start) → IsCodeRefusal start text r

-- a refusal of tokens, by the place of the token in the text
abbrev pub placed : List ℕ → List Token → ParseRefusal → CodeRefusal
placed text tokens (parse.Syntax k) = refusal.Fault code.Syntax (place_of_token text tokens k)
placed text tokens (parse.TooDeep k) = refusal.Fault code.TooDeep (place_of_token text tokens k)
placed text tokens parse.NoMemory = refusal.NoMemory

-- a text is the imports and members of a script, the metadata of a class, or the handler of an event, with this tree
pub record AreMembersIn (text : List ℕ) (x : Members) : Type 0 where
  pub tokens : List Token
  pub are : HasTokens text tokens
  pub tree : IsMembersOf text tokens x

pub record AreMetadataIn (text : List ℕ) (x : Metadata) : Type 0 where
  pub tokens : List Token
  pub are : HasTokens text tokens
  pub tree : IsMetadataOf text tokens x

pub record IsHandlerIn (text : List ℕ) (x : Body) : Type 0 where
  pub tokens : List Token
  pub are : HasTokens text tokens
  pub tree : IsHandlerOf text tokens x
