-- What the functions that build the trees of imports and members read.
use Rattle.std.specs.Prelude.{◌≡◌, ◌≤◌, ◌<◌, ℕ, suc, length, List, [], ◌∷◌, Option, Some, None}
use Rattle.std.specs.Global.{Vec}
use Rattle.as3_lexer.specs.declared.keyword.Keyword.TheVariants as keyword
use Rattle.as3_lexer.specs.declared.mark.Mark.TheVariants as mark
use Rattle.as3_lexer.specs.declared.token.Token.{Token}
use Rattle.as3_lexer.specs.declared.token.TokenKind.{TokenKind}
use Rattle.as3_lexer.specs.declared.token.TokenKind.TheVariants as kind
use Rattle.as3_parser.specs.declared.tree.Import.{Import}
use Rattle.as3_parser.specs.declared.tree.ImportStep.{ImportStep}
use Rattle.as3_parser.specs.declared.tree.Modifier.{Modifier}
use Rattle.as3_parser.specs.declared.tree.Modifier.TheVariants as modifier
use Rattle.as3_parser.specs.declared.tree.Parameter.{Parameter}
use Rattle.as3_parser.specs.declared.tree.ResultType.{ResultType}
use Rattle.as3_parser.specs.declared.tree.MemberKind.{MemberKind}
use Rattle.as3_parser.specs.declared.tree.Member.{Member}
use Rattle.as3_parser.specs.declared.tree.MembersItem.{MembersItem}
use Rattle.as3_parser.specs.Grammar.{Symbol, Part}
use Rattle.as3_parser.specs.Productions as production
use Rattle.as3_parser.specs.Syntax.{limit}
use Rattle.as3_parser.specs.Ahead.{Ahead, AreCut, Reached, Reads, kinds_from}
use Rattle.as3_parser.specs.Forms.{part}
use Rattle.as3_parser.specs.Members.{IsImportStep, AreImportSteps, IsImport, AreModifiers, IsParameter, AreParametersClosed, IsResult, IsMemberKind, IsMember, IsItem, AreItems}

-- one token is a step
pub record IsOneStep (source : List ℕ) (x : ImportStep) (w : List Token) : Type 0 where
  pub token : Token
  pub is : w ≡ token ∷ []
  pub step : IsImportStep source x token

pub record ReadsImportStep (source : List ℕ) (ts : List Token) (i j : ℕ) (x : ImportStep) : Type 0 where
  pub is : Reads ts i j (part production.import_step) [] (IsOneStep source x)

pub record ReadsImportSteps (source : List ℕ) (ts : List Token) (i j : ℕ) (v : Vec ImportStep) : Type 0 where
  pub is : Reads ts i j (part production.import_steps) [] (AreImportSteps source v.items)

pub record ReadsImport (source : List ℕ) (ts : List Token) (i j : ℕ) (x : Import) : Type 0 where
  pub is : Reads ts i j (part production.import_directive) [] (IsImport source x)

-- the modifier that a kind is
abbrev pub modifier_at : Option TokenKind → Option Modifier
modifier_at (Some (kind.Keyword keyword.Public)) = Some modifier.Public
modifier_at (Some (kind.Keyword keyword.Private)) = Some modifier.Private
modifier_at (Some (kind.Keyword keyword.Protected)) = Some modifier.Protected
modifier_at (Some (kind.Keyword keyword.Override)) = Some modifier.Override
modifier_at _ = None

pub record ReadsModifiers (source : List ℕ) (ts : List Token) (i j : ℕ) (v : Vec Modifier) : Type 0 where
  pub is : Reads ts i j (part production.modifiers) [] (AreModifiers v.items)

abbrev pub parameter_symbols : List Symbol
parameter_symbols = production.identifier ∷ production.sign mark.Colon ∷ Part production.path ∷ []

pub record ReadsParameter (source : List ℕ) (ts : List Token) (i j : ℕ) (x : Parameter) : Type 0 where
  pub is : Reads ts i j parameter_symbols [] (IsParameter source x)

-- the parameters of a method, and the mark behind them
abbrev pub parameters_behind : List Symbol
parameters_behind = Part production.parameters ∷ production.sign mark.RightParenthesis ∷ []

pub record ReadsParameters (source : List ℕ) (ts : List Token) (i j : ℕ) (v : Vec Parameter) : Type 0 where
  pub is : Reads ts i j parameters_behind [] (AreParametersClosed source v.items)

pub record ReadsResult (source : List ℕ) (ts : List Token) (i j : ℕ) (x : Option ResultType) : Type 0 where
  pub is : Reads ts i j (part production.optional_result) [] (IsResult source x)

pub record ReadsMethod (source : List ℕ) (ts : List Token) (i j : ℕ) (x : MemberKind) : Type 0 where
  pub is : Reads ts i j (part production.method) [] (IsMemberKind source x)

pub record ReadsMemberKind (source : List ℕ) (ts : List Token) (i j : ℕ) (x : MemberKind) : Type 0 where
  pub is : Reads ts i j (part production.variables_or_method) [] (IsMemberKind source x)

pub record ReadsMember (source : List ℕ) (ts : List Token) (i j : ℕ) (x : Member) : Type 0 where
  pub is : Reads ts i j (part production.member) [] (IsMember source x)

-- the tokens are imports and members
pub record AreAllItems (source : List ℕ) (ts : List Token) (levels : ℕ) : Type 0 where
  pub cut : AreCut source ts
  pub ahead : Ahead (part production.imports_and_members) (kinds_from ts 0)
  pub room : limit ≤ suc levels

pub record ReadsAllItems (source : List ℕ) (ts : List Token) (v : Vec MembersItem) : Type 0 where
  pub is : AreItems source v.items ts

-- at token i the next one of them begins
pub record BegunItem (source : List ℕ) (ts : List Token) (i levels : ℕ) : Type 0 where
  pub cut : AreCut source ts
  pub ahead : Ahead (part production.imports_and_members) (kinds_from ts i)
  pub more : i < length ts
  pub room : limit ≤ suc levels

pub record ReadsItem (source : List ℕ) (ts : List Token) (i j : ℕ) (x : MembersItem) : Type 0 where
  pub is : Reached ts i j (part production.imports_and_members) (IsItem source x)
