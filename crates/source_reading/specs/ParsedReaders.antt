-- Readers that read texts of code by the tokens and the productions of code.
use Rattle.std.specs.Prelude.{◌≡◌, ℕ, IsUtf8}
use Rattle.as3_parser.specs.declared.start.Start.{Start}
use Rattle.as3_parser.specs.declared.start.Start.TheVariants as start
use Rattle.source_sites.specs.declared.code.Code.{Code}
use Rattle.source_sites.specs.Sources.{Reading, Readers}
use Rattle.source_sites.specs.Texts.{Text}
use Rattle.source_sites.specs.Trees.{items_of, locals_of_handler, tags_of}
use Rattle.member_checks.specs.AllReaders.{KnowsIdentifiers}
use Rattle.source_reading.specs.CodeTexts.{AreMembersIn, AreMetadataIn, IsCodeFault, IsHandlerIn}

-- of each text that is UTF-8: a tree of it is what it reads as, and its first fault is what it fails with
pub record ReadsBy {T A : Type 0} (start : Start) (IsTree : Text → T → Type 0) (seen : T → A) (reads : Text → Reading A) : Type 0 where
  pub tree : (text : Text) (x : T) → IsUtf8 text → IsTree text x → reads text ≡ Reading.Reads (seen x)
  pub fault : (text : Text) (code : Code) (at : ℕ) → IsUtf8 text → IsCodeFault start text code at → reads text ≡ Reading.Faults at code

pub record AreParsed (readers : Readers) : Type 0 where
  pub identifiers : KnowsIdentifiers readers
  pub members : ReadsBy start.Members AreMembersIn items_of readers.members
  pub metadata : ReadsBy start.Metadata AreMetadataIn tags_of readers.metadata
  pub handler : ReadsBy start.Handler IsHandlerIn locals_of_handler readers.handler
