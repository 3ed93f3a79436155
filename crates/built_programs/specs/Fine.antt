-- The programs of the sources that are built are fine.
use Rattle.std.specs.Prelude.{All, List, [], is_some, true, ℕ, ◌≡◌}
use Rattle.flex_base.specs.declared.event.UserEvent.{UserEvent}
use Rattle.flex_front.specs.Source.{AreNewIds, HasDocument, IsId, id_of}
use Rattle.flex_front.specs.declared.document.Document.{Document}
use Rattle.flex_front.specs.declared.document.Element.{Element}
use Rattle.flex_meaning.specs.Trace.{source_trace}
use Rattle.flex_program.specs.Fine.{is_fine}
use Rattle.built_programs.specs.Programs.{source_program}

-- each id may be one, and none is that of an earlier element
pub record HaveIds (es : List Element) : Type 0 where
  pub ids : All (λ e. IsId (id_of e)) es
  pub distinct : AreNewIds [] es

-- the program of a document is fine, where its elements have such ids
abbrev pub ProgramsAreFine : Type 0
ProgramsAreFine = (d : Document) → HaveIds d.elements → is_fine (source_program d) ≡ true

-- and so is that of the document of any source
abbrev pub SourceProgramsAreFine : Type 0
SourceProgramsAreFine = (name bytes : List ℕ) (d : Document) → HasDocument name bytes d → is_fine (source_program d) ≡ true

-- so something is seen of it, under each script and with any number of turns
abbrev pub SourceProgramsAreNeverStuck : Type 0
SourceProgramsAreNeverStuck =
    (name bytes : List ℕ) (d : Document) → HasDocument name bytes d → (events : List UserEvent) (turns : ℕ) → is_some (source_trace (source_program d) events turns) ≡ true
