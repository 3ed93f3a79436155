-- Phase 1: paths, and the reading of trees and code.
use Rattle.std.specs.Prelude.{ℕ, List, [], ◌∷◌, false, if◌then◌else◌}
use Rattle.std.specs.List.{flat_map}
use Rattle.source_sites.specs.declared.code.Code.TheVariants as code
use Rattle.source_sites.specs.Texts.{Text}
use Rattle.source_sites.specs.Sites.{Rule, rule}
use Rattle.source_sites.specs.Sources.{Reading, Content, SourceFile, Readers, Holder}
use Rattle.source_sites.specs.Paths.{is_right_path}
use Rattle.source_sites.specs.Scripts.{elements_in, is_script, is_metadata, code_text, code_origin, place_in_file}

-- what isn't read has its code and place from the grammar that it breaks
abbrev pub unread : {A : Type 0} → (ℕ → ℕ) → Reading A → List Rule
unread place (Reading.Reads tree) = []
unread place (Reading.Faults at code) = rule (place at) code false ∷ []

module _ (readers : Readers) where
  -- at the first byte of the file
  abbrev pub bad_path : ℕ → Text → Rule
  bad_path file path = rule 0 code.BadPath (is_right_path readers.is_identifier file path)

  -- the place in the file of a place in the code that an element holds
  abbrev pub code_place : List ℕ → Holder → ℕ → ℕ
  code_place bytes h = place_in_file bytes (code_origin h)

  -- BadToken, Syntax and TooDeep of fx:Script and fx:Metadata
  abbrev pub unread_code : List ℕ → Holder → List Rule
  unread_code bytes h =
      if is_script h then unread (code_place bytes h) (readers.members (code_text h.nodes))
      else if is_metadata h then unread (code_place bytes h) (readers.metadata (code_text h.nodes))
      else []

  -- the codes of trees and of class files; then those of the code in a document, in document order
  abbrev pub unread_content : List ℕ → Content → List Rule
  unread_content bytes (Content.Unread at code) = rule at code false ∷ []
  unread_content bytes (Content.Document root) = flat_map (unread_code bytes) (root ∷ elements_in root.nodes)
  unread_content bytes (Content.Class_file file) = []

  abbrev pub reading_sites : ℕ → SourceFile → List Rule
  reading_sites number f = bad_path number f.path ∷ unread_content f.bytes f.content
