-- The order of sites: phases, in a phase the files, in a file its parts.
use Rattle.std.specs.Prelude.{ℕ, suc, List, [], ◌∷◌, ◌++◌}
use Rattle.source_sites.specs.Sites.{Rule, FileRule, in_file}
use Rattle.source_sites.specs.Sources.{Content, SourceFile, SourceFiles}
use Rattle.source_sites.specs.declared.names.NamedClass.{NamedClass}
use Rattle.source_sites.specs.Members.{Table}
use Rattle.class_sites.specs.ReadingSites.{reading_sites}
use Rattle.class_sites.specs.ClassSites.{class_sites}
use Rattle.class_sites.specs.MemberSites.{declared_names, class_file_member_sites}

-- the sites of a phase in a file, by its number and its class
abbrev pub Phase : Type 0
Phase = ℕ → NamedClass → SourceFile → List Rule

-- the sites of a phase, in the files from a number on
abbrev pub sites_of_phase : Phase → ℕ → List NamedClass → List SourceFile → List FileRule
sites_of_phase phase n (here ∷ others) (f ∷ files) = in_file n (phase n here f) ++ sites_of_phase phase (suc n) others files
sites_of_phase phase n _ _ = []

module _ (s : SourceFiles) (t : Table) where
  -- reading
  abbrev pub phase_1 : Phase
  phase_1 n here f = reading_sites s.readers n f

  -- classes
  abbrev pub phase_2 : Phase
  phase_2 n here f = class_sites t.names t.bases n here f.content

  -- members: of class files alone; those of documents are defined above
  abbrev pub phase_3_of_class : ℕ → NamedClass → Content → List Rule
  phase_3_of_class n here (Content.Class_file file) = class_file_member_sites s.readers t n here (declared_names s.readers t (Content.Class_file file)) file
  phase_3_of_class n here (Content.Unread at code) = []
  phase_3_of_class n here (Content.Document root) = []

  abbrev pub sites_in : Phase → List FileRule
  sites_in phase = sites_of_phase phase 0 t.names s.files
