-- The sites of a source set by reading, classes and members, in order, and the first broken one.
use Rattle.std.specs.Prelude.{ℕ, List, ◌++◌, Option}
use Rattle.flex_world.specs.declared.kind.Class.TheVariants as Class
use Rattle.source_sites.specs.declared.site.Site.{Site}
use Rattle.source_sites.specs.Sites.{Rule, FileRule, first_broken}
use Rattle.source_sites.specs.Sources.{Content, SourceFiles}
use Rattle.source_sites.specs.declared.names.NamedClass.{NamedClass}
use Rattle.source_sites.specs.Members.{Table, table}
use Rattle.class_sites.specs.MemberSites.{DeclaredName, declared_names}
use Rattle.class_sites.specs.Phases.{Phase, sites_in, phase_1, phase_2, phase_3_of_class}
use Rattle.document_sites.specs.Parts.{Part, document_part}
use Rattle.document_sites.specs.DocumentSites.{counts_of, document_sites}

module _ (s : SourceFiles) (t : Table) where
  abbrev pub document_member_sites : ℕ → NamedClass → List ℕ → Part → List DeclaredName → List Rule
  document_member_sites n here bytes part declared = document_sites s.readers t n here declared bytes (counts_of t (Class.File n) part) part

  -- members, of documents and of class files
  abbrev pub member_sites_of : ℕ → NamedClass → List ℕ → Content → List Rule
  member_sites_of n here bytes (Content.Document root) =
      document_member_sites n here bytes (document_part t (Class.File n) root) (declared_names s.readers t (Content.Document root))
  member_sites_of n here bytes content = phase_3_of_class s t n here content

  abbrev pub phase_3 : Phase
  phase_3 n here f = member_sites_of n here f.bytes f.content

  abbrev pub sites_of_table : List FileRule
  sites_of_table = sites_in s t (phase_1 s t) ++ (sites_in s t (phase_2 s t) ++ sites_in s t phase_3)

-- by phase, file, part and row
abbrev pub sites : SourceFiles → List FileRule
sites s = sites_of_table s (table s)

abbrev pub first_fault : SourceFiles → Option Site
first_fault s = first_broken (sites s)
