-- The first broken rule of classes, and of the members of class files.
use Rattle.std.specs.Prelude.{◌≡◌, ℕ, suc, List, [], ◌∷◌, ◌++◌, Option}
use Rattle.flex_world.specs.declared.kind.Class.{Class}
use Rattle.mxml_tree.specs.Tree.{NoNode}
use Rattle.mxml_tree.specs.declared.tree.Element.{Element}
use Rattle.source_sites.specs.declared.names.NamedClass.{NamedClass}
use Rattle.source_sites.specs.declared.site.Site.{Site}
use Rattle.source_sites.specs.declared.source.ParsedClass.{ParsedClass}
use Rattle.source_sites.specs.Members.{Table}
use Rattle.source_sites.specs.Scripts.{holder}
use Rattle.source_sites.specs.Sites.{FileRule, Rule, first_broken, first_site, in_file}
use Rattle.source_sites.specs.Sources.{Content, SourceFiles}
use Rattle.source_sites.specs.Trees.{class_file_of}
use Rattle.class_sites.specs.ClassSites.{class_sites}
use Rattle.class_sites.specs.Phases.{Phase, phase_2, phase_3_of_class, sites_in}
use Rattle.as3_types.specs.declared.table.ClassTable.{ClassTable}
use Rattle.as3_types.specs.Tables.{table_of}
use Rattle.member_checks.specs.AllReaders.{KnowsIdentifiers}
use Rattle.read_sources.specs.declared.file.ReadContent.{ReadContent}
use Rattle.read_sources.specs.declared.file.ReadFile.{ReadFile}
use Rattle.read_sources.specs.Read.{AreRead, content_seen}
use Rattle.class_checks.specs.declared.files.CodePhase.{CodePhase}
use Rattle.class_checks.specs.declared.files.CodePhase.TheVariants as phase

-- of the class of a file, by what it holds, by the root of a document, and by a class file
module _ (classes : List NamedClass) (bases : List (Option Class)) (file : ℕ) (here : NamedClass) where
  abbrev pub class_site : Content → Option Site
  class_site content = first_site file (class_sites classes bases file here content)

  abbrev pub root_site : ℕ → Element → Option Site
  root_site at tag = class_site (Content.Document (holder at tag NoNode))

  abbrev pub parsed_site : ParsedClass → Option Site
  parsed_site parsed = class_site (Content.Class_file (class_file_of parsed))

module _ (s : SourceFiles) (t : Table) where
  -- members of class files
  abbrev pub phase_3_of_code : Phase
  phase_3_of_code n here f = phase_3_of_class s t n here f.content

  -- the rules of a file, by its number and its class
  abbrev pub code_rules : CodePhase → ℕ → NamedClass → Content → List Rule
  code_rules phase.Classes n here content = class_sites t.names t.bases n here content
  code_rules phase.Members n here content = phase_3_of_class s t n here content

  -- those of files from a number on
  abbrev pub rules_in : CodePhase → ℕ → List NamedClass → List ReadFile → List FileRule
  rules_in p n (here ∷ others) (f ∷ files) = in_file n (code_rules p n here (content_seen f.content)) ++ rules_in p (suc n) others files
  rules_in p n _ _ = []

-- in each source set whose readers know identifiers
module _ (table : ClassTable) (p : CodePhase) where
  abbrev pub IsContentSite : ℕ → NamedClass → ReadContent → Option Site → Type 0
  IsContentSite n here content site =
      (s : SourceFiles) → KnowsIdentifiers s.readers → site ≡ first_site n (code_rules s (table_of table) p n here (content_seen content))

  abbrev pub IsFileSite : ℕ → NamedClass → ReadFile → Option Site → Type 0
  IsFileSite n here f site = IsContentSite n here f.content site

  abbrev pub IsPhaseSite : List ReadFile → Option Site → Type 0
  IsPhaseSite files site = (s : SourceFiles) → KnowsIdentifiers s.readers → site ≡ first_broken (rules_in s (table_of table) p 0 table.classes files)

-- in each source set of these files: first the classes of all files, and then the members of all class files
abbrev pub IsCodeSite : ClassTable → List ReadFile → Option Site → Type 0
IsCodeSite table files site =
    (s : SourceFiles) → KnowsIdentifiers s.readers → AreRead s.readers files s.files
    → site ≡ first_broken (sites_in s (table_of table) (phase_2 s (table_of table)) ++ sites_in s (table_of table) (phase_3_of_code s (table_of table)))
