-- The first broken rule of the code of read files, by the class table of their source set.
use Rattle.std.specs.Prelude.{◌≡◌, List, ◌++◌, Option}
use Rattle.source_sites.specs.declared.site.Site.{Site}
use Rattle.source_sites.specs.Members.{table}
use Rattle.source_sites.specs.Sites.{FileRule, first_broken}
use Rattle.source_sites.specs.Sources.{SourceFiles}
use Rattle.class_sites.specs.Phases.{phase_2, sites_in}
use Rattle.member_checks.specs.AllReaders.{KnowsIdentifiers}
use Rattle.read_sources.specs.declared.file.ReadFile.{ReadFile}
use Rattle.read_sources.specs.Read.{AreRead}
use Rattle.class_checks.specs.CodeSites.{phase_3_of_code}

-- the rules of the classes of all files, and then those of the members of all class files
abbrev pub code_sites : SourceFiles → List FileRule
code_sites s = sites_in s (table s) (phase_2 s (table s)) ++ sites_in s (table s) (phase_3_of_code s (table s))

-- in each source set of these files whose readers know identifiers
abbrev pub IsFirstCodeSite : List ReadFile → Option Site → Type 0
IsFirstCodeSite files site =
    (s : SourceFiles) → KnowsIdentifiers s.readers → AreRead s.readers files s.files → site ≡ first_broken (code_sites s)
