-- Of the files of a source set the rules see what the code keeps.
use Rattle.std.proofs.Common.{◌≡◌, ◌∙◌, ℕ, suc, List, [], ◌∷◌, ◌++◌, ap, refl, sym}
use Rattle.std.specs.Prelude.{Option, is_some, true, false}
use Rattle.component_catalog.specs.Classes.{or_else}
use Rattle.source_sites.specs.declared.names.NamedClass.{NamedClass}
use Rattle.source_sites.specs.declared.site.Site.{Site}
use Rattle.source_sites.specs.Members.{Table}
use Rattle.source_sites.specs.Sites.{first_broken, in_file}
use Rattle.source_sites.specs.Sources.{Content, SourceFile, SourceFiles}
use Rattle.class_sites.specs.Phases.{Phase, phase_2, sites_in, sites_of_phase}
use Rattle.read_sources.specs.declared.file.ReadContent.{ReadContent}
use Rattle.read_sources.specs.declared.file.ReadContent.TheVariants as content
use Rattle.read_sources.specs.declared.file.ReadFile.{ReadFile}
use Rattle.read_sources.specs.Read.{AreRead, IsReadAs, content_seen, tree_seen}
use Rattle.class_checks.specs.declared.files.CodePhase.{CodePhase}
use Rattle.class_checks.specs.declared.files.CodePhase.TheVariants as phase
use Rattle.class_checks.specs.CodeSites.{code_rules, phase_3_of_code, rules_in}
use Rattle.class_checks.proofs.FileByFile.{is_first, is_second, of_two}

module _ (s : SourceFiles) (t : Table) where
  abbrev of_phase : CodePhase → Phase
  of_phase p n here f = code_rules s t p n here f.content

  -- of one file
  of_content : (p : CodePhase) (n : ℕ) (here : NamedClass) (r : ReadContent) (c : Content) → IsReadAs s.readers r c → code_rules s t p n here c ≡ code_rules s t p n here (content_seen r)
  of_content phase.Classes n here (content.Document d) (Content.Document root) is = ap (λ tree. code_rules s t phase.Classes n here (tree_seen tree)) (sym is.tree)
  of_content phase.Members n here (content.Document d) (Content.Document root) is = ap (λ tree. code_rules s t phase.Members n here (tree_seen tree)) (sym is.tree)
  of_content p n here (content.ClassFile parsed) (Content.Class_file file) is = ap (λ f. code_rules s t p n here (Content.Class_file f)) is
  of_content p n here (content.Document d) (Content.Class_file file) is = absurd is
  of_content p n here (content.Document d) (Content.Unread at code) is = absurd is
  of_content p n here (content.ClassFile parsed) (Content.Document root) is = absurd is
  of_content p n here (content.ClassFile parsed) (Content.Unread at code) is = absurd is

  pub of_files : (p : CodePhase) (n : ℕ) (classes : List NamedClass) (rs : List ReadFile) (fs : List SourceFile) → AreRead s.readers rs fs → sites_of_phase (of_phase p) n classes fs ≡ rules_in s t p n classes rs
  of_files p n [] [] [] are = refl
  of_files p n [] (r ∷ rs) (f ∷ fs) are = refl
  of_files p n (c ∷ cs) [] [] are = refl
  of_files p n (c ∷ cs) (r ∷ rs) (f ∷ fs) are =
      ap (λ rules. in_file n rules ++ sites_of_phase (of_phase p) (suc n) cs fs) (of_content p n c r.content f.content are.0.content)
      ∙ ap (λ more. in_file n (code_rules s t p n c (content_seen r.content)) ++ more) (of_files p (suc n) cs rs fs are.1)
  of_files p n cs [] (f ∷ fs) are = absurd are
  of_files p n cs (r ∷ rs) [] are = absurd are

  module _ (rs : List ReadFile) (are : AreRead s.readers rs s.files) where
    abbrev of_all : CodePhase → Option Site
    of_all p = first_broken (rules_in s t p 0 t.names rs)

    -- the classes first, and then the members
    both : first_broken (sites_in s t (phase_2 s t) ++ sites_in s t (phase_3_of_code s t)) ≡ or_else (of_all phase.Classes) (of_all phase.Members)
    both =
        of_two (sites_in s t (phase_2 s t)) (sites_in s t (phase_3_of_code s t))
        ∙ (ap (λ rules. or_else (first_broken rules) (first_broken (sites_in s t (phase_3_of_code s t)))) (of_files phase.Classes 0 t.names rs s.files are)
        ∙ ap (λ rules. or_else (of_all phase.Classes) (first_broken rules)) (of_files phase.Members 0 t.names rs s.files are))

    module _ (x : Option Site) (finds : x ≡ of_all phase.Classes) where
      pub first_phase : is_some x ≡ true → x ≡ first_broken (sites_in s t (phase_2 s t) ++ sites_in s t (phase_3_of_code s t))
      first_phase some = is_first x (of_all phase.Members) some ∙ (ap (λ o. or_else o (of_all phase.Members)) finds ∙ sym both)

      pub second_phase : (y : Option Site) → is_some x ≡ false → y ≡ of_all phase.Members → y ≡ first_broken (sites_in s t (phase_2 s t) ++ sites_in s t (phase_3_of_code s t))
      second_phase y none behind =
          behind ∙ (sym (is_second x (of_all phase.Members) none) ∙ (ap (λ o. or_else o (of_all phase.Members)) finds ∙ sym both))
