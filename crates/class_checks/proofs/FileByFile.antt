-- The first broken rule of files, file by file.
use Rattle.std.proofs.Common.{◌≡◌, ◌∙◌, ◌+◌, ◌<◌, ◌^◌, ℕ, suc, List, [], ◌∷◌, ◌++◌, ap, refl, sym, Bool, true, false, cond, add-one, SomeIff}
use Rattle.std.specs.Prelude.{Option, Some, None, option_map, is_some}
use Rattle.std.specs.List.{find}
use Rattle.component_catalog.specs.Classes.{or_else}
use Rattle.source_sites.specs.declared.names.NamedClass.{NamedClass}
use Rattle.source_sites.specs.declared.site.Site.{Site}
use Rattle.source_sites.specs.Members.{Table}
use Rattle.source_sites.specs.Sites.{FileRule, Rule, fails, first_broken, first_site, in_file, site_of}
use Rattle.source_sites.specs.Sources.{SourceFiles}
use Rattle.read_sources.specs.declared.file.ReadFile.{ReadFile}
use Rattle.read_sources.specs.Read.{content_seen}
use Rattle.class_checks.specs.declared.files.CodePhase.{CodePhase}
use Rattle.class_checks.specs.CodeSites.{code_rules, rules_in}

abbrev broken : FileRule → Bool
broken r = fails r.rule

abbrev site : FileRule → Site
site r = site_of r.file r.rule

pub of_two : (xs ys : List FileRule) → first_broken (xs ++ ys) ≡ or_else (first_broken xs) (first_broken ys)
of_two [] ys = refl
of_two (r ∷ xs) ys =
    elim (broken r) as (λ b. option_map site (cond b (Some r) (find broken (xs ++ ys))) ≡ or_else (option_map site (cond b (Some r) (find broken xs))) (first_broken ys)) [
      | true ↦ refl
      | false ↦ of_two xs ys
    ]

of_file : (n : ℕ) (rules : List Rule) → first_broken (in_file n rules) ≡ first_site n rules
of_file n [] = refl
of_file n (r ∷ rules) =
    elim (fails r) as (λ b. option_map site (cond b (Some (record { file = n; rule = r })) (find broken (in_file n rules))) ≡ option_map (site_of n) (cond b (Some r) (find fails rules))) [
      | true ↦ refl
      | false ↦ of_file n rules
    ]

-- the number of the next file
pub next_number : (n : ℕ) (r : Option ℕ) (m : ℕ) → SomeIff r (n + 1 < 2 ^ 32) (n + 1) → r ≡ Some m → suc n ≡ m
next_number n None m h e = absurd (cc)
next_number n (Some x) m h e = let next : x ≡ n + 1 = h.1 in let same : n + 1 ≡ suc n = add-one n in cc

-- what is found first is what counts
pub is_first : (x y : Option Site) → is_some x ≡ true → x ≡ or_else x y
is_first (Some s) y e = refl
is_first None y e = absurd (cc)

pub is_second : (x y : Option Site) → is_some x ≡ false → or_else x y ≡ y
is_second (Some s) y e = absurd (cc)
is_second None y e = refl

module _ (s : SourceFiles) (t : Table) (p : CodePhase) where
  abbrev of_rest : ℕ → List NamedClass → List ReadFile → Option Site
  of_rest n classes files = first_broken (rules_in s t p n classes files)

  step : (n : ℕ) (here : NamedClass) (others : List NamedClass) (f : ReadFile) (files : List ReadFile)
      → of_rest n (here ∷ others) (f ∷ files) ≡ or_else (first_site n (code_rules s t p n here (content_seen f.content))) (of_rest (suc n) others files)
  step n here others f files =
      of_two (in_file n (code_rules s t p n here (content_seen f.content))) (rules_in s t p (suc n) others files)
      ∙ ap (λ o. or_else o (of_rest (suc n) others files)) (of_file n (code_rules s t p n here (content_seen f.content)))

  module _ (whole : Option Site) (n : ℕ) (classes others : List NamedClass) (rest files : List ReadFile) (so-far : whole ≡ of_rest n classes rest) where
    module _ (here : NamedClass) (f : ReadFile) (x : Option Site) (is-classes : classes ≡ here ∷ others) (is-rest : rest ≡ f ∷ files) (finds : x ≡ first_site n (code_rules s t p n here (content_seen f.content))) where
      stepped : whole ≡ or_else x (of_rest (suc n) others files)
      stepped =
          so-far
          ∙ (ap (λ cs. of_rest n cs rest) is-classes
          ∙ (ap (of_rest n (here ∷ others)) is-rest ∙ (step n here others f files ∙ ap (λ o. or_else o (of_rest (suc n) others files)) (sym finds))))

      -- in this file
      pub found_here : is_some x ≡ true → x ≡ whole
      found_here some = is_first x (of_rest (suc n) others files) some ∙ sym stepped

      -- or behind it
      pub goes_on : is_some x ≡ false → whole ≡ of_rest (suc n) others files
      goes_on none = stepped ∙ is_second x (of_rest (suc n) others files) none

    none_without_files : (cs : List NamedClass) → of_rest n cs [] ≡ None
    none_without_files [] = refl
    none_without_files (c ∷ cs) = refl

    pub no_files : rest ≡ [] → None ≡ whole
    no_files e = sym (so-far ∙ (ap (of_rest n classes) e ∙ none_without_files classes))
