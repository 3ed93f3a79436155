-- Sites with their rules, and lists of them that are put together.
use Rattle.std.specs.Prelude.{◌≡◌, ℕ, List, ◌++◌, map, Bool, Option, None, option_map, not, ◌↔◌, true}
use Rattle.std.specs.List.{find, list_all}
use Rattle.component_catalog.specs.Classes.{or_else}
use Rattle.source_sites.specs.declared.code.Code.{Code}
use Rattle.source_sites.specs.declared.site.Site.{Site}

-- a place of a file, the code of the fault there, and whether the rule holds
pub record Rule : Type 0 where
  pub at : ℕ
  pub code : Code
  pub holds : Bool

abbrev pub rule : ℕ → Code → Bool → Rule
rule at code holds = record { at = at; code = code; holds = holds }

-- a rule of a file
pub record FileRule : Type 0 where
  -- the number of the file in the source set, from 0
  pub file : ℕ
  pub rule : Rule

abbrev pub in_file : ℕ → List Rule → List FileRule
in_file n rules = map (λ (r : Rule). record { file = n; rule = r }) rules

abbrev pub site_of : ℕ → Rule → Site
site_of n r = record { file = n; at = r.at; code = r.code }

abbrev pub fails : Rule → Bool
fails r = not r.holds

-- the first rule of a file that doesn't hold
abbrev pub first_failing : List Rule → Option Rule
first_failing rules = find fails rules

-- the site of the first rule of a file that doesn't hold
abbrev pub first_site : ℕ → List Rule → Option Site
first_site n rules = option_map (site_of n) (first_failing rules)

-- the first site of a source set whose rule doesn't hold
abbrev pub first_broken : List FileRule → Option Site
first_broken rules = option_map (λ (r : FileRule). site_of r.file r.rule) (find (λ (r : FileRule). fails r.rule) rules)

-- every rule holds
abbrev pub all_hold : List FileRule → Bool
all_hold rules = list_all (λ (r : FileRule). r.rule.holds) rules

-- the first broken site of lists put together is that of the first list that has one
abbrev pub FirstOfTwo : Type 0
FirstOfTwo = (xs ys : List FileRule) → first_broken (xs ++ ys) ≡ or_else (first_broken xs) (first_broken ys)

-- the same in one file
abbrev pub FirstSiteOfTwo : Type 0
FirstSiteOfTwo = (n : ℕ) (xs ys : List Rule) → first_site n (xs ++ ys) ≡ or_else (first_site n xs) (first_site n ys)

-- in a file the first broken site is where its first rule fails
abbrev pub FirstInFile : Type 0
FirstInFile = (n : ℕ) (rules : List Rule) → first_broken (in_file n rules) ≡ first_site n rules

-- no site is broken exactly where every rule holds
abbrev pub NoneExactlyWhereAllHold : Type 0
NoneExactlyWhereAllHold = (rules : List FileRule) → first_broken rules ≡ None ↔ all_hold rules ≡ true
