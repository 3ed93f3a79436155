-- The names before a place, as the code keeps them.
use Rattle.std.proofs.Common.{◌≡◌, ◌∙◌, ℕ, List, [], ◌∷◌, map, length, ap, sym, refl, Bool, true, false, ◌&&◌, ◌||◌, not, cond, bytes_eq, ◌+◌, take, arith}
use Rattle.std.specs.Prelude.{Option, Some, None, option_map, is_some, if◌then◌else◌, ◌==◌, suc}
use Rattle.std.specs.List.{list_any, prefix_len}
use Rattle.as3_parser.specs.declared.tree.Lexeme.{Lexeme}
use Rattle.as3_parser.specs.declared.tree.Modifier.{Modifier}
use Rattle.source_sites.specs.declared.code.Code.TheVariants as code
use Rattle.source_sites.specs.Texts.{Text, is_there}
use Rattle.source_sites.specs.Sites.{Rule, rule}
use Rattle.source_sites.specs.Syntax.{Function, TypedName}
use Rattle.source_sites.specs.Functions.{access_of, is_constructor, overrides}
use Rattle.source_sites.specs.Members.{Found, signature_of}
use Rattle.as3_types.specs.declared.look_ups.FoundMember.{FoundMember}
use Rattle.as3_types.specs.Tables.{found_as}
use Rattle.member_checks.specs.declared.scope.ClassScope.{ClassScope}
use Rattle.member_checks.specs.CodeRules.{above_unless, declared_in, name_rules, rules_of_name}
use Rattle.class_sites.specs.MemberSites.{DeclaredName, fits_override, is_declared, name_of_function, name_of_variable, names_before, stands_at}
use Rattle.member_checks.specs.declared.names.NamedPlace.{NamedPlace}
use Rattle.member_checks.specs.Places.{place_of_name, places_before, stands_elsewhere}

module _ (holder at : ℕ) where
  one_more : (k : ℕ) → 1 + k ≡ suc k
  one_more k = omega arith

  step : (n : DeclaredName) (ns : List DeclaredName) (b : Bool) → map place_of_name (names_before holder at ns) ≡ places_before holder at (map place_of_name ns)
      → map place_of_name (if b then [] else n ∷ names_before holder at ns) ≡ take (cond (not b) (1 + prefix_len (stands_elsewhere holder at) (map place_of_name ns)) 0) (place_of_name n ∷ map place_of_name ns)
  step n ns true e = refl
  step n ns false e = ap (λ ps. place_of_name n ∷ ps) e ∙ ap (λ k. take k (place_of_name n ∷ map place_of_name ns)) (sym (one_more (prefix_len (stands_elsewhere holder at) (map place_of_name ns))))

  pub same_before : (ns : List DeclaredName) → map place_of_name (names_before holder at ns) ≡ places_before holder at (map place_of_name ns)
  same_before [] = refl
  same_before (n ∷ ns) = step n ns (stands_at holder at n) (same_before ns)

  any_mapped : (name : Text) (ns : List DeclaredName) → is_declared name ns ≡ list_any (λ (p : NamedPlace). bytes_eq p.name name) (map place_of_name ns)
  any_mapped name [] = refl
  any_mapped name (n ∷ ns) = ap (λ b. bytes_eq n.name name || b) (any_mapped name ns)

  count_mapped : (ns : List DeclaredName) → length ns ≡ length (map place_of_name ns)
  count_mapped [] = refl
  count_mapped (n ∷ ns) = ap suc (count_mapped ns)

  module _ (places : List NamedPlace) (ns : List DeclaredName) (e : places ≡ map place_of_name ns) where
    pub declared_before : (name : Text) → list_any (λ (p : NamedPlace). bytes_eq p.name name) (places_before holder at places) ≡ is_declared name (names_before holder at ns)
    declared_before name = sym (any_mapped name (names_before holder at ns) ∙ ap (list_any (λ (p : NamedPlace). bytes_eq p.name name)) (same_before ns ∙ ap (places_before holder at) (sym e)))

    pub count_before : length (places_before holder at places) ≡ length (names_before holder at ns)
    count_before = sym (count_mapped (names_before holder at ns) ∙ ap length (same_before ns ∙ ap (places_before holder at) (sym e)))

pub there : (name : Text) (found : Option FoundMember) (above : Option Found) → option_map (found_as name) found ≡ above → is_some found ≡ is_there above
there name None above e = ap is_there e
there name (Some f) above e = ap is_there e

module _ (s : ClassScope) where
  abbrev judged : Lexeme → Bool → ℕ → Bool → Bool → List Rule
  judged name taken count free fits =
      rule name.span.start code.DuplicateMember (not taken && free) ∷ rule name.span.start code.WrongOverride fits ∷ rule name.span.start code.TooMany (not (count == 1024)) ∷ []

  by_places : (name : Lexeme) (free fits : Bool) → rules_of_name name (places_before 0 name.span.start s.names.now) free fits
      ≡ judged name (is_declared name.text (names_before 0 name.span.start (declared_in s))) (length (names_before 0 name.span.start (declared_in s))) free fits
  by_places name free fits =
      ap (λ taken. judged name taken (length (places_before 0 name.span.start s.names.now)) free fits) (declared_before 0 name.span.start s.names.now (declared_in s) s.declared name.text)
      ∙ ap (λ count. judged name (is_declared name.text (names_before 0 name.span.start (declared_in s))) count free fits) (count_before 0 name.span.start s.names.now (declared_in s) s.declared)

  pub rules_of_variable : (modifiers : List Modifier) (v : TypedName) → rules_of_name v.name (places_before 0 v.name.span.start s.names.now) (false || not (is_there (above_unless s false v.name.text))) true ≡ name_rules s (name_of_variable 0 modifiers v)
  rules_of_variable modifiers v = by_places v.name (not (is_there (above_unless s false v.name.text))) true

  pub rules_of_function : (modifiers : List Modifier) (f : Function) → rules_of_name f.name (places_before 0 f.name.span.start s.names.now)
      (overrides modifiers || not (is_there (above_unless s (is_constructor s.here.now f) f.name.text)))
      (not (overrides modifiers) || fits_override (access_of modifiers) (signature_of s.table.now.classes s.here.now f) (above_unless s (is_constructor s.here.now f) f.name.text))
      ≡ name_rules s (name_of_function 0 modifiers f)
  rules_of_function modifiers f =
      by_places f.name (overrides modifiers || not (is_there (above_unless s (is_constructor s.here.now f) f.name.text)))
      (not (overrides modifiers) || fits_override (access_of modifiers) (signature_of s.table.now.classes s.here.now f) (above_unless s (is_constructor s.here.now f) f.name.text))
