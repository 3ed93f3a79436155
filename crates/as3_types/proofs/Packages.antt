-- The namespaces of packages.
use Rattle.std.proofs.Common.{◌≡◌, ◌∙◌, ◌≢◌, ℕ, ◌+◌, ◌-◌, List, ◌++◌, length, take, drop, refl, ap, sym, Bool, true, false, ◌&&◌, not, bytes_eq, codes, length-append, arith}
use Rattle.std.specs.Prelude.{if◌then◌else◌, nat_le, nat_lt, ◌==◌}
use Rattle.std.proofs.Math.Seq.{take-append_seam, drop-append_seam}
use Rattle.std.proofs.lemmas.List.{take-append-drop}
use Rattle.std.proofs.lemmas.Bool.Decides.{nat_tests}
use Rattle.std.proofs.lemmas.Slice.Eq.{bytes_eq-Decides}
use Rattle.source_sites.specs.declared.names.NamedClass.{NamedClass}
use Rattle.source_sites.specs.Texts.{Text, cut_end, ends_with}
use Rattle.source_sites.specs.Names.{No_class, class_in}
use Rattle.as3_types.specs.Meanings.{class_of_package}

abbrev dot_star : Text
dot_star = codes ".*"

module _ (names : List NamedClass) (name : Text) where
  module _ (s : Text) where
    none_from : (b c : Bool) → b ≡ bytes_eq dot_star (drop (length s - 2) s) → ((front : Text) → s ≢ front ++ dot_star) → (c && b) ≡ false
    none_from true true e never =
        absurd
        (never (take (length s - 2) s)
        (sym (take-append-drop (length s - 2) s) ∙ ap (λ t. take (length s - 2) s ++ t) (sym ((bytes_eq-Decides dot_star (drop (length s - 2) s)).0 (sym e)))))
    none_from true false e never = refl
    none_from false true e never = refl
    none_from false false e never = refl

    -- the namespace doesn't end so
    pub no_package : ((front : Text) → s ≢ front ++ dot_star) → No_class ≡ class_of_package names s name
    no_package never =
        sym
        (ap (λ b. if b && nat_lt 2 (length s) then class_in names (cut_end 2 s) name else No_class)
        (none_from (bytes_eq dot_star (drop (length s - 2) s)) (nat_le 2 (length s)) refl never))

  some_lt : (n m : ℕ) → m ≡ n + 2 → nat_lt 2 m ≡ not (n == 0)
  some_lt n m e = grind (arith, nat_tests)

  some_le : (n m : ℕ) → m ≡ n + 2 → nat_le 2 m ≡ true
  some_le n m e = grind (arith, nat_tests)

  module _ (f : Text) where
    abbrev whole : Text
    whole = f ++ dot_star

    len : length whole ≡ length f + 2
    len = length-append f dot_star

    back : (n m : ℕ) → m ≡ n + 2 → m - 2 ≡ n
    back n m e = omega arith

    cut : cut_end 2 whole ≡ f
    cut = ap (λ n. take n whole) (back (length f) (length whole) len) ∙ take-append_seam f dot_star

    rest : drop (length whole - 2) whole ≡ dot_star
    rest = ap (λ n. drop n whole) (back (length f) (length whole) len) ∙ drop-append_seam f dot_star

    ends : ends_with dot_star whole ≡ true
    ends = ap (λ b. b && bytes_eq dot_star (drop (length whole - 2) whole)) (some_le (length f) (length whole) len) ∙ ap (bytes_eq dot_star) rest

    of_whole : class_of_package names whole name ≡ (if not (length f == 0) then class_in names f name else No_class)
    of_whole =
        ap (λ b. if b && nat_lt 2 (length whole) then class_in names (cut_end 2 whole) name else No_class) ends
        ∙ (ap (λ b. if b then class_in names (cut_end 2 whole) name else No_class) (some_lt (length f) (length whole) len) ∙ ap (λ p. if not (length f == 0) then class_in names p name else No_class) cut)

    -- it is the package of a folder, or of none
    pub of_folder : (s : Text) → s ≡ f ++ dot_star → (length f == 0) ≡ false → class_in names f name ≡ class_of_package names s name
    of_folder s is some = ap (λ b. if not b then class_in names f name else No_class) (sym some) ∙ (sym of_whole ∙ ap (λ s. class_of_package names s name) (sym is))

    pub of_nothing : (s : Text) → s ≡ f ++ dot_star → (length f == 0) ≡ true → No_class ≡ class_of_package names s name
    of_nothing s is none = ap (λ b. if not b then class_in names f name else No_class) (sym none) ∙ (sym of_whole ∙ ap (λ s. class_of_package names s name) (sym is))
