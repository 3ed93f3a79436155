-- A method for which a name stands is declared by a class.
use Rattle.std.proofs.Common.{◌≡◌, refl, ◌∙◌}
use Rattle.std.specs.List.{find}
use Rattle.std.specs.Prelude.{Bool, List, None, Option, Some, [], false, if◌then◌else◌, option_map, slice_get, suc, true, unwrap_or, ℕ, ◌∷◌}
use Rattle.std.specs.Str.{bytes_eq}
use Rattle.component_catalog.specs.Classes.{or_else}
use Rattle.component_catalog.specs.Methods.{own_method}
use Rattle.component_catalog.specs.declared.method.NativeMethod.{NativeMethod}
use Rattle.flex_world.specs.Classes.{lineage_in}
use Rattle.flex_world.specs.declared.kind.Class.{Class}
use Rattle.flex_program.specs.Classes.{Callee, bases, callee, callee_in, own_callee}
use Rattle.flex_program.specs.Program.{Member, Program, SourceClass}
use Rattle.program_simulation.specs.Laws.{IsDeclared}

-- what a search finds has a place
find_there : {A : Type 0} (f : A → Bool) (xs : List A) (x : A) → find f xs ≡ Some x → (n : ℕ) × (slice_get xs n ≡ Some x)
find_there f [] x e = absurd cc
find_there f (y ∷ ys) x e = by (f y) e (find_there f ys x)
  where
    by : (b : Bool) → (if b then Some y else find f ys) ≡ Some x → (find f ys ≡ Some x → (n : ℕ) × (slice_get ys n ≡ Some x)) → (n : ℕ) × (slice_get (y ∷ ys) n ≡ Some x)
    by true e1 rest = (0, e1)
    by false e1 rest = let r = rest e1 in (suc r.0, r.1)

module _ (p : Program) (name : List ℕ) (number : ℕ) where
  of_file : (k : ℕ) (x : Option SourceClass) → slice_get p.classes k ≡ x
      → option_map (λ (m : Member). Callee.Written m.method) (find (λ (m : Member). bytes_eq m.name name) (unwrap_or (option_map (λ (class : SourceClass). class.members) x) [])) ≡ Some (Callee.Written number) → IsDeclared p number
  of_file k None there e = absurd cc
  of_file k (Some class) there e = found (find (λ (m : Member). bytes_eq m.name name) class.members) refl e
    where
      same_method : (a : ℕ) → Some (Callee.Written a) ≡ Some (Callee.Written number) → a ≡ number
      same_method a is = cc

      found : (y : Option Member) → find (λ (m : Member). bytes_eq m.name name) class.members ≡ y → option_map (λ (m : Member). Callee.Written m.method) y ≡ Some (Callee.Written number) → IsDeclared p number
      found None is e1 = absurd cc
      found (Some m) is e1 =
          let at = find_there (λ (m1 : Member). bytes_eq m1.name name) class.members m is in
          record { class_number = k; class = class; class_there = there; place = at.0; member = m; member_there = at.1; is = same_method m.method e1 }

  of_catalog : (x : Option NativeMethod) → option_map Callee.Catalog x ≡ Some (Callee.Written number) → IsDeclared p number
  of_catalog None e = absurd cc
  of_catalog (Some m) e = absurd cc

  of_class : (class : Class) → own_callee p name class ≡ Some (Callee.Written number) → IsDeclared p number
  of_class (Class.Native class) e = of_catalog (own_method class name) e
  of_class (Class.File k) e = of_file k (slice_get p.classes k) refl e

  in_lineage : (classes : List Class) → callee_in p name classes ≡ Some (Callee.Written number) → IsDeclared p number
  in_lineage [] e = absurd cc
  in_lineage (class ∷ others) e = by (own_callee p name class) refl e (in_lineage others)
    where
      by : (x : Option Callee) → own_callee p name class ≡ x → or_else x (callee_in p name others) ≡ Some (Callee.Written number) → (callee_in p name others ≡ Some (Callee.Written number) → IsDeclared p number) → IsDeclared p number
      by None is e1 rest = rest e1
      by (Some x) is e1 rest = of_class class (is ∙ e1)

pub declared : (p : Program) (class : Class) (name : List ℕ) (number : ℕ) → callee p class name ≡ Some (Callee.Written number) → IsDeclared p number
declared p class name number e = in_lineage p name number (lineage_in (bases p) class) e
