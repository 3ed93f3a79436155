-- The names of an import before its last.
use Rattle.std.proofs.Common.{◌≡◌, ◌∙◌, List, [], ◌∷◌, ◌++◌, map, refl, ap, ◌||◌, bytes_eq}
use Rattle.std.specs.List.{list_any}
use Rattle.source_sites.specs.Texts.{Text, among, without_last}

before_last : {A : Type 0} (f : A → Text) (x : Text) (early : List A) (last : A) → without_last (x ∷ map f (early ++ last ∷ [])) ≡ x ∷ map f early
before_last f x [] last = refl
before_last f x (y ∷ early) last = ap (λ names. x ∷ names) (before_last f (f y) early last)

among_mapped : {A : Type 0} (f : A → Text) (name : Text) (xs : List A) → among name (map f xs) ≡ list_any (λ x. bytes_eq name (f x)) xs
among_mapped f name [] = refl
among_mapped f name (x ∷ xs) = ap (λ b. bytes_eq name (f x) || b) (among_mapped f name xs)

-- a name among those before the last
pub early_name : {A : Type 0} (f : A → Text) (name x : Text) (all early : List A) (last : A) → all ≡ early ++ last ∷ [] → among name (without_last (x ∷ map f all)) ≡ (bytes_eq name x || list_any (λ y. bytes_eq name (f y)) early)
early_name f name x all early last e =
    ap (λ steps. among name (without_last (x ∷ map f steps))) e ∙ (ap (among name) (before_last f x early last) ∙ ap (λ b. bytes_eq name x || b) (among_mapped f name early))
