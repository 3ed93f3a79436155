-- The last of names, and those before it.
use Rattle.std.proofs.Common.{◌≡◌, ◌∙◌, List, [], ◌∷◌, ◌++◌, refl, ap, sym}
use Rattle.source_sites.specs.Texts.{Text, last_name, without_last}

before_last : {A : Type 0} (early : List A) (last : A) → without_last (early ++ last ∷ []) ≡ early
before_last [] last = refl
before_last (x ∷ []) last = refl
before_last (x ∷ y ∷ early) last = ap (λ names. x ∷ names) (before_last (y ∷ early) last)

the_last : (early : List Text) (last : Text) → last_name (early ++ last ∷ []) ≡ last
the_last [] last = refl
the_last (x ∷ []) last = refl
the_last (x ∷ y ∷ early) last = the_last (y ∷ early) last

pub early_names : {A : Type 0} (all early : List A) (last : A) → all ≡ early ++ last ∷ [] → early ≡ without_last all
early_names all early last e = sym (ap without_last e ∙ before_last early last)

pub the_last_name : (all early : List Text) (last : Text) → all ≡ early ++ last ∷ [] → last ≡ last_name all
the_last_name all early last e = sym (ap last_name e ∙ the_last early last)
