-- Paths by their last name and those before it.
use Rattle.std.proofs.Common.{◌≡◌, ◌∙◌, List, [], ◌∷◌, ◌++◌, refl, ap, sym, Bool, true, false, ◌||◌, bytes_eq}
use Rattle.std.specs.Prelude.{if◌then◌else◌}
use Rattle.flex_base.specs.Events.{path_text}
use Rattle.as3_parser.specs.declared.tree.Lexeme.{Lexeme}
use Rattle.source_sites.specs.Texts.{Text, among, without_last, last_name}
use Rattle.source_sites.specs.declared.names.NamedClass.{NamedClass}
use Rattle.source_sites.specs.Names.{Meaning, No_class, bare_class, class_at, class_in, imported, path_names, star}

before_last : {A : Type 0} (early : List A) (last : A) → without_last (early ++ last ∷ []) ≡ early
before_last [] last = refl
before_last (x ∷ []) last = refl
before_last (x ∷ y ∷ early) last = ap (λ xs. x ∷ xs) (before_last (y ∷ early) last)

last_of : (early : List Text) (last : Text) → last_name (early ++ last ∷ []) ≡ last
last_of [] last = refl
last_of (x ∷ []) last = refl
last_of (x ∷ y ∷ early) last = last_of (y ∷ early) last

names_behind : (early : List Lexeme) (last : Lexeme) → path_names (early ++ last ∷ []) ≡ path_names early ++ last.text ∷ []
names_behind [] last = refl
names_behind (l ∷ early) last = ap (λ names. l.text ∷ names) (names_behind early last)

module _ (names : List NamedClass) (here : NamedClass) where
  pub bare_name : (path early : List Lexeme) (last : Lexeme) → path ≡ early ++ last ∷ [] → early ≡ [] → bare_class names here last.text ≡ class_at names here (path_names path)
  bare_name path early last e z = sym (ap (λ p. class_at names here (path_names p)) (e ∙ ap (λ xs. xs ++ last ∷ []) z))

  dotted_at : (first : Text) (early : List Text) (last : Text) → class_at names here (first ∷ early ++ last ∷ []) ≡ class_in names (path_text (without_last (first ∷ early ++ last ∷ []))) (last_name (first ∷ early ++ last ∷ []))
  dotted_at first [] last = refl
  dotted_at first (x ∷ early) last = refl

  dotted_names : (first : Text) (early : List Text) (last : Text) → class_at names here (first ∷ early ++ last ∷ []) ≡ class_in names (path_text (first ∷ early)) last
  dotted_names first early last =
      dotted_at first early last
      ∙ (ap (λ folder. class_in names (path_text folder) (last_name (first ∷ early ++ last ∷ []))) (before_last (first ∷ early) last) ∙ ap (class_in names (path_text (first ∷ early))) (last_of (first ∷ early) last))

  dotted_path : (first : Lexeme) (early : List Lexeme) (last : Lexeme) → class_at names here (path_names (first ∷ early ++ last ∷ [])) ≡ class_in names (path_text (path_names (first ∷ early))) last.text
  dotted_path first early last = ap (class_at names here) (names_behind (first ∷ early) last) ∙ dotted_names first.text (path_names early) last.text

  is_nil : {A : Type 0} → List A → Bool
  is_nil [] = true
  is_nil (x ∷ xs) = false

  pub dotted_class : (path early : List Lexeme) (last : Lexeme) → path ≡ early ++ last ∷ [] → (early ≡ [] → ⊥) → class_in names (path_text (path_names early)) last.text ≡ class_at names here (path_names path)
  dotted_class path [] last e some = absurd (some refl)
  dotted_class path (first ∷ early) last e some = sym (ap (λ p. class_at names here (path_names p)) e ∙ dotted_path first early last)

module _ (names : List NamedClass) (name : Text) where
  abbrev by_last : List Text → Text → Meaning
  by_last early last =
      if among star early then No_class
      else if bytes_eq last star then class_in names (path_text early) name
      else if bytes_eq last name then class_in names (path_text early) name
      else No_class

  split_at : (early : List Text) (last : Text) → imported names name (early ++ last ∷ []) ≡ by_last early last
  split_at [] last = refl
  split_at (first ∷ early) last =
      ap (λ xs. by_last xs (last_name (first ∷ early ++ last ∷ []))) (before_last (first ∷ early) last) ∙ ap (by_last (first ∷ early)) (last_of (first ∷ early) last)

  by_path : (path early : List Text) (last : Text) → path ≡ early ++ last ∷ [] → by_last early last ≡ imported names name path
  by_path path early last e = sym (ap (imported names name) e ∙ split_at early last)

  -- a star stands before the last name
  pub star_before : (path early : List Text) (last : Text) → path ≡ early ++ last ∷ [] → among star early ≡ true → No_class ≡ imported names name path
  star_before path early last e s =
      sym (ap (λ b. if b then No_class else if bytes_eq last star then class_in names (path_text early) name else if bytes_eq last name then class_in names (path_text early) name else No_class) s) ∙ by_path path early last e

  without_star : (path early : List Text) (last : Text) → path ≡ early ++ last ∷ [] → among star early ≡ false → (if bytes_eq last star then class_in names (path_text early) name else if bytes_eq last name then class_in names (path_text early) name else No_class) ≡ imported names name path
  without_star path early last e s =
      sym (ap (λ b. if b then No_class else if bytes_eq last star then class_in names (path_text early) name else if bytes_eq last name then class_in names (path_text early) name else No_class) s) ∙ by_path path early last e

  either : (a b : Bool) (x y : Meaning) → (if a then x else if b then x else y) ≡ (if a || b then x else y)
  either true b x y = refl
  either false b x y = refl

  judged : (path early : List Text) (last : Text) → path ≡ early ++ last ∷ [] → among star early ≡ false → (if bytes_eq last star || bytes_eq last name then class_in names (path_text early) name else No_class) ≡ imported names name path
  judged path early last e s = sym (either (bytes_eq last star) (bytes_eq last name) (class_in names (path_text early) name) No_class) ∙ without_star path early last e s

  -- the last name is a star or the name, or neither
  pub by_last_name : (path early : List Text) (last : Text) → path ≡ early ++ last ∷ [] → among star early ≡ false → (bytes_eq last star || bytes_eq last name) ≡ true → class_in names (path_text early) name ≡ imported names name path
  by_last_name path early last e s t = sym (ap (λ b. if b then class_in names (path_text early) name else No_class) t) ∙ judged path early last e s

  pub by_none : (path early : List Text) (last : Text) → path ≡ early ++ last ∷ [] → among star early ≡ false → (bytes_eq last star || bytes_eq last name) ≡ false → No_class ≡ imported names name path
  by_none path early last e s t = sym (ap (λ b. if b then class_in names (path_text early) name else No_class) t) ∙ judged path early last e s
