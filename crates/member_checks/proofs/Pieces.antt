-- A text that is split, name by name.
use Rattle.std.proofs.Common.{◌≡◌, ◌∙◌, ℕ, List, [], ◌∷◌, ◌++◌, ap, sym, refl, Bool, true, false, append_assoc, append-nil}
use Rattle.std.specs.Prelude.{◌==◌}
use Rattle.source_sites.specs.Texts.{Text, add_byte, split}
use Rattle.member_checks.specs.Dots.{begun}

begun_with : (t : Bool) (b : ℕ) (names : List Text) → begun [] (add_byte t b names) ≡ add_byte t b names
begun_with true b names = refl
begun_with false b [] = refl
begun_with false b (n ∷ ns) = refl

pub begun_empty : (c : ℕ) (bytes : Text) → begun [] (split c bytes) ≡ split c bytes
begun_empty c [] = refl
begun_empty c (b ∷ bytes) = begun_with (b == c) b (split c bytes)

grown : (b : ℕ) (name : Text) (names : List Text) → begun name (add_byte false b names) ≡ begun (name ++ b ∷ []) names
grown b name [] = refl
grown b name (n ∷ ns) = ap (λ q. q ∷ ns) (sym (append_assoc name (b ∷ []) n))

module _ (c b : ℕ) (name rest : Text) (names : List Text) where
  -- a name ends before this byte
  pub name_ends : (b == c) ≡ true → (names ++ name ∷ []) ++ begun [] (split c rest) ≡ names ++ begun name (split c (b ∷ rest))
  name_ends e =
      append_assoc names (name ∷ []) (begun [] (split c rest))
      ∙ (ap (λ ns. names ++ name ∷ ns) (begun_empty c rest)
      ∙ (ap (λ n. names ++ n ∷ split c rest) (sym (append-nil name)) ∙ ap (λ t. names ++ begun name (add_byte t b (split c rest))) (sym e)))

  -- or takes it
  pub name_grows : (b == c) ≡ false → names ++ begun (name ++ b ∷ []) (split c rest) ≡ names ++ begun name (split c (b ∷ rest))
  name_grows e = ap (λ ns. names ++ ns) (sym (grown b name (split c rest))) ∙ ap (λ t. names ++ begun name (add_byte t b (split c rest))) (sym e)
