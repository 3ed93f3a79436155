-- The first dot of a name.
use Rattle.std.proofs.Common.{◌≡◌, ◌≢◌, ◌∙◌, ◌<◌, ℕ, suc, [], ◌∷◌, ◌++◌, ap, refl, sym, get_or, length, true, false, arith}
use Rattle.std.specs.Prelude.{Some, None, ◌==◌}
use Rattle.std.proofs.lemmas.Bool.{ne_eqb}
use Rattle.source_sites.specs.Texts.{Text}
use Rattle.document_sites.specs.Attributes.{add_to_name, dotted_name}

abbrev HasNoDot : Text → Type 0
HasNoDot text = (i : ℕ) → i < length text → get_or text i 0 ≢ 46

first_is_none : (b : ℕ) (bs : Text) → HasNoDot (b ∷ bs) → (b == 46) ≡ false
first_is_none b bs none = ne_eqb b 46 (λ e. none 0 (omega arith) e)

others_have_none : (b : ℕ) (bs : Text) → HasNoDot (b ∷ bs) → HasNoDot bs
others_have_none b bs none = λ i h e. none (suc i) (omega arith) e

-- a byte that is no dot
past : (b : ℕ) (bs : Text) → (b == 46) ≡ false → dotted_name (b ∷ bs) ≡ add_to_name b (dotted_name bs)
past b bs e = ap (λ t. elim t [ true ↦ record { name = []; state = Some bs } | false ↦ add_to_name b (dotted_name bs) ]) e

pub without_dot : (text : Text) → HasNoDot text → record { name = text; state = None } ≡ dotted_name text
without_dot [] none = refl
without_dot (b ∷ bs) none = ap (add_to_name b) (without_dot bs (others_have_none b bs none)) ∙ sym (past b bs (first_is_none b bs none))

at_dot : (name state : Text) → HasNoDot name → record { name = name; state = Some state } ≡ dotted_name (name ++ 46 ∷ state)
at_dot [] state none = refl
at_dot (b ∷ bs) state none = ap (add_to_name b) (at_dot bs state (others_have_none b bs none)) ∙ sym (past b (bs ++ 46 ∷ state) (first_is_none b bs none))

pub with_dot : (text name state : Text) → text ≡ name ++ 46 ∷ state → HasNoDot name → record { name = name; state = Some state } ≡ dotted_name text
with_dot text name state e none = at_dot name state none ∙ ap dotted_name (sym e)
