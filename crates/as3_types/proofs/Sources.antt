-- The members of a source class by their names.
use Rattle.std.proofs.Common.{◌≡◌, ◌∙◌, ℕ, zero, suc, List, [], ◌∷◌, map, refl, ap, sym, Bool, true, false, cond, bytes_eq, Bor}
use Rattle.std.specs.Prelude.{Option, Some, None, option_map, slice_get, unwrap_or}
use Rattle.std.specs.List.{find}
use Rattle.source_sites.specs.Texts.{Text}
use Rattle.source_sites.specs.Members.{Owned, nth_list}
use Rattle.source_sites.specs.LookUps.{member_named}
use Rattle.as3_types.specs.declared.table.OwnMember.{OwnMember}
use Rattle.as3_types.specs.Tables.{owned_of}

abbrev named : Text → OwnMember → Bool
named name m = bytes_eq m.name name

by_name : (name : Text) (ms : List OwnMember) → option_map owned_of (find (named name) ms) ≡ member_named name (map owned_of ms)
by_name name [] = refl
by_name name (m ∷ ms) =
    elim (named name m) as (λ b. option_map owned_of (cond b (Some m) (find (named name) ms)) ≡ cond b (Some (owned_of m)) (member_named name (map owned_of ms))) [
      | true ↦ refl
      | false ↦ by_name name ms
    ]

nth_mapped : (xss : List (List OwnMember)) (k : ℕ) → slice_get (map (map owned_of) xss) k ≡ option_map (map owned_of) (slice_get xss k)
nth_mapped [] k = refl
nth_mapped (xs ∷ xss) zero = refl
nth_mapped (xs ∷ xss) (suc k) = nth_mapped xss k

shown : (found : Option (Bor OwnMember)) → option_map (λ (m : Bor OwnMember). owned_of m.now) found ≡ option_map owned_of (option_map (λ (m : Bor OwnMember). m.now) found)
shown None = refl
shown (Some m) = refl

module _ (xss : List (List OwnMember)) (k : ℕ) (name : Text) where
  pub found_source : (ms : List OwnMember) (found : Option (Bor OwnMember)) → Some ms ≡ slice_get xss k → option_map (λ (m : Bor OwnMember). m.now) found ≡ find (named name) ms
      → option_map (λ (m : Bor OwnMember). owned_of m.now) found ≡ member_named name (nth_list (map (map owned_of) xss) k)
  found_source ms found at is =
      shown found
      ∙ (ap (option_map owned_of) is
      ∙ (by_name name ms ∙ ap (λ (o : Option (List Owned)). member_named name (unwrap_or o [])) (ap (option_map (map owned_of)) at ∙ sym (nth_mapped xss k))))

  pub no_source : None ≡ slice_get xss k → None ≡ member_named name (nth_list (map (map owned_of) xss) k)
  no_source at = ap (λ (o : Option (List Owned)). member_named name (unwrap_or o [])) (ap (option_map (map owned_of)) at ∙ sym (nth_mapped xss k))
