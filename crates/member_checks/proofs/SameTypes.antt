-- Lists of types that are the same.
use Rattle.std.proofs.Common.{◌≡◌, ◌∙◌, List, [], ◌∷◌, map, ap, sym, Bool, true, false, ◌&&◌}
use Rattle.class_sites.specs.MemberSites.{same_type, same_types}
use Rattle.as3_types.specs.declared.types.ValueType.{ValueType}
use Rattle.as3_types.specs.Types.{type_of}

abbrev pub same_lists : List ValueType → List ValueType → Bool
same_lists ts us = same_types (map type_of ts) (map type_of us)

module _ (b : Bool) (ts us : List ValueType) where
  -- the second list ends first
  pub other_ends : (t : ValueType) (others : List ValueType) → b ≡ same_lists ts us → ts ≡ t ∷ others → us ≡ [] → false ≡ b
  other_ends t others e is none = sym (e ∙ (ap (λ ts. same_lists ts us) is ∙ ap (same_lists (t ∷ others)) none))

  -- two types differ, or go on
  pub types_differ : (t u : ValueType) (others rest : List ValueType) → b ≡ same_lists ts us → ts ≡ t ∷ others → us ≡ u ∷ rest → same_type (type_of t) (type_of u) ≡ false → false ≡ b
  types_differ t u others rest e is is' s =
      sym (e ∙ (ap (λ ts. same_lists ts us) is ∙ (ap (same_lists (t ∷ others)) is' ∙ ap (λ b. b && same_lists others rest) s)))

  pub next_types : (t u : ValueType) (others rest : List ValueType) → b ≡ same_lists ts us → ts ≡ t ∷ others → us ≡ u ∷ rest → same_type (type_of t) (type_of u) ≡ true → b ≡ same_lists others rest
  next_types t u others rest e is is' s =
      e ∙ (ap (λ ts. same_lists ts us) is ∙ (ap (same_lists (t ∷ others)) is' ∙ ap (λ b. b && same_lists others rest) s))

  -- the first list ends
  pub none_is_left : b ≡ same_lists ts us → ts ≡ [] → us ≡ [] → true ≡ b
  none_is_left e is none = sym (e ∙ (ap (λ ts. same_lists ts us) is ∙ ap (same_lists []) none))

  pub some_are_left : (u : ValueType) (rest : List ValueType) → b ≡ same_lists ts us → ts ≡ [] → us ≡ u ∷ rest → false ≡ b
  some_are_left u rest e is more = sym (e ∙ (ap (λ ts. same_lists ts us) is ∙ ap (same_lists []) more))
