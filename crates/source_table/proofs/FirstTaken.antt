-- The first constructor among members that are put together.
use Rattle.std.proofs.Common.{◌≡◌, ◌∙◌, List, [], ◌∷◌, ◌++◌, ap, refl, sym, append-nil, true, false, cond}
use Rattle.std.specs.Prelude.{Option, Some, None, option_map, is_some}
use Rattle.std.specs.List.{find}
use Rattle.std.proofs.lemmas.Grind.{flat_map-append}
use Rattle.as3_parser.specs.declared.tree.Member as m
use Rattle.component_catalog.specs.Classes.{or_else}
use Rattle.source_sites.specs.declared.names.NamedClass.{NamedClass}
use Rattle.source_sites.specs.Functions.{functions_in, functions_of, is_constructor}
use Rattle.source_sites.specs.Members.{signature_of}
use Rattle.source_sites.specs.Syntax.{Function, Member}
use Rattle.source_sites.specs.Trees.{declares_of, member_of}
use Rattle.source_sites.specs.Types as types
use Rattle.as3_types.specs.declared.types.Signature.{Signature}
use Rattle.as3_types.specs.Types.{signature_as}
use Rattle.class_table.specs.Columns.{constructor_declared}
use Rattle.source_table.specs.Constructors.{taken}

module _ (classes : List NamedClass) (here : NamedClass) where
  abbrev given : Function → types.Signature
  given f = signature_of classes here f

  abbrev first : List Function → Option types.Signature
  first fs = option_map given (find (is_constructor here) fs)

  functions_together : (fs gs : List Function) → first (fs ++ gs) ≡ or_else (first fs) (first gs)
  functions_together [] gs = refl
  functions_together (f ∷ fs) gs =
      elim (is_constructor here f) as (λ b. option_map given (cond b (Some f) (find (is_constructor here) (fs ++ gs))) ≡ or_else (option_map given (cond b (Some f) (find (is_constructor here) fs))) (first gs)) [
        | true ↦ refl
        | false ↦ functions_together fs gs
      ]

  -- a member alone
  pub one_member : (member : m.Member) → constructor_declared classes here (declares_of member.kind) ≡ taken classes here (member_of member ∷ [])
  one_member member = ap first (sym (append-nil (functions_in (declares_of member.kind))))

  together : (xs ys : List Member) → taken classes here (xs ++ ys) ≡ or_else (taken classes here xs) (taken classes here ys)
  together xs ys = ap first (flat_map-append (λ (m : Member). functions_in m.declares) xs ys) ∙ functions_together (functions_of xs) (functions_of ys)

  module _ (whole : Option types.Signature) (xs ys : List Member) (so-far : whole ≡ taken classes here (xs ++ ys)) (x : Option Signature) (finds : option_map signature_as x ≡ taken classes here xs) where
    stepped : whole ≡ or_else (option_map signature_as x) (taken classes here ys)
    stepped = so-far ∙ (together xs ys ∙ ap (λ o. or_else o (taken classes here ys)) (sym finds))

    is_this : (y : Option Signature) → is_some y ≡ true → option_map signature_as y ≡ or_else (option_map signature_as y) (taken classes here ys)
    is_this None e = absurd (cc)
    is_this (Some s) e = refl

    is_behind : (y : Option Signature) → is_some y ≡ false → or_else (option_map signature_as y) (taken classes here ys) ≡ taken classes here ys
    is_behind None e = refl
    is_behind (Some s) e = absurd (cc)

    -- it is here, or behind
    pub found_here : is_some x ≡ true → option_map signature_as x ≡ whole
    found_here some = is_this x some ∙ sym stepped

    pub goes_on : is_some x ≡ false → whole ≡ taken classes here ys
    goes_on none = stepped ∙ is_behind x none
