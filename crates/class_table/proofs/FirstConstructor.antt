-- The first constructor among members.
use Rattle.std.proofs.Common.{◌≡◌, ◌∙◌, List, ◌∷◌, ◌++◌, ap, refl, sym, map, Bool, true, false, cond}
use Rattle.std.specs.Prelude.{Option, Some, None, option_map, is_some, if◌then◌else◌}
use Rattle.std.specs.List.{find}
use Rattle.as3_parser.specs.declared.tree.Member as m
use Rattle.component_catalog.specs.Classes.{or_else}
use Rattle.source_sites.specs.declared.names.NamedClass.{NamedClass}
use Rattle.source_sites.specs.Functions.{functions_in, functions_of, is_constructor}
use Rattle.source_sites.specs.Members.{signature_of}
use Rattle.source_sites.specs.Syntax.{Declares, Function}
use Rattle.source_sites.specs.Trees.{declares_of, member_of}
use Rattle.source_sites.specs.Types as types
use Rattle.as3_types.specs.declared.types.Signature.{Signature}
use Rattle.as3_types.specs.Types.{signature_as}
use Rattle.class_table.specs.Columns.{constructor_declared, constructor_written, taken_by}

module _ (classes : List NamedClass) (here : NamedClass) where
  abbrev taken : Function → types.Signature
  taken f = signature_of classes here f

  one : (f : Function) (b : Bool) → (if b then Some (taken f) else None) ≡ option_map taken (cond b (Some f) None)
  one f true = refl
  one f false = refl

  -- of one function
  pub of_function : (f : Function) → taken_by classes here f ≡ constructor_declared classes here (Declares.Method f)
  of_function f = one f (is_constructor here f)

  first_of : (f : Function) (fs : List Function) (b : Bool) → option_map taken (cond b (Some f) (find (is_constructor here) fs)) ≡ or_else (option_map taken (cond b (Some f) None)) (option_map taken (find (is_constructor here) fs))
  first_of f fs true = refl
  first_of f fs false = refl

  split : (d : Declares) (fs : List Function) → option_map taken (find (is_constructor here) (functions_in d ++ fs)) ≡ or_else (constructor_declared classes here d) (option_map taken (find (is_constructor here) fs))
  split (Declares.Variables vs) fs = refl
  split (Declares.Method f) fs = first_of f fs (is_constructor here f)

  module _ (whole : Option types.Signature) (rest others : List m.Member) (member : m.Member) (so-far : whole ≡ constructor_written classes here rest) (is : rest ≡ member ∷ others) where
    stepped : whole ≡ or_else (constructor_declared classes here (declares_of member.kind)) (constructor_written classes here others)
    stepped = so-far ∙ (ap (constructor_written classes here) is ∙ split (declares_of member.kind) (functions_of (map member_of others)))

    -- this member is the constructor, or another may be
    pub found_here : (x : Option Signature) → option_map signature_as x ≡ constructor_declared classes here (declares_of member.kind) → is_some x ≡ true → option_map signature_as x ≡ whole
    found_here None e some = absurd (cc)
    found_here (Some s) e some = sym (stepped ∙ ap (λ o. or_else o (constructor_written classes here others)) (sym e))

    pub goes_on : (x : Option Signature) → option_map signature_as x ≡ constructor_declared classes here (declares_of member.kind) → is_some x ≡ false → whole ≡ constructor_written classes here others
    goes_on None e none = stepped ∙ ap (λ o. or_else o (constructor_written classes here others)) (sym e)
    goes_on (Some s) e none = absurd (cc)
