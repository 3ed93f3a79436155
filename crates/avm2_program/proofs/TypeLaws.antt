-- The types of numbers other than 0.
use Rattle.std.proofs.Common.{◌≡◌, List, ℕ, zero, suc, refl, unwrap_or}
use Rattle.std.specs.Prelude.{Option}
use Rattle.abc_format.specs.declared.records.Abc.{Abc}
use Rattle.flex_world.specs.declared.kind.StaticType.{StaticType}
use Rattle.flex_world.specs.declared.kind.StaticType.TheVariants.{Unnamed}
use Rattle.avm2_program.specs.declared.names.OwnName.{OwnName}
use Rattle.avm2_program.specs.Naming.{name_at, type_at, type_named}

pub named_type : (abc : Abc) (owns : List (Option OwnName)) (n : ℕ) (t : StaticType) → (n ≡ 0 → ⊥) → t ≡ unwrap_or (type_named owns (name_at abc n)) Unnamed
    → t ≡ type_at (record { abc = abc; class_names = owns }) n
named_type abc owns zero t not e = absurd (not refl)
named_type abc owns (suc n) t not e = e
