-- What holds while the paths of a body are followed.
use Rattle.std.specs.Prelude.{◌≡◌, ℕ, ◌<◌, length, ◌⊎◌}
use Rattle.abc_format.specs.declared.records.Abc.{Abc}
use Rattle.abc_format.specs.declared.records.MethodBody.{MethodBody}
use Rattle.verified_code.specs.declared.Depths.{Depths}
use Rattle.verified_code.specs.Verified.{no_depths, HasDepths, depths_behind, KeepsDepths, IsPassed}
use Rattle.verified_code.specs.Paths.{Differ}
use Rattle.avm2_verify.specs.Known.{Known, IsKnown}
use Rattle.avm2_verify.specs.Ways.{BodyStep}

-- each place with depths has a path that comes to it, and each step from it is known too, or the place waits
pub record IsFollowed (a : Abc) (b : MethodBody) (waits : ℕ → Type 0) (k : Known) : Type 0 where
  pub long : length k.table ≡ length b.code
  pub starts : 0 < length b.code → IsKnown k 0 (no_depths a)
  pub arrives : (place : ℕ) (d : Depths) → IsKnown k place d → HasDepths a b place d
  pub goes_on : (place : ℕ) (d : Depths) → IsKnown k place d → waits place ⊎ ((to : ℕ) (e : Depths) → BodyStep a b place d to e → IsKnown k to e)

-- two paths of a body differ
abbrev pub BodyDiffers : Abc → MethodBody → Type 0
BodyDiffers a b = Differ b.code (no_depths a) (depths_behind a) (KeepsDepths a b) (IsPassed a)
