-- What is known of tests whose answer together is known.
use Rattle.std.proofs.Common.{Bool, true, false, ◌&&◌, ◌≡◌, refl}
use Rattle.std.specs.Prelude.{not, ◌||◌}

pub both : (a b : Bool) → (a && b) ≡ true → (a ≡ true) × (b ≡ true)
both true b e = (refl, e)
both false b e = absurd (cc)

pub neither : (a b : Bool) → (a || b) ≡ false → (a ≡ false) × (b ≡ false)
neither true b e = absurd (cc)
neither false b e = (refl, e)

pub denied : (b : Bool) → not b ≡ true → b ≡ false
denied true e = absurd (cc)
denied false e = refl
