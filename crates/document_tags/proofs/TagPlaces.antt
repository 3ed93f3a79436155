-- Where source classes have their tags.
use Rattle.std.proofs.Common.{◌≡◌, refl, Bool, true, false, length}
use Rattle.std.specs.Prelude.{Option, Some, None, if◌then◌else◌, ◌==◌}
use Rattle.component_catalog.specs.declared.class.TagPlace.TheVariants.{Anywhere, Nowhere}
use Rattle.source_sites.specs.Members.{has_tag, tag_without}
use Rattle.source_sites.specs.Types.{Signature}

by_test : (t b : Bool) → b ≡ has_tag (if t then Anywhere else Nowhere) → (if b then Anywhere else Nowhere) ≡ (if t then Anywhere else Nowhere)
by_test true true e = refl
by_test true false e = absurd (cc)
by_test false true e = absurd (cc)
by_test false false e = refl

by_signature : (taken : Option Signature) (b : Bool) → b ≡ has_tag (tag_without taken) → (if b then Anywhere else Nowhere) ≡ tag_without taken
by_signature None true e = refl
by_signature None false e = absurd (cc)
by_signature (Some s) b e = by_test (length s.parameters == 0) b e

pub anywhere : (taken : Option Signature) (b : Bool) → b ≡ has_tag (tag_without taken) → b ≡ true → Anywhere ≡ tag_without taken
anywhere taken true e is = by_signature taken true e
anywhere taken false e is = absurd (cc)

pub nowhere : (taken : Option Signature) (b : Bool) → b ≡ has_tag (tag_without taken) → b ≡ false → Nowhere ≡ tag_without taken
nowhere taken true e is = absurd (cc)
nowhere taken false e is = by_signature taken false e
