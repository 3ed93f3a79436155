use Rattle.std.proofs.Common.{refl}
use Rattle.std.specs.Prelude.{codes}
use Rattle.mxml_items.specs.Pieces.{Less, Greater, Ampersand, Quote, Apostrophe}
use Rattle.mxml_items.proofs.pieces.named.Goals as goal

pub returns-in-Some : goal.returns-in-Some
returns-in-Some c = record { bytes = codes "&lt;"; is = c.in-Some.ensures; is_named = Less refl refl }

pub returns-in-Some-behind : goal.returns-in-Some-behind
returns-in-Some-behind c = record { bytes = codes "&gt;"; is = c.in-Some-behind.ensures; is_named = Greater refl refl }

pub returns-in-Some-behind-2 : goal.returns-in-Some-behind-2
returns-in-Some-behind-2 c = record { bytes = codes "&amp;"; is = c.in-Some-behind-2.ensures; is_named = Ampersand refl refl }

pub returns-in-Some-behind-3 : goal.returns-in-Some-behind-3
returns-in-Some-behind-3 c = record { bytes = codes "&quot;"; is = c.in-Some-behind-3.ensures; is_named = Quote refl refl }

pub returns : goal.returns
returns c = record { bytes = codes "&apos;"; is = c.in_ok-rest.ensures; is_named = Apostrophe refl refl }
