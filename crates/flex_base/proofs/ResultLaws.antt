-- What stands in a result.
use Rattle.std.proofs.Common.{◌≡◌, Result, Ok}

-- a result holds one value
pub ok_is : {A E : Type 0} (r : Result A E) (x y : A) → r ≡ Ok x → r ≡ Ok y → x ≡ y
ok_is r x y d e = cc
