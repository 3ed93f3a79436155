-- What stands in an option.
use Rattle.std.proofs.Common.{◌≡◌, Some}

-- options that are equal hold what is equal
pub some_is : {A : Type 0} (a b : A) → Some a ≡ Some b → a ≡ b
some_is a b e = cc
