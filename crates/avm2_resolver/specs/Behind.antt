-- What stands behind a class.
use Rattle.std.specs.Prelude.{None, Option, Some, ℕ}
use Rattle.flex_world.specs.declared.kind.Class.{Class}
use Rattle.flex_world.specs.declared.kind.StaticType.{StaticType}

-- the number of the class of the file that a type is, if it is one
abbrev pub file_class : Option StaticType → Option ℕ
file_class (Some (StaticType.Object (Class.File k))) = Some k
file_class _ = None

-- the number of a class of the file
abbrev pub file_number : Option Class → Option ℕ
file_number (Some (Class.File k)) = Some k
file_number _ = None
