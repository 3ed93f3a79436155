-- What holds of the writing of ABCs.
use Rattle.std.specs.Prelude.{◌≡◌, List, ℕ, Ok}
use Rattle.abc_format.specs.AbcLaws.{StandsFor}
use Rattle.abc_format.specs.Reading.{read_abc}
use Rattle.abc_format.specs.declared.records.Abc.{Abc}
use Rattle.abc_writer.specs.Spelling.{abc_bytes}

-- what some bytes stand for, the written bytes stand for
abbrev pub AbcIsWritten : Type 0
AbcIsWritten = (a : Abc) (bytes : List ℕ) → StandsFor a bytes → StandsFor a (abc_bytes a)

-- and are read as it
abbrev pub AbcIsReadBack : Type 0
AbcIsReadBack = (a : Abc) (bytes : List ℕ) → StandsFor a bytes → read_abc (abc_bytes a) ≡ Ok a
