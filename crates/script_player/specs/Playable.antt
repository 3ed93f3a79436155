-- The files that are played.
use Rattle.std.specs.Prelude.{ℕ, List}
use Rattle.abc_format.specs.AbcLaws.{StandsFor}
use Rattle.abc_format.specs.declared.records.Abc.{Abc}
use Rattle.swf_tags.specs.File.{IsSwf}
use Rattle.swf_tags.specs.declared.types.Tag.{Tag}

-- a SWF file whose program stands for an ABC
pub record IsPlayable (swf : List ℕ) : Type 0 where
  pub version : ℕ
  pub tags : List Tag
  pub main : List ℕ
  pub code : List ℕ
  pub abc : Abc
  pub file : IsSwf version tags code main swf
  pub program : StandsFor abc code
