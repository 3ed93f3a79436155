-- The values that the code keeps.
use Rattle.flex_program.specs.Program as program
use Rattle.document_sites.specs.BindingTexts as texts
use Rattle.document_texts.specs.declared.literals.Literal.{Literal}
use Rattle.document_texts.specs.declared.literals.Literal.TheVariants.{Quoted, Truth, Whole}
use Rattle.document_texts.specs.declared.settings.Setting.{Setting}

abbrev pub literal_as : Literal → program.Literal
literal_as (Truth b) = program.Literal.Truth b
literal_as (Whole n) = program.Literal.Whole n
literal_as (Quoted text) = program.Literal.Quoted text

abbrev pub setting_as : Setting → texts.Setting
setting_as s = record { name = s.name.now; value = literal_as s.value }
