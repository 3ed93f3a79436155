-- What the look-ups of the code answer.
use Rattle.std.specs.Prelude.{List, ◌&&◌, codes, if◌then◌else◌, length, nat_lt}
use Rattle.source_sites.specs.Names as names
use Rattle.source_sites.specs.Texts.{Text, cut_end, ends_with}
use Rattle.source_sites.specs.declared.names.NamedClass.{NamedClass}
use Rattle.as3_types.specs.declared.meaning.Meaning.{Meaning}
use Rattle.as3_types.specs.declared.meaning.Meaning.TheVariants as meaning

abbrev pub meaning_of : Meaning → names.Meaning
meaning_of meaning.NoClass = names.Meaning.No_class
meaning_of meaning.State = names.Meaning.State
meaning_of (meaning.Class c) = names.Meaning.Means c

-- a tag whose namespace names a package, by the namespace and the name
abbrev pub class_of_package : List NamedClass → Text → Text → names.Meaning
class_of_package classes space name =
    if ends_with (codes ".*") space && nat_lt 2 (length space) then names.class_in classes (cut_end 2 space) name else names.Meaning.No_class
