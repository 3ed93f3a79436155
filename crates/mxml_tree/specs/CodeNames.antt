-- The names of faults, as they are printed.
use Rattle.std.specs.Prelude.{ℕ, List, codes}
use Rattle.mxml_tree.specs.declared.fault.TreeCode.{TreeCode}
use Rattle.mxml_tree.specs.declared.fault.TreeCode.TheVariants as code

abbrev pub name_of : TreeCode → List ℕ
name_of code.NotUtf8 = codes "NotUtf8"
name_of code.Doctype = codes "Doctype"
name_of code.NotAnItem = codes "NotAnItem"
name_of code.TextOutside = codes "TextOutside"
name_of code.TooDeep = codes "TooDeep"
name_of code.DuplicateAttribute = codes "DuplicateAttribute"
name_of code.UnknownPrefix = codes "UnknownPrefix"
name_of code.WrongEnd = codes "WrongEnd"
name_of code.Unclosed = codes "Unclosed"
name_of code.NoRoot = codes "NoRoot"
