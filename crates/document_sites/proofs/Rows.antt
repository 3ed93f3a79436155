-- What small source sets are told, by computation.
use Rattle.std.proofs.Common.{refl}
use Rattle.document_sites.specs.Rows.{SmallestIsRight, PathIsTold, ReadingIsToldFirst, PackageIsTold, CatalogNameIsTold, UnknownBaseIsTold, DocumentBaseIsTold, CycleIsTold, MainIsTold, ClassesAreToldFirst, WordsAreTold, TypeIsToldFirst, TakenNameIsTold, OverrideIsTold, NativeOverrideIsRight, TakenIdIsTold, ScriptIsTold, InnerTagIsToldFirst, LiteralIsTold, ReadOnlyIsTold, AttributeIsTold, HandlerIsTold, PlaceIsTold}

pub smallest_is_right : SmallestIsRight
smallest_is_right = refl

pub path_is_told : PathIsTold
path_is_told = refl

pub reading_is_told_first : ReadingIsToldFirst
reading_is_told_first = refl

pub package_is_told : PackageIsTold
package_is_told = refl

pub catalog_name_is_told : CatalogNameIsTold
catalog_name_is_told = refl

pub unknown_base_is_told : UnknownBaseIsTold
unknown_base_is_told = refl

pub document_base_is_told : DocumentBaseIsTold
document_base_is_told = refl

pub cycle_is_told : CycleIsTold
cycle_is_told = refl

pub main_is_told : MainIsTold
main_is_told = refl

pub classes_are_told_first : ClassesAreToldFirst
classes_are_told_first = refl

pub words_are_told : WordsAreTold
words_are_told = refl

pub type_is_told_first : TypeIsToldFirst
type_is_told_first = refl

pub taken_name_is_told : TakenNameIsTold
taken_name_is_told = refl

pub override_is_told : OverrideIsTold
override_is_told = refl

pub native_override_is_right : NativeOverrideIsRight
native_override_is_right = refl

pub taken_id_is_told : TakenIdIsTold
taken_id_is_told = refl

pub script_is_told : ScriptIsTold
script_is_told = refl

pub inner_tag_is_told_first : InnerTagIsToldFirst
inner_tag_is_told_first = refl

pub literal_is_told : LiteralIsTold
literal_is_told = refl

pub read_only_is_told : ReadOnlyIsTold
read_only_is_told = refl

pub attribute_is_told : AttributeIsTold
attribute_is_told = refl

pub handler_is_told : HandlerIsTold
handler_is_told = refl

pub place_is_told : PlaceIsTold
place_is_told = refl
