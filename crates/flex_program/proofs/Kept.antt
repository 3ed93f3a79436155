-- The laws of classes of a fine program.
use Rattle.flex_program.proofs.Facts.{above, callee_down, field_down}
use Rattle.flex_program.specs.Laws.{AncestorsGoOn, FieldsAreKept, MethodsAreKept}

pub ancestors_go_on : AncestorsGoOn
ancestors_go_on p fine class a b e h = above p fine class a b e h

pub fields_are_kept : FieldsAreKept
fields_are_kept p fine class a e name f h = field_down p fine class a e name f h

pub methods_are_kept : MethodsAreKept
methods_are_kept p fine class a e name y h = let x = callee_down p fine class a e name y h in (x.callee, x.is, x.alike)
