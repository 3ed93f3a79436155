-- Whether a function fits a member that it overrides.
use Rattle.std.specs.Prelude.{Bool, ◌&&◌, not}
use Rattle.as3_parser.specs.declared.tree.Modifier.{Modifier}
use Rattle.as3_parser.specs.declared.tree.Modifier.TheVariants as modifier
use Rattle.source_sites.specs.Functions.{same_modifier}
use Rattle.source_sites.specs.Members.{Owned}
use Rattle.source_sites.specs.Types.{Signature}
use Rattle.class_sites.specs.MemberSites.{fits_kind}

abbrev pub fits_owned : Modifier → Signature → Owned → Bool
fits_owned access s m = fits_kind s m.kind && same_modifier access m.access && not (same_modifier m.access modifier.Private)
