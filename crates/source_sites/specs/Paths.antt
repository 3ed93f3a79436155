-- What the path of a file says.
use Rattle.std.specs.Prelude.{ℕ, List, length, drop, Bool, ◌&&◌, ◌||◌, if◌then◌else◌, nat_le, codes}
use Rattle.std.specs.List.{list_all}
use Rattle.flex_base.specs.Events.{path_text}
use Rattle.source_sites.specs.Texts.{Text, begins_with, ends_with, cut_end, split, without_last, last_name}

-- without a leading `./`
abbrev pub short_path : Text → Text
short_path path = if begins_with (codes "./") path then drop 2 path else path

abbrev pub is_document_path : Text → Bool
is_document_path path = ends_with (codes ".mxml") path

abbrev pub is_class_path : Text → Bool
is_class_path path = ends_with (codes ".as") path

-- without its end `.mxml` or `.as`
abbrev pub bare_path : Text → Text
bare_path path = cut_end (if is_document_path path then 5 else 3) path

-- the folders and the file
abbrev pub path_parts : Text → List Text
path_parts path = split 47 (bare_path (short_path path))

-- of the class that a file defines
abbrev pub package_of : Text → Text
package_of path = path_text (without_last (path_parts path))

abbrev pub class_name_of : Text → Text
class_name_of path = last_name (path_parts path)

-- at most 2,048 bytes, identifiers joined by `/`, and one of the two ends; that of the main file is `.mxml`
abbrev pub is_right_path : (Text → Bool) → ℕ → Text → Bool
is_right_path is_identifier file path =
    nat_le (length (short_path path)) 2048
    && (is_document_path path || is_class_path path && nat_le 1 file)
    && list_all is_identifier (path_parts path)
