-- The bytes of the kinds of namespaces, multinames and traits.
use Rattle.std.specs.Prelude.{ℕ, List, [], ◌∷◌, if◌then◌else◌, ◌==◌, Option, Some, None}
use Rattle.abc_format.specs.declared.records.NamespaceKind.{NamespaceKind}
use Rattle.abc_format.specs.declared.records.NamespaceKind.TheVariants as namespace_kind
use Rattle.abc_format.specs.declared.records.TraitKind.{TraitKind}
use Rattle.abc_format.specs.declared.records.TraitKind.TheVariants as trait_kind

-- the kinds of namespaces
abbrev pub namespace_kind_byte : NamespaceKind → ℕ
namespace_kind_byte namespace_kind.Namespace = 0x08
namespace_kind_byte namespace_kind.PackageNamespace = 0x16
namespace_kind_byte namespace_kind.PackageInternalNs = 0x17
namespace_kind_byte namespace_kind.ProtectedNamespace = 0x18
namespace_kind_byte namespace_kind.ExplicitNamespace = 0x19
namespace_kind_byte namespace_kind.StaticProtectedNs = 0x1A
namespace_kind_byte namespace_kind.PrivateNs = 0x05

-- the kind among these that has the byte
abbrev pub kind_among : ℕ → List NamespaceKind → Option NamespaceKind
kind_among byte [] = None
kind_among byte (kind ∷ kinds) = if byte == namespace_kind_byte kind then Some kind else kind_among byte kinds

abbrev pub namespace_kinds : List NamespaceKind
namespace_kinds =
    namespace_kind.Namespace ∷ namespace_kind.PackageNamespace ∷ namespace_kind.PackageInternalNs ∷ namespace_kind.ProtectedNamespace
    ∷ namespace_kind.ExplicitNamespace ∷ namespace_kind.StaticProtectedNs ∷ namespace_kind.PrivateNs ∷ []

unfoldable pub namespace_kind_of : ℕ → Option NamespaceKind
namespace_kind_of byte = kind_among byte namespace_kinds

-- the kinds of multinames
abbrev pub qname_kind : ℕ
qname_kind = 0x07

abbrev pub qname_a_kind : ℕ
qname_a_kind = 0x0D

abbrev pub rtq_name_kind : ℕ
rtq_name_kind = 0x0F

abbrev pub rtq_name_a_kind : ℕ
rtq_name_a_kind = 0x10

abbrev pub rtq_name_l_kind : ℕ
rtq_name_l_kind = 0x11

abbrev pub rtq_name_la_kind : ℕ
rtq_name_la_kind = 0x12

abbrev pub multiname_kind : ℕ
multiname_kind = 0x09

abbrev pub multiname_a_kind : ℕ
multiname_a_kind = 0x0E

abbrev pub multiname_l_kind : ℕ
multiname_l_kind = 0x1B

abbrev pub multiname_la_kind : ℕ
multiname_la_kind = 0x1C

-- the kinds of traits, which stand in the lower four bits
abbrev pub slot_code : ℕ
slot_code = 0

abbrev pub method_code : ℕ
method_code = 1

abbrev pub getter_code : ℕ
getter_code = 2

abbrev pub setter_code : ℕ
setter_code = 3

abbrev pub class_code : ℕ
class_code = 4

abbrev pub function_code : ℕ
function_code = 5

abbrev pub const_code : ℕ
const_code = 6

abbrev pub trait_code : TraitKind → ℕ
trait_code (trait_kind.Slot slot_id type_name vindex vkind) = slot_code
trait_code (trait_kind.Method disp_id method) = method_code
trait_code (trait_kind.Getter disp_id method) = getter_code
trait_code (trait_kind.Setter disp_id method) = setter_code
trait_code (trait_kind.Class slot_id class) = class_code
trait_code (trait_kind.Function slot_id function) = function_code
trait_code (trait_kind.Const slot_id type_name vindex vkind) = const_code
