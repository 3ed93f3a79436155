-- The rules of an attribute by itself, whatever document it stands in.
use Rattle.std.specs.Prelude.{◌≡◌, ℕ, List, [], ◌∷◌, Bool, true, ◌||◌, not, Option, bytes_eq, codes, if◌then◌else◌}
use Rattle.mxml_tree.specs.declared.tree.Attribute.{Attribute}
use Rattle.source_sites.specs.declared.names.NamedClass.{NamedClass}
use Rattle.source_sites.specs.declared.site.Site.{Site}
use Rattle.source_sites.specs.Members.{Property, Table}
use Rattle.source_sites.specs.Sites.{Rule, first_site}
use Rattle.source_sites.specs.Sources.{Readers}
use Rattle.source_sites.specs.Texts.{Text, is_there}
use Rattle.class_sites.specs.MemberSites.{DeclaredName}
use Rattle.member_checks.specs.CodeRules.{class_readers}
use Rattle.member_checks.specs.AllReaders.{KnowsIdentifiers}
use Rattle.document_sites.specs.Attributes.{AttributeKind}
use Rattle.document_sites.specs.BindingTexts.{is_binding, setting}
use Rattle.document_sites.specs.DocumentSites as sites
use Rattle.document_sites.specs.DocumentSites.{Counts, may_carry}
use Rattle.document_sites.specs.Standing.{Role, Standing, is_root}

-- what a document is judged by
pub record Judged : Type 0 where
  pub readers : Readers
  pub table : Table
  pub number : ℕ
  pub here : NamedClass
  pub declared : List DeclaredName
  pub bytes : List ℕ
  pub counts : Counts

-- of all that, these rules ask only which texts are identifiers
abbrev pub nowhere : Judged
nowhere =
    record {
      readers = class_readers;
      table = record { names = []; bases = []; constructors = []; members = []; events = [] };
      number = 0;
      here = record { folder = []; name = []; is_document = true; imports = [] };
      declared = [];
      bytes = [];
      counts = record { instances = []; states = []; overrides = []; bindings = [] };
    }

module _ (j : Judged) where
  abbrev pub stands_rightly_in : Standing → AttributeKind → Attribute → Bool
  stands_rightly_in standing kind a = sites.stands_rightly j.readers j.table j.number j.here j.declared j.bytes j.counts standing kind a

  abbrev pub is_right_literal_in : AttributeKind → Attribute → Bool
  is_right_literal_in kind a = sites.is_right_literal j.readers j.table j.number j.here j.declared j.bytes j.counts kind a

  abbrev pub wrong_attribute_place : Standing → AttributeKind → Attribute → Rule
  wrong_attribute_place standing kind a = sites.wrong_attribute_place j.readers j.table j.number j.here j.declared j.bytes j.counts standing kind a

  abbrev pub unknown_attribute : AttributeKind → Attribute → Rule
  unknown_attribute kind a = sites.unknown_attribute j.readers j.table j.number j.here j.declared j.bytes j.counts kind a

  abbrev pub read_only_attribute : AttributeKind → Attribute → Rule
  read_only_attribute kind a = sites.read_only_attribute j.readers j.table j.number j.here j.declared j.bytes j.counts kind a

  abbrev pub bad_attribute_literal : AttributeKind → Attribute → Rule
  bad_attribute_literal kind a = sites.bad_attribute_literal j.readers j.table j.number j.here j.declared j.bytes j.counts kind a

abbrev pub stands_rightly : Standing → AttributeKind → Attribute → Bool
stands_rightly standing kind a = stands_rightly_in nowhere standing kind a

abbrev pub is_right_literal : AttributeKind → Attribute → Bool
is_right_literal kind a = is_right_literal_in nowhere kind a

abbrev pub is_strange : AttributeKind → Bool
is_strange kind = sites.is_strange nowhere.readers nowhere.table nowhere.number nowhere.here nowhere.declared nowhere.bytes nowhere.counts kind

abbrev pub is_read_only : AttributeKind → Bool
is_read_only kind = sites.is_read_only nowhere.readers nowhere.table nowhere.number nowhere.here nowhere.declared nowhere.bytes nowhere.counts kind

-- an `id` on an instance that stands so, or another special name
abbrev pub may_carry_special : Role → Text → Bool
may_carry_special role name = if bytes_eq name (codes "id") then not (is_root role) else may_carry role

abbrev pub is_right_special : Text → Attribute → Bool
is_right_special name a = sites.is_right_special nowhere.readers nowhere.table nowhere.number nowhere.here nowhere.declared nowhere.bytes nowhere.counts name a

abbrev pub is_right_own : Text → Attribute → Bool
is_right_own name a = sites.is_right_own nowhere.readers nowhere.table nowhere.number nowhere.here nowhere.declared nowhere.bytes nowhere.counts name a

-- a binding, or a text that converts
abbrev pub is_right_value : Property → Text → Bool
is_right_value p text = is_binding text || is_there (setting p text)

-- a site is that of the rule where it is broken, whatever the document is judged by
module _ (file : ℕ) (kind : AttributeKind) (a : Attribute) (site : Option Site) where
  abbrev pub FindsWrongPlace : Standing → Type 0
  FindsWrongPlace standing = (j : Judged) → site ≡ first_site file (wrong_attribute_place j standing kind a ∷ [])

  abbrev pub FindsUnknown : Type 0
  FindsUnknown = (j : Judged) → site ≡ first_site file (unknown_attribute j kind a ∷ [])

  abbrev pub FindsReadOnly : Type 0
  FindsReadOnly = (j : Judged) → site ≡ first_site file (read_only_attribute j kind a ∷ [])

-- and where its readers know identifiers
abbrev pub FindsBadLiteral : ℕ → AttributeKind → Attribute → Option Site → Type 0
FindsBadLiteral file kind a site = (j : Judged) → KnowsIdentifiers j.readers → site ≡ first_site file (bad_attribute_literal j kind a ∷ [])
