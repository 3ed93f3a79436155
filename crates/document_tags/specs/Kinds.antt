-- The attributes that the code tells apart.
use Rattle.std.specs.Prelude.{None, option_map}
use Rattle.mxml_tree.specs.declared.tree.Attribute.{Attribute}
use Rattle.source_sites.specs.Names.{Meaning}
use Rattle.source_sites.specs.Texts.{Text}
use Rattle.class_table.specs.Seen.{property_as}
use Rattle.document_sites.specs.Attributes as sites
use Rattle.document_sites.specs.Standing as standing
use Rattle.document_sites.specs.Standing.{Role, Standing}
use Rattle.document_tags.specs.declared.attributes.AttributeKind.{AttributeKind}
use Rattle.document_tags.specs.declared.attributes.AttributeKind.TheVariants as kind
use Rattle.document_tags.specs.declared.document.DocumentClass.{DocumentClass}
use Rattle.document_tags.specs.declared.dotted.Dotted.{Dotted}
use Rattle.document_tags.specs.Tags.{table_in}

abbrev pub dotted_as : Dotted → sites.Dotted
dotted_as d = record { name = d.name.now; state = option_map (λ s. s.now) d.state }

abbrev pub kind_as : AttributeKind → sites.AttributeKind
kind_as (kind.Special name) = sites.AttributeKind.Special name.now
kind_as (kind.Sets property) = sites.AttributeKind.Sets (property_as property)
kind_as (kind.Hears name class) = sites.AttributeKind.Hears (record { name = name.now; class = class })
kind_as (kind.OfTheTag name) = sites.AttributeKind.Of_the_tag name.now
kind_as kind.Misplaced = sites.AttributeKind.Misplaced
kind_as kind.Strange = sites.AttributeKind.Strange
kind_as kind.NotJudged = sites.AttributeKind.Not_judged

-- in the documents that the code judges
module _ (d : DocumentClass) where
  abbrev pub heard_or_strange : Meaning → Text → sites.AttributeKind
  heard_or_strange meaning name = sites.set_or_heard None (standing.event_on (table_in d) d.class meaning name)

  abbrev pub on_instance : Meaning → Role → Text → sites.AttributeKind
  on_instance meaning role name = sites.on_instance (table_in d) d.class meaning role name

  abbrev pub attribute_on : Standing → Text → Text → sites.AttributeKind
  attribute_on standing name local = sites.attribute_on (table_in d) d.class standing name local

  abbrev pub if_judged : sites.AttributeKind → sites.AttributeKind
  if_judged k = sites.if_judged (table_in d) d.class k

  abbrev pub attribute_kind : Standing → Attribute → sites.AttributeKind
  attribute_kind standing a = sites.attribute_kind (table_in d) d.class standing a
