-- The terms that declared documents stand for.
use Rattle.std.specs.Prelude.{List, [], map, option_map, ◌∷◌, ◌≡◌}
use Rattle.flex_program.specs.declared.document as document
use Rattle.flex_program.specs.declared.document.Attribute.TheVariants as attribute
use Rattle.flex_program.specs.declared.document.BindingSource.TheVariants as source
use Rattle.flex_program.specs.declared.document.Change.TheVariants as change
use Rattle.flex_program.specs.declared.document.Content.TheVariants as content
use Rattle.flex_program.specs.declared.document.Destination.TheVariants as destination
use Rattle.flex_program.specs.declared.document.Given.TheVariants as given
use Rattle.flex_program.specs.CodeTerms.{expr_of, literal_of}
use Rattle.flex_program.specs.Program.{Attribute, Binding, BindingSource, Chain, Change, Contents, Destination, Document, Given, Givens, Instance, Override, Part, Presence, State}

abbrev pub attribute_of : document.Attribute.Attribute → Attribute
attribute_of (attribute.Sets name value) = Attribute.Sets name (literal_of value)
attribute_of (attribute.Handles event method) = Attribute.Handles event method

abbrev pub presence_of : document.Presence.Presence → Presence
presence_of p = record { states = p.states; container = p.container; immediate = p.immediate; auto = p.auto }

abbrev pub part_of : document.Part.Part → Part
part_of p =
    record {
      number = p.number;
      class = p.class;
      id = p.id;
      presence = option_map presence_of p.presence;
      attributes = map attribute_of p.attributes.items;
    }

abbrev mutual
  pub contents_in : {n : _} → document.Instance.Row_of-Content n → Contents
  contents_in document.Instance.end_of-Content = Contents.NoContent
  contents_in (document.Instance.more_of-Content c rest) = content_before c (contents_in rest)

  pub content_before : document.Content.Content → Contents → Contents
  content_before (content.Child' part shape contents) rest = Contents.Child (Instance.Holding (part_of part) (contents_in contents)) rest
  content_before (content.Tag name value) rest = Contents.Tag name (given_of value) rest
  content_before (content.Declared' part shape contents) rest = Contents.Declared (Instance.Holding (part_of part) (contents_in contents)) rest
  content_before (content.DeclaredValue id value) rest = Contents.Declared_value id (given_of value) rest

  pub given_of : document.Given.Given → Given
  given_of (given.Literal value) = Given.Given_literal (literal_of value)
  given_of (given.Instance' part shape contents) = Given.Given_instance (Instance.Holding (part_of part) (contents_in contents))
  given_of (given.Array' shape items) = Given.Given_array (givens_in items)

  pub givens_in : {n : _} → document.Given.Row_of-Given n → Givens
  givens_in document.Given.end_of-Given = Givens.NoGiven
  givens_in (document.Given.more_of-Given g rest) = Givens.MoreGiven (given_of g) (givens_in rest)

abbrev pub contents_of : List document.Content.Content → Contents
contents_of [] = Contents.NoContent
contents_of (c ∷ contents) = content_before c (contents_of contents)

abbrev pub givens_of : List document.Given.Given → Givens
givens_of [] = Givens.NoGiven
givens_of (g ∷ items) = Givens.MoreGiven (given_of g) (givens_of items)

abbrev pub instance_of : document.Instance.Instance → Instance
instance_of i = Instance.Holding (part_of i.part) (contents_of i.contents.items)

-- the instance has this part
abbrev pub HasPart : document.Instance.Instance → document.Part.Part → Type 0
HasPart i part = instance_of i ≡ Instance.Holding (part_of part) (contents_of i.contents.items)

-- the instance holds these tags
abbrev pub HasContents : document.Instance.Instance → List document.Content.Content → Type 0
HasContents i contents = instance_of i ≡ Instance.Holding (part_of i.part) (contents_of contents)

abbrev pub chain_of : document.WatchedChain.WatchedChain → Chain
chain_of c = record { start = c.start; names = c.names }

abbrev pub source_of : document.BindingSource.BindingSource → BindingSource
source_of (source.Expression e) = BindingSource.An_expression (expr_of e)
source_of (source.Property instance name) = BindingSource.A_property instance name

abbrev pub destination_of : document.Destination.Destination → Destination
destination_of (destination.Instance instance name) = Destination.In_instance instance name
destination_of (destination.Chain names) = Destination.At_chain names

abbrev pub binding_of : document.Binding.Binding → Binding
binding_of b =
    record {
      source = source_of b.source;
      destination = destination_of b.destination;
      chains = map chain_of b.chains.items;
      counterpart = b.counterpart;
      second = b.second;
    }

abbrev pub change_of : document.Change.Change → Change
change_of (change.Property name value) = Change.Changes_property name (literal_of value)
change_of (change.Handler event base method) = Change.Changes_handler event base method

abbrev pub override_of : document.Override.Override → Override
override_of o = record { instance = o.instance; change = change_of o.change }

abbrev pub state_of : document.State.State → State
state_of s = record { name = s.name; overrides = map override_of s.overrides.items }

abbrev pub document_of : document.Document.Document → Document
document_of d =
    record {
      root = instance_of d.root;
      bindings = map binding_of d.bindings.items;
      states = map state_of d.states.items;
    }
