-- The events of read files are those of their source set.
use Rattle.std.proofs.Common.{◌≡◌, ◌∙◌, List, [], ◌∷◌, ◌++◌, refl, ap, sym, append-nil, flat_map, filter_map, map, ◌&&◌, not, codes, bytes_eq, length, Bool}
use Rattle.std.specs.Prelude.{Option, Some, None, if◌then◌else◌, ◌==◌}
use Rattle.std.specs.Option.{option_to_list}
use Rattle.std.specs.List.{cons_option, list_all}
use Rattle.std.proofs.lemmas.List.Folds.{flat_map-map}
use Rattle.as3_parser.specs.declared.tree.Metadata.{Metadata}
use Rattle.source_sites.specs.declared.names.NamedClass.{NamedClass}
use Rattle.source_sites.specs.Members.{Event, class_metadata, declared_event, event_of_class, for_each, metadata_read, metadata_tags, metadata_value}
use Rattle.source_sites.specs.Names.{class_at, class_of}
use Rattle.source_sites.specs.Scripts.{code_text, metadata_in}
use Rattle.source_sites.specs.Sources.{Content, Holder, Readers, Reading, SourceFile}
use Rattle.source_sites.specs.Syntax.{MetadataTag}
use Rattle.source_sites.specs.Texts.{Text, split}
use Rattle.source_sites.specs.Trees.{tags_of}
use Rattle.as3_types.specs.declared.table.ClassTable.{ClassTable}
use Rattle.as3_types.specs.Identifiers.{is_identifier}
use Rattle.member_checks.specs.AllReaders.{KnowsIdentifiers}
use Rattle.read_sources.specs.declared.file.ReadContent.{ReadContent}
use Rattle.read_sources.specs.declared.file.ReadContent.TheVariants as content
use Rattle.read_sources.specs.declared.file.ReadFile.{ReadFile}
use Rattle.read_sources.specs.Read as read
use Rattle.read_sources.specs.Read.{AreRead, IsReadAs}
use Rattle.source_table.specs.Events.{declares, events_read, events_seen, tags_read}

same_filter : {X Y : Type 0} (f g : X → Option Y) → ((x : X) → f x ≡ g x) → (xs : List X) → filter_map f xs ≡ filter_map g xs
same_filter f g e [] = refl
same_filter f g e (x ∷ xs) = ap (λ o. cons_option o (filter_map f xs)) (e x) ∙ ap (λ ys. cons_option (g x) ys) (same_filter f g e xs)

pub in_front : {A : Type 0} (o : Option A) (xs : List A) → option_to_list o ++ xs ≡ cons_option o xs
in_front None xs = refl
in_front (Some x) xs = refl

module _ (readers : Readers) where
  abbrev read_of : Holder → Reading (List MetadataTag)
  read_of h = readers.metadata (code_text h.nodes)

  same_metadata : (hs : List Holder) (ms : List Metadata) → map read_of hs ≡ map read.metadata_read ms → flat_map tags_of ms ≡ flat_map (metadata_tags readers) hs
  same_metadata hs ms e = sym (sym (flat_map-map metadata_read read_of hs) ∙ (ap (flat_map metadata_read) e ∙ flat_map-map metadata_read read.metadata_read ms))

  pub same_tags : (r : ReadContent) (c : Content) → IsReadAs readers r c → tags_read r ≡ class_metadata readers c
  same_tags (content.Document d) (Content.Document root) is = same_metadata (metadata_in root.nodes) d.metadata is.metadata
  same_tags (content.ClassFile parsed) (Content.Class_file file) is = ap (λ f. class_metadata readers (Content.Class_file f)) (sym is)
  same_tags (content.Document d) (Content.Class_file file) is = absurd is
  same_tags (content.Document d) (Content.Unread at code) is = absurd is
  same_tags (content.ClassFile parsed) (Content.Document root) is = absurd is
  same_tags (content.ClassFile parsed) (Content.Unread at code) is = absurd is

  module _ (knows : KnowsIdentifiers readers) (table : ClassTable) where
    identifiers : (path : List Text) → list_all is_identifier path ≡ list_all readers.is_identifier path
    identifiers [] = refl
    identifiers (name ∷ path) = ap (λ b. b && list_all is_identifier path) (sym (knows name)) ∙ ap (λ b. readers.is_identifier name && b) (identifiers path)

    same_event : (here : NamedClass) (m : MetadataTag) → declares table here m ≡ declared_event table.classes table.bases readers.is_identifier here m
    same_event here m =
        let name = metadata_value (codes "name") m in
        let path = split 46 (metadata_value (codes "type") m) in
        ap
        (λ (b : Bool).
        if bytes_eq m.name (codes "Event") && not (length name == 0)
        then (if b then event_of_class table.classes table.bases readers.is_identifier name (class_of (class_at table.classes here path)) else None)
        else None)
        (identifiers path)

    abbrev events_in : NamedClass → Content → List Event
    events_in here c = filter_map (declared_event table.classes table.bases readers.is_identifier here) (class_metadata readers c)

    same_content : (here : NamedClass) (r : ReadContent) (c : Content) → IsReadAs readers r c → events_seen table here r ≡ events_in here c
    same_content here r c is = ap (filter_map (declares table here)) (same_tags r c is) ∙ same_filter (declares table here) (declared_event table.classes table.bases readers.is_identifier here) (same_event here) (class_metadata readers c)

    pub same_events : (cs : List NamedClass) (rs : List ReadFile) (fs : List SourceFile) → AreRead readers rs fs → events_read table cs rs ≡ for_each events_in cs fs
    same_events [] [] [] are = refl
    same_events [] (r ∷ rs) (f ∷ fs) are = refl
    same_events (c ∷ cs) [] [] are = refl
    same_events (c ∷ cs) (r ∷ rs) (f ∷ fs) are =
        ap (λ es. es ∷ events_read table cs rs) (same_content c r.content f.content are.0.content) ∙ ap (λ ess. events_in c f.content ∷ ess) (same_events cs rs fs are.1)
    same_events cs [] (f ∷ fs) are = absurd are
    same_events cs (r ∷ rs) [] are = absurd are

-- where no file is left, all events are there
without_files : (table : ClassTable) (named : List NamedClass) → events_read table named [] ≡ []
without_files table [] = refl
without_files table (c ∷ cs) = refl

pub no_event_left : (table : ClassTable) (had : List (List Event)) (named : List NamedClass) (whole : List (List Event)) (rest : List ReadFile) → had ++ events_read table named rest ≡ whole → rest ≡ [] → had ≡ whole
no_event_left table had named whole rest so-far e =
    sym (append-nil had) ∙ (ap (λ es. had ++ es) (sym (without_files table named)) ∙ (ap (λ fs. had ++ events_read table named fs) (sym e) ∙ so-far))
