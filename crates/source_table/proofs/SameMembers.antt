-- The members of read files are those of their source set.
use Rattle.std.proofs.Common.{◌≡◌, ◌∙◌, ℕ, ◌+◌, List, [], ◌∷◌, ◌++◌, refl, ap, sym, append-nil, flat_map, map, length, Bool, cond, ◌&&◌}
use Rattle.std.specs.Prelude.{Option, Some, option_map, unwrap_or}
use Rattle.std.specs.List.{filter}
use Rattle.std.proofs.lemmas.Grind.{flat_map-append}
use Rattle.mxml_tree.specs.Tree.{Node, Elem, Chars, Nodes, NoNode, MoreNode, rows, rows_of, table_of}
use Rattle.mxml_tree.specs.declared.tree.Attribute.{Attribute}
use Rattle.source_sites.specs.declared.names.NamedClass.{NamedClass}
use Rattle.source_sites.specs.Functions.{is_bindable}
use Rattle.source_sites.specs.Members.{Owned, class_metadata, for_each, id_type, ids_on, is_id, owned_id, owned_ids, owned_members, written_members}
use Rattle.source_sites.specs.Scripts.{elements_in, elements_of}
use Rattle.source_sites.specs.Sources.{Content, Holder, Readers, SourceFile}
use Rattle.source_sites.specs.Types as types
use Rattle.as3_types.specs.Identifiers.{is_identifier}
use Rattle.member_checks.specs.AllReaders.{KnowsIdentifiers}
use Rattle.read_sources.specs.declared.file.ReadContent.{ReadContent}
use Rattle.read_sources.specs.declared.file.ReadContent.TheVariants as content
use Rattle.read_sources.specs.declared.file.ReadFile.{ReadFile}
use Rattle.read_sources.specs.Read.{AreRead, IsReadAs}
use Rattle.source_table.specs.Constructors.{members_read}
use Rattle.source_table.specs.Events.{tags_read}
use Rattle.source_table.specs.Members.{ids_in_rows, ids_in_tree, ids_of_row, members_by_content, members_seen}
use Rattle.source_table.proofs.SameConstructors.{same_members}
use Rattle.source_table.proofs.SameEvents.{same_tags}

same_flat : {X Y : Type 0} (f g : X → List Y) → ((x : X) → f x ≡ g x) → (xs : List X) → flat_map f xs ≡ flat_map g xs
same_flat f g e [] = refl
same_flat f g e (x ∷ xs) = ap (λ ys. ys ++ flat_map f xs) (e x) ∙ ap (λ ys. g x ++ ys) (same_flat f g e xs)

same_kept : {X : Type 0} (f g : X → Bool) → ((x : X) → f x ≡ g x) → (xs : List X) → filter f xs ≡ filter g xs
same_kept f g e [] = refl
same_kept f g e (x ∷ xs) = ap (λ b. cond b (x ∷ filter f xs) (filter f xs)) (e x) ∙ ap (λ ys. cond (g x) (x ∷ ys) ys) (same_kept f g e xs)

module _ (classes : List NamedClass) (constructors : List (Option types.Signature)) where
  abbrev ids_of : Holder → List Owned
  ids_of = ids_on classes constructors is_identifier

  -- the rows of a node are its elements
  mutual
    same_ids : (parent : Option ℕ) (n : ℕ) (node : Node) → ids_in_rows classes constructors (rows parent n node) ≡ flat_map ids_of (elements_of node)
    same_ids parent n (Elem at element nodes) = ap (λ os. ids_on classes constructors is_identifier (record { at = at; tag = element; nodes = nodes }) ++ os) (same_ids_in (Some n) (n + 1) nodes)
    same_ids parent n (Chars at characters) = refl

    same_ids_in : (parent : Option ℕ) (n : ℕ) (nodes : Nodes) → ids_in_rows classes constructors (rows_of parent n nodes) ≡ flat_map ids_of (elements_in nodes)
    same_ids_in parent n NoNode = refl
    same_ids_in parent n (MoreNode node nodes) =
        let own = rows parent n node in
        let behind = rows_of parent (n + length own) nodes in
        flat_map-append (ids_of_row classes constructors) own behind
        ∙ (ap (λ os. os ++ ids_in_rows classes constructors behind) (same_ids parent n node)
        ∙ (ap (λ os. flat_map ids_of (elements_of node) ++ os) (same_ids_in parent (n + length own) nodes) ∙ sym (flat_map-append ids_of (elements_of node) (elements_in nodes))))

  module _ (readers : Readers) (knows : KnowsIdentifiers readers) where
    same_id : (a : Attribute) → (is_id a && is_identifier a.value) ≡ (is_id a && readers.is_identifier a.value)
    same_id a = ap (λ b. is_id a && b) (sym (knows a.value))

    same_on : (h : Holder) → ids_of h ≡ ids_on classes constructors readers.is_identifier h
    same_on h =
        ap
        (λ (kept : List Attribute). unwrap_or (option_map (λ type. map (owned_id classes constructors type) kept) (id_type classes constructors h.tag)) [])
        (same_kept (λ (a : Attribute). is_id a && is_identifier a.value) (λ (a : Attribute). is_id a && readers.is_identifier a.value) same_id h.tag.attributes)

    -- those in a root
    same_root : (root : Holder) → ids_in_tree classes constructors (table_of (Elem root.at root.tag root.nodes)) ≡ owned_ids classes constructors readers.is_identifier (Content.Document root)
    same_root root = same_ids_in (Some 0) 1 root.nodes ∙ same_flat ids_of (ids_on classes constructors readers.is_identifier) same_on (elements_in root.nodes)

    abbrev code_in : NamedClass → Content → List Owned
    code_in here c = owned_members classes here (is_bindable (class_metadata readers c)) (written_members readers c)

    abbrev members_in : NamedClass → Content → List Owned
    members_in here c = code_in here c ++ owned_ids classes constructors readers.is_identifier c

    same_code : (here : NamedClass) (r : ReadContent) (c : Content) → IsReadAs readers r c → owned_members classes here (is_bindable (tags_read r)) (members_read r) ≡ code_in here c
    same_code here r c is =
        ap (λ tags. owned_members classes here (is_bindable tags) (members_read r)) (same_tags readers r c is)
        ∙ ap (λ members. owned_members classes here (is_bindable (class_metadata readers c)) members) (same_members readers r c is)

    same_content : (here : NamedClass) (r : ReadContent) (c : Content) → IsReadAs readers r c → members_seen classes constructors here r ≡ members_in here c
    same_content here (content.Document d) (Content.Document root) is =
        ap (λ os. os ++ ids_in_tree classes constructors d.tree) (same_code here (content.Document d) (Content.Document root) is)
        ∙ ap (λ os. code_in here (Content.Document root) ++ os) (ap (ids_in_tree classes constructors) is.tree ∙ same_root root)
    same_content here (content.ClassFile parsed) (Content.Class_file file) is = same_code here (content.ClassFile parsed) (Content.Class_file file) is ∙ sym (append-nil (code_in here (Content.Class_file file)))
    same_content here (content.Document d) (Content.Class_file file) is = absurd is
    same_content here (content.Document d) (Content.Unread at code) is = absurd is
    same_content here (content.ClassFile parsed) (Content.Document root) is = absurd is
    same_content here (content.ClassFile parsed) (Content.Unread at code) is = absurd is

    pub all_members : (cs : List NamedClass) (rs : List ReadFile) (fs : List SourceFile) → AreRead readers rs fs → members_by_content classes constructors cs rs ≡ for_each members_in cs fs
    all_members [] [] [] are = refl
    all_members [] (r ∷ rs) (f ∷ fs) are = refl
    all_members (c ∷ cs) [] [] are = refl
    all_members (c ∷ cs) (r ∷ rs) (f ∷ fs) are =
        ap (λ os. os ∷ members_by_content classes constructors cs rs) (same_content c r.content f.content are.0.content)
        ∙ ap (λ oss. members_in c f.content ∷ oss) (all_members cs rs fs are.1)
    all_members cs [] (f ∷ fs) are = absurd are
    all_members cs (r ∷ rs) [] are = absurd are

  -- where no file is left, all members are there
  without_files : (named : List NamedClass) → members_by_content classes constructors named [] ≡ []
  without_files [] = refl
  without_files (c ∷ cs) = refl

  pub no_member_left : (had : List (List Owned)) (named : List NamedClass) (whole : List (List Owned)) (rest : List ReadFile) → had ++ members_by_content classes constructors named rest ≡ whole → rest ≡ [] → had ≡ whole
  no_member_left had named whole rest so-far e =
      sym (append-nil had) ∙ (ap (λ os. had ++ os) (sym (without_files named)) ∙ (ap (λ fs. had ++ members_by_content classes constructors named fs) (sym e) ∙ so-far))
