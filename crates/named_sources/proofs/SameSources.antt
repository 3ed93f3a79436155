-- Read files say what those of their source set do.
use Rattle.std.proofs.Common.{◌≡◌, ◌∙◌, List, [], ◌∷◌, ◌++◌, map, refl, ap, sym, append-nil, Bool}
use Rattle.std.specs.Prelude.{Option}
use Rattle.std.specs.List.{flat_map}
use Rattle.std.proofs.lemmas.List.Folds.{flat_map-map}
use Rattle.flex_base.specs.Events.{path_text}
use Rattle.flex_world.specs.declared.kind.Class.{Class}
use Rattle.as3_parser.specs.declared.tree.Members.{Members}
use Rattle.source_sites.specs.declared.names.Import.{Import}
use Rattle.source_sites.specs.declared.names.NamedClass.{NamedClass}
use Rattle.source_sites.specs.Bases.{base_meaning, base_meanings}
use Rattle.source_sites.specs.Names as names
use Rattle.source_sites.specs.Names.{class_of, import_in, items_read, named_class, script_items}
use Rattle.source_sites.specs.Paths.{is_document_path, path_parts}
use Rattle.source_sites.specs.Scripts.{code_text, scripts_in}
use Rattle.source_sites.specs.Sources.{Content, Holder, Readers, Reading, SourceFile}
use Rattle.source_sites.specs.Syntax.{Item}
use Rattle.source_sites.specs.Texts.{Text, last_name, without_last}
use Rattle.source_sites.specs.Trees.{items_of}
use Rattle.read_sources.specs.declared.file.ReadContent.{ReadContent}
use Rattle.read_sources.specs.declared.file.ReadContent.TheVariants as content
use Rattle.read_sources.specs.declared.file.ReadFile.{ReadFile}
use Rattle.read_sources.specs.Read.{AreRead, IsRead, IsReadAs, content_seen, script_read, tree_seen}
use Rattle.named_sources.specs.Named.{bases_read, class_named, imports_read}

module _ (readers : Readers) where
  abbrev read_of : Holder → Reading (List Item)
  read_of h = readers.members (code_text h.nodes)

  -- what stands in scripts
  pub same_items : (hs : List Holder) (ms : List Members) → map read_of hs ≡ map script_read ms → flat_map items_of ms ≡ flat_map (script_items readers) hs
  same_items hs ms e = sym (sym (flat_map-map items_read read_of hs) ∙ (ap (flat_map items_read) e ∙ flat_map-map items_read script_read ms))

  same_imports : (r : ReadContent) (c : Content) → IsReadAs readers r c → imports_read r ≡ names.imports_of readers c
  same_imports (content.Document d) (Content.Document root) is = ap (flat_map import_in) (same_items (scripts_in root.nodes) d.scripts is.scripts)
  same_imports (content.ClassFile parsed) (Content.Class_file file) is = ap (λ f. names.imports_of readers (Content.Class_file f)) (sym is)
  same_imports (content.Document d) (Content.Class_file file) is = absurd is
  same_imports (content.Document d) (Content.Unread at code) is = absurd is
  same_imports (content.ClassFile parsed) (Content.Document root) is = absurd is
  same_imports (content.ClassFile parsed) (Content.Unread at code) is = absurd is

  abbrev class_by : List Text → Bool → List Import → NamedClass
  class_by path document imports = record { folder = path_text (without_last path); name = last_name path; is_document = document; imports = imports }

  same_class : (r : ReadFile) (f : SourceFile) → IsRead readers r f → class_named r ≡ named_class readers f
  same_class r f is =
      ap (λ path. class_by path r.path.is_document (imports_read r.content)) is.names
      ∙ (ap (λ b. class_by (path_parts f.path) b (imports_read r.content)) is.is_document
      ∙ ap (λ imports. class_by (path_parts f.path) (is_document_path f.path) imports) (same_imports r.content f.content is.content))

  pub same_classes : (rs : List ReadFile) (fs : List SourceFile) → AreRead readers rs fs → map class_named rs ≡ map (named_class readers) fs
  same_classes [] [] are = refl
  same_classes (r ∷ rs) (f ∷ fs) are = ap (λ c. c ∷ map class_named rs) (same_class r f are.0) ∙ ap (λ cs. named_class readers f ∷ cs) (same_classes rs fs are.1)
  same_classes [] (f ∷ fs) are = absurd are
  same_classes (r ∷ rs) [] are = absurd are

  module _ (classes : List NamedClass) where
    same_base : (here : NamedClass) (r : ReadContent) (c : Content) → IsReadAs readers r c → base_meaning classes here (content_seen r) ≡ base_meaning classes here c
    same_base here (content.Document d) (Content.Document root) is = ap (λ tree. base_meaning classes here (tree_seen tree)) is.tree
    same_base here (content.ClassFile parsed) (Content.Class_file file) is = ap (λ f. base_meaning classes here (Content.Class_file f)) (sym is)
    same_base here (content.Document d) (Content.Class_file file) is = absurd is
    same_base here (content.Document d) (Content.Unread at code) is = absurd is
    same_base here (content.ClassFile parsed) (Content.Document root) is = absurd is
    same_base here (content.ClassFile parsed) (Content.Unread at code) is = absurd is

    pub same_bases : (cs : List NamedClass) (rs : List ReadFile) (fs : List SourceFile) → AreRead readers rs fs → bases_read classes cs rs ≡ map class_of (base_meanings classes cs fs)
    same_bases [] [] [] are = refl
    same_bases [] (r ∷ rs) (f ∷ fs) are = refl
    same_bases (c ∷ cs) [] [] are = refl
    same_bases (c ∷ cs) (r ∷ rs) (f ∷ fs) are =
        ap (λ m. class_of m ∷ bases_read classes cs rs) (same_base c r.content f.content are.0.content)
        ∙ ap (λ bs. class_of (base_meaning classes c f.content) ∷ bs) (same_bases cs rs fs are.1)
    same_bases cs [] (f ∷ fs) are = absurd are
    same_bases cs (r ∷ rs) [] are = absurd are

-- where no file is left, all bases are there
without_files : (classes named : List NamedClass) → bases_read classes named [] ≡ []
without_files classes [] = refl
without_files classes (c ∷ cs) = refl

pub no_file_left : (classes : List NamedClass) (had : List (Option Class)) (named : List NamedClass) (whole : List (Option Class)) (rest : List ReadFile) → had ++ bases_read classes named rest ≡ whole → rest ≡ [] → had ≡ whole
no_file_left classes had named whole rest so-far e =
    sym (append-nil had) ∙ (ap (λ bs. had ++ bs) (sym (without_files classes named)) ∙ (ap (λ fs. had ++ bases_read classes named fs) (sym e) ∙ so-far))
