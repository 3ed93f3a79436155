-- The constructors of read files are those of their source set.
use Rattle.std.proofs.Common.{◌≡◌, ◌∙◌, List, [], ◌∷◌, ◌++◌, refl, ap, sym, append-nil, flat_map, map}
use Rattle.std.specs.Prelude.{Option, option_map}
use Rattle.std.proofs.lemmas.List.Folds.{flat_map-map}
use Rattle.as3_parser.specs.declared.tree.Members.{Members}
use Rattle.source_sites.specs.declared.names.NamedClass.{NamedClass}
use Rattle.source_sites.specs.Functions.{constructor_in, member_in}
use Rattle.source_sites.specs.Members.{for_each, signature_of, written_members}
use Rattle.source_sites.specs.Names.{items_read, script_items}
use Rattle.source_sites.specs.Scripts.{code_text, scripts_in}
use Rattle.source_sites.specs.Sources.{Content, Holder, Readers, Reading, SourceFile}
use Rattle.source_sites.specs.Syntax.{Item}
use Rattle.source_sites.specs.Trees.{items_of}
use Rattle.source_sites.specs.Types as types
use Rattle.read_sources.specs.declared.file.ReadContent.{ReadContent}
use Rattle.read_sources.specs.declared.file.ReadContent.TheVariants as content
use Rattle.read_sources.specs.declared.file.ReadFile.{ReadFile}
use Rattle.read_sources.specs.Read.{AreRead, IsReadAs, script_read}
use Rattle.source_table.specs.Constructors.{constructors_read, members_read, taken}

module _ (readers : Readers) where
  abbrev read_of : Holder → Reading (List Item)
  read_of h = readers.members (code_text h.nodes)

  -- what stands in scripts
  same_items : (hs : List Holder) (ms : List Members) → map read_of hs ≡ map script_read ms → flat_map items_of ms ≡ flat_map (script_items readers) hs
  same_items hs ms e = sym (sym (flat_map-map items_read read_of hs) ∙ (ap (flat_map items_read) e ∙ flat_map-map items_read script_read ms))

  pub same_members : (r : ReadContent) (c : Content) → IsReadAs readers r c → members_read r ≡ written_members readers c
  same_members (content.Document d) (Content.Document root) is = ap (flat_map member_in) (same_items (scripts_in root.nodes) d.scripts is.scripts)
  same_members (content.ClassFile parsed) (Content.Class_file file) is = ap (λ f. written_members readers (Content.Class_file f)) (sym is)
  same_members (content.Document d) (Content.Class_file file) is = absurd is
  same_members (content.Document d) (Content.Unread at code) is = absurd is
  same_members (content.ClassFile parsed) (Content.Document root) is = absurd is
  same_members (content.ClassFile parsed) (Content.Unread at code) is = absurd is

  module _ (classes : List NamedClass) where
    abbrev taken_in : NamedClass → Content → Option types.Signature
    taken_in here c = option_map (signature_of classes here) (constructor_in here (written_members readers c))

    pub same_constructors : (cs : List NamedClass) (rs : List ReadFile) (fs : List SourceFile) → AreRead readers rs fs → constructors_read classes cs rs ≡ for_each taken_in cs fs
    same_constructors [] [] [] are = refl
    same_constructors [] (r ∷ rs) (f ∷ fs) are = refl
    same_constructors (c ∷ cs) [] [] are = refl
    same_constructors (c ∷ cs) (r ∷ rs) (f ∷ fs) are =
        ap (λ members. taken classes c members ∷ constructors_read classes cs rs) (same_members r.content f.content are.0.content)
        ∙ ap (λ ts. taken_in c f.content ∷ ts) (same_constructors cs rs fs are.1)
    same_constructors cs [] (f ∷ fs) are = absurd are
    same_constructors cs (r ∷ rs) [] are = absurd are

-- where no file is left, all constructors are there
without_files : (classes named : List NamedClass) → constructors_read classes named [] ≡ []
without_files classes [] = refl
without_files classes (c ∷ cs) = refl

pub no_constructor_left : (classes : List NamedClass) (had : List (Option types.Signature)) (named : List NamedClass) (whole : List (Option types.Signature)) (rest : List ReadFile) → had ++ constructors_read classes named rest ≡ whole → rest ≡ [] → had ≡ whole
no_constructor_left classes had named whole rest so-far e =
    sym (append-nil had) ∙ (ap (λ ts. had ++ ts) (sym (without_files classes named)) ∙ (ap (λ fs. had ++ constructors_read classes named fs) (sym e) ∙ so-far))
