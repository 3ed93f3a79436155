-- The code in fx:Script and fx:Metadata, and its places in the file.
use Rattle.std.specs.Prelude.{ℕ, zero, suc, ◌+◌, List, [], ◌∷◌, ◌++◌, map, drop, Bool, false, ◌&&◌, if◌then◌else◌, ◌==◌, Option, Some, None, codes, bytes_eq}
use Rattle.std.specs.List.{filter}
use Rattle.mxml_tree.specs.Tree.{Node, Elem, Chars, Nodes, NoNode, MoreNode}
use Rattle.mxml_tree.specs.declared.tree.Element.{Element}
use Rattle.source_sites.specs.Texts.{Text}
use Rattle.source_sites.specs.Sites.{Rule}
use Rattle.source_sites.specs.Sources.{Holder}

-- the namespace of the language
abbrev pub language_space : Text
language_space = codes "http://ns.adobe.com/mxml/2009"

abbrev pub holder : ℕ → Element → Nodes → Holder
holder at tag nodes = record { at = at; tag = tag; nodes = nodes }

abbrev mutual
  -- an element and those in it, in document order
  pub elements_of : Node → List Holder
  elements_of (Elem at tag nodes) = holder at tag nodes ∷ elements_in nodes
  elements_of (Chars at characters) = []

  pub elements_in : Nodes → List Holder
  elements_in NoNode = []
  elements_in (MoreNode node nodes) = elements_of node ++ elements_in nodes

abbrev pub is_language : Text → Element → Bool
is_language name tag = bytes_eq tag.space language_space && bytes_eq tag.local name

abbrev pub is_script : Holder → Bool
is_script h = is_language (codes "Script") h.tag

abbrev pub is_metadata : Holder → Bool
is_metadata h = is_language (codes "Metadata") h.tag

abbrev pub scripts_in : Nodes → List Holder
scripts_in nodes = filter is_script (elements_in nodes)

abbrev pub metadata_in : Nodes → List Holder
metadata_in nodes = filter is_metadata (elements_in nodes)

abbrev pub own_text : Node → Text
own_text (Elem at tag nodes) = []
own_text (Chars at characters) = characters.text

-- its texts, with nothing between them
abbrev pub code_text : Nodes → Text
code_text NoNode = []
code_text (MoreNode node nodes) = own_text node ++ code_text nodes

-- where code stands: at one place, or running from a place on
pub data Origin : Type 0 where
  All_at : (at : ℕ) → Origin
  Runs_from : (start : ℕ) → Origin

abbrev pub origin_of_span : ℕ → Option (ℕ × ℕ) → Origin
origin_of_span at None = All_at at
origin_of_span at (Some span) = Runs_from span.0

abbrev pub origin_of_node : ℕ → Node → Origin
origin_of_node at (Elem place tag nodes) = All_at at
origin_of_node at (Chars place characters) = origin_of_span at characters.span

-- exact where the content is one run of characters that stand in the file as they are; otherwise the start of the tag
abbrev pub code_origin : Holder → Origin
code_origin h = elim h.nodes [ NoNode ↦ All_at h.at | MoreNode node others ↦ elim others [ NoNode ↦ origin_of_node h.at node | MoreNode second more ↦ All_at h.at ] ]

abbrev pub is_line_end : List ℕ → Bool
is_line_end [] = false
is_line_end (b ∷ []) = false
is_line_end (b ∷ c ∷ bytes) = b == 13 && c == 10

-- how many bytes of a file stand for so many of a text in which CR LF became LF
abbrev pub bytes_for : ℕ → List ℕ → ℕ
bytes_for n [] = n
bytes_for zero (b ∷ bytes) = zero
bytes_for (suc n) (b ∷ bytes) = if is_line_end (b ∷ bytes) then suc (bytes_for (suc n) bytes) else suc (bytes_for n bytes)

-- the place in the file of a place in the code's text
abbrev pub place_in_file : List ℕ → Origin → ℕ → ℕ
place_in_file bytes (All_at at) n = at
place_in_file bytes (Runs_from start) n = start + bytes_for n (drop start bytes)

-- the rules of code, with their places in the file
abbrev pub placed : List ℕ → Origin → List Rule → List Rule
placed bytes origin rules = map (λ (r : Rule). record r { at = place_in_file bytes origin r.at }) rules
