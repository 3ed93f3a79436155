-- A source has one document, which is small.
use Rattle.std.specs.Prelude.{◌≡◌, refl, ℕ, List, [], ◌∷◌, ◌++◌, length, Option, None, Some, codes}
use Rattle.std.specs.Str.{IsUtf8}
use Rattle.std.proofs.Common.{◌∙◌, ap, sym, subst, arith}
use Rattle.std.proofs.lemmas.List.{append_cancel_left, append_cancel_right}
use Rattle.std.proofs.lemmas.List.Elements.{All-weaker}
use Rattle.std.proofs.lemmas.Str.{IsUtf8-from_ascii}
use Rattle.std.proofs.lemmas.Str.Ascii.{IsAscii-from_all}
use Rattle.flex_front.specs.declared.document.Element.{Element}
use Rattle.flex_front.specs.declared.document.Element.TheVariants as element
use Rattle.flex_front.specs.declared.document.Document.{Document}
use Rattle.flex_front.specs.declared.reading.SourceRefusal.{SourceRefusal}
use Rattle.flex_front.specs.declared.reading.SourceRefusal.TheVariants as refusal
use Rattle.flex_front.specs.Parts.{HasNoPart, IsSourceless}
use Rattle.flex_front.specs.Source.{AreRows, IsElement, IsId, IsOneDocument, IsRefused, IsRow, IsShort, IsSmall, IsSmallDocument, IsSource, IsText, Says, call_of}
use Rattle.flex_front.proofs.Names.{id_few, id_letters}
use Rattle.mxml_tree.specs.declared.tree.Element as Tag
use Rattle.mxml_tree.specs.declared.tree.Node as Row
use Rattle.mxml_tree.specs.declared.tree.NodeKind.{NodeKind}
use Rattle.mxml_tree.specs.declared.tree.NodeKind.TheVariants as kind
use Rattle.mxml_tree.specs.IsTree.{HasNodes}
use Rattle.mxml_tree.proofs.TreeOrFault.{one_tree}

-- an id and a text are UTF-8
id_valid : (id : List ℕ) → IsId id → IsUtf8 id
id_valid id fine = IsUtf8-from_ascii id (IsAscii-from_all id (λ k d lt. let letter = id_letters id fine k d lt in omega (arith, letter.to)))

text_valid : (text : List ℕ) → IsText text → IsUtf8 text
text_valid text fine = IsUtf8-from_ascii text (IsAscii-from_all text (λ k d lt. let byte = fine.plain k d lt in omega (arith, byte.to)))

short : (e : Element) → IsElement e → IsShort e
short (element.Label id text) (is_id, is_text) = (id_few id is_id, id_valid id is_id, is_text.few, text_valid text is_text)
short (element.Button id None) is_id = (id_few id is_id, id_valid id is_id)
short (element.Button id (Some text)) (is_id, is_text) = (id_few id is_id, id_valid id is_id, is_text.few, text_valid text is_text)

pub small_source : (nodes : List Row.Node) (d : Document) → IsSource nodes d → IsSmall d
small_source nodes d is = record { few = is.elements.few; short = All-weaker IsElement IsShort short d.elements is.elements.fine }

pub small_document : IsSmallDocument
small_document name bytes document has = small_source has.nodes document has.is

abbrev some_or : List ℕ → Option (List ℕ) → List ℕ
some_or default None = default
some_or default (Some x) = x

one_value : (o : Option (List ℕ)) (a b : List ℕ) → o ≡ Some a → o ≡ Some b → a ≡ b
one_value o a b is was = ap (some_or []) (sym is ∙ was)

pub call_of_one : (a b : List ℕ) → call_of a ≡ call_of b → a ≡ b
call_of_one a b same = append_cancel_right a b (codes "')") (append_cancel_left (codes "trace('") (a ++ codes "')") (b ++ codes "')") same)

same_label : (id text other words : List ℕ) → id ≡ other → text ≡ words → element.Label id text ≡ element.Label other words
same_label id text other words ids texts = ap (λ i. element.Label i text) ids ∙ ap (element.Label other) texts

not_both : (local : List ℕ) → local ≡ codes "Label" → local ≡ codes "Button" → ⊥
not_both local is was = (let long : 5 ≡ 6 = ap length (sym is ∙ was) in omega (arith, long))

one_or_two : (n : ℕ) → n ≡ 1 → n ≡ 2 → ⊥
one_or_two n is was = omega (arith, is, was)

-- a tag says one element
pub says_one : (tag : Tag.Element) (e f : Element) → Says tag e → Says tag f → e ≡ f
says_one tag (element.Label id text) (element.Label other words) (_, _, ids, texts) (_, _, others, more) =
    same_label id text other words (one_value _ id other ids others) (one_value _ text words texts more)
says_one tag (element.Label id text) (element.Button other None) says also = absurd (not_both tag.local says.0 also.0)
says_one tag (element.Label id text) (element.Button other (Some words)) says also = absurd (not_both tag.local says.0 also.0)
says_one tag (element.Button id None) (element.Label other words) says also = absurd (not_both tag.local also.0 says.0)
says_one tag (element.Button id (Some text)) (element.Label other words) says also = absurd (not_both tag.local also.0 says.0)
says_one tag (element.Button id None) (element.Button other None) (_, _, ids) (_, _, others) = ap (λ i. element.Button i None) (one_value _ id other ids others)
says_one tag (element.Button id None) (element.Button other (Some words)) says also = absurd (one_or_two _ says.1 also.1)
says_one tag (element.Button id (Some text)) (element.Button other None) says also = absurd (one_or_two _ also.1 says.1)
says_one tag (element.Button id (Some text)) (element.Button other (Some words)) (_, _, ids, calls) (_, _, others, more) =
    ap (λ i. element.Button i (Some text)) (one_value _ id other ids others)
    ∙ ap (λ t. element.Button other (Some t)) (call_of_one text words (one_value _ (call_of text) (call_of words) calls more))

abbrev tag_or : Tag.Element → NodeKind → Tag.Element
tag_or default (kind.Element tag) = tag
tag_or default (kind.Characters characters) = default

pub row_is_one : (row : Row.Node) (e f : Element) → IsRow row e → IsRow row f → e ≡ f
row_is_one row e f is was =
    let tags : is.tag ≡ was.tag = ap (tag_or is.tag) (sym is.is ∙ was.is) in
    says_one was.tag e f (subst (λ tag. Says tag e) tags is.says) was.says

rows_are_one : (rows : List Row.Node) (es fs : List Element) → AreRows rows es → AreRows rows fs → es ≡ fs
rows_are_one [] [] [] are also = refl
rows_are_one [] (e ∷ es) fs are also = absurd are
rows_are_one [] es (f ∷ fs) are also = absurd also
rows_are_one (row ∷ rows) [] fs are also = absurd are
rows_are_one (row ∷ rows) (e ∷ es) [] are also = absurd also
rows_are_one (row ∷ rows) (e ∷ es) (f ∷ fs) (is, are) (was, also) = ap (λ x. x ∷ es) (row_is_one row e f is was) ∙ ap (λ xs. f ∷ xs) (rows_are_one rows es fs are also)

abbrev behind_first : List Row.Node → List Row.Node
behind_first [] = []
behind_first (row ∷ rows) = rows

same_document : (d e : Document) → d.elements ≡ e.elements → d ≡ e
same_document d e same k = record { elements = same k }

-- a tree is that of one document
pub one_source : (nodes : List Row.Node) (d e : Document) → IsSource nodes d → IsSource nodes e → d ≡ e
one_source nodes d e is was =
    let rows : is.rows ≡ was.rows = ap behind_first (sym is.is ∙ was.is) in
    same_document d e (rows_are_one was.rows d.elements e.elements (subst (λ rows. AreRows rows d.elements) rows is.elements.are) was.elements.are)

pub one_document : IsOneDocument
one_document name bytes d e has had = one_source had.nodes d e (subst (λ nodes. IsSource nodes d) (one_tree bytes has.nodes had.nodes has.has_nodes had.has_nodes) has.is) had.is

-- a tag of a Button with a handler says no element whose id or text may not be such
pub no_button : (tag : Tag.Element) (id text : List ℕ) → Says tag (element.Button id (Some text)) → (IsId id → IsText text → ⊥) → HasNoPart tag
no_button tag id text says wrong e part =
    let same = says_one tag e (element.Button id (Some text)) part.says says in
    let fine = subst IsElement same part.fine in
    wrong fine.0 fine.1

-- where a source's tree is that of no document, the source isn't built
pub no_source : (name bytes : List ℕ) (nodes : List Row.Node) (e : SourceRefusal) → HasNodes bytes nodes → IsSourceless nodes e → IsRefused name bytes e
no_source name bytes nodes (refusal.Fault code at) has none = absurd none
no_source name bytes nodes refusal.NoMemory has none = tt
no_source name bytes nodes refusal.NotYetBuilt has none =
    record { nodes = nodes; has_nodes = has; none = λ document had. none document (subst (λ ns. IsSource ns document) (one_tree bytes had.nodes nodes had.has_nodes has) had.is) }
