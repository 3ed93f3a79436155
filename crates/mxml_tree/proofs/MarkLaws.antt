-- The CDATA among the items of a text stands between its marks.
use Rattle.std.proofs.Common.{◌≡◌, ℕ, ◌+◌, List, [], ◌∷◌, ◌++◌, All, length, codes, ap, sym, subst, arith, length-append}
use Rattle.std.proofs.lemmas.List.Elements.{All-nil, All-cons}
use Rattle.mxml_items.specs.Items.{Item, Instruction, Comment, CData, Tag, End_tag, Words, Placed, IsItem, AreItems}
use Rattle.mxml_tree.specs.Readable.{IsReadableItem, AreMarksOf, HasMarks, AreReadable}

marks_of : (item : Item) (at end : ℕ) (bytes rest text : List ℕ) → text ≡ bytes ++ rest → IsItem item at bytes → end + length rest ≡ at + length text → AreMarksOf item at end
marks_of Instruction at end bytes rest text is is_item ends = tt
marks_of Comment at end bytes rest text is is_item ends = tt
marks_of (CData content) at end bytes rest text is is_item ends =
    omega (arith, ap length is, length-append bytes rest, ap length is_item.is, length-append (codes "<![CDATA[") (content ++ codes "]]>"), length-append content (codes "]]>"))
marks_of (Tag name attributes empty) at end bytes rest text is is_item ends = tt
marks_of (End_tag name) at end bytes rest text is is_item ends = tt
marks_of (Words content) at end bytes rest text is is_item ends = tt

pub have_marks : (items : List Placed) (end : ℕ) (rest : List ℕ) (at : ℕ) (text : List ℕ) → AreItems items end rest at text → All HasMarks items
have_marks [] end rest at text are = All-nil HasMarks
have_marks (placed ∷ items) end rest at text are =
    let P : ℕ → Type 0 = λ begin. AreMarksOf placed.item begin placed.end in
    All-cons HasMarks placed items (subst P (sym are.stands) (marks_of placed.item at placed.end are.begins.bytes are.rest text are.begins.is are.begins.is_item are.ends))
    (have_marks items end rest placed.end are.rest are.go_on)

pub readable_with_marks : (items : List Placed) → All (λ (placed : Placed). IsReadableItem placed.item) items → All HasMarks items → AreReadable items
readable_with_marks items readable marks = λ k d lt. (readable k d lt, marks k d lt)
