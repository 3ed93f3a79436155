-- Nodes read one after another, as the elements of a document.
use Rattle.std.specs.Prelude.{◌≡◌, ◌≢◌, refl, ℕ, ◌+◌, ◌<◌, ◌≤◌, List, [], ◌∷◌, ◌++◌, length, All, take, drop, get_or}
use Rattle.std.proofs.Common.{◌∙◌, ap, sym, subst, arith, append_assoc, length-append}
use Rattle.std.proofs.lemmas.List.{append-nil, drop_more, take-append-drop, take_all, take_more}
use Rattle.std.proofs.lemmas.List.Elements.{All-head, All-tail, All-push}
use Rattle.mxml_tree.specs.declared.tree.Node as Row
use Rattle.flex_front.specs.declared.document.Element.{Element}
use Rattle.flex_front.specs.declared.reading.SourceRefusal.{SourceRefusal}
use Rattle.flex_front.specs.declared.reading.SourceRefusal.TheVariants as refusal
use Rattle.flex_front.specs.Parts.{HasNoRow, IsElementless, IsFineRow, IsNoElement}
use Rattle.flex_front.specs.Source.{AreElements, AreNewIds, AreRows, IsElement, IsNewId, IsRow, id_of}
use Rattle.flex_front.proofs.DocumentLaws.{row_is_one}

at_seam : (P : Element → Type 0) (es : List Element) (e : Element) (others : List Element) → All P (es ++ e ∷ others) → P e
at_seam P [] e others all = All-head P e others all
at_seam P (x ∷ es) e others all = at_seam P es e others (All-tail P x (es ++ e ∷ others) all)

-- one element more, with a new id
new_push : (before es : List Element) (e : Element) → AreNewIds before es → IsNewId (id_of e) (before ++ es) → AreNewIds before (es ++ e ∷ [])
new_push before [] e are new = (subst (λ (l : List Element). IsNewId (id_of e) l) (append-nil before) new, tt)
new_push before (x ∷ es) e are new =
    (are.0, new_push (before ++ x ∷ []) es e are.1 (subst (λ (l : List Element). IsNewId (id_of e) l) (sym (append_assoc before (x ∷ []) es)) new))

-- an element among those whose ids are new has a new id
new_among : (before es : List Element) (e : Element) (others : List Element) → AreNewIds before (es ++ e ∷ others) → IsNewId (id_of e) (before ++ es)
new_among before [] e others are = subst (λ (l : List Element). IsNewId (id_of e) l) (sym (append-nil before)) are.0
new_among before (x ∷ es) e others are = subst (λ (l : List Element). IsNewId (id_of e) l) (append_assoc before (x ∷ []) es) (new_among (before ++ x ∷ []) es e others are.1)

rows_push : (rows : List Row.Node) (es : List Element) (row : Row.Node) (e : Element) → AreRows rows es → IsRow row e → AreRows (rows ++ row ∷ []) (es ++ e ∷ [])
rows_push [] [] row e are is = (is, tt)
rows_push [] (x ∷ es) row e are is = absurd are
rows_push (r ∷ rows) [] row e are is = absurd are
rows_push (r ∷ rows) (x ∷ es) row e (first, are) is = (first, rows_push rows es row e are is)

-- the element of the next node
record IsNext (row : Row.Node) (read all : List Element) : Type 0 where
  next : Element
  others : List Element
  is : all ≡ read ++ next ∷ others
  is_row : IsRow row next

next_of : (front : List Row.Node) (row : Row.Node) (back : List Row.Node) (read all : List Element) → AreRows front read → AreRows (front ++ row ∷ back) all → IsNext row read all
next_of [] row back [] [] are all = absurd all
next_of [] row back [] (e ∷ es) are (is, others) = record { next = e; others = es; is = refl; is_row = is }
next_of [] row back (x ∷ read) all are are_all = absurd are
next_of (r ∷ front) row back [] all are are_all = absurd are
next_of (r ∷ front) row back (x ∷ read) [] are are_all = absurd are_all
next_of (r ∷ front) row back (x ∷ read) (e ∷ all) (is, are) (was, are_all) =
    let next = next_of front row back read all are are_all in
    record { next = next.next; others = next.others; is = ap (λ y. y ∷ all) (row_is_one r e x was is) ∙ ap (λ es. x ∷ es) next.is; is_row = next.is_row }

rows_around : (rows : List Row.Node) (i : ℕ) (row : Row.Node) → i < length rows → row ≡ get_or rows i row → rows ≡ take i rows ++ row ∷ drop (i + 1) rows
rows_around rows i row less is = sym (take-append-drop i rows) ∙ ap (λ t. take i rows ++ t) (drop_more rows i row less ∙ ap (λ r. r ∷ drop (i + 1) rows) (sym is))

next_at : (rows : List Row.Node) (i : ℕ) (row : Row.Node) (read all : List Element) → i < length rows → row ≡ get_or rows i row → AreElements (take i rows) read → AreElements rows all → IsNext row read all
next_at rows i row read all less is so_far whole =
    next_of (take i rows) row (drop (i + 1) rows) read all so_far.are (subst (λ rs. AreRows rs all) (rows_around rows i row less is) whole.are)

abbrev HasNone : List Row.Node → Type 0
HasNone rows = (elements : List Element) → AreElements rows elements → ⊥

-- no document has another element behind a hundred
pub too_many : (rows : List Row.Node) (i : ℕ) (row : Row.Node) (read : List Element) → i < length rows → row ≡ get_or rows i row → AreElements (take i rows) read → length read ≡ 100 → HasNone rows
too_many rows i row read less is so_far full all whole =
    let next = next_at rows i row read all less is so_far whole in
    let few = whole.few in
    omega (arith, few, full, ap length next.is, length-append read (next.next ∷ next.others))

-- nor a node that is no element
no_next : (rows : List Row.Node) (i : ℕ) (row : Row.Node) (read : List Element) → i < length rows → row ≡ get_or rows i row → AreElements (take i rows) read → HasNoRow row → HasNone rows
no_next rows i row read less is so_far none all whole =
    let next = next_at rows i row read all less is so_far whole in
    let fine = subst (All IsElement) next.is whole.fine in
    none next.next (record { is = next.is_row; fine = at_seam IsElement read next.next next.others fine })

-- nor the id of an earlier element
pub not_new : (rows : List Row.Node) (i : ℕ) (row : Row.Node) (read : List Element) (e : Element) → i < length rows → row ≡ get_or rows i row → AreElements (take i rows) read → IsFineRow row e → (IsNewId (id_of e) read → ⊥) → HasNone rows
not_new rows i row read e less is so_far fine wrong all whole =
    let next = next_at rows i row read all less is so_far whole in
    let distinct = subst (λ es. AreNewIds [] es) next.is whole.distinct in
    wrong (subst (λ x. IsNewId (id_of x) read) (row_is_one row next.next e next.is_row fine.is) (new_among [] read next.next next.others distinct))

pub none_read : (rows : List Row.Node) → AreElements (take 0 rows) []
none_read rows = subst (λ rs. AreElements rs []) (sym (take_none rows)) (record { are = tt; few = omega arith; fine = (λ k d lt. absurd (omega arith)); distinct = tt })
  where
    take_none : (rows : List Row.Node) → take 0 rows ≡ []
    take_none [] = refl
    take_none (row ∷ rows) = refl

pub more_read : (rows : List Row.Node) (i : ℕ) (row : Row.Node) (read : List Element) (e : Element) → i < length rows → row ≡ get_or rows i row → AreElements (take i rows) read → IsFineRow row e → length read ≢ 100 → IsNewId (id_of e) read → AreElements (take (i + 1) rows) (read ++ e ∷ [])
more_read rows i row read e less is so_far fine few new =
    record {
      are = subst (λ rs. AreRows rs (read ++ e ∷ [])) (sym (take_more rows i row less ∙ ap (λ r. take i rows ++ r ∷ []) (sym is))) (rows_push (take i rows) read row e so_far.are fine.is);
      few = omega (arith, length-append read (e ∷ []), so_far.few);
      fine = All-push IsElement read e so_far.fine fine.fine;
      distinct = new_push [] read e so_far.distinct new;
    }

pub all_read : (rows : List Row.Node) (i : ℕ) (read : List Element) → length rows ≤ i → AreElements (take i rows) read → AreElements rows read
all_read rows i read more so_far = subst (λ rs. AreElements rs read) (take_all i rows more) so_far

-- a refusal of the next node is one of all nodes
pub refused_row : (rows : List Row.Node) (i : ℕ) (row : Row.Node) (read : List Element) (e : SourceRefusal) → i < length rows → row ≡ get_or rows i row → AreElements (take i rows) read → IsNoElement row e → IsElementless rows e
refused_row rows i row read (refusal.Fault code at) less is so_far none = none
refused_row rows i row read refusal.NotYetBuilt less is so_far none = no_next rows i row read less is so_far none
refused_row rows i row read refusal.NoMemory less is so_far none = tt
