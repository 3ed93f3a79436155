-- The table of a nest: what one more node adds, and what the end of an element changes.
use Rattle.std.proofs.Common.{◌≡◌, ℕ, ◌+◌, List, [], ◌∷◌, ◌++◌, length, Option, None, Some, refl, ap, sym, ◌∙◌, append_assoc, arith}
use Rattle.std.proofs.lemmas.List.{length-append}
use Rattle.std.proofs.Math.Seq.{set-append_seam}
use Rattle.std.specs.Prelude.{slice_get, slice_set}
use Rattle.mxml_items.specs.Items.{Placed}
use Rattle.mxml_tree.specs.declared.tree.Node as Row
use Rattle.mxml_tree.specs.declared.tree.NodeKind.TheVariants as kind
use Rattle.mxml_tree.specs.Building.{Begun, Nest, Outside, Inside, end_at, ended, parent_in, table, with_node, with_nodes}
use Rattle.mxml_tree.specs.Tree.{Node, Elem, Nodes, NoNode, MoreNode, rows, rows_of}
use Rattle.mxml_tree.proofs.NodeLaws.{append_nil}

-- a node at the end of those in a nest
abbrev pub with_child : Nest → Node → List Placed → Nest
with_child (Outside done items) node own = Outside (with_node done node) (items ++ own)
with_child (Inside begun done items outer) node own = Inside begun (with_node done node) (items ++ own) outer

abbrev pub with_passed : Nest → List Placed → Nest
with_passed (Outside done items) passed = Outside done (items ++ passed)
with_passed (Inside begun done items outer) passed = Inside begun done (items ++ passed) outer

rows_with : (parent : Option ℕ) (n : ℕ) (done others : Nodes) → rows_of parent n (with_nodes done others) ≡ rows_of parent n done ++ rows_of parent (n + length (rows_of parent n done)) others
rows_with parent n NoNode others = ap (λ m. rows_of parent m others) (omega arith)
rows_with parent n (MoreNode node nodes) others =
    let own = rows parent n node in
    let next = rows_of parent (n + length own) nodes in
    let more : n + length own + length next ≡ n + length (own ++ next) = (let long = length-append own next in omega (arith, long)) in
    ap (λ t. own ++ t) (rows_with parent (n + length own) nodes others ∙ ap (λ m. next ++ rows_of parent m others) more)
    ∙ sym (append_assoc own next (rows_of parent (n + length (own ++ next)) others))

rows_with_one : (parent : Option ℕ) (n : ℕ) (done : Nodes) (node : Node) → rows_of parent n (with_node done node) ≡ rows_of parent n done ++ rows parent (n + length (rows_of parent n done)) node
rows_with_one parent n done node =
    rows_with parent n done (MoreNode node NoNode)
    ∙ ap (λ t. rows_of parent n done ++ t) (append_nil (rows parent (n + length (rows_of parent n done)) node))

pub table_with_child : (nest : Nest) (node : Node) (own : List Placed) → table (with_child nest node own) ≡ table nest ++ rows (parent_in nest) (length (table nest)) node
table_with_child (Outside done items) node own = rows_with_one None 0 done node ∙ ap (λ m. rows_of None 0 done ++ rows None m node) (omega arith)
table_with_child (Inside begun done items outer) node own =
    let front = table outer in
    let n = length front in
    let row : Row.Node = record { parent = parent_in outer; at = begun.start.at; kind = kind.Element begun.element } in
    let inner = rows_of (Some n) (n + 1) done in
    let long : n + 1 + length inner ≡ length (front ++ row ∷ inner) = (let l = length-append front (row ∷ inner) in omega (arith, l)) in
    ap (λ t. front ++ row ∷ t) (rows_with_one (Some n) (n + 1) done node ∙ ap (λ m. inner ++ rows (Some n) m node) long)
    ∙ sym (append_assoc front (row ∷ inner) (rows (Some n) (length (front ++ row ∷ inner)) node))

pub table_with_passed : (nest : Nest) (passed : List Placed) → table (with_passed nest passed) ≡ table nest
table_with_passed (Outside done items) passed = refl
table_with_passed (Inside begun done items outer) passed = refl

get_seam : (front : List Row.Node) (row : Row.Node) (back : List Row.Node) → slice_get (front ++ row ∷ back) (length front) ≡ Some row
get_seam [] row back = refl
get_seam (r ∷ front) row back = get_seam front row back

-- the element with its end
abbrev pub closed : Begun → ℕ → Nodes → Node
closed begun end done = Elem begun.start.at (record begun.element { end = end }) done

pub table_closed : (begun : Begun) (done : Nodes) (items : List Placed) (outer : Nest) (end : ℕ) (own : List Placed) → table (with_child outer (closed begun end done) own) ≡ end_at (length (table outer)) end (table (Inside begun done items outer))
table_closed begun done items outer end own =
    let front = table outer in
    let n = length front in
    let row : Row.Node = record { parent = parent_in outer; at = begun.start.at; kind = kind.Element begun.element } in
    let inner = rows_of (Some n) (n + 1) done in
    table_with_child outer (closed begun end done) own
    ∙ sym (ap (λ found. elim found [ Some r ↦ slice_set (front ++ row ∷ inner) n (ended end r) | None ↦ front ++ row ∷ inner ]) (get_seam front row inner)
    ∙ set-append_seam front row inner (ended end row))
