-- Bytes of which there are at most so many.
use Rattle.std.proofs.Common.{◌≡◌, ℕ, zero, suc, ◌+◌, ◌*◌, ◌<◌, ◌≤◌, List, [], ◌∷◌, ◌++◌, length, refl, ap, arith, length-append}
use Rattle.std.specs.Prelude.{None, Some, All, ℤ}
use Rattle.std.specs.List.{flat_map}
use Rattle.std.proofs.Math.Nat.{mul-suc, mul-le-mul_left}
use Rattle.std.proofs.lemmas.List.Elements.{All-head, All-tail, All-nil, All-cons, All-append}
use Rattle.abc_format.specs.Numbers.{u30_bytes, int_bytes}
use Rattle.abc_writer.specs.Spelling.{counted, table, table_count}
use Rattle.avm2_code.proofs.SizeLaws.{u30-length}
use Rattle.flex_front.specs.declared.document.Element.{Element}
use Rattle.flex_front.specs.declared.document.Element.TheVariants.{Label, Button}
use Rattle.flexc.specs.Emitted.{each_from, each_element, each_handler}

-- bytes, so many at most
pub record Within (most : ℕ) (bytes : List ℕ) : Type 0 where
  pub within : length bytes ≤ most

-- a higher bound serves as well
pub loosen : {m n : ℕ} {bytes : List ℕ} → Within m bytes → m ≤ n → Within n bytes
loosen w le = let h = w.within in record { within = omega arith }

-- nothing
pub none : Within 0 []
none = record { within = omega arith }

-- a byte
pub one : (byte : ℕ) → Within 1 (byte ∷ [])
one byte = record { within = omega arith }

infixl 60 ◌⊕◌
-- one piece behind another
pub ◌⊕◌ : {m n : ℕ} {a b : List ℕ} → Within m a → Within n b → Within (m + n) (a ++ b)
◌⊕◌ {a = a} {b = b} v w =
    let h = v.within in
    let g = w.within in
    record { within = omega (arith, length-append a b) }

-- a u30 in its shortest spelling
pub u30-within : (n : ℕ) → Within 5 (u30_bytes n)
u30-within n = record { within = u30-length n }

-- an int of the pool
pub int-within : (z : ℤ) → Within 5 (int_bytes z)
int-within z = record { within = omega arith }

-- items of at most so many bytes each
pub flat_map-within : {A : Type 0} (f : A → List ℕ) (most : ℕ) (items : List A) → All (λ x. Within most (f x)) items → Within (most * length items) (flat_map f items)
flat_map-within f most [] all = record { within = omega arith }
flat_map-within f most (x ∷ xs) all =
    let h = All-head (λ y. Within most (f y)) x xs all in
    let g = flat_map-within f most xs (All-tail (λ y. Within most (f y)) x xs all) in
    loosen (h ⊕ g) (omega (arith, mul-suc most (length xs)))

-- a list of at most so many such items
pub counted-within : {A : Type 0} (f : A → List ℕ) (most count : ℕ) (items : List A) → All (λ x. Within most (f x)) items → length items ≤ count → Within (5 + most * count) (counted f items)
counted-within f most count items all le =
    let h = u30-within (length items) ⊕ flat_map-within f most items all in
    loosen h (omega (arith, mul-le-mul_left most le))

-- a table of the pool of at most so many such items
pub table-within : {A : Type 0} (f : A → List ℕ) (most count : ℕ) (items : List A) → All (λ x. Within most (f x)) items → length items ≤ count → Within (5 + most * count) (table f items)
table-within f most count items all le =
    let h = u30-within (table_count items) ⊕ flat_map-within f most items all in
    loosen h (omega (arith, mul-le-mul_left most le))

-- an empty table of the pool
pub empty-within : {A : Type 0} (f : A → List ℕ) → Within 5 (table f [])
empty-within f = u30-within 0 ⊕ none

-- what is made for each number has at most so many bytes each time
pub each_from-within : (f : ℕ → List ℕ) (most k n : ℕ) → ((i : ℕ) → Within most (f i)) → Within (most * n) (each_from f k n)
each_from-within f most k zero each = record { within = omega arith }
each_from-within f most k (suc n) each =
    loosen (each k ⊕ each_from-within f most (suc k) n each) (omega (arith, mul-suc most n))

-- so many items for each number
pub each_from-length : {A : Type 0} (f : ℕ → List A) (size k n : ℕ) → ((i : ℕ) → length (f i) ≡ size) → length (each_from f k n) ≡ size * n
each_from-length f size k zero sized = omega arith
each_from-length f size k (suc n) sized =
    omega (arith, length-append (f k) (each_from f (suc k) n), sized k, each_from-length f size (suc k) n sized, mul-suc size n)

-- what holds of the items of each number holds of them all
pub each_from-all : {A : Type 0} (P : A → Type 0) (f : ℕ → List A) (k n most : ℕ) → k + n ≤ most → ((i : ℕ) → i < most → All P (f i)) → All P (each_from f k n)
each_from-all P f k zero most le each = All-nil P
each_from-all P f k (suc n) most le each = All-append P (f k) (each_from f (suc k) n) (each k (omega arith)) (each_from-all P f (suc k) n most (omega arith) each)

-- one item for each element
pub each_element-length : {A : Type 0} (f : ℕ → Element → A) (k : ℕ) (es : List Element) → length (each_element (λ i e. f i e ∷ []) k es) ≡ length es
each_element-length f k [] = refl
each_element-length f k (e ∷ es) = ap suc (each_element-length f (suc k) es)

-- at most so many items for each element
pub each_element-short : {A : Type 0} (f : ℕ → Element → List A) (most k : ℕ) (es : List Element) → ((i : ℕ) (e : Element) → length (f i e) ≤ most)
    → length (each_element f k es) ≤ most * length es
each_element-short f most k [] short = omega arith
each_element-short f most k (e ∷ es) short =
    omega (arith, length-append (f k e) (each_element f (suc k) es), short k e, each_element-short f most (suc k) es short, mul-suc most (length es))

-- what holds of the item of each element holds of them all
pub each_element-all : {A : Type 0} (P : A → Type 0) (f : ℕ → Element → A) (k most : ℕ) (es : List Element) → k + length es ≤ most → ((i : ℕ) (e : Element) → i < most → P (f i e))
    → All P (each_element (λ i e. f i e ∷ []) k es)
each_element-all P f k most [] le each = All-nil P
each_element-all P f k most (e ∷ es) le each =
    All-cons P (f k e) (each_element (λ i x. f i x ∷ []) (suc k) es) (each k e (omega arith)) (each_element-all P f (suc k) most es (omega arith) each)

-- at most one item for each element
pub each_handler-length : {A : Type 0} (f : ℕ → ℕ → A) (h k : ℕ) (es : List Element) → length (each_handler f h k es) ≤ length es
each_handler-length f h k [] = omega arith
each_handler-length f h k (Label id text ∷ es) = let le = each_handler-length f h (suc k) es in omega arith
each_handler-length f h k (Button id None ∷ es) = let le = each_handler-length f h (suc k) es in omega arith
each_handler-length f h k (Button id (Some text) ∷ es) = let le = each_handler-length f (suc h) (suc k) es in omega arith

-- as many items, whatever they are
pub each_handler-same : {A B : Type 0} (f : ℕ → ℕ → A) (g : ℕ → ℕ → B) (h k i j : ℕ) (es : List Element) → length (each_handler f h k es) ≡ length (each_handler g i j es)
each_handler-same f g h k i j [] = refl
each_handler-same f g h k i j (Label id text ∷ es) = each_handler-same f g h (suc k) i (suc j) es
each_handler-same f g h k i j (Button id None ∷ es) = each_handler-same f g h (suc k) i (suc j) es
each_handler-same f g h k i j (Button id (Some text) ∷ es) = ap suc (each_handler-same f g (suc h) (suc k) (suc i) (suc j) es)

-- what holds of the item of each two numbers, that of a handler and that of its element, holds of them all
pub each_handler-all : {A : Type 0} (P : A → Type 0) (f : ℕ → ℕ → A) (h k last most : ℕ) (es : List Element) → h + length (each_handler f h k es) ≤ last → k + length es ≤ most
    → ((i j : ℕ) → i < last → j < most → P (f i j)) → All P (each_handler f h k es)
each_handler-all P f h k last most [] handlers elements each = All-nil P
each_handler-all P f h k last most (Label id text ∷ es) handlers elements each = each_handler-all P f h (suc k) last most es handlers (omega arith) each
each_handler-all P f h k last most (Button id None ∷ es) handlers elements each = each_handler-all P f h (suc k) last most es handlers (omega arith) each
each_handler-all P f h k last most (Button id (Some text) ∷ es) handlers elements each =
    All-cons P (f h k) (each_handler f (suc h) (suc k) es) (each h k (omega arith) (omega arith))
    (each_handler-all P f (suc h) (suc k) last most es (omega arith) (omega arith) each)
