-- The items of a text, one behind another.
use Rattle.std.proofs.Common.{◌≡◌, ℕ, ◌+◌, ◌-◌, ◌<◌, ◌≤◌, List, [], ◌∷◌, ◌++◌, length, inl, inr, refl, ap, sym, ◌∙◌, subst, append_assoc, arith}
use Rattle.std.proofs.lemmas.List.{length-append}
use Rattle.mxml_items.specs.Items.{Item, Instruction, Comment, CData, Tag, End_tag, Words, Placed, IsItem, AreItems, AreWords}
use Rattle.std.specs.Prelude.{codes}
use Rattle.mxml_items.specs.Texts.{IsBegun, IsPlacedAt, mark}

-- some items of a text, and what stands behind them
pub record ItemsSoFar (text : List ℕ) (items : List Placed) (rest : List ℕ) : Type 0 where
  pub begun : List ℕ
  pub is_begun : IsBegun text begun
  pub short : length rest ≤ length begun
  -- with those that stand behind they are the items from the beginning
  pub go_on : (others : List Placed) (end : ℕ) (last : List ℕ) → AreItems others end last (length text - length rest) rest → AreItems (items ++ others) end last (length text - length begun) begun

pub begun_is_short : (text begun : List ℕ) → IsBegun text begun → length begun ≤ length text
begun_is_short text begun (inl is) = (let long = ap length is ∙ length-append mark begun in omega (arith, long))
begun_is_short text begun (inr (is, _)) = (let long = ap length is in omega (arith, long))

pub so_far_is_short : (text : List ℕ) (items : List Placed) (rest : List ℕ) → ItemsSoFar text items rest → length rest ≤ length text
so_far_is_short text items rest h = (let whole = begun_is_short text h.begun h.is_begun in let less = h.short in omega (arith, whole, less))

pub none_so_far : (text begun : List ℕ) → IsBegun text begun → ItemsSoFar text [] begun
none_so_far text begun is = record { begun = begun; is_begun = is; short = omega arith; go_on = λ others end last are. are }

words_some : (content : List ℕ) → AreWords content → 1 ≤ length content
words_some content w = w.not_empty

opened_some : (opening behind bytes : List ℕ) → bytes ≡ opening ++ behind → 1 ≤ length opening → 1 ≤ length bytes
opened_some opening behind bytes is some = (let long = ap length is ∙ length-append opening behind in omega (arith, long, some))

item_is_some : (it : Item) (at : ℕ) (bytes : List ℕ) → IsItem it at bytes → 1 ≤ length bytes
item_is_some Instruction at bytes h = opened_some (codes "<?") _ bytes h.1.is (omega arith)
item_is_some Comment at bytes h = opened_some (codes "<!--") _ bytes h.1.is (omega arith)
item_is_some (CData content) at bytes h = opened_some (codes "<![CDATA[") _ bytes h.is (omega arith)
item_is_some (Tag name attributes empty) at bytes h = opened_some (codes "<") _ bytes h.is (omega arith)
item_is_some (End_tag name) at bytes h = opened_some (codes "</") _ bytes h.is (omega arith)
item_is_some (Words content) at bytes h = (let some = words_some content h.1 in let long = ap length h.0 in omega (arith, long, some))

pub item_shortens : (size : ℕ) (rest : List ℕ) (placed : Placed) (unread : List ℕ) → IsPlacedAt size rest placed unread → length unread < length rest
item_shortens size rest placed unread p =
    let b = p.begins in
    let some = item_is_some placed.item (size - length rest) b.bytes b.is_item in
    let long = ap length b.is ∙ length-append b.bytes unread in
    omega (arith, some, long)

pub more_items : (text : List ℕ) (items : List Placed) (rest : List ℕ) (placed : Placed) (unread : List ℕ) → ItemsSoFar text items rest → IsPlacedAt (length text) rest placed unread → ItemsSoFar text (items ++ placed ∷ []) unread
more_items text items rest placed unread h p =
    record {
      begun = h.begun;
      is_begun = h.is_begun;
      short = (let less = item_shortens (length text) rest placed unread p in let before = h.short in omega (arith, less, before));
      go_on = λ others end last are. subst (λ xs. AreItems xs end last (length text - length h.begun) h.begun) (sym (append_assoc items (placed ∷ []) others)) (h.go_on (placed ∷ others) end last (one_more others end last are));
    }
  where
    one_more : (others : List Placed) (end : ℕ) (last : List ℕ) → AreItems others end last (length text - length unread) unread → AreItems (placed ∷ others) end last (length text - length rest) rest
    one_more others end last are =
        record {
          rest = unread;
          begins = p.begins;
          stands = p.stands;
          ends = (let less = item_shortens (length text) rest placed unread p in let whole = so_far_is_short text items rest h in let is = p.ends in omega (arith, less, whole, is));
          go_on = subst (λ n. AreItems others end last n unread) (sym p.ends) are;
        }

pub all_items : (text : List ℕ) (items : List Placed) (rest : List ℕ) (h : ItemsSoFar text items rest) → AreItems items (length text - length rest) rest (length text - length h.begun) h.begun
all_items text items rest h =
    subst (λ xs. AreItems xs (length text - length rest) rest (length text - length h.begun) h.begun) (nothing_behind items) (h.go_on [] (length text - length rest) rest (refl, refl))
  where
    nothing_behind : (xs : List Placed) → xs ++ [] ≡ xs
    nothing_behind [] = refl
    nothing_behind (x ∷ xs) = ap (λ t. x ∷ t) (nothing_behind xs)
