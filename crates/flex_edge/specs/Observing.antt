-- What an observer means after a record.
use Rattle.std.specs.Prelude.{◌≡◌, ◌↔◌, List, [], ◌∷◌, Bool, IsTrue, Result, Ok, Err}
use Rattle.flex_base.specs.declared.memory.NoMemory.{NoMemory}
use Rattle.flex_base.specs.declared.record.TraceItem.{TraceItem}
use Rattle.flex_edge.specs.declared.observer.Next.{Next}
use Rattle.flex_edge.specs.declared.observer.Next.TheVariants as next

-- it leaves exactly where it would have left at this record
abbrev pub LeavesAt : (List TraceItem → Bool) → TraceItem → Next → Type 0
LeavesAt leaves_after item answer = (answer ≡ next.Leave) ↔ IsTrue (leaves_after (item ∷ []))

-- a function of the further records, after a record: the one before, with the record in front; where memory was refused, the one before
abbrev pub Advances : {A : Type 0} → (List TraceItem → A) → TraceItem → Result Next NoMemory → (List TraceItem → A) → Type 0
Advances old item (Ok answer) new = (items : List TraceItem) → new items ≡ old (item ∷ items)
Advances old item (Err refusal) new = (items : List TraceItem) → new items ≡ old items
