-- What a table of watched chains answers, where it has them.
use Rattle.std.proofs.Common.{IfOk, List, ℕ, ◌≡◌}
use Rattle.std.specs.Prelude.{Err, None, Ok, Option, Result, Some}
use Rattle.flex_base.specs.declared.memory.NoMemory.{NoMemory}
use Rattle.flex_base.specs.declared.value.ObjId.{ObjId}
use Rattle.flex_objects.specs.Properties.{items_of}
use Rattle.watch_table.specs.Affected.{Affects, affected}
use Rattle.watch_table.specs.declared.watch.Watched.{Watched}

pub pairs_affected : (held : ObjId → List ℕ → Option ObjId) (o : ObjId) (key : List ℕ) (ws : Option (List Watched)) (answer : Result (List (ObjId × ℕ)) NoMemory)
    → Affects held o key ws answer → IfOk answer (λ pairs. pairs ≡ affected held o key (items_of ws))
pairs_affected held o key (Some ws) (Ok pairs) is = is
pairs_affected held o key None (Ok pairs) is = absurd is
pairs_affected held o key ws (Err e) is = tt
