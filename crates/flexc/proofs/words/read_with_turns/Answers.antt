use Rattle.std.proofs.Common.{rules, ◌≡◌}
use Rattle.std.specs.Prelude.{codes}
use Rattle.std.specs.String.{string_bytes}
use Rattle.flexc.proofs.CommandWords.{are_eight, with_turns}
use Rattle.flexc.proofs.words.read_with_turns.Goals as goal

pub returns-then-eq-4 : goal.returns-then-eq-4
returns-then-eq-4 c =
    let run : string_bytes c.run-item.result ≡ codes "run" = search rules in
    let script_flag : string_bytes c.script_flag-item.result ≡ codes "--script" = search rules in
    let out_flag : string_bytes c.out_flag-item.result ≡ codes "--out" = search rules in
    let turns_flag : string_bytes c.turns_flag-item.result ≡ codes "--turns" = search rules in
    let are = are_eight _ _ _ _ _ _ _ _ _ c.in-len8.len_at_least c.in-len8.len_below c.run-item.is c.script_flag-item.is c.script-item.is c.out_flag-item.is c.out-item.is c.turns_flag-item.is c.number-item.is c.main-item.is in
    with_turns _ _ _ _ _ _ _ _ _ _ _ _ _ are run script_flag out_flag turns_flag (search rules) (search rules) (search rules) (search rules)
