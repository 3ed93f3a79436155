use Rattle.std.proofs.Common.{rules, ◌≡◌}
use Rattle.std.specs.Prelude.{codes}
use Rattle.std.specs.String.{string_bytes}
use Rattle.flexc.proofs.CommandWords.{are_six}
use Rattle.flexc.proofs.words.read_plain.Goals as goal

pub returns-then-eq-3 : goal.returns-then-eq-3
returns-then-eq-3 c =
    let run : string_bytes c.run-item.result ≡ codes "run" = search rules in
    let script_flag : string_bytes c.script_flag-item.result ≡ codes "--script" = search rules in
    let out_flag : string_bytes c.out_flag-item.result ≡ codes "--out" = search rules in (
      are_six _ _ _ _ _ _ _ _ _ _ c.in-len6.len_at_least c.in-len6.len_below c.run-item.is c.script_flag-item.is c.script-item.is c.out_flag-item.is c.out-item.is c.main-item.is run script_flag out_flag
          (search rules) (search rules) (search rules),
      search rules,
    )
