use Rattle.std.proofs.Common.{rules, ◌≢◌, ◌≡◌, ℕ, List, ◌++◌, MatchOption}
use Rattle.flexc.proofs.Lines.{behind_is}
use Rattle.flexc.proofs.script.behind.Goals as goal

pub returns : goal.returns
returns c =
    let cut : MatchOption c.strip_prefix.result ((rest : List ℕ) → c.args.text.now ≢ c.args.beginning.now ++ rest) (λ rest. c.args.text.now ≡ c.args.beginning.now ++ rest.now) = search rules in
    behind_is c.args.beginning.now c.args.text.now c.strip_prefix.result cut
