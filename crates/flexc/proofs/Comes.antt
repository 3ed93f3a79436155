-- Runs of the machine that lead to where something holds.
use Rattle.std.proofs.Common.{ℕ, suc, List}
use Rattle.abc_format.specs.declared.records.Abc.{Abc}
use Rattle.script_player.specs.Playing.{Config, advance, run}

module _ (abc : Abc) (main : List ℕ) where
  -- the machine goes from a configuration to one of which this holds, without a line of a script
  pub record Comes (c : Config) (P : Config → Type 0) : Type 0 where
    pub count : ℕ
    pub holds : P (run abc main count c)

  pub comes_here : (c : Config) (P : Config → Type 0) → P c → Comes c P
  comes_here c P h = record { count = 0; holds = h }

  pub comes_then : (c : Config) (P : Config → Type 0) → Comes (advance abc main c) P → Comes c P
  comes_then c P h = record { count = suc h.count; holds = h.holds }
