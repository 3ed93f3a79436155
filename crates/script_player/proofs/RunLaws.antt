-- A run of the machine by itself is a part of each play.
use Rattle.std.proofs.Common.{◌≡◌, ℕ, zero, suc, List, Bool, true, false, Option, None, Some, refl, sym, ap, ap₂, ◌∙◌}
use Rattle.abc_format.specs.declared.records.Abc.{Abc}
use Rattle.flex_base.specs.declared.outcome.Outcome.{Outcome}
use Rattle.flex_base.specs.declared.outcome.Outcome.TheVariants.{Ended}
use Rattle.std.specs.Option.{option_or}
use Rattle.std.specs.Prelude.{if◌then◌else◌}
use Rattle.flex_base.specs.declared.event.UserEvent.{UserEvent}
use Rattle.avm2_machine.specs.Machine.{idle, result_of}
use Rattle.script_player.specs.Playing.{Config, Play, over, over_with, advance, advance_from, run, goes_on, goes_from, next, played}

module _ (abc : Abc) (main : List ℕ) where
  -- so many steps, and then so many more
  pub played_then : (j k : ℕ) (p : Play) → (n : ℕ) × (played abc main n p ≡ played abc main k (played abc main j p))
  played_then zero k p = (k, refl)
  played_then (suc j) k p = let more = played_then j k (next abc main p) in (suc more.0, more.1)

  -- a step of the machine by itself is a step of the play, or is none
  step_lifts : (c : Config) (left : List UserEvent) (o : Option Outcome) (at_rest : Bool) → c.machine.outcome ≡ o → idle c.machine ≡ at_rest
      → (j : ℕ) × (played abc main j (record { config = c; left = left }) ≡ record { config = advance abc main c; left = left })
  step_lifts c left o at_rest is idles = by o at_rest (ap₂ rests is idles) (ap₂ (λ x b. over_with x b left) is idles) idles
    where
      here : Config → Play
      here x = record { config = x; left = left }

      rests : Option Outcome → Bool → Option Outcome
      rests x b = option_or x (if b then Some Ended else None)

      stood : (r : Outcome) → result_of c.machine ≡ Some r → (j : ℕ) × (played abc main j (here c) ≡ here (advance abc main c))
      stood r e = (0, ap (λ x. here (advance_from abc main x c)) (sym e))

      by : (x : Option Outcome) (b : Bool) → result_of c.machine ≡ rests x b → over (here c) ≡ over_with x b left → idle c.machine ≡ b
          → (j : ℕ) × (played abc main j (here c) ≡ here (advance abc main c))
      by (Some r) b e g i = stood r e
      by None true e g i = stood Ended e
      by None false e g i =
          (1, ap (λ x. goes_from abc main x (here c)) g ∙ ap (λ b. goes_on abc main b left c) i ∙ ap (λ x. here (advance_from abc main x c)) (sym e))

  -- a run of the machine by itself is a part of each play
  pub run_lifts : (k : ℕ) (c : Config) (left : List UserEvent)
      → (j : ℕ) × (played abc main j (record { config = c; left = left }) ≡ record { config = run abc main k c; left = left })
  run_lifts zero c left = (0, refl)
  run_lifts (suc k) c left =
      let one = step_lifts c left c.machine.outcome (idle c.machine) refl refl in
      let more = run_lifts k (advance abc main c) left in
      let both = played_then one.0 more.0 (record { config = c; left = left }) in
      (both.0, both.1 ∙ ap (played abc main more.0) one.1 ∙ more.1)
