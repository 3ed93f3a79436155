-- A play has one end.
use Rattle.std.proofs.Common.{◌≡◌, ℕ, zero, suc, List, Some, refl, sym, ap, ◌∙◌}
use Rattle.abc_format.specs.declared.records.Abc.{Abc}
use Rattle.flex_base.specs.declared.outcome.Outcome.{Outcome}
use Rattle.flex_base.specs.declared.event.UserEvent.{UserEvent}
use Rattle.avm2_machine.specs.declared.machine.Machine.{Machine}
use Rattle.script_player.specs.Playing.{Play, opening, over, goes_from, next, played, ComesTo}
use Rattle.flex_base.specs.Story.{Story}

module _ (abc : Abc) (main : List ℕ) where
  -- once the play is over, nothing changes
  pub stays : (p : Play) (o : Outcome) → over p ≡ Some o → (k : ℕ) → played abc main k p ≡ p
  stays p o is zero = refl
  stays p o is (suc k) = ap (played abc main k) (ap (λ x. goes_from abc main x p) is) ∙ stays p o is k

  -- two ends of one play are the same
  pub one_end : (j k : ℕ) (p : Play) (o r : Outcome) → over (played abc main j p) ≡ Some o → over (played abc main k p) ≡ Some r → played abc main j p ≡ played abc main k p
  one_end zero k p o r e g = sym (stays p o e k)
  one_end (suc j) zero p o r e g = stays p r g (suc j)
  one_end (suc j) (suc k) p o r e g = one_end j k (next abc main p) o r e g

  pub one_story : (events : List UserEvent) (from : Machine) (a b : Story) → ComesTo abc main events from a → ComesTo abc main events from b → a ≡ b
  one_story events from a b s t =
      let same = one_end s.steps t.steps (opening events from) a.outcome b.outcome s.ends t.ends in
      let both : Some a.outcome ≡ Some b.outcome = sym s.ends ∙ ap over same ∙ t.ends in
      let outcomes : a.outcome ≡ b.outcome = cc in
      let records : a.records ≡ b.records = sym s.shows ∙ ap (λ p. p.config.records) same ∙ t.shows in
      λ i. record { records = records i; outcome = outcomes i }
