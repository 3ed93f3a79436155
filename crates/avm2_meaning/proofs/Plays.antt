-- The laws of plays, for any number of steps and turns.
use Rattle.std.proofs.Common.{◌≡◌, sym, ap, ◌∙◌, subst, add-suc, add-zero}
use Rattle.std.proofs.Math.Nat.{add_comm}
use Rattle.std.specs.Prelude.{ℕ, zero, suc, ◌+◌, List, ◌++◌, Some}
use Rattle.flex_base.specs.Story.{Story}
use Rattle.flex_base.specs.declared.record.TraceItem.{TraceItem}
use Rattle.avm2_program.specs.declared.file.Program.{Program}
use Rattle.avm2_program.specs.Resolving.{program}
use Rattle.avm2_meaning.specs.GoingOn.{HasOneStory, MoreTurnsGoOn}
use Rattle.avm2_meaning.specs.Trace.{Ongoing, Over, Playing, Progress, advance, continue, first, run}
use Rattle.avm2_meaning.proofs.MoreTurns.{Extends, goes_on, stays}

module _ (p : Program) (name : List ℕ) where
  -- what holds of the plays that a step leads to
  agree_after : (n : ℕ) (x : Progress) (s : Story) → ((play : Playing) → run p name n play ≡ Some s → run p name (suc n) play ≡ Some s)
      → continue p name (λ next. run p name n next) x ≡ Some s → continue p name (λ next. run p name (suc n) next) x ≡ Some s
  agree_after n (Over t) s agree e = e
  agree_after n (Ongoing play) s agree e = agree play e

  agree : (n : ℕ) (s : Story) (play : Playing) → run p name n play ≡ Some s → run p name (suc n) play ≡ Some s
  agree zero s play e = absurd cc
  agree (suc n) s play e = agree_after n (advance p name play) s (agree n s) e

  -- a play that ended shows the same in more steps
  more_steps : (more n : ℕ) (s : Story) (play : Playing) → run p name n play ≡ Some s → run p name (n + more) play ≡ Some s
  more_steps zero n s play e = subst (λ k. run p name k play ≡ Some s) (sym (add-zero n)) e
  more_steps (suc more) n s play e =
      subst (λ k. run p name k play ≡ Some s) (sym (add-suc n more)) (agree (n + more) s play (more_steps more n s play e))

  -- two plays that ended show the same
  same_story : (n m : ℕ) (s t : Story) (play : Playing) → run p name n play ≡ Some s → run p name m play ≡ Some t → s ≡ t
  same_story n m s t play e f =
      some_same (sym (more_steps m n s play e) ∙ (ap (λ k. run p name k play) (add_comm n m) ∙ more_steps n m t play f))
    where
      some_same : Some s ≡ Some t → s ≡ t
      some_same is = cc

pub one_story : HasOneStory
one_story abc name events turns s t a b = same_story (program abc) name a.steps b.steps s t (first (program abc) name events turns) a.is b.is

pub more_turns_go_on : MoreTurnsGoOn
more_turns_go_on =
    record {
      same = λ abc name events turns more s a not.
          record { steps = a.steps; is = stays more (program abc) name a.steps (first (program abc) name events turns) s a.is not };
      beyond = λ abc name events turns more s other a b.
          beyond_of (goes_on more (program abc) name a.steps b.steps (first (program abc) name events turns) s other a.is b.is);
    }
  where
    beyond_of : {xs all : List TraceItem} → Extends xs all → (others : List TraceItem) × (all ≡ xs ++ others)
    beyond_of e = (e.rest, e.is)
