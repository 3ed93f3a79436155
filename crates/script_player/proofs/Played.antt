-- What was printed of a play.
use Rattle.flex_base.proofs.ResultLaws.{ok_is}
use Rattle.std.proofs.Common.{◌≡◌, ℕ, List, [], ◌++◌, None, Some, Ok, Err, Result, refl, sym, ap, ◌∙◌, subst, append_assoc}
use Rattle.std.proofs.lemmas.List.{append-nil}
use Rattle.abc_format.specs.declared.records.Abc.{Abc}
use Rattle.flex_base.specs.Line.{outcome_line}
use Rattle.flex_base.specs.declared.outcome.Outcome.{Outcome}
use Rattle.flex_edge.specs.Outside.{Rose, SinkState}
use Rattle.flex_base.specs.declared.event.UserEvent.{UserEvent}
use Rattle.avm2_machine.specs.declared.machine.Machine.{Machine}
use Rattle.flex_edge.specs.declared.refused.Refused.{Refused}
use Rattle.flex_edge.specs.declared.refused.Refused.TheVariants as refused
use Rattle.abc_format.specs.Fields as abc
use Rattle.abc_format.specs.Reading.{read_abc, abc_fault, fault_of}
use Rattle.script_player.specs.Playable.{IsPlayable}
use Rattle.script_player.specs.Playing.{boot, ComesTo, HasTrace}
use Rattle.script_player.specs.Printed.{HasShown, HasPrinted, PrintsText, Plays}
use Rattle.swf_tags.specs.Reading.{read_swf}
use Rattle.swf_tags.specs.declared.types.Fault.{Fault}
use Rattle.swf_tags.specs.declared.types.Swf.{Swf}
use Rattle.flex_base.specs.Story.{Story, lines, text, with_end}
use Rattle.flex_edge.specs.Whole.{HasTaken, Prints}
use Rattle.script_player.proofs.EndLaws.{one_story}
use Rattle.script_player.proofs.FileLaws.{file_is_read, program_is_read, comes_alike}

-- memory was refused before anything was printed
pub nothing_printed : (P : Story → Type 0) (old : SinkState) → PrintsText P old (Err refused.NoMemory) old
nothing_printed P old = record {
  tells = refl;
  faults = refl;
  told = λ t story trace. record { part = []; left = text story; whole = refl; taken = sym (append-nil old.taken) };
}

-- the same stories in other words
printed_alike : (P Q : Story → Type 0) (old new : SinkState) (result : Result Outcome Refused) → ((story : Story) → P story → Q story) → ((story : Story) → Q story → P story)
    → PrintsText P old result new → PrintsText Q old result new
printed_alike P Q old new (Ok outcome) to from s = record { story = s.story; is = s.is; trace = to s.story s.trace; printed = s.printed }
printed_alike P Q old new (Err refused.Failed) to from s = record { tells = s.tells; faults = s.faults; told = λ t story trace. s.told t story (from story trace) }
printed_alike P Q old new (Err refused.NoMemory) to from s = record { tells = s.tells; faults = s.faults; told = λ t story trace. s.told t story (from story trace) }

module _ (abc : Abc) (main : List ℕ) (events : List UserEvent) (from : Machine) where
  -- the line of the outcome was printed too
  pub whole_printed : (outcome : Outcome) (old mid new : SinkState) → HasShown abc main events from outcome old mid → Prints mid (with_end (outcome_line outcome)) (Ok tt) new
      → HasPrinted (ComesTo abc main events from) outcome old new
  whole_printed outcome old mid new s p = record {
    story = s.story;
    is = s.is;
    trace = s.comes;
    printed = record {
      tells = p.tells ∙ s.printed.tells;
      faults = p.faults ∙ s.printed.faults;
      told = λ t.
          p.told (s.printed.tells ∙ t) ∙ ap (λ l. l ++ with_end (outcome_line outcome)) (s.printed.told t) ∙ append_assoc old.taken (lines s.story.records) (with_end (outcome_line outcome))
          ∙ ap (λ o. old.taken ++ (lines s.story.records ++ with_end (outcome_line o))) (sym s.is);
    };
  }

  -- a first part of the line of the outcome is the end of a first part of the text
  line_part : (outcome : Outcome) (old mid new : SinkState) (s : HasShown abc main events from outcome old mid) → (mid.taken ≡ old.taken ++ lines s.story.records)
      → HasTaken (with_end (outcome_line outcome)) mid new → (story : Story) → ComesTo abc main events from story → HasTaken (text story) old new
  line_part outcome old mid new s before taken story comes =
      subst (λ x. HasTaken (text x) old new) (one_story abc main events from s.story story s.comes comes)
      (record {
        part = lines s.story.records ++ taken.part;
        left = taken.left;
        whole = ap (λ o. lines s.story.records ++ with_end (outcome_line o)) s.is ∙ ap (λ l. lines s.story.records ++ l) taken.whole ∙ sym (append_assoc (lines s.story.records) taken.part taken.left);
        taken = taken.taken ∙ ap (λ l. l ++ taken.part) before ∙ append_assoc old.taken (lines s.story.records) taken.part;
      })

  pub end_printed : (refusal : Refused) (outcome : Outcome) (old mid new : SinkState) → HasShown abc main events from outcome old mid
      → Prints mid (with_end (outcome_line outcome)) (Err refusal) new → PrintsText (ComesTo abc main events from) old (Err refusal) new
  end_printed refused.Failed outcome old mid new s p = record {
    tells = p.tells ∙ s.printed.tells;
    faults = subst (λ n. Rose n new.write_faults) s.printed.faults p.faults;
    told = λ t. line_part outcome old mid new s (s.printed.told t) (p.told (s.printed.tells ∙ t));
  }
  end_printed refused.NoMemory outcome old mid new s p = record {
    tells = p.tells ∙ s.printed.tells;
    faults = p.faults ∙ s.printed.faults;
    told = λ t. line_part outcome old mid new s (s.printed.told t) (p.told (s.printed.tells ∙ t));
  }

module _ (swf : List ℕ) (f : IsPlayable swf) where
  pub file_is_there : (fault : Fault) → read_swf swf ≡ Err fault → ⊥
  file_is_there fault bad = let read = file_is_read swf f in cc

  module _ (file : Swf) (is : read_swf swf ≡ Ok file) where
    code_is : f.code ≡ file.abc
    code_is = ap (λ (s : Swf). s.abc) (ok_is (read_swf swf) _ _ (file_is_read swf f) is)

    main_is : f.main ≡ file.main
    main_is = ap (λ (s : Swf). s.main) (ok_is (read_swf swf) _ _ (file_is_read swf f) is)

    program_said : read_abc file.abc ≡ Ok f.abc
    program_said = sym (ap read_abc code_is) ∙ program_is_read swf f

    pub program_is_there : (fault : abc.Fault) → abc_fault file.abc ≡ Some fault → ⊥
    program_is_there fault bad = let none : abc_fault file.abc ≡ None = ap fault_of program_said in cc

    -- what was read of the file was played
    pub file_played : (abc : Abc) (events : List UserEvent) (turns : ℕ) (result : Result Outcome Refused) (old new : SinkState) → read_abc file.abc ≡ Ok abc
        → PrintsText (ComesTo abc file.main events (boot abc turns)) old result new → Plays swf events turns old result new
    file_played abc events turns result old new program =
        let abc_is : f.abc ≡ abc = ok_is (read_abc file.abc) _ _ program_said program in
        printed_alike (ComesTo abc file.main events (boot abc turns)) (HasTrace swf events turns) old new result
        (λ story c. record { file = f; comes = subst (λ a. ComesTo a f.main events (boot a turns) story) (sym abc_is) (subst (λ m. ComesTo abc m events (boot abc turns) story) (sym main_is) c) })
        (λ story t. subst (λ a. ComesTo a file.main events (boot a turns) story) abc_is (subst (λ m. ComesTo f.abc m events (boot f.abc turns) story) main_is (comes_alike swf events turns story t.file f t.comes)))
