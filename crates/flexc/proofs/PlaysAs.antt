-- The file of a document plays as the document.
use Rattle.std.proofs.Common.{◌≡◌, ℕ, ◌+◌, ◌≤◌, List, [], ◌∷◌, length, Some, Bool, true, false, refl, sym, ap, ◌∙◌, subst}
use Rattle.std.specs.Prelude.{All, map, if◌then◌else◌, nat_lt, codes}
use Rattle.abc_writer.specs.Spelling.{abc_bytes}
use Rattle.abc_format.specs.declared.records.Abc.{Abc}
use Rattle.flex_base.specs.declared.outcome.Outcome.TheVariants.{Stopped, Fault}
use Rattle.flex_base.specs.declared.outcome.Stop.TheVariants.{Cells}
use Rattle.flex_base.specs.declared.record.TraceItem.TheVariants.{Made}
use Rattle.flex_base.specs.declared.value.ObjId.{ObjId}
use Rattle.swf_tags.specs.File.{written_tags}
use Rattle.swf_tags.specs.Spelling.{swf_bytes}
use Rattle.flex_front.specs.declared.document.Element.{Element}
use Rattle.flex_front.specs.declared.document.Document.{Document}
use Rattle.flex_front.specs.Source.{IsShort, AreNewIds}
use Rattle.flex_base.specs.declared.event.UserEvent.{UserEvent}
use Rattle.avm2_machine.specs.Machine.{begins, idle}
use Rattle.script_player.specs.Playable.{IsPlayable}
use Rattle.script_player.specs.Playing.{Config, Play, first, boot, opening, over, over_with, run, played, ComesTo, HasTrace, NeverFaults}
use Rattle.script_player.proofs.EndLaws.{one_end}
use Rattle.script_player.proofs.FileLaws.{comes_alike, one_trace}
use Rattle.script_player.proofs.RunLaws.{played_then, run_lifts}
use Rattle.flexc.specs.Emitted.{abc_of, main_text}
use Rattle.flexc.specs.Meaning.{id_property, construct, does, do_all, play, told, source_trace}
use Rattle.flexc.specs.PlaysAs.{PlaysAs}
use Rattle.flexc.specs.World.{Main, World, Result, Goes, Halts, bind, empty_world, note, make, new_component, with_component}
use Rattle.flexc.proofs.Built.{built_is_swf}
use Rattle.flexc.proofs.Clicks.{IsSettled, ready_settles, does_sim}
use Rattle.flexc.proofs.EndsWell.{outcome_fairly}
use Rattle.flexc.proofs.Looked.{abc}
use Rattle.flexc.proofs.Plays.{document_sim}
use Rattle.flexc.proofs.Sims.{Sim, sim_done}
use Rattle.flexc.proofs.States.{one, machine_of, at}
use Rattle.flexc.proofs.Written.{abc-spelled}
use Rattle.flexc.proofs.Indexed.{abc-named}

module _ (p : Abc) where
  -- the play comes to the story that a meaning tells
  record Tells (q : Play) (r : Result (Unit {0})) : Type 0 where
    count : ℕ
    ends : over (played p main_text count q) ≡ Some (told r).outcome
    shows : (played p main_text count q).config.records ≡ (told r).records

  tells_on : (j : ℕ) (q q1 : Play) (r : Result (Unit {0})) → played p main_text j q ≡ q1 → Tells q1 r → Tells q r
  tells_on j q q1 r e t =
      let more = played_then p main_text j t.count q in
      let same = more.1 ∙ ap (played p main_text t.count) e in
      record { count = more.0; ends = ap over same ∙ t.ends; shows = ap (λ x. x.config.records) same ∙ t.shows }

  -- a part that the machine does by itself
  tells_then : {A : Type 0} (c : Config) (left : List UserEvent) (r : Result A) (f : A → World → Result (Unit {0})) (k : A → World → Config → Type 0) → Sim p main_text c r k
      → ((v : A) (w : World) (d : Config) → k v w d → Tells (record { config = d; left = left }) (f v w)) → Tells (record { config = c; left = left }) (bind r f)
  tells_then c left (Goes v w) f k s t =
      let n = s.comes.count in
      let lifted = run_lifts p main_text n c left in
      tells_on lifted.0 (record { config = c; left = left }) (record { config = run p main_text n c; left = left }) (f v w) lifted.1 (t v w (run p main_text n c) s.comes.holds)
  tells_then c left (Halts o w) f k s t =
      let n = s.comes.count in
      let lifted = run_lifts p main_text n c left in
      tells_on lifted.0 (record { config = c; left = left }) (record { config = run p main_text n c; left = left }) (Halts o w) lifted.1 (stopped (run p main_text n c) s.comes.holds.0 s.comes.holds.1)
    where
      stopped : (d : Config) → d.machine.outcome ≡ Some o → d.records ≡ w.records → Tells (record { config = d; left = left }) (Halts o w)
      stopped d e g = record { count = 0; ends = ap (λ x. over_with x (idle d.machine) left) e; shows = g }

-- what goes on with what it was given is passed over
goes_on : {A B : Type 0} (r : Result A) (f : A → World → Result B) → bind (bind r (λ v w. Goes v w)) f ≡ bind r f
goes_on (Goes v w) f = refl
goes_on (Halts o w) f = refl

module _ (es : List Element) (few : length es ≤ 100) (distinct : AreNewIds [] es) where
  -- an idle machine in a world that is settled
  abbrev AtRest : Unit {0} → World → Config → Type 0
  AtRest _ w c = (c ≡ at [] w) × IsSettled es w

  script_tells : (events : List UserEvent) (w : World) → IsSettled es w → Tells (abc es) (record { config = at [] w; left = events }) (do_all one events w)
  script_tells [] w settled = record { count = 0; ends = refl; shows = refl }
  script_tells (e ∷ events) w settled =
      let begun : Config = record { machine = begins e (machine_of [] w); records = w.records } in
      let next_lines : Unit {0} → World → Result (Unit {0}) = λ _ w1. do_all one events w1 in
      tells_on (abc es) 1 (record { config = at [] w; left = e ∷ events }) (record { config = begun; left = events }) (do_all one (e ∷ events) w) refl
      (subst (Tells (abc es) (record { config = begun; left = events })) (goes_on (does one e w) next_lines)
      (tells_then (abc es) begun events (bind (does one e w) (λ v w1. Goes v w1)) next_lines AtRest
      (does_sim es few e w settled (λ v w1. Goes v w1) AtRest (λ w1 settled1. sim_done (abc es) main_text tt (at [] w1) w1 AtRest (refl, settled1)))
      (λ v w1 c rest. subst (λ x. Tells (abc es) (record { config = x; left = events }) (do_all one events w1)) (sym rest.0) (script_tells events w1 rest.1))))

  abbrev d : Document
  d = record { elements = es }

  -- the making and the building of the document
  abbrev built : ℕ → Result (Unit {0})
  built turns = bind (make Main (codes "Main") (map id_property es) (length es) (empty_world turns)) (λ document w1. bind (construct document es w1) (λ v w2. Goes v w2))

  play_is : (events : List UserEvent) (turns : ℕ) → bind (built turns) (λ _ w. do_all one events w) ≡ play d events (empty_world turns)
  play_is events turns = by (nat_lt 1000000 (0 + (16 + length es)))
    where
      new : World
      new = with_component (new_component Main (map id_property es)) (16 + length es) (empty_world turns)

      taken : Bool → Result ObjId
      taken t = if t then Halts (Stopped Cells) (empty_world turns) else Goes one new

      named : ObjId → World → Result ObjId
      named o w = Goes o (note (Made o (codes "Main")) w)

      by : (t : Bool) → bind (bind (bind (taken t) named) (λ document w1. bind (construct document es w1) (λ v w2. Goes v w2))) (λ _ w. do_all one events w)
          ≡ bind (bind (taken t) named) (λ document w1. bind (construct document es w1) (λ _ w2. do_all document events w2))
      by true = refl
      by false = goes_on (construct one es (note (Made one (codes "Main")) new)) (λ _ w. do_all one events w)

  play_tells : (events : List UserEvent) (turns : ℕ) → Tells (abc es) (opening events (boot (abc es) turns)) (play d events (empty_world turns))
  play_tells events turns =
      subst (Tells (abc es) (opening events (boot (abc es) turns))) (play_is events turns)
      (tells_then (abc es) (first (boot (abc es) turns)) events (built turns) (λ _ w. do_all one events w) AtRest
      (document_sim es few distinct (λ v w. Goes v w) AtRest
      (λ w ready. sim_done (abc es) main_text tt (at [] w) w AtRest (refl, ready_settles es (length es) w ready)) turns)
      (λ v w c rest. subst (λ x. Tells (abc es) (record { config = x; left = events }) (do_all one events w)) (sym rest.0) (script_tells events w rest.1)))

  -- the program of a document comes to what the document means
  pub comes_to : (events : List UserEvent) (turns : ℕ) → ComesTo (abc es) main_text events (boot (abc es) turns) (source_trace d events turns)
  comes_to events turns = let t = play_tells events turns in record { steps = t.count; ends = t.ends; shows = t.shows }

module _ (d : Document) (few : length d.elements ≤ 100) (short : All IsShort d.elements) (distinct : AreNewIds [] d.elements) where
  abbrev bytes : List ℕ
  bytes = swf_bytes main_text (abc_bytes (abc_of d.elements))

  abbrev file : IsPlayable bytes
  file = record {
    version = 10;
    tags = written_tags main_text (abc_bytes (abc_of d.elements));
    main = main_text;
    code = abc_bytes (abc_of d.elements);
    abc = abc_of d.elements;
    file = built_is_swf d.elements few short;
    program = record { spelled = abc-spelled d.elements few short; indexes = abc-named d.elements };
  }

  same_trace : (events : List UserEvent) (turns : ℕ) → HasTrace bytes events turns (source_trace d events turns)
  same_trace events turns = record { file = file; comes = comes_to d.elements few distinct events turns }

  no_fault : (events : List UserEvent) (turns : ℕ) → NeverFaults bytes events turns
  no_fault events turns = record {
    sound = λ f steps fault e.
        let has = same_trace events turns in
        let c = comes_alike bytes events turns (source_trace d events turns) has.file f has.comes in
        let same = one_end f.abc f.main c.steps steps (opening events (boot f.abc turns)) (source_trace d events turns).outcome (Fault fault) c.ends e in
        let both : Some (source_trace d events turns).outcome ≡ Some (Fault fault) = sym c.ends ∙ ap over same ∙ e in
        outcome_fairly d events turns fault (cc);
  }

  pub built_plays_as : PlaysAs bytes d
  built_plays_as = record { file = file; same = same_trace; only = one_trace bytes; sound = no_fault }
