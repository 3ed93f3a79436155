-- Runs of the machine that follow a meaning.
use Rattle.std.specs.Prelude.{List, None, Option, Some, [], is_some, suc, zero, ℕ, ◌<◌, ◌≡◌}
use Rattle.flex_base.specs.declared.outcome.Outcome.{Outcome}
use Rattle.flex_base.specs.declared.record.TraceItem.{TraceItem}
use Rattle.flex_base.specs.declared.value.ObjId.{ObjId}
use Rattle.flex_world.specs.Objects.{An_array, Field, Instance_of, Kind, Object, field_named, object_at}
use Rattle.flex_program.specs.Classes.{fields_of}
use Rattle.flex_program.specs.Program as source
use Rattle.flex_meaning.specs.Results.{Ends, Goes, Halts, Result, Stuck}
use Rattle.flex_meaning.specs.World.{World}
use Rattle.program_simulation.specs.Stands.{Image, Setting, playing}
use Rattle.avm2_meaning.specs.Machine.{Moved}
use Rattle.avm2_meaning.specs.declared.operand.Operand.{Operand}
use Rattle.avm2_meaning.specs.Trace.{Ongoing, Over, Playing, Progress, advance, more}

-- the fields that objects of this kind have at first
abbrev pub kind_fields : source.Program → Kind → List Field
kind_fields p (Instance_of class) = fields_of p class
kind_fields p An_array = []

-- an object has the fields of its class, by their names
abbrev pub HasFields : source.Program → Object → Type 0
HasFields p c = (name : List ℕ) → is_some (field_named name c.fields) ≡ is_some (field_named name (kind_fields p c.kind))

-- what holds of each world of a play
pub record Holds (p : source.Program) (w : World) : Type 0 where
  pub fields : (o : ObjId) (c : Object) → object_at w.objects o ≡ Some c → HasFields p c

-- what a world doesn't tell of the machine: the order in which documents enabled their bindings, and the locals of a body that has returned
pub record Unseen : Type 0 where
  pub order : List ObjId
  pub locals : List Operand

abbrev pub go_on : (Playing → Progress) → Progress → Progress
go_on f (Over story) = Over story
go_on f (Ongoing play) = f play

-- where a play goes on when the run of a binding ends; code of no binding's own expression doesn't end so
abbrev pub Ending : Type 0
Ending = Option (World → Unseen → Playing)

module _ (q : Image) where
  -- a play, so many steps on
  abbrev pub steps_on : ℕ → Playing → Progress
  steps_on zero play = Ongoing play
  steps_on (suc n) play = go_on (λ next. steps_on n next) (advance q.program q.name play)

  -- a play comes from one machine to another
  pub record Comes (c d : Playing) : Type 0 where
    pub steps : ℕ
    pub is : steps_on steps c ≡ Ongoing d

  -- the play is over, with these records
  pub record Stops (c : Playing) (o : Outcome) (records : List TraceItem) : Type 0 where
    pub last : Playing
    pub comes : Comes c last
    pub records_are : last.records ≡ records
    pub outcome_is : last.machine.outcome ≡ Some o

  -- the play comes to where the run of a binding has ended
  abbrev pub EndsAt : Ending → Playing → World → Type 0
  EndsAt None c w = ⊥
  EndsAt (Some k) c w = (x : Unseen) × Comes c (k w x)

  -- the play comes to what the meaning says, where it says something
  abbrev pub Follows : {A : Type 0} → Ending → Playing → Result A → (A → World → Unseen → Playing) → Type 0
  Follows e c (Goes v w) k = (x : Unseen) × Comes c (k v w x)
  Follows e c (Halts o w) k = Stops c o w.records
  Follows e c (Ends w) k = EndsAt e c w
  Follows e c (Stuck w) k = Unit {0}

  -- fewer turns are left than n, and the world is one of a play
  pub record Meets (n : ℕ) (w : World) : Type 0 where
    pub turns : w.turns < n
    pub holds : Holds q.source w

  abbrev pub Within : {A : Type 0} → ℕ → Result A → Type 0
  Within n (Goes v w) = Meets n w
  Within n (Halts o w) = Unit {0}
  Within n (Ends w) = Meets n w
  Within n (Stuck w) = Unit {0}

  -- from here the play does what the meaning says, and goes on as k says, or at an ending, with fewer turns than n
  pub record SimTo (e : Ending) (n : ℕ) {A : Type 0} (c : Playing) (r : Result A) (k : A → World → Unseen → Playing) : Type 0 where
    pub comes : Follows e c r k
    pub keeps : Within n r

  -- the same without an ending
  abbrev pub Sim : ℕ → {A : Type 0} → Playing → Result A → (A → World → Unseen → Playing) → Type 0
  Sim n c r k = SimTo None n c r k

-- a play after a move of its machine
abbrev pub seen : Setting → List TraceItem → Moved → Playing
seen t records m = playing t m.machine (more records m.item)
