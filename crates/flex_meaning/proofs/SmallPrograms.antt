-- What small programs mean, by computation.
use Rattle.std.specs.Fmt.{digits}
use Rattle.std.proofs.Common.{refl}
use Rattle.flex_meaning.specs.Examples.{GreetingMeans, OneTurnMeans, EmptyMeans, EndOfIntMeans, TakenOnArrivalMeans, SpentMeans, TwoTurnsMean, DepthMeans, ArraysMean}
use Rattle.flex_meaning.specs.EventExamples.{PrioritiesMean, NoStopMeans, StopMeans, StopAtOnceMeans, DefaultMeans, PreventedMeans, NotAChildMeans, CycleMeans, NobodyMeans, NoStateMeans, NoWayUpMeans}
use Rattle.flex_meaning.specs.BindingExamples.{ReplacedMeans, RingMeans, TwinMeans}
use Rattle.flex_meaning.specs.StateExamples.{OverridesMean, KeptMeans, DeferredMeans}
use Rattle.flex_meaning.specs.FormExample.{ContactFormMeans}
use Rattle.flex_meaning.specs.ClassExamples.{ClassesMean, OwnEventMeans}

pub greeting_means : GreetingMeans
greeting_means = refl

pub one_turn_means : OneTurnMeans
one_turn_means = refl

pub empty_means : EmptyMeans
empty_means = refl

pub end_of_int_means : EndOfIntMeans
end_of_int_means = refl

pub taken_on_arrival_means : TakenOnArrivalMeans
taken_on_arrival_means = refl

pub ten_turns_mean : SpentMeans 10
ten_turns_mean = refl

pub three_turns_mean : SpentMeans 3
three_turns_mean = refl

pub two_turns_mean : TwoTurnsMean
two_turns_mean = refl

pub depth_means : DepthMeans
depth_means = refl

pub arrays_mean : ArraysMean
unfolding digits
arrays_mean = refl

pub priorities_mean : PrioritiesMean
unfolding digits
priorities_mean = refl

pub no_stop_means : NoStopMeans
no_stop_means = refl

pub stop_means : StopMeans
stop_means = refl

pub stop_at_once_means : StopAtOnceMeans
stop_at_once_means = refl

pub default_means : DefaultMeans
default_means = refl

pub prevented_means : PreventedMeans
prevented_means = refl

pub not_a_child_means : NotAChildMeans
not_a_child_means = refl

pub cycle_means : CycleMeans
cycle_means = refl

pub nobody_means : NobodyMeans
nobody_means = refl

pub no_state_means : NoStateMeans
no_state_means = refl

pub replaced_means : ReplacedMeans
replaced_means = refl

pub ring_means : RingMeans
unfolding digits
ring_means = refl

pub twin_means : TwinMeans
twin_means = refl

pub overrides_mean : OverridesMean
overrides_mean = refl

pub kept_means : KeptMeans
kept_means = refl

pub deferred_means : DeferredMeans
deferred_means = refl

pub contact_form_means : ContactFormMeans
contact_form_means = refl

pub classes_mean : ClassesMean
unfolding digits
classes_mean = refl

pub own_event_means : OwnEventMeans
own_event_means = refl

pub no_way_up_means : NoWayUpMeans
no_way_up_means = refl
