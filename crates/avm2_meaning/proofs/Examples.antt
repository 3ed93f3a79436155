-- What is seen of small files, by computation.
use Rattle.std.proofs.Common.{refl}
use Rattle.abc_format.specs.Numbers.{u32_at}
use Rattle.avm2_meaning.specs.Examples.{GreetingPlays, SpentPlays}
use Rattle.avm2_meaning.specs.StopExamples.{StopsByCause}

pub greeting_plays : GreetingPlays
unfolding u32_at
greeting_plays = refl

pub spent_plays : SpentPlays
unfolding u32_at
spent_plays = refl

pub stops_by_cause : StopsByCause
unfolding u32_at
stops_by_cause =
    record {
      unknown_in_code = refl;
      unknown_property = refl;
      unknown_type = refl;
      property_of_int = refl;
      read_only = refl;
      trace_read = refl;
      element_of_truth = refl;
      made_of_no_class = refl;
      no_listener = refl;
      too_many = refl;
      too_few = refl;
      no_body = refl;
      made_twice = refl;
      null_reference = refl;
      int_range = refl;
      not_whole = refl;
      wrong_kind = refl;
      unknown_state = refl;
      array_index = refl;
      cycle = refl;
      no_child = refl;
      depth = refl;
      turns_spent = refl;
      null_converted = refl;
    }
