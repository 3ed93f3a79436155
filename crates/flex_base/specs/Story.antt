-- What is seen of a play, and how it is printed.
use Rattle.std.specs.Prelude.{ℕ, List, [], ◌∷◌, ◌++◌}
use Rattle.std.specs.List.{flat_map}
use Rattle.flex_base.specs.Line.{line, outcome_line}
use Rattle.flex_base.specs.declared.outcome.Outcome.{Outcome}
use Rattle.flex_base.specs.declared.record.TraceItem.{TraceItem}

-- the records in order, and how the play ended
pub record Story : Type 0 where
  pub records : List TraceItem
  pub outcome : Outcome

-- a line and its end
abbrev pub with_end : List ℕ → List ℕ
with_end text = text ++ 10 ∷ []

-- the line of a record, with its end
abbrev pub record_line : TraceItem → List ℕ
record_line item = with_end (line item)

-- a line for each record
abbrev pub lines : List TraceItem → List ℕ
lines items = flat_map record_line items

-- the printed text: a line for each record, and the line of the outcome
abbrev pub text : Story → List ℕ
text s = lines s.records ++ with_end (outcome_line s.outcome)
