-- The lines of a script.
use Rattle.std.specs.Prelude.{◌≡◌, ℕ, suc, ◌-◌, length, take, slice_index, List, [], ◌∷◌, ◌++◌, Bool, true, if◌then◌else◌, ◌==◌, Option, Some, None, Result, Ok, Err, codes, decimal}
use Rattle.std.specs.Str.{is_utf8}
use Rattle.flex_base.specs.declared.event.UserEvent.{UserEvent}
use Rattle.flex_base.specs.declared.event.UserEvent.TheVariants as event
use Rattle.flex_front.specs.Source.{is_name}
use Rattle.flexc.specs.declared.script.Line.{Line}
use Rattle.flexc.specs.declared.script.Line.TheVariants as line
use Rattle.flexc.specs.declared.script.ScriptRefusal.{ScriptRefusal}
use Rattle.flexc.specs.declared.script.ScriptRefusal.TheVariants as refusal

-- a line without the CR that stands at its end
abbrev pub without_return : List ℕ → List ℕ
without_return line = if slice_index line (length line - 1) == 13 then take (length line - 1) line else line

-- the lines of a text, of which the first begins so: each ends at an LF, before which a CR is dropped; the last may lack it
abbrev pub lines_onto : List ℕ → List ℕ → List (List ℕ)
lines_onto line [] = line ∷ []
lines_onto line (byte ∷ text) = if byte == 10 then without_return line ∷ lines_onto [] text else lines_onto (line ++ byte ∷ []) text

abbrev pub lines : List ℕ → List (List ℕ)
lines text = lines_onto [] text

-- what stands behind a beginning, where a text has it
abbrev pub behind : List ℕ → List ℕ → Option (List ℕ)
behind [] text = Some text
behind (x ∷ beginning) [] = None
behind (x ∷ beginning) (byte ∷ text) = if byte == x then behind beginning text else None

-- what a line says: nothing, what a user does, or nothing that is known
pub data Said : Type 0 where
  Nothing : Said
  Something : (e : UserEvent) → Said
  Unknown : Said

-- a click on what this names, if it is a name
abbrev pub click_on : List ℕ → Option (List ℕ) → Said
click_on line None = Unknown
click_on line (Some name) = if is_name name then Something (event.Click (name ∷ []) line) else Unknown

abbrev pub text_says : List ℕ → Said
text_says [] = Nothing
text_says (byte ∷ line) = if byte == 35 then Nothing else click_on (byte ∷ line) (behind (codes "click ") (byte ∷ line))

-- an empty line says nothing, nor does one that begins with `#`; `click NAME` is a click; a line that isn't UTF-8 isn't known
abbrev pub line_says : List ℕ → Said
line_says line = if is_utf8 line then text_says line else Unknown

abbrev pub with_said : ℕ → Said → Result (List UserEvent) ℕ → Result (List UserEvent) ℕ
with_said n Nothing others = others
with_said n (Something e) (Ok events) = Ok (e ∷ events)
with_said n (Something e) (Err other) = Err other
with_said n Unknown others = Err n

-- what a user does by these lines, or the number of the first line that isn't known, where the first of them has this number
abbrev pub events_from : ℕ → List (List ℕ) → Result (List UserEvent) ℕ
events_from n [] = Ok []
events_from n (line ∷ others) = with_said n (line_says line) (events_from (suc n) others)

-- what a user does by a script, or the number of its first line that isn't known
abbrev pub script_of : List ℕ → Result (List UserEvent) ℕ
script_of text = events_from 1 (lines text)

-- the line that says so
abbrev pub script_line : ℕ → List ℕ
script_line number = codes "script:" ++ (decimal number ++ codes ": not yet built")

-- what the reading of a script answers
abbrev pub Reads : List ℕ → Result (List UserEvent) ScriptRefusal → Type 0
Reads text (Ok events) = script_of text ≡ Ok events
Reads text (Err (refusal.NotYetBuilt number)) = script_of text ≡ Err number
Reads text (Err refusal.NoMemory) = Unit {0}

-- what the reading of a line answers
abbrev pub said : Line → Said
said line.Idle = Nothing
said (line.Event e) = Something e
said line.Other = Unknown

-- whether a line is empty, or begins with `#`
abbrev pub is_idle : List ℕ → Bool
is_idle [] = true
is_idle (byte ∷ line) = byte == 35

-- these events, and behind them what a line of this number says; the number, where the line isn't known
abbrev pub more : ℕ → List UserEvent → Said → Result (List UserEvent) ℕ
more number events Nothing = Ok events
more number events (Something e) = Ok (events ++ e ∷ [])
more number events Unknown = Err number

-- what the putting of a line answers: the events are then those that are wanted, or the line isn't known, or memory is refused
abbrev pub Puts : Result (List UserEvent) ℕ → List UserEvent → Result (Unit {0}) ScriptRefusal → Type 0
Puts wanted events (Ok done) = wanted ≡ Ok events
Puts wanted events (Err (refusal.NotYetBuilt number)) = wanted ≡ Err number
Puts wanted events (Err refusal.NoMemory) = Unit {0}
