-- The lines of a script, one after another.
use Rattle.flex_base.proofs.TextLaws.{utf8_not}
use Rattle.std.proofs.Common.{◌≡◌, ◌≢◌, ℕ, zero, suc, ◌+◌, ◌<◌, List, [], ◌∷◌, ◌++◌, length, take, drop, get_or, ◌-◌, length-drop, Bool, true, false, Option, None, Some, Result, Ok, Err, Bor, MatchOption, refl, sym, ap, ◌∙◌, arith, append_assoc, add-one}
use Rattle.std.specs.Prelude.{cond, nat_lt, if◌then◌else◌, ◌==◌}
use Rattle.std.specs.List.{position, position_or_len}
use Rattle.std.proofs.lemmas.List.{append-nil, take_all}
use Rattle.std.proofs.lemmas.List.Quantifiers.{position-Some}
use Rattle.std.proofs.lemmas.List.Sums.{fails_before_first}
use Rattle.std.proofs.lemmas.Bool.{ltb-false, eqb-true, eq-eqb}
use Rattle.std.proofs.lemmas.Str.{is_utf8-from_IsUtf8}
use Rattle.flex_base.specs.declared.event.UserEvent.{UserEvent}
use Rattle.flexc.specs.declared.script.ScriptRefusal.{ScriptRefusal}
use Rattle.flexc.specs.declared.script.ScriptRefusal.TheVariants as refusal
use Rattle.flexc.specs.Lines.{without_return, lines_onto, lines, behind, Said, Nothing, Something, Unknown, line_says, with_said, events_from, script_of, Reads, more, Puts}

abbrev pub is_end : ℕ → Bool
is_end byte = byte == 10

-- up to the first LF
line_onto : (line text : List ℕ) (end : ℕ) → end < length text → is_end (get_or text end 0) ≡ true → ((k : ℕ) → k < end → is_end (get_or text k 0) ≡ false)
    → lines_onto line text ≡ without_return (line ++ take end text) ∷ lines (drop (suc end) text)
line_onto line [] end lt at before = absurd (omega arith)
line_onto line (byte ∷ text) zero lt at before =
    ap (λ t. if t then without_return line ∷ lines text else lines_onto (line ++ byte ∷ []) text) at ∙ ap (λ l. without_return l ∷ lines text) (sym (append-nil line))
line_onto line (byte ∷ text) (suc end) lt at before =
    ap (λ t. if t then without_return line ∷ lines text else lines_onto (line ++ byte ∷ []) text) (before 0 (omega arith))
    ∙ line_onto (line ++ byte ∷ []) text end (omega (arith, lt)) at (λ k less. before (suc k) (omega (arith, less)))
    ∙ ap (λ l. without_return l ∷ lines (drop (suc end) text)) (append_assoc line (byte ∷ []) (take end text))

pub first_line : (text : List ℕ) (end : ℕ) → position is_end text ≡ Some end → lines text ≡ without_return (take end text) ∷ lines (drop (suc end) text)
first_line text end found = let at = position-Some is_end text end 0 found in line_onto [] text end at.0 at.1 at.2

-- the first line, and what stands behind it as the code cuts it off
pub one_line : (text : List ℕ) (end : ℕ) (line : List ℕ) → position is_end text ≡ Some end → line ≡ without_return (take end text)
    → (lines text ≡ line ∷ lines (take (length text - (end + 1)) (drop (end + 1) text))) × (length (take (length text - (end + 1)) (drop (end + 1) text)) < length text)
one_line text end line found is =
    let at = position-Some is_end text end 0 found in
    let within = at.0 in
    let size = length-drop (end + 1) text in
    let one : suc end ≡ end + 1 = omega arith in
    let all : take (length text - (end + 1)) (drop (end + 1) text) ≡ drop (end + 1) text = take_all (length text - (end + 1)) (drop (end + 1) text) (omega (arith, size)) in (
      first_line text end found ∙ ap (λ l. l ∷ lines (drop (suc end) text)) (sym is) ∙ ap (λ n. line ∷ lines (drop n text)) one ∙ ap (λ l. line ∷ lines l) (sym all),
      omega (arith, within, size, ap length all),
    )

-- without an LF
rest_onto : (line text : List ℕ) → ((k : ℕ) → k < length text → is_end (get_or text k 0) ≡ false) → lines_onto line text ≡ (line ++ text) ∷ []
rest_onto line [] none = ap (λ l. l ∷ []) (sym (append-nil line))
rest_onto line (byte ∷ text) none =
    ap (λ t. if t then without_return line ∷ lines text else lines_onto (line ++ byte ∷ []) text) (none 0 (omega arith))
    ∙ rest_onto (line ++ byte ∷ []) text (λ k less. none (suc k) (omega (arith, less)))
    ∙ ap (λ l. l ∷ []) (append_assoc line (byte ∷ []) text)

none_ends : (text : List ℕ) → position is_end text ≡ None → (k : ℕ) → k < length text → is_end (get_or text k 0) ≡ false
none_ends text none k lt = by (nat_lt (position_or_len is_end text) (length text)) refl none
  where
    by : (t : Bool) → nat_lt (position_or_len is_end text) (length text) ≡ t → cond t (Some (position_or_len is_end text)) None ≡ None → is_end (get_or text k 0) ≡ false
    by true e some = absurd (cc)
    by false e some = let past = ltb-false (position_or_len is_end text) (length text) e in fails_before_first is_end text k 0 (omega (arith, lt, past))

pub last_line : (text : List ℕ) → position is_end text ≡ None → lines text ≡ text ∷ []
last_line text none = rest_onto [] text (none_ends text none)

pub ruleset utf8_tests = (utf8_not, is_utf8-from_IsUtf8)

-- what stands behind a beginning
behind_it : (beginning rest : List ℕ) → behind beginning (beginning ++ rest) ≡ Some rest
behind_it [] rest = refl
behind_it (x ∷ beginning) rest = ap (λ t. if t then behind beginning (beginning ++ rest) else None) (eq-eqb x x refl) ∙ behind_it beginning rest

begins_otherwise : (beginning text : List ℕ) → ((rest : List ℕ) → text ≢ beginning ++ rest) → behind beginning text ≡ None
begins_otherwise [] text none = absurd (none text refl)
begins_otherwise (x ∷ beginning) [] none = refl
begins_otherwise (x ∷ beginning) (byte ∷ text) none = by (byte == x) refl (λ same. begins_otherwise beginning text (λ rest is. none rest (cc)))
  where
    by : (t : Bool) → (byte == x) ≡ t → (byte ≡ x → behind beginning text ≡ None) → behind (x ∷ beginning) (byte ∷ text) ≡ None
    by false e behind_same = ap (λ t. if t then behind beginning text else None) e
    by true e behind_same = ap (λ t. if t then behind beginning text else None) e ∙ behind_same (eqb-true byte x e)

pub behind_is : (beginning text : List ℕ) (r : Option (Bor (List ℕ))) → MatchOption r ((rest : List ℕ) → text ≢ beginning ++ rest) (λ rest. text ≡ beginning ++ rest.now)
    → MatchOption r (behind beginning text ≡ None) (λ rest. behind beginning text ≡ Some rest.now)
behind_is beginning text None none = begins_otherwise beginning text none
behind_is beginning text (Some rest) is = ap (behind beginning) is ∙ behind_it beginning rest.now

-- the events of the lines so far, in front of what those from here on say
abbrev pub with_before : List UserEvent → Result (List UserEvent) ℕ → Result (List UserEvent) ℕ
with_before events (Ok others) = Ok (events ++ others)
with_before events (Err number) = Err number

-- what the first line says goes over to the events so far
said_first : (number : ℕ) (events new : List UserEvent) (says : Said) (others : Result (List UserEvent) ℕ) → more number events says ≡ Ok new
    → with_before new others ≡ with_before events (with_said number says others)
said_first number events new Nothing others is = let same : new ≡ events = cc in ap (λ e. with_before e others) same
said_first number events new (Something e) (Ok others) is =
    let same : new ≡ events ++ e ∷ [] = cc in
    ap (λ es. with_before es (Ok others)) same ∙ ap Ok (append_assoc events (e ∷ []) others)
said_first number events new (Something e) (Err other) is = refl
said_first number events new Unknown others is = absurd (cc)

unknown_first : (number : ℕ) (events : List UserEvent) (says : Said) (others : Result (List UserEvent) ℕ) (wrong : ℕ) → more number events says ≡ Err wrong
    → with_before events (with_said number says others) ≡ Err wrong
unknown_first number events Nothing others wrong is = absurd (cc)
unknown_first number events (Something e) others wrong is = absurd (cc)
unknown_first number events Unknown others wrong is = is

-- the same of lines of which the first has this number
pub one_more : (number : ℕ) (events new : List UserEvent) (rest : List (List ℕ)) (line : List ℕ) (others : List (List ℕ)) (all : Result (List UserEvent) ℕ)
    → rest ≡ line ∷ others → more number events (line_says line) ≡ Ok new → with_before events (events_from number rest) ≡ all → with_before new (events_from (number + 1) others) ≡ all
one_more number events new rest line others all are reads so =
    ap (λ n. with_before new (events_from n others)) (add-one number)
    ∙ said_first number events new (line_says line) (events_from (suc number) others) reads
    ∙ ap (λ ls. with_before events (events_from number ls)) (sym are)
    ∙ so

pub last_read : (number : ℕ) (events new : List UserEvent) (rest : List (List ℕ)) (line : List ℕ) (all : Result (List UserEvent) ℕ)
    → rest ≡ line ∷ [] → more number events (line_says line) ≡ Ok new → with_before events (events_from number rest) ≡ all → all ≡ Ok new
last_read number events new rest line all are reads so = sym (one_more number events new rest line [] all are reads so) ∙ ap Ok (append-nil new)

pub refused : (number : ℕ) (events new : List UserEvent) (rest : List (List ℕ)) (line : List ℕ) (others : List (List ℕ)) (script : List ℕ) (why : ScriptRefusal)
    → rest ≡ line ∷ others → Puts (more number events (line_says line)) new (Err why) → with_before events (events_from number rest) ≡ script_of script → Reads script (Err why)
refused number events new rest line others script (refusal.NotYetBuilt wrong) are puts so =
    sym so
    ∙ ap (λ ls. with_before events (events_from number ls)) are
    ∙ unknown_first number events (line_says line) (events_from (suc number) others) wrong puts
refused number events new rest line others script refusal.NoMemory are puts so = tt
