-- A script asks for no state, since it says nothing but clicks.
use Rattle.std.proofs.Common.{◌≡◌, ℕ, suc, List, [], ◌∷◌, Option, None, Some, Ok, Err, Result, Bool, true, false, refl, sym, ap, ◌∙◌}
use Rattle.std.specs.Prelude.{if◌then◌else◌, ◌==◌, ◌||◌, codes}
use Rattle.std.specs.List.{list_any}
use Rattle.std.specs.Str.{is_utf8}
use Rattle.flex_base.specs.declared.event.UserEvent.{UserEvent}
use Rattle.flex_base.specs.declared.event.UserEvent.TheVariants as event
use Rattle.flex_front.specs.Source.{is_name}
use Rattle.flexc.specs.Lines.{Said, Nothing, Something, Unknown, behind, click_on, text_says, line_says, with_said, events_from, lines, script_of}
use Rattle.flexc.proofs.EndsWell.{asks_state}

-- what is said asks for no state
abbrev IsQuiet : Said → Type 0
IsQuiet Nothing = Unit {0}
IsQuiet (Something e) = asks_state e ≡ false
IsQuiet Unknown = Unit {0}

quiet_click : (line : List ℕ) (name : Option (List ℕ)) → IsQuiet (click_on line name)
quiet_click line None = tt
quiet_click line (Some name) = by (is_name name)
  where
    by : (t : Bool) → IsQuiet (if t then Something (event.Click (name ∷ []) line) else Unknown)
    by true = refl
    by false = tt

quiet_text : (line : List ℕ) → IsQuiet (text_says line)
quiet_text [] = tt
quiet_text (byte ∷ line) = by (byte == 35)
  where
    by : (t : Bool) → IsQuiet (if t then Nothing else click_on (byte ∷ line) (behind (codes "click ") (byte ∷ line)))
    by true = tt
    by false = quiet_click (byte ∷ line) (behind (codes "click ") (byte ∷ line))

quiet_line : (line : List ℕ) → IsQuiet (line_says line)
quiet_line line = by (is_utf8 line)
  where
    by : (t : Bool) → IsQuiet (if t then text_says line else Unknown)
    by true = quiet_text line
    by false = tt

-- the events of a reading, where there are any, ask for none
record AreQuiet (r : Result (List UserEvent) ℕ) : Type 0 where
  quiet : (events : List UserEvent) → r ≡ Ok events → list_any asks_state events ≡ false

quiet_more : (n : ℕ) (s : Said) (r : Result (List UserEvent) ℕ) → IsQuiet s → AreQuiet r → AreQuiet (with_said n s r)
quiet_more n Nothing r q a = a
quiet_more n (Something e) (Ok others) q a = record { quiet = λ events is. by events (cc) }
  where
    by : (events : List UserEvent) → e ∷ others ≡ events → list_any asks_state events ≡ false
    by events same = ap (list_any asks_state) (sym same) ∙ ap (λ t. t || list_any asks_state others) q ∙ a.quiet others refl
quiet_more n (Something e) (Err other) q a = record { quiet = λ events is. absurd (cc) }
quiet_more n Unknown r q a = record { quiet = λ events is. absurd (cc) }

quiet_from : (n : ℕ) (ls : List (List ℕ)) → AreQuiet (events_from n ls)
quiet_from n [] = record { quiet = λ events is. by events (cc) }
  where
    by : (events : List UserEvent) → [] ≡ events → list_any asks_state events ≡ false
    by events same = ap (list_any asks_state) (sym same)
quiet_from n (line ∷ others) = quiet_more n (line_says line) (events_from (suc n) others) (quiet_line line) (quiet_from (suc n) others)

pub asks_none : (text : List ℕ) (events : List UserEvent) → script_of text ≡ Ok events → list_any asks_state events ≡ false
asks_none text events is = (quiet_from 1 (lines text)).quiet events is
