-- Lists of six and of eight words.
use Rattle.std.proofs.Common.{◌≡◌, ℕ, ◌<◌, ◌≤◌, List, [], ◌∷◌, length, get_or, refl, sym, ap, ◌∙◌, arith}
use Rattle.std.specs.Prelude.{String, codes, Option, None, Some, MatchOption}
use Rattle.std.specs.String.{string_bytes}
use Rattle.flexc.specs.declared.words.Run.{Run}
use Rattle.flexc.specs.Words.{texts, turns, IsPlain, IsWithTurns, IsNotPlain, IsNotWithTurns, AreWords, Plain, With_turns, IsNoCommand, IsNumber, number_behind}

six : {A : Type 0} (words : List A) (a b c d e f : A) → 6 ≤ length words → length words < 7 → a ≡ get_or words 0 a → b ≡ get_or words 1 b → c ≡ get_or words 2 c → d ≡ get_or words 3 d
    → e ≡ get_or words 4 e → f ≡ get_or words 5 f → words ≡ a ∷ b ∷ c ∷ d ∷ e ∷ f ∷ []
six [] a b c d e f most least p q r s t u = absurd (omega arith)
six (v ∷ []) a b c d e f most least p q r s t u = absurd (omega arith)
six (v ∷ w ∷ []) a b c d e f most least p q r s t u = absurd (omega arith)
six (v ∷ w ∷ x ∷ []) a b c d e f most least p q r s t u = absurd (omega arith)
six (v ∷ w ∷ x ∷ y ∷ []) a b c d e f most least p q r s t u = absurd (omega arith)
six (v ∷ w ∷ x ∷ y ∷ z ∷ []) a b c d e f most least p q r s t u = absurd (omega arith)
six (v ∷ w ∷ x ∷ y ∷ z ∷ k ∷ []) a b c d e f most least p q r s t u = rw (p, q, r, s, t, u) refl
six (v ∷ w ∷ x ∷ y ∷ z ∷ k ∷ l ∷ words) a b c d e f most least p q r s t u = absurd (omega arith)

-- six words of which three are those of the command
pub are_six : {Z : Type 0} (words : List (String Z)) (a b c d e f : String Z) (script out main : List ℕ) → 6 ≤ length words → length words < 7 → a ≡ get_or words 0 a
    → b ≡ get_or words 1 b → c ≡ get_or words 2 c → d ≡ get_or words 3 d → e ≡ get_or words 4 e → f ≡ get_or words 5 f → string_bytes a ≡ codes "run"
    → string_bytes b ≡ codes "--script" → string_bytes d ≡ codes "--out" → script ≡ string_bytes c → out ≡ string_bytes e → main ≡ string_bytes f → IsPlain (texts words) script out main
are_six words a b c d e f script out main most least p q r s t u run script_flag out_flag script_is out_is main_is =
    ap texts (six words a b c d e f most least p q r s t u)
    ∙ ap (λ x. x ∷ string_bytes b ∷ string_bytes c ∷ string_bytes d ∷ string_bytes e ∷ string_bytes f ∷ []) run
    ∙ ap (λ x. codes "run" ∷ x ∷ string_bytes c ∷ string_bytes d ∷ string_bytes e ∷ string_bytes f ∷ []) script_flag
    ∙ ap (λ x. codes "run" ∷ codes "--script" ∷ x ∷ string_bytes d ∷ string_bytes e ∷ string_bytes f ∷ []) (sym script_is)
    ∙ ap (λ x. codes "run" ∷ codes "--script" ∷ script ∷ x ∷ string_bytes e ∷ string_bytes f ∷ []) out_flag
    ∙ ap (λ x. codes "run" ∷ codes "--script" ∷ script ∷ codes "--out" ∷ x ∷ string_bytes f ∷ []) (sym out_is)
    ∙ ap (λ x. codes "run" ∷ codes "--script" ∷ script ∷ codes "--out" ∷ out ∷ x ∷ []) (sym main_is)

eight : {A : Type 0} (words : List A) (a b c d e f g h : A) → 8 ≤ length words → length words < 9 → a ≡ get_or words 0 a → b ≡ get_or words 1 b → c ≡ get_or words 2 c
    → d ≡ get_or words 3 d → e ≡ get_or words 4 e → f ≡ get_or words 5 f → g ≡ get_or words 6 g → h ≡ get_or words 7 h → words ≡ a ∷ b ∷ c ∷ d ∷ e ∷ f ∷ g ∷ h ∷ []
eight [] a b c d e f g h most least p q r s t u v w = absurd (omega arith)
eight (i ∷ []) a b c d e f g h most least p q r s t u v w = absurd (omega arith)
eight (i ∷ j ∷ []) a b c d e f g h most least p q r s t u v w = absurd (omega arith)
eight (i ∷ j ∷ k ∷ []) a b c d e f g h most least p q r s t u v w = absurd (omega arith)
eight (i ∷ j ∷ k ∷ l ∷ []) a b c d e f g h most least p q r s t u v w = absurd (omega arith)
eight (i ∷ j ∷ k ∷ l ∷ m ∷ []) a b c d e f g h most least p q r s t u v w = absurd (omega arith)
eight (i ∷ j ∷ k ∷ l ∷ m ∷ n ∷ []) a b c d e f g h most least p q r s t u v w = absurd (omega arith)
eight (i ∷ j ∷ k ∷ l ∷ m ∷ n ∷ o ∷ []) a b c d e f g h most least p q r s t u v w = absurd (omega arith)
eight (i ∷ j ∷ k ∷ l ∷ m ∷ n ∷ o ∷ x ∷ []) a b c d e f g h most least p q r s t u v w = rw (p, q, r, s, t, u, v, w) refl
eight (i ∷ j ∷ k ∷ l ∷ m ∷ n ∷ o ∷ x ∷ y ∷ words) a b c d e f g h most least p q r s t u v w = absurd (omega arith)

-- eight words of which four are those of the command
pub are_eight : {Z : Type 0} (words : List (String Z)) (a b c d e f g h : String Z) → 8 ≤ length words → length words < 9 → a ≡ get_or words 0 a → b ≡ get_or words 1 b
    → c ≡ get_or words 2 c → d ≡ get_or words 3 d → e ≡ get_or words 4 e → f ≡ get_or words 5 f → g ≡ get_or words 6 g → h ≡ get_or words 7 h
    → texts words ≡ string_bytes a ∷ string_bytes b ∷ string_bytes c ∷ string_bytes d ∷ string_bytes e ∷ string_bytes f ∷ string_bytes g ∷ string_bytes h ∷ []
are_eight words a b c d e f g h most least p q r s t u v w = ap texts (eight words a b c d e f g h most least p q r s t u v w)

-- with their number they are the words of a command
pub with_turns : (words : List (List ℕ)) (a b c d e f g h script out main : List ℕ) (turns : ℕ) → words ≡ a ∷ b ∷ c ∷ d ∷ e ∷ f ∷ g ∷ h ∷ [] → a ≡ codes "run" → b ≡ codes "--script"
    → d ≡ codes "--out" → f ≡ codes "--turns" → script ≡ c → out ≡ e → main ≡ h → IsNumber g × (turns ≡ number_behind 0 g) → IsWithTurns words script out turns main
with_turns words a b c d e f g h script out main turns are run script_flag out_flag turns_flag script_is out_is main_is number = record {
  number = g;
  are = are ∙ rw (run, script_flag, out_flag, turns_flag, script_is, out_is, main_is) refl;
  is_number = number.0;
  says = sym number.1;
}

-- the six words say no number of turns
pub plain_turns : (words : List (List ℕ)) (script out main : List ℕ) → IsPlain words script out main → turns words ≡ 1000000
plain_turns words script out main are = ap turns are

pub said_turns : (words : List (List ℕ)) (script out : List ℕ) (n : ℕ) (main : List ℕ) → IsWithTurns words script out n main → n ≡ turns words
said_turns words script out n main w = sym w.says ∙ sym (ap turns w.are)

pub no_command : (words : List (List ℕ)) → IsNotPlain words → IsNotWithTurns words → IsNoCommand words
no_command words a b script out main (Plain are) = a script out main are
no_command words a b script out main (With_turns turns are) = b script out turns main are

-- what the eight words say, where they aren't the six
pub words_cases : (words : List (List ℕ)) (r : Option Run) → IsNotPlain words
    → MatchOption r (IsNotWithTurns words) (λ run. IsWithTurns words run.script.now run.out.now run.turns run.main.now)
    → MatchOption r (IsNoCommand words) (λ run. AreWords words run.script.now run.out.now run.main.now × (run.turns ≡ turns words))
words_cases words None plain eight = no_command words plain eight
words_cases words (Some run) plain eight = (With_turns run.turns eight, said_turns words run.script.now run.out.now run.turns run.main.now eight)

-- what the six words say
pub plain_words : (words : List (List ℕ)) (run : Run) → IsPlain words run.script.now run.out.now run.main.now → run.turns ≡ 1000000
    → AreWords words run.script.now run.out.now run.main.now × (run.turns ≡ turns words)
plain_words words run are is = (Plain are, is ∙ sym (plain_turns words run.script.now run.out.now run.main.now are))
