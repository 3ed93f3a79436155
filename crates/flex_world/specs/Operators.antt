-- The operators on values.
use Rattle.std.specs.List.{join_with_byte}
use Rattle.std.specs.Prelude.{Bool, Err, List, Ok, Result, [], not, ℕ, ℤ, ◌∷◌}
use Rattle.flex_base.specs.Value.{add, and_then, equal, less, modulo, multiply, negate, same, subtract, text_value, to_text}
use Rattle.flex_base.specs.declared.outcome.Stop.{Stop}
use Rattle.flex_base.specs.declared.outcome.Stop.TheVariants as stop
use Rattle.flex_base.specs.declared.value.Value.{Value}
use Rattle.flex_base.specs.declared.value.Value.TheVariants as value
use Rattle.flex_world.specs.declared.operator.Operator.{Operator}

-- a whole number as a value
abbrev pub whole : Result ℤ Stop → Result Value Stop
whole n = and_then n (λ m. Ok (value.Int m))

-- an operator on two ints
abbrev pub on_ints : (ℤ → ℤ → Result ℤ Stop) → Value → Value → Result Value Stop
on_ints f (value.Int a) (value.Int b) = whole (f a b)
on_ints f _ _ = Err stop.Kind

abbrev pub negated : Value → Result Value Stop
negated (value.Int n) = whole (negate n)
negated _ = Err stop.Kind

abbrev pub truth : Result Bool Stop → Result Value Stop
truth b = and_then b (λ t. Ok (value.Bool t))

abbrev pub untruth : Result Bool Stop → Result Value Stop
untruth b = and_then b (λ t. Ok (value.Bool (not t)))

-- `a <= b` where `b < a` is false
abbrev pub less_or_equal : Value → Value → Result Value Stop
less_or_equal a b = untruth (less b a)

-- the operators on two values
abbrev pub operate : Operator → Value → Value → Result Value Stop
operate Operator.Plus a b = add a b
operate Operator.Minus a b = on_ints subtract a b
operate Operator.Times a b = on_ints multiply a b
operate Operator.Modulo a b = on_ints modulo a b
operate Operator.Less a b = truth (less a b)
operate Operator.LessOrEqual a b = less_or_equal a b
operate Operator.Greater a b = truth (less b a)
operate Operator.Equal a b = truth (equal a b)
operate Operator.Same a b = Ok (value.Bool (same a b))

-- the texts of values
abbrev pub texts_of : List Value → Result (List (List ℕ)) Stop
texts_of [] = Ok []
texts_of (v ∷ vs) = and_then (to_text v) (λ text. and_then (texts_of vs) (λ texts. Ok (text ∷ texts)))

-- texts with one space between any two
abbrev pub spaced_text : List (List ℕ) → List ℕ
spaced_text texts = join_with_byte 32 texts

-- a text that isn't too long
abbrev pub made_text : List ℕ → Result (List ℕ) Stop
made_text text = and_then (text_value text) (λ _. Ok text)
