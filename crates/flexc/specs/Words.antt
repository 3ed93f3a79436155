-- The words of a command.
use Rattle.std.specs.Prelude.{◌≡◌, ℕ, ◌+◌, ◌-◌, ◌*◌, ◌<◌, ◌≤◌, List, [], ◌∷◌, length, map, All, String, codes}
use Rattle.std.specs.String.{string_bytes}

-- the texts of the words
abbrev pub texts : {Z : Type 0} → List (String Z) → List (List ℕ)
texts words = map string_bytes words

pub record IsDigit (byte : ℕ) : Type 0 where
  pub from : 48 ≤ byte
  pub to : byte ≤ 57

-- the number that decimal digits say behind others that say a number
abbrev pub number_behind : ℕ → List ℕ → ℕ
number_behind n [] = n
number_behind n (digit ∷ digits) = number_behind (10 * n + (digit - 48)) digits

-- decimal digits that may stand behind others that say a number: the value of all isn't above 1,000,000,000
pub record IsEnding (n : ℕ) (digits : List ℕ) : Type 0 where
  pub digits_are : All IsDigit digits
  pub most : number_behind n digits ≤ 1000000000

-- a word that may say a number of turns: 1 to 10 decimal digits, of a value that isn't above 1,000,000,000
pub record IsNumber (word : List ℕ) : Type 0 where
  pub some : 0 < length word
  pub few : length word ≤ 10
  pub ending : IsEnding 0 word

-- `run --script S --out O MAIN`
abbrev pub IsPlain : List (List ℕ) → List ℕ → List ℕ → List ℕ → Type 0
IsPlain words script out main = words ≡ codes "run" ∷ codes "--script" ∷ script ∷ codes "--out" ∷ out ∷ main ∷ []

-- `run --script S --out O --turns N MAIN`
pub record IsWithTurns (words : List (List ℕ)) (script out : List ℕ) (turns : ℕ) (main : List ℕ) : Type 0 where
  pub number : List ℕ
  pub are : words ≡ codes "run" ∷ codes "--script" ∷ script ∷ codes "--out" ∷ out ∷ codes "--turns" ∷ number ∷ main ∷ []
  pub is_number : IsNumber number
  pub says : number_behind 0 number ≡ turns

-- the words of a command
pub data AreWords (words : List (List ℕ)) (script out main : List ℕ) : Type 0 where
  Plain : (are : IsPlain words script out main) → AreWords words script out main
  With_turns : (turns : ℕ) (are : IsWithTurns words script out turns main) → AreWords words script out main

abbrev pub IsNoCommand : List (List ℕ) → Type 0
IsNoCommand words = (script out main : List ℕ) → AreWords words script out main → ⊥

abbrev pub IsNotPlain : List (List ℕ) → Type 0
IsNotPlain words = (script out main : List ℕ) → IsPlain words script out main → ⊥

abbrev pub IsNotWithTurns : List (List ℕ) → Type 0
IsNotWithTurns words = (script out : List ℕ) (turns : ℕ) (main : List ℕ) → IsWithTurns words script out turns main → ⊥

-- with how many turns the words of a command play
abbrev pub turns : List (List ℕ) → ℕ
turns (run ∷ script_flag ∷ script ∷ out_flag ∷ out ∷ turns_flag ∷ number ∷ main ∷ []) = number_behind 0 number
turns words = 1000000
