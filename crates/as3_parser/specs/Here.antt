-- What the functions answer.
use Rattle.std.specs.Prelude.{◌≡◌, ℕ, ◌-◌, ◌<◌, ◌^◌, min, eqb, Bool, true, false, List, [], ◌∷◌, ◌++◌, ◌+◌, get_or, length, zero, suc, drop, ltb, Option, Some, None}
use Rattle.as3_parser.specs.Grammar.{Symbol, Token, Part, Close, nth}
use Rattle.as3_parser.specs.Exact.{Exact}
use Rattle.as3_parser.specs.Levels.{DeepAt}
use Rattle.as3_parser.specs.Judged.{Syntax, Judged}
use Rattle.as3_parser.specs.Predicts.{next, Predicts}
use Rattle.as3_parser.specs.Table.{Side, Entry, entries, rules, pick, sets, heft}
use Rattle.as3_parser.specs.Cells.{cells, row_code, base, all_sides}
use Rattle.as3_parser.specs.Stands.{At}
use Rattle.as3_parser.specs.Productions.{grammar, the_rules, dangling}
use Rattle.as3_parser.specs.Claims.{claims}
use Rattle.as3_parser.specs.Syntax.{limit}
use Rattle.as3_parser.specs.declared.refusal.ParseRefusal.{ParseRefusal}
use Rattle.as3_parser.specs.declared.refusal.ParseRefusal.TheVariants as refusal
use Rattle.as3_parser.specs.declared.faults.Top.{Top}
use Rattle.as3_parser.specs.declared.faults.Top.TheVariants.{Reads, Empty, Fails}

-- the grammar with what is claimed of it
abbrev pub table : List Entry
table = entries grammar claims

-- a byte of the stack: a kind, or 128 and a part, or 255, a mark
abbrev pub symbol_of : ℕ → Symbol
symbol_of b = elim (ltb b 128) [ true ↦ Token b | false ↦ elim (ltb b 255) [ true ↦ Part (b - 128) | false ↦ Close ] ]

unfoldable pub symbols : List ℕ → List Symbol
symbols [] = []
symbols (b ∷ bs) = symbol_of b ∷ symbols bs

-- all that can be counted: no more levels can be open
abbrev pub unlimited : ℕ
unlimited = 2 ^ 64

-- so far the tokens are read, and none of them opens level m
pub record Stands (m start : ℕ) (ts : List ℕ) (i : ℕ) (s : List Symbol) : Type 0 where
  pub at : At the_rules start (sets table) dangling m ts i s
  pub predicts : Predicts the_rules start (pick table) (sets table) dangling

-- token i is the first fault, of syntax
pub record Stops (m start : ℕ) (ts : List ℕ) (i : ℕ) : Type 0 where
  pub is : Judged the_rules dangling m (Part start ∷ []) ts (Syntax i)

-- the part on top was replaced by the right side that is picked
pub record Took (n l : ℕ) (old new : List ℕ) : Type 0 where
  pub side : ℕ
  pub right : List Symbol
  pub picks : pick table n l ≡ Some side
  pub is : rules table n side ≡ Some right
  pub stack : symbols new ≡ right ++ symbols old

-- nothing is picked
pub record Refused (n l : ℕ) : Type 0 where
  pub is : pick table n l ≡ None

abbrev pub Expanded : Bool → ℕ → ℕ → List ℕ → List ℕ → Type 0
Expanded true n l old new = Took n l old new
Expanded false n l old new = Refused n l

-- what is on top, after parts were replaced
abbrev pub Settled : ℕ → ℕ → List ℕ → ℕ → Top → List ℕ → Type 0
Settled m start ts i (Reads t) new = Stands m start ts i (Token t ∷ symbols new)
Settled m start ts i Empty new = Stands m start ts i []
Settled m start ts i Fails new = Stops m start ts i

pub record Settles (l : ℕ) (old : List ℕ) (top : Top) (new : List ℕ) : Type 0 where
  pub from : (m start : ℕ) (ts : List ℕ) (i : ℕ) → Stands m start ts i (symbols old) → next (drop i ts) ≡ l → Settled m start ts i top new

-- the weight of a stack
unfoldable pub load : List ℕ → ℕ
load bs = heft table (symbols bs)

-- what stood there before stands there after
pub record Reaches (l : ℕ) (old new : List ℕ) : Type 0 where
  pub from : (m start : ℕ) (ts : List ℕ) (i : ℕ) → Stands m start ts i (symbols old) → next (drop i ts) ≡ l → Stands m start ts i (symbols new)

abbrev pub the_width : ℕ
the_width = 61

unfoldable pub the_cells : List ℕ
the_cells = cells the_width table 0

-- the number of the right side that is picked
pub record RowOf (n l r : ℕ) : Type 0 where
  pub is : r ≡ row_code (base table n) (pick table n l)

abbrev pub side_symbols : Option Side → List Symbol
side_symbols None = []
side_symbols (Some s) = s.symbols

unfoldable pub row_symbols : ℕ → List Symbol
row_symbols k = side_symbols (nth (all_sides table) k)

abbrev pub code_of : Symbol → ℕ
code_of (Token t) = t
code_of (Part n) = 128 + n
code_of Close = 255

abbrev pub put_front : List ℕ → List Symbol → List ℕ
put_front done [] = done
put_front done (y ∷ ys) = put_front (code_of y ∷ done) ys

abbrev pub bytes_of : List Side → List ℕ
bytes_of [] = []
bytes_of (s ∷ ss) = put_front [] s.symbols ++ bytes_of ss

abbrev pub ends_of : ℕ → List Side → List ℕ
ends_of k [] = k ∷ []
ends_of k (s ∷ ss) = k ∷ ends_of (k + length s.symbols) ss

unfoldable pub the_bytes : List ℕ
the_bytes = bytes_of (all_sides table)

unfoldable pub the_ends : List ℕ
the_ends = ends_of 0 (all_sides table)

-- so many bytes from a place, the last first
unfoldable pub gathered : ℕ → ℕ → List ℕ
gathered from zero = []
gathered from (suc k) = get_or the_bytes (from + k) 0 ∷ gathered from k

unfoldable pub row_list : ℕ → List ℕ
row_list r = gathered (get_or the_ends r 0) (get_or the_ends (r + 1) 0 - get_or the_ends r 0)

-- what was put there so far
pub record Gathered (from to at : ℕ) (old new : List ℕ) : Type 0 where
  pub count : ℕ
  pub sum : at ≡ from + count
  pub still : to < from → count ≡ 0
  pub is : new ≡ gathered from count ++ old

-- whether a token of this kind was read
abbrev pub is_read : Top → ℕ → Bool
is_read (Reads t) kind = eqb t kind
is_read Empty kind = false
is_read Fails kind = false

abbrev pub is_spent : Top → Bool
is_spent (Reads t) = false
is_spent Empty = true
is_spent Fails = false

-- the first token that opens level 65, where one more token was read
abbrev pub deepest : Option ℕ → ℕ → ℕ → Option ℕ
deepest (Some d) at open_levels = Some d
deepest None at open_levels = elim (ltb open_levels limit) [ true ↦ None | false ↦ Some at ]

abbrev pub IsDeep : ℕ → List ℕ → ℕ → Type 0
IsDeep start ts d = DeepAt the_rules dangling limit (Part start ∷ []) ts d

-- the first token that opens level 65 so far, or none
abbrev pub DeepSoFar : ℕ → List ℕ → ℕ → List Symbol → Option ℕ → Type 0
DeepSoFar start ts i s None = Stands limit start ts i s
DeepSoFar start ts i s (Some d) = IsDeep start ts d

pub record SoFar (start : ℕ) (ts : List ℕ) (i : ℕ) (s : List Symbol) (first : Option ℕ) : Type 0 where
  pub stands : Stands unlimited start ts i s
  pub deep : DeepSoFar start ts i s first

abbrev pub DeepIs : ℕ → List ℕ → Option ℕ → Type 0
DeepIs start ts None = (d : ℕ) → ¬ (IsDeep start ts d)
DeepIs start ts (Some d) = IsDeep start ts d

-- the fault of syntax, and the first token that opens level 65
pub record HasFaults (start : ℕ) (ts : List ℕ) (fault first : Option ℕ) : Type 0 where
  pub syntax : Exact the_rules (Part start ∷ []) ts fault
  pub deep : DeepIs start ts first

-- a fault as it is counted where there are so many tokens
abbrev pub counted : Option ℕ → ℕ → Option ℕ
counted None many = None
counted (Some k) many = Some (min k many)

-- the fault that counts
abbrev pub first_of : Option ℕ → Option ℕ → Option ParseRefusal
first_of None None = None
first_of None (Some d) = Some (refusal.TooDeep d)
first_of (Some k) None = Some (refusal.Syntax k)
first_of (Some k) (Some d) = elim (ltb d k) [ true ↦ Some (refusal.TooDeep d) | false ↦ Some (refusal.Syntax k) ]
