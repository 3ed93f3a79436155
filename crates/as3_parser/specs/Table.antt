-- Grammars and prediction tables as data, and the test that makes a table right.
use Rattle.std.specs.Prelude.{ℕ, zero, suc, Bool, true, false, ◌&&◌, ◌||◌, not, IsTrue, eqb, ltb, List, [], ◌∷◌, ◌++◌, Option, Some, None, ◌+◌}
use Rattle.as3_parser.specs.Grammar.{Symbol, Token, Part, Close, Production, Rules, nth}
use Rattle.as3_parser.specs.Predicts.{Sets, Dangling}

-- a right side, and what may come next where it is taken
pub record Side : Type 0 where
  pub symbols : List Symbol
  pub on : List ℕ

-- what is claimed of a part: what may come next at each of its right sides, whether it may be empty, what it begins with,
-- what follows it; its weight is above that of what its right sides begin with, so that the loop ends
pub record Claim : Type 0 where
  pub on : List (List ℕ)
  pub null : Bool
  pub first : List ℕ
  pub follow : List ℕ
  pub weight : ℕ

-- a part: its right sides, and what is claimed of it
pub record Entry : Type 0 where
  pub sides : List Side
  pub null : Bool
  pub first : List ℕ
  pub follow : List ℕ
  pub weight : ℕ

abbrev pub no_entry : Entry
no_entry = record { sides = []; null = false; first = []; follow = []; weight = 0 }

abbrev pub no_claim : Claim
no_claim = record { on = []; null = false; first = []; follow = []; weight = 0 }

abbrev pub with_on : List (List Symbol) → List (List ℕ) → List Side
with_on [] ls = []
with_on (s ∷ ss) [] = record { symbols = s; on = [] } ∷ with_on ss []
with_on (s ∷ ss) (l ∷ ls) = record { symbols = s; on = l } ∷ with_on ss ls

abbrev pub entry_of : Production → Claim → Entry
entry_of p c = record { sides = with_on p.sides c.on; null = c.null; first = c.first; follow = c.follow; weight = c.weight }

-- the productions with what is claimed of their parts, in order
abbrev pub entries : List Production → List Claim → List Entry
entries [] cs = []
entries (p ∷ ps) [] = entry_of p no_claim ∷ entries ps []
entries (p ∷ ps) (c ∷ cs) = entry_of p c ∷ entries ps cs

abbrev pub entry : List Entry → ℕ → Entry
entry [] n = no_entry
entry (e ∷ es) zero = e
entry (e ∷ es) (suc n) = entry es n

abbrev pub symbols_of : Option Side → Option (List Symbol)
symbols_of None = None
symbols_of (Some s) = Some s.symbols

-- the grammar
abbrev pub rules : List Entry → Rules
rules es n i = symbols_of (nth (entry es n).sides i)

abbrev pub among : ℕ → List ℕ → Bool
among l [] = false
among l (y ∷ ys) = elim (eqb l y) [ true ↦ true | false ↦ among l ys ]

abbrev pub pick_from : List Side → ℕ → ℕ → Option ℕ
pick_from [] l i = None
pick_from (s ∷ ss) l i = elim (among l s.on) [ true ↦ Some i | false ↦ pick_from ss l (suc i) ]

-- the prediction table
abbrev pub pick : List Entry → ℕ → ℕ → Option ℕ
pick es n l = pick_from (entry es n).sides l 0

abbrev pub sets : List Entry → Sets
sets es = record {
  First = λ n l. IsTrue (among l (entry es n).first);
  Follow = λ n l. IsTrue (among l (entry es n).follow);
  Null = λ n. IsTrue (entry es n).null;
}

abbrev pub all : {A : Type 0} → (A → Bool) → List A → Bool
all f [] = true
all f (y ∷ ys) = elim (f y) [ true ↦ all f ys | false ↦ false ]

abbrev pub all_at : {A : Type 0} → (ℕ → A → Bool) → ℕ → List A → Bool
all_at f i [] = true
all_at f i (y ∷ ys) = elim (f i y) [ true ↦ all_at f (suc i) ys | false ↦ false ]

abbrev pub within : List ℕ → List ℕ → Bool
within xs ys = all (λ l. among l ys) xs

abbrev pub is_pick : Option ℕ → ℕ → Bool
is_pick None i = false
is_pick (Some j) i = eqb j i

abbrev pub is_empty : List Symbol → Bool
is_empty [] = true
is_empty (y ∷ ys) = false

abbrev pub lacks : ℕ → List Symbol → Bool
lacks x [] = true
lacks x (Token t ∷ s) = not (eqb t x) && lacks x s
lacks x (Part m ∷ s) = lacks x s
lacks x (Close ∷ s) = lacks x s

module _ (es : List Entry) where
  -- what symbols may go on with, where f may stand behind them
  abbrev pub can : List Symbol → List ℕ → List ℕ
  can [] f = f
  can (Token t ∷ s) f = suc t ∷ []
  can (Close ∷ s) f = can s f
  can (Part m ∷ s) f = elim ((entry es m).null) [ true ↦ (entry es m).first ++ can s f | false ↦ (entry es m).first ]

  abbrev pub nulls : List Symbol → Bool
  nulls [] = true
  nulls (Token t ∷ s) = false
  nulls (Close ∷ s) = nulls s
  nulls (Part m ∷ s) = (entry es m).null && nulls s

  abbrev pub followed : List Symbol → List ℕ → Bool
  followed [] f = true
  followed (Token t ∷ s) f = followed s f
  followed (Close ∷ s) f = followed s f
  followed (Part m ∷ s) f = within (can s f) (entry es m).follow && followed s f

  -- the weight of what is replaced before a token is read
  abbrev pub heft : List Symbol → ℕ
  heft [] = 0
  heft (Token t ∷ s) = 0
  heft (Close ∷ s) = suc (heft s)
  heft (Part m ∷ s) = elim ((entry es m).null) [ true ↦ (entry es m).weight + heft s | false ↦ (entry es m).weight ]

  module _ (x : Dangling) where
    abbrev pub side_fine : ℕ → Entry → ℕ → Side → Bool
    side_fine n e i s =
        within (can s.symbols []) e.first
        && ((not (nulls s.symbols) || e.null)
        && (followed s.symbols e.follow
        && (all (λ l. is_pick (pick_from e.sides l 0) i || (eqb n x.part && (eqb l (suc x.token) && is_empty s.symbols))) (can s.symbols e.follow)
        && (((eqb n x.part && eqb i x.full) || lacks x.token s.symbols)
        && ltb (heft s.symbols) e.weight))))

    -- the table is right
    abbrev pub fine : Bool
    fine = all_at (λ n e. all_at (λ i s. side_fine n e i s) 0 e.sides) 0 es
