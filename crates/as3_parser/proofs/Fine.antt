-- The prediction table is right.
use Rattle.std.proofs.Common.{◌≡◌, ℕ, zero, suc, ◌+◌, Bool, true, false, IsTrue, List, [], ◌∷◌, eqb, eqb-true, refl, sym, subst, ◌∙◌, arith}
use Rattle.std.proofs.lemmas.Bool.{eq-eqb}
use Rattle.as3_parser.specs.Grammar.{Symbol, Production, Rules, nth, sides_of, rules_of}
use Rattle.as3_parser.specs.Predicts.{Predicts}
use Rattle.as3_parser.specs.Table.{Claim, with_on, entries, rules, symbols_of, pick, sets, fine}
use Rattle.as3_parser.specs.Productions.{grammar, the_rules, dangling}
use Rattle.as3_parser.specs.Claims.{claims}
use Rattle.as3_parser.specs.Here.{table}
use Rattle.as3_parser.specs.Syntax.{part_of}
use Rattle.as3_parser.specs.declared.start.Start.{Start}
use Rattle.as3_parser.specs.declared.start.Start.TheVariants as start
use Rattle.as3_parser.proofs.Tables.{predicts}

-- the productions stand in the order of their parts
in_order : ℕ → List Production → Bool
in_order k [] = true
in_order k (p ∷ ps) = elim (eqb p.part k) [ true ↦ in_order (suc k) ps | false ↦ false ]

same_side : (ss : List (List Symbol)) (ls : List (List ℕ)) (i : ℕ) → symbols_of (nth (with_on ss ls) i) ≡ nth ss i
same_side [] ls i = refl
same_side (s ∷ ss) [] zero = refl
same_side (s ∷ ss) [] (suc i) = same_side ss [] i
same_side (s ∷ ss) (l ∷ ls) zero = refl
same_side (s ∷ ss) (l ∷ ls) (suc i) = same_side ss ls i

same_rules_from : (k : ℕ) (ps : List Production) (cs : List Claim) → IsTrue (in_order k ps) → (n m i : ℕ) → m ≡ k + n → rules (entries ps cs) n i ≡ rules_of ps m i
unfolding in_order
same_rules_from k [] cs h n m i is = refl
same_rules_from k (p ∷ ps) cs h n m i is = go (eqb p.part k) (eqb p.part m) refl refl h n is cs (λ h1 n1 is1 cs1. same_rules_from (suc k) ps cs1 h1 n1 m i is1) where
  go : (a b : Bool) → eqb p.part k ≡ a → eqb p.part m ≡ b → IsTrue (elim a [ true ↦ in_order (suc k) ps | false ↦ false ]) → (n : ℕ) → m ≡ k + n → (cs : List Claim)
      → (IsTrue (in_order (suc k) ps) → (n1 : ℕ) → m ≡ suc k + n1 → (cs1 : List Claim) → rules (entries ps cs1) n1 i ≡ rules_of ps m i)
      → rules (entries (p ∷ ps) cs) n i ≡ nth (elim b as (λ _. List (List Symbol)) [ true ↦ p.sides | false ↦ sides_of ps m ]) i
  go false b f g h n is cs more = absurd (cc)
  go true true f g h zero is [] more = same_side p.sides [] i
  go true true f g h zero is (c ∷ cs) more = same_side p.sides c.on i
  go true true f g h (suc n) is cs more = absurd (let a = eqb-true p.part k f in let b = eqb-true p.part m g in omega (arith, a, b, is))
  go true false f g h zero is cs more = absurd (let a = eqb-true p.part k f in let e : m ≡ p.part = omega (arith, a, is) in let t : eqb p.part p.part ≡ false = subst (λ y. eqb p.part y ≡ false) e g in let u : eqb p.part p.part ≡ true = eq-eqb p.part p.part refl in (cc))
  go true false f g h (suc n) is [] more = more h n (omega (arith, is)) []
  go true false f g h (suc n) is (c ∷ cs) more = more h n (omega (arith, is)) cs

ordered : IsTrue (in_order 0 grammar)
unfolding in_order
ordered = refl

-- the table has the right sides of the grammar
pub same_rules : (n i : ℕ) → rules table n i ≡ the_rules n i
same_rules n i = same_rules_from 0 grammar claims ordered n n i (omega arith)

pub fits : IsTrue (fine table dangling)
fits = refl

with_rules : (g h : Rules) (start : ℕ) → ((n i : ℕ) → g n i ≡ h n i) → Predicts g start (pick table) (sets table) dangling → Predicts h start (pick table) (sets table) dangling
with_rules g h start same p = record {
  first = λ n i r is. p.first n i r (same n i ∙ is);
  null = λ n i r is. p.null n i r (same n i ∙ is);
  follow = λ n i r is. p.follow n i r (same n i ∙ is);
  start_follow = p.start_follow;
  chosen = λ n i r is. p.chosen n i r (same n i ∙ is);
  full_picked = p.full_picked;
  full_is = sym (same dangling.part dangling.full) ∙ p.full_is;
  rest_lacks = p.rest_lacks;
  others_lack = λ n i r is. p.others_lack n i r (same n i ∙ is);
}

-- from each of the five starts
table_predicts : (s : Start) → Predicts (rules table) (part_of s) (pick table) (sets table) dangling
table_predicts start.ClassFile = predicts table _ dangling fits refl refl refl refl
table_predicts start.Members = predicts table _ dangling fits refl refl refl refl
table_predicts start.Handler = predicts table _ dangling fits refl refl refl refl
table_predicts start.Metadata = predicts table _ dangling fits refl refl refl refl
table_predicts start.Expression = predicts table _ dangling fits refl refl refl refl

pub predicts_start : (s : Start) → Predicts the_rules (part_of s) (pick table) (sets table) dangling
predicts_start s = with_rules (rules table) the_rules (part_of s) same_rules (table_predicts s)
