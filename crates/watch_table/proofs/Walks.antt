-- The walk along a chain, name by name, and along the chains, one by one.
use Rattle.std.proofs.Common.{List, [], ◌∷◌, ◌++◌, ◌≡◌, ◌∙◌, ◌&&◌, ◌||◌, true, false, ℕ, zero, suc, refl, ap, sym, subst, ◌+◌, ◌<◌, arith, take, drop, length, map, fold, get_or}
use Rattle.std.proofs.lemmas.List.{map-append, take_more}
use Rattle.std.proofs.lemmas.List.Elements.{filter-append}
use Rattle.std.proofs.lemmas.List.Sums.{fold-append}
use Rattle.std.specs.List.{filter}
use Rattle.std.specs.Prelude.{Ok, Option, None, Some, if◌then◌else◌}
use Rattle.std.specs.Str.{bytes_eq}
use Rattle.flex_base.specs.Value.{is_object}
use Rattle.flex_base.specs.declared.value.ObjId.{ObjId}
use Rattle.flex_world.specs.Watching.{reaches}
use Rattle.watch_table.specs.Affected.{Changes, affected, pair_of, watches, with_pair}
use Rattle.watch_table.specs.declared.watch.Watched.{Watched}

drop_at : {A : Type 0} (xs : List A) (i : ℕ) (x : A) → i < length xs → x ≡ get_or xs i x → drop i xs ≡ x ∷ drop (i + 1) xs
drop_at [] i x h e = absurd (omega arith)
drop_at (y ∷ ys) zero x h e = ap (λ z. z ∷ ys) (sym e)
drop_at (y ∷ ys) (suc i) x h e = let k : suc i + 1 ≡ suc (i + 1) = omega arith in rw k (drop_at ys i x (omega arith) e)

module _ (held : ObjId → List ℕ → Option ObjId) (o : ObjId) (name : List ℕ) where
  -- the walk is at an object, and has these names before it
  at_name : (chain : List (List ℕ)) (i : ℕ) (next : List ℕ) (at : ObjId) → i < length chain → next ≡ get_or chain i next → reaches held o name (drop i chain) (Some at) ≡ ((is_object at o && bytes_eq next name) || reaches held o name (drop (i + 1) chain) (held at next))
  at_name chain i next at h e = ap (λ names. reaches held o name names (Some at)) (drop_at chain i next h e)

  pub found_here : (chain : List (List ℕ)) (i : ℕ) (next : List ℕ) (at : ObjId) → i < length chain → next ≡ get_or chain i next → (is_object at o && bytes_eq next name) ≡ true → reaches held o name (drop i chain) (Some at) ≡ true
  found_here chain i next at h e t = at_name chain i next at h e ∙ ap (λ b. b || reaches held o name (drop (i + 1) chain) (held at next)) t

  pub not_here : (chain : List (List ℕ)) (i : ℕ) (next : List ℕ) (at : ObjId) → i < length chain → next ≡ get_or chain i next → (is_object at o && bytes_eq next name) ≡ false → reaches held o name (drop i chain) (Some at) ≡ reaches held o name (drop (i + 1) chain) (held at next)
  not_here chain i next at h e t = at_name chain i next at h e ∙ ap (λ b. b || reaches held o name (drop (i + 1) chain) (held at next)) t

  pub no_further : (chain : List (List ℕ)) → reaches held o name chain None ≡ false
  no_further [] = refl
  no_further (next ∷ chain) = refl

  pub affected_behind : (ws : List Watched) (w : Watched) → affected held o name (ws ++ w ∷ []) ≡ fold with_pair (affected held o name ws) (map pair_of (filter (watches held o name) (w ∷ [])))
  affected_behind ws w =
      ap (λ l. fold with_pair [] (map pair_of l)) (filter-append (watches held o name) ws (w ∷ []))
      ∙ ap (fold with_pair []) (map-append pair_of (filter (watches held o name) ws) (filter (watches held o name) (w ∷ [])))
      ∙ fold-append with_pair [] (map pair_of (filter (watches held o name) ws)) (map pair_of (filter (watches held o name) (w ∷ [])))

  affected_last : (ws : List Watched) (i : ℕ) (w : Watched) → i < length ws → w ≡ get_or ws i w → affected held o name (take (i + 1) ws) ≡ fold with_pair (affected held o name (take i ws)) (map pair_of (if watches held o name w then w ∷ [] else []))
  affected_last ws i w h e = ap (affected held o name) (take_more ws i w h ∙ ap (λ x. take i ws ++ x ∷ []) (sym e)) ∙ affected_behind (take i ws) w

  pub affected_more : (ws : List Watched) (i : ℕ) (w : Watched) → i < length ws → w ≡ get_or ws i w → watches held o name w ≡ true → affected held o name (take (i + 1) ws) ≡ with_pair (affected held o name (take i ws)) (pair_of w)
  affected_more ws i w h e t = affected_last ws i w h e ∙ ap (λ b. fold with_pair (affected held o name (take i ws)) (map pair_of (if b then w ∷ [] else []))) t

  pub affected_same : (ws : List Watched) (i : ℕ) (w : Watched) → i < length ws → w ≡ get_or ws i w → watches held o name w ≡ false → affected held o name (take (i + 1) ws) ≡ affected held o name (take i ws)
  affected_same ws i w h e t = affected_last ws i w h e ∙ ap (λ b. fold with_pair (affected held o name (take i ws)) (map pair_of (if b then w ∷ [] else []))) t

pub changes_to : (f : List Watched → List Watched) (before : Option (List Watched)) (ws new : List Watched) → before ≡ Some ws → new ≡ f ws → Changes f before (Ok tt) (Some new)
changes_to f before ws new e k = subst (λ b. Changes f b (Ok tt) (Some new)) (sym e) (ap Some k)
