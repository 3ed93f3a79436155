-- The pairs of a map that links them in order.
use Rattle.std.proofs.Common.{List, [], ◌∷◌, ◌++◌, ◌-◌, ◌≤◌, ◌≡◌, ◌∙◌, Bool, true, false, refl, ap, sym, subst, suc, arith, length, cond, take}
use Rattle.std.proofs.lemmas.Bool.Decides.{nat_tests}
use Rattle.std.proofs.lemmas.List.{take_all}
use Rattle.std.proofs.lemmas.Map.Keys.{IsDistinct-head, IsDistinct-tail}
use Rattle.std.specs.List.{AllByRecursion, IsDistinct, filter, list_any}
use Rattle.std.specs.Map.{keys_of, lookup, lookup_entry, remove_entry}
use Rattle.std.specs.Option.{option_map_or}
use Rattle.std.specs.Prelude.{None, Some, is_some, nat_lt, not, ◌||◌}
use Rattle.lru.specs.LruCache.{LruCache, demoted, put_entries}
use Rattle.event_flow.specs.Registered.{same_key}
use Rattle.event_flow.specs.declared.registrations.Key.{Key}

module _ {K V : Type 0} (test : K → Bool) where
  abbrev pub passes : K × V → Bool
  passes e = test e.0

  pub found : (es : List (K × V)) → is_some (lookup test es) ≡ list_any passes es
  found [] = refl
  found (e ∷ es) = by (found es) (test e.0)
    where
      by : is_some (lookup test es) ≡ list_any passes es → (b : Bool) → is_some (cond b (Some e.1) (lookup test es)) ≡ (b || list_any passes es)
      by rest true = refl
      by rest false = rest

  none_found : (es : List (K × V)) → list_any passes es ≡ false → lookup_entry test es ≡ None
  none_found [] none = refl
  none_found (e ∷ es) none = by (none_found es) (test e.0) none
    where
      by : (list_any passes es ≡ false → lookup_entry test es ≡ None) → (b : Bool) → (b || list_any passes es) ≡ false → cond b (Some e) (lookup_entry test es) ≡ None
      by rest true none = absurd (cc)
      by rest false none = rest none

  pub fewer : (es : List (K × V)) → nat_lt (length (remove_entry test es)) (length es) ≡ list_any passes es
  fewer [] = refl
  fewer (e ∷ es) = by (fewer es) (test e.0)
    where
      by : nat_lt (length (remove_entry test es)) (length es) ≡ list_any passes es
          → (b : Bool) → nat_lt (length (cond b es (e ∷ remove_entry test es))) (suc (length es)) ≡ (b || list_any passes es)
      by rest true = grind (arith, nat_tests)
      by rest false =
          let t : nat_lt (suc (length (remove_entry test es))) (suc (length es)) ≡ nat_lt (length (remove_entry test es)) (length es) = grind (arith, nat_tests) in
          t ∙ rest

  none_left_out : (es : List (K × V)) → AllByRecursion (λ e. test e ≡ false) (keys_of es) → filter (λ e. not (test e.0)) es ≡ es
  none_left_out [] none = refl
  none_left_out (e ∷ es) none = ap (λ b. cond (not b) (e ∷ filter (λ e. not (test e.0)) es) (filter (λ e. not (test e.0)) es)) none.0 ∙ ap (λ l. e ∷ l) (none_left_out es none.1)

-- where keys that pass are the same, none passes beside the first
module _ {K V : Type 0} (eq : K → K → Bool) (same : (k l : K) → eq k l ≡ true → k ≡ l) (k : K) where
  pub left_out : (es : List (K × V)) → IsDistinct eq (keys_of es) → remove_entry (eq k) es ≡ filter (λ e. not (eq k e.0)) es
  left_out [] distinct = refl
  left_out (e ∷ es) distinct = by (left_out es (IsDistinct-tail eq e.0 (keys_of es) distinct)) (eq k e.0) refl
    where
      by : remove_entry (eq k) es ≡ filter (λ e. not (eq k e.0)) es
          → (b : Bool) → eq k e.0 ≡ b → cond b es (e ∷ remove_entry (eq k) es) ≡ cond (not b) (e ∷ filter (λ e. not (eq k e.0)) es) (filter (λ e. not (eq k e.0)) es)
      by rest true is =
          let apart = IsDistinct-head eq e.0 (keys_of es) distinct in
          sym (none_left_out (eq k) es (subst (λ l. AllByRecursion (λ y. eq l y ≡ false) (keys_of es)) (sym (same k e.0 is)) apart))
      by rest false is = ap (λ l. e ∷ l) rest

module _ {K V : Type 0} (eq : K → K → Bool) (c : LruCache K V) (k : K) (v : V) where
  pub pushed : eq k k ≡ true → list_any (passes (eq k)) c.entries ≡ false → length c.entries ≤ c.cap - 1 → demoted (eq k) (put_entries eq c k v) ≡ c.entries ++ (k, v) ∷ []
  pushed itself none fits =
      let put : put_entries eq c k v ≡ (k, v) ∷ c.entries =
      ap (λ o. option_map_or (λ e. (e.0, v) ∷ remove_entry (eq k) c.entries) o ((k, v) ∷ take (c.cap - 1) c.entries)) (none_found (eq k) c.entries none)
      ∙ ap (λ l. (k, v) ∷ l) (take_all (c.cap - 1) c.entries fits) in
      let moved : demoted (eq k) ((k, v) ∷ c.entries) ≡ c.entries ++ (k, v) ∷ [] =
      ap (λ b. option_map_or (λ e. cond b c.entries ((k, v) ∷ remove_entry (eq k) c.entries) ++ e ∷ []) (cond b (Some (k, v)) (lookup_entry (eq k) c.entries)) ((k, v) ∷ c.entries)) itself in
      ap (demoted (eq k)) put ∙ moved

pub same_itself : (k : Key) → same_key k k ≡ true
same_itself k = grind (arith, nat_tests)

pub keys_same : (k l : Key) → same_key k l ≡ true → k ≡ l
keys_same k l is = grind (arith, nat_tests)
