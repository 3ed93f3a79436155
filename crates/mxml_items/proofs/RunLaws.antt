-- Runs of bytes end in one way, and which bytes characters have.
use Rattle.std.proofs.Common.{◌≡◌, ◌≢◌, ℕ, ◌+◌, ◌<◌, ◌≤◌, ◌/◌, List, [], ◌∷◌, ◌++◌, Bool, true, false, cond, refl, ap, sym, ◌∙◌, true≢false, ltb, arith}
use Rattle.std.specs.Prelude.{◌&&◌}
use Rattle.std.specs.List.{list_all}
use lib.Utf8.{encode, encodes, next}
use Rattle.std.proofs.lemmas.List.Folds.{list_all-append}
use Rattle.mxml_items.specs.Runs.{StopsAt}

pub both : (x y : Bool) → (x && y) ≡ true → (x ≡ true) × (y ≡ true)
both true y e = (refl, e)
both false y e = absurd (true≢false (sym e))

pub and_true : (x y : Bool) → x ≡ true → y ≡ true → (x && y) ≡ true
and_true true y e f = f
and_true false y e f = absurd (true≢false (sym e))

abbrev pub tail : List ℕ → List ℕ
tail [] = []
tail (b ∷ bs) = bs

abbrev pub head : ℕ → List ℕ → ℕ
head none [] = none
head none (b ∷ bs) = b

-- what passes doesn't stop
pub passes_or_stops : (test : ℕ → Bool) (b c : ℕ) → b ≡ c → test b ≡ true → test c ≡ false → ⊥
passes_or_stops test b c same pass stops = true≢false (sym pass ∙ ap test same ∙ stops)

-- of one text two runs are the same
pub same_run : (test : ℕ → Bool) (front rest other others : List ℕ) → front ++ rest ≡ other ++ others →
    list_all test front ≡ true → list_all test other ≡ true → StopsAt test rest → StopsAt test others → (front ≡ other) × (rest ≡ others)
same_run test [] rest [] others same p q stops ends = (refl, same)
same_run test [] rest (c ∷ other) others same p q stops ends = go rest same stops
  where
    go : (rest : List ℕ) → rest ≡ c ∷ (other ++ others) → StopsAt test rest → ([] ≡ c ∷ other) × (rest ≡ others)
    go [] same stops = absurd ((cc))
    go (b ∷ rest) same stops = absurd (passes_or_stops test c b (sym (ap (head 0) same)) (both (test c) (list_all test other) q).0 stops)
same_run test (b ∷ front) rest [] others same p q stops ends = go others same ends
  where
    go : (others : List ℕ) → b ∷ (front ++ rest) ≡ others → StopsAt test others → (b ∷ front ≡ []) × (rest ≡ others)
    go [] same stops = absurd ((cc))
    go (c ∷ others) same stops = absurd (passes_or_stops test b c (ap (head 0) same) (both (test b) (list_all test front) p).0 stops)
same_run test (b ∷ front) rest (c ∷ other) others same p q stops ends =
    let (fronts, rests) = same_run test front rest other others (ap tail same) (both (test b) (list_all test front) p).1 (both (test c) (list_all test other) q).1 stops ends in
    (ap (λ x. x ∷ front) (ap (head 0) same) ∙ ap (λ x. c ∷ x) fronts, rests)

pub list_all_weaker : (test weaker : ℕ → Bool) → ((b : ℕ) → test b ≡ true → weaker b ≡ true) → (bytes : List ℕ) → list_all test bytes ≡ true → list_all weaker bytes ≡ true
list_all_weaker test weaker turn [] p = refl
list_all_weaker test weaker turn (b ∷ bytes) p =
    and_true (weaker b) (list_all weaker bytes) (turn b (both (test b) (list_all test bytes) p).0) (list_all_weaker test weaker turn bytes (both (test b) (list_all test bytes) p).1)

-- a test that all bytes from 128 on pass, and a character below 128
abbrev pub PassesHigh : (ℕ → Bool) → Type 0
PassesHigh test = (b : ℕ) → 128 ≤ b → test b ≡ true

-- the bytes of a character pass it
pub encode_passes : (test : ℕ → Bool) → PassesHigh test → (c : ℕ) → (c < 128 → test c ≡ true) → list_all test (encode c) ≡ true
unfolding encode
encode_passes test high c low = go (ltb c 128) refl (ltb c 2048) (ltb c 65536)
  where
    below : (c : ℕ) → ltb c 128 ≡ true → c < 128
    below c e = grind arith

    one : (b : ℕ) (others : List ℕ) → 128 ≤ b → list_all test others ≡ true → list_all test (b ∷ others) ≡ true
    one b others more pass = and_true (test b) (list_all test others) (high b more) pass

    go : (t : Bool) → ltb c 128 ≡ t → (u v : Bool) →
        list_all test (cond t (c ∷ []) (cond u ((192 + c / 64) ∷ next c ∷ []) (cond v ((224 + c / 4096) ∷ next (c / 64) ∷ next c ∷ []) ((240 + c / 262144) ∷ next (c / 4096) ∷ next (c / 64) ∷ next c ∷ [])))) ≡ true
    go true e u v = and_true (test c) true (low (below c e)) refl
    go false e true v = one (192 + c / 64) (next c ∷ []) (omega arith) (one (next c) [] (omega arith) refl)
    go false e false true = one (224 + c / 4096) (next (c / 64) ∷ next c ∷ []) (omega arith) (one (next (c / 64)) (next c ∷ []) (omega arith) (one (next c) [] (omega arith) refl))
    go false e false false =
        one (240 + c / 262144) (next (c / 4096) ∷ next (c / 64) ∷ next c ∷ []) (omega arith)
        (one (next (c / 4096)) (next (c / 64) ∷ next c ∷ []) (omega arith) (one (next (c / 64)) (next c ∷ []) (omega arith) (one (next c) [] (omega arith) refl)))

-- so do the bytes of characters that each pass another test
pub encodes_pass : (test chosen : ℕ → Bool) → PassesHigh test → ((c : ℕ) → chosen c ≡ true → c < 128 → test c ≡ true) → (cs : List ℕ) → list_all chosen cs ≡ true → list_all test (encodes cs) ≡ true
encodes_pass test chosen high low [] p = refl
encodes_pass test chosen high low (c ∷ cs) p =
    list_all-append test (encode c) (encodes cs)
    ∙ and_true (list_all test (encode c)) (list_all test (encodes cs)) (encode_passes test high c (low c (both (chosen c) (list_all chosen cs) p).0)) (encodes_pass test chosen high low cs (both (chosen c) (list_all chosen cs) p).1)
