-- One item after another.
use Rattle.std.proofs.Common.{◌≡◌, ℕ, zero, suc, ◌<◌, List, [], ◌∷◌, ◌++◌, Ok, Err, refl, sym, ap, ◌∙◌, arith, append_assoc}
use Rattle.std.proofs.lemmas.List.{append-nil}
use Rattle.abc_format.specs.Fields.{Cursor, Fault, Reading, done, and_then, times}

-- the items so far, and those of a reading
abbrev pub after : {A : Type 0} → List A → Reading (List A) → Reading (List A)
after items (Err fault) = Err fault
after items (Ok read) = done (items ++ read.it) read.rest

pub times-refused : {A : Type 0} (read : Cursor → Reading A) (n : ℕ) (c : Cursor) (fault : Fault) → 0 < n → read c ≡ Err fault → times read n c ≡ Err fault
times-refused read zero c fault some e = absurd (omega arith)
times-refused read (suc n) c fault some e = ap (λ r. and_then r (λ item rest. and_then (times read n rest) (λ items more. done (item ∷ items) more))) e

pub times-end : {A : Type 0} (read : Cursor → Reading A) (n : ℕ) (c : Cursor) (items : List A) → n ≡ 0 → after items (times read n c) ≡ done items c
times-end read n c items e = ap (λ k. after items (times read k c)) e ∙ ap (λ l. done l c) (append-nil items)

after-one : {A : Type 0} (items : List A) (item : A) (reading : Reading (List A))
    → after items (and_then reading (λ others more. done (item ∷ others) more)) ≡ after (items ++ item ∷ []) reading
after-one items item (Err fault) = refl
after-one items item (Ok reading) = ap (λ l. done l reading.rest) (sym (append_assoc items (item ∷ []) reading.it))

pub times-more : {A : Type 0} (read : Cursor → Reading A) (n k : ℕ) (c rest : Cursor) (items : List A) (item : A) → n ≡ suc k → read c ≡ done item rest
    → after (items ++ item ∷ []) (times read k rest) ≡ after items (times read n c)
times-more read n k c rest items item count e =
    sym (ap (λ j. after items (times read j c)) count
    ∙ ap (λ r. after items (and_then r (λ it more. and_then (times read k more) (λ others last. done (it ∷ others) last)))) e
    ∙ after-one items item (times read k rest))

pub ruleset times_read = (times-refused, times-end, times-more)
