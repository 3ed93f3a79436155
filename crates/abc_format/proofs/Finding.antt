-- What is read of bytes stands there.
use Rattle.std.proofs.Common.{◌≡◌, ℕ, ◌<◌, List, ◌++◌, length, take, drop, Ok, Err, refl, sym, ap, subst, ◌∙◌, append_assoc}
use Rattle.std.proofs.lemmas.List.Elements.{All-take, All-drop}
use Rattle.std.proofs.Math.Seq.{take-append_seam, drop-append_seam}
use Rattle.flex_base.specs.Split.{Split}
use Rattle.abc_format.specs.Fields.{Cursor, Read, Reading, done, and_then}
use Rattle.abc_format.specs.Indexes.{AreBytes}

-- a part stands between two cursors
pub record Part (P : List ℕ → Type 0) (c r : Cursor) : Type 0 where
  pub front : List ℕ
  pub is : c.rest ≡ front ++ r.rest
  pub holds : P front

-- what was read first, and what then
pub record Then {A B : Type 0} (reading : Reading A) (next : A → Cursor → Reading B) (x : B) (r : Cursor) : Type 0 where
  pub it : A
  pub rest : Cursor
  pub first : reading ≡ done it rest
  pub last : next it rest ≡ done x r

pub then-of : {A B : Type 0} (reading : Reading A) (next : A → Cursor → Reading B) (x : B) (r : Cursor) → and_then reading next ≡ done x r → Then reading next x r
then-of (Err fault) next x r e = cc
then-of (Ok read) next x r e = record { it = read.it; rest = read.rest; first = refl; last = e }

-- what is read stands there, by a rule for it
pub record Found {A : Type 0} (P : A → List ℕ → Type 0) (Q : A → Type 0) (c : Cursor) (x : A) (r : Cursor) : Type 0 where
  pub part : Part (P x) c r
  pub indexes : Q x

abbrev pub Finds : {A : Type 0} → (A → List ℕ → Type 0) → (A → Type 0) → (Cursor → Reading A) → Type 0
Finds {A} P Q read = (c : Cursor) → AreBytes c.rest → (x : A) (r : Cursor) → read c ≡ done x r → Found P Q c x r

-- bytes are left of bytes
pub small : {P : List ℕ → Type 0} {c r : Cursor} → Part P c r → AreBytes c.rest → AreBytes r.rest
small {P} {c} {r} part are =
    let behind : drop (length part.front) c.rest ≡ r.rest = ap (drop (length part.front)) part.is ∙ drop-append_seam part.front r.rest in
    subst AreBytes behind (All-drop (λ byte. byte < 256) (length part.front) c.rest are)

pub small_front : {P : List ℕ → Type 0} {c r : Cursor} (part : Part P c r) → AreBytes c.rest → AreBytes part.front
small_front {P} {c} {r} part are =
    let front : take (length part.front) c.rest ≡ part.front = ap (take (length part.front)) part.is ∙ take-append_seam part.front r.rest in
    subst AreBytes front (All-take (λ byte. byte < 256) (length part.front) c.rest are)

-- a part, and one behind it
pub both : {P Q : List ℕ → Type 0} {c m r : Cursor} → Part P c m → Part Q m r → Part (Split P Q) c r
both {P} {Q} {c} {m} {r} one other = record {
  front = one.front ++ other.front;
  is = one.is ∙ ap (λ l. one.front ++ l) other.is ∙ sym (append_assoc one.front other.front r.rest);
  holds = record { front = one.front; back = other.front; is = refl; first = one.holds; second = other.holds };
}

abbrev pub reading_of : {A : Type 0} → Read A → Reading A
reading_of read = Ok read

pub read_is : {A : Type 0} (a b : Read A) → reading_of a ≡ reading_of b → a ≡ b
read_is a b e = cc

-- the end of a reading
pub found : {A : Type 0} (P : A → List ℕ → Type 0) (Q : A → Type 0) {c m r : Cursor} {y x : A} → done y m ≡ done x r → Part (P y) c m → Q y → Found P Q c x r
found {A} P Q {c} {m} {r} {y} {x} e part indexes =
    subst (λ (read : Read A). Found P Q c read.it read.rest) (read_is (record { it = y; rest = m }) (record { it = x; rest = r }) e) (record { part = part; indexes = indexes })
