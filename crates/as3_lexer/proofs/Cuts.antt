-- A text is cut behind a front of some form.
use Rattle.std.proofs.Common.{◌≡◌, ℕ, suc, ◌+◌, ◌<◌, ◌≤◌, List, [], ◌∷◌, ◌++◌, length, take, drop, get_or, Option, Some, None, Bool, true, false, cond, refl, sym, subst, arith, length-append}
use Rattle.std.specs.Prelude.{◌&&◌, IsUtf8}
use Rattle.std.specs.List.{list_all, prefix_len}
use Rattle.std.proofs.lemmas.List.{take-append-drop, length-take-le}
use Rattle.std.proofs.lemmas.List.Sums.{prefix_len-le-length}
use Rattle.std.proofs.lemmas.Str.{IsUtf8-drop, IsCharBoundary-after_ascii}
use Rattle.as3_lexer.specs.Forms.{AreSome}

-- the text is a front of a form, with so many bytes, and what stands behind it
pub record Cut (P : List ℕ → Type 0) (len : ℕ) (text : List ℕ) : Type 0 where
  pub front : List ℕ
  pub back : List ℕ
  pub is : text ≡ front ++ back
  pub long : length front ≡ len
  pub form : P front
  pub utf8 : IsUtf8 text → IsUtf8 back

abbrev pub IfCut : (List ℕ → Type 0) → Option ℕ → List ℕ → Type 0
IfCut P None text = Unit {0}
IfCut P (Some len) text = Cut P len text

-- a length is there, and is no less
abbrev pub AtLeast : ℕ → Option ℕ → Type 0
AtLeast least None = ⊥
AtLeast least (Some len) = least ≤ len

pub and_left : (a b : Bool) → (a && b) ≡ true → a ≡ true
and_left true b is = refl
and_left false b is = is

pub and_right : (a b : Bool) → (a && b) ≡ true → b ≡ true
and_right true b is = is
and_right false b is = cc

pub and_both : (a b : Bool) → a ≡ true → b ≡ true → (a && b) ≡ true
and_both a b one two = rw (one, two) refl

-- of two fronts of a text the longer begins with the other
pub longer_front : (short long rest more : List ℕ) → short ++ rest ≡ long ++ more → length short ≤ length long → (back : List ℕ) × (long ≡ short ++ back)
longer_front [] long rest more same less = (long, refl)
longer_front (b ∷ short) [] rest more same less = absurd (omega arith)
longer_front (b ∷ short) (c ∷ long) rest more same less =
    let tails : short ++ rest ≡ long ++ more = cc in
    let (back, is) = longer_front short long rest more tails (omega (arith, less)) in
    let heads : b ≡ c = cc in
    (back, cc)

-- two fronts of a text with as many bytes are one
pub same_front : (one other rest more : List ℕ) → one ++ rest ≡ other ++ more → length one ≡ length other → (one ≡ other) × (rest ≡ more)
same_front [] [] rest more same long = (refl, same)
same_front [] (c ∷ other) rest more same long = absurd (omega arith)
same_front (b ∷ one) [] rest more same long = absurd (omega arith)
same_front (b ∷ one) (c ∷ other) rest more same long =
    let tails : one ++ rest ≡ other ++ more = cc in
    let (fronts, backs) = same_front one other rest more tails (omega (arith, long)) in
    let heads : b ≡ c = cc in
    (cc, backs)

-- the bytes at the front that pass a test
pub run_at_least : (test : ℕ → Bool) (front back : List ℕ) → list_all test front ≡ true → length front ≤ prefix_len test (front ++ back)
run_at_least test [] back pass = omega arith
run_at_least test (byte ∷ front) back pass =
    let here = and_left (test byte) (list_all test front) pass in
    let more = run_at_least test front back (and_right (test byte) (list_all test front) pass) in
    rw here (omega (arith, more))

pub run_passes : (test : ℕ → Bool) (text : List ℕ) → list_all test (take (prefix_len test text) text) ≡ true
run_passes test [] = refl
run_passes test (byte ∷ text) = go (test byte) refl (run_passes test text)
  where
    go : (t : Bool) → test byte ≡ t → list_all test (take (prefix_len test text) text) ≡ true → list_all test (take (cond t (1 + prefix_len test text) 0) (byte ∷ text)) ≡ true
    go true here others = let one : 1 + prefix_len test text ≡ suc (prefix_len test text) = omega arith in rw one (rw (here, others) refl)
    go false here others = refl

-- behind an ASCII byte
pub behind_ascii : (front back : List ℕ) (byte : ℕ) → byte < 128 → IsUtf8 (front ++ byte ∷ back) → IsUtf8 back
behind_ascii front back byte small utf8 =
    let at : get_or (front ++ byte ∷ back) (length front) 0 ≡ byte = at_seam front in
    let place : length front < length (front ++ byte ∷ back) = omega (arith, length-append front (byte ∷ back)) in
    let rest : drop (length front + 1) (front ++ byte ∷ back) ≡ back = past_seam front in
    subst IsUtf8 rest (IsUtf8-drop (front ++ byte ∷ back) (length front + 1) utf8 (IsCharBoundary-after_ascii (front ++ byte ∷ back) (length front) utf8 place (rw at small)))
  where
    at_seam : (some : List ℕ) → get_or (some ++ byte ∷ back) (length some) 0 ≡ byte
    at_seam [] = refl
    at_seam (b ∷ some) = at_seam some

    past_seam : (some : List ℕ) → drop (length some + 1) (some ++ byte ∷ back) ≡ back
    past_seam some = let one : length some + 1 ≡ suc (length some) = omega arith in rw one (past some)
      where
        past : (some : List ℕ) → drop (suc (length some)) (some ++ byte ∷ back) ≡ back
        past [] = refl
        past (b ∷ some) = past some

-- one or more bytes that are ASCII
pub behind_all_ascii : (test : ℕ → Bool) → ((byte : ℕ) → test byte ≡ true → byte < 128) → (front back : List ℕ) → list_all test front ≡ true → IsUtf8 (front ++ back) → IsUtf8 back
behind_all_ascii test small [] back pass utf8 = utf8
behind_all_ascii test small (byte ∷ front) back pass utf8 =
    behind_all_ascii test small front back (and_right (test byte) (list_all test front) pass)
    (behind_ascii [] (front ++ back) byte (small byte (and_left (test byte) (list_all test front) pass)) utf8)

-- a text is cut behind a run of bytes that pass a test
pub run_cut : (test : ℕ → Bool) → ((byte : ℕ) → test byte ≡ true → byte < 128) → (text : List ℕ) → 1 ≤ prefix_len test text → Cut (AreSome test) (prefix_len test text) text
run_cut test small text some =
    let long : length (take (prefix_len test text) text) ≡ prefix_len test text = length-take-le (prefix_len test text) text (prefix_len-le-length test text) in
    let whole : text ≡ take (prefix_len test text) text ++ drop (prefix_len test text) text = sym (take-append-drop (prefix_len test text) text) in
    record {
      front = take (prefix_len test text) text;
      back = drop (prefix_len test text) text;
      is = whole;
      long = long;
      form = record { some = omega (arith, long, some); pass = run_passes test text };
      utf8 = λ utf8. behind_all_ascii test small (take (prefix_len test text) text) (drop (prefix_len test text) text) (run_passes test text) (subst IsUtf8 whole utf8);
    }
