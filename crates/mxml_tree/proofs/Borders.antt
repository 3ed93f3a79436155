-- Where UTF-8 may be cut: beside ASCII.
use Rattle.std.proofs.Common.{◌≡◌, ℕ, zero, suc, ◌+◌, ◌<◌, List, [], ◌∷◌, ◌++◌, length, get_or, drop, refl, ap, sym, ◌∙◌, subst, append_assoc, lit<, arith}
use Rattle.std.specs.Str.{IsUtf8}
use Rattle.std.proofs.Math.Seq.{drop-append_seam, take-append_seam}
use Rattle.std.proofs.lemmas.List.{length-append}
use Rattle.std.proofs.lemmas.Str.{IsUtf8-nil, IsUtf8-take, IsUtf8-drop, IsUtf8-from_ascii, IsCharBoundary-before_ascii, IsCharBoundary-after_ascii}

-- a text that is empty or begins with ASCII
abbrev pub BeginsAscii : List ℕ → Type 0
BeginsAscii [] = Unit {0}
BeginsAscii (b ∷ bytes) = b < 128

at_seam : (front : List ℕ) (b : ℕ) (rest : List ℕ) → get_or (front ++ (b ∷ rest)) (length front) 0 ≡ b
at_seam [] b rest = refl
at_seam (a ∷ front) b rest = at_seam front b rest

seam_is_within : (front : List ℕ) (b : ℕ) (rest : List ℕ) → length front < length (front ++ (b ∷ rest))
seam_is_within front b rest = (let long = length-append front (b ∷ rest) in omega (arith, long))

-- what stands before ASCII or the end
pub utf8_before : (front rest : List ℕ) → IsUtf8 (front ++ rest) → BeginsAscii rest → IsUtf8 front
utf8_before front [] text ascii = subst IsUtf8 (nothing_behind front) text
  where
    nothing_behind : (xs : List ℕ) → xs ++ [] ≡ xs
    nothing_behind [] = refl
    nothing_behind (x ∷ xs) = ap (λ t. x ∷ t) (nothing_behind xs)
utf8_before front (b ∷ rest) text ascii =
    subst IsUtf8 (take-append_seam front (b ∷ rest))
    (IsUtf8-take (front ++ (b ∷ rest)) (length front) text
    (IsCharBoundary-before_ascii (front ++ (b ∷ rest)) (length front) (seam_is_within front b rest) (subst (λ n. n < 128) (sym (at_seam front b rest)) ascii)))

-- what begins with ASCII
pub utf8_from : (front rest : List ℕ) → IsUtf8 (front ++ rest) → BeginsAscii rest → IsUtf8 rest
utf8_from front [] text ascii = IsUtf8-nil
utf8_from front (b ∷ rest) text ascii =
    subst IsUtf8 (drop-append_seam front (b ∷ rest))
    (IsUtf8-drop (front ++ (b ∷ rest)) (length front) text
    (IsCharBoundary-before_ascii (front ++ (b ∷ rest)) (length front) (seam_is_within front b rest) (subst (λ n. n < 128) (sym (at_seam front b rest)) ascii)))

-- what stands behind ASCII
pub utf8_behind : (front : List ℕ) (b : ℕ) (rest : List ℕ) → IsUtf8 (front ++ (b ∷ rest)) → b < 128 → IsUtf8 rest
utf8_behind front b rest text ascii =
    subst IsUtf8 behind
    (IsUtf8-drop (front ++ (b ∷ rest)) (length front + 1) text
    (IsCharBoundary-after_ascii (front ++ (b ∷ rest)) (length front) text (seam_is_within front b rest) (subst (λ n. n < 128) (sym (at_seam front b rest)) ascii)))
  where
    behind : drop (length front + 1) (front ++ (b ∷ rest)) ≡ rest
    behind =
        let long : length front + 1 ≡ length (front ++ (b ∷ [])) = (let e = length-append front (b ∷ []) in omega (arith, e)) in
        ap (λ n. drop n (front ++ (b ∷ rest))) long ∙ ap (drop (length (front ++ (b ∷ [])))) (sym (append_assoc front (b ∷ []) rest)) ∙ drop-append_seam (front ++ (b ∷ [])) rest

pub one_ascii : (b : ℕ) → b < 128 → IsUtf8 (b ∷ [])
one_ascii b ascii = IsUtf8-from_ascii (b ∷ []) (λ i. here i)
  where
    here : (i : ℕ) → get_or (b ∷ []) i 0 < 128
    here zero = ascii
    here (suc i) = lit< tt
