-- Bytes are UTF-8, or stop being it at a place.
use Rattle.std.proofs.Common.{◌≡◌, ◌⊎◌, ℕ, zero, suc, ◌<◌, ◌≤◌, Bool, true, false, List, [], length, take, IsUtf8, inl, inr, refl, sym, ◌∙◌, subst, true≢false, take_all, arith}
use Rattle.std.proofs.lemmas.Bool.{cases_lt}
use Rattle.std.proofs.lemmas.Str.{IsUtf8-from_is_utf8, is_utf8-from_IsUtf8}
use Rattle.std.specs.Str.{IsValidUpTo, is_utf8}

-- the longest front of at most a length that is UTF-8
record LongestUpTo (bytes : List ℕ) (most : ℕ) : Type 0 where
  size : ℕ
  within : size ≤ most
  front : IsUtf8 (take size bytes)
  longest : (m : ℕ) → size < m → m ≤ most → ¬ (IsUtf8 (take m bytes))

longest_up_to : (bytes : List ℕ) (most : ℕ) → LongestUpTo bytes most
longest_up_to bytes zero = record { size = 0; within = omega arith; front = nothing bytes; longest = λ m above within utf8. absurd (omega (arith, above, within)) }
  where
    nothing : (bytes : List ℕ) → IsUtf8 (take 0 bytes)
    nothing bytes = ([], (refl, refl))
longest_up_to bytes (suc most) = by (is_utf8 (take (suc most) bytes)) refl (longest_up_to bytes most)
  where
    by : (t : Bool) → is_utf8 (take (suc most) bytes) ≡ t → LongestUpTo bytes most → LongestUpTo bytes (suc most)
    by true is shorter =
        record { size = suc most; within = omega arith; front = IsUtf8-from_is_utf8 (take (suc most) bytes) is; longest = λ m above within utf8. absurd (omega (arith, above, within)) }
    by false is shorter =
        record {
          size = shorter.size;
          within = (let less = shorter.within in omega (arith, less));
          front = shorter.front;
          longest = λ m above within utf8. last m above within utf8 (cases_lt most m);
        }
      where
        last : (m : ℕ) → shorter.size < m → m ≤ suc most → IsUtf8 (take m bytes) → (most < m) ⊎ (m ≤ most) → ⊥
        last m above within utf8 (inl more) =
            let same : m ≡ suc most = omega (arith, more, within) in
            true≢false (sym (is_utf8-from_IsUtf8 (take (suc most) bytes) (subst (λ n. IsUtf8 (take n bytes)) same utf8)) ∙ is)
        last m above within utf8 (inr less) = shorter.longest m above less utf8

pub utf8_or_not : (bytes : List ℕ) → IsUtf8 bytes ⊎ ((n : ℕ) × IsValidUpTo bytes n)
utf8_or_not bytes = by (longest_up_to bytes (length bytes))
  where
    whole : (m : ℕ) → length bytes ≤ m → take m bytes ≡ bytes
    whole m more = take_all m bytes more

    by : LongestUpTo bytes (length bytes) → IsUtf8 bytes ⊎ ((n : ℕ) × IsValidUpTo bytes n)
    by l = go (cases_lt l.size (length bytes))
      where
        past : (m : ℕ) → l.size < length bytes → l.size < m → IsUtf8 (take m bytes) → (length bytes < m) ⊎ (m ≤ length bytes) → ⊥
        past m short above utf8 (inl more) =
            l.longest (length bytes) short (omega arith) (subst IsUtf8 (whole m (omega (arith, more)) ∙ sym (whole (length bytes) (omega arith))) utf8)
        past m short above utf8 (inr less) = l.longest m above less utf8

        go : (l.size < length bytes) ⊎ (length bytes ≤ l.size) → IsUtf8 bytes ⊎ ((n : ℕ) × IsValidUpTo bytes n)
        go (inl short) = inr (l.size, record { short = short; front = l.front; longest = λ m above utf8. past m short above utf8 (cases_lt (length bytes) m) })
        go (inr more) = inl (subst IsUtf8 (whole l.size more) l.front)
