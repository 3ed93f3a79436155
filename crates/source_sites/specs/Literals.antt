-- What a text of code in quotation marks or apostrophes stands for.
use Rattle.std.specs.Prelude.{ℕ, zero, suc, ◌+◌, ◌*◌, List, [], ◌∷◌, ◌++◌, drop, ◌==◌, if◌then◌else◌, encode_utf8}
use Rattle.std.specs.Char.{digit_value}
use Rattle.source_sites.specs.Texts.{Text, cut_end}

-- where a byte of it stands
pub data Stand : Type 0 where
  Itself : Stand
  -- directly behind a `\`
  Behind_backslash : Stand
  -- a hexadecimal digit of a character's number, before so many others; the number that those before it give
  Digit : (others number : ℕ) → Stand

-- `\b`, `\t`, `\n`, `\f` and `\r`; `\` before another character is that character
abbrev pub escaped : ℕ → ℕ
escaped b =
    if b == 98 then 8
    else if b == 116 then 9
    else if b == 110 then 10
    else if b == 102 then 12
    else if b == 114 then 13
    else b

-- what letters stand for; `\x` and two digits, and `\u` and four, are the character of that number
abbrev pub letters_text : Stand → List ℕ → Text
letters_text stand [] = []
letters_text Itself (b ∷ bs) = if b == 92 then letters_text Behind_backslash bs else b ∷ letters_text Itself bs
letters_text Behind_backslash (b ∷ bs) =
    if b == 120 then letters_text (Digit 1 0) bs
    else if b == 117 then letters_text (Digit 3 0) bs
    else escaped b ∷ letters_text Itself bs
letters_text (Digit zero number) (b ∷ bs) = encode_utf8 (number * 16 + digit_value b) ++ letters_text Itself bs
letters_text (Digit (suc others) number) (b ∷ bs) = letters_text (Digit others (number * 16 + digit_value b)) bs

-- what a text stands for, as it is written with its marks
abbrev pub quoted_text : List ℕ → Text
quoted_text written = letters_text Itself (cut_end 1 (drop 1 written))
