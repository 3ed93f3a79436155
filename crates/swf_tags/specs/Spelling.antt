-- The bytes of the SWF file of a program, in the writer's spelling.
use Rattle.std.specs.Prelude.{ℕ, ◌+◌, ◌*◌, List, [], ◌∷◌, ◌++◌, length, if◌then◌else◌, nat_lt, codes}
use Rattle.byteorder.specs.Endian.{little_bytes}

-- the codes of the tags
abbrev pub end_tag : ℕ
end_tag = 0

abbrev pub show_frame : ℕ
show_frame = 1

abbrev pub set_background_color : ℕ
set_background_color = 9

abbrev pub file_attributes : ℕ
file_attributes = 69

abbrev pub symbol_class : ℕ
symbol_class = 76

abbrev pub do_abc : ℕ
do_abc = 82

-- a tag's header with the length behind it
abbrev pub long_header : ℕ → ℕ → List ℕ
long_header code length = little_bytes 2 (64 * code + 63) ++ little_bytes 4 length

-- a tag's header, which has its length within it where that is below 63
abbrev pub header : ℕ → ℕ → List ℕ
header code length = if nat_lt length 63 then little_bytes 2 (64 * code + length) else long_header code length

-- a tag
abbrev pub tag : ℕ → List ℕ → List ℕ
tag code body = header code (length body) ++ body

-- a name and its end
abbrev pub zero_ended : List ℕ → List ℕ
zero_ended name = name ++ 0 ∷ []

-- the rectangle of 10,000 by 7,500 twips in 15 bits a side, 24 frames a second, and one frame
abbrev pub frame_header : List ℕ
frame_header = 0x78 ∷ 0x00 ∷ 0x04 ∷ 0xE2 ∷ 0x00 ∷ 0x00 ∷ 0x0E ∷ 0xA6 ∷ 0x00 ∷ 0x00 ∷ 0x18 ∷ 0x01 ∷ 0x00 ∷ []

-- the flags, the name `flexc`, and the ABC
abbrev pub abc_body : List ℕ → List ℕ
abc_body abc = little_bytes 4 0 ++ zero_ended (codes "flexc") ++ abc

-- one pair: the number 0 and the name of the main class
abbrev pub symbol_body : List ℕ → List ℕ
symbol_body main = little_bytes 2 1 ++ little_bytes 2 0 ++ zero_ended main

-- always with the long header; the flags and the name take ten bytes
abbrev pub do_abc_tag : List ℕ → List ℕ
do_abc_tag abc = long_header do_abc (10 + length abc) ++ abc_body abc

-- all tags in order
abbrev pub tags : List ℕ → List ℕ → List ℕ
tags main abc =
    tag file_attributes (0x08 ∷ 0x00 ∷ 0x00 ∷ 0x00 ∷ []) ++ tag set_background_color (0xFF ∷ 0xFF ∷ 0xFF ∷ []) ++ do_abc_tag abc
    ++ tag symbol_class (symbol_body main) ++ tag show_frame [] ++ tag end_tag []

-- what follows the length
abbrev pub content : List ℕ → List ℕ → List ℕ
content main abc = frame_header ++ tags main abc

-- `FWS`, version 10, the length of the whole file, and the content
abbrev pub swf_bytes : List ℕ → List ℕ → List ℕ
swf_bytes main abc = codes "FWS" ++ 10 ∷ [] ++ little_bytes 4 (8 + length (content main abc)) ++ content main abc
