-- The file that is built of a document is played.
use Rattle.std.proofs.Common.{◌≡◌, ◌≢◌, ℕ, ◌+◌, ◌≤◌, List, length, refl, ap, ◌∙◌, arith}
use Rattle.std.specs.Prelude.{All}
use Rattle.std.specs.Str.{IsUtf8}
use Rattle.std.proofs.lemmas.List.Elements.{All-from_recursion}
use Rattle.swf_tags.specs.Spelling.{swf_bytes}
use Rattle.abc_writer.specs.Spelling.{abc_bytes}
use Rattle.abc_format.specs.declared.records.Abc.{Abc}
use Rattle.flex_front.specs.declared.document.Element.{Element}
use Rattle.flex_front.specs.Source.{IsShort}
use Rattle.flexc.specs.Emitted.{abc_of, main_text}
use Rattle.swf_tags.specs.File.{IsSwf, written_tags}
use Rattle.swf_tags.proofs.SwfLaws.{swf_is_written}
use Rattle.flexc.proofs.WrittenSize.{text-brief}
use Rattle.flexc.proofs.Written.{length-abc_bytes}

main_is_utf8 : IsUtf8 main_text
main_is_utf8 = (text-brief main_text refl (omega arith)).valid

main_has_no_zero : All (λ byte. byte ≢ 0) main_text
main_has_no_zero = All-from_recursion (λ byte. byte ≢ 0) main_text ((λ e. omega arith), ((λ e. omega arith), ((λ e. omega arith), ((λ e. omega arith), tt))))

-- the file of a document of not too many elements is a SWF file
pub built_is_swf : (es : List Element) → length es ≤ 100 → All IsShort es
    → IsSwf 10 (written_tags main_text (abc_bytes (abc_of es))) (abc_bytes (abc_of es)) main_text (swf_bytes main_text (abc_bytes (abc_of es)))
built_is_swf es few short =
    let size = length-abc_bytes es few short in
    swf_is_written main_text (abc_bytes (abc_of es)) main_has_no_zero main_is_utf8 (omega (arith, size))

-- the file is that of the document
pub built_from : (es : List Element) (abc : Abc) (main code swf : List ℕ) → swf ≡ swf_bytes main code → main ≡ main_text → code ≡ abc_bytes abc → abc ≡ abc_of es → swf ≡ swf_bytes main_text (abc_bytes (abc_of es))
built_from es abc main code swf is name bytes emitted =
    is ∙ ap (λ m. swf_bytes m code) name ∙ ap (swf_bytes main_text) (bytes ∙ ap abc_bytes emitted)

-- the file isn't too long
pub built_fits : (es : List Element) (abc : Abc) (main code : List ℕ) → length es ≤ 100 → All IsShort es → main ≡ main_text → code ≡ abc_bytes abc → abc ≡ abc_of es → length main + length code ≤ 2000000000
built_fits es abc main code few short name bytes emitted =
    let size = length-abc_bytes es few short in
    let four : length main ≡ 4 = ap length name in
    let all : length code ≡ length (abc_bytes (abc_of es)) = ap length (bytes ∙ ap abc_bytes emitted) in
    omega (arith, size, four, all)
