-- What a file that is played says is determined by its bytes.
use Rattle.flex_base.proofs.ResultLaws.{ok_is}
use Rattle.std.proofs.Common.{◌≡◌, ℕ, List, Ok, sym, ap, ◌∙◌, subst}
use Rattle.flex_base.specs.declared.event.UserEvent.{UserEvent}
use Rattle.abc_format.specs.Reading.{read_abc}
use Rattle.script_player.specs.Playable.{IsPlayable}
use Rattle.script_player.specs.Playing.{boot, ComesTo, HasTrace}
use Rattle.swf_tags.specs.Reading.{read_swf}
use Rattle.swf_tags.specs.declared.types.Swf.{Swf}
use Rattle.swf_tags.proofs.SwfLaws.{swf_is_read}
use Rattle.flex_base.specs.Story.{Story}
use Rattle.abc_format.proofs.AbcLaws.{abc_is_read}
use Rattle.script_player.proofs.EndLaws.{one_story}

-- what a file that is played says
abbrev pub saying : (swf : List ℕ) → IsPlayable swf → Swf
saying swf f = record { version = f.version; tags = f.tags; abc = f.code; main = f.main }

-- a file that is played is read, and so is its program
pub file_is_read : (swf : List ℕ) (f : IsPlayable swf) → read_swf swf ≡ Ok (saying swf f)
file_is_read swf f = swf_is_read swf (saying swf f) f.file

pub program_is_read : (swf : List ℕ) (f : IsPlayable swf) → read_abc f.code ≡ Ok f.abc
program_is_read swf f = abc_is_read f.abc f.code f.program

-- two readings of a file say the same
same_saying : (swf : List ℕ) (f g : IsPlayable swf) → saying swf f ≡ saying swf g
same_saying swf f g = ok_is (read_swf swf) _ _ (file_is_read swf f) (file_is_read swf g)

pub same_main : (swf : List ℕ) (f g : IsPlayable swf) → f.main ≡ g.main
same_main swf f g = ap (λ (s : Swf). s.main) (same_saying swf f g)

pub same_abc : (swf : List ℕ) (f g : IsPlayable swf) → f.abc ≡ g.abc
same_abc swf f g =
    let code : f.code ≡ g.code = ap (λ (s : Swf). s.abc) (same_saying swf f g) in
    ok_is (read_abc g.code) _ _ (sym (ap read_abc code) ∙ program_is_read swf f) (program_is_read swf g)

-- what one reading of the file comes to, any other comes to
pub comes_alike : (swf : List ℕ) (events : List UserEvent) (turns : ℕ) (story : Story) (f g : IsPlayable swf)
    → ComesTo f.abc f.main events (boot f.abc turns) story → ComesTo g.abc g.main events (boot g.abc turns) story
comes_alike swf events turns story f g c =
    subst (λ a. ComesTo a g.main events (boot a turns) story) (same_abc swf f g) (subst (λ m. ComesTo f.abc m events (boot f.abc turns) story) (same_main swf f g) c)

-- the bytes have one trace
pub one_trace : (swf : List ℕ) (events : List UserEvent) (turns : ℕ) (a b : Story) → HasTrace swf events turns a → HasTrace swf events turns b → a ≡ b
one_trace swf events turns a b s t =
    one_story t.file.abc t.file.main events (boot t.file.abc turns) a b (comes_alike swf events turns a s.file t.file s.comes) t.comes
