-- What a native call gives, and what it comes to besides.
use Rattle.std.specs.Prelude.{Bool, None, Option, Some}
use Rattle.flex_base.specs.declared.value.Value.{Value}
use Rattle.flex_base.specs.declared.value.Value.TheVariants as value
use Rattle.avm2_meaning.specs.Effects.{Acted, acted, answered, silent}
use Rattle.avm2_meaning.specs.declared.effect.Effect.{Effect}
use Rattle.avm2_meaning.specs.declared.effect.Next.{Next}
use Rattle.avm2_meaning.specs.declared.effect.Next.TheVariants as Next
use Rattle.avm2_meaning.specs.declared.reply.Reply.{Reply}
use Rattle.avm2_meaning.specs.Frames.{keeps}
use Rattle.avm2_meaning.specs.declared.work.Work.{Work}
use Rattle.avm2_meaning.specs.declared.heap.Heap.{Heap}
use Rattle.avm2_meaning.specs.declared.operand.Operand.TheVariants.{Plain}
use Rattle.avm2_meaning.specs.Results.{Goes, Result}

-- a value, and what the call comes to besides
abbrev pub with_value : Value → Effect → Reply
with_value v e = record { value = Some v; effect = e }

abbrev pub reply : Value → Effect → Heap → Result Reply
reply v e h = Goes (with_value v e) h

abbrev pub gives : Value → Heap → Result Reply
gives v h = reply v (silent Next.On) h

abbrev pub gives_nothing : Heap → Result Reply
gives_nothing h = gives value.Undefined h

abbrev pub with_reply : Bool → Option Value → Work → Work
with_reply keeps None w = w
with_reply keeps (Some v) w = answered keeps (Plain v) w

-- the code that called goes on with what it gives
abbrev pub finish : Bool → Work → Reply → Acted Work
finish keeps w r = acted r.effect (with_reply keeps r.value w)
