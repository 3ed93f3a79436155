-- Byte by byte.
use Rattle.std.proofs.Common.{◌∙◌, sym, refl}
use Rattle.document_texts.proofs.Pieces.{all_plain, binding_found, still_plain}
use Rattle.document_texts.proofs.bindings.is_binding.Goals as goal

pub returns-then-is_inside : goal.returns-then-is_inside
returns-then-is_inside c =
    binding_found c.args.text.now c.loop-byte.rest.now c.in-Some.others.now c.loop-byte.stand c.next_stand-stand.result c.in-Some.byte.now c.loop-byte.invariant.0 c.loop-byte.invariant.1
    c.in-Some.ensures.cases.0 c.next_stand-stand.ensures (sym c.is_inside.ensures ∙ c.if-is_inside.true)

pub loop-byte-preserved : goal.loop-byte-preserved
loop-byte-preserved c = (
  sym c.is_inside.ensures ∙ c.if-is_inside.false,
  still_plain c.args.text.now c.loop-byte.rest.now c.in-Some.others.now c.loop-byte.stand c.next_stand-stand.result c.in-Some.byte.now c.loop-byte.invariant.0 c.loop-byte.invariant.1
      c.in-Some.ensures.cases.0 c.next_stand-stand.ensures (sym c.is_inside.ensures ∙ c.if-is_inside.false),
)
