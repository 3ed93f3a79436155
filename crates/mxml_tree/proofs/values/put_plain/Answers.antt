use Rattle.std.proofs.Common.{◌≡◌, ◌≢◌, ◌⊎◌, ◌++◌, ◌+◌, drop, eqb, false, get_or, inl, inr, map, subst, sym, ◌∙◌}
use Rattle.mxml_items.specs.Pieces.{Written}
use Rattle.mxml_tree.proofs.Meanings.{meant, byte_is_put, byte_is_passed, all_are_put}
use Rattle.mxml_tree.proofs.values.put_plain.Goals as goal
use Rattle.mxml_tree.proofs.values.put_plain.Goals.{then-not-behind_return+in_ok-push, then-not-behind_return-via-then-not-behind_return, then-not-behind_return-via-else-not-behind_return+then-byte-ne10, else-not-behind_return+else-byte-ne10}

pub loop-byte-preserved : goal.loop-byte-preserved
loop-byte-preserved c =
    let spaces = c.args.spaces in
    let plain = c.args.plain.now in
    let i = c.loop-byte.byte-index in
    let whole = c.args.bytes.now ++ meant spaces false (map Written plain) in
    let put = byte_is_put spaces c.loop-byte.behind_return plain i c.loop-byte-test.true c.loop-byte.bytes whole c.loop-byte.invariant in
    let passed = byte_is_passed spaces c.loop-byte.behind_return plain i c.loop-byte-test.true c.loop-byte.bytes whole c.loop-byte.invariant in
    let others = meant spaces (eqb (get_or plain i 0) 13) (map Written (drop (i + 1) plain)) in
    elim c.if-not-behind_return.branch [
      | then-not-behind_return+in_ok-push w ↦
          let first : (c.loop-byte.behind_return ≡ false) ⊎ (get_or plain i 0 ≢ 10) =
          elim w.then-not-behind_return.branch [
            | then-not-behind_return-via-then-not-behind_return v ↦ inl v.if-not-behind_return.true
            | then-not-behind_return-via-else-not-behind_return+then-byte-ne10 v ↦ inr v.if-byte-ne10.true
          ] in
          subst (λ bytes. bytes ++ others ≡ whole) (sym (w.bytes-is ∙ w.in_ok-push.ensures.ok)) (put w.plain_byte.result w.plain_byte.ensures first)
      | else-not-behind_return+else-byte-ne10 w ↦ subst (λ bytes. bytes ++ others ≡ whole) (sym w.bytes-is) (passed w.if-not-behind_return.false w.if-byte-ne10.false)
    ]

pub returns : goal.returns
returns c = all_are_put c.args.spaces c.loop-byte.behind_return c.args.plain.now c.loop-byte.byte-index c.loop-byte.bytes c.args.bytes.now c.loop-byte-test.false c.loop-byte.invariant
