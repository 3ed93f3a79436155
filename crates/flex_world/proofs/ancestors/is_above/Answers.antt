use Rattle.std.proofs.Common.{◌∙◌, ◌+◌, ◌-◌, ◌≡◌, ◌<◌, ap, arith, length, suc, sym, zero, ℕ}
use Rattle.flex_world.proofs.Upward.{is_above, one_up}
use Rattle.flex_world.proofs.ancestors.is_above.Goals as goal

one_less : (n : ℕ) → 0 < n → (n + 4) - 1 ≡ (n - 1) + 4
one_less n h = omega (arith, h)

some_left : (n : ℕ) → 0 < n + 4
some_left n = omega arith

pub loop-left-preserved : goal.loop-left-preserved
loop-left-preserved c =
    one_up c.args.bases.now c.args.wanted (is_above c.args.bases.now c.args.wanted (length c.args.bases.now + 4) c.args.from) (c.loop-left.left + 4)
    c.loop-left.level c.base_of-level.result c.in-Some.class c.loop-left.invariant c.in-Some.is (some_left c.loop-left.left)
    (sym c.is_same_class.ensures ∙ c.if-is_same_class.false) c.base_of-level.ensures
    ∙ ap (λ n. is_above c.args.bases.now c.args.wanted n c.base_of-level.result) (one_less c.loop-left.left c.loop-left-test.true)
