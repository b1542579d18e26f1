use Rattle.std.proofs.Common.{◌≡◌, ℕ, ◌^◌, ◌<◌, ◌≤◌, List, length, ◌∙◌, arith, rules}
use Rattle.hash.specs.Sha256.{MAX_INPUT}
use Rattle.lanes.specs.Lanes.{in_lane}
use Rattle.lanes.proofs.SideBySide.{lane-all}
use Rattle.lanes.proofs.Turns.{after_none, after_on}
use Rattle.lanes.proofs.messages.together.Goals as goal

pub loop-i-init : goal.loop-i-init
loop-i-init c = (omega arith, λ l. c.initial-h.ensures l ∙ after_none (in_lane l c.args.a.now c.args.b.now c.args.c.now c.args.d.now))

pub overflow_step-i : goal.overflow_step-i
overflow_step-i c =
    let h : c.args.common < 2 ^ 64 = search rules in
    omega arith

pub loop-i-preserved : goal.loop-i-preserved
loop-i-preserved c = (
  omega arith,
  λ l. c.kept_where_done-h.ensures l
      ∙ rw (c.count4-n.ensures l, c.compress4-new.ensures l, c.blocks-in-loop-i.ensures l, c.loop-i.invariant.1 l)
      (after_on (in_lane l c.args.a.now c.args.b.now c.args.c.now c.args.d.now) c.loop-i.i (lane-all (λ (m : List ℕ). length m ≤ MAX_INPUT) l c.requires.0 c.requires.1 c.requires.2 c.requires.3)),
)

pub returns : goal.returns
returns c =
    let e : c.loop-i.i ≡ c.args.common = omega arith in
    λ l. rw e at (c.loop-i.invariant.1 l)
