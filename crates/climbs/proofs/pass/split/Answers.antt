use Rattle.std.proofs.Common.{◌≡◌, sym, ◌∙◌, arith}
use Rattle.climbs.specs.Row.{Rows}
use Rattle.climbs.proofs.PassLaws.{under_none, under_more}
use Rattle.climbs.proofs.pass.split.Goals as goal

pub loop-m-init : goal.loop-m-init
loop-m-init c = (omega arith, c.requires.1, under_none _ _ _ _ _)

pub bounds-starts-row : goal.bounds-starts-row
unfolding Rows
bounds-starts-row c = c.requires.3 c.loop-m.m (omega arith)

pub returns-then-above-position : goal.returns-then-above-position
returns-then-above-position c = (c.loop-m.invariant.0, c.loop-m.invariant.1, c.loop-m.invariant.2, λ l e. c.if-above-position.true (c.above.ensures ∙ e))

pub loop-m-preserved : goal.loop-m-preserved
loop-m-preserved c = (omega arith, omega arith, under_more _ _ _ _ _ _ c.loop-m.invariant.2 (sym c.above.ensures ∙ c.if-above-position.false))

pub returns : goal.returns
returns c = let e : c.loop-m.m ≡ c.args.hi = omega arith in (c.requires.1, (omega arith), rw e at c.loop-m.invariant.2, λ l f. absurd (omega arith))
