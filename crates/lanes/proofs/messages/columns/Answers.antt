use Rattle.std.proofs.Common.{◌≡◌, length, refl, arith, length-set, rules}
use Rattle.lanes.specs.Lanes.{lanes, in_lane}
use Rattle.lanes.proofs.Turns.{column_on, columns-done}
use Rattle.lanes.proofs.messages.columns.Goals as goal

pub loop-t-init : goal.loop-t-init
unfolding lanes in_lane
loop-t-init c = (omega arith, refl, λ l. refl)

pub loop-t-preserved : goal.loop-t-preserved
loop-t-preserved c =
    let h1 : length c.args.a ≡ 16 = search rules in
    let h2 : length c.args.b ≡ 16 = search rules in
    let h3 : length c.args.c ≡ 16 = search rules in
    let h4 : length c.args.d ≡ 16 = search rules in
    (omega arith, simp length-set c.loop-t.invariant.1, λ i. column_on i c.loop-t.t c.args.a c.args.b c.args.c c.args.d c.loop-t.w (omega arith) h1 h2 h3 h4 (omega arith) (c.loop-t.invariant.2 i))

pub returns : goal.returns
returns c =
    let h1 : length c.args.a ≡ 16 = search rules in
    let h2 : length c.args.b ≡ 16 = search rules in
    let h3 : length c.args.c ≡ 16 = search rules in
    let h4 : length c.args.d ≡ 16 = search rules in
    λ i. columns-done i c.loop-t.t c.args.a c.args.b c.args.c c.args.d c.loop-t.w (omega arith) c.loop-t.invariant.1 h1 h2 h3 h4 (c.loop-t.invariant.2 i)
