-- Three stages on, then the last rounds.
use Rattle.std.proofs.Common.{◌≡◌, length, refl, ◌∙◌, lit≤, rules}
use Rattle.hash.specs.Sha256.{K}
use Rattle.hash.proofs.Stages.{window, after_none, after_more, after-all}
use Rattle.hash.proofs.compress.compress.Goals as goal

pub returns : goal.returns
unfolding K window
returns c =
    let lm : length c.args.m ≡ 16 = search rules in
    let a0 = after_none c.args.s c.args.m (window K 0) c.stage_of-t.result lm refl c.stage_of-t.ensures in
    let a1 = after_more c.args.s c.args.m (window K 16) 0 c.stage_of-t.result c.next_stage-t.result lm (lit≤ tt) refl a0 c.next_stage-t.ensures in
    let a2 = after_more c.args.s c.args.m (window K 32) 16 c.next_stage-t.result c.next_stage-t-2.result lm (lit≤ tt) refl a1 c.next_stage-t-2.ensures in
    let a3 = after_more c.args.s c.args.m (window K 48) 32 c.next_stage-t-2.result c.next_stage-t-3.result lm (lit≤ tt) refl a2 c.next_stage-t-3.ensures in
    c.plus.ensures ∙ after-all c.args.s c.last_rounds.result c.args.m c.next_stage-t-3.result lm a3 c.last_rounds.ensures
