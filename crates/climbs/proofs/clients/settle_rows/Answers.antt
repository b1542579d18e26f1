use Rattle.std.proofs.Common.{◌∙◌}
use Rattle.spv.specs.Values.{worked_out}
use Rattle.climbs.specs.LookUp.{looked_up}
use Rattle.climbs.proofs.WaitingLaws.{zeros-throughout, rows_climbed}
use Rattle.climbs.proofs.clients.settle_rows.Goals as goal

pub returns : goal.returns
returns c = c.want_rows.ensures ∙ rows_climbed (worked_out (looked_up c.args.s.now c.args.path.at c.args.t.now c.args.others.now)) c.args.path.layers c.args.starts.now c.fill.new.self c.args.hashes.now c.climb_both.new.states c.climb_both.new.hashes c.args.count _ c.requires.0 (zeros-throughout _ _ (c.fill.ensures.after (λ y e. e))) c.climb_both.ensures.0
