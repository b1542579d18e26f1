use Rattle.std.proofs.Common.{subst, arith}
use Rattle.spv.specs.Climb.{Siblings}
use Rattle.spv.specs.Values.{worked_out}
use Rattle.climbs.specs.Spent.{Settled}
use Rattle.climbs.specs.Together.{Climbed}
use Rattle.climbs.proofs.LookUpLaws.{one_path}
use Rattle.climbs.proofs.all.climb_rows.Goals as goal

pub returns : goal.returns
returns c =
    subst
    (λ (w : Siblings). Climbed (worked_out w) c.args.layers c.args.starts.now c.args.states.now c.args.hashes.now c.climb_both.new.states c.climb_both.new.hashes × Settled w c.args.layers c.args.starts.now c.args.states.now c.args.hashes.now c.args.costs.now c.climb_both.new.costs)
    (one_path c.args.s.now c.args.places.now c.args.s.now _ (omega arith)) c.climb_both.ensures
