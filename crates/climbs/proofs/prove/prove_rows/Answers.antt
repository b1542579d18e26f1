use Rattle.std.proofs.Common.{length, ◌∙◌, arith}
use Rattle.climbs.proofs.ProofsLaws.{first-zeros, closed-end, proved_starts, proved_states, proved_roots, proved_costs}
use Rattle.climbs.proofs.prove.prove_rows.Goals as goal

pub returns : goal.returns
returns c = let l = c.climb_rows.auto.states ∙ c.begin_rows.auto.states ∙ c.requires.2 in let d = closed-end _ (length c.args.starts.now) c.climb_rows.new.states c.climb_rows.new.hashes c.close_rows.new.states c.close_rows.new.hashes l c.close_rows.ensures in (proved_starts c.args.s.now c.args.path c.requires.0 c.begin_rows.new.starts c.begin_rows.new.states c.args.hashes.now c.climb_rows.new.states c.climb_rows.new.hashes c.close_rows.new.states c.close_rows.new.hashes (length c.args.starts.now) c.begin_rows.auto.starts c.begin_rows.ensures.0 c.begin_rows.ensures.1 c.climb_rows.ensures.0 d, proved_states c.args.s.now c.args.path c.requires.0 c.begin_rows.new.starts c.begin_rows.new.states c.args.hashes.now c.climb_rows.new.states c.climb_rows.new.hashes c.close_rows.new.states c.close_rows.new.hashes (length c.args.starts.now) c.begin_rows.auto.starts c.begin_rows.ensures.0 c.begin_rows.ensures.1 c.climb_rows.ensures.0 d (c.close_rows.auto.states ∙ l), proved_roots c.args.s.now c.args.path c.requires.0 c.begin_rows.new.starts c.begin_rows.new.states c.args.hashes.now c.climb_rows.new.states c.climb_rows.new.hashes c.close_rows.new.states c.close_rows.new.hashes (length c.args.starts.now) c.begin_rows.auto.starts c.begin_rows.ensures.0 c.begin_rows.ensures.1 c.climb_rows.ensures.0 d (c.close_rows.auto.hashes ∙ c.climb_rows.auto.hashes ∙ c.requires.3), proved_costs c.args.s.now c.args.path c.requires.0 c.begin_rows.new.starts c.begin_rows.new.states c.args.hashes.now c.fill.new.self c.climb_rows.new.costs (length c.args.starts.now) (length c.args.costs.now) c.begin_rows.auto.starts c.requires.5 c.fill.auto.self (c.climb_rows.auto.costs ∙ c.fill.auto.self) c.begin_rows.ensures.0 c.begin_rows.ensures.1 (first-zeros _ _ (c.fill.ensures.after (λ y e. e))) c.climb_rows.ensures.1 (λ i. omega (arith, c.slice_known-12-1.given i)))
