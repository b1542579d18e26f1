use Rattle.std.proofs.Common.{sym, ◌∙◌, ap, set, ◌+◌, ◌*◌, ℕ}
use Rattle.climbs.proofs.RowLaws.{advance_stays, advance-joins, advance-fails}
use Rattle.climbs.proofs.row.advance.Goals as goal

pub returns-then-state-layer : goal.returns-then-state-layer
returns-then-state-layer c = let e = advance_stays c.args.states.now c.args.hashes.now c.args.row c.args.layer c.args.made c.if-state-layer.true in (sym e.0, sym e.1)

pub returns-in-Ok : goal.returns-in-Ok
returns-in-Ok c = let e = advance-joins c.args.states.now c.args.hashes.now c.args.row c.args.layer c.args.made c.if-state-layer.false _ c.in-Ok.is in (sym e.0, c.set_hash.ensures ∙ sym e.1)

pub returns-in-Err : goal.returns-in-Err
returns-in-Err c = let e = advance-fails c.args.states.now c.args.hashes.now c.args.row c.args.layer c.args.made c.if-state-layer.false _ c.in-Err.is in (ap (λ (n : ℕ). set c.args.states.now c.args.row (64 * n + c.args.layer)) (c.from.ensures ∙ c.number.ensures) ∙ sym e.0, sym e.1)
