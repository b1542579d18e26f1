use Rattle.std.proofs.Common.{refl, ap, ◌∙◌, arith, length-set}
use Rattle.path.specs.Path.{start_in}
use Rattle.climbs.specs.Begun.{begun_row}
use Rattle.climbs.specs.Proofs.{start_row, id_at}
use Rattle.climbs.proofs.ProofsLaws.{start_or, first-none, first_more, first-end}
use Rattle.climbs.proofs.prove.begin_rows.Goals as goal

pub loop-i-init : goal.loop-i-init
loop-i-init c = (first-none _ _, first-none _ _, refl, refl, omega arith, c.requires.0, c.requires.1)

pub loop-i-preserved : goal.loop-i-preserved
loop-i-preserved c = let g = c.find_id-start.ensures ∙ ap (start_in c.args.s.now c.args.path) c.hash_at-id.ensures in (first_more (λ j. start_row (start_in c.args.s.now c.args.path (id_at c.args.hashes.now j))) c.loop-i.i c.loop-i.starts c.unwrap_or.result (omega arith) c.loop-i.invariant.0 (c.unwrap_or.ensures ∙ start_or _ ∙ ap start_row g), first_more (λ j. begun_row (start_in c.args.s.now c.args.path (id_at c.args.hashes.now j))) c.loop-i.i c.loop-i.states c.begun_row.result (omega arith) c.loop-i.invariant.1 (c.begun_row.ensures ∙ ap begun_row g), length-set c.loop-i.starts c.loop-i.i c.unwrap_or.result ∙ c.loop-i.invariant.2, length-set c.loop-i.states c.loop-i.i c.begun_row.result ∙ c.loop-i.invariant.3, omega arith, c.loop-i.invariant.5, c.loop-i.invariant.6)

pub returns : goal.returns
returns c = (first-end (λ j. start_row (start_in c.args.s.now c.args.path (id_at c.args.hashes.now j))) c.loop-i.i _ _ (omega arith) c.loop-i.invariant.0, first-end (λ j. begun_row (start_in c.args.s.now c.args.path (id_at c.args.hashes.now j))) c.loop-i.i _ _ (omega arith) c.loop-i.invariant.1)
