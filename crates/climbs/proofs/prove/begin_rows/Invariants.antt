use Rattle.std.proofs.Common.{◌≡◌, ◌≤◌, length}
use Rattle.path.specs.Path.{start_in}
use Rattle.climbs.specs.Begun.{begun_row, First}
use Rattle.climbs.specs.Proofs.{start_row, id_at}
use Rattle.climbs.proofs.prove.begin_rows.Given as goal

abbrev pub invariant-loop-i : goal.invariant-loop-i
invariant-loop-i l = First (λ j. start_row (start_in l.s l.path (id_at l.hashes j))) l.i l.starts × First (λ j. begun_row (start_in l.s l.path (id_at l.hashes j))) l.i l.states × (length l.starts ≡ length l.initial.starts) × (length l.states ≡ length l.initial.states) × (l.i ≤ length l.initial.starts) × (length l.initial.starts ≤ 256) × (length l.initial.states ≡ length l.initial.starts)
