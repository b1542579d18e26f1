-- After t turns the working variables are those of t rounds.
use Rattle.std.proofs.Common.{◌≡◌, ◌≤◌}
use Rattle.hash.specs.Parts.{rounds_by}
use Rattle.hash.proofs.compress.rounds.Given as goal

abbrev pub invariant-loop-t : goal.invariant-loop-t
invariant-loop-t l = (l.t ≤ 16) × (l.r ≡ rounds_by l.initial.r l.x l.t)
