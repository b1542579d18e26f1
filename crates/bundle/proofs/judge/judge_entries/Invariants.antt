use Prim.Native.Nat.{◌≤◌}
use Rattle.std.specs.Prelude.{Some}
use mathlib.Core.List.{List}
use Prim.Native.Nat.{ℕ}
use Rattle.format.specs.declared.bump.BumpHead.{BumpHead}
use Rattle.bundle.specs.Ahead.{Onward}
use Rattle.bundle.specs.Anchored.{EndsFrom}
use Rattle.bundle.proofs.BundleTurns.{Judging}
use Rattle.bundle.proofs.judge.judge_entries.Given as goal

abbrev pub invariant-loop-i : goal.invariant-loop-i
invariant-loop-i l = (l.i ≤ l.n) × ((roots : List ℕ) (bumps : List BumpHead) → EndsFrom l.count l.s roots bumps l.initial.next.at l.n l.ends → Judging l.s roots bumps l.count l.n l.initial.next.at l.ids l.numbers l.i l.next.at) × Onward l.count l.s l.initial.next.at l.i (Some l.next)
