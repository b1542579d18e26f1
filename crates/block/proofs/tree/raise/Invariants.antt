use mathlib.Core.List.{List}
use Prim.Native.Nat.{ℕ, ◌*◌}
use Rattle.block.proofs.HeapLaws.{Raising}
use Rattle.block.proofs.tree.raise.Given as goal

abbrev pub invariant-loop-k : goal.invariant-loop-k
invariant-loop-k l = Raising l.ids l.initial.heap l.base l.width l.count l.heap (4 * l.k)

abbrev pub invariant-loop-j : goal.invariant-loop-j
invariant-loop-j l = (first : List ℕ) → Raising l.ids first l.base l.width l.count l.initial.heap l.initial.j → Raising l.ids first l.base l.width l.count l.heap l.j
