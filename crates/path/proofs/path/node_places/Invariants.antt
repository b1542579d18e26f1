use Prim.Native.Nat.{ℕ}
use Rattle.format.proofs.Gather.{Gathering}
use Rattle.path.specs.TscPath.{node_place_field}
use Rattle.path.proofs.path.node_places.Given as goal

abbrev pub invariant-loop-i : goal.invariant-loop-i
invariant-loop-i l = Gathering node_place_field (λ (k : ℕ). k) 0 64 l.count l.s l.initial.next.at l.known l.i l.next.at
