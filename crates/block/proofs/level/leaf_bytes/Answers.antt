use mathlib.Core.Path.{ap}
use mathlib.Core.Logic.{inl, inr}
use Prim.Native.Nat.{ℕ, ◌+◌}
use native.Mathlib.Omega.{arith}
use Rattle.block.specs.Leaves.{leaf_bytes}
use Rattle.encoding.proofs.VarintEncoding.{varint-length}
use Rattle.block.proofs.level.leaf_bytes.Goals as goal

pub overflow_add-result : goal.overflow_add-result
overflow_add-result c = omega (arith, varint-length c.args.o)

pub overflow_add-result-in-Copy : goal.overflow_add-result-in-Copy
overflow_add-result-in-Copy c = omega (arith, varint-length c.args.o)

pub returns-in-Plain : goal.returns-in-Plain
unfolding leaf_bytes
returns-in-Plain c =
    let e = ap (λ (n : ℕ). n + 33) c.varint_size.ensures in
    elim c.in-Plain.is [ inl q ↦ rw q e | inr q ↦ rw q e ]

pub returns-in-Copy : goal.returns-in-Copy
unfolding leaf_bytes
returns-in-Copy c = rw c.in-Copy.is (ap (λ (n : ℕ). n + 1) c.varint_size-in-Copy.ensures)
