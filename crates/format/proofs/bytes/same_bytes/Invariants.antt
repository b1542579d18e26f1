use mathlib.Core.Bool.{true, false}
use mathlib.Core.Path.{◌≡◌}
use Prim.Native.Nat.{ℕ, ◌≤◌, ◌<◌}
use lib.ListN.{length, get_or}
use Rattle.format.proofs.bytes.same_bytes.Given as goal

abbrev pub invariant-loop-i : goal.invariant-loop-i
invariant-loop-i l = (l.i ≤ 32) × (length l.a ≡ 32) × (length l.b ≡ 32) × (l.same ≡ true → (k : ℕ) → k < l.i → get_or l.a k 0 ≡ get_or l.b k 0) × (l.same ≡ false → l.a ≡ l.b → ⊥)
