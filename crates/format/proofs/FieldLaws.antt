-- Laws of the fields.
use mathlib.Core.Path.{◌≡◌, ap}
use mathlib.Core.List.{List}
use Prim.Native.Nat.{ℕ, ◌+◌, ◌-◌, ◌≤◌, ◌<◌}
use lib.ListN.{length, get_or}
use lib.Dec.{leb}
use native.Mathlib.Omega.{arith}
use borrow.Author.Tests.{le-ltb, lt-ltb, le-leb, lt-leb}
use Rattle.format.specs.Parse.{◌passing◌else◌, at_start, ok, fault}
use Rattle.format.specs.Field.{bytes, byte, number, announced, varint}
use Rattle.format.specs.Refusals.{SHORT, LONG_VARINT}

-- a VarInt of width bytes after its first, at least `least`
module _ (value : List ℕ → ℕ → ℕ) (width least : ℕ) (s : List ℕ) (at : ℕ) where
  pub long_short : 0 < width → length s - at < width + 1 → at_start at ((number value width passing (λ v. leb least v) else LONG_VARINT) s (at + 1)) ≡ fault SHORT at
  unfolding bytes
  long_short z h = simp (lt-leb (at + 1 + width) (length s) (omega arith))

  pub long_over : width + 1 ≤ length s - at → value s (at + 1) < least → at_start at ((number value width passing (λ v. leb least v) else LONG_VARINT) s (at + 1)) ≡ fault LONG_VARINT at
  unfolding bytes
  long_over h v = simp (le-leb (at + 1 + width) (length s) (omega arith), lt-leb _ _ v)

  pub long-value : (next : ℕ) → width + 1 ≤ length s - at → least ≤ value s (at + 1) → at + 1 + width ≡ next → at_start at ((number value width passing (λ v. leb least v) else LONG_VARINT) s (at + 1)) ≡ ok (value s (at + 1)) next
  unfolding bytes
  long-value next h v e = simp (le-leb (at + 1 + width) (length s) (omega arith), le-leb _ _ v) (ap (ok (value s (at + 1))) e)

module _ (s : List ℕ) (at : ℕ) where
  pub varint-none : length s ≤ at → varint s at ≡ fault SHORT at
  unfolding varint byte
  varint-none h = simp (le-ltb _ _ h)

  pub varint-announced : (first : ℕ) → at < length s → get_or s at 0 ≡ first → varint s at ≡ at_start at (announced first s (at + 1))
  unfolding varint byte
  varint-announced first h e = simp (lt-ltb _ _ h, e)

  pub varint-small : (v : ℕ) → at < length s → get_or s at 0 ≡ v → v < 253 → varint s at ≡ ok v (at + 1)
  varint-small v h e lt = simp (varint-announced v h e, lt-ltb _ _ lt)

  pub bytes_short : (n : ℕ) → length s < at + n → bytes n s at ≡ fault SHORT at
  unfolding bytes
  bytes_short n h = simp (lt-leb _ _ h)

  pub bytes-here : (n : ℕ) → at + n ≤ length s → bytes n s at ≡ ok at (at + n)
  unfolding bytes
  bytes-here n h = simp (le-leb _ _ h)
