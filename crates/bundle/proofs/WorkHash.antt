-- The numbers of 02, Item 11, are those of the hash's definition: a message has so many blocks, and double SHA-256 runs over them and over the one of a digest.
use Prim.Native.Nat.{ℕ, zero, suc, ◌+◌, ◌*◌, ◌/◌}
use native.Mathlib.Omega.{arith}
use mathlib.Core.Path.{◌≡◌, refl, ap, ◌∙◌}
use mathlib.Core.List.{List, ◌∷◌, ◌++◌}
use lib.ListN.{length, replicate, length-append, length-replicate}
use Rattle.hash.specs.Sha256.{big_endian, zeros, padding, pad, digest, sha256}
use Rattle.bundle.specs.Work.{id_work, JOIN}

-- the compressions of SHA-256 over a message: `hash_value` runs over so many blocks
unfoldable pub compressions : List ℕ → ℕ
compressions m = length (pad m) / 64

bytes-length : (n x : ℕ) → length (big_endian n x) ≡ n
unfolding big_endian
bytes-length zero x = refl
bytes-length (suc n) x = ap suc (bytes-length n x)

pub once : (m : List ℕ) → compressions m ≡ (length m + 72) / 64
unfolding compressions pad padding zeros
once m =
    let a = length-append m (0x80 ∷ replicate (zeros (length m)) 0 ++ big_endian 8 (length m * 8)) in
    let b = length-append (replicate (zeros (length m)) 0) (big_endian 8 (length m * 8)) in
    let c = length-replicate {A = ℕ} (zeros (length m)) 0 in
    let d = bytes-length 8 (length m * 8) in
    omega arith

digest-length : (m : List ℕ) → length (sha256 m) ≡ 32
unfolding sha256 digest big_endian
digest-length m = refl

pub double : (m : List ℕ) → compressions m + compressions (sha256 m) ≡ id_work (length m)
unfolding id_work
double m = omega (arith, once m, once (sha256 m), digest-length m)

pub join_three : (a b : List ℕ) → length a ≡ 32 → length b ≡ 32 → compressions (a ++ b) + compressions (sha256 (a ++ b)) ≡ JOIN
unfolding id_work
join_three a b e f = double (a ++ b) ∙ (let l = length-append a b in let x : length (a ++ b) ≡ 64 = omega arith in ap id_work x)
