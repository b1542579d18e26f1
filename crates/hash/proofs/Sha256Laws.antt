-- Laws of double SHA-256 for callers: the length and the bytes of a digest, and what the hash call answers.
use Rattle.std.proofs.Common.{Some, None, ◌≡◌, ℕ, zero, suc, ◌*◌, ◌/◌, ◌%◌, ◌^◌, ◌<◌, ◌≤◌, List, [], ◌∷◌, ◌++◌, length, get_or, refl, arith, le-leb}
use borrow.Author.Tests.{lt-leb}
use Rattle.hash.specs.declared.compress.State.{State}
use Rattle.hash.specs.Sha256.{big_endian, hash_value, digest, sha256, sha256d, MAX_INPUT, hashed}

pub sha256d-length : (m : List ℕ) → length (sha256d m) ≡ 32
unfolding sha256d sha256 digest big_endian
sha256d-length m = refl

data Bytes : List ℕ → Type 0 where
  none : Bytes []
  more : {a : ℕ} {l : List ℕ} → a < 256 → Bytes l → Bytes (a ∷ l)

append_bytes : {l r : List ℕ} → Bytes l → Bytes r → Bytes (l ++ r)
append_bytes none q = q
append_bytes (more h p) q = more h (append_bytes p q)

bytes-bytes : (n x : ℕ) → Bytes (big_endian n x)
unfolding big_endian
bytes-bytes zero x = none
bytes-bytes (suc n) x = more {a = x / 2 ^ (8 * n) % 2 ^ 8} (omega arith) (bytes-bytes n x)

digest-bytes : (s : State) → Bytes (digest s)
unfolding digest
digest-bytes s =
    append_bytes (append_bytes (append_bytes (append_bytes (append_bytes (append_bytes (append_bytes (bytes-bytes 4 s.a) (bytes-bytes 4 s.b)) (bytes-bytes 4 s.c)) (bytes-bytes 4 s.d))
    (bytes-bytes 4 s.e)) (bytes-bytes 4 s.f)) (bytes-bytes 4 s.g)) (bytes-bytes 4 s.h)

bytes_below : {l : List ℕ} → Bytes l → (i : ℕ) → get_or l i 0 < 256
bytes_below none i = omega arith
bytes_below (more h p) zero = h
bytes_below (more h p) (suc i) = bytes_below p i

pub sha256d-bytes : (m : List ℕ) (i : ℕ) → get_or (sha256d m) i 0 < 256
unfolding sha256d sha256
sha256d-bytes m i = bytes_below (digest-bytes (hash_value (digest (hash_value m)))) i

pub hashed-accepted : (m : List ℕ) → length m ≤ MAX_INPUT → hashed m ≡ Some (sha256d m)
unfolding hashed
hashed-accepted m h = simp (le-leb (length m) MAX_INPUT h)

pub hashed-refused : (m : List ℕ) → MAX_INPUT < length m → hashed m ≡ None
unfolding hashed
hashed-refused m h = simp (lt-leb (length m) MAX_INPUT h)
