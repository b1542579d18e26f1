-- Laws of ids: what the code answers for an id is, for what was read, the id.
use mathlib.Core.Path.{◌≡◌, refl, ◌∙◌}
use mathlib.Core.Bool.{Bool, true, false, ◌&&◌}
use mathlib.Core.List.{List}
use Prim.Native.Nat.{ℕ, ◌-◌, ◌<◌, ◌≤◌}
use lib.ListN.{length, take, drop, replicate, length-take, length-drop}
use lib.Dec.{leb}
use borrow.Author.Tests.{le-leb, lt-leb, leb-true, leb-false}
use native.Mathlib.Omega.{arith}
use Rattle.hash.specs.Sha256.{sha256d, digest_or_zeros}
use Rattle.hash.proofs.Sha256Laws.{hashed-accepted, hashed-refused, sha256d-length}
use Rattle.format.specs.Parse.{pick}
use Rattle.format.specs.Refusals.{MAX_INPUT}
use Rattle.format.specs.Transaction.{Transaction}
use Rattle.format.proofs.TransactionLaws.{TxRead}
use Rattle.format.specs.Id.{txid, span_hash}

module _ (s : List ℕ) (start end : ℕ) where
  pub span_backward : end < start → span_hash s start end ≡ replicate 32 0
  unfolding span_hash
  span_backward h = rw (lt-leb start end h)

  pub span_outside : start ≤ end → length s < end → span_hash s start end ≡ replicate 32 0
  unfolding span_hash
  span_outside h k = rw (le-leb start end h, lt-leb end (length s) k)

  pub span-inside : start ≤ end → end ≤ length s → span_hash s start end ≡ digest_or_zeros (take (end - start) (drop start s))
  unfolding span_hash
  span-inside h k = rw (le-leb start end h, le-leb end (length s) k)

-- a part of an input that is not too long
pub span-hash : (s : List ℕ) (start end : ℕ) → start ≤ end → end ≤ length s → length s ≤ MAX_INPUT → span_hash s start end ≡ sha256d (take (end - start) (drop start s))
span-hash s start end a b c =
    let few : length (take (end - start) (drop start s)) ≤ 16777216 = simp (length-take, length-drop) (omega arith) in
    span-inside s start end a b ∙ rw (hashed-accepted (take (end - start) (drop start s)) few)

-- a transaction that was read
pub tx_hash : {limited : Bool} (s : List ℕ) {at : ℕ} (t : Transaction) → TxRead limited s at t.end t → length s ≤ MAX_INPUT → span_hash s t.start t.end ≡ txid s t
unfolding txid
tx_hash s t r few = let f = r.forward in span-hash s t.start t.end (omega arith) r.inside few

-- an id has 32 bytes
hashed_length : (m : List ℕ) → length (digest_or_zeros m) ≡ 32
hashed_length m = go (leb (length m) MAX_INPUT) refl
  where
    go : (t : Bool) → leb (length m) MAX_INPUT ≡ t → length (digest_or_zeros m) ≡ 32
    go true e = rw (hashed-accepted m (leb-true _ _ e)) (sha256d-length m)
    go false e = rw (hashed-refused m (leb-false _ _ e))

pub span-length : (s : List ℕ) (start end : ℕ) → length (span_hash s start end) ≡ 32
unfolding span_hash
span-length s start end = go (leb start end && leb end (length s))
  where
    go : (t : Bool) → length (pick t (digest_or_zeros (take (end - start) (drop start s))) (replicate 32 0)) ≡ 32
    go true = hashed_length (take (end - start) (drop start s))
    go false = refl
