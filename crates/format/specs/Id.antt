-- Ids of transactions (01, "Raw transaction": "The id is the hash of exactly these bytes").
use Rattle.std.specs.Prelude.{◌&&◌, List, ℕ, ◌-◌, leb, length, take, drop, replicate}
use Rattle.hash.specs.Sha256.{sha256d, digest_or_zeros}
use Rattle.format.specs.declared.tsc.Subject.{Subject}
use Rattle.format.specs.Parse.{pick}
use Rattle.format.specs.Bytes.{hash_at}
use Rattle.format.specs.Transaction.{Transaction}

unfoldable pub txid : List ℕ → Transaction → List ℕ
txid s t = sha256d (take (t.end - t.start) (drop t.start s))

-- a TSC proof's own id: the one written, or its transaction's
unfoldable pub subject_id : List ℕ → Subject → List ℕ
subject_id s (Subject.Id p) = hash_at s p
subject_id s (Subject.Transaction start end) = sha256d (take (end - start) (drop start s))

-- ---- what the code answers, wherever a part starts and ends

-- 32 bytes of a part of the input: its hash, or zeros if it does not lie in the input
unfoldable pub span_hash : List ℕ → ℕ → ℕ → List ℕ
span_hash s start end = pick (leb start end && leb end (length s)) (digest_or_zeros (take (end - start) (drop start s))) (replicate 32 0)
