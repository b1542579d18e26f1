-- What the code answers for a TSC proof's own id, wherever its transaction starts and ends.
use Rattle.std.specs.Prelude.{List, ℕ}
use Rattle.format.specs.declared.tsc.Subject.{Subject}
use Rattle.format.specs.Bytes.{hash_at}
use Rattle.format.specs.Id.{span_hash}

unfoldable pub subject_hash : List ℕ → Subject → List ℕ
subject_hash s (Subject.Id p) = hash_at s p
subject_hash s (Subject.Transaction start end) = span_hash s start end
