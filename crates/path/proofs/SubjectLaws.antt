-- What the code answers for the id of a TSC proof that was read is its id.
use mathlib.Core.Path.{◌≡◌, refl}
use mathlib.Core.List.{List}
use Prim.Native.Nat.{ℕ, ◌≤◌}
use lib.ListN.{length}
use native.Mathlib.Omega.{arith}
use Rattle.format.specs.declared.tsc.Subject.{Subject}
use Rattle.format.specs.Refusals.{MAX_INPUT}
use Rattle.format.proofs.TransactionLaws.{tx_told}
use Rattle.format.specs.Tsc.{Tsc}
use Rattle.format.proofs.TscLaws.{TscRead}
use Rattle.format.specs.Id.{subject_id}
use Rattle.path.specs.Subject.{subject_hash}
use Rattle.format.proofs.IdLaws.{span-hash}

pub subject-hash : (s : List ℕ) {q : ℕ} (t : Tsc) → TscRead s q t → length s ≤ MAX_INPUT → subject_hash s t.subject ≡ subject_id s t.subject
unfolding subject_hash subject_id
subject-hash s t r few = go t.subject refl
  where
    go : (x : Subject) → t.subject ≡ x → subject_hash s x ≡ subject_id s x
    go (Subject.Id p) e = refl
    go (Subject.Transaction start end) e =
        let x = r.subject.transaction start end e in
        let y = tx_told s start x.1 in
        span-hash s start end (omega (arith, y.forward)) y.inside few
