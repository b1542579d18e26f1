-- Laws of what the code holds of a judgement: with its verdict and its flat form it gives the table.
use mathlib.Core.Path.{◌≡◌, refl, ap, sym, subst, subst⁻¹, ◌∙◌}
use Prim.Native.Nat.{ℕ, ◌-◌, ◌≤◌, ◌%◌, zero-le}
use mathlib.Core.Bool.{Bool, true, false}
use mathlib.Core.List.{List, []}
use native.Mathlib.Omega.{arith}
use lib.Dec.{leb, eqb}
use native.Mathlib.Nat.{sub-zero}
use lib.ListN.{length, replicate, get_or}
use Rattle.bundle.specs.declared.table.Record.{Record}
use Rattle.spv.specs.Result.{accepted, refused, carrying}
use Rattle.spv.specs.Rows.{rows}
use Rattle.bundle.specs.Table.{blank_record, flat, flat_record, IDS_ROOM, NUMBERS_ROOM}
use Rattle.spv.proofs.RowsLaws.{get_d_padded, rows-list}
use Rattle.bundle.proofs.TableLaws.{flat-length, flat-row}
use Rattle.format.specs.Parse.{Parse, ok, fault, pick}
use Rattle.format.specs.Padded.{padded}
use Rattle.format.specs.Beef.{Beef, beef_whole}
use Rattle.format.proofs.BeefLaws.{BeefRead, beef-told}
use Rattle.format.specs.Refusals.{TOO_LONG, BAD_ROOTS, MAX_INPUT, MAX_TXS}
use Rattle.bundle.specs.Amounts.{payment_of}
use Rattle.bundle.specs.Bundle.{ruling, entry_row, Judgement, judge_entries, judge_read, judge_beef, judge_up_to, verdict_of, table_of, Verdict}
use Rattle.bundle.proofs.BundleLaws.{accepted-length}
use Rattle.bundle.proofs.BundleTheorems.{empty_entry}
use Rattle.bundle.specs.BundleAnswer.{judgement_of, count_of, row_in}
use Rattle.std.specs.Prelude.{Ok, Err}

-- no more records than a table of n rows and the code's own can hold
unfoldable pub Fits : Judgement → ℕ → Type 0
Fits (refused why) n = Unit {0}
Fits (accepted records) n = (length records ≤ MAX_TXS) × (length records ≤ n)

entries_fit : (s roots : List ℕ) (fee n : ℕ) (b : Beef) → BeefRead n s b → Fits (judge_entries s roots fee b) n
unfolding Fits judge_entries
entries_fit s roots fee n b read = go (judge_entries s roots fee b) refl
  where
    go : (j : Judgement) → judge_entries s roots fee b ≡ j → Fits j n
    go (refused why) e = tt
    go (accepted records) e =
        let same = accepted-length (payment_of s) (ruling s roots fee b.bumps) (entry_row s) empty_entry blank_record [] b.entries records e in
        let few = read.entries-low in
        let room = read.fits in
        (omega arith, omega arith)

judge_fits : (s roots : List ℕ) (fee n : ℕ) → Fits (judge_beef s roots fee n) n
unfolding Fits judge_up_to judge_read
judge_fits s roots fee n = go (leb (length s) MAX_INPUT) (eqb (length roots % 32) 0) (beef_whole n s) refl
  where
    go : (t u : Bool) (p : Parse Beef) → beef_whole n s ≡ p → Fits (pick t (pick u (judge_read s roots fee p) (refused (carrying BAD_ROOTS 0))) (refused (carrying TOO_LONG 0))) n
    go false u p e = tt
    go true false p e = tt
    go true true (fault number place) e = tt
    go true true (ok b q) e = entries_fit s roots fee n b (beef-told n s e)

-- the verdict, and the table of n rows
module _ (ids numbers : List ℕ) (wide : IDS_ROOM ≤ length ids) (long : NUMBERS_ROOM ≤ length numbers) (n : ℕ) where
  told : (r : Verdict) → Fits (judgement_of r ids numbers) n
      → (r ≡ verdict_of (judgement_of r ids numbers)) × (rows (flat_record ids numbers (count_of r)) n ≡ table_of (judgement_of r ids numbers) n)
  unfolding judgement_of table_of Fits flat padded
  told (Ok k) h =
      let few = flat-length k ids numbers in
      (ap Ok (sym few), rows-list (flat_record ids numbers k) blank_record (flat k ids numbers) n (flat-row ids numbers wide long k (omega (arith, h.0))) h.1)
  told (Err x) h =
      (refl, rows-list (flat_record ids numbers 0) blank_record [] n (flat-row ids numbers wide long 0 zero-le) zero-le ∙ ap (λ (k : ℕ). replicate k blank_record) (sub-zero n))

  pub flat-told : (s roots : List ℕ) (fee : ℕ) (r : Verdict) → judgement_of r ids numbers ≡ judge_beef s roots fee n
      → (r ≡ verdict_of (judge_beef s roots fee n)) × (rows (flat_record ids numbers (count_of r)) n ≡ table_of (judge_beef s roots fee n) n)
  flat-told s roots fee r e =
      subst (λ (j : Judgement). (r ≡ verdict_of j) × (rows (flat_record ids numbers (count_of r)) n ≡ table_of j n)) e
      (told r (subst⁻¹ (λ (j : Judgement). Fits j n) e (judge_fits s roots fee n)))

  -- the same for row k alone
  record_for : (k : ℕ) (r : Verdict) → Fits (judgement_of r ids numbers) n → flat_record ids numbers (count_of r) k ≡ get_or (table_of (judgement_of r ids numbers) n) k blank_record
  unfolding judgement_of table_of Fits flat padded
  record_for k (Ok m) h =
      let few = flat-length m ids numbers in
      flat-row ids numbers wide long m (omega (arith, h.0)) k ∙ sym (get_d_padded (flat m ids numbers) (n - length (flat m ids numbers)) k blank_record)
  record_for k (Err x) h = flat-row ids numbers wide long 0 zero-le k ∙ sym (get_d_padded [] n k blank_record)

  pub row_told : (s roots : List ℕ) (fee k : ℕ) (r : Verdict) → judgement_of r ids numbers ≡ judge_beef s roots fee n
      → record { verdict = r; «record» = flat_record ids numbers (count_of r) k } ≡ row_in (judge_beef s roots fee n) n k
  unfolding row_in
  row_told s roots fee k r e =
      ap (λ (v : Verdict). record { verdict = v; «record» = flat_record ids numbers (count_of r) k }) (flat-told s roots fee r e).0
      ∙ ap (λ (x : Record). record { verdict = verdict_of (judge_beef s roots fee n); «record» = x })
      (subst (λ (j : Judgement). flat_record ids numbers (count_of r) k ≡ get_or (table_of j n) k blank_record) e
      (record_for k r (subst⁻¹ (λ (j : Judgement). Fits j n) e (judge_fits s roots fee n))))
