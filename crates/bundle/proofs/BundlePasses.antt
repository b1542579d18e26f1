-- The bundle rule in two passes, of a bundle that was read: a first one up to 20, whose flat form is what the second, for 26, 27 and 28, goes by.
use Prim.Native.Nat.{ℕ, zero, suc, ◌+◌, ◌*◌, ◌<◌, ◌≤◌}
use mathlib.Core.Path.{◌≡◌, refl, sym, ap, ap₂, ◌∙◌}
use mathlib.Core.Bool.{Bool, true, false}
use mathlib.Core.List.{List, [], ◌∷◌, map}
use native.Mathlib.Omega.{arith}
use lib.ListN.{length, get_or, take, length-map, length-take}
use lib.Seq.{get_or-take}
use Rattle.format.specs.Parse.{ok, pick, many, ◌passing◌else◌}
use Rattle.format.proofs.ParseLaws.{many-told, onward-told, passing_told}
use Rattle.format.specs.Field.{bytes, le8, number, varint}
use Rattle.format.proofs.Span.{bytes-told, varint-told, many-within}
use Rattle.format.specs.Transaction.{script_field, takes, output_field, outputs_field}
use Rattle.format.proofs.TransactionLaws.{TxRead, tx_told, output-told, taken-total}
use Rattle.format.specs.Beef.{BeefEntry, Beef}
use Rattle.format.proofs.BeefLaws.{BeefRead}
use Rattle.format.specs.Refusals.{MAX_INPUT, MAX_TOTAL, BAD_AMOUNT, SAME_TX}
use Rattle.spv.specs.Result.{Result, carrying}
use Rattle.spv.specs.Hashes.{hashes_of, among}
use Rattle.spv.proofs.RowsLaws.{map_at}
use Rattle.bundle.specs.Amounts.{Payment, outpoint_of, payment_of, is_anchored, ids_of, total, amounts}
use Rattle.bundle.specs.Payments.{no_payment, Different}
use Rattle.bundle.specs.Numbers.{output_count}
use Rattle.bundle.specs.FlatForm.{column}
use Rattle.bundle.specs.Walks.{Counted}
use Rattle.bundle.specs.Second.{fault_in}
use Rattle.bundle.specs.Pass.{amounts_of, settled, Checked}
use Rattle.bundle.specs.Shown.{Shown, Answers}
use Rattle.bundle.proofs.ShownLaws.{fault-taken}
use Rattle.bundle.specs.declared.judge.Standing.{Standing}
use Rattle.bundle.specs.Bundle.{entry_id, entry_row, ruling, Judgement, judge_from, judge_entries, Ruling}
use Rattle.bundle.proofs.BundleLaws.{from_same}
use Rattle.bundle.specs.BundleHeads.{flag_of}
use Rattle.bundle.proofs.BundleTheorems.{empty_entry, take-map, ids_are, told-earlier}
use Rattle.bundle.proofs.Phases.{also, pass_count, two-passes, reached_from, count-reached, count-passes, from_less, first_anchoring, first_ruling, ruling-is}
use Rattle.std.specs.Prelude.{Ok, Err}

-- ---- judged in two passes

module _ (s roots : List ℕ) (b : Beef) where
  abbrev pub first_pass : Judgement
  first_pass = judge_from (entry_id s) (first_ruling s roots b.bumps) (entry_row s) [] b.entries

  -- how many pass the first
  abbrev pub passed : ℕ
  passed = reached_from 0 first_pass

  abbrev by_ids : List Payment → BeefEntry → Ruling
  by_ids earlier e = first_ruling s roots b.bumps (ids_of earlier) e

  by_ids_lem : judge_from (payment_of s) by_ids (entry_row s) [] b.entries ≡ first_pass
  unfolding payment_of
  by_ids_lem = from_less (payment_of s) (λ (t : Payment). t.id) (first_ruling s roots b.bumps) (entry_row s) [] b.entries

  count-is : pass_count (payment_of s) by_ids [] b.entries ≡ passed
  count-is = let z : pass_count (payment_of s) by_ids [] b.entries ≡ 0 + pass_count (payment_of s) by_ids [] b.entries = omega arith in z ∙ count-reached (payment_of s) by_ids (entry_row s) [] b.entries ∙ ap (reached_from 0) by_ids_lem

  pub in_two-passes : (fee : ℕ) → judge_entries s roots fee b ≡ settled (fault_in (amounts fee) passed [] (map (payment_of s) b.entries)) first_pass
  unfolding judge_entries
  in_two-passes fee =
      from_same (payment_of s) (payment_of s) (ruling s roots fee b.bumps) (λ earlier e. also (by_ids earlier e) (amounts fee earlier (payment_of s e))) (entry_row s) (entry_row s) empty_entry [] b.entries
      (λ k low. record { ids = refl; rulings = λ earlier. ruling-is s roots b.bumps fee earlier (get_or b.entries k empty_entry); rows = λ earlier st e. refl })
      ∙ two-passes (payment_of s) by_ids (amounts fee) (entry_row s) [] b.entries
      ∙ ap₂ (λ (k : ℕ) (j : Judgement). settled (fault_in (amounts fee) k [] (map (payment_of s) b.entries)) j) count-is by_ids_lem

  first_new : (ids : List (List ℕ)) (e : BeefEntry) (st : Standing) → first_ruling s roots b.bumps ids e ≡ Ok st → among (entry_id s e) ids ≡ false
  unfolding first_ruling
  first_new ids e st h = go (among (entry_id s e) ids) h
    where
      go : (t : Bool) → pick t (Err (carrying SAME_TX 0)) (first_anchoring s roots b.bumps ids e e.anchor) ≡ Ok st → t ≡ false
      go true m = absurd (let z : ◌≡◌ {A = ℕ} 0 1 = cc in omega arith)
      go false m = refl

  -- none of them has the id of an earlier one
  pub passed_new : (k : ℕ) → k < passed → among (entry_id s (get_or b.entries k empty_entry)) (map (entry_id s) (take k b.entries)) ≡ false
  passed_new k h =
      let w = count-passes (payment_of s) by_ids empty_entry [] b.entries k (omega (arith, h, count-is)) in
      ap (among (entry_id s (get_or b.entries k empty_entry))) (sym (ids_are s (take k b.entries)))
      ∙ first_new (ids_of (map (payment_of s) (take k b.entries))) (get_or b.entries k empty_entry) w.0 w.1

-- ---- what is known of outputs that were read

outputs-modest : (s : List ℕ) (n t at : ℕ) {l : List ℕ} {q : ℕ} → many (λ t. output_field (takes true t)) ◌+◌ n t s at ≡ ok l q → t ≤ MAX_TOTAL → t + total l ≤ MAX_TOTAL
unfolding many total
outputs-modest s zero t at {l} e h = let none : [] ≡ l = cc in rw (← none) (omega arith)
outputs-modest s (suc n) t at {l} e h =
    let x = many-told (λ t. output_field (takes true t)) ◌+◌ n t s at e in
    let a = output-told (takes true t) s at x.3 in
    let fits = taken-total true t x.0 refl a.0 in
    let rest = outputs-modest s n (t + x.0) x.1 x.4 fits in
    rw (← x.5) (omega arith)

output-long : (s : List ℕ) (t at : ℕ) {a q : ℕ} → output_field (takes true t) s at ≡ ok a q → at + 9 ≤ q
unfolding output_field script_field
output-long s t at {a} {q} e =
    let x = onward-told ((number le8 8 passing (takes true t) else BAD_AMOUNT) s at) _ e in
    let p = passing_told (number le8 8) (takes true t) BAD_AMOUNT s at x.2 in
    let n = onward-told (bytes 8 s at) _ p.0 in
    let b8 = bytes-told 8 s at n.2 in
    let mid : n.1 ≡ x.1 = cc in
    let y = onward-told (script_field s x.1) _ x.3 in
    let v = onward-told (varint s x.1) _ y.2 in
    let w = varint-told s x.1 v.2 in
    let run = bytes-told v.0 s v.1 v.3 in
    let end : y.1 ≡ q = cc in
    omega (arith, b8.next-is, run.next-is, w.0)

outputs-long : (s : List ℕ) (n t at : ℕ) {l : List ℕ} {q : ℕ} → many (λ t. output_field (takes true t)) ◌+◌ n t s at ≡ ok l q → at + 9 * n ≤ q
unfolding many
outputs-long s zero t at {l} {q} e = let z : at ≡ q = cc in omega arith
outputs-long s (suc n) t at e =
    let x = many-told (λ t. output_field (takes true t)) ◌+◌ n t s at e in
    let one = output-long s t at x.3 in
    let rest = outputs-long s n (t + x.0) x.1 x.4 in
    omega arith

output-inside : (s : List ℕ) (t at : ℕ) {a q : ℕ} → output_field (takes true t) s at ≡ ok a q → q ≤ length s
unfolding output_field script_field
output-inside s t at {a} {q} e =
    let x = onward-told ((number le8 8 passing (takes true t) else BAD_AMOUNT) s at) _ e in
    let y = onward-told (script_field s x.1) _ x.3 in
    let v = onward-told (varint s x.1) _ y.2 in
    let run = bytes-told v.0 s v.1 v.3 in
    let end : y.1 ≡ q = cc in
    omega (arith, run.next-is, run.inside)

outputs-inside : (s : List ℕ) (n t at : ℕ) {l : List ℕ} {q : ℕ} → 1 ≤ n → many (λ t. output_field (takes true t)) ◌+◌ n t s at ≡ ok l q → q ≤ length s
unfolding many
outputs-inside s zero t at h e = absurd (omega arith)
outputs-inside s (suc n) t at {q = q} h e =
    let x = many-told (λ t. output_field (takes true t)) ◌+◌ n t s at e in
    let first = output-told (takes true t) s at x.3 in
    go n x.1 (inside x.3) (t + x.0) x.4
  where
    inside : {a r : ℕ} → output_field (takes true t) s at ≡ ok a r → r ≤ length s
    inside f = output-inside s t at f

    go : (n r : ℕ) → r ≤ length s → (st : ℕ) {m : List ℕ} → many (λ t. output_field (takes true t)) ◌+◌ n st s r ≡ ok m q → q ≤ length s
    go n r low st f = (many-within (λ t. output_field (takes true t)) ◌+◌ s (λ st at' a r' g. (output-told (takes true st) s at' g).1) n st r f).inside low

count-bound : (l : List Payment) → ((k : ℕ) → k < length l → 9 * length (get_or l k no_payment).outputs ≤ MAX_INPUT) → 9 * output_count l ≤ length l * MAX_INPUT
unfolding output_count
count-bound [] f = omega arith
count-bound (t ∷ l) f = let a : 9 * length t.outputs ≤ MAX_INPUT = f 0 (omega arith) in let r = count-bound l (λ k h. f (suc k) (omega arith)) in omega arith

-- ---- what the first pass leaves in the flat form is what the second goes by

module _ (s roots : List ℕ) (room : ℕ) (b : Beef) (read : BeefRead room s b) where
  abbrev nth : ℕ → BeefEntry
  nth k = get_or b.entries k empty_entry

  -- the first n are in the flat form
  pub record Filled (ids numbers : List ℕ) (n : ℕ) : Type 0 where
    pub few : n ≤ length b.entries
    pub wide : 32 * n ≤ length ids
    pub long : 10 * n ≤ length numbers
    pub ids_are : hashes_of (take (32 * n) ids) ≡ map (entry_id s) (take n b.entries)
    pub flag : (k : ℕ) → k < n → column numbers 3 k ≡ flag_of (is_anchored (nth k).anchor)
    pub outputs : (k : ℕ) → k < n → column numbers 5 k ≡ length (nth k).transaction.outputs
    pub totals : (k : ℕ) → k < n → column numbers 6 k ≡ total (nth k).transaction.outputs
    pub inputs : (k : ℕ) → k < n → column numbers 7 k ≡ length (nth k).transaction.inputs
    pub inputs_at : (k : ℕ) → k < n → column numbers 8 k ≡ (nth k).transaction.inputs_at
    pub outputs_at : (k : ℕ) → k < n → column numbers 9 k ≡ (nth k).transaction.outputs_at

  module _ (ids numbers : List ℕ) (n : ℕ) (filled : Filled ids numbers n) (is : n ≡ passed s roots b) where
    abbrev pub first_ones : List Payment
    first_ones = map (payment_of s) (take n b.entries)

    size : length first_ones ≡ n
    size = length-map (take n b.entries) (payment_of s) ∙ length-take n b.entries ∙ omega (arith, filled.few)

    payment_is : (k : ℕ) → k < n → get_or first_ones k no_payment ≡ payment_of s (nth k)
    payment_is k h =
        map_at (payment_of s) (take n b.entries) k empty_entry no_payment (omega (arith, h, size, length-map (take n b.entries) (payment_of s)))
        ∙ ap (payment_of s) (get_or-take n b.entries k empty_entry h)

    tx : (k : ℕ) → k < n → TxRead true s (nth k).transaction.start (nth k).transaction.end (nth k).transaction
    tx k h = tx_told s (nth k).transaction.start (read.entry k empty_entry (omega (arith, h, filled.few))).transaction

    outputs_are : (k : ℕ) → k < n → (get_or first_ones k no_payment).outputs ≡ (nth k).transaction.outputs
    unfolding payment_of
    outputs_are k h = ap (λ (t : Payment). t.outputs) (payment_is k h)

    anchored_are : (k : ℕ) → k < n → (get_or first_ones k no_payment).anchored ≡ is_anchored (nth k).anchor
    unfolding payment_of
    anchored_are k h = ap (λ (t : Payment). t.anchored) (payment_is k h)

    few-outputs : (k : ℕ) → k < n → 9 * length (nth k).transaction.outputs ≤ MAX_INPUT
    unfolding outputs_field
    few-outputs k h =
        let t = tx k h in
        let long = outputs-long s (length (nth k).transaction.outputs) 0 (nth k).transaction.outputs_at t.outputs-read in
        let inside = outputs-inside s (length (nth k).transaction.outputs) 0 (nth k).transaction.outputs_at t.some-outputs t.outputs-read in
        let whole = read.size in
        omega arith

    counted-all : Counted s numbers first_ones
    unfolding outputs_field total
    counted-all = record {
      few = omega (arith, size, filled.few, read.entries-low);
      long = omega (arith, size, filled.long);
      outputs = λ k h. let low : k < n = omega (arith, h, size) in filled.outputs k low ∙ ap length (sym (outputs_are k low));
      some = λ k h. let low : k < n = omega (arith, h, size) in rw (outputs_are k low) (tx k low).some-outputs;
      read = λ k h. let low : k < n = omega (arith, h, size) in ((tx k low).outputs-end, rw (outputs_are k low, filled.outputs_at k low) (tx k low).outputs-read);
      modest = λ k h. let low : k < n = omega (arith, h, size) in let m = outputs-modest s (length (nth k).transaction.outputs) 0 (nth k).transaction.outputs_at (tx k low).outputs-read (omega arith) in rw (outputs_are k low) (omega arith);
    }

    shown : Shown s ids numbers first_ones
    unfolding payment_of
    shown = record {
      counted = counted-all;
      count_low = omega (arith, count-bound first_ones (λ k h. let low : k < n = omega (arith, h, size) in rw (outputs_are k low) (few-outputs k low)), size, filled.few, read.entries-low);
      wide = omega (arith, filled.wide, size);
      ids_are = ap (λ (k : ℕ). hashes_of (take (32 * k) ids)) size ∙ filled.ids_are ∙ sym (ids_are s (take n b.entries));
      different = different;
      unanchored = λ k h e. let low : k < n = omega (arith, h, size) in anchored_are k low ∙ flag-none (is_anchored (nth k).anchor) (sym (filled.flag k low) ∙ e);
      anchored = λ k h ne. let low : k < n = omega (arith, h, size) in anchored_are k low ∙ flag-some (is_anchored (nth k).anchor) (λ z. ne (filled.flag k low ∙ z));
      totals = λ k h. let low : k < n = omega (arith, h, size) in filled.totals k low ∙ ap total (sym (outputs_are k low));
      inputs = λ k h u. let low : k < n = omega (arith, h, size) in ((nth k).transaction.inputs, (tx k low).inputs_end, rw (filled.inputs k low, filled.inputs_at k low) (tx k low).inputs_read, ap (λ (t : Payment). t.inputs) (sym (payment_is k low)));
      some = λ k h u. let low : k < n = omega (arith, h, size) in rw (payment_is k low) (omega (arith, (tx k low).some-inputs, length-map (nth k).transaction.inputs (outpoint_of s)));
    }
      where
        flag-none : (t : Bool) → flag_of t ≡ 0 → t ≡ false
        flag-none true e = absurd (omega arith)
        flag-none false e = refl

        flag-some : (t : Bool) → (flag_of t ≡ 0 → ⊥) → t ≡ true
        flag-some true ne = refl
        flag-some false ne = absurd (ne refl)

        different : Different first_ones
        different j k a h e =
            let low : k < n = omega (arith, h, size) in
            let new = passed_new s roots b k (omega arith) in
            let again = told-earlier (entry_id s) b.entries empty_entry k (omega (arith, low, filled.few)) (entry_id s (nth k)) j a
            (ap (λ (t : Payment). t.id) (sym (payment_is j (omega arith))) ∙ e ∙ ap (λ (t : Payment). t.id) (payment_is k low)) in
            let z : ◌≡◌ {A = ℕ} 0 1 = cc in
            omega arith

    -- so the bundle is judged by the first pass and the answer of the second
    pub judged_in_two : (fee : ℕ) (r : Checked) → Answers s ids numbers fee n r → judge_entries s roots fee b ≡ settled (amounts_of r) (first_pass s roots b)
    judged_in_two fee r answer =
        in_two-passes s roots b fee
        ∙ ap (λ (f : Result (Unit {0})). settled f (first_pass s roots b))
        (ap (λ (k : ℕ). fault_in (amounts fee) k [] (map (payment_of s) b.entries)) (sym is)
        ∙ fault-taken (amounts fee) n [] (map (payment_of s) b.entries) ∙ ap (fault_in (amounts fee) n []) (take-map (payment_of s) n b.entries)
        ∙ sym (answer first_ones size shown))
