-- What the code holds of a bundle that was read is judged as the bundle is.
use Prim.Native.Nat.{ℕ, zero, suc, ◌-◌, ◌%◌, ◌<◌, ◌≤◌}
use mathlib.Core.Path.{◌≡◌, refl, sym, ap, ◌∙◌, subst}
use mathlib.Core.Bool.{Bool, true, false, ◌&&◌}
use mathlib.Core.List.{List, [], ◌∷◌, map}
use native.Mathlib.Omega.{arith}
use native.Mathlib.Nat.{mod-eq_of_lt}
use lib.ListN.{length, get_or, take, length-map, length-take}
use lib.Seq.{take_all, ext_get_or, get_or-take}
use borrow.Author.Tests.{lt-ltb, lt-leb, le-leb, eq-eqb, ne_eqb}
use Rattle.std.specs.Prelude.{Option, None, Ok, Err, Some}
use Rattle.format.specs.Parse.{many, times, each, ok, fault, pick}
use Rattle.format.proofs.ParseLaws.{many-told, each-ok, each-fault}
use Rattle.format.specs.Bytes.{hash_at}
use Rattle.path.specs.Path.{bump_path_of}
use Rattle.format.specs.Bump.{head_of}
use Rattle.format.proofs.BumpLaws.{BumpRead, bump-told}
use Rattle.format.specs.Padded.{padded}
use Rattle.format.proofs.Gather.{padded-at}
use Rattle.format.specs.Beef.{BeefEntry, Beef, entry_field, beef_whole}
use Rattle.format.specs.BeefAnswer.{no_bump, entry_head_of, first_at, bundle_of}
use Rattle.format.proofs.BeefLaws.{BeefRead, EntryRead, beef-told}
use Rattle.format.proofs.TransactionLaws.{TxRead, tx_told}
use Rattle.format.specs.declared.bump.BumpHead.{BumpHead}
use Rattle.format.specs.declared.refusal.ReadRefusal.{ReadRefusal}
use Rattle.format.specs.declared.beef.Bundle.{Bundle}
use Rattle.format.specs.Refusals.{MAX_BUMPS, MAX_INPUT, NO_PARENT, SAME_TX, BAD_INDEX, TOO_LONG, BAD_ROOTS, MAX_TXS, U32, refusal_number}
use Rattle.format.specs.declared.transaction.Input.{Input}
use Rattle.format.specs.declared.beef.EntryHead.{EntryHead}
use Rattle.format.specs.Transaction.{input_field, outputs_field, tx_head_of}
use Rattle.bundle.specs.declared.table.Record.{Record}
use Rattle.format.proofs.IdLaws.{tx_hash, span-length}
use Rattle.spv.specs.declared.rejection.Rejection.{Rejection}
use Rattle.spv.specs.Result.{refused, carrying, refused_reading}
use Rattle.bundle.specs.Table.{flat_head}
use Rattle.spv.proofs.ReadingsLaws.{bump_path_proves}
use Rattle.spv.specs.Hashes.{among}
use Rattle.spv.proofs.RowsLaws.{map_at}
use Rattle.bundle.specs.Amounts.{total}
use Rattle.bundle.specs.Pass.{amounts_of, settled, Checked}
use Rattle.bundle.specs.Shown.{Answers}
use Rattle.bundle.proofs.TableLaws.{flat-length}
use Rattle.bundle.specs.declared.judge.Standing.{Standing}
use Rattle.bundle.specs.Bundle.{rests, trusted, proving, nth_bump, empty_bump, entry_id, entry_row, judge_from, judge_read, judge_beef, judge_up_to, standing, Verdict}
use Rattle.bundle.proofs.BundleTheorems.{empty_entry, take-map, trusted-told}
use Rattle.bundle.proofs.BundleLaws.{from_map, from_same}
use Rattle.bundle.specs.BundleHeads.{rests_from, head_total, head_proving, head_anchoring, head_ruling, head_id, head_stands, head_row, heads_from, numbers_of, no_head, RowIs, Written}
use Rattle.bundle.proofs.BundleHeadLaws.{total-again}
use Rattle.bundle.specs.BundleAnswer.{judgement_of, reached_by}
use Rattle.bundle.proofs.Phases.{reached_from, first_anchoring, first_ruling}
use Rattle.bundle.proofs.BundlePasses.{first_pass, passed, Filled, judged_in_two}

-- ---- one transaction

-- inputs that were read are the same when they are read again
rests-again : (s : List ℕ) (ids : List (List ℕ)) (n at : ℕ) {l : List Input} {q : ℕ} → times input_field n s at ≡ ok l q → rests_from s ids n at ≡ rests s ids l
unfolding many rests_from rests
rests-again s ids zero at {l} e = let none : [] ≡ l = cc in rw (← none)
rests-again s ids (suc n) at {l} e =
    let x = many-told {S = Unit {0}} (λ _. input_field) (λ u _. u) n tt s at e in
    let rest = rests-again s ids n x.1 x.4 in
    again x.0 x.1 x.2 x.3 rest x.5
  where
    both : (t a b : Bool) → a ≡ b → pick t a false ≡ (t && b)
    both true a b e = e
    both false a b e = refl

    again : (a : Input) (r : ℕ) (m : List Input) → input_field s at ≡ ok a r → rests_from s ids n r ≡ rests s ids m → a ∷ m ≡ l → rests_from s ids (suc n) at ≡ rests s ids l
    again a r m h f is = rw (h, ← is) (both (among (hash_at s a.parent) ids) (rests_from s ids n r) (rests s ids m) f)

module _ (s roots : List ℕ) (room : ℕ) (b : Beef) (read : BeefRead room s b) where
  -- what the code holds of the BUMPs
  abbrev heads : List BumpHead
  heads = padded MAX_BUMPS no_bump (map head_of b.bumps)

  abbrev nth : ℕ → BeefEntry
  nth k = get_or b.entries k empty_entry

  bump-read : (n : ℕ) → n < length b.bumps → (q : ℕ) × BumpRead s q (nth_bump b.bumps n)
  bump-read n low = let x = read.bump n empty_bump low in (x.next, bump-told s x.at x.read)

  module _ (k : ℕ) (low : k < length b.entries) where
    entry : EntryRead (length b.bumps) s (nth k)
    entry = read.entry k empty_entry low

    tx : TxRead true s (nth k).transaction.start (nth k).transaction.end (nth k).transaction
    tx = tx_told s (nth k).transaction.start entry.transaction

    same_total : head_total s (tx_head_of (nth k).transaction) ≡ total (nth k).transaction.outputs
    unfolding outputs_field
    same_total = total-again s (length (nth k).transaction.outputs) 0 (nth k).transaction.outputs_at tx.outputs-read ∙ omega arith

    same_id : head_id s (entry_head_of (nth k)) ≡ entry_id s (nth k)
    same_id = tx_hash s (nth k).transaction tx read.size

    anchors_agree : (earlier : List (List ℕ)) (x : Option ℕ) → (nth k).anchor ≡ x
        → head_anchoring s roots heads earlier (entry_id s (nth k)) (tx_head_of (nth k).transaction) x ≡ first_anchoring s roots b.bumps earlier (nth k) x
    unfolding head_anchoring first_anchoring head_proving proving bump_path_of
    anchors_agree earlier (Some n) h =
        let few : n < length b.bumps = entry.anchored n h in
        let less : n < MAX_BUMPS = let f = read.bumps-low in omega arith in
        let id : List ℕ = entry_id s (nth k) in
        ap (λ (t : Bool). pick t (trusted roots n (head_proving s (get_or heads n no_bump) id)) (Err (carrying BAD_INDEX 0))) (lt-ltb n MAX_BUMPS less)
        ∙ ap (λ (m : BumpHead). trusted roots n (head_proving s m id)) (padded-at MAX_BUMPS no_bump head_of b.bumps n empty_bump few)
        ∙ ap (trusted roots n) (bump_path_proves s id (nth_bump b.bumps n) (bump-read n few).1)
    anchors_agree earlier None h = ap (λ (t : Bool). pick t (Ok (standing 0 0 0)) (Err (carrying NO_PARENT 0))) (rests-again s earlier (length (nth k).transaction.inputs) (nth k).transaction.inputs_at tx.inputs_read)

    same-ruling : (earlier : List (List ℕ)) → head_stands s roots heads earlier (entry_head_of (nth k)) ≡ first_ruling s roots b.bumps earlier (nth k)
    unfolding head_ruling first_ruling
    same-ruling earlier =
        ap (λ (x : List ℕ). head_ruling s roots heads earlier x (entry_head_of (nth k))) same_id
        ∙ ap (pick (among (entry_id s (nth k)) earlier) (Err (carrying SAME_TX 0))) (anchors_agree earlier (nth k).anchor refl)

    -- the mark and the BUMP's number fit the record's fields
    fits : (earlier : List (List ℕ)) (st : Standing) → first_ruling s roots b.bumps earlier (nth k) ≡ Ok st → (st.anchored < U32) × (st.bump < U32)
    unfolding first_ruling first_anchoring
    fits earlier st e = go (among (entry_id s (nth k)) earlier) e
      where
        anchored : (x : Option ℕ) → (nth k).anchor ≡ x → first_anchoring s roots b.bumps earlier (nth k) x ≡ Ok st → (st.anchored < U32) × (st.bump < U32)
        anchored (Some m) h q =
            let w = trusted-told roots m (proving s (nth_bump b.bumps m) (entry_id s (nth k))) st q in
            let few : m < length b.bumps = entry.anchored m h in
            let low = read.bumps-low in
            let one = ap (λ (x : Standing). x.anchored) w.3 in
            let is = ap (λ (x : Standing). x.bump) w.3 in
            (omega arith, omega arith)
        anchored None h q = free (rests s earlier (nth k).transaction.inputs) q
          where
            free : (t : Bool) → pick t (Ok (standing 0 0 0)) (Err (carrying NO_PARENT 0)) ≡ Ok st → (st.anchored < U32) × (st.bump < U32)
            free true m =
                let none : standing 0 0 0 ≡ st = cc in
                let y = ap (λ (x : Standing). x.anchored) none in
                let z = ap (λ (x : Standing). x.bump) none in
                (omega arith, omega arith)
            free false m = absurd (let z : ◌≡◌ {A = ℕ} 0 1 = cc in omega arith)

        go : (t : Bool) → pick t (Err (carrying SAME_TX 0)) (first_anchoring s roots b.bumps earlier (nth k) (nth k).anchor) ≡ Ok st → (st.anchored < U32) × (st.bump < U32)
        go true m = absurd (let z : ◌≡◌ {A = ℕ} 0 1 = cc in omega arith)
        go false m = anchored (nth k).anchor refl m

    same_row : (earlier : List (List ℕ)) (st : Standing) → first_ruling s roots b.bumps earlier (nth k) ≡ Ok st → head_row s (entry_head_of (nth k)) st ≡ entry_row s (nth k) st
    unfolding entry_row flat_head
    same_row earlier st e =
        let f = fits earlier st e in
        let id : List ℕ = entry_id s (nth k) in
        ap (λ (x : List ℕ). flat_head x (numbers_of (tx_head_of (nth k).transaction) (head_total s (tx_head_of (nth k).transaction)) st)) same_id
        ∙ ap (λ (x : List ℕ). row x (head_total s (tx_head_of (nth k).transaction)) (st.anchored % U32) (st.bump % U32)) (take_all 32 id (let z = span-length s (nth k).transaction.start (nth k).transaction.end in let y = ap length same_id in omega arith))
        ∙ ap (λ (x : ℕ). row id x (st.anchored % U32) (st.bump % U32)) same_total
        ∙ ap (λ (x : ℕ). row id (total (nth k).transaction.outputs) x (st.bump % U32)) (mod-eq_of_lt f.0)
        ∙ ap (row id (total (nth k).transaction.outputs) st.anchored) (mod-eq_of_lt f.1)
      where
        row : List ℕ → ℕ → ℕ → ℕ → Record
        row id v a n = record {
          start = (nth k).transaction.start;
          length = (nth k).transaction.end - (nth k).transaction.start;
          id = id;
          anchored = a;
          bump = n;
          position = st.position;
          outputs = length (nth k).transaction.outputs;
          total = v;
        }

  -- judged by heads as by entries
  pub heads_judged : judge_from (head_id s) (head_stands s roots heads) (head_row s) [] (map entry_head_of b.entries) ≡ first_pass s roots b
  heads_judged =
      from_map entry_head_of (head_id s) (head_stands s roots heads) (head_row s) [] b.entries
      ∙ from_same (λ x. head_id s (entry_head_of x)) (entry_id s) (λ ids x. head_stands s roots heads ids (entry_head_of x)) (first_ruling s roots b.bumps) (λ x. head_row s (entry_head_of x)) (entry_row s) empty_entry [] b.entries
      (λ k low. record { ids = same_id k low; rulings = same-ruling k low; rows = same_row k low })

  -- what is written of heads is written of entries
  written-filled : {ids numbers : List ℕ} {n : ℕ} → Written s ids numbers (map entry_head_of b.entries) n → Filled s roots room b read ids numbers n
  written-filled {ids} {numbers} {n} w = record {
    few = few;
    wide = w.wide;
    long = w.long;
    ids_are = w.ids_are ∙ ap (map (head_id s)) (take-map entry_head_of n b.entries) ∙ same_ids;
    flag = λ k h. (row k h).flag;
    outputs = λ k h. (row k h).outputs;
    totals = λ k h. (row k h).totals ∙ same_total k (omega (arith, h, few));
    inputs = λ k h. (row k h).inputs;
    inputs_at = λ k h. (row k h).inputs_at;
    outputs_at = λ k h. (row k h).outputs_at;
  }
    where
      few : n ≤ length b.entries
      few = omega (arith, w.few, length-map b.entries entry_head_of)

      row : (k : ℕ) → k < n → RowIs s numbers k (entry_head_of (nth k))
      row k h = subst (RowIs s numbers k) (map_at entry_head_of b.entries k empty_entry no_head (omega (arith, h, few))) (w.row_is k h)

      same_ids : map (head_id s) (map entry_head_of (take n b.entries)) ≡ map (entry_id s) (take n b.entries)
      same_ids = ext_get_or [] (map (head_id s) (map entry_head_of (take n b.entries))) (map (entry_id s) (take n b.entries))
          (length-map (map entry_head_of (take n b.entries)) (head_id s) ∙ length-map (take n b.entries) entry_head_of ∙ sym (length-map (take n b.entries) (entry_id s)))
          (λ k h.
          let low : k < length (take n b.entries) = omega (arith, h, length-map (map entry_head_of (take n b.entries)) (head_id s), length-map (take n b.entries) entry_head_of) in
          let less : k < n = omega (arith, low, length-take n b.entries) in
          map_at (head_id s) (map entry_head_of (take n b.entries)) k no_head [] (omega (arith, low, length-map (take n b.entries) entry_head_of))
          ∙ ap (head_id s) (map_at entry_head_of (take n b.entries) k empty_entry no_head low ∙ ap entry_head_of (get_or-take n b.entries k empty_entry less))
          ∙ same_id k (omega (arith, less, few))
          ∙ sym (map_at (entry_id s) (take n b.entries) k empty_entry [] low ∙ ap (entry_id s) (get_or-take n b.entries k empty_entry less)))

-- ---- a whole input

-- transactions that were read are the same when they are read again
pub heads_again : (bumps : ℕ) (s : List ℕ) (n at : ℕ) {l : List BeefEntry} {q : ℕ} → times (entry_field bumps) n s at ≡ ok l q → heads_from bumps s n at ≡ map entry_head_of l
unfolding many each heads_from
heads_again bumps s zero at {l} e = let none : [] ≡ l = cc in rw (← none)
heads_again bumps s (suc n) at {l} e =
    let x = many-told {S = Unit {0}} (λ _. entry_field bumps) (λ u _. u) n tt s at e in
    more x.0 x.1 x.2 x.3 (heads_again bumps s n x.1 x.4) x.5
  where
    more : (a : BeefEntry) (r : ℕ) (m : List BeefEntry) → entry_field bumps s at ≡ ok a r → heads_from bumps s n r ≡ map entry_head_of m → a ∷ m ≡ l → heads_from bumps s (suc n) at ≡ map entry_head_of l
    more a r m h f is = rw (h, f, ← is)

-- how many passed, by the verdict
pub reached-is : (v : Verdict) (ids numbers : List ℕ) → reached_by v ≡ reached_from 0 (judgement_of v ids numbers)
unfolding judgement_of reached_from
reached-is (Ok n) ids numbers = sym (let z = flat-length n ids numbers in omega arith)
reached-is (Err x) ids numbers = refl

module _ (s roots : List ℕ) (fee room : ℕ) where
  pub judge_long : MAX_INPUT < length s → refused (carrying TOO_LONG 0) ≡ judge_beef s roots fee room
  unfolding judge_up_to
  judge_long h = simp (lt-leb _ _ h)

  module _ (fits : length s ≤ MAX_INPUT) where
    pub judge_roots : (length roots % 32 ≡ 0 → ⊥) → refused (carrying BAD_ROOTS 0) ≡ judge_beef s roots fee room
    unfolding judge_up_to
    judge_roots h = simp (le-leb _ _ fits, ne_eqb _ _ h)

    module _ (even : length roots % 32 ≡ 0) where
      pub judge_refused : (x : ReadRefusal) → each bundle_of (beef_whole room s) ≡ fault (refusal_number x.refusal) x.place → refused (refused_reading x) ≡ judge_beef s roots fee room
      unfolding judge_up_to judge_read
      judge_refused x e = simp (le-leb _ _ fits, eq-eqb _ _ even, each-fault bundle_of (beef_whole room s) e)

      pub judge_read_lem : (h : Bundle) (q : ℕ) → each bundle_of (beef_whole room s) ≡ ok h q
          → (v : Verdict) (ids numbers : List ℕ) (f : Checked)
          → judgement_of v ids numbers ≡ judge_from (head_id s) (head_stands s roots h.bumps) (head_row s) [] (heads_from h.head.bumps s h.head.transactions h.head.entries.at)
          → Written s ids numbers (heads_from h.head.bumps s h.head.transactions h.head.entries.at) (reached_by v) → Answers s ids numbers fee (reached_by v) f
          → settled (amounts_of f) (judgement_of v ids numbers) ≡ judge_beef s roots fee room
      unfolding judge_up_to judge_read
      judge_read_lem h q e v ids numbers f judged written answers =
          let w = each-ok bundle_of (beef_whole room s) e in
          outcome w.0 w.1 w.2 (beef-told room s w.1)
        where
          outcome : (b : Beef) → beef_whole room s ≡ ok b q → bundle_of b ≡ h → BeefRead room s b → settled (amounts_of f) (judgement_of v ids numbers) ≡ judge_beef s roots fee room
          outcome b g is read =
              let again : heads_from h.head.bumps s h.head.transactions h.head.entries.at ≡ map entry_head_of b.entries =
              ap (λ (k : Bundle). heads_from k.head.bumps s k.head.transactions k.head.entries.at) (sym is) ∙ heads_again (length b.bumps) s (length b.entries) (first_at b.entries) read.entries in
              let first : judgement_of v ids numbers ≡ first_pass s roots b =
              judged
              ∙ ap (λ (m : List BumpHead). judge_from (head_id s) (head_stands s roots m) (head_row s) [] (heads_from h.head.bumps s h.head.transactions h.head.entries.at)) (sym (ap (λ (k : Bundle). k.bumps) is))
              ∙ ap (judge_from (head_id s) (head_stands s roots (padded MAX_BUMPS no_bump (map head_of b.bumps))) (head_row s) []) again
              ∙ heads_judged s roots room b read in
              let count : reached_by v ≡ passed s roots b = reached-is v ids numbers ∙ ap (reached_from 0) first in
              ap (settled (amounts_of f)) first
              ∙ sym (judged_in_two s roots room b read ids numbers (reached_by v) (written-filled s roots room b read (subst (λ (l : List EntryHead). Written s ids numbers l (reached_by v)) again written)) count fee f answers)
              ∙ sym (simp (le-leb _ _ fits, eq-eqb _ _ even, g))

-- a bundle that was read has no more transactions than the flat form
pub read-few : (s : List ℕ) (room : ℕ) (h : Bundle) (q : ℕ) → each bundle_of (beef_whole room s) ≡ ok h q → h.head.transactions ≤ MAX_TXS
read-few s room h q e =
    let w = each-ok bundle_of (beef_whole room s) e in
    few w.0 w.2 (beef-told room s w.1)
  where
    few : (b : Beef) → bundle_of b ≡ h → BeefRead room s b → h.head.transactions ≤ MAX_TXS
    few b is read = let low = read.entries-low in let same = ap (λ (k : Bundle). k.head.transactions) is in omega arith

-- nor more BUMPs than their heads have room
pub read_low : (s : List ℕ) (room : ℕ) (h : Bundle) (q : ℕ) → each bundle_of (beef_whole room s) ≡ ok h q → h.head.bumps ≤ MAX_BUMPS
read_low s room h q e =
    let w = each-ok bundle_of (beef_whole room s) e in
    low w.0 w.2 (beef-told room s w.1)
  where
    low : (b : Beef) → bundle_of b ≡ h → BeefRead room s b → h.head.bumps ≤ MAX_BUMPS
    low b is read = let few = read.bumps-low in let same = ap (λ (k : Bundle). k.head.bumps) is in omega arith

-- and all of them can be read again
pub read-every : (s : List ℕ) (room : ℕ) (h : Bundle) (q : ℕ) → each bundle_of (beef_whole room s) ≡ ok h q → length (heads_from h.head.bumps s h.head.transactions h.head.entries.at) ≡ h.head.transactions
read-every s room h q e =
    let w = each-ok bundle_of (beef_whole room s) e in
    every w.0 w.2 (beef-told room s w.1)
  where
    every : (b : Beef) → bundle_of b ≡ h → BeefRead room s b → length (heads_from h.head.bumps s h.head.transactions h.head.entries.at) ≡ h.head.transactions
    every b is read = rw (← is) (ap length (heads_again (length b.bumps) s (length b.entries) (first_at b.entries) read.entries) ∙ length-map b.entries entry_head_of)

pub answers_at : (s ids numbers : List ℕ) (fee : ℕ) (f : Checked) {k n : ℕ} → k ≡ n → Answers s ids numbers fee k f → Answers s ids numbers fee n f
answers_at s ids numbers fee f e a = rw (← e) a

-- the verdict after what 26, 27 and 28 say
pub settle-none : (v : Verdict) {f : Checked} {u : Unit {0}} → f ≡ Ok u → (ids numbers : List ℕ) → judgement_of v ids numbers ≡ settled (amounts_of f) (judgement_of v ids numbers)
unfolding amounts_of settled
settle-none v e ids numbers = rw e

pub settle-fault : (v : Verdict) {f : Checked} {why : Rejection} → f ≡ Err why → (ids numbers : List ℕ) → judgement_of (Err why) ids numbers ≡ settled (amounts_of f) (judgement_of v ids numbers)
unfolding amounts_of settled judgement_of
settle-fault v e ids numbers = rw e
