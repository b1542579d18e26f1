-- What the code adds up of a bundle that was read is its hash work.
use Prim.Native.Nat.{ℕ, zero, suc, ◌+◌, ◌-◌, ◌*◌, ◌/◌, ◌%◌, ◌≤◌, ◌<◌}
use mathlib.Core.Path.{◌≡◌, refl, sym, ap, ◌∙◌, subst}
use mathlib.Core.Bool.{Bool, true, false}
use mathlib.Core.List.{List, [], ◌∷◌, ◌++◌, map}
use native.Mathlib.Omega.{arith}
use native.Mathlib.Nat.{mod-eq_of_lt}
use lib.Dec.{ltb, eqb}
use lib.ListN.{length, get_or, take, length-map}
use lib.Seq.{take_all}
use borrow.Author.Tests.{lt-leb, le-leb, eq-eqb, ne_eqb, ltb-true, ltb-false, eqb-true, eqb-false}
use Rattle.hash.specs.Sha256.{sha256d}
use Rattle.format.specs.declared.bump.BumpHead.{BumpHead}
use Rattle.format.specs.declared.refusal.ReadRefusal.{ReadRefusal}
use Rattle.format.specs.declared.beef.Bundle.{Bundle}
use Rattle.format.specs.declared.beef.EntryHead.{EntryHead}
use Rattle.format.specs.Parse.{Parse, ok, fault, pick, each}
use Rattle.format.proofs.ParseLaws.{each-ok, each-fault}
use Rattle.format.specs.Bump.{head_of}
use Rattle.format.proofs.BumpLaws.{bump-told}
use Rattle.format.specs.Padded.{padded}
use Rattle.format.proofs.Gather.{padded-at}
use Rattle.format.specs.Beef.{BeefEntry, Beef, beef_whole}
use Rattle.format.specs.BeefAnswer.{no_bump, entry_head_of, first_at, bundle_of}
use Rattle.format.proofs.BeefLaws.{BeefRead, beef-told}
use Rattle.format.proofs.TransactionLaws.{tx_told}
use Rattle.format.proofs.IdLaws.{tx_hash}
use Rattle.format.specs.Refusals.{MAX_BUMPS, MAX_INPUT, SAME_TX, NOT_LISTED, UNTRUSTED, refusal_number}
use Rattle.path.specs.Path.{bump_path_of, bump_path, leaf_in, start_in}
use Rattle.path.specs.Search.{least_offset}
use Rattle.path.proofs.PathLaws.{bump-start_in}
use Rattle.spv.specs.declared.rejection.Rejection.{Rejection}
use Rattle.spv.specs.Result.{Result, accepted, refused, carrying, at_sibling}
use Rattle.spv.specs.Climb.{Siblings, sibling_position, odd, Step, joins, fails, step, ascend_by, ascend, end_by, end_of}
use Rattle.spv.proofs.ClimbLaws.{ascend-joins, ascend-fails}
use Rattle.spv.specs.Readings.{starting, levels_reading}
use Rattle.spv.proofs.ReadingsLaws.{bump-leads}
use Rattle.spv.specs.Siblings.{sibling, written_by, find_in, level_siblings}
use Rattle.spv.specs.Hashes.{hashes_of, among}
use Rattle.climbs.specs.Count.{start_cost}
use Rattle.climbs.specs.Proofs.{joins_in}
use Rattle.climbs.proofs.CountLaws.{start-same}
use Rattle.climbs.proofs.RowLaws.{fails-number}
use Rattle.bundle.specs.Amounts.{Payment, payment_of, ids_of}
use Rattle.bundle.specs.Windows.{sum_to}
use Rattle.bundle.specs.declared.table.Record.{Record}
use Rattle.bundle.specs.declared.ids.NamedSpan.{NamedSpan}
use Rattle.bundle.specs.declared.judge.Standing.{Standing}
use Rattle.bundle.specs.Bundle.{trusted, proving, nth_bump, empty_bump, entry_id, anchoring, ruling, entry_row, Judgement, ahead, judge_from, judge_entries, judge_read, judge_beef, judge_up_to, Ruling, standing, Verdict}
use Rattle.bundle.proofs.BundleLaws.{from_refuses, from_passes, accepted-length}
use Rattle.bundle.proofs.BundleTheorems.{empty_entry}
use Rattle.bundle.specs.BundleHeads.{head_id, heads_from, no_head}
use Rattle.bundle.specs.Table.{blank_record, flat}
use Rattle.bundle.proofs.TableLaws.{flat-length}
use Rattle.bundle.specs.BundleAnswer.{judgement_of, reached_by}
use Rattle.bundle.proofs.BundleRead.{heads_again, reached-is}
use Rattle.bundle.proofs.Phases.{pass_count, reached_from, count-reached}
use Rattle.bundle.specs.Ahead.{anchor_of, span_of, entry_at, span_at, span_id, AnchorsFrom}
use Rattle.bundle.proofs.AheadLaws.{first-at, later_at}
use Rattle.bundle.specs.Anchored.{joins_at, mined_joins, JoinsFrom}
use Rattle.spv.proofs.RowsLaws.{map_at}
use Rattle.bundle.specs.Work.{JOIN, id_work, sum_of, ids_work, bump_cost, anchor_cost, ruling_cost, cost_from, entries_work, read_work, judge_work}
use Rattle.bundle.proofs.WorkLaws.{cost_refuses, cost_passes}
use Rattle.bundle.proofs.WorkFits.{entry_fits}
use Rattle.bundle.specs.WorkMade.{span_work, ids_made, kept_joins, climbs_before, climbs_made}
use Rattle.bundle.proofs.WorkMadeLaws.{span-counted, sum_below, kept-none, kept-some, before-past, before-again, before_own}
use Rattle.spv.specs.Prove.{hits, settle, proof_of, prove_by, prove, any}
use Rattle.std.specs.Prelude.{Ok, Err, Option, Some, None}

-- ---- climbs up to a refusal, by the judgement

-- the refused one's own climb is made, but for 19
unfoldable pub own_climb : Judgement → ℕ
own_climb (accepted records) = 0
own_climb (refused why) = pick (eqb why.number SAME_TX) 0 1

own_ahead : (r : Record) (j : Judgement) → own_climb (ahead r j) ≡ own_climb j
unfolding own_climb ahead
own_ahead r (refused why) = refl
own_ahead r (accepted l) = refl

module _ {A B : Type 0} (known : A → B) (stands : List B → A → Ruling) (row : A → Standing → Record) (cost : List B → A → ℕ) (plain : A → ℕ)
    (passing : (earlier : List B) (x : A) (st : Standing) → stands earlier x ≡ Ok st → cost earlier x ≡ plain x)
    (refusing : (earlier : List B) (x : A) (why : Rejection) → stands earlier x ≡ Err why → cost earlier x ≡ pick (eqb why.number SAME_TX) 0 (plain x)) where
  pub from_cost : (earlier : List B) (l : List A) → cost_from known stands cost earlier l ≡ sum_of plain (take (pass_count known stands earlier l + own_climb (judge_from known stands row earlier l)) l)
  unfolding cost_from sum_of pass_count judge_from own_climb
  from_cost earlier [] = refl
  from_cost earlier (x ∷ l) = go (stands earlier x) refl (from_cost (earlier ++ (known x ∷ [])) l)
    where
      alone : (t : Bool) → pick t 0 (plain x) ≡ sum_of plain (take (0 + pick t 0 1) (x ∷ l))
      alone true = refl
      alone false = omega arith

      go : (t : Ruling) → stands earlier x ≡ t
          → cost_from known stands cost (earlier ++ (known x ∷ [])) l ≡ sum_of plain (take (pass_count known stands (earlier ++ (known x ∷ [])) l + own_climb (judge_from known stands row (earlier ++ (known x ∷ [])) l)) l)
          → cost_from known stands cost earlier (x ∷ l) ≡ sum_of plain (take (pass_count known stands earlier (x ∷ l) + own_climb (judge_from known stands row earlier (x ∷ l))) (x ∷ l))
      go (Err why) e rest =
          let none : pass_count known stands earlier (x ∷ l) ≡ 0 = rw (pass_count, e) in
          cost_refuses known stands cost earlier x l why e ∙ refusing earlier x why e ∙ alone (eqb why.number SAME_TX)
          ∙ sym (ap (λ (n : ℕ). sum_of plain (take (n + own_climb (judge_from known stands row earlier (x ∷ l))) (x ∷ l))) none
          ∙ ap (λ (j : Judgement). sum_of plain (take (0 + own_climb j) (x ∷ l))) (from_refuses known stands row earlier x l why e))
      go (Ok st) e rest =
          let J : Judgement = judge_from known stands row (earlier ++ (known x ∷ [])) l in
          let P : ℕ = pass_count known stands (earlier ++ (known x ∷ [])) l in
          let more : pass_count known stands earlier (x ∷ l) ≡ suc P = rw (pass_count, e) in
          let own : own_climb (judge_from known stands row earlier (x ∷ l)) ≡ own_climb J = ap own_climb (from_passes known stands row earlier x l st e) ∙ own_ahead (row x st) J in
          let count : pass_count known stands earlier (x ∷ l) + own_climb (judge_from known stands row earlier (x ∷ l)) ≡ suc (P + own_climb J) = omega arith in
          cost_passes known stands cost earlier x l st e ∙ ap (λ (n : ℕ). n + cost_from known stands cost (earlier ++ (known x ∷ [])) l) (passing earlier x st e)
          ∙ ap (λ (n : ℕ). plain x + n) rest
          ∙ sym (ap (λ (m : ℕ). sum_of plain (take m (x ∷ l))) count)

-- ---- 19 is no climb's number

end-number : (σ : Siblings) (k n j : ℕ) (c : List ℕ) (why : Rejection) → end_of c (ascend σ k n j c) ≡ refused why → (why.number ≡ SAME_TX → ⊥)
unfolding ascend_by end_by
end-number σ k zero j c why e = let z : ◌≡◌ {A = ℕ} 0 1 = cc in absurd (omega arith)
end-number σ k (suc n) j c why e = go (step (σ k (sibling_position j)) (odd j) c) refl (λ d. end-number σ (suc k) n (j / 2) d why)
  where
    go : (t : Step) → step (σ k (sibling_position j)) (odd j) c ≡ t → ((d : List ℕ) → end_of d (ascend σ (suc k) n (j / 2) d) ≡ refused why → (why.number ≡ SAME_TX → ⊥)) → (why.number ≡ SAME_TX → ⊥)
    go (joins a b) q above = above (sha256d (a ++ b)) (sym (ap (end_of c) (ascend-joins σ k n j c a b q)) ∙ e)
    go (fails number) q above =
        let w : refused (at_sibling number k (sibling_position j)) ≡ refused why = sym (ap (end_of c) (ascend-fails σ k n j c number q)) ∙ e in
        let y : number ≡ why.number = cc in
        let m = fails-number (σ k (sibling_position j)) (odd j) c number q in
        λ z. omega arith

start-number : (roots : List ℕ) (bump : ℕ) (σ : Siblings) (h : ℕ) (id : List ℕ) (start : Option ℕ) (why : Rejection) → trusted roots bump (prove (starting σ h id start)) ≡ Err why → (why.number ≡ SAME_TX → ⊥)
unfolding starting prove_by settle hits trusted
start-number roots bump σ h id None why e = let y : NOT_LISTED ≡ why.number = cc in λ z. omega arith
start-number roots bump σ h id (Some i) why e = go (end_of id (ascend σ 0 h i id)) refl e
  where
    listed : (t : Bool) (p : ℕ) → pick t (Ok (standing 1 bump p)) (Err (carrying UNTRUSTED 0)) ≡ Err why → (why.number ≡ SAME_TX → ⊥)
    listed true p q = let z : ◌≡◌ {A = ℕ} 0 1 = cc in absurd (omega arith)
    listed false p q = let y : UNTRUSTED ≡ why.number = cc in λ z. omega arith

    go : (v : Result (List ℕ)) → end_of id (ascend σ 0 h i id) ≡ v → trusted roots bump (settle any (proof_of σ h i id) v) ≡ Err why → (why.number ≡ SAME_TX → ⊥)
    go (accepted r) f q = listed (among r (hashes_of roots)) i q
    go (refused x) f q = let y : x ≡ why = cc in end-number σ 0 h i id why (f ∙ ap refused y)

module _ (s roots : List ℕ) (fee : ℕ) (b : Beef) where
  -- the joins of a transaction's climb, if it is made
  abbrev plain : BeefEntry → ℕ
  plain e = anchor_cost s b.bumps (entry_id s e) e.anchor

  passing : (earlier : List Payment) (e : BeefEntry) (st : Standing) → ruling s roots fee b.bumps earlier e ≡ Ok st → ruling_cost s b.bumps earlier e ≡ plain e
  unfolding ruling ruling_cost
  passing earlier e st h = go (among (entry_id s e) (ids_of earlier)) h
    where
      go : (t : Bool) → pick t (Err (carrying SAME_TX 0)) (anchoring s roots fee b.bumps earlier e e.anchor) ≡ Ok st → pick t 0 (plain e) ≡ plain e
      go true q = let z : ◌≡◌ {A = ℕ} 0 1 = cc in absurd (omega arith)
      go false q = refl

  refusing : (earlier : List Payment) (e : BeefEntry) (why : Rejection) → ruling s roots fee b.bumps earlier e ≡ Err why → ruling_cost s b.bumps earlier e ≡ pick (eqb why.number SAME_TX) 0 (plain e)
  unfolding ruling ruling_cost anchoring anchor_cost proving levels_reading
  refusing earlier e why h = go (among (entry_id s e) (ids_of earlier)) e.anchor h
    where
      either : (t : Bool) → ◌≡◌ {A = ℕ} 0 (pick t 0 0)
      either true = refl
      either false = refl

      go : (t : Bool) (x : Option ℕ) → pick t (Err (carrying SAME_TX 0)) (anchoring s roots fee b.bumps earlier e x) ≡ Err why
          → pick t 0 (anchor_cost s b.bumps (entry_id s e) x) ≡ pick (eqb why.number SAME_TX) 0 (anchor_cost s b.bumps (entry_id s e) x)
      go true x q =
          let y : SAME_TX ≡ why.number = cc in
          sym (ap (λ (t : Bool). pick t 0 (anchor_cost s b.bumps (entry_id s e) x)) (eq-eqb why.number SAME_TX (sym y)))
      go false (Some m) q =
          let levels = (nth_bump b.bumps m).levels in
          let no = start-number roots m (level_siblings s levels) (nth_bump b.bumps m).height (entry_id s e) (least_offset s (entry_id s e) (get_or levels 0 [])) why q in
          sym (ap (λ (t : Bool). pick t 0 (anchor_cost s b.bumps (entry_id s e) (Some m))) (ne_eqb why.number SAME_TX no))
      go false None q = either (eqb why.number SAME_TX)

-- ---- sums by place

sum_first : (f : ℕ → ℕ) (n : ℕ) → sum_to f (suc n) ≡ f 0 + sum_to (λ k. f (suc k)) n
unfolding sum_to
sum_first f zero = omega arith
sum_first f (suc n) = let e = sum_first f n in omega arith

sum-taken : {A : Type 0} (f : A → ℕ) (d : A) (l : List A) (m : ℕ) → m ≤ length l → sum_of f (take m l) ≡ sum_to (λ k. f (get_or l k d)) m
unfolding sum_of sum_to
sum-taken f d l zero h = refl
sum-taken f d [] (suc m) h = absurd (omega arith)
sum-taken f d (x ∷ l) (suc m) h = ap (λ (n : ℕ). f x + n) (sum-taken f d l m (omega arith)) ∙ sym (sum_first (λ k. f (get_or (x ∷ l) k d)) m)

-- ---- where the transactions lie

heads_on : (count : ℕ) (s : List ℕ) (n at : ℕ) {e : EntryHead} {next : ℕ} → entry_at count s at ≡ ok e next → heads_from count s (suc n) at ≡ e ∷ heads_from count s n next
unfolding heads_from
heads_on count s n at read = rw read

heads_off : (count : ℕ) (s : List ℕ) (n at : ℕ) {k q : ℕ} → entry_at count s at ≡ fault k q → heads_from count s (suc n) at ≡ []
unfolding heads_from
heads_off count s n at read = rw read

span_head : (count : ℕ) (s : List ℕ) (n at k : ℕ) → k < length (heads_from count s n at) → span_at count s at k ≡ span_of (get_or (heads_from count s n at) k no_head)
span_head count s zero at k h = absurd (let none : heads_from count s 0 at ≡ [] = unfold heads_from in refl in let z = ap length none in omega arith)
span_head count s (suc n) at k h = go (entry_at count s at) refl k h (λ next j l. span_head count s n next j l)
  where
    go : (r : Parse EntryHead) → entry_at count s at ≡ r → (k : ℕ) → k < length (heads_from count s (suc n) at) → ((next j : ℕ) → j < length (heads_from count s n next) → span_at count s next j ≡ span_of (get_or (heads_from count s n next) j no_head))
        → span_at count s at k ≡ span_of (get_or (heads_from count s (suc n) at) k no_head)
    go (ok e next) q zero l rest = first-at count s at q ∙ sym (ap (λ (m : List EntryHead). span_of (get_or m 0 no_head)) (heads_on count s n at q))
    go (ok e next) q (suc j) l rest =
        let size = ap length (heads_on count s n at q) in
        later_at count s at q j ∙ rest next j (omega arith) ∙ sym (ap (λ (m : List EntryHead). span_of (get_or m (suc j) no_head)) (heads_on count s n at q))
    go (fault p r) q j l rest = absurd (let size = ap length (heads_off count s n at q) in omega arith)

-- ---- a bundle that was read

module _ (s roots : List ℕ) (fee room : ℕ) (b : Beef) (read : BeefRead room s b) where
  abbrev nth : ℕ → BeefEntry
  nth k = get_or b.entries k empty_entry

  abbrev heads : List BumpHead
  heads = padded MAX_BUMPS no_bump (map head_of b.bumps)

  abbrev count : ℕ
  count = length b.bumps

  abbrev many : ℕ
  many = length b.entries

  abbrev place : ℕ
  place = first_at b.entries

  span-is : (k : ℕ) → k < many → span_at count s place k ≡ span_of (entry_head_of (nth k))
  span-is k low =
      let again = heads_again count s many place read.entries in
      let size = ap length again ∙ length-map b.entries entry_head_of in
      span_head count s many place k (omega arith) ∙ ap (λ (l : List EntryHead). span_of (get_or l k no_head)) again ∙ ap span_of (map_at entry_head_of b.entries k empty_entry no_head low)

  -- ids
  id-is : (k : ℕ) → k < many → span_work (span_at count s place k) ≡ id_work ((nth k).transaction.end - (nth k).transaction.start)
  unfolding span_of
  id-is k low =
      let t = tx_told s (nth k).transaction.start (read.entry k empty_entry low).transaction in
      let forward = t.forward in
      let inside = t.inside in
      let size = read.size in
      ap span_work (span-is k low) ∙ span-counted (span_of (entry_head_of (nth k))) (omega arith) (omega arith)

  ids_made_lem : ids_made count s place many ≡ ids_work b.entries
  unfolding ids_made ids_work
  ids_made_lem =
      sum_below (λ k. span_work (span_at count s place k)) (λ k. id_work ((nth k).transaction.end - (nth k).transaction.start)) many id-is
      ∙ sym (sum-taken (λ (e : BeefEntry). id_work (e.transaction.end - e.transaction.start)) empty_entry b.entries many (omega arith))
      ∙ ap (sum_of (λ (e : BeefEntry). id_work (e.transaction.end - e.transaction.start))) (take_all many b.entries (omega arith))

  -- climbs
  mined_cost : (m : ℕ) → m < count → (id : List ℕ) → mined_joins s heads m id ≡ bump_cost s (nth_bump b.bumps m) id
  unfolding mined_joins joins_in bump_cost
  mined_cost m few id =
      let x = read.bump m empty_bump few in
      let r = bump-told s x.at x.read in
      let bump = nth_bump b.bumps m in
      let leads = bump-leads s bump r in
      ap (λ (h : BumpHead). joins_in s (bump_path_of s h) id) (padded-at MAX_BUMPS no_bump head_of b.bumps m empty_bump few)
      ∙ ap (λ (h : ℕ). start_cost (written_by s (leaf_in s (bump_path s bump))) h id (start_in s (bump_path s bump) id)) leads.layers
      ∙ ap (start_cost (written_by s (leaf_in s (bump_path s bump))) bump.height id) (bump-start_in s bump r id)
      ∙ start-same (written_by s (leaf_in s (bump_path s bump))) (written_by s (find_in bump.levels)) bump.height (λ k q l. ap (sibling s) (leads.leaf k q l)) id (least_offset s id (get_or bump.levels 0 []))

  plain-low : (k : ℕ) → k < many → plain s roots fee b (nth k) ≤ 65600
  unfolding ruling_cost among
  plain-low k low = entry_fits room s b read [] (nth k) (read.entry k empty_entry low)

  module _ (anchors ends : List ℕ) (named : AnchorsFrom count s place many anchors) (kept : JoinsFrom count s heads place many ends) (wide : many ≤ length anchors) where
    kept-is : (k : ℕ) → k < many → kept_joins anchors ends k ≡ plain s roots fee b (nth k)
    unfolding AnchorsFrom JoinsFrom span_id span_of anchor_of joins_at anchor_cost
    kept-is k low = go (nth k).anchor refl
      where
        sp : span_at count s place k ≡ span_of (entry_head_of (nth k))
        sp = span-is k low

        an : get_or anchors k 0 ≡ anchor_of (nth k).anchor
        an = named k low (omega arith) ∙ ap (λ (x : NamedSpan). x.anchor) sp

        same_id : head_id s (entry_head_of (nth k)) ≡ entry_id s (nth k)
        same_id = tx_hash s (nth k).transaction (tx_told s (nth k).transaction.start (read.entry k empty_entry low).transaction) read.size

        go : (x : Option ℕ) → (nth k).anchor ≡ x → kept_joins anchors ends k ≡ anchor_cost s b.bumps (entry_id s (nth k)) x
        go None e = let z : get_or anchors k 0 ≡ MAX_BUMPS = an ∙ ap anchor_of e in kept-none anchors ends k (omega arith)
        go (Some m) e =
            let few : m < count = (read.entry k empty_entry low).anchored m e in
            let less = read.bumps-low in
            let z : get_or anchors k 0 ≡ m = an ∙ ap anchor_of e in
            let y : (span_at count s place k).anchor ≡ m = ap (λ (x : NamedSpan). x.anchor) sp ∙ ap anchor_of e in
            let made : get_or ends (4 * k + 3) 0 ≡ bump_cost s (nth_bump b.bumps m) (entry_id s (nth k)) =
            kept k low (omega arith) ∙ ap (λ (j : ℕ). mined_joins s heads j (span_id s (span_at count s place k))) y ∙ ap (λ (x : NamedSpan). mined_joins s heads m (span_id s x)) sp
            ∙ ap (mined_joins s heads m) same_id ∙ mined_cost m few (entry_id s (nth k)) in
            let most : anchor_cost s b.bumps (entry_id s (nth k)) (Some m) ≤ 65600 = subst (λ (x : Option ℕ). anchor_cost s b.bumps (entry_id s (nth k)) x ≤ 65600) e (plain-low k low) in
            kept-some anchors ends k (omega arith) ∙ mod-eq_of_lt (omega arith) ∙ made

    -- the climbs that the verdict counts
    climbs_are : (v : Verdict) (ids numbers : List ℕ) → judgement_of v ids numbers ≡ judge_entries s roots fee b
        → sum_to (kept_joins anchors ends) (climbs_made v many) ≡ cost_from (payment_of s) (ruling s roots fee b.bumps) (ruling_cost s b.bumps) [] b.entries
    unfolding judge_entries judgement_of climbs_made own_climb
    climbs_are v ids numbers judged = all v judged ∙ sym (from_cost (payment_of s) (ruling s roots fee b.bumps) (entry_row s) (ruling_cost s b.bumps) (plain s roots fee b) (passing s roots fee b) (refusing s roots fee b) [] b.entries)
      where
        P : ℕ
        P = pass_count (payment_of s) (ruling s roots fee b.bumps) [] b.entries

        J : Judgement
        J = judge_from (payment_of s) (ruling s roots fee b.bumps) (entry_row s) [] b.entries

        taken : (m : ℕ) → m ≤ many → sum_to (kept_joins anchors ends) m ≡ sum_of (plain s roots fee b) (take m b.entries)
        taken m few =
            sum_below (kept_joins anchors ends) (λ k. plain s roots fee b (nth k)) m (λ k l. kept-is k (omega arith))
            ∙ sym (sum-taken (plain s roots fee b) empty_entry b.entries m few)

        whole : (m : ℕ) → many ≤ m → sum_to (kept_joins anchors ends) many ≡ sum_of (plain s roots fee b) (take m b.entries)
        whole m past = taken many (omega arith) ∙ ap (sum_of (plain s roots fee b)) (take_all many b.entries (omega arith) ∙ sym (take_all m b.entries past))

        reached : (v : Verdict) → judgement_of v ids numbers ≡ judge_entries s roots fee b → P ≡ reached_by v
        reached v e =
            let z : P ≡ 0 + P = omega arith in
            z ∙ count-reached (payment_of s) (ruling s roots fee b.bumps) (entry_row s) [] b.entries ∙ sym (ap (reached_from 0) e) ∙ sym (reached-is v ids numbers)

        own : (v : Verdict) → judgement_of v ids numbers ≡ judge_entries s roots fee b → own_climb J ≡ own_climb (judgement_of v ids numbers)
        own v e = sym (ap own_climb e)

        before : (why : Rejection) → judgement_of (Err why) ids numbers ≡ judge_entries s roots fee b → (t : Bool) → ltb why.carried many ≡ t → (u : Bool) → eqb why.number SAME_TX ≡ u
            → sum_to (kept_joins anchors ends) (climbs_before why many) ≡ sum_of (plain s roots fee b) (take (P + own_climb J) b.entries)
        before why e true p true q =
            let low = ltb-true why.carried many p in
            let r = reached (Err why) e in
            let o : own_climb J ≡ 0 = own (Err why) e ∙ ap (λ (t : Bool). pick t 0 1) q in
            let z : why.carried ≡ P + own_climb J = omega arith in
            ap (sum_to (kept_joins anchors ends)) (before-again why many low (eqb-true why.number SAME_TX q)) ∙ taken why.carried (omega arith) ∙ ap (λ (m : ℕ). sum_of (plain s roots fee b) (take m b.entries)) z
        before why e true p false q =
            let low = ltb-true why.carried many p in
            let r = reached (Err why) e in
            let o : own_climb J ≡ 1 = own (Err why) e ∙ ap (λ (t : Bool). pick t 0 1) q in
            let z : why.carried + 1 ≡ P + own_climb J = omega arith in
            ap (sum_to (kept_joins anchors ends)) (before_own why many low (eqb-false why.number SAME_TX q)) ∙ taken (why.carried + 1) (omega arith) ∙ ap (λ (m : ℕ). sum_of (plain s roots fee b) (take m b.entries)) z
        before why e false p u q =
            let past = ltb-false why.carried many p in
            let r = reached (Err why) e in
            ap (sum_to (kept_joins anchors ends)) (before-past why many past) ∙ whole (P + own_climb J) (omega arith)

        all : (v : Verdict) → judgement_of v ids numbers ≡ judge_entries s roots fee b → sum_to (kept_joins anchors ends) (climbs_made v many) ≡ sum_of (plain s roots fee b) (take (P + own_climb J) b.entries)
        all (Ok n) e =
            let r = reached (Ok n) e in
            let size = accepted-length (payment_of s) (ruling s roots fee b.bumps) (entry_row s) empty_entry blank_record [] b.entries (flat n ids numbers) (sym e) in
            let has = flat-length n ids numbers in
            whole (P + own_climb J) (omega arith)
        all (Err why) e = before why e (ltb why.carried many) refl (eqb why.number SAME_TX) refl

  pub work_is : (v : Verdict) (ids numbers anchors ends : List ℕ) {made : ℕ} → judgement_of v ids numbers ≡ judge_entries s roots fee b → AnchorsFrom count s place many anchors → JoinsFrom count s heads place many ends → many ≤ length anchors
      → made ≡ ids_made count s place many → made + JOIN * sum_to (kept_joins anchors ends) (climbs_made v many) ≡ entries_work s roots fee b
  unfolding entries_work
  work_is v ids numbers anchors ends judged named kept wide e =
      let a = ids_made_lem in
      let c = climbs_are anchors ends named kept wide v ids numbers judged in
      omega arith

-- ---- a whole input

module _ (s roots : List ℕ) (fee room : ℕ) where
  pub work_long : MAX_INPUT < length s → 0 ≡ judge_work s roots fee room
  unfolding judge_work
  work_long h = simp (lt-leb _ _ h)

  module _ (fits : length s ≤ MAX_INPUT) where
    pub work_roots : (length roots % 32 ≡ 0 → ⊥) → 0 ≡ judge_work s roots fee room
    unfolding judge_work
    work_roots h = simp (le-leb _ _ fits, ne_eqb _ _ h)

    module _ (even : length roots % 32 ≡ 0) where
      pub work_refused : (x : ReadRefusal) → each bundle_of (beef_whole room s) ≡ fault (refusal_number x.refusal) x.place → 0 ≡ judge_work s roots fee room
      unfolding judge_work read_work
      work_refused x e = simp (le-leb _ _ fits, eq-eqb _ _ even, each-fault bundle_of (beef_whole room s) e)

      -- what is known of a bundle, and what follows
      abbrev Counts : Verdict → List ℕ → List ℕ → List ℕ → List ℕ → ℕ → Bundle → Type 0
      Counts v ids numbers anchors ends made h =
          AnchorsFrom h.head.bumps s h.head.entries.at h.head.transactions anchors → JoinsFrom h.head.bumps s h.bumps h.head.entries.at h.head.transactions ends → h.head.transactions ≤ length anchors
          → made ≡ ids_made h.head.bumps s h.head.entries.at h.head.transactions → made + JOIN * sum_to (kept_joins anchors ends) (climbs_made v h.head.transactions) ≡ judge_work s roots fee room

      pub work_read : (h : Bundle) (q : ℕ) → each bundle_of (beef_whole room s) ≡ ok h q
          → (v : Verdict) (ids numbers anchors ends : List ℕ) {made : ℕ} → judgement_of v ids numbers ≡ judge_beef s roots fee room → Counts v ids numbers anchors ends made h
      unfolding judge_up_to judge_read judge_work read_work
      work_read h q e v ids numbers anchors ends {made} judged =
          let w = each-ok bundle_of (beef_whole room s) e in
          outcome w.0 w.1 w.2 (beef-told room s w.1)
        where
          outcome : (b : Beef) → beef_whole room s ≡ ok b q → bundle_of b ≡ h → BeefRead room s b → Counts v ids numbers anchors ends made h
          outcome b g is read =
              let by : judgement_of v ids numbers ≡ judge_entries s roots fee b = judged ∙ simp (le-leb _ _ fits, eq-eqb _ _ even, g) in
              let work : judge_work s roots fee room ≡ entries_work s roots fee b = simp (le-leb _ _ fits, eq-eqb _ _ even, g) in
              subst (Counts v ids numbers anchors ends made) is
              (λ named kept wide made-is. work_is s roots fee room b read v ids numbers anchors ends by named kept wide made-is ∙ sym work)
