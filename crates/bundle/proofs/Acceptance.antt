-- When a whole input is accepted, and what acceptance means (01, "The bundle rule"): the rule's conditions hold exactly for the inputs that are accepted,
-- and every chain of parents inside an accepted bundle ends at transactions mined under listed roots.
use Prim.Native.Nat.{ℕ, zero, suc, ◌+◌, ◌%◌, ◌<◌, ◌≤◌}
use mathlib.Core.Path.{◌≡◌, refl, sym, ap, ap₂, ◌∙◌, subst}
use mathlib.Core.Bool.{Bool, true, false}
use mathlib.Core.List.{List, [], ◌∷◌}
use mathlib.Core.Logic.{◌⊎◌, inl, inr, ◌↔◌}
use native.Mathlib.Omega.{arith}
use lib.Dec.{leb, eqb}
use lib.ListN.{length, get_or, length-map}
use lib.Seq.{ext_get_or}
use borrow.Author.Tests.{leb-true, eqb-true, le-leb, eq-eqb}
use Rattle.format.specs.Parse.{Parse, ok, fault, pick, whole}
use Rattle.format.specs.Field.{bytes}
use Rattle.format.specs.Beef.{Beef, version_field, beef_up_to, beef_whole}
use Rattle.format.proofs.BeefLaws.{beef-told}
use Rattle.format.proofs.TransactionLaws.{tx_told}
use Rattle.format.specs.Refusals.{TOO_LONG, BAD_ROOTS, MAX_INPUT}
use Rattle.bundle.specs.declared.table.Record.{Record}
use Rattle.spv.specs.Result.{accepted, refused, carrying}
use Rattle.spv.specs.Prove.{Proof}
use Rattle.bundle.specs.Table.{blank_record}
use Rattle.bundle.specs.Amounts.{Payment, payment_of, is_anchored, spends, anchored_total, unspent_total, lefts}
use Rattle.bundle.proofs.AmountLaws.{no_outpoint}
use Rattle.bundle.proofs.AmountTheorems.{Paid, Leaves, balance, difference, differences_leave, difference_more, spent-once, spent-earlier}
use Rattle.bundle.proofs.AmountsExactly.{Pays, paid-exactly}
use Rattle.spv.proofs.RowsLaws.{map_at}
use Rattle.bundle.specs.Bundle.{proving, nth_bump, ruling, entry_row, judge_entries, judge_read, judge_beef, judge_up_to, standing}
use Rattle.bundle.proofs.BundleLaws.{accepted-length}
use Rattle.bundle.proofs.BundleTheorems.{empty_entry, nth, id_at, inputs_at, New, Mined, Child, Stands, payments, Recorded, accepted_recorded, stands-accepted, accepted-different}
use Rattle.bundle.specs.Payments.{no_payment, Different}

-- ---- accepted exactly when

-- the rule's conditions, in 01's order, and the records that they give: the input has its size, the roots are whole, the bundle is read,
-- and each transaction is new and is mined under a listed root, or has each parent earlier and pays; its record says which
pub record AcceptableWith (s roots : List ℕ) (fee room : ℕ) (records : List Record) : Type 0 where
  pub size : length s ≤ MAX_INPUT
  pub whole_roots : length roots % 32 ≡ 0
  pub bundle : Beef
  pub next : ℕ
  pub read : beef_whole room s ≡ ok bundle next
  pub count : length records ≡ length bundle.entries
  pub each : (k : ℕ) → k < length bundle.entries → New s roots fee bundle k × ((w : Mined s roots fee bundle k ⊎ Child s roots fee bundle k) × Recorded s roots fee bundle records k w)

module _ (s roots : List ℕ) (fee : ℕ) (b : Beef) where
  -- however a transaction stands, its record is one and the same
  one-record : (r q : List Record) (k : ℕ) (w v : Mined s roots fee b k ⊎ Child s roots fee b k) → Recorded s roots fee b r k w → Recorded s roots fee b q k v → get_or r k blank_record ≡ get_or q k blank_record
  one-record r q k (inl m) (inl n) e f =
      let x = m.anchored in
      let y = n.anchored in
      let bump : m.bump ≡ n.bump = cc in
      let climbs : proving s (nth_bump b.bumps n.bump) (id_at s roots fee b k) ≡ accepted m.proof = ap (λ (i : ℕ). proving s (nth_bump b.bumps i) (id_at s roots fee b k)) (sym bump) ∙ m.climbs in
      let other = n.climbs in
      let proof : m.proof ≡ n.proof = cc in
      e ∙ ap₂ (λ (i : ℕ) (p : Proof). entry_row s (nth s roots fee b k) (standing 1 i p.position)) bump proof ∙ sym f
  one-record r q k (inl m) (inr c) e f = absurd (let x = m.anchored in let y = c.unanchored in let z : ◌≡◌ {A = ℕ} 0 1 = cc in omega arith)
  one-record r q k (inr c) (inl m) e f = absurd (let x = m.anchored in let y = c.unanchored in let z : ◌≡◌ {A = ℕ} 0 1 = cc in omega arith)
  one-record r q k (inr c) (inr d) e f = e ∙ sym f

  -- one record for each transaction
  counted : (records : List Record) → judge_entries s roots fee b ≡ accepted records → length records ≡ length b.entries
  unfolding judge_entries
  counted records e = accepted-length (payment_of s) (ruling s roots fee b.bumps) (entry_row s) empty_entry blank_record [] b.entries records e

module _ (s roots : List ℕ) (fee room : ℕ) (records : List Record) where
  accepted_acceptable : judge_beef s roots fee room ≡ accepted records → AcceptableWith s roots fee room records
  unfolding judge_up_to judge_read
  accepted_acceptable e = go (leb (length s) MAX_INPUT) refl (eqb (length roots % 32) 0) refl (beef_whole room s) refl e
    where
      go : (t : Bool) → leb (length s) MAX_INPUT ≡ t → (u : Bool) → eqb (length roots % 32) 0 ≡ u → (p : Parse Beef) → beef_whole room s ≡ p
          → pick t (pick u (judge_read s roots fee p) (refused (carrying BAD_ROOTS 0))) (refused (carrying TOO_LONG 0)) ≡ accepted records → AcceptableWith s roots fee room records
      go false ht u hu p h m = absurd (let z : ◌≡◌ {A = ℕ} 0 1 = cc in omega arith)
      go true ht false hu p h m = absurd (let z : ◌≡◌ {A = ℕ} 0 1 = cc in omega arith)
      go true ht true hu (fault number place) h m = absurd (let z : ◌≡◌ {A = ℕ} 0 1 = cc in omega arith)
      go true ht true hu (ok b q) h m = record {
        size = leb-true _ _ ht;
        whole_roots = eqb-true _ _ hu;
        bundle = b;
        next = q;
        read = h;
        count = counted s roots fee b records m;
        each = accepted_recorded s roots fee b records m;
      }

  acceptable_accepted : AcceptableWith s roots fee room records → judge_beef s roots fee room ≡ accepted records
  unfolding judge_up_to judge_read
  acceptable_accepted a =
      let w = stands-accepted s roots fee a.bundle (λ k low. let x = a.each k low in (x.0, x.1.0)) in
      simp (le-leb _ _ a.size, eq-eqb _ _ a.whole_roots, a.read) (w.1 ∙ ap accepted (these w.0 w.1))
    where
      these : (others : List Record) → judge_entries s roots fee a.bundle ≡ accepted others → others ≡ records
      these others e =
          let n = counted s roots fee a.bundle others e in
          ext_get_or blank_record others records (n ∙ sym a.count)
          (λ k h. let low : k < length a.bundle.entries = omega arith in
          let x = (accepted_recorded s roots fee a.bundle others e k low).1 in
          let y = (a.each k low).1 in
          one-record s roots fee a.bundle others records k x.0 y.0 x.1 y.1)

  -- an input is accepted with these records exactly when the rule's conditions hold and give them
  pub accepted_with : (judge_beef s roots fee room ≡ accepted records) ↔ AcceptableWith s roots fee room records
  accepted_with = (accepted_acceptable, acceptable_accepted)

-- the rule's conditions alone
pub record Acceptable (s roots : List ℕ) (fee room : ℕ) : Type 0 where
  pub size : length s ≤ MAX_INPUT
  pub whole_roots : length roots % 32 ≡ 0
  pub bundle : Beef
  pub next : ℕ
  pub read : beef_whole room s ≡ ok bundle next
  pub stands : (k : ℕ) → k < length bundle.entries → Stands s roots fee bundle k

-- an input is accepted exactly when it has its size, the list is whole roots, "the whole BEEF is read", and every transaction is new and is mined under a
-- listed root, or has each parent earlier and pays
pub accepted-exactly : (s roots : List ℕ) (fee room : ℕ) → ((records : List Record) × (judge_beef s roots fee room ≡ accepted records)) ↔ Acceptable s roots fee room
unfolding judge_up_to judge_read
accepted-exactly s roots fee room = (
  (λ x. let a = accepted_acceptable s roots fee room x.0 x.1 in
      record { size = a.size; whole_roots = a.whole_roots; bundle = a.bundle; next = a.next; read = a.read; stands = λ k low. let y = a.each k low in (y.0, y.1.0) }),
  (λ a. let w = stands-accepted s roots fee a.bundle a.stands in
      (w.0, simp (le-leb _ _ a.size, eq-eqb _ _ a.whole_roots, a.read) w.1)),
)

-- ---- what acceptance means

module _ (s roots : List ℕ) (fee : ℕ) (b : Beef) where
  -- mined under a listed root, or has inputs, and the parent of each is supported
  pub data Supported : ℕ → Type 0 where
    by_root : (k : ℕ) → Mined s roots fee b k → Supported k
    by_parents : (k : ℕ) (c : Child s roots fee b k) → 0 < length (inputs_at s roots fee b k) → ((m : ℕ) → m < length (inputs_at s roots fee b k) → Supported (c.parent m)) → Supported k

-- every chain of parents inside an accepted bundle ends at transactions mined under listed roots
pub accepted_supported : (s roots : List ℕ) (fee room : ℕ) (records : List Record) → judge_beef s roots fee room ≡ accepted records
    → (b : Beef) (q : ℕ) → beef_whole room s ≡ ok b q → (k : ℕ) → k < length b.entries → Supported s roots fee b k
accepted_supported s roots fee room records e b q g k low = below (suc k) k (omega arith) low
  where
    stands : (k : ℕ) → k < length b.entries → Mined s roots fee b k ⊎ Child s roots fee b k
    stands k low =
        let a = (accepted_with s roots fee room records).0 e in
        let read = a.read in
        let is : a.bundle ≡ b = cc in
        subst (λ (x : Beef). (k : ℕ) → k < length x.entries → Mined s roots fee x k ⊎ Child s roots fee x k) is (λ k low. (a.each k low).1.0) k low

    -- a transaction that was read has at least one input (BAD_TX)
    some-input : (k : ℕ) → k < length b.entries → 0 < length (inputs_at s roots fee b k)
    some-input k low =
        let x = (beef-told room s g).entry k empty_entry low in
        (tx_told s (nth s roots fee b k).transaction.start x.transaction).some-inputs

    supported : (k : ℕ) → k < length b.entries → ((j : ℕ) → j < k → Supported s roots fee b j) → Mined s roots fee b k ⊎ Child s roots fee b k → Supported s roots fee b k
    supported k low f (inl m) = by_root k m
    supported k low f (inr c) = by_parents k c (some-input k low) (λ m h. f (c.parent m) (c.earlier m h))

    below : (n k : ℕ) → k < n → k < length b.entries → Supported s roots fee b k
    below zero k h low = absurd (omega arith)
    below (suc n) k h low = supported k low (λ j l. below n j (omega arith) (omega arith)) (stands k low)

-- ---- the amounts of an accepted bundle (02, Item 9)

module _ (s roots : List ℕ) (fee room : ℕ) (records : List Record) (accept : judge_beef s roots fee room ≡ accepted records) (b : Beef) (q : ℕ) (read : beef_whole room s ≡ ok b q) where
  entries-accepted : judge_entries s roots fee b ≡ accepted records
  unfolding judge_up_to judge_read
  entries-accepted = go (leb (length s) MAX_INPUT) (eqb (length roots % 32) 0) accept
    where
      go : (t u : Bool) → pick t (pick u (judge_read s roots fee (beef_whole room s)) (refused (carrying BAD_ROOTS 0))) (refused (carrying TOO_LONG 0)) ≡ accepted records → judge_entries s roots fee b ≡ accepted records
      go false u m = absurd (let z : ◌≡◌ {A = ℕ} 0 1 = cc in omega arith)
      go true false m = absurd (let z : ◌≡◌ {A = ℕ} 0 1 = cc in omega arith)
      go true true m = ap (judge_read s roots fee) (sym read) ∙ m

  -- what counts of its transactions, from the bundle's bytes
  abbrev pub paid : List Payment
  paid = payments s roots fee b

  ids_differ : Different paid
  ids_differ = accepted-different s roots fee b records entries-accepted

  each_pays : (k : ℕ) → k < length paid → (get_or paid k no_payment).anchored ≡ false → Pays fee paid k
  unfolding payment_of
  each_pays k h u = go (accepted_recorded s roots fee b records entries-accepted k low).1.0
    where
      low : k < length b.entries
      low = omega (arith, h, length-map b.entries (payment_of s))

      go : Mined s roots fee b k ⊎ Child s roots fee b k → Pays fee paid k
      go (inl m) = absurd (let z : (get_or paid k no_payment).anchored ≡ true = ap (λ (t : Payment). t.anchored) (map_at (payment_of s) b.entries k empty_entry no_payment low) ∙ ap is_anchored m.anchored in let y : ◌≡◌ {A = ℕ} 0 1 = cc in omega arith)
      go (inr c) = c.pays

  all_paid : Paid fee [] paid
  all_paid = (paid-exactly fee paid ids_differ).1 each_pays

  -- "the outputs of anchored transactions total the outputs that no unanchored transaction spends plus the differences left by unanchored ones": the k-th, if it is
  -- not anchored, leaves left k, so that its inputs come to its outputs and left k
  pub accepted_balance : (left : ℕ → ℕ) → Leaves fee [] paid left → anchored_total paid ≡ unspent_total paid + lefts left paid
  accepted_balance left g = balance fee paid ids_differ all_paid left g

  -- there are such differences, each above the fee
  pub accepted-left : (left : ℕ → ℕ) × (Leaves fee [] paid left) × ((k : ℕ) → k < length paid → (get_or paid k no_payment).anchored ≡ false → fee < left k)
  accepted-left = (difference fee paid ids_differ all_paid, differences_leave fee paid ids_differ all_paid, difference_more fee paid ids_differ all_paid)

  -- no output is spent twice by transactions that are not anchored
  pub accepted-once : (j k : ℕ) → j < k → k < length (spends paid) → get_or (spends paid) j no_outpoint ≡ get_or (spends paid) k no_outpoint → ⊥
  accepted-once = spent-once fee paid ids_differ all_paid

  -- every output that they spend exists in an earlier transaction
  pub accepted-there : (k m : ℕ) → k < length paid → (get_or paid k no_payment).anchored ≡ false → m < length (get_or paid k no_payment).inputs
      → (j : ℕ) × (j < k) × ((get_or paid j no_payment).id ≡ (get_or (get_or paid k no_payment).inputs m no_outpoint).parent) × ((get_or (get_or paid k no_payment).inputs m no_outpoint).output < length (get_or paid j no_payment).outputs)
  accepted-there = spent-earlier fee paid ids_differ all_paid

-- ---- the order 1, 21, then fields as they come

-- 21 comes before the first field, which is 2
roots_first : judge_beef [] (0 ∷ []) 0 0 ≡ refused (carrying 21 0)
unfolding judge_up_to
roots_first = refl

then_fields : judge_beef [] [] 0 0 ≡ refused (carrying 2 0)
unfolding judge_up_to judge_read beef_up_to version_field bytes whole
then_fields = refl
