-- Laws of BEEF: what a reading answers, and what is known of a bundle that was read.
use mathlib.Core.Path.{◌≡◌, refl, ap, sym, ◌∙◌}
use mathlib.Core.List.{List, map}
use mathlib.Core.Bool.{Bool, true, false}
use Prim.Native.Nat.{ℕ, zero, suc, ◌≤◌, ◌<◌}
use lib.ListN.{length, get_or, length-map}
use lib.Dec.{ltb, leb, eqb}
use native.Mathlib.Omega.{arith}
use borrow.Author.Tests.{leb-true, ltb-true, lt-ltb, le-ltb, lt-leb, le-leb}
use Rattle.std.specs.Prelude.{Option, Some, None}
use Rattle.format.specs.declared.bump.BumpHead.{BumpHead}
use Rattle.format.specs.declared.transaction.TxHead.{TxHead}
use Rattle.format.specs.declared.transaction.Items.{Items}
use Rattle.format.specs.declared.beef.BeefHead.{BeefHead}
use Rattle.format.specs.Parse.{Parse, pick, onward, pure, ◌passing◌else◌, given, each, times, ended, whole, ok, fault}
use Rattle.format.proofs.ParseLaws.{passing_told, onward-told, each-ok, each-fault, whole-told, many-told, many-length}
use Rattle.format.specs.Field.{byte, varint}
use Rattle.format.proofs.Span.{ItemRead, times-told}
use Rattle.format.proofs.Whole.{whole-size}
use Rattle.format.specs.Padded.{padded}
use Rattle.format.specs.Bump.{Bump, bump_field, head_of}
use Rattle.format.specs.Transaction.{Transaction, beef_tx_field, tx_head_of}
use Rattle.format.proofs.TransactionLaws.{tx_told}
use Rattle.format.specs.Beef.{BeefEntry, Beef, version_field, bump_count_field, tx_count_field, bumps_field, bumps_up_to, bump_number_field, anchor_field, entry_field, entries_field, beef_field, beef_up_to, beef_whole}
use Rattle.format.specs.BeefAnswer.{entry_head_of, first_at, entries_of, beef_head_of, no_bump, heads_of, bundle_of, opened, closing}
use Rattle.format.specs.Kept.{bumps_of}
use Rattle.format.specs.declared.beef.Bundle.{Bundle}
use Rattle.format.specs.declared.bumps.Bumps.{Bumps}
use Rattle.format.specs.Refusals.{TOO_LONG, OVER_LIMIT, BAD_FLAG, EXTRA, EMPTY, BAD_INDEX, NO_ROOM, MAX_INPUT, MAX_BUMPS, MAX_TXS}

-- the counts
pub bump-count-told : (s : List ℕ) (at : ℕ) {n q : ℕ} → bump_count_field s at ≡ ok n q → n ≤ MAX_BUMPS
unfolding bump_count_field
bump-count-told s at e = leb-true _ _ (passing_told varint (λ n. leb n MAX_BUMPS) OVER_LIMIT s at e).1

pub tx_count-told : (room : ℕ) (s : List ℕ) (at : ℕ) {n q : ℕ} → tx_count_field room s at ≡ ok n q → (1 ≤ n) × (n ≤ MAX_TXS) × (n ≤ room)
unfolding tx_count_field
tx_count-told room s at e =
    let a = passing_told ((varint passing (λ n. leb n MAX_TXS) else OVER_LIMIT) passing (λ n. leb 1 n) else EMPTY) (λ n. leb n room) NO_ROOM s at e in
    let b = passing_told (varint passing (λ n. leb n MAX_TXS) else OVER_LIMIT) (λ n. leb 1 n) EMPTY s at a.0 in
    let c = passing_told varint (λ n. leb n MAX_TXS) OVER_LIMIT s at b.0 in
    (leb-true _ _ b.1, leb-true _ _ c.1, leb-true _ _ a.1)

-- what a reading answers of an entry, by what it kept
pub entry_head : (t : Transaction) (a : Option ℕ) (q : ℕ) {h : TxHead} → tx_head_of t ≡ h
    → each entry_head_of (ok (record { transaction = t; anchor = a }) q) ≡ ok (record { transaction = h; anchor = a }) q
unfolding each
entry_head t a q e = rw (← e)

-- a loop that read n BUMPs kept their heads
pub bumps-gathered : (p : Parse (List Bump)) {l kept : List BumpHead} {n q : ℕ} → each (map head_of) p ≡ ok l q → length l ≡ n → kept ≡ padded MAX_BUMPS no_bump l
    → each bumps_of p ≡ ok (record { count = n; heads = kept }) q
unfolding each
bumps-gathered p {l} {kept} {n} {q} e len k =
    let x = each-ok (map head_of) p e in
    built x.0 x.1 x.2
  where
    built : (m : List Bump) → p ≡ ok m q → map head_of m ≡ l → each bumps_of p ≡ ok (record { count = n; heads = kept }) q
    built m r is = rw (r, k, ← len, ← is, length-map)

-- an anchor that was read: its BUMP number is below the count
pub anchor-told : (bumps : ℕ) (s : List ℕ) (at : ℕ) {a : Option ℕ} {q : ℕ} → anchor_field bumps s at ≡ ok a q → (n : ℕ) → a ≡ Some n → n < bumps
unfolding anchor_field bump_number_field
anchor-told bumps s at {a} {q} e n h =
    let x = onward-told ((byte passing (λ b. leb b 1) else BAD_FLAG) s at) _ e in
    chosen (eqb x.0 0) x.1 x.3
  where
    below : (k : ℕ) → k < bumps → Some k ≡ a → n < bumps
    below k low m = let z : k ≡ n = cc in omega arith

    chosen : (t : Bool) (r : ℕ) → pick t (pure None) (given Some (bump_number_field bumps)) s r ≡ ok a q → n < bumps
    chosen true r m = absurd (let z : ◌≡◌ {A = ℕ} 0 1 = cc in omega arith)
    chosen false r m =
        let y = each-ok Some (bump_number_field bumps s r) m in
        let p = passing_told varint (λ n. ltb n bumps) BAD_INDEX s r y.1 in
        below y.0 (ltb-true _ _ p.1) y.2

-- an entry that was read: its transaction at its start, and its anchor
pub record EntryRead (bumps : ℕ) (s : List ℕ) (e : BeefEntry) : Type 0 where
  pub transaction : beef_tx_field s e.transaction.start ≡ ok e.transaction e.transaction.end
  pub anchored : (n : ℕ) → e.anchor ≡ Some n → n < bumps

pub entry_told : (bumps : ℕ) (s : List ℕ) (at : ℕ) {e : BeefEntry} {q : ℕ} → entry_field bumps s at ≡ ok e q → EntryRead bumps s e
unfolding entry_field
entry_told bumps s at {e} {q} h =
    let x = onward-told (beef_tx_field s at) _ h in
    let y = onward-told (anchor_field bumps s x.1) _ x.3 in
    let is : ◌≡◌ {A = Parse BeefEntry} (ok (record { transaction = x.0; anchor = y.0 }) y.1) (ok e q) = y.3 in
    built x.0 x.1 y.0 y.1 x.2 (anchor-told bumps s x.1 y.2) is
  where
    built : (t : Transaction) (end : ℕ) (a : Option ℕ) (r : ℕ) → beef_tx_field s at ≡ ok t end → ((n : ℕ) → a ≡ Some n → n < bumps)
        → ◌≡◌ {A = Parse BeefEntry} (ok (record { transaction = t; anchor = a }) r) (ok e q) → EntryRead bumps s e
    built t end a r w g is =
        let ee : record { transaction = t; anchor = a } ≡ e = cc in
        let told = tx_told s at w in
        rw (← ee) (record {
          transaction = ap (λ (p : ℕ). beef_tx_field s p) told.start_is ∙ w ∙ ap (λ (p : ℕ). ok t p) (sym told.end_is);
          anchored = g;
        })

-- a bundle that was read: its counts, its BUMPs at some place, its transactions at theirs
pub record BeefRead (room : ℕ) (s : List ℕ) (b : Beef) : Type 0 where
  pub size : length s ≤ MAX_INPUT
  pub bumps-low : length b.bumps ≤ MAX_BUMPS
  pub some : 1 ≤ length b.entries
  pub entries-low : length b.entries ≤ MAX_TXS
  pub fits : length b.entries ≤ room
  pub bump : (k : ℕ) (d : Bump) → k < length b.bumps → ItemRead bump_field s (get_or b.bumps k d)
  pub entry : (k : ℕ) (d : BeefEntry) → k < length b.entries → EntryRead (length b.bumps) s (get_or b.entries k d)
  pub end : ℕ
  pub entries : times (entry_field (length b.bumps)) (length b.entries) s (first_at b.entries) ≡ ok b.entries end

-- the BUMPs
bumps-told : (s : List ℕ) (at : ℕ) {l : List Bump} {q : ℕ} → bumps_field s at ≡ ok l q
    → (length l ≤ MAX_BUMPS) × ((k : ℕ) (d : Bump) → k < length l → ItemRead bump_field s (get_or l k d))
unfolding bumps_up_to
bumps-told s at e =
    let x = onward-told (bump_count_field s at) _ e in
    let n = many-length {S = Unit {0}} (λ _. bump_field) (λ u _. u) x.0 tt s x.1 x.3 in
    let low = bump-count-told s at x.2 in
    (omega arith, λ k d h. times-told bump_field s d x.0 x.1 x.3 k h)

-- the transactions: the first starts where they start
first-told : (bumps n : ℕ) (s : List ℕ) (at : ℕ) {l : List BeefEntry} {q : ℕ} → 1 ≤ n → times (entry_field bumps) n s at ≡ ok l q → first_at l ≡ at
unfolding first_at entry_field
first-told bumps zero s at h e = absurd (omega arith)
first-told bumps (suc n) s at {l} h e =
    let x = many-told {S = Unit {0}} (λ _. entry_field bumps) (λ u _. u) n tt s at e in
    let t = onward-told (beef_tx_field s at) _ x.3 in
    let a = onward-told (anchor_field bumps s t.1) _ t.3 in
    let is : ◌≡◌ {A = Parse BeefEntry} (ok (record { transaction = t.0; anchor = a.0 }) a.1) (ok x.0 x.1) = a.3 in
    let ee : record { transaction = t.0; anchor = a.0 } ≡ x.0 = cc in
    rw (← x.5, ← ee) (tx_told s at t.2).start_is

record EntriesRead (bumps room : ℕ) (s : List ℕ) (l : List BeefEntry) (end : ℕ) : Type 0 where
  some : 1 ≤ length l
  low : length l ≤ MAX_TXS
  fits : length l ≤ room
  entry : (k : ℕ) (d : BeefEntry) → k < length l → EntryRead bumps s (get_or l k d)
  again : times (entry_field bumps) (length l) s (first_at l) ≡ ok l end

entries-told : (bumps room : ℕ) (s : List ℕ) (at : ℕ) {l : List BeefEntry} {q : ℕ} → entries_field bumps room s at ≡ ok l q → EntriesRead bumps room s l q
unfolding entries_field
entries-told bumps room s at {l} {q} e =
    let x = onward-told (tx_count_field room s at) _ e in
    let n = many-length {S = Unit {0}} (λ _. entry_field bumps) (λ u _. u) x.0 tt s x.1 x.3 in
    let c = tx_count-told room s at x.2 in
    record {
      some = omega arith;
      low = omega arith;
      fits = omega arith;
      entry = λ k d h. let i = times-told (entry_field bumps) s d x.0 x.1 x.3 k h in entry_told bumps s i.at i.read;
      again = rw (n, first-told bumps x.0 s x.1 c.0 x.3) x.3;
    }

pub beef-told : (room : ℕ) (s : List ℕ) {b : Beef} {q : ℕ} → beef_whole room s ≡ ok b q → BeefRead room s b
unfolding beef_up_to
beef-told room s {b} {q} e =
    let v = onward-told (version_field s 0) _ (whole-told (beef_field room) s e) in
    let x = onward-told (bumps_field s v.1) _ v.3 in
    let y = onward-told (entries_field (length x.0) room s x.1) _ x.3 in
    let is : ◌≡◌ {A = Parse Beef} (ok (record { bumps = x.0; entries = y.0 }) y.1) (ok b q) = y.3 in
    built x.0 y.0 y.1 (bumps-told s v.1 x.2) (entries-told (length x.0) room s x.1 y.2) is
  where
    built : (l : List Bump) (k : List BeefEntry) (end : ℕ) → (length l ≤ MAX_BUMPS) × ((k : ℕ) (d : Bump) → k < length l → ItemRead bump_field s (get_or l k d))
        → EntriesRead (length l) room s k end
        → ◌≡◌ {A = Parse Beef} (ok (record { bumps = l; entries = k }) end) (ok b q) → BeefRead room s b
    built l k end m n is =
        let eb : record { bumps = l; entries = k } ≡ b = cc in
        rw (← eb) (record {
          size = whole-size (beef_field room) s e;
          bumps-low = m.0;
          some = n.some;
          entries-low = n.low;
          fits = n.fits;
          bump = m.1;
          entry = n.entry;
          end = end;
          entries = n.again;
        })

-- ---- what a reading answers, by its fields

entries_head : (l : List BeefEntry) (n at q : ℕ) → length l ≡ n → first_at l ≡ at → each entries_of (ok l q) ≡ ok (record { count = n; at = record { at = at } }) q
unfolding each
entries_head l n at q e f = rw (e, f)

module _ (bumps room : ℕ) (s : List ℕ) (at : ℕ) {n q : ℕ} (e : tx_count_field room s at ≡ ok n q) where
  pub entries-refused : {k t : ℕ} → each length (times (entry_field bumps) n s q) ≡ fault k t → each entries_of (entries_field bumps room s at) ≡ fault k t
  unfolding entries_field each
  entries-refused f = rw (e, each-fault length (times (entry_field bumps) n s q) f)

  pub entries-read : {m t : ℕ} → each length (times (entry_field bumps) n s q) ≡ ok m t → each entries_of (entries_field bumps room s at) ≡ ok (record { count = m; at = record { at = q } }) t
  unfolding entries_field
  entries-read {m} {t} f =
      let x = each-ok length (times (entry_field bumps) n s q) f in
      rw (e, x.1) (entries_head x.0 m q t x.2 (first-told bumps n s q (tx_count-told room s at e).0 x.1))

-- what comes before the BUMPs
pub open_long : (s : List ℕ) → MAX_INPUT < length s → opened s ≡ fault TOO_LONG 0
unfolding opened
open_long s h = simp (lt-leb _ _ h)

pub open_fits : (s : List ℕ) → length s ≤ MAX_INPUT → opened s ≡ version_field s 0
unfolding opened
open_fits s h = simp (le-leb _ _ h)

-- what comes after n BUMPs
module _ (room n : ℕ) (s : List ℕ) (at : ℕ) where
  pub close_refused : {k q : ℕ} → each entries_of (entries_field n room s at) ≡ fault k q → closing room n s at ≡ fault k q
  unfolding closing each
  close_refused e = rw (each-fault entries_of (entries_field n room s at) e)

  pub close_extra : {i : Items} {q : ℕ} → each entries_of (entries_field n room s at) ≡ ok i q → q < length s → closing room n s at ≡ fault EXTRA q
  unfolding closing each
  close_extra e h = let x = each-ok entries_of (entries_field n room s at) e in simp (x.1, lt-ltb _ _ h)

  pub close_read : {i : Items} {q : ℕ} → each entries_of (entries_field n room s at) ≡ ok i q → length s ≤ q
      → closing room n s at ≡ ok (record { bumps = n; transactions = i.count; entries = i.at }) q
  unfolding closing each
  close_read {i} {q} e h =
      let x = each-ok entries_of (entries_field n room s at) e in
      simp (x.1, le-ltb _ _ h) (ap (λ (k : Items). ok (record { bumps = n; transactions = k.count; entries = k.at }) q) x.2)

-- a bundle by its parts
pub beef-parts : (room : ℕ) (s : List ℕ) → each beef_head_of (beef_whole room s) ≡ onward (opened s) (λ _ at. onward (each length (bumps_field s at)) (λ n next. closing room n s next))
unfolding each whole opened beef_up_to closing
beef-parts room s = sized (leb (length s) MAX_INPUT)
  where
    last : (l : List Bump) (entries : List BeefEntry) (q : ℕ) (t : Bool)
        → each beef_head_of (pick t (fault EXTRA q) (ok (record { bumps = l; entries = entries }) q))
        ≡ each (λ k. record { bumps = length l; transactions = length k; entries = record { at = first_at k } }) (pick t (fault EXTRA q) (ok entries q))
    last l entries q true = refl
    last l entries q false = refl

    rest : (l : List Bump) (p : Parse (List BeefEntry))
        → each beef_head_of (onward (onward p (λ entries next. ok (record { bumps = l; entries = entries }) next)) (λ b next. pick (ltb next (length s)) (fault EXTRA next) (ok b next)))
        ≡ each (λ k. record { bumps = length l; transactions = length k; entries = record { at = first_at k } }) (onward p (λ k next. pick (ltb next (length s)) (fault EXTRA next) (ok k next)))
    rest l (ok entries q) = last l entries q (ltb q (length s))
    rest l (fault n q) = refl

    bumps : (p : Parse (List Bump))
        → each beef_head_of (ended (λ s at. onward p (λ l next. onward (entries_field (length l) room s next) (λ entries next. ok (record { bumps = l; entries = entries }) next))) s 0)
        ≡ onward (each length p) (λ n next. closing room n s next)
    bumps (ok l q) = rest l (entries_field (length l) room s q)
    bumps (fault n q) = refl

    version : (p : Parse ℕ)
        → each beef_head_of (ended (λ s at. onward p (λ _ next. onward (bumps_field s next) (λ l next. onward (entries_field (length l) room s next) (λ entries next. ok (record { bumps = l; entries = entries }) next)))) s 0)
        ≡ onward p (λ _ at. onward (each length (bumps_field s at)) (λ n next. closing room n s next))
    version (ok v q) = bumps (bumps_field s q)
    version (fault n q) = refl

    sized : (t : Bool)
        → each beef_head_of (pick t (ended (beef_field room) s 0) (fault TOO_LONG 0))
        ≡ onward (pick t (version_field s 0) (fault TOO_LONG 0)) (λ _ at. onward (each length (bumps_field s at)) (λ n next. closing room n s next))
    sized true = version (version_field s 0)
    sized false = refl

module _ (room : ℕ) (s : List ℕ) where
  pub beef-unopened : {k q : ℕ} → opened s ≡ fault k q → each beef_head_of (beef_whole room s) ≡ fault k q
  beef-unopened e = rw e at (beef-parts room s)

  pub beef-opened : {v at : ℕ} {p : Parse ℕ} → opened s ≡ ok v at → p ≡ each length (bumps_field s at) → each beef_head_of (beef_whole room s) ≡ onward p (λ n next. closing room n s next)
  beef-opened {v} {at} {p} e f = (rw e at (beef-parts room s)) ∙ ap (λ (x : Parse ℕ). onward x (λ n next. closing room n s next)) (sym f)

-- the same with the heads of the BUMPs
abbrev pub with_heads : List BumpHead → BeefHead → Bundle
with_heads heads h = record { head = h; bumps = heads }

pub bundle-parts : (room : ℕ) (s : List ℕ) → each bundle_of (beef_whole room s) ≡ onward (opened s) (λ _ at. onward (each bumps_of (bumps_field s at)) (λ k next. each (with_heads k.heads) (closing room k.count s next)))
unfolding each whole opened beef_up_to closing
bundle-parts room s = sized (leb (length s) MAX_INPUT)
  where
    last : (l : List Bump) (entries : List BeefEntry) (q : ℕ) (t : Bool)
        → each bundle_of (pick t (fault EXTRA q) (ok (record { bumps = l; entries = entries }) q))
        ≡ each (with_heads (heads_of l)) (each (λ k. record { bumps = length l; transactions = length k; entries = record { at = first_at k } }) (pick t (fault EXTRA q) (ok entries q)))
    last l entries q true = refl
    last l entries q false = refl

    rest : (l : List Bump) (p : Parse (List BeefEntry))
        → each bundle_of (onward (onward p (λ entries next. ok (record { bumps = l; entries = entries }) next)) (λ b next. pick (ltb next (length s)) (fault EXTRA next) (ok b next)))
        ≡ each (with_heads (heads_of l)) (each (λ k. record { bumps = length l; transactions = length k; entries = record { at = first_at k } }) (onward p (λ k next. pick (ltb next (length s)) (fault EXTRA next) (ok k next))))
    rest l (ok entries q) = last l entries q (ltb q (length s))
    rest l (fault n q) = refl

    bumps : (p : Parse (List Bump))
        → each bundle_of (ended (λ s at. onward p (λ l next. onward (entries_field (length l) room s next) (λ entries next. ok (record { bumps = l; entries = entries }) next))) s 0)
        ≡ onward (each bumps_of p) (λ k next. each (with_heads k.heads) (closing room k.count s next))
    bumps (ok l q) = rest l (entries_field (length l) room s q)
    bumps (fault n q) = refl

    version : (p : Parse ℕ)
        → each bundle_of (ended (λ s at. onward p (λ _ next. onward (bumps_field s next) (λ l next. onward (entries_field (length l) room s next) (λ entries next. ok (record { bumps = l; entries = entries }) next)))) s 0)
        ≡ onward p (λ _ at. onward (each bumps_of (bumps_field s at)) (λ k next. each (with_heads k.heads) (closing room k.count s next)))
    version (ok v q) = bumps (bumps_field s q)
    version (fault n q) = refl

    sized : (t : Bool)
        → each bundle_of (pick t (ended (beef_field room) s 0) (fault TOO_LONG 0))
        ≡ onward (pick t (version_field s 0) (fault TOO_LONG 0)) (λ _ at. onward (each bumps_of (bumps_field s at)) (λ k next. each (with_heads k.heads) (closing room k.count s next)))
    sized true = version (version_field s 0)
    sized false = refl

module _ (room : ℕ) (s : List ℕ) where
  pub bundle-unopened : {k q : ℕ} → opened s ≡ fault k q → each bundle_of (beef_whole room s) ≡ fault k q
  bundle-unopened e = rw e at (bundle-parts room s)

  pub bundle-opened : {v at : ℕ} {p : Parse Bumps} → opened s ≡ ok v at → p ≡ each bumps_of (bumps_field s at)
      → each bundle_of (beef_whole room s) ≡ onward p (λ k next. each (with_heads k.heads) (closing room k.count s next))
  bundle-opened {v} {at} {p} e f = (rw e at (bundle-parts room s)) ∙ ap (λ (x : Parse Bumps). onward x (λ k next. each (with_heads k.heads) (closing room k.count s next))) (sym f)
