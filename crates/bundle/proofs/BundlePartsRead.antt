-- What is read of a bundle put together: what its parts say.
use Prim.Native.Nat.{ℕ, zero, suc, ◌+◌, ◌≤◌, ◌<◌}
use native.Mathlib.Nat.{add-zero, zero-add}
use mathlib.Core.Path.{◌≡◌, refl, sym, ap, ◌∙◌}
use mathlib.Core.Bool.{true}
use mathlib.Core.List.{List, [], ◌∷◌, ◌++◌, map}
use native.Mathlib.Omega.{arith}
use lib.ListN.{length, get_or, take, length-append, length-map, get_or-append}
use lib.Seq.{get_or-append-add}
use lib.Dec.{eqb}
use borrow.Author.Tests.{le-leb, lt-ltb, le-ltb}
use Rattle.std.specs.Prelude.{Option, None, Some}
use Rattle.format.specs.Parse.{Parse, Reader, ok, each, many, times, whole}
use Rattle.format.proofs.ParseLaws.{onward-told}
use Rattle.format.specs.Field.{bytes, byte, le4, number, varint}
use Rattle.format.specs.Bump.{Bump, bump_field}
use Rattle.format.specs.Transaction.{Transaction, beef_tx_field}
use Rattle.format.proofs.TransactionLaws.{tx_told}
use Rattle.format.specs.Beef.{VERSION, BeefEntry, Beef, version_field, bump_count_field, bumps_up_to, tx_count_field, bump_number_field, anchor_field, entry_field, entries_field, beef_up_to, beef_whole}
use Rattle.format.specs.Refusals.{BAD_VERSION, MAX_INPUT, MAX_BUMPS}
use Rattle.bundle.specs.Bundle.{nth_bump, empty_bump}
use Rattle.spv.proofs.RowsLaws.{map_at}
use Rattle.bundle.proofs.BundleTheorems.{empty_entry}
use Rattle.bundle.proofs.Reread.{StandsIn, Again, passing_again, number-again, le4-again, varint-again}
use Rattle.bundle.proofs.RereadBundle.{TxSaid, bump_said, tx_said, entry_said, bump-again, tx_again, anchor-again, entry_again}
use Rattle.bundle.proofs.OneMoreBump.{entry_at}
use Rattle.bundle.proofs.BundleParts.{Spells, chained, anchor_bytes, Part, part_bytes, no_part, version_bytes, bundle_bytes, Parts}

-- ---- strings in strings

pub stands_self : (s : List ℕ) → StandsIn s s 0
stands_self s = record { room = omega arith; same = λ p h. ap (λ (q : ℕ). get_or s q 0) (sym (zero-add p)) }

module _ (u v : List ℕ) {t : List ℕ} {base : ℕ} (stands : StandsIn (u ++ v) t base) where
  pub stands-left : StandsIn u t base
  stands-left = record {
    room = let r = stands.room in omega (arith, length-append u v);
    same = λ p h. sym (get_or-append u v 0 p h) ∙ stands.same p (omega (arith, length-append u v));
  }

  pub stands_right : StandsIn v t (base + length u)
  stands_right = record {
    room = let r = stands.room in omega (arith, length-append u v);
    same = λ p h. sym (get_or-append-add u v p 0) ∙ stands.same (length u + p) (omega (arith, length-append u v)) ∙ ap (λ (q : ℕ). get_or t q 0) (omega arith);
  }

-- what u spells, read where it stands
pub placed : {A C : Type 0} {u t : List ℕ} {base : ℕ} {r : Reader A} {c d : A → C} {a : A} → Again u t base r r c d → Spells r u a → (b : A) × (r t base ≡ ok b (base + length u)) × (c a ≡ d b)
placed {u = u} {t = t} {base = base} {r = r} {a = a} f e = let x = f.again 0 (length u) a e in (x.0, rw (add-zero base) at x.1, x.2)

-- what is read as it was spelled
pub placed_same : {A : Type 0} {u t : List ℕ} {base : ℕ} {r : Reader A} {a : A} → Again u t base r r (λ x. x) (λ x. x) → Spells r u a → r t base ≡ ok a (base + length u)
placed_same f e = let x = placed f e in rw (← x.2) at x.1

-- ---- items, each spelled by its string

abbrev pub place_of : List (List ℕ) → ℕ → ℕ
place_of ws k = length (chained (take k ws))

module _ {A C : Type 0} (item : Reader A) (said : List ℕ → A → C) (d : A) (t : List ℕ) (moves : (u : List ℕ) (base : ℕ) → StandsIn u t base → Again u t base item item (said u) (said t)) where
  -- the k-th of them, where its string stands
  pub record ItemAt (ws : List (List ℕ)) (base k : ℕ) (b : A) : Type 0 where
    pub next : ℕ
    pub read : item t (base + place_of ws k) ≡ ok b next
    pub says : (a : A) → Spells item (get_or ws k []) a → said (get_or ws k []) a ≡ said t b

  abbrev pub Items : List (List ℕ) → ℕ → List A → Type 0
  Items ws base l = (times item (length ws) t base ≡ ok l (base + length (chained ws))) × (length l ≡ length ws) × ((k : ℕ) → k < length ws → ItemAt ws base k (get_or l k d))

  pub items-read : (ws : List (List ℕ)) (base : ℕ) → StandsIn (chained ws) t base → ((k : ℕ) → k < length ws → (a : A) × Spells item (get_or ws k []) a) → (l : List A) × Items ws base l
  unfolding chained many each
  items-read [] base st f = ([], (ap (ok []) (sym (add-zero base)), refl, λ k h. absurd (omega arith)))
  items-read (w ∷ ws) base st f =
      let x = f 0 (omega arith) in
      let y = placed (moves w base (stands-left w (chained ws) st)) x.1 in
      let z = items-read ws (base + length w) (stands_right w (chained ws) st) (λ k h. f (suc k) (omega arith)) in
      (y.0 ∷ z.0, (rw (y.1, z.1.0) (ap (ok (y.0 ∷ z.0)) (omega (arith, length-append w (chained ws)))), ap suc z.1.1, at_each y.0 y.1 z.0 z.1.2))
    where
      at_each : (b : A) → item t base ≡ ok b (base + length w) → (l : List A) → ((k : ℕ) → k < length ws → ItemAt ws (base + length w) k (get_or l k d))
          → (k : ℕ) → k < suc (length ws) → ItemAt (w ∷ ws) base k (get_or (b ∷ l) k d)
      at_each b e l g zero h = record {
        next = base + length w;
        read = rw (add-zero base) e;
        says = λ a s. let y = placed (moves w base (stands-left w (chained ws) st)) s in let read = y.1 in let is : y.0 ≡ b = cc in y.2 ∙ ap (said t) is;
      }
      at_each b e l g (suc k) h =
          let x = g k (omega arith) in
          let place : base + place_of (w ∷ ws) (suc k) ≡ base + length w + place_of ws k = omega (arith, length-append w (chained (take k ws))) in
          record { next = x.next; read = ap (item t) place ∙ x.read; says = x.says }

-- ---- a transaction with its anchor

small_encodes : (n : ℕ) → n < 253 → Spells varint (n ∷ []) n
unfolding varint byte
small_encodes n h = rw (lt-ltb n 253 h)

anchor_encodes : (bumps : ℕ) (a : Option ℕ) → ((n : ℕ) → a ≡ Some n → n < bumps) → bumps ≤ MAX_BUMPS → Spells (anchor_field bumps) (anchor_bytes a) a
unfolding anchor_field bump_number_field anchor_bytes varint byte each
anchor_encodes bumps (Some n) f low =
    let less = f n refl in
    let small : n < 253 = omega arith in
    rw (lt-ltb n 253 small, lt-ltb n bumps less)
anchor_encodes bumps None f low = refl

part_encodes : (bumps : ℕ) (p : Part) (x : Transaction) → Spells beef_tx_field p.raw x → ((n : ℕ) → p.anchor ≡ Some n → n < bumps) → bumps ≤ MAX_BUMPS
    → (e : BeefEntry) × Spells (entry_field bumps) (part_bytes p) e × (entry_said (part_bytes p) e ≡ (tx_said p.raw x, p.anchor))
unfolding entry_field
part_encodes bumps p x s f low =
    let w = stands_self (part_bytes p) in
    let y = placed (tx_again (stands-left p.raw (anchor_bytes p.anchor) w) true) s in
    let z = placed_same (anchor-again (stands_right p.raw (anchor_bytes p.anchor) w) bumps) (anchor_encodes bumps p.anchor f low) in
    let end : 0 + length p.raw + length (anchor_bytes p.anchor) ≡ length (part_bytes p) = omega (arith, length-append p.raw (anchor_bytes p.anchor)) in
    (record { transaction = y.0; anchor = p.anchor }, rw (y.1, z) (ap (ok (record { transaction = y.0; anchor = p.anchor })) end), ap (λ (v : TxSaid). (v, p.anchor)) (sym y.2))

-- a transaction starts where its entry does
entry_start : (bumps : ℕ) (s : List ℕ) (at : ℕ) {e : BeefEntry} {q : ℕ} → entry_field bumps s at ≡ ok e q → e.transaction.start ≡ at
unfolding entry_field
entry_start bumps s at {e} {q} h =
    let x = onward-told (beef_tx_field s at) _ h in
    let y = onward-told (anchor_field bumps s x.1) _ x.3 in
    let is : ◌≡◌ {A = Parse BeefEntry} (ok (record { transaction = x.0; anchor = y.0 }) y.1) (ok e q) = y.3 in
    let same : record { transaction = x.0; anchor = y.0 } ≡ e = cc in
    ap (λ (z : BeefEntry). z.transaction.start) (sym same) ∙ (tx_told s at x.2).start_is

-- ---- a bundle

version_encodes : Spells version_field version_bytes VERSION
unfolding version_field bytes
version_encodes = refl

-- a bundle by its fields
assembled : (room : ℕ) (s : List ℕ) {v n m from to q : ℕ} {l : List Bump} {es : List BeefEntry} → length s ≤ MAX_INPUT → version_field s 0 ≡ ok v 4 → bump_count_field s 4 ≡ ok n 5
    → times bump_field n s 5 ≡ ok l from → length l ≡ n → tx_count_field room s from ≡ ok m to → times (entry_field n) m s to ≡ ok es q → q ≡ length s
    → beef_whole room s ≡ ok (record { bumps = l; entries = es }) (length s)
unfolding beef_up_to bumps_up_to entries_field whole
assembled room s size v c b n t e q =
    let last : length s ≤ length s = omega arith in
    rw (le-leb _ _ size, v, c, b, n, t, e, q, le-ltb _ _ last)

-- what is read of a bundle put together: what its parts say
pub record PartsRead (room : ℕ) (bumps : List (List ℕ)) (count : List ℕ) (parts : List Part) : Type 0 where
  pub bundle : Beef
  pub read : beef_whole room (bundle_bytes bumps count parts) ≡ ok bundle (length (bundle_bytes bumps count parts))
  pub bump-count : length bundle.bumps ≡ length bumps
  pub bump : (n : ℕ) (x : Bump) → n < length bumps → Spells bump_field (get_or bumps n []) x → bump_said (get_or bumps n []) x ≡ bump_said (bundle_bytes bumps count parts) (nth_bump bundle.bumps n)
  pub part_count : length bundle.entries ≡ length parts
  pub part : (k : ℕ) (x : Transaction) → k < length parts → Spells beef_tx_field (get_or parts k no_part).raw x
      → (tx_said (get_or parts k no_part).raw x, (get_or parts k no_part).anchor) ≡ entry_said (bundle_bytes bumps count parts) (entry_at bundle k)
  pub start : (k : ℕ) → k < length parts → (entry_at bundle k).transaction.start ≡ 5 + length (chained bumps) + length count + place_of (map part_bytes parts) k

module _ (room : ℕ) (bumps : List (List ℕ)) (count : List ℕ) (parts : List Part) (p : Parts room bumps count parts) where
  abbrev s : List ℕ
  s = bundle_bytes bumps count parts

  abbrev entries : List (List ℕ)
  entries = map part_bytes parts

  in_s : StandsIn s s 0
  in_s = stands_self s

  after_version : StandsIn ((length bumps ∷ []) ++ (chained bumps ++ (count ++ chained entries))) s 4
  after_version = stands_right version_bytes ((length bumps ∷ []) ++ (chained bumps ++ (count ++ chained entries))) in_s

  after-count : StandsIn (chained bumps ++ (count ++ chained entries)) s 5
  after-count = stands_right (length bumps ∷ []) (chained bumps ++ (count ++ chained entries)) after_version

  after-bumps : StandsIn (count ++ chained entries) s (5 + length (chained bumps))
  after-bumps = stands_right (chained bumps) (count ++ chained entries) after-count

  after-all : StandsIn (chained entries) s (5 + length (chained bumps) + length count)
  after-all = stands_right count (chained entries) after-bumps

  version_read : version_field s 0 ≡ ok VERSION 4
  unfolding version_field
  version_read = placed_same (passing_again (number le4 4) (number le4 4) (λ v. eqb v VERSION) (λ v. eqb v VERSION) BAD_VERSION BAD_VERSION (number-again (stands-left version_bytes _ in_s) le4 4 (λ q h. le4-again (stands-left version_bytes _ in_s) q (0 + q) h refl)) (λ x. refl)) version_encodes

  count-read : bump_count_field s 4 ≡ ok (length bumps) 5
  unfolding bump_count_field
  count-read =
      let low = p.bumps-low in
      let read = placed_same (varint-again (stands-left (length bumps ∷ []) (chained bumps ++ (count ++ chained entries)) after_version)) (small_encodes (length bumps) (omega arith)) in
      rw (read, le-leb _ _ low)

  read-bumps : (l : List Bump) × Items bump_field bump_said empty_bump s (λ u base st. bump-again st) bumps 5 l
  read-bumps = items-read bump_field bump_said empty_bump s (λ u base st. bump-again st) bumps 5 (stands-left (chained bumps) (count ++ chained entries) after-count) p.bump

  tx_count-read : tx_count_field room s (5 + length (chained bumps)) ≡ ok (length parts) (5 + length (chained bumps) + length count)
  unfolding tx_count_field
  tx_count-read =
      let low = p.parts_low in
      let some = p.some in
      let fits = p.fits in
      rw (placed_same (varint-again (stands-left count (chained entries) after-bumps)) p.counted, le-leb _ _ low, le-leb _ _ some, le-leb _ _ fits)

  entry_at_lem : (k : ℕ) → k < length parts → get_or entries k [] ≡ part_bytes (get_or parts k no_part)
  entry_at_lem k h = map_at part_bytes parts k no_part [] h

  entry_encoded : (k : ℕ) → k < length entries → (e : BeefEntry) × Spells (entry_field (length bumps)) (get_or entries k []) e
  entry_encoded k h =
      let low : k < length parts = omega (arith, length-map parts part_bytes) in
      let x = p.transaction k low in
      let e = part_encodes (length bumps) (get_or parts k no_part) x.0 x.1 (λ n is. p.anchored k n low is) p.bumps-low in
      rw (entry_at_lem k low) (e.0, e.1)

  read-entries : (l : List BeefEntry) × Items (entry_field (length bumps)) entry_said empty_entry s (λ u base st. entry_again st (length bumps)) entries (5 + length (chained bumps) + length count) l
  read-entries = items-read (entry_field (length bumps)) entry_said empty_entry s (λ u base st. entry_again st (length bumps)) entries (5 + length (chained bumps) + length count) after-all entry_encoded

  whole_length : length s ≡ 5 + length (chained bumps) + length count + length (chained entries)
  whole_length = omega (arith, length-append (chained bumps) (count ++ chained entries), length-append count (chained entries))

  beef-read : beef_whole room s ≡ ok (record { bumps = read-bumps.0; entries = read-entries.0 }) (length s)
  beef-read =
      assembled room s p.size version_read count-read read-bumps.1.0 read-bumps.1.1 tx_count-read
      (ap (λ (n : ℕ). times (entry_field (length bumps)) n s (5 + length (chained bumps) + length count)) (sym (length-map parts part_bytes)) ∙ read-entries.1.0) (sym whole_length)

  part_said : (k : ℕ) (x : Transaction) → k < length parts → Spells beef_tx_field (get_or parts k no_part).raw x
      → (tx_said (get_or parts k no_part).raw x, (get_or parts k no_part).anchor) ≡ entry_said s (get_or read-entries.0 k empty_entry)
  part_said k x h sp =
      let e = part_encodes (length bumps) (get_or parts k no_part) x sp (λ n is. p.anchored k n h is) p.bumps-low in
      let says = (read-entries.1.2 k (omega (arith, length-map parts part_bytes))).says e.0 in
      sym e.2 ∙ (rw (entry_at_lem k h) at says) e.1

  pub parts-read : PartsRead room bumps count parts
  parts-read = record {
    bundle = record { bumps = read-bumps.0; entries = read-entries.0 };
    read = beef-read;
    bump-count = read-bumps.1.1;
    bump = λ n x h e. (read-bumps.1.2 n h).says x e;
    part_count = read-entries.1.1 ∙ length-map parts part_bytes;
    part = part_said;
    start = λ k h. entry_start (length bumps) s _ (read-entries.1.2 k (omega (arith, length-map parts part_bytes))).read;
  }
