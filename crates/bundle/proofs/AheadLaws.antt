-- Laws of the ids ahead of a place.
use Prim.Native.Nat.{ℕ, zero, suc, ◌+◌, ◌*◌, ◌/◌, ◌<◌, ◌≤◌}
use mathlib.Core.Path.{◌≡◌, refl, sym, ap, ◌∙◌}
use mathlib.Core.Bool.{Bool, true, false}
use Rattle.std.specs.Prelude.{Option, Some, None}
use Rattle.format.specs.declared.field.Cursor.{Cursor}
use mathlib.Core.List.{List}
use native.Mathlib.Nat.{zero-add}
use native.Mathlib.Omega.{arith}
use lib.Dec.{ltb}
use lib.ListN.{length, get_or, set, length-set}
use lib.Seq.{paste, length-paste, get_or-set_same, get_or-set_other}
use borrow.Author.Count.{below_more}
use borrow.Author.Tests.{ltb-true, ltb-false}
use Rattle.format.specs.declared.beef.EntryHead.{EntryHead}
use Rattle.format.specs.Beef.{BeefEntry, entry_field}
use Rattle.format.specs.BeefAnswer.{entry_head_of}
use Rattle.format.proofs.BeefLaws.{entry_told}
use Rattle.format.proofs.ParseLaws.{each-ok}
use Rattle.format.specs.Refusals.{MAX_BUMPS}
use Rattle.format.specs.Parse.{Parse, ok, fault}
use Rattle.format.specs.Bytes.{set_hash, hash_at}
use Rattle.format.proofs.BytesLaws.{set-inside, set_outside}
use Rattle.format.proofs.IdLaws.{span-length}
use Rattle.spv.specs.Spans.{span_id as hash_of, set_four}
use Rattle.spv.proofs.Stored.{stored_here, stored_other}
use Rattle.lanes.specs.Lanes as L
use Rattle.lanes.specs.declared.Nodes.{Nodes}
use Rattle.bundle.specs.declared.ids.NamedSpan.{NamedSpan}
use Rattle.bundle.specs.declared.ids.Spans.{Spans}
use Rattle.bundle.specs.BundleHeads.{head_id}
use Rattle.bundle.specs.Ahead.{no_span, anchor_of, plain_span, span_of, span, entry_at, span_at, span_from, span_id, Reaches, ReachesFour, Onward, set_anchors, IdsFrom, AnchorsFrom}

module _ (count : ℕ) (s : List ℕ) (at : ℕ) where
  -- where none can be read there is none ahead
  pub none-at : {k q : ℕ} → entry_at count s at ≡ fault k q → (m : ℕ) → span_at count s at m ≡ no_span
  unfolding span_at
  none-at e zero = rw e
  none-at e (suc m) = rw e

  module _ {e : EntryHead} {next : ℕ} (read : entry_at count s at ≡ ok e next) where
    pub first-at : span_at count s at 0 ≡ span_of e
    unfolding span_at
    first-at = rw read

    pub later_at : (m : ℕ) → span_at count s at (suc m) ≡ span_at count s next m
    unfolding span_at
    later_at m = rw read

-- what is reached from a place
module _ (count : ℕ) (s : List ℕ) where
  pub reached-none : (from next : Option Cursor) (x : NamedSpan) → from ≡ None → x ≡ no_span → next ≡ None → Reaches count s from x next
  unfolding span_from
  reached-none from next x e f g = rw (e, f, g) (refl, λ m. refl)

  pub reached-more : (from next : Option Cursor) (x : NamedSpan) (c : Cursor) → from ≡ Some c → Reaches count s (Some c) x next → Reaches count s from x next
  reached-more from next x c e r = rw e r

  pub reached-fault : (c : Cursor) (x : NamedSpan) (next : Option Cursor) {k q : ℕ} → entry_at count s c.at ≡ fault k q → x ≡ no_span → next ≡ None → Reaches count s (Some c) x next
  unfolding span_from
  reached-fault c x next e f g = rw (f, g) (sym (none-at count s c.at e 0), λ m. sym (none-at count s c.at e (suc m)))

  pub reached-ok : (c next : Cursor) {e : EntryHead} → entry_at count s c.at ≡ ok e next.at → Reaches count s (Some c) (span_of e) (Some next)
  unfolding span_from
  reached-ok c next g = (sym (first-at count s c.at g), λ m. sym (later_at count s c.at g m))

-- four places, each from where the one before was read
pub spans_made : (count : ℕ) (s : List ℕ) (from : Option Cursor) (a b c d : NamedSpan) → a ≡ span_from count s from 0 → b ≡ span_from count s from 1 → c ≡ span_from count s from 2 → d ≡ span_from count s from 3
    → (l : ℕ) → l < 4 → span l (record { a = a; b = b; c = c; d = d }) ≡ span_from count s from l
unfolding span L.in_lane
spans_made count s from a b c d ea eb ec ed zero h = ea
spans_made count s from a b c d ea eb ec ed (suc zero) h = eb
spans_made count s from a b c d ea eb ec ed (suc (suc zero)) h = ec
spans_made count s from a b c d ea eb ec ed (suc (suc (suc zero))) h = ed
spans_made count s from a b c d ea eb ec ed (suc (suc (suc (suc l)))) h = absurd (omega arith)

-- ids made at these places, by the hashes of parts of the input
pub ids_made_lem : (s : List ℕ) (x : Spans) (four : Nodes) → ((l : ℕ) → L.node l four ≡ hash_of s (L.in_lane l (plain_span x.a) (plain_span x.b) (plain_span x.c) (plain_span x.d)))
    → (l : ℕ) → L.node l four ≡ span_id s (span l x)
unfolding L.in_lane span span_id hash_of plain_span
ids_made_lem s x four e zero = e 0
ids_made_lem s x four e (suc zero) = e 1
ids_made_lem s x four e (suc (suc zero)) = e 2
ids_made_lem s x four e (suc (suc (suc l))) = e (suc (suc (suc l)))

-- ---- the ids end to end

module _ (count : ℕ) (s : List ℕ) (at : ℕ) where
  pub onward-start : Onward count s at 0 (Some (record { at = at }))
  unfolding Onward span_from
  onward-start m = ap (span_at count s at) (sym (zero-add m))

  pub onward-four : (i : ℕ) (from next : Option Cursor) (x : Spans) → Onward count s at i from → ReachesFour count s from x next → Onward count s at (i + 4) next
  unfolding Onward
  onward-four i from next x o r m = let n : i + suc (suc (suc (suc m))) ≡ i + 4 + m = omega arith in r.1 m ∙ o (suc (suc (suc (suc m)))) ∙ ap (span_at count s at) n

  -- the one that is read next is the i-th, and the others come after it
  module _ (i p : ℕ) {q : ℕ} {e : EntryHead} (o : Onward count s at i (Some (record { at = p }))) (read : entry_at count s p ≡ ok e q) where
    pub onward-here : span_at count s at i ≡ span_of e
    unfolding Onward span_from
    onward-here = let n : i + 0 ≡ i = omega arith in ap (span_at count s at) (sym n) ∙ sym (o 0) ∙ first-at count s p read

    pub onward-one : Onward count s at (i + 1) (Some (record { at = q }))
    unfolding Onward span_from
    onward-one m = let n : i + suc m ≡ i + 1 + m = omega arith in sym (later_at count s p read m) ∙ o (suc m) ∙ ap (span_at count s at) n

    pub id-here : (n : ℕ) (ids : List ℕ) → IdsFrom count s at n ids → i < n → i < length ids / 32 → hash_at ids (32 * i) ≡ head_id s e
    unfolding IdsFrom span_id span_of
    id-here n ids made low room = made i low room ∙ ap (span_id s) onward-here

  pub ids_none : (ids : List ℕ) → IdsFrom count s at 0 ids
  unfolding IdsFrom
  ids_none ids k low room = absurd (omega arith)

  pub ids_enough : {n i : ℕ} (ids : List ℕ) → n ≤ i → IdsFrom count s at i ids → IdsFrom count s at n ids
  unfolding IdsFrom
  ids_enough ids past made k low room = made k (omega arith) room

  -- one more
  ids_one : (ids x : List ℕ) (i : ℕ) → IdsFrom count s at i ids → x ≡ span_id s (span_at count s at i) → IdsFrom count s at (i + 1) (set_hash ids i x)
  unfolding IdsFrom span_id
  ids_one ids x i made e = go (ltb i (length ids / 32)) refl
    where
      long : length x ≡ 32
      long = ap length e ∙ span-length s _ _

      go : (t : Bool) → ltb i (length ids / 32) ≡ t → IdsFrom count s at (i + 1) (set_hash ids i x)
      go true q =
          let low : i < length ids / 32 = ltb-true i (length ids / 32) q in
          let inside : 32 * i + 32 ≤ length ids = omega arith in
          let whole : 32 ≤ length x = omega (arith, long) in
          rw (set-inside ids i x low, length-paste ids (32 * i) x 32 inside whole)
          (below_more (λ (k : ℕ). k < length ids / 32 → hash_at (paste ids (32 * i) x 32) (32 * k) ≡ span_id s (span_at count s at k)) i
          (λ k h room. stored_other ids x i long inside k (λ d. omega arith) ∙ made k h room)
          (λ room. stored_here ids x i long inside ∙ e))
      go false q = let past = ltb-false i (length ids / 32) q in rw (set_outside ids i x past) (λ k h room. made k (omega arith) room)

  -- four more, in lanes
  pub ids_four : (ids : List ℕ) (i : ℕ) (from next : Option Cursor) (x : Spans) (four : Nodes) → IdsFrom count s at i ids → Onward count s at i from → ReachesFour count s from x next
      → ((l : ℕ) → L.node l four ≡ span_id s (span l x)) → IdsFrom count s at (i + 4) (set_four ids i four)
  unfolding set_four L.node L.in_lane Onward
  ids_four ids i from next x four made o r f =
      let is : (l : ℕ) → l < 4 → L.node l four ≡ span_id s (span_at count s at (i + l)) = λ l h. f l ∙ ap (span_id s) (r.0 l h ∙ o l) in
      let one : List ℕ = set_hash ids i four.a in
      let two : List ℕ = set_hash one (i + 1) four.b in
      let three : List ℕ = set_hash two (i + 2) four.c in
      let n0 : i + 0 ≡ i = omega arith in
      let n2 : i + 1 + 1 ≡ i + 2 = omega arith in
      let n3 : i + 2 + 1 ≡ i + 3 = omega arith in
      let n4 : i + 3 + 1 ≡ i + 4 = omega arith in
      let a = is 0 (omega arith) in
      let first = ids_one ids four.a i made (rw n0 at a) in
      let second = ids_one one four.b (i + 1) first (is 1 (omega arith)) in
      let third = ids_one two four.c (i + 2) (rw n2 at second) (is 2 (omega arith)) in
      let fourth = ids_one three four.d (i + 3) (rw n3 at third) (is 3 (omega arith)) in
      rw n4 at fourth

  -- ---- the BUMPs that they name

  pub anchors_none : (anchors : List ℕ) → AnchorsFrom count s at 0 anchors
  unfolding AnchorsFrom
  anchors_none anchors k low room = absurd (omega arith)

  pub anchors_enough : {n i : ℕ} (anchors : List ℕ) → n ≤ i → AnchorsFrom count s at i anchors → AnchorsFrom count s at n anchors
  unfolding AnchorsFrom
  anchors_enough anchors past made k low room = made k (omega arith) room

  anchors_one : (anchors : List ℕ) (i x : ℕ) → AnchorsFrom count s at i anchors → x ≡ (span_at count s at i).anchor → AnchorsFrom count s at (i + 1) (set anchors i x)
  unfolding AnchorsFrom
  anchors_one anchors i x made e =
      rw (length-set anchors i x)
      (below_more (λ (k : ℕ). k < length anchors → get_or (set anchors i x) k 0 ≡ (span_at count s at k).anchor) i
      (λ k h room. get_or-set_other anchors i k x 0 (λ d. omega arith) ∙ made k h room)
      (λ room. get_or-set_same anchors i x 0 room ∙ e))

  pub anchors_four : (anchors : List ℕ) (i : ℕ) (from next : Option Cursor) (x : Spans) → AnchorsFrom count s at i anchors → Onward count s at i from → ReachesFour count s from x next
      → AnchorsFrom count s at (i + 4) (set_anchors anchors i x)
  unfolding set_anchors span L.in_lane Onward
  anchors_four anchors i from next x made o r =
      let is : (l : ℕ) → l < 4 → (span l x).anchor ≡ (span_at count s at (i + l)).anchor = λ l h. ap (λ (y : NamedSpan). y.anchor) (r.0 l h ∙ o l) in
      let one : List ℕ = set anchors i x.a.anchor in
      let two : List ℕ = set one (i + 1) x.b.anchor in
      let three : List ℕ = set two (i + 2) x.c.anchor in
      let n0 : i + 0 ≡ i = omega arith in
      let n2 : i + 1 + 1 ≡ i + 2 = omega arith in
      let n3 : i + 2 + 1 ≡ i + 3 = omega arith in
      let n4 : i + 3 + 1 ≡ i + 4 = omega arith in
      let a = is 0 (omega arith) in
      let first = anchors_one anchors i x.a.anchor made (rw n0 at a) in
      let second = anchors_one one (i + 1) x.b.anchor first (is 1 (omega arith)) in
      let third = anchors_one two (i + 2) x.c.anchor (rw n2 at second) (is 2 (omega arith)) in
      let fourth = anchors_one three (i + 3) x.d.anchor (rw n3 at third) (is 3 (omega arith)) in
      rw n4 at fourth

-- a BUMP that a transaction names is one of the bundle's
anchor-low : (count : ℕ) (s : List ℕ) (at : ℕ) {e : EntryHead} {next : ℕ} → entry_at count s at ≡ ok e next → anchor_of e.anchor < MAX_BUMPS → anchor_of e.anchor < count
unfolding anchor_of
anchor-low count s at {e} {next} read = told (each-ok entry_head_of (entry_field count s at) read)
  where
    by : (x : Option ℕ) → ((n : ℕ) → x ≡ Some n → n < count) → anchor_of x < MAX_BUMPS → anchor_of x < count
    by (Some n) low h = low n refl
    by None low h = absurd (omega arith)

    told : (x : BeefEntry) × (entry_field count s at ≡ ok x next) × (entry_head_of x ≡ e) → anchor_of e.anchor < MAX_BUMPS → anchor_of e.anchor < count
    told x = rw (← x.2) (by x.0.anchor (entry_told count s at x.1).anchored)

pub span-low : (count : ℕ) (s : List ℕ) (at m : ℕ) → (span_at count s at m).anchor < MAX_BUMPS → (span_at count s at m).anchor < count
unfolding no_span span_of
span-low count s at zero = go (entry_at count s at) refl
  where
    go : (r : Parse EntryHead) → entry_at count s at ≡ r → (span_at count s at 0).anchor < MAX_BUMPS → (span_at count s at 0).anchor < count
    go (ok e next) q = rw (first-at count s at q) (anchor-low count s at q)
    go (fault k p) q = rw (none-at count s at q 0) (λ h. absurd (omega arith))
span-low count s at (suc m) = go (entry_at count s at) refl (λ next. span-low count s next m)
  where
    go : (r : Parse EntryHead) → entry_at count s at ≡ r → ((next : ℕ) → (span_at count s next m).anchor < MAX_BUMPS → (span_at count s next m).anchor < count)
        → (span_at count s at (suc m)).anchor < MAX_BUMPS → (span_at count s at (suc m)).anchor < count
    go (ok e next) q on = rw (later_at count s at q m) (on next)
    go (fault k p) q on = rw (none-at count s at q (suc m)) (λ h. absurd (omega arith))
