-- Every bundle that is read is put together from parts, so that what is said of `bundle_bytes` is said of every bundle.
use Prim.Native.Nat.{ℕ, zero, suc, ◌+◌, ◌-◌, ◌*◌, ◌≤◌, ◌<◌}
use native.Mathlib.Nat.{add-zero, min-eq_left}
use native.Mathlib.Numerals.{add-one}
use mathlib.Core.Path.{◌≡◌, refl, sym, ap, ◌∙◌, subst}
use mathlib.Core.Bool.{Bool, true, false}
use mathlib.Core.List.{List, [], ◌∷◌, ◌++◌, map, map-id, append_assoc, append-nil}
use native.Mathlib.Omega.{arith}
use lib.ListN.{length, get_or, take, drop, length-take, length-drop, take-append-drop, drop_of_length-le}
use lib.Seq.{get_or-take, get_or-drop, drop-cons, drop-drop}
use lib.Dec.{ltb, leb, eqb}
use borrow.Author.Tests.{leb-true, ltb-true, eqb-true, eqb-false}
use mir.Syntax.{w8}
use mir.Val.{Fits}
use Rattle.std.specs.Prelude.{Option, None, Some}
use Rattle.format.specs.Parse.{Parse, Reader, ok, fault, pick, pure, onward, given, at_start, many, times, ◌passing◌else◌}
use Rattle.format.proofs.ParseLaws.{onward-told, passing_told, each-ok, many-told, many-length, whole-told}
use Rattle.format.proofs.Span.{Within, bytes-told, byte-told, varint-told, many-within}
use Rattle.format.proofs.Whole.{whole-size, whole_ends}
use Rattle.format.specs.Field.{bytes, byte, le2, le4, le8, number, announced, varint}
use Rattle.format.specs.Bump.{Bump, bump_field}
use Rattle.format.specs.Transaction.{Transaction, beef_tx_field}
use Rattle.format.proofs.TransactionLaws.{tx_told}
use Rattle.format.specs.Beef.{VERSION, BeefEntry, Beef, version_field, bump_count_field, bumps_field, bumps_up_to, tx_count_field, bump_number_field, anchor_field, entry_field, entries_field, beef_field, beef_up_to, beef_whole}
use Rattle.format.proofs.BeefLaws.{bump-count-told, tx_count-told, anchor-told}
use Rattle.format.specs.Refusals.{LONG_VARINT, OVER_LIMIT, BAD_FLAG, BAD_VERSION, BAD_INDEX, EMPTY, NO_ROOM, MAX_INPUT, MAX_BUMPS, MAX_TXS}
use Rattle.bundle.specs.Bundle.{judge_beef}
use Rattle.bundle.proofs.Reread.{StandsIn, Again, varint-again}
use Rattle.bundle.proofs.RereadBundle.{bump_said, tx_said, bump-again, tx_again}
use Rattle.bundle.proofs.BundleParts.{Spells, chained, anchor_bytes, Part, part_bytes, no_part, version_bytes, bundle_bytes, Parts}
use Rattle.bundle.proofs.BundlePartsRead.{stands_self}
use Rattle.bundle.proofs.OneMoreBump.{later, each_record}
use Rattle.bundle.proofs.UnusedBump.{renumbered_part, unused_bump}

-- a transaction, and an anchor in one of so many BUMPs
abbrev IsPart : ℕ → Part → Type 0
IsPart bumps p = ((x : Transaction) × Spells beef_tx_field p.raw x) × ((n : ℕ) → p.anchor ≡ Some n → n < bumps)

module _ (s : List ℕ) where
  -- ---- the bytes from a place to another

  abbrev slice : ℕ → ℕ → List ℕ
  slice at q = take (q - at) (drop at s)

  slice_rest : (at q : ℕ) → at ≤ q → drop at s ≡ slice at q ++ drop q s
  slice_rest at q h =
      let e : at + (q - at) ≡ q = omega arith in
      sym (take-append-drop (q - at) (drop at s)) ∙ ap (λ (l : List ℕ). slice at q ++ l) (drop-drop (q - at) at s ∙ ap (λ (k : ℕ). drop k s) e)

  slice_length : (at q : ℕ) → at ≤ q → q ≤ length s → length (slice at q) ≡ q - at
  slice_length at q h low = simp (length-take, length-drop) (omega arith)

  slice_stands : (at q : ℕ) → at ≤ q → q ≤ length s → StandsIn (slice at q) s at
  slice_stands at q h low =
      let l = slice_length at q h low in
      record { room = omega arith; same = λ p b. get_or-take (q - at) (drop at s) p 0 (omega arith) ∙ get_or-drop at s p 0 }

  -- what was read is spelled by its bytes alone
  cut : {A C : Type 0} (item : Reader A) (said : List ℕ → A → C) → ((u : List ℕ) (base : ℕ) → StandsIn u s base → Again u s base item item (said u) (said s))
      → (at q : ℕ) (a : A) → item s at ≡ ok a q → q ≤ length s → (at ≤ q) × ((b : A) × Spells item (slice at q) b × (said (slice at q) b ≡ said s a))
  cut item said moves at q a e low =
      let forth : at ≤ q = (moves s 0 (stands_self s)).onwards.forth at q a e in
      let long = slice_length at q forth low in
      let end : q ≡ at + (q - at) = omega arith in
      let x = (moves (slice at q) at (slice_stands at q forth low)).within 0 (q - at) a (ap (item s) (add-zero at) ∙ e ∙ ap (ok a) end) (omega arith) in
      (forth, (x.0, x.1 ∙ ap (ok x.0) (sym long), x.2))

  -- ---- items, one after the other

  items-split : {A X : Type 0} (item : Reader A) (d : X) (text : X → List ℕ) (Is : X → Type 0)
      → ((at q : ℕ) (a : A) → item s at ≡ ok a q → q ≤ length s → (at ≤ q) × ((x : X) × Is x × (drop at s ≡ text x ++ drop q s)))
      → (n at q : ℕ) (l : List A) → times item n s at ≡ ok l q → q ≤ length s
      → (at ≤ q) × ((xs : List X) × (length xs ≡ n) × ((k : ℕ) → k < length xs → Is (get_or xs k d)) × (drop at s ≡ chained (map text xs) ++ drop q s))
  unfolding many chained
  items-split item d text Is f zero at q l e low = let end : at ≡ q = cc in (omega arith, ([], refl, (λ k h. absurd (omega arith)), ap (λ (k : ℕ). drop k s) end))
  items-split {X = X} item d text Is f (suc n) at q l e low =
      let x = many-told {S = Unit {0}} (λ _. item) (λ u _. u) n tt s at e in
      let rest = items-split item d text Is f n x.1 q x.2 x.4 low in
      let first = f at x.1 x.0 x.3 (omega (arith, rest.0)) in
      (omega (arith, rest.0, first.0), (first.1.0 ∷ rest.1.0, ap suc rest.1.1, each-is first.1.0 rest.1.0 first.1.1 rest.1.2, (first.1.2 ∙ ap (λ (r : List ℕ). text first.1.0 ++ r) rest.1.3 ∙ sym (append_assoc (text first.1.0) (chained (map text rest.1.0)) (drop q s)))))
    where
      each-is : (y : X) (ys : List X) → Is y → ((k : ℕ) → k < length ys → Is (get_or ys k d)) → (k : ℕ) → k < suc (length ys) → Is (get_or (y ∷ ys) k d)
      each-is y ys i g zero h = i
      each-is y ys i g (suc k) h = g k (omega arith)

  -- ---- a number below 253 takes one byte

  small-told : (at : ℕ) {n q : ℕ} → varint s at ≡ ok n q → n < 253 → (at < length s) × (get_or s at 0 ≡ n) × (q ≡ at + 1)
  unfolding varint
  small-told at {n} {q} e low = started (onward (byte s at) (λ a next. announced a s next)) refl e
    where
      long : (value : List ℕ → ℕ → ℕ) (width least from : ℕ) → 253 ≤ least → (number value width passing (λ x. leb least x) else LONG_VARINT) s from ≡ ok n q → ⊥
      long value width least from h m = let x = leb-true least n (passing_told (number value width) (λ x. leb least x) LONG_VARINT s from m).1 in omega arith

      rest : (first from : ℕ) (a b c : Bool)
          → pick a (pure first)
          (pick b (number le2 2 passing (λ v. leb 253 v) else LONG_VARINT)
          (pick c (number le4 4 passing (λ v. leb 65536 v) else LONG_VARINT) (number le8 8 passing (λ v. leb 4294967296 v) else LONG_VARINT))) s from
          ≡ ok n q
          → (first ≡ n) × (from ≡ q)
      rest first from true b c m = (cc, cc)
      rest first from false true c m = absurd (long le2 2 253 from (omega arith) m)
      rest first from false false true m = absurd (long le4 4 65536 from (omega arith) m)
      rest first from false false false m = absurd (long le8 8 4294967296 from (omega arith) m)

      started : (p : Parse ℕ) → onward (byte s at) (λ a next. announced a s next) ≡ p → at_start at p ≡ ok n q → (at < length s) × (get_or s at 0 ≡ n) × (q ≡ at + 1)
      started (ok a r) h m =
          let x = onward-told (byte s at) (λ a next. announced a s next) (h ∙ m) in
          let b = byte-told s at x.2 in
          let y = rest x.0 x.1 (ltb x.0 253) (eqb x.0 253) (eqb x.0 254) x.3 in
          (b.inside, sym b.value-is ∙ y.0, omega (arith, b.next-is, y.1))
      started (fault n r) h m = absurd (let z : ◌≡◌ {A = ℕ} 0 1 = cc in omega arith)

  -- one byte, and what follows it
  byte-rest : (at v : ℕ) → at < length s → get_or s at 0 ≡ v → drop at s ≡ (v ∷ []) ++ drop (at + 1) s
  byte-rest at v h e = rw (← e, add-one at) (drop-cons s at 0 h)

  -- ---- a transaction with its anchor

  anchor-split : (bumps : ℕ) → bumps ≤ MAX_BUMPS → (at q : ℕ) (a : Option ℕ) → anchor_field bumps s at ≡ ok a q → (at ≤ q) × (q ≤ length s) × (drop at s ≡ anchor_bytes a ++ drop q s)
  unfolding anchor_field bump_number_field anchor_bytes
  anchor-split bumps few at q a e =
      let x = onward-told ((byte passing (λ b. leb b 1) else BAD_FLAG) s at) _ e in
      let p = passing_told byte (λ b. leb b 1) BAD_FLAG s at x.2 in
      let b = byte-told s at p.0 in
      chosen x.0 x.1 b.inside (sym b.value-is) b.next-is (leb-true x.0 1 p.1) (eqb x.0 0) refl x.3
    where
      in_bump : (k : ℕ) → get_or s at 0 ≡ 1 → at < length s → varint s (at + 1) ≡ ok k q → k < bumps → Some k ≡ a → (at ≤ q) × (q ≤ length s) × (drop at s ≡ anchor_bytes a ++ drop q s)
      in_bump k mark inside v below is =
          let y = small-told (at + 1) v (omega arith) in
          let z = varint-told s (at + 1) v in (
            omega (arith, z.0),
            z.1,
            rw (← is, y.2) (byte-rest at 1 inside mark ∙ ap (λ (l : List ℕ). 1 ∷ l) (byte-rest (at + 1) k y.0 y.1)),
          )

      chosen : (mark next : ℕ) → at < length s → get_or s at 0 ≡ mark → next ≡ at + 1 → mark ≤ 1 → (t : Bool) → eqb mark 0 ≡ t
          → pick t (pure None) (given Some (varint passing (λ n. ltb n bumps) else BAD_INDEX)) s next ≡ ok a q → (at ≤ q) × (q ≤ length s) × (drop at s ≡ anchor_bytes a ++ drop q s)
      chosen mark next inside m n low true t f =
          let is : None ≡ a = cc in
          let end : next ≡ q = cc in
          let after : at + 1 ≡ q = omega arith in
          (omega arith, omega arith, rw (← is, ← after) (byte-rest at 0 inside (m ∙ eqb-true mark 0 t)))
      chosen mark next inside m n low false t f =
          let y = each-ok Some ((varint passing (λ n. ltb n bumps) else BAD_INDEX) s next) f in
          let p = passing_told varint (λ n. ltb n bumps) BAD_INDEX s next y.1 in
          let one : mark ≡ 1 = (let z = eqb-false mark 0 t in omega arith) in
          in_bump y.0 (m ∙ one) inside (ap (varint s) (sym n) ∙ p.0) (ltb-true _ _ p.1) y.2

  entry_split : (bumps : ℕ) → bumps ≤ MAX_BUMPS → (at q : ℕ) (e : BeefEntry) → entry_field bumps s at ≡ ok e q → (at ≤ q) × (q ≤ length s) × ((p : Part) × IsPart bumps p × (drop at s ≡ part_bytes p ++ drop q s))
  unfolding entry_field
  entry_split bumps few at q e h =
      let x = onward-told (beef_tx_field s at) _ h in
      let y = onward-told (anchor_field bumps s x.1) _ x.3 in
      let end : y.1 ≡ q = (let is : ◌≡◌ {A = Parse BeefEntry} (ok (record { transaction = x.0; anchor = y.0 }) y.1) (ok e q) = y.3 in cc) in
      let t = tx_told s at x.2 in
      let c = cut beef_tx_field tx_said (λ u base st. tx_again st true) at x.1 x.0 x.2 t.inside in
      let a = anchor-split bumps few x.1 y.1 y.0 y.2 in (
        omega (arith, c.0, a.0),
        rw (← end) a.1,
        (
          record { raw = slice at x.1; anchor = y.0 },
          ((c.1.0, c.1.1), anchor-told bumps s x.1 y.2),
          slice_rest at x.1 c.0 ∙ ap (λ (l : List ℕ). slice at x.1 ++ l) (a.2 ∙ ap (λ (k : ℕ). anchor_bytes y.0 ++ drop k s) end)
              ∙ sym (append_assoc (slice at x.1) (anchor_bytes y.0) (drop q s)),
        ),
      )

  entry_within : (bumps : ℕ) → bumps ≤ MAX_BUMPS → (at q : ℕ) (e : BeefEntry) → entry_field bumps s at ≡ ok e q → Within s at q
  entry_within bumps few at q e h = let x = entry_split bumps few at q e h in record { forward = x.0; inside = λ _. x.1 }

  -- ---- the version

  version_split : ((i : ℕ) → Fits w8 (get_or s i 0)) → {v q : ℕ} → version_field s 0 ≡ ok v q → (q ≡ 4) × (s ≡ version_bytes ++ drop 4 s)
  unfolding version_field
  version_split all {v} {q} e =
      let p = passing_told (number le4 4) (λ v. eqb v VERSION) BAD_VERSION s 0 e in
      let x = onward-told (bytes 4 s 0) _ p.0 in
      let b = bytes-told 4 s 0 x.2 in
      let is : le4 s x.0 ≡ v = cc in
      let next : x.1 ≡ q = cc in
      let sum : le4 s 0 ≡ VERSION = ap (le4 s) (sym b.place_is) ∙ is ∙ eqb-true v VERSION p.1 in
      let d = digits (get_or s 0 0) (get_or s 1 0) (get_or s 2 0) (get_or s 3 0) (all 0).fits (all 1).fits (all 2).fits (all 3).fits sum in
      let long = b.inside in (
        sym next ∙ b.next-is,
        byte-rest 0 0x01 (omega arith) d.0
            ∙ ap (λ (l : List ℕ). 0x01 ∷ l) (byte-rest 1 0x00 (omega arith) d.1
            ∙ ap (λ (l : List ℕ). 0x00 ∷ l) (byte-rest 2 0xbe (omega arith) d.2
            ∙ ap (λ (l : List ℕ). 0xbe ∷ l) (byte-rest 3 0xef (omega arith) d.3))),
      )
    where
      digits : (a b c d : ℕ) → a < 256 → b < 256 → c < 256 → d < 256 → a + 256 * b + 65536 * (c + 256 * d) ≡ VERSION → (a ≡ 0x01) × (b ≡ 0x00) × (c ≡ 0xbe) × (d ≡ 0xef)
      digits a b c d ha hb hc hd e = (omega arith, omega arith, omega arith, omega arith)

-- ---- a bundle

bump-number : (s : List ℕ) (at : ℕ) {n q : ℕ} → bump_count_field s at ≡ ok n q → varint s at ≡ ok n q
unfolding bump_count_field
bump-number s at e = (passing_told varint (λ n. leb n MAX_BUMPS) OVER_LIMIT s at e).0

tx_number : (room : ℕ) (s : List ℕ) (at : ℕ) {n q : ℕ} → tx_count_field room s at ≡ ok n q → varint s at ≡ ok n q
unfolding tx_count_field
tx_number room s at e =
    let a = passing_told ((varint passing (λ n. leb n MAX_TXS) else OVER_LIMIT) passing (λ n. leb 1 n) else EMPTY) (λ n. leb n room) NO_ROOM s at e in
    let b = passing_told (varint passing (λ n. leb n MAX_TXS) else OVER_LIMIT) (λ n. leb 1 n) EMPTY s at a.0 in
    (passing_told varint (λ n. leb n MAX_TXS) OVER_LIMIT s at b.0).0

bumps-split : (s : List ℕ) (n at q : ℕ) (l : List Bump) → times bump_field n s at ≡ ok l q → q ≤ length s
    → (ws : List (List ℕ)) × (length ws ≡ n) × ((k : ℕ) → k < length ws → (x : Bump) × Spells bump_field (get_or ws k []) x) × (drop at s ≡ chained ws ++ drop q s)
bumps-split s n at q l e low =
    let x = items-split s bump_field [] (λ (w : List ℕ). w) (λ (w : List ℕ). (x : Bump) × Spells bump_field w x)
    (λ at r x h b. let y = cut s bump_field bump_said (λ u base st. bump-again st) at r x h b in (y.0, (slice s at r, (y.1.0, y.1.1), slice_rest s at r y.0))) n at q l e low in
    (x.1.0, x.1.1, x.1.2, x.1.3 ∙ ap (λ (ws : List (List ℕ)). chained ws ++ drop q s) (map-id x.1.0))

-- the parts of a bundle
pub record Split (room : ℕ) (s : List ℕ) : Type 0 where
  pub bumps : List (List ℕ)
  pub count : List ℕ
  pub parts : List Part
  pub valid : Parts room bumps count parts
  pub is : bundle_bytes bumps count parts ≡ s

-- what they spell, one after the other
spelled : (s v r₁ w₁ r₂ w₂ r₃ w₃ w₄ : List ℕ) → s ≡ v ++ r₁ → r₁ ≡ w₁ ++ r₂ → r₂ ≡ w₂ ++ r₃ → r₃ ≡ w₃ ++ w₄ → v ++ (w₁ ++ (w₂ ++ (w₃ ++ w₄))) ≡ s
spelled s v r₁ w₁ r₂ w₂ r₃ w₃ w₄ e f g h = sym (e ∙ ap (λ (l : List ℕ). v ++ l) (f ∙ ap (λ (l : List ℕ). w₁ ++ l) (g ∙ ap (λ (l : List ℕ). w₂ ++ l) h)))

split_of : (room : ℕ) (s : List ℕ) (n m : ℕ) (bumps : List (List ℕ)) (count : List ℕ) (parts : List Part) (r₁ r₂ r₃ : List ℕ) → length s ≤ MAX_INPUT → n ≤ MAX_BUMPS → (1 ≤ m) × (m ≤ MAX_TXS) × (m ≤ room)
    → length bumps ≡ n → ((k : ℕ) → k < length bumps → (x : Bump) × Spells bump_field (get_or bumps k []) x)
    → Spells varint count m
    → length parts ≡ m → ((k : ℕ) → k < length parts → IsPart n (get_or parts k no_part))
    → s ≡ version_bytes ++ r₁ → r₁ ≡ (n ∷ []) ++ r₂ → r₂ ≡ chained bumps ++ r₃ → r₃ ≡ count ++ chained (map part_bytes parts) → Split room s
split_of room s n m bumps count parts r₁ r₂ r₃ size few low nb bump counted np part e f g h =
    let is : bundle_bytes bumps count parts ≡ s =
    spelled s version_bytes r₁ (length bumps ∷ []) r₂ (chained bumps) r₃ count (chained (map part_bytes parts)) e (f ∙ ap (λ (k : ℕ). (k ∷ []) ++ r₂) (sym nb)) g h in
    record {
      bumps = bumps;
      count = count;
      parts = parts;
      is = is;
      valid = record {
        size = subst (λ (l : List ℕ). length l ≤ MAX_INPUT) (sym is) size;
        bumps-low = rw nb few;
        bump = bump;
        counted = rw np counted;
        some = rw np low.0;
        parts_low = rw np low.1;
        fits = rw np low.2;
        transaction = λ k b. (part k b).0;
        anchored = λ k i b a. rw nb ((part k b).1 i a);
      };
    }

-- every slice of u8 that is read as a bundle has them
pub every_bundle : (room : ℕ) (s : List ℕ) (b : Beef) (q : ℕ) → ((i : ℕ) → Fits w8 (get_or s i 0)) → beef_whole room s ≡ ok b q → Split room s
unfolding beef_up_to bumps_up_to entries_field
every_bundle room s b q all e =
    let v = onward-told (version_field s 0) _ (whole-told (beef_field room) s e) in
    let l = onward-told (bumps_field s v.1) _ v.3 in
    let c = onward-told (bump_count_field s v.1) _ l.2 in
    let n = onward-told (entries_field (length l.0) room s l.1) _ l.3 in
    let t = onward-told (tx_count_field room s l.1) _ n.2 in
    let end : n.1 ≡ q = (let is : ◌≡◌ {A = Parse Beef} (ok (record { bumps = l.0; entries = n.0 }) n.1) (ok b q) = n.3 in cc) in
    read_as v.1 c.0 c.1 l.1 t.0 t.1 n.1 l.0 n.0 (version_split s all v.2) c.2 c.3 t.2 t.3 (omega (arith, whole_ends (beef_field room) s e, end))
  where
    -- version, BUMP count, BUMPs, transaction count, transactions, each from its place to the next
    read_as : (p₀ n p₁ p₂ m p₃ p₄ : ℕ) (ls : List Bump) (es : List BeefEntry) → (p₀ ≡ 4) × (s ≡ version_bytes ++ drop 4 s) → bump_count_field s p₀ ≡ ok n p₁ → times bump_field n s p₁ ≡ ok ls p₂
        → tx_count_field room s p₂ ≡ ok m p₃ → times (entry_field (length ls)) m s p₃ ≡ ok es p₄ → length s ≤ p₄ → Split room s
    read_as p₀ n p₁ p₂ m p₃ p₄ ls es version ec eb et ee last =
        let few = bump-count-told s p₀ ec in
        let low = tx_count-told room s p₂ et in
        let one = small-told s p₀ (bump-number s p₀ ec) (omega arith) in
        let number = tx_number room s p₂ et in
        let told = varint-told s p₂ number in
        let same = many-length {S = Unit {0}} (λ _. bump_field) (λ u _. u) n tt s p₁ eb in
        let allowed : length ls ≤ MAX_BUMPS = omega arith in
        let inside = (many-within {S = Unit {0}} (λ _. entry_field (length ls)) (λ u _. u) s (λ _ at x r h. entry_within s (length ls) allowed at r x h) m tt p₃ ee).inside told.1 in
        let bumps = bumps-split s n p₁ p₂ ls eb (omega (arith, told.0, told.1)) in
        let count = cut s varint (λ _ x. x) (λ u base st. varint-again st) p₂ p₃ m number told.1 in
        let parts = items-split s (entry_field (length ls)) no_part part_bytes (IsPart (length ls)) (λ at r x h b. let y = entry_split s (length ls) allowed at r x h in (y.0, y.2)) m p₃ p₄ es ee inside in
        split_of room s n m bumps.0 (slice s p₂ p₃) parts.1.0 (drop 4 s) (drop p₁ s) (drop p₂ s) (whole-size (beef_field room) s e) few low
        bumps.1 bumps.2
        (subst (λ (x : ℕ). Spells varint (slice s p₂ p₃) x) count.1.2 count.1.1)
        parts.1.1 (λ k h. subst (λ (x : ℕ). IsPart x (get_or parts.1.0 k no_part)) same (parts.1.2 k h))
        version.1
        (ap (λ (k : ℕ). drop k s) (sym version.0) ∙ byte-rest s p₀ n one.0 one.1 ∙ ap (λ (k : ℕ). n ∷ drop k s) (sym one.2))
        bumps.3
        (slice_rest s p₂ p₃ count.0 ∙ ap (λ (r : List ℕ). slice s p₂ p₃ ++ r) (parts.1.3 ∙ ap (λ (r : List ℕ). chained (map part_bytes parts.1.0) ++ r) (drop_of_length-le s last) ∙ append-nil (chained (map part_bytes parts.1.0))))

-- "Of an unused BUMP only the layout is asked", of every bundle that is read: one BUMP more before any of its BUMPs or after them, with the anchors
-- renumbered, changes no judgement
pub record Unused (room : ℕ) (s roots : List ℕ) (fee : ℕ) : Type 0 where
  pub split : Split room s
  pub alike : (m : ℕ) (extra : List ℕ) (x : Bump) → m ≤ length split.bumps → Spells bump_field extra x → length split.bumps < MAX_BUMPS
      → length (bundle_bytes (take m split.bumps ++ extra ∷ drop m split.bumps) split.count (map (renumbered_part m) split.parts)) ≤ MAX_INPUT
      → judge_beef (bundle_bytes (take m split.bumps ++ extra ∷ drop m split.bumps) split.count (map (renumbered_part m) split.parts)) roots fee room
      ≡ each_record (later m (length extra)) (judge_beef s roots fee room)

pub unused_everywhere : (room : ℕ) (s roots : List ℕ) (fee : ℕ) (b : Beef) (q : ℕ) → ((i : ℕ) → Fits w8 (get_or s i 0)) → beef_whole room s ≡ ok b q → Unused room s roots fee
unused_everywhere room s roots fee b q all e = let y = every_bundle room s b q all e in record { split = y; alike = one_more y.bumps y.count y.parts y.valid y.is }
  where
    one_more : (bumps : List (List ℕ)) (count : List ℕ) (parts : List Part) → Parts room bumps count parts → bundle_bytes bumps count parts ≡ s → (m : ℕ) (extra : List ℕ) (x : Bump) → m ≤ length bumps
        → Spells bump_field extra x → length bumps < MAX_BUMPS
        → length (bundle_bytes (take m bumps ++ extra ∷ drop m bumps) count (map (renumbered_part m) parts)) ≤ MAX_INPUT
        → judge_beef (bundle_bytes (take m bumps ++ extra ∷ drop m bumps) count (map (renumbered_part m) parts)) roots fee room ≡ each_record (later m (length extra)) (judge_beef s roots fee room)
    one_more bumps count parts valid is m extra x h encode_all few size =
        let whole : take m bumps ++ drop m bumps ≡ bumps = take-append-drop m bumps in
        let long : length (take m bumps) ≡ m = length-take m bumps ∙ min-eq_left h in
        let more : List (List ℕ) = take m bumps ++ extra ∷ drop m bumps in
        let Alike : ℕ → List (List ℕ) → Type 0 = λ n l. length (bundle_bytes more count (map (renumbered_part n) parts)) ≤ MAX_INPUT
        → judge_beef (bundle_bytes more count (map (renumbered_part n) parts)) roots fee room ≡ each_record (later n (length extra)) (judge_beef (bundle_bytes l count parts) roots fee room) in
        let r : Alike (length (take m bumps)) (take m bumps ++ drop m bumps) =
        unused_bump room roots fee (take m bumps) (drop m bumps) extra count parts x (subst (λ (l : List (List ℕ)). Parts room l count parts) (sym whole) valid) encode_all
        (subst (λ (l : List (List ℕ)). length l < MAX_BUMPS) (sym whole) few) in
        subst (Alike m) whole (subst (λ (n : ℕ). Alike n (take m bumps ++ drop m bumps)) long r) size ∙ ap (λ (l : List ℕ). each_record (later m (length extra)) (judge_beef l roots fee room)) is
