-- Laws of searching a level whose offsets rise: from a mark, and no further than the first greater offset.
use Prim.Native.Nat.{ℕ, zero, suc, ◌+◌, ◌-◌, ◌*◌, ◌/◌, ◌%◌, ◌<◌, ◌≤◌, ◌^◌}
use mathlib.Core.Path.{◌≡◌, refl, sym, ap, ◌∙◌, subst}
use mathlib.Core.Bool.{Bool, true, false}
use mathlib.Core.List.{List}
use lib.ListN.{length, get_or, replicate}
use lib.Dec.{leb, ltb, eqb}
use native.Mathlib.Omega.{arith}
use native.Mathlib.Nat.{sub-zero}
use borrow.Author.Tests.{leb-true, le-leb, eqb-true, eqb-false}
use Rattle.format.specs.declared.level.Layout.{Layout}
use Rattle.format.specs.declared.leaf.Leaf.{Leaf}
use Rattle.std.specs.Prelude.{None}
use Rattle.format.specs.Parse.{Parse, ok, fault, pick, otherwise}
use Rattle.format.specs.Field.{varint}
use Rattle.path.specs.Search.{seek, leaf_of_level}
use Rattle.path.proofs.SearchLaws.{seek_stop, seek_on}
use Rattle.spv.specs.Marks.{rises, after, narrowed, Mark, IsMark, Marked, MayStart}
use Rattle.path.specs.Unchecked.{unchecked_leaf}

-- ---- levels whose offsets rise

module _ (layout : Layout) (s : List ℕ) where
  -- one leaf less
  rises_cons : (n at lo : ℕ) {leaf : Leaf} {next : ℕ} → unchecked_leaf layout s at ≡ ok leaf next → rises layout s (suc n) at lo ≡ pick (leb lo leaf.offset) (rises layout s n next (leaf.offset + 1)) false
  unfolding rises
  rises_cons n at lo e = rw e

  rises-parts : (n at lo : ℕ) {leaf : Leaf} {next : ℕ} → unchecked_leaf layout s at ≡ ok leaf next → rises layout s (suc n) at lo ≡ true → (lo ≤ leaf.offset) × (rises layout s n next (leaf.offset + 1) ≡ true)
  rises-parts n at lo {leaf} {next} e h = go (leb lo leaf.offset) refl (sym (rises_cons n at lo e) ∙ h)
    where
      go : (b : Bool) → leb lo leaf.offset ≡ b → pick b (rises layout s n next (leaf.offset + 1)) false ≡ true → (lo ≤ leaf.offset) × (rises layout s n next (leaf.offset + 1) ≡ true)
      go true f g = (leb-true _ _ f, g)
      go false f g = absurd (let z : ◌≡◌ {A = ℕ} 0 1 = cc in omega arith)

  -- from any lower number on
  pub rises_lower : (n at lo low : ℕ) → low ≤ lo → rises layout s n at lo ≡ true → rises layout s n at low ≡ true
  unfolding rises
  rises_lower zero at lo low b h = refl
  rises_lower (suc n) at lo low b h = go (unchecked_leaf layout s at) refl
    where
      go : (p : Parse Leaf) → unchecked_leaf layout s at ≡ p → otherwise p true (λ leaf next. pick (leb low leaf.offset) (rises layout s n next (leaf.offset + 1)) false) ≡ true
      go (fault m x) e = refl
      go (ok leaf next) e = let r = rises-parts n at lo e h in let l : low ≤ leaf.offset = omega (arith, r.0) in rw (le-leb low leaf.offset l) r.1

  -- r leaves are left
  pub rises_next : (r r' at lo : ℕ) {leaf : Leaf} {next : ℕ} → r ≡ r' + 1 → unchecked_leaf layout s at ≡ ok leaf next → rises layout s r at lo ≡ true → rises layout s r' next (leaf.offset + 1) ≡ true
  rises_next r r' at lo h e t = let g : r ≡ suc r' = omega arith in (rises-parts r' at lo e (ap (λ (n : ℕ). rises layout s n at lo) (sym g) ∙ t)).1

  pub rises-step : (r r' at lo : ℕ) {leaf : Leaf} {next : ℕ} → r ≡ r' + 1 → unchecked_leaf layout s at ≡ ok leaf next → lo ≤ leaf.offset → rises layout s r' next (leaf.offset + 1) ≡ true → rises layout s r at lo ≡ true
  rises-step r r' at lo {leaf} {next} h e b t =
      let g : r ≡ suc r' = omega arith in
      ap (λ (n : ℕ). rises layout s n at lo) g ∙ rises_cons r' at lo e ∙ ap (λ (x : Bool). pick x (rises layout s r' next (leaf.offset + 1)) false) (le-leb lo leaf.offset b) ∙ t

  pub rises-stop : (r at lo : ℕ) {m x : ℕ} → unchecked_leaf layout s at ≡ fault m x → rises layout s r at lo ≡ true
  unfolding rises
  rises-stop zero at lo e = refl
  rises-stop (suc r) at lo e = rw e

  pub rises-end : (r at lo : ℕ) → r ≡ 0 → rises layout s r at lo ≡ true
  unfolding rises
  rises-end r at lo e = rw e

  -- what is lower than all of them is not there
  pub rises-below : (n at lo q : ℕ) → rises layout s n at lo ≡ true → q < lo → seek layout q n s at ≡ None
  unfolding seek
  rises-below zero at lo q h b = refl
  rises-below (suc n) at lo q h b = go (unchecked_leaf layout s at) refl (λ next l g c. rises-below n next l q g c)
    where
      go : (p : Parse Leaf) → unchecked_leaf layout s at ≡ p → ((next l : ℕ) → rises layout s n next l ≡ true → q < l → seek layout q n s next ≡ None) → seek layout q (suc n) s at ≡ None
      go (fault m x) e ih = seek_stop layout q s (suc n) at (omega arith) e
      go (ok leaf next) e ih =
          let r = rises-parts n at lo e h in
          seek_on layout q s (suc n) n at (omega arith) e (λ z. omega (arith, r.0)) ∙ ih next (leaf.offset + 1) r.1 (omega (arith, r.0))

  -- nor is what is lower than the next of them
  pub past-rising : (r at q : ℕ) {leaf : Leaf} {next : ℕ} → 0 < r → unchecked_leaf layout s at ≡ ok leaf next → q < leaf.offset → rises layout s r at 0 ≡ true → seek layout q r s at ≡ None
  past-rising zero at q b e l h = absurd (omega arith)
  past-rising (suc r) at q {leaf} {next} b e l h =
      seek_on layout q s (suc r) r at (omega arith) e (λ z. omega arith) ∙ rises-below r next (leaf.offset + 1) q (rises-parts r at 0 e h).1 (omega arith)

  -- ---- the place after m leaves

  after_cons : (m at : ℕ) {leaf : Leaf} {next : ℕ} → unchecked_leaf layout s at ≡ ok leaf next → after layout s (suc m) at ≡ after layout s m next
  unfolding after
  after_cons m at e = rw e

  pub after_stuck : (m at : ℕ) {n x : ℕ} → unchecked_leaf layout s at ≡ fault n x → after layout s m at ≡ at
  unfolding after
  after_stuck zero at e = refl
  after_stuck (suc m) at e = rw e

  pub after_next : (r r' at : ℕ) {leaf : Leaf} {next : ℕ} → r ≡ r' + 1 → unchecked_leaf layout s at ≡ ok leaf next → after layout s r at ≡ after layout s r' next
  after_next r r' at h e = let g : r ≡ suc r' = omega arith in ap (λ (n : ℕ). after layout s n at) g ∙ after_cons r' at e

  pub after_none : (r at : ℕ) → r ≡ 0 → after layout s r at ≡ at
  unfolding after
  after_none r at e = rw e

  pub after_add : (m r at : ℕ) → after layout s (m + r) at ≡ after layout s r (after layout s m at)
  unfolding after
  after_add zero r at = let e : 0 + r ≡ r = omega arith in ap (λ (n : ℕ). after layout s n at) e
  after_add (suc m) r at = let e : suc m + r ≡ suc (m + r) = omega arith in ap (λ (n : ℕ). after layout s n at) e ∙ go (unchecked_leaf layout s at) refl (λ next. after_add m r next)
    where
      go : (p : Parse Leaf) → unchecked_leaf layout s at ≡ p → ((next : ℕ) → after layout s (m + r) next ≡ after layout s r (after layout s m next))
          → otherwise p at (λ leaf next. after layout s (m + r) next) ≡ after layout s r (otherwise p at (λ leaf next. after layout s m next))
      go (fault n x) e ih = sym (after_stuck r at e)
      go (ok leaf next) e ih = ih next

  -- a leaf further on has an offset of at least lo
  after-low : (m n at lo : ℕ) {leaf : Leaf} {x : ℕ} → m < n → rises layout s n at lo ≡ true → unchecked_leaf layout s (after layout s m at) ≡ ok leaf x → lo ≤ leaf.offset
  unfolding after
  after-low zero zero at lo b h e = absurd (omega arith)
  after-low zero (suc n) at lo b h e = (rises-parts n at lo e h).0
  after-low (suc m) zero at lo b h e = absurd (omega arith)
  after-low (suc m) (suc n) at lo {leaf} {x} b h e = go (unchecked_leaf layout s at) refl e (λ next l g f. after-low m n next l (omega arith) g f)
    where
      go : (p : Parse Leaf) → unchecked_leaf layout s at ≡ p → unchecked_leaf layout s (otherwise p at (λ leaf next. after layout s m next)) ≡ ok leaf x
          → ((next l : ℕ) → rises layout s n next l ≡ true → unchecked_leaf layout s (after layout s m next) ≡ ok leaf x → l ≤ leaf.offset) → lo ≤ leaf.offset
      go (fault k y) f g ih = absurd (let z = sym f ∙ g in let z' : ◌≡◌ {A = ℕ} 0 1 = cc in omega arith)
      go (ok first next) f g ih = let r = rises-parts n at lo f h in omega (arith, r.0, ih next (first.offset + 1) r.1 g)

  -- a search may start at a leaf whose offset is no greater
  pub after-seek : (m n at lo q : ℕ) {leaf : Leaf} {x : ℕ} → m < n → rises layout s n at lo ≡ true → unchecked_leaf layout s (after layout s m at) ≡ ok leaf x → leaf.offset ≤ q
      → seek layout q n s at ≡ seek layout q (n - m) s (after layout s m at)
  unfolding after
  after-seek zero n at lo q b h e l = ap (λ (r : ℕ). seek layout q r s at) (sym (sub-zero n))
  after-seek (suc m) zero at lo q b h e l = absurd (omega arith)
  after-seek (suc m) (suc n) at lo q {leaf} {x} b h e l = go (unchecked_leaf layout s at) refl e (λ next lo' g f. after-seek m n next lo' q (omega arith) g f l)
    where
      go : (p : Parse Leaf) → unchecked_leaf layout s at ≡ p → unchecked_leaf layout s (otherwise p at (λ leaf next. after layout s m next)) ≡ ok leaf x
          → ((next lo' : ℕ) → rises layout s n next lo' ≡ true → unchecked_leaf layout s (after layout s m next) ≡ ok leaf x → seek layout q n s next ≡ seek layout q (n - m) s (after layout s m next))
          → seek layout q (suc n) s at ≡ seek layout q (suc n - suc m) s (otherwise p at (λ leaf next. after layout s m next))
      go (fault k y) f g ih = absurd (let z = sym f ∙ g in let z' : ◌≡◌ {A = ℕ} 0 1 = cc in omega arith)
      go (ok first next) f g ih =
          let r = rises-parts n at lo f h in
          let low = after-low m n next (first.offset + 1) (omega arith) r.1 g in
          let d : suc n - suc m ≡ n - m = omega arith in
          seek_on layout q s (suc n) n at (omega arith) f (λ z. omega (arith, low)) ∙ ih next (first.offset + 1) r.1 g ∙ ap (λ (t : ℕ). seek layout q t s (after layout s m next)) (sym d)

  -- what is left after m leaves rises as well
  pub after-rises : (m n at lo : ℕ) → rises layout s n at lo ≡ true → rises layout s (n - m) (after layout s m at) 0 ≡ true
  unfolding after
  after-rises zero n at lo h = ap (λ (r : ℕ). rises layout s r at 0) (sub-zero n) ∙ rises_lower n at lo 0 (omega arith) h
  after-rises (suc m) zero at lo h = rises-end (zero - suc m) _ 0 (omega arith)
  after-rises (suc m) (suc n) at lo h = go (unchecked_leaf layout s at) refl (λ next l g. after-rises m n next l g)
    where
      d : suc n - suc m ≡ n - m
      d = omega arith

      go : (p : Parse Leaf) → unchecked_leaf layout s at ≡ p → ((next l : ℕ) → rises layout s n next l ≡ true → rises layout s (n - m) (after layout s m next) 0 ≡ true)
          → rises layout s (suc n - suc m) (otherwise p at (λ leaf next. after layout s m next)) 0 ≡ true
      go (fault k y) f ih = rises-stop (suc n - suc m) at 0 f
      go (ok first next) f ih = ap (λ (t : ℕ). rises layout s t (after layout s m next) 0) d ∙ ih next (first.offset + 1) (rises-parts n at lo f h).1

-- ---- marks

pub mark-zero : (layout : Layout) (s places : List ℕ) (y p : ℕ) → p ≡ 0 → IsMark layout s places y p
unfolding IsMark
mark-zero layout s places y p e = λ n. absurd (n e)

-- a place that doesn't fit 32 bits is no mark
pub mark-narrowed : (layout : Layout) (s places : List ℕ) (y p : ℕ) → IsMark layout s places y p → IsMark layout s places y (narrowed p)
unfolding narrowed
mark-narrowed layout s places y p g = go (ltb p (2 ^ 32))
  where
    go : (b : Bool) → IsMark layout s places y (pick b p 0)
    go true = g
    go false = mark-zero layout s places y 0 refl

module _ (layout : Layout) (s : List ℕ) (at i p : ℕ) (m : Mark layout s at i p) (n first : ℕ) (e : varint s at ≡ ok n first) where
  mark-count : m.count ≡ n
  mark-count = let z = sym m.read ∙ e in cc

  pub mark-within : 64 * i ≤ n
  mark-within = go (eqb i 0) refl
    where
      go : (b : Bool) → eqb i 0 ≡ b → 64 * i ≤ n
      go true f = omega (arith, eqb-true i 0 f)
      go false f = omega (arith, m.within (eqb-false i 0 f), mark-count)

  pub mark-rises : rises layout s (n - 64 * i) p 0 ≡ true
  mark-rises =
      ap (λ (x : ℕ). rises layout s (n - 64 * i) x 0) m.place ∙ ap (λ (c : ℕ). rises layout s (c - 64 * i) (after layout s (64 * i) m.first) 0) (sym mark-count) ∙ after-rises layout s (64 * i) m.count m.first 0 m.rising

  pub mark_finds : (q : ℕ) → MayStart layout s q i p → leaf_of_level layout s at q ≡ seek layout q (n - 64 * i) s p
  unfolding leaf_of_level MayStart
  mark_finds q h =
      ap (λ (r : Parse ℕ). otherwise r None (λ n next. seek layout q n s next)) m.read
      ∙ go (eqb i 0) refl
      ∙ ap (λ (x : ℕ). seek layout q (m.count - 64 * i) s x) (sym m.place)
      ∙ ap (λ (c : ℕ). seek layout q (c - 64 * i) s p) mark-count
    where
      go : (b : Bool) → eqb i 0 ≡ b → seek layout q m.count s m.first ≡ seek layout q (m.count - 64 * i) s (after layout s (64 * i) m.first)
      go true f =
          let z : i ≡ 0 = eqb-true i 0 f in
          let a : after layout s (64 * i) m.first ≡ m.first = after_none layout s (64 * i) m.first (omega arith) in
          let d : m.count - 64 * i ≡ m.count = omega arith in
          sym (ap (λ (x : ℕ). seek layout q (m.count - 64 * i) s x) a ∙ ap (λ (c : ℕ). seek layout q c s m.first) d)
      go false f =
          let z = eqb-false i 0 f in
          let l = h z in
          after-seek layout s (64 * i) m.count m.first 0 q (m.within z) m.rising (ap (unchecked_leaf layout s) (sym m.place) ∙ l.2) l.3

-- ---- the last mark from which a search may start

module _ (layout : Layout) (s marks : List ℕ) (base q : ℕ) where
  pub record Chosen (i : ℕ) : Type 0 where
    pub low : i < 16
    pub there : get_or marks (base + i) 0 ≡ 0 → ⊥
    pub may : MayStart layout s q i (get_or marks (base + i) 0)

  pub chosen-first : (get_or marks base 0 ≡ 0 → ⊥) → Chosen 0
  unfolding MayStart
  chosen-first n =
      let e : base + 0 ≡ base = omega arith in
      record { low = omega arith; there = λ z. n (ap (λ (x : ℕ). get_or marks x 0) (sym e) ∙ z); may = λ m. absurd (m refl) }

  pub chosen-next : (i : ℕ) {leaf : Leaf} {x : ℕ} → i < 15 → (get_or marks (base + i + 1) 0 ≡ 0 → ⊥) → unchecked_leaf layout s (get_or marks (base + i + 1) 0) ≡ ok leaf x → leaf.offset ≤ q → Chosen (i + 1)
  unfolding MayStart
  chosen-next i {leaf} {x} b n e l =
      let a : base + (i + 1) ≡ base + i + 1 = omega arith in
      record {
        low = omega arith;
        there = λ z. n (ap (λ (y : ℕ). get_or marks y 0) (sym a) ∙ z);
        may = λ m. (leaf, x, ap (λ (y : ℕ). unchecked_leaf layout s (get_or marks y 0)) a ∙ e, l);
      }

-- ---- making the marks, one after the other

module _ (layout : Layout) (s places : List ℕ) where
  pub mark-first : (y n first : ℕ) → y % 16 ≡ 0 → varint s (get_or places (y / 16) 0) ≡ ok n first → rises layout s n first 0 ≡ true → IsMark layout s places y first
  unfolding IsMark
  mark-first y n first z e h =
      λ m. record {
        count = n;
        first = first;
        read = e;
        rising = h;
        place = sym (after_none layout s (64 * (y % 16)) first (omega arith));
        within = λ w. absurd (w z);
      }

  pub mark-next : (y before n first : ℕ) → (y % 16 ≡ 0 → ⊥) → IsMark layout s places (y - 1) before → (before ≡ 0 → ⊥) → varint s (get_or places (y / 16) 0) ≡ ok n first → 64 * (y % 16) < n
      → (r : ℕ) → r ≡ after layout s 64 before → IsMark layout s places y r
  unfolding IsMark
  mark-next y before n first z g b e l r f = go (g b)
    where
      go : Mark layout s (get_or places ((y - 1) / 16) 0) ((y - 1) % 16) before → (r ≡ 0 → ⊥) → Mark layout s (get_or places (y / 16) 0) (y % 16) r
      go m w =
          let k : (y - 1) / 16 ≡ y / 16 = omega arith in
          let i : 64 * ((y - 1) % 16) + 64 ≡ 64 * (y % 16) = omega arith in
          let read : varint s (get_or places (y / 16) 0) ≡ ok m.count m.first = ap (λ (x : ℕ). varint s (get_or places x 0)) (sym k) ∙ m.read in
          let c : n ≡ m.count = (let t = sym e ∙ read in cc) in
          record {
            count = m.count;
            first = m.first;
            read = read;
            rising = m.rising;
            place = f ∙ ap (after layout s 64) m.place ∙ sym (after_add layout s (64 * ((y - 1) % 16)) 64 m.first) ∙ ap (λ (x : ℕ). after layout s x m.first) i;
            within = λ v. omega arith;
          }

  pub record Filling (marks : List ℕ) (before y : ℕ) : Type 0 where
    pub long : length marks ≡ 1024
    pub each : (z : ℕ) → IsMark layout s places z (get_or marks z 0)
    pub last : (y % 16 ≡ 0 → ⊥) → IsMark layout s places (y - 1) before

  pub filling-start : (marks : List ℕ) → length marks ≡ 1024 → ((z : ℕ) → get_or marks z 0 ≡ 0) → Filling marks 0 0
  filling-start marks l h = record { long = l; each = λ z. mark-zero layout s places z (get_or marks z 0) (h z); last = λ n. absurd (n refl) }

  pub filling-end : (marks : List ℕ) (before y : ℕ) → Filling marks before y → Marked layout s places marks
  filling-end marks before y v = record { long = v.long; each = v.each }

pub no_marks : (n z : ℕ) → get_or {A = ℕ} (replicate n 0) z 0 ≡ 0
no_marks zero z = refl
no_marks (suc n) zero = refl
no_marks (suc n) (suc z) = no_marks n z

-- entry 16 k + i is mark i of level k
pub marked-at : (layout : Layout) (s places marks : List ℕ) → Marked layout s places marks → (k i : ℕ) → i < 16 → (get_or marks (16 * k + i) 0 ≡ 0 → ⊥)
    → Mark layout s (get_or places k 0) i (get_or marks (16 * k + i) 0)
unfolding IsMark
marked-at layout s places marks v k i b n =
    let d : (16 * k + i) / 16 ≡ k = omega arith in
    let m : (16 * k + i) % 16 ≡ i = omega arith in
    subst (λ (x : ℕ). Mark layout s (get_or places k 0) x (get_or marks (16 * k + i) 0)) m
    (subst (λ (x : ℕ). Mark layout s (get_or places x 0) ((16 * k + i) % 16) (get_or marks (16 * k + i) 0)) d (v.each (16 * k + i) n))
