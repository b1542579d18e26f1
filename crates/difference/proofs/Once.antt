-- Every difference stands in the list once, and nothing else does.
use mathlib.Core.Path.{◌≡◌, refl, ap, sym, ◌∙◌}
use mathlib.Core.List.{List, [], ◌∷◌, ◌++◌}
use mathlib.Core.Bool.{Bool, true, false, not, ◌&&◌, false≢true}
use Prim.Native.Nat.{ℕ, zero, suc, ◌+◌, ◌-◌, ◌^◌, ◌<◌, ◌≤◌}
use lib.Dec.{eqb, leb, ltb}
use native.Mathlib.Omega.{arith}
use native.Mathlib.Nat.{le_trans}
use lib.Pow.{pow_mono}
use borrow.Author.Tests.{eqb-true, eqb-false, eq-eqb, ne_eqb, leb-true, leb-false, ltb-true, ltb-false}
use Rattle.format.specs.Parse.{pick}
use Rattle.encoding.specs.BumpBytes.{Content}
use Rattle.difference.specs.Differences.{Side, first, second, both, Difference, block, height, leaf, Told, alike, differ, told, tell, offsets_from, levels_from, unless, higher, differences}
use Rattle.levels.proofs.Within.{Within}
use Rattle.levels.specs.Standing.{nothing, standing}

-- ---- the statement

unfoldable pub same_side : Side → Side → Bool
same_side first first = true
same_side first second = false
same_side first both = false
same_side second first = false
same_side second second = true
same_side second both = false
same_side both first = false
same_side both second = false
same_side both both = true

unfoldable pub same_difference : Difference → Difference → Bool
same_difference block block = true
same_difference block height = false
same_difference block (leaf k o s) = false
same_difference height block = false
same_difference height height = true
same_difference height (leaf k o s) = false
same_difference (leaf k o s) block = false
same_difference (leaf k o s) height = false
same_difference (leaf k o s) (leaf j p t) = eqb k j && (eqb o p && same_side s t)

unfoldable pub one : Bool → ℕ
one true = 1
one false = 0

-- how often an entry stands in a list
unfoldable pub count : Difference → List Difference → ℕ
count d [] = 0
count d (e ∷ l) = one (same_difference d e) + count d l

unfoldable pub is_told : Side → Told → Bool
is_told s alike = false
is_told s (differ t) = same_side s t

-- whether there is this difference
unfoldable pub differs : Content → Content → Difference → Bool
differs x y block = not (eqb x.block y.block)
differs x y height = not (eqb x.height y.height)
differs x y (leaf k o s) = is_told s (told (standing x k o) (standing y k o))

-- ---- proof

count_append : (d : Difference) (l m : List Difference) → count d (l ++ m) ≡ count d l + count d m
unfolding count
count_append d [] m = omega arith
count_append d (e ∷ l) m = let h = count_append d l m in omega (arith, h)

pub higher_bounds : (m n : ℕ) → (m ≤ higher m n) × (n ≤ higher m n)
unfolding higher
higher_bounds m n = go (leb m n) refl
  where
    go : (b : Bool) → leb m n ≡ b → (m ≤ pick b n m) × (n ≤ pick b n m)
    go true e = (leb-true _ _ e, omega arith)
    go false e = let f = leb-false m n e in (omega arith, omega arith)

module _ (x y : Content) (k o : ℕ) (s : Side) where
  -- an entry of the same place, or of another
  tell-here : (t : Told) (l : List Difference) → count (leaf k o s) (tell k o t l) ≡ one (is_told s t) + count (leaf k o s) l
  unfolding count tell is_told same_difference one
  tell-here alike l = omega arith
  tell-here (differ t) l = let e : eqb k k ≡ true = eq-eqb k k refl in let f : eqb o o ≡ true = eq-eqb o o refl in rw (e, f)

  tell_elsewhere : (j p : ℕ) (t : Told) (l : List Difference) → (eqb k j && eqb o p) ≡ false → count (leaf k o s) (tell j p t l) ≡ count (leaf k o s) l
  unfolding count tell same_difference one
  tell_elsewhere j p alike l e = refl
  tell_elsewhere j p (differ t) l e = rw (apart (eqb k j) (eqb o p) (same_side s t) e) (omega arith)
    where
      apart : (a b c : Bool) → (a && b) ≡ false → (a && (b && c)) ≡ false
      apart true true c f = absurd (false≢true (sym f))
      apart true false c f = refl
      apart false b c f = refl

  -- an entry among n offsets of a level
  level_apart : (j n p : ℕ) → (k ≡ j → ⊥) → count (leaf k o s) (offsets_from j (standing x j) (standing y j) n p) ≡ 0
  unfolding offsets_from count
  level_apart j zero p h = refl
  level_apart j (suc n) p h =
      let e : (eqb k j && eqb o p) ≡ false = rw (ne_eqb k j h) in
      tell_elsewhere j p (told (standing x j p) (standing y j p)) (offsets_from j (standing x j) (standing y j) n (suc p)) e ∙ level_apart j n (suc p) h

  not-both : (p : ℕ) → (o ≡ p → ⊥) → (eqb k k && eqb o p) ≡ false
  not-both p h = rw (eq-eqb k k refl, ne_eqb o p h)

  offset-past : (n p : ℕ) → o < p → count (leaf k o s) (offsets_from k (standing x k) (standing y k) n p) ≡ 0
  unfolding offsets_from count
  offset-past zero p h = refl
  offset-past (suc n) p h =
      tell_elsewhere k p (told (standing x k p) (standing y k p)) (offsets_from k (standing x k) (standing y k) n (suc p)) (not-both p (λ e. omega arith)) ∙ offset-past n (suc p) (omega arith)

  offset_beyond : (n p : ℕ) → p + n ≤ o → count (leaf k o s) (offsets_from k (standing x k) (standing y k) n p) ≡ 0
  unfolding offsets_from count
  offset_beyond zero p h = refl
  offset_beyond (suc n) p h =
      tell_elsewhere k p (told (standing x k p) (standing y k p)) (offsets_from k (standing x k) (standing y k) n (suc p)) (not-both p (λ e. omega arith)) ∙ offset_beyond n (suc p) (omega arith)

  offset-among : (n p : ℕ) → p ≤ o → o < p + n → count (leaf k o s) (offsets_from k (standing x k) (standing y k) n p) ≡ one (differs x y (leaf k o s))
  unfolding offsets_from count differs
  offset-among zero p h g = absurd (omega arith)
  offset-among (suc n) p h g = go (eqb o p) refl (λ a b. offset-among n (suc p) a b)
    where
      go : (b : Bool) → eqb o p ≡ b → (suc p ≤ o → o < suc p + n → count (leaf k o s) (offsets_from k (standing x k) (standing y k) n (suc p)) ≡ one (differs x y (leaf k o s))) → count (leaf k o s) (offsets_from k (standing x k) (standing y k) (suc n) p) ≡ one (differs x y (leaf k o s))
      go true e r =
          let f : o ≡ p = eqb-true o p e in
          ap (λ (q : ℕ). count (leaf k o s) (offsets_from k (standing x k) (standing y k) (suc n) q)) (sym f)
          ∙ tell-here (told (standing x k o) (standing y k o)) (offsets_from k (standing x k) (standing y k) n (suc o))
          ∙ (let z = offset-past n (suc o) (omega arith) in omega (arith, z))
      go false e r =
          let f = eqb-false o p e in
          tell_elsewhere k p (told (standing x k p) (standing y k p)) (offsets_from k (standing x k) (standing y k) n (suc p)) (not-both p f) ∙ r (omega (arith, f)) (omega arith)

  -- an entry among the levels
  levels-past : (n j : ℕ) → k < j → count (leaf k o s) (levels_from x y n j) ≡ 0
  unfolding levels_from count
  levels-past zero j h = refl
  levels-past (suc n) j h =
      let a = count_append (leaf k o s) (offsets_from j (standing x j) (standing y j) (2 ^ suc n) 0) (levels_from x y n (suc j)) in
      let b = level_apart j (2 ^ suc n) 0 (λ e. omega arith) in
      let c = levels-past n (suc j) (omega arith) in
      omega (arith, a, b, c)

  levels_beyond : (n j : ℕ) → j + n ≤ k → count (leaf k o s) (levels_from x y n j) ≡ 0
  unfolding levels_from count
  levels_beyond zero j h = refl
  levels_beyond (suc n) j h =
      let a = count_append (leaf k o s) (offsets_from j (standing x j) (standing y j) (2 ^ suc n) 0) (levels_from x y n (suc j)) in
      let b = level_apart j (2 ^ suc n) 0 (λ e. omega arith) in
      let c = levels_beyond n (suc j) (omega arith) in
      omega (arith, a, b, c)

  -- at level k of the levels from j, m levels are left
  levels-here : (n j m : ℕ) → j + n ≡ k + suc m → j ≤ k → count (leaf k o s) (levels_from x y n j) ≡ count (leaf k o s) (offsets_from k (standing x k) (standing y k) (2 ^ suc m) 0)
  unfolding levels_from
  levels-here zero j m h g = absurd (omega arith)
  levels-here (suc n) j m h g = go (eqb k j) refl (λ a b. levels-here n (suc j) m a b)
    where
      a : count (leaf k o s) (levels_from x y (suc n) j) ≡ count (leaf k o s) (offsets_from j (standing x j) (standing y j) (2 ^ suc n) 0) + count (leaf k o s) (levels_from x y n (suc j))
      a = count_append (leaf k o s) (offsets_from j (standing x j) (standing y j) (2 ^ suc n) 0) (levels_from x y n (suc j))

      go : (b : Bool) → eqb k j ≡ b → (suc j + n ≡ k + suc m → suc j ≤ k → count (leaf k o s) (levels_from x y n (suc j)) ≡ count (leaf k o s) (offsets_from k (standing x k) (standing y k) (2 ^ suc m) 0)) → count (leaf k o s) (levels_from x y (suc n) j) ≡ count (leaf k o s) (offsets_from k (standing x k) (standing y k) (2 ^ suc m) 0)
      go true e r =
          let f : k ≡ j = eqb-true k j e in
          let i : n ≡ m = omega arith in
          let c = levels-past n (suc j) (omega arith) in
          let d : count (leaf k o s) (offsets_from j (standing x j) (standing y j) (2 ^ suc n) 0) ≡ count (leaf k o s) (offsets_from k (standing x k) (standing y k) (2 ^ suc m) 0) = rw (i, f) in
          omega (arith, a, c, d)
      go false e r =
          let f = eqb-false k j e in
          let c = level_apart j (2 ^ suc n) 0 f in
          let d = r (omega arith) (omega (arith, f)) in
          omega (arith, a, c, d)

  unless-leaf : (b : Bool) → (count (leaf k o s) (unless b block) ≡ 0) × (count (leaf k o s) (unless b height) ≡ 0)
  unfolding unless count same_difference one
  unless-leaf true = (refl, refl)
  unless-leaf false = (refl, refl)

  module _ (wx : Within x) (wy : Within y) where
    no_difference : standing x k o ≡ nothing → standing y k o ≡ nothing → one (differs x y (leaf k o s)) ≡ 0
    unfolding differs told is_told one
    no_difference e f = rw (e, f)

    in_levels : (h : ℕ) → x.height ≤ h → y.height ≤ h → count (leaf k o s) (levels_from x y h 0) ≡ one (differs x y (leaf k o s))
    in_levels h a b = go (ltb k h) refl
      where
        wide : (m z : ℕ) → h ≡ k + suc m → z ≤ h → 2 ^ suc m ≤ o → 2 ^ (z - k) ≤ o
        wide m z e f g = le_trans (pow_mono (omega arith)) g

        within : (m : ℕ) → h ≡ k + suc m → (c : Bool) → ltb o (2 ^ suc m) ≡ c → count (leaf k o s) (offsets_from k (standing x k) (standing y k) (2 ^ suc m) 0) ≡ one (differs x y (leaf k o s))
        within m e true f = offset-among (2 ^ suc m) 0 (omega arith) (let g = ltb-true o (2 ^ suc m) f in omega (arith, g))
        within m e false f =
            let g = ltb-false o (2 ^ suc m) f in
            offset_beyond (2 ^ suc m) 0 (omega (arith, g)) ∙ sym (no_difference (wx.inside k o (wide m x.height e a g)) (wy.inside k o (wide m y.height e b g)))

        go : (c : Bool) → ltb k h ≡ c → count (leaf k o s) (levels_from x y h 0) ≡ one (differs x y (leaf k o s))
        go true e =
            let f = ltb-true k h e in
            let i : h ≡ k + suc (h - (k + 1)) = omega arith in
            levels-here h 0 (h - (k + 1)) (omega arith) (omega arith) ∙ within (h - (k + 1)) i (ltb o (2 ^ suc (h - (k + 1)))) refl
        go false e =
            let f = ltb-false k h e in
            levels_beyond h 0 (omega arith) ∙ sym (no_difference (wx.below k o (omega arith)) (wy.below k o (omega arith)))

    leaf-once : count (leaf k o s) (differences x y) ≡ one (differs x y (leaf k o s))
    unfolding differences
    leaf-once =
        let u = (unless-leaf (eqb x.block y.block)).0 in
        let v = (unless-leaf (eqb x.height y.height)).1 in
        let t = higher_bounds x.height y.height in
        let w = in_levels (higher x.height y.height) t.0 t.1 in
        let a = count_append (leaf k o s) (unless (eqb x.block y.block) block) (unless (eqb x.height y.height) height ++ levels_from x y (higher x.height y.height) 0) in
        let b = count_append (leaf k o s) (unless (eqb x.height y.height) height) (levels_from x y (higher x.height y.height) 0) in
        omega (arith, u, v, w, a, b)

-- the heights stand in no level
module _ (x y : Content) where
  tell_no_block : (k o : ℕ) (t : Told) (l : List Difference) → (count block (tell k o t l) ≡ count block l) × (count height (tell k o t l) ≡ count height l)
  unfolding tell count same_difference one
  tell_no_block k o alike l = (refl, refl)
  tell_no_block k o (differ s) l = (omega arith, omega arith)

  offsets_no_block : (k n o : ℕ) → (count block (offsets_from k (standing x k) (standing y k) n o) ≡ 0) × (count height (offsets_from k (standing x k) (standing y k) n o) ≡ 0)
  unfolding offsets_from count
  offsets_no_block k zero o = (refl, refl)
  offsets_no_block k (suc n) o =
      let t = tell_no_block k o (told (standing x k o) (standing y k o)) (offsets_from k (standing x k) (standing y k) n (suc o)) in
      let r = offsets_no_block k n (suc o) in
      (t.0 ∙ r.0, t.1 ∙ r.1)

  levels_no_block : (n k : ℕ) → (count block (levels_from x y n k) ≡ 0) × (count height (levels_from x y n k) ≡ 0)
  unfolding levels_from count
  levels_no_block zero k = (refl, refl)
  levels_no_block (suc n) k =
      let o = offsets_no_block k (2 ^ suc n) 0 in
      let r = levels_no_block n (suc k) in
      let a = count_append block (offsets_from k (standing x k) (standing y k) (2 ^ suc n) 0) (levels_from x y n (suc k)) in
      let b = count_append height (offsets_from k (standing x k) (standing y k) (2 ^ suc n) 0) (levels_from x y n (suc k)) in
      (omega (arith, o.0, r.0, a), omega (arith, o.1, r.1, b))

  unless_own : (b : Bool) → (count block (unless b block) ≡ one (not b)) × (count height (unless b height) ≡ one (not b)) × (count block (unless b height) ≡ 0) × (count height (unless b block) ≡ 0)
  unfolding unless count same_difference one
  unless_own true = (refl, refl, refl, refl)
  unless_own false = (refl, refl, refl, refl)

  block-once : (count block (differences x y) ≡ one (differs x y block)) × (count height (differences x y) ≡ one (differs x y height))
  unfolding differences differs
  block-once =
      let u = unless_own (eqb x.block y.block) in
      let v = unless_own (eqb x.height y.height) in
      let w = levels_no_block (higher x.height y.height) 0 in
      let a = count_append block (unless (eqb x.block y.block) block) (unless (eqb x.height y.height) height ++ levels_from x y (higher x.height y.height) 0) in
      let b = count_append block (unless (eqb x.height y.height) height) (levels_from x y (higher x.height y.height) 0) in
      let c = count_append height (unless (eqb x.block y.block) block) (unless (eqb x.height y.height) height ++ levels_from x y (higher x.height y.height) 0) in
      let d = count_append height (unless (eqb x.height y.height) height) (levels_from x y (higher x.height y.height) 0) in
      (omega (arith, u.0, v.2, w.0, a, b), omega (arith, u.3, v.1, w.1, c, d))

  -- every difference stands in the list once, and nothing else does
  pub once : Within x → Within y → (d : Difference) → count d (differences x y) ≡ one (differs x y d)
  once wx wy block = block-once.0
  once wx wy height = block-once.1
  once wx wy (leaf k o s) = leaf-once x y k o s wx wy
