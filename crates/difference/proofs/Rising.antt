-- The list rises: block height, tree height, then by level and offset. With `once` this fixes the list.
use mathlib.Core.Path.{◌≡◌, refl}
use mathlib.Core.List.{List, [], ◌∷◌, ◌++◌}
use mathlib.Core.Bool.{Bool, true, false, ◌&&◌, ◌||◌}
use Prim.Native.Nat.{ℕ, zero, suc, ◌^◌, ◌<◌, ◌≤◌}
use lib.Dec.{eqb, ltb}
use native.Mathlib.Omega.{arith}
use borrow.Author.Tests.{eq-eqb, lt-ltb, le-ltb}
use Rattle.encoding.specs.BumpBytes.{Content}
use Rattle.difference.specs.Differences.{Side, Difference, block, height, leaf, Told, alike, differ, told, tell, offsets_from, levels_from, unless, higher, differences}
use Rattle.levels.specs.Standing.{standing}

-- d comes before e
unfoldable pub before : Difference → Difference → Bool
before block block = false
before block height = true
before block (leaf k o s) = true
before height block = false
before height height = false
before height (leaf k o s) = true
before (leaf k o s) block = false
before (leaf k o s) height = false
before (leaf k o s) (leaf j p t) = ltb k j || (eqb k j && ltb o p)

unfoldable pub AllAfter : Difference → List Difference → Type 0
AllAfter d [] = Unit {0}
AllAfter d (e ∷ l) = (before d e ≡ true) × AllAfter d l

unfoldable pub RisingDifferences : List Difference → Type 0
RisingDifferences [] = Unit {0}
RisingDifferences (d ∷ l) = AllAfter d l × RisingDifferences l

after_append : (d : Difference) (l m : List Difference) → AllAfter d l → AllAfter d m → AllAfter d (l ++ m)
unfolding AllAfter
after_append d [] m a b = b
after_append d (e ∷ l) m a b = (a.0, after_append d l m a.1 b)

same-level : (k o p : ℕ) (s t : Side) → o < p → before (leaf k o s) (leaf k p t) ≡ true
unfolding before
same-level k o p s t h = let e = lt-ltb o p h in let f = eq-eqb k k refl in let g = le-ltb k k (omega arith) in rw (e, f, g)

next_level_lem : (k j o p : ℕ) (s t : Side) → k < j → before (leaf k o s) (leaf j p t) ≡ true
unfolding before
next_level_lem k j o p s t h = let e = lt-ltb k j h in rw e

module _ (x y : Content) where
  tell-after : (d : Difference) (k o : ℕ) (t : Told) (l : List Difference) → ((s : Side) → before d (leaf k o s) ≡ true) → AllAfter d l → AllAfter d (tell k o t l)
  unfolding AllAfter tell
  tell-after d k o alike l f a = a
  tell-after d k o (differ s) l f a = (f s, a)

  offsets_after : (d : Difference) (k n p : ℕ) → ((q : ℕ) (t : Side) → p ≤ q → before d (leaf k q t) ≡ true) → AllAfter d (offsets_from k (standing x k) (standing y k) n p)
  unfolding AllAfter offsets_from
  offsets_after d k zero p f = tt
  offsets_after d k (suc n) p f =
      tell-after d k p (told (standing x k p) (standing y k p)) (offsets_from k (standing x k) (standing y k) n (suc p)) (λ t. f p t (omega arith)) (offsets_after d k n (suc p) (λ q t h. f q t (omega arith)))

  levels-after : (d : Difference) (n k : ℕ) → ((j q : ℕ) (t : Side) → k ≤ j → before d (leaf j q t) ≡ true) → AllAfter d (levels_from x y n k)
  unfolding AllAfter levels_from
  levels-after d zero k f = tt
  levels-after d (suc n) k f =
      after_append d (offsets_from k (standing x k) (standing y k) (2 ^ suc n) 0) (levels_from x y n (suc k)) (offsets_after d k (2 ^ suc n) 0 (λ q t h. f k q t (omega arith))) (levels-after d n (suc k) (λ j q t h. f j q t (omega arith)))

  tell-rising : (k o : ℕ) (t : Told) (l m : List Difference) → ((s : Side) → AllAfter (leaf k o s) l) → ((s : Side) → AllAfter (leaf k o s) m) → RisingDifferences (l ++ m) → RisingDifferences (tell k o t l ++ m)
  unfolding RisingDifferences tell
  tell-rising k o alike l m f g r = r
  tell-rising k o (differ s) l m f g r = (after_append (leaf k o s) l m (f s) (g s), r)

  offsets_rising : (k n p : ℕ) (m : List Difference) → ((q : ℕ) (s : Side) → AllAfter (leaf k q s) m) → RisingDifferences m → RisingDifferences (offsets_from k (standing x k) (standing y k) n p ++ m)
  unfolding offsets_from
  offsets_rising k zero p m f r = r
  offsets_rising k (suc n) p m f r =
      tell-rising k p (told (standing x k p) (standing y k p)) (offsets_from k (standing x k) (standing y k) n (suc p)) m (λ s. offsets_after (leaf k p s) k n (suc p) (λ q t h. same-level k p q s t (omega arith))) (f p) (offsets_rising k n (suc p) m f r)

  levels-rising : (n k : ℕ) → RisingDifferences (levels_from x y n k)
  unfolding RisingDifferences levels_from
  levels-rising zero k = tt
  levels-rising (suc n) k =
      offsets_rising k (2 ^ suc n) 0 (levels_from x y n (suc k)) (λ q s. levels-after (leaf k q s) n (suc k) (λ j p t h. next_level_lem k j q p s t (omega arith))) (levels-rising n (suc k))

  heights : (b : Bool) (n : ℕ) → RisingDifferences (unless b height ++ levels_from x y n 0)
  unfolding RisingDifferences unless before
  heights true n = levels-rising n 0
  heights false n = (levels-after height n 0 (λ j q t h. refl), levels-rising n 0)

  blocks : (b : Bool) (n : ℕ) → AllAfter block (unless b height ++ levels_from x y n 0)
  unfolding AllAfter unless before
  blocks true n = levels-after block n 0 (λ j q t h. refl)
  blocks false n = (refl, levels-after block n 0 (λ j q t h. refl))

  all : (a b : Bool) (n : ℕ) → RisingDifferences (unless a block ++ (unless b height ++ levels_from x y n 0))
  unfolding RisingDifferences unless
  all true b n = heights b n
  all false b n = (blocks b n, heights b n)

  -- block height, tree height, then by level and offset
  pub rising : RisingDifferences (differences x y)
  unfolding differences
  rising = all (eqb x.block y.block) (eqb x.height y.height) (higher x.height y.height)
