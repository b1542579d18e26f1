-- Told from the least offset up, the differences of two levels in order are those of the definition.
use Rattle.std.proofs.Common.{Some}
use mathlib.Core.Path.{◌≡◌, refl, ap, sym, ◌∙◌}
use mathlib.Core.List.{List, []}
use Prim.Native.Nat.{ℕ, zero, suc, ◌+◌, ◌≤◌}
use lib.ListN.{length}
use native.Mathlib.Omega.{arith}
use Rattle.encoding.specs.BumpBytes.{Entry}
use Rattle.difference.specs.Differences.{told, tell, offsets_from}
use Rattle.levels.specs.Standing.{Standing, nothing, standing_in}
use Rattle.levels.proofs.InOrder.{From, Under, InOrder, under_weaken, standing-below}
use Rattle.difference.specs.Merge.{merged}
use Rattle.levels.proofs.FrontsLaws.{standing-front, standing-past, past_from, past_order, past-under, Turn, here, above, turn, none}
use Rattle.levels.specs.Fronts.{next_of, lesser, front, past}

-- the differences at offsets from o on go by what stands there
pub offsets_same : (k : ℕ) (c c' d d' : ℕ → Standing) (n o : ℕ) → ((p : ℕ) → o ≤ p → c p ≡ c' p) → ((p : ℕ) → o ≤ p → d p ≡ d' p) → offsets_from k c d n o ≡ offsets_from k c' d' n o
unfolding offsets_from
offsets_same k c c' d d' zero o f g = refl
offsets_same k c c' d d' (suc n) o f g =
    let r = offsets_same k c c' d d' n (suc o) (λ p h. f p (omega arith)) (λ p h. g p (omega arith)) in
    ap (λ (v : Standing). tell k o (told v (d o)) (offsets_from k c d n (suc o))) (f o (omega arith))
    ∙ ap (λ (v : Standing). tell k o (told (c' o) v) (offsets_from k c d n (suc o))) (g o (omega arith))
    ∙ ap (tell k o (told (c' o) (d' o))) r

module _ (k : ℕ) where
  empty : (n : ℕ) → merged n k [] [] ≡ []
  unfolding merged next_of lesser
  empty zero = refl
  empty (suc n) = refl

  merged-here : (n o : ℕ) (x y : List Entry) → lesser (next_of x) (next_of y) ≡ Some o → merged (suc n) k x y ≡ tell k o (told (front o x) (front o y)) (merged n k (past o x) (past o y))
  unfolding merged
  merged-here n o x y e = rw e refl

  -- m offsets from o on, among which all leaves lie
  pub merged-all : (m n o : ℕ) (x y : List Entry) → InOrder x → InOrder y → From o x → From o y → Under (o + m) x → Under (o + m) y → length x + length y ≤ n
      → merged n k x y ≡ offsets_from k (λ p. standing_in p x) (λ p. standing_in p y) m o
  unfolding offsets_from told tell
  merged-all zero n o x y ix iy fx fy ux uy h =
      ap (λ (v : List Entry). merged n k v y) (none o x fx ux) ∙ ap (merged n k []) (none o y fy uy) ∙ empty n
  merged-all (suc m) n o x y ix iy fx fy ux uy h =
      go (turn o x y fx ix fy iy) n h (λ n' x' y'. merged-all m n' (suc o) x' y')
    where
      moved : (v : List Entry) → Under (o + suc m) v → Under (suc o + m) v
      moved v u = let e : o + suc m ≤ suc o + m = omega arith in under_weaken (o + suc m) (suc o + m) v e u

      go : Turn o x y → (n : ℕ) → length x + length y ≤ n
          → ((n' : ℕ) (x' y' : List Entry) → InOrder x' → InOrder y' → From (suc o) x' → From (suc o) y' → Under (suc o + m) x' → Under (suc o + m) y' → length x' + length y' ≤ n'
          → merged n' k x' y' ≡ offsets_from k (λ p. standing_in p x') (λ p. standing_in p y') m (suc o))
          → merged n k x y ≡ tell k o (told (standing_in o x) (standing_in o y)) (offsets_from k (λ p. standing_in p x) (λ p. standing_in p y) m (suc o))
      go (above fx' fy') n h r =
          r n x y ix iy fx' fy' (moved x ux) (moved y uy) h
          ∙ sym (ap (λ (v : Standing). tell k o (told v (standing_in o y)) (offsets_from k (λ p. standing_in p x) (λ p. standing_in p y) m (suc o))) (standing-below o (suc o) x fx' (omega arith))
          ∙ ap (λ (v : Standing). tell k o (told nothing v) (offsets_from k (λ p. standing_in p x) (λ p. standing_in p y) m (suc o))) (standing-below o (suc o) y fy' (omega arith)))
      go (here e fewer) zero h r = absurd (omega arith)
      go (here e fewer) (suc n) h r =
          merged-here n o x y e
          ∙ ap (tell k o (told (front o x) (front o y)))
          (r n (past o x) (past o y) (past_order o x ix) (past_order o y iy) (past_from o x fx ix) (past_from o y fy iy) (past-under o (suc o + m) x (moved x ux)) (past-under o (suc o + m) y (moved y uy)) (omega arith)
          ∙ offsets_same k (λ p. standing_in p (past o x)) (λ p. standing_in p x) (λ p. standing_in p (past o y)) (λ p. standing_in p y) m (suc o) (λ p g. standing-past o p x (omega arith)) (λ p g. standing-past o p y (omega arith)))
          ∙ sym (ap (λ (v : Standing). tell k o (told v (standing_in o y)) (offsets_from k (λ p. standing_in p x) (λ p. standing_in p y) m (suc o))) (standing-front o x fx ix)
          ∙ ap (λ (v : Standing). tell k o (told (front o x) v) (offsets_from k (λ p. standing_in p x) (λ p. standing_in p y) m (suc o))) (standing-front o y fy iy))
