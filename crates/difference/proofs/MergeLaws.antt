-- Laws of telling the differences of a level, one for each turn of a loop.
use Rattle.std.proofs.Common.{Option, Some, None}
use mathlib.Core.Path.{◌≡◌, refl, ap, sym, ◌∙◌}
use mathlib.Core.List.{List, []}
use mathlib.Core.Bool.{Bool, true, false}
use Prim.Native.Nat.{ℕ, max, ◌+◌, ◌-◌, ◌<◌, ◌≤◌}
use lib.Dec.{leb, eqb}
use native.Mathlib.Omega.{arith}
use borrow.Author.Tests.{le-leb, lt-leb, leb-true, leb-false}
use Rattle.format.proofs.Basics.{one_less}
use Rattle.format.specs.Parse.{pick}
use Rattle.format.specs.declared.bump.BumpHead.{BumpHead}
use Rattle.format.specs.Refusals.{MAX_LEAVES}
use Rattle.encoding.specs.BumpBytes.{Entry}
use Rattle.difference.specs.Differences.{told, tell, higher}
use Rattle.levels.specs.Standing.{Standing}
use Rattle.difference.specs.declared.listing.Differs.{Differs}
use Rattle.difference.specs.Filling.{Filling, put_all, told_of, put_place, put_unless}
use Rattle.difference.proofs.FillingLaws.{all_told}
use Rattle.levels.specs.Places.{entries}
use Rattle.difference.specs.Merge.{on_next, merged, walk, walk_all, Gathering, gathering, gather_level}
use Rattle.levels.specs.Ordered.{ordered_in, next_in}
use Rattle.levels.specs.Fronts.{next_of, lesser, front, past}

pub max_higher : (m n : ℕ) → max m n ≡ higher m n
unfolding higher
max_higher m n = go (leb m n) refl
  where
    go : (b : Bool) → leb m n ≡ b → max m n ≡ pick b n m
    go true e = let h = leb-true m n e in omega arith
    go false e = let h = leb-false m n e in omega arith

module _ (write : Bool) (p : Filling) (n i k : ℕ) (x y : List Entry) where
  pub merge-end : n ≤ i → put_all write p (merged (n - i) k x y) ≡ p
  unfolding merged put_all
  merge-end h = let e : n - i ≡ 0 = omega arith in rw e

  module _ (h : i < n) where
    turn : (a : Option ℕ) → lesser (next_of x) (next_of y) ≡ a
        → merged (n - i) k x y ≡ on_next a (λ o. tell k o (told (front o x) (front o y)) (merged (n - (i + 1)) k (past o x) (past o y)))
    unfolding merged
    turn a e = rw (one_less n i h, e) refl

    pub merge-stop : lesser (next_of x) (next_of y) ≡ None → put_all write p (merged (n - i) k x y) ≡ p
    unfolding put_all
    merge-stop e = ap (put_all write p) (turn None e)

    pub merge_on : {o : ℕ} {what : Option Differs} {p' : Filling} {x' y' : List Entry} → lesser (next_of x) (next_of y) ≡ Some o → what ≡ told_of (told (front o x) (front o y))
        → p' ≡ put_place write p what k o → x' ≡ past o x → y' ≡ past o y → put_all write p (merged (n - i) k x y) ≡ put_all write p' (merged (n - (i + 1)) k x' y')
    merge_on {o} {what} {p'} {x'} {y'} e f g a b =
        ap (put_all write p) (turn (Some o) e)
        ∙ all_told write p k o (told (front o x) (front o y)) (merged (n - (i + 1)) k (past o x) (past o y))
        ∙ ap (λ (v : Option Differs). put_all write (put_place write p v k o) (merged (n - (i + 1)) k (past o x) (past o y))) (sym f)
        ∙ ap (λ (q : Filling). put_all write q (merged (n - (i + 1)) k (past o x) (past o y))) (sym g)
        ∙ ap (λ (v : List Entry). put_all write p' (merged (n - (i + 1)) k v (past o y))) (sym a)
        ∙ ap (λ (v : List Entry). put_all write p' (merged (n - (i + 1)) k x' v)) (sym b)

module _ (room : ℕ) (s : List ℕ) (height k at : ℕ) where
  pub level-above : height ≤ k → gather_level room s height k at ≡ gathering [] at
  unfolding gather_level
  level-above h = rw (le-leb height k h)

  pub level-here : k < height → gather_level room s height k at ≡ gathering (ordered_in room s at) (next_in room s at)
  unfolding gather_level
  level-here h = rw (lt-leb height k h)

module _ (write : Bool) (s : List ℕ) (hx rx : ℕ) (t : List ℕ) (hy ry h k c d : ℕ) (p : Filling) where
  pub walk_end : h ≤ k → walk write s hx rx t hy ry (h - k) k c d p ≡ p
  unfolding walk
  walk_end g = let e : h - k ≡ 0 = omega arith in rw e

  pub walk-high : {h' : ℕ} → h ≡ h' → walk write s hx rx t hy ry h' k c d p ≡ walk write s hx rx t hy ry h k c d p
  walk-high e = ap (λ (n : ℕ). walk write s hx rx t hy ry n k c d p) (sym e)

  unfoldable after : Gathering → Gathering → Filling
  after v w = walk write s hx rx t hy ry (h - (k + 1)) (k + 1) v.next w.next (put_all write p (merged 2048 k (entries s v.places) (entries t w.places)))

  pub walk_on : (a b : List ℕ) (c' d' : ℕ) (p' : Filling) (rx' ry' : ℕ) → k < h → rx' ≡ rx → ry' ≡ ry → gathering a c' ≡ gather_level rx' s hx k c → gathering b d' ≡ gather_level ry' t hy k d
      → p' ≡ put_all write p (merged 2048 k (entries s a) (entries t b)) → walk write s hx rx t hy ry (h - k) k c d p ≡ walk write s hx rx t hy ry (h - (k + 1)) (k + 1) c' d' p'
  unfolding walk after
  walk_on a b c' d' p' rx' ry' g i l e f j =
      let m : gather_level rx s hx k c ≡ gathering a c' = ap (λ (r : ℕ). gather_level r s hx k c) (sym i) ∙ sym e in
      let n : gather_level ry t hy k d ≡ gathering b d' = ap (λ (r : ℕ). gather_level r t hy k d) (sym l) ∙ sym f in
      ap (λ (r : ℕ). walk write s hx rx t hy ry r k c d p) (one_less h k g)
      ∙ ap (λ (v : Gathering). after v (gather_level ry t hy k d)) m
      ∙ ap (λ (v : Gathering). after (gathering a c') v) n
      ∙ ap (walk write s hx rx t hy ry (h - (k + 1)) (k + 1) c' d') (sym j)

pub told-there : (x y : List Entry) (o : ℕ) {f g : Standing} {what : Option Differs} → f ≡ front o x → g ≡ front o y → what ≡ told_of (told f g) → what ≡ told_of (told (front o x) (front o y))
told-there x y o {f} {g} e h i = i ∙ ap (λ (v : Standing). told_of (told v g)) e ∙ ap (λ (v : Standing). told_of (told (front o x) v)) h

-- the two heights, then the levels, as code tells them one after the other
pub walked : (write : Bool) (s : List ℕ) (x : BumpHead) (t : List ℕ) (y : BumpHead) (p : Filling) {p₁ p₂ p₃ : Filling} (rx ry : ℕ) → rx ≡ MAX_LEAVES → ry ≡ MAX_LEAVES
    → p₁ ≡ put_unless (eqb x.block y.block) write p 1 → p₂ ≡ put_unless (eqb x.height y.height) write p₁ 2
    → p₃ ≡ walk write s x.height rx t y.height ry (higher x.height y.height) 0 x.levels.at y.levels.at p₂ → p₃ ≡ walk_all write s x t y p
unfolding walk_all
walked write s x t y p {p₁} {p₂} {p₃} rx ry a b c d e =
    let above : Filling → Filling = walk write s x.height MAX_LEAVES t y.height MAX_LEAVES (higher x.height y.height) 0 x.levels.at y.levels.at in
    e
    ∙ ap (λ (r : ℕ). walk write s x.height r t y.height ry (higher x.height y.height) 0 x.levels.at y.levels.at p₂) a
    ∙ ap (λ (r : ℕ). walk write s x.height MAX_LEAVES t y.height r (higher x.height y.height) 0 x.levels.at y.levels.at p₂) b
    ∙ ap above d
    ∙ ap (λ (q : Filling). above (put_unless (eqb x.height y.height) write q 2)) c
