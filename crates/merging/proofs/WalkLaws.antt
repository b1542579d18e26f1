-- Walked from the least offset up, the leaves of two levels in order are the definition's.
use Rattle.std.proofs.Common.{Some}
use mathlib.Core.Path.{◌≡◌, refl, ap, sym, ◌∙◌}
use mathlib.Core.List.{List, []}
use mathlib.Core.Bool.{Bool, true, false}
use Prim.Native.Nat.{ℕ, zero, suc, ◌+◌, ◌≤◌}
use lib.ListN.{length}
use lib.Dec.{eqb}
use native.Mathlib.Omega.{arith}
use borrow.Author.Tests.{eq-eqb, eqb-true}
use Rattle.format.specs.Parse.{pick}
use Rattle.encoding.specs.BumpBytes.{Entry}
use Rattle.levels.specs.Standing.{Standing, nothing, standing_in}
use Rattle.levels.proofs.InOrder.{From, Under, InOrder, under_weaken, standing-below}
use Rattle.levels.specs.Fronts.{next_of, lesser, front, past}
use Rattle.levels.proofs.FrontsLaws.{standing-front, standing-past, past_from, past_order, past-under, Turn, here, above, turn, none}
use Rattle.merging.specs.Merging.{left_of, Spot, unite, spots_from}
use Rattle.merging.specs.Walk.{left_at, walk_spots}

-- what was seen last is on the left of o, or stands further left, or nothing was seen
pub record Seen (c : ℕ → Standing) (last : ℕ) (f : Standing) (o : ℕ) : Type 0 where
  pub left : left_at last o f ≡ left_of c o
  pub fresh : o ≤ last → f ≡ nothing

seen_on : (c : ℕ → Standing) (last : ℕ) (f : Standing) (o : ℕ) → Seen c last f o → c o ≡ nothing → Seen c last f (suc o)
unfolding left_at left_of
seen_on c last f o s e = record { left = go (eqb last o) refl; fresh = λ h. s.fresh (omega arith) }
  where
    go : (b : Bool) → eqb last o ≡ b → pick b f nothing ≡ c o
    go true g = s.fresh (let h = eqb-true last o g in omega arith) ∙ sym e
    go false g = sym e

seen_here : (c : ℕ → Standing) (o : ℕ) (v : Standing) → v ≡ c o → Seen c o v (suc o)
unfolding left_at left_of
seen_here c o v e = record { left = ap (λ (b : Bool). pick b v nothing) (eq-eqb o o refl) ∙ e; fresh = λ h. absurd (omega arith) }

pub seen_start : (c : ℕ → Standing) → Seen c 0 nothing 0
unfolding left_at left_of
seen_start c = record { left = refl; fresh = λ h. refl }

walk_none : (n last : ℕ) (f g : Standing) → walk_spots n last f g [] [] ≡ []
unfolding walk_spots next_of lesser
walk_none zero last f g = refl
walk_none (suc n) last f g = refl

walk_here : (n last : ℕ) (f g : Standing) (o : ℕ) (x y : List Entry) → lesser (next_of x) (next_of y) ≡ Some o
    → walk_spots (suc n) last f g x y ≡ unite o (left_at last o f) (left_at last o g) (front o x) (front o y) (walk_spots n o (front o x) (front o y) (past o x) (past o y))
unfolding walk_spots
walk_here n last f g o x y e = rw e refl

unite-none : (o : ℕ) (l m v w : Standing) (rest : List Spot) → v ≡ nothing → w ≡ nothing → unite o l m v w rest ≡ rest
unfolding unite
unite-none o l m v w rest e f = rw (e, f) refl

-- m offsets from o on, among which all leaves lie
module _ (c d : ℕ → Standing) where
  pub walk-all : (m n o last : ℕ) (f g : Standing) (x y : List Entry) → InOrder x → InOrder y → From o x → From o y → Under (o + m) x → Under (o + m) y → length x + length y ≤ n
      → ((p : ℕ) → o ≤ p → standing_in p x ≡ c p) → ((p : ℕ) → o ≤ p → standing_in p y ≡ d p) → Seen c last f o → Seen d last g o → walk_spots n last f g x y ≡ spots_from c d m o
  unfolding spots_from
  walk-all zero n o last f g x y ix iy fx fy ux uy h cx cy sf sg =
      ap (λ (v : List Entry). walk_spots n last f g v y) (none o x fx ux) ∙ ap (walk_spots n last f g []) (none o y fy uy) ∙ walk_none n last f g
  walk-all (suc m) n o last f g x y ix iy fx fy ux uy h cx cy sf sg =
      go (turn o x y fx ix fy iy) n h (λ n' last' f' g' x' y'. walk-all m n' (suc o) last' f' g' x' y')
    where
      moved : (v : List Entry) → Under (o + suc m) v → Under (suc o + m) v
      moved v u = let e : o + suc m ≤ suc o + m = omega arith in under_weaken (o + suc m) (suc o + m) v e u

      go : Turn o x y → (n : ℕ) → length x + length y ≤ n
          → ((n' last' : ℕ) (f' g' : Standing) (x' y' : List Entry) → InOrder x' → InOrder y' → From (suc o) x' → From (suc o) y' → Under (suc o + m) x' → Under (suc o + m) y' → length x' + length y' ≤ n'
          → ((p : ℕ) → suc o ≤ p → standing_in p x' ≡ c p) → ((p : ℕ) → suc o ≤ p → standing_in p y' ≡ d p) → Seen c last' f' (suc o) → Seen d last' g' (suc o) → walk_spots n' last' f' g' x' y' ≡ spots_from c d m (suc o))
          → walk_spots n last f g x y ≡ unite o (left_of c o) (left_of d o) (c o) (d o) (spots_from c d m (suc o))
      go (above fx' fy') n h r =
          let cn : c o ≡ nothing = sym (cx o (omega arith)) ∙ standing-below o (suc o) x fx' (omega arith) in
          let dn : d o ≡ nothing = sym (cy o (omega arith)) ∙ standing-below o (suc o) y fy' (omega arith) in
          r n last f g x y ix iy fx' fy' (moved x ux) (moved y uy) h (λ p q. cx p (omega arith)) (λ p q. cy p (omega arith)) (seen_on c last f o sf cn) (seen_on d last g o sg dn)
          ∙ sym (unite-none o (left_of c o) (left_of d o) (c o) (d o) (spots_from c d m (suc o)) cn dn)
      go (here e fewer) zero h r = absurd (omega arith)
      go (here e fewer) (suc n) h r =
          let ce : front o x ≡ c o = sym (standing-front o x fx ix) ∙ cx o (omega arith) in
          let de : front o y ≡ d o = sym (standing-front o y fy iy) ∙ cy o (omega arith) in
          walk_here n last f g o x y e
          ∙ ap (unite o (left_at last o f) (left_at last o g) (front o x) (front o y))
          (r n o (front o x) (front o y) (past o x) (past o y) (past_order o x ix) (past_order o y iy) (past_from o x fx ix) (past_from o y fy iy) (past-under o (suc o + m) x (moved x ux)) (past-under o (suc o + m) y (moved y uy)) (omega arith)
          (λ p q. standing-past o p x (omega arith) ∙ cx p (omega arith)) (λ p q. standing-past o p y (omega arith) ∙ cy p (omega arith)) (seen_here c o (front o x) ce) (seen_here d o (front o y) de))
          ∙ ap (λ (v : Standing). unite o v (left_at last o g) (front o x) (front o y) (spots_from c d m (suc o))) sf.left
          ∙ ap (λ (v : Standing). unite o (left_of c o) v (front o x) (front o y) (spots_from c d m (suc o))) sg.left
          ∙ ap (λ (v : Standing). unite o (left_of c o) (left_of d o) v (front o y) (spots_from c d m (suc o))) ce
          ∙ ap (λ (v : Standing). unite o (left_of c o) (left_of d o) (c o) v (spots_from c d m (suc o))) de
