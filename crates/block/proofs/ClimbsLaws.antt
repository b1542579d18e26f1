-- Laws of the climbs of the chosen positions.
use mathlib.Core.Path.{◌≡◌, refl, sym, ap, ◌∙◌}
use mathlib.Core.Bool.{Bool, true, false, true≢false}
use mathlib.Core.List.{List}
use Prim.Native.Nat.{ℕ, zero, suc, ◌+◌, ◌-◌, ◌^◌, ◌≤◌, ◌<◌}
use lib.Dec.{eqb}
use native.Mathlib.Omega.{arith}
use native.Mathlib.Nat.{sub-zero}
use borrow.Author.Tests.{eqb-true, eqb-false}
use Rattle.format.proofs.Basics.{one_less}
use Rattle.format.specs.Parse.{pick}
use Rattle.spv.specs.declared.rejection.Rejection.{Rejection}
use Rattle.spv.specs.Result.{Result, accepted, refused, follow}
use Rattle.std.specs.Prelude.{Ok, Err}
use Rattle.spv.proofs.ResultLaws.{answered-ok, answered-err}
use Rattle.block.specs.Tree.{tree_climb, reaches}
use Rattle.block.specs.BlockBump.{under, climbs_from}
use Rattle.block.specs.Heap.{climb_of}
use Rattle.block.specs.Marks.{marked, Marked}

-- the marks of level 0
pub mark-chosen : (marks chosen : List ℕ) (h top i : ℕ) → Marked marks chosen h → 1 ≤ h → top ≡ 2 ^ h → i < top → marked marks (top + i) ≡ under chosen 0 i
mark-chosen marks chosen h top i m one e b =
    let w : top ≡ 2 ^ (h - 0) = e ∙ ap (λ (x : ℕ). 2 ^ x) (sym (sub-zero h)) in
    rw w (m 0 i (omega arith) (omega arith))

-- ---- what an answer tells

pub told_free : (x : Result (Unit {0})) → Ok tt ≡ climb_of x → x ≡ accepted tt
told_free x e = (answered-ok (λ a. tt) x tt e).1

-- ---- one position

module _ (ids : List (List ℕ)) (chosen : List ℕ) (i : ℕ) where
  pub one-passed : under chosen 0 i ≡ false → Ok tt ≡ climb_of (climbs_from ids chosen i 1)
  unfolding climbs_from
  one-passed e = rw e

  pub one-chosen : under chosen 0 i ≡ true → climb_of (tree_climb ids i) ≡ climb_of (climbs_from ids chosen i 1)
  unfolding climbs_from
  one-chosen e = rw e (go (tree_climb ids i))
    where
      go : (x : Result (List ℕ)) → climb_of x ≡ climb_of (follow x (λ _. climbs_from ids chosen (i + 1) 0))
      go (accepted r) = refl
      go (refused why) = refl

  -- .. then the rest
  climbs-next : (n : ℕ) → climbs_from ids chosen i (suc n) ≡ follow (climbs_from ids chosen i 1) (λ _. climbs_from ids chosen (i + 1) n)
  unfolding climbs_from
  climbs-next n = go (under chosen 0 i) (tree_climb ids i)
    where
      go : (t : Bool) (x : Result (List ℕ)) → pick t (follow x (λ _. climbs_from ids chosen (i + 1) n)) (climbs_from ids chosen (i + 1) n)
          ≡ follow (pick t (follow x (λ _. climbs_from ids chosen (i + 1) 0)) (climbs_from ids chosen (i + 1) 0)) (λ _. climbs_from ids chosen (i + 1) n)
      go true (accepted r) = refl
      go true (refused why) = refl
      go false x = refl

  -- a loop over n positions that has come to i
  module _ (n : ℕ) (more : i < n) where
    pub climbs-stop : (why : Rejection) → Err why ≡ climb_of (climbs_from ids chosen i 1) → Err why ≡ climb_of (climbs_from ids chosen i (n - i))
    climbs-stop why e =
        let f : climbs_from ids chosen i 1 ≡ refused why = answered-err (λ a. tt) (climbs_from ids chosen i 1) why e in
        rw (one_less n i more, climbs-next (n - (i + 1)), f)

    pub climbs_on : Ok tt ≡ climb_of (climbs_from ids chosen i 1) → climbs_from ids chosen (i + 1) (n - (i + 1)) ≡ climbs_from ids chosen i (n - i)
    climbs_on e =
        let f : climbs_from ids chosen i 1 ≡ accepted tt = told_free (climbs_from ids chosen i 1) e in
        rw (one_less n i more, climbs-next (n - (i + 1)), f)

  pub climbs-end : (n : ℕ) → n ≤ i → Ok tt ≡ climb_of (climbs_from ids chosen i (n - i))
  unfolding climbs_from
  climbs-end n l = let z : n - i ≡ 0 = omega arith in rw z

pub climbs-start : (ids : List (List ℕ)) (chosen : List ℕ) (n : ℕ) → climbs_from ids chosen 0 (n - 0) ≡ climbs_from ids chosen 0 n
climbs-start ids chosen n = ap (climbs_from ids chosen 0) (sub-zero n)

-- ---- where no climb is refused, each chosen one comes to a root

pub climbs-reach : (ids : List (List ℕ)) (chosen : List ℕ) (i n j : ℕ) → climbs_from ids chosen i n ≡ accepted tt → i ≤ j → j < i + n → under chosen 0 j ≡ true → reaches (tree_climb ids j) ≡ true
unfolding climbs_from reaches
climbs-reach ids chosen i zero j e a b u = absurd (omega arith)
climbs-reach ids chosen i (suc n) j e a b u = go (eqb i j) refl (under chosen 0 i) refl (tree_climb ids i) refl e (λ f l. climbs-reach ids chosen (i + 1) n j f l (omega arith) u)
  where
    go : (s : Bool) → eqb i j ≡ s → (t : Bool) → under chosen 0 i ≡ t → (x : Result (List ℕ)) → tree_climb ids i ≡ x
        → pick t (follow x (λ _. climbs_from ids chosen (i + 1) n)) (climbs_from ids chosen (i + 1) n) ≡ accepted tt
        → (climbs_from ids chosen (i + 1) n ≡ accepted tt → i + 1 ≤ j → reaches (tree_climb ids j) ≡ true) → reaches (tree_climb ids j) ≡ true
    go true q true p (accepted r) w m ih = rw (← (eqb-true i j q), w)
    go true q false p x w m ih = absurd (true≢false (sym u ∙ ap (under chosen 0) (sym (eqb-true i j q)) ∙ p))
    go false q true p (accepted r) w m ih = ih m (let d = eqb-false i j q in omega arith)
    go false q false p x w m ih = ih m (let d = eqb-false i j q in omega arith)
    go s q true p (refused why) w m ih = absurd (let z : ◌≡◌ {A = ℕ} 0 1 = cc in omega arith)
