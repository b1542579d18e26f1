-- Nothing but the leaves that a climb asks for matters to it.
use Prim.Native.Nat.{ℕ, zero, suc, ◌+◌, ◌*◌, ◌/◌}
use mathlib.Core.Path.{◌≡◌, refl, sym, ap, ap₂, ◌∙◌}
use mathlib.Core.Bool.{Bool, true, false}
use mathlib.Core.List.{List, [], ◌∷◌, ◌++◌}
use Rattle.hash.specs.Sha256.{sha256d}
use Rattle.format.specs.Parse.{pick}
use Rattle.spv.specs.Climb.{Sibling, value, copied, absent, Siblings, Step, joins, fails, up, sibling_position, odd, step, ascend, ascend_by}
use Rattle.spv.proofs.ClimbLaws.{ascended}
use Rattle.spv.specs.Values.{value_by, join_both, has_value, join_of, value_of, worked_out}
use Rattle.spv.proofs.ValuesLaws.{both_left}
use Rattle.spv.proofs.Asked.{Coordinates, if_absent, join_asks, value_asks, climb_asks, SameAt}

same_parts : (w v : Siblings) (l m : List Coordinates) → SameAt w v (l ++ m) → SameAt w v l × SameAt w v m
unfolding SameAt
same_parts w v [] m h = (tt, h)
same_parts w v (x ∷ l) m h = let r = same_parts w v l m h.1 in ((h.0, r.0), r.1)

-- forms that have the same written everywhere
pub same-all : (w v : Siblings) → ((k q : ℕ) → w k q ≡ v k q) → (l : List Coordinates) → SameAt w v l
unfolding SameAt
same-all w v f [] = tt
same-all w v f (x ∷ l) = (f x.0 x.1, same-all w v f l)

module _ (w v : Siblings) where
  -- by what is written at a node
  value-agree : (k q : ℕ) (copy : Sibling) → (SameAt w v (join_asks w k q) → join_of w k q ≡ join_of v k q) → SameAt w v ((k, q) ∷ if_absent (w k q) (join_asks w k q))
      → value_of w copy k q ≡ value_of v copy k q
  unfolding SameAt value_of value_by if_absent
  value-agree k q copy ih h =
      go (w k q) (join_of w k q) (join_of v k q) h.1 (λ x. ih x) ∙ ap (λ (x : Sibling). value_by x copy (join_of v k q)) h.0
    where
      go : (x : Sibling) (m n : Sibling) → SameAt w v (if_absent x (join_asks w k q)) → (SameAt w v (join_asks w k q) → m ≡ n) → value_by x copy m ≡ value_by x copy n
      go (value p) m n a f = refl
      go copied m n a f = refl
      go absent m n a f = f a

  join-agree : (k q : ℕ) → SameAt w v (join_asks w k q) → join_of w k q ≡ join_of v k q
  unfolding join_asks join_of SameAt value_of
  join-agree zero q h = refl
  join-agree (suc k) q h =
      let p = same_parts w v ((k, 2 * q) ∷ if_absent (w k (2 * q)) (join_asks w k (2 * q))) _ h in
      let l = value-agree k (2 * q) absent (join-agree k (2 * q)) p.0 in
      go (has_value (value_of w absent k (2 * q))) refl p.1 l (λ copy x. value-agree k (2 * q + 1) copy (join-agree k (2 * q + 1)) x)
    where
      go : (b : Bool) → has_value (value_of w absent k (2 * q)) ≡ b → SameAt w v (pick b ((k, 2 * q + 1) ∷ if_absent (w k (2 * q + 1)) (join_asks w k (2 * q + 1))) [])
          → value_of w absent k (2 * q) ≡ value_of v absent k (2 * q)
          → ((copy : Sibling) → SameAt w v ((k, 2 * q + 1) ∷ if_absent (w k (2 * q + 1)) (join_asks w k (2 * q + 1))) → value_of w copy k (2 * q + 1) ≡ value_of v copy k (2 * q + 1))
          → join_both (value_of w absent k (2 * q)) (value_of w (value_of w absent k (2 * q)) k (2 * q + 1)) ≡ join_both (value_of v absent k (2 * q)) (value_of v (value_of v absent k (2 * q)) k (2 * q + 1))
      go true e a l r = ap₂ join_both l (r (value_of w absent k (2 * q)) a ∙ ap (λ (x : Sibling). value_of v x k (2 * q + 1)) l)
      go false e a l r = both_left _ _ e ∙ sym (both_left _ _ (ap has_value (sym l) ∙ e))

  -- a climb is decided by what it asks for
  pub climb_agree : (k n j : ℕ) (c : List ℕ) → SameAt w v (climb_asks w k n j c) → ascend (worked_out w) k n j c ≡ ascend (worked_out v) k n j c
  unfolding climb_asks ascend_by value_asks worked_out
  climb_agree k zero j c h = refl
  climb_agree k (suc n) j c h =
      let p = same_parts w v (value_asks w k (sibling_position j)) _ h in
      let e = value-agree k (sibling_position j) copied (join-agree k (sibling_position j)) p.0 in
      go (worked_out w k (sibling_position j)) (step (worked_out w k (sibling_position j)) (odd j) c) p.1 (λ d x. climb_agree (suc k) n (j / 2) d x)
      ∙ ap (λ (x : Sibling). ascended (worked_out v) k n j x (step x (odd j) c)) e
    where
      go : (y : Sibling) (s : Step) → SameAt w v (elim s [ joins a b ↦ climb_asks w (suc k) n (j / 2) (sha256d (a ++ b)) | fails number ↦ [] ])
          → ((d : List ℕ) → SameAt w v (climb_asks w (suc k) n (j / 2) d) → ascend (worked_out w) (suc k) n (j / 2) d ≡ ascend (worked_out v) (suc k) n (j / 2) d)
          → ascended (worked_out w) k n j y s ≡ ascended (worked_out v) k n j y s
      go y (joins a b) x f = ap (up y (a ++ b)) (f (sha256d (a ++ b)) x)
      go y (fails number) x f = refl
