-- Only what is said of parents below n counts: a matrix that agrees there with the set gives the set's answers.
use Prim.Native.Nat.{ℕ, zero, suc, ◌<◌, ◌≤◌}
use mathlib.Core.Path.{◌≡◌, refl, sym, ap, ◌∙◌}
use mathlib.Core.Bool.{Bool, not, ◌&&◌}
use mathlib.Core.List.{List, [], ◌∷◌, ◌++◌}
use Rattle.std.specs.Prelude.{Option, None, Some}
use native.Mathlib.Decide.{dec_lt}
use native.Mathlib.Omega.{arith}
use lib.Dec.{ltb}
use borrow.Author.Tests.{le-ltb}
use Rattle.order.specs.Listed.{listed}
use Rattle.order.specs.Order.{rested, ready, check_from, check, first_from, first, ahead, placing, ours}
use Rattle.order.proofs.OrderLaws.{placing-none, placing-some, placing-done}

module _ (n : ℕ) (d e : ℕ → ℕ → Bool) (agree : (i j : ℕ) → i < n → j < n → d i j ≡ e i j) where
  rested-same : (m : ℕ) (placed : List ℕ) (i : ℕ) → m ≤ n → i < n → rested d m placed i ≡ rested e m placed i
  unfolding rested
  rested-same zero placed i a b = refl
  rested-same (suc m) placed i a b = rw (rested-same m placed i (omega arith) b, agree i m b (omega arith))

  pub ready-same : (placed : List ℕ) (i : ℕ) → ready n d placed i ≡ ready n e placed i
  unfolding ready
  ready-same placed i = go (dec_lt i n)
    where
      go : Dec (i < n) → (ltb i n && (not (listed i placed) && rested d n placed i)) ≡ (ltb i n && (not (listed i placed) && rested e n placed i))
      go (yes h) = ap (λ (t : Bool). ltb i n && (not (listed i placed) && t)) (rested-same n placed i (omega arith) h)
      go (no h) = rw (le-ltb i n (omega arith))

  check_from_same : (placed l : List ℕ) → check_from n d placed l ≡ check_from n e placed l
  unfolding check_from
  check_from_same placed [] = refl
  check_from_same placed (i ∷ l) = rw (ready-same placed i, check_from_same (placed ++ (i ∷ [])) l)

  pub check-same : (order : List ℕ) → check n d order ≡ check n e order
  unfolding check
  check-same order = check_from_same [] order

  first_from_same : (placed : List ℕ) (k i : ℕ) → first_from n d placed k i ≡ first_from n e placed k i
  unfolding first_from
  first_from_same placed zero i = refl
  first_from_same placed (suc k) i = rw (ready-same placed i, first_from_same placed k (suc i))

  first-same : (placed : List ℕ) → first n d placed ≡ first n e placed
  unfolding first
  first-same placed = first_from_same placed n 0

  placing-same : (k : ℕ) (placed : List ℕ) → placing n d k placed ≡ placing n e k placed
  placing-same zero placed = placing-done n d placed ∙ sym (placing-done n e placed)
  placing-same (suc k) placed = go (first n e placed) refl (λ i. placing-same k (placed ++ (i ∷ [])))
    where
      go : (t : Option ℕ) → first n e placed ≡ t → ((i : ℕ) → placing n d k (placed ++ (i ∷ [])) ≡ placing n e k (placed ++ (i ∷ []))) → placing n d (suc k) placed ≡ placing n e (suc k) placed
      go None h f = placing-none n d k placed (first-same placed ∙ h) ∙ sym (placing-none n e k placed h)
      go (Some i) h f = placing-some n d k placed i (first-same placed ∙ h) ∙ ap (ahead i) (f i) ∙ sym (placing-some n e k placed i h)

  pub ours_same : ours n d ≡ ours n e
  unfolding ours
  ours_same = placing-same n []
