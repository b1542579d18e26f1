-- Laws of the climb.
use Prim.Native.Nat.{ℕ, zero, suc, ◌+◌, ◌-◌, ◌/◌, ◌%◌, ◌<◌, ◌≤◌, suc-le-suc}
use mathlib.Core.Path.{◌≡◌, refl, ap, ◌∙◌}
use mathlib.Core.Bool.{true, false}
use mathlib.Core.List.{List, ◌++◌}
use lib.ListN.{get_or}
use borrow.Author.Tests.{eq-eqb, ne_eqb}
use native.Mathlib.Omega.{arith}
use native.Mathlib.Nat.{add-zero, zero-lt-suc}
use native.Mathlib.Numerals.{add-one}
use Rattle.hash.specs.Sha256.{sha256d}
use Rattle.format.proofs.Basics.{one_less}
use Rattle.format.specs.Bytes.{same}
use Rattle.format.specs.Refusals.{TWIN}
use Rattle.spv.specs.Result.{at_sibling}
use Rattle.spv.specs.Climb.{Sibling, Siblings, odd, sibling_position, sibling_positions, Step, joined, step, Ascent, ascend_by, ascend, joins, fails, top, up, stop}

-- ---- one layer

module _ (c p : List ℕ) where
  pub joined-even : joined false c p ≡ joins c p
  unfolding joined
  joined-even = refl

  pub joined-odd : same p c ≡ false → joined true c p ≡ joins p c
  unfolding joined
  joined-odd e = rw e

  pub joined_twin : same p c ≡ true → joined true c p ≡ fails TWIN
  unfolding joined
  joined_twin e = rw e

pub sibling-odd : (j : ℕ) → j % 2 ≡ 1 → sibling_position j ≡ j - 1
unfolding sibling_position
sibling-odd j e = rw (eq-eqb (j % 2) 1 e)

pub sibling-even : (j : ℕ) → (j % 2 ≡ 1 → ⊥) → sibling_position j ≡ j + 1
unfolding sibling_position
sibling-even j e = rw (ne_eqb (j % 2) 1 e)

-- ---- the climb

module _ (σ : Siblings) (k n j : ℕ) (c : List ℕ) where
  pub ascend-joins : (a b : List ℕ) → step (σ k (sibling_position j)) (odd j) c ≡ joins a b → ascend σ k (suc n) j c ≡ up (σ k (sibling_position j)) (a ++ b) (ascend σ (suc k) n (j / 2) (sha256d (a ++ b)))
  unfolding ascend_by
  ascend-joins a b e = rw (ascend_by, e)

  pub ascend-fails : (number : ℕ) → step (σ k (sibling_position j)) (odd j) c ≡ fails number → ascend σ k (suc n) j c ≡ stop (at_sibling number k (sibling_position j))
  unfolding ascend_by
  ascend-fails number e = rw (ascend_by, e)

-- what follows a layer whose sibling is p
abbrev pub ascended_by : (List ℕ → List ℕ) → Siblings → ℕ → ℕ → ℕ → Sibling → Step → Ascent
ascended_by hash σ k n j p s = elim s [ joins a b ↦ up p (a ++ b) (ascend_by hash σ (suc k) n (j / 2) (hash (a ++ b))) | fails number ↦ stop (at_sibling number k (sibling_position j)) ]

abbrev pub ascended : Siblings → ℕ → ℕ → ℕ → Sibling → Step → Ascent
ascended = ascended_by sha256d

-- one turn of a loop that climbs: m layers are done of h, and the layer is k
module _ (σ : Siblings) (k m h j : ℕ) (c : List ℕ) (b : m < h) where
  pub turn-joins : (l r : List ℕ) → step (σ k (sibling_position j)) (odd j) c ≡ joins l r → ascend σ k (h - m) j c ≡ up (σ k (sibling_position j)) (l ++ r) (ascend σ (k + 1) (h - (m + 1)) (j / 2) (sha256d (l ++ r)))
  turn-joins l r e = rw (one_less h m b, add-one k) (ascend-joins σ k (h - (m + 1)) j c l r e)

  pub turn-fails : (number : ℕ) → step (σ k (sibling_position j)) (odd j) c ≡ fails number → ascend σ k (h - m) j c ≡ stop (at_sibling number k (sibling_position j))
  turn-fails number e = rw (one_less h m b) (ascend-fails σ k (h - (m + 1)) j c number e)

-- at the end nothing is left
pub turn-none : (σ : Siblings) (k m h j : ℕ) (c : List ℕ) → h ≤ m → ascend σ k (h - m) j c ≡ top
unfolding ascend_by
turn-none σ k m h j c b = let e : h - m ≡ 0 = omega arith in rw e

-- two forms that agree beside a climb give one climb
pub ascend-agree : (σ τ : Siblings) (k n j : ℕ) (c : List ℕ) → ((m : ℕ) → m < n → σ (k + m) (get_or (sibling_positions j n) m 0) ≡ τ (k + m) (get_or (sibling_positions j n) m 0)) → ascend σ k n j c ≡ ascend τ k n j c
unfolding ascend_by sibling_positions
ascend-agree σ τ k zero j c f = refl
ascend-agree σ τ k (suc n) j c f =
    let e : σ k (sibling_position j) ≡ τ k (sibling_position j) = rw add-zero at (f 0 (zero-lt-suc n)) in
    ap (λ (x : Sibling). ascended σ k n j x (step x (odd j) c)) e
    ∙ (go (step (τ k (sibling_position j)) (odd j) c) (λ d. ascend-agree σ τ (suc k) n (j / 2) d above))
  where
    above : (m : ℕ) → m < n → σ (suc k + m) (get_or (sibling_positions (j / 2) n) m 0) ≡ τ (suc k + m) (get_or (sibling_positions (j / 2) n) m 0)
    above m h = let e : k + suc m ≡ suc k + m = omega arith in rw e at (f (suc m) (suc-le-suc h))

    go : (s : Step) → ((d : List ℕ) → ascend σ (suc k) n (j / 2) d ≡ ascend τ (suc k) n (j / 2) d) → ascended σ k n j (τ k (sibling_position j)) s ≡ ascended τ k n j (τ k (sibling_position j)) s
    go (joins a b) r = ap (up (τ k (sibling_position j)) (a ++ b)) (r (sha256d (a ++ b)))
    go (fails number) r = refl

-- forms that agree below h layers
pub ascend-same : (σ τ : Siblings) (h : ℕ) → ((k q : ℕ) → k < h → σ k q ≡ τ k q) → (j : ℕ) (c : List ℕ) → ascend σ 0 h j c ≡ ascend τ 0 h j c
ascend-same σ τ h f j c = ascend-agree σ τ 0 h j c (λ m b. f (0 + m) (get_or (sibling_positions j h) m 0) (omega arith))
