-- What the loops that climb have shown at their heads, for siblings of any form. Assumes nothing.
use Prim.Native.Nat.{ℕ, ◌+◌, ◌-◌, ◌/◌, ◌≤◌, ◌<◌}
use native.Mathlib.Nat.{sub-zero}
use mathlib.Core.Path.{◌≡◌, ap, ◌∙◌, sym}
use mathlib.Core.Bool.{true, false}
use mathlib.Core.List.{List, [], ◌∷◌, ◌++◌}
use native.Mathlib.Omega.{arith}
use Rattle.std.specs.Prelude.{Result as Answer, Ok, Err}
use Rattle.hash.specs.Sha256.{sha256d}
use Rattle.format.specs.Bytes.{same}
use Rattle.spv.specs.Result.{at_sibling}
use Rattle.spv.specs.Climb.{Siblings, joins, fails, Ascent, step, odd, sibling_position, ascend, end_by, end_of, preimages_of}
use Rattle.spv.proofs.ClimbLaws.{turn-joins, turn-fails, turn-none}
use Rattle.spv.specs.Compare.{meets, never, meet}
use Rattle.spv.proofs.CompareLaws.{meet_left, meet_right, meet-here, meet-above}
use Rattle.spv.specs.Shapes.{climbed_of}
use Rattle.spv.specs.declared.climb.Halves.{Halves}
use Rattle.spv.specs.declared.rejection.Rejection.{Rejection}

-- ---- one climb: what is left from here comes to what was asked at the start

pub record Climbing (σ : Siblings) (h i : ℕ) (id : List ℕ) (k j : ℕ) (c : List ℕ) : Type 0 where
  pub done : k ≤ h
  pub kept : end_of c (ascend σ k (h - k) j c) ≡ end_of id (ascend σ 0 h i id)

module _ (σ : Siblings) (h i : ℕ) (id : List ℕ) where
  pub climbing_start : Climbing σ h i id 0 i id
  climbing_start = record { done = omega arith; kept = rw sub-zero }

  module _ (k j : ℕ) (c : List ℕ) (v : Climbing σ h i id k j c) where
    pub climbing_end : h ≤ k → ◌≡◌ {A = Answer (List ℕ) Rejection} (Ok c) (climbed_of (end_of id (ascend σ 0 h i id)))
    unfolding end_by
    climbing_end b = ap climbed_of (sym (ap (end_of c) (turn-none σ k k h j c b)) ∙ v.kept)

    module _ (b : k < h) where
      pub climbing_up : (l r : List ℕ) → step (σ k (sibling_position j)) (odd j) c ≡ joins l r → (c' : List ℕ) → c' ≡ sha256d (l ++ r) → Climbing σ h i id (k + 1) (j / 2) c'
      unfolding end_by
      climbing_up l r e c' g = record { done = omega arith; kept = rw g (sym (ap (end_of c) (turn-joins σ k k h j c b l r e)) ∙ v.kept) }

      pub climbing_stop : (number : ℕ) → step (σ k (sibling_position j)) (odd j) c ≡ fails number → (q : ℕ) → q ≡ sibling_position j
          → ◌≡◌ {A = Answer (List ℕ) Rejection} (Err (at_sibling number k q)) (climbed_of (end_of id (ascend σ 0 h i id)))
      unfolding end_by
      climbing_stop number e q g = rw g (ap climbed_of (sym (ap (end_of c) (turn-fails σ k k h j c b number e)) ∙ v.kept))

-- ---- the strings that are left

abbrev pub left : Siblings → ℕ → ℕ → ℕ → List ℕ → List (List ℕ)
left σ k n j c = preimages_of (ascend σ k n j c)

-- the string of a layer that joins
abbrev pub both : Halves → List ℕ
both t = t.left ++ t.right

-- m layers are done of h, and the layer is k
module _ (σ : Siblings) (h m k : ℕ) (b : m < h) (j : ℕ) (c : List ℕ) where
  pub preimages-up : (t : Halves) → joins t.left t.right ≡ step (σ k (sibling_position j)) (odd j) c → left σ k (h - m) j c ≡ both t ∷ left σ (k + 1) (h - (m + 1)) (j / 2) (sha256d (both t))
  unfolding preimages_of
  preimages-up t e = ap preimages_of (turn-joins σ k m h j c b t.left t.right (sym e))

  pub preimages-stop : (number : ℕ) → fails number ≡ step (σ k (sibling_position j)) (odd j) c → left σ k (h - m) j c ≡ []
  unfolding preimages_of
  preimages-stop number e = ap preimages_of (turn-fails σ k m h j c b number (sym e))

-- ---- two climbs, the second e layers above the first: where they meet from here is where they meet

pub record Pairing (σ τ : Siblings) (e h i : ℕ) (c₀ d₀ : List ℕ) (k j : ℕ) (c d : List ℕ) : Type 0 where
  pub done : k ≤ h
  pub kept : meet (left σ k (h - k) j c) (left τ (k + e) (h - k) j d) ≡ meet (left σ 0 h i c₀) (left τ e h i d₀)

module _ (σ τ : Siblings) (e h i : ℕ) (c₀ d₀ : List ℕ) where
  module _ (k j : ℕ) (c d : List ℕ) (v : Pairing σ τ e h i c₀ d₀ k j c d) where
    pub pairing_end : h ≤ k → never ≡ meet (left σ 0 h i c₀) (left τ e h i d₀)
    unfolding preimages_of
    pairing_end f = sym (ap (λ (x : Ascent). meet (preimages_of x) (left τ (k + e) (h - k) j d)) (turn-none σ k k h j c f) ∙ meet_left (left τ (k + e) (h - k) j d)) ∙ v.kept

    module _ (l : k < h) where
      pub pairing_stop : (number : ℕ) → fails number ≡ step (σ k (sibling_position j)) (odd j) c → never ≡ meet (left σ 0 h i c₀) (left τ e h i d₀)
      pairing_stop number g = sym (ap (λ (x : List (List ℕ)). meet x (left τ (k + e) (h - k) j d)) (preimages-stop σ h k k l j c number g) ∙ meet_left (left τ (k + e) (h - k) j d)) ∙ v.kept

      pub pairing_stop₂ : (number : ℕ) → fails number ≡ step (τ (k + e) (sibling_position j)) (odd j) d → never ≡ meet (left σ 0 h i c₀) (left τ e h i d₀)
      pairing_stop₂ number g = sym (ap (λ (x : List (List ℕ)). meet (left σ k (h - k) j c) x) (preimages-stop τ h k (k + e) l j d number g) ∙ meet_right (left σ k (h - k) j c)) ∙ v.kept

      module _ (t u : Halves) (et : joins t.left t.right ≡ step (σ k (sibling_position j)) (odd j) c) (eu : joins u.left u.right ≡ step (τ (k + e) (sibling_position j)) (odd j) d) where
        both-up : meet (left σ k (h - k) j c) (left τ (k + e) (h - k) j d)
            ≡ meet (both t ∷ left σ (k + 1) (h - (k + 1)) (j / 2) (sha256d (both t))) (both u ∷ left τ (k + 1 + e) (h - (k + 1)) (j / 2) (sha256d (both u)))
        both-up =
            let n : k + 1 + e ≡ k + e + 1 = omega arith in
            rw (preimages-up σ h k k l j c t et, preimages-up τ h k (k + e) l j d u eu, n)

        pub pairing_here : same (sha256d (both t)) (sha256d (both u)) ≡ true → meets (both t) (both u) ≡ meet (left σ 0 h i c₀) (left τ e h i d₀)
        pairing_here g = sym (both-up ∙ meet-here _ _ _ _ g) ∙ v.kept

        pub pairing_up : same (sha256d (both t)) (sha256d (both u)) ≡ false → (c' d' : List ℕ) → c' ≡ sha256d (both t) → d' ≡ sha256d (both u) → Pairing σ τ e h i c₀ d₀ (k + 1) (j / 2) c' d'
        pairing_up g c' d' z w = record { done = omega arith; kept = rw (z, w) (sym (both-up ∙ meet-above _ _ _ _ g) ∙ v.kept) }
