-- Laws of the values that can be worked out: by what is written, of forms that agree, and that each has 32 bytes.
use Prim.Native.Nat.{ℕ, zero, suc, ◌+◌, ◌-◌, ◌*◌, ◌<◌, ◌≤◌}
use mathlib.Core.Path.{◌≡◌, refl, sym, ap, ◌∙◌}
use mathlib.Core.Bool.{false}
use mathlib.Core.List.{List, ◌++◌}
use lib.ListN.{length}
use native.Mathlib.Omega.{arith}
use Rattle.hash.specs.Sha256.{sha256d}
use Rattle.hash.proofs.Sha256Laws.{sha256d-length}
use Rattle.spv.specs.Climb.{Sibling, value, copied, absent, Siblings}
use Rattle.spv.proofs.Collide.{Whole}
use Rattle.spv.specs.Values.{has_value, value_by, join_both, join_of, value_of, worked_out}

pub both_left : (l r : Sibling) → has_value l ≡ false → join_both l r ≡ absent
unfolding join_both has_value
both_left (value p) r e = let z : ◌≡◌ {A = ℕ} 0 1 = cc in absurd (omega arith)
both_left copied r e = refl
both_left absent r e = refl

module _ (w : Siblings) where
  pub join-zero : (k q : ℕ) → k ≡ 0 → join_of w k q ≡ absent
  unfolding join_of
  join-zero k q e = rw e

  module _ (k q : ℕ) (ne : k ≡ 0 → ⊥) where
    pub join-two : join_of w k q ≡ join_both (value_of w absent (k - 1) (2 * q)) (value_of w (value_of w absent (k - 1) (2 * q)) (k - 1) (2 * q + 1))
    unfolding join_of value_of
    join-two = let e : k ≡ suc (k - 1) = omega arith in ap (λ (m : ℕ). join_of w m q) e

    -- nothing more is asked for once the left child has no value
    pub join-none : has_value (value_of w absent (k - 1) (2 * q)) ≡ false → join_of w k q ≡ absent
    join-none e = join-two ∙ both_left (value_of w absent (k - 1) (2 * q)) (value_of w (value_of w absent (k - 1) (2 * q)) (k - 1) (2 * q + 1)) e

-- by what is written
module _ (w : Siblings) (copy : Sibling) (k q : ℕ) where
  pub value_written : (p : List ℕ) → w k q ≡ value p → value_of w copy k q ≡ value p
  unfolding value_of value_by
  value_written p e = rw e

  pub value-copied : w k q ≡ copied → value_of w copy k q ≡ copy
  unfolding value_of value_by
  value-copied e = rw e

  pub value-absent : w k q ≡ absent → value_of w copy k q ≡ join_of w k q
  unfolding value_of value_by
  value-absent e = rw e

-- the values of forms that agree below a layer
module _ (w v : Siblings) (h : ℕ) (f : (k q : ℕ) → k < h → w k q ≡ v k q) where
  pub join-same : (k q : ℕ) → k ≤ h → join_of w k q ≡ join_of v k q
  unfolding join_of
  join-same zero q b = refl
  join-same (suc k) q b =
      let c : k < h = omega arith in
      let d : k ≤ h = omega arith in
      rw (f k (2 * q) c, f k (2 * q + 1) c, join-same k (2 * q) d, join-same k (2 * q + 1) d)

  pub worked_same : (k q : ℕ) → k < h → worked_out w k q ≡ worked_out v k q
  unfolding worked_out value_of
  worked_same k q b = rw (f k q b, join-same k q (omega arith))

-- whatever is worked out has 32 bytes
module _ (w : Siblings) (whole : (k q : ℕ) → Whole (w k q)) where
  value_by_whole : (x copy join : Sibling) → Whole x → Whole copy → Whole join → Whole (value_by x copy join)
  unfolding value_by
  value_by_whole (value p) copy join a b c = a
  value_by_whole copied copy join a b c = b
  value_by_whole absent copy join a b c = c

  pub absent-whole : Whole absent
  unfolding Whole
  absent-whole p e = let z : ◌≡◌ {A = ℕ} 0 1 = cc in absurd (omega arith)

  copied-whole : Whole copied
  unfolding Whole
  copied-whole p e = let z : ◌≡◌ {A = ℕ} 0 1 = cc in absurd (omega arith)

  both-whole : (l r : Sibling) → Whole (join_both l r)
  unfolding join_both Whole
  both-whole (value l) (value r) = λ p e. let y : sha256d (l ++ r) ≡ p = cc in ap length (sym y) ∙ sha256d-length (l ++ r)
  both-whole (value l) copied = absent-whole
  both-whole (value l) absent = absent-whole
  both-whole copied r = absent-whole
  both-whole absent r = absent-whole

  pub join-whole : (k q : ℕ) → Whole (join_of w k q)
  unfolding join_of
  join-whole zero q = absent-whole
  join-whole (suc k) q = both-whole _ _

  pub worked_whole : (k q : ℕ) → Whole (worked_out w k q)
  unfolding worked_out value_of
  worked_whole k q = value_by_whole (w k q) copied (join_of w k q) (whole k q) copied-whole (join-whole k q)
