-- Laws of `shorter`, one for each answer.
use Prim.Native.Nat.{ℕ, ◌≤◌, ◌<◌}
use mathlib.Core.Path.{◌≡◌, refl}
use mathlib.Core.List.{List, [], ◌∷◌}
use mathlib.Core.Bool.{Bool, true, false}
use lib.ListN.{length}
use lib.Dec.{leb}
use borrow.Author.Tests.{le-leb, lt-leb, leb-false}
use native.Mathlib.Omega.{arith}
use Rattle.format.specs.Bytes.{same}
use Rattle.format.specs.Parse.{pick, whole}
use Rattle.format.specs.Field.{byte, varint}
use Rattle.format.specs.Bump.{block_field, bump_up_to}
use Rattle.format.specs.Refusals.{UNLIKE}
use Rattle.spv.specs.Result.{Result, accepted, refused, carrying, follow}
use Rattle.spv.specs.Prove.{Proof, prove_by, prove}
use Rattle.spv.specs.Readings.{bump_reading, bump_reading_up_to}
use Rattle.spv.specs.declared.rejection.Rejection.{Rejection}
use Rattle.difference.specs.Shorter.{Choice, first, second, shorter_of, settled, shorter}

module _ (a b id : List ℕ) where
  pub first-refused : (why : Rejection) → prove (bump_reading a id) ≡ refused why → refused why ≡ shorter a b id
  unfolding shorter
  first-refused why e = rw e refl

  module _ {x : Proof} (e : prove (bump_reading a id) ≡ accepted x) where
    pub second-refused : (why : Rejection) → prove (bump_reading b id) ≡ refused why → refused why ≡ shorter a b id
    unfolding shorter
    second-refused why f = rw (e, f) refl

    module _ {y : Proof} (f : prove (bump_reading b id) ≡ accepted y) {r t : List ℕ} (d : x.root ≡ r) (c : y.root ≡ t) where
      pub two_roots : same r t ≡ false → refused (carrying UNLIKE 0) ≡ shorter a b id
      unfolding shorter settled
      two_roots g = rw (e, f, d, c, g) refl

      pub one-root : same r t ≡ true → accepted (shorter_of a b) ≡ shorter a b id
      unfolding shorter settled
      one-root g = rw (e, f, d, c, g) refl

module _ (a b : List ℕ) where
  pub takes_first : length a ≤ length b → shorter_of a b ≡ first
  unfolding shorter_of
  takes_first h = rw (le-leb (length a) (length b) h)

  pub takes-second : length b < length a → shorter_of a b ≡ second
  unfolding shorter_of
  takes-second h = rw (lt-leb (length a) (length b) h)

-- ---- what is handed back tells which it is

-- nothing is proved by an empty input
proved-some : (a id : List ℕ) {p : Proof} → prove (bump_reading a id) ≡ accepted p → 0 < length a
unfolding prove_by bump_reading_up_to whole bump_up_to block_field varint byte
proved-some [] id e = let z : ◌≡◌ {A = ℕ} 0 1 = cc in absurd (omega arith)
proved-some (x ∷ a) id e = omega arith

module _ (a b : List ℕ) where
  -- neither that is handed back is empty, and the second is the shorter
  pub data Weighs (v : Result Choice) : Type 0 where
    the_first : v ≡ accepted first → 0 < length a → Weighs v
    the_second : v ≡ accepted second → 0 < length b → length b < length a → Weighs v
    neither : (why : Rejection) → v ≡ refused why → Weighs v

  by_length : 0 < length a → 0 < length b → Weighs (accepted (shorter_of a b))
  unfolding shorter_of
  by_length h k = go (leb (length a) (length b)) refl
    where
      go : (t : Bool) → leb (length a) (length b) ≡ t → Weighs (accepted (pick t first second))
      go true e = the_first refl h
      go false e = the_second refl k (leb-false (length a) (length b) e)

  by_roots : (t : Bool) → 0 < length a → 0 < length b → Weighs (pick t (accepted (shorter_of a b)) (refused (carrying UNLIKE 0)))
  by_roots true h k = by_length h k
  by_roots false h k = neither (carrying UNLIKE 0) refl

  pub weighs : (id : List ℕ) → Weighs (shorter a b id)
  unfolding shorter settled
  weighs id = go (prove (bump_reading a id)) refl (prove (bump_reading b id)) refl
    where
      go : (p : Result Proof) → prove (bump_reading a id) ≡ p → (q : Result Proof) → prove (bump_reading b id) ≡ q → Weighs (follow p (λ x. follow q (λ y. settled a b x y)))
      go (refused x) e q f = neither x refl
      go (accepted x) e (refused y) f = neither y refl
      go (accepted x) e (accepted y) f = by_roots (same x.root y.root) (proved-some a id e) (proved-some b id f)
