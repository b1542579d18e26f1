-- An input that is one whole item, under any function of what is read.
use mathlib.Core.Path.{◌≡◌, refl}
use mathlib.Core.List.{List}
use mathlib.Core.Bool.{Bool, true, false}
use Prim.Native.Nat.{ℕ, ◌≤◌}
use lib.ListN.{length}
use lib.Dec.{leb, ltb}
use native.Mathlib.Omega.{arith}
use borrow.Author.Tests.{le-ltb, le-leb, leb-true, ltb-false}
use Rattle.format.specs.Parse.{Reader, pick, ended, whole, ok, fault}
use Rattle.format.proofs.ParseLaws.{onward-told}
use Rattle.format.specs.Refusals.{TOO_LONG, EXTRA, MAX_INPUT}

module _ {A : Type 0} (p : Reader A) (s : List ℕ) where
  pub whole-ok : {a : A} {q : ℕ} → length s ≤ MAX_INPUT → p s 0 ≡ ok a q → length s ≤ q → whole p s ≡ p s 0
  unfolding whole
  whole-ok h e l = simp (le-leb _ _ h, e, le-ltb _ _ l)

  -- what was read is of at most the input size
  pub whole-size : {a : A} {q : ℕ} → whole p s ≡ ok a q → length s ≤ MAX_INPUT
  unfolding whole
  whole-size {a} {q} e = fit (leb (length s) MAX_INPUT) refl e
    where
      fit : (t : Bool) → leb (length s) MAX_INPUT ≡ t → pick t (ended p s 0) (fault TOO_LONG 0) ≡ ok a q → length s ≤ MAX_INPUT
      fit true h m = leb-true _ _ h
      fit false h m = absurd (let z : ◌≡◌ {A = ℕ} 0 1 = cc in omega arith)

  -- what was read ends no sooner than the input
  pub whole_ends : {a : A} {q : ℕ} → whole p s ≡ ok a q → length s ≤ q
  unfolding whole
  whole_ends {a} {q} e = fit (leb (length s) MAX_INPUT) e
    where
      last : (b : A) (r : ℕ) (t : Bool) → ltb r (length s) ≡ t → pick t (fault EXTRA r) (ok b r) ≡ ok a q → length s ≤ q
      last b r true h m = absurd (let z : ◌≡◌ {A = ℕ} 0 1 = cc in omega arith)
      last b r false h m = let k : r ≡ q = cc in rw (← k) (ltb-false _ _ h)

      fit : (t : Bool) → pick t (ended p s 0) (fault TOO_LONG 0) ≡ ok a q → length s ≤ q
      fit true m = let x = onward-told (p s 0) _ m in last x.0 x.1 (ltb x.1 (length s)) refl x.3
      fit false m = absurd (let z : ◌≡◌ {A = ℕ} 0 1 = cc in omega arith)
