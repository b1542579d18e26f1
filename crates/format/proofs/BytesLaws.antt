-- Laws of equality of byte strings, of a hash at a place and of one that is set.
use Prim.Native.Nat.{ℕ, ◌*◌, ◌/◌, ◌<◌, ◌≤◌, ◌+◌}
use mathlib.Core.Path.{◌≡◌, refl}
use mathlib.Core.Bool.{Bool, true, false}
use mathlib.Core.List.{List, [], ◌∷◌}
use native.Mathlib.Omega.{arith}
use lib.Dec.{eqb, leb}
use lib.ListN.{length, take, drop, length-drop, replicate}
use lib.Seq.{paste, length-take-le}
use borrow.Author.Tests.{eqb-true, eq-eqb, lt-ltb, le-ltb, le-leb, lt-leb, leb-true}
use Rattle.format.proofs.Basics.{and-true}
use Rattle.format.specs.Bytes.{same, set_hash, hash_at}
use Rattle.format.specs.Parse.{pick}

pub same_eq : (a b : List ℕ) → same a b ≡ true → a ≡ b
unfolding same
same_eq [] [] e = refl
same_eq [] (y ∷ ys) e = let z : ◌≡◌ {A = ℕ} 0 1 = cc in absurd (omega arith)
same_eq (x ∷ xs) [] e = let z : ◌≡◌ {A = ℕ} 0 1 = cc in absurd (omega arith)
same_eq (x ∷ xs) (y ∷ ys) e =
    let h = and-true (eqb x y) (same xs ys) e in
    let p : x ≡ y = eqb-true x y h.0 in
    let q : xs ≡ ys = same_eq xs ys h.1 in
    cc

pub same_refl : (a : List ℕ) → same a a ≡ true
unfolding same
same_refl [] = refl
same_refl (x ∷ xs) = rw (eq-eqb x x refl) (same_refl xs)

pub eq_same : (a b : List ℕ) → a ≡ b → same a b ≡ true
eq_same a b e = rw e (same_refl b)

pub same_ne : (a b : List ℕ) → same a b ≡ false → a ≡ b → ⊥
same_ne a b f e = let t : same a b ≡ true = eq_same a b e in let z : ◌≡◌ {A = ℕ} 0 1 = cc in omega arith

pub ne_same : (a b : List ℕ) → (a ≡ b → ⊥) → same a b ≡ false
ne_same a b ne = go (same a b) refl
  where
    go : (t : Bool) → same a b ≡ t → same a b ≡ false
    go true e = absurd (ne (same_eq a b e))
    go false e = e

pub set-inside : (l : List ℕ) (i : ℕ) (hash : List ℕ) → i < length l / 32 → set_hash l i hash ≡ paste l (32 * i) hash 32
unfolding set_hash
set-inside l i hash h = rw (lt-ltb i (length l / 32) h)

pub set_outside : (l : List ℕ) (i : ℕ) (hash : List ℕ) → length l / 32 ≤ i → set_hash l i hash ≡ l
unfolding set_hash
set_outside l i hash h = rw (le-ltb i (length l / 32) h)

-- 32 bytes are there, or zeros
pub hash-there : (s : List ℕ) (p : ℕ) → p + 32 ≤ length s → hash_at s p ≡ take 32 (drop p s)
unfolding hash_at
hash-there s p h = rw (le-leb _ _ h)

pub hash-none : (s : List ℕ) (p : ℕ) → length s < p + 32 → hash_at s p ≡ replicate 32 0
unfolding hash_at
hash-none s p h = rw (lt-leb _ _ h)

pub hash-at-length : (s : List ℕ) (p : ℕ) → length (hash_at s p) ≡ 32
unfolding hash_at
hash-at-length s p = sized (leb (p + 32) (length s)) refl
  where
    sized : (b : Bool) → leb (p + 32) (length s) ≡ b → length (pick b (take 32 (drop p s)) (replicate 32 0)) ≡ 32
    sized true e = length-take-le 32 (drop p s) (let h : p + 32 ≤ length s = leb-true _ _ e in simp length-drop (omega arith))
    sized false e = refl
