-- Laws of the leaf that is kept, by flags and hashes.
use Rattle.std.proofs.Common.{Option, Some, None, ◌⊎◌}
use mathlib.Core.Logic.{inl, inr}
use mathlib.Core.Path.{◌≡◌, refl}
use mathlib.Core.List.{List}
use mathlib.Core.Bool.{Bool, true, false, ◌||◌}
use Prim.Native.Nat.{ℕ, zero, suc, ◌-◌, ◌<◌, ◌≤◌}
use lib.Dec.{eqb}
use native.Mathlib.Omega.{arith}
use borrow.Author.Tests.{eq-eqb, ne_eqb}
use Rattle.format.specs.declared.leaf.Kind.{Kind}
use Rattle.format.specs.declared.leaf.Kind.TheVariants.{Plain, Copy, Client}
use Rattle.format.specs.Parse.{pick}
use Rattle.format.specs.Bytes.{same, hash_at}
use Rattle.encoding.specs.BumpBytes.{carried_of}
use Rattle.levels.specs.Standing.{Standing, nothing}
use Rattle.levels.specs.Fronts.{flags_of, place_of, standing_of}
use Rattle.merging.specs.declared.uniting.Choice.TheVariants.{First, Second}
use Rattle.merging.specs.Merging.{keeps, clash, has_hash, agree}
use Rattle.merging.specs.Walk.{left_at, left_spot, kept_by}

-- what was on the left, by the code's answer
pub left-none : (last o : ℕ) (v : Option Kind) → (o ≡ 0) ⊎ (last ≡ o - 1 → ⊥) → None ≡ left_spot last o v
unfolding left_spot
left-none last zero v e = refl
left-none last (suc o) v (inl e) = absurd (omega arith)
left-none last (suc o) v (inr f) = rw (ne_eqb last o (λ g. f (omega arith))) refl

pub left_there : (last o : ℕ) (v : Option Kind) → (o ≡ 0 → ⊥) → last ≡ o - 1 → v ≡ left_spot last o v
unfolding left_spot
left_there last zero v e f = absurd (e refl)
left_there last (suc o) v e f = rw (eq-eqb last o (omega arith)) refl

pub left-standing : (s : List ℕ) (last o : ℕ) (v : Option Kind) → standing_of s (left_spot last o v) ≡ left_at last o (standing_of s v)
unfolding left_spot left_at standing_of
left-standing s last zero v = refl
left-standing s last (suc o) v = go (eqb last o)
  where
    go : (b : Bool) → standing_of s (pick b v None) ≡ pick b (standing_of s v) nothing
    go true = refl
    go false = refl

-- leaves at one place, by the places of their hashes
module _ (s t : List ℕ) (l m : Standing) where
  abbrev beside : List ℕ → Bool
  beside h = has_hash h l || has_hash h m

  pub two_copies : (x y : Kind) → None ≡ place_of x → None ≡ place_of y → kept_by s t (Some (First x)) ≡ agree l m (carried_of s x) (carried_of t y)
  unfolding place_of agree carried_of
  two_copies (Plain p) y e f = cc
  two_copies (Client p) y e f = cc
  two_copies Copy (Plain q) e f = cc
  two_copies Copy (Client q) e f = cc
  two_copies Copy Copy e f = refl

  second-picked : (b : Bool) (y : Kind) → kept_by s t (pick b (Some (Second y)) None) ≡ pick b (keeps (carried_of t y)) clash
  second-picked true y = refl
  second-picked false y = refl

  first-picked : (b : Bool) (x : Kind) → kept_by s t (pick b (Some (First x)) None) ≡ pick b (keeps (carried_of s x)) clash
  first-picked true x = refl
  first-picked false x = refl

  pub copy-hash : (x y : Kind) {q : ℕ} → None ≡ place_of x → Some q ≡ place_of y → kept_by s t (pick (beside (hash_at t q)) (Some (Second y)) None) ≡ agree l m (carried_of s x) (carried_of t y)
  unfolding place_of agree carried_of
  copy-hash (Plain p) y e f = cc
  copy-hash (Client p) y e f = cc
  copy-hash Copy (Plain r) {q} e f = let g : q ≡ r = cc in rw g (second-picked (beside (hash_at t r)) (Plain r))
  copy-hash Copy (Client r) {q} e f = let g : q ≡ r = cc in rw g (second-picked (beside (hash_at t r)) (Client r))
  copy-hash Copy Copy e f = cc

  pub hash-against : (x y : Kind) {p : ℕ} → Some p ≡ place_of x → None ≡ place_of y → kept_by s t (pick (beside (hash_at s p)) (Some (First x)) None) ≡ agree l m (carried_of s x) (carried_of t y)
  unfolding place_of agree carried_of
  hash-against x (Plain q) e f = cc
  hash-against x (Client q) e f = cc
  hash-against (Plain r) Copy {p} e f = let g : p ≡ r = cc in rw g (first-picked (beside (hash_at s r)) (Plain r))
  hash-against (Client r) Copy {p} e f = let g : p ≡ r = cc in rw g (first-picked (beside (hash_at s r)) (Client r))
  hash-against Copy Copy e f = cc

  module _ (x y : Kind) {p q : ℕ} (e : Some p ≡ place_of x) (f : Some q ≡ place_of y) where
    pub two-hashes : same (hash_at s p) (hash_at t q) ≡ false → kept_by s t None ≡ agree l m (carried_of s x) (carried_of t y)
    unfolding place_of agree carried_of
    two-hashes g = go x e y f
      where
        go : (x : Kind) → Some p ≡ place_of x → (y : Kind) → Some q ≡ place_of y → kept_by s t None ≡ agree l m (carried_of s x) (carried_of t y)
        go Copy e y f = cc
        go (Plain i) e Copy f = cc
        go (Client i) e Copy f = cc
        go (Plain i) e (Plain j) f = let a : i ≡ p = cc in let b : j ≡ q = cc in rw (a, b, g) refl
        go (Plain i) e (Client j) f = let a : i ≡ p = cc in let b : j ≡ q = cc in rw (a, b, g) refl
        go (Client i) e (Plain j) f = let a : i ≡ p = cc in let b : j ≡ q = cc in rw (a, b, g) refl
        go (Client i) e (Client j) f = let a : i ≡ p = cc in let b : j ≡ q = cc in rw (a, b, g) refl

    -- a client flag wins over a plain one
    pub second_wins : same (hash_at s p) (hash_at t q) ≡ true → flags_of x < flags_of y → kept_by s t (Some (Second y)) ≡ agree l m (carried_of s x) (carried_of t y)
    unfolding flags_of place_of agree carried_of
    second_wins g h = go x e y f h
      where
        go : (x : Kind) → Some p ≡ place_of x → (y : Kind) → Some q ≡ place_of y → flags_of x < flags_of y → kept_by s t (Some (Second y)) ≡ agree l m (carried_of s x) (carried_of t y)
        go Copy e y f h = cc
        go (Plain i) e Copy f h = cc
        go (Client i) e Copy f h = cc
        go (Plain i) e (Plain j) f h = absurd (omega arith)
        go (Plain i) e (Client j) f h = let a : i ≡ p = cc in let b : j ≡ q = cc in rw (a, b, g) refl
        go (Client i) e (Plain j) f h = absurd (omega arith)
        go (Client i) e (Client j) f h = absurd (omega arith)

    pub first_stays : same (hash_at s p) (hash_at t q) ≡ true → flags_of y ≤ flags_of x → kept_by s t (Some (First x)) ≡ agree l m (carried_of s x) (carried_of t y)
    unfolding flags_of place_of agree carried_of
    first_stays g h = go x e y f h
      where
        go : (x : Kind) → Some p ≡ place_of x → (y : Kind) → Some q ≡ place_of y → flags_of y ≤ flags_of x → kept_by s t (Some (First x)) ≡ agree l m (carried_of s x) (carried_of t y)
        go Copy e y f h = cc
        go (Plain i) e Copy f h = cc
        go (Client i) e Copy f h = cc
        go (Plain i) e (Plain j) f h = let a : i ≡ p = cc in let b : j ≡ q = cc in rw (a, b, g) refl
        go (Plain i) e (Client j) f h = absurd (omega arith)
        go (Client i) e (Plain j) f h = let a : i ≡ p = cc in let b : j ≡ q = cc in rw (a, b, g) refl
        go (Client i) e (Client j) f h = let a : i ≡ p = cc in let b : j ≡ q = cc in rw (a, b, g) refl
