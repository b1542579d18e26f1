-- Equality of byte strings, as a test; a hash at a place, hashes end to end.
use Rattle.std.specs.Prelude.{ℕ, ◌*◌, ◌/◌, ◌+◌, Bool, true, false, ◌&&◌, List, [], ◌∷◌, eqb, ltb, leb, length, take, drop, replicate}
use Rattle.std.proofs.Math.Seq.{paste}
use Rattle.format.specs.Parse.{pick}

unfoldable pub same : List ℕ → List ℕ → Bool
same [] [] = true
same [] (y ∷ ys) = false
same (x ∷ xs) [] = false
same (x ∷ xs) (y ∷ ys) = eqb x y && same xs ys

-- hashes end to end with another one at i, where there is room for it
unfoldable pub set_hash : List ℕ → ℕ → List ℕ → List ℕ
set_hash l i hash = pick (ltb i (length l / 32)) (paste l (32 * i) hash 32) l

-- 32 bytes from a place; zeros where they aren't all there
unfoldable pub hash_at : List ℕ → ℕ → List ℕ
hash_at s p = pick (leb (p + 32) (length s)) (take 32 (drop p s)) (replicate 32 0)
