-- "no other bytes meet these rules" (02, Item 1).
use mathlib.Core.Path.{◌≡◌, refl, sym, ap, ap₂, ◌∙◌, subst}
use mathlib.Core.List.{List, [], ◌∷◌, map}
use Prim.Native.Nat.{ℕ, zero, suc, ◌+◌, ◌-◌, ◌^◌, ◌<◌}
use lib.ListN.{length, get_or, get_or-map}
use native.Mathlib.Omega.{arith}
use native.Mathlib.Nat.{zero-add, add-zero}
use Rattle.encoding.specs.Encode.{AllBytes, Fits}
use Rattle.encoding.specs.BumpBytes.{Entry, bump_bytes, entry_of, levels_of, content_of, LevelFit, next_level, ContentFit}
use Rattle.encoding.proofs.BumpRoundTrip.{bump-written}
use Rattle.block.specs.Tree.{height}
use Rattle.block.proofs.TreeLaws.{height-holds, height-least}
use Rattle.block.specs.BlockBump.{asked, level_for, levels_for, block_bump, Meets}
use Rattle.block.proofs.RisingLaws.{found-says, rising_from, Under, fits_under, rising-only}

-- level i + j of levels that fit from i on
pub level-fits : (h i : ℕ) (ls : List (List Entry)) → Fits (LevelFit h) next_level i ls → (j : ℕ) → j < length ls → LevelFit h (i + j) (get_or ls j [])
unfolding Fits
level-fits h i [] f j b = absurd (omega arith)
level-fits h i (l ∷ ls) f zero b = rw add-zero f.0
level-fits h i (l ∷ ls) f (suc j) b = let e : i + suc j ≡ i + 1 + j = omega arith in rw e (level-fits h (i + 1) ls f.1 j (omega arith))

pub levels-only : (ids : List (List ℕ)) (chosen : List ℕ) (h n k : ℕ) (ls : List (List Entry)) → length ls ≡ n
    → ((j : ℕ) → j < n → get_or ls j [] ≡ level_for ids chosen h (k + j)) → ls ≡ levels_for ids chosen h k n
unfolding levels_for
levels-only ids chosen h zero k [] e f = refl
levels-only ids chosen h zero k (l ∷ ls) e f = absurd (omega arith)
levels-only ids chosen h (suc n) k [] e f = absurd (omega arith)
levels-only ids chosen h (suc n) k (l ∷ ls) e f =
    ap₂ ◌∷◌ (f 0 (omega arith) ∙ ap (level_for ids chosen h) (add-zero k))
    (levels-only ids chosen h n (k + 1) ls (omega arith) (λ j b. f (suc j) (omega arith) ∙ ap (level_for ids chosen h) (omega arith)))

module _ (block : ℕ) (ids : List (List ℕ)) (chosen s : List ℕ) (bytes : AllBytes s) (m : Meets block ids chosen s) where
  written : (s ≡ bump_bytes (content_of s m.bump)) × ContentFit (content_of s m.bump)
  written = bump-written s bytes m.read

  height-is : m.bump.height ≡ height ids
  height-is =
      let a = m.least (height ids) (height-holds (length ids)) in
      let b = height-least (length ids) m.bump.height m.holds_list in
      omega arith

  level-is : (k : ℕ) → k < m.bump.height → get_or (levels_of s m.bump.levels) k [] ≡ level_for ids chosen m.bump.height k
  level-is k b =
      let is : get_or (levels_of s m.bump.levels) k [] ≡ map (entry_of s) (get_or m.bump.levels k []) = get_or-map (map (entry_of s)) m.bump.levels k [] in
      let fit = level-fits m.bump.height 0 (levels_of s m.bump.levels) written.1.levels_fit k (rw written.1.all b) in
      let under = fits_under (2 ^ (m.bump.height - (0 + k))) (0 + k) [] _ fit.1 in
      is ∙ rising-only (asked ids chosen k) (2 ^ (m.bump.height - k)) 0 (map (entry_of s) (get_or m.bump.levels k []))
      (rising_from s (get_or m.bump.levels k []) (m.rises k b)) (rw (zero-add (2 ^ (m.bump.height - k)), ← is) (subst (λ (x : ℕ). Under (2 ^ (m.bump.height - x)) (get_or (levels_of s m.bump.levels) k [])) (zero-add k) under))
      (λ x a c. sym (found-says s x (get_or m.bump.levels k [])) ∙ m.leaves k x b (rw zero-add at c))

  pub only-bytes : s ≡ bump_bytes (block_bump block ids chosen)
  unfolding block_bump
  only-bytes =
      let ls = levels-only ids chosen m.bump.height m.bump.height 0 (levels_of s m.bump.levels) written.1.all (λ j b. level-is j b ∙ ap (level_for ids chosen m.bump.height) (sym (zero-add j))) in
      written.0 ∙ ap bump_bytes (λ i. record { block = m.of_block i; height = height-is i; levels = (ls ∙ ap (λ (h : ℕ). levels_for ids chosen h 0 h) height-is) i })
