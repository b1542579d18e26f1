-- Marks for a quick search of levels whose offsets rise: the place of every 64th leaf of a level, so that a search reads no more than 64 leaves and
-- one for each mark.
use Rattle.std.specs.Prelude.{ℕ, zero, suc, ◌+◌, ◌*◌, ◌/◌, ◌%◌, ◌<◌, ◌≤◌, ◌^◌, ◌≡◌, Bool, true, false, List, length, get_or, leb, ltb}
use Rattle.format.specs.declared.level.Layout.{Layout}
use Rattle.format.specs.declared.leaf.Leaf.{Leaf}
use Rattle.format.specs.Parse.{ok, pick, otherwise}
use Rattle.format.specs.Field.{varint}
use Rattle.path.specs.Unchecked.{unchecked_leaf}

module _ (layout : Layout) (s : List ℕ) where
  -- the offsets of n leaves from a place rise, from lo on
  unfoldable pub rises : ℕ → ℕ → ℕ → Bool
  rises zero at lo = true
  rises (suc n) at lo = otherwise (unchecked_leaf layout s at) true (λ leaf next. pick (leb lo leaf.offset) (rises n next (leaf.offset + 1)) false)

  -- the place after m leaves
  unfoldable pub after : ℕ → ℕ → ℕ
  after zero at = at
  after (suc m) at = otherwise (unchecked_leaf layout s at) at (λ leaf next. after m next)

-- a place that fits 32 bits, else none
unfoldable pub narrowed : ℕ → ℕ
narrowed p = pick (ltb p (2 ^ 32)) p 0

-- mark i of the level at a place: the place p of its leaf 64 i, where the level's offsets rise
pub record Mark (layout : Layout) (s : List ℕ) (at i p : ℕ) : Type 0 where
  pub count : ℕ
  pub first : ℕ
  pub read : varint s at ≡ ok count first
  pub rising : rises layout s count first 0 ≡ true
  pub place : p ≡ after layout s (64 * i) first
  pub within : (i ≡ 0 → ⊥) → 64 * i < count

-- entry y of the marks, 16 for each level, is such a mark or 0
unfoldable pub IsMark : Layout → List ℕ → List ℕ → ℕ → ℕ → Type 0
IsMark layout s places y p = (p ≡ 0 → ⊥) → Mark layout s (get_or places (y / 16) 0) (y % 16) p

pub record Marked (layout : Layout) (s places marks : List ℕ) : Type 0 where
  pub long : length marks ≡ 1024
  pub each : (y : ℕ) → IsMark layout s places y (get_or marks y 0)

-- a search for q may start at mark i, at a place: it is the first mark, or its leaf's offset is no greater
unfoldable pub MayStart : Layout → List ℕ → ℕ → ℕ → ℕ → Type 0
MayStart layout s q i p = (i ≡ 0 → ⊥) → (leaf : Leaf) × (x : ℕ) × (unchecked_leaf layout s p ≡ ok leaf x) × (leaf.offset ≤ q)
