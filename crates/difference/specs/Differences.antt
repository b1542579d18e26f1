-- The differences of two BUMPs (02, Item 7): "block height, tree height, then by level and offset the leaves that stand in one only
-- or differ in flags or hash, each told as in the first, the second or both".
use Rattle.std.specs.Prelude.{List, [], ◌∷◌, ◌++◌, Bool, true, false, ℕ, zero, suc, ◌^◌, eqb, leb}
use Rattle.format.specs.Bytes.{same}
use Rattle.format.specs.Parse.{pick}
use Rattle.encoding.specs.BumpBytes.{Carried, plain, copy, client, Content}
use Rattle.levels.specs.Standing.{Standing, stands, nothing, standing}

-- a leaf that stands in the first only, in the second only, or in both and differs
pub data Side : Type 0 where
  first : Side
  second : Side
  both : Side

-- the block height, the tree height, or the leaf at a level and offset
pub data Difference : Type 0 where
  block : Difference
  height : Difference
  leaf : ℕ → ℕ → Side → Difference

-- flags and hash are equal
unfoldable pub equal : Carried → Carried → Bool
equal (plain h) (plain i) = same h i
equal (plain h) copy = false
equal (plain h) (client i) = false
equal copy (plain i) = false
equal copy copy = true
equal copy (client i) = false
equal (client h) (plain i) = false
equal (client h) copy = false
equal (client h) (client i) = same h i

-- what is told of a place
pub data Told : Type 0 where
  alike : Told
  differ : Side → Told

unfoldable pub told : Standing → Standing → Told
told nothing nothing = alike
told (stands c) nothing = differ first
told nothing (stands d) = differ second
told (stands c) (stands d) = pick (equal c d) alike (differ both)

-- a difference of a place, if there is one, and others after it
unfoldable pub tell : ℕ → ℕ → Told → List Difference → List Difference
tell k o alike l = l
tell k o (differ s) l = leaf k o s ∷ l

-- n offsets of level k, from o, by what stands there in the first and in the second
unfoldable pub offsets_from : ℕ → (ℕ → Standing) → (ℕ → Standing) → ℕ → ℕ → List Difference
offsets_from k c d zero o = []
offsets_from k c d (suc n) o = tell k o (told (c o) (d o)) (offsets_from k c d n (suc o))

-- the n highest levels, from k; a level from which n lead to the root has 2 ^ n places
unfoldable pub levels_from : Content → Content → ℕ → ℕ → List Difference
levels_from x y zero k = []
levels_from x y (suc n) k = offsets_from k (standing x k) (standing y k) (2 ^ suc n) 0 ++ levels_from x y n (suc k)

-- a difference where a test fails
unfoldable pub unless : Bool → Difference → List Difference
unless true d = []
unless false d = d ∷ []

-- the greater of two heights
unfoldable pub higher : ℕ → ℕ → ℕ
higher m n = pick (leb m n) n m

unfoldable pub differences : Content → Content → List Difference
differences x y =
    unless (eqb x.block y.block) block
    ++ (unless (eqb x.height y.height) height
    ++ levels_from x y (higher x.height y.height) 0)
