-- What the code counts and writes of a level, offset by offset.
use Rattle.std.specs.Prelude.{◌≡◌, Bool, List, [], ◌∷◌, ◌++◌, ℕ, zero, suc, ◌+◌, ◌/◌, length, ltb, Option, Some, None}
use Rattle.format.specs.Parse.{pick}
use Rattle.spv.specs.Climb.{sibling_position}
use Rattle.block.specs.declared.level.Asked.{Asked}
use Rattle.block.specs.declared.level.Asked.TheVariants.{Plain, Copy, Client}
use Rattle.encoding.specs.Digits.{varint_bytes}
use Rattle.block.specs.Heap.{node_in, Heap}
use Rattle.block.specs.Marks.{marked, Marked}
use Rattle.block.specs.BlockBump.{Below}
use Rattle.spv.specs.Hashes.{hashes_of}

-- a node that a chosen climb passes: at level 0 the client, above it what can be worked out
unfoldable pub passed_at : Bool → Option Asked
passed_at base = pick base (Some Client) None

-- what a level of `width` places and `count` nodes asks for at an offset, by the marks
unfoldable pub form_at : List ℕ → Bool → ℕ → ℕ → ℕ → Option Asked
form_at marks base width count o =
    pick (marked marks (width + o)) (passed_at base)
    (pick (marked marks (width + sibling_position o)) (Some (pick (ltb o count) Plain Copy)) None)

-- a leaf at an offset: the number of its bytes, and its bytes
unfoldable pub leaf_bytes : ℕ → Asked → ℕ
leaf_bytes o Plain = length (varint_bytes o) + 33
leaf_bytes o Copy = length (varint_bytes o) + 1
leaf_bytes o Client = length (varint_bytes o) + 33

unfoldable pub leaf_text : List ℕ → List ℕ → Bool → ℕ → ℕ → Asked → List ℕ
leaf_text list heap base width o Plain = varint_bytes o ++ (0 ∷ node_in list heap base width o)
leaf_text list heap base width o Copy = varint_bytes o ++ (1 ∷ [])
leaf_text list heap base width o Client = varint_bytes o ++ (2 ∷ node_in list heap base width o)

-- the leaf, if there is one, at an offset: its number, the number of its bytes, and its bytes
unfoldable pub leaf_count : Option Asked → ℕ
leaf_count None = 0
leaf_count (Some a) = 1

unfoldable pub bytes_at : ℕ → Option Asked → ℕ
bytes_at o None = 0
bytes_at o (Some a) = leaf_bytes o a

unfoldable pub text_at : List ℕ → List ℕ → Bool → ℕ → ℕ → Option Asked → List ℕ
text_at list heap base width o None = []
text_at list heap base width o (Some a) = leaf_text list heap base width o a

-- over n offsets from o on
unfoldable pub sum_from : (ℕ → ℕ) → ℕ → ℕ → ℕ
sum_from g o zero = 0
sum_from g o (suc n) = g o + sum_from g (o + 1) n

unfoldable pub text_from : (ℕ → List ℕ) → ℕ → ℕ → List ℕ
text_from g o zero = []
text_from g o (suc n) = g o ++ text_from g (o + 1) n

-- a level, as the code counts and writes it
unfoldable pub level_leaves : List ℕ → Bool → ℕ → ℕ → ℕ
level_leaves marks base width count = sum_from (λ o. leaf_count (form_at marks base width count o)) 0 width

unfoldable pub level_size : List ℕ → Bool → ℕ → ℕ → ℕ
level_size marks base width count = sum_from (λ o. bytes_at o (form_at marks base width count o)) 0 width

unfoldable pub leaves_text : List ℕ → List ℕ → List ℕ → Bool → ℕ → ℕ → List ℕ
leaves_text list heap marks base width count = text_from (λ o. text_at list heap base width o (form_at marks base width count o)) 0 width

unfoldable pub level_text : List ℕ → List ℕ → List ℕ → Bool → ℕ → ℕ → List ℕ
level_text list heap marks base width count = varint_bytes (level_leaves marks base width count) ++ leaves_text list heap marks base width count

-- what the code has made before it writes
pub record Ready (list heap marks chosen : List ℕ) (h n : ℕ) : Type 0 where
  pub below : Below (hashes_of list) chosen
  pub nodes : Heap list heap h h
  pub climbs : Marked marks chosen h
  pub count : n ≡ length list / 32
