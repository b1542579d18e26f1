-- Which nodes the climbs of chosen positions pass, as marks: the node at position j of a level of `width` places has the index width + j.
use Rattle.std.specs.Prelude.{◌≡◌, Bool, ◌||◌, List, ℕ, ◌+◌, ◌-◌, ◌/◌, ◌^◌, ◌<◌, get_or, eqb}
use Rattle.block.specs.BlockBump.{under}

-- the node with an index is marked
unfoldable pub marked : List ℕ → ℕ → Bool
marked marks p = eqb (get_or marks p 0) 1

-- the marks below the root are those of the chosen positions, in a tree of height h
abbrev pub Marked : List ℕ → List ℕ → ℕ → Type 0
Marked marks chosen h = (k j : ℕ) → k < h → j < 2 ^ (h - k) → marked marks (2 ^ (h - k) + j) ≡ under chosen k j

-- the climb from i is marked beside what was marked
abbrev pub Marks : ℕ → ℕ → List ℕ → List ℕ → Type 0
Marks h i marks₀ marks = (k j : ℕ) → k < h → j < 2 ^ (h - k) → marked marks (2 ^ (h - k) + j) ≡ (eqb (i / 2 ^ k) j || marked marks₀ (2 ^ (h - k) + j))
