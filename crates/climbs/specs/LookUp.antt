-- What is written at a layer and position: of one path, or of two paths of one block between them.
use Rattle.std.specs.Prelude.{ℕ, List, length, nat_lt}
use Rattle.format.specs.Parse.{pick}
use Rattle.format.specs.declared.level.Layout.{Layout}
use Rattle.spv.specs.Climb.{Sibling, value, copied, absent, Siblings}
use Rattle.spv.specs.Siblings.{written_by, find_at}

-- a hash over a copy, either over nothing
unfoldable pub prefer : Sibling → Sibling → Sibling
prefer (value h) v = value h
prefer copied (value i) = value i
prefer copied copied = copied
prefer copied absent = copied
prefer absent v = v

-- by the places of their levels; where the second has no place for the layer, the first alone
unfoldable pub looked_up : List ℕ → List ℕ → List ℕ → List ℕ → Siblings
looked_up s x t y k q = prefer (written_by s (find_at Layout.Bump s x) k q) (pick (nat_lt k (length y)) (written_by t (find_at Layout.Bump t y) k q) absent)
