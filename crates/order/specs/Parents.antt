-- The parents of a set's transactions, as the code finds them.
use Rattle.std.specs.Prelude.{ℕ, zero, suc, ◌+◌, ◌*◌, ◌/◌, ◌%◌, List, [], ◌∷◌, ltb, length, get_or, set}
use Rattle.format.specs.Parse.{pick, otherwise, each}
use Rattle.format.specs.Bytes.{hash_at}
use Rattle.format.specs.Transaction.{input_field, tx_field, tx_head_of}
use Rattle.order.specs.Bits.{with_bit}
use Rattle.spv.specs.Hashes.{index_of}

-- the parents' ids of n inputs from a place, as far as they can be read
unfoldable pub parents_from : List ℕ → ℕ → ℕ → List (List ℕ)
parents_from s zero at = []
parents_from s (suc n) at = otherwise (input_field s at) [] (λ input next. hash_at s input.parent ∷ parents_from s n next)

-- the matrix with j as a parent of i
unfoldable pub with_parent : List ℕ → ℕ → ℕ → List ℕ
with_parent m i j = set m (32 * i + j / 8) (with_bit (j % 8) (get_or m (32 * i + j / 8) 0))

-- the same, if j is one of n transactions
unfoldable pub put_parent : ℕ → List ℕ → ℕ → ℕ → List ℕ
put_parent n m i j = pick (ltb j n) (with_parent m i j) m

-- the matrix with x, if it is among the ids, as a parent of i
unfoldable pub named : List (List ℕ) → ℕ → List ℕ → List ℕ → List ℕ
named ids i m x = put_parent (length ids) m i (index_of x ids)

unfoldable pub all_named : List (List ℕ) → ℕ → List ℕ → List (List ℕ) → List ℕ
all_named ids i m [] = m
all_named ids i m (x ∷ l) = all_named ids i (named ids i m x) l

-- the matrix with the parents of n transactions from a place, of which the first is the i-th
unfoldable pub filled_from : List ℕ → List (List ℕ) → ℕ → ℕ → ℕ → List ℕ → List ℕ
filled_from s ids zero i at m = m
filled_from s ids (suc n) i at m =
    otherwise (each tx_head_of (tx_field s at)) m (λ t next. filled_from s ids n (suc i) next (all_named ids i m (parents_from s t.inputs.count t.inputs.at.at)))
