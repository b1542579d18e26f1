-- Examples of siblings that are worked out (02, Item 3), for any bytes s and any places p, r, t of 32 bytes in them, as one table under one statement.
use mathlib.Core.Path.{◌≡◌, refl}
use mathlib.Core.List.{List, [], ◌∷◌, ◌++◌, map}
use Prim.Native.Nat.{ℕ}
use Rattle.hash.specs.Sha256.{sha256d}
use Rattle.format.specs.declared.leaf.Kind.{Kind}
use Rattle.format.specs.declared.leaf.Kind.TheVariants.{Plain, Copy}
use Rattle.format.specs.declared.leaf.Leaf.{Leaf}
use Rattle.path.specs.Search.{lookup}
use Rattle.spv.specs.Climb.{Sibling, value, copied, absent}
use Rattle.spv.specs.Values.{value_by, join_both, join_of, value_of, worked_out}
use Rattle.spv.specs.Siblings.{written, sibling, level_siblings}
use Rattle.format.specs.Bytes.{hash_at}

-- the sibling at a layer and position of levels
pub record Case : Type 0 where
  pub levels : List (List Leaf)
  pub layer : ℕ
  pub position : ℕ
  pub answer : Sibling

abbrev case : List (List Leaf) → ℕ → ℕ → Sibling → Case
case levels k q x = record { levels = levels; layer = k; position = q; answer = x }

abbrev leaf : ℕ → Kind → Leaf
leaf o kind = record { offset = o; kind = kind }

abbrev join : List ℕ → List ℕ → List ℕ
join a b = sha256d (a ++ b)

module _ (s : List ℕ) (p r t : ℕ) where
  unfoldable pub cases : List Case
  cases =
      -- the join of two leaves, and of a join and a leaf
      case ((leaf 1 (Plain r) ∷ leaf 0 (Plain p) ∷ []) ∷ []) 1 0 (value (join (hash_at s p) (hash_at s r))) ∷
      case ((leaf 0 (Plain p) ∷ leaf 1 (Plain r) ∷ []) ∷ (leaf 1 (Plain t) ∷ []) ∷ []) 2 0 (value (join (join (hash_at s p) (hash_at s r)) (hash_at s t))) ∷
      -- at level 0 only written leaves have a value, and a join needs both of its children
      case ((leaf 0 (Plain p) ∷ []) ∷ []) 0 1 absent ∷
      case ((leaf 0 (Plain p) ∷ []) ∷ []) 1 0 absent ∷
      -- on the climb a copy repeats the working hash, whatever is written on its left
      case ((leaf 0 (Plain p) ∷ leaf 1 Copy ∷ []) ∷ []) 0 1 copied ∷
      -- inside a value it has the value of the node on its left, written or itself worked out, and none if that has none
      case ((leaf 0 (Plain p) ∷ leaf 1 Copy ∷ []) ∷ []) 1 0 (value (join (hash_at s p) (hash_at s p))) ∷
      case ((leaf 0 (Plain p) ∷ leaf 1 (Plain r) ∷ []) ∷ (leaf 1 Copy ∷ []) ∷ []) 2 0 (value (join (join (hash_at s p) (hash_at s r)) (join (hash_at s p) (hash_at s r)))) ∷
      case ((leaf 1 Copy ∷ []) ∷ []) 1 0 absent ∷
      -- what is written, a hash or a copy, is not overruled by its children
      case ((leaf 0 (Plain p) ∷ leaf 1 (Plain r) ∷ []) ∷ (leaf 0 (Plain t) ∷ []) ∷ []) 1 0 (value (hash_at s t)) ∷
      case ((leaf 2 (Plain p) ∷ leaf 3 (Plain r) ∷ []) ∷ (leaf 0 (Plain t) ∷ leaf 1 Copy ∷ []) ∷ []) 2 0 (value (join (hash_at s t) (hash_at s t))) ∷
      -- equal children inside a value are not asked about
      case ((leaf 0 (Plain p) ∷ leaf 1 (Plain p) ∷ []) ∷ []) 1 0 (value (join (hash_at s p) (hash_at s p))) ∷
      []

  pub examples : map (λ c. level_siblings s c.levels c.layer c.position) cases ≡ map (λ c. c.answer) cases
  unfolding cases level_siblings worked_out value_of value_by join_of join_both sibling written lookup
  examples = refl
