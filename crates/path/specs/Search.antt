-- What is asked of levels that were read: the leaf at an offset, and the least offset that carries an id. Code reads them
-- again without their tests, by the unchecked layouts; `SearchLaws` says that this finds the same leaves.
use Rattle.std.specs.Prelude.{Option, Some, None}
use Rattle.std.specs.Prelude.{List, [], ◌∷◌, Bool, false, ℕ, zero, suc, min, eqb}
use Rattle.format.specs.declared.level.Layout.{Layout}
use Rattle.format.specs.declared.leaf.Leaf.{Leaf}
use Rattle.format.specs.declared.leaf.Kind.{Kind}
use Rattle.format.specs.declared.leaf.Kind.TheVariants.{Plain, Copy, Client}
use Rattle.format.specs.Parse.{pick, otherwise}
use Rattle.format.specs.Field.{varint}
use Rattle.format.specs.Bytes.{same, hash_at}
use Rattle.path.specs.Unchecked.{unchecked_leaf}

-- the leaf at the offset j
unfoldable pub lookup : ℕ → List Leaf → Option Kind
lookup j [] = None
lookup j (leaf ∷ l) = pick (eqb leaf.offset j) (Some leaf.kind) (lookup j l)

-- the id stands in the leaf's 32 bytes, any flags
unfoldable pub carries : List ℕ → List ℕ → Kind → Bool
carries s id (Plain p) = same (hash_at s p) id
carries s id Copy = false
carries s id (Client p) = same (hash_at s p) id

abbrev pub leaf_start : List ℕ → List ℕ → Leaf → Option ℕ
leaf_start s id leaf = pick (carries s id leaf.kind) (Some leaf.offset) None

unfoldable pub lesser : Option ℕ → Option ℕ → Option ℕ
lesser None b = b
lesser (Some x) None = Some x
lesser (Some x) (Some y) = Some (min x y)

-- of several leaves that carry the id, the least offset
unfoldable pub least_offset : List ℕ → List ℕ → List Leaf → Option ℕ
least_offset s id [] = None
least_offset s id (leaf ∷ l) = lesser (leaf_start s id leaf) (least_offset s id l)

-- the leaf at the offset j among n leaves from a place, as far as they can be read
unfoldable pub seek : Layout → ℕ → ℕ → List ℕ → ℕ → Option Kind
seek layout j zero s at = None
seek layout j (suc n) s at =
    otherwise (unchecked_leaf layout s at) None (λ leaf next. pick (eqb leaf.offset j) (Some leaf.kind) (seek layout j n s next))

-- the leaf at the offset j of the level at a place
unfoldable pub leaf_of_level : Layout → List ℕ → ℕ → ℕ → Option Kind
leaf_of_level layout s at j = otherwise (varint s at) None (λ n next. seek layout j n s next)

-- the least offset that carries the id among n leaves from a place, and `best`
unfoldable pub seek_id : Layout → List ℕ → ℕ → List ℕ → ℕ → Option ℕ → Option ℕ
seek_id layout id zero s at best = best
seek_id layout id (suc n) s at best =
    otherwise (unchecked_leaf layout s at) None (λ leaf next. seek_id layout id n s next (lesser best (leaf_start s id leaf)))

-- the least offset that carries the id in the level at a place
unfoldable pub start_of_level : Layout → List ℕ → ℕ → List ℕ → Option ℕ
start_of_level layout s at id = otherwise (varint s at) None (λ n next. seek_id layout id n s next None)
