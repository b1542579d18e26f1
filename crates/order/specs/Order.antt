-- The checker of an order and our own order, over numbers and their parents (02, Item 12).
use Rattle.std.specs.Prelude.{ℕ, zero, suc, ◌<◌, ◌≡◌, Bool, true, not, ◌&&◌, ◌||◌, List, [], ◌∷◌, ◌++◌, ◌⊎◌, eqb, ltb, length}
use Rattle.std.specs.Prelude.{Option, None, Some}
use Rattle.format.specs.Parse.{pick}
use Rattle.order.specs.Listed.{listed}

-- of the first m handed in, those that are parents of i are placed
unfoldable pub rested : (ℕ → ℕ → Bool) → ℕ → List ℕ → ℕ → Bool
rested depends zero placed i = true
rested depends (suc m) placed i = rested depends m placed i && (not (depends i m) || listed m placed)

-- n transactions, of which i has j as a parent where `depends i j`
module _ (n : ℕ) (depends : ℕ → ℕ → Bool) where
  -- "of those not yet placed, whose parents in the set are placed"
  unfoldable pub ready : List ℕ → ℕ → Bool
  ready placed i = ltb i n && (not (listed i placed) && rested depends n placed i)

  -- the checker
  unfoldable pub check_from : List ℕ → List ℕ → Bool
  check_from placed [] = eqb (length placed) n
  check_from placed (i ∷ l) = ready placed i && check_from (placed ++ (i ∷ [])) l

  unfoldable pub check : List ℕ → Bool
  check order = check_from [] order

  -- the first that is ready, of k from i on
  unfoldable pub first_from : List ℕ → ℕ → ℕ → Option ℕ
  first_from placed zero i = None
  first_from placed (suc k) i = pick (ready placed i) (Some i) (first_from placed k (suc i))

  unfoldable pub first : List ℕ → Option ℕ
  first placed = first_from placed n 0

-- a number in front
unfoldable pub ahead : ℕ → Option (List ℕ) → Option (List ℕ)
ahead i None = None
ahead i (Some l) = Some (i ∷ l)

module _ (n : ℕ) (depends : ℕ → ℕ → Bool) where
  -- "Ours each time takes the first handed in, of those not yet placed, whose parents in the set are placed", k more times
  unfoldable pub placing : ℕ → List ℕ → Option (List ℕ)
  placing zero placed = Some []
  placing (suc k) placed = elim (first n depends placed) [ None ↦ None | Some i ↦ ahead i (placing k (placed ++ (i ∷ []))) ]

  unfoldable pub ours : Option (List ℕ)
  ours = placing n []

-- dictionary order
abbrev pub NotAfter : List ℕ → List ℕ → Type 0
NotAfter [] m = Unit {0}
NotAfter (x ∷ l) [] = ⊥
NotAfter (x ∷ l) (y ∷ m) = (x < y) ⊎ ((x ≡ y) × NotAfter l m)
