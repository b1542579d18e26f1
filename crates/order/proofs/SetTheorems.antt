-- What Item 12 promises of a set.
use Prim.Native.Nat.{ℕ, ◌<◌}
use mathlib.Core.Path.{◌≡◌}
use mathlib.Core.Bool.{true}
use mathlib.Core.List.{List}
use mathlib.Core.Logic.{◌↔◌}
use Rattle.std.specs.Prelude.{None, Some}
use lib.ListN.{length, get_or}
use Rattle.spv.specs.Hashes.{Among}
use Rattle.spv.proofs.HashesLaws.{among-told, told-among}
use Rattle.order.specs.Order.{NotAfter}
use Rattle.order.proofs.OrderTheorems.{Passes, check-passes, passes-check, ours-passes, ours-least, none_passes, passes_none}
use Rattle.order.specs.Set.{Handed, id_at, parents_at, parent_in, InOrder, passes, ours_of}

module _ (set : List Handed) where
  in_order : (order : List ℕ) → Passes (length set) (parent_in set) order → InOrder set order
  unfolding parent_in
  in_order order p = record {
    numbers = p.numbers;
    every = p.every;
    once = p.once;
    after = λ j k a b w. p.after j k a b (told-among (id_at set (get_or order j 0)) (parents_at set (get_or order k 0)) w);
  }

  ordered : (order : List ℕ) → InOrder set order → Passes (length set) (parent_in set) order
  unfolding parent_in
  ordered order p = record {
    numbers = p.numbers;
    every = p.every;
    once = p.once;
    after = λ j k a b e. p.after j k a b (among-told (id_at set (get_or order j 0)) (parents_at set (get_or order k 0)) e);
  }

  -- "a small checker passes either exactly when it holds every transaction once, after its parents in the set"
  pub passes-exactly : (order : List ℕ) → (passes set order ≡ true) ↔ InOrder set order
  unfolding passes
  passes-exactly order = (λ e. in_order order (check-passes (length set) (parent_in set) order e), λ p. passes-check (length set) (parent_in set) order (ordered order p))

  pub ours_in_order : (l : List ℕ) → ours_of set ≡ Some l → InOrder set l
  unfolding ours_of
  ours_in_order l e = in_order l (ours-passes (length set) (parent_in set) l e)

  -- ours is the least in dictionary order of all that pass
  pub ours-first : (l order : List ℕ) → ours_of set ≡ Some l → InOrder set order → NotAfter l order
  unfolding ours_of
  ours-first l order e p = ours-least (length set) (parent_in set) l order e (ordered order p)

  -- "29 exactly when no such order exists"
  pub none-exactly : (ours_of set ≡ None) ↔ ((order : List ℕ) → InOrder set order → ⊥)
  unfolding ours_of
  none-exactly = (
    λ e order p. none_passes (length set) (parent_in set) e order (ordered order p),
    λ f. passes_none (length set) (parent_in set) (λ order p. f order (in_order order p)),
  )

  -- "a BEEF needs parents first": a parent of the k-th that is in the set is one of the k before it
  pub parents-first : (order : List ℕ) → InOrder set order → (k i : ℕ) → k < length order → i < length set → Among (id_at set i) (parents_at set (get_or order k 0))
      → (j : ℕ) × (j < k) × (get_or order j 0 ≡ i)
  parents-first order p k i h low w = go (p.every i low)
    where
      go : (j : ℕ) × (j < length order) × (get_or order j 0 ≡ i) → (j : ℕ) × (j < k) × (get_or order j 0 ≡ i)
      go (j, l, e) = (j, p.after j k l h (rw e w), e)
