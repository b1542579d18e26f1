-- Hash work, counted (02, Item 11): SHA-256 block compressions of judging a bundle, beside the verdict of `judge_beef`.
use Rattle.std.specs.Prelude.{Option, None, ℕ, ◌+◌, ◌-◌, ◌*◌, ◌/◌, ◌%◌, List, [], ◌∷◌, ◌++◌, leb, eqb, length, get_or, Ok, Err, Some}
use Rattle.format.specs.Parse.{Parse, ok, fault, pick}
use Rattle.format.specs.Bump.{Bump}
use Rattle.format.specs.Beef.{BeefEntry, Beef, beef_whole}
use Rattle.format.specs.Refusals.{MAX_INPUT}
use Rattle.path.specs.Search.{least_offset}
use Rattle.spv.specs.Siblings.{written_by, find_in}
use Rattle.spv.specs.Hashes.{among}
use Rattle.climbs.specs.Count.{start_cost}
use Rattle.bundle.specs.Amounts.{Payment, payment_of, ids_of}
use Rattle.bundle.specs.Bundle.{nth_bump, entry_id, ruling, Ruling}

-- "for a transaction of n bytes, (n + 72) / 64 rounded down, plus 1"
unfoldable pub id_work : ℕ → ℕ
id_work n = (n + 72) / 64 + 1

-- "for each join, 3"
abbrev pub JOIN : ℕ
JOIN = 3

unfoldable pub sum_of : {A : Type 0} → (A → ℕ) → List A → ℕ
sum_of f [] = 0
sum_of f (x ∷ l) = f x + sum_of f l

-- "Ids of all transactions are worked out before judging, each once"
unfoldable pub ids_work : List BeefEntry → ℕ
ids_work = sum_of (λ e. id_work (e.transaction.end - e.transaction.start))

-- the joins of an id's climb in a BUMP of the bundle; one that is not listed (13) makes none
unfoldable pub bump_cost : List ℕ → Bump → List ℕ → ℕ
bump_cost s b id = start_cost (written_by s (find_in b.levels)) b.height id (least_offset s id (get_or b.levels 0 []))

module _ (s : List ℕ) (bumps : List Bump) where
  unfoldable pub anchor_cost : List ℕ → Option ℕ → ℕ
  anchor_cost id (Some n) = bump_cost s (nth_bump bumps n) id
  anchor_cost id None = 0

  -- an id equal to an earlier one (19) makes no climb
  unfoldable pub ruling_cost : List Payment → BeefEntry → ℕ
  ruling_cost earlier e = pick (among (entry_id s e) (ids_of earlier)) 0 (anchor_cost (entry_id s e) e.anchor)

-- the climbs up to the first refusal, as `judge_from` makes them
module _ {A B : Type 0} (known : A → B) (stands : List B → A → Ruling) (cost : List B → A → ℕ) where
  unfoldable pub cost_from : List B → List A → ℕ
  cost_from earlier [] = 0
  cost_from earlier (x ∷ l) = cost earlier x + elim (stands earlier x) [ Err why ↦ 0 | Ok t ↦ cost_from (earlier ++ (known x ∷ [])) l ]

unfoldable pub entries_work : List ℕ → List ℕ → ℕ → Beef → ℕ
entries_work s roots fee b = ids_work b.entries + JOIN * cost_from (payment_of s) (ruling s roots fee b.bumps) (ruling_cost s b.bumps) [] b.entries

-- "1, 21 and a refusal in reading report 0"
unfoldable pub read_work : List ℕ → List ℕ → ℕ → Parse Beef → ℕ
read_work s roots fee (fault number place) = 0
read_work s roots fee (ok b next) = entries_work s roots fee b

unfoldable pub judge_work : List ℕ → List ℕ → ℕ → ℕ → ℕ
judge_work s roots fee room = pick (leb (length s) MAX_INPUT) (pick (eqb (length roots % 32) 0) (read_work s roots fee (beef_whole room s)) 0) 0
