-- What the code adds up of hash work: the ids four at a time, and the joins that were kept of each climb.
use Rattle.std.specs.Prelude.{ℕ, ◌+◌, ◌-◌, ◌%◌, List, ltb, eqb, get_or, Ok, Err}
use Rattle.format.specs.Parse.{pick}
use Rattle.format.specs.Refusals.{MAX_INPUT, MAX_BUMPS, SAME_TX, U32}
use Rattle.spv.specs.declared.rejection.Rejection.{Rejection}
use Rattle.bundle.specs.Windows.{sum_to}
use Rattle.bundle.specs.declared.ids.NamedSpan.{NamedSpan}
use Rattle.bundle.specs.declared.ids.Spans.{Spans}
use Rattle.bundle.specs.Ahead.{span_at}
use Rattle.bundle.specs.Anchored.{joins_at}
use Rattle.bundle.specs.Work.{id_work}
use Rattle.bundle.specs.Bundle.{Verdict}

-- the id of the transaction at a place; none where none can be read
unfoldable pub span_work : NamedSpan → ℕ
span_work x = pick (ltb x.end x.start) 0 (pick (ltb MAX_INPUT (x.end - x.start)) 0 (id_work (x.end - x.start)))

-- of the k-th, if it is one of n
unfoldable pub work_below : ℕ → ℕ → NamedSpan → ℕ
work_below n k x = pick (ltb k n) (span_work x) 0

-- of four from the i-th on
unfoldable pub group_work : ℕ → ℕ → Spans → ℕ
group_work n i x = work_below n i x.a + work_below n (i + 1) x.b + work_below n (i + 2) x.c + work_below n (i + 3) x.d

-- of n transactions from a place on
unfoldable pub ids_made : ℕ → List ℕ → ℕ → ℕ → ℕ
ids_made count s at n = sum_to (λ k. span_work (span_at count s at k)) n

-- the joins that were kept of the k-th transaction's climb; none if it names no BUMP
unfoldable pub kept_joins : List ℕ → List ℕ → ℕ → ℕ
kept_joins anchors ends k = pick (ltb (get_or anchors k 0) MAX_BUMPS) (joins_at ends k % U32) 0

-- how many climbs of n transactions were made before a refusal, and before a verdict
unfoldable pub climbs_before : Rejection → ℕ → ℕ
climbs_before why n = pick (ltb why.carried n) (pick (eqb why.number SAME_TX) why.carried (why.carried + 1)) n

unfoldable pub climbs_made : Verdict → ℕ → ℕ
climbs_made (Ok m) n = n
climbs_made (Err why) n = climbs_before why n
