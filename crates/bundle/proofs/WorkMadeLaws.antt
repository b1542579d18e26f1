-- Laws of what the code adds up of hash work.
use mathlib.Core.Path.{sym}
use mathlib.Core.Path.{subst}
use Prim.Native.Nat.{ℕ, zero, suc, ◌+◌, ◌-◌, ◌*◌, ◌%◌, ◌≤◌, ◌<◌}
use mathlib.Core.Path.{◌≡◌, refl, ap, ◌∙◌}
use mathlib.Core.Bool.{Bool, true, false}
use mathlib.Core.List.{List}
use native.Mathlib.Omega.{arith}
use native.Mathlib.Numerals.{add-one}
use lib.Dec.{ltb, leb}
use lib.ListN.{get_or}
use borrow.Author.Tests.{lt-ltb, le-ltb, eq-eqb, ne_eqb, ltb-false, leb-true, leb-false}
use Rattle.format.specs.Parse.{pick}
use Rattle.format.specs.Refusals.{MAX_INPUT, MAX_BUMPS, SAME_TX, U32}
use Rattle.spv.specs.declared.rejection.Rejection.{Rejection}
use Rattle.lanes.specs.Lanes as L
use Rattle.bundle.specs.Windows.{sum_to}
use Rattle.bundle.specs.declared.ids.NamedSpan.{NamedSpan}
use Rattle.bundle.specs.declared.ids.Spans.{Spans}
use Rattle.bundle.specs.Ahead.{span, span_at, ReachesFour, Onward}
use Rattle.bundle.specs.Anchored.{joins_at}
use Rattle.bundle.specs.Work.{id_work}
use Rattle.bundle.specs.WorkMade.{span_work, work_below, group_work, ids_made, kept_joins, climbs_before, climbs_made}
use Rattle.std.specs.Prelude.{Ok, Err, Option}
use Rattle.format.specs.declared.field.Cursor.{Cursor}
use Rattle.bundle.specs.Bundle.{Verdict}

-- ---- one id

pub id-low : (n : ℕ) → n ≤ MAX_INPUT → id_work n ≤ 262146
unfolding id_work
id-low n h = omega arith

module _ (x : NamedSpan) where
  pub span-before : x.end < x.start → span_work x ≡ 0
  unfolding span_work
  span-before h = rw (lt-ltb x.end x.start h)

  module _ (forward : x.start ≤ x.end) where
    pub span-past : MAX_INPUT < x.end - x.start → span_work x ≡ 0
    unfolding span_work
    span-past h = rw (le-ltb x.end x.start forward, lt-ltb MAX_INPUT (x.end - x.start) h)

    pub span-counted : x.end - x.start ≤ MAX_INPUT → span_work x ≡ id_work (x.end - x.start)
    unfolding span_work
    span-counted h = rw (le-ltb x.end x.start forward, le-ltb MAX_INPUT (x.end - x.start) h)

  pub work_low : span_work x ≤ 262146
  unfolding span_work
  work_low = go (ltb x.end x.start) (ltb MAX_INPUT (x.end - x.start)) refl
    where
      go : (t u : Bool) → ltb MAX_INPUT (x.end - x.start) ≡ u → pick t 0 (pick u 0 (id_work (x.end - x.start))) ≤ 262146
      go true u q = omega arith
      go false true q = omega arith
      go false false q = id-low (x.end - x.start) (ltb-false MAX_INPUT (x.end - x.start) q)

module _ (n k : ℕ) (x : NamedSpan) where
  pub below-past : n ≤ k → work_below n k x ≡ 0
  unfolding work_below
  below-past h = rw (le-ltb k n h)

  pub below-counted : k < n → work_below n k x ≡ span_work x
  unfolding work_below
  below-counted h = rw (lt-ltb k n h)

-- ---- sums

pub sum_below : (f g : ℕ → ℕ) (n : ℕ) → ((k : ℕ) → k < n → f k ≡ g k) → sum_to f n ≡ sum_to g n
unfolding sum_to
sum_below f g zero e = refl
sum_below f g (suc n) e = let rest = sum_below f g n (λ k h. e k (omega arith)) in let last = e n (omega arith) in omega arith

pub sum_low : (f : ℕ → ℕ) (m n : ℕ) → ((k : ℕ) → f k ≤ m) → sum_to f n ≤ m * n
unfolding sum_to
sum_low f m zero h = omega arith
sum_low f m (suc n) h = let rest = sum_low f m n h in let last = h n in omega arith

pub sum_one : (f : ℕ → ℕ) (n : ℕ) → sum_to f (n + 1) ≡ sum_to f n + f n
unfolding sum_to
sum_one f n = ap (sum_to f) (add-one n)

sum-four : (f : ℕ → ℕ) (i work g a b c d : ℕ) → work ≡ sum_to f i → g ≡ a + b + c + d → a ≡ f i → b ≡ f (i + 1) → c ≡ f (i + 2) → d ≡ f (i + 3) → work + g ≡ sum_to f (i + 4)
sum-four f i work g a b c d e h ea eb ec ed =
    let one = sum_one f i in
    let two : sum_to f (i + 2) ≡ sum_to f (i + 1) + f (i + 1) = ap (sum_to f) (let z : i + 2 ≡ i + 1 + 1 = omega arith in z) ∙ sum_one f (i + 1) in
    let three : sum_to f (i + 3) ≡ sum_to f (i + 2) + f (i + 2) = ap (sum_to f) (let z : i + 3 ≡ i + 2 + 1 = omega arith in z) ∙ sum_one f (i + 2) in
    let four : sum_to f (i + 4) ≡ sum_to f (i + 3) + f (i + 3) = ap (sum_to f) (let z : i + 4 ≡ i + 3 + 1 = omega arith in z) ∙ sum_one f (i + 3) in
    omega arith

-- what is added past n is none
below_all : (f : ℕ → ℕ) (n i : ℕ) → n ≤ i → sum_to (λ k. pick (ltb k n) (f k) 0) i ≡ sum_to f n
unfolding sum_to
below_all f zero zero h = refl
below_all f (suc n) zero h = absurd (omega arith)
below_all f n (suc i) h = go (leb n i) refl (below_all f n i)
  where
    at : n ≡ suc i → sum_to (λ k. pick (ltb k n) (f k) 0) (suc i) ≡ sum_to f n
    at e = subst (λ (m : ℕ). sum_to (λ k. pick (ltb k m) (f k) 0) (suc i) ≡ sum_to f m) (sym e) (sum_below (λ k. pick (ltb k (suc i)) (f k) 0) f (suc i) (λ k l. rw (lt-ltb k (suc i) l)))

    go : (t : Bool) → leb n i ≡ t → (n ≤ i → sum_to (λ k. pick (ltb k n) (f k) 0) i ≡ sum_to f n) → sum_to (λ k. pick (ltb k n) (f k) 0) i + pick (ltb i n) (f i) 0 ≡ sum_to f n
    go true q rest = let low = leb-true n i q in rw (le-ltb i n low) (let r = rest low in omega arith)
    go false q rest = at (let past = leb-false n i q in omega arith)

-- ---- ids four at a time

module _ (count : ℕ) (s : List ℕ) (at n i : ℕ) where
  pub made_four : (from next : Option Cursor) (x : Spans) {work g : ℕ} → work ≡ sum_to (λ k. work_below n k (span_at count s at k)) i → g ≡ group_work n i x → Onward count s at i from → ReachesFour count s from x next
      → work + g ≡ sum_to (λ k. work_below n k (span_at count s at k)) (i + 4)
  unfolding group_work Onward span L.in_lane
  made_four from next x {work} {g} e h o r =
      let is : (l : ℕ) → l < 4 → span l x ≡ span_at count s at (i + l) = λ l b. r.0 l b ∙ o l in
      let n0 : i + 0 ≡ i = omega arith in
      sum-four (λ k. work_below n k (span_at count s at k)) i work g (work_below n i x.a) (work_below n (i + 1) x.b) (work_below n (i + 2) x.c) (work_below n (i + 3) x.d) e h
      (ap (work_below n i) (is 0 (omega arith) ∙ ap (span_at count s at) n0))
      (ap (work_below n (i + 1)) (is 1 (omega arith)))
      (ap (work_below n (i + 2)) (is 2 (omega arith)))
      (ap (work_below n (i + 3)) (is 3 (omega arith)))

  pub made_all : n ≤ i → sum_to (λ k. work_below n k (span_at count s at k)) i ≡ ids_made count s at n
  unfolding work_below ids_made
  made_all h = below_all (λ k. span_work (span_at count s at k)) n i h

pub made_low : (count : ℕ) (s : List ℕ) (at n : ℕ) {work : ℕ} → work ≡ ids_made count s at n → n ≤ 256 → work ≤ 67109376
unfolding ids_made
made_low count s at n e few = let low = sum_low (λ k. span_work (span_at count s at k)) 262146 n (λ k. work_low (span_at count s at k)) in omega arith

-- ---- joins

module _ (anchors ends : List ℕ) (k : ℕ) where
  pub kept-none : MAX_BUMPS ≤ get_or anchors k 0 → kept_joins anchors ends k ≡ 0
  unfolding kept_joins
  kept-none h = rw (le-ltb (get_or anchors k 0) MAX_BUMPS h)

  pub kept-some : get_or anchors k 0 < MAX_BUMPS → kept_joins anchors ends k ≡ get_or ends (4 * k + 3) 0 % U32
  unfolding kept_joins joins_at
  kept-some h = rw (lt-ltb (get_or anchors k 0) MAX_BUMPS h)

module _ (why : Rejection) (n : ℕ) where
  pub before-past : n ≤ why.carried → climbs_before why n ≡ n
  unfolding climbs_before
  before-past h = rw (le-ltb why.carried n h)

  module _ (low : why.carried < n) where
    pub before-again : why.number ≡ SAME_TX → climbs_before why n ≡ why.carried
    unfolding climbs_before
    before-again e = rw (lt-ltb why.carried n low, eq-eqb why.number SAME_TX e)

    pub before_own : (why.number ≡ SAME_TX → ⊥) → climbs_before why n ≡ why.carried + 1
    unfolding climbs_before
    before_own e = rw (lt-ltb why.carried n low, ne_eqb why.number SAME_TX e)

module _ {v : Verdict} (n : ℕ) where
  pub made_accepted : {m : ℕ} → v ≡ Ok m → climbs_made v n ≡ n
  unfolding climbs_made
  made_accepted e = rw e

  pub made_refused : {why : Rejection} → v ≡ Err why → climbs_made v n ≡ climbs_before why n
  unfolding climbs_made
  made_refused e = rw e

pub total-is : (ids : ℕ) (f : ℕ → ℕ) {j m k : ℕ} → j ≡ sum_to f m → m ≡ k → ids + 3 * j ≡ ids + 3 * sum_to f k
total-is ids f e h = let z = ap (sum_to f) h in omega arith
