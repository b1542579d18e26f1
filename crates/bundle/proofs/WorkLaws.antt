-- Theorems on hash work (02, Item 11): what an accepted bundle costs where all siblings are written, that a refused one costs no more, and that the count fits.
use Prim.Native.Nat.{ℕ, suc, ◌+◌, ◌*◌, ◌%◌, ◌≤◌, ◌<◌}
use native.Mathlib.Omega.{arith}
use mathlib.Core.Path.{◌≡◌, refl, sym, ap, ◌∙◌}
use mathlib.Core.Bool.{Bool, true, false}
use mathlib.Core.List.{List, [], ◌∷◌, ◌++◌}
use lib.Dec.{leb, eqb}
use lib.ListN.{length, get_or}
use Rattle.format.specs.Parse.{Parse, ok, fault, pick}
use Rattle.path.specs.Search.{least_offset}
use Rattle.format.specs.Bump.{Bump}
use Rattle.format.specs.Beef.{BeefEntry, Beef, beef_whole}
use Rattle.format.specs.Refusals.{TOO_LONG, BAD_ROOTS, SAME_TX, MAX_INPUT}
use Rattle.spv.specs.declared.rejection.Rejection.{Rejection}
use Rattle.spv.specs.Result.{Result, accepted, refused, carrying}
use Rattle.spv.specs.Climb.{Siblings, ascend, end_of}
use Rattle.spv.specs.Readings.{starting, levels_reading}
use Rattle.spv.specs.Siblings.{written_by, find_in, level_siblings}
use Rattle.spv.specs.Values.{worked_out}
use Rattle.spv.specs.Hashes.{among}
use Rattle.bundle.specs.declared.table.Record.{Record}
use Rattle.bundle.specs.declared.judge.Standing.{Standing}
use Rattle.bundle.specs.Bundle.{nth_bump, entry_id, proving, anchoring, ruling, entry_row, Judgement, ahead, judge_from, judge_entries, judge_read, judge_beef, judge_up_to, Ruling}
use Rattle.bundle.proofs.BundleLaws.{from_refuses, from_passes}
use Rattle.bundle.proofs.BundleTheorems.{empty_entry, trusted-told}
use Rattle.climbs.specs.Count.{start_cost}
use Rattle.climbs.proofs.CountEnds.{AllWritten}
use Rattle.climbs.proofs.CountLaws.{written_most, written_exact}
use Rattle.bundle.specs.Amounts.{Payment, payment_of, ids_of}
use Rattle.bundle.specs.Work.{JOIN, sum_of, ids_work, bump_cost, anchor_cost, ruling_cost, cost_from, entries_work, read_work, judge_work}
use Rattle.spv.specs.Prove.{Proof, settle, proof_of, prove, prove_by, hits, any}
use Rattle.std.specs.Prelude.{Ok, Err, Option, Some, None}

-- ---- all siblings written

-- the layers of an anchored transaction's climb
unfoldable pub layers_of : List Bump → BeefEntry → ℕ
layers_of bumps e = elim e.anchor [ Some n ↦ (nth_bump bumps n).height | None ↦ 0 ]

unfoldable pub StartWritten : Siblings → ℕ → Option ℕ → Type 0
StartWritten w h (Some i) = AllWritten w 0 h i
StartWritten w h None = Unit

unfoldable pub AnchorWritten : List ℕ → List Bump → List ℕ → Option ℕ → Type 0
AnchorWritten s bumps id (Some n) = StartWritten (written_by s (find_in (nth_bump bumps n).levels)) (nth_bump bumps n).height (least_offset s id (get_or (nth_bump bumps n).levels 0 []))
AnchorWritten s bumps id None = Unit

-- each sibling of each anchored transaction's climb is written
unfoldable pub SiblingsWritten : List ℕ → Beef → Type 0
SiblingsWritten s b = (k : ℕ) → k < length b.entries → AnchorWritten s b.bumps (entry_id s (get_or b.entries k empty_entry)) (get_or b.entries k empty_entry).anchor

-- "its transactions' sum plus 3 per layer of each anchored climb"
unfoldable pub written_work : Beef → ℕ
written_work b = ids_work b.entries + JOIN * sum_of (layers_of b.bumps) b.entries

-- ---- one climb

start_most : (w : Siblings) (h : ℕ) (id : List ℕ) (x : Option ℕ) → StartWritten w h x → start_cost w h id x ≤ h
unfolding StartWritten start_cost
start_most w h id (Some i) f = written_most w 0 h i id f
start_most w h id None f = omega arith

settle-told : (f : List ℕ → Proof) (r : Result (List ℕ)) (p : Proof) → settle any f r ≡ accepted p → (x : List ℕ) × (r ≡ accepted x)
unfolding settle hits
settle-told f (accepted x) p e = (x, refl)
settle-told f (refused why) p e = absurd (let z : ◌≡◌ {A = ℕ} 0 1 = cc in omega arith)

start_exact : (w : Siblings) (h : ℕ) (id : List ℕ) (x : Option ℕ) (p : Proof) → StartWritten w h x → prove (starting (worked_out w) h id x) ≡ accepted p → start_cost w h id x ≡ h
unfolding StartWritten start_cost starting prove_by
start_exact w h id (Some i) p f e =
    let y = settle-told (proof_of (worked_out w) h i id) (end_of id (ascend (worked_out w) 0 h i id)) p e in
    written_exact w 0 h i id y.0 f y.1
start_exact w h id None p f e = absurd (let z : ◌≡◌ {A = ℕ} 0 1 = cc in omega arith)

-- ---- one transaction

module _ (s roots : List ℕ) (fee : ℕ) (bumps : List Bump) (earlier : List Payment) (e : BeefEntry) where
  entry_most : AnchorWritten s bumps (entry_id s e) e.anchor → ruling_cost s bumps earlier e ≤ layers_of bumps e
  unfolding ruling_cost layers_of anchor_cost AnchorWritten bump_cost
  entry_most f = go (among (entry_id s e) (ids_of earlier)) e.anchor f
    where
      go : (t : Bool) (x : Option ℕ) → AnchorWritten s bumps (entry_id s e) x
          → pick t 0 (anchor_cost s bumps (entry_id s e) x) ≤ elim x [ Some n ↦ (nth_bump bumps n).height | None ↦ 0 ]
      go true x g = omega arith
      go false (Some n) g = start_most (written_by s (find_in (nth_bump bumps n).levels)) (nth_bump bumps n).height (entry_id s e) (least_offset s (entry_id s e) (get_or (nth_bump bumps n).levels 0 [])) g
      go false None g = omega arith

  entry_exact : (st : Standing) → AnchorWritten s bumps (entry_id s e) e.anchor → ruling s roots fee bumps earlier e ≡ Ok st → ruling_cost s bumps earlier e ≡ layers_of bumps e
  unfolding ruling anchoring ruling_cost layers_of anchor_cost AnchorWritten bump_cost proving levels_reading level_siblings
  entry_exact st f h = go (among (entry_id s e) (ids_of earlier)) e.anchor f h
    where
      go : (t : Bool) (x : Option ℕ) → AnchorWritten s bumps (entry_id s e) x → pick t (Err (carrying SAME_TX 0)) (anchoring s roots fee bumps earlier e x) ≡ Ok st
          → pick t 0 (anchor_cost s bumps (entry_id s e) x) ≡ elim x [ Some n ↦ (nth_bump bumps n).height | None ↦ 0 ]
      go true x g q = absurd (let z : ◌≡◌ {A = ℕ} 0 1 = cc in omega arith)
      go false (Some m) g q =
          let y = trusted-told roots m (proving s (nth_bump bumps m) (entry_id s e)) st q in
          start_exact (written_by s (find_in (nth_bump bumps m).levels)) (nth_bump bumps m).height (entry_id s e) (least_offset s (entry_id s e) (get_or (nth_bump bumps m).levels 0 [])) y.0 g y.1
      go false None g q = refl

-- ---- all transactions

pub sum_most : {A : Type 0} (f g : A → ℕ) (d : A) (l : List A) → ((k : ℕ) → k < length l → f (get_or l k d) ≤ g (get_or l k d)) → sum_of f l ≤ sum_of g l
unfolding sum_of
sum_most f g d [] h = omega arith
sum_most f g d (x ∷ l) h = omega (arith, h 0 (omega arith), sum_most f g d l (λ k b. h (suc k) (omega arith)))

pub sum_same : {A : Type 0} (n : ℕ) (l : List A) → sum_of (λ _. n) l ≡ n * length l
unfolding sum_of
sum_same n [] = omega arith
sum_same n (x ∷ l) = omega (arith, sum_same n l)

module _ {A B : Type 0} (known : A → B) (stands : List B → A → Ruling) (cost : List B → A → ℕ) (most : A → ℕ) (d : A) where
  pub from_most : (earlier : List B) (l : List A) → ((k : ℕ) → k < length l → (before : List B) → cost before (get_or l k d) ≤ most (get_or l k d)) → cost_from known stands cost earlier l ≤ sum_of most l
  unfolding cost_from sum_of
  from_most earlier [] f = omega arith
  from_most earlier (x ∷ l) f = go (stands earlier x) (f 0 (omega arith) earlier) (from_most (earlier ++ (known x ∷ [])) l (λ k h. f (suc k) (omega arith)))
    where
      go : (t : Ruling) → cost earlier x ≤ most x → cost_from known stands cost (earlier ++ (known x ∷ [])) l ≤ sum_of most l
          → cost earlier x + elim t [ Err why ↦ 0 | Ok t ↦ cost_from known stands cost (earlier ++ (known x ∷ [])) l ] ≤ most x + sum_of most l
      go (Err why) a b = omega arith
      go (Ok st) a b = omega arith

  module _ (row : A → Standing → Record) where
    ahead-accepted : (r : Record) (j : Judgement) {records : List Record} → ahead r j ≡ accepted records → (rest : List Record) × (j ≡ accepted rest)
    unfolding ahead
    ahead-accepted r (refused why) e = absurd (let x : ◌≡◌ {A = ℕ} 0 1 = cc in omega arith)
    ahead-accepted r (accepted l) e = (l, refl)

    from_exact : (earlier : List B) (l : List A) (records : List Record) → judge_from known stands row earlier l ≡ accepted records
        → ((k : ℕ) → k < length l → (before : List B) (st : Standing) → stands before (get_or l k d) ≡ Ok st → cost before (get_or l k d) ≡ most (get_or l k d)) → cost_from known stands cost earlier l ≡ sum_of most l
    unfolding cost_from sum_of
    from_exact earlier [] records e f = refl
    from_exact earlier (x ∷ l) records e f = go (stands earlier x) refl (f 0 (omega arith) earlier) (λ r h. from_exact (earlier ++ (known x ∷ [])) l r h (λ k b. f (suc k) (omega arith)))
      where
        go : (t : Ruling) → stands earlier x ≡ t → ((st : Standing) → stands earlier x ≡ Ok st → cost earlier x ≡ most x)
            → ((r : List Record) → judge_from known stands row (earlier ++ (known x ∷ [])) l ≡ accepted r → cost_from known stands cost (earlier ++ (known x ∷ [])) l ≡ sum_of most l)
            → cost earlier x + elim t [ Err why ↦ 0 | Ok t ↦ cost_from known stands cost (earlier ++ (known x ∷ [])) l ] ≡ most x + sum_of most l
        go (Err why) h a b = let q = from_refuses known stands row earlier x l why h in absurd (let z : ◌≡◌ {A = ℕ} 0 1 = cc in omega arith)
        go (Ok st) h a b =
            let y = ahead-accepted (row x st) (judge_from known stands row (earlier ++ (known x ∷ [])) l) (sym (from_passes known stands row earlier x l st h) ∙ e) in
            omega (arith, a st h, b y.0 y.1)

-- ---- turn by turn, as a loop makes them

module _ {A B : Type 0} (known : A → B) (stands : List B → A → Ruling) (cost : List B → A → ℕ) (earlier : List B) (x : A) (l : List A) where
  unfoldable after : Ruling → ℕ
  after t = cost earlier x + elim t [ Err why ↦ 0 | Ok t ↦ cost_from known stands cost (earlier ++ (known x ∷ [])) l ]

  pub cost_refuses : (why : Rejection) → stands earlier x ≡ Err why → cost_from known stands cost earlier (x ∷ l) ≡ cost earlier x
  unfolding cost_from after
  cost_refuses why e = ap after e ∙ omega arith

  pub cost_passes : (st : Standing) → stands earlier x ≡ Ok st → cost_from known stands cost earlier (x ∷ l) ≡ cost earlier x + cost_from known stands cost (earlier ++ (known x ∷ [])) l
  unfolding cost_from after
  cost_passes st e = ap after e

-- ---- the bundle

module _ (s roots : List ℕ) (fee : ℕ) (b : Beef) (all : SiblingsWritten s b) where
  -- "With all siblings written, an accepted bundle costs exactly its transactions' sum plus 3 per layer of each anchored climb"
  entries_exact : (records : List Record) → judge_entries s roots fee b ≡ accepted records → entries_work s roots fee b ≡ written_work b
  unfolding judge_entries entries_work written_work SiblingsWritten
  entries_exact records e =
      ap (λ (n : ℕ). ids_work b.entries + JOIN * n)
      (from_exact (payment_of s) (ruling s roots fee b.bumps) (ruling_cost s b.bumps) (layers_of b.bumps) empty_entry (entry_row s) [] b.entries records e
      (λ k h ids st p. entry_exact s roots fee b.bumps ids (get_or b.entries k empty_entry) st (all k h) p))

  -- "and a refusal in judging no more than that"
  entries_most : entries_work s roots fee b ≤ written_work b
  unfolding entries_work written_work SiblingsWritten
  entries_most =
      omega (
        arith,
        from_most (payment_of s) (ruling s roots fee b.bumps) (ruling_cost s b.bumps) (layers_of b.bumps) empty_entry [] b.entries
            (λ k h ids. entry_most s roots fee b.bumps ids (get_or b.entries k empty_entry) (all k h)),
      )

module _ (s roots : List ℕ) (fee room : ℕ) (b : Beef) (next : ℕ) (read : beef_whole room s ≡ ok b next) (all : SiblingsWritten s b) where
  pub accepted_work : (records : List Record) → judge_beef s roots fee room ≡ accepted records → judge_work s roots fee room ≡ written_work b
  unfolding judge_up_to judge_work judge_read read_work
  accepted_work records e = go (leb (length s) MAX_INPUT) (eqb (length roots % 32) 0) (beef_whole room s) read e
    where
      go : (t u : Bool) (p : Parse Beef) → p ≡ ok b next → pick t (pick u (judge_read s roots fee p) (refused (carrying BAD_ROOTS 0))) (refused (carrying TOO_LONG 0)) ≡ accepted records
          → pick t (pick u (read_work s roots fee p) 0) 0 ≡ written_work b
      go true true (ok c n) h q = let z : c ≡ b = cc in ap (entries_work s roots fee) z ∙ entries_exact s roots fee b all records (ap (judge_entries s roots fee) (sym z) ∙ q)
      go true true (fault number place) h q = absurd (let z : ◌≡◌ {A = ℕ} 0 1 = cc in omega arith)
      go true false p h q = absurd (let z : ◌≡◌ {A = ℕ} 0 1 = cc in omega arith)
      go false u p h q = absurd (let z : ◌≡◌ {A = ℕ} 0 1 = cc in omega arith)

  pub most_work : judge_work s roots fee room ≤ written_work b
  unfolding judge_work read_work
  most_work = go (leb (length s) MAX_INPUT) (eqb (length roots % 32) 0) (beef_whole room s) read
    where
      go : (t u : Bool) (p : Parse Beef) → p ≡ ok b next → pick t (pick u (read_work s roots fee p) 0) 0 ≤ written_work b
      go true true (ok c n) h = let z : c ≡ b = cc in omega (arith, ap (entries_work s roots fee) z, entries_most s roots fee b all)
      go true true (fault number place) h = absurd (let z : ◌≡◌ {A = ℕ} 0 1 = cc in omega arith)
      go true false p h = omega arith
      go false u p h = omega arith
