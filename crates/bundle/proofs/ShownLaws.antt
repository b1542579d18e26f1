-- Laws of 26 over all transactions, and of 27 and 28 for those before its first refusal.
use Prim.Native.Nat.{ℕ, zero, suc, ◌+◌, ◌-◌, ◌*◌, ◌/◌, ◌<◌, ◌≤◌}
use mathlib.Core.Path.{◌≡◌, refl, sym, ap, ap₂, ◌∙◌, subst}
use mathlib.Core.Bool.{Bool, true, false, not}
use mathlib.Core.List.{List, [], ◌∷◌, ◌++◌, append_assoc, append-nil}
use native.Mathlib.Omega.{arith}
use native.Mathlib.Nat.{sub-zero}
use lib.Dec.{eqb}
use lib.ListN.{length, get_or, take, drop, length-map, length-take}
use lib.Seq.{get_or-take, take-take, length-take-le, ext_get_or}
use borrow.Author.Tests.{eqb-true, eqb-false, not-true, not-false}
use Rattle.format.specs.Parse.{pick}
use Rattle.std.specs.Prelude.{Option, Some, None, Ok, Err}
use Rattle.spv.specs.declared.rejection.Rejection.{Rejection}
use Rattle.format.specs.Refusals.{NO_OUTPUT}
use Rattle.spv.specs.Result.{accepted, refused, carrying, blaming}
use Rattle.spv.specs.Hashes.{hashes_of, Distinct}
use Rattle.spv.proofs.HashesLaws.{hashes-at, taken-length}
use Rattle.spv.proofs.RowsLaws.{map_at}
use Rattle.bundle.specs.Amounts.{Payment, AmountRuling, passes, refuses, ids_of, exist, fresh, spends, enough, funded, amounts}
use Rattle.bundle.specs.Payments.{no_payment, Different}
use Rattle.bundle.specs.FlatForm.{column, inputs_of, exist_from}
use Rattle.bundle.proofs.ExistLaws.{exist-is}
use Rattle.bundle.specs.Walks.{Counted}
use Rattle.bundle.proofs.PicturedLaws.{take_count}
use Rattle.bundle.specs.Second.{second, fault_in}
use Rattle.bundle.proofs.SecondLaws.{take-map, fault-refuses, fault-passes, fault_at, fault-end, fault-here}
use Rattle.bundle.specs.Pass.{amounts_of, Judged, Checked}
use Rattle.bundle.specs.Shown.{Shown, FirstMissing, Missing, Answers}
use Rattle.bundle.specs.Pictured.{Pictured}

-- ---- the first m of them

inside : (a b c : ℕ) (l : List ℕ) → b + a ≤ c → take a (drop b (take c l)) ≡ take a (drop b l)
inside a zero c l h = take-take a c l (omega arith)
inside a (suc b) zero l h = absurd (omega arith)
inside a (suc b) (suc c) [] h = refl
inside a (suc b) (suc c) (x ∷ l) h = inside a b c l (omega arith)

-- the first hashes of more
hashes-first : (m n : ℕ) (l : List ℕ) → m ≤ n → 32 * n ≤ length l → hashes_of (take (32 * m) l) ≡ take m (hashes_of (take (32 * n) l))
unfolding hashes_of
hashes-first m n l h w =
    let few : 32 * m ≤ length l = omega arith in
    ext_get_or [] (hashes_of (take (32 * m) l)) (take m (hashes_of (take (32 * n) l)))
    (taken-length m l few ∙ sym (length-take-le m (hashes_of (take (32 * n) l)) (omega (arith, taken-length n l w, h))))
    (λ i low.
    let below : i < m = omega (arith, low, taken-length m l few) in
    at m i few below ∙ sym (at n i w (omega arith)) ∙ sym (get_or-take m (hashes_of (take (32 * n) l)) i [] below))
  where
    at : (n i : ℕ) → 32 * n ≤ length l → i < n → get_or (hashes_of (take (32 * n) l)) i [] ≡ take 32 (drop (32 * i) l)
    at n i w low = hashes-at (length (take (32 * n) l) / 32) (take (32 * n) l) i (omega (arith, low, length-take-le (32 * n) l w)) ∙ inside 32 (32 * i) (32 * n) l (omega arith)

module _ (s ids numbers : List ℕ) (l : List Payment) (w : Shown s ids numbers l) where
  first_ids : (m : ℕ) → m ≤ length l → hashes_of (take (32 * m) ids) ≡ ids_of (take m l)
  first_ids m h = hashes-first m (length l) ids h w.wide ∙ ap (take m) w.ids_are ∙ take-map (λ (t : Payment). t.id) m l

  first-different : (m : ℕ) → Different (take m l)
  first-different m j k a h e =
      let low : k < m = omega (arith, h, length-take m l) in
      w.different j k a (omega (arith, h, length-take m l)) (ap (λ (t : Payment). t.id) (sym (get_or-take m l j no_payment (omega arith))) ∙ e ∙ ap (λ (t : Payment). t.id) (get_or-take m l k no_payment low))

  pub first-distinct : (m : ℕ) → m ≤ length l → Distinct (hashes_of (take (32 * m) ids))
  first-distinct m few = subst Distinct (sym (first_ids m few)) apart
    where
      apart : Distinct (ids_of (take m l))
      apart j k a b e =
          let low : k < length (take m l) = omega (arith, b, length-map (take m l) (λ (t : Payment). t.id)) in
          first-different m j k a low (sym (map_at (λ (t : Payment). t.id) (take m l) j no_payment [] (omega arith)) ∙ e ∙ map_at (λ (t : Payment). t.id) (take m l) k no_payment [] low)

  module _ (k : ℕ) (low : k < length l) where
    -- 26 of the k-th by the flat form
    existing : Bool
    existing = exist_from s (hashes_of (take (32 * k) ids)) numbers (inputs_of numbers k).count (inputs_of numbers k).at.at

    exist-at : column numbers 3 k ≡ 0 → exist_from s (hashes_of (take (32 * k) ids)) numbers (column numbers 7 k) (column numbers 8 k) ≡ exist (take k l) (get_or l k no_payment).inputs
    exist-at z =
        let x = w.inputs k low (w.unanchored k low z) in
        ap (λ (i : List (List ℕ)). exist_from s i numbers (column numbers 7 k) (column numbers 8 k)) (first_ids k (omega arith))
        ∙ exist-is s (take k l) numbers (λ j h. let g : j < k = omega (arith, h, length-take k l) in w.counted.outputs j (omega arith) ∙ ap (λ (t : Payment). length t.outputs) (sym (get_or-take k l j no_payment g))) (column numbers 7 k) (column numbers 8 k) x.2
        ∙ ap (exist (take k l)) x.3

    pub there-told : exist_from s (hashes_of (take (32 * k) ids)) numbers (inputs_of numbers k).count (inputs_of numbers k).at.at ≡ true → (get_or l k no_payment).anchored ≡ false → exist (take k l) (get_or l k no_payment).inputs ≡ true
    unfolding inputs_of
    there-told e u = go (eqb (column numbers 3 k) 0) refl e
      where
        go : (b : Bool) → eqb (column numbers 3 k) 0 ≡ b → exist_from s (hashes_of (take (32 * k) ids)) numbers (pick b (column numbers 7 k) 0) (column numbers 8 k) ≡ true → exist (take k l) (get_or l k no_payment).inputs ≡ true
        go true z f = sym (exist-at (eqb-true (column numbers 3 k) 0 z)) ∙ f
        go false z f = absurd (let a = w.anchored k low (eqb-false (column numbers 3 k) 0 z) in let y : ◌≡◌ {A = ℕ} 0 1 = cc in omega arith)

    pub missing-told : exist_from s (hashes_of (take (32 * k) ids)) numbers (inputs_of numbers k).count (inputs_of numbers k).at.at ≡ false → ((get_or l k no_payment).anchored ≡ false) × (exist (take k l) (get_or l k no_payment).inputs ≡ false)
    unfolding inputs_of exist_from
    missing-told e = go (eqb (column numbers 3 k) 0) refl e
      where
        go : (b : Bool) → eqb (column numbers 3 k) 0 ≡ b → exist_from s (hashes_of (take (32 * k) ids)) numbers (pick b (column numbers 7 k) 0) (column numbers 8 k) ≡ false
            → ((get_or l k no_payment).anchored ≡ false) × (exist (take k l) (get_or l k no_payment).inputs ≡ false)
        go true z f = let o = eqb-true (column numbers 3 k) 0 z in (w.unanchored k low o, sym (exist-at o) ∙ f)
        go false z f = absurd (let y : ◌≡◌ {A = ℕ} 0 1 = cc in omega arith)

  -- those that pass 26 are what 27 and 28 are asked of
  first_counted : (m : ℕ) → m ≤ length l → Counted s numbers (take m l)
  first_counted m few =
      let size = length-take-le m l few in
      record {
        few = omega (arith, size, w.counted.few, few);
        long = omega (arith, size, w.counted.long, few);
        outputs = λ k h. let g : k < m = omega (arith, h, size) in rw (get_or-take m l k no_payment g) (w.counted.outputs k (omega arith));
        some = λ k h. let g : k < m = omega (arith, h, size) in rw (get_or-take m l k no_payment g) (w.counted.some k (omega arith));
        read = λ k h. let g : k < m = omega (arith, h, size) in rw (get_or-take m l k no_payment g) (w.counted.read k (omega arith));
        modest = λ k h. let g : k < m = omega (arith, h, size) in rw (get_or-take m l k no_payment g) (w.counted.modest k (omega arith));
      }

  pictured : (m : ℕ) → m ≤ length l → FirstMissing l m → Pictured s (take (32 * m) ids) numbers (take m l)
  pictured m few f =
      let size = length-take-le m l few in
      record {
        counted = first_counted m few;
        count_low = omega (arith, take_count l m, w.count_low);
        ids_are = first_ids m few;
        different = first-different m;
        unanchored = λ k h e. let g : k < m = omega (arith, h, size) in rw (get_or-take m l k no_payment g) (w.unanchored k (omega arith) e);
        anchored = λ k h e. let g : k < m = omega (arith, h, size) in rw (get_or-take m l k no_payment g) (w.anchored k (omega arith) e);
        totals = λ k h. let g : k < m = omega (arith, h, size) in rw (get_or-take m l k no_payment g) (w.totals k (omega arith));
        inputs = λ k h u. let g : k < m = omega (arith, h, size) in let e = get_or-take m l k no_payment g in rw e (w.inputs k (omega arith) (rw e at u));
        some = λ k h u. let g : k < m = omega (arith, h, size) in let e = get_or-take m l k no_payment g in rw e (w.some k (omega arith) (rw e at u));
        there = λ k h u. let g : k < m = omega (arith, h, size) in let e = get_or-take m l k no_payment g in rw (e, take-take k m l (omega arith)) (f.there k g (rw e at u));
      }

-- ---- the three in order

module _ (fee : ℕ) (earlier : List Payment) (t : Payment) where
  -- one that passes 26 stands as 27 and 28 say
  amounts-there : (t.anchored ≡ false → exist earlier t.inputs ≡ true) → amounts fee earlier t ≡ second fee earlier t
  unfolding amounts second funded
  amounts-there f = go t.anchored refl
    where
      later : AmountRuling
      later = pick (fresh (spends earlier) t.inputs) (pick (enough fee earlier t) passes (refuses 28)) (refuses 27)

      go : (b : Bool) → t.anchored ≡ b → pick b passes (pick (exist earlier t.inputs) later (refuses NO_OUTPUT)) ≡ pick b passes later
      go true u = refl
      go false u = ap (λ (b : Bool). pick b later (refuses NO_OUTPUT)) (f u)

  amounts-missing : t.anchored ≡ false → exist earlier t.inputs ≡ false → amounts fee earlier t ≡ refused (carrying NO_OUTPUT 0)
  unfolding amounts funded
  amounts-missing u e =
      ap (λ (b : Bool). pick b passes (funded fee earlier t)) u
      ∙ ap (λ (b : Bool). pick b (pick (fresh (spends earlier) t.inputs) (pick (enough fee earlier t) passes (refuses 28)) (refuses 27)) (refuses NO_OUTPUT)) e

-- a refusal, or else what follows
unfoldable or_else : AmountRuling → AmountRuling → AmountRuling
or_else (refused why) t = refused why
or_else (accepted u) t = t

module _ (rule other : List Payment → Payment → AmountRuling) where
  in_front : (m n : ℕ) (earlier l : List Payment) → m ≤ n → n ≡ length l → ((k : ℕ) → k < m → rule (earlier ++ take k l) (get_or l k no_payment) ≡ other (earlier ++ take k l) (get_or l k no_payment))
      → fault_in rule n earlier l ≡ or_else (fault_in other m earlier l) (fault_in rule (n - m) (earlier ++ take m l) (drop m l))
  unfolding fault_in or_else
  in_front zero n earlier l h e same = ap₂ (λ (k : ℕ) (d : List Payment). fault_in rule k d l) (sym (sub-zero n)) (sym (append-nil earlier))
  in_front (suc m) zero earlier l h e same = absurd (omega arith)
  in_front (suc m) (suc n) earlier [] h e same = absurd (omega arith)
  in_front (suc m) (suc n) earlier (x ∷ l) h e same =
      step (other earlier x) refl
      (in_front m n (earlier ++ (x ∷ [])) l (omega arith) (omega arith) (λ k g.
      ap (λ (d : List Payment). rule d (get_or l k no_payment)) (append_assoc earlier (x ∷ []) (take k l)) ∙ same (suc k) (omega arith) ∙ ap (λ (d : List Payment). other d (get_or l k no_payment)) (sym (append_assoc earlier (x ∷ []) (take k l)))))
    where
      here : rule earlier x ≡ other earlier x
      here = ap (λ (d : List Payment). rule d x) (sym (append-nil earlier)) ∙ same 0 (omega arith) ∙ ap (λ (d : List Payment). other d x) (append-nil earlier)

      step : (t : AmountRuling) → other earlier x ≡ t
          → fault_in rule n (earlier ++ (x ∷ [])) l ≡ or_else (fault_in other m (earlier ++ (x ∷ [])) l) (fault_in rule (n - m) ((earlier ++ (x ∷ [])) ++ take m l) (drop m l))
          → fault_in rule (suc n) earlier (x ∷ l) ≡ or_else (fault_in other (suc m) earlier (x ∷ l)) (fault_in rule (suc n - suc m) (earlier ++ take (suc m) (x ∷ l)) (drop (suc m) (x ∷ l)))
      step (refused why) is f =
          fault-refuses rule n earlier x l why (here ∙ is)
          ∙ sym (ap (λ (t : AmountRuling). or_else t (fault_in rule (suc n - suc m) (earlier ++ take (suc m) (x ∷ l)) (drop m l))) (fault-refuses other m earlier x l why is))
      step (accepted u) is f =
          let less : n - m ≡ suc n - suc m = omega arith in
          fault-passes rule n earlier x l (here ∙ is) ∙ f
          ∙ ap (λ (d : List Payment). or_else (fault_in other m (earlier ++ (x ∷ [])) l) (fault_in rule (n - m) d (drop m l))) (append_assoc earlier (x ∷ []) (take m l))
          ∙ ap₂ (λ (t : AmountRuling) (k : ℕ). or_else t (fault_in rule k (earlier ++ take (suc m) (x ∷ l)) (drop m l))) (sym (fault-passes other m earlier x l is)) less

pub fault-taken : {A : Type 0} (rule : List A → A → AmountRuling) (n : ℕ) (earlier l : List A) → fault_in rule n earlier l ≡ fault_in rule n earlier (take n l)
unfolding fault_in
fault-taken rule zero earlier l = refl
fault-taken rule (suc n) earlier [] = refl
fault-taken {A = A} rule (suc n) earlier (x ∷ l) = ap (λ (f : AmountRuling). elim (rule earlier x) [ refused why ↦ refused (blaming (length earlier) why) | accepted u ↦ f ]) (fault-taken rule n (earlier ++ (x ∷ [])) l)

-- ---- the answer

module _ (s ids numbers : List ℕ) (fee n : ℕ) where
  pub answers-many : (r : Checked) → 256 < n → Answers s ids numbers fee n r
  answers-many r h l size w = absurd (omega (arith, h, size, w.counted.few))

  pub answers_short : (r : Checked) → length numbers < 10 * n → Answers s ids numbers fee n r
  answers_short r h l size w = absurd (omega (arith, h, size, w.counted.long))

  pub answers-narrow : (r : Checked) → length ids < 32 * n → Answers s ids numbers fee n r
  answers-narrow r h l size w = absurd (omega (arith, h, size, w.wide))

  module _ (m : ℕ) (few : m ≤ n) (first : (l : List Payment) → length l ≡ n → Shown s ids numbers l → FirstMissing l m) (f : Checked) (judged : Judged s (take (32 * m) ids) numbers fee m f) where
    in_turn : (l : List Payment) → length l ≡ n → Shown s ids numbers l → fault_in (amounts fee) n [] l ≡ or_else (amounts_of f) (fault_at (amounts fee) l m)
    in_turn l size w =
        let low : m ≤ length l = omega arith in
        let x = first l size w in
        in_front (amounts fee) (second fee) m n [] l few (sym size) (λ k g. amounts-there fee (take k l) (get_or l k no_payment) (x.there k g))
        ∙ ap₂ or_else (fault-taken (second fee) m [] l ∙ sym (judged (take m l) (length-take-le m l low) (pictured s ids numbers l w m low x))) (ap (λ (k : ℕ). fault_in (amounts fee) (k - m) (take m l) (drop m l)) (sym size))

    pub answers-fault : {why : Rejection} → f ≡ Err why → Answers s ids numbers fee n (Err why)
    unfolding or_else amounts_of
    answers-fault e l size w = sym (in_turn l size w ∙ ap (λ (t : Checked). or_else (amounts_of t) (fault_at (amounts fee) l m)) e)

    module _ {u : Unit {0}} (none : f ≡ Ok u) where
      rest : (l : List Payment) → length l ≡ n → Shown s ids numbers l → fault_in (amounts fee) n [] l ≡ fault_at (amounts fee) l m
      unfolding or_else amounts_of
      rest l size w = in_turn l size w ∙ ap (λ (t : Checked). or_else (amounts_of t) (fault_at (amounts fee) l m)) none

      pub answers-missing : m < n → Answers s ids numbers fee n (Err (blaming m (carrying NO_OUTPUT 0)))
      unfolding amounts_of
      answers-missing low l size w =
          let x = (first l size w).missing (omega arith) in
          sym (rest l size w ∙ fault-here (amounts fee) l m (omega arith) (carrying NO_OUTPUT 0) (amounts-missing fee (take m l) (get_or l m no_payment) x.0 x.1))

  or_none : (t : AmountRuling) → or_else t (accepted tt) ≡ t
  unfolding or_else
  or_none (refused why) = refl
  or_none (accepted u) = refl

  -- where none is missing 27 and 28 are all there is
  pub answers-all : ((l : List Payment) → length l ≡ n → Shown s ids numbers l → FirstMissing l n) → (f : Checked) → Judged s (take (32 * n) ids) numbers fee n f → Answers s ids numbers fee n f
  answers-all first f judged l size w =
      sym (in_turn n (omega arith) first f judged l size w ∙ ap (or_else (amounts_of f)) (fault-end (amounts fee) l n (omega arith)) ∙ or_none (amounts_of f))

-- what the answer for the first that is missing says
module _ (s ids numbers : List ℕ) (n : ℕ) {r : Option ℕ} (told : (l : List Payment) → length l ≡ n → Shown s ids numbers l → Missing l n r) where
  pub missing-some : {m : ℕ} → r ≡ Some m → (l : List Payment) → length l ≡ n → Shown s ids numbers l → FirstMissing l m
  unfolding Missing
  missing-some e l size w = let x = told l size w in rw e at x

  pub missing-none : r ≡ None → (l : List Payment) → length l ≡ n → Shown s ids numbers l → FirstMissing l n
  unfolding Missing
  missing-none e l size w = let x = told l size w in rw e at x

-- ---- a loop for 26: those below k pass

module _ (s ids numbers : List ℕ) (n : ℕ) where
  abbrev pub Passed : ℕ → Type 0
  Passed k = (l : List Payment) → length l ≡ n → Shown s ids numbers l → (j : ℕ) → j < k → (get_or l j no_payment).anchored ≡ false → exist (take j l) (get_or l j no_payment).inputs ≡ true

  -- the test of the k-th
  abbrev pub Tested : ℕ → Bool → Type 0
  Tested k r = Distinct (hashes_of (take (32 * k) ids)) → r ≡ exist_from s (hashes_of (take (32 * k) ids)) numbers (inputs_of numbers k).count (inputs_of numbers k).at.at

  pub passed_start : Passed 0
  passed_start l size w j h = absurd (omega arith)

  module _ {k : ℕ} (passed : Passed k) where
    pub passed-end : n ≤ k → (l : List Payment) → length l ≡ n → Shown s ids numbers l → FirstMissing l k
    passed-end past l size w = record { there = passed l size w; missing = λ low. absurd (omega arith) }

    module _ (low : k < n) {r : Bool} (test : Tested k r) where
      pub passed-missing : not r ≡ true → (l : List Payment) → length l ≡ n → Shown s ids numbers l → FirstMissing l k
      passed-missing e l size w = record {
        there = passed l size w;
        missing = λ h. missing-told s ids numbers l w k h (sym (test (first-distinct s ids numbers l w k (omega arith))) ∙ not-true r e);
      }

      pub passed_on : not r ≡ false → Passed (k + 1)
      passed_on e l size w j h u = go (eqb j k) refl
        where
          here : exist (take k l) (get_or l k no_payment).inputs ≡ true → (get_or l k no_payment).anchored ≡ false → j ≡ k → exist (take j l) (get_or l j no_payment).inputs ≡ true
          here x v i = rw i x

          go : (b : Bool) → eqb j k ≡ b → exist (take j l) (get_or l j no_payment).inputs ≡ true
          go true z =
              let i = eqb-true j k z in
              let v : (get_or l k no_payment).anchored ≡ false = rw i at u in
              here (there-told s ids numbers l w k (omega arith) (sym (test (first-distinct s ids numbers l w k (omega arith))) ∙ not-false r e) v) v i
          go false z = let ne = eqb-false j k z in passed l size w j (less ne) u
            where
              less : (j ≡ k → ⊥) → j < k
              less ne = omega arith
