-- Laws of the pass over all windows.
use Prim.Native.Nat.{ℕ, zero, suc, ◌+◌, ◌-◌, ◌*◌, ◌<◌, ◌≤◌}
use mathlib.Core.Path.{◌≡◌, refl, sym, ap, ap₂, ◌∙◌, subst}
use mathlib.Core.Bool.{Bool, true, false}
use mathlib.Core.List.{List, [], ◌∷◌, map}
use native.Mathlib.Omega.{arith}
use lib.Dec.{ltb, eqb}
use lib.ListN.{length, get_or, take, drop, set, length-map, length-drop, length-set}
use lib.Seq.{get_or-set_same, get_or-set_other, take_all}
use borrow.Author.Tests.{eqb-true, eqb-false, ltb-true, ltb-false}
use Rattle.format.specs.Parse.{pick}
use Rattle.format.specs.Refusals.{U32}
use Rattle.spv.specs.Hashes.{hashes_of, Distinct}
use Rattle.spv.proofs.RowsLaws.{map_at}
use Rattle.bundle.specs.declared.sums.Walk.{Walk}
use Rattle.bundle.specs.Numbers.{listed, flat, output_count, fresh_numbers}
use Rattle.bundle.specs.Amounts.{Outpoint, Payment, ids_of, outputs_of, exist, fresh, spends, worths}
use Rattle.bundle.specs.Payments.{no_payment}
use Rattle.bundle.specs.Windows.{numbers_of, numbers_in, spender_from, fresh_in, marks_in, first_in, sum_to}
use Rattle.bundle.proofs.WindowLaws.{Marks}
use Rattle.bundle.specs.FlatForm.{column, spent_from, inputs_of, lists_from}
use Rattle.bundle.specs.Walks.{walk_at, Counted, Here, Says, Sums}
use Rattle.bundle.proofs.WalkLaws.{here-start, count-take}
use Rattle.bundle.proofs.PassLaws.{spender_empty, marks_start, marks_in_lem, First, first-told, fresh-below, fresh_less, fresh-none, below-fresh, not-fresh}
use Rattle.bundle.proofs.PicturedLaws.{spent-is, exist_head, take_count}
use Rattle.bundle.proofs.SecondLaws.{there-all, numbers-low, fresh-is, sum-is-worth, spender_is}
use Rattle.spv.specs.Result.{accepted}
use Rattle.bundle.specs.Second.{second, fault_in}
use Rattle.bundle.specs.Pass.{amounts_of, Judged, Counts, Firsts, lists_of, spender_of, Reached, Ends, Settles, WINDOW, Blank, Checked}
use Rattle.bundle.specs.Pictured.{Pictured}

drop_all : {A : Type 0} (l : List A) (k : ℕ) → length l ≤ k → drop k l ≡ []
drop_all [] zero h = refl
drop_all [] (suc k) h = refl
drop_all (x ∷ l) zero h = absurd (omega arith)
drop_all (x ∷ l) (suc k) h = drop_all l k (omega arith)

drop-one : (l : List (List ℕ)) (k : ℕ) → k < length l → drop k l ≡ get_or l k [] ∷ drop (suc k) l
drop-one [] k h = absurd (omega arith)
drop-one (x ∷ l) zero h = refl
drop-one (x ∷ l) (suc k) h = drop-one l k (omega arith)

fresh_empty : (before : List ℕ) → fresh_numbers before [] ≡ true
unfolding fresh_numbers
fresh_empty before = refl

anchored-none : (l : List Payment) (t : Payment) → t.anchored ≡ true → numbers_of l t ≡ []
unfolding numbers_of
anchored-none l t u = ap (λ (b : Bool). pick b [] (map (flat l) t.inputs)) u

nothing : (i : Outpoint) → i.output < length (outputs_of [] i.parent) → ⊥
unfolding outputs_of
nothing i g = omega arith

module _ (s ids numbers : List ℕ) (l : List Payment) (p : Pictured s ids numbers l) where
  pub distinct : Distinct (hashes_of ids)
  distinct = subst Distinct (sym p.ids_are) apart
    where
      apart : Distinct (ids_of l)
      apart j k a b e =
          let low : k < length l = omega (arith, b, length-map l (λ (t : Payment). t.id)) in
          p.different j k a low (sym (map_at (λ (t : Payment). t.id) l j no_payment [] (omega arith)) ∙ e ∙ map_at (λ (t : Payment). t.id) l k no_payment [] low)

  module _ (firsts : List ℕ) (f : Firsts firsts l) where
    -- the numbers of the k-th, by its place
    list_at : (k : ℕ) → k < length l → spent_from s (hashes_of ids) firsts (inputs_of numbers k).count (inputs_of numbers k).at.at ≡ numbers_of l (get_or l k no_payment)
    unfolding inputs_of numbers_of spent_from
    list_at k h = go (eqb (column numbers 3 k) 0) refl
      where
        go : (b : Bool) → eqb (column numbers 3 k) 0 ≡ b → spent_from s (hashes_of ids) firsts (pick b (column numbers 7 k) 0) (column numbers 8 k) ≡ pick (get_or l k no_payment).anchored [] (map (flat l) (get_or l k no_payment).inputs)
        go true z =
            let u = p.unanchored k h (eqb-true (column numbers 3 k) 0 z) in
            let x = p.inputs k h u in
            ap (λ (i : List (List ℕ)). spent_from s i firsts (column numbers 7 k) (column numbers 8 k)) p.ids_are
            ∙ spent-is s l firsts p.count_low f (column numbers 7 k) (column numbers 8 k) x.2 (ap (exist l) x.3 ∙ there-all l p.there k h u)
            ∙ ap (map (flat l)) x.3
            ∙ sym (ap (λ (b : Bool). pick b [] (map (flat l) (get_or l k no_payment).inputs)) u)
        go false z = sym (ap (λ (b : Bool). pick b [] (map (flat l) (get_or l k no_payment).inputs)) (p.anchored k h (eqb-false (column numbers 3 k) 0 z)))

    lists_from_lem : (k m : ℕ) → k + m ≡ length l → lists_from s (hashes_of ids) numbers firsts k m ≡ drop k (lists_of l)
    unfolding lists_from
    lists_from_lem k zero e = sym (drop_all (lists_of l) k (omega (arith, e, length-map l (numbers_of l))))
    lists_from_lem k (suc m) e =
        ap₂ ◌∷◌ (list_at k (omega arith) ∙ sym (map_at (numbers_of l) l k no_payment [] (omega arith))) (lists_from_lem (suc k) m (omega arith))
        ∙ sym (drop-one (lists_of l) k (omega (arith, e, length-map l (numbers_of l))))

    pub lists_are : (n : ℕ) → length l ≡ n → 1 ≤ n → lists_from s (hashes_of ids) numbers firsts 1 (n - 1) ≡ drop 1 (lists_of l)
    lists_are n e h = lists_from_lem 1 (n - 1) (omega arith)

  -- the first transaction spends nothing that counts
  pub first-none : 1 ≤ length l → lists_of l ≡ [] ∷ drop 1 (lists_of l)
  unfolding numbers_of
  first-none h = head l h (p.there 0 h)
    where
      none : (inputs : List Outpoint) → exist [] inputs ≡ true → map (flat l) inputs ≡ []
      none [] e = refl
      none (i ∷ inputs) e = absurd (no_output (exist_head [] i inputs e))
        where
          no_output : i.output < length (outputs_of [] i.parent) → ⊥
          no_output g = nothing i g

      head : (m : List Payment) → 1 ≤ length m → ((get_or m 0 no_payment).anchored ≡ false → exist (take 0 m) (get_or m 0 no_payment).inputs ≡ true) → map (numbers_of l) m ≡ [] ∷ drop 1 (map (numbers_of l) m)
      head [] h f = absurd (omega arith)
      head (t ∷ m) h f = ap (λ (x : List ℕ). x ∷ map (numbers_of l) m) (go t.anchored refl)
        where
          go : (b : Bool) → t.anchored ≡ b → pick b [] (map (flat l) t.inputs) ≡ []
          go true u = refl
          go false u = none t.inputs (f u)

-- ---- from window to window

spender_low : (k : ℕ) (ls : List (List ℕ)) (x : ℕ) → 1 ≤ k → spender_from k ls x < k + length ls
unfolding spender_from
spender_low k [] x h = omega arith
spender_low k (ns ∷ ls) x h = go (listed x ns) (spender_low (suc k) ls x (omega arith))
  where
    go : (b : Bool) → spender_from (suc k) ls x < suc k + length ls → pick b k (spender_from (suc k) ls x) < k + suc (length ls)
    go true e = omega arith
    go false e = omega arith

-- the j-th list after an empty one
module _ (L D : List (List ℕ)) (is : L ≡ [] ∷ D) (j : ℕ) where
  at_next : get_or L (suc j) [] ≡ get_or D j []
  at_next = ap (λ (l : List (List ℕ)). get_or l (suc j) []) is

  numbers-next : numbers_in (take (suc j) L) ≡ numbers_in (take j D)
  unfolding numbers_in
  numbers-next = ap (λ (l : List (List ℕ)). numbers_in (take (suc j) l)) is

module _ (s ids numbers : List ℕ) (l : List Payment) (p : Pictured s ids numbers l) where
  pub reached-start : (n : ℕ) (walk : Walk) (sums : List ℕ) → length l ≡ n → 1 ≤ n → walk ≡ walk_at numbers 0 → Blank 256 sums → Reached s l 0 n walk sums
  unfolding output_count sum_to
  reached-start n walk sums e some is blank = record {
    first_le = omega arith;
    clean = λ j a b c. fresh-none (numbers_in (take j (lists_of l))) (get_or (lists_of l) j []);
    again = λ h. absurd (omega arith);
    sums_are = record { size_is = blank.0; sum_is = λ k h. blank.1 k };
    here = subst (λ (w : Walk). Here s l w 0) (sym is) (here-start s numbers l p.counted 0 (omega arith));
  }

  module _ (n : ℕ) (count-is : length l ≡ n) (firsts : List ℕ) (f : Firsts firsts l) (base count first : ℕ) (walk : Walk) (sums : List ℕ) (low : base + count ≤ output_count l) (part : count ≤ WINDOW)
      (r : Reached s l base first walk sums) where
    abbrev D : List (List ℕ)
    D = drop 1 (lists_of l)

    pub reached_on : (marks₀ : List ℕ) {marks sums' : List ℕ} {first' : ℕ} {walk' : Walk} → Blank WINDOW marks₀
        → (Distinct (hashes_of ids) → (marks ≡ marks_in base (length marks₀) 1 marks₀ (lists_from s (hashes_of ids) numbers firsts 1 (n - 1))) × (first' ≡ first_in base (length marks₀) 1 marks₀ first (lists_from s (hashes_of ids) numbers firsts 1 (n - 1))))
        → ((l : List Payment) (spender : ℕ → ℕ) (m : ℕ) → Counted s numbers l → Here s l walk m → m + count ≤ output_count l → Says marks count spender m → Sums l spender m sums → Sums l spender (m + count) sums' × Here s l walk' (m + count))
        → Reached s l (base + count) first' walk' sums'
    reached_on marks₀ {marks} {sums'} {first'} {walk'} blank marking adding =
        let some : 1 ≤ n = omega (arith, r.here.low, count-is) in
        let lists = lists_are s ids numbers l p firsts f n count-is some in
        let g = marking (distinct s ids numbers l p) in
        let marks-is : marks ≡ marks_in base (length marks₀) 1 marks₀ D = g.0 ∙ ap (marks_in base (length marks₀) 1 marks₀) lists in
        let first-is : first' ≡ first_in base (length marks₀) 1 marks₀ first D = g.1 ∙ ap (first_in base (length marks₀) 1 marks₀ first) lists in
        let begun = marks_start base (length marks₀) marks₀ (refl, blank.1) in
        let m = subst (λ (x : List ℕ). Marks base (length marks₀) D [] x) (sym marks-is) (marks_in_lem base (length marks₀) [] D marks₀ begun) in
        let w = subst (First base (length marks₀) [] D first) (sym first-is) (first-told base (length marks₀) [] D marks₀ first begun) in
        let done = adding l (spender_of l) base p.counted r.here low (says m) r.sums_are in
        record {
          first_le = omega (arith, w.le, r.first_le);
          clean = λ j a b c. clean w j a b c;
          again = λ h. again w h (ltb first' first) refl;
          sums_are = done.0;
          here = done.1;
        }
      where
        says : Marks base (length marks₀) D [] marks → Says marks count (spender_of l) base
        says m j h =
            let inside-it : j < length marks₀ = omega (arith, h, part, blank.0) in
            let few = p.counted.few in
            let size : 1 + length D ≤ 256 = omega (arith, few, length-drop 1 (lists_of l), length-map l (numbers_of l)) in
            (m.says j inside-it ∙ spender_empty 1 D (base + j), omega (arith, spender_low 1 D (base + j) (omega arith), size))

        head_none : lists_of l ≡ [] ∷ D
        head_none = first-none s ids numbers l p (omega (arith, r.here.low))

        size_D : suc (length D) ≡ length l
        size_D = omega (arith, r.here.low, length-drop 1 (lists_of l), length-map l (numbers_of l))

        clean : First base (length marks₀) [] D first first' → (j : ℕ) → 1 ≤ j → j < length l → j < first' → fresh_in 0 (base + count) (numbers_in (take j (lists_of l))) (get_or (lists_of l) j []) ≡ true
        clean w zero a b c = absurd (omega arith)
        clean w (suc i) a b c =
            fresh-below base count (numbers_in (take (suc i) (lists_of l))) (get_or (lists_of l) (suc i) []) (r.clean (suc i) a b (omega (arith, c, w.le)))
            (fresh_less base (length marks₀) count (numbers_in (take (suc i) (lists_of l))) (get_or (lists_of l) (suc i) []) (omega (arith, part, blank.0))
            (ap₂ (fresh_in base (length marks₀)) (numbers-next (lists_of l) D head_none i) (at_next (lists_of l) D head_none i) ∙ w.clean i (omega (arith, b, size_D)) (omega arith)))

        again : First base (length marks₀) [] D first first' → first' < length l → (b : Bool) → ltb first' first ≡ b
            → (1 ≤ first') × (fresh_numbers (numbers_in (take first' (lists_of l))) (get_or (lists_of l) first' []) ≡ false)
        again w h true q = found (w.found (ltb-true first' first q))
          where
            found : (j : ℕ) × (j < length D) × (first' ≡ 1 + 0 + j) × (fresh_in base (length marks₀) (numbers_in (take j D)) (get_or D j []) ≡ false) → (1 ≤ first') × (fresh_numbers (numbers_in (take first' (lists_of l))) (get_or (lists_of l) first' []) ≡ false)
            found (j, a, e, b) =
                let is : first' ≡ suc j = omega arith in (
                  omega arith,
                  ap (λ (k : ℕ). fresh_numbers (numbers_in (take k (lists_of l))) (get_or (lists_of l) k [])) is
                      ∙ ap₂ fresh_numbers (numbers-next (lists_of l) D head_none j) (at_next (lists_of l) D head_none j) ∙ not-fresh base (length marks₀) (numbers_in (take j D)) (get_or D j []) b,
                )
        again w h false q =
            let same : first' ≡ first = omega (arith, w.le, ltb-false first' first q) in
            subst (λ (k : ℕ). (1 ≤ k) × (fresh_numbers (numbers_in (take k (lists_of l))) (get_or (lists_of l) k []) ≡ false)) (sym same) (r.again (omega arith))

  pub reached-end : (base first : ℕ) (walk : Walk) (sums : List ℕ) → base ≡ output_count l → Reached s l base first walk sums → Ends l first sums
  reached-end base first walk sums e r = record {
    first_le = r.first_le;
    clean = subst (λ (k : ℕ). (j : ℕ) → 1 ≤ j → j < length l → j < first → fresh_in 0 k (numbers_in (take j (lists_of l))) (get_or (lists_of l) j []) ≡ true) e r.clean;
    again = r.again;
    sums_are = subst (λ (k : ℕ). Sums l (spender_of l) k sums) e r.sums_are;
  }

  -- ---- what is settled then

  -- the first transaction is anchored
  anchored-first : 1 ≤ length l → (get_or l 0 no_payment).anchored ≡ false → ⊥
  anchored-first h u = go (get_or l 0 no_payment).inputs (p.some 0 h u) (p.there 0 h u)
    where
      go : (inputs : List Outpoint) → 1 ≤ length inputs → exist (take 0 l) inputs ≡ true → ⊥
      go [] a e = omega arith
      go (i ∷ inputs) a e = nothing i (exist_head [] i inputs e)

  pub ends_settle : (fee n first : ℕ) (sums : List ℕ) → length l ≡ n → Ends l first sums → Settles numbers sums fee n first l
  ends_settle fee n first sums e w = record {
    count = e;
    anchored = λ k h. p.anchored k (omega arith);
    unanchored = λ k h. p.unanchored k (omega arith);
    totals = λ k h. p.totals k (omega arith);
    clean = λ k h g u. fresh-is l p.there k (omega arith) u ∙ new k (omega arith) g u;
    again = λ h. again (omega arith);
    sum = λ k h g u. summed k (omega arith) g u;
  }
    where
      new : (k : ℕ) → k < length l → k < first → (get_or l k no_payment).anchored ≡ false → fresh_numbers (numbers_in (take k (lists_of l))) (get_or (lists_of l) k []) ≡ true
      new zero h g u = absurd (anchored-first h u)
      new (suc k) h g u = below-fresh (output_count l) (numbers_in (take (suc k) (lists_of l))) (get_or (lists_of l) (suc k) []) (numbers-low l p.there (suc k) h u) (w.clean (suc k) (omega arith) h g)

      again : first < length l → ((get_or l first no_payment).anchored ≡ false) × (fresh (spends (take first l)) (get_or l first no_payment).inputs ≡ false)
      again h = by (get_or l first no_payment).anchored refl
        where
          by : (b : Bool) → (get_or l first no_payment).anchored ≡ b → ((get_or l first no_payment).anchored ≡ false) × (fresh (spends (take first l)) (get_or l first no_payment).inputs ≡ false)
          by true u = absurd (let z : get_or (lists_of l) first [] ≡ [] = none u in let q = (w.again h).1 in let t : fresh_numbers (numbers_in (take first (lists_of l))) [] ≡ true = fresh_empty (numbers_in (take first (lists_of l))) in let y : ◌≡◌ {A = ℕ} 0 1 = cc in omega arith)
            where
              none : (get_or l first no_payment).anchored ≡ true → get_or (lists_of l) first [] ≡ []
              none u = map_at (numbers_of l) l first no_payment [] h ∙ anchored-none l (get_or l first no_payment) u
          by false u = (u, fresh-is l p.there first h u ∙ (w.again h).1)

      summed : (k : ℕ) → k < length l → k < first → (get_or l k no_payment).anchored ≡ false → get_or sums k 0 ≡ worths (take k l) (get_or l k no_payment).inputs
      summed zero h g u = absurd (anchored-first h u)
      summed (suc k) h g u =
          let few = p.counted.few in
          let head_none = first-none s ids numbers l p (omega arith) in
          let size : k < length (drop 1 (lists_of l)) = omega (arith, h, length-drop 1 (lists_of l), length-map l (numbers_of l)) in
          let fresh-k = new (suc k) h g u in
          w.sums_are.sum_is (suc k) (omega arith)
          ∙ sum-is-worth l p.there (suc k) (spender_of l) h u fresh-k
          (λ x. ap (eqb (spender_of l x)) (let one : suc k ≡ 1 + k = omega arith in one) ∙ spender_is 1 (drop 1 (lists_of l)) k (omega arith) size (sym (ap₂ fresh_numbers (numbers-next (lists_of l) (drop 1 (lists_of l)) head_none k) (at_next (lists_of l) (drop 1 (lists_of l)) head_none k)) ∙ fresh-k) x
          ∙ ap (listed x) (sym (at_next (lists_of l) (drop 1 (lists_of l)) head_none k)))

-- ---- where the outputs start

abbrev pub FirstsTo : List ℕ → ℕ → ℕ → List ℕ → Type 0
FirstsTo numbers n k firsts = (length firsts ≡ 257) × ((l : List Payment) → length l ≡ n → Counts numbers l → (p : ℕ) → p ≤ k → get_or firsts p 0 ≡ output_count (take p l))

module _ (numbers : List ℕ) (n : ℕ) where
  pub firsts_start : (firsts : List ℕ) → Blank 257 firsts → FirstsTo numbers n 0 firsts
  unfolding output_count
  firsts_start firsts b = (b.0, λ l e c p h. let z : p ≡ 0 = omega arith in b.1 p ∙ ap (λ (k : ℕ). output_count (take k l)) (sym z))

  pub firsts_on : (k : ℕ) (firsts : List ℕ) (r : ℕ) → k < n → n ≤ 256 → FirstsTo numbers n k firsts → (get_or firsts k 0 + column numbers 5 k < U32 → r ≡ get_or firsts k 0 + column numbers 5 k) → FirstsTo numbers n (k + 1) (set firsts (k + 1) r)
  firsts_on k firsts r low few f add = (length-set firsts (k + 1) r ∙ f.0, λ l e c p h. at l e c p h (eqb (k + 1) p) refl)
    where
      at : (l : List Payment) → length l ≡ n → Counts numbers l → (p : ℕ) → p ≤ k + 1 → (b : Bool) → eqb (k + 1) p ≡ b → get_or (set firsts (k + 1) r) p 0 ≡ output_count (take p l)
      at l e c p h true q =
          let is = eqb-true (k + 1) p q in
          let one : k + 1 ≡ suc k = omega arith in
          let here = f.1 l e c k (omega arith) in
          let more = count-take l k (omega arith) in
          let bound = take_count l (suc k) in
          let outs = c.0 k (omega arith) in
          let top = c.1 in
          ap (λ (j : ℕ). get_or (set firsts (k + 1) r) j 0) (sym is) ∙ get_or-set_same firsts (k + 1) r 0 (omega (arith, low, few, f.0))
          ∙ add (omega arith) ∙ ap₂ ◌+◌ here outs ∙ sym more ∙ ap (λ (j : ℕ). output_count (take j l)) (sym one ∙ is)
      at l e c p h false q =
          let ne = eqb-false (k + 1) p q in
          get_or-set_other firsts (k + 1) p r 0 (λ z. ne (sym z)) ∙ f.1 l e c p (below ne)
        where
          below : (k + 1 ≡ p → ⊥) → p ≤ k
          below ne = omega arith

  pub firsts_end : (k : ℕ) (firsts : List ℕ) → n ≤ k → FirstsTo numbers n k firsts → (l : List Payment) → length l ≡ n → Counts numbers l → Firsts firsts l
  firsts_end k firsts h f l e c p g = f.1 l e c p (omega arith)

pub take_whole : (l : List Payment) (n : ℕ) → length l ≡ n → take n l ≡ l
take_whole l n e = take_all n l (omega arith)

-- ---- the whole pass

module _ (s ids numbers : List ℕ) (fee n : ℕ) (r : Checked) where
  module _ (none : amounts_of r ≡ accepted tt) where
    pub judged-none : n < 1 → Judged s ids numbers fee n r
    unfolding fault_in
    judged-none h l e p = let z : n ≡ 0 = omega arith in none ∙ ap (λ (k : ℕ). fault_in (second fee) k [] l) (sym z)

    pub judged-many : 256 < n → Judged s ids numbers fee n r
    judged-many h l e p = absurd (let few = p.counted.few in omega arith)

    pub judged_short : length numbers < 10 * n → Judged s ids numbers fee n r
    judged_short h l e p = absurd (let long = p.counted.long in omega arith)

  pub judged_by : (firsts sums₀ sums : List ℕ) (first : ℕ) → ((l : List Payment) → length l ≡ n → Counts numbers l → Firsts firsts l) → Blank 256 sums₀
      → ((l : List Payment) → length l ≡ n → Pictured s ids numbers l → Firsts firsts l → get_or firsts n 0 ≡ output_count l → Blank 256 sums₀ → Ends l first sums)
      → ((l : List Payment) → Settles numbers sums fee n first l → amounts_of r ≡ fault_in (second fee) n [] l) → Judged s ids numbers fee n r
  judged_by firsts sums₀ sums first starts blank ends found l e p =
      let f = starts l e (p.counted.outputs, p.count_low) in
      let all : get_or firsts n 0 ≡ output_count l = f n (omega arith) ∙ ap output_count (take_whole l n e) in
      found l (ends_settle s ids numbers l p fee n first sums e (ends l e p f all blank))
