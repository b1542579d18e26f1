-- 27 and 28 of a transaction by numbers, spenders and sums.
use Prim.Native.Nat.{ℕ, zero, suc, ◌+◌, ◌-◌, ◌<◌, ◌≤◌}
use mathlib.Core.Path.{◌≡◌, refl, sym, ap, ap₂, ◌∙◌}
use mathlib.Core.Bool.{Bool, true, false, ◌||◌}
use mathlib.Core.List.{List, [], ◌∷◌, ◌++◌, map}
use mathlib.Core.Logic.{◌⊎◌, inl, inr}
use native.Mathlib.Omega.{arith}
use lib.Dec.{eqb}
use lib.ListN.{length, get_or, take, drop, take-append-drop, length-take, get_or-append}
use lib.Seq.{get_or-take, get_or-append-add}
use borrow.Author.Tests.{eqb-true, eq-eqb, ne_eqb}
use Rattle.format.specs.Parse.{pick}
use Rattle.format.specs.Bytes.{same}
use Rattle.spv.specs.declared.rejection.Rejection.{Rejection}
use Rattle.spv.specs.Result.{accepted, refused, blaming}
use Rattle.spv.proofs.RowsLaws.{map_at}
use Rattle.spv.proofs.TestLaws.{clash, or_told}
use Rattle.bundle.specs.Numbers.{listed, flat, output_count, fresh_numbers}
use Rattle.bundle.specs.Amounts.{Outpoint, Payment, AmountRuling, outputs_of, exist, fresh, spends, worth, worths}
use Rattle.bundle.proofs.AmountLaws.{worths-found}
use Rattle.bundle.proofs.NumberingLaws.{There, flat-bound, fresh-flat, exist_append, exist-found}
use Rattle.bundle.specs.Windows.{numbers_of, numbers_in, amounts_in, spender_from, sum_to, sum_at}
use Rattle.bundle.proofs.WindowLaws.{listed_append, fresh_new, sum_same, sum-listed}
use Rattle.bundle.specs.Walks.{amount_at}
use Rattle.bundle.proofs.PicturedLaws.{exist_head, exist_tail}
use Rattle.bundle.specs.Second.{fault_in}
use Rattle.bundle.specs.Payments.{no_payment}

pub take-map : {A B : Type 0} (f : A → B) (k : ℕ) (l : List A) → take k (map f l) ≡ map f (take k l)
take-map f zero l = refl
take-map f (suc k) [] = refl
take-map f (suc k) (x ∷ l) = ap (f x ∷◌) (take-map f k l)

map_append : {A B : Type 0} (f : A → B) (a b : List A) → map f (a ++ b) ≡ map f a ++ map f b
map_append f [] b = refl
map_append f (x ∷ a) b = ap (f x ∷◌) (map_append f a b)

-- ---- 27 by numbers

-- what transactions spend, by numbers
spends-numbers : (l ts : List Payment) → map (flat l) (spends ts) ≡ numbers_in (map (numbers_of l) ts)
unfolding spends numbers_in numbers_of
spends-numbers l [] = refl
spends-numbers l (t ∷ ts) = go t.anchored (spends-numbers l ts)
  where
    go : (b : Bool) → map (flat l) (spends ts) ≡ numbers_in (map (numbers_of l) ts)
        → map (flat l) (pick b (spends ts) (t.inputs ++ spends ts)) ≡ pick b [] (map (flat l) t.inputs) ++ numbers_in (map (numbers_of l) ts)
    go true e = e
    go false e = map_append (flat l) t.inputs (spends ts) ∙ ap (λ (r : List ℕ). map (flat l) t.inputs ++ r) e

exist-spends : (l ts : List Payment) → ((k : ℕ) → k < length ts → (get_or ts k no_payment).anchored ≡ false → exist l (get_or ts k no_payment).inputs ≡ true) → exist l (spends ts) ≡ true
unfolding spends
exist-spends l [] f = unfold exist in refl
exist-spends l (t ∷ ts) f = go t.anchored refl (exist-spends l ts (λ k h u. f (suc k) (omega arith) u))
  where
    go : (b : Bool) → t.anchored ≡ b → exist l (spends ts) ≡ true → exist l (pick b (spends ts) (t.inputs ++ spends ts)) ≡ true
    go true u e = e
    go false u e = exist_append l t.inputs (spends ts) (f 0 (omega arith) u) e

module _ (l : List Payment) (there : (k : ℕ) → k < length l → (get_or l k no_payment).anchored ≡ false → exist (take k l) (get_or l k no_payment).inputs ≡ true) where
  abbrev pub lists : List (List ℕ)
  lists = map (numbers_of l) l

  pub there-all : (k : ℕ) → k < length l → (get_or l k no_payment).anchored ≡ false → exist l (get_or l k no_payment).inputs ≡ true
  there-all k h u = ap (λ (m : List Payment). exist m (get_or l k no_payment).inputs) (sym (take-append-drop k l)) ∙ exist-found (take k l) (drop k l) (get_or l k no_payment).inputs (there k h u)

  -- the numbers of the k-th
  pub numbers-at : (k : ℕ) → k < length l → (get_or l k no_payment).anchored ≡ false → get_or lists k [] ≡ map (flat l) (get_or l k no_payment).inputs
  unfolding numbers_of
  numbers-at k h u = map_at (numbers_of l) l k no_payment [] h ∙ ap (λ (b : Bool). pick b [] (map (flat l) (get_or l k no_payment).inputs)) u

  pub fresh-is : (k : ℕ) → k < length l → (get_or l k no_payment).anchored ≡ false → fresh (spends (take k l)) (get_or l k no_payment).inputs ≡ fresh_numbers (numbers_in (take k lists)) (get_or lists k [])
  fresh-is k h u =
      fresh-flat l (spends (take k l)) (get_or l k no_payment).inputs
      (exist-spends l (take k l) (λ j g v. let low : j < k = omega (arith, g, length-take k l) in let e = get_or-take k l j no_payment low in rw e (there-all j (omega arith) (rw e at v))))
      (there-all k h u)
      ∙ ap₂ fresh_numbers (spends-numbers l (take k l) ∙ ap numbers_in (sym (take-map (numbers_of l) k l))) (sym (numbers-at k h u))

  -- ---- 28 by sums

  -- the amount of what an input spends
  worth-flat : (m : List Payment) (i : Outpoint) → There m i → get_or (amounts_in m) (flat m i) 0 ≡ worth m i
  unfolding worth outputs_of flat amounts_in
  worth-flat [] i h = absurd (omega arith)
  worth-flat (t ∷ m) i h = go (same t.id i.parent) h (worth-flat m i)
    where
      go : (b : Bool) → i.output < length (pick b t.outputs (outputs_of m i.parent)) → (There m i → get_or (amounts_in m) (flat m i) 0 ≡ get_or (outputs_of m i.parent) i.output 0)
          → get_or (t.outputs ++ amounts_in m) (pick b i.output (length t.outputs + flat m i)) 0 ≡ get_or (pick b t.outputs (outputs_of m i.parent)) i.output 0
      go true h f = get_or-append t.outputs (amounts_in m) 0 i.output h
      go false h f = get_or-append-add t.outputs (amounts_in m) (flat m i) 0 ∙ f h

  sum-worths : (inputs : List Outpoint) → exist l inputs ≡ true → sum_at (amount_at l) (map (flat l) inputs) ≡ worths l inputs
  unfolding sum_at worths
  sum-worths [] e = refl
  sum-worths (i ∷ inputs) e = ap₂ ◌+◌ (worth-flat l i (exist_head l i inputs e)) (sum-worths inputs (exist_tail l i inputs e))

  low-numbers : (inputs : List Outpoint) → exist l inputs ≡ true → (x : ℕ) → listed x (map (flat l) inputs) ≡ true → x < output_count l
  unfolding listed
  low-numbers [] e x h = clash false h refl
  low-numbers (i ∷ inputs) e x h = go (or_told (eqb (flat l i) x) (listed x (map (flat l) inputs)) h) (low-numbers inputs (exist_tail l i inputs e) x)
    where
      go : (eqb (flat l i) x ≡ true) ⊎ (listed x (map (flat l) inputs) ≡ true) → (listed x (map (flat l) inputs) ≡ true → x < output_count l) → x < output_count l
      go (inl p) f = let b = flat-bound l i (exist_head l i inputs e) in let q = eqb-true (flat l i) x p in omega arith
      go (inr p) f = f p

  pub numbers-low : (k : ℕ) → k < length l → (get_or l k no_payment).anchored ≡ false → (x : ℕ) → listed x (get_or lists k []) ≡ true → x < output_count l
  numbers-low k h u x e = low-numbers (get_or l k no_payment).inputs (there-all k h u) x (ap (listed x) (sym (numbers-at k h u)) ∙ e)

  -- of the k-th, if it spends nothing again: the outputs that it is the first to spend come to what its inputs are worth
  pub sum-is-worth : (k : ℕ) (spender : ℕ → ℕ) → k < length l → (get_or l k no_payment).anchored ≡ false → fresh_numbers (numbers_in (take k lists)) (get_or lists k []) ≡ true
      → ((x : ℕ) → eqb (spender x) k ≡ listed x (get_or lists k [])) → sum_to (λ x. pick (eqb (spender x) k) (amount_at l x) 0) (output_count l) ≡ worths (take k l) (get_or l k no_payment).inputs
  sum-is-worth k spender h u e f =
      sum_same (λ x. pick (eqb (spender x) k) (amount_at l x) 0) (λ x. pick (listed x (get_or lists k [])) (amount_at l x) 0) (output_count l) (λ x _. ap (λ (b : Bool). pick b (amount_at l x) 0) (f x))
      ∙ sum-listed (amount_at l) (output_count l) (numbers_in (take k lists)) (get_or lists k []) e (numbers-low k h u)
      ∙ ap (sum_at (amount_at l)) (numbers-at k h u) ∙ sum-worths (get_or l k no_payment).inputs (there-all k h u)
      ∙ ap (λ (m : List Payment). worths m (get_or l k no_payment).inputs) (sym (take-append-drop k l)) ∙ worths-found (take k l) (drop k l) (get_or l k no_payment).inputs (there k h u)

-- ---- who spends, of transactions that spend nothing again

spender_some : (k : ℕ) (ls : List (List ℕ)) (x : ℕ) → (spender_from k ls x ≡ 0) ⊎ (k ≤ spender_from k ls x)
unfolding spender_from
spender_some k [] x = inl refl
spender_some k (ns ∷ ls) x = go (listed x ns) (spender_some (suc k) ls x)
  where
    on : (spender_from (suc k) ls x ≡ 0) ⊎ (suc k ≤ spender_from (suc k) ls x) → (spender_from (suc k) ls x ≡ 0) ⊎ (k ≤ spender_from (suc k) ls x)
    on (inl e) = inl e
    on (inr e) = inr (omega arith)

    go : (b : Bool) → (spender_from (suc k) ls x ≡ 0) ⊎ (suc k ≤ spender_from (suc k) ls x) → (pick b k (spender_from (suc k) ls x) ≡ 0) ⊎ (k ≤ pick b k (spender_from (suc k) ls x))
    go true e = inr (omega arith)
    go false e = on e

spender_there : (k : ℕ) (ls : List (List ℕ)) (j x : ℕ) → j < length ls → listed x (numbers_in (take j ls)) ≡ false → listed x (get_or ls j []) ≡ true → spender_from k ls x ≡ k + j
unfolding spender_from numbers_in
spender_there k [] j x h e f = absurd (omega arith)
spender_there k (ns ∷ ls) zero x h e f = rw f (omega arith)
spender_there k (ns ∷ ls) (suc j) x h e f = go (listed x ns) refl (spender_there (suc k) ls j x (omega arith))
  where
    go : (b : Bool) → listed x ns ≡ b → (listed x (numbers_in (take j ls)) ≡ false → listed x (get_or ls j []) ≡ true → spender_from (suc k) ls x ≡ suc k + j) → pick b k (spender_from (suc k) ls x) ≡ k + suc j
    go true q g = clash (listed x (ns ++ numbers_in (take j ls))) (listed_append x ns (numbers_in (take j ls)) ∙ ap (λ (b : Bool). b || listed x (numbers_in (take j ls))) q) e
    go false q g = g (rw q at (sym (listed_append x ns (numbers_in (take j ls))) ∙ e)) f ∙ omega arith

spender_lists : (k : ℕ) (ls : List (List ℕ)) (j x : ℕ) → 1 ≤ k → spender_from k ls x ≡ k + j → listed x (get_or ls j []) ≡ true
unfolding spender_from
spender_lists k [] j x some e = absurd (omega arith)
spender_lists k (ns ∷ ls) zero x some e = go (listed x ns) refl (spender_some (suc k) ls x) e
  where
    go : (b : Bool) → listed x ns ≡ b → (spender_from (suc k) ls x ≡ 0) ⊎ (suc k ≤ spender_from (suc k) ls x) → pick b k (spender_from (suc k) ls x) ≡ k + 0 → listed x ns ≡ true
    go true q s e = q
    go false q (inl s) e = absurd (omega arith)
    go false q (inr s) e = absurd (omega arith)
spender_lists k (ns ∷ ls) (suc j) x some e = go (listed x ns) e (spender_lists (suc k) ls j x (omega arith))
  where
    go : (b : Bool) → pick b k (spender_from (suc k) ls x) ≡ k + suc j → (spender_from (suc k) ls x ≡ suc k + j → listed x (get_or ls j []) ≡ true) → listed x (get_or ls j []) ≡ true
    go true e f = absurd (omega arith)
    go false e f = f (omega arith)

pub spender_is : (k : ℕ) (ls : List (List ℕ)) (j : ℕ) → 1 ≤ k → j < length ls → fresh_numbers (numbers_in (take j ls)) (get_or ls j []) ≡ true → (x : ℕ) → eqb (spender_from k ls x) (k + j) ≡ listed x (get_or ls j [])
spender_is k ls j some h e x = go (listed x (get_or ls j [])) refl
  where
    go : (b : Bool) → listed x (get_or ls j []) ≡ b → eqb (spender_from k ls x) (k + j) ≡ b
    go true q = eq-eqb (spender_from k ls x) (k + j) (spender_there k ls j x h (fresh_new (numbers_in (take j ls)) (get_or ls j []) e x q) q)
    go false q = ne_eqb (spender_from k ls x) (k + j) (λ z. clash (listed x (get_or ls j [])) (spender_lists k ls j x some z) q)

-- ---- the first refusal, by places

drop_at : {A : Type 0} (l : List A) (k : ℕ) (d : A) → k < length l → drop k l ≡ get_or l k d ∷ drop (suc k) l
drop_at [] k d h = absurd (omega arith)
drop_at (x ∷ l) zero d h = refl
drop_at (x ∷ l) (suc k) d h = drop_at l k d (omega arith)

take_last : {A : Type 0} (l : List A) (k : ℕ) (d : A) → k < length l → take (suc k) l ≡ take k l ++ (get_or l k d ∷ [])
take_last [] k d h = absurd (omega arith)
take_last (x ∷ l) zero d h = refl
take_last (x ∷ l) (suc k) d h = ap (x ∷◌) (take_last l k d (omega arith))

module _ (rule : List Payment → Payment → AmountRuling) (n : ℕ) (earlier : List Payment) (x : Payment) (l : List Payment) where
  pub fault-refuses : (why : Rejection) → rule earlier x ≡ refused why → fault_in rule (suc n) earlier (x ∷ l) ≡ refused (blaming (length earlier) why)
  unfolding fault_in
  fault-refuses why e = rw (fault_in, e)

  pub fault-passes : rule earlier x ≡ accepted tt → fault_in rule (suc n) earlier (x ∷ l) ≡ fault_in rule n (earlier ++ (x ∷ [])) l
  unfolding fault_in
  fault-passes e = rw (fault_in, e)

module _ (rule : List Payment → Payment → AmountRuling) (l : List Payment) where
  abbrev pub fault_at : ℕ → AmountRuling
  fault_at k = fault_in rule (length l - k) (take k l) (drop k l)

  pub fault-end : (k : ℕ) → length l ≤ k → fault_at k ≡ accepted tt
  unfolding fault_in
  fault-end k h = let none : length l - k ≡ 0 = omega arith in rw none

  module _ (k : ℕ) (low : k < length l) where
    split : fault_at k ≡ fault_in rule (suc (length l - suc k)) (take k l) (get_or l k no_payment ∷ drop (suc k) l)
    split = let more : length l - k ≡ suc (length l - suc k) = omega arith in ap₂ (λ (n : ℕ) (d : List Payment). fault_in rule n (take k l) d) more (drop_at l k no_payment low)

    pub fault-here : (why : Rejection) → rule (take k l) (get_or l k no_payment) ≡ refused why → fault_at k ≡ refused (blaming k why)
    fault-here why e =
        let size : length (take k l) ≡ k = length-take k l ∙ omega arith in
        split ∙ fault-refuses rule (length l - suc k) (take k l) (get_or l k no_payment) (drop (suc k) l) why e ∙ ap (λ (n : ℕ). refused (blaming n why)) size

    pub fault_on : rule (take k l) (get_or l k no_payment) ≡ accepted tt → fault_at k ≡ fault_at (k + 1)
    fault_on e =
        let one : suc k ≡ k + 1 = omega arith in
        split ∙ fault-passes rule (length l - suc k) (take k l) (get_or l k no_payment) (drop (suc k) l) e
        ∙ ap (λ (a : List Payment). fault_in rule (length l - suc k) a (drop (suc k) l)) (sym (take_last l k no_payment low)) ∙ ap fault_at one
