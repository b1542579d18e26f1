-- Laws of walks and sums.
use Prim.Native.Nat.{ℕ, zero, suc, ◌+◌, ◌-◌, ◌*◌, ◌<◌, ◌≤◌}
use mathlib.Core.Path.{◌≡◌, refl, sym, ap, ap₂, ◌∙◌, subst}
use mathlib.Core.Bool.{Bool, true, false}
use mathlib.Core.List.{List, [], ◌∷◌, ◌++◌, append_assoc}
use native.Mathlib.Omega.{arith}
use lib.Dec.{ltb, leb, eqb}
use lib.ListN.{length, get_or, set, take, length-set, length-append, get_or-append}
use lib.Seq.{get_or-set_same, get_or-set_other, get_or-append-add, take_all}
use borrow.Author.Tests.{ltb-true, ltb-false, leb-true, leb-false, le-leb, lt-ltb, lt-leb, le-ltb, eqb-true, eqb-false, eq-eqb, ne_eqb}
use Rattle.format.specs.Parse.{ok, fault, pick, many, ◌passing◌else◌}
use Rattle.format.proofs.ParseLaws.{onward-told, passing_told, many-told}
use Rattle.format.specs.Field.{le8, number}
use Rattle.format.specs.Transaction.{takes, output_field, outputs_field}
use Rattle.format.specs.Refusals.{BAD_AMOUNT}
use Rattle.bundle.specs.declared.sums.Walk.{Walk}
use Rattle.bundle.specs.Amounts.{Payment, total}
use Rattle.bundle.specs.Payments.{no_payment}
use Rattle.bundle.proofs.Balance.{grand}
use Rattle.bundle.proofs.AmountBounds.{Modest, grand_fits}
use native.Mathlib.Numerals.{add-one}
use Rattle.bundle.specs.Numbers.{output_count}
use Rattle.bundle.specs.Windows.{amounts_in, sum_to}
use Rattle.bundle.specs.FlatForm.{column}
use Rattle.bundle.specs.Walks.{walk_at, onward_of, amount_at, Counted, Here, Says, Sums}

-- ---- counts and amounts by place

pub count-take : (l : List Payment) (k : ℕ) → k < length l → output_count (take (suc k) l) ≡ output_count (take k l) + length (get_or l k no_payment).outputs
unfolding output_count
count-take [] k h = absurd (omega arith)
count-take (t ∷ l) zero h = omega arith
count-take (t ∷ l) (suc k) h = omega (arith, count-take l k (omega arith))

count_le : (l : List Payment) (k : ℕ) → output_count (take k l) ≤ output_count l
unfolding output_count
count_le [] zero = omega arith
count_le [] (suc k) = omega arith
count_le (t ∷ l) zero = omega arith
count_le (t ∷ l) (suc k) = omega (arith, count_le l k)

pub amounts-length : (l : List Payment) → length (amounts_in l) ≡ output_count l
unfolding amounts_in output_count
amounts-length [] = refl
amounts-length (t ∷ l) = length-append t.outputs (amounts_in l) ∙ ap (λ (n : ℕ). length t.outputs + n) (amounts-length l)

amount_in : (l : List Payment) (k j : ℕ) → k < length l → j < length (get_or l k no_payment).outputs → amount_at l (output_count (take k l) + j) ≡ get_or (get_or l k no_payment).outputs j 0
unfolding amounts_in output_count
amount_in [] k j h g = absurd (omega arith)
amount_in (t ∷ l) zero j h g = let e : 0 + j ≡ j = omega arith in ap (λ (i : ℕ). get_or (t.outputs ++ amounts_in l) i 0) e ∙ get_or-append t.outputs (amounts_in l) 0 j g
amount_in (t ∷ l) (suc k) j h g =
    let e : (length t.outputs + output_count (take k l)) + j ≡ length t.outputs + (output_count (take k l) + j) = omega arith in
    ap (λ (i : ℕ). get_or (t.outputs ++ amounts_in l) i 0) e ∙ get_or-append-add t.outputs (amounts_in l) (output_count (take k l) + j) 0 ∙ amount_in l k j (omega arith) g

pub total_last : (d : List ℕ) (a : ℕ) → total (d ++ (a ∷ [])) ≡ total d + a
unfolding total
total_last [] a = omega arith
total_last (x ∷ d) a = omega (arith, total_last d a)

-- ---- the walk

-- the fields of a walk
module _ (numbers : List ℕ) (w : Walk) where
  pub onward-same : (w.left ≡ 0 → ⊥) → w ≡ onward_of numbers w
  unfolding onward_of
  onward-same ne = rw (ne_eqb w.left 0 ne)

  module _ (e : w.left ≡ 0) where
    pub onward_over : 256 ≤ w.entry → w ≡ onward_of numbers w
    unfolding onward_of
    onward_over h = rw (eq-eqb w.left 0 e, le-ltb w.entry 256 h)

    module _ (h : w.entry < 256) where
      pub onward_short : length numbers < 10 * w.entry + 20 → w ≡ onward_of numbers w
      unfolding onward_of
      onward_short g = rw (eq-eqb w.left 0 e, lt-ltb w.entry 256 h, lt-leb (10 * w.entry + 20) (length numbers) g)

      pub onward-next : 10 * w.entry + 20 ≤ length numbers → walk_at numbers (w.entry + 1) ≡ onward_of numbers w
      unfolding onward_of
      onward-next g = rw (eq-eqb w.left 0 e, lt-ltb w.entry 256 h, le-leb (10 * w.entry + 20) (length numbers) g)

-- an output that was read under a limit is read without one
pub unlimited_read : (s : List ℕ) (at t : ℕ) {a q : ℕ} → output_field (takes true t) s at ≡ ok a q → output_field (takes false 0) s at ≡ ok a q
unfolding output_field takes
unlimited_read s at t e =
    let x = onward-told ((number le8 8 passing (takes true t) else BAD_AMOUNT) s at) _ e in
    let p = passing_told (number le8 8) (takes true t) BAD_AMOUNT s at x.2 in
    rw p.0 x.3

module _ (s numbers : List ℕ) (l : List Payment) (c : Counted s numbers l) where
  -- the outputs of the k-th transaction
  pub here-start : (k : ℕ) → k < length l → Here s l (walk_at numbers k) (output_count (take k l))
  unfolding walk_at outputs_field total
  here-start k h = record {
    low = h;
    done = [];
    rest = (get_or l k no_payment).outputs;
    parts = refl;
    left_is = c.outputs k h;
    end = (c.read k h).0;
    read = (c.read k h).1;
    number = omega arith;
  }

  started : (k : ℕ) → k < length l → 1 ≤ (walk_at numbers k).left
  unfolding walk_at
  started k g = omega (arith, c.outputs k g, c.some k g)

  -- the next output there is
  pub here-onward : (w : Walk) (m : ℕ) → Here s l w m → m < output_count l → Here s l (onward_of numbers w) m × (1 ≤ (onward_of numbers w).left)
  here-onward w m h low = go (eqb w.left 0) refl
    where
      go : (t : Bool) → eqb w.left 0 ≡ t → Here s l (onward_of numbers w) m × (1 ≤ (onward_of numbers w).left)
      go false e =
          let same = onward-same numbers w (eqb-false w.left 0 e) in
          subst (λ (x : Walk). Here s l x m × (1 ≤ x.left)) same (h, some (eqb-false w.left 0 e))
        where
          some : (w.left ≡ 0 → ⊥) → 1 ≤ w.left
          some ne = omega arith
      go true e =
          let none = eqb-true w.left 0 e in
          let empty : length h.rest ≡ 0 = sym h.left_is ∙ none in
          let all : length h.done ≡ length (get_or l w.entry no_payment).outputs = omega (arith, empty, length-append h.done h.rest, ap length h.parts) in
          let at : output_count (take (suc w.entry) l) ≡ m = count-take l w.entry h.low ∙ omega (arith, all, h.number) in
          next at (inside at) none
        where
          inside : output_count (take (suc w.entry) l) ≡ m → w.entry + 1 < length l
          inside at = below (ltb (w.entry + 1) (length l)) refl
            where
              whole : length l ≤ suc w.entry → take (suc w.entry) l ≡ l
              whole g = take_all (suc w.entry) l g

              below : (t : Bool) → ltb (w.entry + 1) (length l) ≡ t → w.entry + 1 < length l
              below true g = ltb-true (w.entry + 1) (length l) g
              below false g = absurd (omega (arith, at, low, ap output_count (whole (let f = ltb-false (w.entry + 1) (length l) g in omega arith))))

          next : output_count (take (suc w.entry) l) ≡ m → w.entry + 1 < length l → w.left ≡ 0 → Here s l (onward_of numbers w) m × (1 ≤ (onward_of numbers w).left)
          next at g none =
              let few = c.few in
              let long = c.long in
              let is = onward-next numbers w none (omega arith) (omega arith) in
              let one : w.entry + 1 ≡ suc w.entry = omega arith in
              subst (λ (x : Walk). Here s l x m × (1 ≤ x.left)) is
              (subst (λ (n : ℕ). Here s l (walk_at numbers (w.entry + 1)) n) (ap (λ (k : ℕ). output_count (take k l)) one ∙ at) (here-start (w.entry + 1) g), started (w.entry + 1) g)

  -- an output is read
  pub here_reads : (w : Walk) (m : ℕ) → Here s l w m → 1 ≤ w.left → (q : ℕ) × (output_field (takes false 0) s w.next.at ≡ ok (amount_at l m) q) × Here s l (record { entry = w.entry; left = w.left - 1; next = record { at = q } }) (m + 1)
  here_reads w m h some = by h.rest refl
    where
      by : (rest : List ℕ) → h.rest ≡ rest → (q : ℕ) × (output_field (takes false 0) s w.next.at ≡ ok (amount_at l m) q) × Here s l (record { entry = w.entry; left = w.left - 1; next = record { at = q } }) (m + 1)
      by [] e = absurd (omega (arith, some, h.left_is, ap length e))
      by (a ∷ rest) e =
          let read : many (λ t. output_field (takes true t)) ◌+◌ (suc (length rest)) (total h.done) s w.next.at ≡ ok (a ∷ rest) h.end = rw e at h.read in
          let x = many-told (λ t. output_field (takes true t)) ◌+◌ (length rest) (total h.done) s w.next.at read in
          step x.0 x.1 x.2 x.3 x.4 x.5
        where
          parts : h.done ++ (a ∷ rest) ≡ (get_or l w.entry no_payment).outputs
          parts = rw e at h.parts

          here : amount_at l m ≡ a
          here =
              let inside : length h.done < length (get_or l w.entry no_payment).outputs = omega (arith, ap length parts, length-append h.done (a ∷ rest)) in
              let none : length h.done ≡ length h.done + 0 = omega arith in
              ap (amount_at l) (sym h.number) ∙ amount_in l w.entry (length h.done) h.low inside ∙ ap (λ (o : List ℕ). get_or o (length h.done) 0) (sym parts)
              ∙ ap (λ (i : ℕ). get_or (h.done ++ (a ∷ rest)) i 0) none ∙ get_or-append-add h.done (a ∷ rest) 0 0

          more : (d : List ℕ) → total (d ++ (a ∷ [])) ≡ total d + a
          more d = total_last d a

          step : (b r : ℕ) (others : List ℕ) → output_field (takes true (total h.done)) s w.next.at ≡ ok b r
              → many (λ t. output_field (takes true t)) ◌+◌ (length rest) (total h.done + b) s r ≡ ok others h.end → b ∷ others ≡ a ∷ rest
              → (q : ℕ) × (output_field (takes false 0) s w.next.at ≡ ok (amount_at l m) q) × Here s l (record { entry = w.entry; left = w.left - 1; next = record { at = q } }) (m + 1)
          step b r others f g is =
              let eb : b ≡ a = cc in
              let eo : others ≡ rest = cc in (
                r,
                unlimited_read s w.next.at (total h.done) f ∙ ap (λ (v : ℕ). ok v r) (eb ∙ sym here),
                record {
                  low = h.low;
                  done = h.done ++ (a ∷ []);
                  rest = rest;
                  parts = append_assoc h.done (a ∷ []) rest ∙ parts;
                  left_is = omega (arith, h.left_is, ap length e);
                  end = h.end;
                  read = ap (λ (t : ℕ). many (λ t. output_field (takes true t)) ◌+◌ (length rest) t s r) (more h.done ∙ ap (λ (v : ℕ). total h.done + v) (sym eb)) ∙ g ∙ ap (λ (o : List ℕ). ok o h.end) eo;
                  number = omega (arith, h.number, length-append h.done (a ∷ []));
                },
              )

-- ---- sums

sum_le : (f g : ℕ → ℕ) (n : ℕ) → ((x : ℕ) → f x ≤ g x) → sum_to f n ≤ sum_to g n
unfolding sum_to
sum_le f g zero h = omega arith
sum_le f g (suc n) h = omega (arith, sum_le f g n h, h n)

sum_more : (f : ℕ → ℕ) (m n : ℕ) → m ≤ n → sum_to f m ≤ sum_to f n
unfolding sum_to
sum_more f zero zero h = omega arith
sum_more f (suc m) zero h = absurd (omega arith)
sum_more f m (suc n) h = go (leb m n) refl (sum_more f m n)
  where
    at : m ≡ suc n → sum_to f m ≤ sum_to f n + f n
    at is = rw is (omega arith)

    go : (t : Bool) → leb m n ≡ t → (m ≤ n → sum_to f m ≤ sum_to f n) → sum_to f m ≤ sum_to f n + f n
    go true e g = omega (arith, g (leb-true m n e))
    go false e g = at (omega (arith, h, leb-false m n e))

sum_first : (f : ℕ → ℕ) (n : ℕ) → sum_to f (suc n) ≡ f 0 + sum_to (λ x. f (suc x)) n
unfolding sum_to
sum_first f zero = omega arith
sum_first f (suc n) = omega (arith, sum_first f n)

sum-all : (vs : List ℕ) → sum_to (λ x. get_or vs x 0) (length vs) ≡ total vs
unfolding total
sum-all [] = unfold sum_to in refl
sum-all (a ∷ vs) = sum_first (λ x. get_or (a ∷ vs) x 0) (length vs) ∙ ap (λ (n : ℕ). a + n) (sum-all vs)

total_append : (a b : List ℕ) → total (a ++ b) ≡ total a + total b
unfolding total
total_append [] b = omega arith
total_append (x ∷ a) b = omega (arith, total_append a b)

grand_is : (l : List Payment) → total (amounts_in l) ≡ grand l
unfolding amounts_in grand total
grand_is [] = refl
grand_is (t ∷ l) = total_append t.outputs (amounts_in l) ∙ ap (λ (n : ℕ). total t.outputs + n) (grand_is l)

module _ (l : List Payment) (modest : Modest l) (few : length l ≤ 256) (spender : ℕ → ℕ) (m : ℕ) (sums : List ℕ) (is : Sums l spender m sums) where
  -- what is added fits 64 bits
  pub sums_fit : m < output_count l → (k : ℕ) → k < 256 → get_or sums k 0 + amount_at l m < 9223372036854775808
  sums_fit h k low =
      let a = is.sum_is k low in
      let b = sum_le (λ x. pick (eqb (spender x) k) (amount_at l x) 0) (amount_at l) m (λ x. part (eqb (spender x) k) (amount_at l x)) in
      let c = sum_more (amount_at l) (suc m) (output_count l) h in
      let d : sum_to (amount_at l) (output_count l) ≡ grand l = ap (sum_to (amount_at l)) (sym (amounts-length l)) ∙ sum-all (amounts_in l) ∙ grand_is l in
      let e = grand_fits l modest few in
      let f : sum_to (amount_at l) (suc m) ≡ sum_to (amount_at l) m + amount_at l m = unfold sum_to in refl in
      omega arith
    where
      part : (t : Bool) (v : ℕ) → pick t v 0 ≤ v
      part true v = omega arith
      part false v = omega arith

  -- one output more, added to the sum of its spender
  pub sums-step : (sums' : List ℕ) → spender m < 256 → sums' ≡ set sums (spender m) (get_or sums (spender m) 0 + amount_at l m) → Sums l spender (m + 1) sums'
  unfolding sum_to
  sums-step sums' low e = record {
    size_is = ap length e ∙ length-set sums (spender m) (get_or sums (spender m) 0 + amount_at l m) ∙ is.size_is;
    sum_is = λ k h. ap (λ (r : List ℕ). get_or r k 0) e ∙ go k h (eqb (spender m) k) refl ∙ ap (sum_to (λ x. pick (eqb (spender x) k) (amount_at l x) 0)) (sym (add-one m));
  }
    where
      go : (k : ℕ) → k < 256 → (t : Bool) → eqb (spender m) k ≡ t
          → get_or (set sums (spender m) (get_or sums (spender m) 0 + amount_at l m)) k 0 ≡ sum_to (λ x. pick (eqb (spender x) k) (amount_at l x) 0) m + pick (eqb (spender m) k) (amount_at l m) 0
      go k h true q =
          let at = eqb-true (spender m) k q in
          ap (λ (j : ℕ). get_or (set sums (spender m) (get_or sums (spender m) 0 + amount_at l m)) j 0) (sym at)
          ∙ get_or-set_same sums (spender m) (get_or sums (spender m) 0 + amount_at l m) 0 (omega (arith, low, is.size_is))
          ∙ ap (λ (j : ℕ). get_or sums j 0 + amount_at l m) at ∙ ap (λ (v : ℕ). v + amount_at l m) (is.sum_is k h)
          ∙ ap (λ (t : Bool). sum_to (λ x. pick (eqb (spender x) k) (amount_at l x) 0) m + pick t (amount_at l m) 0) (sym q)
      go k h false q =
          get_or-set_other sums (spender m) k (get_or sums (spender m) 0 + amount_at l m) 0 (λ z. eqb-false (spender m) k q (sym z)) ∙ is.sum_is k h
          ∙ omega arith ∙ ap (λ (t : Bool). sum_to (λ x. pick (eqb (spender x) k) (amount_at l x) 0) m + pick t (amount_at l m) 0) (sym q)

-- ---- a loop over outputs

module _ (s numbers marks : List ℕ) (count : ℕ) (walk₀ : Walk) (sums₀ : List ℕ) where
  -- j of them are added
  abbrev pub Adds : ℕ → List ℕ → Walk → Type 0
  Adds j sums walk =
      (l : List Payment) (spender : ℕ → ℕ) (m : ℕ) → Counted s numbers l → Here s l walk₀ m → m + count ≤ output_count l → Says marks count spender m → Sums l spender m sums₀
      → Sums l spender (m + j) sums × Here s l walk (m + j)

  pub adds_start : Adds 0 sums₀ walk₀
  adds_start l spender m c h f y z = let e : m ≡ m + 0 = omega arith in subst (λ (n : ℕ). Sums l spender n sums₀ × Here s l walk₀ n) e (z, h)

  module _ {j : ℕ} {sums : List ℕ} {walk : Walk} (adds : Adds j sums walk) where
    pub adds_end : j ≤ count → count ≤ j → Adds count sums walk
    adds_end a b = let e : j ≡ count = omega arith in subst (λ (n : ℕ). Adds n sums walk) e adds

    module _ (low : j < count) {w : Walk} (is : w ≡ onward_of numbers walk) where
      -- the next output is read
      reads : (l : List Payment) (spender : ℕ → ℕ) (m : ℕ) → Counted s numbers l → Here s l walk₀ m → m + count ≤ output_count l → Says marks count spender m → Sums l spender m sums₀
          → (1 ≤ w.left) × ((q : ℕ) × (output_field (takes false 0) s w.next.at ≡ ok (amount_at l (m + j)) q) × Here s l (record { entry = w.entry; left = w.left - 1; next = record { at = q } }) (m + j + 1))
      reads l spender m c h f y z =
          let x = adds l spender m c h f y z in
          let o = here-onward s numbers l c walk (m + j) x.1 (omega arith) in
          subst (λ (v : Walk). (1 ≤ v.left) × ((q : ℕ) × (output_field (takes false 0) s v.next.at ≡ ok (amount_at l (m + j)) q) × Here s l (record { entry = v.entry; left = v.left - 1; next = record { at = q } }) (m + j + 1))) (sym is)
          (o.1, here_reads s numbers l c (onward_of numbers walk) (m + j) o.0 o.1)

      pub adds_stuck : {k q : ℕ} → output_field (takes false 0) s w.next.at ≡ fault k q → Adds count sums walk
      adds_stuck e l spender m c h f y z = absurd (let r = reads l spender m c h f y z in let g = r.1.1 in let n : ◌≡◌ {A = ℕ} 0 1 = cc in omega arith)

      pub adds_none : w.left < 1 → Adds count sums walk
      adds_none e l spender m c h f y z = absurd (omega (arith, e, (reads l spender m c h f y z).0))

      pub adds_on : {amount q k : ℕ} {sums' : List ℕ} → output_field (takes false 0) s w.next.at ≡ ok amount q → k ≡ get_or marks j 0
          → (k < length sums → get_or sums k 0 + amount < 9223372036854775808 → sums' ≡ set sums k (get_or sums k 0 + amount))
          → Adds (j + 1) sums' (record { entry = w.entry; left = w.left - 1; next = record { at = q } })
      adds_on {amount} {q} {k} {sums'} e named g l spender m c h f y z =
          let x = adds l spender m c h f y z in
          let r = reads l spender m c h f y z in
          go x.0 r.1.0 r.1.1 r.1.2 (named ∙ (y j low).0, (y j low).1)
        where
          go : Sums l spender (m + j) sums → (n : ℕ) → output_field (takes false 0) s w.next.at ≡ ok (amount_at l (m + j)) n
              → Here s l (record { entry = w.entry; left = w.left - 1; next = record { at = n } }) (m + j + 1) → (k ≡ spender (m + j)) × (spender (m + j) < 256)
              → Sums l spender (m + (j + 1)) sums' × Here s l (record { entry = w.entry; left = w.left - 1; next = record { at = q } }) (m + (j + 1))
          go su n read here (mark, less) =
              let ea : amount ≡ amount_at l (m + j) = cc in
              let en : n ≡ q = cc in
              let fit = sums_fit l c.modest c.few spender (m + j) sums su (omega arith) (spender (m + j)) less in
              let wide : k < length sums = omega (arith, mark, less, su.size_is) in
              let there : get_or sums k 0 ≡ get_or sums (spender (m + j)) 0 = ap (λ (i : ℕ). get_or sums i 0) mark in
              let new = g wide (omega arith) in
              let one : m + j + 1 ≡ m + (j + 1) = omega arith in
              subst (λ (t : ℕ). Sums l spender t sums' × Here s l (record { entry = w.entry; left = w.left - 1; next = record { at = q } }) t) one (
                sums-step l c.modest c.few spender (m + j) sums su sums' less (new ∙ ap₂ (λ (k v : ℕ). set sums k (get_or sums k 0 + v)) mark ea),
                subst (λ (t : ℕ). Here s l (record { entry = w.entry; left = w.left - 1; next = record { at = t } }) (m + j + 1)) en here,
              )

-- the first output of a transaction
pub walk_is : (numbers : List ℕ) (k : ℕ) → record { entry = k; left = column numbers 5 k; next = record { at = column numbers 9 k } } ≡ walk_at numbers k
unfolding walk_at
walk_is numbers k = refl
