-- Laws of the first refusal by sums.
use Prim.Native.Nat.{ℕ, ◌+◌, ◌-◌, ◌<◌, ◌≤◌}
use mathlib.Core.Path.{◌≡◌, refl, sym, ap, ap₂, ◌∙◌}
use mathlib.Core.Bool.{Bool, true, false, not, ◌&&◌}
use mathlib.Core.List.{List, []}
use native.Mathlib.Omega.{arith}
use native.Mathlib.Nat.{sub-zero}
use lib.Dec.{ltb, eqb}
use lib.ListN.{length, get_or, take}
use borrow.Author.Tests.{lt-ltb, le-ltb, eqb-true, eqb-false, eq-eqb, ne_eqb, not-true, not-false}
use Rattle.format.specs.Parse.{pick}
use Rattle.std.specs.Prelude.{Ok, Err}
use Rattle.format.specs.Refusals.{SPENT_TWICE, TOO_LITTLE}
use Rattle.spv.specs.Result.{accepted, refused, carrying, blaming}
use Rattle.bundle.specs.Amounts.{Payment, passes, refuses, fresh, spends, enough}
use Rattle.bundle.specs.Payments.{no_payment}
use Rattle.bundle.proofs.AmountBounds.{enough-code}
use Rattle.bundle.specs.FlatForm.{column}
use Rattle.bundle.specs.Pass.{amounts_of, is_enough, Settles}
use Rattle.bundle.specs.Second.{second, fault_in}
use Rattle.bundle.proofs.SecondLaws.{fault_at, fault-end, fault-here, fault_on}

-- the test, by its parts
module _ (fee anchored out sum : ℕ) where
  pub enough-anchored : (anchored ≡ 0 → ⊥) → true ≡ is_enough fee anchored out sum
  unfolding is_enough
  enough-anchored ne = rw (ne_eqb anchored 0 ne)

  module _ (e : anchored ≡ 0) where
    pub enough_less : sum ≤ out → false ≡ is_enough fee anchored out sum
    unfolding is_enough
    enough_less h = rw (eq-eqb anchored 0 e, le-ltb out sum h)

    pub enough-more : out < sum → ltb fee (sum - out) ≡ is_enough fee anchored out sum
    unfolding is_enough
    enough-more h = rw (eq-eqb anchored 0 e, lt-ltb out sum h)

-- how one transaction stands
module _ (fee : ℕ) (earlier : List Payment) (t : Payment) where
  stands-anchored : t.anchored ≡ true → second fee earlier t ≡ accepted tt
  unfolding second
  stands-anchored u = ap (λ (b : Bool). pick b passes (pick (fresh (spends earlier) t.inputs) (pick (enough fee earlier t) passes (refuses TOO_LITTLE)) (refuses SPENT_TWICE))) u

  module _ (u : t.anchored ≡ false) where
    free : second fee earlier t ≡ pick (fresh (spends earlier) t.inputs) (pick (enough fee earlier t) passes (refuses TOO_LITTLE)) (refuses SPENT_TWICE)
    unfolding second
    free = ap (λ (b : Bool). pick b passes (pick (fresh (spends earlier) t.inputs) (pick (enough fee earlier t) passes (refuses TOO_LITTLE)) (refuses SPENT_TWICE))) u

    stands-again : fresh (spends earlier) t.inputs ≡ false → second fee earlier t ≡ refuses SPENT_TWICE
    stands-again f = free ∙ ap (λ (b : Bool). pick b (pick (enough fee earlier t) passes (refuses TOO_LITTLE)) (refuses SPENT_TWICE)) f

    stands_by : fresh (spends earlier) t.inputs ≡ true → (b : Bool) → enough fee earlier t ≡ b → second fee earlier t ≡ pick b passes (refuses TOO_LITTLE)
    stands_by f b e = free ∙ ap (λ (c : Bool). pick c (pick (enough fee earlier t) passes (refuses TOO_LITTLE)) (refuses SPENT_TWICE)) f ∙ ap (λ (c : Bool). pick c passes (refuses TOO_LITTLE)) e

module _ (numbers sums : List ℕ) (fee n first : ℕ) where
  -- those below k pass
  abbrev pub Clear : ℕ → Type 0
  Clear k = (l : List Payment) → Settles numbers sums fee n first l → (k ≤ first) × (fault_in (second fee) n [] l ≡ fault_at (second fee) l k)

  pub clear-start : Clear 0
  clear-start l w = (omega arith, ap (λ (m : ℕ). fault_in (second fee) m [] l) (sym w.count ∙ sym (sub-zero (length l))))

  module _ {k : ℕ} (clear : Clear k) where
    pub clear-end : n ≤ k → (l : List Payment) → Settles numbers sums fee n first l → amounts_of (Ok tt) ≡ fault_in (second fee) n [] l
    unfolding amounts_of
    clear-end h l w = sym ((clear l w).1 ∙ fault-end (second fee) l k (omega (arith, h, w.count)))

    module _ (low : k < n) where
      pub clear-again : k ≡ first → (l : List Payment) → Settles numbers sums fee n first l → amounts_of (Err (blaming k (carrying SPENT_TWICE 0))) ≡ fault_in (second fee) n [] l
      unfolding amounts_of
      clear-again is l w =
          let x = w.again (omega arith) in
          let at : second fee (take k l) (get_or l k no_payment) ≡ refuses SPENT_TWICE = stands-again fee (take k l) (get_or l k no_payment) (rw (← is) at x.0) (rw (← is) at x.1) in
          sym ((clear l w).1 ∙ fault-here (second fee) l k (omega (arith, low, w.count)) (carrying SPENT_TWICE 0) at)

      module _ (apart : k ≡ first → ⊥) {r : Bool} (is : r ≡ is_enough fee (column numbers 3 k) (column numbers 6 k) (get_or sums k 0)) where
        -- what the test says of a transaction that is not anchored
        by_test : (l : List Payment) → Settles numbers sums fee n first l → column numbers 3 k ≡ 0 → second fee (take k l) (get_or l k no_payment) ≡ pick r passes (refuses TOO_LITTLE)
        unfolding is_enough
        by_test l w z =
            let u = w.unanchored k low z in
            let less : k < first = (let q = (clear l w).0 in strictly q) in
            stands_by fee (take k l) (get_or l k no_payment) u (w.clean k low less u) r
            (enough-code fee (take k l) (get_or l k no_payment)
            ∙ ap₂ (λ (o i : ℕ). ltb o i && ltb fee (i - o)) (sym (w.totals k low)) (sym (w.sum k low less u))
            ∙ sym (is ∙ ap (λ (b : Bool). pick b (ltb (column numbers 6 k) (get_or sums k 0) && ltb fee (get_or sums k 0 - column numbers 6 k)) true) (eq-eqb (column numbers 3 k) 0 z)))
          where
            strictly : k ≤ first → k < first
            strictly q = omega arith

        pub clear-little : not r ≡ true → (l : List Payment) → Settles numbers sums fee n first l → amounts_of (Err (blaming k (carrying TOO_LITTLE 0))) ≡ fault_in (second fee) n [] l
        unfolding amounts_of is_enough
        clear-little no_more l w = go (eqb (column numbers 3 k) 0) refl
          where
            go : (b : Bool) → eqb (column numbers 3 k) 0 ≡ b → refused (blaming k (carrying TOO_LITTLE 0)) ≡ fault_in (second fee) n [] l
            go true z = sym ((clear l w).1 ∙ fault-here (second fee) l k (omega (arith, low, w.count)) (carrying TOO_LITTLE 0) (by_test l w (eqb-true (column numbers 3 k) 0 z) ∙ ap (λ (b : Bool). pick b passes (refuses TOO_LITTLE)) (not-true r no_more)))
            go false z = absurd (let t : r ≡ true = is ∙ ap (λ (b : Bool). pick b (ltb (column numbers 6 k) (get_or sums k 0) && ltb fee (get_or sums k 0 - column numbers 6 k)) true) z in let f = not-true r no_more in let y : ◌≡◌ {A = ℕ} 0 1 = cc in omega arith)

        pub clear_on : not r ≡ false → Clear (k + 1)
        clear_on more l w = (let q = (clear l w).0 in strictly q, (clear l w).1 ∙ fault_on (second fee) l k (omega (arith, low, w.count)) (go (eqb (column numbers 3 k) 0) refl))
          where
            strictly : k ≤ first → k + 1 ≤ first
            strictly q = omega arith

            go : (b : Bool) → eqb (column numbers 3 k) 0 ≡ b → second fee (take k l) (get_or l k no_payment) ≡ accepted tt
            go true z = by_test l w (eqb-true (column numbers 3 k) 0 z) ∙ ap (λ (b : Bool). pick b passes (refuses TOO_LITTLE)) (not-false r more)
            go false z = stands-anchored fee (take k l) (get_or l k no_payment) (w.anchored k low (eqb-false (column numbers 3 k) 0 z))
