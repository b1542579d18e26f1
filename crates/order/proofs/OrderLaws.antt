-- Laws of Item 12's definitions.
use Prim.Native.Nat.{ℕ, zero, suc, ◌+◌, ◌<◌, ◌≤◌}
use mathlib.Core.Path.{◌≡◌, refl, sym, ◌∙◌}
use mathlib.Core.Bool.{Bool, true, false, not, ◌&&◌, ◌||◌}
use mathlib.Core.List.{List, [], ◌∷◌, ◌++◌, append_assoc, append-nil}
use Rattle.std.specs.Prelude.{Option, None, Some}
use native.Mathlib.Decide.{dec_lt}
use native.Mathlib.Omega.{arith}
use lib.Dec.{ltb}
use lib.ListN.{length, get_or, take, length-append}
use borrow.Author.Tests.{ltb-true, lt-ltb, eqb-true, eq-eqb, not-true}
use Rattle.format.specs.Parse.{pick}
use Rattle.spv.proofs.TestLaws.{and_left, and_right, and_both, implies_told, told_implies}
use Rattle.order.specs.Listed.{listed}
use Rattle.order.specs.Order.{rested, ready, check_from, first_from, first, ahead, placing}

module _ (depends : ℕ → ℕ → Bool) where
  pub rested-told : (m : ℕ) (placed : List ℕ) (i : ℕ) → rested depends m placed i ≡ true → (j : ℕ) → j < m → depends i j ≡ true → listed j placed ≡ true
  unfolding rested
  rested-told zero placed i e j h d = absurd (omega arith)
  rested-told (suc m) placed i e j h d = go (dec_lt j m) (rested-told m placed i (and_left (rested depends m placed i) (not (depends i m) || listed m placed) e) j)
    where
      last : j ≡ m → listed j placed ≡ true
      last q = rw q (implies_told (depends i m) (listed m placed) (and_right (rested depends m placed i) (not (depends i m) || listed m placed) e) (rw q at d))

      go : Dec (j < m) → (j < m → depends i j ≡ true → listed j placed ≡ true) → listed j placed ≡ true
      go (yes l) f = f l d
      go (no l) f = let q : j ≡ m = omega arith in last q

  pub told-rested : (m : ℕ) (placed : List ℕ) (i : ℕ) → ((j : ℕ) → j < m → depends i j ≡ true → listed j placed ≡ true) → rested depends m placed i ≡ true
  unfolding rested
  told-rested zero placed i f = refl
  told-rested (suc m) placed i f =
      and_both (rested depends m placed i) (not (depends i m) || listed m placed) (told-rested m placed i (λ j h. f j (omega arith))) (told_implies (depends i m) (listed m placed) (f m (omega arith)))

module _ (n : ℕ) (depends : ℕ → ℕ → Bool) where
  pub record Ready (placed : List ℕ) (i : ℕ) : Type 0 where
    pub low : i < n
    pub new : listed i placed ≡ false
    pub rests : (j : ℕ) → j < n → depends i j ≡ true → listed j placed ≡ true

  pub ready-told : (placed : List ℕ) (i : ℕ) → ready n depends placed i ≡ true → Ready placed i
  unfolding ready
  ready-told placed i e = record {
    low = ltb-true i n (and_left (ltb i n) (not (listed i placed) && rested depends n placed i) e);
    new = not-true (listed i placed) (and_left (not (listed i placed)) (rested depends n placed i) more);
    rests = rested-told depends n placed i (and_right (not (listed i placed)) (rested depends n placed i) more);
  }
    where
      more : (not (listed i placed) && rested depends n placed i) ≡ true
      more = and_right (ltb i n) (not (listed i placed) && rested depends n placed i) e

  pub told-ready : (placed : List ℕ) (i : ℕ) → Ready placed i → ready n depends placed i ≡ true
  unfolding ready
  told-ready placed i r = rw (lt-ltb i n r.low, r.new) (told-rested depends n placed i r.rests)

  -- ---- the checker, place by place

  pub record Checked (placed l : List ℕ) : Type 0 where
    pub size : length placed + length l ≡ n
    pub each : (k : ℕ) → k < length l → ready n depends (placed ++ take k l) (get_or l k 0) ≡ true

  pub check-told : (placed l : List ℕ) → check_from n depends placed l ≡ true → Checked placed l
  unfolding check_from
  check-told placed [] e = record { size = let q : length placed ≡ n = eqb-true (length placed) n e in omega arith; each = λ k h. absurd (omega arith) }
  check-told placed (i ∷ l) e = go (and_left (ready n depends placed i) (check_from n depends (placed ++ (i ∷ [])) l) e) (check-told (placed ++ (i ∷ [])) l (and_right (ready n depends placed i) (check_from n depends (placed ++ (i ∷ [])) l) e))
    where
      at : ready n depends placed i ≡ true → Checked (placed ++ (i ∷ [])) l → (k : ℕ) → k < suc (length l) → ready n depends (placed ++ take k (i ∷ l)) (get_or (i ∷ l) k 0) ≡ true
      at a c zero h = rw append-nil a
      at a c (suc k) h = rw append_assoc at (c.each k (omega arith))

      go : ready n depends placed i ≡ true → Checked (placed ++ (i ∷ [])) l → Checked placed (i ∷ l)
      go a c = record { size = omega (arith, c.size, length-append placed (i ∷ [])); each = at a c }

  pub told-check : (placed l : List ℕ) → Checked placed l → check_from n depends placed l ≡ true
  unfolding check_from
  told-check placed [] c = eq-eqb (length placed) n (omega (arith, c.size))
  told-check placed (i ∷ l) c =
      and_both (ready n depends placed i) (check_from n depends (placed ++ (i ∷ [])) l) (rw append-nil at (c.each 0 (omega arith)))
      (told-check (placed ++ (i ∷ [])) l (record { size = omega (arith, c.size, length-append placed (i ∷ [])); each = λ k h. rw append_assoc (c.each (suc k) (omega arith)) }))

  -- ---- the first that is ready

  pub record First (placed : List ℕ) (i k x : ℕ) : Type 0 where
    pub from : i ≤ x
    pub low : x < i + k
    pub here : ready n depends placed x ≡ true
    pub before : (j : ℕ) → i ≤ j → j < x → ready n depends placed j ≡ false

  pub first-told : (placed : List ℕ) (k i x : ℕ) → first_from n depends placed k i ≡ Some x → First placed i k x
  unfolding first_from
  first-told placed zero i x e = absurd (let z : ◌≡◌ {A = ℕ} 0 1 = cc in omega arith)
  first-told placed (suc k) i x e = go (ready n depends placed i) refl e (first-told placed k (suc i) x)
    where
      later : ready n depends placed i ≡ false → First placed (suc i) k x → (j : ℕ) → i ≤ j → j < x → ready n depends placed j ≡ false
      later h w j a b = by (dec_lt i j)
        where
          by : Dec (i < j) → ready n depends placed j ≡ false
          by (yes l) = w.before j (omega arith) b
          by (no l) = let q : j ≡ i = omega arith in rw q h

      go : (t : Bool) → ready n depends placed i ≡ t → pick t (Some i) (first_from n depends placed k (suc i)) ≡ Some x → (first_from n depends placed k (suc i) ≡ Some x → First placed (suc i) k x) → First placed i (suc k) x
      go true h m f = let q : i ≡ x = cc in record { from = omega arith; low = omega arith; here = rw (← q) h; before = λ j a b. absurd (omega arith) }
      go false h m f = let w = f m in record { from = omega (arith, w.from); low = omega (arith, w.low); here = w.here; before = later h w }

  pub first-none : (placed : List ℕ) (k i : ℕ) → first_from n depends placed k i ≡ None → (j : ℕ) → i ≤ j → j < i + k → ready n depends placed j ≡ false
  unfolding first_from
  first-none placed zero i e j a b = absurd (omega arith)
  first-none placed (suc k) i e j a b = go (ready n depends placed i) refl e (first-none placed k (suc i))
    where
      go : (t : Bool) → ready n depends placed i ≡ t → pick t (Some i) (first_from n depends placed k (suc i)) ≡ None → (first_from n depends placed k (suc i) ≡ None → (j : ℕ) → suc i ≤ j → j < suc i + k → ready n depends placed j ≡ false) → ready n depends placed j ≡ false
      go true h m f = absurd (let z : ◌≡◌ {A = ℕ} 0 1 = cc in omega arith)
      go false h m f = by (dec_lt i j)
        where
          by : Dec (i < j) → ready n depends placed j ≡ false
          by (yes l) = f m j (omega arith) (omega arith)
          by (no l) = let q : j ≡ i = omega arith in rw q h

  -- ---- ours, turn by turn

  pub placing-none : (k : ℕ) (placed : List ℕ) → first n depends placed ≡ None → placing n depends (suc k) placed ≡ None
  unfolding placing
  placing-none k placed e = rw (placing, e)

  pub placing-some : (k : ℕ) (placed : List ℕ) (i : ℕ) → first n depends placed ≡ Some i → placing n depends (suc k) placed ≡ ahead i (placing n depends k (placed ++ (i ∷ [])))
  unfolding placing
  placing-some k placed i e = rw (placing, e)

  pub placing-done : (placed : List ℕ) → placing n depends 0 placed ≡ Some []
  unfolding placing
  placing-done placed = refl

ahead-told : (i : ℕ) (o : Option (List ℕ)) (l : List ℕ) → ahead i o ≡ Some l → (r : List ℕ) × (o ≡ Some r) × (i ∷ r ≡ l)
unfolding ahead
ahead-told i None l e = absurd (let z : ◌≡◌ {A = ℕ} 0 1 = cc in omega arith)
ahead-told i (Some r) l e = (r, refl, cc)

ahead_none : (i : ℕ) (o : Option (List ℕ)) → ahead i o ≡ None → o ≡ None
unfolding ahead
ahead_none i None e = refl
ahead_none i (Some r) e = absurd (let z : ◌≡◌ {A = ℕ} 0 1 = cc in omega arith)

module _ (n : ℕ) (depends : ℕ → ℕ → Bool) where
  pub record Turn (k : ℕ) (placed l : List ℕ) : Type 0 where
    pub taken : ℕ
    pub rest : List ℕ
    pub chosen : first n depends placed ≡ Some taken
    pub goes : placing n depends k (placed ++ (taken ∷ [])) ≡ Some rest
    pub whole : taken ∷ rest ≡ l

  pub placing-told : (k : ℕ) (placed l : List ℕ) → placing n depends (suc k) placed ≡ Some l → Turn k placed l
  placing-told k placed l e = go (first n depends placed) refl
    where
      go : (t : Option ℕ) → first n depends placed ≡ t → Turn k placed l
      go None h = let q = placing-none n depends k placed h in absurd (let z : ◌≡◌ {A = ℕ} 0 1 = cc in omega arith)
      go (Some i) h =
          let w = ahead-told i (placing n depends k (placed ++ (i ∷ []))) l (sym (placing-some n depends k placed i h) ∙ e) in
          record { taken = i; rest = w.0; chosen = h; goes = w.1; whole = w.2 }

  pub placing_stuck : (k : ℕ) (placed : List ℕ) (i : ℕ) → first n depends placed ≡ Some i → placing n depends (suc k) placed ≡ None → placing n depends k (placed ++ (i ∷ [])) ≡ None
  placing_stuck k placed i h e = ahead_none i (placing n depends k (placed ++ (i ∷ []))) (sym (placing-some n depends k placed i h) ∙ e)
