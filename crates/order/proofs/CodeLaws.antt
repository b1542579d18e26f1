-- Laws of the checker and of our order, over what the code holds.
use Prim.Native.Nat.{ℕ, zero, suc, ◌+◌, ◌*◌, ◌-◌, ◌/◌, ◌%◌, ◌<◌, ◌≤◌}
use mathlib.Core.Path.{◌≡◌, refl, sym, ap, ◌∙◌}
use mathlib.Core.Bool.{Bool, true, false, not, ◌&&◌, ◌||◌}
use mathlib.Core.List.{List, [], ◌∷◌, ◌++◌, append_assoc, append-nil}
use Rattle.std.specs.Prelude.{Option, None, Some}
use native.Mathlib.Omega.{arith}
use native.Mathlib.Numerals.{add-one}
use lib.Dec.{eqb}
use lib.ListN.{length, get_or, take, drop, set, replicate, get_or-replicate, replicate-append-replicate, take-append-drop}
use lib.Seq.{take-suc-set, drop-set-lt, drop-drop, length-take-le, take-length, drop-length, take-suc, drop-cons, get_or-set_same, get_or-set_other}
use borrow.Author.Tests.{lt-ltb, le-ltb, eqb-true, eqb-false}
use Rattle.format.specs.Parse.{pick}
use Rattle.order.specs.Bits.{bit}
use Rattle.order.specs.Set.{proposed, row_after}
use Rattle.order.proofs.ListedLaws.{last_listed, other-listed}
use Rattle.order.proofs.OrderLaws.{ready-told, placing-none, placing-some, placing-done}
use Rattle.order.specs.Order.{rested, ready, check_from, check, first_from, first, ahead, placing, ours}
use Rattle.std.specs.Option.{is_some}
use Rattle.order.specs.Code.{depends_in, Marks, TellsRests, TellsReady, TellsFirst}
use Rattle.order.specs.Listed.{listed}

-- ---- rests

module _ (matrix marks : List ℕ) (i : ℕ) where
  abbrev pub held_at : ℕ → Bool
  held_at j = not (depends_in matrix i j) || eqb (get_or marks j 0) 1

  pub rests-start : TellsRests matrix marks 0 i true
  unfolding rested
  rests-start placed m = refl

  pub rests-step : (j : ℕ) → j < 256 → TellsRests matrix marks j i true → (t : Bool) → t ≡ held_at j → TellsRests matrix marks (suc j) i t
  unfolding rested
  rests-step j low f t e placed m = e ∙ ap (λ (x : Bool). not (depends_in matrix i j) || x) (m.at j low) ∙ ap (λ (x : Bool). x && (not (depends_in matrix i j) || listed j placed)) (f placed m)

  false-and : (x y : Bool) → false ≡ x → false ≡ (x && y)
  false-and x y e = ap (λ (z : Bool). z && y) e

  pub rests-false : (j d : ℕ) → TellsRests matrix marks j i false → TellsRests matrix marks (j + d) i false
  unfolding rested
  rests-false j zero f = let e : j + 0 ≡ j = omega arith in rw e f
  rests-false j (suc d) f = more (rests-false j d f)
    where
      more : TellsRests matrix marks (j + d) i false → TellsRests matrix marks (j + suc d) i false
      more g = let e : j + suc d ≡ suc (j + d) = omega arith in rw e (λ placed m. false-and (rested (depends_in matrix) (j + d) placed i) (not (depends_in matrix i (j + d)) || listed (j + d) placed) (g placed m))

  pub rests-not : (j n : ℕ) → j < n → TellsRests matrix marks (suc j) i false → TellsRests matrix marks n i false
  rests-not j n h f = let e : n ≡ suc j + (n - suc j) = omega arith in rw e (rests-false (suc j) (n - suc j) f)

-- ---- is_ready

module _ (matrix marks : List ℕ) (n i : ℕ) where
  pub ready-high : n ≤ i → TellsReady matrix marks n i false
  unfolding ready
  ready-high h placed m = rw (le-ltb i n h)

  pub ready-placed : i < n → n ≤ 256 → eqb (get_or marks i 0) 1 ≡ true → TellsReady matrix marks n i false
  unfolding ready
  ready-placed h few e placed m = let l : listed i placed ≡ true = sym (m.at i (omega arith)) ∙ e in rw (lt-ltb i n h, l)

  pub ready-rests : i < n → n ≤ 256 → eqb (get_or marks i 0) 1 ≡ false → (t : Bool) → TellsRests matrix marks n i t → TellsReady matrix marks n i t
  unfolding ready
  ready-rests h few e t f placed m = let l : listed i placed ≡ false = sym (m.at i (omega arith)) ∙ e in rw (lt-ltb i n h, l) (f placed m)

-- ---- first_ready

module _ (matrix marks : List ℕ) (n : ℕ) where
  -- what is left from i on is what was asked
  abbrev pub Searching : ℕ → Type 0
  Searching i = (placed : List ℕ) → Marks marks placed → first_from n (depends_in matrix) placed (n - i) i ≡ first n (depends_in matrix) placed

  pub search-start : Searching 0
  unfolding first
  search-start placed m = let e : n - 0 ≡ n = omega arith in rw e

  turn : (placed : List ℕ) (i : ℕ) → i < n → first_from n (depends_in matrix) placed (n - i) i ≡ pick (ready n (depends_in matrix) placed i) (Some i) (first_from n (depends_in matrix) placed (n - suc i) (suc i))
  unfolding first_from
  turn placed i h = let e : n - i ≡ suc (n - suc i) = omega arith in rw e

  pub search_on : (i : ℕ) → i < n → Searching i → TellsReady matrix marks n i false → Searching (suc i)
  search_on i h f g placed m = sym (turn placed i h ∙ ap (λ (t : Bool). pick t (Some i) (first_from n (depends_in matrix) placed (n - suc i) (suc i))) (sym (g placed m))) ∙ f placed m

  pub search-here : (i : ℕ) → i < n → Searching i → TellsReady matrix marks n i true → TellsFirst matrix marks n (Some i)
  search-here i h f g placed m = sym (turn placed i h ∙ ap (λ (t : Bool). pick t (Some i) (first_from n (depends_in matrix) placed (n - suc i) (suc i))) (sym (g placed m))) ∙ f placed m

  pub search-end : Searching n → TellsFirst matrix marks n None
  unfolding first_from
  search-end f placed m = let e : n - n ≡ 0 = omega arith in rw e at (f placed m)

-- ---- marks

pub marks_start : Marks (replicate 256 0) []
unfolding listed
marks_start = record { at = λ j h. rw (get_or-replicate {A = ℕ} 256 j 0 0 h) }

pub marks_step : (marks placed : List ℕ) (i : ℕ) → length marks ≡ 256 → i < 256 → Marks marks placed → Marks (set marks i 1) (placed ++ (i ∷ []))
marks_step marks placed i size low m = record { at = at }
  where
    at : (j : ℕ) → j < 256 → eqb (get_or (set marks i 1) j 0) 1 ≡ listed j (placed ++ (i ∷ []))
    at j h = go (eqb j i) refl
      where
        here : j ≡ i → eqb (get_or (set marks i 1) j 0) 1 ≡ true
        here e = rw (e, get_or-set_same marks i 1 0 (omega arith))

        go : (t : Bool) → eqb j i ≡ t → eqb (get_or (set marks i 1) j 0) 1 ≡ listed j (placed ++ (i ∷ []))
        go true q = let e : j ≡ i = eqb-true j i q in here e ∙ sym (last_listed j i placed (sym e))
        go false q = rw (get_or-set_other marks i j 1 0 (eqb-false j i q)) (m.at j h ∙ sym (other-listed j i placed (eqb-false j i q)))

-- ---- check_order

pub ready-low : (n : ℕ) (depends : ℕ → ℕ → Bool) (placed : List ℕ) (i : ℕ) → ready n depends placed i ≡ true → i < n
ready-low n depends placed i e = (ready-told n depends placed i e).low

module _ (matrix order : List ℕ) (n : ℕ) where
  -- what is left from k on is what was asked
  abbrev pub Checking : ℕ → Type 0
  Checking k = check_from n (depends_in matrix) (take k order) (drop k order) ≡ check n (depends_in matrix) order

  pub checking-start : Checking 0
  unfolding check
  checking-start = refl

  check-turn : (k : ℕ) → k < length order
      → check_from n (depends_in matrix) (take k order) (drop k order) ≡ (ready n (depends_in matrix) (take k order) (get_or order k 0) && check_from n (depends_in matrix) (take (suc k) order) (drop (suc k) order))
  check-turn k h = rw (drop-cons order k 0 h, take-suc order k 0 h) (unfold check_from in refl)

  pub checking_on : (k : ℕ) → k < length order → Checking k → ready n (depends_in matrix) (take k order) (get_or order k 0) ≡ true → Checking (suc k)
  checking_on k h c e = sym (check-turn k h ∙ ap (λ (t : Bool). t && check_from n (depends_in matrix) (take (suc k) order) (drop (suc k) order)) e) ∙ c

  pub checking-fails : (k : ℕ) → k < length order → Checking k → ready n (depends_in matrix) (take k order) (get_or order k 0) ≡ false → false ≡ check n (depends_in matrix) order
  checking-fails k h c e = sym (check-turn k h ∙ ap (λ (t : Bool). t && check_from n (depends_in matrix) (take (suc k) order) (drop (suc k) order)) e) ∙ c

  pub checking_ends : (k : ℕ) → k ≡ length order → Checking k → eqb k n ≡ check n (depends_in matrix) order
  checking_ends k h c = sym (done k h) ∙ c
    where
      done : (k : ℕ) → k ≡ length order → check_from n (depends_in matrix) (take k order) (drop k order) ≡ eqb k n
      done k h = rw (h, take-length order, drop-length order) (unfold check_from in refl)

  pub marks_on : (marks : List ℕ) (k : ℕ) → k < length order → length marks ≡ 256 → get_or order k 0 < 256 → Marks marks (take k order) → Marks (set marks (get_or order k 0) 1) (take (suc k) order)
  marks_on marks k h size low m = rw (take-suc order k 0 h) (marks_step marks (take k order) (get_or order k 0) size low m)

-- ---- zero_row

pub zero_on : (row : List ℕ) (i : ℕ) → i < length row → take i row ≡ replicate i 0 → take (suc i) (set row i 0) ≡ replicate (suc i) 0
zero_on row i h e =
    take-suc-set row i 0 h ∙ ap (λ (l : List ℕ). l ++ (0 ∷ [])) e ∙ replicate-append-replicate {A = ℕ} i 1 0 ∙ ap (λ (m : ℕ). replicate m 0) (add-one i)

pub zero-end : (row row₀ : List ℕ) (i : ℕ) → i ≡ length row → length row ≡ length row₀ → take i row ≡ replicate i 0 → row ≡ replicate (length row₀) 0
zero-end row row₀ i a b e = sym (take-length row) ∙ ap (λ (m : ℕ). take m row) (sym a) ∙ e ∙ ap (λ (m : ℕ). replicate m 0) (a ∙ b)

-- ---- our_order

unfoldable pub prefixed : List ℕ → Option (List ℕ) → Option (List ℕ)
prefixed p None = None
prefixed p (Some l) = Some (p ++ l)

prefixed_ahead : (p : List ℕ) (i : ℕ) (o : Option (List ℕ)) → prefixed p (ahead i o) ≡ prefixed (p ++ (i ∷ [])) o
unfolding prefixed ahead
prefixed_ahead p i None = refl
prefixed_ahead p i (Some l) = ap Some (sym (append_assoc p (i ∷ []) l))

module _ (matrix : List ℕ) (n : ℕ) where
  -- what is placed, and then what is left, is what was asked
  abbrev pub Placing : ℕ → List ℕ → Type 0
  Placing k row = prefixed (take k row) (placing n (depends_in matrix) (n - k) (take k row)) ≡ ours n (depends_in matrix)

  pub placing-start : (row : List ℕ) → Placing 0 row
  unfolding ours
  placing-start row = let e : n - 0 ≡ n = omega arith in rw e (same (placing n (depends_in matrix) n []))
    where
      same : (o : Option (List ℕ)) → prefixed [] o ≡ o
      same None = unfold prefixed in refl
      same (Some l) = unfold prefixed in refl

  pub placing_on : (marks row : List ℕ) (k r : ℕ) → k < n → k < length row → TellsFirst matrix marks n (Some r) → Marks marks (take k row) → Placing k row → Placing (suc k) (set row k r)
  placing_on marks row k r low h f m p =
      rw (take-suc-set row k r h)
      (sym (prefixed_ahead (take k row) r (placing n (depends_in matrix) (n - suc k) (take k row ++ (r ∷ []))))
      ∙ ap (prefixed (take k row)) (sym (placing-some n (depends_in matrix) (n - suc k) (take k row) r (sym (f (take k row) m))))
      ∙ turned ∙ p)
    where
      turned : prefixed (take k row) (placing n (depends_in matrix) (suc (n - suc k)) (take k row)) ≡ prefixed (take k row) (placing n (depends_in matrix) (n - k) (take k row))
      turned = let e : suc (n - suc k) ≡ n - k = omega arith in ap (λ (x : ℕ). prefixed (take k row) (placing n (depends_in matrix) x (take k row))) e

  pub placing_stops : (marks row : List ℕ) (k : ℕ) → k < n → TellsFirst matrix marks n None → Marks marks (take k row) → Placing k row → ours n (depends_in matrix) ≡ None
  placing_stops marks row k low f m p = sym p ∙ ap (prefixed (take k row)) stuck ∙ (unfold prefixed in refl)
    where
      stuck : placing n (depends_in matrix) (n - k) (take k row) ≡ None
      stuck = let e : n - k ≡ suc (n - suc k) = omega arith in rw e (placing-none n (depends_in matrix) (n - suc k) (take k row) (sym (f (take k row) m)))

  pub placing_ends : (row : List ℕ) → Placing n row → ours n (depends_in matrix) ≡ Some (take n row)
  placing_ends row p = sym p ∙ ap (prefixed (take n row)) done ∙ whole
    where
      done : placing n (depends_in matrix) (n - n) (take n row) ≡ Some []
      done = let e : n - n ≡ 0 = omega arith in rw e (placing-done n (depends_in matrix) (take n row))

      whole : prefixed (take n row) (Some []) ≡ Some (take n row)
      whole = unfold prefixed in ap Some (append-nil (take n row))

  -- the answer and the row
  abbrev pub Answers : Bool → List ℕ → List ℕ → Type 0
  Answers r row row₀ = (r ≡ is_some (ours n (depends_in matrix))) × (row ≡ row_after (proposed (ours n (depends_in matrix))) row₀)

  pub answer_none : (row row₀ : List ℕ) → ours n (depends_in matrix) ≡ None → row ≡ replicate (length row₀) 0 → Answers false row row₀
  unfolding row_after proposed
  answer_none row row₀ e q = (rw e, rw e q)

  pub answer_some : (row row₀ : List ℕ) → n ≤ length row → drop n row ≡ drop n row₀ → Placing n row → Answers true row row₀
  unfolding row_after proposed
  answer_some row row₀ h d p =
      let e = placing_ends row p in
      (rw e, rw e (sym (take-append-drop n row) ∙ ap (λ (l : List ℕ). take n row ++ l) (d ∙ ap (λ (m : ℕ). drop m row₀) (sym (length-take-le n row h)))))

pub rest_on : (row row₀ : List ℕ) (k r : ℕ) → drop k row ≡ drop k row₀ → drop (suc k) (set row k r) ≡ drop (suc k) row₀
rest_on row row₀ k r e = drop-set-lt (suc k) row k r (omega arith) ∙ more row ∙ ap (drop 1) e ∙ sym (more row₀)
  where
    more : (l : List ℕ) → drop (suc k) l ≡ drop 1 (drop k l)
    more l = let q : k + 1 ≡ suc k = omega arith in sym (drop-drop 1 k l ∙ ap (λ (m : ℕ). drop m l) q)

pub marks_placed : (marks row : List ℕ) (k r : ℕ) → k < length row → length marks ≡ 256 → r < 256 → Marks marks (take k row) → Marks (set marks r 1) (take (suc k) (set row k r))
marks_placed marks row k r h size low m = rw (take-suc-set row k r h) (marks_step marks (take k row) r size low m)

-- ---- is_parent

pub depends_bit : (matrix : List ℕ) (i j : ℕ) {r : Bool} → r ≡ bit (j % 8) (get_or matrix (32 * i + j / 8) 0) → r ≡ depends_in matrix i j
unfolding depends_in
depends_bit matrix i j e = e
