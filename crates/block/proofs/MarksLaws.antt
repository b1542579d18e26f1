-- Laws of the marks.
use mathlib.Core.Path.{◌≡◌, refl, sym, ap, ap₂, ◌∙◌}
use mathlib.Core.Bool.{Bool, true, false, ◌&&◌, ◌||◌}
use mathlib.Core.List.{List}
use Prim.Native.Nat.{ℕ, suc, ◌+◌, ◌-◌, ◌*◌, ◌/◌, ◌^◌, ◌≤◌, ◌<◌}
use lib.ListN.{length, get_or, set, drop, replicate, length-set, get_or-replicate, drop_of_length-le}
use lib.Seq.{drop-cons, get_or-set_same, get_or-set_other}
use lib.Dec.{ltb, eqb}
use lib.Pow.{pow_mono, shr-shr, shr_lt}
use native.Mathlib.Omega.{arith}
use native.Mathlib.Nat.{pow-suc, sub-zero, div-one}
use native.Mathlib.Numerals.{add-one}
use borrow.Author.Tests.{lt-ltb, le-ltb, ltb-true, ltb-false, eqb-true, eqb-false}
use Rattle.block.specs.BlockBump.{under}
use Rattle.block.specs.Marks.{marked, Marked, Marks}

-- levels have no index in common
apart_below : (h k m a b : ℕ) → m < k → k < h → a < 2 ^ (h - k) → 2 ^ (h - m) + b ≡ 2 ^ (h - k) + a → ⊥
apart_below h k m a b l low ha e =
    let p : 2 ^ suc (h - k) ≤ 2 ^ (h - m) = pow_mono {j = h - m} (omega arith) in
    let q = pow-suc 2 (h - k) in
    omega arith

apart : (h k m a b : ℕ) → (m ≡ k → ⊥) → k < h → m < h → a < 2 ^ (h - k) → b < 2 ^ (h - m) → 2 ^ (h - m) + b ≡ 2 ^ (h - k) + a → ⊥
apart h k m a b d lk lm ha hb e = go (ltb m k) refl
  where
    go : (t : Bool) → ltb m k ≡ t → ⊥
    go true q = apart_below h k m a b (ltb-true m k q) lk ha e
    go false q = apart_below h m k b a (let g = ltb-false m k q in omega arith) lm hb (sym e)

-- a loop that marks a climb from i: k of its nodes are marked
pub record Marking (h i : ℕ) (marks₀ marks : List ℕ) (width j k : ℕ) : Type 0 where
  pub low : k ≤ h
  pub wide : width ≡ 2 ^ (h - k)
  pub at : j ≡ i / 2 ^ k
  pub long : length marks ≡ length marks₀
  pub done : (m o : ℕ) → m < h → o < 2 ^ (h - m) → marked marks (2 ^ (h - m) + o) ≡ ((ltb m k && eqb (i / 2 ^ m) o) || marked marks₀ (2 ^ (h - m) + o))

pub marking_start : (h i : ℕ) (marks : List ℕ) (top : ℕ) → top ≡ 2 ^ h → Marking h i marks marks top i 0
marking_start h i marks top e = record {
  low = omega arith;
  wide = e ∙ ap (λ (x : ℕ). 2 ^ x) (sym (sub-zero h));
  at = sym (div-one i);
  long = refl;
  done = λ m o b l. rw (le-ltb m 0 (omega arith));
}

module _ (h i : ℕ) (marks₀ marks : List ℕ) (width j k : ℕ) (r : Marking h i marks₀ marks width j k) (more : k < h) (inside : i < 2 ^ h) where
  climbs_in : i / 2 ^ k < 2 ^ (h - k)
  climbs_in = let back : h - k + k ≡ h = omega arith in shr_lt (h - k) k (rw back inside)

  pub marking_in : h ≤ 10 → width + j < 2048
  marking_in l =
      let p : 2 ^ (h - k) ≤ 2 ^ 10 = pow_mono {j = 10} (omega arith) in
      let w = r.wide in let a = r.at in let c = climbs_in in
      omega arith

  pub marking_on : length marks₀ ≡ 2048 → h ≤ 10 → Marking h i marks₀ (set marks (width + j) 1) (width / 2) (j / 2) (k + 1)
  unfolding marked
  marking_on long₀ l = record {
    low = omega arith;
    wide = let e : h - k ≡ suc (h - (k + 1)) = omega (arith, add-one (h - (k + 1))) in
        let d : 2 ^ (h - k) ≡ 2 ^ (h - (k + 1)) * 2 = ap (λ (x : ℕ). 2 ^ x) e ∙ pow-suc 2 (h - (k + 1)) in
        let w = r.wide in omega arith;
    at = ap (λ (x : ℕ). x / 2) r.at ∙ shr-shr i k 1;
    long = length-set marks (width + j) 1 ∙ r.long;
    done = λ m o b c. go m o b c (eqb m k) refl;
  }
    where
      here : width + j ≡ 2 ^ (h - k) + i / 2 ^ k
      here = ap₂ (λ (x y : ℕ). x + y) r.wide r.at

      in_marks : width + j < length marks
      in_marks = let a = marking_in l in let b = r.long in omega arith

      level : (o : ℕ) → o < 2 ^ (h - k) → (t : Bool) → eqb (i / 2 ^ k) o ≡ t
          → marked (set marks (width + j) 1) (2 ^ (h - k) + o) ≡ ((ltb k (k + 1) && eqb (i / 2 ^ k) o) || marked marks₀ (2 ^ (h - k) + o))
      level o c true e =
          let is : 2 ^ (h - k) + o ≡ width + j = let q = eqb-true (i / 2 ^ k) o e in let f = here in omega arith in
          rw (is, get_or-set_same marks (width + j) 1 0 in_marks, lt-ltb k (k + 1) (omega arith), e)
      level o c false e =
          let d = eqb-false (i / 2 ^ k) o e in
          rw (get_or-set_other marks (width + j) (2 ^ (h - k) + o) 1 0 (λ q. d (let f = here in omega arith)), lt-ltb k (k + 1) (omega arith), e) (r.done k o more c ∙ rw (le-ltb k k (omega arith)))

      same_test : (m : ℕ) → (m ≡ k → ⊥) → ltb m (k + 1) ≡ ltb m k
      same_test m d = pick' (ltb m k) refl
        where
          pick' : (t : Bool) → ltb m k ≡ t → ltb m (k + 1) ≡ t
          pick' true e = lt-ltb m (k + 1) (let q = ltb-true m k e in omega arith)
          pick' false e = le-ltb m (k + 1) (let q = ltb-false m k e in omega arith)

      go : (m o : ℕ) → m < h → o < 2 ^ (h - m) → (t : Bool) → eqb m k ≡ t
          → marked (set marks (width + j) 1) (2 ^ (h - m) + o) ≡ ((ltb m (k + 1) && eqb (i / 2 ^ m) o) || marked marks₀ (2 ^ (h - m) + o))
      go m o b c true e = let is : m ≡ k = eqb-true m k e in rw is (level o (rw is at c) (eqb (i / 2 ^ k) o) refl)
      go m o b c false e =
          let d = eqb-false m k e in
          let other : 2 ^ (h - m) + o ≡ width + j → ⊥ = λ q. apart h k m (i / 2 ^ k) o d more b climbs_in c (q ∙ here) in
          rw (get_or-set_other marks (width + j) (2 ^ (h - m) + o) 1 0 other, same_test m d) (r.done m o b c)

pub marking_end : (h i : ℕ) (marks₀ marks : List ℕ) (width j k : ℕ) → Marking h i marks₀ marks width j k → h ≤ k → Marks h i marks₀ marks
marking_end h i marks₀ marks width j k r e m o b c = r.done m o b c ∙ rw (lt-ltb m k (omega arith))

-- a loop over the chosen positions: what is marked, with what the positions to come will mark, is what all of them mark
abbrev pub Passed : List ℕ → List ℕ → ℕ → ℕ → Type 0
Passed marks chosen h n = (k j : ℕ) → k < h → j < 2 ^ (h - k) → (marked marks (2 ^ (h - k) + j) || under (drop n chosen) k j) ≡ under chosen k j

pub passed_start : (chosen : List ℕ) (h : ℕ) → h ≤ 10 → Passed (replicate 2048 0) chosen h 0
unfolding marked
passed_start chosen h l k j b c =
    let p : 2 ^ (h - k) ≤ 2 ^ 10 = pow_mono {j = 10} (omega arith) in
    rw (get_or-replicate {A = ℕ} 2048 (2 ^ (h - k) + j) 0 0 (omega arith))

pub passed_on : (marks marks' chosen : List ℕ) (h n : ℕ) → n < length chosen → Passed marks chosen h n → Marks h (get_or chosen n 0) marks marks' → Passed marks' chosen h (n + 1)
unfolding under
passed_on marks marks' chosen h n more r f k j b c =
    swap (eqb (get_or chosen n 0 / 2 ^ k) j) _ (under (drop (n + 1) chosen) k j) (f k j b c) ∙ sym (ap (λ (x : Bool). marked marks (2 ^ (h - k) + j) || x) next) ∙ r k j b c
  where
    next : under (drop n chosen) k j ≡ (eqb (get_or chosen n 0 / 2 ^ k) j || under (drop (n + 1) chosen) k j)
    next = rw (add-one n, drop-cons chosen n 0 more)

    swap : (e m u : Bool) {x : Bool} → x ≡ (e || m) → (x || u) ≡ (m || (e || u))
    swap true true u q = rw q
    swap true false u q = rw q
    swap false true u q = rw q
    swap false false u q = rw q

pub passed-end : (marks chosen : List ℕ) (h n : ℕ) → length chosen ≤ n → Passed marks chosen h n → Marked marks chosen h
unfolding under
passed-end marks chosen h n e r k j b c = sym (plain (marked marks (2 ^ (h - k) + j))) ∙ (rw (drop_of_length-le chosen e) at (r k j b c))
  where
    plain : (x : Bool) → (x || false) ≡ x
    plain true = refl
    plain false = refl
