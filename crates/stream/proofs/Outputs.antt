-- Whole outputs at once: the same as their fields one by one.
use mathlib.Core.Path.{◌≡◌, refl, sym, ap, ap₂, ◌∙◌}
use mathlib.Core.List.{List}
use mathlib.Core.Bool.{true, false, true≢false}
use Prim.Native.Nat.{ℕ, zero, suc, ◌+◌, ◌-◌, ◌≤◌, ◌<◌}
use native.Mathlib.Omega.{arith}
use lib.ListN.{length, get_or, drop}
use lib.Dec.{leb}
use borrow.Author.Tests.{lt-leb, le-leb, lt-ltb}
use Rattle.format.specs.Parse.{pick}
use Rattle.stream.proofs.Leaps.{leap_one, leap_run, leap_turn}
use Rattle.stream.specs.declared.progress.Stage.{Stage}
use Rattle.stream.specs.declared.progress.Progress.{Progress}
use Rattle.std.specs.Prelude.{Ok}
use Rattle.stream.specs.Progress.{Fed, is_amount, begin, one_passed, after_output, next_at, next, moved, passed, first_digit, digit, taken, run, at_output, Sized, Outputs, Skips}

pub clash : {A : Type 0} → false ≡ true → A
clash e = absurd (true≢false (sym e))

-- what is met is the start of an output
pub output-is : (f : Progress) → is_amount f.stage ≡ true → f.need ≡ 8 → f.start ≡ f.at → f.width ≡ 0 → f.value ≡ 0 → f ≡ at_output f f.left f.at
unfolding at_output
output-is f s n b w v = go f.stage f.need f.start f.width f.value s n b w v
  where
    go : (stage : Stage) (need start width value : ℕ) → is_amount stage ≡ true → need ≡ 8 → start ≡ f.at → width ≡ 0 → value ≡ 0
        → ◌≡◌ {A = Progress} (record { stage = stage; start = start; need = need; width = width; value = value; left = f.left; inputs = f.inputs; outputs = f.outputs; at = f.at })
        (record { stage = Stage.Amount; start = f.at; need = 8; width = 0; value = 0; left = f.left; inputs = f.inputs; outputs = f.outputs; at = f.at })
    go Stage.Version need start width value s n b w v = clash s
    go Stage.InputCount need start width value s n b w v = clash s
    go Stage.Parent need start width value s n b w v = clash s
    go Stage.OutputNumber need start width value s n b w v = clash s
    go Stage.InputLength need start width value s n b w v = clash s
    go Stage.InputScript need start width value s n b w v = clash s
    go Stage.Sequence need start width value s n b w v = clash s
    go Stage.OutputCount need start width value s n b w v = clash s
    go Stage.Amount need start width value s n b w v = rw (n, b, w, v)
    go Stage.OutputLength need start width value s n b w v = clash s
    go Stage.OutputScript need start width value s n b w v = clash s
    go Stage.LockTime need start width value s n b w v = clash s
    go Stage.End need start width value s n b w v = clash s

module _ (size : ℕ) (g : Progress) (x : ℕ) (low : g.at < size) where
  amount_taken : g.stage ≡ Stage.Amount → g.need ≡ 8 → taken size g x 8 ≡ Ok (begin Stage.OutputLength 1 (moved g 8))
  unfolding taken passed next next_at moved
  amount_taken s n = rw (lt-leb size g.at low, s, n)

  length_taken : g.stage ≡ Stage.OutputLength → g.width ≡ 0 → x < 253 → taken size g x 1 ≡ pick (leb 1 x) (Ok (begin Stage.OutputScript x (moved g 1))) (after_output (moved g 1))
  unfolding taken digit first_digit next next_at moved
  length_taken s w few = rw (lt-leb size g.at low, s, w, lt-ltb x 253 few)

  script_taken : (k : ℕ) → g.stage ≡ Stage.OutputScript → g.need ≡ k → taken size g x k ≡ after_output (moved g k)
  unfolding taken passed next next_at moved
  script_taken k s n = rw (lt-leb size g.at low, s, le-leb g.need k (omega (arith, n)))

next-output : (g : Progress) → 1 < g.left → after_output g ≡ Ok (begin Stage.Amount 8 (one_passed g))
unfolding after_output
next-output g h = rw (lt-leb g.left 1 h)

-- one output
module _ (size : ℕ) (f : Progress) (part : List ℕ) (i left at n : ℕ) (more : 1 < left) (few : n < 253) (is : n ≡ get_or part (i + 8) 0) (inside : i + (9 + n) ≤ length part) (fits : at + (9 + n) ≤ size) where
  abbrev start : Progress
  start = at_output f left at

  abbrev number : Progress
  number = begin Stage.OutputLength 1 (moved start 8)

  amount_turn : run size (Ok start) (drop i part) ≡ run size (Ok number) (drop (i + 8) part)
  unfolding at_output
  amount_turn =
      leap_turn size start part i 8 (leap_run size start refl refl 8 (omega arith) (omega arith) (omega arith)) (omega arith) (omega arith)
      ∙ ap (λ (m : Fed). run size m (drop (i + 8) part)) (amount_taken size start (get_or part i 0) (omega arith) refl refl)

  number-turn : run size (Ok number) (drop (i + 8) part) ≡ run size (pick (leb 1 n) (Ok (begin Stage.OutputScript n (moved number 1))) (after_output (moved number 1))) (drop (i + 8 + 1) part)
  unfolding at_output begin moved
  number-turn =
      leap_turn size number part (i + 8) 1 (leap_one size number) (omega arith) (omega arith)
      ∙ ap (λ (x : ℕ). run size (taken size number x 1) (drop (i + 8 + 1) part)) (sym is)
      ∙ ap (λ (m : Fed). run size m (drop (i + 8 + 1) part)) (length_taken size number n (omega arith) refl refl few)

  ends : (g : Progress) → g.left ≡ left → g.inputs ≡ f.inputs → g.outputs ≡ f.outputs → after_output g ≡ Ok (at_output f (left - 1) g.at)
  unfolding begin one_passed at_output
  ends g l a b = next-output g (omega (arith, l, more)) ∙ rw (l, a, b)

  script_turn : (m : ℕ) → i + (9 + m) ≤ length part → at + (9 + m) ≤ size
      → run size (pick (leb 1 m) (Ok (begin Stage.OutputScript m (moved number 1))) (after_output (moved number 1))) (drop (i + 8 + 1) part) ≡ run size (Ok (at_output f (left - 1) (at + (9 + m)))) (drop (i + (9 + m)) part)
  unfolding at_output begin moved
  script_turn zero h b =
      let e : at + 8 + 1 ≡ at + 9 = omega arith in
      let d : i + 8 + 1 ≡ i + 9 = omega arith in
      ap (λ (m : Fed). run size m (drop (i + 8 + 1) part)) (ends (moved number 1) refl refl refl) ∙ ap₂ (λ (a k : ℕ). run size (Ok (at_output f (left - 1) a)) (drop k part)) e d
  script_turn (suc m) h b =
      let script : Progress = begin Stage.OutputScript (suc m) (moved number 1) in
      let e : at + 8 + 1 + suc m ≡ at + (9 + suc m) = omega arith in
      let d : i + 8 + 1 + suc m ≡ i + (9 + suc m) = omega arith in
      rw (le-leb 1 (suc m) (omega arith))
      (leap_turn size script part (i + 8 + 1) (suc m) (leap_run size script refl refl (suc m) (omega arith) (omega arith) (omega arith)) (omega arith) (omega arith)
      ∙ ap (λ (x : Fed). run size x (drop (i + 8 + 1 + suc m) part)) (script_taken size script (get_or part (i + 8 + 1) 0) (omega arith) (suc m) refl refl ∙ ends (moved script (suc m)) refl refl refl)
      ∙ ap₂ (λ (a k : ℕ). run size (Ok (at_output f (left - 1) a)) (drop k part)) e d)

  one-output : run size (Ok (at_output f left at)) (drop i part) ≡ run size (Ok (at_output f (left - 1) (at + (9 + n)))) (drop (i + (9 + n)) part)
  one-output = amount_turn ∙ number-turn ∙ script_turn n inside fits

-- ---- one after the other

pub outputs-none : (size : ℕ) (part : List ℕ) (end from count : ℕ) → Outputs size part end from count from count
unfolding Outputs
outputs-none size part end from count f at h = let e : at ≡ at + (from - from) = omega arith in ap (λ (a : ℕ). run size (Ok (at_output f count a)) (drop from part)) e

pub outputs_on : (size : ℕ) (part : List ℕ) (end from count place left k : ℕ) → from ≤ place → end ≤ length part → 1 < left → Sized part place end k
    → Outputs size part end from count place left → Outputs size part end from count (place + k) (left - 1)
unfolding Outputs
outputs_on size part end from count place left k low wide more s o f at h =
    let n : ℕ = get_or part (place + 8) 0 in
    let is : k ≡ 9 + n = s.0 in
    let few : n < 253 = s.1 in
    let inside : place + k ≤ end = s.2 in
    let a : at + (place - from) + (9 + n) ≡ at + (place + k - from) = omega arith in
    let b : place + (9 + n) ≡ place + k = omega arith in
    o f at h
    ∙ one-output size f part place left (at + (place - from)) n more few refl (omega arith) (omega arith)
    ∙ ap₂ (λ (x y : ℕ). run size (Ok (at_output f (left - 1) x)) (drop y part)) a b

pub outputs_skip : (size : ℕ) (f : Progress) (part : List ℕ) (end i place left : ℕ) → f ≡ at_output f f.left f.at → f.at + (end - i) ≤ size → place ≤ end
    → Outputs size part end i f.left place left → Skips size f part i place left
unfolding Outputs
outputs_skip size f part end i place left is h low o = (omega arith, ap (λ (g : Progress). run size (Ok g) (drop i part)) is ∙ o f f.at h)

-- ---- the walk

pub walk_skips : (size : ℕ) (f g : Progress) (part : List ℕ) (i place left : ℕ) {h : Progress} → run size (Ok f) part ≡ run size (Ok g) (drop i part) → Skips size g part i place left
    → h ≡ at_output g left (g.at + (place - i)) → run size (Ok f) part ≡ run size (Ok h) (drop place part)
walk_skips size f g part i place left inv skips is = inv ∙ skips.1 ∙ ap (λ (x : Progress). run size (Ok x) (drop place part)) (sym is)
