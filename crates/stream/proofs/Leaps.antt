-- The bytes of a field that is no VarInt at once: the same as one by one.
use mathlib.Core.Path.{◌≡◌, refl, sym, ap, ◌∙◌}
use mathlib.Core.List.{List, [], ◌∷◌}
use mathlib.Core.Bool.{Bool, true, false}
use Prim.Native.Nat.{ℕ, zero, suc, ◌+◌, ◌-◌, ◌≤◌, ◌<◌}
use native.Mathlib.Omega.{arith}
use native.Mathlib.Nat.{add-zero}
use lib.ListN.{length, get_or, drop, length-drop, drop_of_length-le}
use lib.Seq.{drop-cons, drop-drop}
use lib.Dec.{leb}
use borrow.Author.Tests.{lt-leb, le-leb, leb-true, leb-false}
use Rattle.format.specs.Parse.{pick}
use Rattle.stream.proofs.Run.{run-refused}
use Rattle.format.specs.declared.refusal.ReadRefusal.{ReadRefusal}
use Rattle.stream.specs.declared.progress.Stage.{Stage}
use Rattle.stream.specs.declared.progress.Progress.{Progress}
use Rattle.std.specs.Prelude.{Ok, Err}
use Rattle.stream.specs.Progress.{Fed, is_number, is_end, next_at, next, moved, passed, taken, feed, run, Leaps, stage_number, stage_of}

pub leap_one : (size : ℕ) (f : Progress) → Leaps size f 1
unfolding run
leap_one size f x l h = refl

taken-run : (size : ℕ) (f : Progress) (x k : ℕ) → is_end f.stage ≡ false → is_number f.stage ≡ false → f.at < size → taken size f x k ≡ passed f k
unfolding taken
taken-run size f x k e n h = rw (lt-leb size f.at h, e, n)

moved-again : (f : Progress) (j : ℕ) → moved (moved f j) 1 ≡ moved f (j + 1)
unfolding moved
moved-again f j =
    let e : f.need - j - 1 ≡ f.need - (j + 1) = omega arith in
    let g : f.at + j + 1 ≡ f.at + (j + 1) = omega arith in
    rw (e, g)

passed-again : (f : Progress) (j : ℕ) → j < f.need → passed (moved f j) 1 ≡ passed f (j + 1)
unfolding passed moved
passed-again f j h = rw (moved-again f j) (go (leb f.need (j + 1)) refl)
  where
    go : (t : Bool) → leb f.need (j + 1) ≡ t
        → pick (leb (f.need - j) 1) (next (moved f (j + 1)) 0) (Ok (moved f (j + 1))) ≡ pick t (next (moved f (j + 1)) 0) (Ok (moved f (j + 1)))
    go true e = let g = leb-true f.need (j + 1) e in rw (le-leb (f.need - j) 1 (omega arith))
    go false e = let g = leb-false f.need (j + 1) e in rw (lt-leb (f.need - j) 1 (omega arith))

passed_less : (f : Progress) (j : ℕ) → j < f.need → passed f j ≡ Ok (moved f j)
unfolding passed
passed_less f j h = rw (lt-leb f.need j h)

module _ (size : ℕ) (f : Progress) (e : is_end f.stage ≡ false) (n : is_number f.stage ≡ false) where
  one_more : (j x : ℕ) → j < f.need → f.at + j < size → feed size (passed f j) x ≡ passed f (j + 1)
  unfolding moved
  one_more j x h l = rw (passed_less f j h) (taken-run size (moved f j) x 1 e n l ∙ passed-again f j h)

  many_more : (m j : ℕ) (l : List ℕ) → j + m ≤ f.need → f.at + j + m ≤ size → m ≤ length l → run size (passed f j) l ≡ run size (passed f (j + m)) (drop m l)
  unfolding run
  many_more zero j l a b c = rw add-zero
  many_more (suc m) j [] a b c = absurd (omega arith)
  many_more (suc m) j (x ∷ l) a b c =
      let g : j + 1 + m ≡ j + suc m = omega arith in
      rw (one_more j x (omega arith) (omega arith)) (many_more m (j + 1) l (omega arith) (omega arith) (omega arith) ∙ rw g)

  pub leap_run : (k : ℕ) → 1 ≤ k → k ≤ f.need → f.at + k ≤ size → Leaps size f k
  unfolding run
  leap_run zero o a b x l h = absurd (omega arith)
  leap_run (suc k) o a b x l h =
      let g : 1 + k ≡ suc k = omega arith in
      rw (taken-run size f x 1 e n (omega arith), taken-run size f x (suc k) e n (omega arith))
      (many_more k 1 l (omega arith) (omega arith) (omega arith) ∙ rw g)

-- one turn of the bytes from place i on
pub leap_turn : (size : ℕ) (f : Progress) (part : List ℕ) (i k : ℕ) → Leaps size f k → i + k ≤ length part → i < length part
    → run size (Ok f) (drop i part) ≡ run size (taken size f (get_or part i 0) k) (drop (i + k) part)
leap_turn size f part i k leaps h l =
    let e = drop-cons part i 0 l in
    let n : length (drop (suc i) part) ≡ length part - suc i = length-drop (suc i) part in
    let d : drop k (get_or part i 0 ∷ drop (suc i) part) ≡ drop (i + k) part = ap (drop k) (sym e) ∙ drop-drop k i part in
    ap (run size (Ok f)) e ∙ leaps (get_or part i 0) (drop (suc i) part) (omega arith) ∙ ap (run size (taken size f (get_or part i 0) k)) d

pub walk_turn : (size : ℕ) (f g : Progress) (part : List ℕ) (i k : ℕ) {x : ℕ} {m : Fed} → run size (Ok f) part ≡ run size (Ok g) (drop i part) → Leaps size g k
    → i + k ≤ length part → i < length part → x ≡ get_or part i 0 → m ≡ taken size g x k → run size (Ok f) part ≡ run size m (drop (i + k) part)
walk_turn size f g part i k inv leaps h l ex em =
    inv ∙ leap_turn size g part i k leaps h l ∙ sym (ap (λ (z : Fed). run size z (drop (i + k) part)) (em ∙ ap (λ (y : ℕ). taken size g y k) ex))

pub walk_stops : (size : ℕ) (f : Progress) (part l : List ℕ) {m r : Fed} {e : ReadRefusal} → run size (Ok f) part ≡ run size m l → m ≡ Err e → r ≡ Err e → r ≡ run size (Ok f) part
walk_stops size f part l {e = e} inv told is = is ∙ sym (inv ∙ ap (λ (z : Fed). run size z l) told ∙ run-refused size l e)

pub walk_ends : (size : ℕ) (f g : Progress) (part : List ℕ) (i : ℕ) → length part ≤ i → run size (Ok f) part ≡ run size (Ok g) (drop i part) → Ok g ≡ run size (Ok f) part
unfolding run
walk_ends size f g part i h e = sym (e ∙ ap (run size (Ok g)) (drop_of_length-le part h))

-- the stage that is met decides what comes next
pub next-at : (f : Progress) (v : ℕ) (s : Stage) → f.stage ≡ s → next_at s f v ≡ next f v
unfolding next
next-at f v s e = ap (λ (x : Stage). next_at x f v) (sym e)

-- a stage is the one of its number
pub stage_back : (s : Stage) → stage_of (stage_number s) ≡ s
unfolding stage_of stage_number
stage_back Stage.Version = refl
stage_back Stage.InputCount = refl
stage_back Stage.Parent = refl
stage_back Stage.OutputNumber = refl
stage_back Stage.InputLength = refl
stage_back Stage.InputScript = refl
stage_back Stage.Sequence = refl
stage_back Stage.OutputCount = refl
stage_back Stage.Amount = refl
stage_back Stage.OutputLength = refl
stage_back Stage.OutputScript = refl
stage_back Stage.LockTime = refl
stage_back Stage.End = refl
