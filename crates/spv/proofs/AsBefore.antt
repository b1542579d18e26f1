-- What was answered with written siblings is answered as before (02, Item 3): a written node is never overruled, and an id whose climb by what is
-- written alone isn't refused with 14 has the same answer by what is worked out.
use Prim.Native.Nat.{ℕ, zero, suc, ◌/◌}
use mathlib.Core.Path.{◌≡◌, refl, sym, ap, ◌∙◌}
use mathlib.Core.Bool.{Bool, false}
use mathlib.Core.List.{List, [], ◌++◌}
use lib.ListN.{get_or}
use lib.Dec.{eqb}
use native.Mathlib.Omega.{arith}
use borrow.Author.Tests.{ne_eqb}
use Rattle.hash.specs.Sha256.{sha256d}
use Rattle.format.specs.declared.leaf.Leaf.{Leaf}
use Rattle.std.specs.Prelude.{Option, Some, None}
use Rattle.format.specs.Refusals.{MISSING}
use Rattle.path.specs.Search.{least_offset}
use Rattle.spv.specs.Result.{Result, accepted, refused}
use Rattle.spv.specs.Climb.{Sibling, value, copied, absent, Siblings, Step, joins, fails, Ascent, top, up, stop, end_of, sibling_position, odd, step, ascend, ascend_by, end_by}
use Rattle.spv.proofs.ClimbLaws.{ascended}
use Rattle.spv.proofs.CompareLaws.{prove_climb}
use Rattle.spv.specs.Siblings.{written_by, find_in, level_siblings}
use Rattle.spv.specs.Values.{worked_out}
use Rattle.spv.proofs.ValuesLaws.{value_written, value-copied}
use Rattle.spv.specs.Readings.{starting, levels_reading}
use Rattle.spv.specs.Prove.{Reading, Proof, settle, proof_of, prove, prove_by, any}

-- what is written stays
pub worked_keeps : (w : Siblings) (k q : ℕ) → (w k q ≡ absent → ⊥) → worked_out w k q ≡ w k q
unfolding worked_out
worked_keeps w k q n = go (w k q) refl
  where
    go : (x : Sibling) → w k q ≡ x → worked_out w k q ≡ w k q
    go (value p) e = value_written w copied k q p e ∙ sym e
    go copied e = value-copied w copied k q e ∙ sym e
    go absent e = absurd (n e)

-- a climb that stops for want of a sibling
unfoldable pub misses : Ascent → Bool
misses top = false
misses (up p t a) = misses a
misses (stop why) = eqb why.number MISSING

-- a verdict other than 14
unfoldable pub NotMissing : Result Proof → Type 0
NotMissing (refused why) = why.number ≡ MISSING → ⊥
NotMissing (accepted p) = Unit

pub ascend-keeps : (w : Siblings) (k n j : ℕ) (c : List ℕ) → misses (ascend w k n j c) ≡ false → ascend (worked_out w) k n j c ≡ ascend w k n j c
unfolding ascend_by misses step
ascend-keeps w k zero j c h = refl
ascend-keeps w k (suc n) j c h =
    there (w k (sibling_position j)) refl h (λ d g. ascend-keeps w (suc k) n (j / 2) d g)
  where
    Above : Type 0
    Above = (d : List ℕ) → misses (ascend w (suc k) n (j / 2) d) ≡ false → ascend (worked_out w) (suc k) n (j / 2) d ≡ ascend w (suc k) n (j / 2) d

    go : (p : Sibling) (s : Step) → misses (ascended w k n j p s) ≡ false → Above → ascended (worked_out w) k n j p s ≡ ascended w k n j p s
    go p (joins a b) e f = ap (up p (a ++ b)) (f (sha256d (a ++ b)) e)
    go p (fails number) e f = refl

    -- a sibling that is written
    here : (x : Sibling) → w k (sibling_position j) ≡ x → (x ≡ absent → ⊥) → misses (ascended w k n j x (step x (odd j) c)) ≡ false → Above
        → ascended (worked_out w) k n j (worked_out w k (sibling_position j)) (step (worked_out w k (sibling_position j)) (odd j) c) ≡ ascended w k n j (w k (sibling_position j)) (step (w k (sibling_position j)) (odd j) c)
    here x e ne f r =
        ap (λ (y : Sibling). ascended (worked_out w) k n j y (step y (odd j) c)) (worked_keeps w k (sibling_position j) (λ z. ne (sym e ∙ z)))
        ∙ go (w k (sibling_position j)) (step (w k (sibling_position j)) (odd j) c) (ap (λ (y : Sibling). misses (ascended w k n j y (step y (odd j) c))) e ∙ f) r

    there : (x : Sibling) → w k (sibling_position j) ≡ x → misses (ascended w k n j x (step x (odd j) c)) ≡ false → Above
        → ascended (worked_out w) k n j (worked_out w k (sibling_position j)) (step (worked_out w k (sibling_position j)) (odd j) c) ≡ ascended w k n j (w k (sibling_position j)) (step (w k (sibling_position j)) (odd j) c)
    there (value p) e f r = here (value p) e (λ z. let y : ◌≡◌ {A = ℕ} 0 1 = cc in omega arith) f r
    there copied e f r = here copied e (λ z. let y : ◌≡◌ {A = ℕ} 0 1 = cc in omega arith) f r
    there absent e f r = let z : ◌≡◌ {A = ℕ} 0 1 = cc in absurd (omega arith)

not-missing : (c : List ℕ) (a : Ascent) (f : List ℕ → Proof) → NotMissing (settle any f (end_of c a)) → misses a ≡ false
unfolding misses end_by settle NotMissing
not-missing c top f h = refl
not-missing c (up p t a) f h = not-missing (sha256d t) a f h
not-missing c (stop why) f h = ne_eqb why.number MISSING h

-- an id by what is written alone, as it was before
unfoldable pub written_reading : List ℕ → ℕ → List (List Leaf) → List ℕ → Reading
written_reading s h levels id = starting (written_by s (find_in levels)) h id (least_offset s id (get_or levels 0 []))

pub answered_as_before : (s id : List ℕ) (h : ℕ) (levels : List (List Leaf)) → NotMissing (prove (written_reading s h levels id)) → prove (levels_reading s h levels id) ≡ prove (written_reading s h levels id)
unfolding written_reading levels_reading level_siblings prove_by starting
answered_as_before s id h levels o = go (least_offset s id (get_or levels 0 [])) o
  where
    go : (x : Option ℕ) → NotMissing (prove (starting (written_by s (find_in levels)) h id x)) → prove (starting (level_siblings s levels) h id x) ≡ prove (starting (written_by s (find_in levels)) h id x)
    go (Some i) p =
        prove_climb (level_siblings s levels) (written_by s (find_in levels)) h i id any
        (ascend-keeps (written_by s (find_in levels)) 0 h i id (not-missing id (ascend (written_by s (find_in levels)) 0 h i id) (proof_of (written_by s (find_in levels)) h i id) p))
    go None p = refl
