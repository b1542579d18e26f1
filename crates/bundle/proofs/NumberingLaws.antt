-- Outputs numbered through the bundle: 27 as a test on numbers, for code that marks what is spent in a row of bits.
use Prim.Native.Nat.{ℕ, ◌+◌, ◌<◌}
use mathlib.Core.Path.{◌≡◌, refl, sym, ap, ◌∙◌}
use mathlib.Core.Bool.{Bool, true, false, not, ◌&&◌}
use mathlib.Core.List.{List, [], ◌∷◌, ◌++◌, map, append_assoc}
use native.Mathlib.Omega.{arith}
use lib.Dec.{ltb, eqb}
use lib.ListN.{length}
use borrow.Author.Tests.{ltb-true, lt-ltb, eq-eqb, ne_eqb}
use Rattle.format.specs.Parse.{pick}
use Rattle.spv.proofs.TestLaws.{clash, and_left, and_right, and_both}
use Rattle.bundle.specs.Numbers.{listed, flat, output_count, fresh_numbers}
use Rattle.format.specs.Bytes.{same}
use Rattle.format.proofs.BytesLaws.{same_eq}
use Rattle.bundle.specs.Amounts.{Outpoint, Payment, outputs_of, exist, same_output, spent, fresh, spends, amounts}
use Rattle.bundle.proofs.AmountLaws.{same-output-told, told-same-output, outputs-found, amounts-told}
use Rattle.bundle.proofs.AmountTheorems.{Paid, head_pass, tail_pass}

-- it exists
abbrev pub There : List Payment → Outpoint → Type 0
There l i = i.output < length (outputs_of l i.parent)

pub flat-bound : (l : List Payment) (i : Outpoint) → There l i → flat l i < output_count l
unfolding flat output_count outputs_of
flat-bound [] i h = absurd (omega arith)
flat-bound (t ∷ l) i h = go (same t.id i.parent) h (flat-bound l i)
  where
    go : (b : Bool) → i.output < length (pick b t.outputs (outputs_of l i.parent)) → (There l i → flat l i < output_count l)
        → pick b i.output (length t.outputs + flat l i) < length t.outputs + output_count l
    go true h f = omega arith
    go false h f = omega (arith, f h)

-- one number is one output
pub flat-one : (l : List Payment) (i j : Outpoint) → There l i → There l j → flat l i ≡ flat l j → (i.parent ≡ j.parent) × (i.output ≡ j.output)
unfolding flat outputs_of
flat-one [] i j a b e = absurd (omega arith)
flat-one (t ∷ l) i j a b e = go (same t.id i.parent) refl (same t.id j.parent) refl a b e (flat-one l i j)
  where
    go : (x : Bool) → same t.id i.parent ≡ x → (y : Bool) → same t.id j.parent ≡ y
        → i.output < length (pick x t.outputs (outputs_of l i.parent)) → j.output < length (pick y t.outputs (outputs_of l j.parent))
        → pick x i.output (length t.outputs + flat l i) ≡ pick y j.output (length t.outputs + flat l j)
        → (There l i → There l j → flat l i ≡ flat l j → (i.parent ≡ j.parent) × (i.output ≡ j.output)) → (i.parent ≡ j.parent) × (i.output ≡ j.output)
    go true p true q a b e f = (sym (same_eq t.id i.parent p) ∙ same_eq t.id j.parent q, e)
    go true p false q a b e f = absurd (omega arith)
    go false p true q a b e f = absurd (omega arith)
    go false p false q a b e f = f a b (omega arith)

pub flat-same : (l : List Payment) (i j : Outpoint) → There l i → There l j → same_output i j ≡ eqb (flat l i) (flat l j)
flat-same l i j a b = go (same_output i j) refl
  where
    equal : i.parent ≡ j.parent → i.output ≡ j.output → i ≡ j
    equal p q = λ k. record { parent = p k; output = q k }

    go : (t : Bool) → same_output i j ≡ t → same_output i j ≡ eqb (flat l i) (flat l j)
    go true e = let w = same-output-told i j e in e ∙ sym (eq-eqb (flat l i) (flat l j) (ap (flat l) (equal w.0 w.1)))
    go false e = e ∙ sym (ne_eqb (flat l i) (flat l j) (λ q. let w = flat-one l i j a b q in clash (same_output i j) (told-same-output i j w.0 w.1) e))

head_there : (l : List Payment) (i : Outpoint) (inputs : List Outpoint) → exist l (i ∷ inputs) ≡ true → There l i
unfolding exist
head_there l i inputs e = ltb-true i.output (length (outputs_of l i.parent)) (and_left (ltb i.output (length (outputs_of l i.parent))) (exist l inputs) e)

tail_there : (l : List Payment) (i : Outpoint) (inputs : List Outpoint) → exist l (i ∷ inputs) ≡ true → exist l inputs ≡ true
unfolding exist
tail_there l i inputs e = and_right (ltb i.output (length (outputs_of l i.parent))) (exist l inputs) e

pub spent-flat : (l : List Payment) (i : Outpoint) (before : List Outpoint) → There l i → exist l before ≡ true → spent i before ≡ listed (flat l i) (map (flat l) before)
unfolding spent listed
spent-flat l i [] h e = refl
spent-flat l i (j ∷ before) h e = rw (flat-same l j i (head_there l j before e) h, spent-flat l i before h (tail_there l j before e))

pub exist_append : (l : List Payment) (a b : List Outpoint) → exist l a ≡ true → exist l b ≡ true → exist l (a ++ b) ≡ true
unfolding exist
exist_append l [] b p q = q
exist_append l (i ∷ a) b p q =
    and_both (ltb i.output (length (outputs_of l i.parent))) (exist l (a ++ b)) (and_left (ltb i.output (length (outputs_of l i.parent))) (exist l a) p)
    (exist_append l a b (and_right (ltb i.output (length (outputs_of l i.parent))) (exist l a) p) q)

one-there : (l : List Payment) (i : Outpoint) → There l i → exist l (i ∷ []) ≡ true
unfolding exist
one-there l i h = rw (lt-ltb i.output (length (outputs_of l i.parent)) h)

map_last : (f : Outpoint → ℕ) (a : List Outpoint) (i : Outpoint) → map f (a ++ (i ∷ [])) ≡ map f a ++ (f i ∷ [])
map_last f [] i = refl
map_last f (j ∷ a) i = ap (λ (l : List ℕ). f j ∷ l) (map_last f a i)

pub fresh-flat : (l : List Payment) (before inputs : List Outpoint) → exist l before ≡ true → exist l inputs ≡ true → fresh before inputs ≡ fresh_numbers (map (flat l) before) (map (flat l) inputs)
unfolding fresh fresh_numbers
fresh-flat l before [] p q = refl
fresh-flat l before (i ∷ inputs) p q = step (fresh-flat l (before ++ (i ∷ [])) inputs (exist_append l before (i ∷ []) p (one-there l i here)) (tail_there l i inputs q))
  where
    here : There l i
    here = head_there l i inputs q

    step : fresh (before ++ (i ∷ [])) inputs ≡ fresh_numbers (map (flat l) (before ++ (i ∷ []))) (map (flat l) inputs)
        → (not (spent i before) && fresh (before ++ (i ∷ [])) inputs) ≡ (not (listed (flat l i) (map (flat l) before)) && fresh_numbers (map (flat l) before ++ (flat l i ∷ [])) (map (flat l) inputs))
    step e = ap (λ (t : Bool). not t && fresh (before ++ (i ∷ [])) inputs) (spent-flat l i before here p)
        ∙ ap (λ (t : Bool). not (listed (flat l i) (map (flat l) before)) && t) (e ∙ ap (λ (m : List ℕ). fresh_numbers m (map (flat l) inputs)) (map_last (flat l) before i))

-- what was found before is found still
pub exist-found : (earlier more : List Payment) (inputs : List Outpoint) → exist earlier inputs ≡ true → exist (earlier ++ more) inputs ≡ true
exist-found earlier more [] e = unfold exist in refl
exist-found earlier more (i ∷ inputs) e = joined (exist-found earlier more inputs (tail_there earlier i inputs e))
  where
    here : There (earlier ++ more) i
    here = rw (outputs-found earlier more i.parent i.output (head_there earlier i inputs e)) (head_there earlier i inputs e)

    joined : exist (earlier ++ more) inputs ≡ true → exist (earlier ++ more) (i ∷ inputs) ≡ true
    joined f = unfold exist in and_both (ltb i.output (length (outputs_of (earlier ++ more) i.parent))) (exist (earlier ++ more) inputs) (lt-ltb i.output (length (outputs_of (earlier ++ more) i.parent)) here) f

-- all that transactions which are paid for spend is there, so 27 can be asked on numbers
pub spends-there : (fee : ℕ) (earlier l : List Payment) → Paid fee earlier l → exist (earlier ++ l) (spends l) ≡ true
unfolding spends
spends-there fee earlier [] f = unfold exist in refl
spends-there fee earlier (t ∷ l) f = go t.anchored refl (rw append_assoc at (spends-there fee (earlier ++ (t ∷ [])) l (tail_pass (amounts fee) earlier t l f)))
  where
    go : (b : Bool) → t.anchored ≡ b → exist (earlier ++ (t ∷ l)) (spends l) ≡ true → exist (earlier ++ (t ∷ l)) (pick b (spends l) (t.inputs ++ spends l)) ≡ true
    go true u e = e
    go false u e = exist_append (earlier ++ (t ∷ l)) t.inputs (spends l) (exist-found earlier (t ∷ l) t.inputs (amounts-told fee earlier t (head_pass (amounts fee) earlier t l f) u).there) e

-- 27 of a transaction after others that are paid for, once 26 is not given
pub fresh_on_numbers : (fee : ℕ) (earlier : List Payment) (inputs : List Outpoint) → Paid fee [] earlier → exist earlier inputs ≡ true
    → fresh (spends earlier) inputs ≡ fresh_numbers (map (flat earlier) (spends earlier)) (map (flat earlier) inputs)
fresh_on_numbers fee earlier inputs p e = fresh-flat earlier (spends earlier) inputs (spends-there fee [] earlier p) e
