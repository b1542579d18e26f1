-- Laws of judging a proof and of comparing two.
use Prim.Native.Nat.{ℕ}
use mathlib.Core.Path.{◌≡◌, refl, ap}
use mathlib.Core.Bool.{Bool, true, false}
use mathlib.Core.List.{List, [], ◌∷◌}
use lib.Dec.{eqb}
use native.Mathlib.Omega.{arith}
use borrow.Author.Tests.{eqb-true}
use Rattle.hash.specs.Sha256.{sha256d}
use Rattle.format.proofs.Basics.{and-true}
use Rattle.format.specs.Bytes.{same}
use Rattle.format.proofs.BytesLaws.{same_eq}
use Rattle.format.specs.Parse.{pick}
use Rattle.format.specs.Refusals.{ROOTS_DIFFER, UNLIKE, SAME_ID}
use Rattle.spv.specs.declared.rejection.Rejection.{Rejection}
use Rattle.spv.specs.Result.{Result, accepted, refused, carrying}
use Rattle.spv.specs.Climb.{Siblings, Ascent, ascend_by, ascend, end_by, end_of, preimages_of, siblings_of}
use Rattle.spv.specs.Compare.{meet_by, strings_of, alike, against_by, compare_by, meet, against, compare, meets, never}
use Rattle.spv.specs.Prove.{Target, Proof, hits, settle, proof_by, prove_by, proof_of, prove, read}

-- ---- where two climbs meet

pub meet_left : (us : List (List ℕ)) → meet [] us ≡ never
unfolding meet_by
meet_left us = refl

pub meet_right : (ts : List (List ℕ)) → meet ts [] ≡ never
unfolding meet_by
meet_right [] = refl
meet_right (t ∷ ts) = refl

module _ (t u : List ℕ) (ts us : List (List ℕ)) where
  pub meet-here : same (sha256d t) (sha256d u) ≡ true → meet (t ∷ ts) (u ∷ us) ≡ meets t u
  unfolding meet_by
  meet-here e = rw (meet_by, e)

  pub meet-above : same (sha256d t) (sha256d u) ≡ false → meet (t ∷ ts) (u ∷ us) ≡ meet ts us
  unfolding meet_by
  meet-above e = rw (meet_by, e)

-- ---- judging a proof that was read

module _ (σ : Siblings) (h i : ℕ) (c : List ℕ) (w : Target) where
  pub prove-stop : (why : Rejection) → end_of c (ascend σ 0 h i c) ≡ refused why → prove (read σ h i c w) ≡ refused why
  unfolding prove_by settle
  prove-stop why e = rw e

  module _ (r : List ℕ) (e : end_of c (ascend σ 0 h i c) ≡ accepted r) where
    pub prove-root : hits w r ≡ true → prove (read σ h i c w) ≡ accepted (proof_of σ h i c r)
    unfolding prove_by settle
    prove-root f = rw (e, f)

    pub prove-differ : hits w r ≡ false → prove (read σ h i c w) ≡ refused (carrying ROOTS_DIFFER 0)
    unfolding prove_by settle
    prove-differ f = rw (e, f)

-- a proof is judged by its climb
pub prove_climb : (σ τ : Siblings) (h i : ℕ) (c : List ℕ) (w : Target) → ascend σ 0 h i c ≡ ascend τ 0 h i c → prove (read σ h i c w) ≡ prove (read τ h i c w)
unfolding prove_by
prove_climb σ τ h i c w e = ap (λ (a : Ascent). settle w (λ r. record { id = c; position = i; layers = h; root = r; preimages = preimages_of a; siblings = siblings_of a }) (end_of c a)) e

-- what an accepted proof is
pub prove-accepted_by : (hash : List ℕ → List ℕ) (σ : Siblings) (h i : ℕ) (c : List ℕ) (w : Target) (x : Proof) → prove_by hash (read σ h i c w) ≡ accepted x
    → (x ≡ proof_by hash σ h i c x.root) × (end_by hash c (ascend_by hash σ 0 h i c) ≡ accepted x.root)
unfolding prove_by settle
prove-accepted_by hash σ h i c w x e = go (end_by hash c (ascend_by hash σ 0 h i c)) e
  where
    hit : (r : List ℕ) (b : Bool) → pick b (accepted (proof_by hash σ h i c r)) (refused (carrying ROOTS_DIFFER 0)) ≡ accepted x → (x ≡ proof_by hash σ h i c x.root) × (accepted r ≡ accepted x.root)
    hit r true f = let y : proof_by hash σ h i c r ≡ x = cc in rw (← y) (refl, refl)
    hit r false f = let z : ◌≡◌ {A = ℕ} 0 1 = cc in absurd (omega arith)

    go : (o : Result (List ℕ)) → settle w (proof_by hash σ h i c) o ≡ accepted x → (x ≡ proof_by hash σ h i c x.root) × (o ≡ accepted x.root)
    go (accepted r) f = hit r (hits w r) f
    go (refused why) f = let z : ◌≡◌ {A = ℕ} 0 1 = cc in absurd (omega arith)

pub prove-accepted : (σ : Siblings) (h i : ℕ) (c : List ℕ) (w : Target) (x : Proof) → prove (read σ h i c w) ≡ accepted x
    → (x ≡ proof_of σ h i c x.root) × (end_of c (ascend σ 0 h i c) ≡ accepted x.root)
prove-accepted = prove-accepted_by sha256d

-- ---- comparing

pub alike-told : (x y : Proof) → alike x y ≡ true → (x.root ≡ y.root) × (x.position ≡ y.position) × (x.layers ≡ y.layers)
unfolding alike
alike-told x y e =
    let f = and-true (same x.root y.root) _ e in
    let g = and-true (eqb x.position y.position) _ f.1 in
    (same_eq x.root y.root f.0, eqb-true x.position y.position g.0, eqb-true x.layers y.layers g.1)

module _ (x y : Proof) where
  pub against_unlike : alike x y ≡ false → against x y ≡ refused (carrying UNLIKE 0)
  unfolding against_by
  against_unlike e = rw e

  pub against-same : alike x y ≡ true → same x.id y.id ≡ true → against x y ≡ refused (carrying SAME_ID 0)
  unfolding against_by
  against-same e f = rw (e, f)

  pub against-meet : alike x y ≡ true → same x.id y.id ≡ false → against x y ≡ strings_of (meet x.preimages y.preimages)
  unfolding against_by
  against-meet e f = rw (e, f)

pub compare-first : (v w : Result Proof) (why : Rejection) → v ≡ refused why → compare v w ≡ refused why
unfolding compare_by
compare-first v w why e = rw e

pub compare-second : (v w : Result Proof) (x : Proof) (why : Rejection) → v ≡ accepted x → w ≡ refused why → compare v w ≡ refused why
unfolding compare_by
compare-second v w x why e f = rw (e, f)

pub compare-both : (v w : Result Proof) (x y : Proof) → v ≡ accepted x → w ≡ accepted y → compare v w ≡ against x y
unfolding compare_by
compare-both v w x y e f = rw (e, f)
