-- The siblings that a climb takes on its way to a root: one for each layer, and none of them absent.
use Prim.Native.Nat.{ℕ, zero, suc, ◌/◌}
use mathlib.Core.Path.{◌≡◌, refl, ap, sym, ◌∙◌}
use mathlib.Core.List.{List, [], ◌∷◌, ◌++◌}
use mathlib.Core.Bool.{Bool}
use lib.ListN.{length}
use native.Mathlib.Omega.{arith}
use Rattle.hash.specs.Sha256.{sha256d}
use Rattle.format.specs.Refusals.{MISSING}
use Rattle.spv.specs.Result.{accepted}
use Rattle.spv.specs.Climb.{Sibling, absent, Siblings, Step, joins, fails, odd, sibling_position, step, ascend_by, ascend, end_by, end_of, siblings_of}
use Rattle.spv.proofs.ClimbLaws.{ascended}
use Rattle.spv.proofs.CompareLaws.{prove-accepted}
use Rattle.spv.specs.Prove.{Target, Proof, prove, read}

-- beside n layers from position j of layer k on
unfoldable pub taken : Siblings → ℕ → ℕ → ℕ → List Sibling
taken σ k zero j = []
taken σ k (suc n) j = σ k (sibling_position j) ∷ taken σ (suc k) n (j / 2)

-- a value or a copy
unfoldable pub Present : Sibling → Type 0
Present p = p ≡ absent → ⊥

unfoldable pub AllPresent : List Sibling → Type 0
AllPresent [] = Unit
AllPresent (p ∷ l) = Present p × AllPresent l

pub taken-length : (σ : Siblings) (k n j : ℕ) → length (taken σ k n j) ≡ n
unfolding taken
taken-length σ k zero j = refl
taken-length σ k (suc n) j = ap suc (taken-length σ (suc k) n (j / 2))

joins_present : (p : Sibling) (o : Bool) (c a b : List ℕ) → step p o c ≡ joins a b → Present p
unfolding step Present
joins_present p o c a b e z =
    let f : fails MISSING ≡ joins a b = sym (ap (λ (x : Sibling). step x o c) z) ∙ e in
    let y : ◌≡◌ {A = ℕ} 0 1 = cc in absurd (omega arith)

-- a climb to a root takes them all
pub siblings-taken : (σ : Siblings) (k n j : ℕ) (c r : List ℕ) → end_of c (ascend σ k n j c) ≡ accepted r
    → (siblings_of (ascend σ k n j c) ≡ taken σ k n j) × AllPresent (taken σ k n j)
unfolding ascend_by end_by siblings_of taken AllPresent
siblings-taken σ k zero j c r e = (refl, tt)
siblings-taken σ k (suc n) j c r e =
    go (step (σ k (sibling_position j)) (odd j) c) refl e (λ d x. siblings-taken σ (suc k) n (j / 2) d r x)
  where
    q : Sibling
    q = σ k (sibling_position j)

    go : (s : Step) → step q (odd j) c ≡ s → end_of c (ascended σ k n j q s) ≡ accepted r
        → ((d : List ℕ) → end_of d (ascend σ (suc k) n (j / 2) d) ≡ accepted r → (siblings_of (ascend σ (suc k) n (j / 2) d) ≡ taken σ (suc k) n (j / 2)) × AllPresent (taken σ (suc k) n (j / 2)))
        → (siblings_of (ascended σ k n j q s) ≡ q ∷ taken σ (suc k) n (j / 2)) × (Present q × AllPresent (taken σ (suc k) n (j / 2)))
    go (joins a b) g x ih = let t = ih (sha256d (a ++ b)) x in (ap (q ∷◌) t.0, (joins_present q (odd j) c a b g, t.1))
    go (fails number) g x ih = let y : ◌≡◌ {A = ℕ} 0 1 = cc in absurd (omega arith)

-- the siblings of an accepted proof
module _ (σ : Siblings) (h i : ℕ) (c : List ℕ) (w : Target) (p : Proof) (e : prove (read σ h i c w) ≡ accepted p) where
  pub proof-siblings : p.siblings ≡ taken σ 0 h i
  proof-siblings =
      let a = prove-accepted σ h i c w p e in
      ap (λ (x : Proof). x.siblings) a.0 ∙ (siblings-taken σ 0 h i c p.root a.1).0

  pub proof_present : AllPresent (taken σ 0 h i)
  proof_present = (siblings-taken σ 0 h i c p.root (prove-accepted σ h i c w p e).1).1

  pub proof-count : length p.siblings ≡ h
  proof-count = ap length proof-siblings ∙ taken-length σ 0 h i

  pub proof-layers : p.layers ≡ h
  proof-layers = ap (λ (x : Proof). x.layers) (prove-accepted σ h i c w p e).0

  pub proof-position : p.position ≡ i
  proof-position = ap (λ (x : Proof). x.position) (prove-accepted σ h i c w p e).0

  pub proof-id : p.id ≡ c
  proof-id = ap (λ (x : Proof). x.id) (prove-accepted σ h i c w p e).0
