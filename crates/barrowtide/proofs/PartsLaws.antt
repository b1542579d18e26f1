-- Laws of a transaction in parts for C: from the answer in a state to what is returned and written.
use mathlib.Core.Path.{◌≡◌, refl, sym, ap, ◌∙◌}
use mathlib.Core.List.{List, [], ◌∷◌}
use Prim.Native.Nat.{ℕ}
use native.Mathlib.Omega.{arith}
use Rattle.stream.specs.declared.state.Answer.{Answer}
use Rattle.stream.specs.declared.state.State.{State}
use Rattle.stream.specs.Parts.{MAX_PARTS, Said, more, refused, received, Calls, says}
use Rattle.stream.specs.Lent.{answer_of, state_of, Keeps}
use Rattle.stream.proofs.LentLaws.{answer_in}
use Rattle.barrowtide.specs.Parts.{MORE, number, blame, given}

-- what an answer says, by whether it is one
module _ (a : Answer) where
  pub says-more : (v : Said) → a ≡ answer_of v → a.answered ≡ 0 → v ≡ more
  unfolding answer_of
  says-more more e z = refl
  says-more (refused n q) e z = let y : ◌≡◌ {A = ℕ} 1 0 = sym (ap (λ (x : Answer). x.answered) e) ∙ z in absurd (omega arith)
  says-more (received l i o id) e z = let y : ◌≡◌ {A = ℕ} 2 0 = sym (ap (λ (x : Answer). x.answered) e) ∙ z in absurd (omega arith)

  pub says-refused : (v : Said) → a ≡ answer_of v → a.answered ≡ 1 → v ≡ refused a.number a.place
  unfolding answer_of
  says-refused more e z = let y : ◌≡◌ {A = ℕ} 0 1 = sym (ap (λ (x : Answer). x.answered) e) ∙ z in absurd (omega arith)
  says-refused (refused n q) e z = rw e
  says-refused (received l i o id) e z = let y : ◌≡◌ {A = ℕ} 2 1 = sym (ap (λ (x : Answer). x.answered) e) ∙ z in absurd (omega arith)

  pub says-received : (v : Said) → a ≡ answer_of v → (a.answered ≡ 0 → ⊥) → (a.answered ≡ 1 → ⊥) → v ≡ received a.length a.inputs a.outputs a.id
  unfolding answer_of
  says-received more e y z = absurd (y (ap (λ (x : Answer). x.answered) e))
  says-received (refused n q) e y z = absurd (z (ap (λ (x : Answer). x.answered) e))
  says-received (received l i o id) e y z = rw e

-- what is returned, and what becomes of the memory lent
module _ (v : Said) (b : List ℕ) (l i o : ℕ) (x : List ℕ) where
  pub more_tells : v ≡ more
      → (MORE ≡ number v) × (b ≡ blame v b) × (l ≡ given (λ l i o x. l) v l) × (i ≡ given (λ l i o x. i) v i) × (o ≡ given (λ l i o x. o) v o) × (x ≡ given (λ l i o x. x) v x)
  unfolding number blame given
  more_tells e = rw e (refl, refl, refl, refl, refl, refl)

  pub refused_tells : {n q : ℕ} → v ≡ refused n q
      → (n ≡ number v) × (q ∷ 0 ∷ 0 ∷ [] ≡ blame v b) × (l ≡ given (λ l i o x. l) v l) × (i ≡ given (λ l i o x. i) v i) × (o ≡ given (λ l i o x. o) v o) × (x ≡ given (λ l i o x. x) v x)
  unfolding number blame given
  refused_tells e = rw e (refl, refl, refl, refl, refl, refl)

  pub received_tells : {l' i' o' : ℕ} {x' : List ℕ} → v ≡ received l' i' o' x'
      → (0 ≡ number v) × (b ≡ blame v b) × (l' ≡ given (λ l i o x. l) v l) × (i' ≡ given (λ l i o x. i) v i) × (o' ≡ given (λ l i o x. o) v o) × (x' ≡ given (λ l i o x. x) v x)
  unfolding number blame given
  received_tells e = rw e (refl, refl, refl, refl, refl, refl)

-- the answer in a state that a call kept
pub answer_kept : (after : Calls → Calls) (st r : State) → Keeps after st r → (c : Calls) → st ≡ state_of c → r.answer ≡ answer_of (says MAX_PARTS (after c))
answer_kept after st r k c e = ap (λ (x : State). x.answer) (k c e) ∙ answer_in (after c)
