-- Laws of what the answers of two BUMPs side by side say.
use mathlib.Core.Path.{◌≡◌, refl, ap, ◌∙◌}
use mathlib.Core.List.{List, [], ◌∷◌}
use Prim.Native.Nat.{ℕ}
use lib.ListN.{length, get_or}
use native.Mathlib.Omega.{arith}
use borrow.Author.Tests.{eq-eqb, ne_eqb}
use denote.Ref.{Bor}
use Rattle.spv.specs.declared.rejection.Rejection.{Rejection}
use Rattle.spv.specs.Result.{Result, accepted, refused}
use Rattle.difference.specs.Shorter.{Choice, first, second, handed, why_of}
use Rattle.difference.proofs.ShorterLaws.{Weighs, the_first, the_second, neither}
use Rattle.barrowtide.specs.Interface.{refusal, blame}
use Rattle.barrowtide.proofs.InterfaceLaws.{given-number, given-blame}
use Rattle.barrowtide.specs.Choices.{which_of, which_by}

-- ---- what a part that is handed back tells

module _ (x y : Bor (List ℕ)) (v : Result Choice) where
  abbrev size : ℕ
  size = length (handed v x y).1

  size-first : v ≡ accepted first → size ≡ length x.now
  unfolding handed
  size-first e = rw e refl

  size-second : v ≡ accepted second → size ≡ length y.now
  unfolding handed
  size-second e = rw e refl

  size-refused : {why : Rejection} → v ≡ refused why → size ≡ 0
  unfolding handed
  size-refused e = rw e refl

  -- its length tells which it is
  which-part : Weighs x.now y.now v → which_by size (length x.now) ≡ which_of v
  unfolding which_by which_of
  which-part (the_first e h) =
      let z = size-first e in
      rw (ne_eqb size 0 (λ i. omega (arith, z, h, i)), eq-eqb size (length x.now) z, e) refl
  which-part (the_second e h l) =
      let z = size-second e in
      rw (ne_eqb size 0 (λ i. omega (arith, z, h, i)), ne_eqb size (length x.now) (λ i. omega (arith, z, l, i)), e) refl
  which-part (neither why e) = rw (eq-eqb size 0 (size-refused e), e) refl

  module _ (w : Weighs x.now y.now v) {n r : ℕ} (e : n ≡ size) (f : r ≡ which_by n (length x.now)) (old : List ℕ) where
    told-which : r ≡ which_of v
    told-which = f ∙ ap (λ (m : ℕ). which_by m (length x.now)) e ∙ which-part w

    -- something is handed back exactly where nothing is refused
    pub handed-some : (n ≡ 0 → ⊥) → (0 ≡ refusal v) × (old ≡ blame v old) × (r ≡ which_of v) × (n ≡ size)
    handed-some h = go w
      where
        go : Weighs x.now y.now v → (0 ≡ refusal v) × (old ≡ blame v old) × (r ≡ which_of v) × (n ≡ size)
        go (the_first g i) = (given-number v g, given-blame v old g, told-which, e)
        go (the_second g i l) = (given-number v g, given-blame v old g, told-which, e)
        go (neither why g) = absurd (h (e ∙ size-refused g))

    pub handed-none : n ≡ 0 → {u : List ℕ} → u ≡ why_of v → (get_or u 0 0 ≡ refusal v) × (get_or u 1 0 ∷ get_or u 2 0 ∷ get_or u 3 0 ∷ [] ≡ blame v old) × (r ≡ which_of v) × (n ≡ size)
    unfolding why_of refusal blame
    handed-none h {u} k = go w
      where
        go : Weighs x.now y.now v → (get_or u 0 0 ≡ refusal v) × (get_or u 1 0 ∷ get_or u 2 0 ∷ get_or u 3 0 ∷ [] ≡ blame v old) × (r ≡ which_of v) × (n ≡ size)
        go (the_first g i) = let z = size-first g in absurd (omega (arith, z, i, h, e))
        go (the_second g i l) = let z = size-second g in absurd (omega (arith, z, i, h, e))
        go (neither why g) = (ap (λ (q : List ℕ). get_or q 0 0) k ∙ rw g refl, ap (λ (q : List ℕ). get_or q 1 0 ∷ get_or q 2 0 ∷ get_or q 3 0 ∷ []) k ∙ rw g refl, told-which, e)
