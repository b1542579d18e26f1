-- Laws of the form that a number names.
use Prim.Native.Nat.{ℕ}
use mathlib.Core.Path.{◌≡◌}
use borrow.Author.Tests.{eq-eqb, ne_eqb}
use Rattle.path.specs.declared.path.Form.{Form}
use Rattle.barrowtide.specs.Forms.{form_of}

module _ (n : ℕ) where
  pub form_bump : n ≡ 0 → Form.Bump ≡ form_of n
  unfolding form_of
  form_bump e = rw (eq-eqb n 0 e)

  pub form_cmp : (n ≡ 0 → ⊥) → n ≡ 1 → Form.Cmp ≡ form_of n
  unfolding form_of
  form_cmp d e = rw (ne_eqb n 0 d, eq-eqb n 1 e)

  pub form_tsc : (n ≡ 0 → ⊥) → (n ≡ 1 → ⊥) → Form.Tsc ≡ form_of n
  unfolding form_of
  form_tsc d e = rw (ne_eqb n 0 d, ne_eqb n 1 e)
