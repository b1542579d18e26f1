use borrow.Author.Rules.{rules}
use mathlib.Core.Bool.{Bool, true, false, false≢true}
use mathlib.Core.List.{List}
use mathlib.Core.Path.{◌≡◌, ap, refl, ◌∙◌, sym}
use Prim.Native.Nat.{ℕ, ◌<◌}
use native.Mathlib.Omega.{arith}
use borrow.Author.Count.{below_more}
use lib.ListN.{length, get_or}
use lib.Seq.{ext_get_or}
use Rattle.format.specs.Bytes as bytes
use Rattle.format.proofs.BytesLaws.{eq_same, ne_same}
use Rattle.format.proofs.bytes.same_bytes.Goals as goal
use Rattle.format.proofs.bytes.same_bytes.Goals.{else-a-i, then-a-i}

differing : (a b : List ℕ) (i : ℕ) → (get_or a i 0 ≡ get_or b i 0 → ⊥) → a ≡ b → ⊥
differing a b i h e = h (ap (λ (l : List ℕ). get_or l i 0) e)

alike : (a b : List ℕ) (v : Bool) → length a ≡ 32 → length b ≡ 32 → (v ≡ true → (k : ℕ) → k < 32 → get_or a k 0 ≡ get_or b k 0) → (v ≡ false → a ≡ b → ⊥) → v ≡ bytes.same a b
alike a b true m n f g = sym (eq_same a b (ext_get_or 0 a b (m ∙ sym n) (λ k l. f refl k (omega arith))))
alike a b false m n f g = sym (ne_same a b (g refl))

pub loop-i-init : goal.loop-i-init
loop-i-init c = (search rules, search rules, search rules, λ e k h. absurd (omega arith), λ e. absurd (false≢true (sym e)))

pub loop-i-preserved : goal.loop-i-preserved
loop-i-preserved c = (
  search rules,
  search rules,
  search rules,
  λ e. elim c.if-a-i.branch [ then-a-i w ↦ absurd (false≢true (sym w.same-is ∙ e)) | else-a-i w ↦ below_more _ _ (c.loop-i.invariant.3 (sym w.same-is ∙ e)) w.if-a-i.false ],
  λ e. elim c.if-a-i.branch [ then-a-i w ↦ differing _ _ c.loop-i.i w.if-a-i.true | else-a-i w ↦ c.loop-i.invariant.4 (sym w.same-is ∙ e) ],
)

pub returns : goal.returns
returns c = alike _ _ c.loop-i.same c.loop-i.invariant.1 c.loop-i.invariant.2 (λ e k l. c.loop-i.invariant.3 e k (omega arith)) c.loop-i.invariant.4
