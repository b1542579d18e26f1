use mathlib.Core.Path.{sym, ◌∙◌}
use Prim.Native.Nat.{ℕ, ◌+◌, ◌≤◌, ◌<◌}
use native.Mathlib.Omega.{arith}
use borrow.Author.Tests.{le-leb, lt-leb}
use Rattle.format.specs.Cmp.{top_up_to}
use Rattle.format.proofs.ParseLaws.{passed_on}
use Rattle.format.proofs.cmp.read_top.Goals as goal

-- m + 1 layers
over : {m : ℕ} → 63 < m → 64 < m + 1
over h = omega arith

within : {m : ℕ} → m ≤ 63 → m + 1 ≤ 64
within h = omega arith

pub returns-in_err-top : goal.returns-in_err-top
unfolding top_up_to
returns-in_err-top c = passed_on _ _ c.from_residual.ensures.1 ∙ (simp (sym c.in_err-top.ensures))

pub returns-then-top-gt-MAX_TOP : goal.returns-then-top-gt-MAX_TOP
unfolding top_up_to
returns-then-top-gt-MAX_TOP c = simp (sym c.in_ok-top.ensures, lt-leb _ _ (over c.if-top-gt-MAX_TOP.true))

pub returns : goal.returns
unfolding top_up_to
returns c = simp (sym c.in_ok-top.ensures, le-leb _ _ (within c.if-top-gt-MAX_TOP.false))
