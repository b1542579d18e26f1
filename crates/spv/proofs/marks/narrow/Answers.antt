use Rattle.std.proofs.Common.{◌≡◌, ℕ, ◌<◌, Result as Answer, Ok, Err, refl, ◌∙◌, arith}
use Rattle.std.specs.Result.{OkIff, result_unwrap_or}
use Rattle.std.proofs.lemmas.Result.{OkIff-at_ok, OkIff-at_err}
use borrow.Author.Tests.{lt-ltb, le-ltb}
use Rattle.spv.specs.Marks.{narrowed}
use Rattle.spv.proofs.marks.narrow.Goals as goal

narrowing : {E : Type 0} (r : Answer ℕ E) (p : ℕ) → OkIff r (p < 4294967296) p → result_unwrap_or r 0 ≡ narrowed p
unfolding narrowed
narrowing {E} (Ok x) p h = let k = OkIff-at_ok {E = E} (Ok x) _ p x h refl in rw (lt-ltb p 4294967296 k.0) k.1
narrowing {E} (Err d) p h = let k = OkIff-at_err {T = ℕ} {E = E} (Err d) _ p d h refl in rw (le-ltb p 4294967296 (omega arith))

pub returns : goal.returns
returns c = c.unwrap_or.ensures ∙ narrowing c.try_from.result c.args.c.at c.try_from.ensures
