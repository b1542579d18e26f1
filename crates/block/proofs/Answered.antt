-- Item 1 (02) of the code's own answers: what a call of `write_bump` has returned and left in the memory lent. What the theorems of `WrittenLaws` ask for, the
-- types of the call's arguments say.
use mathlib.Core.Path.{◌≡◌, ap, ◌∙◌}
use mathlib.Core.Bool.{true}
use mathlib.Core.List.{List, []}
use mathlib.Core.Logic.{◌↔◌}
use Prim.Native.Nat.{ℕ, ◌<◌}
use lib.ListN.{length, get_or, take}
use mir.Syntax.{w8}
use mir.Val.{Fits}
use Rattle.std.specs.Prelude.{None}
use Rattle.format.specs.Parse.{ok}
use Rattle.format.specs.Level.{holds}
use Rattle.format.specs.Bump.{Bump, bump_whole}
use Rattle.path.specs.Search.{lookup}
use Rattle.spv.specs.declared.prove.Proved.{Proved}
use Rattle.spv.specs.Hashes.{hashes_of}
use Rattle.spv.specs.Result.{accepted}
use Rattle.spv.specs.Prove.{prove}
use Rattle.spv.specs.Readings.{bump_reading}
use Rattle.spv.specs.Shapes.{accepted_of, proved_of}
use Rattle.encoding.specs.Encode.{AllBytes}
use Rattle.std.specs.Prelude.{Result as Answer, Ok}
use Rattle.spv.specs.declared.rejection.Rejection.{Rejection}
use Rattle.block.specs.Tree.{node, height, root}
use Rattle.block.specs.BlockBump.{writing, Meets}
use Rattle.block.specs.Output.{written_of, output_after}
use Rattle.block.proofs.OutputLaws.{bytes-told}
use Rattle.block.proofs.WrittenLaws.{written-meets, written-only, written_proves}
use Rattle.block.proofs.LeftOut.{OverChosen, Needed, left_out_exactly}

-- a call of `write_bump(block, ids, chosen, out)`: what it returned and left in `out`, by its contract; `ids` is a slice of u8
pub record Call (block : ℕ) (ids chosen out : List ℕ) (returned : Answer ℕ Rejection) (left : List ℕ) : Type 0 where
  pub ids_bytes : (i : ℕ) → Fits w8 (get_or ids i 0)
  pub answer : returned ≡ written_of (writing block ids chosen (length out))
  pub lent : left ≡ output_after (writing block ids chosen (length out)) out

-- it said that it wrote n bytes: they are the first n of `out`
module _ {block : ℕ} {ids chosen out left : List ℕ} {n : ℕ} (c : Call block ids chosen out (Ok n) left) where
  wrote : writing block ids chosen (length out) ≡ accepted (take n left)
  wrote = bytes-told (writing block ids chosen (length out)) out left n c.answer c.lent

  bytes : AllBytes ids
  bytes i = (c.ids_bytes i).fits

  -- they meet the rules
  pub answered_meets : Meets block (hashes_of ids) chosen (take n left)
  answered_meets = written-meets block ids chosen (length out) (take n left) wrote bytes

  -- no other bytes do
  pub answered_only : (s : List ℕ) → ((i : ℕ) → Fits w8 (get_or s i 0)) → Meets block (hashes_of ids) chosen s → s ≡ take n left
  answered_only s all m = written-only block ids chosen (length out) (take n left) wrote s (λ i. (all i).fits) m

  -- read back, by the code that proves an id by a BUMP, they prove each chosen id at its position to the list's root
  pub answered_proves : (i : ℕ) → holds i chosen ≡ true → (x : Answer Proved Rejection) → x ≡ proved_of (prove (bump_reading (take n left) (node (hashes_of ids) 0 i)))
      → x ≡ Ok (accepted_of i (height (hashes_of ids)) (node (hashes_of ids) 0 i) (root (hashes_of ids)))
  answered_proves i m x e = e ∙ ap proved_of (written_proves block ids chosen (length out) (take n left) wrote bytes i m)

  -- a sibling needed is left out exactly when it lies above level 0 and over a chosen position
  pub answered_left_out : (b : Bump) (end : ℕ) → bump_whole (take n left) ≡ ok b end → (k o : ℕ) → k < b.height → Needed chosen k o
      → (lookup o (get_or b.levels k []) ≡ None) ↔ ((0 < k) × OverChosen chosen k o)
  answered_left_out = left_out_exactly block ids chosen (length out) (take n left) wrote bytes
