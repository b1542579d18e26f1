-- Item 6 (02) of the code's own answers: what the two conversions have returned and left in the memory lent. What the theorems of `ToBump`, `ToTsc` and
-- `RoundTrip` ask for, the types of the calls' arguments say.
use mathlib.Core.Path.{◌≡◌, sym, ap, ◌∙◌}
use mathlib.Core.List.{List}
use Prim.Native.Nat.{ℕ, ◌≤◌, ◌<◌}
use lib.ListN.{length, get_or, take}
use native.Mathlib.Omega.{arith}
use mir.Syntax.{w8, w32}
use mir.Val.{Fits}
use Rattle.format.specs.Parse.{ok}
use Rattle.format.specs.Refusals.{MAX_BLOCK}
use Rattle.format.specs.Tsc.{Tsc, tsc_whole}
use Rattle.format.specs.Id.{subject_id}
use Rattle.encoding.specs.TscBytes.{ID_AND_ROOT}
use Rattle.spv.specs.declared.prove.Proved.{Proved}
use Rattle.spv.specs.Result.{Result, accepted}
use Rattle.spv.specs.Prove.{Proof, prove}
use Rattle.spv.specs.Readings.{bump_reading, tsc_reading}
use Rattle.spv.specs.Shapes.{accepted_of, proved_of}
use Rattle.std.specs.Prelude.{Result as Answer, Ok}
use Rattle.spv.specs.declared.rejection.Rejection.{Rejection}
use Rattle.block.specs.Output.{written_of, output_after}
use Rattle.block.proofs.OutputLaws.{bytes-told, accepted-told}
use Rattle.conversion.specs.Convert.{tsc_to_bump, bump_to_tsc}
use Rattle.conversion.proofs.ToBump.{OneClient, to_bump_proves, to_bump-rises}
use Rattle.conversion.proofs.ToTsc.{to_tsc_proves}
use Rattle.conversion.proofs.RoundTrip.{tsc-round_trip, bump-round_trip}

-- a call of `tsc_to_bump(s, block, out)`: what it returned and left in `out`, by its contract; s is a slice of u8, the block height a u32
pub record ToBumpCall (s : List ℕ) (block : ℕ) (out : List ℕ) (returned : Answer ℕ Rejection) (left : List ℕ) : Type 0 where
  pub bytes : (i : ℕ) → Fits w8 (get_or s i 0)
  pub block_fits : Fits w32 block
  pub answer : returned ≡ written_of (tsc_to_bump s block (length out))
  pub lent : left ≡ output_after (tsc_to_bump s block (length out)) out

-- a call of `bump_to_tsc(s, id, out)`
pub record ToTscCall (s id out : List ℕ) (returned : Answer ℕ Rejection) (left : List ℕ) : Type 0 where
  pub bytes : (i : ℕ) → Fits w8 (get_or s i 0)
  pub answer : returned ≡ written_of (bump_to_tsc s id (length out))
  pub lent : left ≡ output_after (bump_to_tsc s id (length out)) out

-- two answers of proving: accepted, and the same id, position, layers and root
pub record SameProved (x y : Answer Proved Rejection) : Type 0 where
  pub one : Proved
  pub accepts : x ≡ Ok one
  pub same : y ≡ x

both-accepted : (v w : Result Proof) (p : Proof) (x y : Answer Proved Rejection) → v ≡ accepted p → w ≡ accepted p → x ≡ proved_of v → y ≡ proved_of w → SameProved x y
both-accepted v w p x y ev ew ex ey =
    let fx = ex ∙ ap proved_of ev in
    record { one = accepted_of p.position p.layers p.id p.root; accepts = fx; same = ey ∙ ap proved_of ew ∙ sym fx }

low-block : {block : ℕ} → Fits w32 block → block ≤ MAX_BLOCK
low-block f = let h : _ < 4294967296 = f.fits in omega arith

-- ---- a TSC proof to a BUMP: n bytes were written

module _ {s : List ℕ} {block : ℕ} {out left : List ℕ} {n : ℕ} (c : ToBumpCall s block out (Ok n) left) where
  wrote : tsc_to_bump s block (length out) ≡ accepted (take n left)
  wrote = bytes-told (tsc_to_bump s block (length out)) out left n c.answer c.lent

  -- x is what proving answers for the TSC proof: accepted; y what it answers for its id by the bytes written: the same
  pub to_bump_answered : (x : Answer Proved Rejection) → x ≡ proved_of (prove (tsc_reading s))
      → (one : Proved) × (x ≡ Ok one) × ((y : Answer Proved Rejection) → y ≡ proved_of (prove (bump_reading (take n left) one.id)) → SameProved x y)
  to_bump_answered x ex =
      let t = to_bump_proves s block (length out) (take n left) (λ i. (c.bytes i).fits) (low-block c.block_fits) wrote in (
        accepted_of t.0.position t.0.layers t.0.id t.0.root,
        ex ∙ ap proved_of t.1,
        λ y ey. both-accepted (prove (tsc_reading s)) (prove (bump_reading (take n left) t.0.id)) t.0 x y t.1 t.2 ex ey,
      )

  -- "a BUMP with one client leaf", "Copies stay copies, and offsets rise"
  pub to_bump-client : (p : Proof) × (prove (tsc_reading s) ≡ accepted p) × OneClient block p (take n left)
  to_bump-client = to_bump-rises s block (length out) (take n left) (λ i. (c.bytes i).fits) (low-block c.block_fits) wrote

  -- and back, with room for as many bytes as the TSC proof has: "TSC with id and root target, to BUMP and back, gives the same bytes"
  pub tsc_back_answered : (t : Tsc) (q : ℕ) → tsc_whole s ≡ ok t q → t.flags ≡ ID_AND_ROOT → (memory after : List ℕ) (returned : Answer ℕ Rejection)
      → ToTscCall (take n left) (subject_id s t.subject) memory returned after → length s ≤ length memory → (returned ≡ Ok (length s)) × (take (length s) after ≡ s)
  tsc_back_answered t q w four memory after returned d enough =
      accepted-told memory s (tsc-round_trip s t q block (length out) (take n left) (λ i. (c.bytes i).fits) (low-block c.block_fits) w four wrote (length memory) enough) d.answer d.lent

-- ---- one id's climb in a BUMP to a TSC proof: n bytes were written

module _ {s id out left : List ℕ} {n : ℕ} (c : ToTscCall s id out (Ok n) left) where
  wrote_tsc : bump_to_tsc s id (length out) ≡ accepted (take n left)
  wrote_tsc = bytes-told (bump_to_tsc s id (length out)) out left n c.answer c.lent

  -- x is what proving answers for the id by the BUMP, y what it answers for the TSC proof written: the same
  pub to_tsc_answered : (x y : Answer Proved Rejection) → x ≡ proved_of (prove (bump_reading s id)) → y ≡ proved_of (prove (tsc_reading (take n left))) → SameProved x y
  to_tsc_answered x y ex ey =
      let t = to_tsc_proves s id (length out) (take n left) (λ i. (c.bytes i).fits) wrote_tsc in
      both-accepted (prove (bump_reading s id)) (prove (tsc_reading (take n left))) t.0 x y t.1 t.2 ex ey

  -- and back, with room for the bytes needed: "a BUMP keeps root, position and layers that way"
  pub bump_back_answered : (block : ℕ) (memory after : List ℕ) (returned : Answer ℕ Rejection) → ToBumpCall (take n left) block memory returned after
      → (needed : ℕ) × (needed ≤ length memory → (returned ≡ Ok needed) × ((x y : Answer Proved Rejection) → x ≡ proved_of (prove (bump_reading s id)) → y ≡ proved_of (prove (bump_reading (take needed after) id)) → SameProved x y))
  bump_back_answered block memory after returned d =
      let t = bump-round_trip s id (length out) block (take n left) (λ i. (c.bytes i).fits) (low-block d.block_fits) wrote_tsc in (
        length t.bumped,
        λ enough.
            let a = accepted-told memory t.bumped (t.writes (length memory) enough) d.answer d.lent in (
              a.0,
              λ x y ex ey.
                  both-accepted (prove (bump_reading s id)) (prove (bump_reading (take (length t.bumped) after) id)) t.proof x y t.proves
                  (ap (λ (l : List ℕ). prove (bump_reading l id)) a.1 ∙ t.again) ex ey,
            ),
      )
