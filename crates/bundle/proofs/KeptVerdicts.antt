-- 02, Item 8: "accepted proofs keep their answers", of a bundle: one that is accepted with at most so many layers in each BUMP is accepted with more, with the same records; today's limit is MAX_HEIGHT, at which this is `judge_beef`.
use Prim.Native.Nat.{ℕ, ◌≤◌, ◌%◌}
use mathlib.Core.Path.{◌≡◌, refl}
use mathlib.Core.Bool.{Bool, true, false}
use mathlib.Core.List.{List}
use lib.ListN.{length}
use lib.Dec.{leb, eqb}
use native.Mathlib.Omega.{arith}
use Rattle.format.specs.Parse.{Parse, ok, fault, pick, whole}
use Rattle.format.specs.Refusals.{MAX_INPUT, TOO_LONG, BAD_ROOTS}
use Rattle.format.specs.Beef.{Beef, beef_up_to}
use Rattle.format.proofs.MoreLayers.{beef_stays}
use Rattle.spv.specs.Result.{accepted, refused, carrying}
use Rattle.spv.proofs.KeptAnswers.{Stays}
use Rattle.bundle.specs.declared.table.Record.{Record}
use Rattle.bundle.specs.Bundle.{Judgement, judge_read, judge_up_to}

judged_stays : (s roots : List ℕ) (fee : ℕ) (x y : Parse Beef) (l : List Record) → Stays x y → judge_read s roots fee x ≡ accepted l → judge_read s roots fee y ≡ accepted l
unfolding judge_read
judged_stays s roots fee (ok b end) y l h e = rw (h b end refl) e
judged_stays s roots fee (fault number place) y l h e = let z : ◌≡◌ {A = ℕ} 0 1 = cc in absurd (omega arith)

tested : (t : Bool) (v w : Judgement) (why : ℕ) (l : List Record) → (v ≡ accepted l → w ≡ accepted l) → pick t v (refused (carrying why 0)) ≡ accepted l → pick t w (refused (carrying why 0)) ≡ accepted l
tested true v w why l h e = h e
tested false v w why l h e = e

pub verdict_kept : (most more : ℕ) → most ≤ more → (s roots : List ℕ) (fee room : ℕ) (l : List Record) → judge_up_to most s roots fee room ≡ accepted l → judge_up_to more s roots fee room ≡ accepted l
unfolding judge_up_to
verdict_kept most more low s roots fee room l =
    tested (leb (length s) MAX_INPUT) _ _ TOO_LONG l
    (tested (eqb (length roots % 32) 0) _ _ BAD_ROOTS l
    (judged_stays s roots fee (whole (beef_up_to most room) s) (whole (beef_up_to more room) s) l (λ b end. beef_stays most more low s end room b)))
