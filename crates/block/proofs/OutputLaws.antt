-- Laws of a writer's answer and of the memory lent to it.
use mathlib.Core.Path.{◌≡◌, refl, sym, ap, ◌∙◌}
use mathlib.Core.Bool.{Bool, true, false}
use mathlib.Core.List.{List, ◌++◌}
use Prim.Native.Nat.{ℕ, ◌≤◌, ◌<◌, min}
use lib.ListN.{length, take, drop}
use lib.Seq.{take_all, take-append_seam}
use lib.Dec.{leb}
use native.Mathlib.Omega.{arith}
use borrow.Author.Tests.{le-leb, lt-leb, leb-true}
use Rattle.encoding.specs.Buffer.{Buffer, buffer, write_on, filled}
use Rattle.encoding.proofs.BufferLaws.{write-whole}
use Rattle.format.specs.Parse.{pick}
use Rattle.format.specs.Refusals.{NO_ROOM}
use Rattle.spv.specs.declared.rejection.Rejection.{Rejection}
use Rattle.spv.specs.Result.{Result, accepted, refused, carrying}
use Rattle.std.specs.Prelude.{Result as Answer, Ok, Err}
use Rattle.spv.proofs.ResultLaws.{answered-ok}
use Rattle.block.specs.Output.{room_for, written_of, output_after}

module _ (room : ℕ) (bytes : List ℕ) where
  pub room_short : room < length bytes → room_for room bytes ≡ refused (carrying NO_ROOM 0)
  unfolding room_for
  room_short h = rw (lt-leb (length bytes) room h)

  pub room-enough : length bytes ≤ room → room_for room bytes ≡ accepted bytes
  unfolding room_for
  room-enough h = rw (le-leb (length bytes) room h)

-- what an accepted writer has written
pub room-told : (room : ℕ) (needed bytes : List ℕ) → room_for room needed ≡ accepted bytes → (needed ≡ bytes) × (length bytes ≤ room)
unfolding room_for
room-told room needed bytes e = go (leb (length needed) room) refl e
  where
    go : (t : Bool) → leb (length needed) room ≡ t → pick t (accepted needed) (refused (carrying NO_ROOM 0)) ≡ accepted bytes → (needed ≡ bytes) × (length bytes ≤ room)
    go true q f = let y : needed ≡ bytes = cc in (y, rw (← y) (leb-true _ _ q))
    go false q f = let z : ◌≡◌ {A = ℕ} 0 1 = cc in absurd (omega arith)

-- nothing is written
pub refused_so : (out : List ℕ) {w : Result (List ℕ)} {why x : Rejection} → w ≡ refused why → x ≡ why → (Err x ≡ written_of w) × (out ≡ output_after w out)
unfolding output_after
refused_so out e q = rw e (ap Err q, refl)

-- a text that fits is written whole
pub written-whole : (out text : List ℕ) → length text ≤ length out → {w : Result (List ℕ)} {out' : List ℕ} {next : ℕ} → w ≡ accepted text → buffer out' next ≡ write_on (buffer out 0) text
    → (Ok next ≡ written_of w) × (out' ≡ output_after w out)
unfolding output_after
written-whole out text fits {w} {out'} {next} e f =
    let end : buffer out' next ≡ buffer (filled out text) (min (length out) (length text)) = f ∙ write-whole out text in
    rw e (ap Ok (ap (λ (x : Buffer). x.at) end ∙ omega arith), ap (λ (x : Buffer). x.room) end ∙ ap (λ (x : List ℕ). x ++ drop (length text) out) (take_all (length out) text fits))

-- an answer of n bytes: they stand at the start of what is left in the memory lent
pub bytes-told : (w : Result (List ℕ)) (out left : List ℕ) (n : ℕ) → Ok n ≡ written_of w → left ≡ output_after w out → w ≡ accepted (take n left)
unfolding output_after
bytes-told w out left n e f = go (answered-ok length w n e)
  where
    go : (bytes : List ℕ) × (w ≡ accepted bytes) × (length bytes ≡ n) → w ≡ accepted (take n left)
    go (bytes, is, l) =
        is ∙ ap accepted (sym (take-append_seam bytes (drop (length bytes) out)) ∙ ap (λ (m : ℕ). take m (bytes ++ drop (length bytes) out)) l
        ∙ ap (take n) (sym (f ∙ ap (λ (x : Result (List ℕ)). output_after x out) is)))

-- and where bytes are accepted, the answer and the memory tell them
pub accepted-told : {w : Result (List ℕ)} {r : Answer ℕ Rejection} {left : List ℕ} (out bytes : List ℕ) → w ≡ accepted bytes → r ≡ written_of w → left ≡ output_after w out → (r ≡ Ok (length bytes)) × (take (length bytes) left ≡ bytes)
unfolding output_after
accepted-told out bytes e a l =
    (a ∙ ap written_of e, ap (take (length bytes)) (l ∙ ap (λ (x : Result (List ℕ)). output_after x out) e) ∙ take-append_seam bytes (drop (length bytes) out))
