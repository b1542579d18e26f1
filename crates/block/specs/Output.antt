-- What a writer answers, and what the memory lent to it holds then.
use Rattle.std.specs.Prelude.{List, ◌++◌, ℕ, length, drop, leb, Result as Answer}
use Rattle.format.specs.Parse.{pick}
use Rattle.format.specs.Refusals.{NO_ROOM}
use Rattle.spv.specs.Result.{Result, accepted, refused, carrying, answer_of}
use Rattle.spv.specs.declared.rejection.Rejection.{Rejection}

-- 22 exactly when the bytes needed exceed the room lent
unfoldable pub room_for : ℕ → List ℕ → Result (List ℕ)
room_for room bytes = pick (leb (length bytes) room) (accepted bytes) (refused (carrying NO_ROOM 0))

-- the answer: how many bytes were written, or the refusal
abbrev pub written_of : Result (List ℕ) → Answer ℕ Rejection
written_of = answer_of length

-- what the memory lent holds then: "each leaves the output as it was"; bytes past the written ones stay
unfoldable pub output_after : Result (List ℕ) → List ℕ → List ℕ
output_after (accepted bytes) out = bytes ++ drop (length bytes) out
output_after (refused why) out = out
