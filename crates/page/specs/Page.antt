-- A page of ids against one BUMP (02, Item 2).
use Rattle.std.specs.Prelude.{Result as Reply, Ok, Err, ℕ, ◌/◌, ◌%◌, Bool, ◌&&◌, List, map, eqb, leb, length, replicate}
use Rattle.format.specs.Parse.{Parse, fault, pick}
use Rattle.format.specs.Bump.{Bump, bump_whole}
use Rattle.format.specs.Padded.{padded}
use Rattle.format.specs.Refusals.{OVER_LIMIT, NO_ROOM}
use Rattle.spv.specs.declared.prove.Proved.{Proved}
use Rattle.spv.specs.declared.rejection.Rejection.{Rejection}
use Rattle.spv.specs.Result.{Result, accepted, refused, after_reading, answer_of as answered_by}
use Rattle.spv.specs.Prove.{prove}
use Rattle.spv.specs.Readings.{bump_reading}
use Rattle.spv.specs.Shapes.{proved_of}
use Rattle.spv.specs.Hashes.{hashes_of}
use Rattle.page.specs.declared.Answer.{Answer}

-- "up to 256 ids"
abbrev pub MAX_PAGE : ℕ
MAX_PAGE = 256

-- the answer for no id: all zero
abbrev pub blank_answer : Answer
blank_answer = record { refusal = 0; carried = 0; layer = 0; sibling = 0; position = 0; layers = 0; root = replicate 32 0 }

-- what proving an id found, as a row has it
unfoldable pub answer_of : Reply Proved Rejection → Answer
answer_of (Ok p) = record { refusal = 0; carried = 0; layer = 0; sibling = 0; position = p.position; layers = p.layers; root = p.root }
answer_of (Err why) =
    record { refusal = why.number; carried = why.carried; layer = why.layer; sibling = why.sibling; position = 0; layers = 0; root = replicate 32 0 }

-- asking for one id: what `prove_bump` answers
unfoldable pub single : List ℕ → List ℕ → Answer
single s id = answer_of (proved_of (prove (bump_reading s id)))

-- "equal to asking singly and in order"
unfoldable pub answers : List ℕ → List ℕ → List Answer
answers s ids = map (single s) (hashes_of ids)

-- whole ids, and no more than the most
unfoldable pub allowed : List ℕ → Bool
allowed ids = eqb (length ids % 32) 0 && leb (length ids / 32) MAX_PAGE

-- "5 for over 256 ids or a part of one, then 22 for a row shorter than the ids, both before the BUMP's own, 1 included"
unfoldable pub bump_for : List ℕ → List ℕ → ℕ → Parse Bump
bump_for s ids room =
    pick (allowed ids)
    (pick (leb (length ids / 32) room) (bump_whole s) (fault NO_ROOM 0))
    (fault OVER_LIMIT 0)

-- what a page comes to: an answer for each id
unfoldable pub page : List ℕ → List ℕ → ℕ → Result (List Answer)
page s ids room = after_reading (bump_for s ids room) (λ _. accepted (answers s ids))

-- the answer: for how many ids, or why for none
abbrev pub paged_of : Result (List Answer) → Reply ℕ Rejection
paged_of = answered_by length

-- the row of n answers: "rows past the ids are zeroed", and a refusal gives "a zero row"
unfoldable pub row_of : Result (List Answer) → ℕ → List Answer
row_of (accepted l) n = padded n blank_answer l
row_of (refused why) n = replicate n blank_answer
