-- What the code holds of a page.
use Rattle.std.specs.Prelude.{Result as Reply, Ok, Err, ℕ, ◌*◌, ◌/◌, List, ltb, length}
use Rattle.path.specs.declared.path.Path.{Path}
use Rattle.format.specs.Parse.{Parse, ok, fault, pick}
use Rattle.format.specs.Bump.{Bump}
use Rattle.path.specs.Path.{bump_path}
use Rattle.format.specs.Bytes.{hash_at}
use Rattle.spv.specs.declared.rejection.Rejection.{Rejection}
use Rattle.spv.specs.Result.{carrying}
use Rattle.spv.specs.Prove.{prove}
use Rattle.spv.specs.Readings.{path_reading}
use Rattle.spv.specs.Shapes.{proved_of}
use Rattle.page.specs.declared.Answer.{Answer}
use Rattle.page.specs.Page.{blank_answer, answer_of}

-- where the levels of a page's BUMP stand, by what reading it finds
abbrev pub opening_of : List ℕ → Parse Bump → Reply Path Rejection
opening_of s (ok b at) = Ok (bump_path s b)
opening_of s (fault number place) = Err (carrying number place)

-- what a page answers that was opened
abbrev pub paged_under : List ℕ → Reply Path Rejection → Reply ℕ Rejection
paged_under ids (Ok path) = Ok (length ids / 32)
paged_under ids (Err why) = Err why

-- the answer for a row
unfoldable pub answer_at : List ℕ → List ℕ → Reply Path Rejection → ℕ → Answer
answer_at s ids (Ok path) row = pick (ltb row (length ids / 32)) (answer_of (proved_of (prove (path_reading s path (hash_at ids (row * 32)))))) blank_answer
answer_at s ids (Err why) row = blank_answer

-- how many answers a page has
abbrev pub count_of : Reply ℕ Rejection → ℕ
count_of (Ok n) = n
count_of (Err why) = 0
