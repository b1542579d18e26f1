-- Which of two inputs is handed back, for C.
use Rattle.std.specs.Prelude.{ℕ, eqb}
use Rattle.format.specs.Parse.{pick}
use Rattle.spv.specs.Result.{Result, accepted, refused}
use Rattle.difference.specs.Shorter.{Choice, first, second}

-- 0 the first, of which a refusal hands back an empty part, and 1 the second
unfoldable pub which_of : Result Choice → ℕ
which_of (accepted first) = 0
which_of (accepted second) = 1
which_of (refused why) = 0

-- the same by the lengths of what is handed back and of the first
unfoldable pub which_by : ℕ → ℕ → ℕ
which_by part whole = pick (eqb part 0) 0 (pick (eqb part whole) 0 1)
