-- The flat form in which the code holds the answers of a page: their roots end to end, and as numbers the starts of the rows, from place 256 on their
-- states, and at place 512 the layers.
use Rattle.std.specs.Prelude.{ℕ, ◌+◌, ◌*◌, ◌/◌, ◌%◌, ◌<◌, ◌≤◌, ◌≡◌, List, ltb, length, get_or, replicate}
use Rattle.path.specs.declared.path.Form.{Form}
use Rattle.path.specs.declared.path.Path.{Path}
use Rattle.format.specs.Parse.{pick}
use Rattle.path.specs.Path.{LAYERS}
use Rattle.format.specs.Bytes.{hash_at}
use Rattle.spv.specs.Prove.{prove}
use Rattle.spv.specs.Readings.{path_reading}
use Rattle.spv.specs.Shapes.{proved_of}
use Rattle.climbs.specs.Proofs.{proved_at}
use Rattle.page.specs.declared.Answer.{Answer}
use Rattle.page.specs.Page.{MAX_PAGE, blank_answer, answer_of}

-- the answer that stands at a row: what the row's start, state and root say of any id
unfoldable pub flat_at : List ℕ → List ℕ → ℕ → Answer
flat_at roots numbers row =
    answer_of (proved_at (get_or numbers 512 0) (replicate 32 0) (replicate 1 (get_or numbers row 0)) (replicate 1 (get_or numbers (256 + row) 0 % 65536)) (hash_at roots (32 * row)) 0)

-- the answer for a row, of so many that a flat form holds: blank past them
unfoldable pub flat_answer : List ℕ → List ℕ → ℕ → ℕ → Answer
flat_answer roots numbers count row = pick (ltb row count) (pick (ltb row MAX_PAGE) (flat_at roots numbers row) blank_answer) blank_answer

-- the ids stand where their roots are going to be
unfoldable pub Copied : List ℕ → ℕ → List ℕ → Type 0
Copied ids n roots = (r : ℕ) → r < n → hash_at roots (32 * r) ≡ hash_at ids (32 * r)

-- the states of the first n rows and the layers are noted, the starts as they were
pub record Noted (states : List ℕ) (layers n : ℕ) (numbers numbers' : List ℕ) : Type 0 where
  pub state : (r : ℕ) → r < n → get_or numbers' (256 + r) 0 % 65536 ≡ get_or states r 0
  pub start : (r : ℕ) → r < 256 → get_or numbers' r 0 ≡ get_or numbers r 0
  pub top : get_or numbers' 512 0 ≡ layers

-- a path as a BUMP's reading gives it
pub record Levelled (path : Path) : Type 0 where
  pub bump : path.form ≡ Form.Bump
  pub few : path.layers ≤ LAYERS

-- what asking for a row's id answers
unfoldable pub asked : List ℕ → List ℕ → Path → ℕ → Answer
asked s ids path row = answer_of (proved_of (prove (path_reading s path (hash_at ids (row * 32)))))

-- an answer of a row is right, if the row has an id
abbrev pub Right : List ℕ → List ℕ → Path → ℕ → Answer → Type 0
Right s ids path row answer = row < length ids / 32 → answer ≡ asked s ids path row

-- the first n rows are right
unfoldable pub AllRight : List ℕ → List ℕ → Path → ℕ → List ℕ → List ℕ → Type 0
AllRight s ids path n roots numbers = (r : ℕ) → r < n → Right s ids path r (flat_at roots numbers r)
