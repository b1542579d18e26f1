-- All rows climbed by the levels of a BUMP.
use Rattle.std.specs.Prelude.{◌≡◌, ℕ, ◌*◌, ◌<◌, ◌≤◌, List, length}
use Rattle.path.specs.declared.path.Form.{Form}
use Rattle.path.specs.declared.path.Path.{Path}
use Rattle.spv.specs.Climb.{Siblings}
use Rattle.climbs.specs.Row.{leads_at, came_at}

pub record Levels (path : Path) : Type 0 where
  pub bump : path.form ≡ Form.Bump
  pub few : path.layers ≤ 64

-- room for the order, the states and the hashes of all rows
pub record Roomy (starts order states hashes : List ℕ) : Type 0 where
  pub few : length starts ≤ 65536
  pub places : length order ≡ length starts
  pub each : length starts ≤ length states
  pub room : 32 * length starts ≤ length hashes

-- each row has come to what its climb led to
unfoldable pub Climbed : Siblings → ℕ → List ℕ → List ℕ → List ℕ → List ℕ → List ℕ → Type 0
Climbed σ h starts states hashes states' hashes' = (i : ℕ) → i < length starts → came_at starts states' hashes' i ≡ leads_at σ h starts states hashes i
