-- The proofs that each form gives, as its reading has them (01, "The climb", "Two climbs").
use Rattle.std.specs.Prelude.{ℕ, List, [], length, get_or, Option, Some, None}
use Rattle.format.specs.declared.leaf.Leaf.{Leaf}
use Rattle.path.specs.declared.path.Form.{Form}
use Rattle.path.specs.declared.path.Path.{Path}
use Rattle.format.specs.Parse.{Parse, ok, fault, whole}
use Rattle.format.specs.Refusals.{NOT_LISTED, MAX_HEIGHT}
use Rattle.path.specs.Search.{least_offset}
use Rattle.path.specs.Path.{start_in}
use Rattle.format.specs.Bump.{bump_up_to}
use Rattle.format.specs.Cmp.{cmp_up_to}
use Rattle.format.specs.Tsc.{Tsc, tsc_up_to, tells_root, target_root}
use Rattle.format.specs.Id.{subject_id}
use Rattle.spv.specs.Result.{carrying}
use Rattle.spv.specs.Climb.{Siblings}
use Rattle.spv.specs.Siblings.{level_siblings, node_siblings, path_siblings}
use Rattle.spv.specs.Prove.{Target, target_of, Reading, any, unread, read}

-- a refusal of reading is the proof's
abbrev pub read_as : {A : Type 0} → Parse A → (A → Reading) → Reading
read_as (ok a next) f = f a
read_as (fault number place) f = unread (carrying number place)

-- an id starts at the level-0 leaf that carries it; if none does it is not listed
unfoldable pub starting : Siblings → ℕ → List ℕ → Option ℕ → Reading
starting σ h id (Some i) = read σ h i id any
starting σ h id None = unread (carrying NOT_LISTED 0)

-- an id by the levels of a BUMP or CMP
unfoldable pub levels_reading : List ℕ → ℕ → List (List Leaf) → List ℕ → Reading
levels_reading s h levels id = starting (level_siblings s levels) h id (least_offset s id (get_or levels 0 []))

-- with at most so many layers, as the readers have it; the names without UpTo, below, have today's limit
unfoldable pub bump_reading_up_to : ℕ → List ℕ → List ℕ → Reading
bump_reading_up_to most s id = read_as (whole (bump_up_to most) s) (λ b. levels_reading s b.height b.levels id)

unfoldable pub cmp_reading_up_to : ℕ → List ℕ → List ℕ → Reading
cmp_reading_up_to most s id = read_as (whole (cmp_up_to most) s) (λ p. levels_reading s p.height p.levels id)

-- a block hash is compared with nothing
unfoldable pub tsc_target : List ℕ → Tsc → Target
tsc_target s t = target_of (tells_root t.flags) (target_root s t.flags t.target)

unfoldable pub tsc_reading_up_to : ℕ → List ℕ → Reading
tsc_reading_up_to most s = read_as (whole (tsc_up_to most) s) (λ t. read (node_siblings s t.nodes) (length t.nodes) t.index (subject_id s t.subject) (tsc_target s t))

-- a proof of any form; a TSC proof has its own id, and the lent one is not looked at
unfoldable pub reading_up_to : ℕ → Form → List ℕ → List ℕ → Reading
reading_up_to most Form.Bump s id = bump_reading_up_to most s id
reading_up_to most Form.Cmp s id = cmp_reading_up_to most s id
reading_up_to most Form.Tsc s id = tsc_reading_up_to most s

abbrev pub bump_reading : List ℕ → List ℕ → Reading
bump_reading = bump_reading_up_to MAX_HEIGHT

abbrev pub cmp_reading : List ℕ → List ℕ → Reading
cmp_reading = cmp_reading_up_to MAX_HEIGHT

abbrev pub tsc_reading : List ℕ → Reading
tsc_reading = tsc_reading_up_to MAX_HEIGHT

abbrev pub reading : Form → List ℕ → List ℕ → Reading
reading = reading_up_to MAX_HEIGHT

-- an id by a path's places
unfoldable pub path_reading : List ℕ → Path → List ℕ → Reading
path_reading s path id = starting (path_siblings s path) path.layers id (start_in s path id)
