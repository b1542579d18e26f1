-- The edges of a page: no ids at all, a part of one, one too many, a row that is too short, a BUMP that is refused, and an id that is not listed.
use mathlib.Core.Path.{◌≡◌, refl}
use Rattle.std.specs.Prelude.{Result as Reply, Ok, Err}
use mathlib.Core.List.{List, [], ◌∷◌, map}
use Prim.Native.Nat.{ℕ}
use lib.ListN.{replicate}
use Rattle.format.specs.Parse.{each, many, whole}
use Rattle.format.specs.Field.{bytes, byte, varint}
use Rattle.format.specs.Padded.{padded}
use Rattle.format.specs.Level.{level_field}
use Rattle.format.specs.Bump.{block_field, height_up_to, bump_up_to}
use Rattle.path.specs.Search.{least_offset}
use Rattle.spv.specs.Result.{carrying}
use Rattle.spv.specs.Prove.{prove_by}
use Rattle.spv.specs.Readings.{starting, levels_reading, bump_reading_up_to}
use Rattle.spv.specs.Hashes.{hashes, hashes_of}
use Rattle.page.specs.declared.Answer.{Answer}
use Rattle.spv.specs.declared.rejection.Rejection.{Rejection}
use Rattle.page.specs.Page.{blank_answer, answer_of, single, answers, allowed, bump_for, page, paged_of, row_of}

-- what a page answers, and what its row gets
pub record Answering : Type 0 where
  pub paged : Reply ℕ Rejection
  pub row : List Answer

-- a BUMP, ids and a row of so many answers, and what they come to
pub record Case : Type 0 where
  pub bump : List ℕ
  pub ids : List ℕ
  pub room : ℕ
  pub comes : Answering

unfoldable pub answering : Case → Answering
answering c = record { paged = paged_of (page c.bump c.ids c.room); row = row_of (page c.bump c.ids c.room) c.room }

abbrev pub refused_page : List ℕ → List ℕ → ℕ → ℕ → ℕ → Case
refused_page s ids room number carried =
    record { bump = s; ids = ids; room = room; comes = record { paged = Err (carrying number carried); row = replicate room blank_answer } }

abbrev pub answered_page : List ℕ → List ℕ → ℕ → ℕ → List Answer → Case
answered_page s ids room count row = record { bump = s; ids = ids; room = room; comes = record { paged = Ok count; row = row } }

abbrev pub not_listed : Answer
not_listed = record { refusal = 13; carried = 0; layer = 0; sibling = 0; position = 0; layers = 0; root = replicate 32 0 }

unfoldable pub cases : List Case
cases =
    answered_page (0x00 ∷ 0x01 ∷ 0x00 ∷ []) [] 0 0 [] ∷
    answered_page (0x00 ∷ 0x01 ∷ 0x00 ∷ []) [] 2 0 (blank_answer ∷ blank_answer ∷ []) ∷
    answered_page (0x00 ∷ 0x01 ∷ 0x00 ∷ []) (replicate 64 0xaa) 3 2 (not_listed ∷ not_listed ∷ blank_answer ∷ []) ∷
    refused_page (0x00 ∷ 0x00 ∷ []) [] 3 4 1 ∷
    refused_page (0x00 ∷ 0x00 ∷ []) (0x00 ∷ []) 0 5 0 ∷
    refused_page (0x00 ∷ 0x00 ∷ []) (replicate 8224 0xaa) 0 5 0 ∷
    refused_page (0x00 ∷ 0x00 ∷ []) (replicate 32 0xaa) 0 22 0 ∷
    []

-- every page comes to what the table says
pub examples : map answering cases ≡ map (λ c. c.comes) cases
unfolding answering cases answer_of single answers allowed bump_for page row_of padded hashes hashes_of varint byte bytes many each level_field block_field height_up_to bump_up_to whole least_offset prove_by starting levels_reading bump_reading_up_to
examples = refl
