-- The examples at the edges of 01, P1 to P14, as one table under one statement; P9 as 02, Item 8, changed it.
use mathlib.Core.Path.{◌≡◌, refl}
use mathlib.Core.Bool.{Bool, true, false}
use mathlib.Core.List.{List, [], ◌∷◌, map}
use Prim.Native.Nat.{ℕ}
use Rattle.format.specs.Parse.{Parse, each, many, whole, ok, fault}
use Rattle.format.specs.Field.{bytes, byte, varint}
use Rattle.format.specs.Level.{holds, offset_field, flag_field, kind_field, carried_field, leaf_field, level_field, level_of_turn}
use Rattle.format.specs.Bump.{Bump, block_field, height_up_to, bump_up_to, bump_whole}
use Rattle.path.specs.Search.{least_offset}
use Rattle.format.specs.Tsc.{index_fits}
use Rattle.spv.specs.Result.{Result, refused, carrying}
use Rattle.spv.specs.Climb.{sibling_position, sibling_positions}
use Rattle.spv.specs.Prove.{prove_by, prove, Proof}
use Rattle.spv.specs.Readings.{starting, levels_reading, bump_reading, bump_reading_up_to}

pub data Input : Type 0 where
  var_int_of : List ℕ → Input
  bump_of : List ℕ → Input
  siblings_of : ℕ → ℕ → Input
  positions_of : List ℕ → ℕ → Input

-- a BUMP answers its reading, and what it proves of every id
pub data Given : Type 0 where
  number : Parse ℕ → Given
  path : Parse Bump → (List ℕ → Result Proof) → Given
  siblings : List ℕ → Given
  allowed : List Bool → Given

pub record Case : Type 0 where
  pub input : Input
  pub answer : Given

unfoldable pub given : Input → Given
given (var_int_of s) = number (varint s 0)
given (bump_of s) = path (bump_whole s) (λ id. prove (bump_reading s id))
given (siblings_of i h) = siblings (sibling_positions i h)
given (positions_of is h) = allowed (map (λ i. index_fits i h) is)

abbrev pub case : Input → Given → Case
case i a = record { input = i; answer = a }

-- a BUMP that is refused, and so is every id by it
abbrev pub refused_path : ℕ → ℕ → Given
refused_path n place = path (fault n place) (λ id. refused (carrying n place))

unfoldable pub cases : List Case
cases =
    case (var_int_of (0xfc ∷ [])) (number (ok 252 1)) ∷
    case (var_int_of (0xfd ∷ 0xfd ∷ 0x00 ∷ [])) (number (ok 253 3)) ∷
    case (var_int_of (0xfd ∷ 0xfc ∷ 0x00 ∷ [])) (number (fault 3 0)) ∷
    case (var_int_of (0xfe ∷ 0x63 ∷ 0x6d ∷ 0x0c ∷ 0x00 ∷ [])) (number (ok 814435 5)) ∷
    case (var_int_of (0xfe ∷ 0xff ∷ 0xff ∷ 0x00 ∷ 0x00 ∷ [])) (number (fault 3 0)) ∷
    case (var_int_of []) (number (fault 2 0)) ∷
    case (bump_of (0x00 ∷ 0x01 ∷ 0x00 ∷ [])) (path (ok (record { block = 0; height = 1; start = 2; levels = [] ∷ [] }) 3) (λ id. refused (carrying 13 0))) ∷
    case (bump_of (0x00 ∷ 0x00 ∷ [])) (refused_path 4 1) ∷
    case (bump_of (0x00 ∷ 0x21 ∷ [])) (refused_path 2 2) ∷
    case (bump_of (0x00 ∷ 0x41 ∷ [])) (refused_path 4 1) ∷
    case (bump_of (0x00 ∷ 0x01 ∷ 0x01 ∷ 0x00 ∷ 0x01 ∷ [])) (refused_path 7 4) ∷
    case (bump_of (0x00 ∷ 0x01 ∷ 0x01 ∷ 0x02 ∷ [])) (refused_path 6 3) ∷
    case (bump_of (0x00 ∷ 0x01 ∷ 0x02 ∷ 0x01 ∷ 0x01 ∷ 0x01 ∷ [])) (refused_path 8 5) ∷
    case (siblings_of 21 7) (siblings (20 ∷ 11 ∷ 4 ∷ 3 ∷ 0 ∷ 1 ∷ 1 ∷ [])) ∷
    case (positions_of (7 ∷ 8 ∷ []) 3) (allowed (true ∷ false ∷ [])) ∷
    []

-- every case answers what the table says
pub examples : map (λ c. given c.input) cases ≡ map (λ c. c.answer) cases
unfolding given cases varint byte bytes many each holds offset_field flag_field kind_field carried_field leaf_field level_field level_of_turn block_field height_up_to bump_up_to whole least_offset sibling_position sibling_positions index_fits prove_by starting levels_reading bump_reading_up_to
examples = refl
