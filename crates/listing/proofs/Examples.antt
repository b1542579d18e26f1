-- Listings of small inputs, as one table under one statement: the example of 01, an empty level, each kind of leaf, refusals.
use mathlib.Core.Path.{◌≡◌, refl}
use mathlib.Core.List.{List, [], ◌∷◌, ◌++◌, map}
use Prim.Native.Nat.{ℕ}
use Prim.Native.String.{String}
use lib.ListN.{replicate}
use Rattle.format.specs.Parse.{each, many, whole}
use Rattle.format.specs.Field.{bytes, byte, varint}
use Rattle.format.specs.Level.{holds, offset_field, flag_field, kind_field, carried_field, leaf_field, level_field, level_of_turn}
use Rattle.format.specs.Bump.{block_field, height_up_to, bump_up_to}
use Rattle.format.specs.Bytes.{hash_at}
use Rattle.listing.specs.Text.{ascii, digits, decimal, hex, printed}
use Rattle.listing.specs.Listing.{kind_text, leaf_line, leaf_lines, level_line, level_lines, bump_lines, refused_line, report, listing}

pub record Case : Type 0 where
  pub input : List ℕ
  pub text : String

abbrev pub case : List ℕ → String → Case
case i t = record { input = i; text = t }

unfoldable pub cases : List Case
cases =
    case (0x00 ∷ 0x01 ∷ 0x01 ∷ 0x01 ∷ 0x01 ∷ []) "block 0\nheight 1\nlevel 0 leaves 1\nleaf 1 copy\nok\n" ∷
    case (0x00 ∷ 0x01 ∷ 0x00 ∷ []) "block 0\nheight 1\nlevel 0 leaves 0\nok\n" ∷
    case (0x05 ∷ 0x01 ∷ 0x02 ∷ 0x01 ∷ 0x01 ∷ 0x00 ∷ 0x02 ∷ (replicate 31 0x01 ++ (0x02 ∷ [])))
    "block 5\nheight 1\nlevel 0 leaves 2\nleaf 1 copy\nleaf 0 client 0201010101010101010101010101010101010101010101010101010101010101\nok\n" ∷
    case (0xfe ∷ 0x63 ∷ 0x6d ∷ 0x0c ∷ 0x00 ∷ 0x02 ∷ 0x00 ∷ 0x01 ∷ 0x00 ∷ 0x00 ∷ (0x1f ∷ replicate 31 0xe0))
    "block 814435\nheight 2\nlevel 0 leaves 0\nlevel 1 leaves 1\nleaf 0 plain e0e0e0e0e0e0e0e0e0e0e0e0e0e0e0e0e0e0e0e0e0e0e0e0e0e0e0e0e0e0e01f\nok\n" ∷
    case (0x00 ∷ 0x00 ∷ []) "refused 4 at 1\n" ∷
    case [] "refused 2 at 0\n" ∷
    case (0x00 ∷ 0x01 ∷ 0x00 ∷ 0x00 ∷ []) "refused 9 at 3\n" ∷
    []

pub examples : map (λ c. listing c.input) cases ≡ map (λ c. ascii c.text) cases
unfolding cases digits decimal hex printed kind_text leaf_line leaf_lines level_line level_lines bump_lines refused_line report listing varint byte bytes many each holds offset_field flag_field kind_field carried_field leaf_field level_field level_of_turn block_field height_up_to bump_up_to whole hash_at
examples = refl
