-- What the parts of the compression function compute (FIPS 180-4, section 6.2.2), and the blocks of a message, for the contracts
-- of the functions that make them. Assumes nothing.
use Rattle.std.specs.Prelude.{ℕ, zero, suc, ◌+◌, ◌*◌, ◌/◌, cond, List, [], ◌∷◌, length, drop, replicate, nat_le, slice_index}
use Rattle.hash.specs.declared.compress.State.{State}
use Rattle.hash.specs.declared.compress.Stage.{Stage}
use Rattle.hash.specs.Sha256.{◌⊞◌, schedule, round, pad, words, MAX_INPUT}

-- The sums of constants and words, one by one.
unfoldable pub sums : List ℕ → List ℕ → List ℕ
sums [] w = []
sums (x ∷ k) [] = []
sums (x ∷ k) (y ∷ w) = (x ⊞ y) ∷ sums k w

-- The first n rounds, each by such a sum: it stands for the constant, and 0 for the word.
unfoldable pub rounds_by : State → List ℕ → ℕ → State
rounds_by s x zero = s
rounds_by s x (suc n) = round (rounds_by s x n) (slice_index x n) 0

-- The working variables, the words of the rounds that follow, and their sums with the constants k.
unfoldable pub stage : State → List ℕ → List ℕ → Stage
stage s w k = record { s = s; w = w; x = sums k w }

-- Sixteen rounds on: the words are the sixteen that follow, and k their constants.
unfoldable pub next_stage : Stage → List ℕ → Stage
next_stage t k = stage (rounds_by t.s t.x 16) (drop 16 (schedule t.w 16)) k

-- The number of blocks of a padded message, and its block i (section 5.2.1): zeros past the blocks, and for a message over the input size.
unfoldable pub blocks : List ℕ → ℕ
blocks m = (length m + 72) / 64

unfoldable pub block_of : List ℕ → ℕ → List ℕ
block_of m i =
    cond (nat_le (length m) MAX_INPUT)
    (cond (nat_le (blocks m) i) (replicate 16 0) (words (pad m) (64 * i) 16))
    (replicate 16 0)
