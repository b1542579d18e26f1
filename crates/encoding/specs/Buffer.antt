-- Writing into lent memory: a byte is stored while there is room, and dropped after that.
use Rattle.std.specs.Prelude.{List, [], ◌∷◌, ◌++◌, ℕ, ◌+◌, length, set, take, drop, ltb}
use Rattle.format.specs.Parse.{pick}

-- the memory, and where the next byte goes
pub record Buffer : Type 0 where
  pub room : List ℕ
  pub at : ℕ

abbrev pub buffer : List ℕ → ℕ → Buffer
buffer room at = record { room = room; at = at }

unfoldable pub put_on : Buffer → ℕ → Buffer
put_on p b = pick (ltb p.at (length p.room)) (buffer (set p.room p.at b) (p.at + 1)) p

-- a text, byte by byte
unfoldable pub write_on : Buffer → List ℕ → Buffer
write_on p [] = p
write_on p (b ∷ text) = write_on (put_on p b) text

-- memory that holds a text, as far as there is room
abbrev pub filled : List ℕ → List ℕ → List ℕ
filled room text = take (length room) text ++ drop (length text) room
