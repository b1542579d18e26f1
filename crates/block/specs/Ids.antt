-- The ids of a list, as the code looks at them.
use Rattle.std.specs.Prelude.{List, ℕ, ◌+◌, ◌*◌, ◌%◌, get_or, take, drop}

-- the id at a position
abbrev pub id_at : List ℕ → ℕ → List ℕ
id_at list i = take 32 (drop (32 * i) list)

-- a number that equal ids have in common, for the id at a place
unfoldable pub slot_at : List ℕ → ℕ → ℕ
slot_at list at = (get_or list at 0 + 256 * get_or list (at + 1) 0 + 256 * get_or list (at + 30) 0 + get_or list (at + 31) 0) % 16384
