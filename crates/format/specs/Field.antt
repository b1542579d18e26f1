-- The fields (01, "Layouts"): a byte, a run of bytes, a VarInt.
use Rattle.std.specs.Prelude.{List, ℕ, ◌+◌, ◌*◌, length, get_or, ltb, leb, eqb}
use Rattle.format.specs.Parse.{Reader, pick, pure, ◌>>=◌, ◌passing◌else◌, field, ok, fault}
use Rattle.format.specs.Refusals.{SHORT, LONG_VARINT}

-- n bytes, given by their place
unfoldable pub bytes : ℕ → Reader ℕ
bytes n s at = pick (leb (at + n) (length s)) (ok at (at + n)) (fault SHORT at)

-- one byte
unfoldable pub byte : Reader ℕ
byte s at = pick (ltb at (length s)) (ok (get_or s at 0) (at + 1)) (fault SHORT at)

-- numbers of 2, 4 and 8 bytes, little end first
abbrev pub le2 : List ℕ → ℕ → ℕ
le2 s at = get_or s at 0 + 256 * get_or s (at + 1) 0

abbrev pub le4 : List ℕ → ℕ → ℕ
le4 s at = le2 s at + 65536 * le2 s (at + 2)

abbrev pub le8 : List ℕ → ℕ → ℕ
le8 s at = le4 s at + 4294967296 * le4 s (at + 4)

abbrev pub number : (List ℕ → ℕ → ℕ) → ℕ → Reader ℕ
number value width = do
  place ← bytes width
  λ s at. ok (value s place) at

-- a VarInt: a first byte up to fc is the number; fd, fe, ff announce 2, 4, 8 bytes; only the shortest form is taken
abbrev pub announced : ℕ → Reader ℕ
announced first =
    pick (ltb first 253) (pure first)
    (pick (eqb first 253) (number le2 2 passing (λ v. leb 253 v) else LONG_VARINT)
    (pick (eqb first 254) (number le4 4 passing (λ v. leb 65536 v) else LONG_VARINT)
    (number le8 8 passing (λ v. leb 4294967296 v) else LONG_VARINT)))

unfoldable pub varint : Reader ℕ
unfolding byte bytes
varint = field do
  first ← byte
  announced first
