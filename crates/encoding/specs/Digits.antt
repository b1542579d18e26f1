-- Numbers written little end first, and the VarInt in its shortest form (01, "Layouts").
use Rattle.std.specs.Prelude.{List, [], ◌∷◌, ℕ, zero, suc, ◌/◌, ◌%◌, ltb}
use Rattle.format.specs.Parse.{pick}

-- w bytes of n, little end first
unfoldable pub little : ℕ → ℕ → List ℕ
little zero n = []
little (suc w) n = n % 256 ∷ little w (n / 256)

-- only the shortest form is taken
unfoldable pub varint_bytes : ℕ → List ℕ
varint_bytes n =
    pick (ltb n 253) (n ∷ [])
    (pick (ltb n 65536) (253 ∷ little 2 n)
    (pick (ltb n 4294967296) (254 ∷ little 4 n) (255 ∷ little 8 n)))
