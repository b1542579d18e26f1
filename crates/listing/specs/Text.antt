-- Texts as bytes: words, numbers in decimal, bytes in hex.
use Rattle.std.specs.Prelude.{List, [], ◌∷◌, ◌++◌, reverse, ℕ, zero, suc, ◌+◌, ◌/◌, ◌%◌, ltb}
use Prim.Native.Char.{code}
use Prim.Native.String.{String, [] as none, ◌∷◌ as ◌then◌}
use Rattle.format.specs.Parse.{pick}

-- the ASCII bytes of a text
abbrev pub ascii : String → List ℕ
ascii none = []
ascii (c then s) = code c ∷ ascii s

-- a digit below 16, in lower case
abbrev pub digit : ℕ → ℕ
digit d = pick (ltb d 10) (48 + d) (87 + d)

-- the decimal digits of n, which are at most `most`
unfoldable pub digits : ℕ → ℕ → List ℕ
digits zero n = []
digits (suc most) n =
    let longer : List ℕ = digits most (n / 10) ++ (digit (n % 10) ∷ []) in
    pick (ltb n 10) (digit n ∷ []) longer

-- a number in decimal
unfoldable pub decimal : ℕ → List ℕ
unfolding digits
decimal n = digits (suc n) n

-- bytes in hex
unfoldable pub hex : List ℕ → List ℕ
hex [] = []
hex (b ∷ l) = digit (b / 16) ∷ digit (b % 16) ∷ hex l

-- printed order is the reverse of stored order
unfoldable pub printed : List ℕ → List ℕ
unfolding hex
printed stored = hex (reverse stored)

-- a line ends in a newline
abbrev pub line : List ℕ → List ℕ
line text = text ++ (10 ∷ [])
