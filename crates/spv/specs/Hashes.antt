-- Hashes that stand end to end.
use Rattle.std.specs.Prelude.{ℕ, zero, suc, ◌/◌, ◌<◌, ◌-◌, ◌*◌, ◌≡◌, Bool, false, ◌||◌, List, [], ◌∷◌, length, get_or, take, drop}
use Rattle.format.specs.Parse.{pick}
use Rattle.format.specs.Bytes.{same}

-- n hashes of 32 bytes, end to end
unfoldable pub hashes : ℕ → List ℕ → List (List ℕ)
hashes zero l = []
hashes (suc n) l = take 32 l ∷ hashes n (drop 32 l)

-- "The lent list is roots end to end, possibly none"
unfoldable pub hashes_of : List ℕ → List (List ℕ)
hashes_of l = hashes (length l / 32) l

-- whether one of them is x, and that one is
unfoldable pub among : List ℕ → List (List ℕ) → Bool
among x [] = false
among x (y ∷ l) = same y x || among x l

abbrev pub Among : List ℕ → List (List ℕ) → Type 0
Among x l = (k : ℕ) × (k < length l) × (get_or l k [] ≡ x)

-- the place of the first that is x; how many they are if none is
unfoldable pub index_of : List ℕ → List (List ℕ) → ℕ
index_of x [] = 0
index_of x (y ∷ l) = pick (same y x) 0 (suc (index_of x l))

-- no two are equal
abbrev pub Distinct : List (List ℕ) → Type 0
Distinct l = (j k : ℕ) → j < k → k < length l → get_or l j [] ≡ get_or l k [] → ⊥

-- what is left of a search that has passed i of the hashes
unfoldable pub searching : List ℕ → List ℕ → ℕ → Bool
searching x l i = among x (hashes (length l / 32 - i) (drop (32 * i) l))
