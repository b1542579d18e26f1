-- 27 and 28 for all transactions of a bundle in passes over windows of its outputs, which are numbered through the bundle.
use Rattle.std.specs.Prelude.{ℕ, zero, suc, ◌+◌, ◌-◌, Bool, true, false, not, ◌&&◌, ◌||◌, List, [], ◌∷◌, ◌++◌, map, ltb, leb, eqb, get_or, set}
use Rattle.format.specs.Parse.{pick}
use Rattle.bundle.specs.Numbers.{listed, flat}
use Rattle.bundle.specs.Amounts.{Payment}

-- the numbers of the outputs that a transaction spends, none if it is anchored; those of several, end to end
unfoldable pub numbers_of : List Payment → Payment → List ℕ
numbers_of l t = pick t.anchored [] (map (flat l) t.inputs)

unfoldable pub numbers_in : List (List ℕ) → List ℕ
numbers_in [] = []
numbers_in (ns ∷ l) = ns ++ numbers_in l

-- the amounts of all outputs, end to end
unfoldable pub amounts_in : List Payment → List ℕ
amounts_in [] = []
amounts_in (t ∷ l) = t.outputs ++ amounts_in l

-- the window of so many outputs from base on
unfoldable pub inside : ℕ → ℕ → ℕ → Bool
inside base size x = leb base x && ltb x (base + size)

-- the first of the transactions, counted from k, that spends the output x; 0 if none does
unfoldable pub spender_from : ℕ → List (List ℕ) → ℕ → ℕ
spender_from k [] x = 0
spender_from k (ns ∷ l) x = pick (listed x ns) k (spender_from (suc k) l x)

-- no number in the window again
unfoldable pub fresh_in : ℕ → ℕ → List ℕ → List ℕ → Bool
fresh_in base size before [] = true
fresh_in base size before (x ∷ l) = not (inside base size x && listed x before) && fresh_in base size (before ++ (x ∷ [])) l

-- the marks of a window: a number in it that is not marked gets the mark k
unfoldable pub mark_one : ℕ → ℕ → ℕ → List ℕ → ℕ → List ℕ
mark_one base size k marks x = pick (inside base size x) (pick (eqb (get_or marks (x - base) 0) 0) (set marks (x - base) k) marks) marks

unfoldable pub marked : ℕ → ℕ → List ℕ → ℕ → Bool
marked base size marks x = inside base size x && not (eqb (get_or marks (x - base) 0) 0)

unfoldable pub mark_all : ℕ → ℕ → ℕ → List ℕ → List ℕ → List ℕ
mark_all base size k marks [] = marks
mark_all base size k marks (x ∷ l) = mark_all base size k (mark_one base size k marks x) l

unfoldable pub twice : ℕ → ℕ → ℕ → List ℕ → List ℕ → Bool
twice base size k marks [] = false
twice base size k marks (x ∷ l) = marked base size marks x || twice base size k (mark_one base size k marks x) l

unfoldable pub lesser_if : Bool → ℕ → ℕ → ℕ
lesser_if meant k first = pick meant (pick (leb first k) first k) first

-- all transactions from the k-th on, of which these lists are the numbers: the marks, and the first transaction, before the one given, with a number again
unfoldable pub marks_in : ℕ → ℕ → ℕ → List ℕ → List (List ℕ) → List ℕ
marks_in base size k marks [] = marks
marks_in base size k marks (ns ∷ ls) = marks_in base size (suc k) (mark_all base size k marks ns) ls

unfoldable pub first_in : ℕ → ℕ → ℕ → List ℕ → ℕ → List (List ℕ) → ℕ
first_in base size k marks first [] = first
first_in base size k marks first (ns ∷ ls) = first_in base size (suc k) (mark_all base size k marks ns) (lesser_if (twice base size k marks ns) k first) ls

-- the sum of f below n; of f at the numbers of a list
unfoldable pub sum_to : (ℕ → ℕ) → ℕ → ℕ
sum_to f zero = 0
sum_to f (suc n) = sum_to f n + f n

unfoldable pub sum_at : (ℕ → ℕ) → List ℕ → ℕ
sum_at f [] = 0
sum_at f (x ∷ l) = f x + sum_at f l
