-- The two strings of proofs of different numbers of layers, for C.
use Rattle.std.specs.Prelude.{ℕ, List}
use Rattle.spv.specs.Result.{Result, accepted, refused}
use Rattle.spv.specs.Depth.{Pair, transaction, strings}

-- whether the shorter proof's string is the raw transaction, which the caller has
unfoldable pub is_transaction : Pair → ℕ
is_transaction (transaction u) = 1
is_transaction (strings t u) = 0

-- memory for that string stays as it was, if it is the transaction
unfoldable pub first_string_of : Result Pair → List ℕ → List ℕ
first_string_of (refused why) old = old
first_string_of (accepted (transaction u)) old = old
first_string_of (accepted (strings t u)) old = t
