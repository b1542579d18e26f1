-- Item 12's definitions, computed.
use Prim.Native.Nat.{ℕ}
use mathlib.Core.Path.{◌≡◌, refl}
use mathlib.Core.List.{List, [], ◌∷◌, ◌++◌}
use lib.ListN.{replicate}
use Rattle.format.specs.Parse.{each, many}
use Rattle.format.specs.Bytes.{same}
use Rattle.format.specs.Field.{bytes, byte, varint}
use Rattle.format.specs.Transaction.{script_field, input_field, takes, output_field, outputs_field, some_field, list_field, fields_by, tx_field_by}
use Rattle.spv.specs.Result.{carrying}
use Rattle.spv.specs.Hashes.{among}
use Rattle.order.specs.Listed.{listed}
use Rattle.order.specs.Order.{rested, ready, check_from, check, first_from, first, ahead, placing, ours}
use Rattle.order.specs.Set.{accepted, refused, refusing, before, read_from, read_set, Handed, new_from, new_ids, parent_in, passes, ours_of, proposed, ordering, checking, order_set, check_set, row_after}

-- ---- over ids and parents

abbrev tx : ℕ → List (List ℕ) → Handed
tx i parents = record { id = i ∷ []; parents = parents }

abbrev by : ℕ → List ℕ
by i = i ∷ []

-- a chain handed in from its end, with a parent that is not in the set
abbrev chain : List Handed
chain = tx 5 (by 6 ∷ by 99 ∷ []) ∷ tx 6 (by 7 ∷ []) ∷ tx 7 [] ∷ tx 8 [] ∷ []

chain_ours : ordering 4 chain ≡ accepted (2 ∷ 1 ∷ 0 ∷ 3 ∷ [])
unfolding ordering new_ids new_from proposed ours_of ours placing first first_from ready rested listed parent_in same among ahead
chain_ours = refl

chain_row : row_after (ordering 5 chain) (9 ∷ 9 ∷ 9 ∷ 9 ∷ 9 ∷ []) ≡ 2 ∷ 1 ∷ 0 ∷ 3 ∷ 9 ∷ []
unfolding row_after ordering new_ids new_from proposed ours_of ours placing first first_from ready rested listed parent_in same among ahead
chain_row = refl

chain_room : row_after (ordering 3 chain) (9 ∷ 9 ∷ 9 ∷ []) ≡ 0 ∷ 0 ∷ 0 ∷ []
unfolding row_after ordering new_ids new_from proposed ours_of ours placing first first_from ready rested listed parent_in same among ahead
chain_room = refl

chain_other : checking (3 ∷ 2 ∷ 1 ∷ 0 ∷ []) chain ≡ accepted (3 ∷ 2 ∷ 1 ∷ 0 ∷ [])
unfolding checking new_ids new_from passes check check_from ready rested listed parent_in same among
chain_other = refl

chain_late : checking (3 ∷ 1 ∷ 2 ∷ 0 ∷ []) chain ≡ refusing 30
unfolding checking new_ids new_from passes check check_from ready rested listed parent_in same among
chain_late = refl

chain_short : checking (3 ∷ 2 ∷ 1 ∷ []) chain ≡ refusing 30
unfolding checking new_ids new_from passes check check_from ready rested listed parent_in same among
chain_short = refl

chain_twice : checking (3 ∷ 2 ∷ 1 ∷ 0 ∷ 3 ∷ []) chain ≡ refusing 30
unfolding checking new_ids new_from passes check check_from ready rested listed parent_in same among
chain_twice = refl

-- a circle has no order
circle : ordering 2 (tx 5 (by 6 ∷ []) ∷ tx 6 (by 5 ∷ []) ∷ []) ≡ refusing 29
unfolding ordering new_ids new_from proposed ours_of ours placing first first_from ready rested listed parent_in same among ahead
circle = refl

-- 19 before 22
again : ordering 0 (tx 5 [] ∷ tx 5 [] ∷ []) ≡ refusing 19
unfolding ordering new_ids new_from same among
again = refl

-- ---- over bytes

-- a transaction of 60 bytes
abbrev raw : ℕ → List ℕ
raw parent =
    1 ∷ 0 ∷ 0 ∷ 0 ∷ 1 ∷ (replicate 32 parent ++ (0 ∷ 0 ∷ 0 ∷ 0 ∷ 0 ∷ 255 ∷ 255 ∷ 255 ∷ 255 ∷ 1 ∷ 0 ∷ 0 ∷ 0 ∷ 0 ∷ 0 ∷ 0 ∷ 0 ∷ 0 ∷ 0 ∷ 0 ∷ 0 ∷ 0 ∷ 0 ∷ []))

-- the bytes end between two: the next one's number
ends_between : order_set (raw 7) 2 2 ≡ refused (carrying 2 60) 1
unfolding order_set read_set read_from before fields_by tx_field_by list_field script_field some_field input_field takes output_field outputs_field varint bytes byte many each
ends_between = refl

-- 9: the count
bytes_left : order_set (raw 7 ++ (7 ∷ [])) 1 0 ≡ refused (carrying 9 60) 1
unfolding order_set read_set read_from before fields_by tx_field_by list_field script_field some_field input_field takes output_field outputs_field varint bytes byte many each
bytes_left = refl

-- a fault in the second: no inputs
second-fault : check_set (raw 7 ++ (1 ∷ 0 ∷ 0 ∷ 0 ∷ 0 ∷ [])) 2 [] ≡ refused (carrying 11 64) 1
unfolding check_set read_set read_from before fields_by tx_field_by list_field script_field some_field input_field takes output_field outputs_field varint bytes byte many each
second-fault = refl

-- 64 bytes (02, Item 13), at its first
node-sized : check_set (raw 7 ++ (1 ∷ 0 ∷ 0 ∷ 0 ∷ 1 ∷ (replicate 36 0 ++ (4 ∷ replicate 8 0 ++ (1 ∷ replicate 13 0))))) 2 [] ≡ refused (carrying 11 60) 1
unfolding check_set read_set read_from before fields_by tx_field_by list_field script_field some_field input_field takes output_field outputs_field varint bytes byte many each
node-sized = refl

-- 5 before 1 and reading
too_many : order_set (7 ∷ []) 257 0 ≡ refusing 5
unfolding order_set read_set
too_many = refl

-- a set of none has the empty order alone
nothing-ours : order_set [] 0 0 ≡ accepted []
unfolding order_set read_set read_from ordering new_ids new_from proposed ours_of ours placing
nothing-ours = refl

nothing_left : order_set (7 ∷ []) 0 0 ≡ refused (carrying 9 0) 0
unfolding order_set read_set read_from
nothing_left = refl

nothing-more : check_set [] 0 (0 ∷ []) ≡ refusing 30
unfolding check_set read_set read_from checking new_ids new_from passes check check_from ready
nothing-more = refl
