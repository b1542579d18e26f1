-- The call, case by case: what is refused, and what is written.
use mathlib.Core.Path.{◌≡◌, refl, sym, ap, ◌∙◌}
use mathlib.Core.Bool.{true, false}
use mathlib.Core.List.{List, [], ◌∷◌, ◌++◌}
use Prim.Native.Nat.{ℕ, zero, suc, ◌+◌, ◌/◌, ◌%◌, ◌^◌, ◌≤◌, ◌<◌}
use lib.ListN.{length, length-append}
use lib.Dec.{leb, eqb}
use native.Mathlib.Omega.{arith}
use borrow.Author.Tests.{le-leb, lt-leb, leb-true, eq-eqb, ne_eqb}
use Rattle.format.proofs.Basics.{and-true}
use Rattle.encoding.specs.Buffer.{Buffer, buffer, put_on, write_on}
use Rattle.encoding.specs.Digits.{varint_bytes}
use Rattle.encoding.specs.Encode.{encode_all}
use Rattle.encoding.specs.BumpBytes.{level_bytes, bump_bytes}
use Rattle.format.specs.Refusals.{OVER_LIMIT, NOT_LISTED, BAD_OFFSET, SAME_TX, NO_ROOM, MAX_BLOCK}
use Rattle.spv.specs.declared.rejection.Rejection.{Rejection}
use Rattle.spv.specs.Result.{accepted, refused, carrying}
use Rattle.spv.specs.Hashes.{hashes_of}
use Rattle.block.specs.Tree.{height_for}
use Rattle.block.proofs.TreeLaws.{height-holds, height-least}
use Rattle.spv.proofs.HashesLaws.{hashes-length}
use Rattle.block.specs.BlockBump.{levels_for, block_bump, sized, none_chosen, all_below, distinct, climbs_from, writing}
use Rattle.block.specs.Output.{room_for}
use Rattle.block.proofs.OutputLaws.{room_short, room-enough}
use Rattle.block.proofs.LeavesLaws.{wrote_hashed}

-- ---- the sizes

module _ (block : ℕ) (list : List ℕ) where
  pub sized-block : MAX_BLOCK < block → false ≡ sized block list
  unfolding sized
  sized-block h = rw (lt-leb block MAX_BLOCK h)

  module _ (b : block ≤ MAX_BLOCK) where
    pub sized-whole : (length list % 32 ≡ 0 → ⊥) → false ≡ sized block list
    unfolding sized
    sized-whole h = rw (le-leb block MAX_BLOCK b, ne_eqb (length list % 32) 0 h)

    module _ (w : length list % 32 ≡ 0) where
      pub sized-few : length list / 32 < 2 → false ≡ sized block list
      unfolding sized
      sized-few h = rw (le-leb block MAX_BLOCK b, eq-eqb (length list % 32) 0 w, lt-leb 2 (length list / 32) h)

      pub sized-many : 2 ≤ length list / 32 → leb (length list / 32) 1024 ≡ sized block list
      unfolding sized
      sized-many h = rw (le-leb block MAX_BLOCK b, eq-eqb (length list % 32) 0 w, le-leb 2 (length list / 32) h)

-- ---- the refusals in their order

none-chosen : (l : List ℕ) → length l ≡ 0 → none_chosen l ≡ true
unfolding none_chosen
none-chosen [] e = refl
none-chosen (x ∷ l) e = absurd (omega arith)

some-chosen : (l : List ℕ) → (length l ≡ 0 → ⊥) → none_chosen l ≡ false
unfolding none_chosen
some-chosen [] d = absurd (d refl)
some-chosen (x ∷ l) d = refl

module _ (block : ℕ) (list chosen : List ℕ) (room : ℕ) where
  pub refuses-size : sized block list ≡ false → writing block list chosen room ≡ refused (carrying OVER_LIMIT 0)
  unfolding writing
  refuses-size e = rw e

  module _ (s : sized block list ≡ true) where
    pub refuses-none : length chosen ≡ 0 → writing block list chosen room ≡ refused (carrying NOT_LISTED 0)
    unfolding writing
    refuses-none e = rw (s, none-chosen chosen e)

    module _ (c : length chosen ≡ 0 → ⊥) where
      pub refuses_outside : all_below (length list / 32) chosen ≡ false → writing block list chosen room ≡ refused (carrying BAD_OFFSET 0)
      unfolding writing
      refuses_outside e = rw (s, some-chosen chosen c, e)

      module _ (b : all_below (length list / 32) chosen ≡ true) where
        pub refuses-equal : distinct (hashes_of list) ≡ false → writing block list chosen room ≡ refused (carrying SAME_TX 0)
        unfolding writing
        refuses-equal e = rw (s, some-chosen chosen c, b, e)

        module _ (d : distinct (hashes_of list) ≡ true) where
          pub refuses_twin : (why : Rejection) → climbs_from (hashes_of list) chosen 0 (length list / 32) ≡ refused why → writing block list chosen room ≡ refused why
          unfolding writing
          refuses_twin why e = rw (s, some-chosen chosen c, b, d, e)

          module _ (t : climbs_from (hashes_of list) chosen 0 (length list / 32) ≡ accepted tt) where
            in_room : writing block list chosen room ≡ room_for room (bump_bytes (block_bump block (hashes_of list) chosen))
            unfolding writing
            in_room = rw (s, some-chosen chosen c, b, d, t)

            pub refuses-room : room < length (bump_bytes (block_bump block (hashes_of list) chosen)) → writing block list chosen room ≡ refused (carrying NO_ROOM 0)
            refuses-room h = in_room ∙ room_short room (bump_bytes (block_bump block (hashes_of list) chosen)) h

            pub writes_all : length (bump_bytes (block_bump block (hashes_of list) chosen)) ≤ room → writing block list chosen room ≡ accepted (bump_bytes (block_bump block (hashes_of list) chosen))
            writes_all h = in_room ∙ room-enough room (bump_bytes (block_bump block (hashes_of list) chosen)) h

-- ---- what is written

-- the bytes of the BUMP, as the code counts and writes them
module _ (block : ℕ) (list chosen : List ℕ) (h : ℕ) (least : h ≡ height_for (length list / 32)) where
  text-is : bump_bytes (block_bump block (hashes_of list) chosen) ≡ varint_bytes block ++ (h ∷ encode_all level_bytes (levels_for (hashes_of list) chosen h 0 h))
  unfolding bump_bytes block_bump hashes_of
  text-is =
      let e : height_for (length (hashes_of list)) ≡ h = ap height_for (hashes-length (length list / 32) list) ∙ sym least in
      ap (λ (x : ℕ). varint_bytes block ++ (x ∷ encode_all level_bytes (levels_for (hashes_of list) chosen x 0 x))) e

  pub size_is : (a b : ℕ) → a ≡ length (varint_bytes block) → b ≡ length (encode_all level_bytes (levels_for (hashes_of list) chosen h 0 h)) → a + 1 + b ≡ length (bump_bytes (block_bump block (hashes_of list) chosen))
  size_is a b e f =
      let g = length-append (varint_bytes block) (h ∷ encode_all level_bytes (levels_for (hashes_of list) chosen h 0 h)) in
      let i = ap length text-is in
      omega arith

  pub wrote_all : (out : List ℕ) {p q : Buffer} {out' : List ℕ} {next : ℕ} → p ≡ write_on (buffer out 0) (varint_bytes block) → q ≡ put_on p h
      → buffer out' next ≡ write_on q (encode_all level_bytes (levels_for (hashes_of list) chosen h 0 h)) → buffer out' next ≡ write_on (buffer out 0) (bump_bytes (block_bump block (hashes_of list) chosen))
  wrote_all out e f g = wrote_hashed (buffer out 0) block h refl e f g ∙ ap (write_on (buffer out 0)) (sym text-is)

-- ---- what the code knows on its way

pub sized-told : (block : ℕ) (list : List ℕ) → sized block list ≡ true → (2 ≤ length list / 32) × (length list / 32 ≤ 1024)
unfolding sized
sized-told block list s =
    let x = and-true (leb block MAX_BLOCK) _ s in
    let y = and-true (eqb (length list % 32) 0) _ x.1 in
    let z = and-true (leb 2 (length list / 32)) _ y.1 in
    (leb-true 2 (length list / 32) z.0, leb-true (length list / 32) 1024 z.1)

-- the least tree is low, and holds the list
pub shape_told : (n h w : ℕ) → h ≡ height_for n → w ≡ 2 ^ height_for n → 2 ≤ n → n ≤ 1024 → (1 ≤ h) × (h ≤ 10) × (w ≡ 2 ^ h) × (n ≤ w)
shape_told n h w e f two l =
    let a = height-least n 10 l in
    let b = height-holds n in
    (rw e (high (height_for n) b), omega arith, f ∙ ap (λ (x : ℕ). 2 ^ x) (sym e), omega arith)
  where
    high : (g : ℕ) → n ≤ 2 ^ g → 1 ≤ g
    high zero b = absurd (omega arith)
    high (suc g) b = omega arith

pub fits_in : {m n k : ℕ} → m ≡ n → m ≤ k → n ≤ k
fits_in e h = omega arith
