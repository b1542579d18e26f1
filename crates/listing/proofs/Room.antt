-- How long a listing can be: `listing-fits`.
use mathlib.Core.Path.{◌≡◌, refl, ap}
use mathlib.Core.Bool.{Bool, true, false, ◌&&◌, false≢true}
use mathlib.Core.List.{List, [], ◌∷◌, ◌++◌, reverse}
use Prim.Native.Nat.{ℕ, zero, suc, ◌+◌, ◌-◌, ◌*◌, ◌/◌, ◌%◌, ◌^◌, ◌≤◌, ◌<◌, min}
use lib.ListN.{length, take, drop, length-append, length-reverse}
use lib.Seq.{take_all, take-append_seam}
use lib.Dec.{ltb, leb}
use native.Mathlib.Omega.{arith}
use native.Mathlib.Nat.{pow-suc, pow-le-pow_right}
use borrow.Author.Tests.{ltb-false, leb-true}
use Rattle.format.specs.declared.level.Layout.{Layout}
use Rattle.format.specs.declared.leaf.Leaf.{Leaf}
use Rattle.format.specs.declared.leaf.Kind.{Kind}
use Rattle.format.specs.declared.leaf.Kind.TheVariants.{Plain, Copy, Client}
use Rattle.format.specs.Parse.{Parse, pick, many, whole}
use Rattle.format.specs.Field.{byte, varint}
use Rattle.format.specs.Refusals.{TOO_LONG, BAD_HEIGHT, OVER_LIMIT, MAX_INPUT, MAX_LEAVES, MAX_BLOCK, MAX_HEIGHT}
use Rattle.format.specs.Level.{leaf_field, and_offset, level_field, level_of_turn, level_in_turn, next_turn}
use Rattle.format.specs.Bump.{Bump, block_field, height_up_to, bump_field, bump_up_to, bump_whole}
use Rattle.format.specs.Bytes.{hash_at}
use Rattle.format.proofs.BytesLaws.{hash-at-length}
use Rattle.listing.specs.Text.{digit, digits, decimal, hex, printed}
use Rattle.listing.specs.Listing.{LISTED_BYTES, LISTING_ROOM, kind_text, leaf_line, leaf_lines, level_line, level_lines, bump_lines, refused_line, report, listing}
use Rattle.encoding.specs.Buffer.{filled}
use Rattle.listing.proofs.Bounded.{Bounded, read, refused, within_then, within-each, within_weaken, within_choice, within_passing, carried_bytes, within-byte, within-varint, within-leaf}

digits-few : (k most n : ℕ) → n < 10 ^ suc k → length (digits most n) ≤ suc k
unfolding digits
digits-few k zero n h = omega arith
digits-few zero (suc most) n h = last (ltb n 10) refl
  where
    last : (t : Bool) → ltb n 10 ≡ t → length (digits (suc most) n) ≤ 1
    last true e = rw e (omega arith)
    last false e = absurd (omega (arith, ltb-false n 10 e))
digits-few (suc k) (suc most) n h = cases (ltb n 10) refl (digits-few k most (n / 10) (omega (arith, pow-suc 10 (suc k))))
  where
    cases : (t : Bool) → ltb n 10 ≡ t → length (digits most (n / 10)) ≤ suc k → length (digits (suc most) n) ≤ suc (suc k)
    cases true e r = rw e (omega arith)
    cases false e r = rw e (omega (arith, length-append (digits most (n / 10)) (digit (n % 10) ∷ [])))

-- numbers of at most 20 digits
abbrev Small : ℕ → Type 0
Small n = n < 100000000000000000000

decimal-few : (n : ℕ) → Small n → length (decimal n) ≤ 20
unfolding decimal
decimal-few n h = digits-few 19 (suc n) n h

hex-length : (l : List ℕ) → length (hex l) ≡ 2 * length l
unfolding hex
hex-length [] = refl
hex-length (b ∷ l) = omega (arith, hex-length l)

printed-length : (s : List ℕ) (p : ℕ) → length (printed (hash_at s p)) ≡ 64
unfolding printed
printed-length s p = omega (arith, hex-length (reverse (hash_at s p)), length-reverse (hash_at s p), hash-at-length s p)

kind_few : (s : List ℕ) (k : Kind) → length (kind_text s k) ≤ 5 + 3 * carried_bytes k
unfolding kind_text
kind_few s (Plain p) = simp length-append (omega (arith, printed-length s p))
kind_few s Copy = omega arith
kind_few s (Client p) = simp length-append (omega (arith, printed-length s p))

-- sixteen bytes of text for each byte of a leaf are enough
leaf-few : (s : List ℕ) (leaf : Leaf) → Small leaf.offset → length (leaf_line s leaf) ≤ 16 * (2 + carried_bytes leaf.kind)
unfolding leaf_line
leaf-few s leaf h = simp length-append (omega (arith, decimal-few leaf.offset h, kind_few s leaf.kind))

level-few : (level leaves : ℕ) → Small level → Small leaves → length (level_line level leaves) ≤ 55
unfolding level_line
level-few level leaves h k = simp length-append (omega (arith, decimal-few level h, decimal-few leaves k))

refused-few : (n place : ℕ) → Small n → Small place → length (refused_line n place) ≤ 53
unfolding refused_line
refused-few n place h k = simp length-append (omega (arith, decimal-few n h, decimal-few place k))

-- the text of the leaves of a level, of levels and of a BUMP that were read from one place to another
abbrev LeavesFew : List ℕ → ℕ → List Leaf → ℕ → Type 0
LeavesFew s at l q = 16 * at + length (leaf_lines s l) ≤ 16 * q

abbrev LevelsFew : List ℕ → ℕ → ℕ → ℕ → List (List Leaf) → ℕ → Type 0
LevelsFew s n level at ls q = 16 * at + length (level_lines s level ls) ≤ 16 * q + 55 * n

abbrev BumpFew : List ℕ → Bump → ℕ → Type 0
BumpFew s b q = length (bump_lines s b) ≤ 16 * q + 3578

leaves-room : (s : List ℕ) (limit level : ℕ) → limit ≤ 2 ^ 64 → (n : ℕ) (seen : List ℕ) (at : ℕ) → at ≤ length s
    → Bounded (length s) (λ l q. LeavesFew s at l q × (length l ≡ n)) (many (leaf_field Layout.Bump limit level) and_offset n seen s at)
unfolding many leaf_lines
leaves-room s limit level low zero seen at inside = read {a = []} {q = at} inside (omega arith, refl)
leaves-room s limit level low (suc n) seen at inside =
    within_then (λ l q. LeavesFew s at l q × (length l ≡ suc n)) _ (within-leaf s at inside limit level seen)
    (λ leaf next h e. within-each (λ l q. LeavesFew s at l q × (length l ≡ suc n)) (leaf ∷◌) (leaves-room s limit level low n (and_offset seen leaf) next h)
    (λ l q k. (omega (arith, leaf-few s leaf (omega arith), length-append (leaf_line s leaf) (leaf_lines s l)), ap suc k.1)))

level-room : (s : List ℕ) (limit level at : ℕ) → limit ≤ 2 ^ 64 → at ≤ length s
    → Bounded (length s) (λ l q. LeavesFew s at l q × (length l ≤ MAX_LEAVES)) (level_field Layout.Bump limit level s at)
unfolding level_field
level-room s limit level at low inside =
    within_then (λ l q. LeavesFew s at l q × (length l ≤ MAX_LEAVES)) _ (within_passing varint (λ n. leb n MAX_LEAVES) OVER_LIMIT s at (omega arith) inside (within-varint s at inside))
    (λ count next h e. within_weaken (λ l q. LeavesFew s at l q × (length l ≤ MAX_LEAVES)) (leaves-room s limit level low count [] next h)
    (λ l q k. (omega arith, omega (arith, leb-true count MAX_LEAVES e.1))))

levels-room : (s : List ℕ) (height : ℕ) → height ≤ 64 → (n level at : ℕ) → level + n ≤ height → at ≤ length s
    → Bounded (length s) (LevelsFew s n level at) (many (level_in_turn Layout.Bump height) next_turn n level s at)
unfolding many level_of_turn level_lines
levels-room s height low zero level at few inside = read {a = []} {q = at} inside (omega arith)
levels-room s height low (suc n) level at few inside =
    within_then (LevelsFew s (suc n) level at) _ (level-room s (2 ^ (height - level)) level at (pow-le-pow_right (omega arith) {j = 64} (omega arith)) inside)
    (λ l next h e. within-each (LevelsFew s (suc n) level at) (l ∷◌) (levels-room s height low n (level + 1) next (omega arith) h)
    (λ ls q k. omega (arith, level-few level (length l) (omega arith) (omega arith), length-append (level_line level (length l)) (leaf_lines s l), length-append (level_line level (length l) ++ leaf_lines s l) (level_lines s (level + 1) ls))))

bump-room : (s : List ℕ) → Bounded (length s) (BumpFew s) (bump_field s 0)
unfolding bump_up_to block_field height_up_to bump_lines
bump-room s =
    within_then (BumpFew s) _ (within_passing varint (λ b. leb b MAX_BLOCK) OVER_LIMIT s 0 (omega arith) (omega arith) (within-varint s 0 (omega arith)))
    (λ block next h e. within_then (BumpFew s) _ (within_passing byte (λ n. leb 1 n && leb n MAX_HEIGHT) BAD_HEIGHT s next (omega arith) h (within-byte s next h))
    (λ height start g f. within_then (BumpFew s) _ (levels-room s height (low height f.1) height 0 start (omega arith) g)
    (λ ls q l k. read l
    (simp length-append (omega (arith, decimal-few block (omega (arith, leb-true block MAX_BLOCK e.1)), decimal-few height (omega (arith, low height f.1)), low height f.1))))))
  where
    second : (a b : Bool) → (a && b) ≡ true → b ≡ true
    second true b e = e
    second false b e = absurd (false≢true e)

    low : (h : ℕ) → (leb 1 h && leb h MAX_HEIGHT) ≡ true → h ≤ 64
    low h e = omega (arith, leb-true h MAX_HEIGHT (second (leb 1 h) (leb h MAX_HEIGHT) e))

whole_room : (s : List ℕ) → Bounded (length s) (BumpFew s) (bump_whole s)
unfolding whole
whole_room s =
    within_choice (leb (length s) MAX_INPUT)
    (λ _. within_then (BumpFew s) _ (bump-room s) (λ b q h k. within_choice (ltb q (length s)) (λ _. refused (omega arith) h) (λ _. read h k)))
    (λ _. refused (omega arith) (omega arith))

pub listing-fits : (s : List ℕ) → length (listing s) ≤ LISTING_ROOM
unfolding listing report
listing-fits s = cases (leb (length s) LISTED_BYTES) refl
  where
    told : {r : Parse Bump} → length s ≤ LISTED_BYTES → Bounded (length s) (BumpFew s) r → length (report s r) ≤ LISTING_ROOM
    told small (read h k) = omega arith
    told small (refused {n} {q} h k) = omega (arith, refused-few n q (omega arith) (omega arith))

    cases : (t : Bool) → leb (length s) LISTED_BYTES ≡ t → length (pick t (report s (bump_whole s)) (refused_line TOO_LONG 0)) ≤ LISTING_ROOM
    cases true e = told (leb-true (length s) LISTED_BYTES e) (whole_room s)
    cases false e = omega (arith, refused-few TOO_LONG 0 (omega arith) (omega arith))

-- what is written where there is room enough is the listing whole
pub listing-written : (room s : List ℕ) {r : ℕ} {room' : List ℕ} → LISTING_ROOM ≤ length room → r ≡ min (length room) (length (listing s)) → room' ≡ filled room (listing s) → take r room' ≡ listing s
listing-written room s {r} h e f =
    let fits : length (listing s) ≤ length room = omega (arith, listing-fits s) in
    let all : r ≡ length (listing s) = omega arith in
    rw (all, f, take_all (length room) (listing s)) (take-append_seam (listing s) (drop (length (listing s)) room))
