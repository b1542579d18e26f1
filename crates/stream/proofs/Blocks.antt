-- Laws of hashing bytes as they come: blocks that lie within the bytes, the tail, and the padding.
use mathlib.Core.Path.{◌≡◌, refl, sym, ap, ap₂, ◌∙◌}
use mathlib.Core.List.{List, [], ◌∷◌, ◌++◌, append_assoc, append-nil}
use Prim.Native.Nat.{ℕ, zero, suc, ◌+◌, ◌-◌, ◌*◌, ◌/◌, ◌%◌, ◌≤◌, ◌<◌}
use native.Mathlib.Numerals.{add-one}
use native.Mathlib.Nat.{add-zero, zero-add, add-suc, div-one}
use native.Mathlib.Omega.{arith}
use lib.ListN.{length, get_or, set, take, drop, replicate, length-append, length-drop, length-replicate, get_or-replicate, replicate-append-replicate, take-append-drop, get_or-append, drop_of_length-le}
use lib.Pow.{shr-shr}
use lib.Seq.{get_or-take, get_or-drop, ext_get_or, drop-append-le, take_at, drop_at, set_at, drop-drop, length-take-le, take_all, take-length, paste, sets-eq}
use Rattle.hash.specs.declared.compress.State.{State}
use Rattle.hash.specs.Sha256.{word4, word, words, compress, H, pad, padding, zeros, big_endian, hash_value, digest, sha256, sha256d}
use Rattle.hash.specs.Parts.{block_of}
use Rattle.hash.proofs.Words.{word4-bytes, words_append, words_same}
use Rattle.hash.proofs.Padding.{pad-front, block_within, H-done}
use Rattle.stream.specs.declared.hashing.Hashing.{Hashing}
use Rattle.stream.specs.HashState.{words_of, from_words, value_of, tail_of, hashing_of, blocks_from, with_length, Absorbs, Finishes, Closes}

-- ---- words and blocks by their place

words-drop : (p : List ℕ) (k n : ℕ) → words (drop k p) 0 n ≡ words p k n
words-drop p k n = words_same (drop k p) p 0 k n (λ j h. rw zero-add (get_or-drop k p j 0))

words-front : (p q : List ℕ) (i n : ℕ) → i + 4 * n ≤ length p → words (p ++ q) i n ≡ words p i n
words-front p q i n h = words_same (p ++ q) p i i n (λ j l. get_or-append p q 0 (i + j) (omega arith))

-- a block of 64 bytes
pub block-is : (m : List ℕ) → length m ≡ 64 → block_of m 0 ≡ words m 0 16
block-is m h = block_within m 0 (omega arith) (omega arith) ∙ words_same (pad m) m 0 0 16 (λ k l. pad-front m (0 + k) (omega arith))

-- a block that lies within the bytes
pub block-there : (s : List ℕ) (i : ℕ) → words (take 64 (drop (64 * i) s)) 0 16 ≡ words s (64 * i) 16
block-there s i = words_same (take 64 (drop (64 * i) s)) s 0 (64 * i) 16 (λ j l. rw zero-add (get_or-take 64 (drop (64 * i) s) j 0 (omega arith) ∙ get_or-drop (64 * i) s j 0))

pub blocks_step : (h : State) (p : List ℕ) (i : ℕ) → compress (blocks_from h p i) (words p (64 * i) 16) ≡ blocks_from h p (i + 1)
unfolding blocks_from
blocks_step h p i = rw add-one refl

H-front : (p q : List ℕ) (i : ℕ) → i * 64 ≤ length p → H (p ++ q) i ≡ H p i
unfolding H
H-front p q zero h = refl
H-front p q (suc i) h = ap₂ compress (H-front p q i (omega arith)) (words-front p q (64 * i) 16 (omega arith))

H-more : (p : List ℕ) (i j : ℕ) → blocks_from (H p i) (drop (i * 64) p) j ≡ H p (i + j)
unfolding H blocks_from
H-more p i zero = rw add-zero
H-more p i (suc j) =
    let e : i * 64 + 64 * j ≡ 64 * (i + j) = omega arith in
    let w : words (drop (i * 64) p) (64 * j) 16 ≡ words p (64 * (i + j)) 16 =
    words_same (drop (i * 64) p) p (64 * j) (64 * (i + j)) 16 (λ k l. get_or-drop (i * 64) p (64 * j + k) 0 ∙ ap (λ (x : ℕ). get_or p x 0) (omega arith)) in
    rw add-suc (ap₂ compress (H-more p i j) w)

-- ---- the tail

drop-replicate : (k n : ℕ) → drop {A = ℕ} k (replicate n 0) ≡ replicate (n - k) 0
drop-replicate k n =
    let l : length (drop {A = ℕ} k (replicate n 0)) ≡ n - k = length-drop k (replicate n 0) ∙ ap (λ (x : ℕ). x - k) (length-replicate n 0) in
    ext_get_or 0 (drop k (replicate n 0)) (replicate (n - k) 0) (l ∙ sym (length-replicate (n - k) 0)) (λ i h. same i (omega (arith, l)))
  where
    same : (i : ℕ) → i < n - k → get_or {A = ℕ} (drop k (replicate n 0)) i 0 ≡ get_or (replicate (n - k) 0) i 0
    same i h = get_or-drop k (replicate n 0) i 0 ∙ get_or-replicate n (k + i) 0 0 (omega arith) ∙ sym (get_or-replicate (n - k) i 0 0 h)

-- a block that is filled from t on: t bytes and zeros, then these
laid-is : (d z s : List ℕ) (t n : ℕ) → length d ≡ t → paste (d ++ z) t s n ≡ d ++ take n s ++ drop n z
laid-is d z s t n e =
    let a : take t (d ++ z) ≡ d = take_at d z t e in
    let b : drop (t + n) (d ++ z) ≡ drop n z = sym (drop-drop n t (d ++ z)) ∙ ap (drop n) (drop_at d z t e) in
    ap₂ (λ (x y : List ℕ). x ++ take n s ++ y) a b

tail_length : (b : List ℕ) → length (drop (length b / 64 * 64) b) ≡ length b % 64
tail_length b = length-drop (length b / 64 * 64) b ∙ (omega arith)

module _ (b part : List ℕ) where
  abbrev n : ℕ
  n = length b

  abbrev d : List ℕ
  d = drop (n / 64 * 64) b

  both : length (b ++ part) ≡ n + length part
  both = length-append b part

  -- a part that completes no block
  pub short_value : length part < 64 - n % 64 → value_of b ≡ value_of (b ++ part)
  unfolding value_of
  short_value h =
      let e : length (b ++ part) / 64 ≡ n / 64 = omega (arith, both) in
      rw e (sym (H-front b part (n / 64) (omega arith)))

  pub short_tail : length part < 64 - n % 64 → paste (tail_of b) (n % 64) part (length part) ≡ tail_of (b ++ part)
  unfolding tail_of
  short_tail h =
      let e : length (b ++ part) / 64 * 64 ≡ n / 64 * 64 = omega (arith, both) in
      let m : 64 - n % 64 - length part ≡ 64 - length (b ++ part) % 64 = omega (arith, both) in
      let x : drop (length (b ++ part) / 64 * 64) (b ++ part) ≡ d ++ part = ap (λ (k : ℕ). drop k (b ++ part)) e ∙ drop-append-le (n / 64 * 64) b part (omega arith) in
      laid-is d (replicate (64 - n % 64) 0) part (n % 64) (length part) (tail_length b)
      ∙ ap₂ (λ (u v : List ℕ). d ++ u ++ v) (take-length part) (drop-replicate (length part) (64 - n % 64) ∙ ap (λ (k : ℕ). replicate k 0) m)
      ∙ ap (λ (u : List ℕ). u ++ replicate (64 - length (b ++ part) % 64) 0) (sym x)

  -- one that completes the block that was begun
  module _ (h : 64 - n % 64 ≤ length part) where
    abbrev room : ℕ
    room = 64 - n % 64

    full_is : paste (tail_of b) (n % 64) (take room part) (length (take room part)) ≡ d ++ take room part
    unfolding tail_of
    full_is =
        let k : length (take room part) ≡ room = length-take-le room part h in
        let r : length {A = ℕ} (replicate room 0) ≡ room = length-replicate room 0 in
        laid-is d (replicate room 0) (take room part) (n % 64) (length (take room part)) (tail_length b)
        ∙ ap₂ (λ (u v : List ℕ). d ++ u ++ v) (take-length (take room part)) (drop_of_length-le (replicate room 0) {i = length (take room part)} (omega (arith, r, k)))
        ∙ append-nil (d ++ take room part)

    pub full_length : length (paste (tail_of b) (n % 64) (take room part) (length (take room part))) ≡ 64
    full_length = ap length full_is ∙ length-append d (take room part) ∙ rw (tail_length b, length-take-le room part h) (omega arith)

    first_block : words (d ++ take room part) 0 16 ≡ words (b ++ part) (64 * (n / 64)) 16
    first_block =
        let l : length (d ++ take room part) ≡ 64 = sym (ap length full_is) ∙ full_length in
        let c : d ++ take room part ++ drop room part ≡ drop (n / 64 * 64) (b ++ part) =
        append_assoc d (take room part) (drop room part) ∙ ap (λ (u : List ℕ). d ++ u) (take-append-drop room part) ∙ sym (drop-append-le (n / 64 * 64) b part (omega arith)) in
        let e : n / 64 * 64 ≡ 64 * (n / 64) = omega arith in
        sym (words-front (d ++ take room part) (drop room part) 0 16 (omega arith)) ∙ ap (λ (u : List ℕ). words u 0 16) c ∙ words-drop (b ++ part) (n / 64 * 64) 16 ∙ ap (λ (k : ℕ). words (b ++ part) k 16) e

    pub long-first : compress (value_of b) (words (paste (tail_of b) (n % 64) (take room part) (length (take room part))) 0 16) ≡ H (b ++ part) (suc (n / 64))
    unfolding value_of H
    long-first = ap₂ compress (sym (H-front b part (n / 64) (omega arith))) (ap (λ (u : List ℕ). words u 0 16) full_is ∙ first_block)

    rest-is : drop (suc (n / 64) * 64) (b ++ part) ≡ drop room part
    rest-is =
        let e : suc (n / 64) * 64 ≡ n / 64 * 64 + 64 = omega arith in
        let l : length (d ++ take room part) ≡ 64 = sym (ap length full_is) ∙ full_length in
        ap (λ (k : ℕ). drop k (b ++ part)) e ∙ sym (drop-drop 64 (n / 64 * 64) (b ++ part)) ∙ ap (drop 64) (drop-append-le (n / 64 * 64) b part (omega arith)
        ∙ ap (λ (u : List ℕ). d ++ u) (sym (take-append-drop room part)) ∙ sym (append_assoc d (take room part) (drop room part)))
        ∙ drop_at (d ++ take room part) (drop room part) 64 l

    pub long-value : blocks_from (H (b ++ part) (suc (n / 64))) (drop room part) (length (drop room part) / 64) ≡ value_of (b ++ part)
    unfolding value_of
    long-value =
        let k = length-drop room part in
        let e : suc (n / 64) + length (drop room part) / 64 ≡ length (b ++ part) / 64 = omega (arith, both) in
        ap (λ (u : List ℕ). blocks_from (H (b ++ part) (suc (n / 64))) u (length (drop room part) / 64)) (sym rest-is) ∙ H-more (b ++ part) (suc (n / 64)) (length (drop room part) / 64)
        ∙ ap (H (b ++ part)) e

    abbrev done : ℕ
    done = room + (length part - room) / 64 * 64

    pub long_tail : paste (replicate 64 0) 0 (drop done part) (length (drop done part)) ≡ tail_of (b ++ part)
    unfolding tail_of
    long_tail =
        let k = length-drop done part in
        let q : length (b ++ part) / 64 * 64 ≡ suc (n / 64) * 64 + (length part - room) / 64 * 64 = omega (arith, both) in
        let x : drop (length (b ++ part) / 64 * 64) (b ++ part) ≡ drop done part =
        ap (λ (j : ℕ). drop j (b ++ part)) q ∙ sym (drop-drop ((length part - room) / 64 * 64) (suc (n / 64) * 64) (b ++ part)) ∙ ap (drop ((length part - room) / 64 * 64)) rest-is ∙ drop-drop ((length part - room) / 64 * 64) room part in
        let m : 64 - length (drop done part) ≡ 64 - length (b ++ part) % 64 = omega (arith, both) in
        laid-is [] (replicate 64 0) (drop done part) 0 (length (drop done part)) refl
        ∙ ap₂ (λ (u v : List ℕ). u ++ v) (take-length (drop done part)) (drop-replicate (length (drop done part)) 64 ∙ ap (λ (j : ℕ). replicate j 0) m)
        ∙ ap (λ (u : List ℕ). u ++ replicate (64 - length (b ++ part) % 64) 0) (sym x)

-- a hash value is made of its words
pub words_back : (s : State) → from_words (words_of s) ≡ s
unfolding from_words words_of
words_back s = refl

-- ---- turns of the loop over whole blocks

pub there-length : (s : List ℕ) (i k : ℕ) → k ≡ 64 → 64 * i + 64 ≤ length s → length (take k (drop (64 * i) s)) ≡ 64
there-length s i k e h = let l = length-drop (64 * i) s in ap (λ (j : ℕ). length (take j (drop (64 * i) s))) e ∙ length-take-le 64 (drop (64 * i) s) (omega arith)

pub block-turn : (h : State) (s : List ℕ) (i k : ℕ) {r x : State} {w : List ℕ} → k ≡ 64 → r ≡ blocks_from h s i → w ≡ words (take k (drop (64 * i) s)) 0 16 → x ≡ compress r w → x ≡ blocks_from h s (i + 1)
block-turn h s i k e er ew ex =
    ex ∙ ap₂ compress er (ew ∙ ap (λ (j : ℕ). words (take j (drop (64 * i) s)) 0 16) e ∙ block-there s i) ∙ blocks_step h s i

-- ---- the length in a last block

-- as bytes
abbrev length_bytes : List ℕ → ℕ → List ℕ
length_bytes l n = take 56 l ++ big_endian 8 (n % 4294967296 * 8)

high_word : (x : ℕ) → x < 18446744073709551616 → word4 (x / 72057594037927936 % 256) (x / 281474976710656 % 256) (x / 1099511627776 % 256) (x / 4294967296 % 256) ≡ x / 4294967296
high_word x h =
    let a : x / 4294967296 / 16777216 ≡ x / 72057594037927936 = shr-shr x 32 24 in
    let b : x / 4294967296 / 65536 ≡ x / 281474976710656 = shr-shr x 32 16 in
    let c : x / 4294967296 / 256 ≡ x / 1099511627776 = shr-shr x 32 8 in
    let e = word4-bytes (x / 4294967296) (omega arith) in
    rw (a, b, c) at e

low_word : (x : ℕ) → word4 (x / 16777216 % 256) (x / 65536 % 256) (x / 256 % 256) (x % 256) ≡ x % 4294967296
low_word x =
    let a : x % 4294967296 / 16777216 % 256 ≡ x / 16777216 % 256 = omega arith in
    let b : x % 4294967296 / 65536 % 256 ≡ x / 65536 % 256 = omega arith in
    let c : x % 4294967296 / 256 % 256 ≡ x / 256 % 256 = omega arith in
    let d : x % 4294967296 % 256 ≡ x % 256 = omega arith in
    let e = word4-bytes (x % 4294967296) (omega arith) in
    rw (a, b, c, d) at e

two-words : (x : ℕ) → x < 18446744073709551616 → words (big_endian 8 x) 0 2 ≡ x / 4294967296 ∷ x % 4294967296 ∷ []
unfolding words word big_endian
two-words x h = rw div-one (ap₂ (λ (u v : ℕ). u ∷ v ∷ []) (high_word x h) (low_word x))

pub two-set : (m : List ℕ) (a b : ℕ) → length m ≡ 16 → set (set m 14 a) 15 b ≡ take 14 m ++ a ∷ b ∷ []
two-set m a b h = sets-eq (a ∷ b ∷ []) m 14 (omega arith) ∙ ap (λ (u : List ℕ). take 14 m ++ a ∷ b ∷ [] ++ u) (drop_of_length-le m {i = 16} (omega arith)) ∙ append-nil (take 14 m ++ a ∷ b ∷ [])

fourteen : (l : List ℕ) → length (words l 0 14) ≡ 14
unfolding words
fourteen l = refl

length-words : (l : List ℕ) (n : ℕ) → length l ≡ 64 → with_length (words l 0 16) n ≡ words (length_bytes l n) 0 16
unfolding with_length
length-words l n h =
    let x = n % 4294967296 * 8 in
    let f : take 14 (words l 0 16) ≡ words l 0 14 = ap (take 14) (sym (words_append l 0 14 2)) ∙ take_at (words l 0 14) (words l 56 2) 14 (fourteen l) in
    let t : length (take 56 l) ≡ 56 = length-take-le 56 l (omega arith) in
    let g : words l 0 14 ≡ words (take 56 l ++ big_endian 8 x) 0 14 =
    words_same l (take 56 l ++ big_endian 8 x) 0 0 14 (λ k i. rw zero-add (sym (get_or-append (take 56 l) (big_endian 8 x) 0 k (omega arith) ∙ get_or-take 56 l k 0 (omega arith)))) in
    let w : x / 4294967296 ∷ x % 4294967296 ∷ [] ≡ words (take 56 l ++ big_endian 8 x) 56 2 =
    sym (two-words x (omega arith)) ∙ ap (λ (u : List ℕ). words u 0 2) (sym (drop_at (take 56 l) (big_endian 8 x) 56 t)) ∙ words-drop (take 56 l ++ big_endian 8 x) 56 2 in
    ap₂ (λ (u v : List ℕ). u ++ v) (f ∙ g) w ∙ words_append (take 56 l ++ big_endian 8 x) 0 14 2

no_words : words (replicate 64 0) 0 16 ≡ replicate 16 0
unfolding words word word4
no_words = refl

-- ---- a part

pub absorbs_short : (h : Hashing) (n : ℕ) (part : List ℕ) {t : List ℕ} → length part < 64 - n % 64 → t ≡ paste h.tail (n % 64) part (length part)
    → Absorbs h n part (record { words = h.words; tail = t })
unfolding hashing_of
absorbs_short h n part {t} less et b eh en =
    let l : length part < 64 - length b % 64 = rw (← en) less in
    let ew : h.words ≡ words_of (value_of (b ++ part)) = ap (λ (x : Hashing). x.words) eh ∙ ap words_of (short_value b part l) in
    let tail : t ≡ tail_of (b ++ part) =
    et ∙ ap₂ (λ (x : List ℕ) (k : ℕ). paste x (k % 64) part (length part)) (ap (λ (x : Hashing). x.tail) eh) en ∙ short_tail b part l in
    ap₂ (λ (x y : List ℕ). record { words = x; tail = y }) ew tail

pub absorbs_long : (h : Hashing) (n room : ℕ) (part : List ℕ) {full w left after : List ℕ} {u first last : State} → room ≡ 64 - n % 64 → room ≤ length part
    → full ≡ paste h.tail (n % 64) (take room part) (length (take room part))
    → w ≡ words full 0 16 → u ≡ from_words h.words → first ≡ compress u w
    → last ≡ blocks_from first (drop room part) (length (drop room part) / 64)
    → left ≡ paste (replicate 64 0) 0 (drop (room + (length part - room) / 64 * 64) part) (length (drop (room + (length part - room) / 64 * 64) part))
    → after ≡ words_of last
    → Absorbs h n part (record { words = after; tail = left })
unfolding hashing_of
absorbs_long h n room part {full} {w} {left} {after} {u} {first} {last} er fits ef ew eu e1 e2 el ea b eh en =
    let r : room ≡ 64 - length b % 64 = rw (← en) er in
    let k : 64 - length b % 64 ≤ length part = rw (← r) fits in
    let f : full ≡ paste (tail_of b) (length b % 64) (take (64 - length b % 64) part) (length (take (64 - length b % 64) part)) =
    ef ∙ ap₂ (λ (x : List ℕ) (j : ℕ). paste x (j % 64) (take room part) (length (take room part))) (ap (λ (x : Hashing). x.tail) eh) en
    ∙ ap (λ (j : ℕ). paste (tail_of b) (length b % 64) (take j part) (length (take j part))) r in
    let v : u ≡ value_of b = eu ∙ ap from_words (ap (λ (x : Hashing). x.words) eh) ∙ words_back (value_of b) in
    let g : first ≡ H (b ++ part) (suc (length b / 64)) = e1 ∙ ap₂ compress v (ew ∙ ap (λ (x : List ℕ). words x 0 16) f) ∙ long-first b part k in
    let z : last ≡ value_of (b ++ part) =
    e2 ∙ ap₂ (λ (x : State) (j : ℕ). blocks_from x (drop j part) (length (drop j part) / 64)) g r ∙ long-value b part k in
    let y : left ≡ tail_of (b ++ part) =
    el ∙ ap (λ (j : ℕ). paste (replicate 64 0) 0 (drop (j + (length part - j) / 64 * 64) part) (length (drop (j + (length part - j) / 64 * 64) part))) r ∙ long_tail b part k in
    ap₂ (λ (x y : List ℕ). record { words = x; tail = y }) (ea ∙ ap words_of z) y

-- a part from a place to its end
pub drop_all : (k : ℕ) (l : List ℕ) → take (length l - k) (drop k l) ≡ drop k l
drop_all k l = let e = length-drop k l in take_all (length l - k) (drop k l) (omega arith)

-- ---- the last blocks

padded : (n k : ℕ) → (119 - n % 64) % 64 ≡ k → padding n ≡ 128 ∷ replicate k 0 ++ big_endian 8 (n * 8)
unfolding padding zeros
padded n k e = ap (λ (j : ℕ). 128 ∷ replicate j 0 ++ big_endian 8 (n * 8)) e

module _ (b : List ℕ) where
  abbrev i : ℕ
  i = length b / 64

  abbrev over : List ℕ
  over = drop (i * 64) b

  pad-drop : drop (i * 64) (pad b) ≡ over ++ padding (length b)
  unfolding pad
  pad-drop = drop-append-le (i * 64) b (padding (length b)) (omega arith)

  pad-value : value_of b ≡ H (pad b) i
  unfolding value_of pad
  pad-value = sym (H-front b (padding (length b)) i (omega arith))

  one_block : (x : List ℕ) → x ≡ drop (i * 64) (pad b) → compress (value_of b) (words x 0 16) ≡ H (pad b) (suc i)
  unfolding H
  one_block x e =
      let k : i * 64 ≡ 64 * i = omega arith in
      ap₂ compress pad-value (ap (λ (u : List ℕ). words u 0 16) e ∙ words-drop (pad b) (i * 64) 16 ∙ ap (λ (j : ℕ). words (pad b) j 16) k)

  two_blocks : (x y : List ℕ) → length x ≡ 64 → x ++ y ≡ drop (i * 64) (pad b) → compress (compress (value_of b) (words x 0 16)) (words y 0 16) ≡ H (pad b) (suc (suc i))
  unfolding H
  two_blocks x y l e =
      let w : words x 0 16 ≡ words (x ++ y) 0 16 = sym (words-front x y 0 16 (omega arith)) in
      let k : i * 64 + 64 ≡ 64 * suc i = omega arith in
      let z : y ≡ drop (i * 64 + 64) (pad b) = sym (drop_at x y 64 l) ∙ ap (drop 64) e ∙ drop-drop 64 (i * 64) (pad b) in
      ap₂ compress (ap (compress (value_of b)) w ∙ one_block (x ++ y) e) (ap (λ (u : List ℕ). words u 0 16) z ∙ words-drop (pad b) (i * 64 + 64) 16 ∙ ap (λ (j : ℕ). words (pad b) j 16) k)

  marked-is : set (tail_of b) (length b % 64) 128 ≡ over ++ 128 ∷ replicate (63 - length b % 64) 0
  unfolding tail_of
  marked-is =
      let k : 64 - length b % 64 ≡ suc (63 - length b % 64) = omega arith in
      ap (λ (j : ℕ). set (over ++ replicate j 0) (length b % 64) 128) k ∙ set_at over 0 (replicate (63 - length b % 64) 0) 128 (length b % 64) (tail_length b)

  pub marked-length : length (set (tail_of b) (length b % 64) 128) ≡ 64
  marked-length =
      let z : length {A = ℕ} (replicate (63 - length b % 64) 0) ≡ 63 - length b % 64 = length-replicate (63 - length b % 64) 0 in
      ap length marked-is ∙ length-append over (128 ∷ replicate (63 - length b % 64) 0) ∙ (let t = tail_length b in omega (arith, z, t))

  -- the length in the block that was begun
  pub ends_short : length b % 64 < 56 → length b < 4294967296 → compress (value_of b) (words (length_bytes (set (tail_of b) (length b % 64) 128) (length b)) 0 16) ≡ hash_value b
  ends_short h few =
      let t = tail_length b in
      let m : length b % 4294967296 ≡ length b = omega arith in
      let c : replicate {A = ℕ} (63 - length b % 64) 0 ≡ replicate (55 - length b % 64) 0 ++ replicate 8 0 =
      ap (λ (j : ℕ). replicate j 0) (let q : 63 - length b % 64 ≡ 55 - length b % 64 + 8 = omega arith in q) ∙ sym (replicate-append-replicate (55 - length b % 64) 8 0) in
      let z : length {A = ℕ} (replicate (55 - length b % 64) 0) ≡ 55 - length b % 64 = length-replicate (55 - length b % 64) 0 in
      let l : length (over ++ 128 ∷ replicate (55 - length b % 64) 0) ≡ 56 = length-append over (128 ∷ replicate (55 - length b % 64) 0) ∙ (omega (arith, z, t)) in
      let f : take 56 (set (tail_of b) (length b % 64) 128) ≡ over ++ 128 ∷ replicate (55 - length b % 64) 0 =
      ap (take 56) (marked-is ∙ ap (λ (u : List ℕ). over ++ 128 ∷ u) c ∙ sym (append_assoc over (128 ∷ replicate (55 - length b % 64) 0) (replicate 8 0))) ∙ take_at (over ++ 128 ∷ replicate (55 - length b % 64) 0) (replicate 8 0) 56 l in
      let x : take 56 (set (tail_of b) (length b % 64) 128) ++ big_endian 8 (length b % 4294967296 * 8) ≡ drop (i * 64) (pad b) =
      ap₂ (λ (u : List ℕ) (j : ℕ). u ++ big_endian 8 (j * 8)) f m ∙ append_assoc over (128 ∷ replicate (55 - length b % 64) 0) (big_endian 8 (length b * 8)) ∙ ap (λ (u : List ℕ). over ++ u) (sym (padded (length b) (55 - length b % 64) (omega arith))) ∙ sym pad-drop in
      H-done b _ (suc i) (omega arith) (one_block _ x)

  -- the length in a block of its own
  pub ends_long : 56 ≤ length b % 64 → length b < 4294967296
      → compress (compress (value_of b) (words (set (tail_of b) (length b % 64) 128) 0 16)) (words (length_bytes (replicate 64 0) (length b)) 0 16) ≡ hash_value b
  ends_long h few =
      let t = tail_length b in
      let m : length b % 4294967296 ≡ length b = omega arith in
      let p : padding (length b) ≡ 128 ∷ replicate (63 - length b % 64 + 56) 0 ++ big_endian 8 (length b * 8) = padded (length b) (63 - length b % 64 + 56) (omega arith) in
      let c : replicate {A = ℕ} (63 - length b % 64 + 56) 0 ≡ replicate (63 - length b % 64) 0 ++ replicate 56 0 = sym (replicate-append-replicate (63 - length b % 64) 56 0) in
      let x : set (tail_of b) (length b % 64) 128 ++ (take 56 (replicate 64 0) ++ big_endian 8 (length b % 4294967296 * 8)) ≡ drop (i * 64) (pad b) =
      ap₂ (λ (u : List ℕ) (j : ℕ). u ++ (replicate 56 0 ++ big_endian 8 (j * 8))) marked-is m ∙ append_assoc over (128 ∷ replicate (63 - length b % 64) 0) (replicate 56 0 ++ big_endian 8 (length b * 8))
      ∙ ap (λ (u : List ℕ). over ++ u) (sym (append_assoc (128 ∷ replicate (63 - length b % 64) 0) (replicate 56 0) (big_endian 8 (length b * 8))) ∙ ap (λ (u : List ℕ). 128 ∷ u ++ big_endian 8 (length b * 8)) (sym c) ∙ sym p)
      ∙ sym pad-drop in
      H-done b _ (suc (suc i)) (omega arith) (two_blocks _ _ marked-length x)

pub closes_short : (h : Hashing) (n : ℕ) {v w : List ℕ} {u x : State} → n % 64 < 56 → v ≡ words (set h.tail (n % 64) 128) 0 16 → w ≡ with_length v n → u ≡ from_words h.words → x ≡ compress u w
    → Closes h n x
unfolding hashing_of
closes_short h n {v} {w} {u} {x} less ev ew eu ex b eh en few =
    let g : u ≡ value_of b = eu ∙ ap from_words (ap (λ (x : Hashing). x.words) eh) ∙ words_back (value_of b) in
    let f : w ≡ with_length (words (set (tail_of b) (length b % 64) 128) 0 16) (length b) =
    ew ∙ ap₂ with_length (ev ∙ ap₂ (λ (x : List ℕ) (k : ℕ). words (set x (k % 64) 128) 0 16) (ap (λ (x : Hashing). x.tail) eh) en) en in
    ex ∙ ap₂ compress g (f ∙ length-words (set (tail_of b) (length b % 64) 128) (length b) (marked-length b)) ∙ ends_short b (rw (← en) less) (omega arith)

pub closes-long : (h : Hashing) (n : ℕ) {w z y : List ℕ} {u x q : State} → 56 ≤ n % 64 → w ≡ words (set h.tail (n % 64) 128) 0 16 → u ≡ from_words h.words → x ≡ compress u w
    → z ≡ replicate 16 0 → y ≡ with_length z n → q ≡ compress x y → Closes h n q
unfolding hashing_of
closes-long h n {w} {z} {y} {u} {x} {q} more ew eu ex ez ey eq b eh en few =
    let v : u ≡ value_of b = eu ∙ ap from_words (ap (λ (x : Hashing). x.words) eh) ∙ words_back (value_of b) in
    let f : w ≡ words (set (tail_of b) (length b % 64) 128) 0 16 = ew ∙ ap₂ (λ (x : List ℕ) (k : ℕ). words (set x (k % 64) 128) 0 16) (ap (λ (x : Hashing). x.tail) eh) en in
    let g : x ≡ compress (value_of b) (words (set (tail_of b) (length b % 64) 128) 0 16) = ex ∙ ap₂ compress v f in
    let k : y ≡ words (length_bytes (replicate 64 0) (length b)) 0 16 = ey ∙ ap₂ with_length (ez ∙ sym no_words) en ∙ length-words (replicate 64 0) (length b) refl in
    eq ∙ ap₂ compress g k ∙ ends_long b (rw (← en) more) (omega arith)

-- ---- the id

pub finishes : (h : Hashing) (n : ℕ) {x : State} {r : List ℕ} → Closes h n x → r ≡ sha256 (digest x) → Finishes h n r
unfolding sha256d sha256
finishes h n c e b eh en few = e ∙ ap (λ (y : State). sha256 (digest y)) (c b eh en few)
