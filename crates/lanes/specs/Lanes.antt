-- Four words side by side, and the hash values, blocks and nodes that stand in their lanes. Assumes nothing.
use Rattle.std.specs.Prelude.{ℕ, zero, suc, ◌≤◌, cond, List, [], ◌∷◌, map, length, nat_le}
use Rattle.hash.specs.declared.compress.State.{State}
use Rattle.hash.specs.Sha256.{pad, H, MAX_INPUT}
use Rattle.hash.specs.Parts.{blocks}
use Rattle.lanes.specs.declared.compress.Four.{Four}
use Rattle.lanes.specs.declared.compress.State4.{State4}
use Rattle.lanes.specs.declared.Nodes.{Nodes}
use Rattle.lanes.specs.declared.messages.Counts.{Counts}

-- What stands in lane i, which is 0, 1, 2 or 3; a number above is taken for 3. So the node in a lane, which public contracts cite.
unfoldable pub in_lane : {A : Type 0} → ℕ → A → A → A → A → A
in_lane zero a b c d = a
in_lane (suc zero) a b c d = b
in_lane (suc (suc zero)) a b c d = c
in_lane (suc (suc (suc i))) a b c d = d

unfoldable pub node : ℕ → Nodes → List ℕ
node i n = in_lane i n.a n.b n.c n.d

-- The word, the block and the hash value in lane i.
unfoldable pub word_in : ℕ → Four → ℕ
word_in i x = in_lane i x.a x.b x.c x.d

unfoldable pub lanes : ℕ → List Four → List ℕ
lanes i m = map (word_in i) m

unfoldable pub value : ℕ → ℕ → ℕ → ℕ → ℕ → ℕ → ℕ → ℕ → State
value a b c d e f g h = record { a = a; b = b; c = c; d = d; e = e; f = f; g = g; h = h }

unfoldable pub lane : ℕ → State4 → State
lane i s = value (word_in i s.a) (word_in i s.b) (word_in i s.c) (word_in i s.d) (word_in i s.e) (word_in i s.f) (word_in i s.g) (word_in i s.h)

-- A word in all lanes, four words, an operation in each lane, and four nodes in their lanes.
unfoldable pub all : ℕ → Four
all k = record { a = k; b = k; c = k; d = k }

unfoldable pub four : ℕ → ℕ → ℕ → ℕ → Four
four a b c d = record { a = a; b = b; c = c; d = d }

unfoldable pub lanewise : (ℕ → ℕ) → Four → Four
lanewise f x = record { a = f x.a; b = f x.b; c = f x.c; d = f x.d }

unfoldable pub lanewise2 : (ℕ → ℕ → ℕ) → Four → Four → Four
lanewise2 f x y = record { a = f x.a y.a; b = f x.b y.b; c = f x.c y.c; d = f x.d y.d }

unfoldable pub lanewise3 : (ℕ → ℕ → ℕ → ℕ) → Four → Four → Four → Four
lanewise3 f x y z = record { a = f x.a y.a z.a; b = f x.b y.b z.b; c = f x.c y.c z.c; d = f x.d y.d z.d }

unfoldable pub nodes : List ℕ → List ℕ → List ℕ → List ℕ → Nodes
nodes a b c d = record { a = a; b = b; c = c; d = d }

-- The words of the one block of a padded digest.
unfoldable pub digest_words : State → List ℕ
digest_words s = s.a ∷ s.b ∷ s.c ∷ s.d ∷ s.e ∷ s.f ∷ s.g ∷ s.h ∷ 0x8000_0000 ∷ 0 ∷ 0 ∷ 0 ∷ 0 ∷ 0 ∷ 0 ∷ 256 ∷ []

-- Four messages, none over the input size.
abbrev pub Fit : List ℕ → List ℕ → List ℕ → List ℕ → Type 0
Fit a b c d = (length a ≤ MAX_INPUT) × (length b ≤ MAX_INPUT) × (length c ≤ MAX_INPUT) × (length d ≤ MAX_INPUT)

-- Of four messages: the number in lane i; the new value, or the old one where i has reached n.
unfoldable pub count : ℕ → Counts → ℕ
count i n = in_lane i n.a n.b n.c n.d

unfoldable pub before_end : {A : Type 0} → ℕ → ℕ → A → A → A
before_end n i new old = cond (nat_le n i) old new

-- The hash value after i blocks of a padded message, or after all where it has fewer.
unfoldable pub after : List ℕ → ℕ → State
after m i = H (pad m) (before_end (blocks m) i i (blocks m))
