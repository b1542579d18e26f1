-- Laws of the loops over a merged level: one offset more.
use Rattle.std.proofs.Common.{Option, Some, None, is_some, not}
use mathlib.Core.Path.{◌≡◌, refl, ap, sym, ◌∙◌}
use mathlib.Core.List.{List, [], ◌∷◌, ◌++◌}
use mathlib.Core.Bool.{Bool, true, false, ◌||◌}
use Prim.Native.Nat.{ℕ, ◌+◌, ◌-◌, ◌<◌, ◌≤◌}
use lib.ListN.{length, length-append}
use lib.Dec.{ltb}
use native.Mathlib.Omega.{arith}
use borrow.Author.Tests.{eq-eqb}
use Rattle.format.specs.declared.leaf.Kind.{Kind}
use Rattle.format.specs.declared.leaf.Kind.TheVariants.{Plain, Copy, Client}
use Rattle.format.proofs.Basics.{one_less}
use Rattle.format.specs.Parse.{pick}
use Rattle.encoding.specs.Digits.{varint_bytes}
use Rattle.encoding.specs.Buffer.{Buffer, put_on, write_on}
use Rattle.encoding.proofs.BufferLaws.{write_then, wrote_then, wrote_cons}
use Rattle.format.specs.Bytes.{hash_at}
use Rattle.format.proofs.BytesLaws.{hash-at-length}
use Rattle.encoding.specs.Encode.{encode_all}
use Rattle.encoding.specs.BumpBytes.{Carried, Entry, carried_bytes, entry_bytes, carried_of}
use Rattle.levels.specs.Standing.{Standing, stands, nothing}
use Rattle.levels.specs.Fronts.{next_of, lesser, front, past, flags_of, place_of}
use Rattle.merging.specs.declared.uniting.LevelTally.{LevelTally}
use Rattle.merging.specs.declared.uniting.Choice.{Choice}
use Rattle.merging.specs.declared.uniting.Choice.TheVariants.{First, Second}
use Rattle.merging.specs.Merging.{Kept, keeps, clash, Spot, spot, unite, is_clash, clashes, keep, kept_of}
use Rattle.merging.specs.Walk.{left_at, walk_spots, kind_in, kept_by, kept_at, kept_text, tally_of}

-- the least offset is that of a leaf
front-there : (o : ℕ) (x y : List Entry) → lesser (next_of x) (next_of y) ≡ Some o → front o x ≡ nothing → front o y ≡ nothing → ⊥
unfolding next_of lesser front
front-there o [] [] e f g = absurd (let z : ◌≡◌ {A = ℕ} 0 1 = cc in omega arith)
front-there o (a ∷ x) [] e f g = let i : a.offset ≡ o = cc in absurd (standing-there a.carried (ap (λ (b : Bool). pick b (stands a.carried) nothing) (sym (eq-eqb a.offset o i)) ∙ f))
  where
    standing-there : (c : Carried) → stands c ≡ nothing → ⊥
    standing-there c h = let z : ◌≡◌ {A = ℕ} 0 1 = cc in omega arith
front-there o [] (b ∷ y) e f g = let i : b.offset ≡ o = cc in absurd (standing-there b.carried (ap (λ (t : Bool). pick t (stands b.carried) nothing) (sym (eq-eqb b.offset o i)) ∙ g))
  where
    standing-there : (c : Carried) → stands c ≡ nothing → ⊥
    standing-there c h = let z : ◌≡◌ {A = ℕ} 0 1 = cc in omega arith
front-there o (a ∷ x) (b ∷ y) e f g = go (ltb b.offset a.offset) e
  where
    standing-there : (c : Carried) → stands c ≡ nothing → ⊥
    standing-there c h = let z : ◌≡◌ {A = ℕ} 0 1 = cc in omega arith

    go : (t : Bool) → Some (pick t b.offset a.offset) ≡ Some o → ⊥
    go true h = let i : b.offset ≡ o = cc in standing-there b.carried (ap (λ (u : Bool). pick u (stands b.carried) nothing) (sym (eq-eqb b.offset o i)) ∙ g)
    go false h = let i : a.offset ≡ o = cc in standing-there a.carried (ap (λ (u : Bool). pick u (stands a.carried) nothing) (sym (eq-eqb a.offset o i)) ∙ f)

unite-some : (o : ℕ) (l m v w : Standing) (rest : List Spot) → (v ≡ nothing → w ≡ nothing → ⊥) → unite o l m v w rest ≡ spot o (kept_at l m v w) ∷ rest
unfolding unite kept_at
unite-some o l m nothing nothing rest h = absurd (h refl refl)
unite-some o l m (stands c) nothing rest h = refl
unite-some o l m nothing (stands d) rest h = refl
unite-some o l m (stands c) (stands d) rest h = refl

module _ (n i last : ℕ) (f g : Standing) (x y : List Entry) where
  pub spots-end : n ≤ i → walk_spots (n - i) last f g x y ≡ []
  unfolding walk_spots
  spots-end h = let e : n - i ≡ 0 = omega arith in rw e

  module _ (h : i < n) where
    pub spots-stop : lesser (next_of x) (next_of y) ≡ None → walk_spots (n - i) last f g x y ≡ []
    unfolding walk_spots
    spots-stop e = rw (one_less n i h, e)

    pub spots_on : {o : ℕ} {k : Kept} {v w : Standing} {x' y' : List Entry} → lesser (next_of x) (next_of y) ≡ Some o → v ≡ front o x → w ≡ front o y
        → k ≡ kept_at (left_at last o f) (left_at last o g) v w → x' ≡ past o x → y' ≡ past o y → walk_spots (n - i) last f g x y ≡ spot o k ∷ walk_spots (n - (i + 1)) o v w x' y'
    unfolding walk_spots
    spots_on {o} {k} {v} {w} {x'} {y'} e a b d p q =
        rw (one_less n i h, e)
        (ap (λ (r : List Spot). unite o (left_at last o f) (left_at last o g) (front o x) (front o y) r)
        (ap (λ (s : Standing). walk_spots (n - (i + 1)) o s (front o y) (past o x) (past o y)) (sym a)
        ∙ ap (λ (s : Standing). walk_spots (n - (i + 1)) o v s (past o x) (past o y)) (sym b)
        ∙ ap (λ (s : List Entry). walk_spots (n - (i + 1)) o v w s (past o y)) (sym p)
        ∙ ap (walk_spots (n - (i + 1)) o v w x') (sym q))
        ∙ unite-some o (left_at last o f) (left_at last o g) (front o x) (front o y) (walk_spots (n - (i + 1)) o v w x' y') (front-there o x y e)
        ∙ ap (λ (s : Standing). spot o (kept_at (left_at last o f) (left_at last o g) s (front o y)) ∷ walk_spots (n - (i + 1)) o v w x' y') (sym a)
        ∙ ap (λ (s : Standing). spot o (kept_at (left_at last o f) (left_at last o g) v s) ∷ walk_spots (n - (i + 1)) o v w x' y') (sym b)
        ∙ ap (λ (s : Kept). spot o s ∷ walk_spots (n - (i + 1)) o v w x' y') (sym d))

-- the bytes of a merged level, one offset more
text_on : (o : ℕ) (k : Kept) (l : List Spot) → encode_all entry_bytes (kept_of (spot o k ∷ l)) ≡ kept_text o k ++ encode_all entry_bytes (kept_of l)
unfolding encode_all kept_of keep kept_text
text_on o (keeps c) l = refl
text_on o clash l = refl

pub write-spot : (p : Buffer) (o : ℕ) (k : Kept) (l : List Spot) {q : Buffer} → q ≡ write_on p (kept_text o k) → write_on p (encode_all entry_bytes (kept_of (spot o k ∷ l))) ≡ write_on q (encode_all entry_bytes (kept_of l))
write-spot p o k l e = ap (write_on p) (text_on o k l) ∙ write_then p (kept_text o k) (encode_all entry_bytes (kept_of l)) ∙ ap (λ (b : Buffer). write_on b (encode_all entry_bytes (kept_of l))) (sym e)

pub write_last : (p : Buffer) → write_on p (encode_all entry_bytes (kept_of [])) ≡ p
unfolding write_on encode_all kept_of
write_last p = refl

-- sizes
pub size-copy : (s : List ℕ) (k : Kind) → None ≡ place_of k → 1 ≡ length (carried_bytes (carried_of s k))
unfolding place_of carried_bytes carried_of
size-copy s (Plain p) e = cc
size-copy s Copy e = refl
size-copy s (Client p) e = cc

pub size-hash : (s : List ℕ) (k : Kind) {p : ℕ} → Some p ≡ place_of k → 33 ≡ length (carried_bytes (carried_of s k))
unfolding place_of carried_bytes carried_of
size-hash s (Plain p) e = let h = hash-at-length s p in omega (arith, h)
size-hash s Copy e = cc
size-hash s (Client p) e = let h = hash-at-length s p in omega (arith, h)

pub size-kept : (o : ℕ) (c : Carried) {a b : ℕ} → a ≡ length (varint_bytes o) → b ≡ length (carried_bytes c) → a + b ≡ length (kept_text o (keeps c))
unfolding kept_text entry_bytes
size-kept o c e f = let h = length-append (varint_bytes o) (carried_bytes c) in omega (arith, e, f, h)

-- a tally so far, and what is left
pub record Tallying (r : LevelTally) (l whole : List Spot) : Type 0 where
  pub counts : r.count + length l ≡ length whole
  pub sizes : r.bytes + length (encode_all entry_bytes (kept_of l)) ≡ length (encode_all entry_bytes (kept_of whole))
  pub calm : (r.clash || clashes l) ≡ clashes whole

pub tally_start : (l : List Spot) → Tallying (record { count = 0; bytes = 0; clash = false }) l l
tally_start l = record { counts = omega arith; sizes = omega arith; calm = refl }

or_assoc : (a b c : Bool) → ((a || b) || c) ≡ (a || (b || c))
or_assoc true b c = refl
or_assoc false b c = refl

pub tally_on : (r : LevelTally) (o : ℕ) (k : Kept) (l m whole : List Spot) {n : ℕ} {b : Bool} → Tallying r m whole → m ≡ spot o k ∷ l → n ≡ length (kept_text o k) → b ≡ (r.clash || is_clash k)
    → Tallying (record { count = r.count + 1; bytes = r.bytes + n; clash = b }) l whole
unfolding clashes
tally_on r o k l m whole {n} {b} t e f g =
    let u = t.counts in
    let v = t.sizes in
    let w = ap length e in
    let s = ap (λ (z : List Spot). length (encode_all entry_bytes (kept_of z))) e ∙ ap length (text_on o k l) ∙ length-append (kept_text o k) (encode_all entry_bytes (kept_of l)) in
    record {
      counts = omega (arith, u, w);
      sizes = omega (arith, v, s, f);
      calm = ap (λ (z : Bool). z || clashes l) g ∙ or_assoc r.clash (is_clash k) (clashes l) ∙ ap (λ (z : List Spot). r.clash || clashes z) (sym e) ∙ t.calm;
    }

or-false : (b : Bool) → (b || false) ≡ b
or-false true = refl
or-false false = refl

pub tally_end : (r : LevelTally) (l whole : List Spot) → Tallying r l whole → l ≡ [] → r ≡ tally_of whole
unfolding tally_of clashes encode_all kept_of
tally_end r l whole t e =
    let u = t.counts in
    let v = t.sizes in
    let a = ap length e in
    let b = ap (λ (z : List Spot). length (encode_all entry_bytes (kept_of z))) e in
    let c : r.count ≡ length whole = omega (arith, u, a) in
    let d : r.bytes ≡ length (encode_all entry_bytes (kept_of whole)) = omega (arith, v, b) in
    let f : r.clash ≡ clashes whole = sym (or-false r.clash) ∙ ap (λ (z : List Spot). r.clash || clashes z) (sym e) ∙ t.calm in
    made c d f
  where
    made : r.count ≡ length whole → r.bytes ≡ length (encode_all entry_bytes (kept_of whole)) → r.clash ≡ clashes whole → r ≡ record { count = length whole; bytes = length (encode_all entry_bytes (kept_of whole)); clash = clashes whole }
    made c d f = rw (← c, ← d, ← f) refl

-- a clash is where none is kept
pub none_clashes : (s t : List ℕ) (choice : Option Choice) (b : Bool) → is_some choice ≡ not b → b ≡ is_clash (kept_by s t choice)
unfolding is_clash
none_clashes s t (Some (First k)) false e = refl
none_clashes s t (Some (Second k)) false e = refl
none_clashes s t None true e = refl
none_clashes s t (Some (First k)) true e = cc
none_clashes s t (Some (Second k)) true e = cc
none_clashes s t None false e = cc

-- the size of a leaf that is kept, whichever path has it
pub size-chosen : (o : ℕ) (choice : Choice) {a b : ℕ} → a ≡ length (varint_bytes o) → ((s : List ℕ) → b ≡ length (carried_bytes (carried_of s (kind_in choice)))) → (s t : List ℕ) → a + b ≡ length (kept_text o (kept_by s t (Some choice)))
size-chosen o (First k) e f s t = size-kept o (carried_of s k) e (f s)
size-chosen o (Second k) e f s t = size-kept o (carried_of t k) e (f t)

pub size-clash : (o : ℕ) (k : Kept) → k ≡ clash → 0 ≡ length (kept_text o k)
unfolding kept_text
size-clash o k e = rw e refl

-- the bytes of a leaf and of what is kept
pub wrote_hash : (p : Buffer) (flag : ℕ) (h : List ℕ) (c : Carried) {q r : Buffer} {v : List ℕ} → carried_bytes c ≡ flag ∷ h → q ≡ put_on p flag → v ≡ h → r ≡ write_on q v → r ≡ write_on p (carried_bytes c)
wrote_hash p flag h c {q} {r} {v} a e d f = wrote_cons p flag h a e (f ∙ ap (write_on q) d)

pub hash-bytes : (s : List ℕ) (k : Kind) {p : ℕ} → Some p ≡ place_of k → carried_bytes (carried_of s k) ≡ flags_of k ∷ hash_at s p
unfolding flags_of place_of carried_bytes carried_of
hash-bytes s (Plain q) {p} e = let f : q ≡ p = cc in rw f refl
hash-bytes s Copy e = cc
hash-bytes s (Client q) {p} e = let f : q ≡ p = cc in rw f refl

pub copy-bytes : (s : List ℕ) (k : Kind) → None ≡ place_of k → carried_bytes (carried_of s k) ≡ flags_of k ∷ []
unfolding flags_of place_of carried_bytes carried_of
copy-bytes s (Plain p) e = cc
copy-bytes s Copy e = refl
copy-bytes s (Client p) e = cc

pub flags-few : (k : Kind) → flags_of k ≤ 2
unfolding flags_of
flags-few (Plain p) = omega arith
flags-few Copy = omega arith
flags-few (Client p) = omega arith

pub wrote_kept : (p : Buffer) (o : ℕ) (k : Kept) (c : Carried) {q r : Buffer} → k ≡ keeps c → q ≡ write_on p (varint_bytes o) → r ≡ write_on q (carried_bytes c) → r ≡ write_on p (kept_text o k)
unfolding kept_text entry_bytes
wrote_kept p o k c e f g = rw e (wrote_then p (varint_bytes o) (carried_bytes c) f g)

pub wrote_none : (p : Buffer) (o : ℕ) (k : Kept) → k ≡ clash → p ≡ write_on p (kept_text o k)
unfolding kept_text write_on
wrote_none p o k e = rw e refl
