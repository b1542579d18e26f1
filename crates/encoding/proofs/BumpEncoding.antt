-- The BUMP's reader takes exactly what its writer writes, and says its content.
use mathlib.Core.Path.{◌≡◌, refl, sym, ap, ◌∙◌, subst⁻¹}
use mathlib.Core.List.{List, [], ◌∷◌, map}
use mathlib.Core.Bool.{Bool, true, false, ◌&&◌, ◌||◌, not}
use Prim.Native.Nat.{ℕ, ◌+◌, ◌-◌, ◌^◌, ◌%◌, ◌≤◌, ◌<◌}
use lib.ListN.{length, take, drop}
use lib.Dec.{ltb, leb, eqb}
use lib.Pow.{pow_mono}
use native.Mathlib.Omega.{arith}
use borrow.Author.Tests.{lt-ltb, le-leb, ltb-true, leb-true, eqb-true, eq-eqb, not-true}
use Rattle.format.specs.declared.level.Layout.{Layout}
use Rattle.format.specs.declared.leaf.Kind.{Kind}
use Rattle.format.specs.declared.leaf.Kind.TheVariants.{Plain, Copy, Client}
use Rattle.format.specs.declared.leaf.Leaf.{Leaf}
use Rattle.format.specs.Parse.{Parse, Reader, pick, each, given, pure, ◌passing◌else◌, ok}
use Rattle.format.proofs.ParseLaws.{onward-told, each-ok}
use Rattle.format.specs.Field.{bytes, varint}
use Rattle.format.proofs.FieldLaws.{bytes-here}
use Rattle.format.specs.Level.{holds, offset_field, flag_allowed, flag_field, kind_field, carried_field, leaf_field, and_offset, leaf_fields, level_field, level_in_turn, next_turn, level_fields, level_of_turn}
use Rattle.format.specs.Bytes.{hash_at}
use Rattle.format.proofs.BytesLaws.{hash-there, hash-at-length}
use Rattle.format.proofs.Basics.{and-true}
use Rattle.format.specs.Bump.{Bump, block_field, height_field, height_up_to, bump_field, bump_up_to}
use Rattle.format.specs.Refusals.{BAD_OFFSET, REPEATED, BAD_FLAG, OVER_LIMIT, BAD_HEIGHT, MAX_BLOCK, MAX_HEIGHT, MAX_LEAVES}
use Rattle.encoding.proofs.Stands.{Stands, stands-join, stands-split, stands-fits, stands-take, stands_here}
use Rattle.format.proofs.Span.{bytes-told}
use Rattle.encoding.proofs.Encoding.{Encoding, itself, part_bytes, byte_encoding, tested_encoding, many_encoding}
use Rattle.encoding.proofs.VarintEncoding.{varint_encoding}
use Rattle.encoding.specs.Digits.{varint_bytes}
use Rattle.encoding.specs.BumpBytes.{Carried, plain, copy, client, Entry, Content, carried_bytes, entry_bytes, level_bytes, bump_bytes, carried_of, entry_of, levels_of, content_of, HashFit, CarriedFit, EntryFit, and_entry, LevelFit, next_level, ContentFit}
use Rattle.encoding.specs.Encode.{AllBytes, encode_all, Fits}

-- the same fit in other words
pub refit : {A B : Type 0} {p : Reader A} {say : List ℕ → A → B} {encode : B → List ℕ} {F G : B → Type 0} → ((b : B) → G b → F b) → ((b : B) → F b → G b) → Encoding p say encode F → Encoding p say encode G
refit f g x = record {
  reads = λ s at q b h a. x.reads s at q b (f b h) a;
  told = λ s at q a h e. let t = x.told s at q a h e in (t.0, g _ t.1);
}

-- a value that speaks for itself is read as it was written
pub read_itself : {A : Type 0} {p : Reader A} {encode : A → List ℕ} {F : A → Type 0} → Encoding p itself encode F → (s : List ℕ) (at q : ℕ) (b : A) → F b → Stands s at (encode b) q → p s at ≡ ok b q
read_itself {A = A} x s at q b f a = let r = x.reads s at q b f a in r.1 ∙ ap (λ (y : A). ok y q) r.2

-- ---- 32 bytes

pub hash_reads : (s : List ℕ) (at q : ℕ) (h : List ℕ) → length h ≡ 32 → Stands s at h q → (bytes 32 s at ≡ ok at q) × (hash_at s at ≡ h)
hash_reads s at q h l a =
    let e = a.next in
    let f = stands-fits a (omega arith) in
    (bytes-here s at 32 (omega arith) ∙ ap (λ (k : ℕ). ok at k) (omega arith), hash-there s at (omega arith) ∙ ap (λ (n : ℕ). take n (drop at s)) (sym l) ∙ stands-take a)

pub hash-says : (s : List ℕ) (at q p : ℕ) → AllBytes s → bytes 32 s at ≡ ok p q → Stands s at (hash_at s p) q × HashFit (hash_at s p)
hash-says s at q p h e =
    let t = bytes-told 32 s at e in
    let is : hash_at s p ≡ take 32 (drop at s) = ap (hash_at s) t.place_is ∙ hash-there s at t.inside in
    (rw is (subst⁻¹ (λ (k : ℕ). Stands s at (take 32 (drop at s)) k) t.next-is (stands_here s at 32 t.inside)), (hash-at-length s p, rw is (part_bytes s at 32 h)))

-- ---- what a leaf carries

module _ (level offset : ℕ) where
  flag_encoding : Encoding (flag_field level offset) itself (λ b. b ∷ []) (λ b. (b < 256) × (flag_allowed level offset b ≡ true))
  unfolding flag_field
  flag_encoding = tested_encoding (λ f. flag_allowed level offset f) BAD_FLAG byte_encoding

  carried_reads : (s : List ℕ) (at q : ℕ) (c : Carried) → CarriedFit level offset c → Stands s at (carried_bytes c) q
      → (k : Kind) × (carried_field Layout.Bump level offset s at ≡ ok k q) × (carried_of s k ≡ c)
  unfolding carried_field kind_field CarriedFit carried_bytes carried_of each
  carried_reads s at q (plain h) f a =
      let sp = stands-split (0 ∷ []) h a in
      let r = hash_reads s (at + 1) q h f.0 sp.1 in
      (Plain (at + 1), rw (read_itself flag_encoding s at (at + 1) 0 (omega arith, refl) sp.0, r.0), ap plain r.1)
  carried_reads s at q copy f a =
      (Copy, rw (read_itself flag_encoding s at q 1 (omega arith, rw (eq-eqb (offset % 2) 1 f)) a), refl)
  carried_reads s at q (client h) f a =
      let sp = stands-split (2 ∷ []) h a in
      let r = hash_reads s (at + 1) q h f.1.0 sp.1 in
      (Client (at + 1), rw (read_itself flag_encoding s at (at + 1) 2 (omega arith, rw (eq-eqb level 0 f.0)) sp.0, r.0), ap client r.1)

  carried-says : (s : List ℕ) (at q : ℕ) (k : Kind) → AllBytes s → carried_field Layout.Bump level offset s at ≡ ok k q
      → Stands s at (carried_bytes (carried_of s k)) q × CarriedFit level offset (carried_of s k)
  unfolding carried_field kind_field CarriedFit carried_bytes carried_of
  carried-says s at q k h e =
      let x = onward-told (flag_field level offset s at) _ e in
      let y = flag_encoding.told s at x.1 x.0 h x.2 in
      go x.0 x.1 (eqb x.0 0) refl (eqb x.0 1) refl (eqb x.0 2) refl (eqb (offset % 2) 1) refl (eqb level 0) refl y.0 y.1.1 x.3
    where
      Says : Type 0
      Says = Stands s at (carried_bytes (carried_of s k)) q × CarriedFit level offset (carried_of s k)

      hashed : (r flag : ℕ) (make : ℕ → Kind) → each make (bytes 32 s r) ≡ ok k q → (p : ℕ) × (Stands s r (hash_at s p) q × HashFit (hash_at s p)) × (make p ≡ k)
      hashed r flag make m = let g = each-ok make (bytes 32 s r) m in (g.0, hash-says s r q g.0 h g.1, g.2)

      go : (flag r : ℕ) (a : Bool) → eqb flag 0 ≡ a → (b : Bool) → eqb flag 1 ≡ b → (c : Bool) → eqb flag 2 ≡ c → (o : Bool) → eqb (offset % 2) 1 ≡ o → (z : Bool) → eqb level 0 ≡ z
          → Stands s at (flag ∷ []) r → ((a || (b && o)) || (c && z)) ≡ true
          → pick a (given Plain (bytes 32)) (pick b (pure Copy) (given Client (bytes 32))) s r ≡ ok k q → Says
      go flag r true ea b eb c ec o eo z ez st al m =
          let y = hashed r flag Plain m in
          rw (← y.2) (stands-join (rw (eqb-true flag 0 ea) at st) y.1.0, y.1.1)
      go flag r false ea true eb true ec o eo z ez st al m = absurd (omega (arith, eqb-true flag 1 eb, eqb-true flag 2 ec))
      go flag r false ea true eb false ec true eo z ez st al m =
          let y : Copy ≡ k = cc in
          let f : r ≡ q = cc in
          rw (← y) (rw (← f) (rw (eqb-true flag 1 eb) at st), eqb-true _ _ eo)
      go flag r false ea true eb false ec false eo z ez st al m = absurd (let x : ◌≡◌ {A = ℕ} 0 1 = cc in omega arith)
      go flag r false ea false eb true ec o eo true ez st al m =
          let y = hashed r flag Client m in
          rw (← y.2) (stands-join (rw (eqb-true flag 2 ec) at st) y.1.0, (eqb-true level 0 ez, y.1.1))
      go flag r false ea false eb true ec o eo false ez st al m = absurd (let x : ◌≡◌ {A = ℕ} 0 1 = cc in omega arith)
      go flag r false ea false eb false ec o eo z ez st al m = absurd (let x : ◌≡◌ {A = ℕ} 0 1 = cc in omega arith)

  carried_encoding : Encoding (carried_field Layout.Bump level offset) carried_of carried_bytes (CarriedFit level offset)
  carried_encoding = record { reads = carried_reads; told = carried-says }

-- ---- a leaf

module _ (limit level : ℕ) (small : limit ≤ 18446744073709551616) where
  offset_encoding : (seen : List ℕ) → Encoding (offset_field limit seen) itself varint_bytes (λ o. (o < limit) × (holds o seen ≡ false))
  unfolding offset_field
  offset_encoding seen =
      refit (λ o f. ((omega (arith, f.0), lt-ltb o limit f.0), rw f.1)) (λ o f. (ltb-true o limit f.0.1, not-true (holds o seen) f.1))
      (tested_encoding (λ o. not (holds o seen)) REPEATED (tested_encoding (λ o. ltb o limit) BAD_OFFSET varint_encoding))

  leaf_encoding : (seen : List ℕ) → Encoding (leaf_field Layout.Bump limit level seen) entry_of entry_bytes (EntryFit limit level seen)
  unfolding leaf_field entry_bytes
  leaf_encoding seen = record {
    reads = λ s at q b f a.
        let sp = stands-split (varint_bytes b.offset) (carried_bytes b.carried) a in
        let c = (carried_encoding level b.offset).reads s (at + length (varint_bytes b.offset)) q b.carried f.2 sp.1 in (
          record { offset = b.offset; kind = c.0 },
          rw (read_itself (offset_encoding seen) s at (at + length (varint_bytes b.offset)) b.offset (f.0, f.1) sp.0, c.1),
          ap (λ (x : Carried). record { offset = b.offset; carried = x }) c.2,
        );
    told = λ s at q leaf h e.
        let x = onward-told (offset_field limit seen s at) _ e in
        let y = onward-told (carried_field Layout.Bump level x.0 s x.1) _ x.3 in
        built s at q leaf x.0 x.1 y.0 y.1 ((offset_encoding seen).told s at x.1 x.0 h x.2) ((carried_encoding level x.0).told s x.1 y.1 y.0 h y.2) y.3;
  }
    where
      built : (s : List ℕ) (at q : ℕ) (leaf : Leaf) (o r : ℕ) (k : Kind) (t : ℕ) → Stands s at (varint_bytes o) r × ((o < limit) × (holds o seen ≡ false))
          → Stands s r (carried_bytes (carried_of s k)) t × CarriedFit level o (carried_of s k) → ◌≡◌ {A = Parse Leaf} (ok (record { offset = o; kind = k }) t) (ok leaf q)
          → Stands s at (entry_bytes (entry_of s leaf)) q × EntryFit limit level seen (entry_of s leaf)
      built s at q leaf o r k t x y is =
          let z : record { offset = o; kind = k } ≡ leaf = cc in
          let w : t ≡ q = cc in
          rw (← z, ← w) (stands-join x.0 y.0, (x.1.0, x.1.1, y.1))

  -- ---- a level

  leaves_encoding : (n : ℕ) → Encoding (leaf_fields Layout.Bump limit level n) (λ s. map (entry_of s)) (encode_all entry_bytes) (λ l. (length l ≡ n) × Fits (EntryFit limit level) and_entry [] l)
  leaves_encoding n = many_encoding (leaf_field Layout.Bump limit level) and_offset entry_of entry_bytes (EntryFit limit level) and_entry (λ s st a. refl) leaf_encoding n []

  count_encoding : Encoding (varint passing (λ n. leb n MAX_LEAVES) else OVER_LIMIT) itself varint_bytes (λ n. n ≤ MAX_LEAVES)
  count_encoding = refit (λ n f. (omega arith, le-leb n MAX_LEAVES f)) (λ n f. leb-true n MAX_LEAVES f.1) (tested_encoding (λ n. leb n MAX_LEAVES) OVER_LIMIT varint_encoding)

  level_encoding : Encoding (level_field Layout.Bump limit level) (λ s. map (entry_of s)) level_bytes (λ l. (length l ≤ MAX_LEAVES) × Fits (EntryFit limit level) and_entry [] l)
  unfolding level_field level_bytes
  level_encoding = record {
    reads = λ s at q l f a.
        let sp = stands-split (varint_bytes (length l)) (encode_all entry_bytes l) a in
        let r = (leaves_encoding (length l)).reads s (at + length (varint_bytes (length l))) q l (refl, f.1) sp.1 in
        (r.0, rw (read_itself count_encoding s at (at + length (varint_bytes (length l))) (length l) f.0 sp.0) r.1, r.2);
    told = λ s at q l h e.
        let x = onward-told ((varint passing (λ n. leb n MAX_LEAVES) else OVER_LIMIT) s at) _ e in
        built s at q l x.0 x.1 (count_encoding.told s at x.1 x.0 h x.2) ((leaves_encoding x.0).told s x.1 q l h x.3);
  }
    where
      built : (s : List ℕ) (at q : ℕ) (l : List Leaf) (n r : ℕ) → Stands s at (varint_bytes n) r × (n ≤ MAX_LEAVES)
          → Stands s r (encode_all entry_bytes (map (entry_of s) l)) q × ((length (map (entry_of s) l) ≡ n) × Fits (EntryFit limit level) and_entry [] (map (entry_of s) l))
          → Stands s at (level_bytes (map (entry_of s) l)) q × ((length (map (entry_of s) l) ≤ MAX_LEAVES) × Fits (EntryFit limit level) and_entry [] (map (entry_of s) l))
      built s at q l n r x y =
          (stands-join (rw (← y.1.0) at x.0) y.0, (rw y.1.0 x.1, y.1.1))

-- ---- the levels

levels_encoding : (height : ℕ) → height ≤ 64 → Encoding (level_fields Layout.Bump height) levels_of (encode_all level_bytes) (λ l. (length l ≡ height) × Fits (LevelFit height) next_level 0 l)
unfolding level_of_turn
levels_encoding height low =
    many_encoding (level_in_turn Layout.Bump height) next_turn (λ s. map (entry_of s)) level_bytes (LevelFit height) next_level (λ s st a. refl)
    (λ i. level_encoding (2 ^ (height - i)) i (pow_mono {j = 64} (omega arith))) height 0

-- ---- a BUMP

block_encoding : Encoding block_field itself varint_bytes (λ b. b ≤ MAX_BLOCK)
unfolding block_field
block_encoding = refit (λ n f. (omega arith, le-leb n MAX_BLOCK f)) (λ n f. leb-true n MAX_BLOCK f.1) (tested_encoding (λ b. leb b MAX_BLOCK) OVER_LIMIT varint_encoding)

height_encoding : Encoding height_field itself (λ b. b ∷ []) (λ h. (1 ≤ h) × (h ≤ MAX_HEIGHT))
unfolding height_up_to
height_encoding =
    refit (λ h f. (omega (arith, f.1), rw (le-leb 1 h f.0) (le-leb h MAX_HEIGHT f.1))) (λ h f. let t = and-true (leb 1 h) (leb h MAX_HEIGHT) f.1 in (leb-true 1 h t.0, leb-true h MAX_HEIGHT t.1))
    (tested_encoding (λ h. leb 1 h && leb h MAX_HEIGHT) BAD_HEIGHT byte_encoding)

pub bump_encoding : Encoding bump_field content_of bump_bytes ContentFit
unfolding bump_up_to bump_bytes
bump_encoding = record { reads = reading; told = telling }
  where
    reading : (s : List ℕ) (at q : ℕ) (c : Content) → ContentFit c → Stands s at (bump_bytes c) q → (b : Bump) × (bump_field s at ≡ ok b q) × (content_of s b ≡ c)
    reading s at q c f a =
        let sp = stands-split (varint_bytes c.block) (c.height ∷ encode_all level_bytes c.levels) a in
        let mid : ℕ = at + length (varint_bytes c.block) in
        let sq = stands-split (c.height ∷ []) (encode_all level_bytes c.levels) sp.1 in
        let low : c.height ≤ 64 = let l = f.low in omega arith in
        let r = (levels_encoding c.height low).reads s (mid + 1) q c.levels (f.all, f.levels_fit) sq.1 in (
          record { block = c.block; height = c.height; start = mid + 1; levels = r.0 },
          rw (read_itself block_encoding s at mid c.block f.block_fits sp.0, read_itself height_encoding s mid (mid + 1) c.height (f.some, f.low) sq.0, r.1),
          ap (λ (l : List (List Entry)). record { block = c.block; height = c.height; levels = l }) r.2,
        )

    built : (s : List ℕ) (at q : ℕ) (b : Bump) (block r height t : ℕ) (ls : List (List Leaf)) (u : ℕ) → Stands s at (varint_bytes block) r × (block ≤ MAX_BLOCK)
        → Stands s r (height ∷ []) t × ((1 ≤ height) × (height ≤ MAX_HEIGHT))
        → Stands s t (encode_all level_bytes (levels_of s ls)) u × ((length (levels_of s ls) ≡ height) × Fits (LevelFit height) next_level 0 (levels_of s ls))
        → ◌≡◌ {A = Parse Bump} (ok (record { block = block; height = height; start = t; levels = ls }) u) (ok b q)
        → Stands s at (bump_bytes (content_of s b)) q × ContentFit (content_of s b)
    built s at q b block r height t ls u x y z is =
        let e : record { block = block; height = height; start = t; levels = ls } ≡ b = cc in
        let f : u ≡ q = cc in
        rw (← e, ← f) (stands-join x.0 (stands-join y.0 z.0), record { block_fits = x.1; some = y.1.0; low = y.1.1; all = z.1.0; levels_fit = z.1.1 })

    telling : (s : List ℕ) (at q : ℕ) (b : Bump) → AllBytes s → bump_field s at ≡ ok b q → Stands s at (bump_bytes (content_of s b)) q × ContentFit (content_of s b)
    telling s at q b h e =
        let x = onward-told (block_field s at) _ e in
        let y = onward-told (height_field s x.1) _ x.3 in
        let z = onward-told (level_fields Layout.Bump y.0 s y.1) _ y.3 in
        let hs = height_encoding.told s x.1 y.1 y.0 h y.2 in
        let low : y.0 ≤ 64 = omega (arith, hs.1.1) in
        built s at q b x.0 x.1 y.0 y.1 z.0 z.1 (block_encoding.told s at x.1 x.0 h x.2) hs ((levels_encoding y.0 low).told s y.1 z.1 z.0 h z.2) z.3
