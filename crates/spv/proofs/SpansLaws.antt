-- Laws of the hashes of parts of an input.
use Prim.Native.Nat.{ℕ, zero, suc, ◌+◌, ◌-◌, ◌*◌, ◌/◌, ◌<◌, ◌≤◌}
use mathlib.Core.Path.{◌≡◌, refl, sym, ap, ◌∙◌}
use mathlib.Core.Bool.{Bool, true, false}
use mathlib.Core.List.{List}
use native.Mathlib.Omega.{arith}
use lib.Dec.{ltb}
use lib.ListN.{length, take, drop}
use lib.Seq.{paste, length-paste}
use borrow.Author.Count.{below_more}
use borrow.Author.Tests.{ltb-true, ltb-false}
use Rattle.hash.specs.Sha256.{digest_or_zeros}
use Rattle.format.specs.Bytes.{set_hash, hash_at}
use Rattle.format.proofs.BytesLaws.{set-inside, set_outside}
use Rattle.format.specs.Id.{span_hash}
use Rattle.format.proofs.IdLaws.{span-inside, span-length}
use Rattle.lanes.specs.Lanes as L
use Rattle.lanes.specs.declared.Nodes.{Nodes}
use Rattle.spv.specs.declared.spans.Span.{Span}
use Rattle.spv.proofs.Stored.{stored_here, stored_other}
use Rattle.spv.specs.Spans.{span_id, Inside, set_four, Hashed}

module _ (s : List ℕ) (a b c d : Span) where
  -- one by one
  pub made_each : (p q r t : List ℕ) → p ≡ span_hash s a.start a.end → q ≡ span_hash s b.start b.end → r ≡ span_hash s c.start c.end → t ≡ span_hash s d.start d.end
      → (l : ℕ) → L.node l (record { a = p; b = q; c = r; d = t }) ≡ span_id s (L.in_lane l a b c d)
  unfolding L.node L.in_lane span_id
  made_each p q r t ea eb ec ed zero = ea
  made_each p q r t ea eb ec ed (suc zero) = eb
  made_each p q r t ea eb ec ed (suc (suc zero)) = ec
  made_each p q r t ea eb ec ed (suc (suc (suc l))) = ed

  -- and at once, if all lie in the input
  abbrev part : Span → List ℕ
  part x = take (x.end - x.start) (drop x.start s)

  pub made_four : (four : Nodes) → Inside s a → Inside s b → Inside s c → Inside s d
      → ((l : ℕ) → L.node l four ≡ digest_or_zeros (L.in_lane l (part a) (part b) (part c) (part d))) → (l : ℕ) → L.node l four ≡ span_id s (L.in_lane l a b c d)
  unfolding L.in_lane span_id
  made_four four ia ib ic id e zero = e 0 ∙ sym (span-inside s a.start a.end ia.0 ia.1)
  made_four four ia ib ic id e (suc zero) = e 1 ∙ sym (span-inside s b.start b.end ib.0 ib.1)
  made_four four ia ib ic id e (suc (suc zero)) = e 2 ∙ sym (span-inside s c.start c.end ic.0 ic.1)
  made_four four ia ib ic id e (suc (suc (suc l))) = e (suc (suc (suc l))) ∙ sym (span-inside s d.start d.end id.0 id.1)

-- past the room nothing changes
pub four-past : (l : List ℕ) (i : ℕ) (four : Nodes) → length l / 32 ≤ i → l ≡ set_four l i four
unfolding set_four
four-past l i four h =
    sym (rw (set_outside l i four.a h, set_outside l (i + 1) four.b (omega (arith, h)), set_outside l (i + 2) four.c (omega (arith, h))) (set_outside l (i + 3) four.d (omega (arith, h))))

-- ---- end to end

module _ (s : List ℕ) (parts : ℕ → Span) where
  pub hashed-none : (l : List ℕ) → Hashed s parts 0 l
  unfolding Hashed
  hashed-none l k low room = absurd (omega arith)

  pub hashed-enough : {n i : ℕ} (l : List ℕ) → n ≤ i → Hashed s parts i l → Hashed s parts n l
  unfolding Hashed
  hashed-enough l past made k low room = made k (omega arith) room

  -- one more
  hashed-one : (l x : List ℕ) (i : ℕ) → Hashed s parts i l → x ≡ span_id s (parts i) → Hashed s parts (i + 1) (set_hash l i x)
  unfolding Hashed span_id
  hashed-one l x i made e = go (ltb i (length l / 32)) refl
    where
      long : length x ≡ 32
      long = ap length e ∙ span-length s _ _

      go : (t : Bool) → ltb i (length l / 32) ≡ t → Hashed s parts (i + 1) (set_hash l i x)
      go true q =
          let low : i < length l / 32 = ltb-true i (length l / 32) q in
          let inside : 32 * i + 32 ≤ length l = omega arith in
          let whole : 32 ≤ length x = omega (arith, long) in
          rw (set-inside l i x low, length-paste l (32 * i) x 32 inside whole)
          (below_more (λ (k : ℕ). k < length l / 32 → hash_at (paste l (32 * i) x 32) (32 * k) ≡ span_id s (parts k)) i
          (λ k h room. stored_other l x i long inside k (λ d. omega arith) ∙ made k h room)
          (λ room. stored_here l x i long inside ∙ e))
      go false q = let past = ltb-false i (length l / 32) q in rw (set_outside l i x past) (λ k h room. made k (omega arith) room)

  -- four more, in lanes
  pub hashed-four : (l : List ℕ) (i : ℕ) (a b c d : Span) (four : Nodes) → Hashed s parts i l → a ≡ parts i → b ≡ parts (i + 1) → c ≡ parts (i + 2) → d ≡ parts (i + 3)
      → ((n : ℕ) → L.node n four ≡ span_id s (L.in_lane n a b c d)) → Hashed s parts (i + 4) (set_four l i four)
  unfolding set_four L.node L.in_lane
  hashed-four l i a b c d four made ea eb ec ed f =
      let one : List ℕ = set_hash l i four.a in
      let two : List ℕ = set_hash one (i + 1) four.b in
      let three : List ℕ = set_hash two (i + 2) four.c in
      let n2 : i + 1 + 1 ≡ i + 2 = omega arith in
      let n3 : i + 2 + 1 ≡ i + 3 = omega arith in
      let n4 : i + 3 + 1 ≡ i + 4 = omega arith in
      let first = hashed-one l four.a i made (f 0 ∙ ap (span_id s) ea) in
      let second = hashed-one one four.b (i + 1) first (f 1 ∙ ap (span_id s) eb) in
      let third = hashed-one two four.c (i + 2) (rw n2 at second) (f 2 ∙ ap (span_id s) ec) in
      let fourth = hashed-one three four.d (i + 3) (rw n3 at third) (f 3 ∙ ap (span_id s) ed) in
      rw n4 at fourth
