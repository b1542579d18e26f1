-- Laws of the lanes: an operation in each lane, and the laws of one hash at what stands in a lane. Assumes nothing.
use Rattle.std.proofs.Common.{◌≡◌, ℕ, zero, suc, ◌+◌, ◌-◌, ◌*◌, ◌%◌, ◌<◌, ◌≤◌, List, [], ◌∷◌, ◌++◌, length, get_or, take, drop, set, replicate, sym, refl, ap, ◌∙◌, ap₂, append_assoc, zero-add, add-one, arith, lit≤, take_all}
use lib.ListN.{length-map, get_or-map}
use Rattle.hash.specs.declared.compress.State.{State}
use Rattle.hash.specs.Sha256.{◌⊞◌, σ0, σ1, schedule, K, round, pad, word, words, digest, plus, compress, H0, padding, sha256d}
use Rattle.hash.specs.Parts.{sums, rounds_by, stage, next_stage}
use Rattle.hash.proofs.Words.{grow, words_step}
use Rattle.hash.proofs.Stages.{window, Ring, ring_first, overwritten, next_made, one-round, sums_at, after_none, after_more, after-all}
use Rattle.hash.proofs.Known.{known, padding-rounds}
use Rattle.hash.proofs.Digests.{digest-block, digest-hashed, joined}
use Rattle.lanes.specs.declared.compress.Four.{Four}
use Rattle.lanes.specs.declared.compress.State4.{State4}
use Rattle.lanes.specs.declared.Nodes.{Nodes}
use Rattle.lanes.specs.Lanes.{in_lane, word_in, node, nodes, lane, lanes, value, digest_words, all, lanewise, lanewise2, lanewise3}

pub word_in-all : (i k : ℕ) → word_in i (all k) ≡ k
unfolding word_in in_lane all
word_in-all zero k = refl
word_in-all (suc zero) k = refl
word_in-all (suc (suc zero)) k = refl
word_in-all (suc (suc (suc i))) k = refl

pub word_in-lanewise : (i : ℕ) (f : ℕ → ℕ) (x : Four) → word_in i (lanewise f x) ≡ f (word_in i x)
unfolding word_in in_lane lanewise
word_in-lanewise zero f x = refl
word_in-lanewise (suc zero) f x = refl
word_in-lanewise (suc (suc zero)) f x = refl
word_in-lanewise (suc (suc (suc i))) f x = refl

pub word_in-lanewise2 : (i : ℕ) (f : ℕ → ℕ → ℕ) (x y : Four) → word_in i (lanewise2 f x y) ≡ f (word_in i x) (word_in i y)
unfolding word_in in_lane lanewise2
word_in-lanewise2 zero f x y = refl
word_in-lanewise2 (suc zero) f x y = refl
word_in-lanewise2 (suc (suc zero)) f x y = refl
word_in-lanewise2 (suc (suc (suc i))) f x y = refl

pub word_in-lanewise3 : (i : ℕ) (f : ℕ → ℕ → ℕ → ℕ) (x y z : Four) → word_in i (lanewise3 f x y z) ≡ f (word_in i x) (word_in i y) (word_in i z)
unfolding word_in in_lane lanewise3
word_in-lanewise3 zero f x y z = refl
word_in-lanewise3 (suc zero) f x y z = refl
word_in-lanewise3 (suc (suc zero)) f x y z = refl
word_in-lanewise3 (suc (suc (suc i))) f x y z = refl

-- What holds in each lane holds in lane i; what is made in each lane is made in lane i.
pub lane-all : {A : Type 0} (P : A → Type 0) (i : ℕ) {a b c d : A} → P a → P b → P c → P d → P (in_lane i a b c d)
unfolding in_lane
lane-all P zero p q r s = p
lane-all P (suc zero) p q r s = q
lane-all P (suc (suc zero)) p q r s = r
lane-all P (suc (suc (suc i))) p q r s = s

pub lane-map : {A B : Type 0} (f : A → B) (i : ℕ) (a b c d : A) → in_lane i (f a) (f b) (f c) (f d) ≡ f (in_lane i a b c d)
unfolding in_lane
lane-map f zero a b c d = refl
lane-map f (suc zero) a b c d = refl
lane-map f (suc (suc zero)) a b c d = refl
lane-map f (suc (suc (suc i))) a b c d = refl

-- A list of fours.
pub lanes-length : (i : ℕ) (m : List Four) → length (lanes i m) ≡ length m
unfolding lanes
lanes-length i m = length-map m (word_in i)

pub lanes-set : (i : ℕ) (m : List Four) (t : ℕ) (x : Four) → lanes i (set m t x) ≡ set (lanes i m) t (word_in i x)
unfolding lanes
lanes-set i [] t x = refl
lanes-set i (y ∷ m) zero x = refl
lanes-set i (y ∷ m) (suc t) x = let ih = lanes-set i m t x in cc

pub lanes_get : (i : ℕ) (m : List Four) (t : ℕ) → word_in i (get_or m t (all 0)) ≡ get_or (lanes i m) t 0
unfolding lanes
lanes_get i m t = let e = get_or-map (word_in i) m t (all 0) in sym (rw word_in-all at e)

-- Sixteen words of a block's schedule in each lane, from word 16 + q on to word 16 + t.
abbrev pub Going : List Four → ℕ → List Four → ℕ → Type 0
Going v q w t = (i : ℕ) (m : List ℕ) → length m ≡ 16 → Ring (schedule m 16) (lanes i v) (16 + q) → Ring (schedule m 16) (lanes i w) (16 + t)

pub going_on : (v w : List Four) (q t p2 p7 p15 : ℕ) (x : Four) → t < 16 → p2 ≡ (t + 14) % 16 → p7 ≡ (t + 9) % 16 → p15 ≡ (t + 1) % 16
    → ((i : ℕ) → word_in i x ≡ σ1 (word_in i (get_or w p2 (all 0))) ⊞ word_in i (get_or w p7 (all 0)) ⊞ σ0 (word_in i (get_or w p15 (all 0))) ⊞ word_in i (get_or w t (all 0)))
    → Going v q w t → Going v q (set w t x) (t + 1)
going_on v w q t p2 p7 p15 x h e2 e7 e15 e g i m lm r =
    let a2 : (16 + t + 14) % 16 ≡ p2 = omega arith in
    let a7 : (16 + t + 9) % 16 ≡ p7 = omega arith in
    let a15 : (16 + t + 1) % 16 ≡ p15 = omega arith in
    let a16 : (16 + t) % 16 ≡ t = omega arith in
    let b : 16 + t + 1 ≡ 16 + (t + 1) = omega arith in
    let f = rw (lanes_get i w p2, lanes_get i w p7, lanes_get i w p15, lanes_get i w t) at (e i) in
    let o = overwritten m (lanes i w) (16 + t) (word_in i x) lm (omega arith) (omega arith) (g i m lm r) (rw (a2, a7, a15, a16) f) in
    rw lanes-set (rw (a16, b) at o)

ring_last : (m w : List ℕ) → length m ≡ 16 → Ring (schedule m 16) w 32 → w ≡ drop 16 (schedule m 16)
unfolding stage next_stage
ring_last m w lm g = ap (λ u. u.w) (next_made (stage H0 m []) (stage (rounds_by H0 (sums [] m) 16) w []) [] w (rounds_by H0 (sums [] m) 16) lm refl g refl)

pub going_all : (v1 v2 v3 w m : List Four) → length m ≡ 16 → Going m 0 v1 2 → Going v1 2 v2 7 → Going v2 7 v3 15 → Going v3 15 w 16 → (i : ℕ) → lanes i w ≡ drop 16 (schedule (lanes i m) 16)
going_all v1 v2 v3 w m lm g1 g2 g3 g4 i =
    let l : length (lanes i m) ≡ 16 = lanes-length i m ∙ lm in
    ring_last (lanes i m) (lanes i w) l (g4 i (lanes i m) l (g3 i (lanes i m) l (g2 i (lanes i m) l (g1 i (lanes i m) l (ring_first (lanes i m) l)))))

-- Rounds, each by the sum of its constant and its word.
pub word_in-sum : (i k : ℕ) (x y z : Four) → y ≡ all k → z ≡ lanewise2 ◌⊞◌ y x → word_in i z ≡ k ⊞ word_in i x
word_in-sum i k x y z e f = rw (f, word_in-lanewise2, e, word_in-all)

pub round_on : (i : ℕ) (s r q : State) (k : List ℕ) (w : List Four) (t y : ℕ) → t < length k → t < length w → r ≡ rounds_by s (sums k (lanes i w)) t
    → y ≡ get_or k t 0 ⊞ word_in i (get_or w t (all 0)) → q ≡ round r y 0 → q ≡ rounds_by s (sums k (lanes i w)) (t + 1)
round_on i s r q k w t y h l e f g =
    let n = lanes-length i w in
    let a = sums_at k (lanes i w) t h (omega arith) in
    rw add-one (one-round s (sums k (lanes i w)) t r q e (g ∙ ap (λ (u : ℕ). round r u 0) (f ∙ ap (λ (u : ℕ). get_or k t 0 ⊞ u) (lanes_get i w t) ∙ sym a)))

pub plus_none : (x k : ℕ) → x ⊞ k ⊞ 0 ≡ x ⊞ k
unfolding ◌⊞◌
plus_none x k = omega arith

next : (s r : State) (m w k l : List ℕ) → r ≡ rounds_by s (sums k m) 16 → w ≡ drop 16 (schedule m 16) → stage r w l ≡ next_stage (stage s m k) l
unfolding stage next_stage
next s r m w k l e f = rw (e, f)

-- Sixty-four rounds, and the words between them.
pub four_stages : (s r0 r1 r2 r3 : State) (m w1 w2 w3 : List ℕ) → length m ≡ 16 → r0 ≡ rounds_by s (sums (window K 0) m) 16
    → w1 ≡ drop 16 (schedule m 16) → r1 ≡ rounds_by r0 (sums (window K 16) w1) 16 → w2 ≡ drop 16 (schedule w1 16) → r2 ≡ rounds_by r1 (sums (window K 32) w2) 16
    → w3 ≡ drop 16 (schedule w2 16) → r3 ≡ rounds_by r2 (sums (window K 48) w3) 16 → plus r3 s ≡ compress s m
unfolding stage
four_stages s r0 r1 r2 r3 m w1 w2 w3 lm e0 f1 e1 f2 e2 f3 e3 =
    let a0 = after_none s m (window K 0) (stage s m (window K 0)) lm refl refl in
    let a1 = after_more s m (window K 16) 0 (stage s m (window K 0)) (stage r0 w1 (window K 16)) lm (lit≤ tt) refl a0 (next s r0 m w1 (window K 0) (window K 16) e0 f1) in
    let a2 = after_more s m (window K 32) 16 (stage r0 w1 (window K 16)) (stage r1 w2 (window K 32)) lm (lit≤ tt) refl a1 (next r0 r1 w1 w2 (window K 16) (window K 32) e1 f2) in
    let a3 = after_more s m (window K 48) 32 (stage r1 w2 (window K 32)) (stage r2 w3 (window K 48)) lm (lit≤ tt) refl a2 (next r1 r2 w2 w3 (window K 32) (window K 48) e2 f3) in
    after-all s r3 m (stage r2 w3 (window K 48)) lm a3 e3

-- The known sums, with no word added.
pub lanes-none : (i : ℕ) (x : Four) → x ≡ all 0 → lanes i (replicate 16 x) ≡ replicate 16 0
unfolding lanes
lanes-none i x e = rw e (simp word_in-all)

with_none : (sums (window known 0) (replicate 16 0) ≡ window known 0) × (sums (window known 16) (replicate 16 0) ≡ window known 16)
    × (sums (window known 32) (replicate 16 0) ≡ window known 32) × (sums (window known 48) (replicate 16 0) ≡ window known 48)
unfolding sums window known ◌⊞◌
with_none = (refl, refl, refl, refl)

pub four-known : (s r0 r1 r2 r3 : State) (z : List ℕ) → z ≡ replicate 16 0 → r0 ≡ rounds_by s (sums (window known 0) z) 16
    → r1 ≡ rounds_by r0 (sums (window known 16) z) 16 → r2 ≡ rounds_by r1 (sums (window known 32) z) 16 → r3 ≡ rounds_by r2 (sums (window known 48) z) 16
    → plus r3 s ≡ compress s (words (padding 64) 0 16)
four-known s r0 r1 r2 r3 z e e0 e1 e2 e3 =
    padding-rounds s r0 r1 r2 r3 (e0 ∙ rw (e, with_none.0)) (e1 ∙ rw (e, with_none.1)) (e2 ∙ rw (e, with_none.2)) (e3 ∙ rw (e, with_none.3))

-- Four nodes' words, side by side.
pub word_in-words : (j i p q r s : ℕ) (n : Nodes) → p ≡ word n.a i → q ≡ word n.b i → r ≡ word n.c i → s ≡ word n.d i
    → word_in j (record { a = p; b = q; c = r; d = s }) ≡ word (node j n) i
unfolding word_in node
word_in-words j i p q r s n ep eq er es = rw (ep, eq, er, es) (lane-map (λ (l : List ℕ). word l i) j n.a n.b n.c n.d)

-- One word more of each lane.
pub words_on : (i o : ℕ) (p : List ℕ) (w : List Four) (t : ℕ) (x : Four) → t < length w → take t (lanes i w) ≡ words p o t → word_in i x ≡ word p (o + 4 * t)
    → take (t + 1) (lanes i (set w t x)) ≡ words p o (t + 1)
words_on i o p w t x h q e =
    let n = lanes-length i w in
    rw (lanes-set, e) (words_step p (lanes i w) o t (omega arith) q)

-- The words of two nodes, one after the other.
pub left_on : (i : ℕ) (p : List ℕ) (w : List Four) (t : ℕ) (x : Four) → t < length w → take t (lanes i w) ≡ words p 0 t → word_in i x ≡ word p (4 * t)
    → take (t + 1) (lanes i (set w t x)) ≡ words p 0 (t + 1)
left_on i p w t x h q e = words_on i 0 p w t x h q (rw zero-add e)

pub right_on : (i : ℕ) (f p : List ℕ) (w : List Four) (t : ℕ) (x : Four) → 8 ≤ t → t < length w → take t (lanes i w) ≡ f ++ words p 0 (t - 8)
    → word_in i x ≡ word p (4 * t - 32) → take (t + 1) (lanes i (set w t x)) ≡ f ++ words p 0 (t + 1 - 8)
unfolding words
right_on i f p w t x l h q e =
    let n = lanes-length i w in
    let a : t + 1 - 8 ≡ suc (t - 8) = omega arith in
    let b : 0 + 4 * (t - 8) ≡ 4 * t - 32 = omega arith in
    let g = grow (lanes i w) t (word_in i x) (omega arith) in
    rw (lanes-set, a, b) (g ∙ ap₂ (λ (u : List ℕ) (v : ℕ). u ++ v ∷ []) q e ∙ append_assoc f (words p 0 (t - 8)) (word p (4 * t - 32) ∷ []))

pub both : (i : ℕ) (p q : List ℕ) (v w : List Four) (t u : ℕ) → u ≡ 8 → t ≡ 16 → length w ≡ 16 → take u (lanes i v) ≡ words p 0 u
    → take t (lanes i w) ≡ take 8 (lanes i v) ++ words q 0 (t - 8) → lanes i w ≡ words p 0 8 ++ words q 0 8
both i p q v w t u eu et lw a b =
    let n = lanes-length i w in
    let c : take 8 (lanes i v) ≡ words p 0 8 = rw eu at a in
    let d : take 16 (lanes i w) ≡ take 8 (lanes i v) ++ words q 0 8 = rw et at b in
    sym (take_all 16 (lanes i w) (omega arith)) ∙ d ∙ rw c

-- Digests, lane by lane.
pub lanes-digest : (i : ℕ) (s : State4) (one none bits : Four) → one ≡ all 0x8000_0000 → none ≡ all 0 → bits ≡ all 256
    → lanes i (s.a ∷ s.b ∷ s.c ∷ s.d ∷ s.e ∷ s.f ∷ s.g ∷ s.h ∷ one ∷ none ∷ none ∷ none ∷ none ∷ none ∷ none ∷ bits ∷ []) ≡ digest_words (lane i s)
unfolding lanes lane value digest_words
lanes-digest i s one none bits p q r = rw (p, q, r) (simp word_in-all)

pub compress-block : (s : State) (m : List ℕ) → digest_words (compress s m) ≡ words (pad (digest (compress s m))) 0 16
unfolding digest_words compress plus ◌⊞◌
compress-block s m =
    digest-block (compress s m) (omega arith) (omega arith) (omega arith) (omega arith) (omega arith) (omega arith) (omega arith) (omega arith)

-- A lane of four joins: x, y, z are its hash values after each block, and m is the block of its two nodes.
pub lane-joined : (l r m : List ℕ) (x y z : State) → length l ≡ 32 → length r ≡ 32 → m ≡ words l 0 8 ++ words r 0 8
    → x ≡ compress H0 m → y ≡ compress x (words (padding 64) 0 16) → z ≡ compress H0 (digest_words y) → digest z ≡ sha256d (l ++ r)
lane-joined l r m x y z hl hr em ex ey ez =
    cc (compress-block x (words (padding 64) 0 16), digest-hashed y, joined l r hl hr)

pub lane-digest : (i : ℕ) (s : State4) → in_lane i (digest (lane 0 s)) (digest (lane 1 s)) (digest (lane 2 s)) (digest (lane 3 s)) ≡ digest (lane i s)
unfolding in_lane lane word_in
lane-digest zero s = refl
lane-digest (suc zero) s = refl
lane-digest (suc (suc zero)) s = refl
lane-digest (suc (suc (suc i))) s = refl

pub lanes-digests : (i : ℕ) (s : State4) (a b c d : List ℕ) (n : Nodes) → a ≡ digest (lane 0 s) → b ≡ digest (lane 1 s) → c ≡ digest (lane 2 s) → d ≡ digest (lane 3 s)
    → n ≡ nodes a b c d → node i n ≡ digest (lane i s)
unfolding node nodes
lanes-digests i s a b c d n ea eb ec ed e = rw (e, ea, eb, ec, ed) (lane-digest i s)
