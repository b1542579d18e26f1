-- Laws of four messages side by side: how far each is, its blocks, and its double hash. Assumes nothing.
use Rattle.std.proofs.Common.{◌≡◌, ℕ, zero, suc, ◌+◌, ◌-◌, ◌*◌, ◌/◌, ◌<◌, ◌≤◌, Bool, true, false, cond, leb, List, [], ◌∷◌, ◌++◌, length, get_or, take, set, sym, refl, ap, ◌∙◌, ap₂, add-one, arith, take_all, take-suc, le-leb, leb-false, leb-true}
use borrow.Author.Tests.{lt-leb}
use Rattle.hash.specs.declared.compress.State.{State}
use Rattle.hash.specs.Sha256.{pad, words, digest, compress, H0, H, hash_value, sha256, sha256d, digest_or_zeros, MAX_INPUT}
use Rattle.hash.proofs.Sha256Laws.{hashed-accepted}
use Rattle.hash.specs.Parts.{blocks, block_of}
use Rattle.hash.proofs.Words.{grow, words_same}
use Rattle.hash.proofs.Padding.{pad-front, H-step, H-done, block_within}
use Rattle.hash.proofs.Digests.{digest-hashed}
use Rattle.lanes.specs.declared.compress.Four.{Four}
use Rattle.lanes.specs.declared.compress.State4.{State4}
use Rattle.lanes.specs.declared.messages.Counts.{Counts}
use Rattle.lanes.specs.Lanes.{in_lane, word_in, node, nodes, lane, lanes, value, digest_words, four, count, before_end, after}
use Rattle.lanes.proofs.SideBySide.{lane-all, lane-map, lanes-length, lanes-set, compress-block}

-- The new value, or the old one: of words, and of hash values.
pub before-end_new : {A : Type 0} (n i : ℕ) (x y : A) → i < n → x ≡ before_end n i x y
unfolding before_end
before-end_new n i x y h = simp (lt-leb n i h)

pub before-end_old : {A : Type 0} (n i : ℕ) (x y : A) → n ≤ i → y ≡ before_end n i x y
unfolding before_end
before-end_old n i x y h = simp (le-leb n i h)

pub word_in-before-end : (l i p q r s : ℕ) (n : Counts) (x y : Four) → p ≡ before_end n.a i x.a y.a → q ≡ before_end n.b i x.b y.b
    → r ≡ before_end n.c i x.c y.c → s ≡ before_end n.d i x.d y.d → word_in l (record { a = p; b = q; c = r; d = s }) ≡ before_end (count l n) i (word_in l x) (word_in l y)
unfolding word_in count in_lane
word_in-before-end zero i p q r s n x y ep eq er es = ep
word_in-before-end (suc zero) i p q r s n x y ep eq er es = eq
word_in-before-end (suc (suc zero)) i p q r s n x y ep eq er es = er
word_in-before-end (suc (suc (suc l))) i p q r s n x y ep eq er es = es

value-before-end : (n i : ℕ) (x y : State)
    → value (before_end n i x.a y.a) (before_end n i x.b y.b) (before_end n i x.c y.c) (before_end n i x.d y.d) (before_end n i x.e y.e) (before_end n i x.f y.f) (before_end n i x.g y.g) (before_end n i x.h y.h) ≡ before_end n i x y
unfolding value before_end
value-before-end n i x y = by (leb n i)
  where
    by : (b : Bool) → ◌≡◌ {A = State} (record { a = cond b y.a x.a; b = cond b y.b x.b; c = cond b y.c x.c; d = cond b y.d x.d; e = cond b y.e x.e; f = cond b y.f x.f; g = cond b y.g x.g; h = cond b y.h x.h }) (cond b y x)
    by true = refl
    by false = refl

pub lane-before-end : (l i : ℕ) (n : Counts) (x y z : State4) → word_in l z.a ≡ before_end (count l n) i (word_in l x.a) (word_in l y.a)
    → word_in l z.b ≡ before_end (count l n) i (word_in l x.b) (word_in l y.b)
    → word_in l z.c ≡ before_end (count l n) i (word_in l x.c) (word_in l y.c)
    → word_in l z.d ≡ before_end (count l n) i (word_in l x.d) (word_in l y.d)
    → word_in l z.e ≡ before_end (count l n) i (word_in l x.e) (word_in l y.e)
    → word_in l z.f ≡ before_end (count l n) i (word_in l x.f) (word_in l y.f)
    → word_in l z.g ≡ before_end (count l n) i (word_in l x.g) (word_in l y.g)
    → word_in l z.h ≡ before_end (count l n) i (word_in l x.h) (word_in l y.h)
    → lane l z ≡ before_end (count l n) i (lane l x) (lane l y)
unfolding lane value
lane-before-end l i n x y z ea eb ec ed ee ef eg eh =
    rw (ea, eb, ec, ed, ee, ef, eg, eh) (value-before-end (count l n) i (lane l x) (lane l y))

pub all-before-end : (l i : ℕ) (n : Counts) (x y : State) → i < n.a → i < n.b → i < n.c → i < n.d → x ≡ before_end (count l n) i x y
unfolding count
all-before-end l i n x y ha hb hc hd = before-end_new (count l n) i x y (lane-all (λ (k : ℕ). i < k) l ha hb hc hd)

values_of : (l : ℕ) (p q x y : State)
    → value (word_in l (four p.a q.a x.a y.a)) (word_in l (four p.b q.b x.b y.b)) (word_in l (four p.c q.c x.c y.c)) (word_in l (four p.d q.d x.d y.d)) (word_in l (four p.e q.e x.e y.e)) (word_in l (four p.f q.f x.f y.f)) (word_in l (four p.g q.g x.g y.g)) (word_in l (four p.h q.h x.h y.h)) ≡ in_lane l p q x y
unfolding value word_in in_lane four
values_of zero p q x y = refl
values_of (suc zero) p q x y = refl
values_of (suc (suc zero)) p q x y = refl
values_of (suc (suc (suc l))) p q x y = refl

pub lane-values : (l : ℕ) (p q x y : State) (z : State4) → z.a ≡ four p.a q.a x.a y.a → z.b ≡ four p.b q.b x.b y.b
    → z.c ≡ four p.c q.c x.c y.c → z.d ≡ four p.d q.d x.d y.d → z.e ≡ four p.e q.e x.e y.e
    → z.f ≡ four p.f q.f x.f y.f → z.g ≡ four p.g q.g x.g y.g → z.h ≡ four p.h q.h x.h y.h
    → lane l z ≡ in_lane l p q x y
unfolding lane
lane-values l p q x y z ea eb ec ed ee ef eg eh = rw (ea, eb, ec, ed, ee, ef, eg, eh) (values_of l p q x y)

-- Four blocks, side by side.
pub column_on : (l t : ℕ) (a b c d : List ℕ) (w : List Four) → t < length w → length a ≡ 16 → length b ≡ 16 → length c ≡ 16 → length d ≡ 16 → t < 16
    → take t (lanes l w) ≡ take t (in_lane l a b c d)
    → take (t + 1) (lanes l (set w t (record { a = get_or a t 0; b = get_or b t 0; c = get_or c t 0; d = get_or d t 0 }))) ≡ take (t + 1) (in_lane l a b c d)
unfolding word_in
column_on l t a b c d w h ha hb hc hd ht q =
    let n = lanes-length l w in
    let p : length (in_lane l a b c d) ≡ 16 = lane-all (λ (m : List ℕ). length m ≡ 16) l ha hb hc hd in
    let e = lane-map (λ (m : List ℕ). get_or m t 0) l a b c d in
    let g = grow (lanes l w) t (in_lane l (get_or a t 0) (get_or b t 0) (get_or c t 0) (get_or d t 0)) (omega arith) in
    rw lanes-set (g ∙ ap₂ (λ (u : List ℕ) (v : ℕ). u ++ v ∷ []) q e ∙ rw add-one (sym (take-suc (in_lane l a b c d) t 0 (omega arith))))

pub columns-done : (l t : ℕ) (a b c d : List ℕ) (w : List Four) → t ≡ 16 → length w ≡ 16 → length a ≡ 16 → length b ≡ 16 → length c ≡ 16 → length d ≡ 16
    → take t (lanes l w) ≡ take t (in_lane l a b c d) → lanes l w ≡ in_lane l a b c d
columns-done l t a b c d w et h ha hb hc hd q =
    let n = lanes-length l w in
    let p : length (in_lane l a b c d) ≡ 16 = lane-all (λ (m : List ℕ). length m ≡ 16) l ha hb hc hd in
    let e : take 16 (lanes l w) ≡ take 16 (in_lane l a b c d) = rw et at q in
    sym (take_all 16 (lanes l w) (omega arith)) ∙ e ∙ take_all 16 (in_lane l a b c d) (omega arith)

-- A block that lies within the message.
pub block_in : (m : List ℕ) (i : ℕ) → length m ≤ MAX_INPUT → i < length m / 64 → words m (64 * i) 16 ≡ block_of m i
block_in m i h l =
    words_same m (pad m) (64 * i) (64 * i) 16 (λ k g. sym (pad-front m (64 * i + k) (omega arith))) ∙ sym (block_within m i h (omega arith))

-- The hash value after some blocks: up to all of them, and from there on.
after_upto : (m : List ℕ) (i : ℕ) → i ≤ blocks m → H (pad m) i ≡ after m i
unfolding after
after_upto m i h = ap (λ (k : ℕ). H (pad m) k) (by (leb (blocks m) i) refl)
  where
    by : (b : Bool) → leb (blocks m) i ≡ b → i ≡ before_end (blocks m) i i (blocks m)
    by true e =
        let l = leb-true (blocks m) i e in
        let g : i ≡ blocks m = omega arith in
        g ∙ before-end_old (blocks m) i i (blocks m) l
    by false e = before-end_new (blocks m) i i (blocks m) (leb-false (blocks m) i e)

pub after-done : (m : List ℕ) (i : ℕ) → blocks m ≤ i → after m i ≡ hash_value m
unfolding after blocks
after-done m i h =
    ap (λ (k : ℕ). H (pad m) k) (sym (before-end_old (blocks m) i i (blocks m) h)) ∙ H-done m (H (pad m) (blocks m)) (blocks m) refl refl

pub after_none : (m : List ℕ) → H0 ≡ after m 0
unfolding H blocks
after_none m = after_upto m 0 (omega arith)

pub after_more : (m : List ℕ) (i : ℕ) → length m ≤ MAX_INPUT → i < blocks m → compress (after m i) (block_of m i) ≡ after m (i + 1)
unfolding blocks
after_more m i h l =
    ap₂ compress (sym (after_upto m i (omega arith))) (block_within m i h l) ∙ H-step (pad m) i ∙ after_upto m (i + 1) (omega arith)

pub after_on : (m : List ℕ) (i : ℕ) → length m ≤ MAX_INPUT → before_end (blocks m) i (compress (after m i) (block_of m i)) (after m i) ≡ after m (i + 1)
after_on m i h = by (leb (blocks m) i) refl
  where
    by : (b : Bool) → leb (blocks m) i ≡ b → before_end (blocks m) i (compress (after m i) (block_of m i)) (after m i) ≡ after m (i + 1)
    by true e =
        let l = leb-true (blocks m) i e in
        sym (before-end_old (blocks m) i (compress (after m i) (block_of m i)) (after m i) l) ∙ after-done m i l ∙ sym (after-done m (i + 1) (omega arith))
    by false e =
        let l = leb-false (blocks m) i e in
        sym (before-end_new (blocks m) i (compress (after m i) (block_of m i)) (after m i) l) ∙ after_more m i h l

-- A lane's double hash: y is the message's hash value, and z that of its digest.
last_block : (m : List ℕ) → compress (H (pad m) ((length m + 72) / 64 - 1)) (words (pad m) (64 * ((length m + 72) / 64 - 1)) 16) ≡ hash_value m
last_block m =
    H-done m (compress (H (pad m) ((length m + 72) / 64 - 1)) (words (pad m) (64 * ((length m + 72) / 64 - 1)) 16)) ((length m + 72) / 64 - 1 + 1) (omega arith)
    (H-step (pad m) ((length m + 72) / 64 - 1))

pub hashed-twice : (m : List ℕ) (y z : State) → y ≡ hash_value m → z ≡ compress H0 (digest_words y) → digest z ≡ sha256d m
unfolding sha256d sha256
hashed-twice m y z ey ez =
    let e = last_block m in
    let f = compress-block (H (pad m) ((length m + 72) / 64 - 1)) (words (pad m) (64 * ((length m + 72) / 64 - 1)) 16) in
    cc (e, f, digest-hashed y)

pub one_by_one : (l : ℕ) (a b c d : List ℕ) → node l (nodes (digest_or_zeros a) (digest_or_zeros b) (digest_or_zeros c) (digest_or_zeros d)) ≡ digest_or_zeros (in_lane l a b c d)
unfolding node nodes
one_by_one l a b c d = lane-map digest_or_zeros l a b c d

pub lane-accepted : (l : ℕ) (a b c d : List ℕ) → length a ≤ MAX_INPUT → length b ≤ MAX_INPUT → length c ≤ MAX_INPUT → length d ≤ MAX_INPUT
    → sha256d (in_lane l a b c d) ≡ digest_or_zeros (in_lane l a b c d)
lane-accepted l a b c d ha hb hc hd =
    let h : length (in_lane l a b c d) ≤ MAX_INPUT = lane-all (λ (m : List ℕ). length m ≤ MAX_INPUT) l ha hb hc hd in
    rw (hashed-accepted (in_lane l a b c d) h)
