-- The schedule by sixteen words at a time: what follows sixteen words, and the rounds over them. Assumes nothing.
use Rattle.std.proofs.Common.{◌≡◌, ℕ, zero, suc, ◌+◌, ◌-◌, ◌%◌, ◌<◌, ◌≤◌, List, [], ◌∷◌, ◌++◌, length, get_or, take, drop, set, sym, refl, ap, ◌∙◌, ap₂, ⊎_elim, add-zero, add-suc, eq-or-lt_of_le, add-one, arith, length-append, length-drop, length-set, length-take-le, get_or-drop, take_all, get_or-set_other, get_or-take, take-suc, get_or-set_same, drop-drop, ext_get_or, take-add, drop_at}
use lib.ListN.{get_or-append}
use lib.Seq.{get_or_at, take-append-le}
use Rattle.hash.specs.declared.compress.State.{State}
use Rattle.hash.specs.declared.compress.Stage.{Stage}
use Rattle.hash.specs.Sha256.{◌⊞◌, σ0, σ1, W, schedule, K, T1, round, rounds, plus, compress}
use Rattle.hash.specs.Parts.{sums, rounds_by, stage, next_stage}
use Rattle.hash.proofs.Words.{grow}

-- The schedule: its length, its first words, and each later word by those before it.
length-schedule : (m : List ℕ) (n : ℕ) → length (schedule m n) ≡ length m + n
unfolding schedule
length-schedule m zero = sym (add-zero (length m))
length-schedule m (suc n) = let ih = length-schedule m n in simp length-append (omega arith)

-- A word is made of the words before it, so what stands after them changes nothing.
W-take : (w : List ℕ) (t : ℕ) → 16 ≤ t → W (take t w) t ≡ W w t
unfolding W
W-take w t h =
    rw
    (get_or-take t w (t - 2) 0 (omega arith), get_or-take t w (t - 7) 0 (omega arith), get_or-take t w (t - 15) 0 (omega arith), get_or-take t w (t - 16) 0 (omega arith))

W_append : (w : List ℕ) (v t : ℕ) → 16 ≤ t → t ≤ length w → W (w ++ v ∷ []) t ≡ W w t
W_append w v t h l = sym (W-take (w ++ v ∷ []) t h) ∙ ap (λ (x : List ℕ). W x t) (take-append-le t w (v ∷ []) l) ∙ W-take w t h

schedule-at : (m : List ℕ) (n t : ℕ) → length m ≡ 16 → 16 ≤ t → t < 16 + n → get_or (schedule m n) t 0 ≡ W (schedule m n) t
unfolding schedule
schedule-at m zero t lm h l = absurd (omega arith)
schedule-at m (suc n) t lm h l =
    let ls : length (schedule m n) ≡ 16 + n = length-schedule m n ∙ ap (λ (x : ℕ). x + n) lm in
    let le : t ≤ 16 + n = omega arith in
    let na = W_append (schedule m n) (W (schedule m n) (16 + n)) t h (omega arith) in
    ⊎_elim
    (λ e. ap (λ (x : ℕ). get_or (schedule m n ++ W (schedule m n) (16 + n) ∷ []) x 0) e ∙ get_or_at (schedule m n) (W (schedule m n) (16 + n)) [] 0 (16 + n) ls ∙ ap (W (schedule m n)) (sym e) ∙ sym na)
    (λ k. get_or-append (schedule m n) (W (schedule m n) (16 + n) ∷ []) 0 t (omega arith) ∙ schedule-at m n t lm h k ∙ sym na)
    (eq-or-lt_of_le le)

schedule-front : (m : List ℕ) (n : ℕ) → length m ≡ 16 → take 16 (schedule m n) ≡ m
unfolding schedule
schedule-front m zero lm = take_all 16 m (omega arith)
schedule-front m (suc n) lm =
    let ls = length-schedule m n in
    take-append-le 16 (schedule m n) (W (schedule m n) (16 + n) ∷ []) (omega arith) ∙ schedule-front m n lm

-- The sixteen words from word q on.
unfoldable pub window : List ℕ → ℕ → List ℕ
window w q = take 16 (drop q w)

pub window_at : (w : List ℕ) (q j : ℕ) → j < 16 → get_or (window w q) j 0 ≡ get_or w (q + j) 0
unfolding window
window_at w q j h = get_or-take 16 (drop q w) j 0 h ∙ get_or-drop q w j 0

window_length : (w : List ℕ) (q : ℕ) → q + 16 ≤ length w → length (window w q) ≡ 16
unfolding window
window_length w q h = length-take-le 16 (drop q w) (rw length-drop (omega arith))

-- What follows sixteen words of the schedule are its next sixteen.
sub_add : (q t k : ℕ) → k ≤ t → q + (t - k) ≡ q + t - k
sub_add q t k h = omega arith

W-drop : (w : List ℕ) (q t : ℕ) → 16 ≤ t → W (drop q w) t ≡ W w (q + t)
unfolding W
W-drop w q t h =
    rw
    (get_or-drop q w (t - 2) 0, get_or-drop q w (t - 7) 0, get_or-drop q w (t - 15) 0, get_or-drop q w (t - 16) 0, sub_add q t 2 (omega arith), sub_add q t 7 (omega arith), sub_add q t 15 (omega arith), sub_add q t 16 (omega arith))

inside : (w : List ℕ) (q n : ℕ) → length w ≡ 64 → q + 16 + suc n ≤ 64 → 16 + n < length (drop q w)
inside w q n h l = rw length-drop (omega arith)

schedule_from : (m w : List ℕ) (q n : ℕ) → w ≡ schedule m 48 → length m ≡ 16 → q + 16 + n ≤ 64 → schedule (take 16 (drop q w)) n ≡ take (16 + n) (drop q w)
unfolding schedule
schedule_from m w q zero e lm h = refl
schedule_from m w q (suc n) e lm h =
    let lw : length w ≡ 64 = ap length e ∙ length-schedule m 48 ∙ ap (λ (x : ℕ). x + 48) lm in
    let ih = schedule_from m w q n e lm (omega arith) in
    let nt = W-take (drop q w) (16 + n) (omega arith) in
    let nd = W-drop w q (16 + n) (omega arith) in
    let sa : get_or w (q + (16 + n)) 0 ≡ W w (q + (16 + n)) = rw e (schedule-at m 48 (q + (16 + n)) lm (omega arith) (omega arith)) in
    let gd = get_or-drop q w (16 + n) 0 in
    let ts = take-suc (drop q w) (16 + n) 0 (inside w q n lw h) in
    rw (add-suc 16 n) cc

long-schedule : (m : List ℕ) → length m ≡ 16 → length (schedule m 48) ≡ 64
long-schedule m lm = length-schedule m 48 ∙ ap (λ (x : ℕ). x + 48) lm

window_next : (m : List ℕ) (q : ℕ) → length m ≡ 16 → q + 32 ≤ 64 → drop 16 (schedule (window (schedule m 48) q) 16) ≡ window (schedule m 48) (q + 16)
unfolding window
window_next m q lm h =
    let lw = long-schedule m lm in
    let g : schedule (take 16 (drop q (schedule m 48))) 16 ≡ take 32 (drop q (schedule m 48)) = schedule_from m (schedule m 48) q 16 refl lm (omega arith) in
    let ta : take 32 (drop q (schedule m 48)) ≡ take 16 (drop q (schedule m 48)) ++ take 16 (drop 16 (drop q (schedule m 48))) = take-add 16 16 (drop q (schedule m 48)) in
    ap (drop 16) (g ∙ ta) ∙ drop_at (take 16 (drop q (schedule m 48))) (take 16 (drop 16 (drop q (schedule m 48)))) 16 (length-take-le 16 (drop q (schedule m 48)) (rw length-drop (omega arith)))
    ∙ ap (take 16) (drop-drop 16 q (schedule m 48))

length_last : (m w : List ℕ) → length m ≡ 16 → length w ≡ 16 → length w ≡ length (drop 16 (schedule m 16))
length_last m w lm lw = let ls = length-schedule m 16 in rw length-drop (omega arith)

-- A ring of sixteen words: w holds those before word t, word j at j % 16.
abbrev pub Ring : List ℕ → List ℕ → ℕ → Type 0
Ring s w t = (length w ≡ 16) × ((j : ℕ) → t ≤ j + 16 → j < t → get_or w (j % 16) 0 ≡ get_or s j 0)

pub ring_first : (m : List ℕ) → length m ≡ 16 → Ring (schedule m 16) m 16
ring_first m lm = (lm, λ j h l. at j l)
  where
    at : (j : ℕ) → j < 16 → get_or m (j % 16) 0 ≡ get_or (schedule m 16) j 0
    at j l =
        let e : j % 16 ≡ j = omega arith in
        rw e (sym (ap (λ (x : List ℕ). get_or x j 0) (schedule-front m 16 lm)) ∙ get_or-take 16 (schedule m 16) j 0 l)

ring_word : (m w : List ℕ) (t v : ℕ) → length m ≡ 16 → 16 ≤ t → t < 32 → Ring (schedule m 16) w t
    → v ≡ σ1 (get_or w ((t + 14) % 16) 0) ⊞ get_or w ((t + 9) % 16) 0 ⊞ σ0 (get_or w ((t + 1) % 16) 0) ⊞ get_or w (t % 16) 0 → v ≡ get_or (schedule m 16) t 0
unfolding W
ring_word m w t v lm h l g e =
    let e2 : (t + 14) % 16 ≡ (t - 2) % 16 = omega arith in
    let a2 = g.1 (t - 2) (omega arith) (omega arith) in
    let e7 : (t + 9) % 16 ≡ (t - 7) % 16 = omega arith in
    let a7 = g.1 (t - 7) (omega arith) (omega arith) in
    let e15 : (t + 1) % 16 ≡ (t - 15) % 16 = omega arith in
    let a15 = g.1 (t - 15) (omega arith) (omega arith) in
    let e16 : t % 16 ≡ (t - 16) % 16 = omega arith in
    let a16 = g.1 (t - 16) (omega arith) (omega arith) in
    e ∙ rw (e2, e7, e15, e16, a2, a7, a15, a16) (sym (schedule-at m 16 t lm h (omega arith)))

ring_set : (s w : List ℕ) (t v : ℕ) → Ring s w t → v ≡ get_or s t 0 → Ring s (set w (t % 16) v) (t + 1)
ring_set s w t v g e = (simp length-set g.0, λ j h l. at j h l)
  where
    bound : (j t : ℕ) → j < t + 1 → j ≤ t
    bound j t l = omega arith

    at : (j : ℕ) → t + 1 ≤ j + 16 → j < t + 1 → get_or (set w (t % 16) v) (j % 16) 0 ≡ get_or s j 0
    at j h l =
        let lw = g.0 in
        ⊎_elim
        (λ q. rw q (get_or-set_same w (t % 16) v 0 (omega arith) ∙ e))
        (λ k. get_or-set_other w (t % 16) (j % 16) v 0 (λ z. omega arith) ∙ g.1 j (omega arith) k)
        (eq-or-lt_of_le (bound j t l))

-- The next word takes the place of the one sixteen before it.
pub overwritten : (m w : List ℕ) (t v : ℕ) → length m ≡ 16 → 16 ≤ t → t < 32 → Ring (schedule m 16) w t
    → v ≡ σ1 (get_or w ((t + 14) % 16) 0) ⊞ get_or w ((t + 9) % 16) 0 ⊞ σ0 (get_or w ((t + 1) % 16) 0) ⊞ get_or w (t % 16) 0
    → Ring (schedule m 16) (set w (t % 16) v) (t + 1)
overwritten m w t v lm h l g e = ring_set (schedule m 16) w t v g (ring_word m w t v lm h l g e)

ring_last : (m w : List ℕ) → length m ≡ 16 → Ring (schedule m 16) w 32 → w ≡ drop 16 (schedule m 16)
ring_last m w lm g = ext_get_or 0 w (drop 16 (schedule m 16)) (length_last m w lm g.0) (λ i l. at i (below i g.0 l))
  where
    below : (i : ℕ) → length w ≡ 16 → i < length w → i < 16
    below i e l = omega arith

    at : (i : ℕ) → i < 16 → get_or w i 0 ≡ get_or (drop 16 (schedule m 16)) i 0
    at i l =
        let e : (16 + i) % 16 ≡ i = omega arith in
        let a = g.1 (16 + i) (omega arith) (omega arith) in
        (rw e at a) ∙ sym (get_or-drop 16 (schedule m 16) i 0)

-- The stage that sixteen rounds and words make.
pub next_made : (t u : Stage) (k w : List ℕ) (r : State) → length t.w ≡ 16 → r ≡ rounds_by t.s t.x 16 → Ring (schedule t.w 16) w 32
    → u ≡ stage r w k → u ≡ next_stage t k
unfolding next_stage
next_made t u k w r lw er g e = e ∙ rw (er, ring_last t.w w lw g)

-- A round more, by its sum.
pub no_round : (s : State) (x : List ℕ) → s ≡ rounds_by s x 0
unfolding rounds_by
no_round s x = refl

pub one-round : (s : State) (x : List ℕ) (n : ℕ) (r q : State) → r ≡ rounds_by s x n → q ≡ round r (get_or x n 0) 0 → q ≡ rounds_by s x (suc n)
unfolding rounds_by
one-round s x n r q e f = f ∙ rw e

-- A round by the sum is the round by its constant and its word.
sum_first : (x k w : ℕ) → (x ⊞ (k ⊞ w)) ⊞ 0 ≡ (x ⊞ k) ⊞ w
unfolding ◌⊞◌
sum_first x k w = omega arith

round-sum : (s : State) (k w : ℕ) → round s (k ⊞ w) 0 ≡ round s k w
unfolding round T1
round-sum s k w = rw sum_first

pub sums_at : (k w : List ℕ) (t : ℕ) → t < length k → t < length w → get_or (sums k w) t 0 ≡ get_or k t 0 ⊞ get_or w t 0
unfolding sums
sums_at [] w t h l = absurd (omega arith)
sums_at (x ∷ k) [] t h l = absurd (omega arith)
sums_at (x ∷ k) (y ∷ w) zero h l = refl
sums_at (x ∷ k) (y ∷ w) (suc t) h l = sums_at k w t (omega arith) (omega arith)

length-sums : (k w : List ℕ) → length k ≡ length w → length (sums k w) ≡ length w
unfolding sums
length-sums [] w h = h
length-sums (x ∷ k) [] h = refl
length-sums (x ∷ k) (y ∷ w) h = let ih = length-sums k w (omega arith) in omega arith

-- One sum more, and all sums.
pub sums-step : (k w x : List ℕ) (t : ℕ) → length k ≡ 16 → length w ≡ 16 → length x ≡ 16 → t < 16 → take t x ≡ take t (sums k w)
    → take (t + 1) (set x t (get_or k t 0 ⊞ get_or w t 0)) ≡ take (t + 1) (sums k w)
sums-step k w x t lk lw lx h e =
    let ls = length-sums k w (omega arith) in
    let a = sums_at k w t (omega arith) (omega arith) in
    let b = take-suc (sums k w) t 0 (omega arith) in
    let g = grow x t (get_or k t 0 ⊞ get_or w t 0) (omega arith) in
    g ∙ rw add-one (ap₂ (λ (u : List ℕ) (v : ℕ). u ++ v ∷ []) e (sym a) ∙ sym b)

pub sums-done : (k w x : List ℕ) (t : ℕ) → length k ≡ 16 → length w ≡ 16 → length x ≡ 16 → t ≡ 16 → take t x ≡ take t (sums k w) → x ≡ sums k w
sums-done k w x t lk lw lx et e =
    let ls = length-sums k w (omega arith) in
    let f : take 16 x ≡ take 16 (sums k w) = rw et at e in
    sym (take_all 16 x (omega arith)) ∙ f ∙ take_all 16 (sums k w) (omega arith)

pub rounds_by_lem : (s r : State) (w x : List ℕ) (q n : ℕ) → r ≡ rounds s w q → ((j : ℕ) → j < n → get_or x j 0 ≡ get_or K (q + j) 0 ⊞ get_or w (q + j) 0)
    → rounds_by r x n ≡ rounds s w (q + n)
unfolding rounds rounds_by
rounds_by_lem s r w x q zero e h = e ∙ rw add-zero
rounds_by_lem s r w x q (suc n) e h =
    let ih = rounds_by_lem s r w x q n e (λ j l. h j (omega arith)) in
    rw (ih, h n (omega arith), add-suc q n, round-sum)

pub long-K : length K ≡ 64
unfolding K
long-K = refl

-- The stage after q rounds.
abbrev pub After : State → List ℕ → ℕ → Stage → Type 0
After s m q t = t ≡ stage (rounds s (schedule m 48) q) (window (schedule m 48) q) (window K q)

pub after_none : (s : State) (m k : List ℕ) (t : Stage) → length m ≡ 16 → k ≡ window K 0 → t ≡ stage s m k → After s m 0 t
unfolding rounds window
after_none s m k t lm ek et = let f = schedule-front m 48 lm in et ∙ rw (ek, f)

sixteen : (s : State) (m : List ℕ) (q : ℕ) → length m ≡ 16 → q + 16 ≤ 64
    → rounds_by (rounds s (schedule m 48) q) (sums (window K q) (window (schedule m 48) q)) 16 ≡ rounds s (schedule m 48) (q + 16)
sixteen s m q lm h =
    let lk = long-K in
    let lw = long-schedule m lm in
    let a = window_length K q (omega arith) in
    let b = window_length (schedule m 48) q (omega arith) in
    rounds_by_lem s (rounds s (schedule m 48) q) (schedule m 48) (sums (window K q) (window (schedule m 48) q)) q 16 refl
    (λ j l. sums_at (window K q) (window (schedule m 48) q) j (omega arith) (omega arith) ∙ ap₂ ◌⊞◌ (window_at K q j l) (window_at (schedule m 48) q j l))

pub after_more : (s : State) (m k : List ℕ) (q : ℕ) (t u : Stage) → length m ≡ 16 → q + 32 ≤ 64 → k ≡ window K (q + 16) → After s m q t → u ≡ next_stage t k
    → After s m (q + 16) u
unfolding next_stage stage
after_more s m k q t u lm h ek et eu = eu ∙ rw (et, ek, sixteen s m q lm (omega arith), window_next m q lm h)

pub after-all : (s r : State) (m : List ℕ) (t : Stage) → length m ≡ 16 → After s m 48 t → r ≡ rounds_by t.s t.x 16 → plus r s ≡ compress s m
unfolding compress stage
after-all s r m t lm et er = rw (er, et, sixteen s m 48 lm (omega arith))
