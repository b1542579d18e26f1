-- Laws of filling the lent memory: an entry more, and the whole list.
use mathlib.Core.Path.{◌≡◌, refl, ap, sym, ◌∙◌}
use mathlib.Core.List.{List, [], ◌∷◌, ◌++◌, append_assoc}
use mathlib.Core.Bool.{Bool, true, false}
use Prim.Native.Nat.{ℕ, suc, ◌+◌, ◌*◌, ◌/◌, ◌<◌, ◌≤◌, min}
use lib.ListN.{length, set, drop, length-append}
use lib.Seq.{set_at}
use lib.Dec.{leb}
use native.Mathlib.Omega.{arith}
use borrow.Author.Tests.{le-leb, lt-leb, leb-true, leb-false}
use Rattle.difference.specs.Differences.{first, second, both, Difference, block, height, Told, alike, differ, tell, unless}
use Rattle.difference.specs.Listing.{side_word, what_of, level_of, offset_of, words_of}
use Rattle.difference.specs.Filling.{Filling, filling, store, put_on, put_all, told_of, put_place, put_unless}

module _ (write : Bool) (w : List ℕ) (n what level offset : ℕ) where
  pub put_full : length w / 3 ≤ n → put_on write (filling w n) what level offset ≡ filling w (length w / 3 + 1)
  unfolding put_on
  put_full h = rw (le-leb (length w / 3) n h)

  pub put-counted : n < length w / 3 → write ≡ false → put_on write (filling w n) what level offset ≡ filling w (n + 1)
  unfolding put_on
  put-counted h e = rw (lt-leb (length w / 3) n h, e)

  pub put_written : n < length w / 3 → write ≡ true → put_on write (filling w n) what level offset ≡ filling (store w n what level offset) (n + 1)
  unfolding put_on
  put_written h e = rw (lt-leb (length w / 3) n h, e)

-- a place's difference, if it has one, and those after it
pub all_told : (write : Bool) (p : Filling) (k o : ℕ) (t : Told) (l : List Difference) → put_all write p (tell k o t l) ≡ put_all write (put_place write p (told_of t) k o) l
unfolding put_all tell side_word what_of level_of offset_of
all_told write p k o alike l = refl
all_told write p k o (differ first) l = refl
all_told write p k o (differ second) l = refl
all_told write p k o (differ both) l = refl

pub all-block : (write : Bool) (p : Filling) (same : Bool) (l : List Difference) → put_all write p (unless same block ++ l) ≡ put_all write (put_unless same write p 1) l
unfolding put_all unless what_of level_of offset_of
all-block write p true l = refl
all-block write p false l = refl

pub all-height : (write : Bool) (p : Filling) (same : Bool) (l : List Difference) → put_all write p (unless same height ++ l) ≡ put_all write (put_unless same write p 2) l
unfolding put_all unless what_of level_of offset_of
all-height write p true l = refl
all-height write p false l = refl

pub all_append : (write : Bool) (p : Filling) (l m : List Difference) → put_all write p (l ++ m) ≡ put_all write (put_all write p l) m
unfolding put_all
all_append write p [] m = refl
all_append write p (d ∷ l) m = all_append write (put_on write p (what_of d) (level_of d) (offset_of d)) l m

filling-same : {v w : List ℕ} {m n : ℕ} → v ≡ w → m ≡ n → filling v m ≡ filling w n
filling-same e f = rw (e, f)

-- past the room
over : (write : Bool) (w : List ℕ) (n : ℕ) (l : List Difference) → length w / 3 + 1 ≡ n → put_all write (filling w n) l ≡ filling w n
unfolding put_all
over write w n [] h = refl
over write w n (d ∷ l) h =
    ap (λ (p : Filling). put_all write p l) (put_full write w n (what_of d) (level_of d) (offset_of d) (omega arith) ∙ ap (filling w) h) ∙ over write w n l h

-- only counted: the memory stays, and the count is right up to one past the room
pub counted : (w : List ℕ) (n : ℕ) (l : List Difference) → n ≤ length w / 3 → put_all false (filling w n) l ≡ filling w (min (n + length l) (length w / 3 + 1))
unfolding put_all
counted w n [] h = ap (filling w) (omega arith)
counted w n (d ∷ l) h = go (leb (length w / 3) n) refl (λ g. counted w (n + 1) l g)
  where
    go : (b : Bool) → leb (length w / 3) n ≡ b → (n + 1 ≤ length w / 3 → put_all false (filling w (n + 1)) l ≡ filling w (min (n + 1 + length l) (length w / 3 + 1)))
        → put_all false (put_on false (filling w n) (what_of d) (level_of d) (offset_of d)) l ≡ filling w (min (n + suc (length l)) (length w / 3 + 1))
    go true e r =
        let f = leb-true (length w / 3) n e in
        ap (λ (p : Filling). put_all false p l) (put_full false w n (what_of d) (level_of d) (offset_of d) f)
        ∙ over false w (length w / 3 + 1) l refl
        ∙ ap (filling w) (omega arith)
    go false e r =
        let f = leb-false (length w / 3) n e in
        ap (λ (p : Filling). put_all false p l) (put-counted false w n (what_of d) (level_of d) (offset_of d) f refl)
        ∙ r (omega arith)
        ∙ ap (filling w) (omega arith)

-- an entry stored behind those that are there
stored : (x : List ℕ) (a b c : ℕ) (o : List ℕ) (n what level offset : ℕ) → length x ≡ 3 * n
    → store (x ++ (a ∷ b ∷ c ∷ o)) n what level offset ≡ x ++ (what ∷ level ∷ offset ∷ o)
unfolding store
stored x a b c o n what level offset h =
    let e = set_at x a (b ∷ c ∷ o) what (n * 3) (omega (arith, h)) in
    let f = set_at (x ++ (what ∷ [])) b (c ∷ o) level (n * 3 + 1) (omega (arith, h, length-append x (what ∷ []))) in
    let g = set_at (x ++ (what ∷ level ∷ [])) c o offset (n * 3 + 2) (omega (arith, h, length-append x (what ∷ level ∷ []))) in
    ap (λ (v : List ℕ). set (set v (n * 3 + 1) level) (n * 3 + 2) offset) (e ∙ sym (append_assoc x (what ∷ []) (b ∷ c ∷ o)))
    ∙ ap (λ (v : List ℕ). set v (n * 3 + 2) offset) (f ∙ append_assoc x (what ∷ []) (level ∷ c ∷ o) ∙ sym (append_assoc x (what ∷ level ∷ []) (c ∷ o)))
    ∙ g
    ∙ append_assoc x (what ∷ level ∷ []) (offset ∷ o)

-- written: the words of the list, and what was there behind them
written_after : (x o : List ℕ) (n : ℕ) (l : List Difference) → length x ≡ 3 * n → 3 * length l ≤ length o
    → put_all true (filling (x ++ o) n) l ≡ filling (x ++ (words_of l ++ drop (3 * length l) o)) (n + length l)
unfolding put_all words_of
written_after x o n [] h g = filling-same refl (omega arith)
written_after x [] n (d ∷ l) h g = absurd (omega arith)
written_after x (a ∷ []) n (d ∷ l) h g = absurd (omega arith)
written_after x (a ∷ b ∷ []) n (d ∷ l) h g = absurd (omega arith)
written_after x (a ∷ b ∷ c ∷ o) n (d ∷ l) h g =
    let v : List ℕ = what_of d ∷ level_of d ∷ offset_of d ∷ [] in
    let i : n < length (x ++ (a ∷ b ∷ c ∷ o)) / 3 = omega (arith, h, length-append x (a ∷ b ∷ c ∷ o)) in
    let j : 3 * suc (length l) ≡ suc (suc (suc (3 * length l))) = omega arith in
    ap (λ (p : Filling). put_all true p l)
    (put_written true (x ++ (a ∷ b ∷ c ∷ o)) n (what_of d) (level_of d) (offset_of d) i refl
    ∙ filling-same (stored x a b c o n (what_of d) (level_of d) (offset_of d) h ∙ sym (append_assoc x v o)) refl)
    ∙ written_after (x ++ v) o (n + 1) l (omega (arith, h, length-append x v)) (omega arith)
    ∙ filling-same (append_assoc x v (words_of l ++ drop (3 * length l) o) ∙ ap (λ (m : ℕ). x ++ (what_of d ∷ level_of d ∷ offset_of d ∷ (words_of l ++ drop m (a ∷ b ∷ c ∷ o)))) (sym j)) (omega arith)

pub written : (w : List ℕ) (l : List Difference) → length l ≤ length w / 3 → put_all true (filling w 0) l ≡ filling (words_of l ++ drop (3 * length l) w) (length l)
written w l h = written_after [] w 0 l refl (omega arith) ∙ filling-same refl (omega arith)
