-- Laws of writing to lent memory.
use mathlib.Core.Path.{◌≡◌, refl, sym, ap, ◌∙◌}
use mathlib.Core.List.{List, [], ◌∷◌, ◌++◌}
use Prim.Native.Nat.{ℕ, suc, ◌+◌, ◌<◌, ◌≤◌, min}
use lib.ListN.{length, set, drop, get_or, length-append, drop_of_length-le}
use lib.Seq.{drop-cons, set-append_seam, append_snoc, take-nil}
use native.Mathlib.Omega.{arith}
use native.Mathlib.Numerals.{add-one}
use borrow.Author.Tests.{le-ltb, lt-ltb}
use Rattle.encoding.specs.Buffer.{Buffer, buffer, put_on, write_on, filled}

pub put_stored : (o : List ℕ) (at b : ℕ) → at < length o → put_on (buffer o at) b ≡ buffer (set o at b) (at + 1)
unfolding put_on
put_stored o at b h = rw (lt-ltb at (length o) h)

pub put_dropped : (o : List ℕ) (at b : ℕ) → length o ≤ at → put_on (buffer o at) b ≡ buffer o at
unfolding put_on
put_dropped o at b h = rw (le-ltb at (length o) h)

pub write-none : (p : Buffer) → write_on p [] ≡ p
unfolding write_on
write-none p = refl

pub write-one : (p : Buffer) (b : ℕ) → write_on p (b ∷ []) ≡ put_on p b
unfolding write_on
write-one p b = refl

pub write_then : (p : Buffer) (a b : List ℕ) → write_on p (a ++ b) ≡ write_on (write_on p a) b
unfolding write_on
write_then p [] b = refl
write_then p (x ∷ a) b = write_then (put_on p x) a b

-- what was written after what was written
pub wrote_then : (p : Buffer) (a b : List ℕ) {q r : Buffer} → q ≡ write_on p a → r ≡ write_on q b → r ≡ write_on p (a ++ b)
wrote_then p a b e f = f ∙ ap (λ (x : Buffer). write_on x b) e ∙ sym (write_then p a b)

-- one byte more of a text that is written from its index i on
pub write_on_lem : (p : Buffer) (text : List ℕ) (i : ℕ) {q : Buffer} → i < length text → q ≡ put_on p (get_or text i 0) → write_on p (drop i text) ≡ write_on q (drop (i + 1) text)
unfolding write_on
write_on_lem p text i h e = rw (add-one, drop-cons text i 0) (ap (λ (x : Buffer). write_on x (drop (suc i) text)) (sym e))

pub write-end : (p : Buffer) (text : List ℕ) (i : ℕ) → length text ≤ i → write_on p (drop i text) ≡ p
unfolding write_on
write-end p text i h = rw (drop_of_length-le text h)

buffer-same : {r r' : List ℕ} {a a' : ℕ} → r ≡ r' → a ≡ a' → buffer r a ≡ buffer r' a'
buffer-same e f = rw (e, f)

write_full : (o : List ℕ) (at : ℕ) (text : List ℕ) → length o ≤ at → write_on (buffer o at) text ≡ buffer o at
unfolding write_on
write_full o at [] h = refl
write_full o at (b ∷ text) h = rw (put_dropped o at b h) (write_full o at text h)

-- a text written after x, where o is left
write-after : (x o text : List ℕ) → write_on (buffer (x ++ o) (length x)) text ≡ buffer (x ++ filled o text) (length x + min (length o) (length text))
unfolding write_on
write-after x o [] = buffer-same (rw (take-nil (length o))) (omega arith)
write-after x [] (b ∷ text) = write_full (x ++ []) (length x) (b ∷ text) (omega (arith, length-append x [])) ∙ buffer-same refl (omega arith)
write-after x (y ∷ o) (b ∷ text) =
    let here : length x < length (x ++ (y ∷ o)) = omega (arith, length-append x (y ∷ o)) in
    let on : buffer (set (x ++ (y ∷ o)) (length x) b) (length x + 1) ≡ buffer (x ++ (b ∷ []) ++ o) (length (x ++ (b ∷ []))) =
    buffer-same (set-append_seam x y o b ∙ sym (append_snoc x b o)) (sym (length-append x (b ∷ []))) in
    ap (λ (p : Buffer). write_on p text) (put_stored (x ++ (y ∷ o)) (length x) b here ∙ on)
    ∙ write-after (x ++ (b ∷ [])) o text
    ∙ buffer-same (append_snoc x b (filled o text)) (omega (arith, length-append x (b ∷ [])))

-- a text written from the start
pub write-whole : (o text : List ℕ) → write_on (buffer o 0) text ≡ buffer (filled o text) (min (length o) (length text))
write-whole o text = write-after [] o text ∙ buffer-same refl (omega arith)

-- a byte, then more
pub write_cons : (p : Buffer) (b : ℕ) (text : List ℕ) {q r : Buffer} → q ≡ put_on p b → r ≡ write_on q text → r ≡ write_on p (b ∷ text)
unfolding write_on
write_cons p b text e f = f ∙ ap (λ (x : Buffer). write_on x text) e

-- a text that is known to be a byte, and a byte and more
pub wrote_byte : (p : Buffer) (b : ℕ) {text : List ℕ} {q : Buffer} → text ≡ b ∷ [] → q ≡ put_on p b → q ≡ write_on p text
unfolding write_on
wrote_byte p b e f = rw e f

pub wrote_cons : (p : Buffer) (b : ℕ) (more : List ℕ) {text : List ℕ} {q r : Buffer} → text ≡ b ∷ more → q ≡ put_on p b → r ≡ write_on q more → r ≡ write_on p text
wrote_cons p b more e f g = rw e (write_cons p b more f g)
