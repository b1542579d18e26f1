-- Bytes that stand in an input between two places: the common ground of readers, which take an input and a place, and of writers, which make a string.
use mathlib.Core.Path.{◌≡◌, refl, sym, ap, ◌∙◌}
use mathlib.Core.List.{List, [], ◌++◌, append_assoc, append-nil}
use Prim.Native.Nat.{ℕ, ◌+◌, ◌-◌, ◌≤◌, ◌<◌}
use lib.ListN.{length, get_or, take, drop, length-append, length-drop, take-append-drop, drop_of_length-le, get_or-append}
use lib.Seq.{length-take-le, drop-length, drop-append_seam, take-append_seam, get_or-drop, drop-drop}
use native.Mathlib.Omega.{arith}
use native.Mathlib.Nat.{add-zero, zero-add}

-- the bytes bs stand in s from at on, and q is the place after them
pub record Stands (s : List ℕ) (at : ℕ) (bs : List ℕ) (q : ℕ) : Type 0 where
  pub cut : drop at s ≡ bs ++ drop q s
  pub next : at + length bs ≡ q

pub stands-none : (s : List ℕ) (at : ℕ) → Stands s at [] at
stands-none s at = record { cut = refl; next = add-zero at }

pub stands-join : {s bs cs : List ℕ} {at q r : ℕ} → Stands s at bs q → Stands s q cs r → Stands s at (bs ++ cs) r
stands-join {s} {bs} {cs} {at} {q} {r} a b =
    record { cut = a.cut ∙ ap (λ (l : List ℕ). bs ++ l) b.cut ∙ sym (append_assoc bs cs (drop r s)); next = let e = a.next in let f = b.next in omega (arith, length-append bs cs) }

pub stands-split : {s : List ℕ} (bs cs : List ℕ) {at r : ℕ} → Stands s at (bs ++ cs) r → Stands s at bs (at + length bs) × Stands s (at + length bs) cs r
stands-split {s} bs cs {at} {r} a =
    let whole : drop at s ≡ bs ++ (cs ++ drop r s) = a.cut ∙ append_assoc bs cs (drop r s) in
    let rest : drop (at + length bs) s ≡ cs ++ drop r s = sym (drop-drop (length bs) at s) ∙ ap (drop (length bs)) whole ∙ drop-append_seam bs (cs ++ drop r s) in
    (record { cut = whole ∙ ap (λ (l : List ℕ). bs ++ l) (sym rest); next = refl }, record { cut = rest; next = let e = a.next in omega (arith, length-append bs cs) })

pub stands-fits : {s bs : List ℕ} {at q : ℕ} → Stands s at bs q → 0 < length bs → q ≤ length s
stands-fits {s} {bs} {at} {q} a h =
    let e : length s - at ≡ length bs + (length s - q) = sym (length-drop at s) ∙ ap length a.cut ∙ length-append bs (drop q s) ∙ ap (λ (n : ℕ). length bs + n) (length-drop q s) in
    let f = a.next in
    omega arith

pub stands_get : {s bs : List ℕ} {at q : ℕ} → Stands s at bs q → (i : ℕ) → i < length bs → get_or s (at + i) 0 ≡ get_or bs i 0
stands_get {s} {bs} {at} {q} a i h = sym (get_or-drop at s i 0) ∙ ap (λ (l : List ℕ). get_or l i 0) a.cut ∙ get_or-append bs (drop q s) 0 i h

pub stands-take : {s bs : List ℕ} {at q : ℕ} → Stands s at bs q → take (length bs) (drop at s) ≡ bs
stands-take {s} {bs} {at} {q} a = ap (take (length bs)) a.cut ∙ take-append_seam bs (drop q s)

-- n bytes from a place stand there
pub stands_here : (s : List ℕ) (at n : ℕ) → at + n ≤ length s → Stands s at (take n (drop at s)) (at + n)
stands_here s at n h =
    record {
      cut = sym (take-append-drop n (drop at s)) ∙ ap (λ (l : List ℕ). take n (drop at s) ++ l) (drop-drop n at s);
      next = ap (λ (k : ℕ). at + k) (length-take-le n (drop at s) (let e = length-drop at s in omega arith));
    }

-- a whole input
pub stands_self : (s : List ℕ) → Stands s 0 s (length s)
stands_self s = record { cut = sym (append-nil s) ∙ ap (λ (l : List ℕ). s ++ l) (sym (drop-length s)); next = zero-add (length s) }

pub stands-all : {s bs : List ℕ} {q : ℕ} → Stands s 0 bs q → length s ≤ q → s ≡ bs
stands-all {s} {bs} {q} a h = a.cut ∙ ap (λ (l : List ℕ). bs ++ l) (drop_of_length-le s h) ∙ append-nil bs
