-- Laws of what the code counts and writes of a level.
use mathlib.Core.Path.{◌≡◌, refl, sym, ap, ◌∙◌}
use mathlib.Core.Bool.{Bool, true, false}
use mathlib.Core.List.{List, [], ◌∷◌, ◌++◌}
use Prim.Native.Nat.{ℕ, zero, suc, ◌+◌, ◌-◌, ◌%◌, ◌≤◌, ◌<◌}
use lib.ListN.{length, length-append}
use lib.Dec.{eqb}
use native.Mathlib.Omega.{arith}
use native.Mathlib.Nat.{sub-zero, add-zero}
use borrow.Author.Tests.{eqb-true, eqb-false, lt-ltb, le-ltb}
use Rattle.spv.specs.Climb.{sibling_position}
use Rattle.spv.proofs.ClimbLaws.{sibling-odd, sibling-even}
use Rattle.block.specs.declared.level.Asked.{Asked}
use Rattle.block.specs.declared.level.Asked.TheVariants.{Plain, Copy, Client}
use Rattle.std.specs.Prelude.{Option, Some, None}
use Rattle.format.proofs.Basics.{one_less}
use Rattle.encoding.specs.Digits.{varint_bytes}
use Rattle.encoding.proofs.VarintEncoding.{varint-length}
use Rattle.encoding.specs.Buffer.{Buffer, put_on, write_on}
use Rattle.encoding.proofs.BufferLaws.{write_then, write-none, write-one, write_cons, wrote_then}
use Rattle.block.specs.Heap.{node_in}
use Rattle.block.proofs.HeapLaws.{node-length}
use Rattle.block.specs.Marks.{marked}
use Rattle.block.specs.Leaves.{passed_at, form_at, leaf_bytes, leaf_text, bytes_at, text_at, sum_from, text_from, level_leaves, level_size, leaves_text, level_text}

-- ---- for the functions' proofs

-- a number, a byte and a text, one after the other
pub wrote_hashed : (p : Buffer) (o b : ℕ) {hash node : List ℕ} {q r t : Buffer} → hash ≡ node → q ≡ write_on p (varint_bytes o) → r ≡ put_on q b → t ≡ write_on r hash → t ≡ write_on p (varint_bytes o ++ (b ∷ node))
wrote_hashed p o b {hash} i e f g = wrote_then p (varint_bytes o) (b ∷ hash) e (write_cons _ b hash f g) ∙ ap (λ (x : List ℕ). write_on p (varint_bytes o ++ (b ∷ x))) i

-- a leaf's text, by what is asked for
module _ (list heap : List ℕ) (base : Bool) (width o : ℕ) (p : Buffer) {a : Asked} where
  pub text-plain : a ≡ Plain → {t : Buffer} → t ≡ write_on p (varint_bytes o ++ (0 ∷ node_in list heap base width o)) → t ≡ write_on p (leaf_text list heap base width o a)
  unfolding leaf_text
  text-plain i e = rw i e

  pub text-client : a ≡ Client → {t : Buffer} → t ≡ write_on p (varint_bytes o ++ (2 ∷ node_in list heap base width o)) → t ≡ write_on p (leaf_text list heap base width o a)
  unfolding leaf_text
  text-client i e = rw i e

  pub text-copy : a ≡ Copy → {q r : Buffer} → q ≡ write_on p (varint_bytes o) → r ≡ put_on q 1 → r ≡ write_on p (leaf_text list heap base width o a)
  unfolding leaf_text
  text-copy i {q} e f = rw i (wrote_then p (varint_bytes o) (1 ∷ []) e (f ∙ sym (write-one q 1)))

pub passed-client : {base : Bool} → base ≡ true → Some Client ≡ passed_at base
unfolding passed_at
passed-client e = rw e

pub passed_over : {base : Bool} → base ≡ false → None ≡ passed_at base
unfolding passed_at
passed_over e = rw e

module _ (marks : List ℕ) (base : Bool) (width count o : ℕ) where
  pub form_passed : marked marks (width + o) ≡ true → passed_at base ≡ form_at marks base width count o
  unfolding form_at
  form_passed e = rw e

  module _ (e : marked marks (width + o) ≡ false) where
    pub form_nothing : marked marks (width + sibling_position o) ≡ false → None ≡ form_at marks base width count o
    unfolding form_at
    form_nothing f = rw (e, f)

    pub form_plain : marked marks (width + sibling_position o) ≡ true → o < count → Some Plain ≡ form_at marks base width count o
    unfolding form_at
    form_plain f h = rw (e, f, lt-ltb o count h)

    pub form_copy : marked marks (width + sibling_position o) ≡ true → count ≤ o → Some Copy ≡ form_at marks base width count o
    unfolding form_at
    form_copy f h = rw (e, f, le-ltb o count h)

module _ (g : ℕ → List ℕ) (w : ℕ) where
  pub text-start : (p : Buffer) → write_on p (text_from g 0 w) ≡ write_on p (text_from g 0 (w - 0))
  text-start p = rw (sub-zero w)

  pub text_on : (p : Buffer) (o : ℕ) {q : Buffer} → o < w → q ≡ write_on p (g o) → write_on p (text_from g o (w - o)) ≡ write_on q (text_from g (o + 1) (w - (o + 1)))
  unfolding text_from
  text_on p o h e = rw (one_less w o h) (write_then p (g o) (text_from g (o + 1) (w - (o + 1))) ∙ ap (λ (x : Buffer). write_on x (text_from g (o + 1) (w - (o + 1)))) (sym e))

  -- nothing stands there
  pub text_over : (p : Buffer) (o : ℕ) → o < w → [] ≡ g o → write_on p (text_from g o (w - o)) ≡ write_on p (text_from g (o + 1) (w - (o + 1)))
  text_over p o h e = text_on p o h (sym (write-none p) ∙ ap (write_on p) e)

  pub text-end : (p : Buffer) (o : ℕ) → w ≤ o → write_on p (text_from g o (w - o)) ≡ p
  unfolding text_from
  text-end p o h = let f : w - o ≡ 0 = omega arith in rw f (write-none p)

module _ (g : ℕ → ℕ) (w : ℕ) where
  pub sum-start : 0 + sum_from g 0 (w - 0) ≡ sum_from g 0 w
  sum-start = rw (sub-zero w) (omega arith)

  pub sum_on : (a o x : ℕ) → o < w → x ≡ g o → a + x + sum_from g (o + 1) (w - (o + 1)) ≡ a + sum_from g o (w - o)
  unfolding sum_from
  sum_on a o x h e = rw (one_less w o h, e) (omega arith)

  -- nothing stands there
  pub sum_over : (a o : ℕ) → o < w → 0 ≡ g o → a + sum_from g (o + 1) (w - (o + 1)) ≡ a + sum_from g o (w - o)
  sum_over a o h e = let s = sum_on a o 0 h e in omega arith

  pub sum-end : (a o : ℕ) → w ≤ o → a + sum_from g o (w - o) ≡ sum_from g 0 w → a ≡ sum_from g 0 w
  unfolding sum_from
  sum-end a o h e = let f : w - o ≡ 0 = omega arith in sym (add-zero a) ∙ (rw f at e)

pub bytes-few : (o : ℕ) (a : Asked) → leaf_bytes o a ≤ 42
unfolding leaf_bytes
bytes-few o Plain = omega (arith, varint-length o)
bytes-few o Copy = omega (arith, varint-length o)
bytes-few o Client = omega (arith, varint-length o)

pub sibling-told : (marks : List ℕ) (width o : ℕ) {b : ℕ} {r t : Bool} → b ≡ sibling_position o → r ≡ marked marks (width + b) → r ≡ t → marked marks (width + sibling_position o) ≡ t
sibling-told marks width o e f g = ap (λ (x : ℕ). marked marks (width + x)) (sym e) ∙ sym f ∙ g

-- a place beside one of a level lies in it
pub sibling_in : (width o : ℕ) → width % 2 ≡ 0 → o < width → sibling_position o < width
sibling_in width o even h = go (eqb (o % 2) 1) refl
  where
    go : (t : Bool) → eqb (o % 2) 1 ≡ t → sibling_position o < width
    go true e = rw (sibling-odd o (eqb-true (o % 2) 1 e)) (omega arith)
    go false e = rw (sibling-even o (eqb-false (o % 2) 1 e)) (let q = eqb-false (o % 2) 1 e in omega arith)

pub wrote_level : (list heap marks : List ℕ) (base : Bool) (width count : ℕ) (p : Buffer) {n : ℕ} {q r : Buffer}
    → n ≡ level_leaves marks base width count → q ≡ write_on p (varint_bytes n)
    → r ≡ write_on q (leaves_text list heap marks base width count) → r ≡ write_on p (level_text list heap marks base width count)
unfolding level_text
wrote_level list heap marks base width count p e f g = wrote_then p _ _ (f ∙ ap (λ (m : ℕ). write_on p (varint_bytes m)) e) g

-- the bytes counted are those of the text
leaf-size : (list heap : List ℕ) (base : Bool) (width o : ℕ) (a : Asked) → leaf_bytes o a ≡ length (leaf_text list heap base width o a)
unfolding leaf_bytes leaf_text
leaf-size list heap base width o Plain = let n = node-length list heap base width o in let e = length-append (varint_bytes o) (0 ∷ node_in list heap base width o) in omega arith
leaf-size list heap base width o Copy = let e = length-append (varint_bytes o) (1 ∷ []) in omega arith
leaf-size list heap base width o Client = let n = node-length list heap base width o in let e = length-append (varint_bytes o) (2 ∷ node_in list heap base width o) in omega arith

size-at : (list heap : List ℕ) (base : Bool) (width o : ℕ) (a : Option Asked) → bytes_at o a ≡ length (text_at list heap base width o a)
unfolding bytes_at text_at
size-at list heap base width o None = refl
size-at list heap base width o (Some a) = leaf-size list heap base width o a

sum_lengths : (g : ℕ → ℕ) (t : ℕ → List ℕ) (n o : ℕ) → ((x : ℕ) → g x ≡ length (t x)) → sum_from g o n ≡ length (text_from t o n)
unfolding sum_from text_from
sum_lengths g t zero o e = refl
sum_lengths g t (suc n) o e = let a = length-append (t o) (text_from t (o + 1) n) in let b = e o in let r = sum_lengths g t n (o + 1) e in omega arith

pub level-size : (list heap marks : List ℕ) (base : Bool) (width count : ℕ)
    → length (varint_bytes (level_leaves marks base width count)) + level_size marks base width count ≡ length (level_text list heap marks base width count)
unfolding level_text level_size leaves_text
level-size list heap marks base width count =
    let t : List ℕ = leaves_text list heap marks base width count in
    let a = length-append (varint_bytes (level_leaves marks base width count)) t in
    let b = sum_lengths (λ o. bytes_at o (form_at marks base width count o)) (λ o. text_at list heap base width o (form_at marks base width count o)) width 0
    (λ x. size-at list heap base width x (form_at marks base width count x)) in
    omega arith
