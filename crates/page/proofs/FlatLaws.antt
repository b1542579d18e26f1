-- Laws of the flat form: rows that were proved, what is noted of them, and that the answers of all ids give the page.
use Prim.Native.Nat.{ℕ, ◌+◌, ◌*◌, ◌/◌, ◌%◌, ◌≤◌, ◌<◌}
use native.Mathlib.Nat.{mod-eq_of_lt}
use mathlib.Core.Path.{◌≡◌, refl, sym, ap, ◌∙◌}
use mathlib.Core.Bool.{Bool, true, false}
use mathlib.Core.List.{List}
use native.Mathlib.Omega.{arith}
use lib.Dec.{eqb, ltb}
use Rattle.std.specs.Prelude.{Result as Reply, Ok, Err, IfOk}
use lib.ListN.{length, get_or, set, take, replicate}
use lib.Seq.{get_or-set_same, get_or-set_other, take-length}
use borrow.Author.Count.{below_more}
use borrow.Author.Tests.{lt-ltb, le-ltb, ltb-true}
use Rattle.path.specs.declared.path.Path.{Path}
use Rattle.format.specs.Parse.{Parse, ok, fault, pick}
use Rattle.format.specs.Bump.{Bump}
use Rattle.path.specs.Path.{bump_path_of, bump_path}
use Rattle.format.specs.Bytes.{set_hash, hash_at}
use Rattle.format.proofs.BytesLaws.{set-inside, hash-there, hash-at-length}
use Rattle.spv.specs.Prove.{prove}
use Rattle.spv.specs.Readings.{path_reading}
use Rattle.spv.specs.Shapes.{accepted_of, proved_of}
use Rattle.spv.proofs.Stored.{stored_here, stored_other}
use Rattle.climbs.specs.Proofs.{proved_at}
use Rattle.climbs.specs.Row.{refusal_of}
use Rattle.spv.specs.Rows.{rows}
use Rattle.spv.proofs.RowsLaws.{rows_same}
use Rattle.spv.specs.declared.rejection.Rejection.{Rejection}
use Rattle.spv.specs.declared.prove.Proved.{Proved}
use Rattle.page.specs.declared.Answer.{Answer}
use Rattle.page.specs.Page.{MAX_PAGE, blank_answer, answer_of, bump_for, page, paged_of, row_of}
use Rattle.page.proofs.PageLaws.{page-few, opening_row, opening_paged}
use Rattle.page.specs.Opening.{opening_of, paged_under, answer_at, count_of}
use Rattle.page.specs.Flat.{flat_at, flat_answer, Copied, Noted, Levelled, asked, AllRight}

-- ---- rows that were proved

pub copied_none : (ids roots : List ℕ) → Copied ids 0 roots
unfolding Copied
copied_none ids roots r l = absurd (omega arith)

pub copied_on : (ids roots : List ℕ) (row : ℕ) → row < MAX_PAGE → 8192 ≤ length roots → length (hash_at ids (32 * row)) ≡ 32 → Copied ids row roots → Copied ids (row + 1) (set_hash roots row (hash_at ids (32 * row)))
unfolding Copied
copied_on ids roots row low wide whole v =
    let e : set_hash roots row (hash_at ids (32 * row)) ≡ _ = set-inside roots row (hash_at ids (32 * row)) (omega arith) in
    below_more (λ r. hash_at (set_hash roots row (hash_at ids (32 * row))) (32 * r) ≡ hash_at ids (32 * r)) row
    (λ r l. rw e (stored_other roots (hash_at ids (32 * row)) row whole (omega arith) r (λ z. omega arith)) ∙ v r l)
    (rw e (stored_here roots (hash_at ids (32 * row)) row whole (omega arith)))

pub copied_all : (ids : List ℕ) (n row : ℕ) (roots : List ℕ) → n ≤ row → Copied ids row roots → Copied ids n roots
unfolding Copied
copied_all ids n row roots b v r l = v r (omega arith)

-- ---- what is noted of them

module _ (states : List ℕ) where
  pub noted_on : (numbers now : List ℕ) (layers row x : ℕ) → row < MAX_PAGE → 513 ≤ length now → x ≡ get_or states row 0 → x < 65536
      → Noted states layers row numbers now → Noted states layers (row + 1) numbers (set now (256 + row) x)
  noted_on numbers now layers row x low long e few v =
      record {
        state = below_more (λ r. get_or (set now (256 + row) x) (256 + r) 0 % 65536 ≡ get_or states r 0) row
            (λ r l. ap (λ (n : ℕ). n % 65536) (get_or-set_other now (256 + row) (256 + r) x 0 (λ z. omega arith)) ∙ v.state r l)
            (ap (λ (n : ℕ). n % 65536) (get_or-set_same now (256 + row) x 0 (omega arith)) ∙ mod-eq_of_lt few ∙ e);
        start = λ r l. get_or-set_other now (256 + row) r x 0 (λ z. omega arith) ∙ v.start r l;
        top = get_or-set_other now (256 + row) 512 x 0 (λ z. omega arith) ∙ v.top;
      }

  -- the layers were noted first
  pub noted-end : (numbers now : List ℕ) (layers n row : ℕ) → 513 ≤ length numbers → n ≤ row
      → Noted states (get_or (set numbers 512 layers) 512 0) row (set numbers 512 layers) now → Noted states layers n numbers now
  noted-end numbers now layers n row long b v =
      record {
        state = λ r l. v.state r (omega arith);
        start = λ r l. v.start r l ∙ get_or-set_other numbers 512 r layers 0 (λ z. omega arith);
        top = v.top ∙ get_or-set_same numbers 512 layers 0 (omega arith);
      }

-- ---- what stands at a row

module _ (roots numbers : List ℕ) (count row : ℕ) where
  pub flat-past : count ≤ row → flat_answer roots numbers count row ≡ blank_answer
  unfolding flat_answer
  flat-past b = rw (le-ltb row count b)

  module _ (low : row < count) where
    pub flat_over : MAX_PAGE ≤ row → flat_answer roots numbers count row ≡ blank_answer
    unfolding flat_answer
    flat_over b = rw (lt-ltb row count low, le-ltb row MAX_PAGE b)

    pub flat-here : row < MAX_PAGE → flat_answer roots numbers count row ≡ flat_at roots numbers row
    unfolding flat_answer
    flat-here few = rw (lt-ltb row count low, lt-ltb row MAX_PAGE few)

-- as the code comes to it
pub flat-row : (roots numbers : List ℕ) (row : ℕ) (root : List ℕ) {p : Reply Proved Rejection} {a : Answer} → root ≡ hash_at roots (32 * row)
    → p ≡ proved_at (get_or numbers 512 0) (replicate 32 0) (replicate 1 (get_or numbers row 0)) (replicate 1 (get_or numbers (256 + row) 0 % 65536)) root 0 → a ≡ answer_of p → a ≡ flat_at roots numbers row
unfolding flat_at
flat-row roots numbers row root e f g =
    g ∙ ap answer_of (f ∙ ap (λ (x : List ℕ). proved_at (get_or numbers 512 0) (replicate 32 0) (replicate 1 (get_or numbers row 0)) (replicate 1 (get_or numbers (256 + row) 0 % 65536)) x 0) e)

-- a hash by itself
hash_own : (x : List ℕ) → length x ≡ 32 → hash_at x 0 ≡ x
hash_own x e = hash-there x 0 (omega arith) ∙ ap (λ (n : ℕ). take n x) (sym e) ∙ take-length x

-- what stands at a row is what the row says of any id
flat-proved : (layers : ℕ) (id starts states roots numbers : List ℕ) (r : ℕ) → get_or numbers 512 0 ≡ layers → get_or numbers r 0 ≡ get_or starts r 0 → get_or numbers (256 + r) 0 % 65536 ≡ get_or states r 0
    → flat_at roots numbers r ≡ answer_of (proved_at layers id starts states roots r)
unfolding flat_at proved_at answer_of
flat-proved layers id starts states roots numbers r e f g =
    rw (e, f, g, hash_own (hash_at roots (32 * r)) (hash-at-length roots (32 * r))) (go (eqb (get_or states r 0) 0))
  where
    go : (t : Bool) → answer_of (pick t (Ok (accepted_of (get_or starts r 0) layers (replicate 32 0) (hash_at roots (32 * r)))) (Err (refusal_of (get_or starts r 0) (get_or states r 0))))
        ≡ answer_of (pick t (Ok (accepted_of (get_or starts r 0) layers id (hash_at roots (32 * r)))) (Err (refusal_of (get_or starts r 0) (get_or states r 0))))
    go true = refl
    go false = refl

-- rows that were proved by a path are right
pub all-proved : (s ids : List ℕ) (path : Path) (n : ℕ) (starts states proved numbers numbers' : List ℕ) → n ≤ MAX_PAGE → Noted states path.layers n numbers numbers' → ((r : ℕ) → r < n → get_or numbers r 0 ≡ get_or starts r 0)
    → ((r : ℕ) → r < n → proved_at path.layers (hash_at ids (32 * r)) starts states proved r ≡ proved_of (prove (path_reading s path (hash_at ids (32 * r)))))
    → AllRight s ids path n proved numbers'
unfolding AllRight asked
all-proved s ids path n starts states proved numbers numbers' few v at f r l b =
    let turn : 32 * r ≡ r * 32 = omega arith in
    flat-proved path.layers (hash_at ids (32 * r)) starts states proved numbers' r v.top (v.start r (omega arith) ∙ at r l) (v.state r l)
    ∙ ap answer_of (f r l) ∙ ap (λ (at : ℕ). answer_of (proved_of (prove (path_reading s path (hash_at ids at))))) turn

-- ---- the page

module _ (s ids : List ℕ) (room : ℕ) where
  pub opening_few : (path : Path) → Ok path ≡ opening_of s (bump_for s ids room) → length ids / 32 ≤ MAX_PAGE
  opening_few path e = go (bump_for s ids room) refl e
    where
      go : (p : Parse Bump) → bump_for s ids room ≡ p → Ok path ≡ opening_of s p → length ids / 32 ≤ MAX_PAGE
      go (ok b q) g h = page-few s ids room b q g
      go (fault number place) g h = let z : ◌≡◌ {A = ℕ} 0 1 = cc in absurd (omega arith)

  pub opening_levelled : (path : Path) → Ok path ≡ opening_of s (bump_for s ids room) → Levelled path
  unfolding bump_path_of
  opening_levelled path e = go (bump_for s ids room) e
    where
      go : (p : Parse Bump) → Ok path ≡ opening_of s p → Levelled path
      go (ok b q) h = let z : path ≡ bump_path s b = cc in rw z (record { bump = refl; few = omega arith })
      go (fault number place) h = let z : ◌≡◌ {A = ℕ} 0 1 = cc in absurd (omega arith)

  module _ (roots numbers : List ℕ) where
    row_is : (p : Parse Bump) → bump_for s ids room ≡ p → IfOk (opening_of s p) (λ path. AllRight s ids path (length ids / 32) roots numbers)
        → (i : ℕ) → flat_answer roots numbers (count_of (paged_under ids (opening_of s p))) i ≡ answer_at s ids (opening_of s p) i
    unfolding flat_answer answer_at AllRight asked
    row_is (ok b q) e all i = go (ltb i (length ids / 32)) refl
      where
        go : (t : Bool) → ltb i (length ids / 32) ≡ t → pick t (pick (ltb i MAX_PAGE) (flat_at roots numbers i) blank_answer) blank_answer ≡ pick t (asked s ids (bump_path s b) i) blank_answer
        go true f =
            let l : i < length ids / 32 = ltb-true i (length ids / 32) f in
            let few = page-few s ids room b q e in
            let inside : i < MAX_PAGE = omega arith in
            rw (lt-ltb i MAX_PAGE inside) (all i l l)
        go false f = refl
    row_is (fault number place) e all i = rw (le-ltb i 0 (omega arith))

    -- the answers of all ids, as a page has them
    pub flat-page : (o : Reply Path Rejection) → o ≡ opening_of s (bump_for s ids room) → IfOk o (λ path. AllRight s ids path (length ids / 32) roots numbers)
        → (paged_under ids o ≡ paged_of (page s ids room)) × (rows (flat_answer roots numbers (count_of (paged_under ids o))) room ≡ row_of (page s ids room) room)
    flat-page o e all =
        let w = rw e at all in (
          ap (paged_under ids) e ∙ opening_paged s ids room,
          ap (λ (p : Reply Path Rejection). rows (flat_answer roots numbers (count_of (paged_under ids p))) room) e ∙ rows_same _ _ room (row_is (bump_for s ids room) refl w) ∙ opening_row s ids room,
        )
