-- Laws of a page: how it is refused, what stands in its answers, and that what the code holds of it gives the page.
use Prim.Native.Nat.{ℕ, ◌+◌, ◌*◌, ◌/◌, ◌%◌, ◌<◌, ◌≤◌, zero-le}
use mathlib.Core.Path.{◌≡◌, refl, sym, ap, ◌∙◌}
use mathlib.Core.Bool.{Bool, true, false}
use mathlib.Core.List.{List, []}
use native.Mathlib.Nat.{sub-zero}
use native.Mathlib.Omega.{arith}
use lib.Dec.{ltb, leb, eqb}
use Rattle.std.specs.Prelude.{Ok}
use lib.ListN.{length, get_or, replicate, length-map, get_or-eq_default}
use borrow.Author.Tests.{le-leb, lt-leb, leb-true, eq-eqb, ne_eqb, ltb-true, ltb-false}
use Rattle.format.proofs.Basics.{and-true}
use Rattle.format.specs.Parse.{Parse, ok, fault, pick}
use Rattle.format.specs.Bump.{Bump, bump_whole}
use Rattle.path.specs.Path.{bump_path}
use Rattle.format.specs.Padded.{padded}
use Rattle.format.specs.Bytes.{hash_at}
use Rattle.format.specs.Refusals.{OVER_LIMIT, NO_ROOM}
use Rattle.spv.specs.Result.{Result, accepted, after_reading}
use Rattle.spv.specs.Prove.{Proof, prove}
use Rattle.spv.specs.Readings.{path_reading}
use Rattle.spv.proofs.ReadingsLaws.{bump_proves}
use Rattle.spv.specs.Shapes.{proved_of}
use Rattle.spv.specs.Hashes.{hashes_of}
use Rattle.spv.proofs.HashesLaws.{hashes-length, hashes-at}
use Rattle.spv.proofs.RowsLaws.{map_at}
use Rattle.spv.specs.Rows.{rows}
use Rattle.spv.proofs.RowsLaws.{rows-list}
use Rattle.page.specs.Page.{MAX_PAGE, blank_answer, answer_of, single, answers, allowed, bump_for, page, paged_of, row_of}
use Rattle.page.specs.Opening.{opening_of, paged_under, answer_at}

-- ---- refusals, in their order

module _ (s ids : List ℕ) (room : ℕ) where
  pub page-part : (length ids % 32 ≡ 0 → ⊥) → bump_for s ids room ≡ fault OVER_LIMIT 0
  unfolding bump_for allowed
  page-part h = rw (ne_eqb (length ids % 32) 0 h)

  module _ (whole : length ids % 32 ≡ 0) where
    pub page_over : MAX_PAGE < length ids / 32 → bump_for s ids room ≡ fault OVER_LIMIT 0
    unfolding bump_for allowed
    page_over h = rw (eq-eqb (length ids % 32) 0 whole, lt-leb (length ids / 32) MAX_PAGE h)

    module _ (few : length ids / 32 ≤ MAX_PAGE) where
      pub page_short : room < length ids / 32 → bump_for s ids room ≡ fault NO_ROOM 0
      unfolding bump_for allowed
      page_short h = rw (eq-eqb (length ids % 32) 0 whole, le-leb (length ids / 32) MAX_PAGE few, lt-leb (length ids / 32) room h)

      pub page-asked : length ids / 32 ≤ room → bump_for s ids room ≡ bump_whole s
      unfolding bump_for allowed
      page-asked h = rw (eq-eqb (length ids % 32) 0 whole, le-leb (length ids / 32) MAX_PAGE few, le-leb (length ids / 32) room h)

  -- a page that is answered is not over the limit, it has room, and its BUMP was read
  page-told : (b : Bump) (q : ℕ) → bump_for s ids room ≡ ok b q → (allowed ids ≡ true) × (length ids / 32 ≤ room) × (bump_whole s ≡ ok b q)
  unfolding bump_for
  page-told b q e = go (allowed ids) (leb (length ids / 32) room) refl refl e
    where
      go : (t u : Bool) → allowed ids ≡ t → leb (length ids / 32) room ≡ u → pick t (pick u (bump_whole s) (fault NO_ROOM 0)) (fault OVER_LIMIT 0) ≡ ok b q
          → (allowed ids ≡ true) × (length ids / 32 ≤ room) × (bump_whole s ≡ ok b q)
      go true true g h f = (g, leb-true (length ids / 32) room h, f)
      go true false g h f = let z : ◌≡◌ {A = ℕ} 0 1 = cc in absurd (omega arith)
      go false u g h f = let z : ◌≡◌ {A = ℕ} 0 1 = cc in absurd (omega arith)

  pub page-few : (b : Bump) (q : ℕ) → bump_for s ids room ≡ ok b q → length ids / 32 ≤ MAX_PAGE
  unfolding allowed
  page-few b q e = leb-true (length ids / 32) MAX_PAGE (and-true (eqb (length ids % 32) 0) (leb (length ids / 32) MAX_PAGE) (page-told b q e).0).1

-- ---- an answer for each id

-- the i-th id is the 32 bytes from 32 * i
id-at : (l : List ℕ) (i : ℕ) → i < length l / 32 → get_or (hashes_of l) i [] ≡ hash_at l (i * 32)
unfolding hashes_of hash_at
id-at l i h =
    let place : 32 * i ≡ i * 32 = omega arith in
    let inside : i * 32 + 32 ≤ length l = omega arith in
    hashes-at (length l / 32) l i h ∙ rw (le-leb (i * 32 + 32) (length l) inside) (rw place)

module _ (s ids : List ℕ) where
  pub answers-length : length (answers s ids) ≡ length ids / 32
  unfolding answers hashes_of
  answers-length = length-map (hashes_of ids) (single s) ∙ hashes-length (length ids / 32) ids

  pub answers_at : (i : ℕ) → i < length ids / 32 → get_or (answers s ids) i blank_answer ≡ single s (hash_at ids (i * 32))
  unfolding answers hashes_of
  answers_at i h =
      let inside : i < length (hashes_of ids) = rw (hashes-length (length ids / 32) ids) h in
      map_at (single s) (hashes_of ids) i [] blank_answer inside ∙ ap (single s) (id-at ids i h)

-- ---- what the code holds

module _ (s ids : List ℕ) (room : ℕ) where
  -- row by row, by a BUMP that was read
  module _ (b : Bump) (q : ℕ) (read : bump_whole s ≡ ok b q) where
    row_at : (i : ℕ) → answer_at s ids (opening_of s (ok b q)) i ≡ get_or (answers s ids) i blank_answer
    unfolding answer_at single
    row_at i = go (ltb i (length ids / 32)) refl
      where
        go : (t : Bool) → ltb i (length ids / 32) ≡ t → pick t (answer_of (proved_of (prove (path_reading s (bump_path s b) (hash_at ids (i * 32)))))) blank_answer ≡ get_or (answers s ids) i blank_answer
        go true h = ap (λ (v : Result Proof). answer_of (proved_of v)) (bump_proves s (hash_at ids (i * 32)) b q read) ∙ sym (answers_at s ids i (ltb-true i (length ids / 32) h))
        go false h =
            let past : length (answers s ids) ≤ i = omega (arith, ltb-false i (length ids / 32) h, answers-length s ids) in
            sym (get_or-eq_default (answers s ids) blank_answer past)

  pub opening_row : rows (answer_at s ids (opening_of s (bump_for s ids room))) room ≡ row_of (page s ids room) room
  unfolding page row_of answer_at padded
  opening_row = go (bump_for s ids room) refl
    where
      go : (p : Parse Bump) → bump_for s ids room ≡ p → rows (answer_at s ids (opening_of s p)) room ≡ row_of (after_reading p (λ _. accepted (answers s ids))) room
      go (ok b q) e =
          let told = page-told s ids room b q e in
          rows-list (answer_at s ids (opening_of s (ok b q))) blank_answer (answers s ids) room (row_at b q told.2) (omega (arith, told.1, answers-length s ids))
      go (fault number place) e =
          rows-list (answer_at s ids (opening_of s (fault number place))) blank_answer [] room (λ i. refl) zero-le ∙ ap (λ (k : ℕ). replicate k blank_answer) (sub-zero room)

  pub opening_paged : paged_under ids (opening_of s (bump_for s ids room)) ≡ paged_of (page s ids room)
  unfolding page
  opening_paged = go (bump_for s ids room)
    where
      go : (p : Parse Bump) → paged_under ids (opening_of s p) ≡ paged_of (after_reading p (λ _. accepted (answers s ids)))
      go (ok b q) = ap Ok (sym (answers-length s ids))
      go (fault number place) = refl
