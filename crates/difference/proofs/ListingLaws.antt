-- Laws of the list: how it is refused, and that what the code counts and writes is the list.
use Rattle.std.proofs.Common.{Ok}
use mathlib.Core.Path.{◌≡◌, refl, ap, sym, ◌∙◌}
use mathlib.Core.List.{List, ◌++◌}
use mathlib.Core.Bool.{Bool, true, false}
use Prim.Native.Nat.{ℕ, ◌+◌, ◌*◌, ◌/◌, ◌<◌, ◌≤◌, min}
use lib.ListN.{length, drop}
use native.Mathlib.Omega.{arith}
use borrow.Author.Tests.{le-leb, lt-leb}
use Rattle.format.specs.declared.refusal.ReadRefusal.{ReadRefusal}
use Rattle.format.specs.declared.bump.BumpHead.{BumpHead}
use Rattle.format.specs.Parse.{each, ok, fault}
use Rattle.format.proofs.ParseLaws.{each-ok, each-fault}
use Rattle.format.specs.Refusals.{NO_ROOM, refusal_number}
use Rattle.format.specs.Bump.{Bump, bump_whole, head_of}
use Rattle.encoding.specs.BumpBytes.{content_of}
use Rattle.spv.specs.declared.rejection.Rejection.{Rejection}
use Rattle.spv.specs.Result.{Result, accepted, refused, carrying, refused_reading}
use Rattle.difference.specs.Differences.{Difference, differences}
use Rattle.difference.specs.Listing.{words_of, fitting, list_differences, listed_of, words_in}
use Rattle.difference.specs.Filling.{Filling, filling, put_all}
use Rattle.difference.proofs.FillingLaws.{counted, written}
use Rattle.difference.specs.Merge.{walk_all}
use Rattle.difference.proofs.WalkTheorem.{told-all}

module _ (a b : List ℕ) (room : ℕ) where
  pub first-unread : (f : ReadRefusal) → each head_of (bump_whole a) ≡ fault (refusal_number f.refusal) f.place → list_differences a b room ≡ refused (refused_reading f)
  unfolding list_differences
  first-unread f e = rw (each-fault head_of (bump_whole a) e) refl

  pub second-unread : {x : BumpHead} {q : ℕ} (f : ReadRefusal) → each head_of (bump_whole a) ≡ ok x q → each head_of (bump_whole b) ≡ fault (refusal_number f.refusal) f.place
      → list_differences a b room ≡ refused (refused_reading f)
  unfolding list_differences
  second-unread f e g = rw ((each-ok head_of (bump_whole a) e).1, each-fault head_of (bump_whole b) g) refl

  both_read : {x y : Bump} {q r : ℕ} → bump_whole a ≡ ok x q → bump_whole b ≡ ok y r → list_differences a b room ≡ fitting room (differences (content_of a x) (content_of b y))
  unfolding list_differences
  both_read e f = rw (e, f) refl

-- a refusal leaves the memory as it was
pub left-refused : (l : Result (List Difference)) (why : Rejection) (v w : List ℕ) → v ≡ w → l ≡ refused why → v ≡ words_in l w
unfolding words_in
left-refused l why v w e f = rw f e

module _ (a b w : List ℕ) (hx hy : BumpHead) {q r : ℕ} (e : each head_of (bump_whole a) ≡ ok hx q) (f : each head_of (bump_whole b) ≡ ok hy r)
    (v : List ℕ) (n : ℕ) (g : filling v n ≡ walk_all false a hx b hy (filling w 0)) where
  abbrev first : (x : Bump) × (bump_whole a ≡ ok x q) × (head_of x ≡ hx)
  first = each-ok head_of (bump_whole a) e

  abbrev second : (y : Bump) × (bump_whole b ≡ ok y r) × (head_of y ≡ hy)
  second = each-ok head_of (bump_whole b) f

  abbrev all : List Difference
  all = differences (content_of a first.0) (content_of b second.0)

  told : (write : Bool) (p : Filling) → walk_all write a hx b hy p ≡ put_all write p all
  told write p =
      ap (λ (h : BumpHead). walk_all write a h b hy p) (sym first.2)
      ∙ ap (λ (h : BumpHead). walk_all write a (head_of first.0) b h p) (sym second.2)
      ∙ told-all write a b p first.1 second.1

  -- what the first pass found: the memory as it was, and the count or one past the room
  found : filling v n ≡ filling w (min (0 + length all) (length w / 3 + 1))
  found = g ∙ told false (filling w 0) ∙ counted w 0 all (omega arith)

  pub as_before : v ≡ w
  as_before = ap (λ (p : Filling). p.words) found

  count : n ≡ min (0 + length all) (length v / 3 + 1)
  count = ap (λ (p : Filling). p.told) found ∙ ap (λ (u : List ℕ). min (0 + length all) (length u / 3 + 1)) (sym as_before)

  room-same : length v / 3 ≡ length w / 3
  room-same = ap (λ (u : List ℕ). length u / 3) as_before

  pub listed_over : length v / 3 < n → list_differences a b (length w / 3) ≡ refused (carrying NO_ROOM 0)
  unfolding fitting
  listed_over h =
      let over : length w / 3 < length all = (let c = count in let d = room-same in omega (arith, c, d)) in
      both_read a b (length w / 3) first.1 second.1 ∙ rw (lt-leb (length all) (length w / 3) over) refl

  module _ (h : n ≤ length v / 3) (u : List ℕ) (m : ℕ) (i : filling u m ≡ walk_all true a hx b hy (filling v 0)) where
    fits : length all ≤ length w / 3
    fits = let c = count in let d = room-same in omega (arith, c, d)

    is : list_differences a b (length w / 3) ≡ accepted all
    unfolding fitting
    is = both_read a b (length w / 3) first.1 second.1 ∙ rw (le-leb (length all) (length w / 3) fits) refl

    -- what the second pass wrote
    wrote : filling u m ≡ filling (words_of all ++ drop (3 * length all) w) (length all)
    wrote = i ∙ told true (filling v 0) ∙ ap (λ (x : List ℕ). put_all true (filling x 0) all) as_before ∙ written w all fits

    pub listed-entries : Ok m ≡ listed_of (list_differences a b (length w / 3))
    listed-entries = ap (λ (p : Filling). Ok p.told) wrote ∙ sym (ap listed_of is)

    pub listed-words : u ≡ words_in (list_differences a b (length w / 3)) w
    unfolding words_in
    listed-words = ap (λ (p : Filling). p.words) wrote ∙ sym (ap (λ (l : Result (List Difference)). words_in l w) is)
