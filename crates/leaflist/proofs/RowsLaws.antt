-- Laws of making the list.
use Rattle.std.proofs.Common.{Ok}
use mathlib.Core.Path.{◌≡◌, refl, ap, sym, ◌∙◌}
use mathlib.Core.List.{List, [], ◌∷◌, ◌++◌, map, append_assoc}
use Prim.Native.Nat.{ℕ, zero, suc, ◌+◌, ◌-◌, ◌*◌, ◌/◌, ◌<◌, ◌≤◌}
use lib.ListN.{length, get_or, drop, set, length-append, drop_of_length-le}
use lib.Seq.{set_at, drop-cons}
use native.Mathlib.Omega.{arith}
use native.Mathlib.Numerals.{add-one}
use borrow.Author.Tests.{le-leb, lt-leb}
use Rattle.format.specs.declared.leaf.Leaf.{Leaf}
use Rattle.format.specs.declared.refusal.ReadRefusal.{ReadRefusal}
use Rattle.format.specs.declared.bump.BumpHead.{BumpHead}
use Rattle.format.proofs.Basics.{one_less}
use Rattle.format.specs.Parse.{each, ok, fault}
use Rattle.format.proofs.ParseLaws.{each-ok, each-fault}
use Rattle.format.specs.Refusals.{NO_ROOM, refusal_number}
use Rattle.format.specs.Bump.{Bump, bump_whole, head_of}
use Rattle.spv.specs.declared.rejection.Rejection.{Rejection}
use Rattle.spv.specs.Result.{Result, accepted, refused, carrying, refused_reading}
use Rattle.levels.specs.Places.{offset_at, level_leaves}
use Rattle.leaflist.specs.Rows.{Filling, filling, store, listed_in, put_row, put_rows}
use Rattle.levels.specs.Order.{sorted}
use Rattle.leaflist.specs.LeafList.{Row, row, row_at, list_from, leaf_list, words_of, fitting, building, built_of, words_in}
use Rattle.leaflist.proofs.LeafListLaws.{Levels}
use Rattle.leaflist.proofs.LeafListTheorems.{read, listed-all}
use Rattle.levels.specs.Ordered.{ordered_in, next_in}
use Rattle.levels.proofs.OrderedLaws.{next_level_lem, ordered_level}

-- ---- rows

module _ (w : List ℕ) (n k o p : ℕ) where
  pub row_full : length w / 3 ≤ n → put_row (filling w n) (row k o p) ≡ filling w n
  unfolding put_row
  row_full h = rw (le-leb (length w / 3) n h)

  pub row_put : n < length w / 3 → put_row (filling w n) (row k o p) ≡ filling (store w n k o p) (n + 1)
  unfolding put_row
  row_put h = rw (lt-leb (length w / 3) n h)

pub rows_append : (p : Filling) (l m : List Row) → put_rows p (l ++ m) ≡ put_rows (put_rows p l) m
unfolding put_rows
rows_append p [] m = refl
rows_append p (r ∷ l) m = rows_append (put_row p r) l m

module _ (s : List ℕ) (k : ℕ) (l : List ℕ) (i : ℕ) (p : Filling) where
  pub rows_end : length l ≤ i → put_rows p (map (row_at s k) (drop i l)) ≡ p
  unfolding put_rows
  rows_end h = rw (drop_of_length-le l h)

  pub rows_on : {o : ℕ} {q : Filling} → i < length l → o ≡ offset_at s (get_or l i 0) → q ≡ put_row p (row k o (get_or l i 0))
      → put_rows p (map (row_at s k) (drop i l)) ≡ put_rows q (map (row_at s k) (drop (i + 1) l))
  unfolding put_rows
  rows_on {o} {q} h e f =
      ap (λ (v : List ℕ). put_rows p (map (row_at s k) v)) (drop-cons l i 0 h)
      ∙ ap (λ (x : ℕ). put_rows (put_row p (row k x (get_or l i 0))) (map (row_at s k) (drop (suc i) l))) (sym e)
      ∙ ap (λ (x : Filling). put_rows x (map (row_at s k) (drop (suc i) l))) (sym f)
      ∙ ap (λ (m : ℕ). put_rows q (map (row_at s k) (drop m l))) (sym (add-one i))

-- levels one after the other
module _ (room : ℕ) (s : List ℕ) (h k at : ℕ) (p : Filling) where
  pub levels-end : h ≤ k → put_rows p (listed_in room s (h - k) k at) ≡ p
  unfolding listed_in put_rows
  levels-end g = let e : h - k ≡ 0 = omega arith in rw e

  pub levels_on : {l : List ℕ} {at' : ℕ} {q : Filling} {room' : ℕ} → k < h → room' ≡ room → l ≡ ordered_in room' s at → at' ≡ next_in room' s at → q ≡ put_rows p (map (row_at s k) l)
      → put_rows p (listed_in room s (h - k) k at) ≡ put_rows q (listed_in room s (h - (k + 1)) (k + 1) at')
  unfolding listed_in
  levels_on {l} {at'} {q} {room'} g i e f j =
      ap (λ (n : ℕ). put_rows p (listed_in room s n k at)) (one_less h k g)
      ∙ rows_append p (map (row_at s k) (ordered_in room s at)) (listed_in room s (h - (k + 1)) (k + 1) (next_in room s at))
      ∙ ap (λ (v : List ℕ). put_rows (put_rows p (map (row_at s k) v)) (listed_in room s (h - (k + 1)) (k + 1) (next_in room s at))) (ap (λ (r : ℕ). ordered_in r s at) (sym i) ∙ sym e)
      ∙ ap (λ (v : ℕ). put_rows (put_rows p (map (row_at s k) l)) (listed_in room s (h - (k + 1)) (k + 1) v)) (ap (λ (r : ℕ). next_in r s at) (sym i) ∙ sym f)
      ∙ ap (λ (v : Filling). put_rows v (listed_in room s (h - (k + 1)) (k + 1) at')) (sym j)

filling-same : {v w : List ℕ} {m n : ℕ} → v ≡ w → m ≡ n → filling v m ≡ filling w n
filling-same e f = rw (e, f)

-- a row stored behind those that are there
stored : (x : List ℕ) (a b c : ℕ) (o : List ℕ) (n level offset place : ℕ) → length x ≡ 3 * n
    → store (x ++ (a ∷ b ∷ c ∷ o)) n level offset place ≡ x ++ (level ∷ offset ∷ place ∷ o)
unfolding store
stored x a b c o n level offset place h =
    let e = set_at x a (b ∷ c ∷ o) level (n * 3) (omega (arith, h)) in
    let f = set_at (x ++ (level ∷ [])) b (c ∷ o) offset (n * 3 + 1) (omega (arith, h, length-append x (level ∷ []))) in
    let g = set_at (x ++ (level ∷ offset ∷ [])) c o place (n * 3 + 2) (omega (arith, h, length-append x (level ∷ offset ∷ []))) in
    ap (λ (v : List ℕ). set (set v (n * 3 + 1) offset) (n * 3 + 2) place) (e ∙ sym (append_assoc x (level ∷ []) (b ∷ c ∷ o)))
    ∙ ap (λ (v : List ℕ). set v (n * 3 + 2) place) (f ∙ append_assoc x (level ∷ []) (offset ∷ c ∷ o) ∙ sym (append_assoc x (level ∷ offset ∷ []) (c ∷ o)))
    ∙ g
    ∙ append_assoc x (level ∷ offset ∷ []) (place ∷ o)

written_after : (x o : List ℕ) (n : ℕ) (l : List Row) → length x ≡ 3 * n → 3 * length l ≤ length o
    → put_rows (filling (x ++ o) n) l ≡ filling (x ++ (words_of l ++ drop (3 * length l) o)) (n + length l)
unfolding put_rows words_of
written_after x o n [] h g = filling-same refl (omega arith)
written_after x [] n (r ∷ l) h g = absurd (omega arith)
written_after x (a ∷ []) n (r ∷ l) h g = absurd (omega arith)
written_after x (a ∷ b ∷ []) n (r ∷ l) h g = absurd (omega arith)
written_after x (a ∷ b ∷ c ∷ o) n (r ∷ l) h g =
    let v : List ℕ = r.level ∷ r.offset ∷ r.place ∷ [] in
    let i : n < length (x ++ (a ∷ b ∷ c ∷ o)) / 3 = omega (arith, h, length-append x (a ∷ b ∷ c ∷ o)) in
    let j : 3 * suc (length l) ≡ suc (suc (suc (3 * length l))) = omega arith in
    ap (λ (p : Filling). put_rows p l)
    (row_put (x ++ (a ∷ b ∷ c ∷ o)) n r.level r.offset r.place i
    ∙ filling-same (stored x a b c o n r.level r.offset r.place h ∙ sym (append_assoc x v o)) refl)
    ∙ written_after (x ++ v) o (n + 1) l (omega (arith, h, length-append x v)) (omega arith)
    ∙ filling-same (append_assoc x v (words_of l ++ drop (3 * length l) o) ∙ ap (λ (m : ℕ). x ++ (r.level ∷ r.offset ∷ r.place ∷ (words_of l ++ drop m (a ∷ b ∷ c ∷ o)))) (sym j)) (omega arith)

pub rows_written : (w : List ℕ) (l : List Row) → length l ≤ length w / 3 → put_rows (filling w 0) l ≡ filling (words_of l ++ drop (3 * length l) w) (length l)
rows_written w l h = written_after [] w 0 l refl (omega arith) ∙ filling-same refl (omega arith)

-- ---- the list of a BUMP that was read

list_same : (s : List ℕ) (n k at : ℕ) (ls : List (List Leaf)) → Levels s n at ls → listed_in 1024 s n k at ≡ list_from s n k at
unfolding listed_in list_from Levels
list_same s zero k at ls e = refl
list_same s (suc n) k at ls e =
    let f = e.7 in
    ap (λ (v : List ℕ). map (row_at s k) v ++ listed_in 1024 s n (k + 1) (next_in 1024 s at)) (ordered_level 1024 s at f.2 f.3)
    ∙ ap (λ (v : ℕ). map (row_at s k) (sorted (offset_at s) (level_leaves s at)) ++ listed_in 1024 s n (k + 1) v) (next_level_lem 1024 s at f.2 f.3 ∙ e.3.ends)
    ∙ ap (λ (v : List Row). map (row_at s k) (sorted (offset_at s) (level_leaves s at)) ++ v) (list_same s n (k + 1) e.1 e.2 e.5)
    ∙ ap (λ (v : ℕ). map (row_at s k) (sorted (offset_at s) (level_leaves s at)) ++ list_from s n (k + 1) v) (sym e.3.ends)

pub list_made : (s : List ℕ) {b : Bump} {q : ℕ} → bump_whole s ≡ ok b q → listed_in 1024 s b.height 0 b.start ≡ leaf_list s b
list_made s {b} e = list_same s b.height 0 b.start b.levels (read s e)

module _ (s : List ℕ) (room : ℕ) where
  pub unread : (f : ReadRefusal) → each head_of (bump_whole s) ≡ fault (refusal_number f.refusal) f.place → building s room ≡ refused (refused_reading f)
  unfolding building
  unread f e = rw (each-fault head_of (bump_whole s) e) refl

  read_is : {b : Bump} {q : ℕ} → bump_whole s ≡ ok b q → building s room ≡ fitting room (leaf_list s b)
  unfolding building
  read_is e = rw e refl

-- a refusal leaves the memory as it was
pub left-refused : (l : Result (List Row)) (why : Rejection) (w : List ℕ) → l ≡ refused why → w ≡ words_in l w
unfolding words_in
left-refused l why w f = rw f refl

module _ (s w : List ℕ) (head : BumpHead) {q : ℕ} (e : each head_of (bump_whole s) ≡ ok head q) where
  abbrev got_it : (b : Bump) × (bump_whole s ≡ ok b q) × (head_of b ≡ head)
  got_it = each-ok head_of (bump_whole s) e

  abbrev all : List Row
  all = leaf_list s got_it.0

  count : head.leaves ≡ length all
  count = ap (λ (h : BumpHead). h.leaves) (sym got_it.2) ∙ sym (listed-all s got_it.1)

  opened : building s (length w / 3) ≡ fitting (length w / 3) all
  opened = read_is s (length w / 3) got_it.1

  pub no_room : length w / 3 < head.leaves → building s (length w / 3) ≡ refused (carrying NO_ROOM 0)
  unfolding fitting
  no_room h = let c = count in opened ∙ rw (lt-leb (length all) (length w / 3) (omega (arith, c))) refl

  module _ (h : head.leaves ≤ length w / 3) (v : List ℕ) (n : ℕ) (g : filling v n ≡ put_rows (filling w 0) (listed_in 1024 s head.height 0 head.levels.at)) where
    fits : length all ≤ length w / 3
    fits = let c = count in omega (arith, c)

    is : building s (length w / 3) ≡ accepted all
    unfolding fitting
    is = opened ∙ rw (le-leb (length all) (length w / 3) fits) refl

    wrote : filling v n ≡ filling (words_of all ++ drop (3 * length all) w) (length all)
    wrote =
        g
        ∙ ap (λ (x : BumpHead). put_rows (filling w 0) (listed_in 1024 s x.height 0 x.levels.at)) (sym got_it.2)
        ∙ ap (put_rows (filling w 0)) (list_made s got_it.1)
        ∙ rows_written w all fits

    pub built_count : Ok n ≡ built_of (building s (length w / 3))
    built_count = ap (λ (p : Filling). Ok p.rows) wrote ∙ sym (ap built_of is)

    pub built_words : v ≡ words_in (building s (length w / 3)) w
    unfolding words_in
    built_words = ap (λ (p : Filling). p.words) wrote ∙ sym (ap (λ (l : Result (List Row)). words_in l w) is)
