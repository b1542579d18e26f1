-- A loop that reads a set and keeps where each transaction ends: what holds after i of n; and the ids by these places.
use Prim.Native.Nat.{ℕ, zero, suc, ◌+◌, ◌-◌, ◌*◌, ◌<◌, ◌≤◌}
use mathlib.Core.Path.{◌≡◌, refl, sym, ap, ap₂, subst, ◌∙◌}
use mathlib.Core.Bool.{false}
use mathlib.Core.List.{List, [], ◌∷◌, ◌++◌, map, append_assoc, append-nil}
use native.Mathlib.Nat.{sub-zero}
use native.Mathlib.Numerals.{add-one}
use native.Mathlib.Omega.{arith}
use lib.ListN.{length, get_or, set, take, drop, replicate, length-set, length-replicate}
use lib.Seq.{drop-drop, get_or-set_same, get_or-set_other}
use borrow.Author.Tests.{lt-ltb, le-ltb}
use Rattle.format.specs.declared.transaction.TxHead.{TxHead}
use Rattle.format.specs.Parse.{each, ok, fault}
use Rattle.format.proofs.ParseLaws.{each-ok, each-fault}
use Rattle.format.proofs.Basics.{one_less}
use Rattle.format.specs.Bytes.{hash_at}
use Rattle.format.proofs.BytesLaws.{hash-there}
use Rattle.format.specs.Transaction.{Transaction, tx_field, tx_head_of}
use Rattle.format.proofs.TransactionLaws.{TxRead, tx_told}
use Rattle.format.specs.Id.{txid, span_hash}
use Rattle.format.proofs.IdLaws.{tx_hash}
use Rattle.format.specs.Refusals.{EXTRA, MAX_INPUT, MAX_TXS}
use Rattle.spv.specs.Result.{carrying}
use Rattle.spv.specs.Hashes.{hashes}
use Rattle.spv.specs.Spans.{span_id, Hashed}
use Rattle.spv.proofs.SpansLaws.{hashed-enough}
use Rattle.order.specs.Set.{SetResult, accepted, refused, before, read_from}
use Rattle.order.specs.SetRead.{between, ids_between, ids_of}

-- ---- ids by places, and end to end

-- a place past the first ids is none of theirs
between-set : (s places : List ℕ) (i j q : ℕ) → i < j → ids_between s (set places j q) i ≡ ids_between s places i
unfolding ids_between between
between-set s places zero j q h = refl
between-set s places (suc i) j q h =
    rw (between-set s places i j q (omega arith), get_or-set_other places j i q 0 (λ e. omega arith), get_or-set_other places j (suc i) q 0 (λ e. omega arith))

-- one more
between_more : (s places : List ℕ) (i q : ℕ) → i + 1 < length places → ids_between s (set places (i + 1) q) (i + 1) ≡ ids_between s places i ++ (span_hash s (get_or places i 0) q ∷ [])
unfolding ids_between between span_id
between_more s places i q h = rw add-one (rw (between-set s places i (suc i) q (omega arith), get_or-set_other places (suc i) i q 0 (λ e. omega arith), get_or-set_same places (suc i) q 0 (rw add-one at h)))

hashes_last : (n : ℕ) (l : List ℕ) → hashes (suc n) l ≡ hashes n l ++ (take 32 (drop (32 * n) l) ∷ [])
unfolding hashes
hashes_last zero l = refl
hashes_last (suc n) l =
    let e : 32 + 32 * n ≡ 32 * suc n = omega arith in
    ap (take 32 l ∷◌) (hashes_last n (drop 32 l) ∙ ap (λ (x : List ℕ). hashes n (drop 32 l) ++ (take 32 x ∷ [])) (drop-drop (32 * n) 32 l ∙ ap (λ (k : ℕ). drop k l) e))

pub ids_made_lem : (s places ids : List ℕ) (n : ℕ) → 32 * n ≤ length ids → Hashed s (between places) n ids → hashes n ids ≡ ids_between s places n
unfolding ids_between
ids_made_lem s places ids zero h made = unfold hashes in refl
ids_made_lem s places ids (suc n) h made =
    let here : hash_at ids (32 * n) ≡ span_id s (between places n) = unfold Hashed in made n (omega arith) (omega arith) in
    hashes_last n ids
    ∙ ap₂ (λ (l : List (List ℕ)) (x : List ℕ). l ++ (x ∷ [])) (ids_made_lem s places ids n (omega arith) (hashed-enough s (between places) ids (omega arith) made)) (sym (hash-there ids (32 * n) (omega arith)) ∙ here)

-- ---- the loop

-- ids in front
unfoldable pub ahead : List (List ℕ) → SetResult (List (List ℕ)) → SetResult (List (List ℕ))
ahead p (accepted l) = accepted (p ++ l)
ahead p (refused why k) = refused why k

ahead_none : (r : SetResult (List (List ℕ))) → ahead [] r ≡ r
unfolding ahead
ahead_none (accepted l) = refl
ahead_none (refused why k) = refl

ahead-one : (s : List ℕ) (p : List (List ℕ)) (t : Transaction) (r : SetResult (List Transaction)) → ahead p (ids_of s (before t r)) ≡ ahead (p ++ (txid s t ∷ [])) (ids_of s r)
unfolding ahead ids_of before
ahead-one s p t (accepted l) = ap accepted (sym (append_assoc p (txid s t ∷ []) (map (txid s) l)))
ahead-one s p t (refused why k) = refl

module _ (s : List ℕ) (n : ℕ) where
  -- the first i are read, their places stand, and the next is read at the last of these
  pub record Reading (places : List ℕ) (i at : ℕ) : Type 0 where
    pub done : i ≤ n
    pub wide : length places ≡ 257
    pub here : get_or places i 0 ≡ at
    pub kept : ahead (ids_between s places i) (ids_of s (read_from s (n - i) i at)) ≡ ids_of s (read_from s n 0 0)

  pub reading-start : {places : List ℕ} → places ≡ replicate 257 0 → Reading places 0 0
  unfolding ids_between
  reading-start h = record {
    done = omega arith;
    wide = ap length h ∙ length-replicate {A = ℕ} 257 0;
    here = rw h;
    kept = ahead_none (ids_of s (read_from s (n - 0) 0 0)) ∙ ap (λ (k : ℕ). ids_of s (read_from s k 0 0)) (sub-zero n);
  }

  module _ {places : List ℕ} {i at : ℕ} (r : Reading places i at) where
    pub reading-refused : {k q : ℕ} → i < n → each tx_head_of (tx_field s at) ≡ fault k q → ids_of s (read_from s n 0 0) ≡ refused (carrying k q) i
    reading-refused {k} {q} low e = sym r.kept ∙ ap (λ (x : SetResult (List Transaction)). ahead (ids_between s places i) (ids_of s x)) here ∙ (unfold ahead ids_of in refl)
      where
        here : read_from s (n - i) i at ≡ refused (carrying k q) i
        here = rw (one_less n i low) (unfold read_from in rw (each-fault tx_head_of (tx_field s at) e))

    pub reading_on : {head : TxHead} {q : ℕ} {places' : List ℕ} → n ≤ MAX_TXS → length s ≤ MAX_INPUT → i < n → each tx_head_of (tx_field s at) ≡ ok head q
        → places' ≡ set places (i + 1) q → Reading places' (i + 1) q
    reading_on {head} {q} {places'} few short low e new = go (each-ok tx_head_of (tx_field s at) e)
      where
        go : (t : Transaction) × (tx_field s at ≡ ok t q) × (tx_head_of t ≡ head) → Reading places' (i + 1) q
        go (t, m, h) = rw new (record {
          done = omega arith;
          wide = length-set places (i + 1) q ∙ r.wide;
          here = get_or-set_same places (i + 1) q 0 room;
          kept =
              ap (λ (l : List (List ℕ)). ahead l (ids_of s (read_from s (n - (i + 1)) (i + 1) q))) (between_more s places i q room ∙ ap (λ (y : List ℕ). ids_between s places i ++ (y ∷ [])) known)
              ∙ sym (ahead-one s (ids_between s places i) t (read_from s (n - (i + 1)) (i + 1) q))
              ∙ ap (λ (y : SetResult (List Transaction)). ahead (ids_between s places i) (ids_of s y)) (sym turn)
              ∙ r.kept;
        })
          where
            wide : length places ≡ 257
            wide = r.wide

            room : i + 1 < length places
            room = omega arith

            told : TxRead false s at q t
            told = tx_told s at m

            ended : TxRead false s at t.end t
            ended = subst (λ (e : ℕ). TxRead false s at e t) (sym told.end_is) told

            known : span_hash s (get_or places i 0) q ≡ txid s t
            known = ap₂ (span_hash s) (r.here ∙ sym told.start_is) (sym told.end_is) ∙ tx_hash s t ended short

            turn : read_from s (n - i) i at ≡ before t (read_from s (n - (i + 1)) (i + 1) q)
            turn = rw (one_less n i low) (unfold read_from in rw (m, add-one i))

    pub reading_extra : n ≤ i → at < length s → ids_of s (read_from s n 0 0) ≡ refused (carrying EXTRA at) n
    reading_extra past more =
        sym r.kept ∙ ap (λ (x : SetResult (List Transaction)). ahead (ids_between s places i) (ids_of s x)) here ∙ none_after
        ∙ ap (λ (k : ℕ). refused (carrying EXTRA at) k) all
      where
        none_after : ahead (ids_between s places i) (ids_of s (refused (carrying EXTRA at) i)) ≡ refused (carrying EXTRA at) i
        none_after = unfold ahead ids_of in refl

        all : i ≡ n
        all = let d = r.done in omega arith

        here : read_from s (n - i) i at ≡ refused (carrying EXTRA at) i
        here = let none : n - i ≡ 0 = omega arith in rw none (unfold read_from in rw (lt-ltb at (length s) more))

    pub reading-end : n ≤ i → length s ≤ at → ids_of s (read_from s n 0 0) ≡ accepted (ids_between s places n)
    reading-end past over = sym r.kept ∙ ap (λ (x : SetResult (List Transaction)). ahead (ids_between s places i) (ids_of s x)) here ∙ none_after ∙ ap (λ (k : ℕ). accepted (ids_between s places k)) all
      where
        none_after : ahead (ids_between s places i) (ids_of s (accepted [])) ≡ accepted (ids_between s places i)
        none_after = unfold ahead ids_of in ap accepted (append-nil (ids_between s places i))

        all : i ≡ n
        all = let d = r.done in omega arith

        here : read_from s (n - i) i at ≡ accepted []
        here = let none : n - i ≡ 0 = omega arith in rw none (unfold read_from in rw (le-ltb at (length s) over))
