-- The all-clients check of the merged path gives a root exactly when every client of either path climbs to it by what the two have written between them.
-- So it can be checked before a byte of it is written.
use Rattle.std.proofs.Common.{Some}
use mathlib.Core.Path.{◌≡◌, refl, ap, sym, subst, ◌∙◌}
use mathlib.Core.List.{List, [], ◌∷◌, map}
use mathlib.Core.Bool.{Bool, true, false, ◌||◌, false≢true}
use Prim.Native.Nat.{ℕ, zero, suc, ◌+◌, ◌-◌, ◌^◌, ◌<◌, ◌≤◌}
use lib.ListN.{length, get_or, get_or-map}
use lib.Dec.{eqb, leb}
use native.Mathlib.Omega.{arith}
use borrow.Author.Tests.{lt-ltb, eq-eqb, ne_eqb, eqb-true, leb-true, leb-false}
use Rattle.format.specs.declared.leaf.Kind.{Kind}
use Rattle.format.specs.declared.leaf.Kind.TheVariants.{Plain, Copy, Client}
use Rattle.format.specs.declared.leaf.Leaf.{Leaf}
use Rattle.format.specs.declared.level.Layout.{Layout}
use Rattle.format.proofs.Basics.{or_true}
use Rattle.format.specs.Bytes.{same, hash_at}
use Rattle.format.proofs.BytesLaws.{same_eq}
use Rattle.format.specs.Parse.{pick, ok}
use Rattle.format.specs.Level.{holds}
use Rattle.format.proofs.LevelLaws.{holds_snoc}
use Rattle.path.specs.Search.{lookup}
use Rattle.format.specs.Bump.{Bump, bump_whole, head_of}
use Rattle.format.proofs.BumpLaws.{bump-whole-told}
use Rattle.encoding.specs.BumpBytes.{Carried, plain, copy, client, Entry, Content, carried_of, entry_of, EntryFit, and_entry, LevelFit, next_level, ContentFit, bump_bytes, content_of}
use Rattle.encoding.specs.Encode.{Fits}
use Rattle.path.specs.Path.{LAYERS, layers_of, leaf_in, leaf_at_place, bump_path_of, bump_path}
use Rattle.format.specs.Refusals.{MAX_HEIGHT}
use Rattle.path.proofs.PathLaws.{bump-leaf_in}
use Rattle.spv.specs.Result.{accepted}
use Rattle.spv.specs.Climb.{Sibling, value, copied, absent, Siblings, ascend, end_of}
use Rattle.spv.proofs.ClimbLaws.{ascend-same}
use Rattle.spv.proofs.ValuesLaws.{worked_same}
use Rattle.spv.specs.Siblings.{written, sibling, written_by, find_in, find_at, level_siblings}
use Rattle.spv.specs.Clients.{bump_clients}
use Rattle.spv.proofs.ClientsTheorems.{no_leaf, HasClient, AllReach, Agrees, clients-agree}
use Rattle.levels.specs.Standing.{Standing, stands, nothing, standing_in, standing}
use Rattle.levels.proofs.Within.{Within}
use Rattle.merging.specs.Merging.{Kept, keeps, clash, has_hash, agree, left_of, spots_from, is_clash, clashes, any_of, all_spots, over_limit, merged}
use Rattle.merging.proofs.MergingTheorems.{union, clashing, kept_standing, level-clash, spots_get, spots-length, merged-standing, merged-fits, merged-read}
use Rattle.climbs.specs.LookUp.{prefer, looked_up}
use Rattle.climbs.proofs.LookUpLaws.{looked_both}
use Rattle.merging.specs.Both.{both_siblings}
use Rattle.merging.proofs.BothLaws.{path_long}

-- ---- what stands at a place, as a climb sees it

unfoldable seen : Standing → Sibling
seen (stands (plain h)) = value h
seen (stands copy) = copied
seen (stands (client h)) = value h
seen nothing = absent

found_seen : (s : List ℕ) (q : ℕ) (l : List Leaf) → sibling s (lookup q l) ≡ seen (standing_in q (map (entry_of s) l))
unfolding lookup standing_in sibling seen written carried_of
found_seen s q [] = refl
found_seen s q (leaf ∷ l) = go (eqb leaf.offset q) (found_seen s q l)
  where
    kind : (k : Kind) → written s k ≡ seen (stands (carried_of s k))
    kind (Plain p) = refl
    kind Copy = refl
    kind (Client p) = refl

    go : (b : Bool) → sibling s (lookup q l) ≡ seen (standing_in q (map (entry_of s) l))
        → sibling s (pick b (Some leaf.kind) (lookup q l)) ≡ seen (pick b (stands (carried_of s leaf.kind)) (standing_in q (map (entry_of s) l)))
    go true r = kind leaf.kind
    go false r = r

levels_seen : (s : List ℕ) (b : Bump) (k q : ℕ) → written_by s (find_in b.levels) k q ≡ seen (standing (content_of s b) k q)
unfolding standing
levels_seen s b k q = found_seen s q (get_or b.levels k []) ∙ ap (λ (l : List Entry). seen (standing_in q l)) (sym (get_or-map (map (entry_of s)) b.levels k []))

-- ---- one place, where the two agree

module _ (l m : Standing) where
  unfoldable KeptSeen : Sibling → Kept → Type 0
  KeptSeen v w = is_clash w ≡ false → seen (kept_standing w) ≡ v

  agree_seen : (c d : Carried) → is_clash (agree l m c d) ≡ false → seen (kept_standing (agree l m c d)) ≡ prefer (seen (stands c)) (seen (stands d))
  unfolding agree seen kept_standing is_clash prefer
  agree_seen (plain h) (plain i) e = go (same h i) e
    where
      go : (b : Bool) → is_clash (pick b (keeps (plain h)) clash) ≡ false → seen (kept_standing (pick b (keeps (plain h)) clash)) ≡ value h
      go true e = refl
      go false e = absurd (false≢true (sym e))
  agree_seen (plain h) (client i) e = go (same h i) refl e
    where
      go : (b : Bool) → same h i ≡ b → is_clash (pick b (keeps (client i)) clash) ≡ false → seen (kept_standing (pick b (keeps (client i)) clash)) ≡ value h
      go true f e = ap value (sym (same_eq h i f))
      go false f e = absurd (false≢true (sym e))
  agree_seen (client h) (plain i) e = go (same h i) e
    where
      go : (b : Bool) → is_clash (pick b (keeps (client h)) clash) ≡ false → seen (kept_standing (pick b (keeps (client h)) clash)) ≡ value h
      go true e = refl
      go false e = absurd (false≢true (sym e))
  agree_seen (client h) (client i) e = go (same h i) e
    where
      go : (b : Bool) → is_clash (pick b (keeps (client h)) clash) ≡ false → seen (kept_standing (pick b (keeps (client h)) clash)) ≡ value h
      go true e = refl
      go false e = absurd (false≢true (sym e))
  agree_seen (plain h) copy e = go (has_hash h l || has_hash h m) e
    where
      go : (b : Bool) → is_clash (pick b (keeps (plain h)) clash) ≡ false → seen (kept_standing (pick b (keeps (plain h)) clash)) ≡ value h
      go true e = refl
      go false e = absurd (false≢true (sym e))
  agree_seen (client h) copy e = go (has_hash h l || has_hash h m) e
    where
      go : (b : Bool) → is_clash (pick b (keeps (client h)) clash) ≡ false → seen (kept_standing (pick b (keeps (client h)) clash)) ≡ value h
      go true e = refl
      go false e = absurd (false≢true (sym e))
  agree_seen copy (plain i) e = go (has_hash i l || has_hash i m) e
    where
      go : (b : Bool) → is_clash (pick b (keeps (plain i)) clash) ≡ false → seen (kept_standing (pick b (keeps (plain i)) clash)) ≡ value i
      go true e = refl
      go false e = absurd (false≢true (sym e))
  agree_seen copy (client i) e = go (has_hash i l || has_hash i m) e
    where
      go : (b : Bool) → is_clash (pick b (keeps (client i)) clash) ≡ false → seen (kept_standing (pick b (keeps (client i)) clash)) ≡ value i
      go true e = refl
      go false e = absurd (false≢true (sym e))
  agree_seen copy copy e = refl

  right_nothing : (v : Standing) → seen v ≡ prefer (seen v) absent
  unfolding seen prefer
  right_nothing (stands (plain h)) = refl
  right_nothing (stands copy) = refl
  right_nothing (stands (client h)) = refl
  right_nothing nothing = refl

  union_seen : (v w : Standing) → clashing l m v w ≡ false → seen (union l m v w) ≡ prefer (seen v) (seen w)
  unfolding union clashing seen prefer
  union_seen nothing nothing e = right_nothing nothing
  union_seen (stands c) nothing e = right_nothing (stands c)
  union_seen nothing (stands d) e = left (seen (stands d))
    where
      left : (v : Sibling) → v ≡ prefer (seen nothing) v
      left v = refl
  union_seen (stands c) (stands d) e = agree_seen c d e

  -- a client of the merged path is a client of one of the two
  client_from : (P : Type 0) (v w : Standing) (c : List ℕ) → clashing l m v w ≡ false → union l m v w ≡ stands (client c) → (v ≡ stands (client c) → P) → (w ≡ stands (client c) → P) → P
  unfolding union clashing agree kept_standing is_clash
  client_from P nothing nothing c e f a b = absurd (let z : ◌≡◌ {A = ℕ} 0 1 = cc in omega arith)
  client_from P (stands x) nothing c e f a b = a f
  client_from P nothing (stands y) c e f a b = b f
  client_from P (stands (plain h)) (stands (plain i)) c e f a b = go (same h i) e f
    where
      go : (t : Bool) → is_clash (pick t (keeps (plain h)) clash) ≡ false → kept_standing (pick t (keeps (plain h)) clash) ≡ stands (client c) → P
      go true e f = absurd (let z : ◌≡◌ {A = ℕ} 0 1 = cc in omega arith)
      go false e f = absurd (false≢true (sym e))
  client_from P (stands (plain h)) (stands (client i)) c e f a b = go (same h i) e f
    where
      go : (t : Bool) → is_clash (pick t (keeps (client i)) clash) ≡ false → kept_standing (pick t (keeps (client i)) clash) ≡ stands (client c) → P
      go true e f = b f
      go false e f = absurd (false≢true (sym e))
  client_from P (stands (client h)) (stands (plain i)) c e f a b = go (same h i) e f
    where
      go : (t : Bool) → is_clash (pick t (keeps (client h)) clash) ≡ false → kept_standing (pick t (keeps (client h)) clash) ≡ stands (client c) → P
      go true e f = a f
      go false e f = absurd (false≢true (sym e))
  client_from P (stands (client h)) (stands (client i)) c e f a b = go (same h i) e f
    where
      go : (t : Bool) → is_clash (pick t (keeps (client h)) clash) ≡ false → kept_standing (pick t (keeps (client h)) clash) ≡ stands (client c) → P
      go true e f = a f
      go false e f = absurd (false≢true (sym e))
  client_from P (stands (plain h)) (stands copy) c e f a b = go (has_hash h l || has_hash h m) e f
    where
      go : (t : Bool) → is_clash (pick t (keeps (plain h)) clash) ≡ false → kept_standing (pick t (keeps (plain h)) clash) ≡ stands (client c) → P
      go true e f = absurd (let z : ◌≡◌ {A = ℕ} 0 1 = cc in omega arith)
      go false e f = absurd (false≢true (sym e))
  client_from P (stands (client h)) (stands copy) c e f a b = go (has_hash h l || has_hash h m) e f
    where
      go : (t : Bool) → is_clash (pick t (keeps (client h)) clash) ≡ false → kept_standing (pick t (keeps (client h)) clash) ≡ stands (client c) → P
      go true e f = a f
      go false e f = absurd (false≢true (sym e))
  client_from P (stands copy) (stands (plain i)) c e f a b = go (has_hash i l || has_hash i m) e f
    where
      go : (t : Bool) → is_clash (pick t (keeps (plain i)) clash) ≡ false → kept_standing (pick t (keeps (plain i)) clash) ≡ stands (client c) → P
      go true e f = absurd (let z : ◌≡◌ {A = ℕ} 0 1 = cc in omega arith)
      go false e f = absurd (false≢true (sym e))
  client_from P (stands copy) (stands (client i)) c e f a b = go (has_hash i l || has_hash i m) e f
    where
      go : (t : Bool) → is_clash (pick t (keeps (client i)) clash) ≡ false → kept_standing (pick t (keeps (client i)) clash) ≡ stands (client c) → P
      go true e f = b f
      go false e f = absurd (false≢true (sym e))
  client_from P (stands copy) (stands copy) c e f a b = absurd (let z : ◌≡◌ {A = ℕ} 0 1 = cc in omega arith)

  kept-client : (t : Bool) (c : List ℕ) → is_clash (pick t (keeps (client c)) clash) ≡ false → kept_standing (pick t (keeps (client c)) clash) ≡ stands (client c)
  unfolding kept_standing is_clash
  kept-client true c e = refl
  kept-client false c e = absurd (false≢true (sym e))

  -- and a client of either stays one
  first-client : (w : Standing) (c : List ℕ) → clashing l m (stands (client c)) w ≡ false → union l m (stands (client c)) w ≡ stands (client c)
  unfolding union clashing agree
  first-client nothing c e = refl
  first-client (stands (plain i)) c e = kept-client (same c i) c e
  first-client (stands (client i)) c e = kept-client (same c i) c e
  first-client (stands copy) c e = kept-client (has_hash c l || has_hash c m) c e

  second-client : (v : Standing) (c : List ℕ) → clashing l m v (stands (client c)) ≡ false → union l m v (stands (client c)) ≡ stands (client c)
  unfolding union clashing agree kept_standing is_clash
  second-client nothing c e = refl
  second-client (stands (plain h)) c e = kept-client (same h c) c e
  second-client (stands (client h)) c e = go (same h c) refl e
    where
      go : (t : Bool) → same h c ≡ t → is_clash (pick t (keeps (client h)) clash) ≡ false → kept_standing (pick t (keeps (client h)) clash) ≡ stands (client c)
      go true f e = ap (λ (i : List ℕ). stands (client i)) (same_eq h c f)
      go false f e = absurd (false≢true (sym e))
  second-client (stands copy) c e = kept-client (has_hash c l || has_hash c m) c e

-- ---- leaves by index and by offset

-- a client that stands at an offset is one of the leaves
client-index : (s : List ℕ) (l : List Leaf) (o : ℕ) (c : List ℕ) → standing_in o (map (entry_of s) l) ≡ stands (client c)
    → (k : ℕ) × (p : ℕ) × (k < length l) × ((get_or l k no_leaf).kind ≡ Client p) × ((get_or l k no_leaf).offset ≡ o) × (hash_at s p ≡ c)
unfolding standing_in carried_of
client-index s [] o c e = absurd (let z : ◌≡◌ {A = ℕ} 0 1 = cc in omega arith)
client-index s (leaf ∷ l) o c e = go (eqb leaf.offset o) refl e (λ e. client-index s l o c e)
  where
    here : (kind : Kind) → leaf.kind ≡ kind → leaf.offset ≡ o → stands (carried_of s kind) ≡ stands (client c)
        → (k : ℕ) × (p : ℕ) × (k < length (leaf ∷ l)) × ((get_or (leaf ∷ l) k no_leaf).kind ≡ Client p) × ((get_or (leaf ∷ l) k no_leaf).offset ≡ o) × (hash_at s p ≡ c)
    here (Plain p) is f e = absurd (let z : ◌≡◌ {A = ℕ} 0 1 = cc in omega arith)
    here Copy is f e = absurd (let z : ◌≡◌ {A = ℕ} 0 1 = cc in omega arith)
    here (Client p) is f e = (0, p, omega arith, is, f, cc)

    go : (b : Bool) → eqb leaf.offset o ≡ b → pick b (stands (carried_of s leaf.kind)) (standing_in o (map (entry_of s) l)) ≡ stands (client c)
        → (standing_in o (map (entry_of s) l) ≡ stands (client c) → (k : ℕ) × (p : ℕ) × (k < length l) × ((get_or l k no_leaf).kind ≡ Client p) × ((get_or l k no_leaf).offset ≡ o) × (hash_at s p ≡ c))
        → (k : ℕ) × (p : ℕ) × (k < length (leaf ∷ l)) × ((get_or (leaf ∷ l) k no_leaf).kind ≡ Client p) × ((get_or (leaf ∷ l) k no_leaf).offset ≡ o) × (hash_at s p ≡ c)
    go true f e r = here leaf.kind refl (eqb-true leaf.offset o f) e
    go false f e r = let x = r e in (suc x.0, x.1, (let h = x.2 in omega arith), x.3, x.4, x.5)

-- in a level that fits, a leaf stands at its offset
fits_fresh : (s : List ℕ) (limit level : ℕ) (l : List Leaf) (before : List ℕ) (k : ℕ) → Fits (EntryFit limit level) and_entry before (map (entry_of s) l) → k < length l → holds (get_or l k no_leaf).offset before ≡ false
unfolding Fits
fits_fresh s limit level [] before k f h = absurd (omega arith)
fits_fresh s limit level (leaf ∷ l) before zero f h = f.0.1
fits_fresh s limit level (leaf ∷ l) before (suc k) f h =
    go (holds (get_or l k no_leaf).offset before) refl (sym (holds_snoc (get_or l k no_leaf).offset before leaf.offset) ∙ fits_fresh s limit level l (and_entry before (entry_of s leaf)) k f.1 (omega arith))
  where
    go : (b : Bool) → holds (get_or l k no_leaf).offset before ≡ b → (b || eqb (get_or l k no_leaf).offset leaf.offset) ≡ false → b ≡ false
    go true e g = absurd (false≢true (sym g))
    go false e g = refl

leaf-stands : (s : List ℕ) (limit level : ℕ) (l : List Leaf) (before : List ℕ) (k : ℕ) → Fits (EntryFit limit level) and_entry before (map (entry_of s) l) → k < length l
    → standing_in (get_or l k no_leaf).offset (map (entry_of s) l) ≡ stands (carried_of s (get_or l k no_leaf).kind)
unfolding Fits standing_in
leaf-stands s limit level [] before k f h = absurd (omega arith)
leaf-stands s limit level (leaf ∷ l) before zero f h = rw (eq-eqb leaf.offset leaf.offset refl)
leaf-stands s limit level (leaf ∷ l) before (suc k) f h =
    ap (λ (b : Bool). pick b (stands (carried_of s leaf.kind)) (standing_in (get_or l k no_leaf).offset (map (entry_of s) l))) (ne_eqb leaf.offset (get_or l k no_leaf).offset apart) ∙ leaf-stands s limit level l (and_entry before (entry_of s leaf)) k f.1 (omega arith)
  where
    apart : leaf.offset ≡ (get_or l k no_leaf).offset → ⊥
    apart e =
        let a : holds (get_or l k no_leaf).offset (and_entry before (entry_of s leaf)) ≡ true =
        holds_snoc (get_or l k no_leaf).offset before leaf.offset ∙ ap (λ (b : Bool). holds (get_or l k no_leaf).offset before || b) (eq-eqb (get_or l k no_leaf).offset leaf.offset (sym e)) ∙ or_true (holds (get_or l k no_leaf).offset before) in
        false≢true (sym (fits_fresh s limit level l (and_entry before (entry_of s leaf)) k f.1 (omega arith)) ∙ a)

-- ---- two BUMPs that were read, and that can be merged

first_fits : (s : List ℕ) (h : ℕ) (ls : List (List Leaf)) → Fits (LevelFit h) next_level 0 (map (map (entry_of s)) ls) → Fits (EntryFit (2 ^ (h - 0)) 0) and_entry [] (map (entry_of s) (get_or ls 0 []))
unfolding Fits
first_fits s h [] f = tt
first_fits s h (l ∷ ls) f = f.0.1

any_get : {A : Type 0} (t : List A → Bool) (l : List (List A)) (k : ℕ) → any_of t l ≡ false → k < length l → t (get_or l k []) ≡ false
unfolding any_of
any_get t [] k e h = absurd (omega arith)
any_get t (x ∷ l) zero e h = go (t x) refl e
  where
    go : (b : Bool) → t x ≡ b → (b || any_of t l) ≡ false → t x ≡ false
    go true f g = absurd (false≢true (sym g))
    go false f g = f
any_get t (x ∷ l) (suc k) e h = any_get t l k (go (t x) e) (omega arith)
  where
    go : (b : Bool) → (b || any_of t l) ≡ false → any_of t l ≡ false
    go true g = absurd (false≢true (sym g))
    go false g = g

calm_nothing : (l m v w : Standing) → v ≡ nothing → w ≡ nothing → clashing l m v w ≡ false
unfolding clashing
calm_nothing l m v w e f = rw (e, f) refl

pub calm_within : (x y : Content) → Within x → Within y → x.height ≡ y.height → any_of clashes (all_spots x y) ≡ false
    → (k o : ℕ) → clashing (left_of (standing x k) o) (left_of (standing y k) o) (standing x k o) (standing y k o) ≡ false
calm_within x y wx wy h calm k o = outer (leb x.height k) refl
  where
    outside : standing x k o ≡ nothing → standing y k o ≡ nothing → clashing (left_of (standing x k) o) (left_of (standing y k) o) (standing x k o) (standing y k o) ≡ false
    outside = calm_nothing (left_of (standing x k) o) (left_of (standing y k) o) (standing x k o) (standing y k o)

    inner : (b : Bool) → leb (2 ^ (x.height - k)) o ≡ b → k < x.height → clashing (left_of (standing x k) o) (left_of (standing y k) o) (standing x k o) (standing y k o) ≡ false
    inner true e g = let i = leb-true (2 ^ (x.height - k)) o e in outside (wx.inside k o i) (wy.inside k o (subst (λ (v : ℕ). 2 ^ (v - k) ≤ o) h i))
    inner false e g =
        let i = leb-false (2 ^ (x.height - k)) o e in
        let n = spots-length x y x.height 0 in
        let a = any_get clashes (all_spots x y) k calm (omega (arith, n)) in
        let z : 0 + k ≡ k = omega arith in
        let b : clashes (spots_from (standing x k) (standing y k) (2 ^ (x.height - k)) 0) ≡ false =
        ap clashes (sym (spots_get x y x.height 0 k g ∙ ap (λ (v : ℕ). spots_from (standing x v) (standing y v) (2 ^ (x.height - k)) 0) z)) ∙ a in
        level-clash (standing x k) (standing y k) (2 ^ (x.height - k)) 0 o b (omega arith) (omega arith)

    outer : (b : Bool) → leb x.height k ≡ b → clashing (left_of (standing x k) o) (left_of (standing y k) o) (standing x k o) (standing y k o) ≡ false
    outer true e = let i = leb-true x.height k e in outside (wx.below k o i) (wy.below k o (subst (λ (v : ℕ). v ≤ k) h i))
    outer false e = inner (leb (2 ^ (x.height - k)) o) refl (leb-false x.height k e)

level-zero : (s : List ℕ) (b : Bump) (o : ℕ) → standing (content_of s b) 0 o ≡ standing_in o (map (entry_of s) (get_or b.levels 0 []))
unfolding standing
level-zero s b o = ap (standing_in o) (get_or-map (map (entry_of s)) b.levels 0 [])

-- a client by its index stands at its offset
client-stands : (s : List ℕ) (b : Bump) → ContentFit (content_of s b) → (k p : ℕ) → k < length (get_or b.levels 0 []) → (get_or (get_or b.levels 0 []) k no_leaf).kind ≡ Client p
    → standing (content_of s b) 0 (get_or (get_or b.levels 0 []) k no_leaf).offset ≡ stands (client (hash_at s p))
unfolding carried_of
client-stands s b f k p h e =
    level-zero s b (get_or (get_or b.levels 0 []) k no_leaf).offset
    ∙ leaf-stands s (2 ^ (b.height - 0)) 0 (get_or b.levels 0 []) [] k (first_fits s b.height b.levels f.levels_fit) h
    ∙ ap (λ (kind : Kind). stands (carried_of s kind)) e

-- the climbs of clients by what stands
module _ (σ : Siblings) (h : ℕ) (r : List ℕ) where
  abbrev Climbs : (ℕ → Standing) → Type 0
  Climbs c = (o : ℕ) (id : List ℕ) → c o ≡ stands (client id) → end_of id (ascend σ 0 h o id) ≡ accepted r

  climbs-all : (s : List ℕ) (b : Bump) → ContentFit (content_of s b) → Climbs (standing (content_of s b) 0) → AllReach σ h s r (get_or b.levels 0 [])
  climbs-all s b f c k p g e = c (get_or (get_or b.levels 0 []) k no_leaf).offset (hash_at s p) (client-stands s b f k p g e)

  all-climbs : (s : List ℕ) (b : Bump) → AllReach σ h s r (get_or b.levels 0 []) → Climbs (standing (content_of s b) 0)
  all-climbs s b g o id e =
      let x = client-index s (get_or b.levels 0 []) o id (sym (level-zero s b o) ∙ e) in
      let c = g x.0 x.1 x.2 x.3 in
      let d : end_of (hash_at s x.1) (ascend σ 0 h o (hash_at s x.1)) ≡ accepted r = subst (λ (v : ℕ). end_of (hash_at s x.1) (ascend σ 0 h v (hash_at s x.1)) ≡ accepted r) x.4 c in
      subst (λ (v : List ℕ). end_of v (ascend σ 0 h o v) ≡ accepted r) x.5 d

-- a search in a path is one by its level's place
by_place : (s : List ℕ) (z : Bump) → z.height ≤ MAX_HEIGHT → (k j : ℕ) → k < z.height → leaf_in s (bump_path s z) k j ≡ find_at Layout.Bump s (bump_path s z).at k j
unfolding leaf_in leaf_at_place bump_path_of
by_place s z low k j l =
    let small : k < LAYERS = omega arith in
    let inside : k < layers_of z.height = omega arith in
    rw (lt-ltb k (layers_of z.height) inside, lt-ltb k LAYERS small)

module _ (a b : List ℕ) {x y : Bump} {p q : ℕ} (e : bump_whole a ≡ ok x p) (f : bump_whole b ≡ ok y q)
    (fx : ContentFit (content_of a x)) (fy : ContentFit (content_of b y)) (wx : Within (content_of a x)) (wy : Within (content_of b y)) (h : x.height ≡ y.height)
    (few : any_of over_limit (all_spots (content_of a x) (content_of b y)) ≡ false) (calm : any_of clashes (all_spots (content_of a x) (content_of b y)) ≡ false) where
  abbrev both : Content
  both = merged (content_of a x) (content_of b y)

  abbrev back : (z : Bump) × (bump_whole (bump_bytes both) ≡ ok z (length (bump_bytes both))) × (content_of (bump_bytes both) z ≡ both)
  back = merged-read (content_of a x) (content_of b y) fx fy few calm

  here : (k o : ℕ) → clashing (left_of (standing (content_of a x) k) o) (left_of (standing (content_of b y) k) o) (standing (content_of a x) k o) (standing (content_of b y) k o) ≡ false
  here = calm_within (content_of a x) (content_of b y) wx wy h calm

  -- what stands at a place of the merged path's reading
  stood : (k o : ℕ) → standing (content_of (bump_bytes both) back.0) k o
      ≡ union (left_of (standing (content_of a x) k) o) (left_of (standing (content_of b y) k) o) (standing (content_of a x) k o) (standing (content_of b y) k o)
  stood k o = ap (λ (c : Content). standing c k o) back.2 ∙ merged-standing (content_of a x) (content_of b y) wx wy h k o

  as_found : (s : List ℕ) {z : Bump} {n : ℕ} → bump_whole s ≡ ok z n → (k j : ℕ) → k < z.height → seen (standing (content_of s z) k j) ≡ written_by s (find_at Layout.Bump s (bump_path s z).at) k j
  as_found s {z} g k j l = sym (levels_seen s z k j) ∙ ap (sibling s) (sym (bump-leaf_in s z (bump-whole-told s g) k j l) ∙ by_place s z (bump-whole-told s g).low k j l)

  written_same : (k j : ℕ) → k < x.height → written_by (bump_bytes both) (find_in back.0.levels) k j ≡ looked_up a (bump_path a x).at b (bump_path b y).at k j
  written_same k j l =
      levels_seen (bump_bytes both) back.0 k j
      ∙ ap seen (stood k j)
      ∙ union_seen (left_of (standing (content_of a x) k) j) (left_of (standing (content_of b y) k) j) (standing (content_of a x) k j) (standing (content_of b y) k j) (here k j)
      ∙ ap (λ (v : Sibling). prefer v (seen (standing (content_of b y) k j))) (as_found a e k j l)
      ∙ ap (prefer (written_by a (find_at Layout.Bump a (bump_path a x).at) k j)) (as_found b f k j (omega (arith, h)))
      ∙ looked_both a (bump_path a x).at b (bump_path b y).at k j (written_by a (find_at Layout.Bump a (bump_path a x).at) k j) refl (written_by b (find_at Layout.Bump b (bump_path b y).at) k j) refl
      (let n = path_long b (head_of y) in let low = (bump-whole-told a e).low in omega arith)

  siblings-same : (k j : ℕ) → k < x.height → both_siblings a (bump_path a x).at b (bump_path b y).at k j ≡ level_siblings (bump_bytes both) back.0.levels k j
  unfolding level_siblings
  siblings-same k j l = sym (worked_same (written_by (bump_bytes both) (find_in back.0.levels)) (looked_up a (bump_path a x).at b (bump_path b y).at) x.height written_same k j l)

  height-same : back.0.height ≡ x.height
  unfolding merged
  height-same = ap (λ (c : Content). c.height) back.2

  -- a climb by what the two have written is one in the merged path
  climb_same : (o : ℕ) (id : List ℕ) → ascend (both_siblings a (bump_path a x).at b (bump_path b y).at) 0 x.height o id ≡ ascend (level_siblings (bump_bytes both) back.0.levels) 0 x.height o id
  climb_same o id = ascend-same (both_siblings a (bump_path a x).at b (bump_path b y).at) (level_siblings (bump_bytes both) back.0.levels) x.height siblings-same o id

  module _ (r : List ℕ) where
    abbrev All : (s : List ℕ) → Bump → Type 0
    All s z = AllReach (both_siblings a (bump_path a x).at b (bump_path b y).at) x.height s r (get_or z.levels 0 [])

    pub both-reach : HasClient (get_or x.levels 0 []) → All a x → All b y → bump_clients (bump_bytes both) ≡ accepted r
    both-reach c ga gb =
        (clients-agree (bump_bytes both) r).1
        (record {
          bump = back.0;
          next = length (bump_bytes both);
          read = back.1;
          some = (client-there.0, client-there.2, (client-there.1, client-there.3));
          all = subst (λ (n : ℕ). AllReach (level_siblings (bump_bytes both) back.0.levels) n (bump_bytes both) r (get_or back.0.levels 0 [])) (sym height-same)
              (climbs-all (level_siblings (bump_bytes both) back.0.levels) x.height r (bump_bytes both) back.0 (subst ContentFit (sym back.2) (merged-fits (content_of a x) (content_of b y) fx fy few calm)) reach);
        })
      where
        o : ℕ
        o = (get_or (get_or x.levels 0 []) c.0 no_leaf).offset

        id : List ℕ
        id = hash_at a c.2.0

        client-there : (k : ℕ) × (p : ℕ) × (k < length (get_or back.0.levels 0 [])) × ((get_or (get_or back.0.levels 0 []) k no_leaf).kind ≡ Client p) × ((get_or (get_or back.0.levels 0 []) k no_leaf).offset ≡ o) × (hash_at (bump_bytes both) p ≡ id)
        client-there =
            client-index (bump_bytes both) (get_or back.0.levels 0 []) o id
            (sym (level-zero (bump_bytes both) back.0 o) ∙ stood 0 o ∙ stays)
          where
            first : standing (content_of a x) 0 o ≡ stands (client id)
            first = client-stands a x fx c.0 c.2.0 c.1 c.2.1

            stays : union (left_of (standing (content_of a x) 0) o) (left_of (standing (content_of b y) 0) o) (standing (content_of a x) 0 o) (standing (content_of b y) 0 o) ≡ stands (client id)
            stays =
                ap (λ (v : Standing). union (left_of (standing (content_of a x) 0) o) (left_of (standing (content_of b y) 0) o) v (standing (content_of b y) 0 o)) first
                ∙ first-client (left_of (standing (content_of a x) 0) o) (left_of (standing (content_of b y) 0) o) (standing (content_of b y) 0 o) id
                (ap (λ (v : Standing). clashing (left_of (standing (content_of a x) 0) o) (left_of (standing (content_of b y) 0) o) v (standing (content_of b y) 0 o)) (sym first) ∙ here 0 o)

        reach : Climbs (level_siblings (bump_bytes both) back.0.levels) x.height r (standing (content_of (bump_bytes both) back.0) 0)
        reach o id s =
            ap (end_of id) (sym (climb_same o id))
            ∙ client_from (left_of (standing (content_of a x) 0) o) (left_of (standing (content_of b y) 0) o) (end_of id (ascend (both_siblings a (bump_path a x).at b (bump_path b y).at) 0 x.height o id) ≡ accepted r)
            (standing (content_of a x) 0 o) (standing (content_of b y) 0 o) id (here 0 o) (sym (stood 0 o) ∙ s)
            (all-climbs (both_siblings a (bump_path a x).at b (bump_path b y).at) x.height r a x ga o id)
            (all-climbs (both_siblings a (bump_path a x).at b (bump_path b y).at) x.height r b y gb o id)

    pub reach-both : bump_clients (bump_bytes both) ≡ accepted r → All a x × All b y
    reach-both g = (climbs-all (both_siblings a (bump_path a x).at b (bump_path b y).at) x.height r a x fx first, climbs-all (both_siblings a (bump_path a x).at b (bump_path b y).at) x.height r b y fy second)
      where
        agrees : Agrees (bump_bytes both) r
        agrees = (clients-agree (bump_bytes both) r).0 g

        one-bump : agrees.bump ≡ back.0
        one-bump = let i = sym agrees.read ∙ back.1 in cc

        merged-climbs : Climbs (level_siblings (bump_bytes both) back.0.levels) x.height r (standing (content_of (bump_bytes both) back.0) 0)
        merged-climbs =
            subst (λ (n : ℕ). Climbs (level_siblings (bump_bytes both) back.0.levels) n r (standing (content_of (bump_bytes both) back.0) 0)) height-same
            (all-climbs (level_siblings (bump_bytes both) back.0.levels) back.0.height r (bump_bytes both) back.0
            (subst (λ (z : Bump). AllReach (level_siblings (bump_bytes both) z.levels) z.height (bump_bytes both) r (get_or z.levels 0 [])) one-bump agrees.all))

        first : Climbs (both_siblings a (bump_path a x).at b (bump_path b y).at) x.height r (standing (content_of a x) 0)
        first o id s =
            ap (end_of id) (climb_same o id)
            ∙ merged-climbs o id
            (stood 0 o
            ∙ ap (λ (v : Standing). union (left_of (standing (content_of a x) 0) o) (left_of (standing (content_of b y) 0) o) v (standing (content_of b y) 0 o)) s
            ∙ first-client (left_of (standing (content_of a x) 0) o) (left_of (standing (content_of b y) 0) o) (standing (content_of b y) 0 o) id
            (ap (λ (v : Standing). clashing (left_of (standing (content_of a x) 0) o) (left_of (standing (content_of b y) 0) o) v (standing (content_of b y) 0 o)) (sym s) ∙ here 0 o))

        second : Climbs (both_siblings a (bump_path a x).at b (bump_path b y).at) x.height r (standing (content_of b y) 0)
        second o id s =
            ap (end_of id) (climb_same o id)
            ∙ merged-climbs o id
            (stood 0 o
            ∙ ap (λ (v : Standing). union (left_of (standing (content_of a x) 0) o) (left_of (standing (content_of b y) 0) o) (standing (content_of a x) 0 o) v) s
            ∙ second-client (left_of (standing (content_of a x) 0) o) (left_of (standing (content_of b y) 0) o) (standing (content_of a x) 0 o) id
            (ap (λ (v : Standing). clashing (left_of (standing (content_of a x) 0) o) (left_of (standing (content_of b y) 0) o) (standing (content_of a x) 0 o) v) (sym s) ∙ here 0 o))
