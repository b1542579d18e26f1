-- An accepted position exists: it is below 2 ^ layers (01, "Layouts", "Slips seen on the course").
use Prim.Native.Nat.{ℕ, zero, suc, ◌+◌, ◌-◌, ◌^◌, ◌<◌}
use mathlib.Core.Path.{◌≡◌, refl, sym, ap, ◌∙◌, subst}
use mathlib.Core.Bool.{Bool, true, false, ◌&&◌, ◌||◌, not}
use mathlib.Core.List.{List, [], ◌∷◌, reverse, reverse-cons}
use lib.ListN.{length, get_or, length-reverse, get_or-append}
use lib.Dec.{eqb, ltb, leb}
use native.Mathlib.Omega.{arith}
use native.Mathlib.Nat.{add-zero, zero-lt-suc}
use borrow.Author.Tests.{eqb-true, ltb-true}
use Rattle.format.specs.declared.level.Layout.{Layout}
use Rattle.format.specs.declared.leaf.Leaf.{Leaf}
use Rattle.format.specs.declared.leaf.Kind.{Kind}
use Rattle.format.specs.declared.leaf.Kind.TheVariants.{Plain, Copy, Client}
use Rattle.path.specs.declared.path.Form.{Form}
use Rattle.std.specs.Prelude.{Option, Some, None}
use Rattle.format.specs.Parse.{Parse, ok, many, ◌passing◌else◌}
use Rattle.format.proofs.ParseLaws.{onward-told, passing_told, many-told, many-length}
use Rattle.format.specs.Field.{varint}
use Rattle.format.specs.Level.{holds, offset_field, carried_field, leaf_field, level_field, level_in_turn, next_turn, level_of_turn, and_offset}
use Rattle.format.specs.Refusals.{OVER_LIMIT, BAD_OFFSET, REPEATED, MAX_LEAVES}
use Rattle.format.proofs.BytesLaws.{same_eq, hash-at-length}
use Rattle.path.specs.Search.{carries, least_offset}
use Rattle.format.specs.Bump.{Bump, bump_whole}
use Rattle.format.specs.Cmp.{Cmp, cmp_whole}
use Rattle.format.specs.Tsc.{Tsc, tsc_whole, index_fits}
use Rattle.format.proofs.TscLaws.{TscRead, tsc-whole-told}
use Rattle.format.proofs.BumpLaws.{BumpRead, bump-whole-told, CmpRead, cmp-whole-told}
use Rattle.spv.specs.Result.{accepted}
use Rattle.spv.proofs.CompareLaws.{prove-accepted}
use Rattle.spv.specs.Siblings.{level_siblings, node_siblings}
use Rattle.format.specs.Id.{subject_id}
use Rattle.spv.proofs.ReadingsLaws.{read-proved}
use Rattle.spv.specs.Readings.{starting, levels_reading, bump_reading_up_to, cmp_reading_up_to, tsc_target, tsc_reading_up_to, reading, reading_up_to}
use Rattle.spv.proofs.Surplus.{carried_at, Least, least-is}
use Rattle.format.specs.Bytes.{hash_at}
use Rattle.spv.specs.Prove.{Proof, prove_by, prove, any, read}

-- every offset is below n
unfoldable pub Below : ℕ → List Leaf → Type 0
Below n [] = Unit
Below n (leaf ∷ l) = (leaf.offset < n) × Below n l

-- ---- what reading tests

leaf-below : (layout : Layout) (limit level : ℕ) (seen s : List ℕ) (at : ℕ) {leaf : Leaf} {q : ℕ} → leaf_field layout limit level seen s at ≡ ok leaf q → leaf.offset < limit
unfolding leaf_field offset_field
leaf-below layout limit level seen s at {leaf} {q} e =
    let x = onward-told (offset_field limit seen s at) _ e in
    let y = onward-told (carried_field layout level x.0 s x.1) _ x.3 in
    let o = passing_told (varint passing (λ o. ltb o limit) else BAD_OFFSET) (λ o. not (holds o seen)) REPEATED s at x.2 in
    let v = passing_told varint (λ o. ltb o limit) BAD_OFFSET s at o.0 in
    let is : ◌≡◌ {A = Parse Leaf} (ok (record { offset = x.0; kind = y.0 }) y.1) (ok leaf q) = y.3 in
    built x.0 y.0 y.1 (ltb-true x.0 limit v.1) is
  where
    built : (o : ℕ) (kind : Kind) (r : ℕ) → o < limit → ◌≡◌ {A = Parse Leaf} (ok (record { offset = o; kind = kind }) r) (ok leaf q) → leaf.offset < limit
    built o kind r h is = let z : record { offset = o; kind = kind } ≡ leaf = cc in rw (← z) h

leaves-below : (layout : Layout) (limit level n : ℕ) (seen s : List ℕ) (at : ℕ) {l : List Leaf} {q : ℕ} → many (leaf_field layout limit level) and_offset n seen s at ≡ ok l q → Below limit l
unfolding Below many
leaves-below layout limit level zero seen s at {l} {q} e = let z : [] ≡ l = cc in subst (Below limit) z tt
leaves-below layout limit level (suc n) seen s at {l} {q} e =
    let x = many-told (leaf_field layout limit level) and_offset n seen s at e in
    subst (Below limit) x.5 (leaf-below layout limit level seen s at x.3, leaves-below layout limit level n (and_offset seen x.0) s x.1 x.4)

level-below : (layout : Layout) (limit level : ℕ) (s : List ℕ) (at : ℕ) {l : List Leaf} {q : ℕ} → level_field layout limit level s at ≡ ok l q → Below limit l
unfolding level_field
level-below layout limit level s at e =
    let x = onward-told ((varint passing (λ n. leb n MAX_LEAVES) else OVER_LIMIT) s at) _ e in
    leaves-below layout limit level x.0 [] s x.1 x.3

-- the level written in turn i + j
levels-below : (layout : Layout) (height n i : ℕ) (s : List ℕ) (at : ℕ) {ls : List (List Leaf)} {q : ℕ} → many (level_in_turn layout height) next_turn n i s at ≡ ok ls q
    → (j : ℕ) → j < n → Below (2 ^ (height - level_of_turn layout height (i + j))) (get_or ls j [])
levels-below layout height zero i s at e j h = absurd (omega arith)
levels-below layout height (suc n) i s at {ls} e j h =
    let x = many-told (level_in_turn layout height) next_turn n i s at e in
    go x.0 x.2 x.5 (level-below layout _ _ s at x.3) (λ m k. levels-below layout height n (i + 1) s x.1 x.4 m k) j h
  where
    go : (l : List Leaf) (rest : List (List Leaf)) → l ∷ rest ≡ ls → Below (2 ^ (height - level_of_turn layout height i)) l
        → ((m : ℕ) → m < n → Below (2 ^ (height - level_of_turn layout height (i + 1 + m))) (get_or rest m []))
        → (j : ℕ) → j < suc n → Below (2 ^ (height - level_of_turn layout height (i + j))) (get_or ls j [])
    go l rest d first later zero h = rw (add-zero, ← d) first
    go l rest d first later (suc j) h = let k : i + suc j ≡ i + 1 + j = omega arith in rw (k, ← d) (later j (omega arith))

-- ---- level 0

pub bump-below : (s : List ℕ) {q : ℕ} (b : Bump) → BumpRead s q b → Below (2 ^ b.height) (get_or b.levels 0 [])
unfolding level_of_turn
bump-below s b r =
    let e : b.height - level_of_turn Layout.Bump b.height (0 + 0) ≡ b.height = omega arith in
    rw e at (levels-below Layout.Bump b.height b.height 0 s b.start r.levels 0 r.some)

reverse-first : {A : Type 0} (l : List A) (d : A) → 0 < length l → get_or (reverse l) 0 d ≡ get_or l (length l - 1) d
reverse-first [] d h = absurd (omega arith)
reverse-first (x ∷ []) d h = refl
reverse-first {A = A} (x ∷ (y ∷ l)) d h =
    let e : suc (suc (length l) - 1) ≡ suc (suc (length l)) - 1 = omega arith in
    ap (λ (m : List A). get_or m 0 d) (reverse-cons x (y ∷ l))
    ∙ get_or-append (reverse (y ∷ l)) (x ∷ []) d 0 (rw (length-reverse (y ∷ l)) (zero-lt-suc (length l)))
    ∙ reverse-first (y ∷ l) d (zero-lt-suc (length l))
    ∙ ap (λ (m : ℕ). get_or (x ∷ (y ∷ l)) m d) e

cmp-below : (s : List ℕ) {q : ℕ} (p : Cmp) → CmpRead s q p → Below (2 ^ p.height) (get_or p.levels 0 [])
unfolding level_of_turn
cmp-below s p r = go r.levels.0 (many-length _ _ _ _ s p.start r.levels.1) r.levels.2 (λ j h. levels-below Layout.Cmp p.height p.height 0 s p.start r.levels.1 j h)
  where
    go : (down : List (List Leaf)) → length down ≡ p.height → reverse down ≡ p.levels
        → ((j : ℕ) → j < p.height → Below (2 ^ (p.height - level_of_turn Layout.Cmp p.height (0 + j))) (get_or down j []))
        → Below (2 ^ p.height) (get_or p.levels 0 [])
    go down l d f =
        let some = r.some in
        let last : get_or p.levels 0 [] ≡ get_or down (p.height - 1) [] =
        ap (λ (m : List (List Leaf)). get_or m 0 []) (sym d) ∙ reverse-first down [] (omega arith) ∙ ap (λ (n : ℕ). get_or down (n - 1) []) l in
        let e : p.height - level_of_turn Layout.Cmp p.height (0 + (p.height - 1)) ≡ p.height = omega arith in
        rw last (rw e at (f (p.height - 1) (omega arith)))

-- ---- the start

carries-long : (s id : List ℕ) (kind : Kind) → carries s id kind ≡ true → length id ≡ 32
unfolding carries
carries-long s id (Plain p) e = ap length (sym (same_eq (hash_at s p) id e)) ∙ hash-at-length s p
carries-long s id Copy e = let z : ◌≡◌ {A = ℕ} 0 1 = cc in absurd (omega arith)
carries-long s id (Client p) e = ap length (sym (same_eq (hash_at s p) id e)) ∙ hash-at-length s p

-- a leaf at the offset that carries the id
pub record Carrier (s id : List ℕ) (o : ℕ) (l : List Leaf) : Type 0 where
  pub below : (n : ℕ) → Below n l → o < n
  pub long : length id ≡ 32

pub carrier : (s id : List ℕ) (o : ℕ) (l : List Leaf) → carried_at s id o l ≡ true → Carrier s id o l
unfolding carried_at Below
carrier s id o [] e = let z : ◌≡◌ {A = ℕ} 0 1 = cc in absurd (omega arith)
carrier s id o (leaf ∷ l) e = go (eqb leaf.offset o) refl (carries s id leaf.kind) refl e (λ f. carrier s id o l f)
  where
    later : Carrier s id o l → Carrier s id o (leaf ∷ l)
    later c = record { below = λ n b. c.below n b.1; long = c.long }

    go : (x : Bool) → eqb leaf.offset o ≡ x → (y : Bool) → carries s id leaf.kind ≡ y → ((x && y) || carried_at s id o l) ≡ true → (carried_at s id o l ≡ true → Carrier s id o l) → Carrier s id o (leaf ∷ l)
    go true ex true ey f c = record { below = λ n b. rw (← eqb-true leaf.offset o ex) b.0; long = carries-long s id leaf.kind ey }
    go true ex false ey f c = later (c f)
    go false ex y ey f c = later (c f)

starting-told : (s id : List ℕ) (h n : ℕ) (levels : List (List Leaf)) (x : Option ℕ) → Below n (get_or levels 0 []) → Least s id (get_or levels 0 []) x → (p : Proof)
    → prove (starting (level_siblings s levels) h id x) ≡ accepted p → (p.position < n) × (p.layers ≡ h)
unfolding starting Least prove_by
starting-told s id h n levels (Some i) b l p e =
    let y = (prove-accepted (level_siblings s levels) h i id any p e).0 in
    (rw (ap (λ (q : Proof). q.position) y) ((carrier s id i (get_or levels 0 []) l.0).below n b), ap (λ (q : Proof). q.layers) y)
starting-told s id h n levels None b l p e = let z : ◌≡◌ {A = ℕ} 0 1 = cc in absurd (omega arith)

-- an id that the levels prove
pub levels-position : (s id : List ℕ) (h : ℕ) (levels : List (List Leaf)) → Below (2 ^ h) (get_or levels 0 []) → (p : Proof) → prove (levels_reading s h levels id) ≡ accepted p → p.position < 2 ^ p.layers
unfolding levels_reading
levels-position s id h levels b p e =
    let x = starting-told s id h (2 ^ h) levels (least_offset s id (get_or levels 0 [])) b (least-is s id (get_or levels 0 [])) p e in
    rw x.1 x.0

tsc-position : (s : List ℕ) (t : Tsc) {q : ℕ} → TscRead s q t → (p : Proof) → prove (read (node_siblings s t.nodes) (length t.nodes) t.index (subject_id s t.subject) (tsc_target s t)) ≡ accepted p
    → p.position < 2 ^ p.layers
unfolding index_fits
tsc-position s t r p e =
    let y = (prove-accepted (node_siblings s t.nodes) (length t.nodes) t.index (subject_id s t.subject) (tsc_target s t) p e).0 in
    rw (ap (λ (x : Proof). x.position) y, ap (λ (x : Proof). x.layers) y) (ltb-true _ _ r.fits)

-- of every form
pub position_exists : (form : Form) (s id : List ℕ) (p : Proof) → prove (reading form s id) ≡ accepted p → p.position < 2 ^ p.layers
unfolding reading_up_to bump_reading_up_to cmp_reading_up_to tsc_reading_up_to
position_exists Form.Bump s id p e =
    let r = read-proved (bump_whole s) _ p e in
    levels-position s id r.0.height r.0.levels (bump-below s r.0 (bump-whole-told s r.2)) p r.3
position_exists Form.Cmp s id p e =
    let r = read-proved (cmp_whole s) _ p e in
    levels-position s id r.0.height r.0.levels (cmp-below s r.0 (cmp-whole-told s r.2)) p r.3
position_exists Form.Tsc s id p e =
    let r = read-proved (tsc_whole s) _ p e in
    tsc-position s r.0 (tsc-whole-told s r.2) p r.3
