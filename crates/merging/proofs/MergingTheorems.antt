-- What is known of two BUMPs merged: which leaves the merged path has, that their offsets rise, and that its bytes are read back.
use mathlib.Core.Path.{◌≡◌, refl, ap, sym, subst, ◌∙◌}
use mathlib.Core.List.{List, [], ◌∷◌, map}
use mathlib.Core.Bool.{Bool, true, false, ◌||◌, false≢true}
use Prim.Native.Nat.{ℕ, zero, suc, ◌+◌, ◌-◌, ◌^◌, ◌<◌, ◌≤◌}
use lib.ListN.{length, get_or, get_or-map, get_or-eq_default, length-map}
use lib.Dec.{eqb, leb}
use native.Mathlib.Omega.{arith}
use borrow.Author.Tests.{eqb-true, eqb-false, leb-true, leb-false, not-false}
use Rattle.format.specs.Bytes.{same}
use Rattle.format.specs.Parse.{pick, ok}
use Rattle.format.specs.Refusals.{MAX_LEAVES}
use Rattle.format.specs.Level.{holds}
use Rattle.format.proofs.LevelLaws.{holds_snoc}
use Rattle.format.specs.Bump.{Bump, bump_whole}
use Rattle.encoding.specs.BumpBytes.{Carried, plain, copy, client, Entry, Content, CarriedFit, EntryFit, and_entry, LevelFit, next_level, ContentFit, bump_bytes, content_of}
use Rattle.encoding.proofs.BumpRoundTrip.{bump-read_back}
use Rattle.encoding.specs.Encode.{Fits}
use Rattle.levels.specs.Standing.{Standing, stands, nothing, standing_in, standing}
use Rattle.levels.proofs.Within.{Within}
use Rattle.levels.proofs.InOrder.{From, Under, InOrder, under_weaken, standing-below, standing-above, from_weaken}
use Rattle.merging.specs.Merging.{Kept, keeps, clash, has_hash, agree, left_of, Spot, unite, spots_from, spots, is_clash, clashes, keep, kept_of, any_of, all_spots, over_limit, merged}

-- ---- one place

-- what stands where a leaf is kept
unfoldable pub kept_standing : Kept → Standing
kept_standing (keeps c) = stands c
kept_standing clash = nothing

-- what the merged path has, by what the two have there and on the left
unfoldable pub union : Standing → Standing → Standing → Standing → Standing
union l m nothing nothing = nothing
union l m (stands c) nothing = stands c
union l m nothing (stands d) = stands d
union l m (stands c) (stands d) = kept_standing (agree l m c d)

-- the two can't both be kept
unfoldable pub clashing : Standing → Standing → Standing → Standing → Bool
clashing l m nothing nothing = false
clashing l m (stands c) nothing = false
clashing l m nothing (stands d) = false
clashing l m (stands c) (stands d) = is_clash (agree l m c d)

-- ---- a level

module _ (c d : ℕ → Standing) where
  abbrev here : ℕ → Standing
  here p = union (left_of c p) (left_of d p) (c p) (d p)

  -- one offset more, in front of those from suc o on
  kept_at : (o p : ℕ) (l m x y : Standing) (rest : List Spot) → From (suc o) (kept_of rest) → standing_in p (kept_of (unite o l m x y rest)) ≡ pick (eqb o p) (union l m x y) (standing_in p (kept_of rest))
  unfolding unite kept_of keep union kept_standing standing_in
  kept_at o p l m nothing nothing rest f = go (eqb o p) refl
    where
      go : (b : Bool) → eqb o p ≡ b → standing_in p (kept_of rest) ≡ pick b nothing (standing_in p (kept_of rest))
      go true e = let g = eqb-true o p e in standing-below p (suc o) (kept_of rest) f (omega arith)
      go false e = refl
  kept_at o p l m (stands x) nothing rest f = refl
  kept_at o p l m nothing (stands y) rest f = refl
  kept_at o p l m (stands x) (stands y) rest f = both (agree l m x y)
    where
      go : (b : Bool) → eqb o p ≡ b → standing_in p (kept_of rest) ≡ pick b nothing (standing_in p (kept_of rest))
      go true e = let g = eqb-true o p e in standing-below p (suc o) (kept_of rest) f (omega arith)
      go false e = refl

      both : (v : Kept) → standing_in p (keep o v (kept_of rest)) ≡ pick (eqb o p) (kept_standing v) (standing_in p (kept_of rest))
      both (keeps e) = refl
      both clash = go (eqb o p) refl

  kept_from : (q o : ℕ) (l m x y : Standing) (rest : List Spot) → q ≤ o → From q (kept_of rest) → From q (kept_of (unite o l m x y rest))
  unfolding unite kept_of keep From
  kept_from q o l m nothing nothing rest h f = f
  kept_from q o l m (stands x) nothing rest h f = (h, f)
  kept_from q o l m nothing (stands y) rest h f = (h, f)
  kept_from q o l m (stands x) (stands y) rest h f = both (agree l m x y)
    where
      both : (v : Kept) → From q (keep o v (kept_of rest))
      both (keeps e) = (h, f)
      both clash = f

  kept_under : (q o : ℕ) (l m x y : Standing) (rest : List Spot) → o < q → Under q (kept_of rest) → Under q (kept_of (unite o l m x y rest))
  unfolding unite kept_of keep Under
  kept_under q o l m nothing nothing rest h f = f
  kept_under q o l m (stands x) nothing rest h f = (h, f)
  kept_under q o l m nothing (stands y) rest h f = (h, f)
  kept_under q o l m (stands x) (stands y) rest h f = both (agree l m x y)
    where
      both : (v : Kept) → Under q (keep o v (kept_of rest))
      both (keeps e) = (h, f)
      both clash = f

  kept_order : (o : ℕ) (l m x y : Standing) (rest : List Spot) → From (suc o) (kept_of rest) → InOrder (kept_of rest) → InOrder (kept_of (unite o l m x y rest))
  unfolding unite kept_of keep InOrder
  kept_order o l m nothing nothing rest f i = i
  kept_order o l m (stands x) nothing rest f i = (f, i)
  kept_order o l m nothing (stands y) rest f i = (f, i)
  kept_order o l m (stands x) (stands y) rest f i = both (agree l m x y)
    where
      both : (v : Kept) → InOrder (keep o v (kept_of rest))
      both (keeps e) = (f, i)
      both clash = i

  pub level_from : (n o : ℕ) → From o (kept_of (spots_from c d n o))
  unfolding spots_from kept_of From
  level_from zero o = tt
  level_from (suc n) o = kept_from o o (left_of c o) (left_of d o) (c o) (d o) (spots_from c d n (suc o)) (omega arith) (from_weaken o (suc o) (kept_of (spots_from c d n (suc o))) (omega arith) (level_from n (suc o)))

  pub level-under : (n o : ℕ) → Under (o + n) (kept_of (spots_from c d n o))
  unfolding spots_from kept_of Under
  level-under zero o = tt
  level-under (suc n) o =
      kept_under (o + suc n) o (left_of c o) (left_of d o) (c o) (d o) (spots_from c d n (suc o)) (omega arith)
      (let e : suc o + n ≤ o + suc n = omega arith in under_weaken (suc o + n) (o + suc n) (kept_of (spots_from c d n (suc o))) e (level-under n (suc o)))

  pub level_order : (n o : ℕ) → InOrder (kept_of (spots_from c d n o))
  unfolding spots_from kept_of InOrder
  level_order zero o = tt
  level_order (suc n) o = kept_order o (left_of c o) (left_of d o) (c o) (d o) (spots_from c d n (suc o)) (level_from n (suc o)) (level_order n (suc o))

  -- what stands at an offset
  pub level-at : (n o p : ℕ) → o ≤ p → p < o + n → standing_in p (kept_of (spots_from c d n o)) ≡ here p
  unfolding spots_from
  level-at zero o p h g = absurd (omega arith)
  level-at (suc n) o p h g =
      kept_at o p (left_of c o) (left_of d o) (c o) (d o) (spots_from c d n (suc o)) (level_from n (suc o)) ∙ go (eqb o p) refl (λ i j. level-at n (suc o) p i j)
    where
      go : (b : Bool) → eqb o p ≡ b → (suc o ≤ p → p < suc o + n → standing_in p (kept_of (spots_from c d n (suc o))) ≡ here p) → pick b (here o) (standing_in p (kept_of (spots_from c d n (suc o)))) ≡ here p
      go true e r = ap here (eqb-true o p e)
      go false e r = let f = eqb-false o p e in r (omega arith) (omega arith)

  -- ---- where nothing clashes, every spot is kept

  spot-clash : (o : ℕ) (l m x y : Standing) (rest : List Spot) → clashes (unite o l m x y rest) ≡ (clashing l m x y || clashes rest)
  unfolding unite clashes clashing is_clash
  spot-clash o l m nothing nothing rest = refl
  spot-clash o l m (stands x) nothing rest = refl
  spot-clash o l m nothing (stands y) rest = refl
  spot-clash o l m (stands x) (stands y) rest = refl

  pub level-clash : (n o p : ℕ) → clashes (spots_from c d n o) ≡ false → o ≤ p → p < o + n → clashing (left_of c p) (left_of d p) (c p) (d p) ≡ false
  unfolding spots_from
  level-clash zero o p e h g = absurd (omega arith)
  level-clash (suc n) o p e h g =
      go (eqb o p) refl (either (clashing (left_of c o) (left_of d o) (c o) (d o)) (clashes (spots_from c d n (suc o))) (sym (spot-clash o (left_of c o) (left_of d o) (c o) (d o) (spots_from c d n (suc o))) ∙ e))
      (λ f i j. level-clash n (suc o) p f i j)
    where
      either : (a b : Bool) → (a || b) ≡ false → (a ≡ false) × (b ≡ false)
      either true b f = absurd (false≢true (sym f))
      either false b f = (refl, f)

      go : (b : Bool) → eqb o p ≡ b → (clashing (left_of c o) (left_of d o) (c o) (d o) ≡ false) × (clashes (spots_from c d n (suc o)) ≡ false)
          → (clashes (spots_from c d n (suc o)) ≡ false → suc o ≤ p → p < suc o + n → clashing (left_of c p) (left_of d p) (c p) (d p) ≡ false)
          → clashing (left_of c p) (left_of d p) (c p) (d p) ≡ false
      go true f t r = subst (λ (q : ℕ). clashing (left_of c q) (left_of d q) (c q) (d q) ≡ false) (eqb-true o p f) t.0
      go false f t r = let u = eqb-false o p f in r t.1 (omega arith) (omega arith)

  kept-length : (o : ℕ) (l m x y : Standing) (rest : List Spot) → clashing l m x y ≡ false → length (kept_of rest) ≡ length rest → length (kept_of (unite o l m x y rest)) ≡ length (unite o l m x y rest)
  unfolding unite kept_of keep clashing is_clash
  kept-length o l m nothing nothing rest e f = f
  kept-length o l m (stands x) nothing rest e f = ap suc f
  kept-length o l m nothing (stands y) rest e f = ap suc f
  kept-length o l m (stands x) (stands y) rest e f = both (agree l m x y) e
    where
      both : (v : Kept) → is_clash v ≡ false → length (keep o v (kept_of rest)) ≡ suc (length rest)
      both (keeps w) g = ap suc f
      both clash g = absurd (false≢true (sym g))

  pub level-length : (n o : ℕ) → clashes (spots_from c d n o) ≡ false → length (kept_of (spots_from c d n o)) ≡ length (spots_from c d n o)
  unfolding spots_from kept_of
  level-length zero o e = refl
  level-length (suc n) o e =
      kept-length o (left_of c o) (left_of d o) (c o) (d o) (spots_from c d n (suc o)) (level-clash (suc n) o o e (omega arith) (omega arith)) (level-length n (suc o) (rest (clashing (left_of c o) (left_of d o) (c o) (d o)) (sym (spot-clash o (left_of c o) (left_of d o) (c o) (d o) (spots_from c d n (suc o))) ∙ e)))
    where
      rest : (a : Bool) → (a || clashes (spots_from c d n (suc o))) ≡ false → clashes (spots_from c d n (suc o)) ≡ false
      rest true f = absurd (false≢true (sym f))
      rest false f = f

-- ---- all levels

pub spots_get : (x y : Content) (n k j : ℕ) → j < n → get_or (spots x y n k) j [] ≡ spots_from (standing x (k + j)) (standing y (k + j)) (2 ^ (n - j)) 0
unfolding spots
spots_get x y zero k j h = absurd (omega arith)
spots_get x y (suc n) k zero h = let a : k + zero ≡ k = omega arith in let b : suc n - zero ≡ suc n = omega arith in rw (a, b) refl
spots_get x y (suc n) k (suc j) h =
    let a : suc k + j ≡ k + suc j = omega arith in
    let b : suc n - suc j ≡ n - j = omega arith in
    spots_get x y n (suc k) j (omega arith) ∙ ap (λ (i : ℕ). spots_from (standing x i) (standing y i) (2 ^ (n - j)) 0) a ∙ ap (λ (i : ℕ). spots_from (standing x (k + suc j)) (standing y (k + suc j)) (2 ^ i) 0) (sym b)

pub spots-length : (x y : Content) (n k : ℕ) → length (spots x y n k) ≡ n
unfolding spots
spots-length x y zero k = refl
spots-length x y (suc n) k = ap suc (spots-length x y n (suc k))

none-at : (o : ℕ) → standing_in o [] ≡ nothing
unfolding standing_in
none-at o = refl

-- contents that stand within their trees, of one height
module _ (x y : Content) (wx : Within x) (wy : Within y) (h : x.height ≡ y.height) where
  level : (k : ℕ) → k < x.height → get_or (merged x y).levels k [] ≡ kept_of (spots_from (standing x k) (standing y k) (2 ^ (x.height - k)) 0)
  unfolding merged kept_of
  level k g =
      get_or-map kept_of (all_spots x y) k [] ∙ ap kept_of (spots_get x y x.height 0 k g ∙ (let a : 0 + k ≡ k = omega arith in ap (λ (i : ℕ). spots_from (standing x i) (standing y i) (2 ^ (x.height - k)) 0) a))

  beyond : (k : ℕ) → x.height ≤ k → get_or (merged x y).levels k [] ≡ []
  unfolding merged kept_of
  beyond k g =
      get_or-map kept_of (all_spots x y) k [] ∙ ap kept_of (get_or-eq_default (all_spots x y) [] {n = k} (let e = spots-length x y x.height 0 in omega (arith, e)))

  -- "which keeps every leaf of either once and no other": what stands at a place of the merged path
  pub merged-standing : (k o : ℕ) → standing (merged x y) k o ≡ union (left_of (standing x k) o) (left_of (standing y k) o) (standing x k o) (standing y k o)
  unfolding standing union
  merged-standing k o = outer (leb x.height k) refl
    where
      nowhere : standing x k o ≡ nothing → standing y k o ≡ nothing → nothing ≡ union (left_of (standing x k) o) (left_of (standing y k) o) (standing x k o) (standing y k o)
      nowhere e f = rw (e, f) refl

      inner : (b : Bool) → leb (2 ^ (x.height - k)) o ≡ b → (k < x.height) → standing_in o (get_or (merged x y).levels k []) ≡ union (left_of (standing x k) o) (left_of (standing y k) o) (standing x k o) (standing y k o)
      inner true e g =
          let i = leb-true (2 ^ (x.height - k)) o e in
          ap (standing_in o) (level k g) ∙ standing-above o (0 + 2 ^ (x.height - k)) (kept_of (spots_from (standing x k) (standing y k) (2 ^ (x.height - k)) 0)) (level-under (standing x k) (standing y k) (2 ^ (x.height - k)) 0) (omega arith)
          ∙ nowhere (wx.inside k o i) (wy.inside k o (subst (λ (v : ℕ). 2 ^ (v - k) ≤ o) h i))
      inner false e g =
          let i = leb-false (2 ^ (x.height - k)) o e in
          ap (standing_in o) (level k g) ∙ level-at (standing x k) (standing y k) (2 ^ (x.height - k)) 0 o (omega arith) (omega arith)

      outer : (b : Bool) → leb x.height k ≡ b → standing_in o (get_or (merged x y).levels k []) ≡ union (left_of (standing x k) o) (left_of (standing y k) o) (standing x k o) (standing y k o)
      outer true e =
          let i = leb-true x.height k e in
          ap (standing_in o) (beyond k i) ∙ none-at o ∙ nowhere (wx.below k o i) (wy.below k o (subst (λ (v : ℕ). v ≤ k) h i))
      outer false e = inner (leb (2 ^ (x.height - k)) o) refl (leb-false x.height k e)

-- "their offsets rising"
orders : (x y : Content) (n k j : ℕ) → InOrder (get_or (map kept_of (spots x y n k)) j [])
unfolding spots InOrder
orders x y zero k j = tt
orders x y (suc n) k zero = level_order (standing x k) (standing y k) (2 ^ suc n) 0
orders x y (suc n) k (suc j) = orders x y n (suc k) j

pub merged_order : (x y : Content) (k : ℕ) → InOrder (get_or (merged x y).levels k [])
unfolding merged
merged_order x y k = orders x y x.height 0 k

-- ---- the merged path fits the layout

unfoldable StandingFit : ℕ → ℕ → Standing → Type 0
StandingFit k o (stands c) = CarriedFit k o c
StandingFit k o nothing = Unit {0}

unfoldable KeptFit : ℕ → ℕ → Kept → Type 0
KeptFit k o (keeps c) = CarriedFit k o c
KeptFit k o clash = Unit {0}

unfoldable AllFit : ℕ → List Entry → Type 0
AllFit k [] = Unit {0}
AllFit k (e ∷ l) = CarriedFit k e.offset e.carried × AllFit k l

agree-fits : (k o : ℕ) (l m : Standing) (c d : Carried) → CarriedFit k o c → CarriedFit k o d → KeptFit k o (agree l m c d)
unfolding agree KeptFit
agree-fits k o l m c d f g = go c d f g
  where
    one : (e : Carried) (b : Bool) → CarriedFit k o e → KeptFit k o (pick b (keeps e) clash)
    one e true f = f
    one e false f = tt

    go : (c d : Carried) → CarriedFit k o c → CarriedFit k o d → KeptFit k o (agree l m c d)
    go (plain h) (plain i) f g = one (plain h) (same h i) f
    go (plain h) (client i) f g = one (client i) (same h i) g
    go (client h) (plain i) f g = one (client h) (same h i) f
    go (client h) (client i) f g = one (client h) (same h i) f
    go (plain h) copy f g = one (plain h) (has_hash h l || has_hash h m) f
    go (client h) copy f g = one (client h) (has_hash h l || has_hash h m) f
    go copy (plain i) f g = one (plain i) (has_hash i l || has_hash i m) g
    go copy (client i) f g = one (client i) (has_hash i l || has_hash i m) g
    go copy copy f g = f

unite-fits : (k o : ℕ) (l m x y : Standing) (rest : List Spot) → StandingFit k o x → StandingFit k o y → AllFit k (kept_of rest) → AllFit k (kept_of (unite o l m x y rest))
unfolding unite kept_of keep StandingFit AllFit KeptFit
unite-fits k o l m nothing nothing rest f g a = a
unite-fits k o l m (stands c) nothing rest f g a = (f, a)
unite-fits k o l m nothing (stands d) rest f g a = (g, a)
unite-fits k o l m (stands c) (stands d) rest f g a = both (agree l m c d) (agree-fits k o l m c d f g)
  where
    both : (v : Kept) → KeptFit k o v → AllFit k (keep o v (kept_of rest))
    both (keeps e) h = (h, a)
    both clash h = a

spots_fit : (k : ℕ) (c d : ℕ → Standing) (n o : ℕ) → ((p : ℕ) → StandingFit k p (c p)) → ((p : ℕ) → StandingFit k p (d p)) → AllFit k (kept_of (spots_from c d n o))
unfolding spots_from kept_of AllFit
spots_fit k c d zero o f g = tt
spots_fit k c d (suc n) o f g = unite-fits k o (left_of c o) (left_of d o) (c o) (d o) (spots_from c d n (suc o)) (f o) (g o) (spots_fit k c d n (suc o) f g)

-- leaves in order, each of which fits, are a level that fits
order_fits : (limit k m : ℕ) (seen : List ℕ) (l : List Entry) → ((o : ℕ) → holds o seen ≡ true → o < m) → From m l → InOrder l → Under limit l → AllFit k l → Fits (EntryFit limit k) and_entry seen l
unfolding Fits From InOrder Under AllFit
order_fits limit k m seen [] b f i u a = tt
order_fits limit k m seen (e ∷ l) b f i u a =
    ((u.0, fresh (holds e.offset seen) refl, a.0), order_fits limit k (suc e.offset) (and_entry seen e) l later i.0 i.1 u.1 a.1)
  where
    fresh : (t : Bool) → holds e.offset seen ≡ t → holds e.offset seen ≡ false
    fresh true h = let g = b e.offset h in let j = f.0 in absurd (omega arith)
    fresh false h = h

    later : (o : ℕ) → holds o (and_entry seen e) ≡ true → o < suc e.offset
    later o h = go (holds o seen) refl (eqb o e.offset) refl (sym (holds_snoc o seen e.offset) ∙ h)
      where
        go : (s : Bool) → holds o seen ≡ s → (t : Bool) → eqb o e.offset ≡ t → (s || t) ≡ true → o < suc e.offset
        go true v t w z = let g = b o v in let j = f.0 in omega arith
        go false v true w z = let g = eqb-true o e.offset w in omega arith
        go false v false w z = absurd (false≢true z)

none-held : (o : ℕ) → holds o [] ≡ true → o < 0
unfolding holds
none-held o h = absurd (false≢true h)

-- what stands in a content that fits
fits-at : (limit k : ℕ) (seen : List ℕ) (l : List Entry) (o : ℕ) → Fits (EntryFit limit k) and_entry seen l → StandingFit k o (standing_in o l)
unfolding Fits standing_in StandingFit
fits-at limit k seen [] o f = tt
fits-at limit k seen (e ∷ l) o f = go (eqb e.offset o) refl (fits-at limit k (and_entry seen e) l o f.1)
  where
    go : (b : Bool) → eqb e.offset o ≡ b → StandingFit k o (standing_in o l) → StandingFit k o (pick b (stands e.carried) (standing_in o l))
    go true h r = subst (λ (p : ℕ). CarriedFit k p e.carried) (eqb-true e.offset o h) f.0.2
    go false h r = r

levels_fit_at : (height i : ℕ) (ls : List (List Entry)) (j o : ℕ) → Fits (LevelFit height) next_level i ls → StandingFit (i + j) o (standing_in o (get_or ls j []))
unfolding Fits StandingFit standing_in
levels_fit_at height i [] j o f = tt
levels_fit_at height i (l ∷ ls) zero o f = let a : i + zero ≡ i = omega arith in rw a (fits-at (2 ^ (height - i)) i [] l o f.0.1)
levels_fit_at height i (l ∷ ls) (suc j) o f = let a : i + 1 + j ≡ i + suc j = omega arith in subst (λ (v : ℕ). StandingFit v o (standing_in o (get_or ls j []))) a (levels_fit_at height (i + 1) ls j o f.1)

content-fits-at : (x : Content) → ContentFit x → (k o : ℕ) → StandingFit k o (standing x k o)
unfolding standing
content-fits-at x f k o = let a : 0 + k ≡ k = omega arith in subst (λ (v : ℕ). StandingFit v o (standing_in o (get_or x.levels k []))) a (levels_fit_at x.height 0 x.levels k o f.levels_fit)

-- no level over its limit, and none with a clash
any_none : {A : Type 0} (t : A → Bool) (a : A) (l : List A) → any_of t (a ∷ l) ≡ false → (t a ≡ false) × (any_of t l ≡ false)
unfolding any_of
any_none t a l e = go (t a) refl e
  where
    go : (b : Bool) → t a ≡ b → (b || any_of t l) ≡ false → (t a ≡ false) × (any_of t l ≡ false)
    go true h g = absurd (false≢true (sym g))
    go false h g = (h, g)

few-kept : (l : List Spot) → length (kept_of l) ≡ length l → over_limit l ≡ false → length (kept_of l) ≤ MAX_LEAVES
unfolding over_limit
few-kept l p q = let u = leb-true (length l) MAX_LEAVES (not-false (leb (length l) MAX_LEAVES) q) in omega (arith, u, p)

module _ (x y : Content) (fx : ContentFit x) (fy : ContentFit y) where
  levels_fit : (n k : ℕ) → n + k ≡ x.height → any_of over_limit (spots x y n k) ≡ false → any_of clashes (spots x y n k) ≡ false → Fits (LevelFit x.height) next_level k (map kept_of (spots x y n k))
  unfolding Fits spots
  levels_fit zero k e f g = tt
  levels_fit (suc n) k e f g =
      let here : List Spot = spots_from (standing x k) (standing y k) (2 ^ suc n) 0 in
      let a = any_none over_limit here (spots x y n (suc k)) f in
      let b = any_none clashes here (spots x y n (suc k)) g in
      let top : 0 + 2 ^ suc n ≡ 2 ^ (x.height - k) = (let u : x.height - k ≡ suc n = omega arith in let z : 0 + 2 ^ suc n ≡ 2 ^ suc n = omega arith in z ∙ ap (λ (v : ℕ). 2 ^ v) (sym u)) in
      let next : suc k ≡ k + 1 = omega arith in (
        (
          few-kept here (level-length (standing x k) (standing y k) (2 ^ suc n) 0 b.0) a.0,
          order_fits (2 ^ (x.height - k)) k 0 [] (kept_of here) none-held (level_from (standing x k) (standing y k) (2 ^ suc n) 0) (level_order (standing x k) (standing y k) (2 ^ suc n) 0)
              (subst (λ (v : ℕ). Under v (kept_of here)) top (level-under (standing x k) (standing y k) (2 ^ suc n) 0))
              (spots_fit k (standing x k) (standing y k) (2 ^ suc n) 0 (content-fits-at x fx k) (content-fits-at y fy k)),
        ),
        subst (λ (v : ℕ). Fits (LevelFit x.height) next_level v (map kept_of (spots x y n (suc k)))) next (levels_fit n (suc k) (omega arith) a.1 b.1),
      )

  pub merged-fits : any_of over_limit (all_spots x y) ≡ false → any_of clashes (all_spots x y) ≡ false → ContentFit (merged x y)
  unfolding merged
  merged-fits f g =
      record {
        block_fits = fx.block_fits;
        some = fx.some;
        low = fx.low;
        all = length-map (all_spots x y) kept_of ∙ spots-length x y x.height 0;
        levels_fit = levels_fit x.height 0 (omega arith) f g;
      }

  -- "reading the merged bytes gives the merged content"
  pub merged-read : any_of over_limit (all_spots x y) ≡ false → any_of clashes (all_spots x y) ≡ false
      → (b : Bump) × (bump_whole (bump_bytes (merged x y)) ≡ ok b (length (bump_bytes (merged x y)))) × (content_of (bump_bytes (merged x y)) b ≡ merged x y)
  merged-read f g = bump-read_back (merged x y) (merged-fits f g)
