-- Laws of the all-clients check, over the leaves of a level and over its bytes.
use Rattle.std.proofs.Common.{◌≡◌, ℕ, zero, suc, ◌+◌, ◌-◌, ◌<◌, ◌≤◌, List, [], ◌∷◌, get_or, refl, ap, ◌∙◌, arith}
use Rattle.format.proofs.Basics.{one_less}
use Rattle.format.specs.declared.leaf.Kind.{Kind}
use Rattle.format.specs.declared.leaf.Kind.TheVariants.{Plain, Copy, Client}
use Rattle.format.specs.declared.leaf.Leaf.{Leaf}
use Rattle.format.specs.declared.level.Layout.{Layout}
use Rattle.format.specs.Parse.{Parse, ok, fault, otherwise, many, times}
use Rattle.format.proofs.ParseLaws.{many-told, onward-told, otherwise-ok, otherwise-fault}
use Rattle.format.specs.Field.{varint}
use Rattle.path.specs.Path.{bump_path}
use Rattle.format.proofs.BumpLaws.{BumpRead, bump-whole-told}
use Rattle.path.proofs.UncheckedLaws.{level_unchecked}
use Rattle.format.specs.Level.{level_in_turn, next_turn}
use Rattle.format.specs.Refusals.{NOT_LISTED}
use Rattle.path.specs.Unchecked.{unchecked_leaf, unchecked_level}
use Rattle.format.specs.Bump.{Bump, bump_whole}
use Rattle.spv.specs.Result.{Result, accepted, refused, carrying, follow}
use Rattle.spv.specs.Climb.{Siblings}
use Rattle.spv.specs.Siblings.{level_siblings, path_siblings}
use Rattle.spv.proofs.SiblingsLaws.{path_levels}
use Rattle.spv.proofs.ReadingsLaws.{prove-same, bump-layers, bump-leads}
use Rattle.spv.specs.Clients.{wanted_by, after_kind, after_leaf, closing, clients, bump_clients, clients_up_to}
use Rattle.climbs.specs.ClientsShapes.{clients_in, clients_of_level}
use Rattle.format.specs.Bytes.{hash_at}
use Rattle.spv.specs.Prove.{Target, any}

pub follow-same : {A B : Type 0} (x : Result A) (f g : A → Result B) → ((a : A) → f a ≡ g a) → follow x f ≡ follow x g
follow-same (accepted a) f g e = e a
follow-same (refused why) f g e = refl

pub follow-twice : {A B C : Type 0} (x : Result A) (f : A → Result B) (g : B → Result C) → follow (follow x f) g ≡ follow x (λ a. follow (f a) g)
follow-twice (accepted a) f g = refl
follow-twice (refused why) f g = refl

after_same : (σ τ : Siblings) (h : ℕ) (s : List ℕ) (w : Target) (offset : ℕ) (kind : Kind) → ((k q : ℕ) → k < h → σ k q ≡ τ k q) → after_kind σ h s w offset kind ≡ after_kind τ h s w offset kind
unfolding after_kind
after_same σ τ h s w offset (Client p) f = ap wanted_by (prove-same σ τ h offset (hash_at s p) w f)
after_same σ τ h s w offset (Plain p) f = refl
after_same σ τ h s w offset Copy f = refl

-- forms that agree below h layers
pub clients-same : (σ τ : Siblings) (h : ℕ) (s : List ℕ) (w : Target) (leaves : List Leaf) → ((k q : ℕ) → k < h → σ k q ≡ τ k q) → clients σ h s w leaves ≡ clients τ h s w leaves
unfolding clients
clients-same σ τ h s w [] f = refl
clients-same σ τ h s w (leaf ∷ leaves) f =
    ap (λ (x : Result Target). follow x (λ w'. clients σ h s w' leaves)) (after_same σ τ h s w leaf.offset leaf.kind f)
    ∙ follow-same (after_leaf τ h s w leaf) (λ w'. clients σ h s w' leaves) (λ w'. clients τ h s w' leaves) (λ w'. clients-same σ τ h s w' leaves f)

in_same : (σ τ : Siblings) (h : ℕ) (s : List ℕ) (n : ℕ) (w : Target) → ((k q : ℕ) → k < h → σ k q ≡ τ k q) → ((next : ℕ) (w' : Target) → clients_in σ h s n next w' ≡ clients_in τ h s n next w') → (x : Parse Leaf)
    → otherwise x (refused (carrying NOT_LISTED 0)) (λ leaf next. follow (after_leaf σ h s w leaf) (λ w'. clients_in σ h s n next w')) ≡ otherwise x (refused (carrying NOT_LISTED 0)) (λ leaf next. follow (after_leaf τ h s w leaf) (λ w'. clients_in τ h s n next w'))
in_same σ τ h s n w f g (ok leaf next) =
    ap (λ (x : Result Target). follow x (λ w'. clients_in σ h s n next w')) (after_same σ τ h s w leaf.offset leaf.kind f)
    ∙ follow-same (after_leaf τ h s w leaf) (λ w'. clients_in σ h s n next w') (λ w'. clients_in τ h s n next w') (λ w'. g next w')
in_same σ τ h s n w f g (fault number place) = refl

pub clients_in_same : (σ τ : Siblings) (h : ℕ) (s : List ℕ) (n at : ℕ) (w : Target) → ((k q : ℕ) → k < h → σ k q ≡ τ k q) → clients_in σ h s n at w ≡ clients_in τ h s n at w
unfolding clients_in
clients_in_same σ τ h s zero at w f = refl
clients_in_same σ τ h s (suc n) at w f = in_same σ τ h s n w f (λ next w'. clients_in_same σ τ h s n next w' f) (unchecked_leaf Layout.Bump s at)

-- leaves that were read
pub clients_in_lem : (σ : Siblings) (h : ℕ) (s : List ℕ) (n at : ℕ) (w : Target) {l : List Leaf} {q : ℕ} → times (unchecked_leaf Layout.Bump) n s at ≡ ok l q → clients_in σ h s n at w ≡ clients σ h s w l
unfolding clients_in clients many
clients_in_lem σ h s zero at w {l} e = let y : [] ≡ l = cc in rw (← y)
clients_in_lem σ h s (suc n) at w {l} e =
    let x = many-told (λ _. unchecked_leaf Layout.Bump) (λ u _. u) n tt s at e in
    otherwise-ok (refused (carrying NOT_LISTED 0)) (λ leaf next. follow (after_leaf σ h s w leaf) (λ w'. clients_in σ h s n next w')) x.3
    ∙ follow-same (after_leaf σ h s w x.0) (λ w'. clients_in σ h s n x.1 w') (λ w'. clients σ h s w' x.2) (λ w'. clients_in_lem σ h s n x.1 w' x.4)
    ∙ ap (clients σ h s w) x.5

pub clients-level : (σ : Siblings) (h : ℕ) (s : List ℕ) (at : ℕ) {l : List Leaf} {q : ℕ} → unchecked_level Layout.Bump s at ≡ ok l q → clients_of_level σ h s at ≡ clients σ h s any l
unfolding clients_of_level unchecked_level
clients-level σ h s at e =
    let x = onward-told (varint s at) _ e in
    otherwise-ok (refused (carrying NOT_LISTED 0)) (λ n next. clients_in σ h s n next any) x.2 ∙ clients_in_lem σ h s x.0 x.1 any x.3

module _ (σ : Siblings) (h : ℕ) (s : List ℕ) (at : ℕ) where
  pub level_short : (number place : ℕ) → varint s at ≡ fault number place → clients_of_level σ h s at ≡ refused (carrying NOT_LISTED 0)
  unfolding clients_of_level
  level_short number place e = rw e

  pub level-read : (n next : ℕ) → varint s at ≡ ok n next → clients_of_level σ h s at ≡ clients_in σ h s n next any
  unfolding clients_of_level
  level-read n next e = rw e

-- level 0 is the first that is written
bump-lowest : (s : List ℕ) {q : ℕ} (b : Bump) → BumpRead s q b → (t : ℕ) × (unchecked_level Layout.Bump s b.start ≡ ok (get_or b.levels 0 []) t)
bump-lowest s {q} b r = go b.height r.some r.levels
  where
    go : (h : ℕ) → 1 ≤ h → many (level_in_turn Layout.Bump b.height) next_turn h 0 s b.start ≡ ok b.levels q → (t : ℕ) × (unchecked_level Layout.Bump s b.start ≡ ok (get_or b.levels 0 []) t)
    go zero h e = absurd (omega arith)
    go (suc n) h e =
        let x = many-told (level_in_turn Layout.Bump b.height) next_turn n 0 s b.start e in
        (x.1, level_unchecked Layout.Bump _ _ s b.start x.3 ∙ ap (λ (ls : List (List Leaf)). ok (get_or ls 0 []) x.1) x.5)

-- a BUMP that was read, by its path's places
pub bump-clients : (s : List ℕ) (b : Bump) (q : ℕ) → bump_whole s ≡ ok b q → clients_of_level (path_siblings s (bump_path s b)) (bump_path s b).layers s b.start ≡ bump_clients s
unfolding clients_up_to
bump-clients s b q e =
    let r = bump-whole-told s e in
    clients-level (path_siblings s (bump_path s b)) (bump_path s b).layers s b.start (bump-lowest s b r).1
    ∙ ap (λ (h : ℕ). clients (path_siblings s (bump_path s b)) h s any (get_or b.levels 0 [])) (bump-layers s b r)
    ∙ clients-same (path_siblings s (bump_path s b)) (level_siblings s b.levels) b.height s any (get_or b.levels 0 []) (path_levels s (bump_path s b) b.height b.levels (bump-leads s b r))
    ∙ rw e

pub clients-refused : (s : List ℕ) (number place : ℕ) → bump_whole s ≡ fault number place → bump_clients s ≡ refused (carrying number place)
unfolding clients_up_to
clients-refused s number place e = rw e

-- ---- one turn of a loop over a level's leaves: m are passed of n

module _ (σ : Siblings) (h : ℕ) (s : List ℕ) (n m at : ℕ) (w : Target) where
  module _ (b : m < n) where
    pub turn-leaf : (leaf : Leaf) (next : ℕ) → unchecked_leaf Layout.Bump s at ≡ ok leaf next
        → clients_in σ h s (n - m) at w ≡ follow (after_leaf σ h s w leaf) (λ w'. clients_in σ h s (n - (m + 1)) next w')
    unfolding clients_in
    turn-leaf leaf next e =
        ap (λ (r : ℕ). clients_in σ h s r at w) (one_less n m b)
        ∙ otherwise-ok (refused (carrying NOT_LISTED 0)) (λ leaf next. follow (after_leaf σ h s w leaf) (λ w'. clients_in σ h s (n - (m + 1)) next w')) e

    pub turn_short : (number place : ℕ) → unchecked_leaf Layout.Bump s at ≡ fault number place → clients_in σ h s (n - m) at w ≡ refused (carrying NOT_LISTED 0)
    unfolding clients_in
    turn_short number place e =
        ap (λ (r : ℕ). clients_in σ h s r at w) (one_less n m b)
        ∙ otherwise-fault (refused (carrying NOT_LISTED 0)) (λ leaf next. follow (after_leaf σ h s w leaf) (λ w'. clients_in σ h s (n - (m + 1)) next w')) e

  pub turn_last : n ≤ m → clients_in σ h s (n - m) at w ≡ closing w
  unfolding clients_in
  turn_last b = let e : n - m ≡ 0 = omega arith in rw e
