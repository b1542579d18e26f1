-- A BUMP's all-clients check (01, "The climb").
use Rattle.std.specs.Prelude.{ℕ, List, [], ◌∷◌, get_or}
use Rattle.format.specs.declared.leaf.Kind.{Kind}
use Rattle.format.specs.declared.leaf.Kind.TheVariants.{Plain, Copy, Client}
use Rattle.format.specs.declared.leaf.Leaf.{Leaf}
use Rattle.format.specs.Refusals.{NOT_LISTED, MAX_HEIGHT}
use Rattle.format.specs.Bytes.{hash_at}
use Rattle.format.specs.Parse.{whole}
use Rattle.format.specs.Bump.{bump_up_to}
use Rattle.spv.specs.Result.{Result, accepted, refused, carrying, after_reading, follow}
use Rattle.spv.specs.Climb.{Siblings}
use Rattle.spv.specs.Siblings.{level_siblings}
use Rattle.spv.specs.Prove.{Target, Proof, prove, any, bound, read}

-- the root that is wanted of the next client
unfoldable pub wanted_by : Result Proof → Result Target
wanted_by (refused why) = refused why
wanted_by (accepted p) = accepted (bound p.root)

-- a flags-02 leaf climbs from its own offset: 14 or 15, then 16 if its root is not the one wanted, which is the first such leaf's
unfoldable pub after_kind : Siblings → ℕ → List ℕ → Target → ℕ → Kind → Result Target
after_kind σ h s w offset (Client p) = wanted_by (prove (read σ h offset (hash_at s p) w))
after_kind σ h s w offset (Plain p) = accepted w
after_kind σ h s w offset Copy = accepted w

abbrev pub after_leaf : Siblings → ℕ → List ℕ → Target → Leaf → Result Target
after_leaf σ h s w leaf = after_kind σ h s w leaf.offset leaf.kind

-- with no such leaf it is 13
unfoldable pub closing : Target → Result (List ℕ)
closing any = refused (carrying NOT_LISTED 0)
closing (bound r) = accepted r

-- leaf by leaf, in written order: the root that all clients come to
unfoldable pub clients : Siblings → ℕ → List ℕ → Target → List Leaf → Result (List ℕ)
clients σ h s w [] = closing w
clients σ h s w (leaf ∷ leaves) = follow (after_leaf σ h s w leaf) (λ w'. clients σ h s w' leaves)

-- of a BUMP of at most so many layers; `bump_clients` has today's limit
unfoldable pub clients_up_to : ℕ → List ℕ → Result (List ℕ)
clients_up_to most s = after_reading (whole (bump_up_to most) s) (λ b. clients (level_siblings s b.levels) b.height s any (get_or b.levels 0 []))

abbrev pub bump_clients : List ℕ → Result (List ℕ)
bump_clients = clients_up_to MAX_HEIGHT
