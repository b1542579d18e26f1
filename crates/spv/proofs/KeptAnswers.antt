-- 02, Item 8: "accepted proofs keep their answers". What is accepted with at most so many layers is accepted with more, with the same answer; today's limit is MAX_HEIGHT, at which these are `reading` and `bump_clients`.
use Prim.Native.Nat.{ℕ, ◌≤◌}
use mathlib.Core.Path.{◌≡◌, refl}
use mathlib.Core.List.{List, []}
use lib.ListN.{length, get_or}
use native.Mathlib.Omega.{arith}
use Rattle.format.specs.Parse.{Parse, ok, fault, whole}
use Rattle.format.specs.Bump.{bump_up_to}
use Rattle.format.specs.Cmp.{cmp_up_to}
use Rattle.format.specs.Tsc.{tsc_up_to}
use Rattle.format.specs.Id.{subject_id}
use Rattle.format.proofs.MoreLayers.{bump_stays, cmp_stays, tsc_stays}
use Rattle.path.specs.declared.path.Form.{Form}
use Rattle.spv.specs.Result.{Result, accepted, after_reading}
use Rattle.spv.specs.Compare.{compare}
use Rattle.spv.specs.Siblings.{level_siblings, node_siblings}
use Rattle.spv.specs.Readings.{read_as, levels_reading, bump_reading_up_to, cmp_reading_up_to, tsc_target, tsc_reading_up_to, reading_up_to}
use Rattle.spv.specs.Clients.{clients, clients_up_to}
use Rattle.spv.specs.Prove.{Reading, Proof, prove, prove_by, any, read}

-- a reader that reads what another one reads answers what that one answers
abbrev pub Stays : {A : Type 0} → Parse A → Parse A → Type 0
Stays {A} x y = (a : A) (end : ℕ) → x ≡ ok a end → y ≡ ok a end

pub result_stays : {A B : Type 0} (x y : Parse A) (f : A → Result B) (b : B) → Stays x y → after_reading x f ≡ accepted b → after_reading y f ≡ accepted b
result_stays (ok a end) y f b h e = rw (h a end refl) e
result_stays (fault number place) y f b h e = let z : ◌≡◌ {A = ℕ} 0 1 = cc in absurd (omega arith)

proof_stays : {A : Type 0} (x y : Parse A) (f : A → Reading) (p : Proof) → Stays x y → prove (read_as x f) ≡ accepted p → prove (read_as y f) ≡ accepted p
unfolding prove_by
proof_stays (ok a end) y f p h e = rw (h a end refl) e
proof_stays (fault number place) y f p h e = let z : ◌≡◌ {A = ℕ} 0 1 = cc in absurd (omega arith)

module _ (most more : ℕ) (low : most ≤ more) where
  -- proving an id by a BUMP, a CMP or a TSC proof
  pub proof-kept : (form : Form) (s id : List ℕ) (p : Proof) → prove (reading_up_to most form s id) ≡ accepted p → prove (reading_up_to more form s id) ≡ accepted p
  unfolding reading_up_to bump_reading_up_to cmp_reading_up_to tsc_reading_up_to
  proof-kept Form.Bump s id p = proof_stays (whole (bump_up_to most) s) (whole (bump_up_to more) s) (λ b. levels_reading s b.height b.levels id) p (λ b end. bump_stays most more low s end b)
  proof-kept Form.Cmp s id p = proof_stays (whole (cmp_up_to most) s) (whole (cmp_up_to more) s) (λ c. levels_reading s c.height c.levels id) p (λ c end. cmp_stays most more low s end c)
  proof-kept Form.Tsc s id p =
      proof_stays (whole (tsc_up_to most) s) (whole (tsc_up_to more) s) (λ t. read (node_siblings s t.nodes) (length t.nodes) t.index (subject_id s t.subject) (tsc_target s t)) p
      (λ t end. tsc_stays most more low s end t)

  -- comparing two accepted proofs: whatever it answered, 23 and 24 included
  pub compared_kept : (f g : Form) (s id t jd : List ℕ) (p q : Proof) → prove (reading_up_to most f s id) ≡ accepted p → prove (reading_up_to most g t jd) ≡ accepted q
      → compare (prove (reading_up_to more f s id)) (prove (reading_up_to more g t jd)) ≡ compare (prove (reading_up_to most f s id)) (prove (reading_up_to most g t jd))
  compared_kept f g s id t jd p q x y = rw (proof-kept f s id p x, proof-kept g t jd q y, x, y) refl

  -- the all-clients check
  pub clients-kept : (s root : List ℕ) → clients_up_to most s ≡ accepted root → clients_up_to more s ≡ accepted root
  unfolding clients_up_to
  clients-kept s root =
      result_stays (whole (bump_up_to most) s) (whole (bump_up_to more) s) (λ b. clients (level_siblings s b.levels) b.height s any (get_or b.levels 0 [])) root (λ b end. bump_stays most more low s end b)
