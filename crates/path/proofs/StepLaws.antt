-- Laws of leaves that a walk passes.
use mathlib.Core.Path.{◌≡◌, refl, sym, ◌∙◌}
use mathlib.Core.List.{List}
use mathlib.Core.Bool.{Bool, true, false}
use Prim.Native.Nat.{ℕ, ◌+◌}
use lib.Dec.{eqb}
use borrow.Author.Tests.{ne_eqb}
use Rattle.std.specs.Prelude.{Option, Some, None, Result, Ok}
use Rattle.format.specs.declared.field.Cursor.{Cursor}
use Rattle.format.specs.declared.level.Layout.{Layout}
use Rattle.format.specs.declared.leaf.Leaf.{Leaf}
use Rattle.format.specs.declared.leaf.Kind.{Kind}
use Rattle.format.specs.declared.leaf.Kind.TheVariants.{Plain, Client}
use Rattle.path.specs.declared.walk.Passed.{Passed}
use Rattle.format.specs.declared.refusal.ReadRefusal.{ReadRefusal}
use Rattle.format.specs.Parse.{Parse, pick, given, each, ok, fault}
use Rattle.format.specs.Bytes.{same, hash_at}
use Rattle.format.specs.Field.{bytes, byte, varint}
use Rattle.format.specs.Level.{kind_field}
use Rattle.std.specs.Result.{IsErrAnd}
use Rattle.std.proofs.lemmas.Result.{err_from_is_err_and}
use Rattle.format.specs.Refusals.{refusal_number}
use Rattle.format.proofs.LevelLaws.{kind_refused}
use Rattle.path.specs.Search.{carries, lesser, seek_id}
use Rattle.path.proofs.SearchLaws.{least_on, lesser_nowhere}
use Rattle.path.specs.Steps.{leaf_with, Carried, Tells}
use Rattle.path.specs.Unchecked.{unchecked_carried, unchecked_leaf}

-- what the parts of a step tell
module _ (flags offset : ℕ) (s : List ℕ) (at : ℕ) where
  pub step-copy : flags ≡ 1 → leaf_with offset (kind_field flags s at) ≡ ok (record { offset = offset; kind = Kind.Copy }) at
  unfolding kind_field
  step-copy e = rw e

  pub step_short : {n q : ℕ} → (flags ≡ 1 → ⊥) → bytes 32 s at ≡ fault n q → leaf_with offset (kind_field flags s at) ≡ fault n q
  step_short h e = rw (kind_refused flags s at h e)

  pub step-hash : {p : ℕ} {c : Cursor} → (flags ≡ 1 → ⊥) → bytes 32 s at ≡ ok p c.at → Tells (Ok (record { offset = offset; place = Some p }, c)) (leaf_with offset (kind_field flags s at))
  unfolding each kind_field carries
  step-hash {p} {c} h e = rw (ne_eqb _ _ h) (either (eqb flags 0))
    where
      either : (b : Bool) → Tells (Ok (record { offset = offset; place = Some p }, c)) (leaf_with offset (pick b (given Plain (bytes 32)) (given Client (bytes 32)) s at))
      either true = (Plain p, rw e, λ t id. refl)
      either false = (Client p, rw e, λ t id. refl)

module _ (offset : ℕ) (s : List ℕ) (at : ℕ) where
  pub flagged_stuck : {n q : ℕ} → byte s at ≡ fault n q → leaf_with offset (unchecked_carried Layout.Bump s at) ≡ fault n q
  unfolding unchecked_carried
  flagged_stuck e = rw e

  pub flagged_on : {f q : ℕ} → byte s at ≡ ok f q → unchecked_carried Layout.Bump s at ≡ kind_field f s q
  unfolding unchecked_carried
  flagged_on e = rw e

module _ (layout : Layout) (s : List ℕ) (at : ℕ) where
  pub unchecked_stuck : {n q : ℕ} → varint s at ≡ fault n q → unchecked_leaf layout s at ≡ fault n q
  unfolding unchecked_leaf
  unchecked_stuck e = rw e

  pub unchecked_on : {o q : ℕ} → varint s at ≡ ok o q → unchecked_leaf layout s at ≡ leaf_with o (unchecked_carried layout s q)
  unfolding unchecked_leaf
  unchecked_on e = rw e

-- the exit of a `?`: the refusal is passed on as it is
pub told_on : (x : Parse Leaf) (r : Result (Passed × Cursor) ReadRefusal) (e : ReadRefusal) → IsErrAnd r (λ y. y ≡ e) → x ≡ fault (refusal_number e.refusal) e.place → Tells r x
told_on x r e h f = let p = err_from_is_err_and r h in rw (p.1, p.2) f

-- a search for the least offset that carries an id passes a leaf
module _ (layout : Layout) (id : List ℕ) (s : List ℕ) (r r' at : ℕ) (best : Option ℕ) (h : r ≡ r' + 1) {o q : ℕ} (kind : Kind)
    (read : unchecked_leaf layout s at ≡ ok (record { offset = o; kind = kind }) q) where
  pub least-hash : (after : Option ℕ) (p : ℕ) → Carried (Some p) kind → same (hash_at s p) id ≡ true → after ≡ lesser best (Some o)
      → seek_id layout id r s at best ≡ seek_id layout id r' s q after
  least-hash after p t e f = least_on layout id s r r' at best after h read (rw (t s id ∙ e) f)

  pub least_other : (p : ℕ) → Carried (Some p) kind → same (hash_at s p) id ≡ false → seek_id layout id r s at best ≡ seek_id layout id r' s q best
  least_other p t e = least_on layout id s r r' at best best h read (rw (t s id ∙ e) (sym (lesser_nowhere best)))

  pub least-copy : Carried None kind → seek_id layout id r s at best ≡ seek_id layout id r' s q best
  unfolding carries
  least-copy t = least_on layout id s r r' at best best h read (rw t (sym (lesser_nowhere best)))
