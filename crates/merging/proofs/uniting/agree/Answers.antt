use Rattle.std.proofs.Common.{List, ℕ, Some, None, ◌||◌, sym, ap, ◌∙◌, arith}
use mathlib.Core.Path.{ap₂}
use Rattle.format.specs.Bytes.{same}
use Rattle.format.specs.Parse.{pick}
use Rattle.levels.specs.Fronts.{standing_of}
use Rattle.merging.specs.declared.uniting.Choice.TheVariants.{First, Second}
use Rattle.merging.specs.Merging.{has_hash}
use Rattle.merging.specs.Walk.{kept_by}
use Rattle.merging.proofs.ChoiceLaws.{two_copies, copy-hash, hash-against, two-hashes, second_wins, first_stays}
use Rattle.merging.proofs.uniting.agree.Goals as goal

pub returns-in-None-None : goal.returns-in-None-None
returns-in-None-None c = two_copies c.args.s.now c.args.t.now _ _ _ _ (sym c.in-None-None.is-0 ∙ c.place_of.ensures) (sym c.in-None-None.is-1 ∙ c.place_of-2.ensures)

pub returns-in-None-Some : goal.returns-in-None-Some
returns-in-None-Some c =
    ap (kept_by c.args.s.now c.args.t.now)
    (c.against_copy.ensures ∙ ap (λ (v : List ℕ). pick (has_hash v (standing_of c.args.s.now c.args.l) || has_hash v (standing_of c.args.t.now c.args.m)) (Some (Second c.args.y)) None) c.hash_at.ensures)
    ∙ copy-hash _ _ _ _ c.args.x c.args.y (sym c.in-None-Some.is-0 ∙ c.place_of.ensures) (sym c.in-None-Some.is-1 ∙ c.place_of-2.ensures)

pub returns-in-Some-None : goal.returns-in-Some-None
returns-in-Some-None c =
    ap (kept_by c.args.s.now c.args.t.now)
    (c.against_copy-in-Some-None.ensures ∙ ap (λ (v : List ℕ). pick (has_hash v (standing_of c.args.s.now c.args.l) || has_hash v (standing_of c.args.t.now c.args.m)) (Some (First c.args.x)) None) c.hash_at-in-Some-None.ensures)
    ∙ hash-against _ _ _ _ c.args.x c.args.y (sym c.in-Some-None.is-0 ∙ c.place_of.ensures) (sym c.in-Some-None.is-1 ∙ c.place_of-2.ensures)

pub returns-then-not-same_bytes : goal.returns-then-not-same_bytes
returns-then-not-same_bytes c =
    two-hashes _ _ _ _ c.args.x c.args.y (sym c.in-Some-Some.is-0 ∙ c.place_of.ensures) (sym c.in-Some-Some.is-1 ∙ c.place_of-2.ensures) (sym (c.same_bytes.ensures ∙ ap₂ same c.hash_at-in-Some-Some.ensures c.hash_at-in-Some-Some-2.ensures) ∙ c.if-not-same_bytes.true)

pub returns-then-flags_of : goal.returns-then-flags_of
returns-then-flags_of c =
    second_wins _ _ _ _ c.args.x c.args.y (sym c.in-Some-Some.is-0 ∙ c.place_of.ensures) (sym c.in-Some-Some.is-1 ∙ c.place_of-2.ensures) (sym (c.same_bytes.ensures ∙ ap₂ same c.hash_at-in-Some-Some.ensures c.hash_at-in-Some-Some-2.ensures) ∙ c.if-not-same_bytes.false)
    (omega (arith, c.flags_of.ensures, c.flags_of-in-Some-Some.ensures, c.if-flags_of.true))

pub returns-else-flags_of : goal.returns-else-flags_of
returns-else-flags_of c =
    first_stays _ _ _ _ c.args.x c.args.y (sym c.in-Some-Some.is-0 ∙ c.place_of.ensures) (sym c.in-Some-Some.is-1 ∙ c.place_of-2.ensures) (sym (c.same_bytes.ensures ∙ ap₂ same c.hash_at-in-Some-Some.ensures c.hash_at-in-Some-Some-2.ensures) ∙ c.if-not-same_bytes.false)
    (omega (arith, c.flags_of.ensures, c.flags_of-in-Some-Some.ensures, c.if-flags_of.false))
