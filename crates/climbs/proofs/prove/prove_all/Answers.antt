use Rattle.std.proofs.Common.{length, sym, ◌∙◌, arith, length-take-le}
use Rattle.climbs.proofs.ProofsLaws.{fits_told, all-proved, none-proved, counted_most, counted-fits, all-counted, none-counted}
use Rattle.climbs.proofs.prove.prove_all.Goals as goal

pub overflow_mul-end : goal.overflow_mul-end
overflow_mul-end c = let f = fits_told c.args.path (length c.args.starts.now) (length c.args.states.now) (length c.args.hashes.now) (sym c.rows_fit.ensures ∙ c.if-rows_fit.true) in let s = f.some in omega (arith, s)

pub slice_bounds-prove_ordered-end : goal.slice_bounds-prove_ordered-end
slice_bounds-prove_ordered-end c = let f = fits_told c.args.path (length c.args.starts.now) (length c.args.states.now) (length c.args.hashes.now) (sym c.rows_fit.ensures ∙ c.if-rows_fit.true) in f.each

pub slice_bounds-prove_ordered-end-then-rows_fit : goal.slice_bounds-prove_ordered-end-then-rows_fit
slice_bounds-prove_ordered-end-then-rows_fit c = let f = fits_told c.args.path (length c.args.starts.now) (length c.args.states.now) (length c.args.hashes.now) (sym c.rows_fit.ensures ∙ c.if-rows_fit.true) in sym (length-take-le _ _ f.each)

pub slice_bounds-prove_ordered-end-then-rows_fit-2 : goal.slice_bounds-prove_ordered-end-then-rows_fit-2
slice_bounds-prove_ordered-end-then-rows_fit-2 c = let f = fits_told c.args.path (length c.args.starts.now) (length c.args.states.now) (length c.args.hashes.now) (sym c.rows_fit.ensures ∙ c.if-rows_fit.true) in f.room

pub slice_bounds-prove_ordered-end-then-rows_fit-3 : goal.slice_bounds-prove_ordered-end-then-rows_fit-3
slice_bounds-prove_ordered-end-then-rows_fit-3 c = let f = fits_told c.args.path (length c.args.starts.now) (length c.args.states.now) (length c.args.hashes.now) (sym c.rows_fit.ensures ∙ c.if-rows_fit.true) in sym (length-take-le _ _ f.room)

pub slice_bounds-prove_ordered-end-then-rows_fit-4 : goal.slice_bounds-prove_ordered-end-then-rows_fit-4
slice_bounds-prove_ordered-end-then-rows_fit-4 c = let m = counted-fits (length c.args.starts.now) (length c.args.costs.now) in omega (arith, c.counted-some.ensures, m)

pub slice_bounds-prove_ordered-end-then-rows_fit-5 : goal.slice_bounds-prove_ordered-end-then-rows_fit-5
slice_bounds-prove_ordered-end-then-rows_fit-5 c = let m = counted-fits (length c.args.starts.now) (length c.args.costs.now) in sym (length-take-le _ _ (omega (arith, c.counted-some.ensures, m)))

pub prove_ordered-requires : goal.prove_ordered-requires
prove_ordered-requires c = let f = fits_told c.args.path (length c.args.starts.now) (length c.args.states.now) (length c.args.hashes.now) (sym c.rows_fit.ensures ∙ c.if-rows_fit.true) in let m = counted-fits (length c.args.starts.now) (length c.args.costs.now) in let k = counted_most (length c.args.starts.now) (length c.args.costs.now) in let l = length-take-le c.counted-some.result c.args.costs.now (omega (arith, c.counted-some.ensures, m)) in (f.levels, f.some, length-take-le _ _ f.each, length-take-le _ _ f.room, omega (arith, l, c.counted-some.ensures, k))

pub returns-then-rows_fit : goal.returns-then-rows_fit
returns-then-rows_fit c = let v = all-proved c.args.s.now c.args.path c.args.starts.now c.args.states.now c.args.hashes.now _ _ _ (sym c.rows_fit.ensures ∙ c.if-rows_fit.true) c.prove_ordered.ensures.0 c.prove_ordered.ensures.1 c.prove_ordered.ensures.2 in (v.0, v.1, v.2, all-counted c.args.s.now c.args.path c.args.starts.now c.args.states.now c.args.hashes.now c.args.costs.now _ _ (sym c.rows_fit.ensures ∙ c.if-rows_fit.true) c.counted-some.ensures c.prove_ordered.ensures.3)

pub returns-else-rows_fit : goal.returns-else-rows_fit
returns-else-rows_fit c = let e = sym c.rows_fit.ensures ∙ c.if-rows_fit.false in let v = none-proved c.args.s.now c.args.path c.args.starts.now c.args.states.now c.args.hashes.now e in (v.0, v.1, v.2, none-counted c.args.s.now c.args.path c.args.starts.now c.args.states.now c.args.hashes.now c.args.costs.now e)
