use Rattle.stream.specs.Parts.{with_end}
use Rattle.barrowtide.proofs.PartsLaws.{answer_kept}
use Rattle.barrowtide.proofs.parts.barrowtide_parts_end.Goals as goal

-- The state that the call kept has the answer, and from it come the number and the lent memory.
pub returns : goal.returns
returns c = λ calls is.
    let t = c.tell.ensures _ (answer_kept with_end c.args.state.now c.end-next.result c.end-next.ensures calls is) in
    (c.end-next.ensures calls is, t.0, t.1, t.2, t.3, t.4, t.5)
