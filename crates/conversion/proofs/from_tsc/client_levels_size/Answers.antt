use mathlib.Core.Path.{sym}
use native.Mathlib.Omega.{arith}
use Rattle.encoding.proofs.VarintEncoding.{varint-length}
use Rattle.conversion.proofs.ConvertLaws.{client_short_counted, client-counted}
use Rattle.conversion.proofs.from_tsc.client_levels_size.Goals as goal

pub returns-in_default : goal.returns-in_default
returns-in_default c = (λ id l. client_short_counted _ _ _ _ id (sym c.in_default.ensures), omega arith)

pub overflow_add-client : goal.overflow_add-client
overflow_add-client c = let b = varint-length c.args.i in omega arith

pub overflow_add-sibling : goal.overflow_add-sibling
overflow_add-sibling c = let b = varint-length c.args.i in let e = varint-length c.sibling_position.result in omega arith

pub overflow_add-result : goal.overflow_add-result
overflow_add-result c = let b = varint-length c.args.i in let e = varint-length c.sibling_position.result in omega arith

pub overflow_add-result-2 : goal.overflow_add-result-2
overflow_add-result-2 c = let b = varint-length c.args.i in let e = varint-length c.sibling_position.result in omega arith

pub overflow_add-result-3 : goal.overflow_add-result-3
overflow_add-result-3 c = let b = varint-length c.args.i in let e = varint-length c.sibling_position.result in omega arith

pub returns : goal.returns
returns c =
    let b = varint-length c.args.i in let e = varint-length c.sibling_position.result in (
      λ id l. client-counted _ _ _ _ id c.requires.0 (sym c.in-Ok.ensures) l c.varint_size-client.ensures c.sibling_position.ensures c.varint_size.ensures (c.node_size.ensures.0 _) c.levels_size.ensures.0,
      omega arith,
    )
