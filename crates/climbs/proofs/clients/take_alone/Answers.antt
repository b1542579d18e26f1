use Rattle.std.proofs.Common.{◌∙◌}
use Rattle.spv.specs.Shapes.{bound_to}
use Rattle.spv.specs.Result.{accepted}
use Rattle.climbs.proofs.WaitingLaws.{alone_client, leaf-plain, leaf-copy}
use Rattle.climbs.proofs.clients.take_alone.Goals as goal

pub returns-in-Client : goal.returns-in-Client
returns-in-Client c = c.want_by.ensures ∙ alone_client _ _ c.args.s.now c.args.leaf (bound_to c.args.wanted) c.climb_from.result _ _ c.in-Client.is c.hash_at-hash.ensures c.climb_from.ensures

pub returns-in-Plain : goal.returns-in-Plain
returns-in-Plain c = leaf-plain _ _ c.args.s.now c.args.leaf (accepted (bound_to c.args.wanted)) _ c.in-Plain.is

pub returns-in-Copy : goal.returns-in-Copy
returns-in-Copy c = leaf-copy _ _ c.args.s.now c.args.leaf (accepted (bound_to c.args.wanted)) c.in-Copy.is
