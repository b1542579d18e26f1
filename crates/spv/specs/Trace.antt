-- A proof with the siblings that its climb took, as the nodes of a TSC proof (01, "Layouts"), for writing it in another form (02, Item 6).
use Rattle.std.specs.Prelude.{ℕ, min, List, map, length, replicate, Result as Answer, Ok, Err}
use Rattle.encoding.specs.Buffer.{filled}
use Rattle.encoding.specs.Encode.{encode_all}
use Rattle.encoding.specs.BumpBytes.{Carried, plain, copy, carried_bytes}
use Rattle.spv.specs.Result.{Result, answer_of}
use Rattle.spv.specs.Climb.{Sibling, value, copied, absent}
use Rattle.spv.specs.Prove.{Proof}
use Rattle.spv.specs.Shapes.{accepted_of}
use Rattle.spv.specs.declared.rejection.Rejection.{Rejection}
use Rattle.spv.specs.declared.trace.Trail.{Trail}
use Rattle.spv.specs.declared.trace.Traced.{Traced}

-- "Copies stay copies"; a value, written or worked out, is a hash. No climb takes a sibling that is absent.
unfoldable pub as_carried : Sibling → Carried
as_carried (value p) = plain p
as_carried copied = copy
as_carried absent = copy

-- a node is a type byte, 0 followed by 32 bytes or 1 for a copy
unfoldable pub nodes_text : List Sibling → List ℕ
nodes_text l = encode_all carried_bytes (map as_carried l)

-- the room for 64 nodes
abbrev pub TRACE_ROOM : ℕ
TRACE_ROOM = 2112

-- the answer: what is proved, and the nodes with their size
unfoldable pub trace_of : Proof → Traced
trace_of p = record {
  proved = accepted_of p.position p.layers p.id p.root;
  nodes = filled (replicate TRACE_ROOM 0) (nodes_text p.siblings);
  size = min TRACE_ROOM (length (nodes_text p.siblings));
}

abbrev pub traced_of : Result Proof → Answer Traced Rejection
traced_of = answer_of trace_of

-- what a climb that was written comes to
abbrev pub root_of : Answer Trail Rejection → Answer (List ℕ) Rejection
root_of (Ok t) = Ok t.root
root_of (Err why) = Err why
