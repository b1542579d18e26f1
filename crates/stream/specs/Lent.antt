-- The state that the caller lends, and what the calls answer.
use Rattle.std.specs.Prelude.{◌≡◌, replicate}
use Rattle.stream.specs.declared.progress.Progress.{Progress}
use Rattle.std.specs.Prelude.{Ok, Err}
use Rattle.stream.specs.declared.hashing.Hashing.{Hashing}
use Rattle.stream.specs.declared.state.Answer.{Answer}
use Rattle.stream.specs.declared.state.State.{State}
use Rattle.format.specs.Refusals.{refusal_number}
use Rattle.stream.specs.Parts.{MAX_PARTS, Said, more, refused, received, Calls, came, closed, says}
use Rattle.stream.specs.Progress.{Fed, first, run, stage_number, stage_of}
use Rattle.stream.specs.HashState.{hashing_of}

-- an answer as the state has it: none yet, a refusal or a transaction; the refusal's number and place, or zeros; length, counts and id, or zeros
unfoldable pub answer_of : Said → Answer
answer_of more = record { answered = 0; number = 0; place = 0; length = 0; inputs = 0; outputs = 0; id = replicate 32 0 }
answer_of (refused n q) = record { answered = 1; number = n; place = q; length = 0; inputs = 0; outputs = 0; id = replicate 32 0 }
answer_of (received l i o id) = record { answered = 2; number = 0; place = 0; length = l; inputs = i; outputs = o; id = id }

-- the state once an answer was given: that answer, and zeros
unfoldable pub resting : Answer → State
resting a =
    record { words = replicate 8 0; tail = replicate 64 0; stage = 0; start = 0; need = 0; width = 0; value = 0; left = 0; inputs = 0; outputs = 0; length = 0; answer = a }

-- the state before that
unfoldable pub open_state : Hashing → Progress → State
open_state h f =
    record {
      words = h.words;
      tail = h.tail;
      stage = stage_number f.stage;
      start = f.start;
      need = f.need;
      width = f.width;
      value = f.value;
      left = f.left;
      inputs = f.inputs;
      outputs = f.outputs;
      length = f.at;
      answer = answer_of more;
    }

unfoldable pub progress_of : State → Progress
progress_of st =
    record { stage = stage_of st.stage; start = st.start; need = st.need; width = st.width; value = st.value; left = st.left; inputs = st.inputs; outputs = st.outputs; at = st.length }

unfoldable pub hashing_in : State → Hashing
hashing_in st = record { words = st.words; tail = st.tail }

abbrev pub fed_state : Hashing → Fed → State
fed_state h (Ok f) = open_state h f
fed_state h (Err r) = resting (answer_of (refused (refusal_number r.refusal) r.place))

-- the state after the calls since the start: of the bytes that came alone, however they were cut
unfoldable pub state_of : Calls → State
state_of (came b) = fed_state (hashing_of b) (run MAX_PARTS (Ok first) b)
state_of (closed b) = resting (answer_of (says MAX_PARTS (closed b)))

-- what a call does to every state that the start and calls made; over other states it is free
abbrev pub Keeps : (Calls → Calls) → State → State → Type 0
Keeps after st r = (c : Calls) → st ≡ state_of c → r ≡ state_of (after c)
