-- What yes to the questions of a call says.
-- Assumes nothing.
use mathlib.Core.Path.{◌≡◌}
use Prim.Native.Nat.{ℕ, ◌≤◌}
use borrow.Author.Tests.{le-leb}
use Rattle.state.specs.Questions.{ask_start, ask_quantiser, ask_call, ask_replay}
use Rattle.state.proofs.Laws.{grid-range}
use Rattle.state.proofs.Yes.{started, rest-yes}
use Rattle.state.specs.declared.Call.{Call}
use Rattle.state.specs.Questions.{yes}
use Rattle.state.specs.State.{State, lengths_of}
use Rattle.theorems.specs.Trace.{Ready}

-- where 1 to 8 of a call pass, so do 1 to 4 and 6; the call is ready, and 2,089 bytes are free
pub record Asks (s : State) (call : Call) (free : ℕ) : Type 0 where
  pub ready : Ready s call
  pub free_bytes : 2089 ≤ free
  pub replay : ask_replay s.cols s.rows (lengths_of s) s.quantiser ≡ yes

pub asks : (s : State) (call : Call) (size place free : ℕ) → ask_call s.cols s.rows (lengths_of s) call s.quantiser size place free ≡ yes → Asks s call free
unfolding ask_call ask_replay ask_start ask_quantiser
asks s call size place free e =
    let st = started s.cols s.rows (lengths_of s) _ e in
    let g = grid-range s.cols s.rows st.one in
    let r = rest-yes s.cols s.rows call s.quantiser size place free st.others in
    record {
      ready = record { wide = g.most-cols; high = g.most-rows; mode = r.mode; column = r.column; row = r.row; quantiser = r.quantiser-most };
      free_bytes = r.free_bytes;
      replay = rw (st.one, st.two, st.three, st.four, le-leb s.quantiser 31 r.quantiser-most);
    }
