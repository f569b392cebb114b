-- What the calls of a list in form leave, from any call on.
-- Assumes nothing.
use Rattle.std.specs.Prelude.{◌≡◌, List, ℕ}
use Rattle.refusal.specs.Got.{Got, got, refused}
use Rattle.state.specs.declared.Call.{Call}
use Rattle.run.specs.Calls.{calls}
use Rattle.state.specs.State.{State}
use Rattle.run.specs.Run.{Ran, ran_from, ended}
use Rattle.std.specs.Prelude.{Err}
use Rattle.run.specs.Left.{Left, leaves}

-- a list in form
pub record Listed (list : List ℕ) : Type 0 where
  pub cs : List Call
  pub taken : ℕ
  pub is : calls list ≡ got cs taken

-- the calls of a list, each asked as it is made
abbrev pub from_of : State → Got (List Call) → List ℕ → ℕ → List ℕ → ℕ → Ran
from_of s (got cs n) bits place transcript fill = ran_from s cs bits place transcript fill
from_of s (refused why) bits place transcript fill = ended s place transcript fill (Err why)

unfoldable pub calls_left : State → List ℕ → List ℕ → ℕ → List ℕ → Left
calls_left s list bits place transcript = leaves 0 place (from_of s (calls list) bits place transcript 0)
