-- What the function `run` answers and leaves.
-- Assumes nothing.
use Rattle.std.specs.Prelude.{List, ℕ, ◌+◌, ◌-◌, length}
use Rattle.state.specs.State.{State}
use Rattle.run.specs.Run.{Ran, ran_list}
use Rattle.run.specs.declared.Report.{Report}
use Rattle.run.specs.Run.{Stop}

-- what is said of a run, and what it leaves
pub record Left : Type 0 where
  pub report : Report
  pub state : State
  pub transcript : List ℕ

abbrev pub report_of : ℕ → ℕ → ℕ → ℕ → ℕ → Stop → Report
report_of accepted consumed place quantiser fill stop = record { accepted = accepted; consumed = consumed; place = place; quantiser = quantiser; fill = fill; stop = stop }

-- of a run from a place on, `before` calls having been accepted already: the counts are the number of accepted calls and the place's movement
unfoldable pub leaves : ℕ → ℕ → Ran → Left
leaves before place r =
    record {
      report = report_of (before + length r.accepted) (r.place - place) r.place r.state.quantiser r.fill r.stop;
      state = r.state;
      transcript = r.transcript;
    }

-- as the definition has it
unfoldable pub list_left : State → List ℕ → List ℕ → ℕ → List ℕ → Left
list_left s list bits place transcript = leaves 0 place (ran_list s list bits place transcript)

-- as the code has it
abbrev pub run_left : Report → State → List ℕ → Left
run_left r s transcript = record { report = r; state = s; transcript = transcript }
