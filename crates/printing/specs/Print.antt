-- What the printer prints for an input.
-- Assumes nothing.
use Rattle.std.specs.Prelude.{List, [], ◌∷◌, ◌++◌, ℕ, ◌*◌, pos, drop, replicate}
use Rattle.refusal.specs.Got.{Got, got, refused}
use Rattle.picture.specs.Picture.{luma_length, chroma_length, cell_count}
use Rattle.state.specs.declared.Call.{Call}
use Rattle.record.specs.Record.{Record}
use Rattle.record.specs.Write.{record_bytes}
use Rattle.transcript.specs.Records.{records}
use Rattle.state.specs.State.{State}
use Rattle.macroblock.specs.Entry.{state_of}
use Rattle.run.specs.Run.{Ran, ran, transcript_of}
use Rattle.run.specs.Run.{Stop}
use Rattle.std.specs.Prelude.{Ok, Err}
use Rattle.printing.specs.Text.{hex_line, bits_line, refused_line}
use Rattle.printing.specs.Header.{header_in, calls_from, frame_of}
use Rattle.printing.specs.declared.header.Header.{Header}

-- the reference is 128; the picture, the vectors and the marks are 0
unfoldable pub start : Header → State
start h =
    let luma = luma_length h.grid.cols h.grid.rows in
    let chroma = chroma_length h.grid.cols h.grid.rows in
    let cells = cell_count h.grid.cols h.grid.rows in
    state_of (frame_of h) h.quantiser (replicate luma 128) (replicate chroma 128) (replicate chroma 128)
    (replicate luma 0) (replicate chroma 0) (replicate chroma 0) (replicate (2 * cells) (pos 0)) (replicate cells 0)

-- transcript bytes for 16 records
unfoldable pub room : List ℕ
room = replicate 33424 0

-- each record on a line
unfoldable pub record_lines : List Record → List ℕ
record_lines [] = []
record_lines (r ∷ rs) = hex_line (record_bytes r) ++ record_lines rs

-- a run's transcript is never refused
abbrev pub lines_of : Got (List Record) → List ℕ
lines_of (got rs n) = record_lines rs
lines_of (refused why) = []

abbrev pub stop_lines : Stop → List ℕ
stop_lines (Ok _) = []
stop_lines (Err why) = refused_line why

-- the records; `bits N`, of a run whose first place is 0; `refused C` at a refusal
unfoldable pub printed_run : State → Ran → List ℕ
printed_run s r = lines_of (records s.cols s.rows (transcript_of r)) ++ bits_line r.place ++ stop_lines r.stop

-- the calls were read from s, and the rest is bits; or 14 in the list
abbrev pub printed_calls : Header → List ℕ → Got (List Call) → List ℕ
printed_calls h s (got cs n) = printed_run (start h) (ran (start h) cs (drop n s) 0 room)
printed_calls h s (refused why) = refused_line why

-- the header was read from s; or a refusal in it
abbrev pub printed_header : List ℕ → Got Header → List ℕ
printed_header s (got h n) = printed_calls h (drop n s) (calls_from h.count (drop n s))
printed_header s (refused why) = refused_line why

unfoldable pub printed : List ℕ → List ℕ
printed input = printed_header input (header_in input)
