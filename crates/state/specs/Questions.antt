-- The questions before a macroblock, in document 01's order; the first "no" answers.
-- Assumes nothing.
use Rattle.std.specs.Prelude.{Bool, true, false, ◌&&◌, ◌||◌, ℕ, ◌*◌, ◌^◌, eqb, leb, ltb, Result, Ok, Err}
use Rattle.refusal.specs.declared.Refusal.{Refusal}
use Rattle.refusal.specs.declared.Refusal.TheVariants.{GridSize, StateLength, MissingReference, ReferenceLength, CallRange, QuantiserRange, BitPlace, TranscriptRoom}
use Rattle.picture.specs.Picture.{luma_length, chroma_length, cell_count}
use Rattle.state.specs.declared.Call.{Call}
use Rattle.state.specs.declared.Lengths.{Lengths}

-- the answer to questions: the first refusal, or none
abbrev pub Asked : Type 0
Asked = Result (Unit {0}) Refusal

abbrev pub yes : Asked
yes = Ok tt

-- where the answer is yes the next question is asked
abbrev pub then_ask : Bool → Refusal → Asked → Asked
then_ask true why next = next
then_ask false why next = Err why

-- 1: a grid of 1 to 4,096 both ways
unfoldable pub grid_right : ℕ → ℕ → Bool
grid_right cols rows = leb 1 cols && leb cols 4096 && leb 1 rows && leb rows 4096

-- three planes of the grid's lengths
unfoldable pub planes_right : ℕ → ℕ → ℕ → ℕ → ℕ → Bool
planes_right cols rows y cb cr = eqb y (luma_length cols rows) && eqb cb (chroma_length cols rows) && eqb cr (chroma_length cols rows)

-- 2: picture, vectors (two numbers a cell) and marks
unfoldable pub state_right : ℕ → ℕ → Lengths → Bool
state_right cols rows l = planes_right cols rows l.y l.cb l.cr && eqb l.mv (2 * cell_count cols rows) && eqb l.marks (cell_count cols rows)

-- 3: some reference plane is not empty
unfoldable pub reference_there : Lengths → Bool
reference_there l = ltb 0 l.ry || ltb 0 l.rcb || ltb 0 l.rcr

-- 5: mode at most 7, place in the grid
unfoldable pub call_right : ℕ → ℕ → Call → Bool
call_right cols rows call = leb call.mode 7 && ltb call.column cols && ltb call.row rows

-- 7: the place is at most the bit total of `size` bytes. From 2^61 bytes on, whose places do not fit 64 bits, the answer is no as well
unfoldable pub place_in : ℕ → ℕ → Bool
place_in size place = ltb size (2 ^ 61) && leb place (8 * size)

-- 1 to 4, then what follows
unfoldable pub ask_start : ℕ → ℕ → Lengths → Asked → Asked
ask_start cols rows l next =
    then_ask (grid_right cols rows) GridSize
    (then_ask (state_right cols rows l) StateLength
    (then_ask (reference_there l) MissingReference
    (then_ask (planes_right cols rows l.ry l.rcb l.rcr) ReferenceLength next)))

-- 6
unfoldable pub ask_quantiser : ℕ → Asked → Asked
ask_quantiser quantiser next = then_ask (leb quantiser 31) QuantiserRange next

-- 7
unfoldable pub ask_place : ℕ → ℕ → Asked → Asked
ask_place size place next = then_ask (place_in size place) BitPlace next

-- 5 to 8
unfoldable pub ask_rest : ℕ → ℕ → Call → ℕ → ℕ → ℕ → ℕ → Asked
ask_rest cols rows call quantiser size place free =
    then_ask (call_right cols rows call) CallRange
    (ask_quantiser quantiser
    (ask_place size place
    (then_ask (leb 2089 free) TranscriptRoom yes)))

-- 1 to 8: of a call
unfoldable pub ask_call : ℕ → ℕ → Lengths → Call → ℕ → ℕ → ℕ → ℕ → Asked
ask_call cols rows l call quantiser size place free = ask_start cols rows l (ask_rest cols rows call quantiser size place free)

-- 1 to 4, 6 and 7: of a run with no call
unfoldable pub ask_run : ℕ → ℕ → Lengths → ℕ → ℕ → ℕ → Asked
ask_run cols rows l quantiser size place = ask_start cols rows l (ask_quantiser quantiser (ask_place size place yes))

-- 1 to 4 and 6: of a replay
unfoldable pub ask_replay : ℕ → ℕ → Lengths → ℕ → Asked
ask_replay cols rows l quantiser = ask_start cols rows l (ask_quantiser quantiser yes)

-- of a plane (2), and of a block and its output (5), where a compensated block alone is asked for: 1 to `most` samples a side, and a length that matches
unfoldable pub sides_fit : ℕ → ℕ → ℕ → ℕ → Bool
sides_fit most w h size = leb 1 w && leb w most && leb 1 h && leb h most && eqb size (w * h)
