-- The counts that an entry writes, in their order.
-- Assumes nothing.
use Rattle.std.specs.Prelude.{List, [], ◌∷◌, ℕ, ◌-◌, ℤ, pos, negsuc, Ok, Err}
use Rattle.refusal.specs.Refusal.{detail_of}
use Rattle.macroblock.specs.Decode.{MbAnswer}
use Rattle.run.specs.declared.Report.{Report}
use Rattle.run.specs.Run.{Stop}
use Rattle.replay.specs.Replay.{ReplayAnswer}

-- a signed number as a count: two's complement in 64 bits
abbrev pub word_of : ℤ → ℕ
word_of (pos n) = n
word_of (negsuc n) = 18446744073709551615 - n

-- one macroblock: the place, the quantiser, the fill, the clipped components, the detail; refused, the first three as they were given
abbrev pub mb_counts : MbAnswer → ℕ → ℕ → ℕ → List ℕ
mb_counts (Ok report) place quantiser fill = report.place ∷ report.quantiser ∷ report.fill ∷ report.clipped ∷ 0 ∷ []
mb_counts (Err why) place quantiser fill = place ∷ quantiser ∷ fill ∷ 0 ∷ word_of (detail_of why) ∷ []

-- a run: the accepted calls, the consumed bits, the fill, the quantiser, the detail
abbrev pub stop_detail : Stop → ℕ
stop_detail (Ok _) = 0
stop_detail (Err why) = word_of (detail_of why)

abbrev pub run_counts : Report → List ℕ
run_counts r = r.accepted ∷ r.consumed ∷ r.fill ∷ r.quantiser ∷ stop_detail r.stop ∷ []

-- a replay: the records, the quantiser; refused, 0 and the quantiser as it was given
abbrev pub replay_counts : ReplayAnswer → ℕ → List ℕ
replay_counts (Ok report) quantiser = report.records ∷ report.quantiser ∷ []
replay_counts (Err why) quantiser = 0 ∷ quantiser ∷ []
