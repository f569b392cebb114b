-- Document 01's number and detail of each refusal.
-- Assumes nothing.
use Rattle.std.specs.Prelude.{ℕ, ℤ, pos}
use Rattle.refusal.specs.declared.Refusal.{Refusal}
use Rattle.refusal.specs.declared.Refusal.TheVariants.{GridSize, StateLength, MissingReference, ReferenceLength, CallRange, QuantiserRange, BitPlace, TranscriptRoom, Truncated, BadBitWidth, InvalidFrameCode, InvalidQuantiser, LevelPosition, NumberForm, FieldRange}

abbrev pub number_of : Refusal → ℕ
number_of GridSize = 1
number_of StateLength = 2
number_of MissingReference = 3
number_of ReferenceLength = 4
number_of CallRange = 5
number_of QuantiserRange = 6
number_of BitPlace = 7
number_of TranscriptRoom = 8
number_of Truncated = 9
number_of (BadBitWidth n) = 10
number_of (InvalidFrameCode code) = 11
number_of (InvalidQuantiser q) = 12
number_of (LevelPosition at) = 13
number_of NumberForm = 14
number_of FieldRange = 15

-- refusals other than 10 to 13 carry detail 0
abbrev pub detail_of : Refusal → ℤ
detail_of GridSize = pos 0
detail_of StateLength = pos 0
detail_of MissingReference = pos 0
detail_of ReferenceLength = pos 0
detail_of CallRange = pos 0
detail_of QuantiserRange = pos 0
detail_of BitPlace = pos 0
detail_of TranscriptRoom = pos 0
detail_of Truncated = pos 0
detail_of (BadBitWidth n) = pos n
detail_of (InvalidFrameCode code) = pos code
detail_of (InvalidQuantiser q) = q
detail_of (LevelPosition at) = pos at
detail_of NumberForm = pos 0
detail_of FieldRange = pos 0
