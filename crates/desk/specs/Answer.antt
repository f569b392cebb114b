-- The number that each entry returns: 0 or a count where the work is done, else minus the refusal's number.
-- Assumes nothing.
use Rattle.std.specs.Prelude.{ℕ, ℤ, pos, neg_ℤ, Result, Ok, Err}
use Rattle.refusal.specs.Refusal.{number_of}
use Rattle.refusal.specs.declared.Refusal.{Refusal}

-- minus document 01's number of the refusal
abbrev pub refusal_code : Refusal → ℤ
refusal_code why = neg_ℤ (pos (number_of why))

-- a counts array that is too short
abbrev pub output_room : ℤ
output_room = neg_ℤ (pos 18)

-- a macroblock, a run, a replay or a block
abbrev pub done_code : {X : Type 0} → Result X Refusal → ℤ
done_code (Ok x) = pos 0
done_code (Err why) = refusal_code why

-- the number of records
abbrev pub check_code : Result ℕ Refusal → ℤ
check_code (Ok n) = pos n
check_code (Err why) = refusal_code why
