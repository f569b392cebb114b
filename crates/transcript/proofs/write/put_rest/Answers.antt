-- `transcript::write::put_rest` writes its six parts one after another.
use mathlib.Core.Path.{◌≡◌, ap}
use mathlib.Core.List.{List, [], ◌∷◌}
use Prim.Native.Nat.{ℕ, ◌*◌}
use Rattle.std.specs.Prelude.{ℤ}
use native.Mathlib.Omega.{arith}
use lib.ListN.{take}
use Rattle.number.specs.Number.{number}
use Rattle.vectors.specs.Modes.{num_motion_vectors}
use Rattle.record.specs.Record.{Record}
use Rattle.record.specs.InnerRecord.{record_of}
use Rattle.record.specs.Write.{signed_numbers, items_bytes, rest_bytes}
use Rattle.record.proofs.Padded.{used-most}
use Rattle.transcript.proofs.Writing.{Due, due_all, due-fits, due-next, due-number, due-none, rest-parts}
use Rattle.transcript.proofs.write.put_rest.Goals.{After-put_signed_numbers-p, Start}
use Rattle.transcript.proofs.write.put_rest.Goals as goal

-- ---- what is left to write after each part
abbrev R : Start → Record
R s = record_of s.args.head s.args.vectors.now s.args.levels.now

abbrev from_pattern : Record → List (List ℕ)
from_pattern r = number r.head.pattern ∷ number r.head.quantiser ∷ items_bytes 26 0 r.head.pattern r.levels ∷ []

abbrev from_clipped : Record → List (List ℕ)
from_clipped r = number r.head.clipped ∷ signed_numbers (take (2 * num_motion_vectors r.head.mode) r.vectors) ∷ from_pattern r

all_left : (r : Record) (out : List ℕ) (at : ℕ) → Due out at (rest_bytes r) out at (number r.head.precision ∷ from_clipped r)
all_left r out at = due_all out at (rest_bytes r) _ (rest-parts r)

d1 : (s : Start) → Due s.args.out.now s.args.at (rest_bytes (R s)) s.args.out.now s.args.at (number s.args.head.precision ∷ from_clipped (R s))
d1 s = all_left (R s) s.args.out.now s.args.at

-- the number of numbers is what `num_motion_vectors` answered
numbers : {n m : ℕ} (vs : List ℤ) → n ≡ m → signed_numbers (take (2 * n) vs) ≡ signed_numbers (take (2 * m) vs)
numbers vs e = ap (λ (n : ℕ). signed_numbers (take (2 * n) vs)) e

abbrev Left : (c : After-put_signed_numbers-p) → List ℕ → ℕ → List (List ℕ) → Type 0
Left c = Due c.args.out.now c.args.at (rest_bytes (record_of c.args.head c.args.vectors.now c.args.levels.now))

d4 : (c : After-put_signed_numbers-p) → Left c c.put_signed_numbers-p.new.out c.put_signed_numbers-p.result (from_pattern (record_of c.args.head c.args.vectors.now c.args.levels.now))
d4 c =
    let r = record_of c.args.head c.args.vectors.now c.args.levels.now in
    due-next
    (due-number (due-number (all_left r c.args.out.now c.args.at) c.put_number-p.ensures) c.put_number-p-2.ensures)
    (rw (numbers c.args.vectors.now c.num_motion_vectors.ensures) at c.put_signed_numbers-p.ensures)

-- ---- the needs
pub put_number-p-requires : goal.put_number-p-requires
put_number-p-requires c = due-fits (d1 (goal.at.put_number-p-requires c).Start) c.requires.1

pub put_number-p-requires-2 : goal.put_number-p-requires-2
put_number-p-requires-2 c = due-fits (due-number (d1 (goal.at.put_number-p-requires-2 c).Start) c.put_number-p.ensures) c.requires.1

pub overflow_mul-num_motion_vectors : goal.overflow_mul-num_motion_vectors
overflow_mul-num_motion_vectors c = omega (arith, c.num_motion_vectors.ensures, used-most c.args.head.mode c.requires.0.mode)

pub put_signed_numbers-p-requires : goal.put_signed_numbers-p-requires
put_signed_numbers-p-requires c =
    rw (numbers c.args.vectors.now c.num_motion_vectors.ensures)
    (due-fits (due-number (due-number (d1 (goal.at.put_signed_numbers-p-requires c).Start) c.put_number-p.ensures) c.put_number-p-2.ensures) c.requires.1)

pub shared_ref_as_front-put_signed_numbers : goal.shared_ref_as_front-put_signed_numbers
shared_ref_as_front-put_signed_numbers c = omega (arith, c.num_motion_vectors.ensures, used-most c.args.head.mode c.requires.0.mode)

pub put_number-p-requires-3 : goal.put_number-p-requires-3
put_number-p-requires-3 c = due-fits (d4 (goal.at.put_number-p-requires-3 c).After-put_signed_numbers-p) c.requires.1

pub put_number-p-requires-4 : goal.put_number-p-requires-4
put_number-p-requires-4 c = due-fits (due-number (d4 (goal.at.put_number-p-requires-4 c).After-put_signed_numbers-p) c.put_number-p-3.ensures) c.requires.1

pub put_items-requires : goal.put_items-requires
put_items-requires c =
    due-fits (due-number (due-number (d4 (goal.at.put_items-requires c).After-put_signed_numbers-p) c.put_number-p-3.ensures) c.put_number-p-4.ensures) c.requires.1

pub returns : goal.returns
returns c =
    due-none (due-next (due-number (due-number (d4 (goal.at.returns c).After-put_signed_numbers-p) c.put_number-p-3.ensures) c.put_number-p-4.ensures) c.put_items.ensures)
