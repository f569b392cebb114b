-- `decode_coded`: what yes to the questions tells is what reading asks, and what is read is what writing and applying ask.
use mathlib.Core.Path.{refl, sym, ap, ◌∙◌}
use mathlib.Core.List.{List}
use Prim.Native.Nat.{ℕ, ◌*◌, ◌<◌}
use native.Mathlib.Omega.{arith}
use lib.IntN.{ℤ}
use Rattle.picture.specs.InnerPicture.{Within}
use Rattle.record.specs.Record.{no_vectors}
use Rattle.levels.specs.Items.{no_levels}
use Rattle.record.specs.InnerRecord.{record_of}
use Rattle.record.specs.Range.{RecordRange, HeadRange}
use Rattle.record.specs.declared.Head.{Head}
use Rattle.state.specs.State.{State}
use Rattle.picture.specs.InnerLent.{contents}
use Rattle.picture.proofs.Lent.{stays}
use Rattle.macroblock.specs.InnerSource.{state_of_source}
use Rattle.refusal.proofs.Answered.{handed}
use Rattle.macroblock.proofs.Laws as laws
use Rattle.macroblock.proofs.svq3_frame.decode_coded.Goals.{In_ok-head, Start}
use Rattle.macroblock.proofs.svq3_frame.decode_coded.Goals as goal

-- ---- the state at entry
abbrev S : Start → State
S c = state_of_source c.args.source c.args.cursor.quantiser (contents c.args.pic.now)

facts_at : (s : Start) → laws.Facts (S s) s.args.call s.args.source.bits.now s.args.cursor.place s.args.transcript.now s.args.fill s.requires.fill_value
facts_at s = laws.facts (S s) s.args.call s.args.source.bits.now s.args.cursor.place s.args.transcript.now s.args.fill s.requires.fill_value

within-at : (s : Start) → Within (S s).cols (S s).rows s.args.call.column s.args.call.row
within-at s = laws.within (S s) s.args.call s.args.source.bits.now s.args.cursor.place s.args.transcript.now s.args.fill s.requires.fill_value

-- ---- a record was read
abbrev T : In_ok-head → State
T c = state_of_source c.args.source c.args.cursor.quantiser (contents c.args.pic.now)

abbrev H : In_ok-head → Head
H k = k.in_ok-head.head

abbrev Vs : In_ok-head → List ℤ
Vs k = k.read_coded.new.vectors

abbrev Ls : In_ok-head → List ℤ
Ls k = k.read_coded.new.levels

range_at : (k : In_ok-head) → RecordRange (T k).cols (T k).rows (record_of (H k) (Vs k) (Ls k))
range_at k = let s = k in laws.range (T s) s.args.call s.args.source.bits.now s.args.cursor.place s.args.transcript.now s.args.fill s.requires.fill_value s.requires.mode_nonzero _ (H k) _ (Vs k) (Ls k) k.read_coded.ensures k.in_ok-head.was

head_at : (k : In_ok-head) → HeadRange (H k)
head_at k = let s = k in laws.head_in (T s) s.args.call s.args.source.bits.now s.args.cursor.place s.args.transcript.now s.args.fill s.requires.fill_value s.requires.mode_nonzero _ (H k) _ (Vs k) (Ls k) k.read_coded.ensures k.in_ok-head.was

no-skip-at : (k : In_ok-head) → 0 < (H k).mode
no-skip-at k = let s = k in laws.no-skip (T s) s.args.call s.args.source.bits.now s.args.cursor.place s.args.transcript.now s.args.fill s.requires.fill_value s.requires.mode_nonzero _ (H k) _ (Vs k) (Ls k) k.read_coded.ensures k.in_ok-head.was

-- ---- the needs
pub invariant_of-cells : goal.invariant_of-cells
invariant_of-cells c =
    let f = facts_at (goal.at.invariant_of-cells c).Start in
    record { wide = f.in-grid.most-cols; paired = f.sized.mv ∙ ap (λ (n : ℕ). 2 * n) (sym f.sized.marks) }

pub invariant_of-bits : goal.invariant_of-bits
invariant_of-bits c = let f = facts_at (goal.at.invariant_of-bits c).Start in record { counted = f.rest.size_fits }

pub invariant_of-mb : goal.invariant_of-mb
invariant_of-mb c = let f = facts_at (goal.at.invariant_of-mb c).Start in record { within = within-at (goal.at.invariant_of-mb c).Start; mode = f.rest.mode }

pub read_coded-requires : goal.read_coded-requires
unfolding no_vectors no_levels
read_coded-requires c =
    let f = facts_at (goal.at.read_coded-requires c).Start in
    record { cells_all = (refl, f.sized.marks); none = (refl, refl); quantiser = f.rest.quantiser-most }

pub put_coded-filled-requires : goal.put_coded-filled-requires
put_coded-filled-requires c =
    let s = (goal.at.put_coded-filled-requires c).In_ok-head in
    (head_at (goal.at.put_coded-filled-requires c).In_ok-head, no-skip-at (goal.at.put_coded-filled-requires c).In_ok-head, omega (arith, laws.room (T s) s.args.call s.args.source.bits.now s.args.cursor.place s.args.transcript.now s.args.fill s.requires.fill_value))

pub invariant_of-coded : goal.invariant_of-coded
invariant_of-coded c =
    let f = facts_at (goal.at.invariant_of-coded c).Start in
    let k = (goal.at.invariant_of-coded c).In_ok-head in
    record { wide = f.in-grid.most-cols; high = f.in-grid.most-rows; range = range_at k; some = no-skip-at k }

pub apply_coded-requires : goal.apply_coded-requires
apply_coded-requires c = let f = facts_at (goal.at.apply_coded-requires c).Start in f.sized

pub returns-clause-same_slices : goal.returns-clause-same_slices
returns-clause-same_slices c = stays c.args.pic.now c.apply_coded.ensures.applied

pub returns-clause-left : goal.returns-clause-left
returns-clause-left c =
    let s = (goal.at.returns-clause-left c).In_ok-head in
    let w = c.put_coded-filled in
    let a = c.apply_coded in
    laws.accepted (T s) s.args.call s.args.source.bits.now s.args.cursor.place s.args.transcript.now s.args.fill s.requires.fill_value s.requires.mode_nonzero _ (H (goal.at.returns-clause-left c).In_ok-head) _ (Vs (goal.at.returns-clause-left c).In_ok-head) (Ls (goal.at.returns-clause-left c).In_ok-head) c.read_coded.ensures c.in_ok-head.was
    w.result _ w.new.out w.ensures (ap contents a.ensures.applied)

pub returns-in_err-head-clause-same_slices : goal.returns-in_err-head-clause-same_slices
returns-in_err-head-clause-same_slices c = refl

pub returns-in_err-head-clause-left : goal.returns-in_err-head-clause-left
returns-in_err-head-clause-left c =
    rw (handed _ _ c.from_residual.ensures) (laws.not-read (S (goal.at.returns-in_err-head-clause-left c).Start) c.args.call c.args.source.bits.now c.args.cursor.place c.args.transcript.now c.args.fill c.requires.fill_value c.requires.mode_nonzero _ _ _ _ c.read_coded.ensures c.in_err-head.was)
