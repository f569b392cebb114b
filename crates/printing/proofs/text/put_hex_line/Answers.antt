-- `printing::text::put_hex_line`: the digits that are left, and the end of the line, written at their place, give the whole.
use mathlib.Core.Path.{refl}
use mathlib.Core.List.{[], ◌∷◌}
use Prim.Native.Nat.{◌<◌}
use native.Mathlib.Omega.{arith}
use lib.ListN.{length, length-set}
use Rattle.transcript.proofs.Writing.{still-all, still-fits, still-more, still-none}
use Rattle.printing.proofs.Texts.{written_one, hex-all, hex-none, hex-fits, hex-more}
use Rattle.printing.proofs.text.put_hex_line.Goals.{After-loop-b}
use Rattle.printing.proofs.text.put_hex_line.Goals as goal

end_fits : (c : After-loop-b) → c.loop-b.p < length c.loop-b.out
end_fits c =
    let l = c.loop-b in
    let f = still-fits l.invariant (10 ∷ []) [] (hex-none c.args.bytes.now l.b-index c.loop-b-test.false) c.requires in
    omega arith

pub loop-b-init : goal.loop-b-init
loop-b-init c = let a = c.args in still-all a.out.now a.at _ _ (hex-all a.bytes.now)

pub bounds-out-p : goal.bounds-out-p
bounds-out-p c =
    let l = c.loop-b in
    let f = hex-fits c.args.bytes.now l.b-index c.loop-b-test.true l.invariant c.requires in
    omega arith

pub bounds-out-p-in-loop-b : goal.bounds-out-p-in-loop-b
bounds-out-p-in-loop-b c =
    let l = c.loop-b in
    let f = hex-fits c.args.bytes.now l.b-index c.loop-b-test.true l.invariant c.requires in
    simp length-set (omega arith)

pub loop-b-preserved : goal.loop-b-preserved
loop-b-preserved c =
    let l = c.loop-b in
    hex-more c.args.bytes.now l.b-index c.loop-b-test.true l.invariant _ _ c.hex_digit.ensures c.hex_digit-in-loop-b.ensures

pub returns : goal.returns
returns c =
    let l = c.loop-b in
    let e = hex-none c.args.bytes.now l.b-index c.loop-b-test.false in
    still-none (still-more l.invariant {a = 10 ∷ []} {b = []} e (written_one l.out l.p 10)) refl

pub bounds-out-p-2 : goal.bounds-out-p-2
bounds-out-p-2 c = end_fits c
