-- `transcript::write::put_items`: the lists that are left, written at their place, give the whole.
use mathlib.Core.Path.{◌≡◌, refl}
use Prim.Native.Nat.{◌+◌, ◌-◌, ◌*◌}
use native.Mathlib.Omega.{arith}
use Rattle.record.specs.Write.{items_bytes}
use Rattle.transcript.proofs.Writing.{still-all, still-fits, still-more, still-room, still-last, quadrant-bytes}
use Rattle.transcript.proofs.write.put_items.Goals as goal

pub loop-q-init : goal.loop-q-init
loop-q-init c = let a = c.args in still-all a.out.now a.at _ _ refl

pub put_quadrant-p-requires : goal.put_quadrant-p-requires
put_quadrant-p-requires c =
    let l = c.loop-q in
    let h = c.loop-q-test.true in
    let ls = c.args.levels.now in
    (h, still-fits l.invariant (items_bytes 4 (4 * l.q) c.args.pattern ls) (items_bytes (26 - 4 * (l.q + 1)) (4 * (l.q + 1)) c.args.pattern ls) (quadrant-bytes c.args.pattern ls l.q h) c.requires)

pub loop-q-preserved : goal.loop-q-preserved
loop-q-preserved c =
    let a = c.args in
    let l = c.loop-q in
    let h = c.loop-q-test.true in
    still-more l.invariant (quadrant-bytes a.pattern a.levels.now l.q h) c.put_quadrant-p.ensures

pub put_chroma-requires : goal.put_chroma-requires
put_chroma-requires c =
    let l = c.loop-q in
    let e : l.q ≡ 4 = omega arith in
    still-room (rw e at l.invariant) c.requires

pub returns : goal.returns
returns c =
    let l = c.loop-q in
    let e : l.q ≡ 4 = omega arith in
    still-last (rw e at l.invariant) c.put_chroma.ensures
