-- `transcript::write::put_blocks`: the lists that are left, written at their place, give the whole.
use mathlib.Core.Path.{◌≡◌, refl, sym, ap, ◌∙◌}
use mathlib.Core.List.{List, [], ◌∷◌, ◌++◌}
use Prim.Native.Nat.{ℕ, ◌+◌, ◌-◌, ◌*◌, ◌<◌, ◌≤◌}
use native.Mathlib.Omega.{arith}
use lib.IntN.{ℤ}
use lib.ListN.{length, take, drop, length-append, length-take, length-drop}
use Rattle.std.specs.Slice.Iter.{chunks_exact_rest}
use Rattle.levels.specs.declared.svq3_coeff.ResidualBook.TheVariants.{NormalScan}
use Rattle.record.specs.Write.{signed_numbers}
use Rattle.record.specs.InnerSides.{side_bytes}
use Rattle.transcript.proofs.Writing.{still-fits, still-more, still-none, first-list, no-list, next-sixteen}
use Rattle.transcript.proofs.write.put_blocks.Goals.{In-Some}
use Rattle.transcript.proofs.write.put_blocks.Goals as goal

abbrev one : List ℤ → ℕ → ℕ → List ℕ
one ls place i = signed_numbers (take 16 (drop (place + 16 * i) ls))

abbrev behind : List ℤ → ℕ → ℕ → List ℕ
behind ls place i = side_bytes NormalScan 0 (4 - (i + 1)) (place + 16 * (i + 1)) ls

next-list : (ls : List ℤ) (place i : ℕ) → i < 4 → side_bytes NormalScan 0 (4 - i) (place + 16 * i) ls ≡ one ls place i ++ behind ls place i
next-list ls place i h =
    let z : place + 16 * i + 0 ≡ place + 16 * i = omega arith in
    rw z at (first-list NormalScan 0 ls place 4 i 16 refl h)

abbrev count : In-Some → ℕ
count c = length c.loop-list.yielded

size : (c : In-Some) → length c.in-Some.list.now ≡ 16
size c = c.in-Some.ensures.steps.1.1 ∙ c.loop-list.invariant.0

turn : (c : In-Some) → (c.in-Some.list.now ≡ take 16 (drop (c.args.place + 16 * count c) c.args.levels.now))
    × (chunks_exact_rest c.next.new.self ≡ take (64 - 16 * (count c + 1)) (drop (c.args.place + 16 * (count c + 1)) c.args.levels.now)) × (16 * count c + 16 ≤ 64)
turn c = next-sixteen c.args.levels.now c.args.place 64 (count c) c.in-Some.list.now (chunks_exact_rest c.next.new.self) (sym c.loop-list.invariant.1 ∙ c.in-Some.ensures.steps.1.0) (size c)

pub put_list-p-requires : goal.put_list-p-requires
put_list-p-requires c =
    let d = (goal.at.put_list-p-requires c).In-Some in
    let ls = c.args.levels.now in
    let t = turn d in
    let fits = still-fits c.loop-list.invariant.2 (one ls c.args.place (count d)) (behind ls c.args.place (count d)) (next-list ls c.args.place (count d) (omega (arith, t.2))) c.requires.1 in
    (omega (arith, size d), rw t.0 fits)

pub loop-list-preserved : goal.loop-list-preserved
loop-list-preserved c =
    let d = (goal.at.loop-list-preserved c).In-Some in
    let t = turn d in
    let more : length (c.loop-list.yielded ++ c.in-Some.list ∷ []) ≡ count d + 1 = length-append c.loop-list.yielded (c.in-Some.list ∷ []) in
    rw more (c.in-Some.ensures.steps.0 ∙ c.loop-list.invariant.0, t.1, still-more c.loop-list.invariant.2 (next-list c.args.levels.now c.args.place (count d) (omega (arith, t.2))) (rw t.0 at c.put_list-p.ensures))

pub returns : goal.returns
returns c =
    let a = c.args in
    let i = length c.loop-list.yielded in
    let v = c.loop-list.invariant in
    let all : 4 ≤ i = omega (arith, c.in-None.ensures.steps.1.0, v.0, ap length v.1, length-take (64 - 16 * i) (drop (a.place + 16 * i) a.levels.now), length-drop (a.place + 16 * i) a.levels.now, c.requires.0) in
    still-none v.2 (no-list NormalScan 0 a.levels.now _ 4 i all)
