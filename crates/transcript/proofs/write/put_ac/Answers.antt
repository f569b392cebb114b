-- `transcript::write::put_ac`: the lists that are left, written at their place, give the whole.
use mathlib.Core.Path.{◌≡◌, refl, sym, ap, ◌∙◌}
use mathlib.Core.List.{List, [], ◌∷◌, ◌++◌}
use Prim.Native.Nat.{ℕ, ◌+◌, ◌-◌, ◌*◌, ◌<◌, ◌≤◌}
use native.Mathlib.Omega.{arith}
use lib.IntN.{ℤ}
use lib.ListN.{length, take, drop, length-append, length-take, length-drop}
use lib.Seq.{drop-drop}
use Rattle.std.proofs.lemmas.List.{take_rest}
use Rattle.std.specs.Slice.Iter.{chunks_exact_rest}
use Rattle.levels.specs.declared.svq3_coeff.ResidualBook.TheVariants.{NormalScan}
use Rattle.levels.proofs.Sets.{drop_of_take}
use Rattle.record.specs.Write.{signed_numbers}
use Rattle.record.specs.InnerSides.{side_bytes}
use Rattle.transcript.proofs.Writing.{still-fits, still-more, still-none, first-list, no-list, next-sixteen}
use Rattle.transcript.proofs.write.put_ac.Goals.{In-Some}
use Rattle.transcript.proofs.write.put_ac.Goals as goal

-- ---- list i, and those behind it
abbrev one : List ℤ → ℕ → List ℕ
one ls i = signed_numbers (take 15 (drop (264 + 16 * i + 1) ls))

abbrev behind : List ℤ → ℕ → List ℕ
behind ls i = side_bytes NormalScan 1 (8 - (i + 1)) (264 + 16 * (i + 1)) ls

next-list : (ls : List ℤ) (i : ℕ) → i < 8 → side_bytes NormalScan 1 (8 - i) (264 + 16 * i) ls ≡ one ls i ++ behind ls i
next-list ls i h = first-list NormalScan 1 ls 264 8 i 16 refl h

abbrev count : In-Some → ℕ
count c = length c.loop-list.yielded

size : (c : In-Some) → length c.in-Some.list.now ≡ 16
size c = c.in-Some.ensures.steps.1.1 ∙ c.loop-list.invariant.0

turn : (c : In-Some) → (c.in-Some.list.now ≡ take 16 (drop (264 + 16 * count c) c.args.levels.now))
    × (chunks_exact_rest c.next.new.self ≡ take (128 - 16 * (count c + 1)) (drop (264 + 16 * (count c + 1)) c.args.levels.now)) × (16 * count c + 16 ≤ 128)
turn c = next-sixteen c.args.levels.now 264 128 (count c) c.in-Some.list.now (chunks_exact_rest c.next.new.self) (sym c.loop-list.invariant.1 ∙ c.in-Some.ensures.steps.1.0) (size c)

-- without its place 0
sent : (c : In-Some) → take (length c.in-Some.list.now - 1) (drop 1 c.in-Some.list.now) ≡ take 15 (drop (264 + 16 * count c + 1) c.args.levels.now)
sent c = take_rest c.in-Some.list.now 1 ∙ ap (drop 1) (turn c).0 ∙ drop_of_take 1 16 (drop (264 + 16 * count c) c.args.levels.now) ∙ ap (take 15) (drop-drop 1 (264 + 16 * count c) c.args.levels.now)

pub put_list-p-requires : goal.put_list-p-requires
put_list-p-requires c =
    let d = (goal.at.put_list-p-requires c).In-Some in
    let ls = c.args.levels.now in
    let fits = still-fits c.loop-list.invariant.2 (one ls (count d)) (behind ls (count d)) (next-list ls (count d) (omega (arith, (turn d).2))) c.requires in
    (omega (arith, size d, ap length (take_rest c.in-Some.list.now 1), length-drop 1 c.in-Some.list.now), rw (sent d) fits)

pub loop-list-preserved : goal.loop-list-preserved
loop-list-preserved c =
    let d = (goal.at.loop-list-preserved c).In-Some in
    let t = turn d in
    let more : length (c.loop-list.yielded ++ c.in-Some.list ∷ []) ≡ count d + 1 = length-append c.loop-list.yielded (c.in-Some.list ∷ []) in
    rw more (c.in-Some.ensures.steps.0 ∙ c.loop-list.invariant.0, t.1, still-more c.loop-list.invariant.2 (next-list c.args.levels.now (count d) (omega (arith, t.2))) (rw (sent d) at c.put_list-p.ensures))

pub returns : goal.returns
returns c =
    let a = c.args in
    let i = length c.loop-list.yielded in
    let v = c.loop-list.invariant in
    let all : 8 ≤ i = omega (arith, c.in-None.ensures.steps.1.0, v.0, ap length v.1, length-take (128 - 16 * i) (drop (264 + 16 * i) a.levels.now), length-drop (264 + 16 * i) a.levels.now, c.told-levels) in
    still-none v.2 (no-list NormalScan 1 a.levels.now _ 8 i all)
