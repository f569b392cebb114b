-- `levels::short_codes::chroma_dc` answers the entry of `chroma_dc`: each arm by the number that it was taken for.
use native.Mathlib.Omega.{arith}
use Rattle.levels.specs.InnerEntries.{chroma_dc}
use Rattle.levels.proofs.Arms.{entry}
use Rattle.levels.proofs.short_codes.chroma_dc.Goals as goal

pub returns-in-0 : goal.returns-in-0
unfolding chroma_dc
returns-in-0 c = entry chroma_dc 0 _ c.in-0.is

pub returns-in-1 : goal.returns-in-1
unfolding chroma_dc
returns-in-1 c = entry chroma_dc 1 _ c.in-1.is

pub returns-in-2 : goal.returns-in-2
unfolding chroma_dc
returns-in-2 c = entry chroma_dc 2 _ c.in-2.is

pub returns-in-3 : goal.returns-in-3
unfolding chroma_dc
returns-in-3 c = entry chroma_dc 3 _ c.in-3.is

pub returns-in-4 : goal.returns-in-4
unfolding chroma_dc
returns-in-4 c = entry chroma_dc 4 _ c.in-4.is

pub returns-in-5 : goal.returns-in-5
unfolding chroma_dc
returns-in-5 c = entry chroma_dc 5 _ c.in-5.is

pub returns-in-6 : goal.returns-in-6
unfolding chroma_dc
returns-in-6 c = entry chroma_dc 6 _ c.in-6.is

pub returns-in-7 : goal.returns-in-7
unfolding chroma_dc
returns-in-7 c = entry chroma_dc 7 _ c.in-7.is

pub returns-in-8 : goal.returns-in-8
unfolding chroma_dc
returns-in-8 c = entry chroma_dc 8 _ c.in-8.is

pub returns-in-9 : goal.returns-in-9
unfolding chroma_dc
returns-in-9 c = entry chroma_dc 9 _ c.in-9.is

pub returns-in-10 : goal.returns-in-10
unfolding chroma_dc
returns-in-10 c = entry chroma_dc 10 _ c.in-10.is

pub returns-in-11 : goal.returns-in-11
unfolding chroma_dc
returns-in-11 c = entry chroma_dc 11 _ c.in-11.is

pub returns-in-12 : goal.returns-in-12
unfolding chroma_dc
returns-in-12 c = entry chroma_dc 12 _ c.in-12.is

pub returns-in-13 : goal.returns-in-13
unfolding chroma_dc
returns-in-13 c = entry chroma_dc 13 _ c.in-13.is

pub returns-in-14 : goal.returns-in-14
unfolding chroma_dc
returns-in-14 c = entry chroma_dc 14 _ c.in-14.is

pub returns-in-15 : goal.returns-in-15
unfolding chroma_dc
returns-in-15 c = entry chroma_dc 15 _ c.in-15.is

pub returns-in-16 : goal.returns-in-16
unfolding chroma_dc
returns-in-16 c = entry chroma_dc 16 _ c.in-16.is

pub returns-in-17 : goal.returns-in-17
unfolding chroma_dc
returns-in-17 c = entry chroma_dc 17 _ c.in-17.is

pub returns-in-18 : goal.returns-in-18
unfolding chroma_dc
returns-in-18 c = entry chroma_dc 18 _ c.in-18.is

pub returns-in-19 : goal.returns-in-19
unfolding chroma_dc
returns-in-19 c = entry chroma_dc 19 _ c.in-19.is

pub returns-in-20 : goal.returns-in-20
unfolding chroma_dc
returns-in-20 c = entry chroma_dc 20 _ c.in-20.is

pub returns-in-21 : goal.returns-in-21
unfolding chroma_dc
returns-in-21 c = entry chroma_dc 21 _ c.in-21.is

pub returns-in-22 : goal.returns-in-22
unfolding chroma_dc
returns-in-22 c = entry chroma_dc 22 _ c.in-22.is

pub returns-in-23 : goal.returns-in-23
unfolding chroma_dc
returns-in-23 c = entry chroma_dc 23 _ c.in-23.is

pub returns-in-24 : goal.returns-in-24
unfolding chroma_dc
returns-in-24 c = entry chroma_dc 24 _ c.in-24.is

pub returns-in-25 : goal.returns-in-25
unfolding chroma_dc
returns-in-25 c = entry chroma_dc 25 _ c.in-25.is

pub returns-in-26 : goal.returns-in-26
unfolding chroma_dc
returns-in-26 c = entry chroma_dc 26 _ c.in-26.is

pub returns-in-27 : goal.returns-in-27
unfolding chroma_dc
returns-in-27 c = entry chroma_dc 27 _ c.in-27.is

pub returns-in-28 : goal.returns-in-28
unfolding chroma_dc
returns-in-28 c = entry chroma_dc 28 _ c.in-28.is

pub returns-in-29 : goal.returns-in-29
unfolding chroma_dc
returns-in-29 c = entry chroma_dc 29 _ c.in-29.is

pub returns-in-30 : goal.returns-in-30
unfolding chroma_dc
returns-in-30 c = entry chroma_dc 30 _ c.in-30.is

pub returns-in-31 : goal.returns-in-31
unfolding chroma_dc
returns-in-31 c = entry chroma_dc 31 _ c.in-31.is

pub returns-in-32 : goal.returns-in-32
unfolding chroma_dc
returns-in-32 c = entry chroma_dc 32 _ c.in-32.is

pub returns-in-33 : goal.returns-in-33
unfolding chroma_dc
returns-in-33 c = entry chroma_dc 33 _ c.in-33.is

pub returns-in-34 : goal.returns-in-34
unfolding chroma_dc
returns-in-34 c = entry chroma_dc 34 _ c.in-34.is

pub returns-in-35 : goal.returns-in-35
unfolding chroma_dc
returns-in-35 c = entry chroma_dc 35 _ c.in-35.is

pub returns-in-36 : goal.returns-in-36
unfolding chroma_dc
returns-in-36 c = entry chroma_dc 36 _ c.in-36.is

pub returns-in-37 : goal.returns-in-37
unfolding chroma_dc
returns-in-37 c = entry chroma_dc 37 _ c.in-37.is

pub returns-in-38 : goal.returns-in-38
unfolding chroma_dc
returns-in-38 c = entry chroma_dc 38 _ c.in-38.is

pub returns-in-39 : goal.returns-in-39
unfolding chroma_dc
returns-in-39 c = entry chroma_dc 39 _ c.in-39.is

pub returns-in-40 : goal.returns-in-40
unfolding chroma_dc
returns-in-40 c = entry chroma_dc 40 _ c.in-40.is

pub returns-in-41 : goal.returns-in-41
unfolding chroma_dc
returns-in-41 c = entry chroma_dc 41 _ c.in-41.is

pub returns-in-42 : goal.returns-in-42
unfolding chroma_dc
returns-in-42 c = entry chroma_dc 42 _ c.in-42.is

pub returns-in-43 : goal.returns-in-43
unfolding chroma_dc
returns-in-43 c = entry chroma_dc 43 _ c.in-43.is

pub returns-in-44 : goal.returns-in-44
unfolding chroma_dc
returns-in-44 c = entry chroma_dc 44 _ c.in-44.is

pub returns-in-45 : goal.returns-in-45
unfolding chroma_dc
returns-in-45 c = entry chroma_dc 45 _ c.in-45.is

pub returns-in-46 : goal.returns-in-46
unfolding chroma_dc
returns-in-46 c = entry chroma_dc 46 _ c.in-46.is

pub returns-in-47 : goal.returns-in-47
unfolding chroma_dc
returns-in-47 c = entry chroma_dc 47 _ c.in-47.is

pub returns-in-48 : goal.returns-in-48
unfolding chroma_dc
returns-in-48 c = entry chroma_dc 48 _ c.in-48.is

pub returns-in-49 : goal.returns-in-49
unfolding chroma_dc
returns-in-49 c = entry chroma_dc 49 _ c.in-49.is

pub returns-in-50 : goal.returns-in-50
unfolding chroma_dc
returns-in-50 c = entry chroma_dc 50 _ c.in-50.is

pub returns-in-51 : goal.returns-in-51
unfolding chroma_dc
returns-in-51 c = entry chroma_dc 51 _ c.in-51.is

pub returns-in-52 : goal.returns-in-52
unfolding chroma_dc
returns-in-52 c = entry chroma_dc 52 _ c.in-52.is

pub returns-in-53 : goal.returns-in-53
unfolding chroma_dc
returns-in-53 c = entry chroma_dc 53 _ c.in-53.is

pub returns-in-54 : goal.returns-in-54
unfolding chroma_dc
returns-in-54 c = entry chroma_dc 54 _ c.in-54.is

pub returns-in-55 : goal.returns-in-55
unfolding chroma_dc
returns-in-55 c = entry chroma_dc 55 _ c.in-55.is

pub returns-in-56 : goal.returns-in-56
unfolding chroma_dc
returns-in-56 c = entry chroma_dc 56 _ c.in-56.is

pub returns-in-57 : goal.returns-in-57
unfolding chroma_dc
returns-in-57 c = entry chroma_dc 57 _ c.in-57.is

pub returns-in-58 : goal.returns-in-58
unfolding chroma_dc
returns-in-58 c = entry chroma_dc 58 _ c.in-58.is

pub returns-in-59 : goal.returns-in-59
unfolding chroma_dc
returns-in-59 c = entry chroma_dc 59 _ c.in-59.is

pub returns-in-60 : goal.returns-in-60
unfolding chroma_dc
returns-in-60 c = entry chroma_dc 60 _ c.in-60.is

pub returns-in-61 : goal.returns-in-61
unfolding chroma_dc
returns-in-61 c = entry chroma_dc 61 _ c.in-61.is

pub returns-in-62 : goal.returns-in-62
unfolding chroma_dc
returns-in-62 c = entry chroma_dc 62 _ c.in-62.is

pub returns-in_default : goal.returns-in_default
unfolding chroma_dc
returns-in_default c = entry chroma_dc 63 c.args.bits (omega arith)
