-- `levels::short_codes::normal_scan` answers the entry of `normal_scan`: each arm by the number that it was taken for.
use native.Mathlib.Omega.{arith}
use Rattle.levels.specs.InnerEntries.{normal_scan}
use Rattle.levels.proofs.Arms.{entry}
use Rattle.levels.proofs.short_codes.normal_scan.Goals as goal

pub returns-in-0 : goal.returns-in-0
unfolding normal_scan
returns-in-0 c = entry normal_scan 0 _ c.in-0.is

pub returns-in-1 : goal.returns-in-1
unfolding normal_scan
returns-in-1 c = entry normal_scan 1 _ c.in-1.is

pub returns-in-2 : goal.returns-in-2
unfolding normal_scan
returns-in-2 c = entry normal_scan 2 _ c.in-2.is

pub returns-in-3 : goal.returns-in-3
unfolding normal_scan
returns-in-3 c = entry normal_scan 3 _ c.in-3.is

pub returns-in-4 : goal.returns-in-4
unfolding normal_scan
returns-in-4 c = entry normal_scan 4 _ c.in-4.is

pub returns-in-5 : goal.returns-in-5
unfolding normal_scan
returns-in-5 c = entry normal_scan 5 _ c.in-5.is

pub returns-in-6 : goal.returns-in-6
unfolding normal_scan
returns-in-6 c = entry normal_scan 6 _ c.in-6.is

pub returns-in-7 : goal.returns-in-7
unfolding normal_scan
returns-in-7 c = entry normal_scan 7 _ c.in-7.is

pub returns-in-8 : goal.returns-in-8
unfolding normal_scan
returns-in-8 c = entry normal_scan 8 _ c.in-8.is

pub returns-in-9 : goal.returns-in-9
unfolding normal_scan
returns-in-9 c = entry normal_scan 9 _ c.in-9.is

pub returns-in-10 : goal.returns-in-10
unfolding normal_scan
returns-in-10 c = entry normal_scan 10 _ c.in-10.is

pub returns-in-11 : goal.returns-in-11
unfolding normal_scan
returns-in-11 c = entry normal_scan 11 _ c.in-11.is

pub returns-in-12 : goal.returns-in-12
unfolding normal_scan
returns-in-12 c = entry normal_scan 12 _ c.in-12.is

pub returns-in-13 : goal.returns-in-13
unfolding normal_scan
returns-in-13 c = entry normal_scan 13 _ c.in-13.is

pub returns-in-14 : goal.returns-in-14
unfolding normal_scan
returns-in-14 c = entry normal_scan 14 _ c.in-14.is

pub returns-in-15 : goal.returns-in-15
unfolding normal_scan
returns-in-15 c = entry normal_scan 15 _ c.in-15.is

pub returns-in-16 : goal.returns-in-16
unfolding normal_scan
returns-in-16 c = entry normal_scan 16 _ c.in-16.is

pub returns-in-17 : goal.returns-in-17
unfolding normal_scan
returns-in-17 c = entry normal_scan 17 _ c.in-17.is

pub returns-in-18 : goal.returns-in-18
unfolding normal_scan
returns-in-18 c = entry normal_scan 18 _ c.in-18.is

pub returns-in-19 : goal.returns-in-19
unfolding normal_scan
returns-in-19 c = entry normal_scan 19 _ c.in-19.is

pub returns-in-20 : goal.returns-in-20
unfolding normal_scan
returns-in-20 c = entry normal_scan 20 _ c.in-20.is

pub returns-in-21 : goal.returns-in-21
unfolding normal_scan
returns-in-21 c = entry normal_scan 21 _ c.in-21.is

pub returns-in-22 : goal.returns-in-22
unfolding normal_scan
returns-in-22 c = entry normal_scan 22 _ c.in-22.is

pub returns-in-23 : goal.returns-in-23
unfolding normal_scan
returns-in-23 c = entry normal_scan 23 _ c.in-23.is

pub returns-in-24 : goal.returns-in-24
unfolding normal_scan
returns-in-24 c = entry normal_scan 24 _ c.in-24.is

pub returns-in-25 : goal.returns-in-25
unfolding normal_scan
returns-in-25 c = entry normal_scan 25 _ c.in-25.is

pub returns-in-26 : goal.returns-in-26
unfolding normal_scan
returns-in-26 c = entry normal_scan 26 _ c.in-26.is

pub returns-in-27 : goal.returns-in-27
unfolding normal_scan
returns-in-27 c = entry normal_scan 27 _ c.in-27.is

pub returns-in-28 : goal.returns-in-28
unfolding normal_scan
returns-in-28 c = entry normal_scan 28 _ c.in-28.is

pub returns-in-29 : goal.returns-in-29
unfolding normal_scan
returns-in-29 c = entry normal_scan 29 _ c.in-29.is

pub returns-in-30 : goal.returns-in-30
unfolding normal_scan
returns-in-30 c = entry normal_scan 30 _ c.in-30.is

pub returns-in-31 : goal.returns-in-31
unfolding normal_scan
returns-in-31 c = entry normal_scan 31 _ c.in-31.is

pub returns-in-32 : goal.returns-in-32
unfolding normal_scan
returns-in-32 c = entry normal_scan 32 _ c.in-32.is

pub returns-in-33 : goal.returns-in-33
unfolding normal_scan
returns-in-33 c = entry normal_scan 33 _ c.in-33.is

pub returns-in-34 : goal.returns-in-34
unfolding normal_scan
returns-in-34 c = entry normal_scan 34 _ c.in-34.is

pub returns-in-35 : goal.returns-in-35
unfolding normal_scan
returns-in-35 c = entry normal_scan 35 _ c.in-35.is

pub returns-in-36 : goal.returns-in-36
unfolding normal_scan
returns-in-36 c = entry normal_scan 36 _ c.in-36.is

pub returns-in-37 : goal.returns-in-37
unfolding normal_scan
returns-in-37 c = entry normal_scan 37 _ c.in-37.is

pub returns-in-38 : goal.returns-in-38
unfolding normal_scan
returns-in-38 c = entry normal_scan 38 _ c.in-38.is

pub returns-in-39 : goal.returns-in-39
unfolding normal_scan
returns-in-39 c = entry normal_scan 39 _ c.in-39.is

pub returns-in-40 : goal.returns-in-40
unfolding normal_scan
returns-in-40 c = entry normal_scan 40 _ c.in-40.is

pub returns-in-41 : goal.returns-in-41
unfolding normal_scan
returns-in-41 c = entry normal_scan 41 _ c.in-41.is

pub returns-in-42 : goal.returns-in-42
unfolding normal_scan
returns-in-42 c = entry normal_scan 42 _ c.in-42.is

pub returns-in-43 : goal.returns-in-43
unfolding normal_scan
returns-in-43 c = entry normal_scan 43 _ c.in-43.is

pub returns-in-44 : goal.returns-in-44
unfolding normal_scan
returns-in-44 c = entry normal_scan 44 _ c.in-44.is

pub returns-in-45 : goal.returns-in-45
unfolding normal_scan
returns-in-45 c = entry normal_scan 45 _ c.in-45.is

pub returns-in-46 : goal.returns-in-46
unfolding normal_scan
returns-in-46 c = entry normal_scan 46 _ c.in-46.is

pub returns-in-47 : goal.returns-in-47
unfolding normal_scan
returns-in-47 c = entry normal_scan 47 _ c.in-47.is

pub returns-in-48 : goal.returns-in-48
unfolding normal_scan
returns-in-48 c = entry normal_scan 48 _ c.in-48.is

pub returns-in-49 : goal.returns-in-49
unfolding normal_scan
returns-in-49 c = entry normal_scan 49 _ c.in-49.is

pub returns-in-50 : goal.returns-in-50
unfolding normal_scan
returns-in-50 c = entry normal_scan 50 _ c.in-50.is

pub returns-in-51 : goal.returns-in-51
unfolding normal_scan
returns-in-51 c = entry normal_scan 51 _ c.in-51.is

pub returns-in-52 : goal.returns-in-52
unfolding normal_scan
returns-in-52 c = entry normal_scan 52 _ c.in-52.is

pub returns-in-53 : goal.returns-in-53
unfolding normal_scan
returns-in-53 c = entry normal_scan 53 _ c.in-53.is

pub returns-in-54 : goal.returns-in-54
unfolding normal_scan
returns-in-54 c = entry normal_scan 54 _ c.in-54.is

pub returns-in-55 : goal.returns-in-55
unfolding normal_scan
returns-in-55 c = entry normal_scan 55 _ c.in-55.is

pub returns-in-56 : goal.returns-in-56
unfolding normal_scan
returns-in-56 c = entry normal_scan 56 _ c.in-56.is

pub returns-in-57 : goal.returns-in-57
unfolding normal_scan
returns-in-57 c = entry normal_scan 57 _ c.in-57.is

pub returns-in-58 : goal.returns-in-58
unfolding normal_scan
returns-in-58 c = entry normal_scan 58 _ c.in-58.is

pub returns-in-59 : goal.returns-in-59
unfolding normal_scan
returns-in-59 c = entry normal_scan 59 _ c.in-59.is

pub returns-in-60 : goal.returns-in-60
unfolding normal_scan
returns-in-60 c = entry normal_scan 60 _ c.in-60.is

pub returns-in-61 : goal.returns-in-61
unfolding normal_scan
returns-in-61 c = entry normal_scan 61 _ c.in-61.is

pub returns-in-62 : goal.returns-in-62
unfolding normal_scan
returns-in-62 c = entry normal_scan 62 _ c.in-62.is

pub returns-in_default : goal.returns-in_default
unfolding normal_scan
returns-in_default c = entry normal_scan 63 c.args.bits (omega arith)
