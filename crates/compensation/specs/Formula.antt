-- The sample between four taps: s00, s10 to its right, s01 below, s11 below to the right; px and py are the phases, in sixths of the way.
-- Assumes nothing.
use Rattle.std.specs.Prelude.{ℕ, ◌+◌, ◌*◌, ◌/◌, ◌&&◌, eqb, ltb}
use Rattle.ints.specs.Z.{when◌then◌else◌}

-- halfway between two: their mean, rounded up
abbrev pub mean : ℕ → ℕ → ℕ
mean a b = (a + b + 1) / 2

-- a third of the way from the near one to the far one
abbrev pub third : ℕ → ℕ → ℕ
third near far = (4 * near + 2 * far + 3) / 6

-- one phase: the first tap at 0, halfway at 3, else a third; near is the first tap for 1 and 2
unfoldable pub along : ℕ → ℕ → ℕ → ℕ
along f a b = when eqb f 0 then a else when eqb f 3 then mean a b else when ltb f 3 then third a b else third b a

-- two phases, none of them 0 or 3
abbrev pub corner : ℕ → ℕ → ℕ → ℕ → ℕ
corner near ex ey far = (4 * near + 3 * ex + 3 * ey + 2 * far + 6) / 12

-- near is the tap on the right for a horizontal phase above 3, below for a vertical one above 3; far is opposite on both axes
unfoldable pub third2d : ℕ → ℕ → ℕ → ℕ → ℕ → ℕ → ℕ
third2d px py s00 s10 s01 s11 =
    when ltb py 3
    then (when ltb px 3 then corner s00 s10 s01 s11 else corner s10 s00 s11 s01)
    else (when ltb px 3 then corner s01 s11 s00 s10 else corner s11 s01 s10 s00)

-- a lone phase; both 3: the mean of four; one 3 with another phase: halfway along the 3's axis, then a third on the other
unfoldable pub formula : ℕ → ℕ → ℕ → ℕ → ℕ → ℕ → ℕ
formula px py s00 s10 s01 s11 =
    when eqb py 0 then along px s00 s10
    else when eqb px 0 then along py s00 s01
    else when eqb px 3 && eqb py 3 then (s00 + s10 + s01 + s11 + 2) / 4
    else when eqb px 3 then along py (mean s00 s10) (mean s01 s11)
    else when eqb py 3 then along px (mean s00 s01) (mean s10 s11)
    else third2d px py s00 s10 s01 s11
