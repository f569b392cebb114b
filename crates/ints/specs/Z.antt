-- Signed numbers without bounds: order, the nearest number of a range, division rounded down and toward zero.
-- `pos n` is n, `negsuc n` is -(n + 1), and `lt_z a b` tests a < b.
use Rattle.std.specs.Prelude.{Bool, true, false, ◌||◌, ℕ, suc, ◌-◌, ◌/◌, ◌%◌, ℤ, pos, negsuc, nat_abs}
use Rattle.std.specs.Int.Signed.{lt_z, quot_z}

-- x where the test holds, and y where not
infixr 5 when◌then◌else◌
unfoldable pub when◌then◌else◌ : {A : Type 0} → Bool → A → A → A
when true then x else y = x
when false then x else y = y

-- the lesser
unfoldable pub min_z : ℤ → ℤ → ℤ
min_z a b = when lt_z a b then a else b

-- the greater
unfoldable pub max_z : ℤ → ℤ → ℤ
max_z a b = when lt_z a b then b else a

-- z, held in lo to hi
unfoldable pub clamp_z : ℤ → ℤ → ℤ → ℤ
clamp_z lo hi z = when lt_z z lo then lo else when lt_z hi z then hi else z

-- the middle one of three: c, held between the other two
unfoldable pub median_z : ℤ → ℤ → ℤ → ℤ
median_z a b c = clamp_z (min_z a b) (max_z a b) c

-- the least and the greatest i32, -2147483648 and 2147483647
abbrev pub least_i32 : ℤ
least_i32 = negsuc 2147483647

abbrev pub most_i32 : ℤ
most_i32 = pos 2147483647

-- the nearest i32
unfoldable pub sat_z : ℤ → ℤ
sat_z z = clamp_z least_i32 most_i32 z

-- whether z leaves i32
unfoldable pub over_z : ℤ → Bool
over_z z = lt_z z least_i32 || lt_z most_i32 z

-- the nearest sample, 0 to 255
unfoldable pub clip1_z : ℤ → ℕ
clip1_z z = nat_abs (clamp_z (pos 0) (pos 255) z)

-- z / k rounded down
unfoldable pub floor_z : ℤ → ℕ → ℤ
floor_z (pos a) k = pos (a / k)
floor_z (negsuc a) k = negsuc (a / k)

-- what rounding down leaves of z, z - k * floor_z z k: 0 to k - 1
unfoldable pub mod_z : ℤ → ℕ → ℕ
mod_z (pos a) k = a % k
mod_z (negsuc a) k = k - suc (a % k)

-- z / k rounded toward zero
abbrev pub toward_zero : ℤ → ℕ → ℤ
toward_zero z k = quot_z z (pos k)
