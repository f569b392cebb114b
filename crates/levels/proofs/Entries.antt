-- Tests over the entries and the runs of both books, and what the functions over a book compute.
-- Assumes nothing.
use mathlib.Core.Path.{◌≡◌, refl}
use mathlib.Core.Bool.{Bool, ◌&&◌}
use Prim.Native.Nat.{ℕ, zero, suc, ◌%◌, ◌^◌, ◌≤◌, ◌<◌}
use native.Mathlib.Omega.{arith}
use borrow.Author.Tests.{lt-ltb, le-ltb, eq-eqb, ne_eqb}
use lib.Dec.{T, leb, leb→le}
use lib.IntN.{ℤ, pos, ◌-ℤ◌}
use lib.ListN.{get_or}
use lib.Signed.{mag}
use mir.Syntax.{w32}
use mir.Val.{to_z, of_z}
use mir.Facts.{to_z_pos, to_z-of_z}
use Rattle.bits.proofs.SignedCode.{neg_is}
use Rattle.levels.specs.Book.{half, magnitudes, runs, escape, positions, least, chroma_base, escape_magnitude, magnitude, run, level_of, level, LevelRun, resolve}
use Rattle.levels.specs.declared.svq3_coeff.ResidualBook.{ResidualBook}
use Rattle.levels.specs.declared.svq3_coeff.ResidualBook.TheVariants.{NormalScan, ChromaDc}
use Rattle.std.specs.Prelude.{Some}
use Rattle.levels.proofs.ShortTable.{both_left, both_right, every, at}

-- ---- a test at every entry, and at every run, of both books
pub by_entries : (f : ResidualBook → ℕ → Bool) → T (every (f NormalScan) 31) → T (every (f ChromaDc) 23) → (book : ResidualBook) (k : ℕ) → k < escape book → T (f book k)
by_entries f n c NormalScan k h = at (f NormalScan) 31 n k h
by_entries f n c ChromaDc k h = at (f ChromaDc) 23 c k h

pub by_runs : (f : ResidualBook → ℕ → Bool) → T (every (f NormalScan) 16) → T (every (f ChromaDc) 4) → (book : ResidualBook) (r : ℕ) → r < positions book → T (f book r)
by_runs f n c NormalScan r h = at (f NormalScan) 16 n r h
by_runs f n c ChromaDc r h = at (f ChromaDc) 4 c r h

pub escape-most : (book : ResidualBook) → escape book ≤ 31
escape-most NormalScan = omega arith
escape-most ChromaDc = omega arith

pub below-positions : (book : ResidualBook) (h : ℕ) → h % positions book < positions book
below-positions NormalScan h = omega arith
below-positions ChromaDc h = omega arith

-- by run: the least magnitudes lie in 1 .. 5
least_right : ResidualBook → ℕ → Bool
least_right book r = leb 1 (get_or (least book) r 0) && leb (get_or (least book) r 0) 5

pub least-range : (book : ResidualBook) (r : ℕ) → r < positions book → (1 ≤ get_or (least book) r 0) × (get_or (least book) r 0 ≤ 5)
unfolding least_right least
least-range book r h =
    let t = by_runs least_right tt tt book r h in
    let b = get_or (least book) r 0 in
    (leb→le 1 b (both_left (leb 1 b) (leb b 5) t), leb→le b 5 (both_right (leb 1 b) (leb b 5) t))

-- the magnitude of an escape fits
pub escape-few : (book : ResidualBook) (r k : ℕ) → r < positions book → k < 2 ^ 32 → escape_magnitude book r k < 2 ^ 31
unfolding escape_magnitude
escape-few NormalScan r k h l = omega (arith, least-range NormalScan r h)
escape-few ChromaDc r k h l = omega arith

-- a chroma DC escape of a run is no less than the run's base
pub base-range : (k : ℕ) → 23 ≤ k → (get_or chroma_base (half k % 4) 0 ≤ k) × (7 ≤ get_or chroma_base (half k % 4) 0)
unfolding chroma_base
base-range k h = go (half k % 4) refl (omega arith)
  where
    go : (r : ℕ) → half k % 4 ≡ r → r < 4 → (get_or chroma_base r 0 ≤ k) × (7 ≤ get_or chroma_base r 0)
    go zero e l = omega arith
    go (suc zero) e l = omega arith
    go (suc (suc zero)) e l = omega arith
    go (suc (suc (suc zero))) e l = omega arith
    go (suc (suc (suc (suc r)))) e l = absurd (omega arith)

-- ---- the sign, as the machine makes it
pub positive : (k m : ℕ) → k % 2 ≡ 1 → m < 2 ^ 31 → to_z w32 m ≡ level_of k m
unfolding level_of
positive k m o h = rw (eq-eqb (k % 2) 1 o) (to_z_pos w32 h)

pub negative : (k m : ℕ) → (k % 2 ≡ 1 → ⊥) → m < 2 ^ 31 → to_z w32 (of_z w32 (pos 0 -ℤ to_z w32 m)) ≡ level_of k m
unfolding level_of
negative k m o h = rw (ne_eqb (k % 2) 1 o) (neg_is m h)

-- ---- level and run are what the book says: h is half of the code k, z the level, m its magnitude and r the run
module _ (book : ResidualBook) (k h : ℕ) (half_is : h ≡ half k) (z : ℤ) (fits : mag z < 2 ^ 31) (m r : ℕ) (level_is : z ≡ level_of k m) where
  pub entry-said : k < escape book → m ≡ get_or (magnitudes book) h 0 → r ≡ get_or (runs book) h 0 → ◌≡◌ {A = LevelRun} (Some (to_z w32 (of_z w32 z), r)) (Some (level book k, run book k))
  unfolding level magnitude run
  entry-said l e f = rw (to_z-of_z (record { sfits = fits }), lt-ltb k (escape book) l, level_is, e, f, half_is)

  pub escape-said : escape book ≤ k → m ≡ escape_magnitude book r k → r ≡ h % positions book → ◌≡◌ {A = LevelRun} (Some (to_z w32 (of_z w32 z), r)) (Some (level book k, run book k))
  unfolding level magnitude run
  escape-said l e f = rw (to_z-of_z (record { sfits = fits }), le-ltb k (escape book) l, level_is, e, f, half_is)

-- ---- what a code other than 0 says
pub resolves : (book b : ResidualBook) (k : ℕ) → book ≡ b → (k ≡ 0 → ⊥) → Some (level b k, run b k) ≡ resolve book k
unfolding resolve
resolves book b k e some = rw (e, ne_eqb k 0 some)
