-- The three kinds of lists by their numbers: luma below 16, chroma DC 16 and 17, chroma AC from 18 on.
-- Assumes nothing.
use mathlib.Core.Path.{◌≡◌, sym, ap, ◌∙◌}
use mathlib.Core.Logic.{⊎_elim}
use Prim.Native.Nat.{ℕ, ◌+◌, ◌-◌, ◌*◌, ◌/◌, ◌≤◌, ◌<◌}
use native.Mathlib.Omega.{arith}
use borrow.Author.Tests.{lt-ltb, le-ltb}
use lib.Dec.{ltb, eqb, lit<}
use Rattle.ints.specs.Z.{when◌then◌else◌}
use Rattle.number.proofs.Numbers.{lt-or-le}
use Rattle.levels.specs.Book.{positions}
use Rattle.levels.specs.Pattern.{class_of, quadrant_coded}
use Rattle.levels.specs.declared.svq3_coeff.ResidualBook.{ResidualBook}
use Rattle.levels.specs.declared.svq3_coeff.ResidualBook.TheVariants.{NormalScan, ChromaDc}
use Rattle.levels.specs.Items.{item_coded, item_book, item_start, item_count, item_place}
use Rattle.levels.specs.InnerItems.{Group}

pub by_kind : {A : Type 0} (i : ℕ) → (i < 16 → A) → (16 ≤ i → i < 18 → A) → (18 ≤ i → A) → A
by_kind i luma dc ac = ⊎_elim luma (λ (h : 16 ≤ i). ⊎_elim (dc h) ac (lt-or-le i 18)) (lt-or-le i 16)

-- ---- luma
pub record Luma (i : ℕ) : Type 0 where
  pub book : item_book i ≡ NormalScan
  pub count : item_count i ≡ 16
  pub start : item_start i ≡ 0
  pub place : item_place i ≡ 16 * i
  pub coded : (pattern : ℕ) → item_coded pattern i ≡ quadrant_coded pattern (i / 4)

pub is-luma : (i : ℕ) → i < 16 → Luma i
unfolding item_book item_count item_start item_place item_coded when◌then◌else◌
is-luma i h =
    let a = lt-ltb i 16 h in
    let k : i < 18 = omega arith in
    record { book = rw a; count = rw a; start = rw (lt-ltb i 18 k); place = rw a; coded = λ pattern. rw a }

-- ---- chroma DC
pub record Dc (i : ℕ) : Type 0 where
  pub book : item_book i ≡ ChromaDc
  pub count : item_count i ≡ 4
  pub start : item_start i ≡ 0
  pub place : item_place i ≡ 256 + 4 * (i - 16)
  pub coded : (pattern : ℕ) → item_coded pattern i ≡ ltb 0 (class_of pattern)

pub is-dc : (i : ℕ) → 16 ≤ i → i < 18 → Dc i
unfolding item_book item_count item_start item_place item_coded when◌then◌else◌
is-dc i h k =
    let a = le-ltb i 16 h in
    let b = lt-ltb i 18 k in
    record { book = rw (a, b); count = rw (a, b); start = rw b; place = rw (a, b); coded = λ pattern. rw (a, b) }

-- ---- chroma AC
pub record Ac (i : ℕ) : Type 0 where
  pub book : item_book i ≡ NormalScan
  pub count : item_count i ≡ 16
  pub start : item_start i ≡ 1
  pub place : item_place i ≡ 264 + 16 * (i - 18)
  pub coded : (pattern : ℕ) → item_coded pattern i ≡ eqb (class_of pattern) 2

pub is-ac : (i : ℕ) → 18 ≤ i → Ac i
unfolding item_book item_count item_start item_place item_coded when◌then◌else◌
is-ac i h =
    let k : 16 ≤ i = omega arith in
    let a = le-ltb i 16 k in
    let b = le-ltb i 18 h in
    record { book = rw (a, b); count = rw (a, b); start = rw b; place = rw (a, b); coded = λ pattern. rw (a, b) }

-- ---- of each kind
few : (book : ResidualBook) → (4 ≤ positions book) × (positions book ≤ 16)
few NormalScan = (lit< tt, lit< tt)
few ChromaDc = (lit< tt, lit< tt)

pub start-most : (i : ℕ) → item_start i ≤ 1
start-most i = by_kind i (λ h. omega (arith, (is-luma i h).start)) (λ h k. omega (arith, (is-dc i h k).start)) (λ h. omega (arith, (is-ac i h).start))

-- a list has a place before its start
pub start_fits : (i : ℕ) → item_start i < positions (item_book i)
start_fits i = omega (arith, start-most i, few (item_book i))

pub start-in : (i : ℕ) → item_start i < item_count i
unfolding item_count
start-in i = start_fits i

-- ---- a list and those behind it in its group: the rest of a luma quadrant, of chroma DC, of chroma AC
pub luma-group : (i e : ℕ) → i < 16 → e ≡ (i / 4 + 1) * 4 → Group i e
luma-group i e h q =
    record {
      on = omega arith;
      most = omega arith;
      same = λ pattern j a b.
          let k : j < 16 = omega arith in
          let d : j / 4 ≡ i / 4 = omega arith in
          (is-luma j k).coded pattern ∙ ap (quadrant_coded pattern) d ∙ sym ((is-luma i h).coded pattern);
    }

pub dc-group : (i : ℕ) → 16 ≤ i → i < 18 → Group i 18
dc-group i h k = record { on = k; most = omega arith; same = λ pattern j a b. (is-dc j (omega arith) b).coded pattern ∙ sym ((is-dc i h k).coded pattern) }

pub ac-group : (i : ℕ) → 18 ≤ i → i < 26 → Group i 26
ac-group i h k = record { on = k; most = omega arith; same = λ pattern j a b. (is-ac j (omega arith)).coded pattern ∙ sym ((is-ac i h).coded pattern) }
