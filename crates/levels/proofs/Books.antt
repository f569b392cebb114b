-- Level and run determine the code: `code_of` and `resolve` are each other's inverse, no level is 0, and the ranges of levels and runs.
-- Below the escape each law is a test over the table; from the escape on it is arithmetic.
-- Assumes nothing.
use mathlib.Core.Path.{◌≡◌, refl, ap, subst, ◌∙◌}
use mathlib.Core.Bool.{Bool, true, false, cond, ◌&&◌}
use Prim.Native.Nat.{ℕ, zero, suc, ◌+◌, ◌-◌, ◌*◌, ◌/◌, ◌%◌, ◌^◌, ◌≤◌, ◌<◌}
use native.Mathlib.Omega.{arith}
use borrow.Author.Tests.{lt-ltb, le-ltb, ltb-true, ltb-false, eq-eqb, ne_eqb, eqb-true, eqb-false}
use lib.Dec.{T, lit<, eqb, ltb, leb, eqb→eq, ltb→lt, leb→le}
use lib.IntN.{ℤ, pos, negsuc, neg_ℤ, nat_abs}
use lib.ListN.{get_or}
use Rattle.levels.specs.Book.{half, magnitudes, runs, escape, positions, least, chroma_base, escape_magnitude, magnitude, run, level_of, level, resolve, entry_of, escape_code, odd_code, code_of_level}
use Rattle.levels.specs.InnerBook.{code_of}
use Rattle.levels.specs.declared.svq3_coeff.ResidualBook.{ResidualBook}
use Rattle.levels.specs.declared.svq3_coeff.ResidualBook.TheVariants.{NormalScan, ChromaDc}
use Rattle.std.specs.Prelude.{Some}
use Rattle.levels.proofs.ShortTable.{both_left, both_right, every, at}
use Rattle.levels.proofs.Entries.{by_entries, by_runs, least-range, base-range}

-- ---- the four parts of a code, below the escape and from it on
module _ (book : ResidualBook) (k : ℕ) where
  entry-magnitude : k < escape book → magnitude book k ≡ get_or (magnitudes book) (half k) 0
  unfolding magnitude
  entry-magnitude h = rw (lt-ltb k (escape book) h)

  entry-run : k < escape book → run book k ≡ get_or (runs book) (half k) 0
  unfolding run
  entry-run h = rw (lt-ltb k (escape book) h)

  escape-magnitude : escape book ≤ k → magnitude book k ≡ escape_magnitude book (half k % positions book) k
  unfolding magnitude
  escape-magnitude h = rw (le-ltb k (escape book) h)

  escape-run : escape book ≤ k → run book k ≡ half k % positions book
  unfolding run
  escape-run h = rw (le-ltb k (escape book) h)

-- what holds of each entry and of each escape holds of each code
by_code : (P : ℕ → Type 0) (book : ResidualBook) (k : ℕ) → (k < escape book → P k) → (escape book ≤ k → P k) → P k
by_code P book k f g = go (ltb k (escape book)) refl
  where
    go : (t : Bool) → ltb k (escape book) ≡ t → P k
    go true e = f (ltb-true k (escape book) e)
    go false e = g (ltb-false k (escape book) e)

-- a run of the chroma DC book is one of four
four : (P : ℕ → Type 0) (r : ℕ) → r < 4 → P 0 → P 1 → P 2 → P 3 → P r
four P zero h a b c d = a
four P (suc zero) h a b c d = b
four P (suc (suc zero)) h a b c d = c
four P (suc (suc (suc zero))) h a b c d = d
four P (suc (suc (suc (suc r)))) h a b c d = absurd (omega arith)

-- ---- runs and magnitudes
run_right : ResidualBook → ℕ → Bool
run_right book k = ltb (run book k) (positions book)

magnitude_right : ResidualBook → ℕ → Bool
magnitude_right book k = leb k (30 * magnitude book k)

positions-some : (book : ResidualBook) (h : ℕ) → h % positions book < positions book
positions-some NormalScan h = omega arith
positions-some ChromaDc h = omega arith

pub run-below : (book : ResidualBook) (k : ℕ) → run book k < positions book
unfolding run_right run runs
run-below book k =
    by_code (λ k. run book k < positions book) book k
    (λ h. ltb→lt (run book k) (positions book) (by_entries run_right tt tt book k h))
    (λ h. rw (escape-run book k h) (positions-some book (half k)))

-- a code other than 0 has a magnitude other than 0
magnitude-some : (book : ResidualBook) (k : ℕ) → 0 < k → 0 < magnitude book k
unfolding magnitude_right magnitude magnitudes escape_magnitude
magnitude-some book k s =
    by_code (λ k. 0 < magnitude book k) book k
    (λ h. omega (arith, leb→le k (30 * magnitude book k) (by_entries magnitude_right tt tt book k h)))
    (λ h. rw (escape-magnitude book k h) (far book h))
  where
    far : (book : ResidualBook) → escape book ≤ k → 0 < escape_magnitude book (half k % positions book) k
    far NormalScan h = omega (arith, least-range NormalScan (half k % 16) (omega arith))
    far ChromaDc h = omega arith

-- ---- the odd code of a code's magnitude and run is the odd one of its two codes
module _ (book : ResidualBook) (m r : ℕ) where
  by-entry : m < get_or (least book) r 0 → odd_code book m r ≡ 2 * entry_of m r (magnitudes book) (runs book) - 1
  unfolding odd_code
  by-entry h = rw (lt-ltb m (get_or (least book) r 0) h)

  by-escape : get_or (least book) r 0 ≤ m → odd_code book m r ≡ escape_code book m r
  unfolding odd_code
  by-escape h = rw (le-ltb m (get_or (least book) r 0) h)

odd_right : ResidualBook → ℕ → Bool
odd_right book k = eqb (odd_code book (magnitude book k) (run book k)) (2 * half k - 1)

escape-odd : (book : ResidualBook) (k : ℕ) → escape book ≤ k → odd_code book (escape_magnitude book (half k % positions book) k) (half k % positions book) ≡ 2 * half k - 1
unfolding escape_magnitude escape_code chroma_base least
escape-odd NormalScan k h =
    let b = get_or (least NormalScan) (half k % 16) 0 in
    by-escape NormalScan ((k - 31) / 32 + b) (half k % 16) (omega arith) ∙ omega arith
escape-odd ChromaDc k h =
    let q : 3 ≤ half k / 4 = omega arith in
    four (λ r. half k % 4 ≡ r → odd_code ChromaDc (escape_magnitude ChromaDc r k) r ≡ 2 * half k - 1) (half k % 4) (omega arith)
    (λ e. by-escape ChromaDc ((k - 7) / 8 + 3) 0 (omega arith) ∙ omega arith)
    (λ e. by-escape ChromaDc ((k - 17) / 8 + 3) 1 (omega arith) ∙ omega arith)
    (λ e. by-escape ChromaDc ((k - 27) / 8 + 3) 2 (omega arith) ∙ omega arith)
    (λ e. by-escape ChromaDc ((k - 29) / 8 + 3) 3 (omega arith) ∙ omega arith)
    refl

odd-of-code : (book : ResidualBook) (k : ℕ) → odd_code book (magnitude book k) (run book k) ≡ 2 * half k - 1
unfolding odd_right odd_code magnitude magnitudes run runs least entry_of escape_magnitude
odd-of-code book k =
    by_code (λ k. odd_code book (magnitude book k) (run book k) ≡ 2 * half k - 1) book k
    (λ h. eqb→eq (odd_code book (magnitude book k) (run book k)) (2 * half k - 1) (by_entries odd_right tt tt book k h))
    (λ h. rw (escape-magnitude book k h, escape-run book k h) (escape-odd book k h))

-- ---- the odd code of a magnitude and a run says them, and so does the even code after it
record Says (book : ResidualBook) (m r p : ℕ) : Type 0 where
  odd : p % 2 ≡ 1
  says : (k : ℕ) → half k ≡ half p → (magnitude book k ≡ m) × (run book k ≡ r)

good_entry : ResidualBook → ℕ → ℕ → ℕ → Bool
good_entry book m r e = eqb (get_or (magnitudes book) e 0) m && eqb (get_or (runs book) e 0) r && (ltb 0 e && ltb (2 * e) (escape book))

entry-says : (book : ResidualBook) (m r e : ℕ) → T (good_entry book m r e) → Says book m r (2 * e - 1)
unfolding good_entry
entry-says book m r e t =
    let a = eqb (get_or (magnitudes book) e 0) m in
    let b = eqb (get_or (runs book) e 0) r in
    let u = both_left (a && b) (ltb 0 e && ltb (2 * e) (escape book)) t in
    let v = both_right (a && b) (ltb 0 e && ltb (2 * e) (escape book)) t in
    let l = ltb→lt 0 e (both_left (ltb 0 e) (ltb (2 * e) (escape book)) v) in
    let g = ltb→lt (2 * e) (escape book) (both_right (ltb 0 e) (ltb (2 * e) (escape book)) v) in
    record {
      odd = omega arith;
      says = λ k h.
          let i : half k ≡ e = omega arith in (
            entry-magnitude book k (omega arith) ∙ ap (λ (n : ℕ). get_or (magnitudes book) n 0) i ∙ eqb→eq (get_or (magnitudes book) e 0) m (both_left a b u),
            entry-run book k (omega arith) ∙ ap (λ (n : ℕ). get_or (runs book) n 0) i ∙ eqb→eq (get_or (runs book) e 0) r (both_right a b u),
          );
    }

-- by run and magnitude: what is below the least escape is in the table
small_right : ResidualBook → ℕ → ℕ → Bool
small_right book r n = cond (ltb (suc n) (get_or (least book) r 0)) (good_entry book (suc n) r (entry_of (suc n) r (magnitudes book) (runs book))) true

small-says : (book : ResidualBook) (n r : ℕ) → r < positions book → suc n < get_or (least book) r 0 → T (good_entry book (suc n) r (entry_of (suc n) r (magnitudes book) (runs book)))
unfolding small_right good_entry least magnitudes runs entry_of
small-says book n r h l =
    subst (λ (t : Bool). T (cond t (good_entry book (suc n) r (entry_of (suc n) r (magnitudes book) (runs book))) true)) (lt-ltb (suc n) (get_or (least book) r 0) l)
    (at (small_right book r) 4 (by_runs (λ b r. every (small_right b r) 4) tt tt book r h) n (omega (arith, least-range book r h)))

-- a run of the chroma DC book whose code base is 8 q + 2 r - 1
chroma-says : (m r q : ℕ) → r < 4 → get_or chroma_base r 0 ≡ 8 * q + 2 * r - 1 → 0 < q → 3 ≤ m → 6 ≤ m + q → Says ChromaDc m r (8 * (m - 3) + get_or chroma_base r 0)
unfolding escape_magnitude
chroma-says m r q h e s l g =
    record {
      odd = omega arith;
      says = λ k f.
          let i : half k ≡ 4 * (m - 3 + q) + r = omega arith in
          let j : half k % 4 ≡ r = omega arith in
          (escape-magnitude ChromaDc k (omega arith) ∙ ap (λ (n : ℕ). escape_magnitude ChromaDc n k) j ∙ omega arith, escape-run ChromaDc k (omega arith) ∙ j);
    }

escape-says : (book : ResidualBook) (m r : ℕ) → r < positions book → get_or (least book) r 0 ≤ m → Says book m r (escape_code book m r)
unfolding escape_code escape_magnitude least chroma_base
escape-says NormalScan m r h l =
    record {
      odd = omega arith;
      says = λ k e.
          let i : half k % 16 ≡ r = omega arith in
          (escape-magnitude NormalScan k (omega arith) ∙ ap (λ (n : ℕ). escape_magnitude NormalScan n k) i ∙ omega arith, escape-run NormalScan k (omega arith) ∙ i);
    }
escape-says ChromaDc m r h l =
    four (λ r. get_or (least ChromaDc) r 0 ≤ m → Says ChromaDc m r (8 * (m - 3) + get_or chroma_base r 0)) r h
    (λ l. chroma-says m 0 1 (lit< tt) refl (lit< tt) (omega arith) (omega arith))
    (λ l. chroma-says m 1 2 (lit< tt) refl (lit< tt) (omega arith) (omega arith))
    (λ l. chroma-says m 2 3 (lit< tt) refl (lit< tt) (omega arith) (omega arith))
    (λ l. chroma-says m 3 3 (lit< tt) refl (lit< tt) (omega arith) (omega arith))
    l

odd-says : (book : ResidualBook) (m r : ℕ) → 0 < m → r < positions book → Says book m r (odd_code book m r)
odd-says book (suc n) r s h = go (ltb (suc n) (get_or (least book) r 0)) refl
  where
    go : (t : Bool) → ltb (suc n) (get_or (least book) r 0) ≡ t → Says book (suc n) r (odd_code book (suc n) r)
    go true e = let l = ltb-true (suc n) (get_or (least book) r 0) e in rw (by-entry book (suc n) r l) (entry-says book (suc n) r (entry_of (suc n) r (magnitudes book) (runs book)) (small-says book n r h l))
    go false e = let l = ltb-false (suc n) (get_or (least book) r 0) e in rw (by-escape book (suc n) r l) (escape-says book (suc n) r h l)
odd-says book zero r s h = absurd (omega arith)

-- ---- the two laws
signed-code : (book : ResidualBook) (k m r : ℕ) → 0 < k → 0 < m → odd_code book m r ≡ 2 * half k - 1 → code_of_level book (level_of k m) r ≡ k
unfolding level_of code_of_level
signed-code book k zero r h s o = absurd (omega arith)
signed-code book k (suc m) r h s o = go (eqb (k % 2) 1) refl
  where
    go : (t : Bool) → eqb (k % 2) 1 ≡ t → code_of_level book (cond t (pos (suc m)) (negsuc m)) r ≡ k
    go true e = let i = eqb-true (k % 2) 1 e in o ∙ omega arith
    go false e = let i = eqb-false (k % 2) 1 e in ap (λ (n : ℕ). n + 1) o ∙ omega arith

-- the code of what a code says is that code
pub code-of-pair : (book : ResidualBook) (k : ℕ) → 0 < k → code_of_level book (level book k) (run book k) ≡ k
unfolding level
code-of-pair book k h = signed-code book k (magnitude book k) (run book k) h (magnitude-some book k h) (odd-of-code book k)

pub code-of-resolve : (book : ResidualBook) (k : ℕ) → code_of book (resolve book k) ≡ k
unfolding code_of resolve
code-of-resolve book zero = refl
code-of-resolve book (suc n) = rw (ne_eqb (suc n) 0 (omega arith)) (code-of-pair book (suc n) (omega arith))

-- and the code of a level other than 0 and a run of the book says them
says-signed : (book : ResidualBook) (k m r : ℕ) (l : ℤ) → 0 < k → level_of k m ≡ l → (magnitude book k ≡ m) × (run book k ≡ r) → resolve book k ≡ Some (l, r)
unfolding resolve level
says-signed book k m r l h e s = rw (ne_eqb k 0 (omega arith), s.0, s.1, e)

pub resolve-code : (book : ResidualBook) (l : ℤ) (r : ℕ) → 0 < nat_abs l → r < positions book → resolve book (code_of_level book l r) ≡ Some (l, r)
unfolding code_of_level level_of
resolve-code book (pos m) r s h =
    let p = odd_code book m r in
    let o = odd-says book m r s h in
    says-signed book p m r (pos m) (omega (arith, o.odd)) (rw (eq-eqb (p % 2) 1 o.odd)) (o.says p refl)
resolve-code book (negsuc m) r s h =
    let p = odd_code book (suc m) r in
    let o = odd-says book (suc m) r s h in
    says-signed book (p + 1) (suc m) r (negsuc m) (omega arith) (rw (ne_eqb ((p + 1) % 2) 1 (omega (arith, o.odd)))) (o.says (p + 1) (omega (arith, o.odd)))

-- ---- ranges
abs-level : (k m : ℕ) → nat_abs (level_of k m) ≡ m
unfolding level_of
abs-level k m = go (eqb (k % 2) 1) m
  where
    go : (t : Bool) (m : ℕ) → nat_abs (cond t (pos m) (neg_ℤ (pos m))) ≡ m
    go true m = refl
    go false zero = refl
    go false (suc m) = refl

-- no level is 0
pub level-some : (book : ResidualBook) (k : ℕ) → 0 < k → 0 < nat_abs (level book k)
unfolding level
level-some book k h = rw (abs-level k (magnitude book k)) (magnitude-some book k h)

-- a level of the normal book is at most 2^27 + 3, one of the chroma DC book at most 2^29 + 1
abbrev pub most : ResidualBook → ℕ
most NormalScan = 2 ^ 27 + 3
most ChromaDc = 2 ^ 29 + 1

most_right : ResidualBook → ℕ → Bool
most_right book k = leb (magnitude book k) (most book)

magnitude-most : (book : ResidualBook) (k : ℕ) → k < 2 ^ 32 - 1 → magnitude book k ≤ most book
unfolding most_right magnitude magnitudes escape_magnitude
magnitude-most book k b =
    by_code (λ k. magnitude book k ≤ most book) book k
    (λ h. leb→le (magnitude book k) (most book) (by_entries most_right tt tt book k h))
    (λ h. rw (escape-magnitude book k h) (far book h))
  where
    far : (book : ResidualBook) → escape book ≤ k → escape_magnitude book (half k % positions book) k ≤ most book
    far NormalScan h = omega (arith, least-range NormalScan (half k % 16) (omega arith))
    far ChromaDc h = omega (arith, base-range k h)

pub level-most : (book : ResidualBook) (k : ℕ) → k < 2 ^ 32 - 1 → nat_abs (level book k) ≤ most book
unfolding level
level-most book k h = rw (abs-level k (magnitude book k)) (magnitude-most book k h)
