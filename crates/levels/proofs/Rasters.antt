-- Scan positions and raster places determine each other, and so do the levels put by the one and by the other.
-- Assumes nothing.
use mathlib.Core.Path.{◌≡◌, refl, sym, ap, subst, ◌∙◌}
use mathlib.Core.Bool.{Bool, true, false, ◌&&◌}
use mathlib.Core.List.{List}
use mathlib.Core.Logic.{◌≢◌}
use Prim.Native.Nat.{ℕ, zero, suc, ◌<◌}
use native.Mathlib.Omega.{arith}
use borrow.Author.Tests.{eqb-true, eqb-false}
use lib.Dec.{eqb, ltb, eqb→eq, ltb→lt}
use lib.IntN.{ℤ, pos}
use lib.ListN.{length, get_or, set, length-set}
use lib.Seq.{ext_get_or, get_or-set_same, get_or-set_other}
use Rattle.levels.specs.Lists.{place_of, list_of}
use Rattle.levels.specs.Book.{positions}
use Rattle.levels.specs.Scan.{scan, raster, unraster}
use Rattle.levels.specs.declared.svq3_coeff.ResidualBook.{ResidualBook}
use Rattle.levels.specs.declared.svq3_coeff.ResidualBook.TheVariants.{ChromaDc}
use Rattle.levels.proofs.ShortTable.{both_left, both_right, at}
use Rattle.levels.proofs.Entries.{by_runs}

-- ---- a list by its elements
length-list_of : {A : Type 0} (n : ℕ) (f : ℕ → A) → length (list_of n f) ≡ n
unfolding list_of
length-list_of zero f = refl
length-list_of (suc n) f = ap suc (length-list_of n (λ i. f (suc i)))

get_or-list_of : {A : Type 0} (n : ℕ) (f : ℕ → A) (i : ℕ) (d : A) → i < n → get_or (list_of n f) i d ≡ f i
unfolding list_of
get_or-list_of zero f i d h = absurd (omega arith)
get_or-list_of (suc n) f zero d h = refl
get_or-list_of (suc n) f (suc i) d h = get_or-list_of n (λ i. f (suc i)) i d (omega arith)

-- ---- the scan
right_position : ResidualBook → ℕ → Bool
right_position book n = eqb (place_of (get_or (scan book) n 0) (scan book)) n && ltb (get_or (scan book) n 0) (positions book)

right_place : ResidualBook → ℕ → Bool
right_place book p = eqb (get_or (scan book) (place_of p (scan book)) 0) p && ltb (place_of p (scan book)) (positions book)

-- the place of each position is one of the block's, and the position of that place is the position
pub position-back : (book : ResidualBook) (n : ℕ) → n < positions book → (place_of (get_or (scan book) n 0) (scan book) ≡ n) × (get_or (scan book) n 0 < positions book)
unfolding right_position scan place_of
position-back book n h =
    let p = get_or (scan book) n 0 in
    let t = by_runs right_position tt tt book n h in
    (eqb→eq (place_of p (scan book)) n (both_left (eqb (place_of p (scan book)) n) (ltb p (positions book)) t), ltb→lt p (positions book) (both_right (eqb (place_of p (scan book)) n) (ltb p (positions book)) t))

place-back : (book : ResidualBook) (p : ℕ) → p < positions book → (get_or (scan book) (place_of p (scan book)) 0 ≡ p) × (place_of p (scan book) < positions book)
unfolding right_place scan place_of
place-back book p h =
    let n = place_of p (scan book) in
    let t = by_runs right_place tt tt book p h in
    (eqb→eq (get_or (scan book) n 0) p (both_left (eqb (get_or (scan book) n 0) p) (ltb n (positions book)) t), ltb→lt n (positions book) (both_right (eqb (get_or (scan book) n 0) p) (ltb n (positions book)) t))

-- a chroma DC position is its own place
right_same : ℕ → Bool
right_same n = eqb n (get_or (scan ChromaDc) n 0)

pub place-of-chroma : (book : ResidualBook) (n : ℕ) → book ≡ ChromaDc → n < positions book → n ≡ get_or (scan book) n 0
unfolding right_same scan
place-of-chroma book n e h =
    subst (λ (b : ResidualBook). n < positions b → n ≡ get_or (scan b) n 0) (sym e) (λ h. eqb→eq n (get_or (scan ChromaDc) n 0) (at right_same 4 tt n h)) h

-- ---- levels by place and by position
pub length-raster : (book : ResidualBook) (ls : List ℤ) → length (raster book ls) ≡ positions book
unfolding raster
length-raster book ls = length-list_of (positions book) (λ p. get_or ls (place_of p (scan book)) (pos 0))

pub length-unraster : (book : ResidualBook) (bs : List ℤ) → length (unraster book bs) ≡ positions book
unfolding unraster
length-unraster book bs = length-list_of (positions book) (λ n. get_or bs (get_or (scan book) n 0) (pos 0))

pub raster-at : (book : ResidualBook) (ls : List ℤ) (p : ℕ) → p < positions book → get_or (raster book ls) p (pos 0) ≡ get_or ls (place_of p (scan book)) (pos 0)
unfolding raster
raster-at book ls p h = get_or-list_of (positions book) (λ p. get_or ls (place_of p (scan book)) (pos 0)) p (pos 0) h

pub unraster-at : (book : ResidualBook) (bs : List ℤ) (n : ℕ) → n < positions book → get_or (unraster book bs) n (pos 0) ≡ get_or bs (get_or (scan book) n 0) (pos 0)
unfolding unraster
unraster-at book bs n h = get_or-list_of (positions book) (λ n. get_or bs (get_or (scan book) n 0) (pos 0)) n (pos 0) h

-- position n of a list is the raster place at entry n of the scan
position-placed : (book : ResidualBook) (ls : List ℤ) (n : ℕ) → n < positions book → get_or (raster book ls) (get_or (scan book) n 0) (pos 0) ≡ get_or ls n (pos 0)
position-placed book ls n h =
    let b = position-back book n h in
    raster-at book ls (get_or (scan book) n 0) b.1 ∙ ap (λ (i : ℕ). get_or ls i (pos 0)) b.0

pub unraster-raster : (book : ResidualBook) (ls : List ℤ) → length ls ≡ positions book → unraster book (raster book ls) ≡ ls
unraster-raster book ls e =
    ext_get_or (pos 0) (unraster book (raster book ls)) ls (length-unraster book (raster book ls) ∙ sym e)
    (λ i h. let l : i < positions book = omega (arith, length-unraster book (raster book ls)) in unraster-at book (raster book ls) i l ∙ position-placed book ls i l)

pub raster-unraster : (book : ResidualBook) (bs : List ℤ) → length bs ≡ positions book → raster book (unraster book bs) ≡ bs
raster-unraster book bs e =
    ext_get_or (pos 0) (raster book (unraster book bs)) bs (length-raster book (unraster book bs) ∙ sym e)
    (λ i h.
    let l : i < positions book = omega (arith, length-raster book (unraster book bs)) in
    let b = place-back book i l in
    raster-at book (unraster book bs) i l ∙ unraster-at book bs (place_of i (scan book)) b.1 ∙ ap (λ (p : ℕ). get_or bs p (pos 0)) b.0)

-- a level stored at the place of its position
pub raster-set : (book : ResidualBook) (ls : List ℤ) (n : ℕ) (l : ℤ) → length ls ≡ positions book → n < positions book → set (raster book ls) (get_or (scan book) n 0) l ≡ raster book (set ls n l)
raster-set book ls n l e h = ext_get_or (pos 0) (set (raster book ls) q l) (raster book (set ls n l)) lengths same
  where
    q : ℕ
    q = get_or (scan book) n 0

    lengths : length (set (raster book ls) q l) ≡ length (raster book (set ls n l))
    lengths = length-set (raster book ls) q l ∙ length-raster book ls ∙ sym (length-raster book (set ls n l))

    hit : get_or (set (raster book ls) q l) q (pos 0) ≡ get_or (raster book (set ls n l)) q (pos 0)
    hit =
        get_or-set_same (raster book ls) q l (pos 0) (omega (arith, length-raster book ls, (position-back book n h).1)) ∙
        sym (position-placed book (set ls n l) n h ∙ get_or-set_same ls n l (pos 0) (omega arith))

    miss : (i : ℕ) → i < positions book → i ≢ q → get_or (set (raster book ls) q l) i (pos 0) ≡ get_or (raster book (set ls n l)) i (pos 0)
    miss i g o =
        get_or-set_other (raster book ls) q i l (pos 0) o ∙ raster-at book ls i g ∙
        sym (raster-at book (set ls n l) i g ∙ get_or-set_other ls n (place_of i (scan book)) l (pos 0) (λ x. o (sym (place-back book i g).0 ∙ ap (λ (k : ℕ). get_or (scan book) k 0) x)))

    same : (i : ℕ) → i < length (set (raster book ls) q l) → get_or (set (raster book ls) q l) i (pos 0) ≡ get_or (raster book (set ls n l)) i (pos 0)
    same i g = go (eqb i q) refl
      where
        go : (t : Bool) → eqb i q ≡ t → get_or (set (raster book ls) q l) i (pos 0) ≡ get_or (raster book (set ls n l)) i (pos 0)
        go true b = rw (eqb-true i q b) hit
        go false b = miss i (omega (arith, length-set (raster book ls) q l, length-raster book ls)) (eqb-false i q b)
