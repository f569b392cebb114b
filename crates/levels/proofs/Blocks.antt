-- A block by raster place is a format: its levels determine the bits read. A block of AC levels has 0 at place 0.
-- Assumes nothing.
use mathlib.Core.Path.{◌≡◌, sym, ap, subst, ◌∙◌}
use mathlib.Core.List.{List, ◌∷◌, ◌++◌}
use Prim.Native.Nat.{ℕ, ◌≤◌}
use native.Mathlib.Omega.{arith}
use lib.Dec.{lit<}
use lib.IntN.{ℤ, pos}
use lib.ListN.{get_or, take, drop, length-append, length-drop, length-replicate, take-append-drop}
use lib.Seq.{take_at, drop_at, drop-cons, get_or-take}
use Rattle.refusal.specs.Format.{Format}
use Rattle.refusal.proofs.Formats.{renamed}
use Rattle.levels.specs.Book.{positions}
use Rattle.levels.specs.Scan.{scan, raster, unraster}
use Rattle.levels.specs.Levels.{zeros, LevelsCoded, LevelsRange, block, block_bits, BlockRange}
use Rattle.levels.specs.declared.svq3_coeff.ResidualBook.{ResidualBook}
use Rattle.levels.specs.declared.svq3_coeff.ResidualBook.TheVariants.{NormalScan}
use Rattle.levels.proofs.Rasters.{length-raster, length-unraster, unraster-at, unraster-raster, raster-unraster}
use Rattle.levels.proofs.Unique.{list-format}

module _ (book : ResidualBook) (start : ℕ) (h : start ≤ positions book) where
  whole : (ls : List ℤ) → LevelsRange book start ls → unraster book (raster book (zeros start ++ ls)) ≡ zeros start ++ ls
  whole ls r = unraster-raster book (zeros start ++ ls) (omega (arith, length-append (zeros start) ls, length-replicate start (pos 0), r.count))

  levels-back : (ls : List ℤ) → LevelsRange book start ls → drop start (unraster book (raster book (zeros start ++ ls))) ≡ ls
  levels-back ls r = ap (drop start) (whole ls r) ∙ drop_at (zeros start) ls start (length-replicate start (pos 0))

  there : (ls : List ℤ) → LevelsRange book start ls → BlockRange book start (raster book (zeros start ++ ls))
  there ls r =
      record {
        count = length-raster book (zeros start ++ ls);
        before = ap (take start) (whole ls r) ∙ take_at (zeros start) ls start (length-replicate start (pos 0));
        coded = subst (LevelsCoded book 0) (sym (levels-back ls r)) r.coded;
      }

  back : (bs : List ℤ) → BlockRange book start bs → LevelsRange book start (drop start (unraster book bs))
  back bs r = record { count = omega (arith, length-drop start (unraster book bs), length-unraster book bs); coded = r.coded }

  block_back : (bs : List ℤ) → BlockRange book start bs → raster book (zeros start ++ drop start (unraster book bs)) ≡ bs
  block_back bs r = ap (λ (xs : List ℤ). raster book (xs ++ drop start (unraster book bs))) (sym r.before) ∙ ap (raster book) (take-append-drop start (unraster book bs)) ∙ raster-unraster book bs r.count

  -- UNIQUE READING of a block
  pub block-format : Format (block book start) (block_bits book start) (BlockRange book start)
  unfolding block block_bits
  block-format = renamed (list-format book start h) (λ ls. raster book (zeros start ++ ls)) (λ bs. drop start (unraster book bs)) (BlockRange book start) there back block_back levels-back

-- place 0 of a block that starts at position 1 is 0: its levels are those of places 1 to 15
pub ac-block : (bs : List ℤ) → BlockRange NormalScan 1 bs → bs ≡ pos 0 ∷ drop 1 bs
unfolding scan
ac-block bs r =
    let z : get_or (unraster NormalScan bs) 0 (pos 0) ≡ pos 0 = sym (get_or-take 1 (unraster NormalScan bs) 0 (pos 0) (lit< tt)) ∙ ap (λ (xs : List ℤ). get_or xs 0 (pos 0)) r.before in
    drop-cons bs 0 (pos 0) (omega (arith, r.count)) ∙ ap (λ (x : ℤ). x ∷ drop 1 bs) (sym (unraster-at NormalScan bs 0 (lit< tt)) ∙ z)
