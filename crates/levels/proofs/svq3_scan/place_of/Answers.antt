-- `levels::svq3_scan::place_of` answers the entry of the scan: the word's digit, or the position itself.
use mathlib.Core.Path.{subst, ◌∙◌}
use Prim.Native.Nat.{◌<◌}
use Rattle.levels.specs.Book.{positions}
use Rattle.levels.specs.declared.svq3_coeff.ResidualBook.TheVariants.{NormalScan}
use Rattle.levels.proofs.Rasters.{place-of-chroma}
use Rattle.levels.proofs.ShortTable.{digits}
use Rattle.levels.specs.Scan.{scan}
use Rattle.levels.proofs.svq3_scan.place_of.Goals as goal

pub returns-in-NormalScan : goal.returns-in-NormalScan
unfolding scan
returns-in-NormalScan c =
    let a = c.args in
    let b = c.in-NormalScan.is in
    let h : a.position < 16 = subst (λ b. a.position < positions b) b c.requires in
    rw b (c.digit.ensures ∙ digits _ (scan NormalScan) tt a.position h)

pub returns-in-ChromaDc : goal.returns-in-ChromaDc
returns-in-ChromaDc c = place-of-chroma c.args.book c.args.position c.in-ChromaDc.is c.requires
