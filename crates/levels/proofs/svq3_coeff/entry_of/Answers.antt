-- `levels::svq3_coeff::entry_of` answers the entry of the book's look-up.
use Rattle.levels.proofs.svq3_coeff.entry_of.Goals as goal

pub returns-in-NormalScan : goal.returns-in-NormalScan
returns-in-NormalScan c = rw c.in-NormalScan.is c.normal_scan.ensures

pub returns-in-ChromaDc : goal.returns-in-ChromaDc
returns-in-ChromaDc c = rw c.in-ChromaDc.is c.chroma_dc.ensures
