-- `printing::text::put_bytes`: the bytes, written at their place as one part.
use mathlib.Core.Path.{refl}
use lib.ListN.{length}
use Rattle.refusal.proofs.Parts.{part-sets}
use Rattle.printing.proofs.text.put_bytes.Goals as goal

pub returns : goal.returns
returns c =
    let a = c.args in record { moved = refl; leaves = part-sets a.at (length a.bytes.now) a.out.now _ a.bytes.now c.copy_from_slice.ensures.after refl c.requires }
