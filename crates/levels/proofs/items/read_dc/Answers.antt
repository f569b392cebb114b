-- `levels::items::read_dc` reads two lists, the second unless the first is refused.
use mathlib.Core.Path.{refl}
use native.Mathlib.Omega.{arith}
use Rattle.bits.specs.Bits.{bit_list}
use Rattle.levels.specs.declared.svq3_coeff.ResidualBook.TheVariants.{ChromaDc}
use Rattle.levels.specs.InnerSides.{read_side}
use Rattle.levels.specs.InnerLeft.{left_side}
use Rattle.refusal.proofs.Answered.{handed}
use Rattle.levels.proofs.Left.{goes-all, side-on, side-stops, side-last}
use Rattle.levels.proofs.items.read_dc.Goals as goal

pub returns : goal.returns
returns c =
    let a = c.args in
    let s = bit_list a.bits.bytes.now in
    let g = side-on ChromaDc 0 256 2 0 a.at a.levels.now (goes-all (read_side ChromaDc 0 2 256) (left_side ChromaDc 0 2 256) a.levels.now s a.at) (omega arith) _ _ c.decode_chroma_dc_2x2.ensures _ c.in_ok-next.was in
    side-last ChromaDc 0 256 2 1 _ _ g (omega arith) _ _ c.decode_chroma_dc_2x2-2.ensures refl

pub returns-in_err-next : goal.returns-in_err-next
returns-in_err-next c =
    let a = c.args in
    rw (handed _ _ c.from_residual.ensures) (side-stops ChromaDc 0 256 2 0 a.at a.levels.now (goes-all (read_side ChromaDc 0 2 256) (left_side ChromaDc 0 2 256) a.levels.now (bit_list a.bits.bytes.now) a.at) (omega arith) _ _ c.decode_chroma_dc_2x2.ensures _ c.in_err-next.was)
