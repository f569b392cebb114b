-- One block a turn, at any entry.
use Rattle.std.proofs.Common.{◌≡◌, ℕ, pos, get_or}
use Rattle.transform.specs.Residual.{residual}
use Rattle.transform.specs.InnerResidual.{no_levels}
use Rattle.transform.specs.InnerFour.{added_blocks}
use Rattle.transform.proofs.four.add_chroma_dc_blocks.Given as goal

abbrev pub invariant-loop-b : goal.invariant-loop-b
invariant-loop-b l = (scale : ℕ) → l.plane ≡ added_blocks l.initial.plane l.s.stride l.s.x l.s.y (λ b. residual scale (get_or l.dc b (pos 0)) no_levels) l.b
