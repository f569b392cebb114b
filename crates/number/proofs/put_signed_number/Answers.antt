-- `number::put_signed_number` writes `signed_number v`: the number that v is sent as.
use mathlib.Core.Path.{◌≡◌, ap, ◌∙◌}
use mir.Facts.{to_z-of_z}
use mathlib.Core.List.{List}
use Prim.Native.Nat.{ℕ, ◌+◌}
use lib.ListN.{length}
use lib.Seq.{sets}
use Rattle.number.specs.Number.{number}
use Rattle.number.specs.SignedNumber.{sent, signed_number}
use Rattle.number.proofs.put_signed_number.Goals as goal

pub put_number-requires : goal.put_number-requires
unfolding signed_number
put_number-requires c = rw (c.sent_of.ensures, to_z-of_z c.ranges.v) c.requires

pub returns : goal.returns
unfolding signed_number
returns c =
    let v = to_z-of_z c.ranges.v in
    let e : number c.sent_of.result ≡ signed_number c.args.v =
    ap number (c.sent_of.ensures ∙ ap sent v) in
    let p = c.put_number.ensures in (
      p.0 ∙ ap (λ (l : List ℕ). c.args.at + length l) e,
      p.1 ∙ ap (sets _ c.args.at) e,
    )
