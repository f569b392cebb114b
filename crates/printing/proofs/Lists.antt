-- The header's range, and the list behind it: where it ends, and that its bytes alone are the same calls.
-- Assumes nothing.
use mathlib.Core.Path.{◌≡◌, refl, sym, ap, ◌∙◌}
use mathlib.Core.Bool.{Bool, true, false, ◌&&◌, false≢true}
use mathlib.Core.List.{List, [], ◌∷◌}
use Prim.Native.Nat.{ℕ, zero, suc, ◌+◌, ◌-◌, ◌≤◌}
use native.Mathlib.Omega.{arith}
use borrow.Author.Tests.{leb-true}
use lib.Dec.{leb}
use lib.ListN.{take, drop, length-take}
use lib.Seq.{take-take}
use Rattle.ints.specs.Z.{when◌then◌else◌}
use Rattle.refusal.specs.Got.{got, refused, and_then, map_got}
use Rattle.refusal.specs.declared.Refusal.TheVariants.{FieldRange}
use Rattle.refusal.proofs.Formats.{got-value, got-count, never}
use Rattle.refusal.proofs.Local.{Local, of_format, of-got, of-refused, then-local, map-local, apart}
use Rattle.number.specs.Number.{read_number}
use Rattle.number.proofs.Numbers.{number-format}
use Rattle.levels.proofs.Sets.{drop_of_take}
use Rattle.refusal.proofs.Lists.{mapped, until-end, until-first}
use Rattle.state.specs.declared.Call.{Call}
use Rattle.run.specs.Calls.{call_in, calls_in, calls}
use Rattle.run.proofs.Listing.{call-takes}
use Rattle.printing.specs.Header.{ranged, header_in, calls_from, HeaderRange}
use Rattle.printing.specs.declared.header.Header.{Header}

-- ---- each reader depends on what it takes alone
number-local : Local read_number
number-local = of_format number-format

chosen-local : (t : Bool) (v : ℕ) → Local {E = ℕ} (λ rest. when t then got v 0 else refused FieldRange)
unfolding when◌then◌else◌
chosen-local true v = of-got v
chosen-local false v = of-refused FieldRange

ranged-local : (least most : ℕ) → Local (ranged least most)
unfolding ranged
ranged-local least most = then-local number-local (λ v. chosen-local (leb least v && leb v most) v)

pub header-local : Local header_in
unfolding header_in
header-local =
    then-local (ranged-local 1 4) (λ cols.
    then-local (ranged-local 1 4) (λ rows.
    then-local (ranged-local 0 3) (λ flags.
    then-local (ranged-local 0 1) (λ delta.
    then-local (ranged-local 0 31) (λ quantiser.
    map-local (λ count. record { grid = record { cols = cols; rows = rows }; flags = flags; delta = delta; quantiser = quantiser; count = count }) (ranged-local 0 16))))))

call-local : Local call_in
unfolding call_in
call-local = then-local number-local (λ column. then-local number-local (λ row. map-local (λ mode. record { column = column; row = row; mode = mode }) number-local))

pub calls-local : (n : ℕ) → Local (calls_from n)
unfolding calls_from
calls-local zero = of-got []
calls-local (suc n) = then-local call-local (λ call. map-local (λ calls. call ∷ calls) (calls-local n))

-- ---- the range of a header that was read
both : (a b : Bool) → (a && b) ≡ true → b ≡ true
both true b e = e
both false b e = absurd (false≢true e)

ranged-most : (least most : ℕ) (s : List ℕ) (v n : ℕ) → ranged least most s ≡ got v n → v ≤ most
unfolding ranged when◌then◌else◌
ranged-most least most s v n e =
    let b = apart (read_number s) (λ w rest. when leb least w && leb w most then got w 0 else refused FieldRange) s v n e in
    go (leb least b.x && leb b.x most) b.x b.k refl b.second
  where
    go : (t : Bool) (w k : ℕ) → (leb least w && leb w most) ≡ t → (when t then got w 0 else refused FieldRange) ≡ got v k → v ≤ most
    go true w k h e = let x : w ≡ v = got-value e in omega (arith, leb-true w most (both (leb least w) (leb w most) h))
    go false w k h e = never e

abbrev header_of : ℕ → ℕ → ℕ → ℕ → ℕ → ℕ → Header
header_of cols rows flags delta quantiser count = record { grid = record { cols = cols; rows = rows }; flags = flags; delta = delta; quantiser = quantiser; count = count }

pub header-range : (s : List ℕ) (h : Header) (n : ℕ) → header_in s ≡ got h n → HeaderRange h
unfolding header_in
header-range s h n e =
    let a = apart (ranged 1 4 s) (λ cols s₁.
    and_then (ranged 1 4 s₁) s₁ (λ rows s₂. and_then (ranged 0 3 s₂) s₂ (λ flags s₃. and_then (ranged 0 1 s₃) s₃ (λ delta s₄. and_then (ranged 0 31 s₄) s₄ (λ quantiser s₅. map_got (header_of cols rows flags delta quantiser) (ranged 0 16 s₅)))))) s h n e in
    let b = apart (ranged 1 4 (drop a.m s)) (λ rows s₂.
    and_then (ranged 0 3 s₂) s₂ (λ flags s₃. and_then (ranged 0 1 s₃) s₃ (λ delta s₄. and_then (ranged 0 31 s₄) s₄ (λ quantiser s₅. map_got (header_of a.x rows flags delta quantiser) (ranged 0 16 s₅))))) (drop a.m s) h a.k a.second in
    let c = apart (ranged 0 3 (drop b.m (drop a.m s))) (λ flags s₃.
    and_then (ranged 0 1 s₃) s₃ (λ delta s₄. and_then (ranged 0 31 s₄) s₄ (λ quantiser s₅. map_got (header_of a.x b.x flags delta quantiser) (ranged 0 16 s₅)))) (drop b.m (drop a.m s)) h b.k b.second in
    let s₃ = drop c.m (drop b.m (drop a.m s)) in
    let d = apart (ranged 0 1 s₃) (λ delta s₄. and_then (ranged 0 31 s₄) s₄ (λ quantiser s₅. map_got (header_of a.x b.x c.x delta quantiser) (ranged 0 16 s₅))) s₃ h c.k c.second in
    let f = apart (ranged 0 31 (drop d.m s₃)) (λ quantiser s₅. map_got (header_of a.x b.x c.x d.x quantiser) (ranged 0 16 s₅)) (drop d.m s₃) h d.k d.second in
    let g = mapped (header_of a.x b.x c.x d.x f.x) (ranged 0 16 (drop f.m (drop d.m s₃))) h f.k f.second in
    rw (← g.2)
    (record {
      cols = ranged-most 1 4 s a.x a.m a.first;
      rows = ranged-most 1 4 (drop a.m s) b.x b.m b.first;
      count = ranged-most 0 16 (drop f.m (drop d.m s₃)) g.0 f.k g.1;
    })

-- ---- the bytes of the list alone
pub calls-of : (count : ℕ) (s : List ℕ) (cs : List Call) (n : ℕ) → calls_from count s ≡ got cs n → calls (take n s) ≡ got cs n
unfolding calls_from calls calls_in
calls-of zero s cs n e =
    let z : 0 ≡ n = got-count e in
    let c : [] ≡ cs = got-value e in
    rw (← z, ← c) (until-end call_in 0)
calls-of (suc count) s cs n e =
    let b = apart (call_in s) (λ call rest. map_got (λ calls. call ∷ calls) (calls_from count rest)) s cs n e in
    let m = mapped (λ calls. b.x ∷ calls) (calls_from count (drop b.m s)) cs b.k b.second in
    let i = calls-of count (drop b.m s) m.0 b.k m.1 in
    let w = call-takes.takes s b.x b.m b.first in
    let t = (calls-local (suc count)).there s cs n e in
    let l = length-take n s in
    let f : call_in (take n s) ≡ got b.x b.m = call-local.alone s (take n s) b.x b.m b.first (sym (take-take b.m n s (omega (arith, b.sum)))) in
    let k : n - b.m ≡ b.k = omega (arith, b.sum) in
    let d : drop b.m (take n s) ≡ take b.k (drop b.m s) = drop_of_take b.m n s ∙ ap (λ (j : ℕ). take j (drop b.m s)) k in
    until-first call-takes (take n s) (omega arith) ∙ rw (f, d, i) (ap (λ (l : List Call). got l (b.m + b.k)) m.2 ∙ ap (got cs) b.sum)
