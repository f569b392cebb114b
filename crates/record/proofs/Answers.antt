-- What the answer of a reader of a record says of the definition, with the vectors and levels that the reader leaves.
-- Assumes nothing.
use Rattle.std.specs.Prelude.{◌≡◌, List, ℕ, ◌+◌, ℤ, Ok, Err}
use mathlib.Core.Path.{refl, sym, ap, ◌∙◌}
use native.Mathlib.Omega.{arith}
use Rattle.refusal.specs.Got.{Got, got, refused, map_got}
use Rattle.refusal.specs.Answered.{answered}
use Rattle.refusal.specs.declared.Refusal.{Refusal}
use Rattle.refusal.proofs.Answered.{Answered}
use Rattle.record.specs.Record.{Record}
use Rattle.record.specs.InnerRecord.{record_of}
use Rattle.record.specs.declared.Head.{Head}

-- a head was answered: the definition gives the record of it and of what is left
pub answered-record : (at : ℕ) (g : Got Record) (h : Head) (next : ℕ) (vs ls : List ℤ) → Ok (h, next) ≡ answered at (map_got (λ r. r.head) g)
    → ((r : Record) (n : ℕ) → g ≡ got r n → (vs ≡ r.vectors) × (ls ≡ r.levels)) → Answered at g (record_of h vs ls) next
answered-record at (got r n) h next vs ls a leaves =
    let l = leaves r n refl in
    let same : (r.head, at + n) ≡ (h, next) = cc in
    let e : h ≡ r.head = sym (ap (λ (q : Head × ℕ). q.0) same) in
    record {
      taken = n;
      is = sym (ap (λ (x : Head). got (record_of x vs ls) n) e ∙ ap (λ (x : List ℤ). got (record_of r.head x ls) n) l.0 ∙ ap (λ (x : List ℤ). got (record_of r.head r.vectors x) n) l.1);
      moved = sym (ap (λ (q : Head × ℕ). q.1) same);
    }
answered-record at (refused x) h next vs ls a leaves = absurd (let z : ◌≡◌ {A = ℕ} 0 1 = cc in omega arith)

pub refused-record : (at : ℕ) (g : Got Record) (r : Refusal) → Err r ≡ answered at (map_got (λ q. q.head) g) → g ≡ refused r
refused-record at (got q n) r a = absurd (let z : ◌≡◌ {A = ℕ} 0 1 = cc in omega arith)
refused-record at (refused x) r a = ap refused (cc)
