-- Two paths from one state: equal calls and equal bits give equal records, and equal records that clipped nothing have equal bits; equal bytes are of equal records.
-- Assumes nothing.
use mathlib.Core.Path.{◌≡◌, refl, sym, ap, ◌∙◌, subst}
use mathlib.Core.Bool.{Bool}
use mathlib.Core.List.{List, [], ◌∷◌, ◌++◌}
use Prim.Native.Nat.{ℕ, ◌+◌, ◌≤◌}
use native.Mathlib.Omega.{arith}
use lib.ListN.{length, take, drop, length-append, length-take, length-drop}
use lib.Seq.{take-add, take_at}
use Rattle.refusal.specs.Got.{got}
use Rattle.refusal.proofs.Formats.{got-value, got-count, injective}
use Rattle.refusal.proofs.Local.{Took, same-before, same-behind}
use Rattle.state.specs.declared.Call.{Call}
use Rattle.record.specs.Record.{Record}
use Rattle.record.specs.Range.{RecordRange}
use Rattle.record.specs.Write.{record_bytes}
use Rattle.record.proofs.Records.{record-format}
use Rattle.record.proofs.Lengths.{record-some}
use Rattle.reading.specs.Read.{read_macroblock}
use Rattle.reading.specs.Bits.{call_of, bits_of}
use Rattle.reading.proofs.Alone.{read-local}
use Rattle.reading.proofs.Took.{read-took, read-call}
use Rattle.state.specs.State.{State, context_of}
use Rattle.macroblock.specs.Decode.{applied}
use Rattle.theorems.specs.Trace.{Path, done, step, calls_of, bytes_of, clips_of}
use Rattle.theorems.proofs.Traces.{path-range}

-- a path takes no more bits than there are
pub path-bounded : {s t : State} {b : List Bool} {rs : List Record} {k : ℕ} → Path s b rs t k → k ≤ length b
path-bounded done = omega arith
path-bounded {s} {t} {b} (step {r = r} call n m a e p sum) =
    omega (arith, sum, path-bounded p, (read-local (context_of s) call).there b r n e, length-drop n b)

-- how many bits there were is their number
same_length : {s s' t t' : State} {b b' : List Bool} {rs rs' : List Record} {k k' : ℕ} → Path s b rs t k → Path s' b' rs' t' k' → take k b ≡ take k' b' → k ≡ k'
same_length {b = b} {b' = b'} {k = k} {k' = k'} p q e = omega (arith, path-bounded p, path-bounded q, ap length e, length-take k b, length-take k' b')

-- ---- equal calls and equal bits

-- the first records
record Same (r r' : Record) (b b' : List Bool) (n m n' m' : ℕ) : Type 0 where
  pub records : r ≡ r'
  pub behind : take m (drop n b) ≡ take m' (drop n' b')

first-same : (s : State) (call call' : Call) (b b' : List Bool) (r r' : Record) (n m n' m' k : ℕ)
    → read_macroblock (context_of s) call b ≡ got r n → read_macroblock (context_of s) call' b' ≡ got r' n' → n + m ≡ k → n' + m' ≡ k
    → call_of r ≡ call_of r' → take k b ≡ take k b' → Same r r' b b' n m n' m'
first-same s call call' b b' r r' n m n' m' k e e' sum sum' c h =
    let same : call ≡ call' = read-call (context_of s) call b r n e ∙ c ∙ sym (read-call (context_of s) call' b' r' n' e') in
    let h' : take (n + m) b ≡ take (n + m) b' = rw sum h in
    let there : read_macroblock (context_of s) call b' ≡ got r n = (read-local (context_of s) call).alone b b' r n e (same-before n m b b' h') in
    let g : got r n ≡ got r' n' = sym there ∙ ap (λ (x : Call). read_macroblock (context_of s) x b') same ∙ e' in
    let en : n ≡ n' = got-count g in
    let em : m ≡ m' = omega arith in
    record { records = got-value g; behind = same-behind n m b b' h' ∙ (λ i. take (em i) (drop (en i) b')) }

head_of : {A : Type 0} {x y : A} {xs ys : List A} → x ∷ xs ≡ y ∷ ys → x ≡ y
head_of e = cc

tail_of : {A : Type 0} {x y : A} {xs ys : List A} → x ∷ xs ≡ y ∷ ys → xs ≡ ys
tail_of e = cc

pub same-records : {s t t' : State} {b b' : List Bool} {rs rs' : List Record} {k k' : ℕ} → Path s b rs t k → Path s b' rs' t' k' → calls_of rs ≡ calls_of rs' → take k b ≡ take k' b' → rs ≡ rs'
unfolding calls_of
same-records done done c e = refl
same-records done (step call n m a x q sum) c e = absurd (let z : ◌≡◌ {A = ℕ} 0 1 = cc in omega arith)
same-records (step call n m a x p sum) done c e = absurd (let z : ◌≡◌ {A = ℕ} 0 1 = cc in omega arith)
same-records {s} {t} {t'} {b} {b'} {k = k} {k' = k'} (step {r = r} {rs = rs} call n m a x p sum) (step {r = r'} {rs = rs'} call' n' m' a' x' q sum') c e =
    let l : k ≡ k' = same_length (step call n m a x p sum) (step call' n' m' a' x' q sum') e in
    let f = first-same s call call' b b' r r' n m n' m' k x x' sum (sum' ∙ sym l) (head_of c) (e ∙ ap (λ (j : ℕ). take j b') (sym l)) in
    let q' = subst (λ (y : Record). Path (applied s y) (drop n' b') rs' t' m') (sym f.records) q in
    λ i. f.records i ∷ same-records p q' (tail_of c) f.behind i

-- ---- equal records that clipped nothing
pub same_bits_lem : {s t t' : State} {b b' : List Bool} {rs : List Record} {k k' : ℕ} → Path s b rs t k → Path s b' rs t' k' → clips_of rs ≡ 0 → take k b ≡ take k' b'
unfolding clips_of
same_bits_lem done done c = refl
same_bits_lem {s} {t} {t'} {b} {b'} {k = k} {k' = k'} (step {r = r} call n m a x p sum) (step call' n' m' a' x' q sum') c =
    let none : r.head.clipped ≡ 0 = omega arith in
    let w = read-took (context_of s) call b r n a.mode x none in
    let w' = read-took (context_of s) call' b' r n' a'.mode x' none in
    took-first b b' (bits_of (context_of s) r) n m n' m' k k' w w' sum sum' (same_bits_lem p q (omega arith))
  where
    took-first : (b b' w : List Bool) (n m n' m' k k' : ℕ) → Took w b n → Took w b' n' → n + m ≡ k → n' + m' ≡ k' → take m (drop n b) ≡ take m' (drop n' b') → take k b ≡ take k' b'
    took-first b b' w n m n' m' k k' x y sum sum' h =
        let f : take n b ≡ w = ap (take n) x.is ∙ take_at w x.rest n (sym x.taken) in
        let f' : take n' b' ≡ w = ap (take n') y.is ∙ take_at w y.rest n' (sym y.taken) in
        ap (λ (j : ℕ). take j b) (sym sum) ∙ take-add n m b ∙ (λ i. (f ∙ sym f') i ++ h i) ∙ sym (take-add n' m' b') ∙ ap (λ (j : ℕ). take j b') sum'

-- ---- equal bytes
pub data Ranged (cols rows : ℕ) : List Record → Type 0 where
  none : Ranged cols rows []
  more : {r : Record} {rs : List Record} → cols ≤ 4096 → rows ≤ 4096 → RecordRange cols rows r → Ranged cols rows rs → Ranged cols rows (r ∷ rs)

pub path-ranged : {s t : State} {b : List Bool} {rs : List Record} {k : ℕ} → Path s b rs t k → Ranged s.cols s.rows rs
unfolding applied
path-ranged done = none
path-ranged {s} {t} {b} (step {r = r} call n m a x p sum) = more a.wide a.high (path-range s call b r n a x) (path-ranged p)

never-empty : {A : Type 0} (r : Record) (l : List ℕ) → [] ≡ record_bytes r ++ l → A
never-empty r l e = absurd (omega (arith, record-some r, ap length e, length-append (record_bytes r) l))

pub same_bytes : {cols rows : ℕ} {rs rs' : List Record} → Ranged cols rows rs → Ranged cols rows rs' → bytes_of rs ≡ bytes_of rs' → rs ≡ rs'
unfolding bytes_of
same_bytes none none e = refl
same_bytes none (more {r = r} {rs = rs} h k x q) e = never-empty r (bytes_of rs) e
same_bytes (more {r = r} {rs = rs} h k x p) none e = never-empty r (bytes_of rs) (sym e)
same_bytes {cols} {rows} (more {r = r} {rs = rs} h k x p) (more {r = r'} {rs = rs'} h' k' x' q) e =
    let i = injective (record-format cols rows h k) r r' (bytes_of rs) (bytes_of rs') x x' e in
    λ j. i.0 j ∷ same_bytes p q i.1 j
