-- The lines of a transcript's records, a record at a time, and how long they are.
-- Assumes nothing.
use mathlib.Core.Path.{◌≡◌, refl, sym, ap, ◌∙◌}
use mathlib.Core.List.{List, [], ◌∷◌, ◌++◌}
use Prim.Native.Nat.{ℕ, ◌+◌, ◌-◌, ◌*◌, ◌≤◌, ◌<◌, ◌^◌}
use native.Mathlib.Omega.{arith}
use lib.ListN.{length, take, drop, length-drop, length-append}
use Rattle.refusal.specs.Got.{got}
use Rattle.refusal.specs.declared.Refusal.{Refusal}
use Rattle.refusal.proofs.Formats.{got-count, never, exactly}
use Rattle.refusal.proofs.Lists.{Next}
use Rattle.record.specs.Record.{Record}
use Rattle.record.specs.Write.{record_bytes}
use Rattle.record.specs.Parse.{parse_record}
use Rattle.record.proofs.Records.{record-format}
use Rattle.transcript.specs.Written.{Written}
use Rattle.transcript.proofs.Writing.{Still, still-all, still-more, still-fits, still-none}
use Rattle.transcript.specs.Records.{records}
use Rattle.refusal.specs.Answered.{reached}
use Rattle.std.specs.Prelude.{Ok, Err}
use Rattle.transcript.proofs.Checks.{records-none, records-first, records-next, record-read, not-record}
use Rattle.replay.specs.InnerRecorded.{Recorded}
use Rattle.printing.specs.Text.{hex_bytes, hex_line, line, bits_line}
use Rattle.printing.specs.Print.{record_lines, lines_of, stop_lines}
use Rattle.printing.proofs.Texts.{line-length, bits-length, refused-length}
use Rattle.run.specs.Run.{Stop}

-- ---- what is left: the transcript is read up to i, and the lines of what follows are still to be written at p
pub record Going (cols rows : ℕ) (t : List ℕ) (out₀ : List ℕ) (at : ℕ) (out : List ℕ) (p i : ℕ) : Type 0 where
  pub recorded : Recorded cols rows (drop i t)
  pub still : Still out₀ at (lines_of (records cols rows t)) out p (record_lines recorded.rs)

pub begin : {cols rows : ℕ} {t : List ℕ} (r : Recorded cols rows t) (out : List ℕ) (at : ℕ) → Going cols rows t out at out at 0
begin r out at = record { recorded = r; still = still-all out at _ _ (sym (ap lines_of r.is)) }

module _ {cols rows : ℕ} {t out₀ : List ℕ} {at : ℕ} {out : List ℕ} {p i : ℕ} (g : Going cols rows t out₀ at out p i) where
  pub end : length t ≤ i → Written out₀ at (lines_of (records cols rows t)) p out
  unfolding record_lines
  end h =
      let e = records-none cols rows (drop i t) g.recorded.rs g.recorded.taken (length-drop i t ∙ omega arith) g.recorded.is in
      still-none g.still (ap record_lines e)

  module _ (wide : cols ≤ 4096) (high : rows ≤ 4096) (lt : i < length t) where
    next-record : Next (parse_record cols rows) (records cols rows) t i g.recorded.rs
    next-record = records-next cols rows wide high t i g.recorded.rs g.recorded.taken lt g.recorded.is

    -- the transcript is in form
    pub in-form : {A : Type 0} {why : Refusal} → Err why ≡ reached i (parse_record cols rows (drop i t)) → A
    in-form {why = why} e = never (sym (not-record i (parse_record cols rows (drop i t)) why e) ∙ next-record.reads)

    module _ {next : ℕ} (e : Ok next ≡ reached i (parse_record cols rows (drop i t))) where
      next-is : next ≡ i + next-record.k
      next-is =
          let r = record-read i (parse_record cols rows (drop i t)) next e in
          r.3 ∙ ap (λ (n : ℕ). i + n) (got-count (sym r.2 ∙ next-record.reads))

      pub further : i < next
      further = omega (arith, next-is, next-record.some)

      pub there : next ≤ length t
      there = omega (arith, next-is, next-record.there)

      -- the bytes between are the record's
      bytes-are : take (next - i) (drop i t) ≡ record_bytes next-record.x
      bytes-are =
          let n : next - i ≡ next-record.k = omega (arith, next-is) in
          rw n ((exactly (record-format cols rows wide high) (drop i t) next-record.x next-record.k).0 next-record.reads).2

      lines_are : record_lines g.recorded.rs ≡ hex_line (take (next - i) (drop i t)) ++ record_lines next-record.rest
      unfolding record_lines
      lines_are = ap record_lines next-record.is ∙ rw bytes-are

      pub fits : at + length (lines_of (records cols rows t)) ≤ length out₀ → p + length (hex_line (take (next - i) (drop i t))) ≤ length out
      fits = still-fits g.still (hex_line (take (next - i) (drop i t))) (record_lines next-record.rest) lines_are

      pub on : {p' : ℕ} {out' : List ℕ} → Written out p (hex_line (take (next - i) (drop i t))) p' out' → Going cols rows t out₀ at out' p' next
      on w =
          record {
            recorded = record { rs = next-record.rest; taken = next-record.m; is = ap (λ (n : ℕ). records cols rows (drop n t)) next-is ∙ next-record.behind };
            still = still-more g.still {a = hex_line (take (next - i) (drop i t))} lines_are w;
          }

-- ---- how long they are: a record has a byte at least, so three characters a byte are enough
hex-length : (bytes : List ℕ) → length (hex_bytes bytes) ≡ 2 * length bytes
unfolding hex_bytes
hex-length [] = refl
hex-length (b ∷ bytes) = let i = hex-length bytes in omega arith

module _ (cols rows : ℕ) (wide : cols ≤ 4096) (high : rows ≤ 4096) where
  lines-most : (rs : List Record) (s : List ℕ) (n : ℕ) → records cols rows s ≡ got rs n → length (record_lines rs) ≤ 3 * length s
  unfolding record_lines hex_line
  lines-most [] s n e = omega arith
  lines-most (r ∷ rs) [] n e = let z = ap length (records-none cols rows [] (r ∷ rs) n refl e) in absurd (omega arith)
  lines-most (r ∷ rs) (b ∷ s) n e =
      let f = records-first cols rows wide high (b ∷ s) (r ∷ rs) n (omega arith) e in
      let x : r ≡ f.x = let i = f.is in cc in
      let xs : f.rest ≡ rs = let i = f.is in cc in
      let i = lines-most rs (drop f.k (b ∷ s)) f.m (f.behind ∙ ap (λ (l : List Record). got l f.m) xs) in
      let k = ((exactly (record-format cols rows wide high) (b ∷ s) f.x f.k).0 f.reads).1 in
      let k' : f.k ≡ length (record_bytes r) = k ∙ ap (λ (y : Record). length (record_bytes y)) (sym x) in
      omega (arith, f.there, f.some, length-append (line (hex_bytes (record_bytes r))) (record_lines rs), line-length (hex_bytes (record_bytes r)), hex-length (record_bytes r), length-drop f.k (b ∷ s))

  lines-length : {s : List ℕ} (r : Recorded cols rows s) → length (lines_of (records cols rows s)) ≤ 3 * length s
  lines-length {s} r = rw r.is (lines-most r.rs s r.taken r.is)

  stop-length : (stop : Stop) → length (stop_lines stop) ≤ 11
  stop-length (Ok _) = omega arith
  stop-length (Err why) = refused-length why

  -- all that is printed of a run
  pub run_length : {s : List ℕ} → Recorded cols rows s → length s ≤ 33424 → (n : ℕ) → n < 2 ^ 64 → (stop : Stop) → length (lines_of (records cols rows s) ++ bits_line n ++ stop_lines stop) ≤ 100352
  run_length {s} r h n k stop =
      let a = lines_of (records cols rows s) in
      omega (arith, lines-length r, bits-length n k, stop-length stop, length-append (a ++ bits_line n) (stop_lines stop), length-append a (bits_line n))
