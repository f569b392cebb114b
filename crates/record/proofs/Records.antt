-- A RECORD IS A FORMAT: its bytes, with anything behind them, determine it; what it writes is read back, and what is read was written so.
-- Assumes nothing.
use mathlib.Core.Path.{◌≡◌, refl, sym, ap, ◌∙◌}
use mathlib.Core.Bool.{Bool, true, false, ◌&&◌}
use mathlib.Core.List.{List, [], ◌++◌, append_assoc}
use Prim.Native.Nat.{ℕ, ◌*◌, ◌≤◌}
use native.Mathlib.Omega.{arith}
use borrow.Author.Tests.{leb-true, le-leb, ltb-true, lt-ltb, eqb-true, eqb-false, eq-eqb, ne_eqb}
use lib.Dec.{leb, ltb, eqb, lit<}
use lib.IntN.{ℤ}
use lib.ListN.{take}
use lib.Seq.{sets}
use Rattle.ints.specs.Z.{when◌then◌else◌}
use Rattle.refusal.specs.Got.{got, refused, map_got}
use Rattle.refusal.specs.Format.{Format}
use Rattle.refusal.specs.declared.Refusal.TheVariants.{FieldRange}
use Rattle.refusal.proofs.Formats.{renamed}
use Rattle.number.specs.Number.{number, NumberRange}
use Rattle.number.proofs.Numbers.{number-format}
use Rattle.vectors.specs.Modes.{num_motion_vectors}
use Rattle.record.specs.Record.{Record, no_vectors, place_head, with_motion, with_residual, skip_record}
use Rattle.levels.specs.Items.{no_levels, ListsRange}
use Rattle.record.specs.Write.{signed_numbers, items_bytes, rest_bytes, record_bytes}
use Rattle.record.specs.Parse.{parse_items, parse_residual, parse_motion, parse_record}
use Rattle.record.specs.Range.{ItemRange, CodedRange, RecordRange}
use Rattle.record.specs.declared.Head.{Head}
use Rattle.levels.proofs.Turns.{not-both, restated, unwritten, chosen, tested, followed}
use Rattle.record.proofs.Padded.{used-most, put_first, from-numbers, to-numbers}
use Rattle.record.proofs.Fields.{Signeds, field-format, signeds-format, levels-format}

-- ---- pattern, quantiser, levels
abbrev residual_bytes : Record → List ℕ
residual_bytes r = number r.head.pattern ++ (number r.head.quantiser ++ items_bytes 26 0 r.head.pattern r.levels)

pub record ResidualOf (h : Head) (vs : List ℤ) (r : Record) : Type 0 where
  pub pattern : r.head.pattern ≤ 47
  pub quantiser : r.head.quantiser ≤ 31
  pub head : r.head ≡ with_residual h r.head.pattern r.head.quantiser
  pub vectors : r.vectors ≡ vs
  pub levels : ListsRange ItemRange r.head.pattern r.levels

module _ (h : Head) (vs : List ℤ) where
  record LevelsOf (p q : ℕ) (r : Record) : Type 0 where
    head : r.head ≡ with_residual h p q
    vectors : r.vectors ≡ vs
    levels : ListsRange ItemRange p r.levels

  rebuilt : (p q : ℕ) (r : Record) → LevelsOf p q r → ◌≡◌ {A = Record} (record { head = with_residual h p q; vectors = vs; levels = r.levels }) r
  rebuilt p q r k = ap (λ (x : Head). record { head = x; vectors = vs; levels = r.levels }) (sym k.head) ∙ ap (λ (x : List ℤ). record { head = r.head; vectors = x; levels = r.levels }) (sym k.vectors)

  with-levels : (p q : ℕ) → Format (λ s. map_got (λ levels. record { head = with_residual h p q; vectors = vs; levels = levels }) (parse_items 26 0 p no_levels s)) (λ r. items_bytes 26 0 p r.levels) (LevelsOf p q)
  with-levels p q = renamed (levels-format p) (λ levels. record { head = with_residual h p q; vectors = vs; levels = levels }) (λ r. r.levels) (LevelsOf p q)
      (λ levels k. record { head = refl; vectors = refl; levels = k }) (λ r k. k.levels) (rebuilt p q) (λ levels k. refl)

  residual-format : Format (parse_residual h vs) residual_bytes (ResidualOf h vs)
  unfolding parse_residual
  residual-format =
      restated
      (followed (field-format 47 (lit< tt))
      (λ p ok. followed (field-format 31 (lit< tt)) (λ q ok. with-levels p q) (λ r. r.head.quantiser) (λ q r ok k. ap (λ (x : Head). x.quantiser) k.head))
      (λ r. r.head.pattern) (λ p r ok k. ap (λ (x : Head). x.pattern) k.1.head))
      (parse_residual h vs) residual_bytes (ResidualOf h vs) (λ s. refl) (λ r k. refl)
      (λ r k. record { pattern = k.0; quantiser = k.1.0; head = k.1.1.head; vectors = k.1.1.vectors; levels = k.1.1.levels })
      (λ r k. (k.pattern, (k.quantiser, record { head = k.head; vectors = k.vectors; levels = k.levels })))

-- ---- precision, clipped count, vectors, and what follows
abbrev used : Head → ℕ
used h = 2 * num_motion_vectors h.mode

abbrev motion_bytes : ℕ → Record → List ℕ
motion_bytes n r = number r.head.precision ++ (number r.head.clipped ++ (signed_numbers (take n r.vectors) ++ residual_bytes r))

pub record MotionOf (h : Head) (r : Record) : Type 0 where
  pub precision : r.head.precision ≤ 2
  pub clipped : r.head.clipped ≤ used h
  pub numbers : Signeds (used h) (take (used h) r.vectors)
  pub rest : ResidualOf (with_motion h r.head.precision r.head.clipped) (sets no_vectors 0 (take (used h) r.vectors)) r

module _ (h : Head) (few : used h ≤ 32) where
  pub motion-format : Format (parse_motion h) (motion_bytes (used h)) (MotionOf h)
  unfolding parse_motion
  motion-format =
      restated
      (followed (field-format 2 (lit< tt))
      (λ p ok. followed (field-format (used h) (omega arith))
      (λ c ok. followed (signeds-format (used h)) (λ vs ok. residual-format (with_motion h p c) (sets no_vectors 0 vs)) (λ r. take (used h) r.vectors) (λ vs r ok k. put_first (used h) vs r.vectors few ok.0 k.vectors))
      (λ r. r.head.clipped) (λ c r ok k. ap (λ (x : Head). x.clipped) k.1.head))
      (λ r. r.head.precision) (λ p r ok k. ap (λ (x : Head). x.precision) k.1.1.head))
      (parse_motion h) (motion_bytes (used h)) (MotionOf h) (λ s. refl) (λ r k. refl)
      (λ r k. record { precision = k.0; clipped = k.1.0; numbers = k.1.1.0; rest = k.1.1.1 })
      (λ r k. (k.precision, (k.clipped, (k.numbers, k.rest))))

-- the same as a range
module _ (r : Record) (few : r.head.mode ≤ 7) where
  place : Head
  place = place_head r.head.column r.head.row r.head.mode

  motion-range : MotionOf place r → CodedRange r
  unfolding place
  motion-range k =
      record {
        precision = k.precision;
        clipped = k.clipped;
        vectors = from-numbers (2 * num_motion_vectors r.head.mode) (used-most r.head.mode few) r.vectors k.numbers k.rest.vectors;
        pattern = k.rest.pattern;
        quantiser = k.rest.quantiser;
        levels = k.rest.levels;
      }

  range-motion : CodedRange r → MotionOf place r
  unfolding place
  range-motion c =
      let v = to-numbers (2 * num_motion_vectors r.head.mode) (used-most r.head.mode few) r.vectors c.vectors in
      record {
        precision = c.precision;
        clipped = c.clipped;
        numbers = v.0;
        rest = record { pattern = c.pattern; quantiser = c.quantiser; head = refl; vectors = v.1; levels = c.levels };
      }

-- ---- column, row and mode, read before one is judged
pub all_three : (a b c : Bool) → (a && b && c) ≡ true → (a ≡ true) × (b ≡ true) × (c ≡ true)
all_three true true c e = (refl, refl, e)
all_three true false c e = not-both e refl
all_three false b c e = not-both e refl

module _ (cols rows : ℕ) where
  abbrev judge : ℕ → ℕ → ℕ → Bool
  judge column row mode = ltb column cols && ltb row rows && leb mode 7

  record PlaceOf (column row mode : ℕ) (r : Record) : Type 0 where
    judged : judge column row mode ≡ true
    skipped : eqb mode 0 ≡ true → r ≡ skip_record column row
    coded : eqb mode 0 ≡ false → MotionOf (place_head column row mode) r

  placed : (column row mode : ℕ) (r : Record) → PlaceOf column row mode r → (r.head.column ≡ column) × (r.head.row ≡ row) × (r.head.mode ≡ mode)
  unfolding skip_record
  placed column row mode r k = go (eqb mode 0) refl
    where
      go : (t : Bool) → eqb mode 0 ≡ t → (r.head.column ≡ column) × (r.head.row ≡ row) × (r.head.mode ≡ mode)
      go true t = let e = k.skipped t in (ap (λ (x : Record). x.head.column) e, ap (λ (x : Record). x.head.row) e, ap (λ (x : Record). x.head.mode) e ∙ sym (eqb-true mode 0 t))
      go false t = let e = (k.coded t).rest.head in (ap (λ (x : Head). x.column) e, ap (λ (x : Head). x.row) e, ap (λ (x : Head). x.mode) e)

  -- mode 0, or another
  abbrev mode_bytes : ℕ → Record → List ℕ
  mode_bytes mode r = when eqb mode 0 then [] else motion_bytes (2 * num_motion_vectors mode) r

  behind-mode : (column row mode : ℕ)
      → Format (λ s. when judge column row mode then (when eqb mode 0 then got (skip_record column row) 0 else parse_motion (place_head column row mode) s) else refused FieldRange) (mode_bytes mode) (PlaceOf column row mode)
  behind-mode column row mode =
      restated
      (tested (judge column row mode) FieldRange
      (λ e. chosen (eqb mode 0) (λ _. unwritten (skip_record column row)) (λ _. motion-format (place_head column row mode) (used-most mode (leb-true mode 7 (all_three (ltb column cols) (ltb row rows) (leb mode 7) e).2)))))
      _ (mode_bytes mode) (PlaceOf column row mode) (λ s. refl) (λ r k. refl)
      (λ r k. record { judged = k.0; skipped = k.1.0; coded = k.1.1 })
      (λ r k. (k.judged, (k.skipped, k.coded)))

  -- ---- the whole
  three-first : Format (parse_record cols rows) (λ r. number r.head.column ++ (number r.head.row ++ (number r.head.mode ++ mode_bytes r.head.mode r)))
      (λ r. NumberRange r.head.column × (NumberRange r.head.row × (NumberRange r.head.mode × PlaceOf r.head.column r.head.row r.head.mode r)))
  unfolding parse_record
  three-first =
      followed number-format
      (λ column _. followed number-format
      (λ row _. followed number-format (λ mode _. behind-mode column row mode) (λ r. r.head.mode) (λ mode r _ k. (placed column row mode r k).2))
      (λ r. r.head.row) (λ row r _ k. (placed column row r.head.mode r k.1).1))
      (λ r. r.head.column) (λ column r _ k. (placed column r.head.row r.head.mode r k.1.1).0)

  -- the bytes in the order in which they are read
  in_order : (r : Record) → record_bytes r ≡ number r.head.column ++ (number r.head.row ++ (number r.head.mode ++ mode_bytes r.head.mode r))
  unfolding record_bytes rest_bytes
  in_order r = simp append_assoc

  to-range : (r : Record) → PlaceOf r.head.column r.head.row r.head.mode r → RecordRange cols rows r
  unfolding place
  to-range r k =
      let j = all_three (ltb r.head.column cols) (ltb r.head.row rows) (leb r.head.mode 7) k.judged in
      record {
        column = ltb-true r.head.column cols j.0;
        row = ltb-true r.head.row rows j.1;
        mode = leb-true r.head.mode 7 j.2;
        skipped = λ z. k.skipped (eq-eqb r.head.mode 0 z);
        coded = λ z. motion-range r (leb-true r.head.mode 7 j.2) (k.coded (ne_eqb r.head.mode 0 (omega arith)));
      }

  from-range : (r : Record) → RecordRange cols rows r → PlaceOf r.head.column r.head.row r.head.mode r
  unfolding place
  from-range r k =
      record {
        judged = rw (lt-ltb r.head.column cols k.column, lt-ltb r.head.row rows k.row, le-leb r.head.mode 7 k.mode);
        skipped = λ z. k.skipped (eqb-true r.head.mode 0 z);
        coded = λ z. let n : r.head.mode ≡ 0 → ⊥ = eqb-false r.head.mode 0 z in range-motion r k.mode (k.coded (omega arith));
      }

-- A RECORD of a grid
pub record-format : (cols rows : ℕ) → cols ≤ 4096 → rows ≤ 4096 → Format (parse_record cols rows) record_bytes (RecordRange cols rows)
record-format cols rows h k =
    restated (three-first cols rows) (parse_record cols rows) record_bytes (RecordRange cols rows) (λ s. refl) (λ r g. in_order cols rows r)
    (λ r g. to-range cols rows r g.1.1.1)
    (λ r g. (omega (arith, g.column), (omega (arith, g.row), (omega (arith, g.mode), from-range cols rows r g))))
