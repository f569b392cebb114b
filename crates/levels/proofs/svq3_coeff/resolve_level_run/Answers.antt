-- `levels::svq3_coeff::resolve_level_run` answers `resolve`: below the escape by the tables of the book, from it on by the escape's formula.
use mathlib.Core.Path.{◌≡◌, refl, ◌∙◌}
use Prim.Native.Nat.{ℕ, ◌*◌, ◌/◌, ◌%◌, ◌^◌, ◌≤◌, ◌<◌}
use native.Mathlib.Omega.{arith}
use lib.ListN.{get_or}
use borrow.Author.Tests.{eq-eqb}
use Rattle.levels.specs.Book.{magnitudes, runs, escape, positions, least, chroma_base, escape_magnitude, resolve}
use Rattle.levels.specs.declared.svq3_coeff.ResidualBook.{ResidualBook}
use Rattle.levels.specs.declared.svq3_coeff.ResidualBook.TheVariants.{NormalScan, ChromaDc}
use Rattle.levels.proofs.Entries.{escape-most, below-positions, least-range, escape-few, entry-said, escape-said, resolves}
use Rattle.levels.proofs.ShortTable.{digits}
use Rattle.levels.proofs.svq3_coeff.resolve_level_run.Goals.{Joined-book, Joined-book-2, in-NormalScan, in-ChromaDc, in-NormalScan-book, in-ChromaDc-book}
use Rattle.levels.proofs.svq3_coeff.resolve_level_run.Goals as goal

-- words and a number that are a book's magnitudes, runs and escape
record Tables (book : ResidualBook) (words : ℕ × ℕ × ℕ) : Type 0 where
  magnitude : (h : ℕ) → h < 16 → words.0 / 2 ^ (4 * h) % 16 ≡ get_or (magnitudes book) h 0
  run : (h : ℕ) → h < 16 → words.1 / 2 ^ (4 * h) % 16 ≡ get_or (runs book) h 0
  first : words.2 ≡ escape book

tables : (c : Joined-book) → Tables c.args.book c.match-book.magnitudes
unfolding magnitudes runs
tables c = elim c.match-book.branch [
  | in-NormalScan w ↦ rw (w.magnitudes-is, w.in-NormalScan.is) (record { magnitude = digits _ (magnitudes NormalScan) tt; run = digits _ (runs NormalScan) tt; first = refl })
  | in-ChromaDc w ↦ rw (w.magnitudes-is, w.in-ChromaDc.is) (record { magnitude = digits _ (magnitudes ChromaDc) tt; run = digits _ (runs ChromaDc) tt; first = refl })
]

pub returns-then-code-eq0 : goal.returns-then-code-eq0
unfolding resolve
returns-then-code-eq0 c = rw (eq-eqb c.args.code 0 c.if-code-eq0.true)

pub returns-then-code-escape : goal.returns-then-code-escape
returns-then-code-escape c =
    let a = c.args in
    let h = c.half_of-half in
    let t = tables (goal.at.returns-then-code-escape c).Joined-book in
    let l : a.code < escape a.book = omega (arith, c.if-code-escape.true, t.first) in
    let i : h.result < 16 = omega (arith, escape-most a.book) in
    entry-said a.book a.code h.result h.ensures c.level_of.result c.level_of.type_inv _ _ c.level_of.ensures l (c.digit-magnitude.ensures ∙ t.magnitude h.result i) (c.digit.ensures ∙ t.run h.result i) ∙ resolves a.book a.book a.code refl c.if-code-eq0.false

-- the magnitude of an escape is the definition's
escapes : (c : Joined-book-2) → Tables c.args.book c.match-book.magnitudes → c.match-book-2.magnitude ≡ escape_magnitude c.args.book (c.half_of-half.result % c.positions_of.result) c.args.code
unfolding escape_magnitude least chroma_base
escapes c t =
    elim c.match-book-2.branch [
      | in-NormalScan-book w ↦ rw (w.magnitude-is, t.first, w.in-NormalScan-book.is) refl
      | in-ChromaDc-book w ↦ rw (w.magnitude-is, w.in-ChromaDc-book.is) refl
    ]

pub overflow_add-magnitude : goal.overflow_add-magnitude
unfolding least
overflow_add-magnitude c =
    let p : c.positions_of.result ≡ 16 = rw c.in-NormalScan-book.is at c.positions_of.ensures in
    record { fits = omega (arith, least-range NormalScan (c.half_of-half.result % c.positions_of.result) (omega arith)) }

pub level_of-requires-2 : goal.level_of-requires-2
level_of-requires-2 c =
    let r = c.half_of-half.result % c.positions_of.result in
    let below : r < positions c.args.book = rw c.positions_of.ensures (below-positions c.args.book c.half_of-half.result) in
    omega (arith, escapes c (tables (goal.at.level_of-requires-2 c).Joined-book), escape-few c.args.book r c.args.code below (omega arith))

pub returns : goal.returns
returns c =
    let a = c.args in
    let h = c.half_of-half in
    let t = tables (goal.at.returns c).Joined-book in
    let l : escape a.book ≤ a.code = omega (arith, c.if-code-escape.false, t.first) in
    let r : h.result % c.positions_of.result ≡ h.result % positions a.book = rw c.positions_of.ensures refl in
    escape-said a.book a.code h.result h.ensures c.level_of-2.result c.level_of-2.type_inv _ _ c.level_of-2.ensures l (escapes (goal.at.returns c).Joined-book-2 t) r ∙ resolves a.book a.book a.code refl c.if-code-eq0.false
