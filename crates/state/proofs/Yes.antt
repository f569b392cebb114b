-- What yes to the questions of a call says.
-- Assumes nothing.
use mathlib.Core.Path.{◌≡◌}
use mathlib.Core.Bool.{true, ◌&&◌}
use Prim.Native.Nat.{ℕ, ◌*◌, ◌^◌, ◌≤◌, ◌<◌}
use borrow.Author.Tests.{leb-true, ltb-true, eqb-true}
use lib.Dec.{eqb, leb, ltb}
use Rattle.picture.specs.InnerPicture.{Sized}
use Rattle.picture.specs.Picture.{luma_length, chroma_length, cell_count}
use Rattle.state.specs.Questions.{Asked, yes, grid_right, planes_right, state_right, reference_there, call_right, place_in, ask_start, ask_quantiser, ask_place, ask_rest, ask_call}
use Rattle.state.specs.InnerSizes.{AllSized}
use Rattle.state.specs.declared.Call.{Call}
use Rattle.state.specs.declared.Lengths.{Lengths}
use Rattle.picture.proofs.Laws.{both_true}
use Rattle.state.proofs.Laws.{GridRange, grid-range, ask-yes}

-- 1 to 4 passed, and what follows was asked
pub record Started (cols rows : ℕ) (l : Lengths) (next : Asked) : Type 0 where
  pub one : grid_right cols rows ≡ true
  pub two : state_right cols rows l ≡ true
  pub three : reference_there l ≡ true
  pub four : planes_right cols rows l.ry l.rcb l.rcr ≡ true
  pub others : next ≡ yes

pub started : (cols rows : ℕ) (l : Lengths) (next : Asked) → ask_start cols rows l next ≡ yes → Started cols rows l next
unfolding ask_start
started cols rows l next e =
    let a = ask-yes (grid_right cols rows) _ _ e in
    let b = ask-yes (state_right cols rows l) _ _ a.1 in
    let c = ask-yes (reference_there l) _ _ b.1 in
    let d = ask-yes (planes_right cols rows l.ry l.rcb l.rcr) _ _ c.1 in
    record { one = a.0; two = b.0; three = c.0; four = d.0; others = d.1 }

planes-sized : (cols rows y cb cr : ℕ) → planes_right cols rows y cb cr ≡ true → Sized cols rows y cb cr
unfolding planes_right
planes-sized cols rows y cb cr e =
    let a = both_true (eqb y (luma_length cols rows) && eqb cb (chroma_length cols rows)) (eqb cr (chroma_length cols rows)) e in
    let b = both_true (eqb y (luma_length cols rows)) (eqb cb (chroma_length cols rows)) a.0 in
    record { luma_right = eqb-true _ _ b.0; cb_right = eqb-true _ _ b.1; cr_right = eqb-true _ _ a.1 }

-- so the slices have the grid's lengths
pub all-sized : (cols rows : ℕ) (l : Lengths) {next : Asked} → Started cols rows l next → AllSized cols rows l
unfolding state_right
all-sized cols rows l st =
    let a = both_true (planes_right cols rows l.y l.cb l.cr && eqb l.mv (2 * cell_count cols rows)) (eqb l.marks (cell_count cols rows)) st.two in
    let b = both_true (planes_right cols rows l.y l.cb l.cr) (eqb l.mv (2 * cell_count cols rows)) a.0 in
    record {
      picture = planes-sized cols rows l.y l.cb l.cr b.0;
      mv = eqb-true _ _ b.1;
      marks = eqb-true _ _ a.1;
      reference = planes-sized cols rows l.ry l.rcb l.rcr st.four;
    }

-- 5 to 8 passed
pub record Rest (cols rows : ℕ) (call : Call) (quantiser size place free : ℕ) : Type 0 where
  pub mode : call.mode ≤ 7
  pub column : call.column < cols
  pub row : call.row < rows
  pub quantiser-most : quantiser ≤ 31
  pub size_fits : size < 2 ^ 61
  pub free_bytes : 2089 ≤ free

pub rest-yes : (cols rows : ℕ) (call : Call) (quantiser size place free : ℕ) → ask_rest cols rows call quantiser size place free ≡ yes → Rest cols rows call quantiser size place free
unfolding ask_rest ask_quantiser ask_place call_right place_in
rest-yes cols rows call quantiser size place free e =
    let c = ask-yes (leb call.mode 7 && ltb call.column cols && ltb call.row rows) _ _ e in
    let q = ask-yes (leb quantiser 31) _ _ c.1 in
    let p = ask-yes (ltb size (2 ^ 61) && leb place (8 * size)) _ _ q.1 in
    let f = ask-yes (leb 2089 free) _ _ p.1 in
    let x = both_true (leb call.mode 7 && ltb call.column cols) (ltb call.row rows) c.0 in
    let y = both_true (leb call.mode 7) (ltb call.column cols) x.0 in
    let z = both_true (ltb size (2 ^ 61)) (leb place (8 * size)) p.0 in
    record {
      mode = leb-true call.mode 7 y.0;
      column = ltb-true call.column cols y.1;
      row = ltb-true call.row rows x.1;
      quantiser-most = leb-true quantiser 31 q.0;
      size_fits = ltb-true size (2 ^ 61) z.0;
      free_bytes = leb-true 2089 free f.0;
    }

-- 1 to 8 passed
pub record Called (cols rows : ℕ) (l : Lengths) (call : Call) (quantiser size place free : ℕ) : Type 0 where
  pub in-grid : GridRange cols rows
  pub sized : AllSized cols rows l
  pub rest : Rest cols rows call quantiser size place free

pub call-yes : (cols rows : ℕ) (l : Lengths) (call : Call) (quantiser size place free : ℕ) → ask_call cols rows l call quantiser size place free ≡ yes → Called cols rows l call quantiser size place free
unfolding ask_call
call-yes cols rows l call quantiser size place free e =
    let st = started cols rows l _ e in
    record {
      in-grid = grid-range cols rows st.one;
      sized = all-sized cols rows l st;
      rest = rest-yes cols rows call quantiser size place free st.others;
    }
