-- The state of the loop that reads a list: what is still to be read says what the whole list says. One law for each way out of a turn.
-- Assumes nothing.
use mathlib.Core.Path.{◌≡◌, refl, sym, ap, ◌∙◌}
use mathlib.Core.Bool.{Bool}
use mathlib.Core.List.{List, [], ◌∷◌, ◌++◌, append_assoc}
use Prim.Native.Nat.{ℕ, zero, suc, ◌+◌, ◌-◌, ◌≤◌, ◌<◌}
use native.Mathlib.Nat.{add-zero}
use native.Mathlib.Omega.{arith}
use lib.IntN.{ℤ, pos}
use lib.ListN.{length, get_or, drop, set, length-append, length-replicate, replicate-append-replicate}
use lib.Seq.{append_snoc, drop-drop, set_at, sets, length-sets}
use Rattle.refusal.specs.Got.{Got, got, refused, after, map_got}
use Rattle.refusal.specs.declared.Refusal.{Refusal}
use Rattle.refusal.specs.declared.Refusal.TheVariants.{LevelPosition}
use Rattle.refusal.proofs.Answered.{Answered, answered-got, answered-refused}
use Rattle.levels.specs.Book.{positions}
use Rattle.levels.specs.Lists.{place_of, list_of}
use Rattle.levels.specs.Scan.{scan, raster}
use Rattle.levels.specs.Levels.{zeros, level_run, levels_from, levels, block}
use Rattle.refusal.specs.Answered.{answered}
use Rattle.levels.specs.InnerLevels.{Decoded}
use Rattle.levels.specs.declared.svq3_coeff.ResidualBook.{ResidualBook}
use Rattle.levels.specs.declared.svq3_coeff.ResidualBook.TheVariants.{NormalScan, ChromaDc}
use Rattle.std.specs.Prelude.{Some}
use Rattle.std.specs.Prelude.{Some, None}
use Rattle.std.specs.Prelude.{Ok, Err}
use Rattle.std.specs.Prelude.{Ok, Err}
use Rattle.levels.proofs.Gots.{after-zero, after-after, map-after, map-map}
use Rattle.levels.proofs.Froms.{from-refused, from_end, from_past, from-level}
use Rattle.levels.proofs.Rasters.{length-raster, position-back, raster-set}
use Rattle.levels.proofs.Stores.{set-within, sets_over}
use Rattle.levels.proofs.Steps.{level-run-format}

-- ---- the state
-- the levels by raster place, where `done` is what was read of them by position, with 0 behind
abbrev held : (book : ResidualBook) (done : List ℤ) (position : ℕ) → List ℤ
held book done position = raster book (done ++ zeros (positions book - position))

-- `out₀` is what `out` held at first
pub record Reading (book : ResidualBook) (start at : ℕ) (s : List Bool) (out₀ : List ℤ) (base position p : ℕ) (out : List ℤ) : Type 0 where
  pub done : List ℤ
  pub turns : ℕ
  pub taken : ℕ
  pub so_far : length done ≡ position
  pub within : position ≤ positions book
  pub enough : positions book ≤ position + turns
  pub moved : p ≡ at + taken
  pub room : base + positions book ≤ length out₀
  pub holds : out ≡ sets out₀ base (held book done position)
  pub rest : block book start (drop at s) ≡ after taken (map_got (λ ls. raster book (done ++ ls)) (levels_from book turns position (drop p s)))

raster-zeros : (book : ResidualBook) → zeros (positions book) ≡ raster book (zeros (positions book))
unfolding raster list_of scan place_of
raster-zeros NormalScan = refl
raster-zeros ChromaDc = refl

module _ (book : ResidualBook) (base : ℕ) (entry out₀ : List ℤ) (clears : out₀ ≡ sets entry base (zeros (positions book))) where
  -- as many levels, stored over the zeros
  over : (xs : List ℤ) → length xs ≡ positions book → sets out₀ base xs ≡ sets entry base xs
  over xs e = ap (λ (ys : List ℤ). sets ys base xs) clears ∙ sets_over entry base (zeros (positions book)) xs (length-replicate (positions book) (pos 0) ∙ sym e)

  pub begins : (start at : ℕ) (s : List Bool) → start ≤ positions book → base + positions book ≤ length entry → Reading book start at s out₀ base start at out₀
  unfolding block levels
  begins start at s h room =
      let k = positions book - start in
      let z : zeros start ++ zeros k ≡ zeros (positions book) = replicate-append-replicate start k (pos 0) ∙ ap zeros {x = start + k} {y = positions book} (omega arith) in
      record {
        done = zeros start;
        turns = positions book;
        taken = 0;
        so_far = length-replicate start (pos 0);
        within = h;
        enough = omega arith;
        moved = sym (add-zero at);
        room = omega (arith, room, ap length clears ∙ length-sets entry base (zeros (positions book)));
        holds = clears ∙ sym (over (zeros (positions book)) (length-replicate (positions book) (pos 0))) ∙ ap (sets out₀ base) (raster-zeros book ∙ ap (raster book) (sym z));
        rest = sym (after-zero _);
      }

-- ---- a turn
-- a level r positions on, with k behind it
stands : (d : List ℤ) (r k i : ℕ) (l : ℤ) → length d + r ≡ i → set (d ++ zeros (r + suc k)) i l ≡ d ++ zeros r ++ l ∷ [] ++ zeros k
stands d r k i l e =
    ap (λ (z : List ℤ). set (d ++ z) i l) (sym (replicate-append-replicate r (suc k) (pos 0))) ∙
    ap (λ (z : List ℤ). set z i l) (sym (append_assoc d (zeros r) (pos 0 ∷ zeros k))) ∙
    set_at (d ++ zeros r) (pos 0) (zeros k) l i (length-append d (zeros r) ∙ ap (λ (n : ℕ). length d + n) (length-replicate r (pos 0)) ∙ e) ∙
    sym (append_snoc (d ++ zeros r) l (zeros k))

module _ {book : ResidualBook} {start at : ℕ} {s : List Bool} {out₀ : List ℤ} {base position p : ℕ} {out : List ℤ} (R : Reading book start at s out₀ base position p out) where
  ends-refused : (x : Refusal) → level_run book (drop p s) ≡ refused x → block book start (drop at s) ≡ refused x
  ends-refused x e = rw (R.rest, from-refused book position (drop p s) R.turns x e)

  ends-past : (n : ℕ) (l : ℤ) (r : ℕ) → level_run book (drop p s) ≡ got (Some (l, r)) n → positions book ≤ position + r → block book start (drop at s) ≡ refused (LevelPosition (position + r))
  ends-past n l r e h = rw (R.rest, from_past book position (drop p s) R.turns n l r e h)

  ends : (n : ℕ) → level_run book (drop p s) ≡ got None n → block book start (drop at s) ≡ got (held book R.done position) (R.taken + n)
  ends n e = rw (R.rest, from_end book position (drop p s) R.turns n e, add-zero n)

  -- the run of what was read is below the positions, so that their sum fits
  run_fits : (n : ℕ) (l : ℤ) (r : ℕ) → level_run book (drop p s) ≡ got (Some (l, r)) n → r < positions book
  run_fits n l r e = ((level-run-format book).came (drop p s) (Some (l, r)) n e).in_range.1

  module _ (n : ℕ) (l : ℤ) (r : ℕ) (e : level_run book (drop p s) ≡ got (Some (l, r)) n) (h : position + r < positions book) where
    more : List ℤ
    more = R.done ++ zeros r ++ l ∷ []

    held_on : set (held book R.done position) (get_or (scan book) (position + r) 0) l ≡ held book more (position + r + 1)
    unfolding more
    held_on =
        let k = positions book - (position + r + 1) in
        let d : positions book - position ≡ r + suc k = omega arith in
        let n : length (R.done ++ zeros (positions book - position)) ≡ positions book =
        length-append R.done (zeros (positions book - position)) ∙ omega (arith, R.so_far, R.within, length-replicate (positions book - position) (pos 0)) in
        raster-set book (R.done ++ zeros (positions book - position)) (position + r) l n h ∙
        ap (raster book) (ap (λ (i : ℕ). set (R.done ++ zeros i) (position + r) l) d ∙ stands R.done r k (position + r) l (omega (arith, R.so_far)))

    stored_on : set out (base + get_or (scan book) (position + r) 0) l ≡ sets out₀ base (held book more (position + r + 1))
    stored_on =
        let q = get_or (scan book) (position + r) 0 in
        ap (λ (xs : List ℤ). set xs (base + q) l) R.holds ∙
        set-within out₀ base (held book R.done position) q l (omega (arith, (position-back book (position + r) h).1, length-raster book (R.done ++ zeros (positions book - position)))) ∙
        ap (sets out₀ base) held_on

    rest-on : (turns : ℕ) → R.turns ≡ suc turns → block book start (drop at s) ≡ after (R.taken + n) (map_got (λ ls. raster book (more ++ ls)) (levels_from book turns (position + r + 1) (drop (p + n) s)))
    unfolding more
    rest-on turns t =
        let f : List ℤ → List ℤ = λ ls. raster book (R.done ++ ls) in
        let g : List ℤ → List ℤ = λ ls. zeros r ++ l ∷ ls in
        let X = levels_from book turns (position + r + 1) (drop n (drop p s)) in
        R.rest ∙
        ap (λ (k : ℕ). after R.taken (map_got f (levels_from book k position (drop p s)))) t ∙
        ap (λ (a : Got (List ℤ)). after R.taken (map_got f a)) (from-level book position (drop p s) turns n l r e h) ∙
        ap (after R.taken) (map-after f n (map_got g X)) ∙
        after-after R.taken n (map_got f (map_got g X)) ∙
        ap (after (R.taken + n)) (map-map f g (λ ls. raster book (R.done ++ zeros r ++ l ∷ [] ++ ls)) X (λ ls. ap (raster book) (sym (append_snoc (R.done ++ zeros r) l ls ∙ append_assoc R.done (zeros r) (l ∷ ls))))) ∙
        ap (λ (u : List Bool). after (R.taken + n) (map_got (λ ls. raster book (R.done ++ zeros r ++ l ∷ [] ++ ls)) (levels_from book turns (position + r + 1) u))) (drop-drop n p s)

    length_more : length more ≡ position + r + 1
    unfolding more
    length_more = omega (arith, length-append (R.done ++ zeros r) (l ∷ []), length-append R.done (zeros r), length-replicate r (pos 0), R.so_far)

    goes_on : Reading book start at s out₀ base (position + r + 1) (p + n) (set out (base + get_or (scan book) (position + r) 0) l)
    goes_on = go R.turns refl
      where
        go : (turns : ℕ) → R.turns ≡ turns → Reading book start at s out₀ base (position + r + 1) (p + n) (set out (base + get_or (scan book) (position + r) 0) l)
        go zero t = absurd (omega (arith, R.enough))
        go (suc turns) t =
            record {
              done = more;
              turns = turns;
              taken = R.taken + n;
              so_far = length_more;
              within = omega arith;
              enough = omega (arith, R.enough);
              moved = omega (arith, R.moved);
              room = R.room;
              holds = stored_on;
              rest = rest-on turns t;
            }

-- ---- what a turn answers, and what it leaves
module _ {book : ResidualBook} {start at : ℕ} {s : List Bool} {out₀ : List ℤ} {base position p : ℕ} {out : List ℤ} (R : Reading book start at s out₀ base position p out) where
  pub same-room : length out ≡ length out₀
  same-room = ap length R.holds ∙ length-sets out₀ base (held book R.done position)

  pub room-now : base + positions book ≤ length out
  room-now = omega (arith, R.room, same-room)

  module _ (entry : List ℤ) (clears : out₀ ≡ sets entry base (zeros (positions book))) where
    left_over : out ≡ sets entry base (held book R.done position)
    left_over = R.holds ∙ over book base entry out₀ clears (held book R.done position) (length-raster book (R.done ++ zeros (positions book - position)))

    cleared-again : (after : List ℤ) → after ≡ sets out base (zeros (positions book)) → after ≡ sets entry base (zeros (positions book))
    cleared-again after e =
        e ∙ ap (λ (xs : List ℤ). sets xs base (zeros (positions book))) left_over ∙
        sets_over entry base (held book R.done position) (zeros (positions book)) (length-raster book (R.done ++ zeros (positions book - position)) ∙ sym (length-replicate (positions book) (pos 0)))

    pub refused-answer : (after : List ℤ) (x : Refusal) → after ≡ sets out base (zeros (positions book)) → Err x ≡ answered p (level_run book (drop p s)) → Decoded at (positions book) (block book start (drop at s)) entry base (Err x) after
    refused-answer after x e t = rw (ends-refused R x (answered-refused p (level_run book (drop p s)) x t)) (record { answers = refl; leaves = cleared-again after e })

    pub past-answer : (after : List ℤ) (l : ℤ) (r q : ℕ) → after ≡ sets out base (zeros (positions book)) → Ok (Some (l, r), q) ≡ answered p (level_run book (drop p s)) → positions book ≤ position + r
        → Decoded at (positions book) (block book start (drop at s)) entry base (Err (LevelPosition (position + r))) after
    past-answer after l r q e t h =
        let a = answered-got p (level_run book (drop p s)) (Some (l, r)) q t in
        rw (ends-past R a.taken l r a.is h) (record { answers = refl; leaves = cleared-again after e })

    pub end-answer : (q : ℕ) → Ok (None, q) ≡ answered p (level_run book (drop p s)) → Decoded at (positions book) (block book start (drop at s)) entry base (Ok q) out
    end-answer q t = go (answered-got p (level_run book (drop p s)) None q t)
      where
        go : Answered p (level_run book (drop p s)) None q → Decoded at (positions book) (block book start (drop at s)) entry base (Ok q) out
        go a = rw (ends R a.taken a.is) (record { answers = ap Ok (omega (arith, a.moved, R.moved)); leaves = left_over })

  module _ (l : ℤ) (r q : ℕ) (t : Ok (Some (l, r), q) ≡ answered p (level_run book (drop p s))) where
    pub run-told : r < positions book
    run-told = let a = answered-got p (level_run book (drop p s)) (Some (l, r)) q t in run_fits R a.taken l r a.is

    pub next-reading : (place : ℕ) (x : ℤ) → position + r < positions book → place ≡ get_or (scan book) (position + r) 0 → x ≡ l → Reading book start at s out₀ base (position + r + 1) q (set out (base + place) x)
    next-reading place x h e f = go (answered-got p (level_run book (drop p s)) (Some (l, r)) q t)
      where
        go : Answered p (level_run book (drop p s)) (Some (l, r)) q → Reading book start at s out₀ base (position + r + 1) q (set out (base + place) x)
        go a = rw (e, f, a.moved) (goes_on R a.taken l r a.is h)
