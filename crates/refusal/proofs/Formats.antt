-- Laws of formats: what is read determines what was taken, and what was taken what is read; formats in turn are a format.
-- Assumes nothing.
use mathlib.Core.Path.{◌≡◌, refl, sym, ap, ◌∙◌, subst}
use mathlib.Core.List.{List, [], ◌++◌, append_assoc}
use mathlib.Core.Logic.{◌↔◌}
use Prim.Native.Nat.{ℕ, ◌≤◌}
use native.Mathlib.Omega.{arith}
use lib.ListN.{length, take, drop, length-append, take-append-drop}
use lib.Seq.{take_at, drop_at}
use Rattle.refusal.specs.Got.{Got, got, refused, after, and_then, map_got}
use Rattle.refusal.specs.Format.{Came, Format}
use Rattle.refusal.specs.declared.Refusal.{Refusal}

-- the value and the count of an answer
pub got-value : {X : Type 0} {x y : X} {n m : ℕ} → got x n ≡ got y m → x ≡ y
got-value e = cc

pub got-count : {X : Type 0} {x y : X} {n m : ℕ} → got x n ≡ got y m → n ≡ m
got-count e = cc

pub never : {A X : Type 0} {x : X} {n : ℕ} {r : Refusal} → refused r ≡ got x n → A
never e = absurd (let z : ◌≡◌ {A = ℕ} 0 1 = cc in omega arith)

module _ {E X : Type 0} {read : List E → Got X} {write : X → List E} {fine : X → Type 0} (f : Format read write fine) where
  -- EXACTLY: x is read, n elements taken, exactly where x is in range and the first n elements are what is written for it
  pub exactly : (s : List E) (x : X) (n : ℕ) → (read s ≡ got x n) ↔ (fine x × (n ≡ length (write x)) × (take n s ≡ write x))
  exactly s x n = (to, back)
    where
      to : read s ≡ got x n → fine x × (n ≡ length (write x)) × (take n s ≡ write x)
      to e =
          let c = f.came s x n e in
          (c.in_range, c.taken, rw c.starts.is (take_at (write x) c.starts.rest n (sym c.taken)))

      back : fine x × (n ≡ length (write x)) × (take n s ≡ write x) → read s ≡ got x n
      back h =
          let e : s ≡ write x ++ drop n s = sym (take-append-drop n s) ∙ ap (λ (t : List E). t ++ drop n s) h.2 in
          ap read e ∙ f.reads x (drop n s) h.0 ∙ ap (got x) (sym h.1)

  -- what is taken is there
  pub bounded : (s : List E) (x : X) (n : ℕ) → read s ≡ got x n → n ≤ length s
  bounded s x n e =
      let c = f.came s x n e in
      let l = ap length c.starts.is ∙ length-append (write x) c.starts.rest in
      omega (arith, c.taken, l)

  -- reading depends on the elements that are taken, and on nothing behind them
  pub local : (s t : List E) (x : X) (n : ℕ) → read s ≡ got x n → take n s ≡ take n t → read t ≡ got x n
  local s t x n e h = let k = (exactly s x n).0 e in (exactly t x n).1 (k.0, k.1, sym h ∙ k.2)

  -- two values with the same writing, whatever follows each, are one, and the same follows
  pub injective : (x y : X) (s t : List E) → fine x → fine y → write x ++ s ≡ write y ++ t → (x ≡ y) × (s ≡ t)
  injective x y s t h k e =
      let a = f.reads x s h in
      let b = f.reads y t k in
      let g : got x (length (write x)) ≡ got y (length (write y)) = sym a ∙ ap read e ∙ b in
      let l : length (write x) ≡ length (write y) = got-count g in
      (got-value g, sym (drop_at (write x) s (length (write x)) refl) ∙ ap (drop (length (write x))) e ∙ drop_at (write y) t (length (write x)) (sym l))

  -- equal values were read exactly where equal elements were taken
  pub same_taken : (s t : List E) (x y : X) (n m : ℕ) → read s ≡ got x n → read t ≡ got y m → (x ≡ y) ↔ (take n s ≡ take m t)
  same_taken s t x y n m p q =
      let a = (exactly s x n).0 p in
      let b = (exactly t y m).0 q in (
        (λ e. a.2 ∙ ap write e ∙ sym b.2),
        (λ e. (injective x y [] [] a.0 b.0 (ap (λ (w : List E). w ++ []) (sym a.2 ∙ e ∙ b.2))).0),
      )

-- ---- a format, then another, which may depend on what was read

abbrev pub pair_read : {E X Y : Type 0} → (List E → Got X) → (X → List E → Got Y) → List E → Got (X × Y)
pair_read f g s = and_then (f s) s (λ x t. map_got (λ y. (x, y)) (g x t))

abbrev pub pair_write : {E X Y : Type 0} → (X → List E) → (X → Y → List E) → X × Y → List E
pair_write wf wg p = wf p.0 ++ wg p.0 p.1

abbrev pub pair_fine : {X Y : Type 0} → (X → Type 0) → (X → Y → Type 0) → X × Y → Type 0
pair_fine okf okg p = okf p.0 × okg p.0 p.1

module _ {E X Y : Type 0} {f : List E → Got X} {wf : X → List E} {okf : X → Type 0} {g : X → List E → Got Y} {wg : X → Y → List E} {okg : X → Y → Type 0}
    (F : Format f wf okf) (G : (x : X) → okf x → Format (g x) (wg x) (okg x)) where
  both_read : (x : X) (y : Y) (rest : List E) → okf x → okg x y → pair_read f g ((wf x ++ wg x y) ++ rest) ≡ got (x, y) (length (wf x ++ wg x y))
  both_read x y rest h k =
      let a : (wf x ++ wg x y) ++ rest ≡ wf x ++ (wg x y ++ rest) = append_assoc (wf x) (wg x y) rest in
      let d : drop (length (wf x)) (wf x ++ (wg x y ++ rest)) ≡ wg x y ++ rest = drop_at (wf x) (wg x y ++ rest) (length (wf x)) refl in
      rw (a, F.reads x (wg x y ++ rest) h, d, (G x h).reads y rest k, length-append (wf x) (wg x y))

  both-came : (s : List E) (p : X × Y) (n : ℕ) → pair_read f g s ≡ got p n → Came (pair_write wf wg) (pair_fine okf okg) s p n
  both-came s p n e = first (f s) refl e
    where
      second : (x : X) (m : ℕ) → Came wf okf s x m → (b : Got Y) → g x (drop m s) ≡ b → after m (map_got (λ y. (x, y)) b) ≡ got p n
          → Came (pair_write wf wg) (pair_fine okf okg) s p n
      second x m c (refused r) h e = never e
      second x m c (got y k) h e =
          let d = (G x c.in_range).came (drop m s) y k h in
          let is : s ≡ (wf x ++ wg x y) ++ d.starts.rest =
          c.starts.is ∙ ap (λ (t : List E). wf x ++ t) (sym (drop_at (wf x) c.starts.rest m (sym c.taken)) ∙ ap (drop m) (sym c.starts.is) ∙ d.starts.is) ∙ sym (append_assoc (wf x) (wg x y) d.starts.rest) in
          subst (λ (q : X × Y). Came (pair_write wf wg) (pair_fine okf okg) s q n) (got-value e)
          (record {
            in_range = (c.in_range, d.in_range);
            starts = record { rest = d.starts.rest; is = is };
            taken = sym (got-count e) ∙ omega (arith, c.taken, d.taken, length-append (wf x) (wg x y));
          })

      first : (a : Got X) → f s ≡ a → and_then a s (λ x t. map_got (λ y. (x, y)) (g x t)) ≡ got p n
          → Came (pair_write wf wg) (pair_fine okf okg) s p n
      first (refused r) h e = never e
      first (got x m) h e = second x m (F.came s x m h) (g x (drop m s)) refl e

  pub in-turn : Format (pair_read f g) (pair_write wf wg) (pair_fine okf okg)
  in-turn = record { reads = λ q rest h. both_read q.0 q.1 rest h.0 h.1; came = both-came }

-- ---- the same format under another name of its values
module _ {E X Y : Type 0} {f : List E → Got X} {wf : X → List E} {okf : X → Type 0} (F : Format f wf okf)
    (to : X → Y) (from : Y → X) (okg : Y → Type 0)
    (there : (x : X) → okf x → okg (to x)) (back : (y : Y) → okg y → okf (from y)) (to-from : (y : Y) → okg y → to (from y) ≡ y) (from-to : (x : X) → okf x → from (to x) ≡ x) where
  renamed-came : (s : List E) (y : Y) (n : ℕ) → map_got to (f s) ≡ got y n → Came (λ y. wf (from y)) okg s y n
  renamed-came s y n e = go (f s) refl e
    where
      go : (a : Got X) → f s ≡ a → map_got to a ≡ got y n → Came (λ y. wf (from y)) okg s y n
      go (refused r) h e = never e
      go (got x m) h e =
          let c = F.came s x m h in
          let w : wf (from (to x)) ≡ wf x = ap wf (from-to x c.in_range) in
          subst (λ (y : Y). Came (λ y. wf (from y)) okg s y n) (got-value e)
          (record { in_range = there x c.in_range; starts = record { rest = c.starts.rest; is = rw w c.starts.is }; taken = sym (got-count e) ∙ rw w c.taken })

  pub renamed : Format (λ s. map_got to (f s)) (λ y. wf (from y)) okg
  renamed = record { reads = λ y rest h. rw (F.reads (from y) rest (back y h), to-from y h); came = renamed-came }
