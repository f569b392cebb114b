-- What is taken from a window is what the code at the place says: each entry of the look-ups is tested.
-- Assumes nothing.
use mathlib.Core.Path.{◌≡◌, refl, sym, ap, ap₂, subst, ◌∙◌}
use mathlib.Core.Bool.{Bool, true, false, cond, ◌&&◌, ◌||◌}
use mathlib.Core.List.{List, [], ◌∷◌, ◌++◌}
use Prim.Native.Nat.{ℕ, suc, ◌+◌, ◌-◌, ◌*◌, ◌/◌, ◌^◌, ◌≤◌, ◌<◌}
use native.Mathlib.Omega.{arith}
use borrow.Author.Tests.{le-ltb}
use lib.Dec.{T, leb, ltb, leb→le, ltb→lt}
use lib.IntN.{ℤ, pos, negsuc, nat_abs, ◌-ℤ◌}
use lib.ListN.{length, get_or, take, drop, length-drop}
use lib.Seq.{drop-drop, length-take-le}
use lib.Signed.{mag}
use mir.Syntax.{w32}
use mir.Val.{SFits, to_z, of_z}
use mir.Facts.{to_z_pos, to_z-of_z}
use Rattle.refusal.specs.Got.{got}
use Rattle.refusal.specs.declared.Refusal.{Refusal}
use Rattle.refusal.proofs.Formats.{bounded}
use Rattle.bits.specs.Bits.{bit_list}
use Rattle.bits.specs.Code.{code, code_from, marked, places_in, code_bits}
use Rattle.bits.specs.InnerWindow.{Shows}
use Rattle.bits.proofs.BitAt.{length-bits}
use Rattle.bits.proofs.Windows.{seven_bits, starts-seven, starts-one}
use Rattle.levels.specs.InnerEntries.{normal_scan, chroma_dc}
use Rattle.levels.specs.Book.{magnitudes, runs, positions, least, chroma_base, resolve, entry_of, escape_code, odd_code, code_of_level}
use Rattle.levels.specs.InnerBook.{code_of, InBook}
use Rattle.levels.specs.InnerShort.{entries, entry_size, entry_run, entry_level}
use Rattle.levels.specs.Levels.{level_run}
use Rattle.refusal.specs.Answered.{answered}
use Rattle.levels.specs.InnerLevels.{Stepped}
use Rattle.levels.specs.declared.svq3_coeff.Taken.{Taken}
use Rattle.levels.specs.declared.svq3_coeff.ResidualBook.{ResidualBook}
use Rattle.levels.specs.declared.svq3_coeff.ResidualBook.TheVariants.{NormalScan, ChromaDc}
use Rattle.levels.specs.Book.{LevelRun}
use Rattle.std.specs.Prelude.{Some, None}
use Rattle.std.specs.Prelude.{Ok, Err}
use Rattle.levels.proofs.ShortTable.{both_left, both_right, every, at}
use Rattle.levels.proofs.Steps.{level-run-format}

-- ---- tests
same_bits : List Bool → List Bool → Bool
same_bits [] [] = true
same_bits [] (y ∷ ys) = false
same_bits (x ∷ xs) [] = false
same_bits (true ∷ xs) (true ∷ ys) = same_bits xs ys
same_bits (false ∷ xs) (false ∷ ys) = same_bits xs ys
same_bits (true ∷ xs) (false ∷ ys) = false
same_bits (false ∷ xs) (true ∷ ys) = false

same_bits_lem : (xs ys : List Bool) → T (same_bits xs ys) → xs ≡ ys
unfolding same_bits
same_bits_lem [] [] t = refl
same_bits_lem [] (y ∷ ys) t = absurd t
same_bits_lem (x ∷ xs) [] t = absurd t
same_bits_lem (true ∷ xs) (true ∷ ys) t = ap (λ zs. true ∷ zs) (same_bits_lem xs ys t)
same_bits_lem (false ∷ xs) (false ∷ ys) t = ap (λ zs. false ∷ zs) (same_bits_lem xs ys t)
same_bits_lem (true ∷ xs) (false ∷ ys) t = absurd t
same_bits_lem (false ∷ xs) (true ∷ ys) t = absurd t

or-else : (a b : Bool) → T (a || b) → a ≡ false → T b
or-else true b t e = absurd (subst T e tt)
or-else false b t e = t

-- ---- an entry: no code, or the first bits of the seven are the code of its level and run
module _ (book : ResidualBook) (e : ℕ) where
  abbrev pair : LevelRun
  pair = Some (entry_level e, entry_run e)

  abbrev sized : Bool
  sized = leb 1 (entry_size e) && leb (entry_size e) 7

  abbrev in_book : Bool
  in_book = ltb 0 (nat_abs (entry_level e)) && (ltb (entry_run e) (positions book) && ltb (code_of_level book (entry_level e) (entry_run e)) (2 ^ 32 - 1))

  abbrev coded : ℕ → Bool
  coded i = same_bits (take (entry_size e) (seven_bits i)) (code_bits (code_of book pair))

  abbrev right : ℕ → Bool
  right i = ltb 64 (entry_size e) || (sized && (in_book && coded i))

  record Said (i : ℕ) : Type 0 where
    some : 0 < entry_size e
    few : entry_size e ≤ 7
    says : (t : List Bool) → level_run book (take (entry_size e) (seven_bits i) ++ t) ≡ got pair (entry_size e)

  said-by : (i : ℕ) → T (right i) → entry_size e ≤ 64 → Said i
  unfolding code_of
  said-by i t h =
      let a = or-else (ltb 64 (entry_size e)) (sized && (in_book && coded i)) t (le-ltb 64 (entry_size e) h) in
      let s = both_left sized (in_book && coded i) a in
      let b = both_right sized (in_book && coded i) a in
      let r = both_left in_book (coded i) b in
      let l = entry_level e in
      let k = code_of_level book l (entry_run e) in
      let u = ltb (entry_run e) (positions book) && ltb k (2 ^ 32 - 1) in
      let v = both_right (ltb 0 (nat_abs l)) u r in
      let bits = same_bits_lem (take (entry_size e) (seven_bits i)) (code_bits k) (both_right in_book (coded i) b) in
      let few : entry_size e ≤ 7 = leb→le (entry_size e) 7 (both_right (leb 1 (entry_size e)) (leb (entry_size e) 7) s) in
      let size : length (code_bits k) ≡ entry_size e = ap length (sym bits) ∙ length-take-le (entry_size e) (seven_bits i) few in
      let range : InBook book pair = (ltb→lt 0 (nat_abs l) (both_left (ltb 0 (nat_abs l)) u r), ltb→lt (entry_run e) (positions book) (both_left (ltb (entry_run e) (positions book)) (ltb k (2 ^ 32 - 1)) v), ltb→lt k (2 ^ 32 - 1) (both_right (ltb (entry_run e) (positions book)) (ltb k (2 ^ 32 - 1)) v)) in
      record {
        some = leb→le 1 (entry_size e) (both_left (leb 1 (entry_size e)) (leb (entry_size e) 7) s);
        few = few;
        says = λ t. ap (λ (xs : List Bool). level_run book (xs ++ t)) bits ∙ (level-run-format book).reads pair t range ∙ ap (got pair) size;
      }

right_at : ResidualBook → ℕ → Bool
right_at book i = right book (get_or (entries book) i 0) i

all_right : (book : ResidualBook) → T (every (right_at book) 64)
unfolding right_at same_bits normal_scan chroma_dc entry_level code_of code_of_level odd_code entry_of escape_code least chroma_base magnitudes runs code_bits marked places_in
all_right NormalScan = tt
all_right ChromaDc = tt

entry-says : (book : ResidualBook) (i e : ℕ) → i < 64 → e ≡ get_or (entries book) i 0 → entry_size e ≤ 64 → Said book e i
unfolding right_at
entry-says book i e h f s = said-by book e i (subst (λ (x : ℕ). T (right book x i)) (sym f) (at (right_at book) 64 (all_right book) i h)) s

-- ---- its level, as the machine makes it
mag_less : (q : ℕ) → q < 2 ^ 31 → mag (pos q -ℤ pos 4) < 2 ^ 31
mag_less q h = go (ltb q 4)
  where
    go : (t : Bool) → mag (cond t (negsuc (4 - suc q)) (pos (q - 4))) < 2 ^ 31
    go true = omega arith
    go false = omega arith

pub less-fits : (q : ℕ) → q < 2 ^ 31 → SFits w32 (to_z w32 q -ℤ pos 4)
less-fits q h = record { sfits = rw (to_z_pos w32 h) (mag_less q h) }

pub level-less : (q : ℕ) → q < 2 ^ 31 → to_z w32 (of_z w32 (to_z w32 q -ℤ pos 4)) ≡ pos q -ℤ pos 4
level-less q h = to_z-of_z (less-fits q h) ∙ ap (λ (z : ℤ). z -ℤ pos 4) (to_z_pos w32 h)

-- ---- steps
module _ (book : ResidualBook) (bits : List Bool) (p : ℕ) where
  pub level-stepped : (taken : Taken) → Ok (taken.said, taken.next) ≡ answered p (level_run book (drop p bits)) → Shows taken.window.word taken.window.known (drop taken.next bits) → Stepped book bits p (Ok taken)
  level-stepped taken e shown =
      record { says = e; shows = λ t l r g f. let same : taken ≡ t = cc in subst (λ (x : Taken). Shows x.window.word x.window.known (drop x.next bits)) same shown }

  pub end-stepped : (taken : Taken) → taken.said ≡ None → Ok (None, taken.next) ≡ answered p (level_run book (drop p bits)) → Stepped book bits p (Ok taken)
  end-stepped taken n e =
      record {
        says = ap (λ (x : LevelRun). Ok (x, taken.next)) n ∙ e;
        shows = λ t l r g f. absurd (let same : taken ≡ t = cc in let k : None ≡ Some (l, r) = sym n ∙ ap (λ (x : Taken). x.said) same ∙ f in let z : ◌≡◌ {A = ℕ} 0 1 = cc in omega arith);
      }

  pub refused-stepped : (r : Refusal) → Err r ≡ answered p (level_run book (drop p bits)) → Stepped book bits p (Err r)
  refused-stepped r e = record { says = e; shows = λ t l q g f. absurd (let z : ◌≡◌ {A = ℕ} 0 1 = cc in omega arith) }

  -- ---- a code that the window shows
  module _ (word known : ℕ) (shown : Shows word known (drop p bits)) where
    pub one_found : 0 < known → 2 ^ 63 ≤ word → word < 2 ^ 64 → level_run book (drop p bits) ≡ got None 1
    unfolding level_run code code_from resolve
    one_found h l u = let b = starts-one word known (drop p bits) h l u shown in ap (level_run book) b.1

    module _ (e : ℕ) (low : word < 2 ^ 63) (is : e ≡ get_or (entries book) (word / 2 ^ 57) 0) (fits : entry_size e ≤ known) where
      found : Said book e (word / 2 ^ 57)
      found = entry-says book (word / 2 ^ 57) e (omega arith) is (omega (arith, shown.few))

      pub size_few : entry_size e ≤ 7
      size_few = found.few

      pub size-some : 0 < entry_size e
      size-some = found.some

      pub level-found : level_run book (drop p bits) ≡ got (Some (entry_level e, entry_run e)) (entry_size e)
      level-found = let b = starts-seven word known (entry_size e) (drop p bits) found.few fits shown in ap (level_run book) b.1 ∙ found.says b.0

      pub entry-stepped : (taken : Taken) (z : ℤ) → taken.said ≡ Some (z, entry_run e) → taken.next ≡ p + entry_size e → z ≡ entry_level e → Shows taken.window.word taken.window.known (drop (entry_size e) (drop p bits)) → Stepped book bits p (Ok taken)
      entry-stepped taken z said next f behind =
          let there : drop (entry_size e) (drop p bits) ≡ drop taken.next bits = drop-drop (entry_size e) p bits ∙ ap (λ (n : ℕ). drop n bits) (sym next) in
          level-stepped taken (ap₂ (λ (x : LevelRun) (n : ℕ). Ok (x, n)) (said ∙ ap (λ (x : ℤ). Some (x, entry_run e)) f) next ∙ ap (answered p) (sym level-found)) (subst (Shows taken.window.word taken.window.known) there behind)

-- a code's bits are there
pub inside : (book : ResidualBook) (s : List ℕ) (p n : ℕ) (x : LevelRun) → level_run book (drop p (bit_list s)) ≡ got x n → 0 < n → p + n ≤ 8 * length s
inside book s p n x e h = omega (arith, bounded (level-run-format book) (drop p (bit_list s)) x n e, length-drop p (bit_list s), length-bits s)
