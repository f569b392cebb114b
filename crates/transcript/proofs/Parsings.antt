-- A record read part by part: what each part's answer says of the whole.
-- Assumes nothing.
use mathlib.Core.Path.{◌≡◌, refl, sym, ap, subst, ◌∙◌}
use mathlib.Core.List.{List}
use Prim.Native.Nat.{ℕ, ◌+◌, ◌*◌, ◌≤◌, ◌<◌, ◌^◌}
use native.Mathlib.Nat.{add_assoc}
use native.Mathlib.Omega.{arith}
use lib.IntN.{ℤ}
use lib.ListN.{drop}
use lib.Seq.{sets, drop-drop}
use Rattle.refusal.specs.Got.{Got, got, refused, after, and_then, map_got}
use Rattle.refusal.specs.declared.Refusal.{Refusal}
use Rattle.refusal.proofs.Formats.{got-value, got-count, never}
use Rattle.refusal.specs.Answered.{answered}
use Rattle.std.specs.Prelude.{Result, Ok, Err}
use Rattle.refusal.proofs.Answered.{answered-got, answered-refused}
use Rattle.refusal.specs.declared.Refusal.{Refusal}
use Rattle.std.specs.Prelude.{Result, Ok, Err}
use Rattle.vectors.specs.Modes.{num_motion_vectors}
use Rattle.record.specs.Record.{Record, no_vectors, with_motion, with_residual}
use Rattle.levels.specs.Items.{no_levels}
use Rattle.record.specs.InnerRecord.{record_of}
use Rattle.record.specs.Parse.{field, read_signeds, parse_items, parse_residual, parse_motion}
use Rattle.levels.specs.InnerAnswers.{Left}
use Rattle.record.specs.declared.Head.{Head}
use Rattle.record.proofs.Fields.{field-format}
use Rattle.levels.proofs.ItemAnswers.{ended, refused-by}
use Rattle.transcript.specs.InnerParsing.{parse_answer, Parsing}
use Rattle.refusal.specs.declared.Refusal.{Refusal}
use Rattle.std.specs.Prelude.{Result, Ok, Err}

-- ---- one part, then what follows it
answer-on : (at n : ℕ) (b : Got Record) → parse_answer at (after n b) ≡ parse_answer (at + n) b
answer-on at n (got r m) = ap (λ (k : ℕ). Ok (r.head, k)) (sym (add_assoc at n m))
answer-on at n (refused r) = refl

pub parsing-on : (at n next : ℕ) (b : Got Record) (answer : Result (Head × ℕ) Refusal) (vs ls : List ℤ) → next ≡ at + n → Parsing next b answer vs ls → Parsing at (after n b) answer vs ls
parsing-on at n next b answer vs ls m p =
    record {
      answers = p.answers ∙ ap (λ (i : ℕ). parse_answer i b) m ∙ sym (answer-on at n b);
      leaves = left b refl;
    }
  where
    left : (g : Got Record) → b ≡ g → (r : Record) (j : ℕ) → after n g ≡ got r j → (vs ≡ r.vectors) × (ls ≡ r.levels)
    left (got q i) e r j f = subst (λ (o : Record). (vs ≡ o.vectors) × (ls ≡ o.levels)) (got-value f) (p.leaves q i e)
    left (refused x) e r j f = never f

module _ {X : Type 0} (at : ℕ) (s : List ℕ) (g : Got X) (k : X → List ℕ → Got Record) where
  on : (x : X) (n next : ℕ) (answer : Result (Head × ℕ) Refusal) (vs ls : List ℤ) → g ≡ got x n → next ≡ at + n → Parsing next (k x (drop next s)) answer vs ls → Parsing at (and_then g (drop at s) k) answer vs ls
  on x n next answer vs ls e m p =
      let there : drop n (drop at s) ≡ drop next s = drop-drop n at s ∙ ap (λ (i : ℕ). drop i s) (sym m) in
      let whole : and_then g (drop at s) k ≡ after n (k x (drop next s)) = ap (λ (a : Got X). and_then a (drop at s) k) e ∙ ap (λ (u : List ℕ). after n (k x u)) there in
      rw whole (parsing-on at n next (k x (drop next s)) answer vs ls m p)

  off : (r : Refusal) (vs ls : List ℤ) → g ≡ refused r → Parsing at (and_then g (drop at s) k) (Err r) vs ls
  off r vs ls e =
      let whole : and_then g (drop at s) k ≡ refused r = ap (λ (a : Got X). and_then a (drop at s) k) e in
      record { answers = ap (parse_answer at) (sym whole); leaves = λ o j f. never (sym whole ∙ f) }

-- ---- numbers
module _ (at : ℕ) (s : List ℕ) (g : Got ℕ) (k : ℕ → List ℕ → Got Record) where
  number-on : (v next : ℕ) (answer : Result (Head × ℕ) Refusal) (vs ls : List ℤ) → Ok (v, next) ≡ answered at g → Parsing next (k v (drop next s)) answer vs ls → Parsing at (and_then g (drop at s) k) answer vs ls
  number-on v next answer vs ls e p = let a = answered-got at g v next e in on at s g k v a.taken next answer vs ls a.is a.moved p

  number-off : (r : Refusal) (vs ls : List ℤ) → Err r ≡ answered at g → Parsing at (and_then g (drop at s) k) (Err r) vs ls
  number-off r vs ls e = off at s g k r vs ls (answered-refused at g r e)

pub field-most : (at most : ℕ) (s : List ℕ) (v next : ℕ) → most < 2 ^ 32 → Ok (v, next) ≡ answered at (field most s) → v ≤ most
field-most at most s v next h e = let a = answered-got at (field most s) v next e in ((field-format most h).came s v a.taken a.is).in_range

-- ---- levels, at the end of a record
module _ (at : ℕ) (g : Got (List ℤ)) (h : Head) (vs left : List ℤ) where
  pub levels-on : (answer : Result ℕ Refusal) (next : ℕ) (o : Head) → o ≡ h → answer ≡ Ok next → Left at g answer left → Parsing at (map_got (record_of h vs) g) (Ok (o, next)) vs left
  levels-on answer next o i a l =
      let e = ended at g next left (rw a at l) in
      let whole : map_got (record_of h vs) g ≡ got (record_of h vs left) e.taken = ap (map_got (record_of h vs)) e.is in
      record {
        answers = ap (λ (x : Head). Ok (x, next)) i ∙ ap (λ (k : ℕ). Ok (h, k)) e.moved ∙ ap (parse_answer at) (sym whole);
        leaves = λ r n f. let o = got-value (sym whole ∙ f) in (ap (λ (x : Record). x.vectors) o, ap (λ (x : Record). x.levels) o);
      }

  pub levels-off : (answer : Result ℕ Refusal) (r : Refusal) → answer ≡ Err r → Left at g answer left → Parsing at (map_got (record_of h vs) g) (Err r) vs left
  levels-off answer r a l =
      let whole : map_got (record_of h vs) g ≡ refused r = ap (map_got (record_of h vs)) (refused-by at g r left (rw a at l)) in
      record { answers = ap (parse_answer at) (sym whole); leaves = λ o n f. never (sym whole ∙ f) }

-- ---- pattern, quantiser, levels
abbrev behind_quantiser : Head → List ℤ → ℕ → ℕ → List ℕ → Got Record
behind_quantiser h vs pattern quantiser s = map_got (record_of (with_residual h pattern quantiser) vs) (parse_items 26 0 pattern no_levels s)

abbrev behind_pattern : Head → List ℤ → ℕ → List ℕ → Got Record
behind_pattern h vs pattern s = and_then (field 31 s) s (behind_quantiser h vs pattern)

module _ (h : Head) (s : List ℕ) (at : ℕ) (vs left : List ℤ) where
  pub no-pattern : (r : Refusal) → Err r ≡ answered at (field 47 (drop at s)) → Parsing at (parse_residual h vs (drop at s)) (Err r) vs left
  unfolding parse_residual
  no-pattern r e = number-off at s (field 47 (drop at s)) (behind_pattern h vs) r vs left e

  module _ (pattern p : ℕ) (e : Ok (pattern, p) ≡ answered at (field 47 (drop at s))) where
    with-pattern : (answer : Result (Head × ℕ) Refusal) → Parsing p (behind_pattern h vs pattern (drop p s)) answer vs left → Parsing at (parse_residual h vs (drop at s)) answer vs left
    unfolding parse_residual
    with-pattern answer k = number-on at s (field 47 (drop at s)) (behind_pattern h vs) pattern p answer vs left e k

    pub no-quantiser : (r : Refusal) → Err r ≡ answered p (field 31 (drop p s)) → Parsing at (parse_residual h vs (drop at s)) (Err r) vs left
    no-quantiser r f = with-pattern (Err r) (number-off p s (field 31 (drop p s)) (behind_quantiser h vs pattern) r vs left f)

    module _ (quantiser q : ℕ) (f : Ok (quantiser, q) ≡ answered p (field 31 (drop p s))) (ls : List ℤ) (zero : ls ≡ no_levels) (answer : Result ℕ Refusal) (l : Left q (parse_items 26 0 pattern ls (drop q s)) answer left) where
      with-quantiser : (answer : Result (Head × ℕ) Refusal) → Parsing q (behind_quantiser h vs pattern quantiser (drop q s)) answer vs left → Parsing at (parse_residual h vs (drop at s)) answer vs left
      with-quantiser answer k = with-pattern answer (number-on p s (field 31 (drop p s)) (behind_quantiser h vs pattern) quantiser q answer vs left f k)

      pub with-levels : (next : ℕ) (o : Head) → o ≡ with_residual h pattern quantiser → answer ≡ Ok next → Parsing at (parse_residual h vs (drop at s)) (Ok (o, next)) vs left
      with-levels next o i a =
          with-quantiser (Ok (o, next)) (levels-on q (parse_items 26 0 pattern no_levels (drop q s)) (with_residual h pattern quantiser) vs left answer next o i a (rw zero at l))

      pub no-levels : (r : Refusal) → answer ≡ Err r → Parsing at (parse_residual h vs (drop at s)) (Err r) vs left
      no-levels r a = with-quantiser (Err r) (levels-off q (parse_items 26 0 pattern no_levels (drop q s)) (with_residual h pattern quantiser) vs left answer r a (rw zero at l))

-- ---- precision, clipped count, vectors, and what follows
-- numbers that were read and stored
record Put (at : ℕ) (g : Got (List ℤ)) (out : List ℤ) (next : ℕ) (left : List ℤ) : Type 0 where
  numbers : List ℤ
  taken : ℕ
  is : g ≡ got numbers taken
  moved : next ≡ at + taken
  leaves : left ≡ sets out 0 numbers

put : (at : ℕ) (g : Got (List ℤ)) (out : List ℤ) (next : ℕ) (left : List ℤ) → Left at (map_got (sets out 0) g) (Ok next) left → Put at g out next left
put at (got zs n) out next left l =
    let e = ended at (got (sets out 0 zs) n) next left l in
    record { numbers = zs; taken = n; is = refl; moved = (let m = e.moved in let i = got-count e.is in omega arith); leaves = sym (got-value e.is) }
put at (refused r) out next left l = never (ended at (refused r) next left l).is

stored_refused : (f : List ℤ → List ℤ) (g : Got (List ℤ)) (r : Refusal) → map_got f g ≡ refused r → g ≡ refused r
stored_refused f (got zs n) r e = absurd (let z : ◌≡◌ {A = ℕ} 0 1 = cc in omega arith)
stored_refused f (refused q) r e = ap refused (cc)

abbrev behind_vectors : Head → ℕ → ℕ → List ℤ → List ℕ → Got Record
behind_vectors h precision clipped vectors s = parse_residual (with_motion h precision clipped) (sets no_vectors 0 vectors) s

abbrev behind_clipped : Head → ℕ → ℕ → List ℕ → Got Record
behind_clipped h precision clipped s = and_then (read_signeds (2 * num_motion_vectors h.mode) s) s (behind_vectors h precision clipped)

abbrev behind_precision : Head → ℕ → List ℕ → Got Record
behind_precision h precision s = and_then (field (2 * num_motion_vectors h.mode) s) s (behind_clipped h precision)

module _ (h : Head) (s : List ℕ) (at : ℕ) (vs ls : List ℤ) where
  pub no-precision : (r : Refusal) → Err r ≡ answered at (field 2 (drop at s)) → Parsing at (parse_motion h (drop at s)) (Err r) vs ls
  unfolding parse_motion
  no-precision r e = number-off at s (field 2 (drop at s)) (behind_precision h) r vs ls e

  -- n partitions
  module _ (precision p : ℕ) (e : Ok (precision, p) ≡ answered at (field 2 (drop at s))) (n : ℕ) (i : n ≡ num_motion_vectors h.mode) where
    with-precision : (answer : Result (Head × ℕ) Refusal) → Parsing p (behind_precision h precision (drop p s)) answer vs ls → Parsing at (parse_motion h (drop at s)) answer vs ls
    unfolding parse_motion
    with-precision answer k = number-on at s (field 2 (drop at s)) (behind_precision h) precision p answer vs ls e k

    pub no-clipped : (r : Refusal) → Err r ≡ answered p (field (2 * n) (drop p s)) → Parsing at (parse_motion h (drop at s)) (Err r) vs ls
    no-clipped r f = with-precision (Err r) (number-off p s (field (2 * num_motion_vectors h.mode) (drop p s)) (behind_clipped h precision) r vs ls (rw i at f))

    module _ (clipped q : ℕ) (f : Ok (clipped, q) ≡ answered p (field (2 * n) (drop p s))) (out : List ℤ) (zero : out ≡ no_vectors) (answer : Result ℕ Refusal)
        (l : Left q (map_got (sets out 0) (read_signeds (2 * n) (drop q s))) answer vs) where
      with-clipped : (answer : Result (Head × ℕ) Refusal) → Parsing q (behind_clipped h precision clipped (drop q s)) answer vs ls → Parsing at (parse_motion h (drop at s)) answer vs ls
      with-clipped answer k = with-precision answer (number-on p s (field (2 * num_motion_vectors h.mode) (drop p s)) (behind_clipped h precision) clipped q answer vs ls (rw i at f) k)

      pub no-vectors : (r : Refusal) → answer ≡ Err r → Parsing at (parse_motion h (drop at s)) (Err r) vs ls
      no-vectors r a =
          with-clipped (Err r)
          (off q s (read_signeds (2 * num_motion_vectors h.mode) (drop q s)) (behind_vectors h precision clipped) r vs ls (stored_refused (sets out 0) _ r (rw i at (refused-by q _ r vs (rw a at l)))))

      pub with-vectors : (next : ℕ) (o : Head) (whole : Result (Head × ℕ) Refusal) → o ≡ with_motion h precision clipped → answer ≡ Ok next → ((us : List ℤ) → Parsing next (parse_residual o us (drop next s)) whole us ls)
          → Parsing at (parse_motion h (drop at s)) whole vs ls
      with-vectors next o whole j a k =
          let u = put q (read_signeds (2 * n) (drop q s)) out next vs (rw a at l) in
          let w : vs ≡ sets no_vectors 0 u.numbers = u.leaves ∙ ap (λ (x : List ℤ). sets x 0 u.numbers) zero in
          let b : Parsing next (behind_vectors h precision clipped u.numbers (drop next s)) whole vs ls = rw (← w) (rw j at (k vs)) in
          with-clipped whole (on q s (read_signeds (2 * num_motion_vectors h.mode) (drop q s)) (behind_vectors h precision clipped) u.numbers u.taken next whole vs ls (ap (λ (m : ℕ). read_signeds (2 * m) (drop q s)) (sym i) ∙ u.is) u.moved b)
