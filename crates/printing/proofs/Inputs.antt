-- What is printed of an input, by what the readers of its header and of its list answered.
-- Assumes nothing.
use mathlib.Core.Path.{◌≡◌, sym, ap, ◌∙◌}
use mathlib.Core.List.{List}
use Prim.Native.Nat.{ℕ, ◌+◌, ◌-◌, ◌≤◌}
use native.Mathlib.Omega.{arith}
use lib.ListN.{length, take, drop, length-drop}
use lib.Seq.{take_all, drop-drop}
use Rattle.refusal.specs.Got.{Got, got}
use Rattle.refusal.specs.declared.Refusal.{Refusal}
use Rattle.state.specs.declared.Call.{Call}
use Rattle.run.specs.Calls.{calls}
use Rattle.run.specs.Run.{ran_of, ran_list}
use Rattle.printing.specs.Text.{refused_line}
use Rattle.printing.specs.Header.{header_in, calls_from, HeaderRange}
use Rattle.refusal.specs.Answered.{answered, reached}
use Rattle.refusal.proofs.Answered.{answered-got, answered-refused, reached-got, reached-refused}
use Rattle.printing.specs.Print.{start, room, printed_run, printed_calls, printed_header, printed}
use Rattle.printing.specs.declared.header.Header.{Header}
use Rattle.std.specs.Prelude.{Ok, Err}
use Rattle.printing.proofs.Lists.{header-local, header-range, calls-local, calls-of}

-- what the answers say of the definitions
header-answered : (g : Got Header) {h : Header} {at : ℕ} → Ok (h, at) ≡ answered 0 g → g ≡ got h at
header-answered g {h} {at} e =
    let a = answered-got 0 g h at e in
    let z : a.taken ≡ at = omega (arith, a.moved) in
    a.is ∙ ap (got h) z

record Listed (g : Got (List Call)) (at end : ℕ) : Type 0 where
  pub cs : List Call
  pub n : ℕ
  pub is : g ≡ got cs n
  pub ends : end ≡ at + n

list-answered : (g : Got (List Call)) {at end : ℕ} → Ok end ≡ reached at g → Listed g at end
list-answered g {at} {end} e = let a = reached-got at g end e in record { cs = a.0; n = a.1.taken; is = a.1.is; ends = a.1.moved }

module _ (s : List ℕ) where
  pub header_refused : {why : Refusal} → Err why ≡ answered 0 (header_in s) → refused_line why ≡ printed s
  unfolding printed
  header_refused e = sym (ap (printed_header s) (answered-refused 0 (header_in s) _ e))

  module _ {h : Header} {at : ℕ} (e : Ok (h, at) ≡ answered 0 (header_in s)) where
    head : header_in s ≡ got h at
    head = header-answered (header_in s) e

    pub range : HeaderRange h
    range = header-range s h at head

    behind : printed s ≡ printed_calls h (drop at s) (calls_from h.count (drop at s))
    unfolding printed
    behind = ap (printed_header s) head

    pub list-refused : {why : Refusal} → Err why ≡ reached at (calls_from h.count (drop at s)) → refused_line why ≡ printed s
    list-refused f = sym (behind ∙ ap (printed_calls h (drop at s)) (reached-refused at (calls_from h.count (drop at s)) _ f))

    module _ {end : ℕ} (f : Ok end ≡ reached at (calls_from h.count (drop at s))) where
      found : Listed (calls_from h.count (drop at s)) at end
      found = list-answered (calls_from h.count (drop at s)) f

      pub forward : at ≤ end
      forward = omega (arith, found.ends)

      pub within : end ≤ length s
      within =
          omega (arith, found.ends, header-local.there s h at head, (calls-local h.count).there (drop at s) found.cs found.n found.is, length-drop at s)

      pub printed-is : printed_run (start h) (ran_list (start h) (take (end - at) (drop at s)) (take (length s - end) (drop end s)) 0 room) ≡ printed s
      unfolding ran_list
      printed-is =
          let n : end - at ≡ found.n = omega (arith, found.ends) in
          let c : calls (take (end - at) (drop at s)) ≡ got found.cs found.n = rw n (calls-of h.count (drop at s) found.cs found.n found.is) in
          let b : take (length s - end) (drop end s) ≡ drop found.n (drop at s) = take_all (length s - end) (drop end s) (omega (arith, length-drop end s)) ∙ ap (λ (i : ℕ). drop i s) found.ends ∙ sym (drop-drop found.n at s) in
          (λ i. printed_run (start h) (ran_of (start h) (c i) (b i) 0 room)) ∙ sym (behind ∙ ap (printed_calls h (drop at s)) found.is)
