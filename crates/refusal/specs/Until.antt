-- A list ends where its elements end: values are read one after another until none is left.
-- Assumes nothing.
use Rattle.std.specs.Prelude.{List, [], ◌∷◌, ℕ, zero, suc}
use Rattle.refusal.specs.Got.{Got, got, refused, and_then, map_got}
use Rattle.refusal.specs.declared.Refusal.TheVariants.{NumberForm}

abbrev pub unless_ended : {E X : Type 0} → List E → Got (List X) → Got (List X)
unless_ended [] more = got [] 0
unless_ended (e ∷ s) more = more

-- with that many turns at most; a value takes an element at least, so as many turns as there are elements are enough
unfoldable pub until_end : {E X : Type 0} → (List E → Got X) → ℕ → List E → Got (List X)
until_end read zero s = unless_ended s (refused NumberForm)
until_end read (suc turns) s = unless_ended s (and_then (read s) s (λ x rest. map_got (λ xs. x ∷ xs) (until_end read turns rest)))
