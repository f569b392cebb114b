-- What a reader of a list answers: a value and how many elements it took, or a refusal.
-- Assumes nothing.
use Rattle.std.specs.Prelude.{List, ℕ, ◌+◌, drop}
use Rattle.refusal.specs.declared.Refusal.{Refusal}

pub data Got (X : Type 0) : Type 0 where
  got : X → ℕ → Got X
  refused : Refusal → Got X

-- n elements were taken before
abbrev pub after : {X : Type 0} → ℕ → Got X → Got X
after n (got x m) = got x (n + m)
after n (refused r) = refused r

-- first x is read, then what follows it is read on behind
abbrev pub and_then : {E X Y : Type 0} → Got X → List E → (X → List E → Got Y) → Got Y
and_then (got x n) s next = after n (next x (drop n s))
and_then (refused r) s next = refused r

-- the value as f has it
abbrev pub map_got : {X Y : Type 0} → (X → Y) → Got X → Got Y
map_got f (got x n) = got (f x) n
map_got f (refused r) = refused r
