-- What the eight or nine bits at a place say of the code that starts there. Contracts inside the readers cite it; no answer of an entry rests on it.
-- Assumes nothing.
use Rattle.std.specs.Prelude.{◌≡◌, Bool, List, ◌∷◌, ◌++◌, ℕ, ◌+◌, ◌-◌, ◌/◌, ◌<◌, ◌≤◌}
use Rattle.refusal.specs.Got.{got, after}
use Rattle.bits.specs.Bits.{odd, byte_bits}
use Rattle.bits.specs.Code.{code_from, code}

-- a code of at most seven bits at the head of s, by the number of bits before its marker 1 and a 1 followed by its data bits; 8 bits before say that none was found
pub record Short (s : List Bool) (before head : ℕ) : Type 0 where
  pub within : before ≤ 8
  pub some : 0 < head
  pub small : head < 32
  pub ends : before < 8 → code s ≡ got (head - 1) (before + 1)

-- what a byte says of the code that starts there: a short code, or that the code goes on behind it
pub record Starts (byte before head : ℕ) : Type 0 where
  pub short : (rest : List Bool) → Short (byte_bits byte ++ rest) before head
  pub goes_on : before ≡ 8 → (rest : List Bool) → code (byte_bits byte ++ rest) ≡ after 8 (code_from 27 head rest)

-- what nine bits, a byte and a marker behind it, say: a code of at most nine bits, or, by 10 bits before its marker 1, that it goes on behind the byte
pub record Begins (nine before head : ℕ) : Type 0 where
  pub within : before ≤ 10
  pub some : 0 < head
  pub more : before ≡ 10 → 1 < head
  pub small : head < 64
  pub ends : before < 10 → (rest : List Bool) → code (byte_bits (nine / 2) ++ odd nine ∷ rest) ≡ got (head - 1) (before + 1)
  pub goes_on : before ≡ 10 → (rest : List Bool) → code (byte_bits (nine / 2) ++ rest) ≡ after 8 (code_from 27 (head / 2) rest)
