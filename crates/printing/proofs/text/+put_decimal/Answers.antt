-- `printing::text::put_decimal`: the number without its last digit, then that digit.
use native.Mathlib.Omega.{arith}
use Rattle.printing.proofs.Texts.{one-digit, one-fits, high_fits, low_fits, low_digit}
use Rattle.printing.proofs.text.+put_decimal.Goals as goal

pub bounds-out-at : goal.bounds-out-at
bounds-out-at t c = let a = c.args in one-fits a.out.now a.at a.n c.if-n-lt10.true c.requires

pub returns-then-n-lt10 : goal.returns-then-n-lt10
returns-then-n-lt10 t c = let a = c.args in one-digit a.out.now a.at a.n c.if-n-lt10.true

pub put_decimal-p-requires : goal.put_decimal-p-requires
put_decimal-p-requires t c = let a = c.args in (omega arith, high_fits a.out.now a.at a.n c.if-n-lt10.false c.requires)

pub bounds-out-p : goal.bounds-out-p
bounds-out-p t c = let a = c.args in low_fits a.out.now a.at a.n c.if-n-lt10.false c.put_decimal-p.ensures c.requires

pub overflow_add-result-2 : goal.overflow_add-result-2
overflow_add-result-2 t c = let a = c.args in omega (arith, low_fits a.out.now a.at a.n c.if-n-lt10.false c.put_decimal-p.ensures c.requires, c.put_decimal-p.auto.out)

pub returns : goal.returns
returns t c = let a = c.args in low_digit a.out.now a.at a.n c.if-n-lt10.false c.put_decimal-p.ensures
