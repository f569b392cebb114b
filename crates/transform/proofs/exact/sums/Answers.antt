-- Each step fits 32 bits, and the parts make the sums.
use Rattle.ints.proofs.Same.{reads}
use Rattle.transform.proofs.Sums.{parts-fit, four-sums}
use Rattle.transform.proofs.exact.sums.Goals as goal

-- each sum, as the machine has it, is made of two parts
pub overflow_add-result : goal.overflow_add-result
overflow_add-result c =
    let record { first = p; second = q; third = r; fourth = s } = c.requires in
    parts-fit 0 c.requires (search reads fits 20000 depth 30)

pub overflow_add-result-2 : goal.overflow_add-result-2
overflow_add-result-2 c =
    let record { first = p; second = q; third = r; fourth = s } = c.requires in
    parts-fit 1 c.requires (search reads fits 20000 depth 30)

pub overflow_sub-result : goal.overflow_sub-result
overflow_sub-result c =
    let record { first = p; second = q; third = r; fourth = s } = c.requires in
    parts-fit 2 c.requires (search reads fits 20000 depth 30)

pub overflow_sub-result-2 : goal.overflow_sub-result-2
overflow_sub-result-2 c =
    let record { first = p; second = q; third = r; fourth = s } = c.requires in
    parts-fit 3 c.requires (search reads fits 20000 depth 30)

pub returns : goal.returns
returns c =
    let record { first = p; second = q; third = r; fourth = s } = c.requires in
    four-sums c.args.a c.args.b c.args.c c.args.d (overflow_add-result c) (overflow_add-result-2 c) (overflow_sub-result c) (overflow_sub-result-2 c)
    (search reads fits 20000 depth 30)
    (search reads fits 20000 depth 30)
    (search reads fits 20000 depth 30)
    (search reads fits 20000 depth 30)
