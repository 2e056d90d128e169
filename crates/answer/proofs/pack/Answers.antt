-- `answer::pack` meets its contract: the number stands above a carried number of 32 bits. Assumes nothing.
use native.Mathlib.Omega.{arith}
use Rattle.refusal.proofs.Laws.{number_in}
use Rattle.answer.proofs.pack.Goals as goal

pub overflow_mul-result : goal.overflow_mul-result
overflow_mul-result c = omega (arith, c.number.ensures, number_in c.args.r)

pub overflow_add-result : goal.overflow_add-result
overflow_add-result c = omega (arith, c.number.ensures, number_in c.args.r)
