-- `line_at` meets its contract: each word by the laws of `Reading`, and none of them is no line. Assumes nothing.
use mathlib.Core.Path.{refl, sym, subst}
use native.Mathlib.Omega.{arith}
use Rattle.std.proofs.Common.{rules}
use Rattle.sheet_line.specs.declared.Line.TheVariants.{Gaps, One, Run, End}
use Rattle.line_reading.specs.Reading.{told, LineAt}
use Rattle.line_reading.proofs.Reading.{no-rest, word-none, word-of-one, word-of-two, no_line}
use Rattle.line_reading.proofs.line_at.Goals as goal

pub returns-in_err-rest : goal.returns-in_err-rest
returns-in_err-rest c = subst (LineAt _ _) (sym c.from_residual.ensures) (no-rest _ _ (omega (arith, c.in_err-rest.ensures.lookup)))

pub returns-in_err-numbers_at : goal.returns-in_err-numbers_at
returns-in_err-numbers_at c =
    subst (LineAt _ _) (sym c.from_residual-in_err-numbers_at.ensures)
    (word-none _ _ c.in_ok-rest.ensures.lookup.0.2 _ c.starts_with.ensures.value c.if-starts_with.true (One 0) refl c.numbers_at.ensures c.in_err-numbers_at.was)

pub returns-then-starts_with : goal.returns-then-starts_with
unfolding told
returns-then-starts_with c =
    word-of-one _ _ c.in_ok-rest.ensures.lookup.0.2 _ c.starts_with.ensures.value c.if-starts_with.true One (λ n. (refl, (refl, refl))) c.numbers_at.ensures c.in_ok-numbers_at.was
    c.one.ensures (λ n l made. search rules)

pub returns-in_err-numbers_at-2 : goal.returns-in_err-numbers_at-2
returns-in_err-numbers_at-2 c =
    subst (LineAt _ _) (sym c.from_residual-in_err-numbers_at-2.ensures)
    (word-none _ _ c.in_ok-rest.ensures.lookup.0.2 _ c.starts_with-2.ensures.value c.if-starts_with-2.true (Run 0 0) refl c.numbers_at-then-starts_with-2.ensures c.in_err-numbers_at-2.was)

pub returns-then-starts_with-2 : goal.returns-then-starts_with-2
unfolding told
returns-then-starts_with-2 c =
    word-of-two _ _ c.in_ok-rest.ensures.lookup.0.2 _ c.starts_with-2.ensures.value c.if-starts_with-2.true Run (λ n m. (refl, (refl, refl))) c.numbers_at-then-starts_with-2.ensures c.in_ok-numbers_at-2.was
    c.two.ensures (λ n m l made. search rules)

pub returns-in_err-numbers_at-3 : goal.returns-in_err-numbers_at-3
returns-in_err-numbers_at-3 c =
    subst (LineAt _ _) (sym c.from_residual-in_err-numbers_at-3.ensures)
    (word-none _ _ c.in_ok-rest.ensures.lookup.0.2 _ c.starts_with-3.ensures.value c.if-starts_with-3.true (End 0) refl c.numbers_at-then-starts_with-3.ensures c.in_err-numbers_at-3.was)

pub returns-then-starts_with-3 : goal.returns-then-starts_with-3
unfolding told
returns-then-starts_with-3 c =
    word-of-one _ _ c.in_ok-rest.ensures.lookup.0.2 _ c.starts_with-3.ensures.value c.if-starts_with-3.true End (λ n. (refl, (refl, refl))) c.numbers_at-then-starts_with-3.ensures c.in_ok-numbers_at-3.was
    c.one-then-starts_with-3.ensures (λ n l made. search rules)

pub returns-in_err-numbers_at-4 : goal.returns-in_err-numbers_at-4
returns-in_err-numbers_at-4 c =
    subst (LineAt _ _) (sym c.from_residual-in_err-numbers_at-4.ensures)
    (word-none _ _ c.in_ok-rest.ensures.lookup.0.2 _ c.starts_with-4.ensures.value c.if-starts_with-4.true (Gaps 0 0) refl c.numbers_at-then-starts_with-4.ensures c.in_err-numbers_at-4.was)

pub returns-then-starts_with-4 : goal.returns-then-starts_with-4
unfolding told
returns-then-starts_with-4 c =
    word-of-two _ _ c.in_ok-rest.ensures.lookup.0.2 _ c.starts_with-4.ensures.value c.if-starts_with-4.true Gaps (λ n m. (refl, (refl, refl))) c.numbers_at-then-starts_with-4.ensures c.in_ok-numbers_at-4.was
    c.two-then-starts_with-4.ensures (λ n m l made. search rules)

pub returns : goal.returns
returns c =
    no_line _ _ c.in_ok-rest.ensures.lookup.0.2 c.starts_with.ensures.value c.if-starts_with.false c.starts_with-2.ensures.value c.if-starts_with-2.false
    c.starts_with-3.ensures.value c.if-starts_with-3.false c.starts_with-4.ensures.value c.if-starts_with-4.false
