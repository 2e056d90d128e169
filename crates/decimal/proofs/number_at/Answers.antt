-- `number_at` meets its contract: each return is a law of `Reading` at the digits that stand at the place. Assumes nothing.
use native.Mathlib.Omega.{arith}
use mathlib.Core.Path.{refl, sym, ap, ◌∙◌, subst}
use Prim.Native.Nat.{ℕ}
use mathlib.Core.List.{List}
use Rattle.std.proofs.lemmas.List.{take_all}
use Rattle.decimal.specs.Decimal.{NumberAt, capped}
use Rattle.decimal.proofs.Decimals.{value_of}
use Rattle.decimal.proofs.Reading.{leading-at, reading-past, reading-empty, reading-zero, reading-fits, reading-next, reading-number}
use Rattle.decimal.proofs.number_at.Goals as goal

pub returns-in_err-rest : goal.returns-in_err-rest
returns-in_err-rest c = subst (NumberAt _ _) (sym c.from_residual.ensures) (reading-past _ _ (omega (arith, c.in_err-rest.ensures.lookup)))

pub returns-in_err-first : goal.returns-in_err-first
returns-in_err-first c =
    let got = c.in_ok-rest.ensures.lookup.0 in
    let digits = leading-at _ _ got.0 got.2 c.leading_digits.ensures in
    subst (NumberAt _ _) (sym c.from_residual-in_err-first.ensures) (reading-empty _ _ digits.1 c.in_err-first.ensures.value)

pub returns-then-digits-gt-ALONE : goal.returns-then-digits-gt-ALONE
returns-then-digits-gt-ALONE c =
    let got = c.in_ok-rest.ensures.lookup.0 in
    let digits = leading-at _ _ got.0 got.2 c.leading_digits.ensures in
    reading-zero _ _ digits.1 c.in_ok-first.ensures.value c.if-first-eq48.true (omega (arith, c.if-digits-gt-ALONE.true))

pub loop-digit-init : goal.loop-digit-init
unfolding value_of
loop-digit-init c = refl

pub longer-value-requires : goal.longer-value-requires
longer-value-requires c =
    let got = c.in_ok-rest.ensures.lookup.0 in
    let digits = leading-at _ _ got.0 got.2 c.leading_digits.ensures in
    reading-fits _ _ digits.1.digits c.loop-digit-test.true c.loop-digit.invariant

pub loop-digit-preserved : goal.loop-digit-preserved
loop-digit-preserved c =
    let got = c.in_ok-rest.ensures.lookup.0 in
    let digits = leading-at _ _ got.0 got.2 c.leading_digits.ensures in
    reading-next _ _ digits.1.digits c.loop-digit-test.true c.loop-digit.invariant c.longer-value.ensures

pub returns : goal.returns
returns c =
    let got = c.in_ok-rest.ensures.lookup.0 in
    let digits = leading-at _ _ got.0 got.2 c.leading_digits.ensures in
    reading-number _ _ digits.1 c.in_ok-first.ensures.value digits.0 (λ z. omega (arith, c.else-first-eq48.either))
    (c.loop-digit.invariant ∙ ap (λ (l : List ℕ). capped (value_of 0 l)) (take_all _ _ c.loop-digit-test.false))
