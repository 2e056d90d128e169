-- `numbers_at` meets its contract: each return is a law of `Reading` at what the bytes are. Assumes nothing.
use mathlib.Core.Path.{sym, ◌∙◌, subst}
use native.Mathlib.Omega.{arith}
use Rattle.line_reading.specs.Reading.{NumbersAt}
use Rattle.line_reading.proofs.Reading.{numbers-unread, numbers-second-unread, numbers-unended, numbers-pair}
use Rattle.line_reading.proofs.numbers_at.Goals as goal

pub returns-in_err-first : goal.returns-in_err-first
returns-in_err-first c = subst (NumbersAt _ _) (sym c.from_residual.ensures) (numbers-unread _ _ c.field_at.ensures c.in_err-first.was)

pub returns-in_err-second : goal.returns-in_err-second
returns-in_err-second c =
    subst (NumbersAt _ _) (sym c.from_residual-in_err-second.ensures)
    (numbers-second-unread _ _ c.field_at.ensures c.in_ok-first.was c.field_at-2.ensures (λ q. omega arith) c.in_err-second.was)

pub returns-then-byte_at-ne-LINE_FEED : goal.returns-then-byte_at-ne-LINE_FEED
returns-then-byte_at-ne-LINE_FEED c =
    numbers-unended _ _ c.field_at.ensures c.in_ok-first.was c.field_at-2.ensures c.in_ok-second.was
    (λ q. omega arith) (λ q. c.if-byte_at-ne-LINE_FEED.true (c.byte_at-2.ensures ∙ q))

pub returns : goal.returns
returns c =
    numbers-pair _ _ c.field_at.ensures c.in_ok-first.was c.field_at-2.ensures c.in_ok-second.was (sym c.byte_at-2.ensures ∙ c.if-byte_at-ne-LINE_FEED.false)
