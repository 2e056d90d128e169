-- `Coding::with` meets its contract: each return is a case of `step_of`. Assumes nothing.
use Prim.Native.Nat.{◌^◌, ◌<◌}
use mathlib.Core.Path.{◌≡◌, refl, sym, ◌∙◌}
use mathlib.Core.Bool.{Bool, true, false, cond, not}
use mir.Val.{bool_byte}
use native.Mathlib.Omega.{arith}
use borrow.Author.Tests.{le-leb, lt-leb, eq-eqb, ne_eqb}
use Rattle.loss_list.specs.Run.{precedes}
use Rattle.loss_steps.specs.Coding.{step_of}
use Rattle.loss_steps.proofs.coding.Coding.with.Goals as goal

-- a bool turned over, as a number
byte-not : (b : Bool) → bool_byte (not b) ≡ cond b 0 1
byte-not true = refl
byte-not false = refl

pub returns-then-this-ge-FLAG : goal.returns-then-this-ge-FLAG
unfolding step_of
returns-then-this-ge-FLAG c = simp (le-leb _ _ c.if-this-ge-FLAG.true)

pub returns-then-not-lt : goal.returns-then-not-lt
unfolding step_of precedes
returns-then-not-lt c =
    let below : c.args.this < 2 ^ 31 = omega arith in
    simp (lt-leb _ _ below, sym c.lt.ensures ∙ c.if-not-lt.true)

pub returns-then-this-add : goal.returns-then-this-add
unfolding step_of precedes
returns-then-this-add c =
    let less = c in
    simp (lt-leb _ _ less.if-this-ge-FLAG.false, sym less.lt.ensures ∙ less.if-not-lt.false, ne_eqb _ _ (λ e. c.if-this-add.true (e ∙ sym c.add.ensures)))

pub returns : goal.returns
unfolding step_of precedes
returns c =
    simp (lt-leb _ _ c.if-this-ge-FLAG.false, sym c.lt.ensures ∙ c.if-not-lt.false, eq-eqb _ _ (c.if-this-add.false ∙ c.add.ensures), c.from-words.ensures, byte-not)
