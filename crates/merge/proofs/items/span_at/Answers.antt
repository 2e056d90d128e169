-- `span_at` meets its contract: it hands the word, and of a range the next, to `span_of`; what follows a lone number is not looked at. Assumes nothing.
use mathlib.Core.Path.{sym, ◌∙◌}
use Rattle.spans.proofs.Spans.{span-lone, span-item}
use Rattle.merge.proofs.items.span_at.Goals as goal

pub returns-then-this-lt-FLAG : goal.returns-then-this-lt-FLAG
returns-then-this-lt-FLAG g c =
    let first = c.word-this in
    let lone = c.if-this-lt-FLAG.true in
    span-item _ _ _ c.requires.in_list c.requires.sound
    (record { same = c.span_of.ensures ∙ sym (span-lone _ _ 0 lone) ∙ rw first.ensures (span-lone _ _ _ (rw first.ensures at lone)); word = rw first.ensures at first.type_inv })

pub returns : goal.returns
returns g c =
    let first = c.word-this in
    span-item _ _ _ c.requires.in_list c.requires.sound (record { same = rw (first.ensures, c.word.ensures) at c.span_of-2.ensures; word = rw first.ensures at first.type_inv })
