-- Numbers counted one by one, in the terms of Compress. Assumes nothing.
use Rattle.refusal.specs.declared.Refusal.{Refusal}
use Rattle.std.specs.Prelude.{ℕ, ◌+◌, true, false, cond, List, eqb, Result, Ok, Err}
use Rattle.ring.specs.Ring.{after}
use Rattle.refusal.specs.declared.Refusal.TheVariants.{NotSequence, NotIncreasing}
use Rattle.loss_list.specs.Run.{flagged, precedes}
use Rattle.loss_list.specs.Compress.{later_fault, ordered}
use Rattle.loss_list.specs.Walk.{further}
use Rattle.loss_steps.specs.declared.coding.Coding.{Coding}
use Rattle.loss_steps.specs.declared.coding.Counted.{Counted}

-- t with the number x at place p counted, and the words that it adds; or its fault
unfoldable pub step_of : Coding → ℕ → ℕ → Result Counted Refusal
step_of t p x =
    cond (flagged x) (Err (NotSequence p))
    (cond (precedes t.last x)
    (cond (eqb x (after 31 t.last 1))
    (Ok (record { coding = record { last = x; running = true }; words = cond t.running 0 1 }))
    (Ok (record { coding = record { last = x; running = false }; words = 1 })))
    (Err (NotIncreasing p)))

-- the answer to a list of which n words, up to where t stands, came before xs, which begins at place p
unfoldable pub counting : Coding → ℕ → ℕ → List ℕ → Result ℕ Refusal
counting t n p xs = ordered (later_fault p t.last xs) (n + further t.last t.running xs)

unfoldable pub stepped : Result Counted Refusal → ℕ → ℕ → List ℕ → Result ℕ Refusal
stepped (Ok c) n p xs = counting c.coding (n + c.words) p xs
stepped (Err r) n p xs = Err r
