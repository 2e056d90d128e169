-- What a writer leaves in a lent buffer: RULES 1.6, 1.7 and 1.10. Assumes nothing.
use Rattle.refusal.specs.declared.Refusal.{Refusal}
use Rattle.refusal.specs.declared.Refusal.TheVariants.{NoRoom}
use Rattle.std.specs.Prelude.{ℕ, ◌≡◌, cond, List, ◌++◌, ltb, length, drop, Result, Ok, Err}

-- bytes at the front of what a buffer held; a buffer that is too short for them stays as it was
abbrev pub placed : List ℕ → List ℕ → List ℕ
placed bs held = cond (ltb (length held) (length bs)) held (bs ++ drop (length bs) held)

-- a refusal writes nothing; an accepted write leaves the rest of the buffer as it was
abbrev pub leaves : Result ℕ Refusal → List ℕ → List ℕ → List ℕ
leaves (Ok n) bs held = bs ++ drop n held
leaves (Err r) bs held = held

-- what a writer promises: its answer, and the buffer's last contents, refusals too
pub record Wrote (wanted : Result ℕ Refusal) (bs held : List ℕ) (r : Result ℕ Refusal) (last : List ℕ) : Type 0 where
  pub answer : r ≡ wanted
  pub contents : last ≡ leaves r bs held

-- an answer within a room: 21 comes last, and carries what is needed
unfoldable pub within : ℕ → Result ℕ Refusal → Result ℕ Refusal
within room (Ok n) = cond (ltb room n) (Err (NoRoom n)) (Ok n)
within room (Err r) = Err r
