-- Checked making of message numbers. Assumes nothing.
use Rattle.refusal.specs.declared.Refusal.{Refusal}
use Rattle.std.specs.Prelude.{ℕ, Result}
use Rattle.refusal.specs.declared.Field.TheVariants.{Message}
use Rattle.ring.specs.Ring as ring
use Rattle.msg_number.specs.declared.MsgNumber.{MsgNumber}

-- RULES 2.4: the number itself inside the ring, else 22
abbrev pub made : ℕ → Result MsgNumber Refusal
made a = ring.made_in 26 (λ n. record { 0 = n }) Message a
