-- Checked making of sequence numbers. Assumes nothing.
use Rattle.refusal.specs.declared.Refusal.{Refusal}
use Rattle.std.specs.Prelude.{ℕ, Result}
use Rattle.refusal.specs.declared.Field.TheVariants.{Sequence}
use Rattle.ring.specs.Ring as ring
use Rattle.seq_number.specs.declared.SeqNumber.{SeqNumber}

-- RULES 2.4: the number itself inside the ring, else 22
abbrev pub made : ℕ → Result SeqNumber Refusal
made a = ring.made_in 31 (λ n. record { 0 = n }) Sequence a
