-- Three parts put to the front of a buffer, one after the other: each of the later two is lent the bytes after what is written.
-- Assumes nothing.
use Prim.Native.Nat.{ℕ, ◌+◌, ◌-◌, ◌≤◌}
use mathlib.Core.Path.{◌≡◌, refl, ap, ◌∙◌}
use mathlib.Core.List.{List, ◌++◌, append_assoc}
use native.Mathlib.Omega.{arith}
use borrow.Rule.Slice.PartMut.{mid_of, put_mid}
use lib.ListN.{length, drop, length-append}
use Rattle.wire.specs.Lent.{placed}
use Rattle.wire.proofs.Lent.{placed-fits, lent-next}

module _ (head salt wrapped held : List ℕ) (fits : length head + length salt + length wrapped ≤ length held) where
  pub three-parts : {first second third lent lent' : List ℕ} → first ≡ placed head held
      → lent ≡ placed salt (mid_of (length head) (length head + length salt - length head) first)
      → second ≡ put_mid (length head) (length head + length salt - length head) first lent
      → lent' ≡ placed wrapped (mid_of (length head + length salt) (length head + length salt + length wrapped - (length head + length salt)) second)
      → third ≡ put_mid (length head + length salt) (length head + length salt + length wrapped - (length head + length salt)) second lent'
      → third ≡ (head ++ (salt ++ wrapped)) ++ drop (length head + length salt + length wrapped) held
  three-parts in-front put back put' back' =
      let middle : ℕ = length head + length salt in
      let headed = in-front ∙ placed-fits head held (omega arith) in
      let salted = lent-next head salt held (length head) middle refl refl (omega arith) headed put back in
      lent-next (head ++ salt) wrapped held middle (middle + length wrapped) (length-append head salt) refl fits salted put' back'
      ∙ ap (λ (l : List ℕ). l ++ drop (middle + length wrapped) held) (append_assoc head salt wrapped)
