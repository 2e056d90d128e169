-- `signed_distance` meets its contract: a distance of half the ring or more is a law of `signed`. Assumes nothing.
use Rattle.std.proofs.Common.{◌≡◌, ◌<◌, ◌-◌, ◌^◌, arith}
use lib.Pow.{pow_pos}
use Rattle.ring.proofs.Laws.{two-halves, half-in, signed-turned}
use Rattle.ring.proofs.RingNumber.signed_distance.Goals as goal

pub returns : goal.returns
returns g c =
    let laws = g.met.Self.RingNumber in
    let k = g.Self.RingNumber.width in
    let d = c.distance-diff.result in
    let rest : c.MAX.result - d ≡ 2 ^ k - d = omega (arith, laws.whole) in
    let in_ring : d < 2 ^ k = omega (arith, c.distance-diff.ensures, pow_pos k) in
    rw (← c.distance-diff.ensures, rest)
    (signed-turned k d (omega (arith, laws.halved)) in_ring (omega (arith, laws.halved, two-halves k laws.some_bits, half-in k laws.in_word)))
