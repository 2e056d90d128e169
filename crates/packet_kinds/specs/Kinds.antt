-- The kinds of data packets and their numbers: RULES 4.1. Assumes nothing.
use Rattle.std.specs.Prelude.{ℕ, cond, eqb}
use Rattle.packet_kinds.specs.declared.PacketLocation.{PacketLocation}
use Rattle.packet_kinds.specs.declared.PacketLocation.TheVariants.{First, Middle, Last, Only}
use Rattle.packet_kinds.specs.declared.DataEncryption.{DataEncryption}
use Rattle.packet_kinds.specs.declared.DataEncryption.TheVariants.{None, Even, Odd}
use Rattle.packet_kinds.specs.declared.IpFamily.{IpFamily}
use Rattle.packet_kinds.specs.declared.IpFamily.TheVariants.{V4, V6}

-- 10 first, 01 last, 11 only, 00 middle
unfoldable pub location : ℕ → PacketLocation
location n = cond (eqb n 2) First (cond (eqb n 1) Last (cond (eqb n 3) Only Middle))

-- 00 none, 01 even, 10 odd; 11 is refused
unfoldable pub encryption : ℕ → DataEncryption
encryption n = cond (eqb n 1) Even (cond (eqb n 2) Odd None)

-- 6 is IPv6, and any other number IPv4
unfoldable pub family : ℕ → IpFamily
family n = cond (eqb n 6) V6 V4

-- 10 first, 01 last, 11 only, 00 middle
abbrev pub location_number : PacketLocation → ℕ
location_number Middle = 0
location_number Last = 1
location_number First = 2
location_number Only = 3

-- 00 none, 01 even, 10 odd
abbrev pub encryption_number : DataEncryption → ℕ
encryption_number None = 0
encryption_number Even = 1
encryption_number Odd = 2
