-- The kinds of key messages and their numbers: RULES 6.1. Assumes nothing.
use Rattle.std.specs.Prelude.{ℕ, cond, eqb}
use Rattle.key_kinds.specs.declared.PacketType.{PacketType}
use Rattle.key_kinds.specs.declared.PacketType.TheVariants.{MediaStream, KeyingMaterial}
use Rattle.key_kinds.specs.declared.CipherType.{CipherType}
use Rattle.key_kinds.specs.declared.CipherType.TheVariants.{None as NoCipher, Ecb, Ctr, Cbc}

-- the draft's names, section 3.2.2: 1 is a media stream message
abbrev pub packet_type : ℕ → PacketType
packet_type bits = cond (eqb bits 1) MediaStream KeyingMaterial

abbrev pub packet_type_byte : PacketType → ℕ
packet_type_byte MediaStream = 1
packet_type_byte KeyingMaterial = 2

-- the byte at 8, under the crate's names
abbrev pub cipher_type : ℕ → CipherType
cipher_type byte = cond (eqb byte 0) NoCipher (cond (eqb byte 1) Ecb (cond (eqb byte 2) Ctr Cbc))

abbrev pub cipher_byte : CipherType → ℕ
cipher_byte NoCipher = 0
cipher_byte Ecb = 1
cipher_byte Ctr = 2
cipher_byte Cbc = 3
