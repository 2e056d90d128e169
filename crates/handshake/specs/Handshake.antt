-- The handshake extension: RULES 5.6 to 5.8. Assumes nothing.
use Rattle.refusal.specs.declared.Refusal.{Refusal}
use Rattle.std.specs.Prelude.{ℕ, ◌/◌, ◌%◌, ◌^◌, cond, List, [], ◌∷◌, ◌++◌, length, ltb, leb, Result, Ok, Err}
use Rattle.refusal.specs.declared.Field.TheVariants.{HandshakeFlags}
use Rattle.refusal.specs.declared.Refusal.TheVariants.{NotEnoughData, FieldTooWide, NoRoom}
use Rattle.wire.specs.Bytes.{bytes16, bytes32, word_at}
use Rattle.handshake.specs.declared.SrtHandshake.{SrtHandshake}

abbrev pub handshake_size : ℕ
handshake_size = 12

-- RULES 5.6: of the flag word the low 8 bits, and the upper latency is the crate's send latency
abbrev pub handshake_of : List ℕ → SrtHandshake
handshake_of s = record {
  version = word_at s 0;
  flags = word_at s 1 % 2 ^ 8;
  send_latency = word_at s 2 / 2 ^ 16;
  recv_latency = word_at s 2 % 2 ^ 16;
}

-- RULES 5.7: the record, with the bytes used
abbrev pub handshake_read : List ℕ → Result (SrtHandshake × ℕ) Refusal
handshake_read s = cond (ltb (length s) handshake_size) (Err NotEnoughData) (Ok (handshake_of s, handshake_size))

abbrev pub handshake_bytes : SrtHandshake → List ℕ
handshake_bytes h = bytes32 h.version ++ (0 ∷ 0 ∷ 0 ∷ h.flags ∷ []) ++ bytes16 h.send_latency ++ bytes16 h.recv_latency

-- RULES 5.8: 22, 21
abbrev pub handshake_written : SrtHandshake → ℕ → Result ℕ Refusal
handshake_written h room =
    cond (leb 256 h.flags) (Err (FieldTooWide HandshakeFlags))
    (cond (ltb room handshake_size) (Err (NoRoom handshake_size)) (Ok handshake_size))
