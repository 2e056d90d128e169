-- What holds of the definitions, and so of the functions that equal them: acceptance both ways, reading then writing, and writing then reading.
-- Each statement is proved in proofs/ under its own name in small letters. Assumes nothing.
use Rattle.std.specs.Prelude.{ℕ, ◌^◌, ◌<◌, ◌≤◌, ◌≡◌, List, ◌++◌, length, take, set, Ok, Err}
use Rattle.refusal.specs.declared.Refusal.TheVariants.{NotEnoughData}
use Rattle.wire.specs.Bytes.{Octets}
use Rattle.handshake.specs.Handshake.{handshake_size, handshake_of, handshake_read, handshake_bytes, handshake_written}
use Rattle.handshake.specs.declared.SrtHandshake.{SrtHandshake}

-- A handshake is accepted exactly where there are twelve bytes.
abbrev pub HandshakeAcceptance : Type 0
HandshakeAcceptance = (s : List ℕ) →
    (handshake_size ≤ length s → handshake_read s ≡ Ok (handshake_of s, handshake_size)) × (length s < handshake_size → handshake_read s ≡ Err NotEnoughData)

-- A handshake is written exactly where its flags have 8 bits and there is room for twelve bytes.
abbrev pub HandshakeWriteAcceptance : Type 0
HandshakeWriteAcceptance = (h : SrtHandshake) (room : ℕ) →
    (h.flags < 256 → handshake_size ≤ room → handshake_written h room ≡ Ok handshake_size)
    × ((n : ℕ) → handshake_written h room ≡ Ok n → (h.flags < 256) × (handshake_size ≤ room) × (n ≡ handshake_size))

-- the bytes used, with the dropped flag bits cleared
abbrev pub handshake_cleared : List ℕ → List ℕ
handshake_cleared s = set (set (set s 4 0) 5 0) 6 0

-- Reading then writing gives the used bytes with the dropped flag bits cleared, in any room that holds them.
abbrev pub HandshakeReadThenWrite : Type 0
HandshakeReadThenWrite = (s : List ℕ) → Octets s → handshake_size ≤ length s →
    (handshake_bytes (handshake_of s) ≡ handshake_cleared (take handshake_size s)) × ((room : ℕ) → handshake_size ≤ room → handshake_written (handshake_of s) room ≡ Ok handshake_size)

-- a record's numbers are as wide as the fields that hold them
pub record HandshakeFits (h : SrtHandshake) : Type 0 where
  pub version : h.version < 2 ^ 32
  pub send : h.send_latency < 2 ^ 16
  pub recv : h.recv_latency < 2 ^ 16

-- Writing then reading gives the record back, whatever follows its bytes.
abbrev pub HandshakeWriteThenRead : Type 0
HandshakeWriteThenRead = (h : SrtHandshake) (room n : ℕ) (more : List ℕ) → HandshakeFits h →
    handshake_written h room ≡ Ok n → handshake_read (handshake_bytes h ++ more) ≡ Ok (h, n)

-- RULES 5.2: the used bytes alone decide
abbrev pub HandshakeIgnoresRest : Type 0
HandshakeIgnoresRest = (s more : List ℕ) → handshake_size ≤ length s → handshake_read (take handshake_size s ++ more) ≡ handshake_read s
