-- The handshake's theorems: its twelve bytes are spelled out, and each is then a sum of quotients and remainders.
-- Assumes nothing.
use Rattle.std.specs.Prelude.{Result, Ok}
use Rattle.refusal.specs.declared.Refusal.{Refusal}
use Prim.Native.Nat.{ℕ, ◌/◌, ◌%◌, ◌^◌, ◌<◌, ◌≤◌}
use mathlib.Core.Bool.{Bool, true, false}
use mathlib.Core.Path.{◌≡◌, refl, sym, ap, ◌∙◌}
use mathlib.Core.List.{List, [], ◌∷◌, ◌++◌}
use native.Mathlib.Omega.{arith}
use lib.Dec.{ltb, leb}
use lib.ListN.{length}
use borrow.Author.Tests.{lt-ltb, le-ltb, lt-leb, ltb-false, leb-false}
use Rattle.wire.specs.Bytes.{Octets, byte_at, number16, number32, bytes16, bytes32, in_words, word_at}
use Rattle.wire.proofs.Words.{word-here, word_back, four-back, two_back}
use Rattle.handshake.specs.Handshake.{handshake_of, handshake_read, handshake_bytes, handshake_written, handshake_size}
use Rattle.handshake.specs.Theorems.{HandshakeAcceptance, HandshakeWriteAcceptance, HandshakeReadThenWrite, HandshakeWriteThenRead, HandshakeIgnoresRest, handshake_cleared}
use Rattle.handshake.specs.declared.SrtHandshake.{SrtHandshake}
use Rattle.wire.proofs.Spelled.{spelled, spelled-eq}

pub handshake-acceptance : HandshakeAcceptance
handshake-acceptance s = ((λ h. simp (le-ltb (length s) 12 h)), (λ h. simp (lt-ltb (length s) 12 h)))

-- the words of a message, by its bytes
module _ (s : List ℕ) (o : Octets s) (h : handshake_size ≤ length s) where
  version-bytes : bytes32 (word_at s 0) ≡ byte_at s 0 ∷ byte_at s 1 ∷ byte_at s 2 ∷ byte_at s 3 ∷ []
  version-bytes = ap bytes32 (word-here s 0 (omega arith)) ∙ four-back (byte_at s 0) (byte_at s 1) (byte_at s 2) (byte_at s 3) (o 0) (o 1) (o 2) (o 3)

  flags-byte : word_at s 1 % 256 ≡ byte_at s 7
  flags-byte = ap (λ (w : ℕ). w % 256) (word-here s 1 (omega arith)) ∙ omega (arith, o 7)

  send-bytes : bytes16 (word_at s 2 / 2 ^ 16) ≡ byte_at s 8 ∷ byte_at s 9 ∷ []
  send-bytes =
      let upper : number32 (byte_at s 8) (byte_at s 9) (byte_at s 10) (byte_at s 11) / 2 ^ 16 ≡ number16 (byte_at s 8) (byte_at s 9) = omega (arith, o 10, o 11) in
      ap (λ (w : ℕ). bytes16 (w / 2 ^ 16)) (word-here s 2 (omega arith)) ∙ ap bytes16 upper ∙ two_back (byte_at s 8) (byte_at s 9) (o 8) (o 9)

  recv-bytes : bytes16 (word_at s 2 % 2 ^ 16) ≡ byte_at s 10 ∷ byte_at s 11 ∷ []
  recv-bytes =
      let lower : number32 (byte_at s 8) (byte_at s 9) (byte_at s 10) (byte_at s 11) % 2 ^ 16 ≡ number16 (byte_at s 10) (byte_at s 11) = omega (arith, o 10, o 11) in
      ap (λ (w : ℕ). bytes16 (w % 2 ^ 16)) (word-here s 2 (omega arith)) ∙ ap bytes16 lower ∙ two_back (byte_at s 10) (byte_at s 11) (o 10) (o 11)

pub handshake-read-then-write : HandshakeReadThenWrite
handshake-read-then-write s o h = (
  (λ i. version-bytes s o h i ++ (0 ∷ 0 ∷ 0 ∷ flags-byte s o h i ∷ []) ++ send-bytes s o h i ++ recv-bytes s o h i) ∙ sym (ap handshake_cleared (spelled-eq 12 0 s h)),
  λ room r. simp (lt-leb 256 (handshake_of s).flags (omega arith), le-ltb room 12 r),
)

-- what is written is 12 bytes, with flags below 256
accepted : (h : SrtHandshake) (room n : ℕ) (a b : Bool) → leb 256 h.flags ≡ a → ltb room 12 ≡ b → handshake_written h room ≡ Ok n → (h.flags < 256) × (12 ≤ room) × (n ≡ 12)
accepted h room n true b ea eb e = let z : ◌≡◌ {A = ℕ} 0 1 = cc (simp ea at e) in absurd (omega arith)
accepted h room n false true ea eb e = let z : ◌≡◌ {A = ℕ} 0 1 = cc (simp (ea, eb) at e) in absurd (omega arith)
accepted h room n false false ea eb e = (leb-false 256 h.flags ea, ltb-false room 12 eb, let w = simp (ea, eb) at e in cc)

pub handshake-write-acceptance : HandshakeWriteAcceptance
handshake-write-acceptance h room =
    ((λ f r. simp (lt-leb 256 h.flags f, le-ltb room 12 r)), λ n e. accepted h room n _ _ refl refl e)

pub handshake-write-then-read : HandshakeWriteThenRead
unfolding in_words
handshake-write-then-read h room n more fits e =
    let a = accepted h room n _ _ refl refl e in
    let version : word_at (handshake_bytes h ++ more) 0 ≡ h.version = word_back h.version fits.version in
    let flags : word_at (handshake_bytes h ++ more) 1 % 2 ^ 8 ≡ h.flags = omega (arith, a.0) in
    let send : word_at (handshake_bytes h ++ more) 2 / 2 ^ 16 ≡ h.send_latency = omega (arith, fits.send, fits.recv) in
    let recv : word_at (handshake_bytes h ++ more) 2 % 2 ^ 16 ≡ h.recv_latency = omega (arith, fits.send, fits.recv) in
    (handshake-acceptance (handshake_bytes h ++ more)).0 (omega arith)
    ∙ (λ i. Ok (record { version = version i; flags = flags i; send_latency = send i; recv_latency = recv i }, sym a.2 i))

pub handshake-ignores-rest : HandshakeIgnoresRest
unfolding in_words
handshake-ignores-rest s more h =
    let t : List ℕ = spelled 0 12 s ++ more in
    let same : ◌≡◌ {A = Result (SrtHandshake × ℕ) Refusal} (Ok (handshake_of t, 12)) (Ok (handshake_of s, 12)) = rw (word-here s 0 (omega arith), word-here s 1 (omega arith), word-here s 2 (omega arith)) in
    ap (λ (l : List ℕ). handshake_read (l ++ more)) (spelled-eq 12 0 s h)
    ∙ (handshake-acceptance t).0 (omega arith)
    ∙ same
    ∙ sym ((handshake-acceptance s).0 h)
