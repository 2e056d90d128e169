-- The theorems of key material. A message's sixteen first bytes are spelled out, so that the definitions compute on them; what is left of
-- each theorem is arithmetic on single bytes, and that the salt and the wrapped keys stand where the lengths say.
-- Assumes nothing.
use Rattle.std.specs.Prelude.{Option, Result, Ok, Err}
use Prim.Native.Nat.{ℕ, zero, suc, ◌+◌, ◌*◌, ◌/◌, ◌%◌, ◌≤◌}
use mathlib.Core.Path.{◌≡◌, refl, sym, ap, subst, ◌∙◌}
use mathlib.Core.List.{List, [], ◌∷◌, ◌++◌, append_assoc}
use mathlib.Core.Logic.{◌⊎◌, inl, inr}
use native.Mathlib.Nat.{mul-le-mul}
use native.Mathlib.Omega.{arith}
use lib.Count.{ones, ones_in, ones-le}
use lib.ListN.{length, take, drop, length-append, length-take, length-drop}
use lib.Seq.{take-add, drop-drop, take-append_seam, drop-append_seam}
use Rattle.refusal.specs.declared.Refusal.{Refusal}
use Rattle.refusal.specs.declared.Refusal.TheVariants.{NoKey}
use Rattle.wire.specs.Bytes.{Octets, byte_at, bytes32, in_words, word_at}
use Rattle.wire.proofs.Words.{word-here, word_back, four-back}
use Rattle.key_checks.specs.KeyChecks.{KeySound, key_head, packet_type_bits, key_flags, salt_length, key_length, key_count, wrap_length, wrapped_length, key_used, Judged, unsound, key_judged}
use Rattle.key_kinds.specs.Kinds.{packet_type, packet_type_byte, cipher_type, cipher_byte}
use Rattle.key_material.specs.KeyMaterial.{key_of, key_answer, key_read, part_from, salt_of, wrapped_of, key_length_from, key_bytes}
use Rattle.key_material.specs.Theorems.{KeyAcceptance, KeyWriteAcceptance, WrittenAgain, KeyReadThenWrite, KeyWriteThenRead, KeyIgnoresRest, NoKeyRefused, LongestKey, LongestReached, key_cleared, re_placed}
use Rattle.key_kinds.specs.declared.PacketType.{PacketType}
use Rattle.key_kinds.specs.declared.PacketType.TheVariants.{MediaStream, KeyingMaterial}
use Rattle.key_kinds.specs.declared.CipherType.{CipherType}
use Rattle.key_kinds.specs.declared.CipherType.TheVariants.{None as NoCipher, Ecb, Ctr, Cbc}
use Rattle.key_material.specs.declared.Auth.{Auth}
use Rattle.key_material.specs.declared.Auth.TheVariants.{None as NoAuth}
use Rattle.key_material.specs.declared.KeyingMaterialMessage.{KeyingMaterialMessage}
use Rattle.wire.proofs.Spelled.{spelled, spelled-eq}
use Rattle.key_checks.proofs.KeySound.{sound-of, sound-is, keyless-of, keyless-is}
use Rattle.key_material.proofs.KeyWritable.{auth-zero, key-pos, found-16, found-24, found-32, writable-of, writable-is}

answer-sound : (s : List ℕ) (j : Judged) (key : KeyingMaterialMessage) (n : ℕ) → key_judged s ≡ j → key_answer j s ≡ Ok (key, n) → KeySound s
answer-sound s (Ok _) key n told e = sound-of s told
answer-sound s (Err fault) key n told e = let z : ◌≡◌ {A = ℕ} 0 1 = cc in absurd (omega arith)

pub key-acceptance : KeyAcceptance
key-acceptance s = ((λ k. ap (λ (j : Judged). key_answer j s) (sound-is s k)), λ key n e. answer-sound s (key_judged s) key n refl e)

-- a sound message is read as its record with its bytes used, and as nothing else
pub what-is-read : (s : List ℕ) → KeySound s → {key : KeyingMaterialMessage} {n : ℕ} → key_read s ≡ Ok (key, n) → (key_of s ≡ key) × (key_used s ≡ n)
what-is-read s k {key} {n} e =
    let same : ◌≡◌ {A = KeyingMaterialMessage × ℕ} (key_of s, key_used s) (key, n) = cc ((key-acceptance s).0 k) in
    (ap (λ (p : KeyingMaterialMessage × ℕ). p.0) same, ap (λ (p : KeyingMaterialMessage × ℕ). p.1) same)

pub key-write-acceptance : KeyWriteAcceptance
key-write-acceptance flags salt wrapped room =
    ((λ k. writable-is flags salt wrapped room k), λ n e. (writable-of flags salt wrapped room n e).0)

-- what the reader refuses with is what the checks refuse with
pub refused-by : (s : List ℕ) (why : Refusal) (j : Judged) → key_answer j s ≡ Err why → (looked : Option ℕ) × (j ≡ unsound why looked)
refused-by s why (Ok _) e = let z : ◌≡◌ {A = ℕ} 0 1 = cc in absurd (omega arith)
refused-by s why (Err fault) e = let same : fault.refusal ≡ why = cc in (fault.looked, ap (λ (r : Refusal). unsound r fault.looked) same)

pub no-key-refused : NoKeyRefused
no-key-refused s = ((λ k none. ap (λ (j : Judged). key_answer j s) (keyless-is s k none)), λ e. (let by = refused-by s NoKey (key_judged s) e in keyless-of s by.0 by.1))

-- a key length is at most 32
short-key : (n : ℕ) → (n ≡ 16) ⊎ ((n ≡ 24) ⊎ (n ≡ 32)) → n ≤ 32
short-key n (inl h) = omega arith
short-key n (inr (inl h)) = omega arith
short-key n (inr (inr h)) = omega arith

pub longest-key : LongestKey
longest-key s o k = omega (arith, o 14, mul-le-mul (ones-le 2 (key_flags s) (omega arith)) (short-key (key_length s) k.key))

pub longest-reached : LongestReached
unfolding ones ones_in
longest-reached = refl

-- ---- bytes that are read and written again

type-byte : (n : ℕ) → (n ≡ 1) ⊎ (n ≡ 2) → packet_type_byte (packet_type n) ≡ n
type-byte n (inl h) = ap (λ (m : ℕ). packet_type_byte (packet_type m)) h ∙ sym h
type-byte n (inr h) = ap (λ (m : ℕ). packet_type_byte (packet_type m)) h ∙ sym h

cipher-byte : (n : ℕ) → n ≤ 3 → cipher_byte (cipher_type n) ≡ n
cipher-byte zero h = refl
cipher-byte (suc zero) h = refl
cipher-byte (suc (suc zero)) h = refl
cipher-byte (suc (suc (suc zero))) h = refl
cipher-byte (suc (suc (suc (suc n)))) h = absurd (omega arith)

-- the key length that was read is found again in the wrapped length
key_back : (keys n : ℕ) → 1 ≤ keys → (n ≡ 16) ⊎ ((n ≡ 24) ⊎ (n ≡ 32)) → key_length_from keys (wrap_length keys n) ≡ n
key_back keys n p (inl h) = ap (λ (m : ℕ). key_length_from keys (wrap_length keys m)) h ∙ found-16 keys ∙ sym h
key_back keys n p (inr (inl h)) = ap (λ (m : ℕ). key_length_from keys (wrap_length keys m)) h ∙ found-24 keys p ∙ sym h
key_back keys n p (inr (inr h)) = ap (λ (m : ℕ). key_length_from keys (wrap_length keys m)) h ∙ found-32 keys p ∙ sym h

wraps : (keys n w : ℕ) → w ≡ wrap_length keys n → (n ≡ 16) ⊎ ((n ≡ 24) ⊎ (n ≡ 32)) → (w ≡ wrap_length keys 16) ⊎ ((w ≡ wrap_length keys 24) ⊎ (w ≡ wrap_length keys 32))
wraps keys n w e (inl h) = inl (e ∙ ap (wrap_length keys) h)
wraps keys n w e (inr (inl h)) = inr (inl (e ∙ ap (wrap_length keys) h))
wraps keys n w e (inr (inr h)) = inr (inr (e ∙ ap (wrap_length keys) h))

-- the used bytes of a message that is long enough: the head spelled out, the salt, the wrapped keys
parts : (s : List ℕ) → KeySound s →
    take (key_used s) s ≡ (spelled 0 16 s ++ take (salt_length s) (drop 16 s)) ++ take (wrapped_length s) (drop (16 + salt_length s) s)
parts s k =
    take-add (16 + salt_length s) (wrapped_length s) s
    ∙ ap (λ (l : List ℕ). l ++ take (wrapped_length s) (drop (16 + salt_length s) s))
    (take-add 16 (salt_length s) s ∙ ap (λ (l : List ℕ). l ++ take (salt_length s) (drop 16 s)) (spelled-eq 16 0 s k.signed.head))

sound-again : (s : List ℕ) → Octets s → KeySound s → WrittenAgain s (key_of s) (key_used s)
sound-again s o k =
    let salt : List ℕ = take (salt_length s) (drop 16 s) in
    let wrapped : List ℕ = take (wrapped_length s) (drop (16 + salt_length s) s) in
    let salt-is : salt_of s ≡ salt = ap (λ (j : Judged). part_from j key_head (salt_length s) s) (sound-is s k) in
    let wrapped-is : wrapped_of s ≡ wrapped = ap (λ (j : Judged). part_from j (key_head + salt_length s) (wrapped_length s) s) (sound-is s k) in
    let ls : length (salt_of s) ≡ salt_length s = ap length salt-is ∙ simp (length-take, length-drop) (omega (arith, k.whole)) in
    let lw : length (wrapped_of s) ≡ wrapped_length s = ap length wrapped-is ∙ simp (length-take, length-drop) (omega (arith, k.whole)) in
    let keys : 1 ≤ key_count (key_flags s) = key-pos (key_flags s) (omega arith) k.keyed in
    let e0 : 16 + packet_type_byte (packet_type (packet_type_bits s)) ≡ byte_at s 0 = omega (arith, type-byte (packet_type_bits s) k.signed.kind, k.signed.version) in
    let e1 : 0x20 ≡ byte_at s 1 = omega (arith, k.signed.sign, o 1, o 2) in
    let e2 : 0x29 ≡ byte_at s 2 = omega (arith, k.signed.sign, o 1, o 2) in
    let keki : bytes32 (word_at s 1) ≡ byte_at s 4 ∷ byte_at s 5 ∷ byte_at s 6 ∷ byte_at s 7 ∷ [] =
    ap bytes32 (word-here s 1 (omega (arith, k.signed.head))) ∙ four-back (byte_at s 4) (byte_at s 5) (byte_at s 6) (byte_at s 7) (o 4) (o 5) (o 6) (o 7) in
    let e14 : length (salt_of s) / 4 ≡ byte_at s 14 = omega (arith, ls) in
    let found : key_length_from (key_count (key_flags s)) (length (wrapped_of s)) ≡ key_length s = ap (key_length_from (key_count (key_flags s))) lw ∙ key_back (key_count (key_flags s)) (key_length s) keys k.key in
    let e15 : key_length_from (key_count (key_flags s)) (length (wrapped_of s)) / 4 ≡ byte_at s 15 = ap (λ (m : ℕ). m / 4) found ∙ omega arith in (
      (λ i.
          ((e0 i ∷ e1 i ∷ e2 i ∷ key_flags s ∷ []) ++ keki i
          ++ (cipher-byte (byte_at s 8) k.cipher i ∷ sym k.auth i ∷ sym k.encapsulation i ∷ 0 ∷ 0 ∷ 0 ∷ e14 i ∷ e15 i ∷ [])) ++ (salt-is i ++ wrapped-is i)) ∙ sym (ap key_cleared (parts s k)),
      λ room r.
          writable-is (key_flags s) (length (salt_of s)) (length (wrapped_of s)) room (record {
            narrow = omega arith;
            keyed = k.keyed;
            short = omega (arith, ls, o 14);
            words = omega (arith, ls);
            key = wraps (key_count (key_flags s)) (key_length s) (length (wrapped_of s)) lw k.key;
            fits = omega (arith, ls, lw);
          })
          ∙ (λ i. Ok (16 + ls i + lw i)),
    )

pub key-read-then-write : KeyReadThenWrite
key-read-then-write s o key n e =
    let sound = (key-acceptance s).1 key n e in
    let same : key_of s ≡ key = (what-is-read s sound e).0 in
    let used : key_used s ≡ n = (what-is-read s sound e).1 in
    subst (WrittenAgain s key) used (subst (λ (k : KeyingMaterialMessage). WrittenAgain s k (key_used s)) same (sound-again s o sound))

pub key-ignores-rest : KeyIgnoresRest
unfolding in_words
key-ignores-rest s more k =
    let rest : List ℕ = take (salt_length s) (drop 16 s) ++ take (wrapped_length s) (drop (16 + salt_length s) s) in
    let t : List ℕ = spelled 0 16 s ++ (rest ++ more) in
    let long : key_used s ≤ length t = simp (length-append, length-take, length-drop) (omega (arith, k.whole)) in
    let same : ◌≡◌ {A = Result (KeyingMaterialMessage × ℕ) Refusal} (Ok (key_of t, key_used t)) (Ok (key_of s, key_used s)) = rw (word-here s 1 (omega (arith, k.signed.head))) in
    ap (λ (l : List ℕ). key_read (l ++ more)) (parts s k)
    ∙ (key-acceptance t).0 (record {
      signed = record {
        head = omega arith;
        version = k.signed.version;
        kind = k.signed.kind;
        sign = k.signed.sign;
      };
      keyed = k.keyed;
      cipher = k.cipher;
      auth = k.auth;
      encapsulation = k.encapsulation;
      key = k.key;
      whole = long;
    })
    ∙ same
    ∙ sym ((key-acceptance s).0 k)

-- ---- a record that is written and read again

type-back : (t : PacketType) → packet_type ((16 + packet_type_byte t) % 16) ≡ t
type-back MediaStream = refl
type-back KeyingMaterial = refl

type-kind : (t : PacketType) → ((16 + packet_type_byte t) % 16 ≡ 1) ⊎ ((16 + packet_type_byte t) % 16 ≡ 2)
type-kind MediaStream = inl refl
type-kind KeyingMaterial = inr refl

type-version : (t : PacketType) → (16 + packet_type_byte t) / 16 ≡ 1
type-version MediaStream = refl
type-version KeyingMaterial = refl

cipher-back : (c : CipherType) → cipher_type (cipher_byte c) ≡ c
cipher-back NoCipher = refl
cipher-back Ecb = refl
cipher-back Ctr = refl
cipher-back Cbc = refl

cipher-small : (c : CipherType) → cipher_byte c ≤ 3
cipher-small NoCipher = omega arith
cipher-small Ecb = omega arith
cipher-small Ctr = omega arith
cipher-small Cbc = omega arith

auth-only : (a : Auth) → NoAuth ≡ a
auth-only NoAuth = refl

-- what the writer finds in a wrapped length is a key length, and gives that wrapped length
found-key : (keys w : ℕ) → 1 ≤ keys → (w ≡ wrap_length keys 16) ⊎ ((w ≡ wrap_length keys 24) ⊎ (w ≡ wrap_length keys 32)) →
    ((key_length_from keys w / 4 * 4 ≡ 16) ⊎ ((key_length_from keys w / 4 * 4 ≡ 24) ⊎ (key_length_from keys w / 4 * 4 ≡ 32))) × (wrap_length keys (key_length_from keys w / 4 * 4) ≡ w)
found-key keys w p (inl h) =
    let e : key_length_from keys w / 4 * 4 ≡ 16 = ap (λ (n : ℕ). n / 4 * 4) (ap (key_length_from keys) h ∙ found-16 keys) in
    (inl e, ap (wrap_length keys) e ∙ sym h)
found-key keys w p (inr (inl h)) =
    let e : key_length_from keys w / 4 * 4 ≡ 24 = ap (λ (n : ℕ). n / 4 * 4) (ap (key_length_from keys) h ∙ found-24 keys p) in
    (inr (inl e), ap (wrap_length keys) e ∙ sym h)
found-key keys w p (inr (inr h)) =
    let e : key_length_from keys w / 4 * 4 ≡ 32 = ap (λ (n : ℕ). n / 4 * 4) (ap (key_length_from keys) h ∙ found-32 keys p) in
    (inr (inr e), ap (wrap_length keys) e ∙ sym h)

pub key-write-then-read : KeyWriteThenRead
unfolding in_words
key-write-then-read key salt wrapped more room n fits e =
    let flags : ℕ = key.key_flags in
    let w = writable-of flags (length salt) (length wrapped) room n e in
    let t : List ℕ = key_bytes key salt wrapped ++ more in
    let found = found-key (key_count flags) (length wrapped) (key-pos flags w.0.narrow w.0.keyed) w.0.key in
    let flags-is : key_flags t ≡ flags = omega (arith, w.0.narrow) in
    let ls : salt_length t ≡ length salt = omega (arith, w.0.words) in
    let lw : wrapped_length t ≡ length wrapped = ap (λ (f : ℕ). wrap_length (key_count f) (key_length t)) flags-is ∙ found.1 in
    let keki : word_at t 1 ≡ key.keki = word_back key.keki fits in
    let long : length ((salt ++ wrapped) ++ more) ≡ length salt + length wrapped + length more = simp length-append in
    let k : KeySound t = record {
      signed = record {
        head = omega arith;
        version = type-version key.pt;
        kind = type-kind key.pt;
        sign = refl;
      };
      keyed = λ z. w.0.keyed (sym flags-is ∙ z);
      cipher = cipher-small key.cipher;
      auth = auth-zero key.auth;
      encapsulation = refl;
      key = found.0;
      whole = omega (arith, ls, lw, long);
    } in
    let body : drop 16 t ≡ salt ++ (wrapped ++ more) = append_assoc salt wrapped more in (
      (key-acceptance t).0 k
          ∙ (λ i.
          Ok (
            record {
              pt = type-back key.pt i;
              key_flags = flags-is i;
              keki = keki i;
              cipher = cipher-back key.cipher i;
              auth = auth-only key.auth i;
              salt_at = 16;
              salt_len = ls i;
              wrapped_keys_at = 16 + ls i;
              wrapped_keys_len = lw i;
            },
            16 + ls i + lw i,
          ))
          ∙ (λ i. Ok (re_placed key (length salt) (length wrapped), sym w.1 i)),
      ap (λ (j : Judged). part_from j key_head (salt_length t) t) (sound-is t k) ∙ (λ i. take (ls i) (body i)) ∙ take-append_seam salt (wrapped ++ more),
      ap (λ (j : Judged). part_from j (key_head + salt_length t) (wrapped_length t) t) (sound-is t k)
          ∙ (λ i. take (lw i) (drop (16 + ls i) t))
          ∙ ap (take (length wrapped)) (sym (drop-drop (length salt) 16 t) ∙ ap (drop (length salt)) body ∙ drop-append_seam salt (wrapped ++ more))
          ∙ take-append_seam wrapped more,
    )
