-- The group's theorems: its four bytes are spelled out. The type of a byte is written as that byte, so only an unrecognized type that carries
-- 0 to 4 comes back under another name.
-- Assumes nothing.
use Rattle.std.specs.Prelude.{Ok}
use Prim.Native.Nat.{ℕ, zero, suc, ◌/◌, ◌%◌, ◌≤◌}
use mathlib.Core.Bool.{Bool, true, false}
use mathlib.Core.Path.{◌≡◌, refl, sym, ap, ◌∙◌}
use mathlib.Core.List.{List, [], ◌∷◌, ◌++◌}
use native.Mathlib.Omega.{arith}
use lib.Dec.{ltb, eqb}
use lib.ListN.{length}
use borrow.Author.Tests.{lt-ltb, le-ltb, eq-eqb, ne_eqb, eqb-true, ltb-false}
use Rattle.wire.specs.Bytes.{byte_at, number16}
use Rattle.group.specs.Group.{group_type, group_type_byte, msg_sync, group_of, group_read, group_bytes, group_written}
use Rattle.group.specs.Theorems.{GroupAcceptance, GroupWriteAcceptance, GroupReadThenWrite, GroupWriteThenRead, GroupComesBack, GroupIgnoresRest, group_cleared}
use Rattle.group.specs.declared.Group.{Group}
use Rattle.group.specs.declared.GroupType.{GroupType}
use Rattle.group.specs.declared.GroupType.TheVariants.{Undefined, Broadcast, MainBackup, Balancing, Multicast, Unrecognized}
use Rattle.wire.proofs.Spelled.{spelled, spelled-eq}

pub group-acceptance : GroupAcceptance
group-acceptance s = ((λ h. simp (le-ltb (length s) 4 h)), (λ h. simp (lt-ltb (length s) 4 h)))

-- the type of a byte is written as that byte
pub type-byte : (b : ℕ) → group_type_byte (group_type b) ≡ b
type-byte zero = refl
type-byte (suc zero) = refl
type-byte (suc (suc zero)) = refl
type-byte (suc (suc (suc zero))) = refl
type-byte (suc (suc (suc (suc zero)))) = refl
type-byte (suc (suc (suc (suc (suc b))))) =
    let n : ℕ = suc (suc (suc (suc (suc b)))) in
    simp (ne_eqb n 0 (λ e. omega arith), ne_eqb n 1 (λ e. omega arith), ne_eqb n 2 (λ e. omega arith), ne_eqb n 3 (λ e. omega arith), ne_eqb n 4 (λ e. omega arith))

pub group-read-then-write : GroupReadThenWrite
group-read-then-write s o h =
    let w0 : number16 (byte_at s 3) (byte_at s 2) % 256 ≡ byte_at s 2 = omega (arith, o 2, o 3) in
    let w1 : number16 (byte_at s 3) (byte_at s 2) / 256 ≡ byte_at s 3 = omega (arith, o 2, o 3) in (
      (λ i. type-byte (byte_at s 0) i ∷ msg_sync (byte_at s 1) ∷ w0 i ∷ w1 i ∷ []) ∙ sym (ap group_cleared (spelled-eq 4 0 s h)),
      λ room r. simp (eq-eqb (msg_sync (group_of s).flags) (group_of s).flags (omega (arith, o 1)), le-ltb room 4 r),
    )

-- what is written is 4 bytes, with no flag but 0x40
accepted : (g : Group) (room n : ℕ) (a b : Bool) → eqb (msg_sync g.flags) g.flags ≡ a → ltb room 4 ≡ b → group_written g room ≡ Ok n → (msg_sync g.flags ≡ g.flags) × (4 ≤ room) × (n ≡ 4)
accepted g room n false b ea eb e = let z : ◌≡◌ {A = ℕ} 0 1 = cc (simp ea at e) in absurd (omega arith)
accepted g room n true true ea eb e = let z : ◌≡◌ {A = ℕ} 0 1 = cc (simp (ea, eb) at e) in absurd (omega arith)
accepted g room n true false ea eb e = (eqb-true (msg_sync g.flags) g.flags ea, ltb-false room 4 eb, let w = simp (ea, eb) at e in cc)

pub group-write-acceptance : GroupWriteAcceptance
group-write-acceptance g room =
    ((λ f r. simp (eq-eqb (msg_sync g.flags) g.flags f, le-ltb room 4 r)), λ n e. accepted g room n _ _ refl refl e)

pub group-write-then-read : GroupWriteThenRead
group-write-then-read g room n more e =
    let a = accepted g room n _ _ refl refl e in
    let w : number16 (g.weight / 256) (g.weight % 256) ≡ g.weight = omega arith in
    (group-acceptance (group_bytes g ++ more)).0 (omega arith)
    ∙ (λ i. Ok (record { ty = group_type (group_type_byte g.ty); flags = a.0 i; weight = w i }, sym a.2 i))

-- a type that carries no number of a named one is its byte's type
type-back : (t : GroupType) → ((b : ℕ) → t ≡ Unrecognized b → 5 ≤ b) → group_type (group_type_byte t) ≡ t
type-back Undefined h = refl
type-back Broadcast h = refl
type-back MainBackup h = refl
type-back Balancing h = refl
type-back Multicast h = refl
type-back (Unrecognized b) h =
    let k : 5 ≤ b = h b refl in
    simp (ne_eqb b 0 (λ e. omega arith), ne_eqb b 1 (λ e. omega arith), ne_eqb b 2 (λ e. omega arith), ne_eqb b 3 (λ e. omega arith), ne_eqb b 4 (λ e. omega arith))

pub group-comes-back : GroupComesBack
group-comes-back g h = λ i. record { ty = type-back g.ty h i; flags = g.flags; weight = g.weight }

pub group-ignores-rest : GroupIgnoresRest
group-ignores-rest s more h =
    ap (λ (l : List ℕ). group_read (l ++ more)) (spelled-eq 4 0 s h)
    ∙ (group-acceptance (spelled 0 4 s ++ more)).0 (omega arith) ∙ sym ((group-acceptance s).0 h)
