-- Why a key message is refused, and how far one has to look to see it: RULES 6.13 to 6.15. Each statement is proved in proofs/ under its own name in small letters.
-- Assumes nothing.
use Rattle.std.specs.Prelude.{ℕ, ◌<◌, ◌≤◌, ◌≡◌, List, ◌↔◌, length, Option, Some, None}
use Rattle.refusal.specs.declared.Refusal.{Refusal}
use Rattle.wire.specs.Bytes.{byte_at, Octets}
use Rattle.key_checks.specs.KeyChecks.{key_head, unsound, key_judged}

-- t has the bytes of s as far as a check looked
abbrev pub Agree : Option ℕ → List ℕ → List ℕ → Type 0
Agree None s t = Unit {0}
Agree (Some p) s t = (i : ℕ) → i ≤ p → byte_at t i ≡ byte_at s i

-- The reason is true: any message of the same length that agrees as far as the failed check looked gets the same refusal, with what it carries, and at the same offset.
abbrev pub ReasonTrue : Type 0
ReasonTrue = (s t : List ℕ) (why : Refusal) (looked : Option ℕ) → key_judged s ≡ unsound why looked → length t ≡ length s → Agree looked s t → key_judged t ≡ unsound why looked

-- t is as long as s and has its bytes, but for the one at p
pub record OtherAt (p : ℕ) (s t : List ℕ) : Type 0 where
  pub as_long : length t ≡ length s
  pub bytes : Octets s → Octets t
  pub elsewhere : (i : ℕ) → (i ≡ p → ⊥) → byte_at t i ≡ byte_at s i

-- It is not idle: of every refused message some other byte at that offset alone makes one that is not refused so.
abbrev pub ReasonNotIdle : Type 0
ReasonNotIdle = (s : List ℕ) (why : Refusal) (p : ℕ) → key_judged s ≡ unsound why (Some p) →
    (t : List ℕ) × OtherAt p s t × ((looked : Option ℕ) → key_judged t ≡ unsound why looked → ⊥)

-- No byte is looked at exactly under 16 bytes.
abbrev pub NowhereExactly : Type 0
NowhereExactly = (s : List ℕ) → ((why : Refusal) × (key_judged s ≡ unsound why None)) ↔ (length s < key_head)
