-- The list's own judgement decides whether it is searched, and with that the answer: a list that is accepted is searched, and the other way what an answer says of the judgement. Assumes nothing.
use Rattle.std.specs.Prelude.{Option, Result, Ok, Err}
use mathlib.Core.Path.{◌≡◌, refl, sym, ap, ◌∙◌}
use mathlib.Core.Bool.{Bool, true, false, cond}
use mathlib.Core.Logic.{◌⊎◌, inl, inr}
use Prim.Native.Nat.{ℕ, ◌^◌, ◌<◌}
use native.Mathlib.Omega.{arith}
use borrow.Author.Tests.{leb-false, lt-leb}
use Rattle.refusal.specs.declared.Refusal.{Refusal}
use Rattle.refusal.specs.declared.Refusal.TheVariants.{NotSequence}
use Rattle.loss_list.specs.Run.{flagged}
use Rattle.loss_list.specs.Expand.{Parsed}
use Rattle.why_lost.specs.WhyLost.{searched, admitted, answered, asked}

abbrev accepted : Result (Unit {0}) Refusal
accepted = Ok tt

module _ (judged : Result ℕ Refusal) (ps : Parsed) (n : ℕ) where
  pub asked-searched : {u : Unit {0}} {found : Option ℕ} → Ok u ≡ admitted judged n → found ≡ searched ps n → Ok found ≡ asked judged ps n
  unfolding answered
  asked-searched e s = ap Ok s ∙ ap (λ (a : Result (Unit {0}) Refusal). answered a (searched ps n)) e

-- a list is searched where it is accepted, and the number is one of the ring
pub admits : (judged : Result ℕ Refusal) (n : ℕ) {count : ℕ} → Ok count ≡ judged → n < 2 ^ 31 → accepted ≡ admitted judged n
unfolding admitted
admits judged n e l = sym (simp (lt-leb (2 ^ 31) n l)) ∙ ap (λ (j : Result ℕ Refusal). admitted j n) e

pub admits-only : (judged : Result ℕ Refusal) (n : ℕ) {u : Unit {0}} → Ok u ≡ admitted judged n → (count : ℕ) × (Ok count ≡ judged) × (n < 2 ^ 31)
unfolding admitted
admits-only (Err r) n {u} e = absurd (let z : ◌≡◌ {A = ℕ} 0 1 = cc in omega arith)
admits-only (Ok count) n {u} e = (count, refl, go (flagged n) refl e)
  where
    go : (b : Bool) → flagged n ≡ b → Ok u ≡ cond b (Err (NotSequence 0)) accepted → n < 2 ^ 31
    go true f q = absurd (let z : ◌≡◌ {A = ℕ} 0 1 = cc in omega arith)
    go false f q = leb-false (2 ^ 31) n f

-- it is barred by its own refusal, or by 15 carrying 0
pub barred-by : (judged : Result ℕ Refusal) (n : ℕ) (r : Refusal) → Err r ≡ admitted judged n → (judged ≡ Err r) ⊎ (r ≡ NotSequence 0)
unfolding admitted
barred-by (Err q) n r e = inl (let same : q ≡ r = cc in ap Err same)
barred-by (Ok count) n r e = go (flagged n) e
  where
    go : (b : Bool) → ◌≡◌ {A = Result (Unit {0}) Refusal} (Err r) (cond b (Err (NotSequence 0)) accepted) → (Ok count ≡ Err r) ⊎ (r ≡ NotSequence 0)
    go true q = inr cc
    go false q = absurd (let z : ◌≡◌ {A = ℕ} 0 1 = cc in omega arith)

-- an answer that is no refusal was found by searching, and a refusal was not
module _ (judged : Result ℕ Refusal) (ps : Parsed) (n : ℕ) where
  pub asked_of : (found : Option ℕ) → asked judged ps n ≡ Ok found → (u : Unit {0}) × (Ok u ≡ admitted judged n) × (searched ps n ≡ found)
  unfolding answered
  asked_of found e = go (admitted judged n) refl e
    where
      go : (a : Result (Unit {0}) Refusal) → a ≡ admitted judged n → answered a (searched ps n) ≡ Ok found → (u : Unit {0}) × (Ok u ≡ admitted judged n) × (searched ps n ≡ found)
      go (Err r) k q = absurd (let z : ◌≡◌ {A = ℕ} 0 1 = cc in omega arith)
      go (Ok u) k q = (u, k, cc)

  pub refused-of : (r : Refusal) → asked judged ps n ≡ Err r → Err r ≡ admitted judged n
  unfolding answered
  refused-of r e = go (admitted judged n) refl e
    where
      go : (a : Result (Unit {0}) Refusal) → a ≡ admitted judged n → answered a (searched ps n) ≡ Err r → Err r ≡ admitted judged n
      go (Err q) k e = (let same : r ≡ q = cc in ap Err same) ∙ k
      go (Ok u) k e = absurd (let z : ◌≡◌ {A = ℕ} 0 1 = cc in omega arith)
