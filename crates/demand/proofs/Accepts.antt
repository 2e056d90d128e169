-- Which lists are accepted: what an accepting answer says of the list, and that nothing more is asked. Assumes nothing.
use Rattle.wire.specs.Lent.{within}
use Rattle.refusal.specs.declared.Refusal.{Refusal}
use Rattle.std.specs.Prelude.{Result, Ok, Err}
use mathlib.Core.Path.{◌≡◌, refl, subst}
use mathlib.Core.Bool.{Bool, true, false, cond}
use mathlib.Core.List.{List, ◌∷◌}
use Prim.Native.Nat.{ℕ, ◌+◌, ◌-◌, ◌^◌, ◌≤◌}
use native.Mathlib.Omega.{arith}
use borrow.Author.Tests.{ltb-false}
use lib.Dec.{ltb}
use lib.ListN.{length}
use Rattle.refusal.specs.declared.Refusal.TheVariants.{NoRoom}
use Rattle.loss_list.specs.Run.{limit}
use Rattle.loss_list.specs.Compress.{order_fault, words, ordered, compressing, judgement as ordering}
use Rattle.loss_list.specs.Expand.{Item, Parsed, Sound, Faulty, keep, items, counted, formed, judgement, expanding, numbers_of, expanded}
use Rattle.loss_list.specs.Walk.{IsSound}
use Rattle.demand.specs.WellFormed.{WellFormed, empty, word, range as span, Expandable, Compressible}
use Rattle.loss_list.proofs.Bounded.{numbers-limited}
use Rattle.loss_list.proofs.Compresses.{ordered_words, judged-ordered, answer-done as answer-written}
use Rattle.loss_list.proofs.Items.{keep-sound, plain, sound-range}
use Rattle.loss_list.proofs.Precedes.{precedes-steps}
use Rattle.loss_list.proofs.Expands.{length-expansion, formed-numbers, judged-items, judged-numbers, answer-done}
use Rattle.loss_list.proofs.Limits.{within-limit}
use Rattle.loss_list.proofs.Shapes.{Shape, nothing, number, range, unclosed, overflagged, backward, shape}
use Rattle.demand.proofs.Increasing.{increasing-faultless, faultless-increasing}

pub sound-keep : (i : Item) (ps : Parsed) → IsSound ps → IsSound (keep i ps)
unfolding keep IsSound
sound-keep i (Sound is) s = tt
sound-keep i (Faulty r) s = s

-- a well-formed list has no fault, wherever it stands
pub well-formed-sound : {ws : List ℕ} → WellFormed ws → (p : ℕ) → IsSound (items p ws)
unfolding items IsSound
well-formed-sound empty p = tt
well-formed-sound (word {w} {ws} l f) p = rw (plain p w ws l) (sound-keep _ (items (p + 1) ws) (well-formed-sound f (p + 1)))
well-formed-sound (span start {end} {ws} l s f) p =
    let same : start + 2 ^ 31 - 2 ^ 31 ≡ start = omega arith in
    rw (sound-range p (start + 2 ^ 31) end ws (omega arith) l (rw same ((precedes-steps start end).1 s))) (sound-keep _ (items (p + 2) ws) (well-formed-sound f (p + 2)))

-- and a list with no fault is well formed
pub sound-well-formed : {p : ℕ} {ws : List ℕ} {ps : Parsed} → Shape p ws ps → IsSound ps → WellFormed ws
unfolding IsSound
sound-well-formed nothing s = empty
sound-well-formed (number {ps = ps} l r) s = word l (sound-well-formed r (keep-sound _ ps s))
sound-well-formed (range {w = w} {e = e} {ws = ws} {ps = ps} f l b r) s =
    let same : w - 2 ^ 31 + 2 ^ 31 ≡ w = omega arith in
    subst (λ (v : ℕ). WellFormed (v ∷ e ∷ ws)) same (span (w - 2 ^ 31) l ((precedes-steps (w - 2 ^ 31) e).0 b) (sound-well-formed r (keep-sound _ ps s)))
sound-well-formed (unclosed f) s = absurd s
sound-well-formed (overflagged f g) s = absurd s
sound-well-formed (backward f g b) s = absurd s

pub fitted : (room : ℕ) (r : Result ℕ Refusal) (n : ℕ) → Ok n ≡ within room r → (Ok n ≡ r) × (n ≤ room)
unfolding within
fitted room (Err r) n e = absurd (let z : ◌≡◌ {A = ℕ} 0 1 = cc in omega arith)
fitted room (Ok m) n e = go (ltb room m) refl e
  where
    go : (b : Bool) → ltb room m ≡ b → Ok n ≡ cond b (Err (NoRoom m)) (Ok m) → (◌≡◌ {A = Result ℕ Refusal} (Ok n) (Ok m)) × (n ≤ room)
    go true l q = absurd (let z : ◌≡◌ {A = ℕ} 0 1 = cc in omega arith)
    go false l q =
        let same : n ≡ m = cc in
        (q, omega (arith, ltb-false room m l))

-- an accepted list, taken apart
module _ (ws : List ℕ) (room : ℕ) {n : ℕ} (e : Ok n ≡ expanding ws room) where
  judged : (length ws ≤ limit) × (Ok n ≡ formed limit (items 0 ws))
  judged = judged-numbers ws (fitted room (judgement limit ws) n e).0

  pub accepted-sound : IsSound (items 0 ws)
  accepted-sound = (formed-numbers (items 0 ws) n judged.1).0

  pub accepted-count : n ≡ length (expanded ws)
  unfolding expanded
  accepted-count = (formed-numbers (items 0 ws) n judged.1).1

  pub accepted-expandable : Expandable ws room
  accepted-expandable =
      record {
        words-within = judged.0;
        well-formed = sound-well-formed (shape 0 ws) accepted-sound;
        numbers-within = omega (arith, accepted-count, numbers-limited ws room e);
        fits = omega (arith, accepted-count, (fitted room (judgement limit ws) n e).1);
      }

sound-formed : (ps : Parsed) → IsSound ps → length (numbers_of ps) ≤ limit → Ok (length (numbers_of ps)) ≡ formed limit ps
unfolding formed IsSound numbers_of counted
sound-formed (Sound is) s h = rw (length-expansion is, within-limit limit 0 is (omega (arith, length-expansion is)))
sound-formed (Faulty r) s h = absurd s

-- and put together
pub expandable-accepted : (ws : List ℕ) (room : ℕ) → Expandable ws room → Ok (length (expanded ws)) ≡ expanding ws room
unfolding expanded
expandable-accepted ws room x =
    answer-done _ room (judged-items ws x.words-within (sound-formed (items 0 ws) (well-formed-sound x.well-formed 0) x.numbers-within)) x.fits

module _ (xs : List ℕ) (room : ℕ) {n : ℕ} (e : Ok n ≡ compressing xs room) where
  weighed : (length xs ≤ limit) × (Ok n ≡ ordered (order_fault xs) (words xs))
  weighed = judged-ordered xs (fitted room (ordering xs) n e).0

  pub written_count : n ≡ words xs
  written_count = (ordered_words (order_fault xs) (words xs) n weighed.1).1

  pub written-compressible : Compressible xs room
  written-compressible =
      record {
        numbers-within = weighed.0;
        increasing = faultless-increasing xs (ordered_words (order_fault xs) (words xs) n weighed.1).0;
        fits = omega (arith, written_count, (fitted room (ordering xs) n e).1);
      }

pub compressible-written : (xs : List ℕ) (room : ℕ) → Compressible xs room → Ok (words xs) ≡ compressing xs room
unfolding ordered
compressible-written xs room c = answer-written xs room c.numbers-within (rw (increasing-faultless xs c.increasing)) c.fits
