-- The walk that writes a list's numbers: what is written, with the numbers of the items that are left, is the expansion.
-- Assumes nothing.
use Rattle.std.specs.Prelude.{Result, Ok}
use Rattle.refusal.specs.declared.Refusal.{Refusal}
use mathlib.Core.Path.{◌≡◌, refl, sym, ap, subst, ◌∙◌}
use mathlib.Core.List.{List, [], ◌∷◌, ◌++◌}
use Prim.Native.Nat.{ℕ, ◌+◌, ◌-◌, ◌*◌, ◌^◌, ◌<◌, ◌≤◌}
use native.Mathlib.Nat.{mul-zero}
use native.Mathlib.Omega.{arith}
use lib.ListN.{length, take, drop, get_or, length-append}
use lib.Seq.{length-take-le}
use Rattle.ring.specs.Ring.{after}
use Rattle.loss_list.specs.Run.{stretch, numbers_in}
use Rattle.loss_list.specs.Expand.{Parsed, keep, items, expansion, numbers_of, expanded}
use Rattle.loss_list.specs.Walk.{IsSound}
use Rattle.loss_list.proofs.Places.{none_from}
use Rattle.loss_list.proofs.Items.{keep-sound, keep-numbers}
use Rattle.loss_list.proofs.Stretch.{stretch-step, stretch-last, stretch-head, stretch-first}
use Rattle.wire.specs.Storage.{Filling}
use Rattle.wire.proofs.Filling.{filling-start, filling-part, filling-length, filling-done, filling-then}
use Rattle.wire.specs.Storage.{Storage, flat}
use Rattle.wire.proofs.Storage.{flat_append, room_for}
use Rattle.loss_steps.specs.Items.{ran, HeadAt}
use Rattle.loss_steps.specs.declared.item.Head.{Head}
use Rattle.loss_steps.proofs.Heads.{sound-plain, run-within, run-item, sound-run}

pub record Expanding {A : Type 0} (S : Storage A) (ws : List ℕ) (held₀ held : List A) (i out : ℕ) : Type 0 where
  pub within : i ≤ length ws
  pub sound : IsSound (items i (drop i ws))
  pub filling : Filling held₀ held (S.size * out) (flat S (numbers_of (items i (drop i ws)))) (flat S (expanded ws))

-- inside a range: k of its steps are written after what stood already
pub record Ranging {A : Type 0} (S : Storage A) (held₀ : List A) (out₀ first steps : ℕ) (held : List A) (out k : ℕ) : Type 0 where
  pub reached : k ≤ steps
  pub room : length (take (S.size * out₀) held₀ ++ flat S (stretch first steps)) ≤ length held₀
  pub filling : Filling held₀ held (S.size * out) (flat S (stretch (after 31 first k) (steps - k))) (take (S.size * out₀) held₀ ++ flat S (stretch first steps))

module _ {A : Type 0} (S : Storage A) where
  pub expanding-start : (ws : List ℕ) (held : List A) → IsSound (items 0 ws) → Expanding S ws held held 0 0
  unfolding expanded
  expanding-start ws held s =
      record { within = omega arith; sound = s; filling = rw (mul-zero S.size) (filling-start held (flat S (expanded ws))) }

  module _ {held₀ : List A} {out₀ first steps : ℕ} {held : List A} {out k : ℕ} (r : Ranging S held₀ out₀ first steps held out k) where
    abbrev all : List A
    all = take (S.size * out₀) held₀ ++ flat S (stretch first steps)

    -- the number k steps on comes next, before the rest of the range
    number-next : (tail : List ℕ) → stretch (after 31 first k) (steps - k) ≡ after 31 first k ∷ tail → Filling held₀ held (S.size * out) (S.code (after 31 first k) ++ flat S tail) all
    unfolding flat
    number-next tail e = subst (λ (l : List ℕ). Filling held₀ held (S.size * out) (flat S l) all) e r.filling

    number_put : (tail : List ℕ) → stretch (after 31 first k) (steps - k) ≡ after 31 first k ∷ tail → Filling held₀ (S.store held out (after 31 first k)) (S.size * (out + 1)) (flat S tail) all
    number_put tail e = S.put held₀ held out _ _ all (number-next tail e) r.room

    pub ranging-turn : k < steps → Ranging S held₀ out₀ first steps (S.store held out (after 31 first k)) (out + 1) (k + 1)
    ranging-turn h = record { reached = omega arith; room = r.room; filling = number_put _ (stretch-step first steps k h) }

    pub ranging-last : k ≡ steps → Filling held₀ (S.store held out (after 31 first k)) (S.size * (out + 1)) [] all
    unfolding flat
    ranging-last h = number_put [] (stretch-last first steps k h)

    pub ranging-room : S.size * (out + 1) ≤ length held
    ranging-room =
        let here = stretch-head (after 31 first k) (steps - k) in
        room_for S held₀ held out _ _ all (number-next here.0 here.1) r.room

  module _ (ws : List ℕ) (held₀ held : List A) (i out : ℕ) (x : Expanding S ws held₀ held i out) {r : Result Head Refusal} (at : HeadAt ws i r) where
    pub expanding-fault : ((h : Head) → r ≡ Ok h → ⊥) → ⊥
    expanding-fault n = sound-run ws i at x.sound n

    module _ {first steps words : ℕ} (e : r ≡ ran first steps words) where
      abbrev rest : List ℕ
      rest = numbers_of (items (i + words) (drop (i + words) ws))

      kept-sound : IsSound (keep (record { place = i; run = record { first = first; steps = steps } }) (items (i + words) (drop (i + words) ws)))
      kept-sound = subst IsSound (run-item ws i at e) x.sound

      filling-run : Filling held₀ held (S.size * out) (flat S (stretch first steps) ++ flat S rest) (flat S (expanded ws))
      unfolding numbers_in
      filling-run =
          subst (λ (l : List A). Filling held₀ held (S.size * out) l (flat S (expanded ws)))
          (ap (λ (ps : Parsed). flat S (numbers_of ps)) (run-item ws i at e) ∙ ap (flat S) (keep-numbers _ _ kept-sound) ∙ flat_append S (stretch first steps) rest)
          x.filling

      pub ranging-start : length (flat S (expanded ws)) ≤ length held₀ → Ranging S held out first steps held out 0
      ranging-start room =
          record {
            reached = omega arith;
            room = omega (arith, length-append (take (S.size * out) held) (flat S (stretch first steps)), length-append (flat S (stretch first steps)) (flat S rest), length-take-le (S.size * out) held x.filling.fits, filling-length filling-run, x.filling.long);
            filling = subst (λ (l : List ℕ). Filling held held (S.size * out) (flat S l) (take (S.size * out) held ++ flat S (stretch first steps))) (sym (stretch-first first steps (run-within ws i at e).3)) (filling-part held (S.size * out) (flat S (stretch first steps)) x.filling.fits);
          }

      pub expanding-next : {held' : List A} {out' : ℕ} → i < length ws → Filling held held' (S.size * out') [] (take (S.size * out) held ++ flat S (stretch first steps)) → Expanding S ws held₀ held' (i + words) out'
      expanding-next l g =
          record {
            within = omega (arith, run-within ws i at e);
            sound = keep-sound _ _ kept-sound;
            filling = filling-then (flat S (stretch first steps)) filling-run g;
          }

  -- a plain word is its own number
  module _ (ws : List ℕ) (held₀ held : List A) (i out : ℕ) (x : Expanding S ws held₀ held i out) (h : i < length ws) (l : get_or ws i 0 < 2 ^ 31) (room : length (flat S (expanded ws)) ≤ length held₀) where
    plain-start : Ranging S held out (get_or ws i 0) 0 held out 0
    plain-start = ranging-start ws held₀ held i out x (sound-plain ws i h l) refl room

    pub plain-room : S.size * (out + 1) ≤ length held
    plain-room = ranging-room plain-start

    pub plain-next : Expanding S ws held₀ (S.store held out (get_or ws i 0)) (i + 1) (out + 1)
    plain-next =
        let same : after 31 (get_or ws i 0) 0 ≡ get_or ws i 0 = omega arith in
        expanding-next ws held₀ held i out x (sound-plain ws i h l) refl h (subst (λ (v : ℕ). Filling held (S.store held out v) (S.size * (out + 1)) [] (take (S.size * out) held ++ flat S (stretch (get_or ws i 0) 0))) same (ranging-last plain-start refl))

  pub expanding-end : (ws : List ℕ) (held₀ held : List A) (i out : ℕ) → Expanding S ws held₀ held i out → length ws ≤ i → held ≡ flat S (expanded ws) ++ drop (length (flat S (expanded ws))) held₀
  unfolding items numbers_of expansion flat
  expanding-end ws held₀ held i out x l =
      filling-done (subst (λ (r : List ℕ). Filling held₀ held (S.size * out) (flat S (numbers_of (items i r))) (flat S (expanded ws))) (none_from ws i l) x.filling)
