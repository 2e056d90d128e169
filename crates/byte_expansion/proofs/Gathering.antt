-- Few gaps show a list to have no fault, and how many numbers it stands for. Assumes nothing.
use Rattle.std.specs.Prelude.{Ok}
use mathlib.Core.Path.{◌≡◌, refl, sym, ap, ◌∙◌}
use mathlib.Core.Bool.{Bool, true, false}
use mathlib.Core.List.{List}
use Prim.Native.Nat.{ℕ, ◌+◌, ◌-◌, ◌*◌, ◌/◌, ◌%◌, ◌^◌, ◌<◌, ◌≤◌}
use native.Mathlib.Omega.{arith}
use borrow.Author.Tests.{lt-leb, le-leb, leb-true, leb-false}
use lib.ListN.{length, drop, get_or}
use Rattle.ring.specs.Ring.{after, distance}
use Rattle.loss_list.specs.Run.{limit, flagged, precedes}
use Rattle.loss_list.specs.Expand.{Item, Parsed, Sound, Faulty, keep, items, total, counted, formed}
use Rattle.byte_expansion.specs.Quick.{gap, gaps}
use Rattle.loss_list.proofs.Places.{one_from, none_from}
use Rattle.loss_list.proofs.Shapes.{Shape, nothing, number, range, unclosed, overflagged, backward, shape}
use Rattle.loss_list.proofs.Limits.{limit_is, within-limit}
use Rattle.loss_list.proofs.Precedes.{precedes-steps}

-- nothing is open, or a range that begins with b
module _ (b w : ℕ) where
  pub gap-closed : b < 2 ^ 31 → gap b w ≡ 0
  unfolding gap
  gap-closed h = simp (lt-leb (2 ^ 31) b h)

  pub gap-open : 2 ^ 31 ≤ b → gap b w ≡ distance 31 w (after 31 b 1) + w / 2 ^ 31 * 2 ^ 31
  unfolding gap
  gap-open h = simp (le-leb (2 ^ 31) b h)

-- how it is counted with no branch
module _ (b w x : ℕ) (l : b < 2 ^ 32) (e : x ≡ distance 31 w (after 31 b 1)) where
  pub gap-product : b / 2 ^ 31 * (x + w / 2 ^ 31 * 2 ^ 31) ≡ gap b w
  gap-product = go (flagged b) refl
    where
      go : (c : Bool) → flagged b ≡ c → b / 2 ^ 31 * (x + w / 2 ^ 31 * 2 ^ 31) ≡ gap b w
      go true f =
          let h = leb-true (2 ^ 31) b f in
          let one : b / 2 ^ 31 ≡ 1 = omega arith in
          rw (one, gap-open b w h, e) (omega arith)
      go false f =
          let h = leb-false (2 ^ 31) b f in
          let none : b / 2 ^ 31 ≡ 0 = omega arith in
          rw (none, gap-closed b w h) (omega arith)

pub gap-fits : (b w : ℕ) → w < 2 ^ 32 → gap b w < 2 ^ 32
gap-fits b w h = go (flagged b) refl
  where
    go : (c : Bool) → flagged b ≡ c → gap b w < 2 ^ 32
    go true f = omega (arith, gap-open b w (leb-true (2 ^ 31) b f))
    go false f = omega (arith, gap-closed b w (leb-false (2 ^ 31) b f))

-- the same in the numbers x and w of the ring, with g numbers between them
module _ (x w g : ℕ) (lx : x < 2 ^ 31) (lw : w < 2 ^ 31) (e : g ≡ (w + (2 ^ 31 - (x + 1) % 2 ^ 31)) % 2 ^ 31) (h : g ≤ 2 ^ 30) where
  forth : (w + (2 ^ 31 - x)) % 2 ^ 31 ≡ g + 1
  forth = omega arith

-- a small gap is between two numbers of which the first is Less
module _ (b w : ℕ) (f : 2 ^ 31 ≤ b) (l : w < 2 ^ 31) (h : gap b w ≤ limit) where
  start : (b - 2 ^ 31) % 2 ^ 31 ≡ b % 2 ^ 31
  start = omega arith

  next : after 31 b 1 % 2 ^ 31 ≡ (b % 2 ^ 31 + 1) % 2 ^ 31
  next = omega arith

  between : gap b w ≡ (w + (2 ^ 31 - (b % 2 ^ 31 + 1) % 2 ^ 31)) % 2 ^ 31
  between =
      let none : w / 2 ^ 31 * 2 ^ 31 ≡ 0 = omega arith in
      gap-open b w f ∙ rw (next, none) (omega arith)

  pub small-steps : distance 31 w (b - 2 ^ 31) ≡ gap b w + 1
  small-steps = rw start (forth (b % 2 ^ 31) w (gap b w) (omega arith) l between (omega (arith, limit_is)))

  pub small-precedes : precedes (b - 2 ^ 31) w ≡ true
  small-precedes = let there = small-steps in (precedes-steps (b - 2 ^ 31) w).1 (omega (arith, limit_is))

abbrev Counts : ℕ → Parsed → Type 0
Counts n (Sound is) = total is ≡ n
Counts n (Faulty r) = ⊥

counts-keep : (n m : ℕ) (i : Item) (ps : Parsed) → Counts n ps → i.run.steps + 1 + n ≡ m → Counts m (keep i ps)
unfolding keep total
counts-keep n m i (Sound is) c e = omega arith
counts-keep n m i (Faulty r) c e = c

gathers : {p : ℕ} {ws : List ℕ} {ps : Parsed} → Shape p ws ps → (b : ℕ) → b < 2 ^ 31 → gaps b ws ≤ limit → Counts (length ws + gaps b ws) ps
unfolding gaps total
gathers nothing b l h = omega (arith, gap-closed b (2 ^ 31) l)
gathers (number {p} {w} {ws} {ps} f s) b l h =
    let none = gap-closed b w l in
    counts-keep _ _ _ ps (gathers s w f (omega arith)) (omega arith)
gathers (range {p} {w} {e} {ws} {ps} f g d s) b l h =
    let none = gap-closed b w l in
    let steps = small-steps w e f g (omega arith) in
    counts-keep _ _ _ ps (gathers s e g (omega arith)) (omega arith)
gathers (unclosed {p} {w} f) b l h = omega (arith, gap-closed b w l, gap-open w (2 ^ 31) f, limit_is)
gathers (overflagged {p} {w} {e} {ws} f g) b l h = omega (arith, gap-closed b w l, gap-open w e f, limit_is)
gathers (backward {p} {w} {e} {ws} f g d) b l h =
    let less = small-precedes w e f g (omega (arith, gap-closed b w l)) in
    absurd (let z : ◌≡◌ {A = ℕ} 0 1 = cc in omega arith)

counts-formed : (n : ℕ) (ps : Parsed) → Counts n ps → n ≤ limit → Ok n ≡ formed limit ps
unfolding formed counted
counts-formed n (Sound is) c h = rw (within-limit limit 0 is (omega arith)) (ap Ok (sym c))
counts-formed n (Faulty r) c h = absurd c

-- few gaps are no fault
pub gathered : (ws : List ℕ) → length ws + gaps 0 ws ≤ limit → Ok (length ws + gaps 0 ws) ≡ formed limit (items 0 ws)
gathered ws h = counts-formed _ (items 0 ws) (gathers (shape 0 ws) 0 (omega arith) (omega arith)) h

-- the walk that gathers: what it has summed, with the gaps that are left, is all of them
pub record Gathering (ws : List ℕ) (sum last i : ℕ) : Type 0 where
  pub within : i ≤ length ws
  pub bounded : sum ≤ 2 ^ 32 * i
  pub same : sum + gaps last (drop i ws) ≡ gaps 0 ws

pub gathering-start : (ws : List ℕ) → Gathering ws 0 0 0
gathering-start ws = record { within = omega arith; bounded = omega arith; same = omega arith }

module _ (ws : List ℕ) (sum last i : ℕ) (g : Gathering ws sum last i) where
  pub gathering-turn : i < length ws → gap last (get_or ws i 0) < 2 ^ 32 → Gathering ws (sum + gap last (get_or ws i 0)) (get_or ws i 0) (i + 1)
  unfolding gaps
  gathering-turn h l =
      let here : gaps last (drop i ws) ≡ gap last (get_or ws i 0) + gaps (get_or ws i 0) (drop (i + 1) ws) = ap (gaps last) (one_from ws i h) in
      record { within = omega arith; bounded = omega (arith, g.bounded); same = omega (arith, g.same) }

  pub gathering-end : length ws ≤ i → sum + gap last (2 ^ 31) ≡ gaps 0 ws
  unfolding gaps
  gathering-end h =
      let here : gaps last (drop i ws) ≡ gap last (2 ^ 31) = ap (gaps last) (none_from ws i h) in
      omega (arith, g.same)
