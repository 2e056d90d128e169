-- A list that stands for as many numbers as it has words: they are its words without their flags. Assumes nothing.
use Rattle.std.specs.Prelude.{Ok}
use mathlib.Core.Path.{◌≡◌, refl, sym, ap, subst, ◌∙◌}
use mathlib.Core.List.{List, [], ◌∷◌, ◌++◌}
use Prim.Native.Nat.{ℕ, suc, ◌+◌, ◌-◌, ◌*◌, ◌/◌, ◌^◌, ◌<◌, ◌≤◌}
use native.Mathlib.Omega.{arith}
use borrow.Author.Tests.{lt-leb, le-leb}
use lib.ListN.{length, drop, get_or, length-append}
use Rattle.ring.specs.Ring.{after, distance}
use Rattle.loss_list.specs.Run.{limit, stretch, numbers_in}
use Rattle.loss_list.specs.Expand.{Parsed, keep, items, formed, expansion, numbers_of, expanded}
use Rattle.byte_expansion.specs.Quick.{cleared, all_cleared}
use Rattle.loss_list.specs.Walk.{IsSound}
use Rattle.wire.specs.Bytes.{bytes32, in_bytes, in_words}
use Rattle.wire.specs.Storage.{flat, stored}
use Rattle.loss_list.proofs.Places.{one_from, none_from}
use Rattle.wire.proofs.Words.{length-in_words, length-in_bytes}
use Rattle.wire.specs.Storage.{Filling}
use Rattle.wire.proofs.Filling.{filling-done}
use Rattle.wire.proofs.Storage.{as_bytes, flat-bytes, length-flat, put_four}
use Rattle.loss_list.proofs.Stretch.{length-stretch}
use Rattle.loss_list.proofs.Precedes.{precedes-steps}
use Rattle.loss_list.proofs.Items.{keep-sound, keep-numbers}
use Rattle.loss_list.proofs.Expands.{formed-numbers, count-is}
use Rattle.loss_list.proofs.Shapes.{Shape, nothing, number, range, unclosed, overflagged, backward, shape}

abbrev Clears : List ℕ → List ℕ → Type 0
Clears ws ns = (length ws ≤ length ns) × (length ns ≡ length ws → ns ≡ all_cleared ws)

-- a range of two numbers is its two ends, and one of more is longer
two-cleared : (a e n : ℕ) (ws ns : List ℕ) → e < 2 ^ 31 → n ≡ distance 31 e a → 0 < n → Clears ws ns
    → (suc (suc (length ws)) ≤ length (stretch a n ++ ns)) × (length (stretch a n ++ ns) ≡ suc (suc (length ws)) → stretch a n ++ ns ≡ a ∷ e ∷ all_cleared ws)
unfolding stretch
two-cleared a e n ws ns l d h rest =
    let long : length (stretch a n ++ ns) ≡ n + 1 + length ns = omega (arith, length-append (stretch a n) ns, length-stretch a n) in (
      omega (arith, long, rest.0),
      λ q.
          let one : n ≡ 1 = omega (arith, long, q, rest.0) in
          let last : after 31 a 1 ≡ e = omega (arith, one, d) in
          ap (λ (k : ℕ). stretch a k ++ ns) one ∙ ap (λ (x : ℕ). a ∷ x ∷ ns) last ∙ ap (λ (t : List ℕ). a ∷ e ∷ t) (rest.1 (omega (arith, long, q, one))),
    )

clears : {p : ℕ} {ws : List ℕ} {ps : Parsed} → Shape p ws ps → IsSound ps → Clears ws (numbers_of ps)
unfolding numbers_of expansion all_cleared IsSound numbers_in stretch
clears nothing k = (omega arith, λ e. refl)
clears (number {p} {w} {ws} {ps} l s) k =
    let rest = clears s (keep-sound _ ps k) in
    let numbers : numbers_of (keep _ ps) ≡ w ∷ numbers_of ps = keep-numbers _ ps k in
    rw (numbers, lt-leb (2 ^ 31) w l) (omega (arith, rest.0), λ e. ap (λ (t : List ℕ). w ∷ t) (rest.1 (omega arith)))
clears (range {p} {w} {e} {ws} {ps} f g d s) k =
    let rest = clears s (keep-sound _ ps k) in
    let numbers : numbers_of (keep _ ps) ≡ stretch (w - 2 ^ 31) (distance 31 e (w - 2 ^ 31)) ++ numbers_of ps = keep-numbers _ ps k in
    rw (numbers, le-leb (2 ^ 31) w f, lt-leb (2 ^ 31) e g) (two-cleared (w - 2 ^ 31) e _ ws (numbers_of ps) g refl ((precedes-steps (w - 2 ^ 31) e).0 d).0 rest)
clears (unclosed f) k = absurd k
clears (overflagged f g) k = absurd k
clears (backward f g b) k = absurd k

pub numbers-cleared : (ws : List ℕ) → Ok (length ws) ≡ formed limit (items 0 ws) → all_cleared ws ≡ expanded ws
unfolding expanded
numbers-cleared ws e =
    let judged = formed-numbers (items 0 ws) (length ws) e in
    sym ((clears (shape 0 ws) judged.0).1 (sym judged.1))

length-cleared : (ws : List ℕ) → length (all_cleared ws) ≡ length ws
unfolding all_cleared
length-cleared [] = refl
length-cleared (w ∷ ws) = ap suc (length-cleared ws)

-- once they are written, all is
pub cleared-whole : (bs held left : List ℕ) {n : ℕ} → Ok n ≡ formed limit (items 0 (in_words bs)) → n ≡ length bs / 4 → left ≡ in_bytes (all_cleared (in_words bs)) ++ drop (4 * length (in_words bs)) held
    → left ≡ flat as_bytes (expanded (in_words bs)) ++ drop (length (flat as_bytes (expanded (in_words bs)))) held
cleared-whole bs held left e q l =
    let all : Ok (length (in_words bs)) ≡ formed limit (items 0 (in_words bs)) = ap Ok (length-in_words bs ∙ sym q) ∙ e in
    let many : length (in_words bs) ≡ length (expanded (in_words bs)) = count-is (in_words bs) all in
    l ∙ rw (length-flat as_bytes (expanded (in_words bs)), flat-bytes, many, numbers-cleared (in_words bs) all)

-- the walk that writes them
pub record Clearing (ws held₀ held : List ℕ) (i : ℕ) : Type 0 where
  pub within : i ≤ length ws
  pub filling : Filling held₀ held (4 * i) (in_bytes (all_cleared (drop i ws))) (in_bytes (all_cleared ws))

module _ (ws held₀ held : List ℕ) (i : ℕ) (x : Clearing ws held₀ held i) where
  pub clearing-room : i < length ws → 4 * length ws ≤ length held₀ → 4 * i + 4 ≤ length held
  clearing-room h room = omega (arith, x.filling.long)

  pub clearing-turn : i < length ws → 4 * length ws ≤ length held₀ → Clearing ws held₀ (stored held i (cleared (get_or ws i 0))) (i + 1)
  unfolding in_bytes all_cleared
  clearing-turn h room =
      let here : in_bytes (all_cleared (drop i ws)) ≡ bytes32 (cleared (get_or ws i 0)) ++ in_bytes (all_cleared (drop (i + 1) ws)) = ap (λ (l : List ℕ). in_bytes (all_cleared l)) (one_from ws i h) in
      record {
        within = omega arith;
        filling = put_four held₀ held i (cleared (get_or ws i 0)) _ _ (subst (λ (l : List ℕ). Filling held₀ held (4 * i) l (in_bytes (all_cleared ws))) here x.filling) (omega (arith, length-in_bytes (all_cleared ws), length-cleared ws));
      }

  pub clearing-end : length ws ≤ i → held ≡ in_bytes (all_cleared ws) ++ drop (4 * length ws) held₀
  unfolding in_bytes all_cleared
  clearing-end h =
      let all : length (in_bytes (all_cleared ws)) ≡ 4 * length ws = omega (arith, length-in_bytes (all_cleared ws), length-cleared ws) in
      filling-done (subst (λ (l : List ℕ). Filling held₀ held (4 * i) (in_bytes (all_cleared l)) (in_bytes (all_cleared ws))) (none_from ws i h) x.filling) ∙ rw all
