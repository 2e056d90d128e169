-- One run of more than two numbers: it has no fault, and is written as two words, its first number with a flag and its last.
-- The walk that finds it counts the numbers that stand elsewhere. Assumes nothing.
use Rattle.std.specs.Prelude.{Ok}
use mathlib.Core.Path.{◌≡◌, refl, sym, ap, ◌∙◌}
use mathlib.Core.Bool.{Bool, true, false, cond, not}
use mathlib.Core.List.{List, [], ◌∷◌, ◌++◌}
use mathlib.Core.Option.{none}
use Prim.Native.Nat.{ℕ, zero, suc, ◌+◌, ◌-◌, ◌^◌, ◌<◌, ◌≤◌}
use native.Mathlib.Omega.{arith}
use borrow.Author.Count.{below_more}
use borrow.Author.Tests.{eqb-true, eq-eqb, lt-leb, not-false}
use borrow.Rule.Slice.PartMut.{mid_of, put_mid}
use lib.Dec.{eqb}
use lib.ListN.{length, drop, get_or}
use Rattle.ring.specs.Ring.{after}
use Rattle.loss_list.specs.Run.{limit, precedes, stretch}
use Rattle.loss_list.specs.Compress.{later_fault, order_fault, joined, runs, cost, coded_runs, cost_of_runs, compressed, words, ordered, judgement}
use Rattle.byte_compression.specs.Quick.{OneRun}
use Rattle.wire.specs.Bytes.{bytes32}
use Rattle.wire.specs.Lent.{placed}
use Rattle.wire.specs.Storage.{Filling, flat, stored}
use Rattle.wire.proofs.Filling.{filling-start, filling-done}
use Rattle.wire.proofs.Lent.{lent-part}
use Rattle.loss_list.proofs.Compresses.{ordered-judged}
use Rattle.loss_list.proofs.Ranges.{coded-range}
use Rattle.byte_compression.proofs.Gathering.{at_most_one, past-less}
use Rattle.wire.proofs.Storage.{as_bytes, put_four}

-- a stretch of the ring is one run, and none of its numbers is at fault
runs-stretch : (a n : ℕ) → runs (stretch a n) ≡ record { first = a; steps = n } ∷ []
unfolding stretch runs joined
runs-stretch a zero = refl
runs-stretch a (suc n) = ap (joined a) (runs-stretch (after 31 a 1) n) ∙ rw (eq-eqb (after 31 a 1) (after 31 a 1) refl)

next-less : (a : ℕ) → precedes a (after 31 a 1) ≡ true
next-less a = past-less a (after 31 a 1) 0 (omega arith) (omega arith)

later-stretch : (p a n : ℕ) → later_fault p a (stretch (after 31 a 1) n) ≡ none
unfolding stretch later_fault
later-stretch p a zero = simp (lt-leb (2 ^ 31) (after 31 a 1) (omega arith), next-less a)
later-stretch p a (suc n) = simp (lt-leb (2 ^ 31) (after 31 a 1) (omega arith), next-less a) (later-stretch (p + 1) (after 31 a 1) n)

as-stretch : (xs : List ℕ) (a n : ℕ) → length xs ≡ suc n → a < 2 ^ 31 → ((i : ℕ) → i < length xs → get_or xs i 0 ≡ after 31 a i) → xs ≡ stretch a n
unfolding stretch
as-stretch [] a n l h s = absurd (omega arith)
as-stretch (x ∷ []) a zero l h s = ap (λ (y : ℕ). y ∷ []) (omega (arith, s 0 (omega arith)))
as-stretch (x ∷ []) a (suc n) l h s = absurd (omega arith)
as-stretch (x ∷ y ∷ ys) a zero l h s = absurd (omega arith)
as-stretch (x ∷ y ∷ ys) a (suc n) l h s =
    let here : x ≡ a = omega (arith, s 0 (omega arith)) in
    let rest : y ∷ ys ≡ stretch (after 31 a 1) n = as-stretch (y ∷ ys) (after 31 a 1) n (omega arith) (omega arith) (λ i b. omega (arith, s (suc i) (omega arith))) in
    rw (here, rest)

module _ (xs : List ℕ) (r : OneRun xs) where
  abbrev first : ℕ
  first = get_or xs 0 0

  abbrev between : ℕ
  between = length xs - 3

  long : length xs ≡ suc (suc (suc between))
  long = omega (arith, r.many)

  whole : xs ≡ stretch first (suc (suc between))
  whole = as-stretch xs first (suc (suc between)) long r.first-in r.steps

  no-fault : order_fault xs ≡ none
  unfolding order_fault stretch
  no-fault = ap order_fault whole ∙ simp (lt-leb (2 ^ 31) first r.first-in) (later-stretch 1 first (suc between))

  two-words : words xs ≡ 2
  unfolding words cost_of_runs cost
  two-words = ap words whole ∙ ap cost_of_runs (runs-stretch first (suc (suc between)))

  pub run-judged : length xs ≤ limit → Ok 2 ≡ judgement xs
  unfolding ordered
  run-judged short = ordered-judged xs short (rw (no-fault, two-words))

  pub run-compressed : compressed xs ≡ (first + 2 ^ 31) ∷ get_or xs (length xs - 1) 0 ∷ []
  unfolding compressed coded_runs
  run-compressed =
      let last : get_or xs (length xs - 1) 0 ≡ after 31 first (suc (suc between)) = r.steps (length xs - 1) (omega arith) ∙ ap (after 31 first) (omega arith) in
      ap compressed whole ∙ ap coded_runs (runs-stretch first (suc (suc between))) ∙ rw (coded-range first between) (ap (λ (w : ℕ). (first + 2 ^ 31) ∷ w ∷ []) (sym last))

-- the two words, stored
module _ (held : List ℕ) (a b : ℕ) (room : 8 ≤ length held) where
  first-stored : Filling held (stored held 0 a) 4 (bytes32 b) (flat as_bytes (a ∷ b ∷ []))
  unfolding flat
  first-stored = put_four held held 0 a _ _ (filling-start held (flat as_bytes (a ∷ b ∷ []))) room

  two-stored : stored (stored held 0 a) 1 b ≡ flat as_bytes (a ∷ b ∷ []) ++ drop 8 held
  unfolding flat
  two-stored = filling-done (put_four held _ 1 b _ _ first-stored room)

  -- .. each in the four bytes that are lent for it
  two-lent : {one two : List ℕ} → one ≡ placed (bytes32 a) (mid_of 0 4 held) → two ≡ placed (bytes32 b) (mid_of 4 4 (put_mid 0 4 held one)) → put_mid 4 4 (put_mid 0 4 held one) two ≡ flat as_bytes (a ∷ b ∷ []) ++ drop 8 held
  two-lent {one} {two} e f =
      let first : put_mid 0 4 held one ≡ stored held 0 a = ap (put_mid 0 4 held) e ∙ lent-part (bytes32 a) held 0 4 refl (omega arith) in
      ap (put_mid 4 4 (put_mid 0 4 held one)) f
      ∙ ap (λ (l : List ℕ). put_mid 4 4 l (placed (bytes32 b) (mid_of 4 4 l))) first
      ∙ lent-part (bytes32 b) (stored held 0 a) 4 8 refl (omega (arith, first-stored.long))
      ∙ two-stored

pub run-lent : (xs held : List ℕ) → OneRun xs → 8 ≤ length held → {one two : List ℕ} → one ≡ placed (bytes32 (get_or xs 0 0 + 2 ^ 31)) (mid_of 0 4 held) → two ≡ placed (bytes32 (get_or xs (length xs - 1) 0)) (mid_of 4 4 (put_mid 0 4 held one))
    → put_mid 4 4 (put_mid 0 4 held one) two ≡ flat as_bytes (compressed xs) ++ drop (length (flat as_bytes (compressed xs))) held
unfolding flat
run-lent xs held r room e f = rw (run-compressed xs r) (two-lent held _ _ room e f)

-- .. and both at their places
pub run-stored : (xs held : List ℕ) → OneRun xs → 8 ≤ length held → stored (stored held 0 (get_or xs 0 0 + 2 ^ 31)) 1 (get_or xs (length xs - 1) 0) ≡ flat as_bytes (compressed xs) ++ drop (length (flat as_bytes (compressed xs))) held
unfolding flat
run-stored xs held r h = rw (run-compressed xs r) (two-stored held _ _ h)

-- the walk: where no number passed is a stray, each stands as many steps after the first as its place says
abbrev InPlace : List ℕ → ℕ → Type 0
InPlace xs k = get_or xs k 0 ≡ after 31 (get_or xs 0 0) k

pub record Walking (xs : List ℕ) (strays i : ℕ) : Type 0 where
  pub within : i ≤ length xs
  pub few : strays ≤ i
  pub good : strays ≡ 0 → (k : ℕ) → k < i → InPlace xs k

none-if : (b : Bool) (n : ℕ) → n ≡ cond b 1 0 → n ≡ 0 → b ≡ false
none-if true n e z = absurd (omega arith)
none-if false n e z = refl

module _ (xs : List ℕ) (strays i : ℕ) (w : Walking xs strays i) where
  pub walking-turn : i < length xs → (this stray : ℕ) → this ≡ get_or xs i 0 → stray ≡ cond (not (eqb this (after 31 (get_or xs 0 0) i))) 1 0 → Walking xs (strays + stray) (i + 1)
  walking-turn l this stray e s =
      let here : Bool = eqb this (after 31 (get_or xs 0 0) i) in
      record {
        within = omega arith;
        few = omega (arith, w.few, at_most_one (not here) stray s);
        good = λ z. below_more (InPlace xs) i (w.good (omega arith)) (sym e ∙ eqb-true this (after 31 (get_or xs 0 0) i) (not-false here (none-if (not here) stray s (omega arith))));
      }

  pub walking-end : length xs ≤ i → 2 < length xs → get_or xs 0 0 < 2 ^ 31 → strays ≡ 0 → OneRun xs
  walking-end l m h z = record { many = m; first-in = h; steps = λ k b. w.good z k (omega arith) }
