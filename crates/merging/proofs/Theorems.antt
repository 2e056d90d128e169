-- What may be relied on of two lists that are merged. The numbers of both, in order, are those of the window that a test picks, and the test only asks whether one of the lists has a number: so
-- neither the order of the lists nor their grouping changes them. They rise, so that the compressor accepts them and the expander gives them back. Assumes nothing.
use Rattle.std.specs.Prelude.{Result, Ok, Err}
use mathlib.Core.Path.{◌≡◌, refl, sym, ap, subst, ◌∙◌}
use mathlib.Core.Bool.{Bool, true, false, cond}
use mathlib.Core.List.{List, [], ◌∷◌, ◌++◌, append-nil}
use mathlib.Core.Logic.{◌↔◌, ◌⊎◌, inl, inr}
use mathlib.Core.Option.{Option, none, some}
use Prim.Native.Nat.{ℕ, zero, suc, ◌-◌, ◌*◌, ◌/◌, ◌%◌, ◌^◌, ◌<◌, ◌≤◌}
use native.Mathlib.Omega.{arith}
use borrow.Author.Tests.{ltb-true, ltb-false, leb-true, leb-false}
use lib.Dec.{ltb}
use lib.ListN.{length}
use Rattle.ring.specs.Ring.{after, half}
use Rattle.refusal.specs.declared.Refusal.{Refusal}
use Rattle.refusal.specs.declared.Refusal.TheVariants.{OutsideWindow}
use Rattle.loss_list.specs.Run.{limit, flagged, numbers_in}
use Rattle.loss_list.specs.Compress.{words, compressed, after_compressing, Compresses}
use Rattle.loss_list.specs.Expand.{Item, items, items_of, expansion, numbers_of, judgement, expanded}
use Rattle.loss_list.specs.Has.{has}
use Rattle.loss_list.specs.InBytes.{judgement_bytes}
use Rattle.loss_list.proofs.Compresses.{length-compressed}
use Rattle.loss_list.proofs.Expands.{judged-odd, judged-whole}
use Rattle.loss_list.proofs.Has.{has-append}
use Rattle.demand.proofs.Demand.{least}
use Rattle.demand.proofs.Return.{compressed-small, compressed-expanded}
use Rattle.wire.specs.Bytes.{in_words}
use Rattle.wire.proofs.Words.{Below}
use Rattle.merging.specs.Merging.{all_in_window, first_outside, in_order, union, outside, barred, merging_of, merging}
use Rattle.merging.specs.Theorems.{Words, merged, Rising, InWindow, OutsideAt, Judged, Mergeable, Accepted, AcceptedExactly, MergedHas, MergedRises, MergedIsCompressed, MergedLeast, Exchanged, BothRefused, BothOutside, ExchangedRefusal, Grouped, WithItself, WithNone, AsItWas, OutsideExactly, MergedInBytes, OddBytes}
use Rattle.merging.specs.Steps.{either}
use Rattle.merging.proofs.Listing.{listing}
use Rattle.merging.proofs.Ordered.{listed_same, in-order-listing, window-expanded, below-expanded, union-listing}
use Rattle.merging.proofs.Rises.{listing-rises, rising-increasing, rising-written, rising-in-order, has-in-order}
use Rattle.merging.proofs.Answers.{merging-refused, merging-done, Answered, barred-by, done, answered, outside_place, outside-passes, bars-oldest, bars-first, bars-second, bars-outside-first, bars-outside-second, bars-limit, bars-nothing, Passed, Ends, at_first, at_second, at-outside-first, at-outside-second, at-nothing, ends, own-not-outside}

-- the first item outside the window is found exactly where there is one
module _ (o : ℕ) where
  none-outside : (is : List Item) → first_outside o is ≡ none → InWindow o is
  unfolding first_outside
  none-outside [] e = tt
  none-outside (i ∷ is) e = go (none-outside is) (all_in_window o (numbers_in i.run)) refl e
    where
      go : (first_outside o is ≡ none → InWindow o is) → (b : Bool) → all_in_window o (numbers_in i.run) ≡ b → cond b (first_outside o is) (some i.place) ≡ none → InWindow o (i ∷ is)
      go later true w q = (w, later q)
      go later false w q = absurd (let z : ◌≡◌ {A = ℕ} 0 1 = cc in omega arith)

  all-inside : (is : List Item) → InWindow o is → first_outside o is ≡ none
  unfolding first_outside
  all-inside [] h = refl
  all-inside (i ∷ is) h = rw h.0 (all-inside is h.1)

  first_of : (is : List Item) (p : ℕ) → first_outside o is ≡ some p → OutsideAt o is p
  unfolding first_outside
  first_of [] p e = absurd (let z : ◌≡◌ {A = ℕ} 0 1 = cc in omega arith)
  first_of (i ∷ is) p e = go (first_of is p) (all_in_window o (numbers_in i.run)) refl e
    where
      go : (first_outside o is ≡ some p → OutsideAt o is p) → (b : Bool) → all_in_window o (numbers_in i.run) ≡ b → cond b (first_outside o is) (some i.place) ≡ some p → OutsideAt o (i ∷ is) p
      go later false w q = record { before = []; item = i; after = is; all = refl; place = cc; outside = w; first = tt }
      go later true w q =
          let f = later q in
          record { before = i ∷ f.before; item = f.item; after = f.after; all = ap (λ (l : List Item). i ∷ l) f.all; place = f.place; outside = f.outside; first = (w, f.first) }

  past-those : (before : List Item) (item : Item) (after : List Item) → InWindow o before → all_in_window o (numbers_in item.run) ≡ false → first_outside o (before ++ item ∷ after) ≡ some item.place
  unfolding first_outside
  past-those [] item after h w = rw w
  past-those (i ∷ before) item after h w = rw h.0 (past-those before item after h.1 w)

  first-is : (is : List Item) (p : ℕ) → OutsideAt o is p → first_outside o is ≡ some p
  first-is is p f = ap (first_outside o) f.all ∙ past-those f.before f.item f.after f.first f.outside ∙ ap some f.place

-- words below 2^32 are so at every place, and past the last
below_at : (xs : List ℕ) → Below (2 ^ 32) xs → Words xs
below_at [] b i = omega arith
below_at (x ∷ xs) b zero = b.0
below_at (x ∷ xs) b (suc i) = below_at xs b.1 i

-- what a written answer says of the checks, and what 29 does
written_of : {why : Option Refusal} {ns : List ℕ} {room n : ℕ} → Answered why ns room (Ok n) → (why ≡ none) × (words ns ≤ room) × (n ≡ words ns)
written_of (done e l) = (e, l, refl)

outside_of : {why : Option Refusal} {ns : List ℕ} {room p : ℕ} → Answered why ns room (Err (OutsideWindow p)) → why ≡ some (OutsideWindow p)
outside_of (barred-by e) = e

module _ (o : ℕ) (ws vs : List ℕ) where
  abbrev why : Option Refusal
  why = barred o (judgement limit ws) (judgement limit vs) ws vs

  abbrev Ending : Option Refusal → Type 0
  Ending w = Ends o (judgement limit ws) (judgement limit vs) ws vs w

  ending : {w : Option Refusal} → why ≡ w → Ending w
  ending e = ends o (judgement limit ws) (judgement limit vs) ws vs e

  judged : Passed o (judgement limit ws) (judgement limit vs) → Judged o ws vs
  judged d = record { oldest = d.oldest; first_count = d.first_count; first = sym d.first-is; second-count = d.second-count; second = sym d.second_is }

  mergeable : (room : ℕ) → Ending none → words (union o ws vs) ≤ room → Mergeable o ws vs room
  mergeable room (at-nothing d f g h) fits =
      record { judged = judged d; first-inside = none-outside o _ f; second-inside = none-outside o _ g; within-limit = h; fits = fits }

  abbrev InOne : ℕ → Type 0
  InOne p = OutsideAt o (items_of (items 0 ws)) p ⊎ (InWindow o (items_of (items 0 ws)) × OutsideAt o (items_of (items 0 vs)) p)

  found-outside : (p : ℕ) → Ending (some (OutsideWindow p)) → Judged o ws vs × InOne p
  found-outside p (at_first l a) = absurd (own-not-outside ws p a)
  found-outside p (at_second l a b) = absurd (own-not-outside vs p b)
  found-outside p (at-outside-first d f) = (judged d, inl (first_of o _ p f))
  found-outside p (at-outside-second d f g) = (judged d, inr (none-outside o _ f, first_of o _ p g))

  outside-bars : (p : ℕ) → Judged o ws vs → InOne p → why ≡ some (OutsideWindow p)
  outside-bars p j (inl f) = bars-outside-first o _ _ ws vs j.oldest (sym j.first) (sym j.second) (first-is o _ p f)
  outside-bars p j (inr f) = bars-outside-second o _ _ ws vs j.oldest (sym j.first) (sym j.second) (all-inside o _ f.0) (first-is o _ p f.1)

  nothing-bars : (room : ℕ) → Mergeable o ws vs room → why ≡ none
  nothing-bars room m =
      let j = m.judged in
      bars-nothing o _ _ ws vs j.oldest (sym j.first) (sym j.second) (all-inside o _ m.first-inside) (all-inside o _ m.second-inside) m.within-limit

pub accepted-exactly : AcceptedExactly
accepted-exactly o ws vs room n = (
  λ e. (let a = written_of (answered (why o ws vs) (union o ws vs) room e) in (mergeable o ws vs room (ending o ws vs a.0) a.1, a.2)),
  λ h. sym (merging-done (why o ws vs) (union o ws vs) room (nothing-bars o ws vs room h.0) h.0.fits) ∙ ap Ok (sym h.1),
)

pub outside-exactly : OutsideExactly
outside-exactly o ws vs room p = (
  λ e. found-outside o ws vs p (ending o ws vs (outside_of (answered (why o ws vs) (union o ws vs) room e))),
  λ h. sym (merging-refused (why o ws vs) (union o ws vs) room (outside-bars o ws vs p h.0 h.1)),
)

-- the union has what either list has
has-union : (o : ℕ) (ws vs : List ℕ) (m : ℕ) → has (union o ws vs) m ≡ cond (has (expanded ws) m) true (has (expanded vs) m)
unfolding union
has-union o ws vs m = has-in-order o (expanded ws ++ expanded vs) m ∙ has-append (expanded ws) (expanded vs) m

-- an accepted call: its union is what the test picks, rises, and comes back from the words
module _ (o : ℕ) (ws vs : List ℕ) (room n : ℕ) (a : Accepted o ws vs room n) where
  able : Mergeable o ws vs room
  able = ((accepted-exactly o ws vs room n).0 a.written).0

  count : n ≡ words (union o ws vs)
  count = ((accepted-exactly o ws vs room n).0 a.written).1

  first-within : outside o ws ≡ none
  first-within = outside-passes o ws (all-inside o _ able.first-inside)

  second-within : outside o vs ≡ none
  second-within = outside-passes o vs (all-inside o _ able.second-inside)

  picked : union o ws vs ≡ listing o (either o ws vs) 0
  picked = union-listing o ws vs able.judged.oldest a.first-words a.second-words first-within second-within

  rises : Rising o (union o ws vs)
  rises = subst (Rising o) (sym picked) (listing-rises o (either o ws vs) 0 (omega arith))

  returned : expanded (merged o ws vs) ≡ union o ws vs
  returned = compressed-expanded (union o ws vs) able.within-limit (rising-increasing rises)

  merged-words : Words (merged o ws vs)
  merged-words = below_at (merged o ws vs) (compressed-small (union o ws vs) (rising-increasing rises))

one_of : (b c : Bool) → (cond b true c ≡ true) ↔ ((b ≡ true) ⊎ (c ≡ true))
one_of true c = (λ e. inl refl, λ e. refl)
one_of false c = (inr, go)
  where
    go : (false ≡ true) ⊎ (c ≡ true) → c ≡ true
    go (inl e) = absurd (let z : ◌≡◌ {A = ℕ} 0 1 = cc in omega arith)
    go (inr e) = e

pub merged-has : MergedHas
merged-has o ws vs room n a m =
    subst (λ (b : Bool). (b ≡ true) ↔ ((has (expanded ws) m ≡ true) ⊎ (has (expanded vs) m ≡ true))) (sym (has-union o ws vs m) ∙ ap (λ (xs : List ℕ). has xs m) (sym (returned o ws vs room n a))) (one_of (has (expanded ws) m) (has (expanded vs) m))

pub merged-rises : MergedRises
merged-rises o ws vs room n a = subst (Rising o) (sym (returned o ws vs room n a)) (rises o ws vs room n a)

pub merged-least : MergedLeast
merged-least o ws vs room n a us room' m e q =
    let shortest = least (union o ws vs) us room' e (q ∙ returned o ws vs room n a) in
    omega (arith, count o ws vs room n a, length-compressed (union o ws vs))

pub merged-is-compressed : MergedIsCompressed
merged-is-compressed o ws vs held n left h g m =
    let a : Accepted o ws vs (length held) n = record { first-words = h; second-words = g; written = sym m.answer } in
    let fits = able o ws vs (length held) n a in
    subst (λ (xs : List ℕ). Compresses xs held (Ok n) left) (sym (returned o ws vs (length held) n a))
    (record { answer = ap Ok (count o ws vs (length held) n a) ∙ rising-written (rises o ws vs (length held) n a) (length held) fits.within-limit fits.fits; leaves = m.leaves })

-- tests that agree everywhere pick the same
picked_same : (o : ℕ) (g h : ℕ → Bool) → ((d : ℕ) → g d ≡ h d) → listing o g 0 ≡ listing o h 0
picked_same o g h e = listed_same o g h 0 (half 31 - 0) (λ d l u. e d)

in-turn : (b c : Bool) → cond b true c ≡ cond c true b
in-turn true true = refl
in-turn true false = refl
in-turn false true = refl
in-turn false false = refl

union-exchanged : (o : ℕ) (ws vs : List ℕ) → o < 2 ^ 31 → Words ws → Words vs → outside o ws ≡ none → outside o vs ≡ none → union o ws vs ≡ union o vs ws
union-exchanged o ws vs l h g e f =
    union-listing o ws vs l h g e f ∙ picked_same o (either o ws vs) (either o vs ws) (λ d. in-turn (has (expanded ws) (after 31 o d)) (has (expanded vs) (after 31 o d))) ∙ sym (union-listing o vs ws l g h f e)

pub exchanged : Exchanged
exchanged o ws vs held n left h g m =
    record { answer = sym ((accepted-exactly o vs ws room n).1 (turned, count o ws vs room n a ∙ ap words same)); leaves = m.leaves ∙ ap (λ (ns : List ℕ). after_compressing (Ok n) ns held) same }
  where
    room : ℕ
    room = length held

    a : Accepted o ws vs room n
    a = record { first-words = h; second-words = g; written = sym m.answer }

    given : Mergeable o ws vs room
    given = able o ws vs room n a

    j : Judged o ws vs
    j = given.judged

    same : union o ws vs ≡ union o vs ws
    same = union-exchanged o ws vs j.oldest h g (first-within o ws vs room n a) (second-within o ws vs room n a)

    turned : Mergeable o vs ws room
    turned =
        record {
          judged = record { oldest = j.oldest; first_count = j.second-count; first = j.second; second-count = j.first_count; second = j.first };
          first-inside = given.second-inside;
          second-inside = given.first-inside;
          within-limit = rw same at given.within-limit;
          fits = rw same at given.fits;
        }

module _ (o : ℕ) (ws vs : List ℕ) (room : ℕ) where
  abbrev Turned : Type 0
  Turned = (merging o ws vs room ≡ merging o vs ws room) ⊎ (BothRefused o ws vs room ⊎ BothOutside o ws vs room)

  refuses : {r : Refusal} → why o ws vs ≡ some r → merging o ws vs room ≡ Err r
  refuses e = sym (merging-refused (why o ws vs) (union o ws vs) room e)

-- the checks in both orders, side by side
module _ (o : ℕ) (ws vs : List ℕ) (room : ℕ) where
  alike : {r : Refusal} → why o ws vs ≡ some r → why o vs ws ≡ some r → Turned o ws vs room
  alike e f = inl (refuses o ws vs room e ∙ sym (refuses o vs ws room f))

  module _ (l : o < 2 ^ 31) {m k : ℕ} (a : Ok m ≡ judgement limit ws) (b : Ok k ≡ judgement limit vs) where
    of-windows : Words ws → Words vs → (p : Option ℕ) → outside_place o ws ≡ p → (q : Option ℕ) → outside_place o vs ≡ q → Turned o ws vs room
    of-windows h g (some p) e (some q) f = inr (inr (p, q, refuses o ws vs room (bars-outside-first o _ _ ws vs l a b e), refuses o vs ws room (bars-outside-first o _ _ vs ws l b a f)))
    of-windows h g (some p) e none f = alike (bars-outside-first o _ _ ws vs l a b e) (bars-outside-second o _ _ vs ws l b a f e)
    of-windows h g none e (some q) f = alike (bars-outside-second o _ _ ws vs l a b e f) (bars-outside-first o _ _ vs ws l b a f)
    of-windows h g none e none f = go (ltb limit (length (union o ws vs))) refl
      where
        same : union o ws vs ≡ union o vs ws
        same = union-exchanged o ws vs l h g (outside-passes o ws e) (outside-passes o vs f)

        go : (b : Bool) → ltb limit (length (union o ws vs)) ≡ b → Turned o ws vs room
        go true t =
            let past = ltb-true limit (length (union o ws vs)) t in
            alike (bars-limit o _ _ ws vs l a b e f past) (bars-limit o _ _ vs ws l b a f e (rw same at past))
        go false t =
            let short = ltb-false limit (length (union o ws vs)) t in
            inl (ap (λ (w : Option Refusal). merging_of w (union o ws vs) room) (bars-nothing o _ _ ws vs l a b e f short ∙ sym (bars-nothing o _ _ vs ws l b a f e (rw same at short))) ∙ ap (λ (ns : List ℕ). merging_of (why o vs ws) ns room) same)

  of-lists : o < 2 ^ 31 → Words ws → Words vs → (i : Result ℕ Refusal) → i ≡ judgement limit ws → (j : Result ℕ Refusal) → j ≡ judgement limit vs → Turned o ws vs room
  of-lists l h g (Err r) a (Err q) b = inr (inl (r, q, sym a, sym b, refuses o ws vs room (bars-first o _ _ ws vs l a), refuses o vs ws room (bars-first o _ _ vs ws l b)))
  of-lists l h g (Err r) a (Ok k) b = alike (bars-first o _ _ ws vs l a) (bars-second o _ _ vs ws l b a)
  of-lists l h g (Ok m) a (Err q) b = alike (bars-second o _ _ ws vs l a b) (bars-first o _ _ vs ws l b)
  of-lists l h g (Ok m) a (Ok k) b = of-windows l a b h g (outside_place o ws) refl (outside_place o vs) refl

pub exchanged-refusal : ExchangedRefusal
exchanged-refusal o ws vs room h g = go (flagged o) refl
  where
    go : (b : Bool) → flagged o ≡ b → Turned o ws vs room
    go true f = alike o ws vs room (bars-oldest o _ _ ws vs (leb-true (2 ^ 31) o f)) (bars-oldest o _ _ vs ws (leb-true (2 ^ 31) o f))
    go false f = of-lists o ws vs room (leb-false (2 ^ 31) o f) h g (judgement limit ws) refl (judgement limit vs) refl

regrouped : (a b c : Bool) → cond (cond a true b) true c ≡ cond a true (cond b true c)
regrouped true b c = refl
regrouped false b c = refl

pub grouped : Grouped
grouped o ws vs us room₁ room₂ room₃ room₄ a b c d h g k e₁ e₂ e₃ e₄ =
    ap compressed (picked o ws∪vs us room₂ b left ∙ picked_same o (either o ws∪vs us) (either o ws vs∪us) same ∙ sym (picked o ws vs∪us room₄ d right))
  where
    ws∪vs : List ℕ
    ws∪vs = merged o ws vs

    vs∪us : List ℕ
    vs∪us = merged o vs us

    front : Accepted o ws vs room₁ a
    front = record { first-words = h; second-words = g; written = e₁ }

    back : Accepted o vs us room₃ c
    back = record { first-words = g; second-words = k; written = e₃ }

    left : Accepted o ws∪vs us room₂ b
    left = record { first-words = merged-words o ws vs room₁ a front; second-words = k; written = e₂ }

    right : Accepted o ws vs∪us room₄ d
    right = record { first-words = h; second-words = merged-words o vs us room₃ c back; written = e₄ }

    same : (d : ℕ) → either o ws∪vs us d ≡ either o ws vs∪us d
    same d =
        let n = after 31 o d in
        rw (returned o ws vs room₁ a front, returned o vs us room₃ c back, has-union o ws vs n, has-union o vs us n) (regrouped (has (expanded ws) n) (has (expanded vs) n) (has (expanded us) n))

twice : (b : Bool) → cond b true b ≡ b
twice true = refl
twice false = refl

pub with_itself : WithItself
with_itself o ws room n a =
    ap compressed
    (picked o ws ws room n a ∙ picked_same o (either o ws ws) (λ (d : ℕ). has (expanded ws) (after 31 o d)) (λ d. twice (has (expanded ws) (after 31 o d))) ∙ sym (in-order-listing o (expanded ws) (below-expanded ws a.first-words) (window-expanded o ws (first-within o ws ws room n a))))

-- an empty list adds nothing
union-none : (o : ℕ) (ws : List ℕ) → union o ws [] ≡ in_order o (expanded ws)
unfolding union expanded items numbers_of expansion
union-none o ws = ap (in_order o) (append-nil (expanded ws))

none-union : (o : ℕ) (ws : List ℕ) → union o [] ws ≡ in_order o (expanded ws)
unfolding union expanded items numbers_of expansion
none-union o ws = refl

pub with_none : WithNone
with_none o ws = (ap compressed (union-none o ws), ap compressed (none-union o ws))

pub as_it_was : AsItWas
as_it_was o xs h r = ap compressed (union-none o (compressed xs) ∙ ap (in_order o) (compressed-expanded xs h (rising-increasing r)) ∙ rising-in-order r)

whole_words : (bs : List ℕ) → length bs % 4 ≡ 0 → judgement_bytes bs ≡ judgement limit (in_words bs)
whole_words bs e = sym (judged-whole bs e refl)

pub merged-in-bytes : MergedInBytes
merged-in-bytes o bs cs room e f =
    let all : 4 * room / 4 ≡ room = omega arith in
    rw (whole_words bs e, whole_words cs f, all)

pub odd-bytes : OddBytes
odd-bytes o bs cs room l = (
  λ e. sym (merging-refused _ _ _ (bars-first o _ _ (in_words bs) (in_words cs) l (judged-odd bs e))),
  λ m a e. sym (merging-refused _ _ _ (bars-second o _ _ (in_words bs) (in_words cs) l (sym a) (judged-odd cs e))),
)
