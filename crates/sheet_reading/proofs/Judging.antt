-- The walk that judges a sheet: the lines so far are the first and those of some items, which fit; each way in which it ends is a law of
-- `Verdicts`. Assumes nothing.
use Rattle.std.specs.Prelude.{Option, Some, None, Ok, Err}
use mathlib.Core.Path.{◌≡◌, refl, sym, ap, subst, ◌∙◌}
use mathlib.Core.Bool.{Bool, true, false}
use mathlib.Core.List.{List, [], ◌∷◌, ◌++◌, append_assoc, append-nil}
use mathlib.Core.Logic.{inl, inr}
use Prim.Native.Nat.{ℕ, suc, ◌+◌, ◌^◌, ◌<◌, ◌≤◌}
use native.Mathlib.Omega.{arith}
use borrow.Author.Tests.{ltb-true, ltb-false}
use lib.Dec.{ltb}
use lib.ListN.{length, drop, length-append, length-drop, drop_of_length-le}
use Rattle.ring.specs.Ring.{distance}
use Rattle.refusal.specs.declared.Refusal.{Refusal}
use Rattle.std.specs.Option.{ok_or}
use Rattle.refusal.specs.declared.Refusal.TheVariants.{BadSheet, SheetEdition}
use Rattle.loss_list.specs.Run.{precedes}
use Rattle.decimal.specs.Decimal.{capped}
use Rattle.decimal.proofs.Decimals.{capped-below, capped-above, capped_is}
use Rattle.sheet_line.specs.Text.{text}
use Rattle.line_reading.specs.Reading.{told, LineAt, line, nothing}
use Rattle.sheet_line.specs.declared.Line.{Line}
use Rattle.sheet_line.specs.declared.Line.TheVariants.{Gaps, One, Run, End}
use Rattle.line_reading.specs.declared.Found.{Found}
use Rattle.sheet_line.proofs.Lines.{text-once}
use Rattle.sheet_line.proofs.Bodies.{text-long}
use Rattle.sheet.specs.Sheet.{Edition, first_line, texts, editions, edition as edition-written}
use Rattle.loss_list.specs.Run.{limit}
use Rattle.sheet.specs.Reading.{Among, shown, edition}
use Rattle.sheet.specs.Lines.{IsItem, AllItems, count_of, code_of, codes, counts}
use Rattle.sheet.proofs.Listed.{all, codes-short}
use Rattle.sheet.proofs.Top.{texts-append}
use Rattle.sheet.proofs.Editions.{Small}
use Rattle.sheet.proofs.Verdicts.{Follows, item, last, bad-word, bad-limit, bad-next, bad-tail, good}
use Rattle.sheet_reading.specs.Walk.{LineSays, item as says-item, total as says-total, neither as says-neither, LimitOf, most, unknown, Judged, list, refused, Opened}
use Rattle.sheet_reading.specs.declared.Says.{Says}
use Rattle.sheet_reading.specs.declared.Says.TheVariants.{Item, End as Total}

-- a line that was found, as it stands in the sheet
pub record Standing (s : List ℕ) (at : ℕ) (l : Line) (next : ℕ) : Type 0 where
  pub whole : Line
  pub tells : l ≡ told whole
  pub reached : next ≤ length s
  pub here : drop at s ≡ text whole ++ drop next s

pub standing : (s : List ℕ) (at : ℕ) {r : Option Found} {f : Found} → LineAt s at r → r ≡ Some f → Standing s at f.line f.next
standing s at {f = f} (line w {next} h e) q =
    let same : told w ≡ f.line = cc in
    let place : next ≡ f.next = cc in
    subst (Standing s at f.line) place (record { whole = w; tells = sym same; reached = h; here = e })
standing s at (nothing h) q = absurd (let z : ◌≡◌ {A = ℕ} 0 1 = cc in omega arith)

pub none-standing : (s : List ℕ) (at : ℕ) {r : Option Found} → LineAt s at r → r ≡ None → (l : Line) (rest : List ℕ) → drop at s ≡ text l ++ rest → ⊥
none-standing s at (line w h e) q = absurd (let z : ◌≡◌ {A = ℕ} 0 1 = cc in omega arith)
none-standing s at (nothing h) q = h

-- the refusal that `?` hands on where something is missing
pub missing : {T : Type 0} {o : Option T} {r x : Refusal} → Err x ≡ ok_or o r → o ≡ None → x ≡ r
missing {T} {r = r} {x = x} e none = let same : Err x ≡ Err r = e ∙ ap (λ (p : Option T). ok_or p r) none in cc

-- a line is not empty, so that the next begins later
pub ends_later : (s : List ℕ) (at : ℕ) {r : Option Found} {f : Found} → LineAt s at r → r ≡ Some f → (at < f.next) × (at < length s)
ends_later s at {f = f} a q =
    let h = standing s at a q in
    let long = ap length h.here ∙ length-append (text h.whole) (drop f.next s) in
    (omega (arith, long, text-long h.whole, length-drop at s, length-drop f.next s, h.reached), omega (arith, long, text-long h.whole, length-drop at s))

-- an item's line is told as it stands
item-told : (l : Line) → IsItem l → told l ≡ l
unfolding told
item-told (Gaps e m) h = absurd h
item-told (One n) h = ap One (capped-below n (omega arith))
item-told (Run a b) h = λ i. Run (capped-below a (omega (arith, h.0)) i) (capped-below b (omega (arith, h.1.0)) i)
item-told (End t) h = absurd h

told-item : (l : Line) → IsItem (told l) → told l ≡ l
unfolding told
told-item (Gaps e m) h = absurd h
told-item (One n) h = ap One (sym (capped_is n (capped n) (omega arith) refl))
told-item (Run a b) h =
    λ i. Run (sym (capped_is a (capped a) (omega (arith, h.0)) refl) i) (sym (capped_is b (capped b) (omega (arith, h.1.0)) refl) i)
told-item (End t) h = absurd h

told-end : (l : Line) (t : ℕ) → told l ≡ End t → (u : ℕ) × ((l ≡ End u) × (t ≡ capped u))
unfolding told
told-end (Gaps e m) t q = absurd (let z : ◌≡◌ {A = ℕ} 0 1 = cc in omega arith)
told-end (One n) t q = absurd (let z : ◌≡◌ {A = ℕ} 0 1 = cc in omega arith)
told-end (Run a b) t q = absurd (let z : ◌≡◌ {A = ℕ} 0 1 = cc in omega arith)
told-end (End u) t q =
    let same : capped u ≡ t = cc in
    (u, (refl, sym same))

told-gaps : (l : Line) (e m : ℕ) → told l ≡ Gaps e m → (f : ℕ) × ((n : ℕ) × ((l ≡ Gaps f n) × ((e ≡ capped f) × (m ≡ capped n))))
unfolding told
told-gaps (Gaps f n) e m q =
    let edition : capped f ≡ e = cc in
    let limit : capped n ≡ m = cc in
    (f, (n, (refl, (sym edition, sym limit))))
told-gaps (One n) e m q = absurd (let z : ◌≡◌ {A = ℕ} 0 1 = cc in omega arith)
told-gaps (Run a b) e m q = absurd (let z : ◌≡◌ {A = ℕ} 0 1 = cc in omega arith)
told-gaps (End u) e m q = absurd (let z : ◌≡◌ {A = ℕ} 0 1 = cc in omega arith)

-- what each kind of line says
pub says-one : (n : ℕ) → n < 2 ^ 31 → LineSays (One n) (Some (Item 1 1))
says-one n h = says-item {l = One n} h

pub says-one-high : (n : ℕ) → 2 ^ 31 ≤ n → LineSays (One n) None
says-one-high n h = says-neither {l = One n} (λ i. omega arith) (λ t e. let z : ◌≡◌ {A = ℕ} 0 1 = cc in omega arith)

module _ (a b : ℕ) where
  pub says-run : (n : ℕ) → a < 2 ^ 31 → b < 2 ^ 31 → precedes a b ≡ true → n ≡ distance 31 b a → LineSays (Run a b) (Some (Item (n + 1) 2))
  says-run n h k p e = subst (λ (m : ℕ). LineSays (Run a b) (Some (Item (m + 1) 2))) (sym e) (says-item {l = Run a b} (h, (k, p)))

  pub says-no-run : (IsItem (Run a b) → ⊥) → LineSays (Run a b) None
  says-no-run h = says-neither {l = Run a b} h (λ t e. let z : ◌≡◌ {A = ℕ} 0 1 = cc in omega arith)

pub says-gaps : {l : Line} {e m : ℕ} → l ≡ Gaps e m → LineSays l None
says-gaps {e = e} {m = m} q = subst (λ (k : Line). LineSays k None) (sym q) (says-neither {l = Gaps e m} (λ i. i) (λ t z. let z : ◌≡◌ {A = ℕ} 0 1 = cc in omega arith))

pub says-end : {l : Line} {t : ℕ} → l ≡ End t → LineSays l (Some (Total t))
says-end {t = t} q = subst (λ (k : Line). LineSays k (Some (Total t))) (sym q) says-total

item-known : {l : Line} {r : Option Says} {n w : ℕ} → LineSays l r → r ≡ Some (Item n w) → IsItem l × ((n ≡ count_of l) × (w ≡ length (code_of l)))
item-known {n = n} {w = w} (says-item {l} h) e =
    let numbers : count_of l ≡ n = cc in
    let words : length (code_of l) ≡ w = cc in
    (h, (sym numbers, sym words))
item-known says-total e = absurd (let z : ◌≡◌ {A = ℕ} 0 1 = cc in omega arith)
item-known (says-neither h k) e = absurd (let z : ◌≡◌ {A = ℕ} 0 1 = cc in omega arith)

total-known : {l : Line} {r : Option Says} {t : ℕ} → LineSays l r → r ≡ Some (Total t) → l ≡ End t
total-known (says-item h) e = absurd (let z : ◌≡◌ {A = ℕ} 0 1 = cc in omega arith)
total-known says-total e = cc
total-known (says-neither h k) e = absurd (let z : ◌≡◌ {A = ℕ} 0 1 = cc in omega arith)

neither-known : {l : Line} {r : Option Says} → LineSays l r → r ≡ None → (IsItem l → ⊥) × ((t : ℕ) → l ≡ End t → ⊥)
neither-known (says-item h) e = absurd (let z : ◌≡◌ {A = ℕ} 0 1 = cc in omega arith)
neither-known says-total e = absurd (let z : ◌≡◌ {A = ℕ} 0 1 = cc in omega arith)
neither-known (says-neither h k) e = (h, k)

-- one item more
items_more : (ls : List Line) (l : Line) → AllItems ls → IsItem l → AllItems (ls ++ l ∷ [])
items_more [] l a h = (h, tt)
items_more (m ∷ ls) l a h = (a.0, items_more ls l a.1 h)

counts-more : (ls : List Line) (l : Line) → counts (ls ++ l ∷ []) ≡ counts ls + count_of l
unfolding counts
counts-more [] l = omega arith
counts-more (m ∷ ls) l = omega (arith, counts-more ls l)

codes-more : (ls : List Line) (l : Line) → length (codes (ls ++ l ∷ [])) ≡ length (codes ls) + length (code_of l)
unfolding codes
codes-more [] l = omega (arith, length-append (code_of l) [])
codes-more (m ∷ ls) l = omega (arith, length-append (code_of m) (codes (ls ++ l ∷ [])), length-append (code_of m) (codes ls), codes-more ls l)

lines-short : (ls : List Line) → AllItems ls → length ls ≤ counts ls
unfolding counts
lines-short [] a = omega arith
lines-short (One n ∷ ls) a = omega (arith, lines-short ls a.1)
lines-short (Run n m ∷ ls) a = omega (arith, lines-short ls a.1)
lines-short (Gaps e m ∷ ls) a = absurd a.0
lines-short (End t ∷ ls) a = absurd a.0

ended-told : {l w : Line} {n : ℕ} → l ≡ told w → w ≡ End n → ((t : ℕ) → l ≡ End t → ⊥) → ⊥
unfolding told
ended-told {n = n} e q h = h (capped n) (e ∙ ap told q)

texts-next : (ls : List Line) (l : Line) {s rest : List ℕ} (next : List ℕ) → s ≡ texts ls ++ rest → rest ≡ text l ++ next → s ≡ texts (ls ++ l ∷ []) ++ next
unfolding texts
texts-next ls l next e q =
    e ∙ ap (λ (t : List ℕ). texts ls ++ t) q ∙ sym (append_assoc (texts ls) (text l) next)
    ∙ ap (λ (t : List ℕ). t ++ next) (ap (λ (t : List ℕ). texts ls ++ t) (sym (append-nil (text l))) ∙ sym (texts-append ls (l ∷ [])))

-- what may follow, by its kind
module _ (E : Edition) (n : ℕ) where
  follows-end : {l : Line} {u : ℕ} → Follows E n l → l ≡ End u → u ≡ n
  follows-end (item h f) e = absurd (subst IsItem e h)
  follows-end last e = cc

  follows-item : {l : Line} → Follows E n l → IsItem l → n + count_of l ≤ E.most
  follows-item (item h f) i = f
  follows-item last i = absurd i

  follows-other : {l : Line} → Follows E n l → (IsItem l → ⊥) → l ≡ End n
  follows-other (item h f) i = absurd (i h)
  follows-other last i = refl

-- where the walk stands: at a place, after so many lines, words and numbers
pub record Judging (Es : List Edition) (s : List ℕ) (most at lines words total : ℕ) : Type 0 where
  pub edition : Edition
  pub among : Among Es edition
  pub limit : most ≡ edition.most
  pub read : List Line
  pub items : AllItems read
  pub counting : total ≡ counts read
  pub fits : counts read ≤ edition.most
  pub wording : words ≡ length (codes read)
  pub lining : lines ≡ suc (length read)
  pub reached : at ≤ length s
  pub here : s ≡ texts (first_line edition ∷ read) ++ drop at s

module _ (Es : List Edition) (s : List ℕ) {most : ℕ} where
  pub judging-start : {from : ℕ} → Opened Es s from most → Judging Es s most from 1 0 0
  unfolding counts codes texts
  judging-start {from} o =
      record {
        edition = o.edition;
        among = o.among;
        limit = o.limit;
        read = [];
        items = tt;
        counting = refl;
        fits = omega arith;
        wording = refl;
        lining = refl;
        reached = o.reached;
        here = o.first ∙ ap (λ (t : List ℕ). t ++ drop from s) (sym (append-nil (text (first_line o.edition))));
      }

  module _ {at lines words total : ℕ} (j : Judging Es s most at lines words total) where
    abbrev E : Edition
    E = j.edition

    -- no more words and lines than numbers, and one line
    pub judging-small : (words ≤ total) × ((lines ≤ total + 1) × (total ≤ most))
    judging-small =
        (omega (arith, codes-short j.read j.items, j.wording, j.counting), (omega (arith, lines-short j.read j.items, j.lining, j.counting), omega (arith, j.fits, j.limit, j.counting)))

    bad-here : ((l : Line) (rest : List ℕ) → Follows E (counts j.read) l → drop at s ≡ text l ++ rest → ⊥) → Judged Es s (Err (BadSheet lines))
    bad-here h = subst (λ (n : ℕ). Judged Es s (Err (BadSheet n))) (sym j.lining) (refused (bad-next Es s E j.among j.read j.items j.fits (drop at s) j.here h))

    pub judging-nothing : {r : Option Found} → LineAt s at r → r ≡ None → Judged Es s (Err (BadSheet lines))
    judging-nothing a e = bad-here (λ l rest f. none-standing s at a e l rest)

    module _ {l : Line} {next : ℕ} (h : Standing s at l next) where
      -- what follows is this line alone
      bad-line : (Follows E (counts j.read) h.whole → ⊥) → Judged Es s (Err (BadSheet lines))
      bad-line n = bad-here (λ m rest f q. n (subst (Follows E (counts j.read)) (text-once m h.whole (sym q ∙ h.here)).0 f))

      ended_here : {t : ℕ} → E.most < 2 ^ 32 → l ≡ End t → t ≡ total → h.whole ≡ End (counts j.read)
      ended_here {t} b e q =
          let u = told-end h.whole t (sym h.tells ∙ e) in
          let same : u.0 ≡ counts j.read = capped_is u.0 (counts j.read) (omega (arith, j.fits)) (sym u.1.1 ∙ q ∙ j.counting) in
          u.1.0 ∙ ap End same

      pub judging-miscounted : {r : Option Says} {t : ℕ} → E.most < 2 ^ 32 → LineSays l r → r ≡ Some (Total t) → (t ≡ total → ⊥) → Judged Es s (Err (BadSheet lines))
      judging-miscounted {t = t} b a k n = bad-line go
        where
          go : Follows E (counts j.read) h.whole → ⊥
          go f =
              let u = told-end h.whole t (sym h.tells ∙ total-known a k) in
              let same : u.0 ≡ counts j.read = follows-end E (counts j.read) f u.1.0 in
              n (u.1.1 ∙ ap capped same ∙ capped-below (counts j.read) (omega (arith, j.fits)) ∙ sym j.counting)

      pub judging-tail : {r : Option Says} {t : ℕ} → E.most < 2 ^ 32 → LineSays l r → r ≡ Some (Total t) → t ≡ total → next < length s → Judged Es s (Err (BadSheet (lines + 1)))
      judging-tail b a e q n =
          let rest = h.here ∙ ap (λ (m : Line). text m ++ drop next s) (ended_here b (total-known a e) q) in
          let some : drop next s ≡ [] → ⊥ = λ z. omega (arith, ap length z, length-drop next s) in
          let number : length (all E j.read) ≡ lines + 1 = omega (arith, length-append j.read (End (counts j.read) ∷ []), j.lining) in
          subst (λ (k : ℕ). Judged Es s (Err (BadSheet k))) number (refused (bad-tail Es s E j.among j.read j.items j.fits (drop at s) j.here (drop next s) rest some))

      pub judging-end : {r : Option Says} {t : ℕ} → E.most < 2 ^ 32 → LineSays l r → r ≡ Some (Total t) → t ≡ total → length s ≤ next → Judged Es s (Ok words)
      judging-end b a e q n =
          let rest = h.here ∙ (λ i. text (ended_here b (total-known a e) q i) ++ drop_of_length-le s {i = next} n i) ∙ append-nil (text (End (counts j.read))) in
          subst (λ (k : ℕ). Judged Es s (Ok k)) (sym j.wording) (list (codes j.read) (good Es s E j.among j.read j.items j.fits (drop at s) j.here rest))

      pub judging-neither : {r : Option Says} → LineSays l r → r ≡ None → Judged Es s (Err (BadSheet lines))
      judging-neither a e = bad-line go
        where
          go : Follows E (counts j.read) h.whole → ⊥
          go f =
              let known = neither-known a e in
              let other : IsItem h.whole → ⊥ = λ i. known.0 (subst IsItem (sym (item-told h.whole i) ∙ sym h.tells) i) in
              ended-told h.tells (follows-other E (counts j.read) f other) known.1

      pub judging-past : {r : Option Says} {n w : ℕ} → LineSays l r → r ≡ Some (Item n w) → most < total + n → Judged Es s (Err (BadSheet lines))
      judging-past {n = n} a e past =
          let i = item-known a e in
          let same : l ≡ h.whole = h.tells ∙ told-item h.whole (subst IsItem h.tells i.0) in
          bad-line (λ f. omega (arith, follows-item E (counts j.read) f (subst IsItem same i.0), ap count_of same, i.1.0, j.counting))

      pub judging-next : {r : Option Says} {n w : ℕ} → LineSays l r → r ≡ Some (Item n w) → total + n ≤ most → Judging Es s most next (lines + 1) (words + w) (total + n)
      judging-next {n = n} {w = w} a e fit =
          let i = item-known a e in
          let same : l ≡ h.whole = h.tells ∙ told-item h.whole (subst IsItem h.tells i.0) in
          record {
            edition = E;
            among = j.among;
            limit = j.limit;
            read = j.read ++ h.whole ∷ [];
            items = items_more j.read h.whole j.items (subst IsItem same i.0);
            counting = omega (arith, counts-more j.read h.whole, ap count_of same, i.1.0, j.counting);
            fits = omega (arith, counts-more j.read h.whole, ap count_of same, i.1.0, j.counting);
            wording = omega (arith, codes-more j.read h.whole, ap (λ (m : Line). length (code_of m)) same, i.1.1, j.wording);
            lining = omega (arith, length-append j.read (h.whole ∷ []), j.lining);
            reached = h.reached;
            here = texts-next (first_line E ∷ j.read) h.whole (drop next s) j.here h.here;
          }

-- the first line
shown-capped : (n : ℕ) → shown (capped n) ≡ shown n
shown-capped n = go (ltb n (2 ^ 32)) refl
  where
    go : (b : Bool) → ltb n (2 ^ 32) ≡ b → shown (capped n) ≡ shown n
    go true h =
        let l = ltb-true n (2 ^ 32) h in
        ap shown (capped-below n l)
    go false h =
        let l = ltb-false n (2 ^ 32) h in
        ap shown (capped-above n l) ∙ sym (rw h)

-- what is known of an edition's number
record LimitKnown (Es : List Edition) (e n : ℕ) : Type 0 where
  edition : Edition
  among : Among Es edition
  number : e ≡ edition.number
  limit : n ≡ edition.most

module _ {Es : List Edition} {number : ℕ} where
  limit-known : {r : Option ℕ} {n : ℕ} → LimitOf Es number r → r ≡ Some n → LimitKnown Es number n
  limit-known {n = n} (most E k q) z =
      let same : E.most ≡ n = cc in
      record { edition = E; among = k; number = q; limit = sym same }
  limit-known (unknown h) z = absurd (let z : ◌≡◌ {A = ℕ} 0 1 = cc in omega arith)

  limit-unknown : {r : Option ℕ} → LimitOf Es number r → r ≡ None → (E : Edition) → Among Es E → number ≡ E.number → ⊥
  limit-unknown (most E k q) z = absurd (let z : ◌≡◌ {A = ℕ} 0 1 = cc in omega arith)
  limit-unknown (unknown h) z = h

-- the limit of the edition that is written
pub latest : (number : ℕ) → number ≡ 2 → LimitOf editions number (Some 65536)
unfolding edition-written limit
latest number e = most edition-written (inr (inl refl)) e

-- a number that is neither of two editions' is none of theirs
pub not-two : (E F : Edition) {number : ℕ} → (number ≡ E.number → ⊥) → (number ≡ F.number → ⊥) → (G : Edition) → Among (E ∷ F ∷ []) G → number ≡ G.number → ⊥
not-two E F h k G (inl e) q = h (q ∙ ap (λ (H : Edition). H.number) e)
not-two E F h k G (inr (inl e)) q = k (q ∙ ap (λ (H : Edition). H.number) e)
not-two E F h k G (inr (inr n)) q = n

module _ (Es : List Edition) (s : List ℕ) where
  -- where there is an edition
  module _ (E : Edition) (k : Among Es E) where
    pub first-nothing : {r : Option Found} → LineAt s 0 r → r ≡ None → Judged Es s (Err (BadSheet 0))
    first-nothing a e = refused (bad-word Es s E k (λ number limit rest. none-standing s 0 a e (Gaps number limit) rest))

    pub first-other : {l : Line} {next : ℕ} → Standing s 0 l next → ((e m : ℕ) → l ≡ Gaps e m → ⊥) → Judged Es s (Err (BadSheet 0))
    unfolding told
    first-other h n =
        refused (bad-word Es s E k (λ number limit rest q. n (capped number) (capped limit) (h.tells ∙ ap told (text-once h.whole (Gaps number limit) (sym h.here ∙ q)).0)))

  module _ {l : Line} {next e m : ℕ} (h : Standing s 0 l next) (q : l ≡ Gaps e m) where
    first-gaps : (f : ℕ) × ((n : ℕ) × ((s ≡ text (Gaps f n) ++ drop next s) × ((e ≡ capped f) × (m ≡ capped n))))
    first-gaps =
        let g = told-gaps h.whole e m (sym h.tells ∙ q) in
        (g.0, (g.1.0, (h.here ∙ ap (λ (w : Line). text w ++ drop next s) g.1.1.0, g.1.1.1)))

    module _ (small : (E : Edition) → Among Es E → Small E) {r : Option ℕ} (known : LimitOf Es e r) where
      pub first-edition : r ≡ None → Judged Es s (Err (SheetEdition (shown e)))
      first-edition z =
          let g = first-gaps in
          let number : (E : Edition) → Among Es E → g.0 ≡ E.number → ⊥ = λ E k q. limit-unknown known z E k (g.1.1.1.0 ∙ ap capped q ∙ capped-below E.number (small E k).0) in
          subst (λ (k : ℕ). Judged Es s (Err (SheetEdition k))) (sym (shown-capped g.0) ∙ ap shown (sym g.1.1.1.0)) (refused (edition (record { opens = record { limit = g.1.0; rest = drop next s; first = g.1.1.0 }; other = number })))

      module _ {n : ℕ} (z : r ≡ Some n) where
        own : LimitKnown Es e n
        own = limit-known known z

        first-here : s ≡ text (Gaps own.edition.number first-gaps.1.0) ++ drop next s
        first-here =
            let g = first-gaps in
            let number : g.0 ≡ own.edition.number = capped_is g.0 own.edition.number (small own.edition own.among).0 (sym g.1.1.1.0 ∙ own.number) in
            g.1.1.0 ∙ ap (λ (f : ℕ). text (Gaps f g.1.0) ++ drop next s) number

        pub first-limit : ((E F : Edition) → Among Es E → Among Es F → E.number ≡ F.number → E.most ≡ F.most) → (m ≡ n → ⊥) → Judged Es s (Err (BadSheet 0))
        first-limit one other =
            let g = first-gaps in
            let E = own.edition in
            let limit : (F : Edition) → Among Es F → E.number ≡ F.number → g.1.0 ≡ F.most → ⊥ =
            λ F k p q. other (g.1.1.1.1 ∙ ap capped (q ∙ sym (one E F own.among k p)) ∙ capped-below E.most (small E own.among).1 ∙ sym own.limit) in
            refused (bad-limit Es s E own.among g.1.0 (drop next s) first-here limit)

        pub first-opens : m ≡ n → Opened Es s next n
        first-opens same =
            let g = first-gaps in
            let E = own.edition in
            let limit : g.1.0 ≡ E.most = capped_is g.1.0 E.most (small E own.among).1 (sym g.1.1.1.1 ∙ same ∙ own.limit) in
            record { edition = E; among = own.among; limit = own.limit; reached = h.reached; first = first-here ∙ ap (λ (x : ℕ). text (Gaps E.number x) ++ drop next s) limit }
