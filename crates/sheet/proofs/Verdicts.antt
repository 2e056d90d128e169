-- What reading a sheet comes to: one law for each way in which it ends. Assumes nothing.
use mathlib.Core.Path.{◌≡◌, refl, sym, ap, subst, ◌∙◌}
use mathlib.Core.List.{List, [], ◌∷◌, ◌++◌, append_assoc, append-nil}
use Prim.Native.Nat.{ℕ, suc, ◌+◌, ◌≤◌}
use native.Mathlib.Omega.{arith}
use mathlib.Core.Bool.{Bool, true, false}
use borrow.Author.Tests.{ltb-true, ltb-false}
use lib.Dec.{ltb}
use lib.ListN.{length, length-append}
use Rattle.refusal.specs.declared.Refusal.TheVariants.{BadSheet}
use Rattle.sheet_line.specs.Text.{text}
use Rattle.sheet_line.specs.declared.Line.{Line}
use Rattle.sheet_line.specs.declared.Line.TheVariants.{Gaps, End}
use Rattle.sheet_line.proofs.Lines.{text-once}
use Rattle.sheet.specs.Sheet.{Edition, first_line, texts}
use Rattle.sheet.specs.Reading.{Among, SheetIn, Opens, OtherEdition, Begins, MostLines, Refuses, bad}
use Rattle.sheet.specs.Lines.{IsItem, AllItems, count_of, codes, counts}
use Rattle.sheet.proofs.Listed.{all, Lined, lined-sheet, sheet-lined}
use Rattle.sheet.proofs.Top.{texts-append, texts-begin, whole-texts, next-line}

-- the line that may follow those of some items which stand for n numbers: one of an item that fits, or the last
pub data Follows (E : Edition) (n : ℕ) : Line → Type 0 where
  item : {l : Line} → IsItem l → n + count_of l ≤ E.most → Follows E n l
  last : Follows E n (End n)

-- a sheet goes on after some of its items by such a line ..
follows : (E : Edition) (n : ℕ) (ls ms : List Line) (l : Line) (tail : List Line) → AllItems ls → AllItems ms → n + counts ms ≤ E.most
    → ms ++ End (n + counts ms) ∷ [] ≡ ls ++ l ∷ tail → Follows E (n + counts ls) l
unfolding counts
follows E n [] [] l tail a b h e =
    let here : End (n + 0) ≡ l = cc in
    subst (Follows E (n + 0)) here last
follows E n [] (m ∷ ms) l tail a b h e =
    let here : m ≡ l = cc in
    subst (Follows E (n + 0)) here (item b.0 (omega arith))
follows E n (x ∷ ls) [] l tail a b h e =
    let here : x ≡ End (n + 0) = cc in
    absurd (subst IsItem here a.0)
follows E n (x ∷ ls) (m ∷ ms) l tail a b h e =
    let here : m ≡ x = cc in
    let rest : ms ++ End (n + (count_of m + counts ms)) ∷ [] ≡ ls ++ l ∷ tail = cc in
    let same : n + (count_of m + counts ms) ≡ n + count_of m + counts ms = omega arith in
    let again : n + count_of m + counts ls ≡ n + (count_of x + counts ls) = ap (λ (y : Line). n + count_of y + counts ls) here ∙ omega arith in
    subst (λ (k : ℕ). Follows E k l) again (follows E (n + count_of m) ls ms l tail a.1 b.1 (omega arith) (rw same at rest))

-- .. never ends without the last line ..
unended : (ls ms : List Line) (t : ℕ) → AllItems ls → ms ++ End t ∷ [] ≡ ls → ⊥
unended [] [] t a e = let z : ◌≡◌ {A = ℕ} 0 1 = cc in omega arith
unended [] (m ∷ ms) t a e = let z : ◌≡◌ {A = ℕ} 0 1 = cc in omega arith
unended (x ∷ ls) [] t a e =
    let here : x ≡ End t = cc in
    subst IsItem here a.0
unended (x ∷ ls) (m ∷ ms) t a e =
    let rest : ms ++ End t ∷ [] ≡ ls = cc in
    unended ls ms t a.1 rest

-- .. and has nothing after that
ended-last : (ls ms : List Line) (t u : ℕ) (tail : List Line) → AllItems ms → ms ++ End t ∷ [] ≡ ls ++ End u ∷ tail → tail ≡ []
ended-last [] [] t u tail b e = cc
ended-last [] (m ∷ ms) t u tail b e =
    let here : m ≡ End u = cc in
    absurd (subst IsItem here b.0)
ended-last (x ∷ ls) [] t u tail b e =
    let rest : ls ++ End u ∷ tail ≡ [] = cc in
    absurd (omega (arith, length-append ls (End u ∷ tail), ap length rest))
ended-last (x ∷ ls) (m ∷ ms) t u tail b e =
    let rest : ms ++ End t ∷ [] ≡ ls ++ End u ∷ tail = cc in
    ended-last ls ms t u tail b.1 rest

texts-one-more : (ls : List Line) (l : Line) → texts (ls ++ l ∷ []) ≡ texts ls ++ text l
unfolding texts
texts-one-more ls l = texts-append ls (l ∷ []) ∙ ap (λ (t : List ℕ). texts ls ++ t) (append-nil (text l))

-- lines of a sheet, up to where no sheet goes on: they are the most, and what begins with them is no sheet
module _ (Es : List Edition) (s : List ℕ) (ls : List Line) (r : List ℕ) (here : s ≡ texts ls ++ r)
    (stuck : (F : Edition) → Among Es F → (ns : List Line) → AllItems ns → counts ns ≤ F.most → (l : Line) (tail : List Line) → all F ns ≡ ls ++ l ∷ tail → (rest : List ℕ) → r ≡ text l ++ rest → ⊥)
    (unfinished : (F : Edition) (ns : List Line) → all F ns ≡ ls → r ≡ [] → ⊥)
  where
    no-sheet : (ws : List ℕ) → SheetIn Es ws s → ⊥
    unfolding texts
    no-sheet ws h =
        let l = sheet-lined h.edition ws h.sheet in
        let rest = texts-begin ls (all h.edition l.0) r (sym l.1.0.written ∙ here) in
        go h.edition h.among l.0 l.1.0 rest.tail rest.whole rest.rest
      where
        go : (F : Edition) → Among Es F → (ns : List Line) → Lined F s ns → (tail : List Line) → all F ns ≡ ls ++ tail → r ≡ texts tail → ⊥
        go F k ns h [] e q = unfinished F ns (e ∙ append-nil ls) q
        go F k ns h (l ∷ tail) e q = stuck F k ns h.all-items h.fits l tail e (texts tail) q

    no_more : (j : ℕ) → Begins Es s j → j ≤ length ls
    no_more j b = go (ltb (length ls) j) refl
      where
        go : (c : Bool) → ltb (length ls) j ≡ c → j ≤ length ls
        go false h = ltb-false (length ls) j h
        go true h =
            let l = sheet-lined b.there.edition b.list b.there.sheet in
            let next = next-line ls (all b.there.edition l.0) j b.top b.rest b.other r b.whole (ltb-true (length ls) j h) (sym b.here ∙ here) l.1.0.written in
            absurd (stuck b.there.edition b.there.among l.0 l.1.0.all-items l.1.0.fits next.line next.tail next.goes_on next.rest next.shared)

    most-lines : (E : Edition) → Among Es E → (ms : List Line) (tail : List Line) → AllItems ms → counts ms ≤ E.most → all E ms ≡ ls ++ tail → MostLines Es s (length ls)
    most-lines E k ms tail a f sheet =
        record {
          begins = record {
            top = texts ls;
            whole = whole-texts ls;
            rest = r;
            here = here;
            list = codes ms;
            other = texts tail;
            there = record { edition = E; among = k; sheet = lined-sheet E ms (record { all-items = a; fits = f; written = sym (texts-append ls tail) ∙ ap texts (sym sheet) }) };
          };
          most = no_more;
        }

    stopped : ((number : ℕ) → OtherEdition Es s number → ⊥) → (E : Edition) → Among Es E → (ms : List Line) (tail : List Line) → AllItems ms → counts ms ≤ E.most → all E ms ≡ ls ++ tail → Refuses Es s (BadSheet (length ls))
    stopped o E k ms tail a f sheet = bad o no-sheet (most-lines E k ms tail a f sheet)

-- no bytes begin with the first lines of two editions
pub opens-once : {a b : ℕ} {s : List ℕ} → Opens a s → Opens b s → a ≡ b
opens-once {a} {b} o p =
    let once = text-once (Gaps a o.limit) (Gaps b p.limit) (sym o.first ∙ p.first) in
    let lines = once.0 in
    cc

-- the first line, where there is an edition
module _ (Es : List Edition) (s : List ℕ) (E : Edition) (k : Among Es E) where
  same-edition : Opens E.number s → (number : ℕ) → OtherEdition Es s number → ⊥
  same-edition h number o = o.other E k (opens-once o.opens h)

  bad-first : ((number : ℕ) → OtherEdition Es s number → ⊥) → ((F : Edition) → Among Es F → (rest : List ℕ) → s ≡ text (first_line F) ++ rest → ⊥) → Refuses Es s (BadSheet 0)
  unfolding texts counts
  bad-first o h = stopped Es s [] s refl stuck unfinished o E k [] (all E []) tt (omega arith) refl
    where
      stuck : (F : Edition) → Among Es F → (ns : List Line) → AllItems ns → counts ns ≤ F.most → (l : Line) (tail : List Line) → all F ns ≡ l ∷ tail → (rest : List ℕ) → s ≡ text l ++ rest → ⊥
      stuck F m ns a f l tail e rest q =
          let same : l ≡ first_line F = cc in
          h F m rest (q ∙ ap (λ (m : Line). text m ++ rest) same)

      unfinished : (F : Edition) (ns : List Line) → all F ns ≡ [] → s ≡ [] → ⊥
      unfinished F ns e q = let z : ◌≡◌ {A = ℕ} 0 1 = cc in omega arith

  -- is none of a sheet's ..
  pub bad-word : ((number limit : ℕ) (rest : List ℕ) → s ≡ text (Gaps number limit) ++ rest → ⊥) → Refuses Es s (BadSheet 0)
  bad-word h = bad-first (λ number o. h number o.opens.limit o.opens.rest o.opens.first) (λ F m. h F.number F.most)

  -- .. or has another limit than its edition
  pub bad-limit : (limit : ℕ) (rest : List ℕ) → s ≡ text (Gaps E.number limit) ++ rest → ((F : Edition) → Among Es F → E.number ≡ F.number → limit ≡ F.most → ⊥) → Refuses Es s (BadSheet 0)
  bad-limit limit rest e h = bad-first (same-edition (record { limit = limit; rest = rest; first = e })) go
    where
      go : (F : Edition) → Among Es F → (rest' : List ℕ) → s ≡ text (first_line F) ++ rest' → ⊥
      go F m rest' q =
          let once = text-once (Gaps E.number limit) (first_line F) (sym e ∙ q) in
          let lines = once.0 in
          let number : E.number ≡ F.number = cc in
          let same : limit ≡ F.most = cc in
          h F m number same

-- after the first line and those of some items
module _ (Es : List Edition) (s : List ℕ) (E : Edition) (k : Among Es E) (ls : List Line) (a : AllItems ls) (f : counts ls ≤ E.most) (r : List ℕ) (here : s ≡ texts (first_line E ∷ ls) ++ r) where
  known-edition : (number : ℕ) → OtherEdition Es s number → ⊥
  unfolding texts
  known-edition = same-edition Es s E k (record { limit = E.most; rest = texts ls ++ r; first = here ∙ append_assoc (text (first_line E)) (texts ls) r })

  pub bad-next : ((l : Line) (rest : List ℕ) → Follows E (counts ls) l → r ≡ text l ++ rest → ⊥) → Refuses Es s (BadSheet (suc (length ls)))
  bad-next h = stopped Es s (first_line E ∷ ls) r here stuck unfinished known-edition E k ls (End (counts ls) ∷ []) a f refl
    where
      stuck : (F : Edition) → Among Es F → (ns : List Line) → AllItems ns → counts ns ≤ F.most → (l : Line) (tail : List Line) → all F ns ≡ first_line E ∷ (ls ++ l ∷ tail) → (rest : List ℕ) → r ≡ text l ++ rest → ⊥
      stuck F m ns b g l tail e rest q =
          let limit : F.most ≡ E.most = cc in
          let after : ns ++ End (counts ns) ∷ [] ≡ ls ++ l ∷ tail = cc in
          let none : 0 + counts ns ≡ counts ns = omega arith in
          let zero : 0 + counts ls ≡ counts ls = omega arith in
          h l rest (subst (λ (k : ℕ). Follows E k l) zero (follows E 0 ls ns l tail a b (omega arith) (rw none after))) q

      unfinished : (F : Edition) (ns : List Line) → all F ns ≡ first_line E ∷ ls → r ≡ [] → ⊥
      unfinished F ns e q =
          let after : ns ++ End (counts ns) ∷ [] ≡ ls = cc in
          unended ls ns (counts ns) a after

  ended-text : texts (all E ls) ≡ texts (first_line E ∷ ls) ++ text (End (counts ls))
  ended-text = texts-one-more (first_line E ∷ ls) (End (counts ls))

  -- .. the last line follows, and something after it
  pub bad-tail : (r' : List ℕ) → r ≡ text (End (counts ls)) ++ r' → (r' ≡ [] → ⊥) → Refuses Es s (BadSheet (length (all E ls)))
  bad-tail r' e h = stopped Es s (all E ls) r' whole stuck unfinished known-edition E k ls [] a f (sym (append-nil (all E ls)))
    where
      whole : s ≡ texts (all E ls) ++ r'
      whole =
          here
          ∙ ap (λ (t : List ℕ). texts (first_line E ∷ ls) ++ t) e
          ∙ sym (append_assoc (texts (first_line E ∷ ls)) (text (End (counts ls))) r')
          ∙ ap (λ (t : List ℕ). t ++ r') (sym ended-text)

      stuck : (F : Edition) → Among Es F → (ns : List Line) → AllItems ns → counts ns ≤ F.most → (l : Line) (tail : List Line) → all F ns ≡ all E ls ++ l ∷ tail → (rest : List ℕ) → r' ≡ text l ++ rest → ⊥
      stuck F m ns b g l tail e rest q =
          let after : ns ++ End (counts ns) ∷ [] ≡ (ls ++ End (counts ls) ∷ []) ++ l ∷ tail = cc in
          let none : l ∷ tail ≡ [] = ended-last ls ns (counts ns) (counts ls) (l ∷ tail) b (after ∙ append_assoc ls (End (counts ls) ∷ []) (l ∷ tail)) in
          let z : ◌≡◌ {A = ℕ} 0 1 = cc in
          omega arith

      unfinished : (F : Edition) (ns : List Line) → all F ns ≡ all E ls → r' ≡ [] → ⊥
      unfinished F ns e q = h q

  -- .. or nothing
  pub good : r ≡ text (End (counts ls)) → SheetIn Es (codes ls) s
  good e =
      let lined = lined-sheet E ls (record { all-items = a; fits = f; written = here ∙ ap (λ (t : List ℕ). texts (first_line E ∷ ls) ++ t) e ∙ sym ended-text }) in
      record { edition = E; among = k; sheet = lined }
