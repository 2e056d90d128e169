-- What the clerks may rely on, sentence by sentence. `Reads` is what read_sheet promises of any call, and `Writes` what write_sheet
-- promises; the first holds of any editions that are read, the second of any that is written. Assumes nothing.
use Rattle.std.specs.Prelude.{Result, Ok, Err}
use mathlib.Core.Path.{◌≡◌, refl, sym, ap, subst, ◌∙◌}
use mathlib.Core.Bool.{Bool, true, false, cond}
use mathlib.Core.List.{List, [], ◌∷◌, ◌++◌}
use mathlib.Core.Logic.{◌↔◌}
use Prim.Native.Nat.{ℕ, suc, ◌≤◌}
use native.Mathlib.Omega.{arith}
use borrow.Author.Tests.{le-ltb}
use lib.Dec.{ltb}
use lib.ListN.{length, take, drop}
use lib.Seq.{take_at}
use Rattle.refusal.specs.declared.Refusal.{Refusal}
use Rattle.refusal.specs.declared.Refusal.TheVariants.{NoRoom, BadSheet, SheetEdition}
use Rattle.loss_list.specs.Expand.{judgement}
use Rattle.sheet_line.specs.Text.{text}
use Rattle.sheet_line.specs.declared.Line.{Line}
use Rattle.sheet_line.specs.declared.Line.TheVariants.{Gaps, End}
use Rattle.wire.specs.Lent.{within}
use Rattle.sheet.specs.Sheet.{Edition, texts, sheet, sized, writing, Writes}
use Rattle.sheet.specs.Reading.{Words, Among, SheetOf, SheetIn, Opens, OtherEdition, shown, Begins, MostLines, Refuses, edition, bad, Reads, list, no_room, refused}
use Rattle.sheet.specs.Lines.{codes, counts}
use Rattle.sheet.proofs.Listed.{all, sheet-lined}
use Rattle.sheet.proofs.Top.{texts-once}
use Rattle.sheet.proofs.Verdicts.{opens-once}

front-once : (ls ms : List Line) (l m : Line) → ls ++ l ∷ [] ≡ ms ++ m ∷ [] → ls ≡ ms
front-once [] [] l m e = refl
front-once [] (y ∷ []) l m e = absurd (let z : ◌≡◌ {A = ℕ} 0 1 = cc in omega arith)
front-once [] (y ∷ z ∷ ms) l m e = absurd (let z : ◌≡◌ {A = ℕ} 0 1 = cc in omega arith)
front-once (x ∷ []) [] l m e = absurd (let z : ◌≡◌ {A = ℕ} 0 1 = cc in omega arith)
front-once (x ∷ y ∷ ls) [] l m e = absurd (let z : ◌≡◌ {A = ℕ} 0 1 = cc in omega arith)
front-once (x ∷ ls) (y ∷ ms) l m e =
    let head : x ≡ y = cc in
    let tail : ls ++ l ∷ [] ≡ ms ++ m ∷ [] = cc in
    let rest = front-once ls ms l m tail in
    λ i. head i ∷ rest i

-- a sheet begins with the first line of its edition
pub sheet-opens : (E : Edition) (ws : List ℕ) {s : List ℕ} → SheetOf E ws s → Opens E.number s
unfolding texts
sheet-opens E ws h =
    let l = sheet-lined E ws h in
    record { limit = E.most; rest = _; first = l.1.0.written }

-- what the writer of an edition gives for an accepted list, in as much room as it needs
pub record Gives (E : Edition) (ws s : List ℕ) : Type 0 where
  pub words : Words ws
  pub answer : writing E ws (length s) ≡ Ok (length s)
  pub bytes : sheet E ws ≡ s

module _ (E : Edition) where
  sized-accepted : (ws : List ℕ) (r : Result ℕ Refusal) (n room : ℕ) → judgement E.most ws ≡ r → within room (sized r (length (sheet E ws))) ≡ Ok n → ((m : ℕ) × (judgement E.most ws ≡ Ok m)) × (n ≡ length (sheet E ws))
  unfolding sized within
  sized-accepted ws (Err r) n room j e = absurd (let z : ◌≡◌ {A = ℕ} 0 1 = cc in omega arith)
  sized-accepted ws (Ok m) n room j e = go (ltb room (length (sheet E ws))) e
    where
      go : (b : Bool) → cond b (Err (NoRoom (length (sheet E ws)))) (Ok (length (sheet E ws))) ≡ Ok n → ((m : ℕ) × (judgement E.most ws ≡ Ok m)) × (n ≡ length (sheet E ws))
      go true q = absurd (let z : ◌≡◌ {A = ℕ} 0 1 = cc in omega arith)
      go false q = ((m, j), cc)

  -- a list that is written is accepted, and what is written is its sheet
  pub written-sheet : (ws : List ℕ) (n room : ℕ) → Words ws → writing E ws room ≡ Ok n → SheetOf E ws (sheet E ws) × (n ≡ length (sheet E ws))
  written-sheet ws n room w e =
      let a = sized-accepted ws (judgement E.most ws) n room refl e in
      (record { words = w; numbers = a.0.0; accepted = a.0.1; written = refl }, a.1)

  pub sheet-gives : (ws s : List ℕ) → SheetOf E ws s → Gives E ws s
  unfolding sized within
  sheet-gives ws s h =
      let same : length (sheet E ws) ≡ length s = ap length (sym h.written) in
      record { words = h.words; answer = rw (h.accepted, le-ltb (length s) (length (sheet E ws)) (omega arith), same); bytes = sym h.written }

  pub gives-sheet : (ws s : List ℕ) → Gives E ws s → SheetOf E ws s
  gives-sheet ws s g =
      let h = (written-sheet ws (length s) (length s) g.words g.answer).0 in
      record { words = h.words; numbers = h.numbers; accepted = h.accepted; written = sym g.bytes }

module _ (Es : List Edition) where
  -- Two different lists never give the same sheet, of whichever editions.
  pub sheet-once : (ws ws' : List ℕ) {s : List ℕ} → SheetIn Es ws s → SheetIn Es ws' s → ws ≡ ws'
  sheet-once ws ws' {s} h h' =
      let E = h.edition in
      let E' = h'.edition in
      let l = sheet-lined E ws h.sheet in
      let l' = sheet-lined E' ws' h'.sheet in
      let lines : all E l.0 ≡ all E' l'.0 = texts-once (all E l.0) (all E' l'.0) (sym l.1.0.written ∙ l'.1.0.written) in
      let after : l.0 ++ End (counts l.0) ∷ [] ≡ l'.0 ++ End (counts l'.0) ∷ [] = cc in
      sym l.1.1 ∙ ap codes (front-once l.0 l'.0 (End (counts l.0)) (End (counts l'.0)) after) ∙ l'.1.1

  own-edition : (ws : List ℕ) {s : List ℕ} → SheetIn Es ws s → (number : ℕ) → OtherEdition Es s number → ⊥
  own-edition ws {s} h number o = o.other h.edition h.among (opens-once o.opens (sheet-opens h.edition ws h.sheet))

  accepted-not-refused : (ws : List ℕ) {s : List ℕ} {r : Refusal} → SheetIn Es ws s → Refuses Es s r → ⊥
  accepted-not-refused ws h (edition {number} o) = own-edition ws h number o
  accepted-not-refused ws h (bad o n m) = n ws h

  one-refusal : {s : List ℕ} {r r' : Refusal} → Refuses Es s r → Refuses Es s r' → r ≡ r'
  one-refusal (edition o) (edition o') = ap (λ (n : ℕ). SheetEdition (shown n)) (opens-once o.opens o'.opens)
  one-refusal (edition {number} o) (bad n s m) = absurd (n number o)
  one-refusal (bad n s m) (edition {number} o) = absurd (n number o)
  one-refusal (bad {k} n s m) (bad {k = k'} n' s' m') =
      let same : k ≡ k' = omega (arith, m.most k' m'.begins, m'.most k m.begins) in
      ap BadSheet same

  -- Any bytes have one answer, and one that is left in the buffer.
  pub one_answer : {s held left left' : List ℕ} {r r' : Result ℕ Refusal} → Reads Es s held r left → Reads Es s held r' left' → (r ≡ r') × (left ≡ left')
  one_answer {held = held} (list ws h f) (list ws' h' f') =
      let same = sheet-once ws ws' h h' in
      (ap (λ (l : List ℕ). Ok (length l)) same, ap (λ (l : List ℕ). l ++ drop (length l) held) same)
  one_answer (list ws h f) (no_room ws' h' f') =
      let same = sheet-once ws ws' h h' in
      absurd (omega (arith, ap length same))
  one_answer (list ws h f) (refused w) = absurd (accepted-not-refused ws h w)
  one_answer (no_room ws h f) (list ws' h' f') =
      let same = sheet-once ws ws' h h' in
      absurd (omega (arith, ap length same))
  one_answer (no_room ws h f) (no_room ws' h' f') =
      let same = sheet-once ws ws' h h' in
      (ap (λ (l : List ℕ). Err (NoRoom (length l))) same, refl)
  one_answer (no_room ws h f) (refused w) = absurd (accepted-not-refused ws h w)
  one_answer (refused w) (list ws h f) = absurd (accepted-not-refused ws h w)
  one_answer (refused w) (no_room ws h f) = absurd (accepted-not-refused ws h w)
  one_answer (refused w) (refused w') = (ap Err (one-refusal w w'), refl)

  -- what the writer of one of the editions gives
  pub record GivesIn (ws s : List ℕ) : Type 0 where
    pub edition : Edition
    pub among : Among Es edition
    pub gives : Gives edition ws s

  pub sheet-gives-in : (ws s : List ℕ) → SheetIn Es ws s → GivesIn ws s
  sheet-gives-in ws s h = record { edition = h.edition; among = h.among; gives = sheet-gives h.edition ws s h.sheet }

  pub gives-in-sheet : (ws s : List ℕ) → GivesIn ws s → SheetIn Es ws s
  gives-in-sheet ws s g = record { edition = g.edition; among = g.among; sheet = gives-sheet g.edition ws s g.gives }

  -- A sheet is accepted exactly when it is what the writer gives for some accepted list ..
  read-list : {s held left : List ℕ} {r : Result ℕ Refusal} {n : ℕ} → Reads Es s held r left → r ≡ Ok n → (ws : List ℕ) × (SheetIn Es ws s × ((length ws ≡ n) × ((n ≤ length held) × (left ≡ ws ++ drop n held))))
  read-list {held = held} {n = n} (list ws h f) e =
      let same : length ws ≡ n = cc in
      (ws, (h, (same, (omega (arith, same), ap (λ (k : ℕ). ws ++ drop k held) same))))
  read-list (no_room ws h f) e = absurd (let z : ◌≡◌ {A = ℕ} 0 1 = cc in omega arith)
  read-list (refused w) e = absurd (let z : ◌≡◌ {A = ℕ} 0 1 = cc in omega arith)

  pub list-fits : {s held left : List ℕ} {r : Result ℕ Refusal} {n : ℕ} → Reads Es s held r left → r ≡ Ok n → n ≤ length held
  list-fits x e = (read-list x e).1.1.1.0

  pub accepted-exactly : (s held : List ℕ) (n : ℕ) → ((left : List ℕ) × Reads Es s held (Ok n) left) ↔ ((ws : List ℕ) × (GivesIn ws s × ((length ws ≡ n) × (n ≤ length held))))
  accepted-exactly s held n = (accepted, given)
    where
      accepted : ((left : List ℕ) × Reads Es s held (Ok n) left) → (ws : List ℕ) × (GivesIn ws s × ((length ws ≡ n) × (n ≤ length held)))
      accepted a =
          let l = read-list a.1 refl in
          (l.0, (sheet-gives-in l.0 s l.1.0, (l.1.1.0, l.1.1.1.0)))

      given : ((ws : List ℕ) × (GivesIn ws s × ((length ws ≡ n) × (n ≤ length held)))) → (left : List ℕ) × Reads Es s held (Ok n) left
      given g =
          (g.0 ++ drop (length g.0) held, subst (λ (k : ℕ). Reads Es s held (Ok k) (g.0 ++ drop (length g.0) held)) g.1.1.0 (list g.0 (gives-in-sheet g.0 s g.1.0) (omega (arith, g.1.1))))

  -- .. and then gives that list.
  pub gives-that-list : {s held left : List ℕ} {n : ℕ} (ws : List ℕ) → GivesIn ws s → Reads Es s held (Ok n) left → (n ≡ length ws) × (take n left ≡ ws)
  gives-that-list {s} {held} {left} {n} ws g r =
      let l = read-list r refl in
      let same : l.0 ≡ ws = sheet-once l.0 ws l.1.0 (gives-in-sheet ws s g) in
      (sym l.1.1.0 ∙ ap length same, ap (take n) l.1.1.1.1 ∙ take_at l.0 (drop n held) n l.1.1.0 ∙ same)

  -- The same of the buffers: what an accepted call of the writer leaves in front, handed to the reader with room, gives the list back.
  pub handed-on : (E : Edition) → Among Es E → {ws held left : List ℕ} {n : ℕ} → Words ws → Writes E ws held (Ok n) left → {held' left' : List ℕ} {r : Result ℕ Refusal} → length ws ≤ length held'
      → Reads Es (take n left) held' r left' → (r ≡ Ok (length ws)) × (take (length ws) left' ≡ ws)
  handed-on E k {ws} {held} {left} {n} w c {held'} {left'} {r} room x =
      let h = written-sheet E ws n (length held) w (sym c.answer) in
      let front : take n left ≡ sheet E ws = ap (take n) c.contents ∙ take_at (sheet E ws) (drop n held) n (sym h.1) in
      let sheet-in : SheetIn Es ws (sheet E ws) = record { edition = E; among = k; sheet = h.0 } in
      let once = one_answer (list ws sheet-in room) (subst (λ (s : List ℕ). Reads Es s held' r left') front x) in
      (sym once.0, ap (take (length ws)) (sym once.1) ∙ take_at ws (drop (length ws) held') (length ws) refl)

  -- 26 carries the most whole lines that some accepted sheet begins with: those lines begin one, and one line more begins none.
  read-refused : {s held left : List ℕ} {r : Result ℕ Refusal} {k : ℕ} → Reads Es s held r left → r ≡ Err (BadSheet k) → MostLines Es s k
  read-refused (list ws h f) e = absurd (let z : ◌≡◌ {A = ℕ} 0 1 = cc in omega arith)
  read-refused (no_room ws h f) e = absurd (let z : ◌≡◌ {A = ℕ} 0 1 = cc in omega arith)
  read-refused (refused (edition o)) e = absurd (let z : ◌≡◌ {A = ℕ} 0 1 = cc in omega arith)
  read-refused {s} {k = k} (refused (bad {k = k'} n h m)) e =
      let same : k' ≡ k = cc in
      subst (MostLines Es s) same m

  pub most-lines-exactly : {s held left : List ℕ} {k : ℕ} → Reads Es s held (Err (BadSheet k)) left → Begins Es s k × (Begins Es s (suc k) → ⊥)
  most-lines-exactly {k = k} r =
      let m = read-refused r refl in
      (m.begins, λ b. omega (arith, m.most (suc k) b))

  -- The first line by itself decides on 27, whatever follows it ..
  pub first-line-decides : (number limit : ℕ) (rest : List ℕ) {held left : List ℕ} {r : Result ℕ Refusal} → ((E : Edition) → Among Es E → number ≡ E.number → ⊥) → Reads Es (text (Gaps number limit) ++ rest) held r left
      → (r ≡ Err (SheetEdition (shown number))) × (left ≡ held)
  first-line-decides number limit rest {held} {left} {r} h x =
      let once = one_answer (refused (edition (record { opens = record { limit = limit; rest = rest; first = refl }; other = h }))) x in
      (sym once.0, sym once.1)

  -- .. and nothing else is refused so.
  pub only-editions : {s held left : List ℕ} {n : ℕ} → Reads Es s held (Err (SheetEdition n)) left → (number : ℕ) × (OtherEdition Es s number × (n ≡ shown number))
  only-editions {s} {held} {left} {n} x = go x refl
    where
      go : {r : Result ℕ Refusal} {left : List ℕ} → Reads Es s held r left → r ≡ Err (SheetEdition n) → (number : ℕ) × (OtherEdition Es s number × (n ≡ shown number))
      go (list ws h f) e = absurd (let z : ◌≡◌ {A = ℕ} 0 1 = cc in omega arith)
      go (no_room ws h f) e = absurd (let z : ◌≡◌ {A = ℕ} 0 1 = cc in omega arith)
      go (refused (edition {number} o)) e =
          let same : shown number ≡ n = cc in
          (number, (o, sym same))
      go (refused (bad m h k)) e = absurd (let z : ◌≡◌ {A = ℕ} 0 1 = cc in omega arith)
