-- What a second edition changes for those who read sheets, whichever two editions they are; then the two that are read. Their numbers
-- and limits are looked at here alone. Assumes nothing.
use Rattle.std.specs.Prelude.{Result, Ok, Err}
use mathlib.Core.Path.{◌≡◌, refl, sym, ap, subst, ◌∙◌}
use mathlib.Core.List.{List, [], ◌∷◌, ◌++◌}
use mathlib.Core.Logic.{◌↔◌, inl, inr}
use Prim.Native.Nat.{ℕ, zero, suc, ◌^◌, ◌<◌, ◌≤◌}
use native.Mathlib.Omega.{arith}
use lib.ListN.{length}
use Rattle.refusal.specs.declared.Refusal.{Refusal}
use Rattle.refusal.specs.declared.Refusal.TheVariants.{SheetEdition}
use Rattle.loss_list.specs.Run.{limit}
use Rattle.sheet_line.specs.Text.{text}
use Rattle.sheet_line.specs.declared.Line.{Line}
use Rattle.sheet.specs.Sheet.{Edition, first_line, texts, first_edition, edition, editions}
use Rattle.sheet.specs.Reading.{Among, SheetOf, SheetIn, Opens, OtherEdition, WholeLines, none, shown, Begins, Refuses, edition as other-edition, bad, Reads, list, no_room, refused}
use Rattle.sheet.specs.Lines.{codes, counts}
use Rattle.sheet.proofs.Listed.{all, lined-sheet, sheet-lined}
use Rattle.sheet.proofs.Top.{next-line}
use Rattle.sheet.proofs.Verdicts.{opens-once}
use Rattle.sheet.proofs.Theorems.{sheet-opens, Gives, GivesIn, gives-sheet, accepted-exactly, first-line-decides}

-- whole lines of a sheet, if there are any, are begun by its first
begun-opens : (E : Edition) (ws : List ℕ) (k : ℕ) (top rest other : List ℕ) → WholeLines (suc k) top → SheetOf E ws (top ++ other) → Opens E.number (top ++ rest)
unfolding texts
begun-opens E ws k top rest other w h =
    let l = sheet-lined E ws h in
    let next = next-line [] (all E l.0) (suc k) top rest other (top ++ rest) w (omega arith) refl l.1.0.written in
    let goes_on = next.goes_on in
    let same : next.line ≡ first_line E = cc in
    record { limit = E.most; rest = next.rest; first = next.shared ∙ ap (λ (m : Line). text m ++ next.rest) same }

-- what begins as some sheet of some editions begins as one of others, where that sheet is theirs too
begins-as : {Es Fs : List Edition} {s : List ℕ} {k : ℕ} (b : Begins Es s k) → SheetIn Fs b.list (b.top ++ b.other) → Begins Fs s k
begins-as b h = record { top = b.top; whole = b.whole; rest = b.rest; here = b.here; list = b.list; other = b.other; there = h }

module _ (old new : Edition) where
  abbrev older : List Edition
  older = old ∷ []

  abbrev both : List Edition
  both = old ∷ new ∷ []

  among-both : {E : Edition} → Among older E → Among both E
  among-both (inl e) = inl e
  among-both (inr n) = absurd n

  sheet-both : {ws s : List ℕ} → SheetIn older ws s → SheetIn both ws s
  sheet-both h = record { edition = h.edition; among = among-both h.among; sheet = h.sheet }

  -- some sheet of the older edition begins with no line
  begins-none : (s : List ℕ) → Begins older s 0
  unfolding counts
  begins-none s =
      record {
        top = [];
        whole = none;
        rest = s;
        here = refl;
        list = codes [];
        other = texts (all old []);
        there = record { edition = old; among = inl refl; sheet = lined-sheet old [] (record { all-items = tt; fits = omega arith; written = refl }) };
      }

  -- On bytes that do not begin with a first line of the new edition the reader of both is the older one: it answers the same ..
  module _ {s : List ℕ} (not_new : Opens new.number s → ⊥) where
    sheet-older : {ws : List ℕ} → SheetIn both ws s → SheetIn older ws s
    sheet-older {ws} h = go h.among
      where
        go : Among both h.edition → SheetIn older ws s
        go (inl e) = record { edition = h.edition; among = inl e; sheet = h.sheet }
        go (inr (inl e)) = absurd (not_new (subst (λ (E : Edition). Opens E.number s) e (sheet-opens h.edition ws h.sheet)))
        go (inr (inr n)) = absurd n

    other-both : {number : ℕ} → OtherEdition older s number → OtherEdition both s number
    other-both {number} o = record { opens = o.opens; other = go }
      where
        go : (E : Edition) → Among both E → number ≡ E.number → ⊥
        go E (inl e) q = o.other E (inl e) q
        go E (inr (inl e)) q = not_new (subst (λ (n : ℕ). Opens n s) (q ∙ ap (λ (F : Edition). F.number) e) o.opens)
        go E (inr (inr n)) q = n

    other-older : {number : ℕ} → OtherEdition both s number → OtherEdition older s number
    other-older o = record { opens = o.opens; other = λ E k. o.other E (among-both k) }

    begins-both : {k : ℕ} → Begins older s k → Begins both s k
    begins-both b = begins-as b (sheet-both b.there)

    begins-older : (k : ℕ) → Begins both s k → Begins older s k
    begins-older zero b = begins-none s
    begins-older (suc k) b = go b.there.among
      where
        go : Among both b.there.edition → Begins older s (suc k)
        go (inl e) = begins-as b (record { edition = b.there.edition; among = inl e; sheet = b.there.sheet })
        go (inr (inl e)) =
            let opens = begun-opens b.there.edition b.list k b.top b.rest b.other b.whole b.there.sheet in
            absurd (not_new (subst (Opens new.number) (sym b.here) (subst (λ (E : Edition). Opens E.number (b.top ++ b.rest)) e opens)))
        go (inr (inr n)) = absurd n

    refuses-both : {r : Refusal} → Refuses older s r → Refuses both s r
    refuses-both (other-edition o) = other-edition (other-both o)
    refuses-both (bad n h m) =
        bad (λ number o. n number (other-older o)) (λ ws k. h ws (sheet-older k)) (record { begins = begins-both m.begins; most = λ j b. m.most j (begins-older j b) })

    refuses-older : {r : Refusal} → Refuses both s r → Refuses older s r
    refuses-older (other-edition o) = other-edition (other-older o)
    refuses-older (bad {k} n h m) =
        bad (λ number o. n number (other-both o)) (λ ws k. h ws (sheet-both k)) (record { begins = begins-older k m.begins; most = λ j b. m.most j (begins-both b) })

    reads_both : {held left : List ℕ} {r : Result ℕ Refusal} → Reads older s held r left → Reads both s held r left
    reads_both (list ws h f) = list ws (sheet-both h) f
    reads_both (no_room ws h f) = no_room ws (sheet-both h) f
    reads_both (refused w) = refused (refuses-both w)

    reads-older : {held left : List ℕ} {r : Result ℕ Refusal} → Reads both s held r left → Reads older s held r left
    reads-older (list ws h f) = list ws (sheet-older h) f
    reads-older (no_room ws h f) = no_room ws (sheet-older h) f
    reads-older (refused w) = refused (refuses-older w)

    pub answers-as-older : {held left : List ℕ} {r : Result ℕ Refusal} → Reads both s held r left ↔ Reads older s held r left
    answers-as-older = (reads-older, reads_both)

  given-old : {ws s : List ℕ} → GivesIn older ws s → Gives old ws s
  given-old {ws} {s} g = go g.among
    where
      go : Among older g.edition → Gives old ws s
      go (inl e) = subst (λ (E : Edition). Gives E ws s) e g.gives
      go (inr n) = absurd n

  module _ (apart : old.number ≡ new.number → ⊥) where
    -- .. so that a sheet of the old edition is accepted exactly when the writer of that edition could have given it.
    pub old-exactly : {s : List ℕ} (held : List ℕ) (n : ℕ) → Opens old.number s
        → ((left : List ℕ) × Reads both s held (Ok n) left) ↔ ((ws : List ℕ) × (Gives old ws s × ((length ws ≡ n) × (n ≤ length held))))
    old-exactly {s} held n o = (accepted, given)
      where
        not_new : Opens new.number s → ⊥
        not_new p = apart (opens-once o p)

        accepted : ((left : List ℕ) × Reads both s held (Ok n) left) → (ws : List ℕ) × (Gives old ws s × ((length ws ≡ n) × (n ≤ length held)))
        accepted a =
            let g = (accepted-exactly older s held n).0 (a.0, reads-older not_new a.1) in
            (g.0, (given-old g.1.0, g.1.1))

        given : ((ws : List ℕ) × (Gives old ws s × ((length ws ≡ n) × (n ≤ length held)))) → (left : List ℕ) × Reads both s held (Ok n) left
        given g =
            let a = (accepted-exactly older s held n).1 (g.0, (record { edition = old; among = inl refl; gives = g.1.0 }, g.1.1)) in
            (a.0, reads_both not_new a.1)

    -- An older reader refuses a sheet of the new edition by its number, and shows no part of it.
    pub new-refused : {s held left : List ℕ} {r : Result ℕ Refusal} → Opens new.number s → Reads older s held r left → (r ≡ Err (SheetEdition (shown new.number))) × (left ≡ held)
    new-refused {held = held} {left = left} {r = r} o x =
        first-line-decides older new.number o.limit o.rest other (subst (λ (t : List ℕ). Reads older t held r left) o.first x)
      where
        other : (E : Edition) → Among older E → new.number ≡ E.number → ⊥
        other E (inl e) q = apart (sym (q ∙ ap (λ (F : Edition). F.number) e))
        other E (inr n) q = n

-- the two that are read have numbers and limits of 32 bits ..
abbrev pub Small : Edition → Type 0
Small E = (E.number < 2 ^ 32) × (E.most < 2 ^ 32)

pub edition-small : (E : Edition) → Among editions E → Small E
unfolding first_edition edition limit
edition-small E (inl e) = subst Small (sym e) (omega arith, omega arith)
edition-small E (inr (inl e)) = subst Small (sym e) (omega arith, omega arith)
edition-small E (inr (inr n)) = absurd n

-- .. different numbers ..
editions-apart : first_edition.number ≡ edition.number → ⊥
unfolding first_edition edition
editions-apart e = omega (arith, e)

-- .. and so one limit each
pub one-limit : (E F : Edition) → Among editions E → Among editions F → E.number ≡ F.number → E.most ≡ F.most
one-limit E F (inl e) (inl f) q = ap (λ (G : Edition). G.most) (e ∙ sym f)
one-limit E F (inl e) (inr (inl f)) q = absurd (editions-apart (sym (ap (λ (G : Edition). G.number) e) ∙ q ∙ ap (λ (G : Edition). G.number) f))
one-limit E F (inr (inl e)) (inl f) q = absurd (editions-apart (sym (ap (λ (G : Edition). G.number) f) ∙ sym q ∙ ap (λ (G : Edition). G.number) e))
one-limit E F (inr (inl e)) (inr (inl f)) q = ap (λ (G : Edition). G.most) (e ∙ sym f)
one-limit E F (inl e) (inr (inr n)) q = absurd n
one-limit E F (inr (inl e)) (inr (inr n)) q = absurd n
one-limit E F (inr (inr n)) f q = absurd n

-- The reader answers as the one before it on whatever does not begin with a first line of edition 2.
pub answers-as-before : {s held left : List ℕ} {r : Result ℕ Refusal} → (Opens 2 s → ⊥) → Reads editions s held r left ↔ Reads (first_edition ∷ []) s held r left
unfolding edition
answers-as-before h = answers-as-older first_edition edition h

-- A sheet of edition 1 is accepted exactly when the writer of that edition, with its limit, could have given it.
pub first-edition-exactly : {s : List ℕ} (held : List ℕ) (n : ℕ) → Opens 1 s
    → ((left : List ℕ) × Reads editions s held (Ok n) left) ↔ ((ws : List ℕ) × (Gives first_edition ws s × ((length ws ≡ n) × (n ≤ length held))))
unfolding first_edition
first-edition-exactly held n o = old-exactly first_edition edition editions-apart held n o

-- A reader that knows edition 1 alone refuses edition 2 with 27 and shows no part of it, whatever stands on the sheet ..
pub older-reader-refuses : {s held left : List ℕ} {r : Result ℕ Refusal} → Opens 2 s → Reads (first_edition ∷ []) s held r left → (r ≡ Err (SheetEdition 2)) × (left ≡ held)
unfolding edition
older-reader-refuses o x = new-refused first_edition edition editions-apart o x

-- .. and so every sheet that is written now.
pub written-refused : {ws s held left : List ℕ} {r : Result ℕ Refusal} → Gives edition ws s → Reads (first_edition ∷ []) s held r left → (r ≡ Err (SheetEdition 2)) × (left ≡ held)
unfolding edition
written-refused {ws} {s} g x = older-reader-refuses (sheet-opens edition ws (gives-sheet edition ws s g)) x
