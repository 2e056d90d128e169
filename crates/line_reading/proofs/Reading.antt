-- What the bytes at a place say of the line that begins there: one law for each way in which reading it ends. Assumes nothing.
use mathlib.Core.Path.{◌≡◌, refl, sym, ap, subst, ◌∙◌}
use mathlib.Core.Bool.{Bool, true, false}
use mathlib.Core.List.{List, [], ◌∷◌, ◌++◌, append_assoc}
use Prim.Native.Nat.{ℕ, ◌+◌, ◌-◌, ◌<◌, ◌≤◌}
use native.Mathlib.Omega.{arith}
use native.Mathlib.Numerals.{add-one}
use lib.ListN.{length, drop, get_or, length-drop, get_or-eq_default, drop_of_length-le}
use lib.Seq.{drop-cons, drop-drop, get_or-drop}
use borrow.Author.Tests.{ltb-true, ltb-false}
use lib.Dec.{ltb, eqb}
use Rattle.wire.specs.Bytes.{byte_at}
use Rattle.decimal.specs.Decimal.{is_digit, numeral, capped, Begins, NumberAt, number, none as no_number}
use Rattle.std.specs.List.{slice_range, starts_with}
use Rattle.std.proofs.lemmas.List.{take_all}
use Rattle.std.proofs.lemmas.Slice.Eq.{starts_is}
use Rattle.std.proofs.lemmas.Bool.Decides.{Decides-eqb}
use Rattle.sheet_line.proofs.Bodies.{text-some}
use Rattle.std.specs.Prelude.{Option, Some, None, IsSomeAnd}
use Rattle.decimal.specs.declared.Number.{Number}
use Rattle.decimal.proofs.Decimals.{begins-once}
use Rattle.sheet_line.specs.Text.{tab, line_feed, gaps, one, run, end, ended, text}
use Rattle.line_reading.specs.Reading.{told, LineAt, line, nothing, FieldAt, field, none, NumbersAt, single, pair, neither, MakesOfOne, MakesOfTwo}
use Rattle.sheet_line.specs.declared.Line.{Line}
use Rattle.sheet_line.specs.declared.Line.TheVariants.{Gaps, One, Run, End}
use Rattle.line_reading.specs.declared.Numbers.{Numbers}
use Rattle.line_reading.specs.declared.Found.{Found}
use Rattle.sheet_line.proofs.Lines.{ended-first, ended-more, ended-none, ended-once, word, numbers, text-is, Alike, word-once, text-once}

-- the byte at a place and what follows it
module _ (s : List ℕ) (i v : ℕ) where
  pub inside : byte_at s i ≡ v → 0 < v → i < length s
  inside e h = go (ltb i (length s)) refl
    where
      go : (b : Bool) → ltb i (length s) ≡ b → i < length s
      go true l = ltb-true i (length s) l
      go false l = absurd (omega (arith, get_or-eq_default s 0 {n = i} (ltb-false i (length s) l)))

  pub byte-here : byte_at s i ≡ v → 0 < v → drop i s ≡ v ∷ drop (i + 1) s
  byte-here e h = drop-cons s i 0 (inside e h) ∙ (λ k. e k ∷ drop (sym (add-one i) k) s)

  pub byte-first : {bs : List ℕ} → drop i s ≡ v ∷ bs → byte_at s i ≡ v
  byte-first e =
      let same : i + 0 ≡ i = omega arith in
      ap (λ (k : ℕ). get_or s k 0) (sym same) ∙ sym (get_or-drop i s 0 0) ∙ ap (λ (l : List ℕ). get_or l 0 0) e

-- the numbers from a place on begin with a tab, and none with a line feed
module _ (s : List ℕ) (i : ℕ) where
  pub tab-first : (n : ℕ) (ns rest : List ℕ) → drop i s ≡ ended (n ∷ ns) ++ rest → byte_at s i ≡ tab
  tab-first n ns rest e = byte-first s i tab (e ∙ ended-more n ns rest)

  pub feed-first : (rest : List ℕ) → drop i s ≡ ended [] ++ rest → byte_at s i ≡ line_feed
  feed-first rest e = byte-first s i line_feed (e ∙ ended-none rest)

  pub feed-here : byte_at s i ≡ line_feed → drop i s ≡ ended [] ++ drop (i + 1) s
  feed-here e = byte-here s i line_feed e (omega arith) ∙ sym (ended-none (drop (i + 1) s))

-- a tab at a place and a number after it
pub record Field (s : List ℕ) (at n next : ℕ) : Type 0 where
  pub reached : next ≤ length s
  pub here : drop at s ≡ tab ∷ (numeral n ++ drop next s)
  pub ends : is_digit (byte_at (drop next s) 0) ≡ false

module _ (s : List ℕ) (at : ℕ) where
  after-tab : (n : ℕ) (ns rest : List ℕ) → drop at s ≡ ended (n ∷ ns) ++ rest → Begins (drop (at + 1) s) n (ended ns ++ rest)
  after-tab n ns rest e =
      record { text = sym (drop-drop 1 at s) ∙ ap (drop 1) (e ∙ ended-more n ns rest); ends = ended-first ns rest }

  pub field-untabbed : (byte_at s at ≡ tab → ⊥) → FieldAt s at None
  field-untabbed h = none (λ n ns rest e. h (tab-first s at n ns rest e))

  pub field-number : {r : Option Number} → byte_at s at ≡ tab → NumberAt s (at + 1) r → FieldAt s at r
  field-number t (number n h b) = field n h (byte-here s at tab t (omega arith) ∙ ap (λ (l : List ℕ). tab ∷ l) b.text) b.ends
  field-number t (no_number h) = none (λ n ns rest e. h n (ended ns ++ rest) (after-tab n ns rest e))

  field-read : {r : Option Number} {f : Number} → FieldAt s at r → r ≡ Some f → (n : ℕ) × ((f.value ≡ capped n) × Field s at n f.next)
  field-read {f = f} (field n {next} h here ends) e =
      let value : capped n ≡ f.value = cc in
      let place : next ≡ f.next = cc in
      (n, (sym value, subst (Field s at n) place (record { reached = h; here = here; ends = ends })))
  field-read (none h) e = absurd (let z : ◌≡◌ {A = ℕ} 0 1 = cc in omega arith)

  field-then : {n next : ℕ} → Field s at n next → (m : ℕ) (ms rest : List ℕ) → drop at s ≡ ended (m ∷ ms) ++ rest → drop next s ≡ ended ms ++ rest
  field-then {n} {next} f m ms rest e =
      let here : Begins (drop (at + 1) s) n (drop next s) = record { text = sym (drop-drop 1 at s) ∙ ap (drop 1) f.here; ends = f.ends } in
      (begins-once here (after-tab m ms rest e)).1

  field-ended : {n next : ℕ} → Field s at n next → (ms rest : List ℕ) → drop next s ≡ ended ms ++ rest → drop at s ≡ ended (n ∷ ms) ++ rest
  field-ended {n} {next} f ms rest e = f.here ∙ ap (λ (l : List ℕ). tab ∷ (numeral n ++ l)) e ∙ sym (ended-more n ms rest)

  unread : {r : Option Number} → FieldAt s at r → r ≡ None → (m : ℕ) (ms rest : List ℕ) → drop at s ≡ ended (m ∷ ms) ++ rest → ⊥
  unread (field n h here ends) e m ms rest q = let z : ◌≡◌ {A = ℕ} 0 1 = cc in omega arith
  unread (none h) e m ms rest q = h m ms rest q

  -- no number after a tab
  pub numbers-unread : {r : Option Number} → FieldAt s at r → r ≡ None → NumbersAt s at None
  numbers-unread a e = neither (λ n rest q. unread a e n [] rest q) (λ n m rest q. unread a e n (m ∷ []) rest q)

  -- a number, and a line feed or not
  module _ {r : Option Number} {f : Number} (a : FieldAt s at r) (e : r ≡ Some f) where
    not-single : (byte_at s f.next ≡ line_feed → ⊥) → (n : ℕ) (rest : List ℕ) → drop at s ≡ ended (n ∷ []) ++ rest → ⊥
    not-single h n rest q = h (feed-first s f.next rest (field-then (field-read a e).1.1 n [] rest q))

    pub numbers_single : byte_at s f.next ≡ line_feed → NumbersAt s at (Some (record { first = f.value; second = None; next = f.next + 1 }))
    numbers_single h =
        let g = field-read a e in
        subst (λ (w : ℕ). NumbersAt s at (Some (record { first = w; second = None; next = f.next + 1 }))) (sym g.1.0)
        (single g.0 (omega (arith, inside s f.next line_feed h (omega arith))) (field-ended g.1.1 [] (drop (f.next + 1) s) (feed-here s f.next h)))

-- .. and the second number
module _ (s : List ℕ) (at : ℕ) {r r' : Option Number} {f : Number} (a : FieldAt s at r) (e : r ≡ Some f) (b : FieldAt s f.next r') where
  no-second : (byte_at s f.next ≡ line_feed → ⊥) → ((m : ℕ) (rest : List ℕ) → drop f.next s ≡ ended (m ∷ []) ++ rest → ⊥) → NumbersAt s at None
  no-second h unfound =
      neither (not-single s at a e h) (λ n m rest q. unfound m rest (field-then s at (field-read s at a e).1.1 n (m ∷ []) rest q))

  pub numbers-second-unread : (byte_at s f.next ≡ line_feed → ⊥) → r' ≡ None → NumbersAt s at None
  numbers-second-unread h e' = no-second h (λ m rest q. unread s f.next b e' m [] rest q)

  module _ {f' : Number} (e' : r' ≡ Some f') where
    pub numbers-unended : (byte_at s f.next ≡ line_feed → ⊥) → (byte_at s f'.next ≡ line_feed → ⊥) → NumbersAt s at None
    numbers-unended k h = no-second k (not-single s f.next b e' h)

    pub numbers-pair : byte_at s f'.next ≡ line_feed → NumbersAt s at (Some (record { first = f.value; second = Some f'.value; next = f'.next + 1 }))
    numbers-pair h =
        let g = field-read s at a e in
        let g' = field-read s f.next b e' in
        rw (g.1.0, g'.1.0) (pair g.0 g'.0 {next = f'.next + 1} (omega (arith, inside s f'.next line_feed h (omega arith)))
        (field-ended s at g.1.1 (g'.0 ∷ []) (drop (f'.next + 1) s) (field-ended s f.next g'.1.1 [] (drop (f'.next + 1) s) (feed-here s f'.next h))))

-- what is left of a sheet from a place on begins with a word, or not
module _ (s : List ℕ) (at : ℕ) {rest : List ℕ} (part : rest ≡ slice_range s at (length s)) (w : List ℕ) {b : Bool} (test : b ≡ starts_with eqb rest w) where
  from-here : rest ≡ drop at s
  from-here = part ∙ take_all (length s - at) (drop at s) (omega (arith, length-drop at s))

  pub word-here : b ≡ true → drop at s ≡ w ++ drop (at + length w) s
  word-here h =
      sym from-here
      ∙ (starts_is Decides-eqb rest w b test).0 h
      ∙ ap (λ (l : List ℕ). w ++ drop (length w) l) from-here
      ∙ ap (λ (l : List ℕ). w ++ l) (drop-drop (length w) at s)

  pub no-word : b ≡ false → (x : List ℕ) → drop at s ≡ w ++ x → ⊥
  no-word h x e = let z : true ≡ false = sym ((starts_is Decides-eqb rest w b test).1 x (from-here ∙ e)) ∙ h in absurd (let y : ◌≡◌ {A = ℕ} 0 1 = cc in omega arith)

-- past the end of a sheet no line begins
pub no-rest : (s : List ℕ) (at : ℕ) → length s < at → LineAt s at None
no-rest s at h = nothing (λ l x e. text-some l x (sym e ∙ drop_of_length-le s (omega arith)))

-- what follows a word that begins a place, where `l` is a line of that word
module _ (s : List ℕ) (at : ℕ) {rest : List ℕ} (part : rest ≡ slice_range s at (length s)) (w : List ℕ) {b : Bool} (test : b ≡ starts_with eqb rest w) (h : b ≡ true) where
  abbrev from : List ℕ
  from = drop (at + length w) s

  begun : (l k : Line) (tail : List ℕ) → word l ≡ w → drop at s ≡ text k ++ tail → Alike l k × (from ≡ ended (numbers k) ++ tail)
  begun l k tail q e = word-once l k tail (ap (λ (x : List ℕ). x ++ from) q ∙ sym (word-here s at part w test h) ∙ e)

  -- no numbers
  pub word-none : (l : Line) → word l ≡ w → {ns : Option Numbers} → NumbersAt s (at + length w) ns → ns ≡ None → LineAt s at None
  word-none l q (single n k f) e = absurd (let z : ◌≡◌ {A = ℕ} 0 1 = cc in omega arith)
  word-none l q (pair n m k f) e = absurd (let z : ◌≡◌ {A = ℕ} 0 1 = cc in omega arith)
  word-none l q (neither f g) e = nothing go
    where
      go : (k : Line) (tail : List ℕ) → drop at s ≡ text k ++ tail → ⊥
      go (Gaps n m) tail t = g n m tail (begun l (Gaps n m) tail q t).1
      go (One n) tail t = f n tail (begun l (One n) tail q t).1
      go (Run n m) tail t = g n m tail (begun l (Run n m) tail q t).1
      go (End n) tail t = f n tail (begun l (End n) tail q t).1

  -- more numbers than the word takes, or fewer
  word-other : (l : Line) → word l ≡ w → (ns after : List ℕ) → (length ns ≡ length (numbers l) → ⊥) → from ≡ ended ns ++ after → {r : Option Found} → r ≡ None → LineAt s at r
  word-other l q ns after many f missing =
      subst (LineAt s at) (sym missing) (nothing (λ k tail t.
      let b = begun l k tail q t in
      many (ap length (ended-once ns (numbers k) (sym f ∙ b.1)).0 ∙ sym b.0.many)))

  -- its numbers, of which a line is made
  word-made : (l : Line) → word l ≡ w → {next : ℕ} → next ≤ length s → from ≡ ended (numbers l) ++ drop next s
      → (P : Line → Type 0) → ((k : Line) → P k → k ≡ told l) → (r : Option Found) → IsSomeAnd r (λ f. P f.line × (f.next ≡ next)) → LineAt s at r
  word-made l q {next} k f P tell None made = absurd made
  word-made l q {next} k f P tell (Some found) made =
      let whole : drop at s ≡ text l ++ drop next s =
      word-here s at part w test h
      ∙ (λ i. sym q i ++ f i)
      ∙ sym (append_assoc (word l) (ended (numbers l)) (drop next s))
      ∙ ap (λ (x : List ℕ). x ++ drop next s) (sym (text-is l)) in
      let same : told l ≡ found.line = sym (tell found.line made.0) in
      subst (LineAt s at) (λ i. Some (record { line = same i; next = sym made.1 i })) (line l k whole)

  pub word-of-one : (made : ℕ → Line) → ((n : ℕ) → (word (made n) ≡ w) × ((numbers (made n) ≡ n ∷ []) × (told (made n) ≡ made (capped n))))
      → {ns : Option Numbers} {is : Numbers} {makes : ℕ → Line → Type 0} {r : Option Found} → NumbersAt s (at + length w) ns → ns ≡ Some is
      → MakesOfOne makes is r → ((n : ℕ) (l : Line) → makes n l → l ≡ made n) → LineAt s at r
  word-of-one made of {is = is} {makes = makes} {r = r} (single n {next} k f) e found tell =
      let same : is ≡ record { first = capped n; second = None; next = next } = cc in
      word-made (made n) (of n).0 k (f ∙ ap (λ (x : List ℕ). ended x ++ drop next s) (sym (of n).1.0))
      (makes (capped n)) (λ l q. tell (capped n) l q ∙ sym (of n).1.1) r (subst (λ (x : Numbers). MakesOfOne makes x r) same found).made
  word-of-one made of {is = is} {makes = makes} {r = r} (pair n m {next} k f) e found tell =
      let same : is ≡ record { first = capped n; second = Some (capped m); next = next } = cc in
      word-other (made 0) (of 0).0 (n ∷ m ∷ []) (drop next s) (λ many. omega (arith, many, ap length (of 0).1.0)) f (subst (λ (x : Numbers). MakesOfOne makes x r) same found).made
  word-of-one made of (neither f g) e found tell = absurd (let z : ◌≡◌ {A = ℕ} 0 1 = cc in omega arith)

  pub word-of-two : (made : ℕ → ℕ → Line) → ((n m : ℕ) → (word (made n m) ≡ w) × ((numbers (made n m) ≡ n ∷ m ∷ []) × (told (made n m) ≡ made (capped n) (capped m))))
      → {ns : Option Numbers} {is : Numbers} {makes : ℕ → ℕ → Line → Type 0} {r : Option Found} → NumbersAt s (at + length w) ns → ns ≡ Some is
      → MakesOfTwo makes is r → ((n m : ℕ) (l : Line) → makes n m l → l ≡ made n m) → LineAt s at r
  word-of-two made of {is = is} {makes = makes} {r = r} (single n {next} k f) e found tell =
      let same : is ≡ record { first = capped n; second = None; next = next } = cc in
      word-other (made 0 0) (of 0 0).0 (n ∷ []) (drop next s) (λ many. omega (arith, many, ap length (of 0 0).1.0)) f (subst (λ (x : Numbers). MakesOfTwo makes x r) same found).made
  word-of-two made of {is = is} {makes = makes} {r = r} (pair n m {next} k f) e found tell =
      let same : is ≡ record { first = capped n; second = Some (capped m); next = next } = cc in
      word-made (made n m) (of n m).0 k (f ∙ ap (λ (x : List ℕ). ended x ++ drop next s) (sym (of n m).1.0))
      (makes (capped n) (capped m)) (λ l q. tell (capped n) (capped m) l q ∙ sym (of n m).1.1) r (subst (λ (x : Numbers). MakesOfTwo makes x r) same found).made
  word-of-two made of (neither f g) e found tell = absurd (let z : ◌≡◌ {A = ℕ} 0 1 = cc in omega arith)

-- none of the four words
module _ (s : List ℕ) (at : ℕ) {rest : List ℕ} (part : rest ≡ slice_range s at (length s)) where
  pub no_line : {b c d f : Bool} → b ≡ starts_with eqb rest one → b ≡ false → c ≡ starts_with eqb rest run → c ≡ false → d ≡ starts_with eqb rest end → d ≡ false
      → f ≡ starts_with eqb rest gaps → f ≡ false → LineAt s at None
  unfolding text
  no_line to o tr r te e tg g = nothing go
    where
      go : (l : Line) (x : List ℕ) → drop at s ≡ text l ++ x → ⊥
      go (Gaps n m) x q = no-word s at part gaps tg g (ended (n ∷ m ∷ []) ++ x) (q ∙ append_assoc gaps (ended (n ∷ m ∷ [])) x)
      go (One n) x q = no-word s at part one to o (ended (n ∷ []) ++ x) (q ∙ append_assoc one (ended (n ∷ [])) x)
      go (Run n m) x q = no-word s at part run tr r (ended (n ∷ m ∷ []) ++ x) (q ∙ append_assoc run (ended (n ∷ m ∷ [])) x)
      go (End n) x q = no-word s at part end te e (ended (n ∷ []) ++ x) (q ∙ append_assoc end (ended (n ∷ [])) x)

-- a place has one answer
next-once : (s : List ℕ) (i j : ℕ) → i ≤ length s → j ≤ length s → drop i s ≡ drop j s → i ≡ j
next-once s i j h k e = omega (arith, ap length e, length-drop i s, length-drop j s)

pub line-once : (s : List ℕ) (at : ℕ) {r r' : Option Found} → LineAt s at r → LineAt s at r' → r ≡ r'
line-once s at (line l {next} h e) (line l' {next = next'} h' e') =
    let once = text-once l l' (sym e ∙ e') in
    λ i. Some (record { line = told (once.0 i); next = next-once s next next' h h' once.1 i })
line-once s at (line l {next} h e) (nothing n) = absurd (n l (drop next s) e)
line-once s at (nothing n) (line l {next} h e) = absurd (n l (drop next s) e)
line-once s at (nothing n) (nothing n') = refl
