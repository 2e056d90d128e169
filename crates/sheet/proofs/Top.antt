-- Sheets line by line: what two of them have in common at their top is lines that they share, since a line is read in one way.
-- Assumes nothing.
use mathlib.Core.Path.{◌≡◌, refl, sym, ap, subst, ◌∙◌}
use mathlib.Core.List.{List, [], ◌∷◌, ◌++◌, append_assoc}
use Prim.Native.Nat.{ℕ, zero, suc, ◌<◌}
use native.Mathlib.Omega.{arith}
use lib.ListN.{length, length-append}
use Rattle.sheet_line.specs.Text.{line_feed, Unbroken, text}
use Rattle.sheet_line.specs.declared.Line.{Line}
use Rattle.sheet_line.proofs.Lines.{text-once}
use Rattle.sheet_line.proofs.Bodies.{Body, text-body, text-some}
use Rattle.sheet.specs.Sheet.{texts}
use Rattle.sheet.specs.Reading.{WholeLines, none, more}

pub texts-append : (ls ms : List Line) → texts (ls ++ ms) ≡ texts ls ++ texts ms
unfolding texts
texts-append [] ms = refl
texts-append (l ∷ ls) ms = ap (λ (t : List ℕ). text l ++ t) (texts-append ls ms) ∙ sym (append_assoc (text l) (texts ls) (texts ms))

-- lines that begin with the text of others begin with those lines
pub record Rest (ls ms : List Line) (r : List ℕ) : Type 0 where
  pub tail : List Line
  pub whole : ms ≡ ls ++ tail
  pub rest : r ≡ texts tail

rest_more : (l m : Line) (ls ms : List Line) (r : List ℕ) → l ≡ m → Rest ls ms r → Rest (l ∷ ls) (m ∷ ms) r
rest_more l m ls ms r e h = record { tail = h.tail; whole = λ i. sym e i ∷ h.whole i; rest = h.rest }

pub texts-begin : (ls ms : List Line) (r : List ℕ) → texts ms ≡ texts ls ++ r → Rest ls ms r
unfolding texts
texts-begin [] ms r e = record { tail = ms; whole = refl; rest = sym e }
texts-begin (l ∷ ls) [] r e = absurd (text-some l (texts ls ++ r) (sym (append_assoc (text l) (texts ls) r) ∙ sym e))
texts-begin (l ∷ ls) (m ∷ ms) r e =
    let once = text-once l m (sym (append_assoc (text l) (texts ls) r) ∙ sym e) in
    rest_more l m ls ms r once.0 (texts-begin ls ms r (sym once.1))

-- the same text is that of the same lines
pub texts-once : (ls ms : List Line) → texts ls ≡ texts ms → ls ≡ ms
unfolding texts
texts-once [] [] e = refl
texts-once [] (m ∷ ms) e = absurd (text-some m (texts ms) (sym e))
texts-once (l ∷ ls) [] e = absurd (text-some l (texts ls) e)
texts-once (l ∷ ls) (m ∷ ms) e =
    let once = text-once l m e in
    let rest = texts-once ls ms once.1 in
    λ i. once.0 i ∷ rest i

-- a sheet's lines are whole lines
whole-one : (s : List ℕ) (k : ℕ) (t : List ℕ) → Body s → WholeLines k t → WholeLines (suc k) (s ++ t)
whole-one s k t b w =
    subst (WholeLines (suc k)) (sym (ap (λ (l : List ℕ). l ++ t) b.feed ∙ append_assoc b.body (line_feed ∷ []) t)) (more b.body b.unbroken w)

pub whole-texts : (ls : List Line) → WholeLines (length ls) (texts ls)
unfolding texts
whole-texts [] = none
whole-texts (l ∷ ls) = whole-one (text l) (length ls) (texts ls) (text-body l) (whole-texts ls)

-- two texts are the same up to their first line feed
feed-once : (xs ys : List ℕ) {r r' : List ℕ} → Unbroken xs → Unbroken ys → xs ++ line_feed ∷ r ≡ ys ++ line_feed ∷ r' → (xs ≡ ys) × (r ≡ r')
feed-once [] [] u v e = (refl, cc)
feed-once [] (y ∷ ys) u v e = absurd (v.0 (let z : y ≡ line_feed = cc in z))
feed-once (x ∷ xs) [] u v e = absurd (u.0 (let z : x ≡ line_feed = cc in z))
feed-once (x ∷ xs) (y ∷ ys) {r} {r'} u v e =
    let head : x ≡ y = cc in
    let tail : xs ++ line_feed ∷ r ≡ ys ++ line_feed ∷ r' = cc in
    let rest = feed-once xs ys u.1 v.1 tail in
    ((λ i. head i ∷ rest.0 i), rest.1)

-- whole lines that stand in front of what begins with a line begin with that line
pub record Cut (l : Line) (k : ℕ) (t x y : List ℕ) : Type 0 where
  pub left : List ℕ
  pub cut : t ≡ text l ++ left
  pub whole : WholeLines k left
  pub rest : left ++ x ≡ y

pub whole-cut : (l : Line) (k : ℕ) {t : List ℕ} (x y : List ℕ) → WholeLines (suc k) t → t ++ x ≡ text l ++ y → Cut l k t x y
whole-cut l k x y (more b {t = t'} u w) e =
    let body = text-body l in
    let here : b ++ line_feed ∷ (t' ++ x) ≡ body.body ++ line_feed ∷ y =
    sym (append_assoc b (line_feed ∷ t') x) ∙ e ∙ ap (λ (s : List ℕ). s ++ y) body.feed ∙ append_assoc body.body (line_feed ∷ []) y in
    let once = feed-once b body.body u body.unbroken here in
    record {
      left = t';
      cut = ap (λ (s : List ℕ). s ++ line_feed ∷ t') once.0 ∙ sym (ap (λ (s : List ℕ). s ++ t') body.feed ∙ append_assoc body.body (line_feed ∷ []) t');
      whole = w;
      rest = once.1;
    }

-- more whole lines than ls has, shared by what begins with the lines ls and by the lines ms: ms goes on after ls, by a line that is shared too
pub record Next (ls ms : List Line) (r : List ℕ) : Type 0 where
  pub line : Line
  pub tail : List Line
  pub goes_on : ms ≡ ls ++ line ∷ tail
  pub rest : List ℕ
  pub shared : r ≡ text line ++ rest

next_more : (l m : Line) (ls ms : List Line) (r : List ℕ) → l ≡ m → Next ls ms r → Next (l ∷ ls) (m ∷ ms) r
next_more l m ls ms r e h =
    record { line = h.line; tail = h.tail; goes_on = λ i. sym e i ∷ h.goes_on i; rest = h.rest; shared = h.shared }

whole-some : {k : ℕ} {t : List ℕ} (y : List ℕ) → WholeLines (suc k) t → t ++ y ≡ [] → ⊥
whole-some y (more b {t = t'} u w) e =
    omega (arith, length-append (b ++ line_feed ∷ t') y, length-append b (line_feed ∷ t'), ap length e)

pub next-line : (ls ms : List Line) (k : ℕ) (t x y r : List ℕ) → WholeLines k t → length ls < k → t ++ x ≡ texts ls ++ r → t ++ y ≡ texts ms → Next ls ms r
unfolding texts
next-line ls ms zero t x y r w h e f = absurd (omega arith)
next-line [] [] (suc k) t x y r w h e f = absurd (whole-some y w f)
next-line [] (m ∷ ms) (suc k) t x y r w h e f =
    let c = whole-cut m k y (texts ms) w f in
    record { line = m; tail = ms; goes_on = refl; rest = c.left ++ x; shared = sym e ∙ ap (λ (s : List ℕ). s ++ x) c.cut ∙ append_assoc (text m) c.left x }
next-line (l ∷ ls) [] (suc k) t x y r w h e f = absurd (whole-some y w f)
next-line (l ∷ ls) (m ∷ ms) (suc k) t x y r w h e f =
    let c = whole-cut l k x (texts ls ++ r) w (e ∙ append_assoc (text l) (texts ls) r) in
    let once = text-once l m (sym (append_assoc (text l) c.left y) ∙ ap (λ (s : List ℕ). s ++ y) (sym c.cut) ∙ f) in
    next_more l m ls ms r once.0 (next-line ls ms k c.left x y r c.whole (omega arith) c.rest once.1)
