-- A line has one line feed, and that ends it. Assumes nothing.
use mathlib.Core.Path.{◌≡◌, refl, sym, ap, ◌∙◌}
use mathlib.Core.List.{List, [], ◌∷◌, ◌++◌, append_assoc}
use Prim.Native.Nat.{ℕ, ◌<◌}
use native.Mathlib.Omega.{arith}
use lib.ListN.{length, length-append}
use Rattle.decimal.specs.Decimal.{numeral}
use Rattle.decimal.proofs.Decimals.{AllDigits, digit-range, numeral-digits}
use Rattle.sheet_line.specs.Text.{tab, line_feed, Unbroken, gaps, one, run, end, ended, text}
use Rattle.sheet_line.specs.declared.Line.{Line}
use Rattle.sheet_line.specs.declared.Line.TheVariants.{Gaps, One, Run, End}

unbroken-append : (xs ys : List ℕ) → Unbroken xs → Unbroken ys → Unbroken (xs ++ ys)
unbroken-append [] ys f g = g
unbroken-append (x ∷ xs) ys f g = (f.0, unbroken-append xs ys f.1 g)

digits-unbroken : (ds : List ℕ) → AllDigits ds → Unbroken ds
digits-unbroken [] h = tt
digits-unbroken (d ∷ ds) h = ((λ e. omega (arith, digit-range d h.0)), digits-unbroken ds h.1)

-- what stands before the line feed
pub record Body (s : List ℕ) : Type 0 where
  pub body : List ℕ
  pub unbroken : Unbroken body
  pub feed : s ≡ body ++ line_feed ∷ []

body-after : (xs s : List ℕ) → Unbroken xs → Body s → Body (xs ++ s)
body-after xs s u b =
    record {
      body = xs ++ b.body;
      unbroken = unbroken-append xs b.body u b.unbroken;
      feed = ap (λ (l : List ℕ). xs ++ l) b.feed ∙ sym (append_assoc xs b.body (line_feed ∷ []));
    }

ended-body : (ns : List ℕ) → Body (ended ns)
unfolding ended
ended-body [] = record { body = []; unbroken = tt; feed = refl }
ended-body (n ∷ ns) =
    body-after (tab ∷ numeral n) (ended ns) ((λ e. omega arith), digits-unbroken (numeral n) (numeral-digits n)) (ended-body ns)

pub text-body : (l : Line) → Body (text l)
unfolding text
text-body (Gaps e m) = body-after gaps (ended (e ∷ m ∷ [])) ((λ e. omega arith), ((λ e. omega arith), ((λ e. omega arith), ((λ e. omega arith), tt)))) (ended-body (e ∷ m ∷ []))
text-body (One n) = body-after one (ended (n ∷ [])) ((λ e. omega arith), ((λ e. omega arith), ((λ e. omega arith), tt))) (ended-body (n ∷ []))
text-body (Run a b) = body-after run (ended (a ∷ b ∷ [])) ((λ e. omega arith), ((λ e. omega arith), ((λ e. omega arith), tt))) (ended-body (a ∷ b ∷ []))
text-body (End t) = body-after end (ended (t ∷ [])) ((λ e. omega arith), ((λ e. omega arith), ((λ e. omega arith), tt))) (ended-body (t ∷ []))

pub text-long : (l : Line) → 0 < length (text l)
unfolding text
text-long (Gaps e m) = omega arith
text-long (One n) = omega arith
text-long (Run a b) = omega arith
text-long (End t) = omega arith

pub text-some : (l : Line) (rest : List ℕ) → text l ++ rest ≡ [] → ⊥
text-some l rest h = omega (arith, text-long l, length-append (text l) rest, ap length h)
