-- A line is read in one way: a byte that is no digit follows each number, and the four words differ in their first byte.
-- Assumes nothing.
use mathlib.Core.Path.{◌≡◌, refl, sym, ap, ◌∙◌}
use mathlib.Core.Bool.{false}
use mathlib.Core.List.{List, [], ◌∷◌, ◌++◌, append_assoc}
use Prim.Native.Nat.{ℕ}
use native.Mathlib.Omega.{arith}
use lib.ListN.{length, get_or}
use Rattle.wire.specs.Bytes.{byte_at}
use Rattle.decimal.specs.Decimal.{is_digit, numeral}
use Rattle.decimal.proofs.Decimals.{begins-once}
use Rattle.sheet_line.specs.Text.{tab, line_feed, gaps, one, run, end, ended, text}
use Rattle.sheet_line.specs.declared.Line.{Line}
use Rattle.sheet_line.specs.declared.Line.TheVariants.{Gaps, One, Run, End}

-- what follows a number is no digit
pub ended-first : (ns r : List ℕ) → is_digit (byte_at (ended ns ++ r) 0) ≡ false
unfolding ended
ended-first [] r = refl
ended-first (n ∷ ns) r = refl

pub ended-more : (n : ℕ) (ns r : List ℕ) → ended (n ∷ ns) ++ r ≡ tab ∷ (numeral n ++ (ended ns ++ r))
unfolding ended
ended-more n ns r = ap (λ (l : List ℕ). tab ∷ l) (append_assoc (numeral n) (ended ns) r)

pub ended-none : (r : List ℕ) → ended [] ++ r ≡ line_feed ∷ r
unfolding ended
ended-none r = refl

-- the numbers of a line are read in one way
pub ended-once : (ns ms : List ℕ) {r r' : List ℕ} → ended ns ++ r ≡ ended ms ++ r' → (ns ≡ ms) × (r ≡ r')
ended-once [] [] {r} {r'} e =
    let same : ◌∷◌ line_feed r ≡ line_feed ∷ r' = sym (ended-none r) ∙ e ∙ ended-none r' in
    (refl, cc)
ended-once [] (m ∷ ms) {r} {r'} e =
    let same : ◌∷◌ line_feed r ≡ tab ∷ (numeral m ++ (ended ms ++ r')) = sym (ended-none r) ∙ e ∙ ended-more m ms r' in
    absurd (let z : line_feed ≡ tab = cc in omega arith)
ended-once (n ∷ ns) [] {r} {r'} e =
    let same : ◌∷◌ tab (numeral n ++ (ended ns ++ r)) ≡ line_feed ∷ r' = sym (ended-more n ns r) ∙ e ∙ ended-none r' in
    absurd (let z : tab ≡ line_feed = cc in omega arith)
ended-once (n ∷ ns) (m ∷ ms) {r} {r'} e =
    let same : ◌∷◌ tab (numeral n ++ (ended ns ++ r)) ≡ tab ∷ (numeral m ++ (ended ms ++ r')) = sym (ended-more n ns r) ∙ e ∙ ended-more m ms r' in
    let after : numeral n ++ (ended ns ++ r) ≡ numeral m ++ (ended ms ++ r') = cc in
    let number = begins-once (record { text = refl; ends = ended-first ns r }) (record { text = after; ends = ended-first ms r' }) in
    let rest = ended-once ns ms number.1 in
    ((λ i. number.0 i ∷ rest.0 i), rest.1)

-- a line's word and its numbers
abbrev pub word : Line → List ℕ
word (Gaps n m) = gaps
word (One n) = one
word (Run n m) = run
word (End n) = end

abbrev pub numbers : Line → List ℕ
numbers (Gaps n m) = n ∷ m ∷ []
numbers (One n) = n ∷ []
numbers (Run n m) = n ∷ m ∷ []
numbers (End n) = n ∷ []

pub text-is : (l : Line) → text l ≡ word l ++ ended (numbers l)
unfolding text
text-is (Gaps n m) = refl
text-is (One n) = refl
text-is (Run n m) = refl
text-is (End n) = refl

-- lines of one word have as many numbers, which tell them apart
pub record Alike (l k : Line) : Type 0 where
  pub many : length (numbers l) ≡ length (numbers k)
  pub told_apart : numbers l ≡ numbers k → l ≡ k

-- what begins with a line's word is a line of that word, since the words differ in their first byte
pub word-once : (l k : Line) {x : List ℕ} (rest : List ℕ) → word l ++ x ≡ text k ++ rest → Alike l k × (x ≡ ended (numbers k) ++ rest)
unfolding text
word-once (Gaps n m) (Gaps n' m') rest e = (record { many = refl; told_apart = λ q. ap (λ (ns : List ℕ). Gaps (get_or ns 0 0) (get_or ns 1 0)) q }, cc)
word-once (Gaps n m) (One n') rest e = absurd (let z : ◌≡◌ {A = ℕ} 103 111 = cc in omega arith)
word-once (Gaps n m) (Run n' m') rest e = absurd (let z : ◌≡◌ {A = ℕ} 103 114 = cc in omega arith)
word-once (Gaps n m) (End n') rest e = absurd (let z : ◌≡◌ {A = ℕ} 103 101 = cc in omega arith)
word-once (One n) (Gaps n' m') rest e = absurd (let z : ◌≡◌ {A = ℕ} 111 103 = cc in omega arith)
word-once (One n) (One n') rest e = (record { many = refl; told_apart = λ q. ap (λ (ns : List ℕ). One (get_or ns 0 0)) q }, cc)
word-once (One n) (Run n' m') rest e = absurd (let z : ◌≡◌ {A = ℕ} 111 114 = cc in omega arith)
word-once (One n) (End n') rest e = absurd (let z : ◌≡◌ {A = ℕ} 111 101 = cc in omega arith)
word-once (Run n m) (Gaps n' m') rest e = absurd (let z : ◌≡◌ {A = ℕ} 114 103 = cc in omega arith)
word-once (Run n m) (One n') rest e = absurd (let z : ◌≡◌ {A = ℕ} 114 111 = cc in omega arith)
word-once (Run n m) (Run n' m') rest e = (record { many = refl; told_apart = λ q. ap (λ (ns : List ℕ). Run (get_or ns 0 0) (get_or ns 1 0)) q }, cc)
word-once (Run n m) (End n') rest e = absurd (let z : ◌≡◌ {A = ℕ} 114 101 = cc in omega arith)
word-once (End n) (Gaps n' m') rest e = absurd (let z : ◌≡◌ {A = ℕ} 101 103 = cc in omega arith)
word-once (End n) (One n') rest e = absurd (let z : ◌≡◌ {A = ℕ} 101 111 = cc in omega arith)
word-once (End n) (Run n' m') rest e = absurd (let z : ◌≡◌ {A = ℕ} 101 114 = cc in omega arith)
word-once (End n) (End n') rest e = (record { many = refl; told_apart = λ q. ap (λ (ns : List ℕ). End (get_or ns 0 0)) q }, cc)

-- so a line is read in one way
pub text-once : (l k : Line) {r r' : List ℕ} → text l ++ r ≡ text k ++ r' → (l ≡ k) × (r ≡ r')
text-once l k {r} {r'} e =
    let alike = word-once l k r' (sym (append_assoc (word l) (ended (numbers l)) r) ∙ ap (λ (t : List ℕ). t ++ r) (sym (text-is l)) ∙ e) in
    let once = ended-once (numbers l) (numbers k) alike.1 in
    (alike.0.told_apart once.0, once.1)
