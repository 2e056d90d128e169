-- The checks in their order: each that passes leaves those after it, and the last leaves two lists that are ready to be walked. Assumes nothing.
use Rattle.std.specs.Prelude.{Result, Ok, Err}
use Rattle.std.specs.Result.{IsErrAnd}
use Rattle.std.proofs.lemmas.Result.{err_from_is_err_and}
use mathlib.Core.Path.{◌≡◌, sym, ap, ◌∙◌}
use mathlib.Core.Bool.{Bool}
use mathlib.Core.List.{List}
use mathlib.Core.Option.{Option, none, some}
use Prim.Native.Nat.{ℕ, ◌^◌, ◌<◌, ◌≤◌}
use borrow.Author.Tests.{lt-ltb, le-ltb, lt-leb}
use lib.ListN.{length}
use Rattle.refusal.specs.declared.Refusal.{Refusal}
use Rattle.refusal.specs.declared.Refusal.TheVariants.{TooManyNumbers}
use Rattle.loss_list.specs.Run.{limit}
use Rattle.loss_list.specs.Compress.{words}
use Rattle.loss_list.specs.Expand.{items, expanded}
use Rattle.loss_list.specs.Walk.{IsSound}
use Rattle.loss_list.proofs.Has.{numbers_of_lem}
use Rattle.merging.specs.Merging.{union, ◌or_else◌, oldest_fault, own_fault, outside, past_limit, barred}
use Rattle.merging.specs.Steps.{picks}
use Rattle.merge.specs.Walk.{at_first, Sees, Stands, Whole, Ready}
use Rattle.merge.specs.Check.{Judges, Admits, AdmitsAll}
use Rattle.merge.specs.declared.check.Checked.{Checked}

-- what a `?` hands on is the error that it was given
pub handed_on : {A : Type 0} {q : Refusal} (r : Result A Refusal) → IsErrAnd r (λ e. e ≡ q) → r ≡ Err q
handed_on r h = let y = err_from_is_err_and r h in y.1 ∙ ap Err y.2

pub admits-refused : (why : Option Refusal) (o : ℕ) (ws vs : List ℕ) {q : Refusal} → why ≡ some q → Admits why o ws vs (Err q)
unfolding Admits
admits-refused why o ws vs e = e

-- a list that was looked at
module _ (o : ℕ) (ws : List ℕ) where
  outside-seen : (q : Refusal) → Sees o ws (Err q) → outside o ws ≡ some q
  unfolding Sees
  outside-seen q e = e

  module _ (ordered : Bool) (s : Sees o ws (Ok ordered)) where
    inside-seen : outside o ws ≡ none
    unfolding Sees
    inside-seen = s.0

    whole-seen : IsSound (items 0 ws) → Whole o ws
    unfolding Sees
    whole-seen x = record { sound = x; fits = s.1 }

    stands-seen : IsSound (items 0 ws) → Stands o ws 0 (at_first ordered)
    unfolding Sees expanded
    stands-seen x =
        record { sound = x; fits = s.1; in-turn = s.2; same = λ d k l. ap (λ (ns : List ℕ). picks o ns d) (sym (numbers_of_lem (items 0 ws))) }

-- the oldest and the lists' own refusals pass
module _ (o : ℕ) (one other : Result ℕ Refusal) (ws vs : List ℕ) (h : o < 2 ^ 31) {m n : ℕ} (e : one ≡ Ok m) (f : other ≡ Ok n) where
  own-passed : barred o one other ws vs ≡ outside o ws or_else outside o vs or_else past_limit (union o ws vs)
  unfolding barred oldest_fault own_fault ◌or_else◌
  own-passed = rw (lt-leb (2 ^ 31) o h, e, f)

  -- the window of the first
  pub outside-first : (q : Refusal) → Sees o ws (Err q) → AdmitsAll o one other ws vs (Err q)
  unfolding Admits ◌or_else◌
  outside-first q s = own-passed ∙ rw (outside-seen o ws q s)

  module _ (left : Bool) (s : Sees o ws (Ok left)) where
    -- and of the second
    pub outside-second : (q : Refusal) → Sees o vs (Err q) → AdmitsAll o one other ws vs (Err q)
    unfolding Admits ◌or_else◌
    outside-second q t = own-passed ∙ rw (inside-seen o ws left s, outside-seen o vs q t)

    module _ (right : Bool) (t : Sees o vs (Ok right)) where
      pub ready-both : Judges ws one → Judges vs other → Ready o ws vs left right
      ready-both x y =
          let first = x.sound m e in
          let second = y.sound n f in
          record {
            oldest = h;
            first-words = x.words;
            second-words = y.words;
            first-inside = inside-seen o ws left s;
            second-inside = inside-seen o vs right t;
            whole-first = whole-seen o ws left s first;
            whole-second = whole-seen o vs right t second;
            first = stands-seen o ws left s first;
            second = stands-seen o vs right t second;
          }

      -- and the limit
      limit-left : barred o one other ws vs ≡ past_limit (union o ws vs)
      unfolding ◌or_else◌
      limit-left = own-passed ∙ rw (inside-seen o ws left s, inside-seen o vs right t)

      pub limit-passed : limit < length (union o ws vs) → AdmitsAll o one other ws vs (Err (TooManyNumbers 0))
      unfolding Admits past_limit
      limit-passed l = limit-left ∙ simp (lt-ltb limit (length (union o ws vs)) l)

      pub limit-kept : (r : Checked) → length (union o ws vs) ≤ limit → Ready o ws vs r.left r.right → r.words ≡ words (union o ws vs) → AdmitsAll o one other ws vs (Ok r)
      unfolding Admits past_limit
      limit-kept r l y w = (limit-left ∙ simp (le-ltb limit (length (union o ws vs)) l), y, w)
