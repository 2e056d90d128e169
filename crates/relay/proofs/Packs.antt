-- An answer about lists packed into one number: the count, or why a number is lost, or the refusal above what it carries. Assumes nothing.
use Rattle.std.specs.Prelude.{Option, None, Some, Result, Ok, Err}
use mathlib.Core.Path.{◌≡◌, sym, ap, ◌∙◌}
use mathlib.Core.List.{List}
use Prim.Native.Nat.{ℕ}
use lib.ListN.{length}
use Rattle.refusal.specs.declared.Refusal.{Refusal}
use Rattle.answer.specs.Packed.{packed_low, packed_size, packed_size_low}
use Rattle.answer.proofs.Halves.{packed-whole, packed_size-whole}
use Rattle.loss_list.specs.InBytes.{compressing_bytes, after_compressing_bytes, CompressesBytes, expanding_bytes, after_expanding_bytes, ExpandsBytes}
use Rattle.loss_list.proofs.Bounded.{compressing-bytes-small, expanding-bytes-small}
use Rattle.wire.specs.Bytes.{in_words}
use Rattle.merging.specs.Merging.{union, merging_bytes, after_merging_bytes, MergesBytes}
use Rattle.merging.proofs.Bounded.{merging-bytes-small}
use Rattle.why_lost.specs.WhyLost.{why_lost_bytes}
use Rattle.why_lost.proofs.Bounded.{lost-bytes-small}
use Rattle.relay.specs.Lists.{Compresses, Expands}
use Rattle.relay.specs.Lost.{packed_lost, not_lost}
use Rattle.relay.specs.Merged.{Merges}

-- what is carried fits 32 bits, so that cutting it to them leaves each answer whole
module _ (bs : List ℕ) (room : ℕ) where
  pub compressed_whole : packed_size_low (compressing_bytes bs room) ≡ packed_size (compressing_bytes bs room)
  compressed_whole = packed_size-whole _ (λ r e. compressing-bytes-small bs room (sym e))

  pub expanded_whole : packed_size_low (expanding_bytes bs room) ≡ packed_size (expanding_bytes bs room)
  expanded_whole = packed_size-whole _ (λ r e. expanding-bytes-small bs room (sym e))

pub merged_whole : (o : ℕ) (bs cs : List ℕ) (room : ℕ) → packed_size_low (merging_bytes o bs cs room) ≡ packed_size (merging_bytes o bs cs room)
merged_whole o bs cs room = packed_size-whole _ (λ r e. merging-bytes-small o bs cs room (sym e))

module _ {bs held : List ℕ} {a : Result ℕ Refusal} {left : List ℕ} {p : ℕ} where
  pub packs_compressed : CompressesBytes bs held a left → p ≡ packed_size_low a → Compresses bs held p left
  packs_compressed h q =
      record {
        answer = q ∙ ap packed_size_low h.answer ∙ compressed_whole bs (length held);
        leaves = h.leaves ∙ ap (λ (x : Result ℕ Refusal). after_compressing_bytes x bs held) h.answer;
      }

  pub packs_expanded : ExpandsBytes bs held a left → p ≡ packed_size_low a → Expands bs held p left
  packs_expanded h q =
      record {
        answer = q ∙ ap packed_size_low h.answer ∙ expanded_whole bs (length held);
        leaves = h.leaves ∙ ap (λ (x : Result ℕ Refusal). after_expanding_bytes x bs held) h.answer;
      }

pub packs_merged : {o : ℕ} {bs cs held : List ℕ} {a : Result ℕ Refusal} {left : List ℕ} {p : ℕ} → MergesBytes o bs cs held a left → p ≡ packed_size_low a → Merges o bs cs held p left
packs_merged {o} {bs} {cs} {held} h q =
    record {
      answer = q ∙ ap packed_size_low h.answer ∙ merged_whole o bs cs (length held);
      leaves = h.leaves ∙ ap (λ (x : Result ℕ Refusal). after_merging_bytes x (union o (in_words bs) (in_words cs)) held) h.answer;
    }

module _ (bs : List ℕ) (n : ℕ) {a : Result (Option ℕ) Refusal} (h : a ≡ why_lost_bytes bs n) where
  pub packs-lost : {p : ℕ} → a ≡ Ok (Some p) → p ≡ packed_lost (why_lost_bytes bs n)
  unfolding packed_lost
  packs-lost e = ap packed_lost (sym e ∙ h)

  pub packs-not-lost : a ≡ Ok None → not_lost ≡ packed_lost (why_lost_bytes bs n)
  unfolding packed_lost
  packs-not-lost e = ap packed_lost (sym e ∙ h)

  pub packs-unanswered : {r : Refusal} {p : ℕ} → a ≡ Err r → p ≡ packed_low r → p ≡ packed_lost (why_lost_bytes bs n)
  unfolding packed_lost
  packs-unanswered {r} e q =
      let given = sym e ∙ h in
      q ∙ packed-whole r (lost-bytes-small bs n (sym given)) ∙ ap packed_lost given
