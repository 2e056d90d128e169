-- `list_into` meets its contract: each turn stores the words of one line, by the laws of `Listing`. Assumes nothing.
use mathlib.Core.Path.{◌≡◌}
use Rattle.sheet.specs.Sheet.{editions}
use Rattle.sheet_reading.proofs.Listing.{Writing}
use Rattle.sheet_reading.proofs.list_into.Given as goal

abbrev pub invariant-loop-found : goal.invariant-loop-found
invariant-loop-found l = (l.found-iterator.sheet.now ≡ l.sheet) × Writing editions l.sheet l.initial.into l.into l.found-iterator.at l.out
