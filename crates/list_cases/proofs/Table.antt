-- The table holds: each question has its answer, by computing the definitions. Assumes nothing.
use Rattle.std.proofs.Common.{◌≡◌, map, refl}
use lib.Count.{ones}
use Rattle.ring.specs.Ring.{ordered, is_less, signed}
use Rattle.loss_list.specs.Run.{limit, precedes, stretch, numbers_in}
use Rattle.loss_list.specs.Compress as C
use Rattle.loss_list.specs.Compress.{later_fault, order_fault, joined, runs, range_flag, coded, cost, coded_runs, cost_of_runs, compressed, words}
use Rattle.loss_list.specs.Expand as E
use Rattle.loss_list.specs.Expand.{keep, items, items_of, expansion, total, past_limit, counted, formed, numbers_of, expanded}
use Rattle.loss_list.specs.Has.{has}
use Rattle.why_lost.specs.WhyLost as W
use Rattle.why_lost.specs.WhyLost.{first_covering, admitted}
use Rattle.merging.specs.Merging as M
use Rattle.merging.specs.Merging.{all_in_window, first_outside, put, in_order, union, ◌or_else◌, oldest_fault, own_fault, placed, outside, barred}
use Rattle.key_checks.specs.KeyChecks.{key_judged}
use Rattle.wire.specs.Bytes.{in_words}
use Rattle.wire.specs.Lent.{within}
use Rattle.packet_kinds.specs.Kinds.{location, encryption}
use Rattle.data_packet.specs.Layout.{record_of}
use Rattle.data_packet.specs.Reading.{parsed}
use Rattle.data_packet.specs.Writing.{wire_size}
use Rattle.decimal.specs.Decimal.{digits_within, numeral}
use Rattle.sheet_line.specs.Text.{ended, text}
use Rattle.sheet.specs.Sheet.{first_edition, edition, item_line, item_lines, lines, texts, sheet_of, sheet, sized}
use Rattle.list_cases.specs.Cases.{Case, answered, table}

pub table-holds : map (λ (c : Case). answered c.asked) table ≡ map (λ (c : Case). c.answer) table
unfolding ordered is_less signed limit precedes stretch numbers_in later_fault order_fault joined runs range_flag coded cost coded_runs cost_of_runs compressed words C.ordered C.judgement keep items expansion total past_limit counted formed numbers_of expanded E.judgement within in_words location encryption record_of parsed wire_size digits_within numeral ended text first_edition edition item_line item_lines lines texts sheet_of sheet sized has first_covering items_of admitted W.answered all_in_window first_outside put in_order union ◌or_else◌ oldest_fault own_fault placed outside M.past_limit barred key_judged ones
table-holds = refl
