use Rattle.std.proofs.Common.{◌≡◌, ◌+◌, ◌≤◌, ◌++◌, map, length, vec_items, vec_len, vec_capacity}
use Rattle.reading.specs.Lines.{lines_left, placed}
use Rattle.reading.specs.Reading.{said}
use Rattle.reading.proofs.Telling.{InText, said_by}
use Rattle.reading.proofs.read.fill.Given as goal

-- the lines so far, and then those that are still to come, are those of the text
abbrev pub invariant-loop-line : goal.invariant-loop-line
invariant-loop-line l = record {
  next : (goal.iterator-loop-line).can_next l.line-iterator;
  ends : (goal.iterator-loop-line).is_finite l.line-iterator;
  room : 2000 ≤ vec_capacity l.lines;
  few : vec_len l.lines + length (lines_left l.line-iterator) ≤ length (placed l.text);
  inside : InText l.text (lines_left l.line-iterator);
  said : map (said l.text) (vec_items l.lines) ++ said_by (lines_left l.line-iterator) ≡ said_by (placed l.text);
}
