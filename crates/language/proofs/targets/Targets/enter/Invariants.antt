use Rattle.std.proofs.Common.{◌≡◌, ◌+◌, ◌≤◌, length, map}
use Rattle.std.specs.Iterator.Adapters.{zip_first, zip_second}
use Rattle.std.specs.Slice.Iter.{iter_rest}
use Rattle.reading.specs.Reading.{said, held_text, held_lines}
use Rattle.language.specs.Indexing.{room_of, rooms_of, enter_lines, enter_all, SameRooms}
use Rattle.language.proofs.targets.Targets.enter.Given as goal

-- what is left to enter leads to what there is to enter
abbrev pub invariant-loop-held : goal.invariant-loop-held
invariant-loop-held l =
    let rest = map (said (held_text l.program)) (iter_rest (zip_first l.held-iterator)) in
    let number = (zip_second l.held-iterator).start in
    record {
      few : number + length rest ≤ 2001;
      left : enter_lines number rest (rooms_of l.self) ≡ enter_all (held_lines l.program) (room_of l.initial.self.numbers) (room_of l.initial.self.labels);
      same : SameRooms l.initial.self l.self;
    }
