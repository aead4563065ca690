use Rattle.std.proofs.Common.{true, ◌∙◌}
use Rattle.frames.specs.Cuts.{cut}
use Rattle.frames.specs.Cutters.{cut_of}
use Rattle.frames.proofs.Cutting.{ends, goes_on, next_of_the_input, any_pieces}
use Rattle.frames.proofs.cutter.Cutter.push.Goals as goal

pub returns-then-byte-eq10-clause-the_line_that_it_ends_is_the_next_of_the_input :
    goal.returns-then-byte-eq10-clause-the_line_that_it_ends_is_the_next_of_the_input
returns-then-byte-eq10-clause-the_line_that_it_ends_is_the_next_of_the_input c =
    let old = c.args.self.now in
    let line = c.begin.new.self.held in
    next_of_the_input (cut_of old) (cut line true) c.args.byte (ends (cut_of old) c.args.byte line c.if-byte-eq10.true c.begin.ensures.the_bytes_begun)

pub returns-then-byte-eq10-clause-any_cut_into_pieces_gives_the_same_lines : goal.returns-then-byte-eq10-clause-any_cut_into_pieces_gives_the_same_lines
returns-then-byte-eq10-clause-any_cut_into_pieces_gives_the_same_lines c = any_pieces

pub returns-else-byte-eq10-clause-the_line_that_it_ends_is_the_next_of_the_input :
    goal.returns-else-byte-eq10-clause-the_line_that_it_ends_is_the_next_of_the_input
returns-else-byte-eq10-clause-the_line_that_it_ends_is_the_next_of_the_input c =
    let old = c.args.self.now in
    let line = c.begin.new.self.held in
    next_of_the_input (cut_of old) (cut_of c.hold.new.self) c.args.byte (c.hold.ensures.one_of_the_first_65_is_held ∙ goes_on (cut_of old) c.args.byte line c.if-byte-eq10.false c.begin.ensures.the_bytes_begun)

pub returns-else-byte-eq10-clause-any_cut_into_pieces_gives_the_same_lines : goal.returns-else-byte-eq10-clause-any_cut_into_pieces_gives_the_same_lines
returns-else-byte-eq10-clause-any_cut_into_pieces_gives_the_same_lines c = any_pieces
