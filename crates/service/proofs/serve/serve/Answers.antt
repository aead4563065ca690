use Rattle.service.proofs.serve.serve.Goals as goal

pub returns : goal.returns
returns g c = record {
  what_the_lines_read_print_is_written_in_their_order_and_nothing_else = record {
    rule = _;
    scale = _;
    check = _;
    over_the_table = c.over-below.ensures.it_holds_the_search_that_was_handed_over;
    served = c.serve_by.ensures.each_line_read_is_answered_in_its_order;
  };
}
