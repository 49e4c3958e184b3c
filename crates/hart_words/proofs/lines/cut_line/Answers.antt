use Rattle.hart_words.proofs.FirstLine.{first_and_rest, line_fits, less_is_left}
use Rattle.hart_words.proofs.lines.cut_line.Goals as goal

pub returns-clause-lines : goal.returns-clause-lines
returns-clause-lines c = first_and_rest c.args.text.now _ _ c.cut_at.ensures

pub returns-clause-fits : goal.returns-clause-fits
returns-clause-fits c = line_fits c.args.text.now _ _ c.cut_at.ensures

pub returns-clause-less : goal.returns-clause-less
returns-clause-less c = less_is_left c.args.text.now _ _ c.cut_at.ensures
