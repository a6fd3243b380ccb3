use Rattle.gob_text.proofs.Splits.{line_split}
use Rattle.gob_text.proofs.words.split_line.Goals as goal

pub returns : goal.returns
returns c = rw (c.split_at.ensures.front, c.split_at-2.ensures.back)
    (line_split c.args.text.now c.in_ok-end.end c.in_ok-end.ensures.0 c.in_ok-end.ensures.1)
