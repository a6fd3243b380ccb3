use Rattle.std.proofs.Common.{◌++◌, ap, ◌∙◌, rules}
use Rattle.gob_report.proofs.Pieces.{long_line_pushed}
use Rattle.gob_report.proofs.lines.push_long_line.Goals as goal

pub returns : goal.returns
returns c =
    long_line_pushed c.args.into.now.items _ _ _ _ c.args.first.now c.args.others.now c.args.last.now
    (c.in_ok-extend_from_slice.ensures.items ∙ ap (λ t. c.args.into.now.items ++ t) (search rules))
    c.in_ok-push_words.ensures c.in_ok-push_words-2.ensures c.in_ok-push.ensures.items
