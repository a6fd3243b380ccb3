use Rattle.std.proofs.Common.{◌++◌, ap, ◌∙◌, rules}
use Rattle.gob_report.proofs.Pieces.{line_pushed}
use Rattle.gob_report.proofs.lines.push_line.Goals as goal

pub returns : goal.returns
returns c =
    line_pushed c.args.into.now.items _ _ _ c.args.first.now c.args.others.now
    (c.in_ok-extend_from_slice.ensures.items ∙ ap (λ t. c.args.into.now.items ++ t) (search rules))
    c.in_ok-push_words.ensures c.in_ok-push.ensures.items
