use Rattle.std.proofs.Common.{ap, length-drop, length, arith}
use Rattle.gob_props.specs.Properties.{is_line_end}
use Rattle.gob_props.proofs.NaturalLemmas.{are_line_ends, cut_at, no_cut, some_left}
use Rattle.gob_props.proofs.lines.split_natural.Goals as goal

pub returns-in-Some-clause-lines : goal.returns-in-Some-clause-lines
returns-in-Some-clause-lines c =
    let at = c.in-Some.ensures.cases in
    let found = at.1 is_line_end are_line_ends in
    cut_at c.args.text.now c.split_at.result.0.now c.split_at.result.1.now c.after_end.result.now c.in-Some.end at.0
    c.utf8.text at.3 found.0 found.1 c.split_at.ensures.front c.split_at.ensures.back c.after_end.ensures.rest

pub returns-in-Some-clause-fewer : goal.returns-in-Some-clause-fewer
returns-in-Some-clause-fewer c =
    let at = c.in-Some.ensures.cases in
    let found = at.1 is_line_end are_line_ends in
    let some = some_left c.args.text.now c.in-Some.end at.0 found.1 in
    let back = ap length c.split_at.ensures.back in
    let shorter = c.after_end.ensures.shorter (omega (arith, some, back)) in
    omega (arith, shorter, back, length-drop c.in-Some.end c.args.text.now)

pub returns-in-None-clause-lines : goal.returns-in-None-clause-lines
returns-in-None-clause-lines c = no_cut c.args.text.now c.utf8.text (c.in-None.ensures.cases is_line_end are_line_ends)
