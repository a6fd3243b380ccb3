use Rattle.std.proofs.Common.{map, string_bytes}
use Rattle.gob_top.specs.Made.{told_of, told_when_done}
use Rattle.gob_top.proofs.Telling.{answered_more}
use Rattle.gob_top.proofs.top.gobblin.Goals as goal

pub returns-clause-answered : goal.returns-clause-answered
returns-clause-answered g c = (
  told_of c.answer-told.result,
  answered_more (map string_bytes c.args.words.now) _ _ (told_when_done c.do_command-done.result) _
      c.do_command-done.ensures c.answer-told.ensures,
  c.deliver.ensures.delivered,
)
