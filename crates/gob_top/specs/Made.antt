-- What is told of a command in code: of its report, of what stopped it, and where no memory is left.
use Rattle.std.specs.declared.result.Result.{Result}
use Rattle.std.specs.declared.result.Result.TheVariants.{Ok, Err}
use Rattle.gob_plan.specs.declared.faults.NoMemory.{NoMemory}
use Rattle.gob_report.specs.Refusals.{told_as}
use Rattle.gob_texts.specs.Refusals as texts
use Rattle.gob_top.specs.Answers.{Told, refusal_told}
use Rattle.gob_top.specs.declared.answer.Report.{Report}
use Rattle.gob_top.specs.declared.stopped.Stopped.{Stopped}

abbrev pub told_of : Result Report NoMemory → Told
told_of (Ok report) = (report.status, report.text)
told_of (Err none) = refusal_told texts.memory

abbrev pub told_when_done : Result Report Stopped → Told
told_when_done (Ok report) = (report.status, report.text)
told_when_done (Err stopped) = refusal_told (told_as stopped.refusal)
