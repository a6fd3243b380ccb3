use Rattle.std.proofs.Common.{refl}
use Rattle.gob_task.specs.Turn.{Devices}
use Rattle.gob_turns.specs.OneTurn.{devices}
use Rattle.gob_turns.proofs.Answering.{has_turned, keeps_taken, on_err, stopped_told, taken_told, task_here}
use Rattle.gob_turns.proofs.Answering.{task_there, whole_then}
use Rattle.gob_turns.proofs.turn.turn_of.Goals as goal

pub turn-requires-clause-there : goal.turn-requires-clause-there
turn-requires-clause-there g c =
    let here = task_here _ _ _ _ _ _ _ _ _ c.requires.stands c.replace-was.ensures.value c.in_ok-task.ensures
    c.deref_mut.ensures.value in
    task_there _ _ _ _ _ _ here.is

pub returns-in_err-turn-clause-stopped : goal.returns-in_err-turn-clause-stopped
returns-in_err-turn-clause-stopped g c =
    let here = task_here _ _ _ _ _ _ _ _ _ c.requires.stands c.replace-was.ensures.value c.in_ok-task.ensures
    c.deref_mut.ensures.value in
    on_err _ (stopped_told _ _ _ _ _ _ _ _ c.requires.some here c.in_err-turn.ensures.turn.answered)

pub progress_after-requires-clause-whole : goal.progress_after-requires-clause-whole
progress_after-requires-clause-whole g c =
    let here = task_here _ _ _ _ _ _ _ _ _ c.requires.stands c.replace-was.ensures.value c.in_ok-task.ensures
    c.deref_mut.ensures.value in
    whole_then _ _ _ _ _ _ _ _ here.is c.in_ok-turn.ensures.turn.answered

pub returns-in_err-progress-clause-stopped : goal.returns-in_err-progress-clause-stopped
returns-in_err-progress-clause-stopped g c =
    let here = task_here _ _ _ _ _ _ _ _ _ c.requires.stands c.replace-was.ensures.value c.in_ok-task.ensures
    c.deref_mut.ensures.value in
    let new : Devices = devices (g.S.Source.supply c.turn.new.source) (g.S.Source.faults c.turn.new.source)
    (g.S.Source.plan_faults c.turn.new.source) (g.V.Volume.disk c.progress_after.new.volume)
    (g.V.Volume.faults c.progress_after.new.volume) in
    on_err _ (taken_told _ _ _ _ _ _ _ _ _ new c.requires.some here c.in_ok-turn.ensures.turn.answered refl)

pub returns-in_err-progress-clause-keeps : goal.returns-in_err-progress-clause-keeps
returns-in_err-progress-clause-keeps g c =
    let here = task_here _ _ _ _ _ _ _ _ _ c.requires.stands c.replace-was.ensures.value c.in_ok-task.ensures
    c.deref_mut.ensures.value in
    keeps_taken here c.in_ok-turn.ensures.turn c.progress_after.ensures.still
    c.progress_after.ensures.below refl refl refl c.progress_after.ensures.cause.later

pub returns-clause-turned : goal.returns-clause-turned
returns-clause-turned g c =
    let here = task_here _ _ _ _ _ _ _ _ _ c.requires.stands c.replace-was.ensures.value c.in_ok-task.ensures
    c.deref_mut.ensures.value in
    has_turned c.requires.some c.requires.stands here c.in_ok-turn.ensures.turn.answered
    c.in_ok-progress.ensures.stands refl refl c.has_failed.ensures c.has_ended.ensures

pub returns-clause-keeps : goal.returns-clause-keeps
returns-clause-keeps g c =
    let here = task_here _ _ _ _ _ _ _ _ _ c.requires.stands c.replace-was.ensures.value c.in_ok-task.ensures
    c.deref_mut.ensures.value in
    keeps_taken here c.in_ok-turn.ensures.turn c.progress_after.ensures.still
    c.progress_after.ensures.below refl refl refl c.progress_after.ensures.cause.later
