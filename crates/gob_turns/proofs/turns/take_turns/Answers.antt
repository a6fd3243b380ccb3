use Rattle.std.proofs.Common.{ap}
use Rattle.gob_sched.specs.CoreValue.{CoreValue}
use Rattle.gob_turns.proofs.Whole.{begins_here, committable_over, given_over, given_up_over, is_over, left_over}
use Rattle.gob_turns.proofs.Whole.{results_over}
use Rattle.gob_turns.proofs.Pulled.{pulled_nothing}
use Rattle.gob_turns.proofs.turns.take_turns.Goals as goal

pub run-requires-clause-underway : goal.run-requires-clause-underway
run-requires-clause-underway g c =
    begins_here _ _ _ _ _ _ _ _ _ c.requires.units c.in_ok-course.ensures.begun c.requires.failed

pub returns-in_err-results-clause-told : goal.returns-in_err-results-clause-told
returns-in_err-results-clause-told g c =
    let over = is_over c.requires.units
    (ap (λ (x : CoreValue). x.rules) c.in_ok-course.ensures.begun.begins) c.in_ok-run.ensures.went
    c.in_ok-run.ensures.ended in
    (left_over over).told

pub returns-clause-told : goal.returns-clause-told
returns-clause-told g c =
    let over = is_over c.requires.units
    (ap (λ (x : CoreValue). x.rules) c.in_ok-course.ensures.begun.begins) c.in_ok-run.ensures.went
    c.in_ok-run.ensures.ended in
    (left_over over).told

pub returns-clause-whole : goal.returns-clause-whole
returns-clause-whole g c =
    let over = is_over c.requires.units
    (ap (λ (x : CoreValue). x.rules) c.in_ok-course.ensures.begun.begins) c.in_ok-run.ensures.went
    c.in_ok-run.ensures.ended in
    results_over over c.in_ok-results.ensures

pub returns-clause-committable : goal.returns-clause-committable
returns-clause-committable g c =
    let over = is_over c.requires.units
    (ap (λ (x : CoreValue). x.rules) c.in_ok-course.ensures.begun.begins) c.in_ok-run.ensures.went
    c.in_ok-run.ensures.ended in
    committable_over c.requires.units over c.in_ok-results.ensures

pub returns-clause-given : goal.returns-clause-given
returns-clause-given g c =
    let over = is_over c.requires.units
    (ap (λ (x : CoreValue). x.rules) c.in_ok-course.ensures.begun.begins) c.in_ok-run.ensures.went
    c.in_ok-run.ensures.ended in
    given_over over c.in_ok-results.ensures

pub returns-in_err-course-clause-pulled : goal.returns-in_err-course-clause-pulled
returns-in_err-course-clause-pulled g c = pulled_nothing _

pub returns-clause-given_up : goal.returns-clause-given_up
returns-clause-given_up g c =
    let over = is_over c.requires.units
    (ap (λ (x : CoreValue). x.rules) c.in_ok-course.ensures.begun.begins) c.in_ok-run.ensures.went
    c.in_ok-run.ensures.ended in
    given_up_over over c.in_ok-results.ensures
