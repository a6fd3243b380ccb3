use Rattle.std.proofs.Common.{◌<◌, sym, subst, arith}
use Rattle.std.proofs.lemmas.List.{get_or_read}
use Rattle.gob_turns.proofs.Answering.{on_err}
use Rattle.gob_turns.proofs.Stepping.{at_hand, fewer_here, fits_here, keeps_all, may_here, picked_of, place_within}
use Rattle.gob_turns.proofs.Stepping.{pullable_here, stands_here, stopped_here, unnoted_here, went_here}
use Rattle.gob_turns.proofs.course.Course.one_turn.Goals as goal

pub index-place-requires : goal.index-place-requires
index-place-requires g c =
    let under = c.requires.underway.1 in
    let s = c.args.self.now in
    let picked = picked_of under c.requires.picked in
    subst (λ m. c.args.number < m) (sym s.listed.ok.0) picked.within

pub bounds-units-place : goal.bounds-units-place
bounds-units-place g c =
    let under = c.requires.underway.1 in
    let s = c.args.self.now in
    let picked = picked_of under c.requires.picked in
    let x_is = get_or_read s.listed.items _ _ picked.within c.index-place.ensures 0 in
    (place_within _ _ _ _ _ _ picked x_is).0

pub index_mut-requires : goal.index_mut-requires
index_mut-requires g c =
    let under = c.requires.underway.1 in
    let s = c.args.self.now in
    let picked = picked_of under c.requires.picked in
    let x_is = get_or_read s.listed.items _ _ picked.within c.index-place.ensures 0 in
    subst (λ m. c.index-place.result.now < m) (sym s.states.ok.0) (place_within _ _ _ _ _ _ picked x_is).1

pub turn_of-requires-clause-stands : goal.turn_of-requires-clause-stands
turn_of-requires-clause-stands g c =
    let under = c.requires.underway.1 in
    let s = c.args.self.now in
    let picked = picked_of under c.requires.picked in
    let x_is = get_or_read s.listed.items _ _ picked.within c.index-place.ensures 0 in
    let hand = at_hand _ _ _ _ _ _ _ _ picked x_is c.index-units-place.is c.index_mut.ensures.value in
    stands_here under hand

pub turn_of-requires-clause-may : goal.turn_of-requires-clause-may
turn_of-requires-clause-may g c =
    let under = c.requires.underway.1 in
    let s = c.args.self.now in
    let picked = picked_of under c.requires.picked in
    let x_is = get_or_read s.listed.items _ _ picked.within c.index-place.ensures 0 in
    let hand = at_hand _ _ _ _ _ _ _ _ picked x_is c.index-units-place.is c.index_mut.ensures.value in
    may_here _ _ _ _ _ _ _ _ hand

pub turn_of-requires-clause-pullable : goal.turn_of-requires-clause-pullable
turn_of-requires-clause-pullable g c =
    let under = c.requires.underway.1 in
    let s = c.args.self.now in
    let picked = picked_of under c.requires.picked in
    let x_is = get_or_read s.listed.items _ _ picked.within c.index-place.ensures 0 in
    let hand = at_hand _ _ _ _ _ _ _ _ picked x_is c.index-units-place.is c.index_mut.ensures.value in
    pullable_here c.requires.may under hand

pub returns-in_err-step-clause-stopped : goal.returns-in_err-step-clause-stopped
returns-in_err-step-clause-stopped g c =
    let under = c.requires.underway.1 in
    let s = c.args.self.now in
    let picked = picked_of under c.requires.picked in
    let x_is = get_or_read s.listed.items _ _ picked.within c.index-place.ensures 0 in
    let hand = at_hand _ _ _ _ _ _ _ _ picked x_is c.index-units-place.is c.index_mut.ensures.value in
    on_err _ (stopped_here c.requires.may hand c.in_err-step.ensures.stopped
    c.in_err-step.ensures.keeps)

pub returns-in_err-step-clause-keeps : goal.returns-in_err-step-clause-keeps
returns-in_err-step-clause-keeps g c = keeps_all _ _ _ _ c.in_err-step.ensures.keeps

pub returns-in_err-note-clause-stopped : goal.returns-in_err-note-clause-stopped
returns-in_err-note-clause-stopped g c =
    let under = c.requires.underway.1 in
    let s = c.args.self.now in
    let picked = picked_of under c.requires.picked in
    let x_is = get_or_read s.listed.items _ _ picked.within c.index-place.ensures 0 in
    let hand = at_hand _ _ _ _ _ _ _ _ picked x_is c.index-units-place.is c.index_mut.ensures.value in
    on_err _ (unnoted_here c.requires.may hand c.in_ok-step.ensures.turned
    c.in_ok-step.ensures.keeps c.in_err-note.ensures.err.0 c.in_err-note.ensures.err.1)

pub returns-in_err-note-clause-keeps : goal.returns-in_err-note-clause-keeps
returns-in_err-note-clause-keeps g c = keeps_all _ _ _ _ c.in_ok-step.ensures.keeps

pub overflow_add-self : goal.overflow_add-self
overflow_add-self g c =
    let under = c.requires.underway.1 in
    let s = c.args.self.now in
    let picked = picked_of under c.requires.picked in
    let x_is = get_or_read s.listed.items _ _ picked.within c.index-place.ensures 0 in
    let hand = at_hand _ _ _ _ _ _ _ _ picked x_is c.index-units-place.is c.index_mut.ensures.value in
    let fewer = fewer_here hand c.in_ok-step.ensures.turned in
    let fits = fits_here under fewer in
    omega (arith, fits)

pub end_turn-requires : goal.end_turn-requires
end_turn-requires g c =
    let under = c.requires.underway.1 in
    let s = c.args.self.now in
    let picked = picked_of under c.requires.picked in
    picked.active

pub returns-clause-went : goal.returns-clause-went
returns-clause-went g c =
    let under = c.requires.underway.1 in
    let s = c.args.self.now in
    let picked = picked_of under c.requires.picked in
    let x_is = get_or_read s.listed.items _ _ picked.within c.index-place.ensures 0 in
    let hand = at_hand _ _ _ _ _ _ _ _ picked x_is c.index-units-place.is c.index_mut.ensures.value in
    λ first now. went_here first _ _ c.requires.may hand
    c.in_ok-step.ensures.turned c.in_ok-step.ensures.keeps c.end_turn.ensures c.in_ok-note.ensures.ok now

pub returns-clause-fewer : goal.returns-clause-fewer
returns-clause-fewer g c =
    let under = c.requires.underway.1 in
    let s = c.args.self.now in
    let picked = picked_of under c.requires.picked in
    let x_is = get_or_read s.listed.items _ _ picked.within c.index-place.ensures 0 in
    let hand = at_hand _ _ _ _ _ _ _ _ picked x_is c.index-units-place.is c.index_mut.ensures.value in
    fewer_here hand c.in_ok-step.ensures.turned

pub returns-clause-keeps : goal.returns-clause-keeps
returns-clause-keeps g c = keeps_all _ _ _ _ c.in_ok-step.ensures.keeps
