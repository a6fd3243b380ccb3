use Rattle.std.proofs.Common.{◌≡◌, ◌++◌, ◌∷◌, [], ap, ◌∙◌}
use Rattle.gob_volume.specs.Calls.{trail_of}
use Rattle.gob_volume.proofs.Trails.{replayed-more, trail-more}
use Rattle.gob_volume.proofs.store.Store.apply.Goals as goal

pub invariant_of-self-2 : goal.invariant_of-self-2
invariant_of-self-2 c =
    let old = c.args.self.now in
    let listed : c.list.new.calls.items ≡ old.calls.items ++ c.args.call ∷ [] = c.list.ensures
    ∙ ap (λ cs. cs ++ c.args.call ∷ []) c.make_room.ensures.calls in
    record { replayed = rw listed (replayed-more c.args.call old.replayed c.in_ok-apply.ensures.ok) }

pub returns-clause-ok : goal.returns-clause-ok
returns-clause-ok c =
    let old = c.args.self.now in
    let listed : c.list.new.calls.items ≡ old.calls.items ++ c.args.call ∷ [] = c.list.ensures
    ∙ ap (λ cs. cs ++ c.args.call ∷ []) c.make_room.ensures.calls in
    let trail = ap (λ cs. trail_of cs old.since) listed ∙ trail-more c.args.call old.replayed in
    λ i. record { files = c.in_ok-apply.ensures.ok i; trail = trail i }
