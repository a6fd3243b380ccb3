use Rattle.std.proofs.Common.{◌≡◌, ◌∙◌, ◌+◌, ◌-◌, ◌++◌, ◌∷◌, [], List, ℕ, map, ap, sym, arith}
use Rattle.std.specs.List.{range_with_len}
use Rattle.std.proofs.lemmas.List.FromFn.{map-range_with_len_more}
use Rattle.gob_bytes.specs.Paths.{delta_name}
use Rattle.gob_segments.proofs.change.earlier_changes.Goals as goal

pub loop-i-preserved : goal.loop-i-preserved
loop-i-preserved c =
    let job = c.args.job.now in
    let from = c.args.run + 1 - c.args.deltas in
    let run = c.args.run - c.args.deltas + 1 + c.loop-i.i in
    let same : from + c.loop-i.i ≡ run = omega arith in
    c.in_ok-push.ensures.ok
    ∙ ap (λ (ns : List (List ℕ)). ns ++ c.in_ok-name.name ∷ []) c.loop-i.invariant
    ∙ ap (λ (n : List ℕ). map (delta_name job) (range_with_len from c.loop-i.i) ++ n ∷ []) c.in_ok-name.ensures
    ∙ sym (map-range_with_len_more (delta_name job) from c.loop-i.i run same)
